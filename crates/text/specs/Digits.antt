-- Numbers and cells as digits, and bytes put into a text.
use Rattle.std.specs.Prelude.{ℕ, suc, zero, ◌+◌, ◌-◌, ◌/◌, ◌%◌, ◌<◌, ◌&&◌, List, [], ◌∷◌, ◌++◌, ◌≡◌, ltb, eqb, length}
use Rattle.std.proofs.lemmas.List.Edits.{sets}
use Rattle.basis.specs.Choice.{pick}
use Rattle.text.specs.Fields.{space, decimal, hexadecimal, cell_digits}

-- a digit's byte: 48 is 0, and 87 more than ten is a
abbrev pub digit_text : ℕ → ℕ
digit_text d = pick (ltb d 10) (48 + d) (87 + d)

-- a number's digits in a base before others: at least so many as the width, at most so many as the steps
unfoldable pub digits_before : ℕ → ℕ → ℕ → ℕ → List ℕ → List ℕ
digits_before base zero width n rest = rest
digits_before base (suc steps) width n rest =
    let more = digits_before base steps (width - 1) (n / base) (digit_text (n % base) ∷ rest) in
    pick (eqb n 0 && eqb width 0) rest more

-- no 32-bit number has over ten digits
abbrev pub digits : ℕ → ℕ → ℕ → List ℕ
digits base width n = digits_before base 10 width n []

abbrev pub decimal_text : ℕ → List ℕ
decimal_text n = digits decimal 1 n

-- 8 hexadecimal digits
abbrev pub cell_text : ℕ → List ℕ
cell_text c = digits hexadecimal cell_digits c

-- each cell behind a space
unfoldable pub cell_texts : List ℕ → List ℕ
cell_texts [] = []
cell_texts (c ∷ cs) = space ∷ (cell_text c ++ cell_texts cs)

-- a word and a number behind a space
abbrev pub word_and_number : List ℕ → ℕ → List ℕ
word_and_number word n = word ++ (space ∷ decimal_text n)

-- bytes put at a place of a text, and the place behind them, which is still within the text
abbrev pub Puts : ℕ → List ℕ → List ℕ → ℕ → List ℕ → Type 0
Puts i bytes text next after = (next ≡ i + length bytes) × (after ≡ sets text i bytes) × (next < length text)
