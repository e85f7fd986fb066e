-- The sum by which a scan over cells of pair form knows where terms end: due + arity − 1 at each cell.
--
-- A scan over m terms is begun with m, the terms still due. Each cell is the first of a term that is due, and its
-- arguments become due in that term's place. So the sum is 0 behind the last cell of the m terms and never before it.
-- Behind the i-th term it falls to m − i for the first time, so one scan with one number finds where each of them ends.
-- Code that counts what is due calls `due_after`, which is `due_after`. What is said of the sum is said here, for every
-- arity rule, and proved in proofs/DueLaws.antt.
use Rattle.std.specs.Prelude.{ℕ, ◌+◌, ◌*◌, ◌-◌, ◌^◌, ◌≤◌, ◌<◌, List, [], ◌∷◌, true, ◌≡◌, length, take, get_or}
use Rattle.forms.specs.declared.Shape.{Shape}
use Rattle.forms.specs.declared.Shape.TheVariants.{Symbol, Pair, Illegal}
use Rattle.forms.specs.Cells.{shape_of, arity_of}
use Rattle.forms.specs.Terms.{pairs, every, reads, are_terms}

-- the arity of a cell: a functor's own, 2 of a pair, 0 of a constant and of a variable
unfoldable pub arguments : Shape → ℕ
arguments (Symbol k) = k
arguments Pair = 2
arguments Illegal = 0

-- due + arity − 1
abbrev pub due_after : ℕ → ℕ → ℕ
due_after due k = due + k - 1

-- the sum after these cells, begun with `due`
unfoldable pub due_of : (ℕ → ℕ) → ℕ → List ℕ → ℕ
due_of arity due [] = due
due_of arity due (c ∷ cs) = due_of arity (due_after due (arguments (shape_of arity c))) cs

-- ---- what is said of it

-- each cell is legal by itself
abbrev pub LegalCells : (ℕ → ℕ) → List ℕ → Type 0
LegalCells arity cs = (k : ℕ) → k < length cs → shape_of arity (get_or cs k 0) ≡ Illegal → ⊥

-- begun with m, the sum is 0 after the last cell and never after an earlier one; with m = 0 there is no cell
pub record EndsAtLast (arity : ℕ → ℕ) (m : ℕ) (cs : List ℕ) : Type 0 where
  pub last : due_of arity m cs ≡ 0
  pub earlier : (k : ℕ) → k < length cs → 0 < due_of arity m (take k cs)

module _ (arity : ℕ → ℕ) where
  -- so it is where m legal terms stand one after another, and nothing else
  abbrev pub TermsEnd : Type 0
  TermsEnd = (m : ℕ) (cs : List ℕ) → are_terms arity m cs ≡ true → LegalCells arity cs × EndsAtLast arity m cs

  -- and nowhere else
  abbrev pub OnlyTerms : Type 0
  OnlyTerms = (m : ℕ) (cs : List ℕ) → LegalCells arity cs → EndsAtLast arity m cs → are_terms arity m cs ≡ true

  -- n is how many cells the first i of the terms have that stand at the start of the cells, whatever follows them:
  -- the sum begun with m is m − i after n cells, and above that after fewer
  abbrev pub EachEnd : Type 0
  EachEnd = (m i n : ℕ) (cs : List ℕ) → i ≤ m → i ≤ length (reads (shape_of arity) cs)
      → n ≡ length (every pairs (take i (reads (shape_of arity) cs)))
      → (due_of arity m (take n cs) ≡ m - i) × ((k : ℕ) → k < n → m - i < due_of arity m (take k cs))

  -- with arities up to 255 a cell adds 254 at most, on any cells
  abbrev pub DueBound : Type 0
  DueBound = ((p : ℕ) → arity p ≤ 255) → (m : ℕ) (cs : List ℕ) → due_of arity m cs ≤ m + 254 * length cs

-- so in every edition 32 bits hold the sum of up to 32 terms of up to 256 cells together
abbrev pub DueFits : Type 0
DueFits = (e m : ℕ) (cs : List ℕ) → m ≤ 32 → length cs ≤ 256
    → (due_of (arity_of e) m cs ≤ 32 + 254 * 256) × (due_of (arity_of e) m cs < 2 ^ 32)
