-- What a line of a session means: one of the eight calls with its fields, or nothing (bad).
use Rattle.std.specs.Prelude.{ℕ, List, [], ◌∷◌, leb, length}
use Rattle.basis.specs.Choice.{pick}
use Rattle.forms.specs.Compact.{same}
use Rattle.plain.specs.Requests.{Request, call, answer, finish, next, load, instance, counts, why}
use Rattle.text.specs.Letters.{letters}
use Rattle.text.specs.Fields.{Number, no_number, some_number, Cells, no_cells, some_cells}
use Rattle.text.specs.Fields.{Fields, fields, first_number, behind, hex_cells, only_number}

-- the eight words
abbrev pub word_call : List ℕ
word_call = letters "call"

abbrev pub word_answer : List ℕ
word_answer = letters "answer"

abbrev pub word_finish : List ℕ
word_finish = letters "finish"

abbrev pub word_next : List ℕ
word_next = letters "next"

abbrev pub word_load : List ℕ
word_load = letters "load"

abbrev pub word_instance : List ℕ
word_instance = letters "instance"

abbrev pub word_counts : List ℕ
word_counts = letters "counts"

abbrev pub word_why : List ℕ
word_why = letters "why"

-- a line has at most so many bytes, its newline not counted
abbrev pub longest_line : ℕ
longest_line = 4096

-- ---- meaning

pub data Meaning : Type 0 where
  bad : Meaning
  asks : Request → Meaning

abbrev pub with_cells : Cells → (List ℕ → Request) → Meaning
with_cells no_cells q = bad
with_cells (some_cells cs) q = asks (q cs)

abbrev pub with_number : Number → (ℕ → Meaning) → Meaning
with_number no_number m = bad
with_number (some_number n) m = m n

abbrev pub one_number : List (List ℕ) → (ℕ → Request) → Meaning
one_number fs q = with_number (only_number fs) (λ n. asks (q n))

-- a number, and exactly one behind it
abbrev pub two_numbers : List (List ℕ) → (ℕ → ℕ → Request) → Meaning
two_numbers fs q = with_number (first_number fs) (λ n. with_number (only_number (behind fs)) (λ m. asks (q n m)))

-- a number, and cells behind it
abbrev pub number_and_cells : List (List ℕ) → (ℕ → List ℕ → Request) → Meaning
number_and_cells fs q = with_number (first_number fs) (λ n. with_cells (hex_cells (behind fs)) (q n))

-- no field at all
abbrev pub no_field : List (List ℕ) → Request → Meaning
no_field [] q = asks q
no_field (f ∷ fs) q = bad

-- what the fields behind each word mean; load and instance are lent out
abbrev pub means_call : List (List ℕ) → Meaning
means_call fs = with_cells (hex_cells fs) call

abbrev pub means_answer : List (List ℕ) → Meaning
means_answer fs = number_and_cells fs answer

abbrev pub means_finish : List (List ℕ) → Meaning
means_finish fs = one_number fs finish

abbrev pub means_next : List (List ℕ) → Meaning
means_next fs = two_numbers fs next

abbrev pub means_load : List (List ℕ) → List ℕ → Meaning
means_load fs out = one_number fs (λ a. load a out)

abbrev pub means_instance : List (List ℕ) → List ℕ → Meaning
means_instance fs out = one_number fs (λ a. instance a out)

abbrev pub means_counts : List (List ℕ) → Meaning
means_counts fs = no_field fs counts

abbrev pub means_why : List (List ℕ) → Meaning
means_why fs = with_cells (hex_cells fs) why

-- by the first word
unfoldable pub word_means : Fields → List ℕ → Meaning
word_means r out =
    pick (same r.first word_call) (means_call r.others)
    (pick (same r.first word_answer) (means_answer r.others)
    (pick (same r.first word_finish) (means_finish r.others)
    (pick (same r.first word_next) (means_next r.others)
    (pick (same r.first word_load) (means_load r.others out)
    (pick (same r.first word_instance) (means_instance r.others out)
    (pick (same r.first word_counts) (means_counts r.others)
    (pick (same r.first word_why) (means_why r.others) bad)))))))

-- a line that is too long means nothing, however long it is
unfoldable pub means : List ℕ → List ℕ → Meaning
means line out = pick (leb (length line) longest_line) (word_means (fields line) out) bad
