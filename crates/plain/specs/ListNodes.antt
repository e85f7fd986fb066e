-- The nodes that a list of constants takes as a subgoal's first answer, in each stored form (Q-13).
use Rattle.std.specs.Prelude.{true, List, [], ◌∷◌, ◌≡◌, ℕ, suc, ◌+◌, ◌*◌, ◌≤◌, ◌<◌, length}
use Rattle.forms.specs.Cells.{nil, PAIR, constant}
use Rattle.plain.specs.Coding.{Coding, compact_coding, pair_coding}
use Rattle.plain.specs.Requests.{Open, answer, new, refused}
use Rattle.plain.specs.Table.{Table, subgoal_at, answers_to, nodes, step}

-- the list of these elements, one cell each, that ends in [], in pair form
unfoldable pub list_cells : List ℕ → List ℕ
list_cells [] = nil ∷ []
list_cells (x ∷ xs) = PAIR ∷ x ∷ list_cells xs

-- atoms and integers
unfoldable pub Constants : List ℕ → Type 0
Constants [] = Unit {0}
Constants (x ∷ xs) = (constant x ≡ true) × Constants xs

-- an open subgoal of one variable without answers
pub record Unanswered (t : Table) (s : ℕ) : Type 0 where
  pub low : 0 < s
  pub high : s ≤ length t.subgoals
  pub one : (subgoal_at t s).m ≡ 1
  pub is_open : (subgoal_at t s).state ≡ Open
  pub none : answers_to t.answers s ≡ []

-- as its first answer the cells take n nodes: it enters where so many are left, and is refused by 10 where not
pub record TakesNodes (c : Coding) (cs : List ℕ) (n : ℕ) : Type 0 where
  pub enters : (t : Table) (s : ℕ) → Unanswered t s → nodes t + n ≤ t.N → length t.answers < t.A
      → ((step c t (answer s cs)).reply ≡ new (suc (length t.answers)))
      × (nodes (step c t (answer s cs)).state ≡ nodes t + n)
  pub lacks : (t : Table) (s : ℕ) → Unanswered t s → t.N < nodes t + n
      → (step c t (answer s cs)).reply ≡ refused 10

-- S constants, 1 to 127: 2S + 1 nodes in numbered pair form, S + 2 in compact form
abbrev pub ListNodes : (ℕ → ℕ) → Type 0
ListNodes arity = (xs : List ℕ) → Constants xs → 1 ≤ length xs → length xs ≤ 127
    → TakesNodes (pair_coding arity) (list_cells xs) (2 * length xs + 1)
    × TakesNodes (compact_coding arity) (list_cells xs) (length xs + 2)
