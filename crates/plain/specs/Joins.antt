-- The rule of a join: from the answers of two sources the forms of the answers that it gives its target, or refusal 8,
-- 14, 15, 16 or 4, in this order. The plain table and the calls on cells both follow it.
use Rattle.std.specs.Prelude.{Bool, true, false, List, [], ◌∷◌, ◌++◌, map, ℕ, ◌*◌, eqb, leb, ltb, length, get_or}
use Rattle.basis.specs.Choice.{pick}
use Rattle.forms.specs.Numbering.{met}
use Rattle.forms.specs.Compact.{same}
use Rattle.plain.specs.Words.{Word}
use Rattle.plain.specs.Coding.{Coding, Reading, refused, accepted}
use Rattle.plain.specs.Requests.{State, Open, Finished}

-- a refusal by its number, or the forms of answers
pub data Forms : Type 0 where
  declined : ℕ → Forms
  formed : List Word → Forms

-- a source: its state, its variables, and the forms of its answers
pub record Side : Type 0 where
  pub state : State
  pub m : ℕ
  pub forms : List Word

-- the terms of an answer, each in pair form; term i is for variable i
abbrev pub Terms : Type 0
Terms = List (List ℕ)

abbrev pub term_at : Terms → ℕ → List ℕ
term_at ts i = get_or ts i []

-- ---- what the pairs and the copies name

-- both variables of each pair are below their source's number of variables, and no pair is cut short
unfoldable pub pairs_named : ℕ → ℕ → List ℕ → Bool
pairs_named m n [] = true
pairs_named m n (x ∷ []) = false
pairs_named m n (x ∷ y ∷ ps) = pick (ltb x m) (pick (ltb y n) (pairs_named m n ps) false) false

-- each side is 0 or 1, its variable below that source's number of variables, and no copy is cut short
unfoldable pub copies_named : ℕ → ℕ → List ℕ → Bool
copies_named m n [] = true
copies_named m n (side ∷ []) = false
copies_named m n (side ∷ x ∷ cs) =
    pick (eqb side 0) (pick (ltb x m) (copies_named m n cs) false)
    (pick (eqb side 1) (pick (ltb x n) (copies_named m n cs) false) false)

-- at most 32 pairs, one copy for each of k variables of the target
unfoldable pub named : ℕ → ℕ → List ℕ → ℕ → List ℕ → Bool
named m n ps k cs =
    pick (leb (length ps) 64)
    (pick (eqb (length cs) (2 * k)) (pick (pairs_named m n ps) (copies_named m n cs) false) false) false

-- ---- what a pair of answers gives

-- the terms that each pair names are equal
unfoldable pub matching : List ℕ → Terms → Terms → Bool
matching [] us vs = true
matching (x ∷ []) us vs = false
matching (x ∷ y ∷ ps) us vs = pick (same (term_at us x) (term_at vs y)) (matching ps us vs) false

-- the terms that the copies name, one after another
unfoldable pub copied : List ℕ → Terms → Terms → List ℕ
copied [] us vs = []
copied (side ∷ []) us vs = []
copied (side ∷ x ∷ cs) us vs = pick (eqb side 0) (term_at us x) (term_at vs x) ++ copied cs us vs

-- one answer of the first with each that matches it of the second
unfoldable pub along : List ℕ → List ℕ → Terms → List Terms → List (List ℕ)
along ps cs us [] = []
along ps cs us (vs ∷ rest) = let later = along ps cs us rest in pick (matching ps us vs) (copied cs us vs ∷ later) later

-- in order of the first, then of the second
unfoldable pub combined : List ℕ → List ℕ → List Terms → List Terms → List (List ℕ)
combined ps cs [] seconds = []
combined ps cs (us ∷ firsts) seconds = along ps cs us seconds ++ combined ps cs firsts seconds

-- ---- the answers, read as an answer's cells are

unfoldable pub before : Reading → Forms → Forms
before (refused r) later = declined r
before (accepted w m) (declined r) = declined r
before (accepted w m) (formed ws) = formed (w ∷ ws)

-- all of them, or the first refusal
unfoldable pub all_read : Coding → ℕ → List (List ℕ) → Forms
all_read c m [] = formed []
all_read c m (ks ∷ rest) = before (c.answered m ks) (all_read c m rest)

-- ---- the rule

abbrev pub is_open : State → Bool
is_open Open = true
is_open Finished = false

-- no form holds a variable
unfoldable pub ground : List Word → Bool
ground [] = true
ground (w ∷ ws) = pick (eqb (length (met [] w)) 0) (ground ws) false

-- for a target in this state with m variables
unfoldable pub join_of : Coding → Side → Side → List ℕ → State → ℕ → List ℕ → Forms
join_of c f g ps state m cs =
    pick (is_open state)
    (pick (is_open f.state) (declined 14)
    (pick (is_open g.state) (declined 14)
    (pick (ground f.forms)
    (pick (ground g.forms)
    (pick (named f.m g.m ps m cs)
    (all_read c m (combined ps cs (map (λ w. c.terms w) f.forms) (map (λ w. c.terms w) g.forms)))
    (declined 16))
    (declined 15))
    (declined 15))))
    (declined 8)
