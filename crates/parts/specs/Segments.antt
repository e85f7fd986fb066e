-- What stands in the cells of an answer in hand, and what tokens count for: the parts of the inner contracts.
use Rattle.std.specs.Prelude.{ℕ, ◌+◌, ◌≤◌, ◌<◌, Bool, true, false, List, [], ◌∷◌, ◌++◌, ◌≡◌, eqb, length, take, get_or}
use Rattle.std.proofs.Math.Seq.{slice}
use Rattle.basis.specs.Choice.{pick}
use Rattle.forms.specs.declared.Shape.{Shape}
use Rattle.forms.specs.declared.Shape.TheVariants.{Symbol, Pair, Illegal}
use Rattle.forms.specs.Cells.{ELIST, EPAIR, shape_of}
use Rattle.forms.specs.Due.{arguments}

-- ---- the tokens of one term

-- where term i begins, and where the next does
abbrev pub from : List ℕ → ℕ → ℕ
from held i = get_or held i 0

abbrev pub until : List ℕ → ℕ → ℕ
until held i = get_or held (i + 1) 0

-- they are places of the slice, in order
pub record Spans (held : List ℕ) (i : ℕ) : Type 0 where
  pub inside : i + 1 < length held
  pub ordered : from held i ≤ until held i
  pub within : until held i ≤ length held

-- the tokens between them
unfoldable pub segment : List ℕ → ℕ → List ℕ
segment held i = slice (from held i) (until held i) held

-- ---- tokens counted

-- whether a token stands before what a list ends in
unfoldable pub closing : ℕ → Bool
closing c = pick (eqb c ELIST) true (eqb c EPAIR)

-- the arguments that a symbol takes, and a pair of pair form; a mark takes none
abbrev pub takes : (ℕ → ℕ) → ℕ → ℕ
takes arity c = arguments (shape_of arity c)

-- whether a token stands for cells of its own: a symbol for itself and, in compact form, for the pair before it; ELIST
-- for [] and the pair before the last element; a pair of pair form for itself
unfoldable pub solid : Shape → Bool
solid (Symbol k) = true
solid Pair = true
solid Illegal = false

unfoldable pub weight : (ℕ → ℕ) → ℕ → ℕ
weight arity c = pick (eqb c ELIST) 2 (pick (solid (shape_of arity c)) 2 0)

-- of several tokens
unfoldable pub weights : (ℕ → ℕ) → List ℕ → ℕ
weights arity [] = 0
weights arity (c ∷ cs) = weight arity c + weights arity cs

unfoldable pub all_take : (ℕ → ℕ) → List ℕ → ℕ
all_take arity [] = 0
all_take arity (c ∷ cs) = takes arity c + all_take arity cs

-- the tokens of k terms, in which no more is taken than they weigh
pub record Countable (arity : ℕ → ℕ) (form : List ℕ) (k : ℕ) : Type 0 where
  pub short : length form ≤ 383
  pub few : k ≤ 383
  pub taken : all_take arity form + k ≤ weights arity form

-- the cells of k terms by their tokens
abbrev pub CountsTo : (ℕ → ℕ) → List ℕ → ℕ → ℕ → Type 0
CountsTo arity w k cells = cells + (all_take arity w + k) ≡ weights arity w

-- ---- tokens copied

-- room for a form, up to its longest, behind what it has
pub record Room (held : List ℕ) (i : ℕ) (form : List ℕ) (to : ℕ) : Type 0 where
  pub spans : Spans held i
  pub small : to ≤ 383
  pub room : 383 ≤ length form

-- the tokens stand behind the first `to` of the form, unless they end behind the longest form
pub record Extends (form : List ℕ) (to : ℕ) (tokens form' : List ℕ) (end : ℕ) : Type 0 where
  pub ends : end ≡ to + length tokens
  pub size : length form' ≡ length form
  pub holds : end ≤ 383 → take end form' ≡ take to form ++ tokens
