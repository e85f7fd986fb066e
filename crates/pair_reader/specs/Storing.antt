-- What the readers of pair form answer and write: the families that their contracts cite.
use Rattle.std.specs.Prelude.{ℕ, ◌+◌, ◌*◌, ◌≤◌, ◌<◌, List, [], ◌∷◌, ◌≡◌, length, take, drop, set, None, Option, Some}
use Rattle.std.proofs.lemmas.List.Edits.{sets}
use Rattle.forms.specs.declared.Place.{Place}
use Rattle.forms.specs.Cells.{shape_of, arity_of}
use Rattle.forms.specs.Terms.{Term, pairs, every, reads}
use Rattle.forms.specs.Numbering.{rank, seen, met, renamed}
use Rattle.forms.specs.Compact.{compact, elements}

-- the cells numbered, where the variables vs were met before them
unfoldable pub numbered_from : List ℕ → List ℕ → List ℕ
numbered_from vs [] = []
numbered_from vs (c ∷ cs) = renamed (seen vs c) c ∷ numbered_from (seen vs c) cs

-- the cells of `form` are numbered and written from `to` on, and their variables are known
pub record Stored (form vars : List ℕ) (count : ℕ) (out : List ℕ) (to : ℕ)
    (vars' : List ℕ) (count' : ℕ) (out' : List ℕ) (end : ℕ) : Type 0 where
  pub end-at : end ≡ to + length form
  pub cells : out' ≡ sets out to (numbered_from (take count vars) form)
  pub known : take count' vars' ≡ met (take count vars) form
  pub count_at : count' ≡ length (met (take count vars) form)
  pub kept : length vars' ≡ length vars

-- the terms that stand in s from place at on
abbrev pub terms_at : (ℕ → ℕ) → List ℕ → ℕ → List Term
terms_at arity s at = reads (shape_of arity) (drop at s)

-- n terms were read, and their compact forms are stored; or there are fewer than n
abbrev pub TermsRan : (arity : ℕ → ℕ) (s : List ℕ) (at n : ℕ) (vars : List ℕ) (count : ℕ) (out : List ℕ) (to : ℕ)
    (vars' out' : List ℕ) → Option Place → Type 0
TermsRan arity s at n vars count out to vars' out' (Some place) =
    (n ≤ length (terms_at arity s at))
    × (place.at ≡ at + length (every pairs (take n (terms_at arity s at))))
    × Stored (every compact (take n (terms_at arity s at))) vars count out to vars' place.count out' place.to
TermsRan arity s at n vars count out to vars' out' None = length (terms_at arity s at) < n

-- the elements of the list that two terms, an element and a tail, go on
unfoldable pub elements_of : List Term → List ℕ
elements_of [] = []
elements_of (h ∷ []) = []
elements_of (h ∷ t ∷ ts) = elements (compact h) t

-- an element and a tail were read, and the list's elements are stored; or there are fewer than two terms
abbrev pub ListRan : (arity : ℕ → ℕ) (s : List ℕ) (at : ℕ) (vars : List ℕ) (count : ℕ) (out : List ℕ) (to : ℕ)
    (vars' out' : List ℕ) → Option Place → Type 0
ListRan arity s at vars count out to vars' out' (Some place) =
    (2 ≤ length (terms_at arity s at))
    × (place.at ≡ at + length (every pairs (take 2 (terms_at arity s at))))
    × Stored (elements_of (terms_at arity s at)) vars count out to vars' place.count out' place.to
ListRan arity s at vars count out to vars' out' None = length (terms_at arity s at) < 2

-- ---- contracts

-- the rank of c among the first variables, and c behind them
abbrev pub Ranks : (vars : List ℕ) (count c r : ℕ) (vars' : List ℕ) → Type 0
Ranks vars count c r vars' = (r ≡ rank (take count vars) c) × (vars' ≡ set vars count c)

-- the cell c, or the number of the variable c, is written at `to`
abbrev pub Stores : ℕ → List ℕ → ℕ → List ℕ → ℕ → List ℕ → ℕ → List ℕ → Type 0
Stores c vars count out to vars' count' out' = Stored (c ∷ []) vars count out to vars' count' out' (to + 1)

-- room for what is left to be read: a variable for each cell, and three tokens for two cells
abbrev pub PairRoom : (s : List ℕ) (from : Place) (vars out : List ℕ) → Type 0
PairRoom s from vars out =
    (length s ≤ 256)
    × (length s ≤ length vars)
    × (3 * length s ≤ 2 * length out)
    × (from.at ≤ length s)
    × (from.count ≤ from.at)
    × (2 * from.to ≤ 3 * from.at)

-- n terms were read from a place on
abbrev pub ReadsTerms : (e : ℕ) (s : List ℕ) (from : Place) (n : ℕ) (vars out vars' out' : List ℕ)
    → Option Place → Type 0
ReadsTerms e s from n vars out vars' out' r =
    TermsRan (arity_of e) s from.at n vars from.count out from.to vars' out' r

-- an element and a tail were read from a place on
abbrev pub ReadsList : (e : ℕ) (s : List ℕ) (from : Place) (vars out vars' out' : List ℕ) → Option Place → Type 0
ReadsList e s from vars out vars' out' r =
    ListRan (arity_of e) s from.at vars from.count out from.to vars' out' r
