-- Forms computed: a list inside a functor inside a list, a functor, and a list with a tail, in edition 1.
use Rattle.std.specs.Prelude.{ℕ, ◌+◌, ◌*◌, true, false, List, [], ◌∷◌, ◌++◌, map, ◌≡◌, refl, length, replicate}
use Rattle.forms.specs.Cells.{tag, BLIST, ELIST, EPAIR, arity_of, shape_of, symbolic, token_of}
use Rattle.forms.specs.Due.{arguments}
use Rattle.forms.specs.Terms.{pairs, every}
use Rattle.forms.specs.Compact.{compact, elements, filled, last_of, tail_of, inside, into, collected, whole, entered}
use Rattle.forms.specs.Compact.{items, front, form_terms, pair_form, same}
use Rattle.forms.specs.Stored.{stored_of}
use Rattle.plain.specs.Words.{Word}
use Rattle.plain.specs.Joins.{Terms, declined, formed, matching, copied}
use Rattle.parts.specs.Parts.{parts, start_of, all_fit, fitted}
use Rattle.parts.specs.Segments.{segment, solid, weight, weights, all_take}

abbrev int : ℕ → ℕ
int n = tag 3 n

abbrev fun : ℕ → ℕ → ℕ
fun name arity = tag 4 (name * 16 + arity)

-- [f([1,2],3),4], g(5) and [6,7|8]
abbrev nest : Word
nest = BLIST ∷ fun 1 2 ∷ BLIST ∷ int 1 ∷ ELIST ∷ int 2 ∷ int 3 ∷ ELIST ∷ int 4 ∷ []

abbrev plain : Word
plain = fun 2 1 ∷ int 5 ∷ []

abbrev tailed : Word
tailed = BLIST ∷ int 6 ∷ int 7 ∷ EPAIR ∷ int 8 ∷ []

abbrev form : Word
form = nest ++ plain ++ tailed

abbrev terms : Terms
terms = nest ∷ plain ∷ tailed ∷ []

-- the terms and where they begin
abbrev pub Parted : Type 0
Parted =
    (parts (stored_of 1) form ≡ terms)
    × (map (start_of (stored_of 1) form) (0 ∷ 1 ∷ 2 ∷ 3 ∷ []) ≡ 0 ∷ 9 ∷ 11 ∷ 16 ∷ [])

pub parted : Parted
unfolding stored_of arity_of shape_of symbolic token_of every compact elements filled last_of tail_of inside into
    collected whole entered items front form_terms
parted = (refl, refl)

-- in hand
abbrev held : List ℕ
held = (33 ∷ 42 ∷ 44 ∷ 49 ∷ []) ++ replicate 29 0 ++ form

abbrev pub Segmented : Type 0
Segmented = map (segment held) (0 ∷ 1 ∷ 2 ∷ []) ≡ terms

pub segmented : Segmented
unfolding segment
segmented = refl

-- the cells by the tokens: 11 + 2 + 5, and those that the pair form has
abbrev pub Counted : Type 0
Counted =
    (weights (arity_of 1) form ≡ 18 + (all_take (arity_of 1) form + 3))
    × (all_take (arity_of 1) form ≡ 3)
    × (length ((stored_of 1).cells form) ≡ 18)

pub counted : Counted
unfolding weights all_take weight arguments solid stored_of arity_of shape_of symbolic token_of every pairs compact
    elements filled last_of tail_of inside into collected whole entered items front form_terms pair_form
counted = (refl, refl, refl)

-- [1,1,..] of n ones: 2 n + 1 cells
abbrev ones : ℕ → Word
ones n = (BLIST ∷ replicate n (int 1)) ++ (ELIST ∷ int 1 ∷ [])

-- compared, copied, and too long: 257 cells
abbrev pub Joined : Type 0
Joined =
    (matching (0 ∷ 0 ∷ 2 ∷ 2 ∷ []) terms terms ≡ true)
    × (matching (0 ∷ 0 ∷ 1 ∷ 2 ∷ []) terms terms ≡ false)
    × (copied (1 ∷ 2 ∷ 0 ∷ 1 ∷ []) terms terms ≡ tailed ++ plain)
    × (fitted (stored_of 1) (form ∷ ones 126 ∷ []) ≡ formed (form ∷ ones 126 ∷ []))
    × (fitted (stored_of 1) (form ∷ ones 127 ∷ []) ≡ declined 4)

pub joined : Joined
unfolding matching same copied all_fit stored_of arity_of shape_of symbolic token_of every pairs filled last_of tail_of
    inside into collected whole entered items front form_terms pair_form
joined = (refl, refl, refl, refl, refl)
