-- The marked terms M1 to M8 of the request; beside them one of edition 2, what M6 leaves of out, and sums of what is
-- due.
use Rattle.basis.specs.declared.refusals.Refusal.TheVariants as refusal
use Rattle.forms.specs.declared.Unwritten.TheVariants.{Refused}
use Rattle.std.specs.Prelude.{ℕ, ◌+◌, ◌*◌, List, [], ◌∷◌, ◌++◌, ◌≡◌, refl, length, replicate, Err, Ok}
use Rattle.forms.specs.Cells.{tag, nil, PAIR, BLIST, ELIST, EPAIR, shape_of, symbolic, token_of, arity_of}
use Rattle.forms.specs.Due.{arguments, due_of}
use Rattle.forms.specs.Terms.{pairs, every, applied, paired, begun, reads, are_terms}
use Rattle.forms.specs.Numbering.{rank, seen, met, renamed, numbered}
use Rattle.forms.specs.Compact.{compact, elements, compact_form, filled, last_of, tail_of, inside, into, collected}
use Rattle.forms.specs.Compact.{whole, entered, items, front, form_terms, pair_form, same, are_forms, legal_form}
use Rattle.forms.specs.Stored.{compact_stored}
use Rattle.forms.specs.Converting.{reading, loading, fitting, fitting_form, fitting_terms, compacting, expanding}
use Rattle.forms.specs.Converting.{written}

abbrev var : ℕ → ℕ
var = tag 1

abbrev int : ℕ → ℕ
int = tag 3

abbrev fun : ℕ → ℕ → ℕ
fun name arity = tag 4 (name * 16 + arity)

abbrev pub MarkedTerms : Type 0
MarkedTerms =
    -- M1 f(X,g(Y,X),Z)
    (compact_form (arity_of 1) (fun 1 3 ∷ var 7 ∷ fun 2 2 ∷ var 9 ∷ var 7 ∷ var 8 ∷ [])
    ≡ fun 1 3 ∷ var 0 ∷ fun 2 2 ∷ var 1 ∷ var 0 ∷ var 2 ∷ [])
    -- M2 f(g(Y,Z),X,Z)
    × (compact_form (arity_of 1) (fun 1 3 ∷ fun 2 2 ∷ var 9 ∷ var 8 ∷ var 7 ∷ var 8 ∷ [])
    ≡ fun 1 3 ∷ fun 2 2 ∷ var 0 ∷ var 1 ∷ var 2 ∷ var 1 ∷ [])
    -- M3 [1,2,3]
    × (compact_form (arity_of 1) (PAIR ∷ int 1 ∷ PAIR ∷ int 2 ∷ PAIR ∷ int 3 ∷ nil ∷ [])
    ≡ BLIST ∷ int 1 ∷ int 2 ∷ ELIST ∷ int 3 ∷ [])
    -- M4 [1,2|3]
    × (compact_form (arity_of 1) (PAIR ∷ int 1 ∷ PAIR ∷ int 2 ∷ int 3 ∷ [])
    ≡ BLIST ∷ int 1 ∷ int 2 ∷ EPAIR ∷ int 3 ∷ [])
    -- M5 [1,[2,3],[]]
    × (compact_form (arity_of 1) (PAIR ∷ int 1 ∷ PAIR ∷ PAIR ∷ int 2 ∷ PAIR ∷ int 3 ∷ nil ∷ PAIR ∷ nil ∷ nil ∷ [])
    ≡ BLIST ∷ int 1 ∷ BLIST ∷ int 2 ∷ ELIST ∷ int 3 ∷ ELIST ∷ nil ∷ [])
    -- M6 [1|2]: four tokens from three cells
    × (compact_form (arity_of 1) (PAIR ∷ int 1 ∷ int 2 ∷ []) ≡ BLIST ∷ int 1 ∷ EPAIR ∷ int 2 ∷ [])
    × (compacting (arity_of 1) (compact_stored (arity_of 1)) 1 (PAIR ∷ int 1 ∷ int 2 ∷ []) 4 ≡ Ok 4)
    -- the terms of an answer are numbered together, and a list that ends in a term has that term as its tail
    × (compact_form (arity_of 1) (var 7 ∷ var 9 ∷ []) ≡ var 0 ∷ var 1 ∷ [])
    × (pair_form (arity_of 1) (BLIST ∷ int 1 ∷ int 2 ∷ EPAIR ∷ int 3 ∷ []) ≡ PAIR ∷ int 1 ∷ PAIR ∷ int 2 ∷ int 3 ∷ [])
    -- M7 and M8 are 13
    × (expanding (compact_stored (arity_of 1)) 1 (BLIST ∷ EPAIR ∷ int 1 ∷ []) 256 ≡ Err (Refused refusal.Form))
    × (expanding (compact_stored (arity_of 1)) 1 (BLIST ∷ int 1 ∷ EPAIR ∷ nil ∷ []) 256 ≡ Err (Refused refusal.Form))

pub marked : MarkedTerms
unfolding compact_form reading loading fitting_form fitting_terms compacting expanding legal_form are_terms are_forms
    fitting pair_form form_terms front symbolic token_of items entered filled last_of tail_of into inside collected
    whole reads begun applied paired shape_of arity_of every compact elements pairs numbered renamed met seen rank same
marked = (refl, refl, refl, refl, refl, refl, refl, refl, refl, refl, refl)

-- ---- edition 2

-- a functor of 40 arguments: variables 7 and 9, thirty-seven integers, and variable 7 again
abbrev wide_term : ℕ → ℕ → List ℕ
wide_term first second = tag 4 (3 * 256 + 40) ∷ var first ∷ var second ∷ (replicate 37 (int 1) ++ (var first ∷ []))

-- it is one term in edition 2; edition 1 reads 8 arguments and finds cells left over
abbrev pub MarkedWide : Type 0
MarkedWide =
    (compact_form (arity_of 2) (wide_term 7 9) ≡ wide_term 0 1)
    × (compacting (arity_of 2) (compact_stored (arity_of 2)) 1 (wide_term 7 9) 41 ≡ Ok 41)
    × (expanding (compact_stored (arity_of 2)) 1 (wide_term 0 1) 41 ≡ Ok 41)
    × (compacting (arity_of 1) (compact_stored (arity_of 1)) 1 (wide_term 7 9) 41 ≡ Err (Refused refusal.Term))
    × (expanding (compact_stored (arity_of 1)) 1 (wide_term 0 1) 41 ≡ Err (Refused refusal.Form))

pub marked-wide : MarkedWide
unfolding compact_form reading loading fitting_form fitting_terms compacting expanding legal_form are_terms are_forms
    fitting pair_form form_terms front symbolic token_of items entered filled last_of tail_of into inside collected
    whole reads begun applied paired shape_of arity_of every compact elements pairs numbered renamed met seen rank same
marked-wide = (refl, refl, refl, refl, refl)

-- ---- what is in out afterwards

-- [1|2] in pair form and in compact form (M6)
abbrev pair12 : List ℕ
pair12 = PAIR ∷ int 1 ∷ int 2 ∷ []

abbrev form12 : List ℕ
form12 = BLIST ∷ int 1 ∷ EPAIR ∷ int 2 ∷ []

abbrev compacted_into : List ℕ → List ℕ
compacted_into out = written (compacting (arity_of 1) (compact_stored (arity_of 1)) 1 pair12 (length out)) form12 out

abbrev expanded_into : List ℕ → List ℕ → List ℕ
expanded_into form out = written (expanding (compact_stored (arity_of 1)) 1 form (length out)) pair12 out

-- the cell behind those written stays; where the form does not fit, or there is none to expand, all of out does
abbrev pub MarkedOut : Type 0
MarkedOut =
    (compacted_into (9 ∷ 9 ∷ 9 ∷ 9 ∷ 7 ∷ []) ≡ form12 ++ (7 ∷ []))
    × (compacted_into (9 ∷ 9 ∷ 7 ∷ []) ≡ 9 ∷ 9 ∷ 7 ∷ [])
    × (expanded_into form12 (9 ∷ 9 ∷ 9 ∷ 7 ∷ []) ≡ pair12 ++ (7 ∷ []))
    × (expanded_into pair12 (9 ∷ 9 ∷ 9 ∷ 7 ∷ []) ≡ 9 ∷ 9 ∷ 9 ∷ 7 ∷ [])

pub marked-out : MarkedOut
unfolding written reading loading fitting_form fitting_terms compacting expanding compact_form legal_form are_terms
    are_forms fitting pair_form form_terms front symbolic token_of items entered filled last_of tail_of into inside
    collected whole reads begun applied paired shape_of arity_of every compact elements pairs numbered renamed met seen
    rank same
marked-out = (refl, refl, refl, refl)

-- ---- what is due

-- the sum before each of the cells, and after the last
unfoldable pub dues : (ℕ → ℕ) → ℕ → List ℕ → List ℕ
dues arity due [] = due ∷ []
dues arity due (c ∷ cs) = due ∷ dues arity (due_of arity due (c ∷ [])) cs

abbrev pub MarkedDue : Type 0
MarkedDue =
    -- f(a,[b|X])
    (dues (arity_of 1) 1 (fun 1 2 ∷ tag 2 1 ∷ PAIR ∷ tag 2 2 ∷ var 0 ∷ []) ≡ 1 ∷ 2 ∷ 1 ∷ 2 ∷ 1 ∷ 0 ∷ [])
    -- two terms, [1|2] and X
    × (dues (arity_of 1) 2 (PAIR ∷ int 1 ∷ int 2 ∷ var 0 ∷ []) ≡ 2 ∷ 3 ∷ 2 ∷ 1 ∷ 0 ∷ [])
    -- no terms, no cells
    × (dues (arity_of 1) 0 [] ≡ 0 ∷ [])
    -- an argument is missing, or a second term: the sum ends above 0
    × (dues (arity_of 1) 1 (fun 1 2 ∷ tag 2 1 ∷ []) ≡ 1 ∷ 2 ∷ 1 ∷ [])
    × (dues (arity_of 1) 2 (PAIR ∷ int 1 ∷ int 2 ∷ []) ≡ 2 ∷ 3 ∷ 2 ∷ 1 ∷ [])
    -- a cell is left over: the sum is 0 before it
    × (dues (arity_of 1) 1 (tag 2 1 ∷ int 1 ∷ []) ≡ 1 ∷ 0 ∷ 0 ∷ [])
    -- a functor of 40 arguments in edition 2
    × (due_of (arity_of 2) 1 (tag 4 (3 * 256 + 40) ∷ []) ≡ 40)
    × (due_of (arity_of 2) 1 (wide_term 7 9) ≡ 0)

pub marked-due : MarkedDue
unfolding dues due_of arguments shape_of arity_of
marked-due = (refl, refl, refl, refl, refl, refl, refl, refl)
