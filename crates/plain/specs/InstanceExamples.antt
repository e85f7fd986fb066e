-- Instances, computed: each variable gets its own term, out may fit exactly, and no integer is called.
use Rattle.std.specs.Prelude.{List, [], ◌∷◌, map, ◌≡◌, refl, ℕ, replicate}
use Rattle.forms.specs.Cells.{arity_of, callable, nil, PAIR, shape_of, symbolic, token_of}
use Rattle.forms.specs.Terms.{pairs, every, applied, paired, begun, reads, are_terms}
use Rattle.forms.specs.Numbering.{rank, seen, met, renamed, numbered}
use Rattle.forms.specs.Compact.{compact, elements, compact_form, filled, last_of, tail_of, inside, into, collected}
use Rattle.forms.specs.Compact.{whole, entered, items, front, form_terms, pair_form, same}
use Rattle.forms.specs.Converting.{reading}
use Rattle.forms.specs.Stored.{stored_of}
use Rattle.plain.specs.Words.{has, add, union, inits, all_inits, prefixes, distinct}
use Rattle.plain.specs.Coding.{judged, naming, handed_on, predicate, taken, substituted, coding_of}
use Rattle.plain.specs.Requests.{Request, call, answer, instance, new, cells, refused, short, Seen, trace}
use Rattle.plain.specs.Table.{settled, fresh, no_subgoal, no_answer, subgoal_at, answer_at, answers_to, answer_nodes}
use Rattle.plain.specs.Table.{nodes, counted, number, subgoal_of, answer_of, after, following, fits, appended}
use Rattle.plain.specs.Table.{called, answered, starting, onward, writes, step, table_trace}
use Rattle.plain.specs.Examples.{var, atom, int, fun, count, saw}
use Rattle.plain.specs.InstanceMeaning.{replaced, term_cells, instantiated}

-- what is seen of calls on a fresh table with room for all of them
abbrev seen_of : List Request → List Seen
seen_of qs = table_trace (coding_of 1) (fresh 99 9 9) qs

-- f(X,Y), answered by (a,b)
abbrev two : List ℕ
two = fun 1 2 ∷ var 7 ∷ var 9 ∷ []

abbrev answers_two : List ℕ
answers_two = atom 1 ∷ atom 2 ∷ []

-- f(Y,[X|Y]), answered by (g(V,W),[W,c]): variables that come twice, terms of several cells that share one
abbrev mixed : List ℕ
mixed = fun 1 2 ∷ var 9 ∷ PAIR ∷ var 7 ∷ var 9 ∷ []

abbrev answers_mixed : List ℕ
answers_mixed = fun 2 2 ∷ var 3 ∷ var 4 ∷ PAIR ∷ var 4 ∷ PAIR ∷ atom 3 ∷ nil ∷ []

-- f(g(V,W),[[W,c]|g(V,W)])
abbrev instance_mixed : List ℕ
instance_mixed =
    fun 1 2 ∷ fun 2 2 ∷ var 0 ∷ var 1 ∷ PAIR ∷ PAIR ∷ var 1 ∷ PAIR ∷ atom 3 ∷ nil ∷ fun 2 2 ∷ var 0 ∷ var 1 ∷ []

abbrev pub Instances : Type 0
Instances =
    -- f(a,b), in an out that it fills; one cell fewer is 12 with the need, and out stays
    (seen_of (call two ∷ answer 1 answers_two ∷ instance 1 (0 ∷ 0 ∷ 0 ∷ []) ∷ instance 1 (5 ∷ 6 ∷ []) ∷ [])
    ≡ saw (new 1) (count 5 1 0)
    ∷ saw (new 1) (count 7 1 1)
    ∷ record { reply = cells 3; counted = count 7 1 1; out = fun 1 2 ∷ atom 1 ∷ atom 2 ∷ [] }
    ∷ record { reply = short 3; counted = count 7 1 1; out = 5 ∷ 6 ∷ [] }
    ∷ [])
    -- and so by the meaning of instance on cells
    × (instantiated (arity_of 1) two answers_two ≡ fun 1 2 ∷ atom 1 ∷ atom 2 ∷ [])
    × (instantiated (arity_of 1) mixed answers_mixed ≡ instance_mixed)
    × (map (λ s. s.out) (seen_of (call mixed ∷ answer 1 answers_mixed ∷ instance 1 (replicate 13 0) ∷ []))
    ≡ [] ∷ [] ∷ instance_mixed ∷ [])
    -- an integer is called by nobody
    × (seen_of (call (int 5 ∷ []) ∷ []) ≡ saw (refused 6) (count 1 0 0) ∷ [])

pub instances : Instances
unfolding replaced term_cells instantiated trace step counted settled called answered fits appended starting onward
    writes nodes answer_nodes answers_to number subgoal_of answer_of after following subgoal_at answer_at no_subgoal
    no_answer distinct prefixes union add has all_inits inits judged naming handed_on reading callable predicate taken
    stored_of substituted compact_form are_terms pair_form form_terms front symbolic token_of items entered filled
    last_of tail_of into inside collected whole reads begun applied paired shape_of arity_of every compact elements
    pairs numbered renamed met seen rank same
instances = (refl, refl, refl, refl, refl)
