-- Reasons on the plain table, in edition 1.
use Rattle.std.specs.Prelude.{List, [], ◌∷◌, ◌++◌, map, ◌≡◌, refl, ℕ}
use Rattle.forms.specs.Cells.{arity_of, callable, nil, PAIR, shape_of, symbolic, token_of}
use Rattle.forms.specs.Terms.{pairs, every, applied, paired, begun, reads, are_terms}
use Rattle.forms.specs.Numbering.{rank, seen, met, renamed, numbered}
use Rattle.forms.specs.Compact.{compact, elements, compact_form, filled, last_of, tail_of, inside, into, collected}
use Rattle.forms.specs.Compact.{whole, entered, items, front, form_terms, pair_form, same}
use Rattle.forms.specs.Stored.{stored_of}
use Rattle.forms.specs.Converting.{reading}
use Rattle.plain.specs.Words.{has, add, union, inits, all_inits, prefixes, distinct, common, most}
use Rattle.plain.specs.Coding.{judged, naming, handed_on, predicate, taken, coding_of}
use Rattle.plain.specs.Requests.{Request, call, why, old_as, new_past, Reply, new, because, refused, trace}
use Rattle.plain.specs.Table.{Table, fresh, no_subgoal, subgoal_at, answers_to, answer_nodes, nodes, counted, number}
use Rattle.plain.specs.Table.{subgoal_of, fits, appended, called, sharing, newness, reasoned, step, table_trace}
use Rattle.plain.specs.Examples.{var, atom, int, fun, three}

abbrev replies : Table → List Request → List Reply
replies t qs = map (λ s. s.reply) (table_trace (coding_of 1) t qs)

-- p of the list of these three cells, and of these two
abbrev pub of_three : ℕ → ℕ → ℕ → List ℕ
of_three x y z = fun 3 1 ∷ PAIR ∷ x ∷ PAIR ∷ y ∷ PAIR ∷ z ∷ nil ∷ []

abbrev pub of_two : ℕ → ℕ → List ℕ
of_two x y = fun 3 1 ∷ PAIR ∷ x ∷ PAIR ∷ y ∷ nil ∷ []

-- before any call; then f(X,a), g(X,Y) and f(Y,1) in a table that is full with them
abbrev pub reason_calls : List Request
reason_calls =
    (why (fun 1 2 ∷ var 7 ∷ atom 1 ∷ []) ∷ three)
    ++ (why (fun 2 2 ∷ var 9 ∷ var 7 ∷ [])  -- g(Y,X)
    ∷ why (fun 1 2 ∷ var 5 ∷ int 1 ∷ [])  -- f(Z,1)
    ∷ why (fun 2 2 ∷ var 5 ∷ var 5 ∷ [])  -- g(Z,Z)
    ∷ why (fun 1 2 ∷ var 5 ∷ atom 2 ∷ [])  -- f(Z,b), which shares f VAR0 with subgoals 1 and 3
    ∷ why (atom 1 ∷ [])
    ∷ why []
    ∷ why (var 1 ∷ [])
    ∷ [])

abbrev pub reason_replies : List Reply
reason_replies =
    because (new_past 0 0)
    ∷ new 1
    ∷ new 2
    ∷ new 3
    ∷ because (old_as 2 (var 9 ∷ var 7 ∷ []))
    ∷ because (old_as 3 (var 5 ∷ []))
    ∷ because (new_past 2 2)
    ∷ because (new_past 2 1)
    ∷ because (new_past 0 0)
    ∷ refused 3
    ∷ refused 6
    ∷ []

-- p([1,2,3]) and p([1,3]): p([1,2]) shares p BLIST 1 ELIST with the second, and three tokens with the first
abbrev pub Reasons : Type 0
Reasons =
    (replies (fresh 11 3 0) reason_calls ≡ reason_replies)
    × (replies (fresh 99 9 0)
    (call (of_three (int 1) (int 2) (int 3)) ∷ call (of_two (int 1) (int 3)) ∷ why (of_two (int 1) (int 2)) ∷ [])
    ≡ new 1 ∷ new 2 ∷ because (new_past 4 2) ∷ [])

pub reasons : Reasons
unfolding trace step counted called fits appended sharing newness reasoned nodes answer_nodes answers_to number
    subgoal_of subgoal_at no_subgoal distinct prefixes union add has all_inits inits common most judged naming handed_on
    reading callable predicate taken stored_of compact_form are_terms pair_form form_terms front symbolic token_of items
    entered filled last_of tail_of into inside collected whole reads begun applied paired shape_of arity_of every
    compact elements pairs numbered renamed met seen rank same
reasons = (refl, refl)
