-- A table in numbered pair form beside one in compact form, computed: editions 3 and 4.
use Rattle.std.specs.Prelude.{true, false, List, [], ◌∷◌, ◌≡◌, refl, ℕ}
use Rattle.forms.specs.Cells.{arity_of, callable, tag, nil, PAIR, BLIST, ELIST, shape_of, symbolic, token_of}
use Rattle.forms.specs.Terms.{pairs, every, applied, paired, begun, reads, are_terms}
use Rattle.forms.specs.Numbering.{rank, seen, met, renamed, numbered}
use Rattle.forms.specs.Compact.{compact, elements, compact_form, filled, last_of, tail_of, inside, into, collected}
use Rattle.forms.specs.Compact.{whole, entered, items, front, form_terms, pair_form, same, are_forms, legal_form}
use Rattle.forms.specs.Stored.{legal_pairs, stored_of}
use Rattle.forms.specs.Converting.{reading}
use Rattle.plain.specs.Words.{has, add, union, inits, all_inits, prefixes, distinct}
use Rattle.plain.specs.Coding.{judged, naming, handed_on, predicate, taken, substituted, coding_of}
use Rattle.plain.specs.Requests.{Request, call, answer, load, Seen, new, old_answer, cells, refused}
use Rattle.plain.specs.Requests.{trace}
use Rattle.plain.specs.Table.{no_subgoal, no_answer, subgoal_at, answer_at, answers_to, answer_nodes, nodes, counted}
use Rattle.plain.specs.Table.{number, subgoal_of, answer_of, fits, appended, called, answered, writes, step}
use Rattle.plain.specs.Table.{settled, edition_trace}
use Rattle.plain.specs.Examples.{var, int, count, saw}

-- p(X); [1,2,3] twice; a functor's cells missing; the answer loaded
abbrev list_calls : List Request
list_calls =
    call (tag 4 257 ∷ var 7 ∷ [])
    ∷ answer 1 (PAIR ∷ int 1 ∷ PAIR ∷ int 2 ∷ PAIR ∷ int 3 ∷ nil ∷ [])
    ∷ answer 1 (PAIR ∷ int 1 ∷ PAIR ∷ int 2 ∷ PAIR ∷ int 3 ∷ nil ∷ [])
    ∷ answer 1 (PAIR ∷ int 1 ∷ [])
    ∷ load 1 (0 ∷ 0 ∷ 0 ∷ 0 ∷ 0 ∷ 0 ∷ 0 ∷ 9 ∷ [])
    ∷ []

-- with this many nodes used before and after the first answer
abbrev list_seen : ℕ → ℕ → List Seen
list_seen before after =
    saw (new 1) (count before 1 0)
    ∷ saw (new 1) (count after 1 1)
    ∷ saw (old_answer 1) (count after 1 1)
    ∷ saw (refused 3) (count after 1 1)
    ∷ record {
      reply = cells 7;
      counted = count after 1 1;
      out = PAIR ∷ int 1 ∷ PAIR ∷ int 2 ∷ PAIR ∷ int 3 ∷ nil ∷ 9 ∷ [];
    }
    ∷ []

-- 2 · 3 + 1 nodes in numbered pair form, 3 + 2 in compact form; a mark is legal in the one alone
abbrev pub EditionsBeside : Type 0
EditionsBeside =
    (edition_trace 4 11 1 1 list_calls ≡ list_seen 4 11)
    × (edition_trace 3 9 1 1 list_calls ≡ list_seen 4 9)
    × ((coding_of 4).legal 1 (BLIST ∷ ELIST ∷ int 1 ∷ []) ≡ false)
    × ((coding_of 3).legal 1 (BLIST ∷ ELIST ∷ int 1 ∷ []) ≡ true)
    × ((coding_of 4).legal 1 (PAIR ∷ var 0 ∷ var 1 ∷ []) ≡ true)
    × ((coding_of 4).legal 1 (PAIR ∷ var 1 ∷ var 0 ∷ []) ≡ false)
    × ((coding_of 3).legal 1 (PAIR ∷ var 0 ∷ var 1 ∷ []) ≡ false)

pub editions-beside : EditionsBeside
unfolding trace step counted settled called answered fits appended writes nodes answer_nodes answers_to number
    subgoal_of answer_of subgoal_at answer_at no_subgoal no_answer distinct prefixes union add has all_inits inits
    judged naming handed_on reading callable predicate taken stored_of legal_pairs legal_form are_forms substituted
    compact_form are_terms pair_form form_terms front symbolic token_of items entered filled last_of tail_of into inside
    collected whole reads begun applied paired shape_of arity_of every compact elements pairs numbered renamed met seen
    rank same
editions-beside = (refl, refl, refl, refl, refl, refl, refl)
