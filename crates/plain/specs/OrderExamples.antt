-- Arrival order on the plain table, in edition 1: two answers that change places, among refused calls and before a
-- join; and two tables of which arrival order is false.
use Rattle.std.specs.Prelude.{List, [], ◌∷◌, ◌++◌, map, ◌≡◌, refl, ℕ, ◌+◌, ltb, length}
use Rattle.std.proofs.Common.{arith}
use Rattle.basis.specs.Choice.{pick}
use Rattle.forms.specs.Cells.{arity_of, callable, shape_of, symbolic, token_of}
use Rattle.forms.specs.Terms.{pairs, every, applied, paired, begun, reads, are_terms}
use Rattle.forms.specs.Numbering.{rank, seen, met, renamed, numbered}
use Rattle.forms.specs.Compact.{compact, elements, compact_form, filled, last_of, tail_of, inside, into, collected}
use Rattle.forms.specs.Compact.{whole}
use Rattle.forms.specs.Compact.{entered, items, front, form_terms, pair_form, same}
use Rattle.forms.specs.Converting.{reading}
use Rattle.forms.specs.Stored.{stored_of}
use Rattle.plain.specs.Words.{has, add, union, inits, all_inits, prefixes, distinct}
use Rattle.plain.specs.Coding.{judged, naming, handed_on, predicate, taken, coding_of}
use Rattle.plain.specs.Requests.{Request, call, answer, finish, counts, join, Counts}
use Rattle.plain.specs.Requests.{Reply, new, old_answer, done, used, joined, refused, Result, trace}
use Rattle.plain.specs.Joins.{pairs_named, copies_named, named, matching, copied, along, combined, before, all_read}
use Rattle.plain.specs.Joins.{ground, join_of}
use Rattle.plain.specs.Table as table
use Rattle.plain.specs.Table.{settled, Table, fresh, no_subgoal, no_answer, subgoal_at, answer_at, subgoal_of_answer}
use Rattle.plain.specs.Table.{answers_to, answer_nodes, nodes, counted, number, subgoal_of, answer_of, with_answer}
use Rattle.plain.specs.Table.{fits, appended, called, answered, side_of, joining, step, table_trace}
use Rattle.plain.specs.Order.{Exchanged, exchange, behind, unnumbered, compared, concerns, Heard, heard}
use Rattle.plain.specs.Order.{ArrivalOrder}
use Rattle.plain.specs.Examples.{var, atom, fun, count}

-- Messages for two airlines, subgoals 1 and 2, the two given here among them; subgoal 3 then joins both. Before and
-- behind the two stand refused calls.
abbrev arrivals_with : Request → Request → List Request
arrivals_with p q =
    call (fun 1 1 ∷ var 0 ∷ [])
    ∷ call (fun 2 1 ∷ var 0 ∷ [])
    ∷ call (fun 3 1 ∷ var 0 ∷ [])
    ∷ answer 1 (atom 5 ∷ [])
    ∷ answer 9 []
    ∷ p
    ∷ q
    ∷ answer 2 (atom 6 ∷ [])
    ∷ finish 1
    ∷ finish 2
    ∷ join 1 2 [] 3 (0 ∷ 0 ∷ [])
    ∷ answer 1 (atom 8 ∷ [])
    ∷ counts
    ∷ []

abbrev to_first : Request
to_first = answer 1 (atom 7 ∷ [])

abbrev to_second : Request
to_second = answer 2 (atom 6 ∷ [])

-- what the calls before the two reply, and those behind the old answer to subgoal 2
abbrev replies_before : List Reply
replies_before = new 1 ∷ new 2 ∷ new 3 ∷ new 1 ∷ refused 7 ∷ []

abbrev replies_behind : List Reply
replies_behind = done ∷ done ∷ joined 2 ∷ refused 8 ∷ used (count 15 3 5) ∷ []

abbrev replies_to : List Request → List Reply
replies_to qs = map (λ s. s.reply) (table_trace (coding_of 1) (fresh 15 3 5) qs)

-- what subgoal 2 hears of a list of calls
abbrev second_hears : List Request → List Heard
second_hears qs = heard 2 qs (table_trace (coding_of 1) (fresh 15 3 5) qs)

abbrev hears : Request → Reply → Heard
hears q r = record { request = q; reply = r }

abbrev heard_by_second : List Heard
heard_by_second =
    hears (call (fun 1 1 ∷ var 0 ∷ [])) (new 1)
    ∷ hears (call (fun 2 1 ∷ var 0 ∷ [])) (new 2)
    ∷ hears (call (fun 3 1 ∷ var 0 ∷ [])) (new 3)
    ∷ hears to_second (new 0)
    ∷ hears to_second (old_answer 0)
    ∷ hears (finish 1) done
    ∷ hears (finish 2) done
    ∷ hears (join 1 2 [] 3 (0 ∷ 0 ∷ [])) (joined 2)
    ∷ hears counts (used (count 15 3 5))
    ∷ []

-- In the one order answer 3 is the one to subgoal 2, in the other it is answer 2, and the old answer says so. No other
-- reply changes, and subgoal 2 hears the same of both.
abbrev pub Arrivals : Type 0
Arrivals =
    (replies_to (arrivals_with to_first to_second) ≡ replies_before ++ (new 2 ∷ new 3 ∷ old_answer 3 ∷ replies_behind))
    × (replies_to (arrivals_with to_second to_first)
    ≡ replies_before ++ (new 2 ∷ new 3 ∷ old_answer 2 ∷ replies_behind))
    × (second_hears (arrivals_with to_first to_second) ≡ heard_by_second)
    × (second_hears (arrivals_with to_second to_first) ≡ heard_by_second)
    × Exchanged (step (coding_of 1)) (fresh 15 3 5) (arrivals_with to_first to_second)
    (arrivals_with to_second to_first)

pub arrivals : Arrivals
unfolding heard concerns compared unnumbered trace step counted settled called answered fits appended answer_at nodes
    answer_nodes answers_to number subgoal_of answer_of subgoal_at no_subgoal no_answer distinct prefixes union add has
    all_inits inits judged naming handed_on reading callable predicate taken stored_of compact_form are_terms pair_form
    form_terms front symbolic token_of items entered filled last_of tail_of into inside collected whole reads begun
    applied paired shape_of arity_of every compact elements pairs numbered renamed met seen rank same side_of joining
    join_of table.given table.entered pairs_named copies_named named matching copied along combined before all_read
    ground
arrivals = (
  refl,
  refl,
  refl,
  refl,
  behind _ _ _ _ (behind _ _ _ _ (behind _ _ _ _ (behind _ _ _ _ (behind _ _ _ _ (exchange _ _ _ _ _ _ (record {
    apart = λ (e : ◌≡◌ {A = ℕ} 1 2). omega arith;
    first = (2, refl);
    second = (3, refl);
  })))))),
)

-- ---- tables of which it is false

-- an answer that enters is stored as the atom of its number, whatever was given
abbrev stores_number : Table → Result Table → Result Table
stores_number t r =
    let n = length r.state.answers in
    pick (ltb (length t.answers) n)
    (record { reply = r.reply; out = r.out; state = with_answer t (subgoal_of_answer r.state n) (atom n ∷ []) })
    r

abbrev pub number_stored : Table → Request → Result Table
number_stored t q = stores_number t (step (coding_of 1) t q)

-- the nodes used depend on whose answer came last
abbrev pub last_counted : Table → Counts
last_counted t = record {
  nodes = nodes t + subgoal_of_answer t (length t.answers);
  subgoals = length t.subgoals;
  answers = length t.answers;
}

-- with either of them in the place of the plain table's own, proved in proofs/OrderRuledOut.antt
abbrev pub OrderRuledOut : Type 0
OrderRuledOut =
    (ArrivalOrder number_stored counted (fresh 9 2 2) → ⊥)
    × (ArrivalOrder (step (coding_of 1)) last_counted (fresh 9 2 2) → ⊥)
