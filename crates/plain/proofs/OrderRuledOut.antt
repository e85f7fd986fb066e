-- Arrival order is false of the two tables of specs/OrderExamples.antt: two answers change places, and a difference is
-- seen.
use mathlib.Core.List.{List, [], ◌∷◌}
use mathlib.Core.Path.{◌≡◌, refl, ap}
use Prim.Native.Nat.{ℕ}
use native.Mathlib.Omega.{arith}
use lib.ListN.{get_or}
use Rattle.forms.specs.Cells.{arity_of, callable, shape_of, symbolic, token_of}
use Rattle.forms.specs.Terms.{pairs, every, applied, paired, begun, reads, are_terms}
use Rattle.forms.specs.Numbering.{rank, seen, met, renamed, numbered}
use Rattle.forms.specs.Compact.{compact, elements, compact_form, filled, last_of, tail_of, inside, into, collected, whole}
use Rattle.forms.specs.Compact.{entered, items, front, form_terms, pair_form, same}
use Rattle.forms.specs.Converting.{reading}
use Rattle.forms.specs.Stored.{stored_of}
use Rattle.plain.specs.Words.{has, add, union, inits, all_inits, prefixes, distinct}
use Rattle.plain.specs.Coding.{judged, naming, handed_on, predicate, taken, coding_of}
use Rattle.plain.specs.Requests.{Request, call, answer, Counts, at, none_yet, no_more, State, Open, Finished, Seen, trace, left}
use Rattle.plain.specs.Table.{settled, Table, fresh, no_subgoal, no_answer, subgoal_at, answer_at, answers_to, answer_nodes}
use Rattle.plain.specs.Table.{nodes, counted, number, subgoal_of, answer_of, after, following, starting, onward}
use Rattle.plain.specs.Table.{writes, fits, appended, called, answered, step}
use Rattle.plain.specs.Order.{Exchanged, exchange, behind, loads_of, HandsOut, SameAnswers, ArrivalOrder}
use Rattle.plain.specs.Examples.{var, atom, fun}
use Rattle.plain.specs.OrderExamples.{number_stored, last_counted, OrderRuledOut}

abbrev to_first : Request
to_first = answer 1 (atom 5 ∷ [])

abbrev to_second : Request
to_second = answer 2 (atom 6 ∷ [])

-- two subgoals, and an answer to each
abbrev both_with : Request → Request → List Request
both_with p q = call (fun 1 1 ∷ var 0 ∷ []) ∷ call (fun 2 1 ∷ var 0 ∷ []) ∷ p ∷ q ∷ []

-- ---- an answer's form is its number

abbrev one : Table
one = left number_stored (fresh 9 2 2) (both_with to_first to_second)

abbrev two : Table
two = left number_stored (fresh 9 2 2) (both_with to_second to_first)

-- the first cell that the first call wrote
abbrev first_cell : List Seen → ℕ
first_cell [] = 0
first_cell (x ∷ xs) = get_or x.out 0 0

loads-differ : (x : State) (ns ms : List ℕ) → HandsOut number_stored one 1 x 0 ns → HandsOut number_stored two 1 x 0 ms
    → trace number_stored counted one (loads_of ns (0 ∷ [])) ≡ trace number_stored counted two (loads_of ms (0 ∷ [])) → ⊥
unfolding left trace step counted settled called answered fits appended starting onward writes nodes answer_nodes answers_to
    number subgoal_of answer_of after following subgoal_at answer_at no_subgoal no_answer distinct prefixes union add has
    all_inits inits judged naming handed_on reading callable predicate taken stored_of compact_form are_terms pair_form form_terms front
    symbolic token_of items entered filled last_of tail_of into inside collected whole reads begun applied paired shape_of
    arity_of every compact elements pairs numbered renamed met seen rank same
loads-differ Open [] ms a b e = let a' : at 1 ≡ none_yet = a in let z : ◌≡◌ {A = ℕ} 0 1 = cc in omega arith
loads-differ Finished [] ms a b e = let a' : at 1 ≡ no_more = a in let z : ◌≡◌ {A = ℕ} 0 1 = cc in omega arith
loads-differ Open (n ∷ ns) [] a b e = let b' : at 2 ≡ none_yet = b in let z : ◌≡◌ {A = ℕ} 0 1 = cc in omega arith
loads-differ Finished (n ∷ ns) [] a b e = let b' : at 2 ≡ no_more = b in let z : ◌≡◌ {A = ℕ} 0 1 = cc in omega arith
loads-differ x (n ∷ ns) (m ∷ ms) a b e =
    let a' : at 1 ≡ at n = a.0 in
    let b' : at 2 ≡ at m = b.0 in
    let i : n ≡ 1 = cc in
    let j : m ≡ 2 = cc in
    let f : first_cell (trace number_stored counted one (loads_of (n ∷ ns) (0 ∷ [])))
    ≡ first_cell (trace number_stored counted two (loads_of (m ∷ ms) (0 ∷ []))) = ap first_cell e in
    let k : atom 1 ≡ atom 2 = rw (i, j) at f in
    omega (arith, k)

exchanged : Exchanged number_stored (fresh 9 2 2) (both_with to_first to_second) (both_with to_second to_first)
unfolding left trace step counted settled called answered fits appended nodes answer_nodes answers_to number subgoal_of answer_of
    subgoal_at answer_at no_subgoal no_answer distinct prefixes union add has all_inits inits judged naming handed_on reading
    callable predicate taken stored_of compact_form are_terms pair_form form_terms front symbolic token_of items entered filled
    last_of tail_of into inside collected whole reads begun applied paired shape_of arity_of every compact elements pairs
    numbered renamed met seen rank same
exchanged = behind _ _ _ _ (behind _ _ _ _ (exchange _ _ _ _ _ _ (record {
  apart = λ (e : ◌≡◌ {A = ℕ} 1 2). omega arith;
  first = (1, refl);
  second = (2, refl);
})))

number-stored : ArrivalOrder number_stored counted (fresh 9 2 2) → ⊥
unfolding left step counted settled called answered fits appended nodes answer_nodes answers_to number subgoal_of answer_of
    subgoal_at answer_at no_subgoal no_answer distinct prefixes union add has all_inits inits judged naming handed_on reading
    callable predicate taken stored_of compact_form are_terms pair_form form_terms front symbolic token_of items entered filled
    last_of tail_of into inside collected whole reads begun applied paired shape_of arity_of every compact elements pairs
    numbered renamed met seen rank same
number-stored h =
    let k : SameAnswers number_stored counted 1 one two =
    (h.rearranging _ _ exchanged).states.same-answers 1 (omega arith) (omega arith) in
    loads-differ k.state k.numbers k.other-numbers k.handed k.other-handed (k.loads (0 ∷ []))

-- ---- a count by the last answer

exchanged-own : Exchanged (step (coding_of 1)) (fresh 9 2 2) (both_with to_first to_second) (both_with to_second to_first)
unfolding left trace step counted settled called answered fits appended nodes answer_nodes answers_to number subgoal_of answer_of
    subgoal_at answer_at no_subgoal no_answer distinct prefixes union add has all_inits inits judged naming handed_on reading
    callable predicate taken stored_of compact_form are_terms pair_form form_terms front symbolic token_of items entered filled
    last_of tail_of into inside collected whole reads begun applied paired shape_of arity_of every compact elements pairs
    numbered renamed met seen rank same
exchanged-own = behind _ _ _ _ (behind _ _ _ _ (exchange _ _ _ _ _ _ (record {
  apart = λ (e : ◌≡◌ {A = ℕ} 1 2). omega arith;
  first = (1, refl);
  second = (2, refl);
})))

last-counted : ArrivalOrder (step (coding_of 1)) last_counted (fresh 9 2 2) → ⊥
unfolding left step settled called answered fits appended nodes answer_nodes answers_to number subgoal_of answer_of subgoal_at
    answer_at no_subgoal no_answer distinct prefixes union add has all_inits inits judged naming handed_on reading callable
    predicate taken stored_of compact_form are_terms pair_form form_terms front symbolic token_of items entered filled last_of
    tail_of into inside collected whole reads begun applied paired shape_of arity_of every compact elements pairs
    numbered renamed met seen rank same
last-counted h =
    let k : ◌≡◌ {A = ℕ} 11 10 = ap (λ (n : Counts). n.nodes) (h.rearranging _ _ exchanged-own).states.same-counts in
    omega (arith, k)

pub order-ruled-out : OrderRuledOut
order-ruled-out = (number-stored, last-counted)
