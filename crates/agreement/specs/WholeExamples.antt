-- The check on small spaces: one that calls leave, some that are damaged, two of them where no call refuses, and one
-- with its nodes numbered otherwise.
use Rattle.std.specs.Prelude.{true, false, List, [], ◌∷◌, ◌++◌, map, ◌≡◌, refl, ℕ, set}
use Rattle.basis.specs.Editions.{known_edition}
use Rattle.forms.specs.Cells.{arity_of, callable, shape_of, symbolic, token_of}
use Rattle.forms.specs.Terms.{pairs, every, applied, paired, begun, reads, are_terms}
use Rattle.forms.specs.Numbering.{rank, seen, met, renamed, numbered}
use Rattle.forms.specs.Compact.{compact, elements, compact_form, filled, last_of, tail_of, inside, into, collected}
use Rattle.forms.specs.Compact.{entered, items, front, form_terms, pair_form, same, are_forms, legal_form}
use Rattle.forms.specs.Converting.{reading}
use Rattle.forms.specs.Stored.{stored_of}
use Rattle.plain.specs.Coding.{judged, naming, handed_on, predicate, taken}
use Rattle.plain.specs.Requests.{Request, answer, next, Reply, new, old_answer, at, none_yet, no_more, refused, lent}
use Rattle.plain.specs.Requests.{trace, why, new_past, because}
use Rattle.plain.specs.Examples.{var, atom, fun}
use Rattle.space.specs.Layout.{subgoal_width, answer_width}
use Rattle.space.specs.Heading.{in_range, capacity, whole, counted, header_of, space_header}
use Rattle.space.specs.Judging.{follows, node_sound, both_or_neither, subgoal_sound, answer_sound}
use Rattle.trie.specs.Siblings.{search_siblings, search_children}
use Rattle.trie.specs.Walks.{walk_by, walk_from_by}
use Rattle.trie.specs.Paths.{gather}
use Rattle.trie.specs.Append.{lead_cell, append_node, append_path}
use Rattle.store.specs.Decisions.{answered_new, answered_old, answered_at, answered_by, starting, handed, onward}
use Rattle.store.specs.Decisions.{decide_by}
use Rattle.store.specs.Decisions.{firsts_from, named_by, new_at, reasoned_at, reasoned_by}
use Rattle.store.specs.Changes.{answer_entered, change_by}
use Rattle.store.specs.Calls.{reply, out_after, under_by, under_any_by, space_step, space_step_by, counted_cells}
use Rattle.agreement.specs.Whole.{every_below, up_to, root_whole, child_whole, link_whole, node_whole, ends_whole}
use Rattle.agreement.specs.Whole.{subgoal_whole, answer_whole, chain, chains, whole_view, whole_under, whole_any}
use Rattle.agreement.specs.Whole.{whole_space, led_up, first_leaf}
use Rattle.agreement.specs.Faults as faults
use Rattle.agreement.specs.Faults.{nothing, heading, first_failing, among, chained, fault_in, fault_under, fault_of}

-- subgoal p(X) with the answers 5 and 6, their nodes x and y: room for 7 nodes, 1 subgoal and 3 answers
abbrev sample_with : ℕ → ℕ → ℕ → ℕ → ℕ → ℕ → List ℕ
sample_with x i y j a b =
    1 ∷ 6 ∷ 1 ∷ 2 ∷ 8 ∷ 43 ∷ 49 ∷ 58
    ∷ 0 ∷ 1 ∷ 0 ∷ 0 ∷ 0
    ∷ fun 1 1 ∷ 2 ∷ 0 ∷ 0 ∷ 0
    ∷ var 0 ∷ 0 ∷ 0 ∷ 1 ∷ 1
    ∷ 0 ∷ 4 ∷ 0 ∷ 3 ∷ 0
    ∷ x ∷ 0 ∷ 5 ∷ 3 ∷ i
    ∷ y ∷ 0 ∷ 0 ∷ 3 ∷ j
    ∷ 0 ∷ 0 ∷ 0 ∷ 0 ∷ 0
    ∷ 2 ∷ 3 ∷ 1 ∷ 0 ∷ 1 ∷ 2
    ∷ a ∷ 1 ∷ 2
    ∷ b ∷ 1 ∷ 0
    ∷ 0 ∷ 0 ∷ 0 ∷ []

-- as calls number the nodes
abbrev sample : List ℕ
sample = sample_with (atom 5) 1 (atom 6) 2 4 5

-- answer 1 is followed by none; node 4 has no next sibling
abbrev unchained : List ℕ
unchained = set sample 51 0

abbrev unlisted : List ℕ
unlisted = set sample 30 0

-- the last answer is one with another behind it; node 1 has a link that does not lead back; both answers have one token
abbrev endless : List ℕ
endless = set sample 48 1

abbrev misled : List ℕ
misled = set sample 17 1

abbrev doubled : List ℕ
doubled = sample_with (atom 5) 1 (atom 5) 2 4 5

-- three answers, the first two followed by the third: as many pointers as answers, and answer 2 on no chain
abbrev skipping : List ℕ
skipping =
    1 ∷ 7 ∷ 1 ∷ 3 ∷ 8 ∷ 43 ∷ 49 ∷ 58
    ∷ 0 ∷ 1 ∷ 0 ∷ 0 ∷ 0
    ∷ fun 1 1 ∷ 2 ∷ 0 ∷ 0 ∷ 0
    ∷ var 0 ∷ 0 ∷ 0 ∷ 1 ∷ 1
    ∷ 0 ∷ 4 ∷ 0 ∷ 3 ∷ 0
    ∷ atom 5 ∷ 0 ∷ 5 ∷ 3 ∷ 1
    ∷ atom 6 ∷ 0 ∷ 6 ∷ 3 ∷ 2
    ∷ atom 7 ∷ 0 ∷ 0 ∷ 3 ∷ 3
    ∷ 2 ∷ 3 ∷ 1 ∷ 0 ∷ 1 ∷ 3
    ∷ 4 ∷ 1 ∷ 3
    ∷ 5 ∷ 1 ∷ 3
    ∷ 6 ∷ 1 ∷ 0 ∷ []

-- as of edition e, with this functor: in edition 2 fun 1 1 has 17 arguments, and fun 16 1 has one as in edition 1;
-- there is no edition 3
abbrev in_edition : ℕ → ℕ → List ℕ
in_edition e p = set (set sample 0 e) 13 p

abbrev replies : List ℕ → List Request → List Reply
replies cs qs = map (λ s. s.reply) (trace space_step counted_cells cs qs)

-- finished; and with answer 2, the last, followed by an answer that is not there
abbrev finished : List ℕ
finished = set sample 46 1

abbrev followed : List ℕ
followed = set finished 54 3

-- subgoal p(a) with the empty answer: open, as spaces may have it from before, or finished by it
abbrev ground_in : ℕ → List ℕ
ground_in state =
    1 ∷ 4 ∷ 1 ∷ 1 ∷ 8 ∷ 28 ∷ 34 ∷ 37
    ∷ 0 ∷ 1 ∷ 0 ∷ 0 ∷ 0
    ∷ fun 1 1 ∷ 2 ∷ 0 ∷ 0 ∷ 0
    ∷ atom 5 ∷ 0 ∷ 0 ∷ 1 ∷ 1
    ∷ 0 ∷ 0 ∷ 0 ∷ 3 ∷ 1
    ∷ 2 ∷ 3 ∷ 0 ∷ state ∷ 1 ∷ 1
    ∷ 3 ∷ 1 ∷ 0 ∷ []

-- p(a) and p(b), subgoals 1 and 2: the nodes of p(b) are written before those of p(a), and so the first child of p
-- leads to subgoal 2
abbrev crossed_with : ℕ → ℕ → List ℕ
crossed_with i j =
    1 ∷ 6 ∷ 2 ∷ 0 ∷ 8 ∷ 38 ∷ 50 ∷ 50
    ∷ 0 ∷ 1 ∷ 0 ∷ 0 ∷ 0
    ∷ fun 1 1 ∷ 2 ∷ 0 ∷ 0 ∷ 0
    ∷ atom 2 ∷ 0 ∷ 4 ∷ 1 ∷ i
    ∷ 0 ∷ 0 ∷ 0 ∷ 3 ∷ 0
    ∷ atom 1 ∷ 0 ∷ 0 ∷ 1 ∷ j
    ∷ 0 ∷ 0 ∷ 0 ∷ 5 ∷ 0 ∷ []

abbrev crossed : List ℕ
crossed = crossed_with 2 1 ++ (4 ∷ 5 ∷ 0 ∷ 0 ∷ 0 ∷ 0 ∷ 2 ∷ 3 ∷ 0 ∷ 0 ∷ 0 ∷ 0 ∷ [])

-- the same nodes, p(b) being subgoal 1
abbrev straight : List ℕ
straight = crossed_with 1 2 ++ (2 ∷ 3 ∷ 0 ∷ 0 ∷ 0 ∷ 0 ∷ 4 ∷ 5 ∷ 0 ∷ 0 ∷ 0 ∷ 0 ∷ [])

-- crossed would say of p(c) that subgoal 2 is the lowest that shares p: it does not pass
abbrev pub Crossed : Type 0
Crossed =
    (whole_space straight ≡ true)
    × (replies straight (why (fun 1 1 ∷ atom 3 ∷ []) ∷ []) ≡ because (new_past 1 1) ∷ [])
    × (whole_space crossed ≡ false)
    × (replies crossed (why (fun 1 1 ∷ atom 3 ∷ []) ∷ []) ≡ because (new_past 1 2) ∷ [])

pub crossing : Crossed
unfolding up_to whole_space whole_any whole_under whole_view chains chain answer_whole subgoal_whole led_up first_leaf
    ends_whole node_whole link_whole child_whole root_whole every_below trace lent in_range capacity counted
    known_edition header_of space_header subgoal_width answer_width follows node_sound both_or_neither subgoal_sound
    answer_sound search_siblings search_children walk_from_by walk_by gather lead_cell append_node append_path
    answered_new answered_old answered_at answered_by starting handed onward decide_by answer_entered change_by reply
    out_after under_by under_any_by space_step_by are_forms legal_form judged naming handed_on reading callable
    predicate taken stored_of compact_form are_terms pair_form form_terms front symbolic token_of items entered filled
    last_of tail_of into inside collected reads begun applied paired shape_of arity_of every compact elements pairs
    numbered renamed met seen rank same whole firsts_from named_by new_at reasoned_at reasoned_by
crossing = (refl, refl, refl, refl)

-- unchained loses answer 2, and unlisted takes an answer that it holds for new: neither refuses, and neither passes
abbrev pub Checked : Type 0
Checked =
    (whole_space sample ≡ true)
    × (replies sample (next 1 1 ∷ []) ≡ at 2 ∷ [])
    × (whole_space unchained ≡ false)
    × (replies unchained (next 1 0 ∷ next 1 1 ∷ []) ≡ at 1 ∷ none_yet ∷ [])
    × (whole_space unlisted ≡ false)
    × (replies unlisted (answer 1 (atom 6 ∷ []) ∷ []) ≡ new 3 ∷ [])
    × (whole_space endless ≡ false)
    × (whole_space misled ≡ false)
    × (whole_space doubled ≡ false)
    × (whole_space skipping ≡ false)
    × (whole_space (sample_with (atom 6) 2 (atom 5) 1 5 4) ≡ true)
    × (whole_space (in_edition 2 (fun 1 1)) ≡ false)
    × (whole_space (in_edition 2 (fun 16 1)) ≡ true)
    × (whole_space (in_edition 3 (fun 16 1)) ≡ false)

pub checked : Checked
unfolding up_to whole_space whole_any whole_under whole_view chains chain answer_whole subgoal_whole led_up first_leaf
    ends_whole node_whole link_whole child_whole root_whole every_below trace lent in_range capacity counted
    known_edition header_of space_header subgoal_width answer_width follows node_sound both_or_neither subgoal_sound
    answer_sound search_siblings search_children walk_from_by walk_by gather lead_cell append_node append_path
    answered_new answered_old answered_at answered_by starting handed onward decide_by answer_entered change_by reply
    out_after under_by under_any_by space_step_by are_forms legal_form judged naming handed_on reading callable
    predicate taken stored_of compact_form are_terms pair_form form_terms front symbolic token_of items entered filled
    last_of tail_of into inside collected reads begun applied paired shape_of arity_of every compact elements pairs
    numbered renamed met seen rank same whole
checked = (refl, refl, refl, refl, refl, refl, refl, refl, refl, refl, refl, refl, refl, refl)

-- what is broken in them
abbrev pub FirstBroken : Type 0
FirstBroken =
    (fault_of sample ≡ nothing)
    × (fault_of unchained ≡ faults.answer 2)
    × (fault_of unlisted ≡ faults.node 5)
    × (fault_of endless ≡ faults.subgoal 1)
    × (fault_of misled ≡ faults.node 1)
    × (fault_of doubled ≡ faults.node 5)
    × (fault_of skipping ≡ faults.answer 2)
    × (fault_of (sample_with (atom 6) 2 (atom 5) 1 5 4) ≡ nothing)
    × (fault_of (in_edition 2 (fun 1 1)) ≡ faults.subgoal 1)
    × (fault_of (in_edition 3 (fun 16 1)) ≡ heading)

pub first-broken : FirstBroken
unfolding fault_of fault_under fault_in first_failing chained among whole_space whole_any whole_under whole_view chains
    chain answer_whole subgoal_whole led_up first_leaf ends_whole node_whole link_whole child_whole root_whole
    every_below trace lent in_range capacity counted known_edition header_of space_header subgoal_width answer_width
    follows node_sound both_or_neither subgoal_sound answer_sound search_siblings search_children walk_from_by walk_by
    gather lead_cell append_node append_path answered_new answered_old answered_at answered_by starting handed onward
    decide_by answer_entered change_by reply out_after under_by under_any_by space_step_by are_forms legal_form judged
    naming handed_on reading callable predicate taken stored_of compact_form are_terms pair_form form_terms front
    symbolic token_of items entered filled last_of tail_of into inside collected reads begun applied paired shape_of
    arity_of every compact elements pairs numbered renamed met seen rank same whole
first-broken = (refl, refl, refl, refl, refl, refl, refl, refl, refl, refl)

-- answer 1 is followed by itself; and four answers, the first followed by the fourth, and the third by itself: answer 3
-- is broken, and answers 2 and 3 are on no chain
abbrev circling : List ℕ
circling = set sample 51 1

abbrev strayed : List ℕ
strayed =
    1 ∷ 8 ∷ 1 ∷ 4 ∷ 8 ∷ 48 ∷ 54 ∷ 66
    ∷ 0 ∷ 1 ∷ 0 ∷ 0 ∷ 0
    ∷ fun 1 1 ∷ 2 ∷ 0 ∷ 0 ∷ 0
    ∷ var 0 ∷ 0 ∷ 0 ∷ 1 ∷ 1
    ∷ 0 ∷ 4 ∷ 0 ∷ 3 ∷ 0
    ∷ atom 5 ∷ 0 ∷ 5 ∷ 3 ∷ 1
    ∷ atom 6 ∷ 0 ∷ 6 ∷ 3 ∷ 2
    ∷ atom 7 ∷ 0 ∷ 7 ∷ 3 ∷ 3
    ∷ atom 8 ∷ 0 ∷ 0 ∷ 3 ∷ 4
    ∷ 2 ∷ 3 ∷ 1 ∷ 0 ∷ 1 ∷ 4
    ∷ 4 ∷ 1 ∷ 4
    ∷ 5 ∷ 1 ∷ 4
    ∷ 6 ∷ 1 ∷ 3
    ∷ 7 ∷ 1 ∷ 0 ∷ []

-- Of two broken records the kind decides, not the number: the header, then the nodes, the subgoals, the answers, each
-- kind by number; then the answers that the chains leave out.
abbrev pub TwoBroken : Type 0
TwoBroken =
    (fault_of circling ≡ faults.answer 1)
    × (fault_of (set unlisted 0 3) ≡ heading)
    × (fault_of (set unlisted 48 1) ≡ faults.node 5)
    × (fault_of (set unlisted 51 1) ≡ faults.node 5)
    × (fault_of (set endless 51 1) ≡ faults.subgoal 1)
    × (fault_of (set unlisted 17 1) ≡ faults.node 1)
    × (fault_of strayed ≡ faults.answer 3)
    × (fault_of (set strayed 62 4) ≡ faults.answer 2)

pub two-broken : TwoBroken
unfolding fault_of fault_under fault_in first_failing chained among chains chain answer_whole subgoal_whole led_up
    first_leaf ends_whole node_whole link_whole child_whole root_whole in_range capacity counted known_edition header_of
    space_header subgoal_width answer_width follows node_sound both_or_neither subgoal_sound answer_sound
    search_siblings search_children walk_from_by walk_by gather are_forms legal_form judged naming callable predicate
    stored_of compact_form are_terms pair_form form_terms front symbolic token_of items entered filled last_of tail_of
    into inside collected reads begun applied paired shape_of arity_of every compact elements pairs numbered renamed met
    seen rank same whole
two-broken = (refl, refl, refl, refl, refl, refl, refl, refl)

-- a finished subgoal knows its own answers: 8 is for those that it lacks, and the last answer is judged (9) before it
abbrev pub Held : Type 0
Held =
    (replies finished (answer 1 (atom 6 ∷ []) ∷ answer 1 (atom 7 ∷ []) ∷ next 1 2 ∷ [])
    ≡ old_answer 2 ∷ refused 8 ∷ no_more ∷ [])
    × (replies followed (answer 1 (atom 5 ∷ []) ∷ answer 1 (atom 7 ∷ []) ∷ []) ≡ old_answer 1 ∷ refused 9 ∷ [])
    × (replies (ground_in 0) (answer 1 [] ∷ next 1 1 ∷ []) ≡ old_answer 1 ∷ none_yet ∷ [])
    × (replies (ground_in 1) (answer 1 [] ∷ next 1 1 ∷ []) ≡ old_answer 1 ∷ no_more ∷ [])
    × (whole_space (ground_in 0) ≡ true)
    × (whole_space (ground_in 1) ≡ true)

pub held : Held
unfolding up_to whole_space whole_any whole_under whole_view chains chain answer_whole subgoal_whole led_up first_leaf
    ends_whole node_whole link_whole child_whole root_whole every_below trace lent in_range capacity counted
    known_edition header_of space_header subgoal_width answer_width follows node_sound both_or_neither subgoal_sound
    answer_sound search_siblings search_children walk_from_by walk_by gather lead_cell append_node append_path
    answered_new answered_old answered_at answered_by starting handed onward decide_by answer_entered change_by reply
    out_after under_by under_any_by space_step_by are_forms legal_form judged naming handed_on reading callable
    predicate taken stored_of compact_form are_terms pair_form form_terms front symbolic token_of items entered filled
    last_of tail_of into inside collected reads begun applied paired shape_of arity_of every compact elements pairs
    numbered renamed met seen rank same whole
held = (refl, refl, refl, refl, refl, refl)
