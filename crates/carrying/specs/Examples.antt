-- The copy on small spaces: what it leaves, each refusal in its place, states as recorded, damage that it passes by.
use Rattle.basis.specs.declared.refusals.Refusal.TheVariants as refusal
use Rattle.std.specs.Prelude.{true, false, List, [], ◌∷◌, ◌≡◌, refl, ℕ, ◌+◌, ◌*◌, set, Err, Ok}
use Rattle.basis.specs.Editions.{known_edition}
use Rattle.forms.specs.Cells.{tag, arity_of, callable, shape_of, symbolic, token_of}
use Rattle.forms.specs.Terms.{pairs, every}
use Rattle.forms.specs.Numbering.{rank, seen, met, renamed, numbered}
use Rattle.forms.specs.Compact.{compact, elements, filled, last_of, tail_of, inside, into, collected}
use Rattle.forms.specs.Compact.{entered, items, front, form_terms, pair_form, same, are_forms, legal_form, whole}
use Rattle.forms.specs.Stored.{stored_of}
use Rattle.plain.specs.Words.{has, add, union, inits, all_inits, prefixes, distinct}
use Rattle.plain.specs.Coding.{predicate}
use Rattle.plain.specs.Table.{answers_to, answer_nodes, nodes}
use Rattle.plain.specs.Examples.{var, atom, int, fun}
use Rattle.space.specs.Layout.{subgoal_width, answer_width}
use Rattle.space.specs.Heading as heading
use Rattle.space.specs.Heading.{in_range, capacity, counted, header_of, space_header}
use Rattle.space.specs.Fresh.{fresh_cells, fresh_fits, fresh_answer, fresh_space, fresh_answer_in}
use Rattle.space.specs.Judging.{follows, node_sound, both_or_neither, subgoal_sound, answer_sound}
use Rattle.trie.specs.Siblings.{search_siblings, search_children}
use Rattle.trie.specs.Walks.{walk_by, walk_from_by}
use Rattle.trie.specs.Paths.{gather}
use Rattle.trie.specs.Append.{lead_cell, append_node, append_path}
use Rattle.store.specs.Decisions.{called_old, called_new, called_at, called_by, answered_new, answered_old, answered_at}
use Rattle.store.specs.Changes.{subgoal_entered, answer_entered, answer_given, form_given_by, change_by}
use Rattle.agreement.specs.Whole.{every_below, up_to, root_whole, child_whole, link_whole, node_whole, ends_whole}
use Rattle.agreement.specs.Whole.{subgoal_whole, answer_whole, chain, chains, whole_view, whole_under, whole_any}
use Rattle.agreement.specs.Whole.{whole_space, led_up, first_leaf}
use Rattle.carrying.specs.Recoding.{wider, name_fits, takes_word}
use Rattle.carrying.specs.Carrying.{takes_words, takes_table, holdable, carrying, all_different, none_alike}
use Rattle.carrying.specs.Copying.{subgoal_loads, answer_loads, source_loads, subgoal_given, subgoals_given}
use Rattle.carrying.specs.Copying.{answers_given, states_given, built, copy_under, copy_reply, copy_built, copy_space}
use Rattle.carrying.specs.Copying.{carry_reply, carry_space, resize_reply, resize_space}

-- as edition 2 has it
abbrev fun2 : ℕ → ℕ → ℕ
fun2 name arity = tag 4 (name * 256 + arity)

-- edition 1, 7 nodes, 2 subgoals, 2 answers: p(X), its answer 5, p(5) in this state, and its answer; p is this functor
abbrev running : ℕ → ℕ → List ℕ
running p state =
    1 ∷ 7 ∷ 2 ∷ 2 ∷ 8 ∷ 43 ∷ 55 ∷ 61
    ∷ 0 ∷ 1 ∷ 0 ∷ 0 ∷ 0
    ∷ p ∷ 2 ∷ 0 ∷ 0 ∷ 0
    ∷ var 0 ∷ 0 ∷ 5 ∷ 1 ∷ 1
    ∷ 0 ∷ 4 ∷ 0 ∷ 3 ∷ 0
    ∷ atom 5 ∷ 0 ∷ 0 ∷ 3 ∷ 1
    ∷ atom 5 ∷ 0 ∷ 0 ∷ 1 ∷ 2
    ∷ 0 ∷ 0 ∷ 0 ∷ 6 ∷ 2
    ∷ 2 ∷ 3 ∷ 1 ∷ 0 ∷ 1 ∷ 1
    ∷ 5 ∷ 6 ∷ 0 ∷ state ∷ 2 ∷ 2
    ∷ 4 ∷ 1 ∷ 0
    ∷ 6 ∷ 2 ∷ 0 ∷ []

-- the copy: both subgoals stand before the answers; one cell is past the end
abbrev copied : ℕ → List ℕ
copied state =
    2 ∷ 7 ∷ 2 ∷ 2 ∷ 8 ∷ 43 ∷ 55 ∷ 61
    ∷ 0 ∷ 1 ∷ 0 ∷ 0 ∷ 0
    ∷ fun2 1 1 ∷ 2 ∷ 0 ∷ 0 ∷ 0
    ∷ var 0 ∷ 0 ∷ 4 ∷ 1 ∷ 1
    ∷ 0 ∷ 6 ∷ 0 ∷ 3 ∷ 0
    ∷ atom 5 ∷ 0 ∷ 0 ∷ 1 ∷ 2
    ∷ 0 ∷ 0 ∷ 0 ∷ 5 ∷ 2
    ∷ atom 5 ∷ 0 ∷ 0 ∷ 3 ∷ 1
    ∷ 2 ∷ 3 ∷ 1 ∷ 0 ∷ 1 ∷ 1
    ∷ 4 ∷ 5 ∷ 0 ∷ state ∷ 2 ∷ 2
    ∷ 6 ∷ 1 ∷ 0
    ∷ 5 ∷ 2 ∷ 0 ∷ 9 ∷ []

-- 62 cells of any content, and one less than needed
abbrev lent : List ℕ
lent =
    3 ∷ 1 ∷ 4 ∷ 1 ∷ 5 ∷ 9 ∷ 2 ∷ 6 ∷ 5 ∷ 3 ∷ 5 ∷ 8 ∷ 9 ∷ 7 ∷ 9 ∷ 3 ∷ 2 ∷ 3
    ∷ 8 ∷ 4 ∷ 6 ∷ 2 ∷ 6 ∷ 4 ∷ 3 ∷ 3 ∷ 8 ∷ 3 ∷ 2 ∷ 7 ∷ 9
    ∷ 5 ∷ 0 ∷ 2 ∷ 8 ∷ 8 ∷ 4 ∷ 1
    ∷ 9 ∷ 7 ∷ 1 ∷ 6 ∷ 9 ∷ 3 ∷ 9 ∷ 9 ∷ 3 ∷ 7 ∷ 5 ∷ 1 ∷ 0 ∷ 5 ∷ 8 ∷ 2 ∷ 0 ∷ 9 ∷ 7 ∷ 4 ∷ 9 ∷ 4 ∷ 4 ∷ 9 ∷ []

abbrev small : List ℕ
small = 3 ∷ 1 ∷ 4 ∷ 1 ∷ 5 ∷ 9 ∷ 2 ∷ 6 ∷ []

-- the chain of answers is broken (answer 1 is said to be followed by answer 2): nothing of it is followed
abbrev unchained : List ℕ
unchained = set (running (fun 1 1) 1) 57 2

-- both subgoals are p(X)
abbrev twice : List ℕ
twice = set (set (running (fun 1 1) 1) 49 2) 51 1

-- subgoal 2 is the integer 5: it loads, and no call could have made it
abbrev uncalled : List ℕ
uncalled =
    1 ∷ 3 ∷ 1 ∷ 0 ∷ 8 ∷ 23 ∷ 29 ∷ 29
    ∷ 0 ∷ 1 ∷ 0 ∷ 0 ∷ 0
    ∷ int 5 ∷ 0 ∷ 0 ∷ 0 ∷ 1
    ∷ 0 ∷ 0 ∷ 0 ∷ 2 ∷ 0
    ∷ 1 ∷ 2 ∷ 0 ∷ 0 ∷ 0 ∷ 0 ∷ []

abbrev pub CopyExamples : Type 0
CopyExamples =
    -- states are written as they were, also an open ground subgoal that holds its answer
    (carry_reply 7 2 2 (running (fun 1 1) 1) lent ≡ Ok tt)
    × (carry_space 7 2 2 (running (fun 1 1) 1) lent ≡ copied 1)
    × (carry_space 7 2 2 (running (fun 1 1) 0) lent ≡ copied 0)
    × (whole_space (copied 0) ≡ true)
    -- a source of another edition, before a target that is too short, before two alike
    × (carry_reply 7 2 2 (copied 1) small ≡ Err refusal.Header)
    × (carry_reply 7 2 2 twice small ≡ Err refusal.Fresh)
    × (carry_reply 7 2 2 twice lent ≡ Err refusal.Records)
    × (carry_space 7 2 2 twice lent ≡ lent)
    -- the largest name, and one more: before a capacity that is too small
    × (carry_reply 7 2 2 (running (fun 1048575 1) 1) lent ≡ Ok tt)
    × (carry_reply 6 2 2 (running (fun 1048576 1) 1) lent ≡ Err refusal.Functor)
    × (carry_reply 6 2 2 (running (fun 1 1) 1) lent ≡ Err refusal.Capacity)
    × (carry_reply 7 1 2 (running (fun 1 1) 1) lent ≡ Err refusal.Capacity)
    × (carry_reply 7 2 1 (running (fun 1 1) 1) lent ≡ Err refusal.Capacity)
    -- damage that is not read does no harm: the copy is whole again
    × (whole_space unchained ≡ false)
    × (carry_space 7 2 2 unchained lent ≡ copied 1)
    -- what no call made is copied too, and fails the check as it did before
    × (carry_reply 3 1 0 uncalled lent ≡ Ok tt)
    × (whole_space (carry_space 3 1 0 uncalled lent) ≡ false)
    -- a space into other capacities of its own edition
    × (resize_reply 2 7 2 2 (copied 1) lent ≡ Ok tt)
    × (resize_space 2 7 2 2 (copied 1) lent ≡ copied 1)

pub examples : CopyExamples
unfolding led_up first_leaf copy_space copy_built copy_reply copy_under built states_given answers_given subgoals_given
    subgoal_given source_loads answer_loads subgoal_loads none_alike all_different carrying holdable takes_table
    takes_words takes_word name_fits wider up_to whole_space whole_any whole_under whole_view chains chain answer_whole
    subgoal_whole ends_whole node_whole link_whole child_whole root_whole every_below in_range capacity counted
    known_edition header_of space_header fresh_cells fresh_fits fresh_answer fresh_space fresh_answer_in subgoal_width
    answer_width follows node_sound both_or_neither subgoal_sound answer_sound search_siblings search_children
    walk_from_by walk_by gather lead_cell append_node append_path called_old called_new called_at called_by answered_new
    answered_old answered_at subgoal_entered answer_entered answer_given form_given_by change_by are_forms legal_form
    has add union inits all_inits prefixes distinct answers_to answer_nodes nodes predicate callable pair_form
    form_terms front symbolic token_of items entered filled last_of tail_of into inside collected shape_of arity_of
    stored_of every compact elements pairs numbered renamed met seen rank same whole heading.whole
examples = (
  refl,
  refl,
  refl,
  refl,
  refl,
  refl,
  refl,
  refl,
  refl,
  refl,
  refl,
  refl,
  refl,
  refl,
  refl,
  refl,
  refl,
  refl,
  refl,
)
