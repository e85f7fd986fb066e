-- Joins on the cells of small spaces: the counts they leave, all or nothing, and damage to what they read.
use Rattle.std.specs.Prelude.{List, [], ◌∷◌, ◌++◌, map, ◌≡◌, refl, ℕ, ◌+◌, ◌*◌, ◌-◌, set}
use Rattle.forms.specs.Cells.{arity_of, callable, shape_of, symbolic, token_of}
use Rattle.forms.specs.Terms.{pairs, every, applied, paired, begun, reads, are_terms}
use Rattle.forms.specs.Numbering.{rank, seen, met, renamed, numbered}
use Rattle.forms.specs.Compact.{compact, elements, compact_form, filled, last_of, tail_of, inside, into, collected}
use Rattle.forms.specs.Compact.{entered, items, front, form_terms, pair_form, same}
use Rattle.forms.specs.Converting.{reading}
use Rattle.forms.specs.Compact.{are_forms, legal_form}
use Rattle.forms.specs.Stored.{stored_of}
use Rattle.plain.specs.Words.{has, common, most}
use Rattle.plain.specs.Coding.{judged, naming, handed_on, predicate, taken, coding_of}
use Rattle.plain.specs.Requests.{Request, call, next, load, counts, join, Reply, new, at, none_yet, cells, used}
use Rattle.plain.specs.Requests.{joined, refused, lent, trace, left}
use Rattle.plain.specs.Joins.{pairs_named, copies_named, named, matching, copied, along, combined, before, all_read}
use Rattle.plain.specs.Joins.{ground, join_of}
use Rattle.plain.specs.Examples.{atom, fun, count}
use Rattle.plain.specs.JoinExamples.{sources, ends, chain}
use Rattle.space.specs.Layout.{sizes, subgoal_width, answer_width}
use Rattle.space.specs.Heading.{in_range, capacity, whole, counted, header_of}
use Rattle.space.specs.Fresh.{fresh_cells}
use Rattle.space.specs.Judging.{follows, node_sound, both_or_neither, subgoal_sound, answer_sound}
use Rattle.trie.specs.Siblings.{search_siblings, search_children}
use Rattle.trie.specs.Walks.{walk_by, walk_from_by}
use Rattle.trie.specs.Paths.{gather}
use Rattle.trie.specs.Append.{lead_cell, append_node, append_path}
use Rattle.store.specs.Decisions.{called_old, called_new, called_at, called_by, answered_new, answered_old}
use Rattle.store.specs.Decisions.{answered_at, answered_by, starting, handed, onward, on_path, loaded, instanced}
use Rattle.store.specs.Decisions.{headed, chain_from, on_chains, side_in, met_sound, all_sound_by, lacking, missing}
use Rattle.store.specs.Decisions.{nodes_needed_by, answers_needed_by, joining_by, decide_by}
use Rattle.store.specs.Changes.{subgoal_entered, answer_entered, answer_given, form_given_by, forms_given_by, change_by}
use Rattle.store.specs.Calls.{reply, out_after, under_by, cell_step, cell_trace}

abbrev space : ℕ → ℕ → ℕ → List ℕ
space n f a = fresh_cells sizes n f a []

abbrev replies : List ℕ → List Request → List Reply
replies cs qs = map (λ s. s.reply) (cell_trace sizes (coding_of 1) cs qs)

-- the cells after the sources were filled and finished
abbrev filled_cells : ℕ → ℕ → ℕ → List ℕ
filled_cells n f a = left (cell_step sizes (coding_of 1)) (space n f a) (sources ++ ends)

abbrev pub Joined : Type 0
Joined =
    (replies (filled_cells 24 3 7) (chain ∷ chain ∷ counts ∷ load 6 (0 ∷ 0 ∷ []) ∷ next 3 6 ∷ next 3 7 ∷ [])
    ≡ joined 2 ∷ joined 0 ∷ used (count 24 3 7) ∷ cells 2 ∷ at 7 ∷ none_yet ∷ [])
    × (replies (filled_cells 23 3 7) (chain ∷ counts ∷ []) ≡ refused 10 ∷ used (count 21 3 5) ∷ [])
    × (replies (filled_cells 24 3 6) (chain ∷ counts ∷ []) ≡ refused 11 ∷ used (count 21 3 5) ∷ [])
    × (replies (filled_cells 27 3 9) (join 2 2 (1 ∷ 1 ∷ []) 3 (0 ∷ 0 ∷ 1 ∷ 0 ∷ []) ∷ counts ∷ [])
    ≡ joined 4 ∷ used (count 27 3 9) ∷ [])
    × (replies (filled_cells 24 4 6)
    (call (fun 4 1 ∷ atom 1 ∷ []) ∷ join 1 2 (1 ∷ 0 ∷ []) 4 [] ∷ join 1 2 (0 ∷ 0 ∷ []) 4 [] ∷ join 1 2 [] 4 []
    ∷ counts ∷ [])
    ≡ new 4 ∷ joined 1 ∷ refused 8 ∷ refused 8 ∷ used (count 24 4 6) ∷ [])

-- cell k of answer a in a space of 24 nodes and 3 subgoals
abbrev answer_cell : ℕ → ℕ → ℕ
answer_cell a k = 128 + 18 + 3 * a - 3 + k

-- the second answer of the first source names another subgoal, or no node; the first is followed by one of another
-- subgoal; a source's last answer is not read
abbrev pub Damage : Type 0
Damage =
    (replies (set (filled_cells 24 3 7) (answer_cell 3 1) 2) (chain ∷ counts ∷ [])
    ≡ refused 9 ∷ used (count 21 3 5) ∷ [])
    × (replies (set (filled_cells 24 3 7) (answer_cell 3 0) 21) (chain ∷ []) ≡ refused 9 ∷ [])
    × (replies (set (filled_cells 24 3 7) (answer_cell 1 2) 2) (chain ∷ []) ≡ refused 9 ∷ [])
    × (replies (set (filled_cells 24 3 7) (answer_cell 3 2) 5) (chain ∷ []) ≡ refused 9 ∷ [])

pub join-examples : Joined × Damage
unfolding trace left lent in_range capacity counted header_of subgoal_width answer_width fresh_cells follows node_sound
    both_or_neither subgoal_sound answer_sound search_siblings search_children walk_from_by walk_by gather lead_cell
    append_node append_path called_old called_new called_at called_by answered_new answered_old answered_at answered_by
    starting handed onward on_path loaded instanced headed chain_from on_chains side_in met_sound all_sound_by lacking
    missing nodes_needed_by answers_needed_by joining_by decide_by subgoal_entered answer_entered answer_given
    form_given_by forms_given_by change_by reply out_after under_by cell_step pairs_named copies_named named matching
    copied along combined before all_read ground join_of has common most are_forms legal_form judged naming handed_on
    reading callable predicate taken stored_of compact_form are_terms pair_form form_terms front symbolic token_of items
    entered filled last_of tail_of into inside collected reads begun applied paired shape_of arity_of every compact
    elements pairs numbered renamed met seen rank same whole
join-examples = ((refl, refl, refl, refl, refl), (refl, refl, refl, refl))
