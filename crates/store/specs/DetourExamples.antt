-- Detours on the cells of a small space, sound and damaged.
use Rattle.std.specs.Prelude.{true, List, [], ◌∷◌, ◌++◌, map, ◌≡◌, refl, ℕ, ◌+◌, ◌*◌, ◌-◌, set}
use Rattle.forms.specs.Cells.{arity_of, callable, shape_of, symbolic, token_of}
use Rattle.forms.specs.Terms.{pairs, every, applied, paired, begun, reads, are_terms}
use Rattle.forms.specs.Numbering.{rank, seen, met, renamed, numbered}
use Rattle.forms.specs.Compact.{compact, elements, compact_form, filled, last_of, tail_of, inside, into, collected}
use Rattle.forms.specs.Compact.{entered, items, front, form_terms, pair_form, same, are_forms, legal_form}
use Rattle.forms.specs.Stored.{stored_of}
use Rattle.forms.specs.Converting.{reading}
use Rattle.plain.specs.Coding.{judged, naming, handed_on, predicate, taken, coding_of}
use Rattle.plain.specs.Requests.{Request, detours, Reply, refused, lent, trace, left}
use Rattle.plain.specs.Detours.{diverts, total_of, better, trying, tries, search, detour, one_cell, offers, all_offer}
use Rattle.plain.specs.Detours.{goals_fit, any_open, few_goals, detours_of, all_within}
use Rattle.plain.specs.DetourExamples.{belts, ends, found_so, searches, search_replies}
use Rattle.space.specs.Layout.{sizes, subgoal_width, answer_width}
use Rattle.space.specs.Heading.{in_range, capacity, whole, counted, header_of}
use Rattle.space.specs.Fresh.{fresh_cells}
use Rattle.space.specs.Judging.{follows, node_sound, both_or_neither, subgoal_sound, answer_sound}
use Rattle.trie.specs.Siblings.{search_siblings, search_children}
use Rattle.trie.specs.Walks.{walk_by, walk_from_by}
use Rattle.trie.specs.Paths.{gather}
use Rattle.trie.specs.Append.{lead_cell, append_node, append_path}
use Rattle.store.specs.Decisions.{called_old, called_new, called_at, called_by, answered_new, answered_old}
use Rattle.store.specs.Decisions.{answered_at, answered_by, lives_behind, lives_from, goal_before, goals_in, detours_in}
use Rattle.store.specs.Decisions.{decide_by}
use Rattle.store.specs.Changes.{subgoal_entered, answer_entered, change_by}
use Rattle.store.specs.Calls.{reply, out_after, under_by, cell_step, cell_trace}

abbrev space : ℕ → ℕ → ℕ → List ℕ
space n f a = fresh_cells sizes n f a []

abbrev replies : List ℕ → List Request → List Reply
replies cs qs = map (λ s. s.reply) (cell_trace sizes (coding_of 1) cs qs)

-- the cells after the belts were filled and finished: 30 nodes, 3 subgoals, 5 answers
abbrev filled_cells : List ℕ
filled_cells = left (cell_step sizes (coding_of 1)) (space 30 3 5) (belts ++ ends)

-- cell k of answer a
abbrev answer_cell : ℕ → ℕ → ℕ
answer_cell a k = 158 + 18 + 3 * a - 3 + k

-- As the plain table. Then the last answer of the second goal names another subgoal, or no node: 9, whatever the
-- budget, and before 22, which the third subgoal would be; 7 comes before. A subgoal that is no goal is not read.
abbrev pub DetouredCells : Type 0
DetouredCells =
    (replies filled_cells searches ≡ search_replies)
    × (replies (set filled_cells (answer_cell 5 1) 1) (detours (1 ∷ 2 ∷ []) 0 ∷ detours (2 ∷ 4 ∷ []) 0 ∷ [])
    ≡ refused 9 ∷ refused 7 ∷ [])
    × (replies (set filled_cells (answer_cell 5 0) 30) (detours (3 ∷ 2 ∷ []) 9 ∷ []) ≡ refused 9 ∷ [])
    × (replies (set filled_cells (answer_cell 5 0) 30) (detours (1 ∷ []) 9 ∷ []) ≡ found_so 3 (3 ∷ []) 2 true ∷ [])

pub detour-examples : DetouredCells
unfolding trace left lent in_range capacity counted header_of subgoal_width answer_width fresh_cells follows node_sound
    both_or_neither subgoal_sound answer_sound search_siblings search_children walk_from_by walk_by gather lead_cell
    append_node append_path called_old called_new called_at called_by answered_new answered_old answered_at answered_by
    lives_behind lives_from goal_before goals_in detours_in decide_by subgoal_entered answer_entered change_by reply
    out_after under_by cell_step diverts total_of better trying tries search detour one_cell offers all_offer goals_fit
    any_open few_goals detours_of all_within are_forms legal_form judged naming handed_on reading callable predicate
    taken stored_of compact_form are_terms pair_form form_terms front symbolic token_of items entered filled last_of
    tail_of into inside collected reads begun applied paired shape_of arity_of every compact elements pairs numbered
    renamed met seen rank same whole
detour-examples = (refl, refl, refl, refl)
