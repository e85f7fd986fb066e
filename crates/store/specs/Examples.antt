-- The marked tables, the worked session and refusals in their order, on the cells of small spaces.
use Rattle.std.specs.Prelude.{List, [], ◌∷◌, map, ◌≡◌, refl, ℕ, set, replicate}
use Rattle.basis.specs.Editions.{known_edition}
use Rattle.forms.specs.Cells.{arity_of, callable, tag, shape_of, symbolic, token_of}
use Rattle.forms.specs.Terms.{pairs, every, applied, paired, begun, reads, are_terms}
use Rattle.forms.specs.Numbering.{rank, seen, met, renamed, numbered}
use Rattle.forms.specs.Compact.{compact, elements, compact_form, filled, last_of, tail_of, inside, into, collected}
use Rattle.forms.specs.Compact.{entered, items, front, form_terms, pair_form, same}
use Rattle.forms.specs.Converting.{reading}
use Rattle.forms.specs.Compact.{are_forms, legal_form}
use Rattle.forms.specs.Stored.{stored_of}
use Rattle.plain.specs.Coding.{judged, naming, handed_on, predicate, taken, substituted, coding_of}
use Rattle.plain.specs.Requests.{Request, call, answer, counts}
use Rattle.plain.specs.Requests.{Reply, new, old_answer, used, refused, Seen}
use Rattle.plain.specs.Requests.{lent, trace}
use Rattle.plain.specs.Examples.{atom, fun, count, saw, three, session_calls, session_seen, number_calls}
use Rattle.plain.specs.Examples.{number_replies}
use Rattle.space.specs.Layout.{sizes, sizes_of, subgoal_width, answer_width}
use Rattle.space.specs.Heading.{in_range, capacity, whole, counted, header_of, space_header}
use Rattle.space.specs.Fresh.{fresh_cells}
use Rattle.space.specs.Judging.{follows, node_sound, both_or_neither, subgoal_sound, answer_sound}
use Rattle.trie.specs.Siblings.{search_siblings, search_children}
use Rattle.trie.specs.Walks.{walk_from_by, walk_by}
use Rattle.trie.specs.Paths.{gather}
use Rattle.trie.specs.Append.{lead_cell, append_node, append_path}
use Rattle.store.specs.Decisions.{called_old, called_new, called_at, called_by, answered_new, answered_old, answered_at}
use Rattle.store.specs.Decisions.{answered_by, starting, handed, onward, on_path, loaded, instanced, decide_by}
use Rattle.store.specs.Changes.{subgoal_entered, answer_entered, change_by}
use Rattle.store.specs.Calls.{reply, out_after, under_by, under_any_by, space_step, space_step_by, cell_step}
use Rattle.store.specs.Calls.{cell_trace, counted_cells}

abbrev space : ℕ → ℕ → ℕ → List ℕ
space n f a = fresh_cells sizes n f a []

abbrev traced : List ℕ → List Request → List Seen
traced cs qs = cell_trace sizes (coding_of 1) cs qs

abbrev replies : List ℕ → List Request → List Reply
replies cs qs = map (λ s. s.reply) (traced cs qs)

abbrev pub Tables : Type 0
Tables =
    (traced (space 11 3 0) three
    ≡ saw (new 1) (count 5 1 0) ∷ saw (new 2) (count 9 2 0) ∷ saw (new 3) (count 11 3 0) ∷ [])
    × (traced (space 10 3 0) three
    ≡ saw (new 1) (count 5 1 0) ∷ saw (new 2) (count 9 2 0) ∷ saw (refused 10) (count 9 2 0) ∷ [])
    × (traced (space 4 1 1) (call (fun 1 1 ∷ atom 1 ∷ []) ∷ answer 1 [] ∷ answer 1 [] ∷ [])
    ≡ saw (new 1) (count 4 1 0) ∷ saw (new 1) (count 4 1 1) ∷ saw (old_answer 1) (count 4 1 1) ∷ [])
    × (traced (space 11 1 2) session_calls ≡ session_seen)
    × (replies (space 12 2 1) number_calls ≡ number_replies)

-- a node, a link and a header that are damaged
abbrev pub Damage : Type 0
Damage =
    (replies (set (space 4 1 1) 11 1) (call (atom 1 ∷ []) ∷ counts ∷ []) ≡ refused 9 ∷ used (count 1 0 0) ∷ [])
    × (replies (set (space 4 1 1) 0 2) (call (atom 1 ∷ []) ∷ counts ∷ []) ≡ refused 1 ∷ refused 1 ∷ [])

-- what a space of an edition answers
abbrev replies_in : ℕ → List Request → List Reply
replies_in e qs = map (λ s. s.reply) (trace space_step counted_cells (fresh_cells (sizes_of e) 30 2 2 []) qs)

-- a functor with this payload over as many atoms
abbrev applying : ℕ → ℕ → Request
applying payload n = call (tag 4 payload ∷ replicate n (atom 1))

-- 18 is name 1 with 2 arguments in edition 1, and name 0 with 18 in edition 2; no space is of edition 0 or 256
abbrev pub Editions : Type 0
Editions =
    (replies_in 1 (applying 18 2 ∷ applying 18 18 ∷ []) ≡ new 1 ∷ refused 3 ∷ [])
    × (replies_in 2 (applying 18 2 ∷ applying 18 18 ∷ []) ≡ refused 3 ∷ new 1 ∷ [])
    × (replies_in 0 (applying 18 2 ∷ counts ∷ []) ≡ refused 1 ∷ refused 1 ∷ [])
    × (replies_in 256 (applying 18 2 ∷ counts ∷ []) ≡ refused 1 ∷ refused 1 ∷ [])

pub examples : Tables × Damage × Editions
unfolding trace lent in_range capacity counted known_edition header_of space_header subgoal_width answer_width
    fresh_cells follows node_sound both_or_neither subgoal_sound answer_sound search_siblings search_children
    walk_from_by walk_by gather lead_cell append_node append_path called_old called_new called_at called_by answered_new
    answered_old answered_at answered_by starting handed onward on_path loaded instanced decide_by subgoal_entered
    answer_entered change_by reply out_after under_by under_any_by space_step_by cell_step are_forms legal_form judged
    naming handed_on reading callable predicate taken stored_of substituted compact_form are_terms pair_form form_terms
    front symbolic token_of items entered filled last_of tail_of into inside collected reads begun applied paired
    shape_of arity_of every compact elements pairs numbered renamed met seen rank same whole
examples = ((refl, refl, refl, refl, refl), (refl, refl), (refl, refl, refl, refl))
