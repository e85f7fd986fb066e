-- Why on the cells of small spaces, sound and damaged.
use Rattle.std.specs.Prelude.{List, [], ◌∷◌, map, ◌≡◌, refl, ℕ, ◌+◌, ◌*◌, ◌-◌, set}
use Rattle.forms.specs.Cells.{arity_of, callable, shape_of, symbolic, token_of}
use Rattle.forms.specs.Terms.{pairs, every, applied, paired, begun, reads, are_terms}
use Rattle.forms.specs.Numbering.{rank, seen, met, renamed, numbered}
use Rattle.forms.specs.Compact.{compact, elements, compact_form, filled, last_of, tail_of, inside, into, collected}
use Rattle.forms.specs.Compact.{entered, items, front, form_terms, pair_form, same}
use Rattle.forms.specs.Stored.{stored_of}
use Rattle.forms.specs.Converting.{reading}
use Rattle.plain.specs.Coding.{judged, naming, handed_on, predicate, taken, coding_of}
use Rattle.plain.specs.Requests.{Request, call, why, new_past, Reply, new, because, refused, lent, trace, left}
use Rattle.plain.specs.Examples.{atom, fun, three}
use Rattle.plain.specs.ReasonExamples.{reason_calls, reason_replies}
use Rattle.space.specs.Layout.{sizes, subgoal_width, answer_width}
use Rattle.space.specs.Heading.{in_range, capacity, whole, counted, header_of}
use Rattle.space.specs.Fresh.{fresh_cells}
use Rattle.space.specs.Judging.{follows, node_sound, both_or_neither, subgoal_sound}
use Rattle.trie.specs.Siblings.{search_siblings, search_children}
use Rattle.trie.specs.Walks.{walk_by, walk_from_by}
use Rattle.trie.specs.Append.{lead_cell, append_node, append_path}
use Rattle.store.specs.Decisions.{called_old, called_new, called_at, called_by, firsts_from, named_by, new_at}
use Rattle.store.specs.Decisions.{reasoned_at, reasoned_by, decide_by}
use Rattle.store.specs.Changes.{subgoal_entered, change_by}
use Rattle.store.specs.Calls.{reply, out_after, under_by, cell_step, cell_trace}

abbrev space : ℕ → ℕ → ℕ → List ℕ
space n f a = fresh_cells sizes n f a []

abbrev replies : List ℕ → List Request → List Reply
replies cs qs = map (λ s. s.reply) (cell_trace sizes (coding_of 1) cs qs)

-- the cells after f(X,a), g(X,Y) and f(Y,1): nodes 1 to 3 are f VAR0 a, the leaf of subgoal 1
abbrev called : List ℕ
called = left (cell_step sizes (coding_of 1)) (space 20 4 0) three

-- f(c,d) shares f: first children lead from node 1 by node 2 to node 3
abbrev asked : List Request
asked = why (fun 1 2 ∷ atom 3 ∷ atom 4 ∷ []) ∷ []

-- cell k of node i, and of subgoal s
abbrev node_cell : ℕ → ℕ → ℕ
node_cell i k = 8 + 5 * i + k

abbrev subgoal_cell : ℕ → ℕ → ℕ
subgoal_cell s k = 108 + 6 * s - 6 + k

-- as the plain table; then with node 3 damaged (its parent, its link), or the leaf of subgoal 1; what is not on the
-- way, as node 9, the leaf of subgoal 3, is not read. A call does not go down there, and is new.
abbrev pub Asked : Type 0
Asked =
    (replies (space 11 3 0) reason_calls ≡ reason_replies)
    × (replies called asked ≡ because (new_past 1 1) ∷ [])
    × (replies (set called (node_cell 3 3) 1) asked ≡ refused 9 ∷ [])
    × (replies (set called (node_cell 3 4) 0) asked ≡ refused 9 ∷ [])
    × (replies (set called (node_cell 3 4) 5) asked ≡ refused 9 ∷ [])
    × (replies (set called (subgoal_cell 1 0) 2) asked ≡ refused 9 ∷ [])
    × (replies (set called (node_cell 9 3) 1) asked ≡ because (new_past 1 1) ∷ [])
    × (replies (set called (node_cell 3 3) 1) (call (fun 1 2 ∷ atom 3 ∷ atom 4 ∷ []) ∷ []) ≡ new 4 ∷ [])

pub why-examples : Asked
unfolding trace left lent in_range capacity counted header_of subgoal_width answer_width fresh_cells follows node_sound
    both_or_neither subgoal_sound search_siblings search_children walk_from_by walk_by lead_cell append_node append_path
    called_old called_new called_at called_by firsts_from named_by new_at reasoned_at reasoned_by decide_by
    subgoal_entered change_by reply out_after under_by cell_step judged naming handed_on reading callable predicate
    taken stored_of compact_form are_terms pair_form form_terms front symbolic token_of items entered filled last_of
    tail_of into inside collected reads begun applied paired shape_of arity_of every compact elements pairs numbered
    renamed met seen rank same whole
why-examples = (refl, refl, refl, refl, refl, refl, refl, refl)
