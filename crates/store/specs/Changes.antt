-- What a decision writes into the cells. It can no longer fail. A join searches again for each form that it gives, by
-- the same way of finding a child as its decision.
use Rattle.std.specs.Prelude.{ℕ, ◌+◌, ◌-◌, List, [], ◌∷◌, ◌++◌, eqb, length, Err, Ok}
use Rattle.basis.specs.Choice.{pick}
use Rattle.basis.specs.Writes.{Write, put, writes}
use Rattle.plain.specs.Words.{Word}
use Rattle.space.specs.Layout.{Sizes, nodes_cell, subgoals_cell, answers_cell, node_at, link_cell, subgoal_at}
use Rattle.space.specs.Layout.{answer_at}
use Rattle.space.specs.Layout.{state_cell, first_cell, last_cell, next_cell, node_to, subgoal_to, answer_to, subgoal_in}
use Rattle.space.specs.Heading.{header_of, Header}
use Rattle.space.specs.declared.Head.{Head}
use Rattle.space.specs.declared.Subgoal.{Subgoal}
use Rattle.trie.specs.Siblings.{search_children}
use Rattle.trie.specs.Walks.{Finding}
use Rattle.trie.specs.Append.{new_root, append_path}
use Rattle.store.specs.Views.{view_of}
use Rattle.store.specs.Decisions.{Decision, says, gives, enters_subgoal, enters_answer, enters_empty, finishes}
use Rattle.store.specs.Decisions.{enters_answers, answered_at, walk_to_by}

-- a new subgoal is open and has no answer
abbrev pub new_subgoal : ℕ → ℕ → ℕ → Subgoal
new_subgoal leaf root m = record { leaf = leaf; root = root; variables = m; state = 0; first = 0; last = 0 }

-- the path, its leaf linked to the subgoal, the answer root behind it, the record, the counts
unfoldable pub subgoal_entered : Sizes → List ℕ → Head → ℕ → ℕ → Word → ℕ → List ℕ
subgoal_entered z cs h parent last left m =
    let root = h.nodes + length left in
    let s = h.subgoals + 1 in
    writes
    (put (link_cell z (root - 1)) s
    ∷ (node_to (node_at z root) (new_root root)
    ++ (subgoal_to (subgoal_at z h.subgoal_offset s) (new_subgoal (root - 1) root m)
    ++ (put nodes_cell (root + 1) ∷ put subgoals_cell s ∷ []))))
    (append_path z cs h.nodes parent last left)

-- subgoals and answers begin at two offsets; the first answer of s is set where there was none, and the last is
-- followed by the new one where there was one
abbrev pub chained : Sizes → (subgoals answers : ℕ) → (s last a : ℕ) → List Write
chained z subgoals answers s last a =
    pick (eqb last 0) (put (first_cell z subgoals s) a ∷ []) (put (next_cell z answers last) a ∷ [])

-- the leaf linked to the answer, the chain, the record, the subgoal's last answer, the counts
unfoldable pub answer_entered : Sizes → List ℕ → Head → ℕ → Subgoal → ℕ → ℕ → List ℕ
answer_entered z cs h s g leaf nodes =
    let a = h.answers + 1 in
    writes
    (put (link_cell z leaf) a
    ∷ (chained z h.subgoal_offset h.answer_offset s g.last a
    ++ (answer_to (answer_at z h.answer_offset a) (record { leaf = leaf; subgoal = s; next = 0 })
    ++ (put (last_cell z h.subgoal_offset s) a ∷ put nodes_cell nodes ∷ put answers_cell a ∷ []))))
    cs

-- an answer with a path of its own; and one whose leaf is the answer root, which finishes its subgoal
abbrev pub path_entered : Sizes → List ℕ → Head → ℕ → ℕ → ℕ → Word → List ℕ
path_entered z cs h s parent last left =
    answer_entered z (append_path z cs h.nodes parent last left) h s (subgoal_in z cs h.subgoal_offset s)
    (h.nodes + length left - 1) (h.nodes + length left)

abbrev pub empty_entered : Sizes → List ℕ → Head → ℕ → List ℕ
empty_entered z cs h s =
    let g = subgoal_in z cs h.subgoal_offset s in
    writes (put (state_cell z h.subgoal_offset s) 1 ∷ []) (answer_entered z cs h s g g.root h.nodes)

-- what the decision on an answer writes; no answer comes to another decision
unfoldable pub answer_given : Sizes → List ℕ → Head → Decision → List ℕ
answer_given z cs h (says r) = cs
answer_given z cs h (gives ks) = cs
answer_given z cs h (enters_subgoal parent last left m) = cs
answer_given z cs h (enters_answer s parent last left) = path_entered z cs h s parent last left
answer_given z cs h (enters_empty s) = empty_entered z cs h s
answer_given z cs h (finishes s) = cs
answer_given z cs h (enters_answers s ws) = cs

-- a form is given as a single answer is, whatever that comes to
unfoldable pub form_given_by : Finding → Sizes → List ℕ → ℕ → Word → Header → List ℕ
form_given_by find z cs s w (Ok h) =
    let v = view_of z cs h in answer_given z cs h (answered_at v s w (walk_to_by find v s w))
form_given_by find z cs s w (Err r) = cs

-- each on the cells as the one before left them
unfoldable pub forms_given_by : Finding → Sizes → List ℕ → ℕ → List Word → List ℕ
forms_given_by find z cs s [] = cs
forms_given_by find z cs s (w ∷ ws) = forms_given_by find z (form_given_by find z cs s w (header_of z cs)) s ws

unfoldable pub change_by : Finding → Sizes → List ℕ → Head → Decision → List ℕ
change_by find z cs h (says r) = cs
change_by find z cs h (gives ks) = cs
change_by find z cs h (enters_subgoal parent last left m) = subgoal_entered z cs h parent last left m
change_by find z cs h (enters_answer s parent last left) = path_entered z cs h s parent last left
change_by find z cs h (enters_empty s) = empty_entered z cs h s
change_by find z cs h (finishes s) = writes (put (state_cell z h.subgoal_offset s) 1 ∷ []) cs
change_by find z cs h (enters_answers s ws) = forms_given_by find z cs s ws

-- ---- by the sibling chains

abbrev pub form_given : Sizes → List ℕ → ℕ → Word → Header → List ℕ
form_given = form_given_by search_children

abbrev pub forms_given : Sizes → List ℕ → ℕ → List Word → List ℕ
forms_given = forms_given_by search_children

abbrev pub change : Sizes → List ℕ → Head → Decision → List ℕ
change = change_by search_children
