-- The ten calls on the cells of a space, sound or damaged: refusal 1, then the decision, then the change. The way of
-- finding a child is a parameter; by the sibling chains they are the calls without an index.
use Rattle.basis.specs.Refusals.{number_of}
use Rattle.std.specs.Prelude.{ℕ, ◌+◌, ◌-◌, List, ◌++◌, ◌≡◌, leb, length, drop, get_or, Err, Ok}
use Rattle.basis.specs.Choice.{pick}
use Rattle.plain.specs.Coding.{Coding, coding_of}
use Rattle.plain.specs.Requests.{Request, lent, Counts, Reply, new, done, cells, joined, refused, short, Result, Seen}
use Rattle.plain.specs.Requests.{trace}
use Rattle.space.specs.Layout.{Sizes, sizes_of, nodes_cell, subgoals_cell, answers_cell}
use Rattle.space.specs.Heading.{header_of, space_header, Header}
use Rattle.trie.specs.Siblings.{search_children}
use Rattle.trie.specs.Walks.{Finding}
use Rattle.trie.specs.Index.{search_indexed}
use Rattle.store.specs.Views.{View, view_of}
use Rattle.store.specs.Decisions.{Decision, says, gives, enters_subgoal, enters_answer, enters_empty, finishes}
use Rattle.store.specs.Decisions.{enters_answers, decide_by}
use Rattle.store.specs.Changes.{change_by}

-- the answers used, as the header counts them
abbrev pub used_answers : List ℕ → ℕ
used_answers cs = get_or cs answers_cell 0

-- the nodes used
abbrev pub used_nodes : List ℕ → ℕ
used_nodes cs = get_or cs nodes_cell 0

-- what the call answers, out being so long and so many answers being used afterwards; cells that do not fit are 12 with
-- the need
unfoldable pub reply : View → Decision → ℕ → ℕ → Reply
reply v (says r) room after = r
reply v (gives ks) room after = pick (leb (length ks) room) (cells (length ks)) (short (length ks))
reply v (enters_subgoal parent last left m) room after = new (v.subgoals + 1)
reply v (enters_answer s parent last left) room after = new (v.answers + 1)
reply v (enters_empty s) room after = new (v.answers + 1)
reply v (finishes s) room after = done
reply v (enters_answers s ws) room after = joined (after - v.answers)

-- out after the call: the cells before what was there, if they fit
unfoldable pub out_after : Decision → List ℕ → List ℕ
out_after (says r) out = out
out_after (gives ks) out = pick (leb (length ks) (length out)) (ks ++ drop (length ks) out) out
out_after (enters_subgoal parent last left m) out = out
out_after (enters_answer s parent last left) out = out
out_after (enters_empty s) out = out
out_after (finishes s) out = out
out_after (enters_answers s ws) out = out

unfoldable pub under_by : Finding → Sizes → Coding → List ℕ → Request → Header → Result (List ℕ)
under_by find z c cs q (Ok h) =
    let v = view_of z cs h in
    let d = decide_by find c v q in
    let after = change_by find z cs h d in
    record { reply = reply v d (length (lent q)) (used_answers after); out = out_after d (lent q); state = after }
under_by find z c cs q (Err r) = record { reply = refused (number_of r); out = lent q; state = cs }

-- what a call leaves of a space of any edition: the one that its header names
unfoldable pub under_any_by : Finding → List ℕ → Request → Header → Result (List ℕ)
under_any_by find cs q (Ok h) =
    under_by find (sizes_of h.edition) (coding_of h.edition) cs q (Ok h)
under_any_by find cs q (Err r) = record { reply = refused (number_of r); out = lent q; state = cs }

unfoldable pub space_step_by : Finding → List ℕ → Request → Result (List ℕ)
space_step_by find cs q = under_any_by find cs q (space_header cs)

-- how a call on these cells finds a child with an index: the nodes that stand when it begins are those used now, to
-- the call's end
abbrev pub indexed_way : List ℕ → List ℕ → Finding
indexed_way index cs = search_indexed index (used_nodes cs)

-- with an index of these cells; one of no cells is none
abbrev pub indexed_step : List ℕ → List ℕ → Request → Result (List ℕ)
indexed_step index cs = space_step_by (indexed_way index cs) cs

-- ---- by the sibling chains

abbrev pub under : Sizes → Coding → List ℕ → Request → Header → Result (List ℕ)
under = under_by search_children

abbrev pub under_any : List ℕ → Request → Header → Result (List ℕ)
under_any = under_any_by search_children

abbrev pub space_step : List ℕ → Request → Result (List ℕ)
space_step = space_step_by search_children

-- what a call leaves of a space of one edition
unfoldable pub cell_step : Sizes → Coding → List ℕ → Request → Result (List ℕ)
cell_step z c cs q = under z c cs q (header_of z cs)

-- On the cells `before` the call q, by this way of finding a child, answers r, and leaves `out` of the out that was
-- lent to it and `after` of the cells: the contract of every call. A space that is lent to read alone is afterwards
-- what it was, so there `after` is `before`.
abbrev pub AnswersBy : Finding → List ℕ → Request → Reply → List ℕ → List ℕ → Type 0
AnswersBy find before q r out after =
    (r ≡ (space_step_by find before q).reply) × (out ≡ (space_step_by find before q).out)
    × (after ≡ (space_step_by find before q).state)

-- without an index
abbrev pub Answers : List ℕ → Request → Reply → List ℕ → List ℕ → Type 0
Answers = AnswersBy search_children

-- with one
abbrev pub AnswersIndexed : List ℕ → List ℕ → Request → Reply → List ℕ → List ℕ → Type 0
AnswersIndexed index before = AnswersBy (indexed_way index before) before

-- the counts as they stand in the header
abbrev pub counted_cells : List ℕ → Counts
counted_cells cs =
    record { nodes = used_nodes cs; subgoals = get_or cs subgoals_cell 0; answers = used_answers cs }

-- what is seen of a list of calls
abbrev pub cell_trace : Sizes → Coding → List ℕ → List Request → List Seen
cell_trace z c cs qs = trace (cell_step z c) counted_cells cs qs
