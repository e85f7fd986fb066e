-- What the functions behind the calls ask for and what they leave: the names that their contracts use.
use Rattle.forms.specs.Converting.{Reading}
use Rattle.std.specs.Prelude.{ℕ, ◌<◌, ◌≤◌, ◌≡◌, List, length, Result, Err, Ok}
use Rattle.basis.specs.declared.refusals.Refusal.{Refusal}
use Rattle.basis.specs.Refusals.{number_of}
use Rattle.convert.specs.Holds.{Reads}
use Rattle.forms.specs.Cells.{arity_of}
use Rattle.forms.specs.Stored.{stored_of}
use Rattle.plain.specs.Coding.{coding_of, judged, taken}
use Rattle.plain.specs.Requests.{Request, Reply}
use Rattle.space.specs.Layout.{sizes_of}
use Rattle.space.specs.Sound.{Bounds, subgoal_under}
use Rattle.space.specs.declared.Head.{Head}
use Rattle.space.specs.declared.tables.Table.{Table}
use Rattle.space.specs.declared.Subgoal.{Subgoal}
use Rattle.trie.specs.Walks.{Finding, walk_by}
use Rattle.store.specs.Views.{View, view_of, subgoal_trie, answer_trie}
use Rattle.store.specs.Decisions.{Decision, refuses, enters_answer, called_at, answered_new, answered_at, answered_by}
use Rattle.store.specs.Changes.{change}
use Rattle.store.specs.Calls.{used_answers, reply, under_by}

-- the cells of a space under its head, as the calls read them
abbrev pub view_in : List ℕ → Head → View
view_in cs h = view_of (sizes_of h.edition) cs h

-- that of a table
abbrev pub view_at : Table → View
view_at t = view_in t.cells.now t.head

-- on the cells `before` the decision d on a call or an answer answers r and leaves `after`; no out is lent. Nothing is
-- searched any more, so the way of finding a child has no part in it.
abbrev pub Does : List ℕ → Head → (View → Decision) → Reply → List ℕ → Type 0
Does before h d r after =
    (r ≡ reply (view_in before h) (d (view_in before h)) 0 (used_answers after))
    × (after ≡ change (sizes_of h.edition) before h (d (view_in before h)))

-- the same of a call as a whole
abbrev pub AnswersUnder : Finding → List ℕ → Head → Request → Reply → List ℕ → Type 0
AnswersUnder find before h q r after =
    (r ≡ (under_by find (sizes_of h.edition) (coding_of h.edition) before q (Ok h)).reply)
    × (after ≡ (under_by find (sizes_of h.edition) (coding_of h.edition) before q (Ok h)).state)

-- a node of the table, as a root is
abbrev pub RootIn : List ℕ → Head → ℕ → Type 0
RootIn cs h root = Bounds cs h × (root < h.nodes)

-- a path stopped below `parent`, behind `last`; the term has m variables
abbrev pub StoppedAt : List ℕ → Head → ℕ → ℕ → ℕ → Type 0
StoppedAt cs h parent last m = Bounds cs h × (parent < h.nodes) × (last < h.nodes) × (m ≤ 32)

-- what is held of a subgoal's number s and its record g, once the record is read and judged
abbrev pub Held : List ℕ → Head → ℕ → Subgoal → Type 0
Held cs h s g =
    Bounds cs h × (1 ≤ s) × (s ≤ h.subgoals) × (g ≡ subgoal_under cs h s) × (g.last ≤ h.answers)
    × (g.root < h.nodes)

-- of these, what is still held once cells are written
abbrev pub HeldLast : List ℕ → Head → ℕ → Subgoal → Type 0
HeldLast cs h s g = Bounds cs h × (1 ≤ s) × (s ≤ h.subgoals) × (g.last ≤ h.answers)

-- a decision, where nothing refuses it
abbrev pub unless_refused : Result Unit Refusal → Decision → Decision
unless_refused (Ok y) d = d
unless_refused (Err r) d = refuses (number_of r)

-- whether a new answer of subgoal s that takes `more` nodes is let in
abbrev pub RefusesNew : List ℕ → Head → ℕ → ℕ → Result Unit Refusal → Type 0
RefusesNew cs h s more r = (d : Decision) → answered_new (view_in cs h) s more d ≡ unless_refused r d

-- what becomes of a called term with this form and m variables
abbrev pub called_from : Finding → List ℕ → ℕ → View → Decision
called_from find w m v = called_at v (walk_by find (subgoal_trie v) 0 w) m

-- what becomes of an answer to subgoal s: tokens left below a node, a form walked from the answer root on, and terms
-- that must be m
abbrev pub entered_below : ℕ → ℕ → ℕ → List ℕ → View → Decision
entered_below s parent last left v = answered_new v s (length left) (enters_answer s parent last left)

abbrev pub answered_from : Finding → ℕ → ℕ → List ℕ → View → Decision
answered_from find s root w v = answered_at v s w (walk_by find (answer_trie v) root w)

abbrev pub answered_terms : Finding → Head → ℕ → ℕ → List ℕ → View → Decision
answered_terms find h s m terms v =
    let e = h.edition in
    answered_by find v s (judged (arity_of e) (stored_of e) m terms (taken (stored_of e) terms))

-- the form that the reader of terms left is within the cells that were lent to it
abbrev pub FormIn : List ℕ → Reading → Type 0
FormIn form (Ok read) = read.tokens ≤ length form
FormIn form (Err r) = Unit

-- what becomes of the terms, whichever they are, that were read into a form
abbrev pub DoesRead : Finding → List ℕ → Head → ℕ → Subgoal → Reading → List ℕ → Reply → List ℕ → Type 0
DoesRead find before h s g read form r after =
    (terms vars : List ℕ) → Reads h.edition g.variables terms vars form read
    → Does before h (answered_terms find h s g.variables terms) r after
