-- What the functions of why ask for and what they leave: the names that their contracts use.
use Rattle.std.specs.Prelude.{ℕ, ◌<◌, ◌≤◌, ◌≡◌, true, List, eqb, take}
use Rattle.std.specs.Prelude.{Option, Some, None, Result, Ok, Err}
use Rattle.basis.specs.declared.refusals.Refusal.{Refusal}
use Rattle.basis.specs.Refusals.{number_of}
use Rattle.basis.specs.Choice.{pick}
use Rattle.plain.specs.Requests.{Reply, old_as, new_past, because}
use Rattle.space.specs.Layout.{sizes}
use Rattle.space.specs.Sound.{Bounds}
use Rattle.space.specs.declared.Head.{Head}
use Rattle.trie.specs.Siblings.{trie_in, sound}
use Rattle.trie.specs.Walks.{Finding, walk_by}
use Rattle.store.specs.Views.{View, subgoal_trie}
use Rattle.store.specs.Decisions.{Decision, says, refuses, astray, leads, firsts_from, named_by, new_at, reasoned_at}
use Rattle.store.specs.Clauses.{view_in}
use Rattle.store.specs.Replies.{said_reason}
use Rattle.store.specs.declared.Reason.{Reason}
use Rattle.store.specs.declared.Reason.TheVariants as reason

-- node n of the subgoal trie was read and found sound
abbrev pub Judged : List ℕ → Head → ℕ → Type 0
Judged cs h n = (n < h.nodes) × (sound (trie_in sizes cs h.nodes h.subgoals) n ≡ true)

abbrev pub SoundNode : List ℕ → Head → ℕ → Type 0
SoundNode cs h n = Bounds cs h × Judged cs h n

-- where first children lead from a node
abbrev pub Descends : List ℕ → Head → ℕ → Option ℕ → Type 0
Descends cs h i (Some n) = (firsts_from (view_in cs h) h.nodes i ≡ leads n) × Judged cs h n
Descends cs h i None = firsts_from (view_in cs h) h.nodes i ≡ astray

-- what is said of the subgoal that a leaf names; or it is refused
abbrev pub said_of : (ℕ → Reply) → Result ℕ Refusal → Decision
said_of say (Ok s) = says (say s)
said_of say (Err r) = refuses (number_of r)

abbrev pub NamesLeaf : List ℕ → Head → ℕ → Result ℕ Refusal → Type 0
NamesLeaf cs h leaf r = (say : ℕ → Reply) → named_by (view_in cs h) leaf say ≡ said_of say r

-- the reason names at most so many variables
abbrev pub NamesFew : ℕ → Result Reason Refusal → Type 0
NamesFew m (Ok (reason.Old n k)) = k ≤ m
NamesFew m (Ok (reason.New k s)) = Unit {0}
NamesFew m (Err r) = Unit {0}

-- the reason is what the decision says, whatever the variables are, and names at most m of them
abbrev pub Reasons : ℕ → (List ℕ → Decision) → Result Reason Refusal → Type 0
Reasons m d r = ((vs : List ℕ) → says (said_reason r vs) ≡ d vs) × NamesFew m r

-- what becomes of a form that was found whole at a leaf; of one of which n tokens were found down to a node; and of one
-- that is walked. The first m cells are the variables.
abbrev pub old_at : View → ℕ → ℕ → List ℕ → Decision
old_at v leaf m vs = named_by v leaf (λ s. because (old_as s (take m vs)))

abbrev pub new_below : View → ℕ → ℕ → List ℕ → Decision
new_below v parent n vs =
    pick (eqb n 0) (says (because (new_past 0 0))) (new_at v n (firsts_from v v.nodes parent))

abbrev pub reasoned_from : Finding → View → List ℕ → ℕ → List ℕ → Decision
reasoned_from find v w m vs = reasoned_at v (take m vs) w (walk_by find (subgoal_trie v) 0 w)
