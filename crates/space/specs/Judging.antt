-- A record read is judged whole: each field that names a record by its range.
use Rattle.std.specs.Prelude.{ℕ, ◌+◌, Bool, not, ◌&&◌, ◌||◌, eqb, ltb, leb, None, Option, Some}
use Rattle.basis.specs.Choice.{pick}
use Rattle.space.specs.declared.Node.{Node}
use Rattle.space.specs.declared.Subgoal.{Subgoal}
use Rattle.space.specs.declared.Answer.{Answer}

-- a number that record n holds of a record of its own kind: 0 for none, or above n and below `bound`
unfoldable pub follows : ℕ → ℕ → ℕ → Bool
follows bound n x = eqb x 0 || (ltb n x && ltb x bound)

-- node n, where so many nodes are used; `links` is the count that its link is held to.
-- A parent equal to n is a root's: who expects another parent compares it.
unfoldable pub node_sound : ℕ → ℕ → ℕ → Node → Bool
node_sound nodes links n y =
    follows nodes n y.child && follows nodes n y.sibling && leb y.parent n && leb y.link links

-- a first and a last answer, or neither
unfoldable pub both_or_neither : ℕ → ℕ → Bool
both_or_neither first last = pick (eqb first 0) (eqb last 0) (not (eqb last 0))

-- a subgoal: 32 variables at most, open (0) or finished (1)
unfoldable pub subgoal_sound : ℕ → ℕ → Subgoal → Bool
subgoal_sound nodes answers y =
    ltb y.leaf nodes && ltb y.root nodes && leb y.variables 32 && leb y.state 1
    && leb y.first answers && leb y.last answers && both_or_neither y.first y.last

-- answer a; the next one is above it
unfoldable pub answer_sound : ℕ → ℕ → ℕ → ℕ → Answer → Bool
answer_sound nodes subgoals answers a y =
    ltb y.leaf nodes && ltb 0 y.subgoal && leb y.subgoal subgoals && follows (answers + 1) a y.next

-- a record as it is read: judged, or damaged
unfoldable pub read_node : ℕ → ℕ → (ℕ → Node) → ℕ → Option Node
read_node nodes links at n = pick (node_sound nodes links n (at n)) (Some (at n)) None

unfoldable pub read_subgoal : ℕ → ℕ → (ℕ → Subgoal) → ℕ → Option Subgoal
read_subgoal nodes answers at s = pick (subgoal_sound nodes answers (at s)) (Some (at s)) None

unfoldable pub read_answer : ℕ → ℕ → ℕ → (ℕ → Answer) → ℕ → Option Answer
read_answer nodes subgoals answers at a =
    pick (answer_sound nodes subgoals answers a (at a)) (Some (at a)) None
