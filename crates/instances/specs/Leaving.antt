-- What is left in a lent out by a decision to give cells, and by the instance of two paths.
use Rattle.std.specs.Prelude.{ℕ, zero, suc, Bool, ◌&&◌, List, [], ◌≡◌, length, eqb, ltb}
use Rattle.basis.specs.Choice.{pick}
use Rattle.forms.specs.Numbering.{met}
use Rattle.plain.specs.Words.{Word}
use Rattle.plain.specs.Coding.{Coding, coding_of}
use Rattle.plain.specs.Requests.{Reply, refused, short, cells}
use Rattle.trie.specs.Paths.{Path, tokens}
use Rattle.store.specs.Views.{View}
use Rattle.store.specs.Decisions.{Decision, gives, on_path}
use Rattle.store.specs.Calls.{reply, out_after}

-- the form of one term with m variables
abbrev pub subgoal_form : Coding → ℕ → Word → Bool
subgoal_form c m u = c.legal 1 u && eqb (length (met [] u)) m

-- the instance of an answer's path, and of the path of its subgoal, which has m variables
abbrev pub instanced_from : Coding → Path → Path → ℕ → Decision
instanced_from c p q m =
    on_path p (c.legal m) (λ y.
    on_path q (subgoal_form c m) (λ u. gives (c.instance_of u y)))

-- the answer and the lent cells afterwards are those of a decision, whatever is counted afterwards
abbrev pub Leaves : View → Decision → List ℕ → Reply → List ℕ → Type 0
Leaves v d out x out' = ((after : ℕ) → x ≡ reply v d (length out) after) × (out' ≡ out_after d out)

-- what a number says of cells that were to be written to so much room: 0 is damage, any other one more than they are
abbrev pub sized : (room r : ℕ) → Reply
sized room zero = refused 9
sized room (suc n) = pick (ltb room n) (short n) (cells n)

-- the instance of two paths was written to out
abbrev pub Instances : ℕ → Path → Path → ℕ → List ℕ → ℕ → List ℕ → Type 0
Instances edition p q m out r out' =
    (v : View) → Leaves v (instanced_from (coding_of edition) p q m) out (sized (length out) r) out'

-- the same of two forms
abbrev pub InstancesOf : List ℕ → List ℕ → ℕ → ℕ → List ℕ → ℕ → List ℕ → Type 0
InstancesOf form path m edition out r out' = Instances edition (tokens form) (tokens path) m out r out'
