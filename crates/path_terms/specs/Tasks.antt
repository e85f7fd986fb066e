-- What paths are gathered for: a load, an instance, to judge an answer's path, or a subgoal's, which is called. A task
-- with one path has it twice.
use Rattle.std.specs.Prelude.{ℕ, Bool, true, false, List, ◌≡◌}
use Rattle.trie.specs.Paths.{Path}
use Rattle.trie.specs.Runs.{Ends, path_to, Begun}
use Rattle.instances.specs.Leaving.{Instances}
use Rattle.path_terms.specs.AlongPaths.{LoadsPath, worth}
use Rattle.path_terms.specs.declared.Paths.{Paths}
use Rattle.path_terms.specs.declared.Task.{Task}
use Rattle.path_terms.specs.declared.Task.TheVariants as task

-- both paths were begun in few cells
abbrev pub BothBegun : List ℕ → Paths → List ℕ → List ℕ → Type 0
BothBegun cs x few called =
    (Ends cs x.end × Begun cs x.end x.begun few)
    × (Ends cs x.subgoal × Begun cs x.subgoal x.above called)

-- a path was judged, and out left as it was
abbrev pub Judges : ℕ → Path → ℕ → Bool → List ℕ → ℕ → List ℕ → Type 0
Judges edition p m called out r out' = (r ≡ worth edition m called p) × (out' ≡ out)

-- a task was done with the path p, and q for an instance
abbrev pub Done : Task → ℕ → Path → Path → ℕ → List ℕ → ℕ → List ℕ → Type 0
Done task.Load edition p q m out r out' = LoadsPath edition p m out r out'
Done task.Instance edition p q m out r out' = Instances edition p q m out r out'
Done task.Judge edition p q m out r out' = Judges edition p m false out r out'
Done task.Called edition p q m out r out' = Judges edition p m true out r out'

abbrev pub DoneTo : Task → List ℕ → Paths → List ℕ → ℕ → List ℕ → Type 0
DoneTo t cs x out r out' =
    Done t x.edition (path_to cs x.end) (path_to cs x.subgoal) x.m out r out'
