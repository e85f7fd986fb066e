-- What the paths of an answer and of its subgoal come to, and what is left in out; and what a path is worth as a form.
-- No record but the paths' nodes matters, so all of it holds of every view.
use Rattle.std.specs.Prelude.{ℕ, ◌+◌, Bool, true, ◌&&◌, List, [], length}
use Rattle.basis.specs.Choice.{pick}
use Rattle.forms.specs.Numbering.{met}
use Rattle.plain.specs.Words.{Word}
use Rattle.plain.specs.Coding.{Coding, predicate, coding_of}
use Rattle.trie.specs.Paths.{Path, none, tokens}
use Rattle.trie.specs.Runs.{path_to}
use Rattle.trie.specs.declared.End.{End}
use Rattle.store.specs.Views.{View}
use Rattle.store.specs.Decisions.{Decision, gives, on_path}
use Rattle.instances.specs.Leaving.{Leaves, sized, Instances}

-- the m terms of an answer's path
abbrev pub loaded_from : Coding → Path → ℕ → Decision
loaded_from c p m = on_path p (c.legal m) (λ w. gives (c.expand w))

-- the terms of a path were written to out, as a number says
abbrev pub LoadsPath : ℕ → Path → ℕ → List ℕ → ℕ → List ℕ → Type 0
LoadsPath edition p m out r out' =
    (v : View) → Leaves v (loaded_from (coding_of edition) p m) out (sized (length out) r) out'

-- those of a form, or of the path to an end
abbrev pub LoadsOf : List ℕ → ℕ → ℕ → List ℕ → ℕ → List ℕ → Type 0
LoadsOf form m edition out r out' = LoadsPath edition (tokens form) m out r out'

abbrev pub LoadsTo : List ℕ → End → ℕ → ℕ → List ℕ → ℕ → List ℕ → Type 0
LoadsTo cs e m edition out r out' = LoadsPath edition (path_to cs e) m out r out'

-- what a form is worth, held against m legal terms: one more than its variables; 0 where it is none, or where it is
-- to be called and begins with neither an atom nor a functor
abbrev pub form_worth : (edition m : ℕ) → Bool → Word → ℕ
form_worth edition m called w =
    pick ((coding_of edition).legal m w && pick called (predicate w) true) (length (met [] w) + 1) 0

-- the same of a path, which may be damaged
abbrev pub worth : (edition m : ℕ) → Bool → Path → ℕ
worth edition m called none = 0
worth edition m called (tokens w) = form_worth edition m called w

-- the instance of an answer was written to out, by the ends of both paths
abbrev pub InstancesTo : List ℕ → End → End → ℕ → ℕ → List ℕ → ℕ → List ℕ → Type 0
InstancesTo cs e g m edition out r out' = Instances edition (path_to cs e) (path_to cs g) m out r out'
