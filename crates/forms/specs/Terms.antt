-- Terms and their pair form: written, and read back from any list of cells.
use Rattle.std.specs.Prelude.{ℕ, suc, zero, List, [], ◌∷◌, ◌++◌, Bool, false, length, eqb}
use Rattle.basis.specs.Choice.{pick}
use Rattle.forms.specs.declared.Shape.{Shape}
use Rattle.forms.specs.declared.Shape.TheVariants.{Symbol, Pair, Illegal}
use Rattle.forms.specs.Cells.{PAIR, shape_of}

-- A term: one cell (a variable, an atom, an integer, or a functor that still waits for its
-- arguments), a term applied to one argument more, or a pair of head and tail.
-- f(a, b) is arg (arg (cell f) a) b.
pub data Term : Type 0 where
  cell : ℕ → Term
  arg : Term → Term → Term
  pair : Term → Term → Term

-- pair form: preorder
unfoldable pub pairs : Term → List ℕ
pairs (cell c) = c ∷ []
pairs (arg f a) = pairs f ++ pairs a
pairs (pair h t) = PAIR ∷ (pairs h ++ pairs t)

-- the forms of terms one after another
unfoldable pub every : (Term → List ℕ) → List Term → List ℕ
every form [] = []
every form (t ∷ ts) = form t ++ every form ts

-- the symbol f takes its k arguments off the terms that follow it
unfoldable pub applied : ℕ → Term → List Term → List Term
applied zero f ts = f ∷ ts
applied (suc k) f [] = []
applied (suc k) f (t ∷ ts) = applied k (arg f t) ts

-- a pair takes head and tail
unfoldable pub paired : List Term → List Term
paired [] = []
paired (h ∷ []) = []
paired (h ∷ t ∷ ts) = pair h t ∷ ts

-- the term that begins with a cell of this shape, and those after it
unfoldable pub begun : Shape → ℕ → List Term → List Term
begun (Symbol k) c ts = applied k (cell c) ts
begun Pair c ts = paired ts
begun Illegal c ts = []

-- the terms that stand one after another from the start of the cells, up to the first that is
-- malformed or misses cells
unfoldable pub reads : (ℕ → Shape) → List ℕ → List Term
reads shape [] = []
reads shape (c ∷ cs) = begun (shape c) c (reads shape cs)

-- the cells are exactly m terms, with none left over
unfoldable pub are_terms : (ℕ → ℕ) → ℕ → List ℕ → Bool
are_terms arity m cs =
    let ts = reads (shape_of arity) cs in
    pick (eqb (length ts) m) (eqb (length (every pairs ts)) (length cs)) false
