-- What instance means to a planner: the term that was called, with the i-th of the terms that answered it for its
-- variable i. Both are taken as they were lent to the calls; stored forms stand nowhere in this.
use Rattle.std.specs.Prelude.{List, [], ◌∷◌, ◌++◌, map, ◌≡◌, ℕ, ◌<◌, get_or}
use Rattle.basis.specs.Choice.{pick}
use Rattle.forms.specs.Cells.{variable, shape_of}
use Rattle.forms.specs.Terms.{pairs, reads}
use Rattle.forms.specs.Numbering.{rank, met, numbered}
use Rattle.forms.specs.Stored.{StoredForm}
use Rattle.plain.specs.Coding.{Coding, coded_as}
use Rattle.plain.specs.Requests.{Request, call, answer, instance}
use Rattle.plain.specs.Table.{writes, step}
use Rattle.plain.specs.Consequences.{Gives, reached}

-- ---- on cells

-- the cells with each variable replaced: the one of rank i among vs by the i-th of the parts
unfoldable pub replaced : List ℕ → List (List ℕ) → List ℕ → List ℕ
replaced vs parts [] = []
replaced vs parts (c ∷ cs) = pick (variable c) (get_or parts (rank vs c) []) (c ∷ []) ++ replaced vs parts cs

-- the cells of each of the terms that stand one after another
unfoldable pub term_cells : (ℕ → ℕ) → List ℕ → List (List ℕ)
term_cells arity cs = map pairs (reads (shape_of arity) cs)

-- the term with the i-th of the terms for its variable i, by first meeting; then numbered
unfoldable pub instantiated : (ℕ → ℕ) → (term terms : List ℕ) → List ℕ
instantiated arity term terms = numbered (replaced (met [] term) (term_cells arity terms) term)

-- ---- on tables

-- one of the calls made on a fresh table is q, and it was answered new or old with the number i
pub record Got (c : Coding) (n f a : ℕ) (calls : List Request) (q : Request) (i : ℕ) : Type 0 where
  pub before : List Request
  pub behind : List Request
  pub listed : calls ≡ before ++ (q ∷ behind)
  pub gives : Gives i (step c (reached c n f a before) q).reply

module _ (arity : ℕ → ℕ) (form : StoredForm) where
  abbrev c : Coding
  c = coded_as arity form

  -- In a table left by any list of calls: where a term was called and is subgoal s, and terms answered s and are answer
  -- b, in either order and among any other calls, instance writes the one with the others in it.
  abbrev pub Instancing : Type 0
  Instancing = (n f a : ℕ) → 0 < n → (calls : List Request) (term terms : List ℕ) (s b : ℕ) (out : List ℕ)
      → Got c n f a calls (call term) s → Got c n f a calls (answer s terms) b
      → (let t = reached c n f a calls in step c t (instance b out) ≡ writes t (instantiated arity term terms) out)
