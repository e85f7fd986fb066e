-- Compact form (source 001, section 3.2, final approach): written, and read back from any list of cells.
use Rattle.std.specs.Prelude.{ℕ, suc, zero, List, [], ◌∷◌, ◌++◌, Bool, true, false, length, eqb, leb}
use Rattle.basis.specs.Choice.{pick}
use Rattle.forms.specs.declared.Token.{Token}
use Rattle.forms.specs.declared.Token.TheVariants.{Sym, Begin, Last, Tail, Other}
use Rattle.forms.specs.Cells.{nil, BLIST, ELIST, EPAIR, shape_of, token_of}
use Rattle.forms.specs.Terms.{Term, cell, arg, pair, pairs, every, reads}
use Rattle.forms.specs.Numbering.{met, numbered}

-- ---- writing

unfoldable mutual
  -- a list is BLIST and its elements
  pub compact : Term → List ℕ
  compact (cell c) = c ∷ []
  compact (arg f a) = compact f ++ compact a
  compact (pair h t) = BLIST ∷ elements (compact h) t

  -- the elements of a list from one whose form is e, before the tail t: if t is [], this one is the
  -- last and stands behind ELIST; if t is another term that is no pair, it stands behind EPAIR
  pub elements : List ℕ → Term → List ℕ
  elements e (cell c) = pick (eqb c nil) (ELIST ∷ e) (e ++ (EPAIR ∷ c ∷ []))
  elements e (arg f a) = e ++ (EPAIR ∷ (compact f ++ compact a))
  elements e (pair h t) = e ++ elements (compact h) t

-- the compact form of the terms that stand in the cells: lists rewritten in the numbered form
unfoldable pub compact_form : (ℕ → ℕ) → List ℕ → List ℕ
compact_form arity cs = every compact (reads (shape_of arity) (numbered cs))

-- ---- reading

-- what stands one after another in compact form: terms, and within a list its last element behind
-- ELIST, or the term that it ends in behind EPAIR
pub data Item : Type 0 where
  term : Term → Item
  last : Term → Item
  tail : Term → Item

-- the symbol f takes its k arguments off the items that follow it
unfoldable pub filled : ℕ → Term → List Item → List Item
filled zero f is = term f ∷ is
filled (suc k) f [] = []
filled (suc k) f (term t ∷ is) = filled k (arg f t) is
filled (suc k) f (last t ∷ is) = []
filled (suc k) f (tail t ∷ is) = []

-- ELIST and the term behind it
unfoldable pub last_of : List Item → List Item
last_of [] = []
last_of (term t ∷ is) = last t ∷ is
last_of (last t ∷ is) = []
last_of (tail t ∷ is) = []

-- EPAIR and the term behind it
unfoldable pub tail_of : List Item → List Item
tail_of [] = []
tail_of (term t ∷ is) = tail t ∷ is
tail_of (last t ∷ is) = []
tail_of (tail t ∷ is) = []

-- [] and pairs stand behind no EPAIR
unfoldable pub inside : Term → Bool
inside (cell c) = eqb c nil
inside (arg f a) = false
inside (pair h t) = true

-- an element before the rest of its list
unfoldable pub into : Term → List Item → List Item
into e [] = []
into e (term t ∷ is) = term (pair e t) ∷ is
into e (last t ∷ is) = []
into e (tail t ∷ is) = pick (inside t) [] (term (pair e t) ∷ is)

-- the list whose elements stand here; a mere tail is none yet
unfoldable pub collected : List Item → List Item
collected [] = []
collected (term e ∷ is) = into e (collected is)
collected (last e ∷ is) = term (pair e (cell nil)) ∷ is
collected (tail t ∷ is) = tail t ∷ is

-- a list has an element
unfoldable pub whole : List Item → List Item
whole [] = []
whole (term t ∷ is) = term t ∷ is
whole (last t ∷ is) = []
whole (tail t ∷ is) = []

-- the item that begins with a cell of this token, and those after it
unfoldable pub entered : Token → ℕ → List Item → List Item
entered (Sym k) c is = filled k (cell c) is
entered Begin c is = whole (collected is)
entered Last c is = last_of is
entered Tail c is = tail_of is
entered Other c is = []

-- the items that stand one after another from the start of the cells, up to the first that is
-- malformed or misses cells
unfoldable pub items : (ℕ → Token) → List ℕ → List Item
items token [] = []
items token (c ∷ cs) = entered (token c) c (items token cs)

-- the terms that stand first
unfoldable pub front : List Item → List Term
front [] = []
front (term t ∷ is) = t ∷ front is
front (last t ∷ is) = []
front (tail t ∷ is) = []

-- the terms whose compact forms stand first in the cells
unfoldable pub form_terms : (ℕ → ℕ) → List ℕ → List Term
form_terms arity cs = front (items (token_of arity) cs)

-- their pair form
unfoldable pub pair_form : (ℕ → ℕ) → List ℕ → List ℕ
pair_form arity cs = every pairs (form_terms arity cs)

-- ---- legal forms

unfoldable pub same : List ℕ → List ℕ → Bool
same [] [] = true
same [] (y ∷ ys) = false
same (x ∷ xs) [] = false
same (x ∷ xs) (y ∷ ys) = pick (eqb x y) (same xs ys) false

-- the cells are exactly the compact forms of m terms, with none left over
unfoldable pub are_forms : (ℕ → ℕ) → ℕ → List ℕ → Bool
are_forms arity m cs =
    let ts = form_terms arity cs in
    pick (eqb (length ts) m) (eqb (length (every compact ts)) (length cs)) false

-- the cells are the compact form of m terms that are legal together: variables numbered by first
-- meeting, at most 32 of them, and at most 256 cells of pair form
unfoldable pub legal_form : (ℕ → ℕ) → ℕ → List ℕ → Bool
legal_form arity m cs =
    pick (same cs (numbered cs))
    (pick (leb (length (met [] cs)) 32)
    (pick (are_forms arity m cs) (leb (length (pair_form arity cs)) 256) false) false)
    false
