-- What is proved of the list, for all that may be given: nothing else stands in it and nothing is missed; its order;
-- that the two calls give it term by term; that no two are variants; and that each may be called.
use Rattle.std.specs.Prelude.{ℕ, zero, suc, ◌≤◌, ◌<◌, Bool, true, false, List, [], ◌∷◌, ◌≡◌, length, get_or, eqb, ltb}
use Rattle.std.specs.Prelude.{Ok, None, Some}
use Rattle.basis.specs.Choice.{pick}
use Rattle.forms.specs.Cells.{variable, arity_of}
use Rattle.forms.specs.Terms.{are_terms}
use Rattle.forms.specs.Numbering.{rank, met, numbered}
use Rattle.forms.specs.Stored.{StoredForm}
use Rattle.forms.specs.Converting.{reading, formed}
use Rattle.listing.specs.Listing.{alphabet, begins, listing, Listed, holds, contains, first_term}
use Rattle.listing.specs.Listing.{term_after, listable}

-- a numbered term of exactly s cells that begins with an atom or a functor, over the symbols and variables
pub record Belongs (e s : ℕ) (symbols t : List ℕ) : Type 0 where
  pub size : length t ≡ s
  pub term : are_terms (arity_of e) 1 t ≡ true
  pub numbers : numbered t ≡ t
  pub first : begins t ≡ true
  pub over : (k : ℕ) → k < length t → variable (get_or t k 0) ≡ false → contains symbols (get_or t k 0) ≡ true

-- the first cell in which two terms differ stands earlier in t
unfoldable pub stands_earlier : List ℕ → List ℕ → List ℕ → Bool
stands_earlier cells [] u = false
stands_earlier cells (x ∷ xs) [] = false
stands_earlier cells (x ∷ xs) (y ∷ ys) = pick (eqb x y) (stands_earlier cells xs ys) (ltb (rank cells x) (rank cells y))

-- the terms that follow from f on, one call after another, up to n of them
unfoldable pub walked : ℕ → ℕ → List ℕ → ℕ → Listed → List (List ℕ)
walked e s symbols zero f = []
walked e s symbols (suc n) None = []
walked e s symbols (suc n) (Some t) = t ∷ walked e s symbols n (term_after e s symbols t)

module _ (e s : ℕ) (symbols : List ℕ) where
  -- what stands in the list belongs there, and what belongs there stands in it
  abbrev pub ListComplete : Type 0
  ListComplete = (t : List ℕ) → (holds t (listing e s symbols) ≡ true → Belongs e s symbols t)
      × (Belongs e s symbols t → holds t (listing e s symbols) ≡ true)

  -- it is in order
  abbrev pub InOrder : Type 0
  InOrder = (i j : ℕ) → i < j → j < length (listing e s symbols)
      → stands_earlier (alphabet s symbols) (get_or (listing e s symbols) i [])
      (get_or (listing e s symbols) j []) ≡ true

  -- each term comes once
  abbrev pub Once : Type 0
  Once = (i j : ℕ) → i < length (listing e s symbols) → j < length (listing e s symbols)
      → get_or (listing e s symbols) i [] ≡ get_or (listing e s symbols) j [] → i ≡ j

  -- the first term, the one after it, and so on to the end are the list
  abbrev pub Walked : Type 0
  Walked = (n : ℕ) → length (listing e s symbols) ≤ n
      → walked e s symbols n (first_term e s symbols) ≡ listing e s symbols

  -- two of the terms are never variants
  abbrev pub NoVariants : Type 0
  NoVariants = (t u : List ℕ) → holds t (listing e s symbols) ≡ true → holds u (listing e s symbols) ≡ true
      → numbered t ≡ numbered u → t ≡ u

  -- a call takes each of them, whatever the stored form: the reader accepts it, with its distinct variables counted,
  -- and it begins as a call does
  abbrev pub ListCallable : Type 0
  ListCallable = (t : List ℕ) → holds t (listing e s symbols) ≡ true
      → ((w : StoredForm) → reading (arity_of e) w 1 t ≡ Ok (formed (length (w.form t)) (length (met [] t))))
      × (begins t ≡ true)

-- all of it, wherever there is a list
pub record Lists (e s : ℕ) (symbols : List ℕ) : Type 0 where
  pub complete : ListComplete e s symbols
  pub in_order : InOrder e s symbols
  pub once : Once e s symbols
  pub steps : Walked e s symbols
  pub no-variants : NoVariants e s symbols
  pub callable : ListCallable e s symbols

abbrev pub EveryList : Type 0
EveryList = (e s : ℕ) (symbols : List ℕ) → listable e s symbols ≡ true → Lists e s symbols
