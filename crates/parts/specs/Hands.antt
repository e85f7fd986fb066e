-- What the functions over answers in hand ask and give: the contracts' parts.
use Rattle.std.specs.Prelude.{ℕ, ◌+◌, ◌≤◌, ◌<◌, Bool, true, Option, Some, None, List, ◌≡◌, length, take}
use Rattle.forms.specs.Stored.{StoredForm, stored_of}
use Rattle.plain.specs.Words.{Word}
use Rattle.plain.specs.Joins.{matching, copied, pairs_named, copies_named}
use Rattle.parts.specs.Parts.{parts, GroundForm, tokens_start, InHand}

-- ---- an answer taken in hand

-- a form of m terms without variables, and room for it
pub record Takeable (e m : ℕ) (form held : List ℕ) : Type 0 where
  pub ground : GroundForm (stored_of e) m form
  pub few : m < tokens_start
  pub room : tokens_start + length form ≤ length held

-- it is in hand
pub record Taken (e m : ℕ) (form held held' : List ℕ) : Type 0 where
  pub hand : InHand (stored_of e) m form held'
  pub size : length held' ≡ length held

-- ---- two answers in hand compared

-- the pairs name terms of both
pub record Comparable (pairs outer inner : List ℕ) : Type 0 where
  pub stored : StoredForm
  pub m : ℕ
  pub n : ℕ
  pub u : Word
  pub v : Word
  pub first : InHand stored m u outer
  pub second : InHand stored n v inner
  pub named : pairs_named m n pairs ≡ true

-- whether they match, whatever forms are in hand
abbrev pub Compares : (pairs outer inner : List ℕ) → Bool → Type 0
Compares pairs outer inner r =
    (s : StoredForm) (m n : ℕ) (u v : Word) → InHand s m u outer → InHand s n v inner
    → pairs_named m n pairs ≡ true → r ≡ matching pairs (parts s u) (parts s v)

-- ---- terms of two answers in hand put together

-- the copies name terms of both, and there is room for the longest form
pub record Copyable (e : ℕ) (copies outer inner form : List ℕ) : Type 0 where
  pub m : ℕ
  pub n : ℕ
  pub u : Word
  pub v : Word
  pub first : InHand (stored_of e) m u outer
  pub second : InHand (stored_of e) n v inner
  pub named : copies_named m n copies ≡ true
  pub room : 383 ≤ length form

-- the form w stands at the start of the cells and fits, or it does not fit
abbrev pub Holds : StoredForm → Word → List ℕ → Option ℕ → Type 0
Holds s w form (Some k) = (k ≡ length w) × (take k form ≡ w) × (length (s.cells w) ≤ 256)
Holds s w form None = 256 < length (s.cells w)

-- the terms that the copies name were put together, whatever forms are in hand
pub record Copies (e : ℕ) (copies outer inner form form' : List ℕ) (r : Option ℕ) : Type 0 where
  pub holds : (m n : ℕ) (u v : Word) → InHand (stored_of e) m u outer → InHand (stored_of e) n v inner
      → copies_named m n copies ≡ true
      → Holds (stored_of e) (copied copies (parts (stored_of e) u) (parts (stored_of e) v)) form' r
  pub size : length form' ≡ length form
