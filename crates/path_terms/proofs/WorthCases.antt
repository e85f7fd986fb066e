-- Whether a path is a legal form, and how many variables it has.
use Rattle.std.specs.Prelude.{None, Some}
use Prim.Native.Nat.{ℕ, ◌+◌, ◌≤◌}
use mathlib.Core.Path.{◌≡◌, refl, sym, ap}
use mathlib.Core.Bool.{Bool, true, false}
use mathlib.Core.List.{[], ◌∷◌}
use native.Mathlib.Omega.{arith}
use lib.ListN.{length, get_or}
use Rattle.forms.specs.Stored.{stored_of}
use Rattle.forms.specs.Numbering.{met}
use Rattle.forms.specs.Converting.{loading}
use Rattle.plain.specs.Words.{Word}
use Rattle.trie.specs.Paths.{Path, none}
use Rattle.plain.specs.Coding.{predicate}
use Rattle.forms.specs.Cells.{callable}
use Rattle.forms.proofs.StoredLaws.{stored_of_lem}
use Rattle.instances.proofs.LeavingLaws.{form-refused, form-loaded}
use Rattle.path_terms.specs.AlongPaths.{form_worth, worth}

-- ---- what a form is worth

pub begins-none : (w : Word) → length w ≡ 0 → false ≡ predicate w
unfolding predicate
begins-none [] e = refl
begins-none (c ∷ w) e = absurd (omega arith)

pub begins-first : (w : Word) (r : Bool) → (length w ≡ 0 → ⊥) → r ≡ callable (get_or w 0 0) → r ≡ predicate w
unfolding predicate
begins-first [] r n e = absurd (n refl)
begins-first (c ∷ w) r n e = e

module _ (edition m : ℕ) (called : Bool) (w : Word) where
  pub worth-none : None ≡ loading (stored_of edition) m w → 0 ≡ form_worth edition m called w
  worth-none e = rw (← form-refused (stored_of edition) m w e) refl

  module _ (n variables : ℕ) (e : Some n ≡ loading (stored_of edition) m w) where
    pub few-variables : variables ≡ length (met [] w) → variables ≤ 32
    few-variables v =
        let h : (stored_of edition).legal m w ≡ true = sym (form-loaded (stored_of edition) m w n e) in
        let laws = stored_of_lem edition in
        omega (arith, v, (laws.demand.loaded m w h).0.variables, ap length (laws.exact-terms m w (laws.legal-exact m w h)).variables)

    pub worth-begun : called ≡ true → predicate w ≡ true → variables ≡ length (met [] w) → variables + 1 ≡ form_worth edition m called w
    worth-begun c p v = rw (← form-loaded (stored_of edition) m w n e) (rw (c, p, v) refl)

    pub worth-unbegun : called ≡ true → predicate w ≡ false → 0 ≡ form_worth edition m called w
    worth-unbegun c p = rw (← form-loaded (stored_of edition) m w n e) (rw (c, p) refl)

    pub worth-answered : called ≡ false → variables ≡ length (met [] w) → variables + 1 ≡ form_worth edition m called w
    worth-answered c v = rw (← form-loaded (stored_of edition) m w n e) (rw (c, v) refl)

pub worth-lost : (edition m : ℕ) (called : Bool) (p : Path) → p ≡ none → 0 ≡ worth edition m called p
worth-lost edition m called p e = rw e refl

-- told of a flag by what it is
pub worth-as : (edition m : ℕ) (p : Path) (r : ℕ) {called known : Bool} → called ≡ known → r ≡ worth edition m known p → r ≡ worth edition m called p
worth-as edition m p r e w = rw e w
