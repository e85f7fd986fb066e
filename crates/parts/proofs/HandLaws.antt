-- What the functions over answers in hand ask, from what is in hand.
use Prim.Native.Nat.{ℕ, ◌≤◌}
use mathlib.Core.Bool.{true}
use mathlib.Core.List.{List}
use mathlib.Core.Path.{◌≡◌}
use lib.ListN.{length}
use Rattle.forms.specs.Stored.{StoredForm, stored_of}
use Rattle.plain.specs.Words.{Word}
use Rattle.plain.specs.Joins.{pairs_named, copies_named}
use Rattle.parts.specs.Parts.{InHand}
use Rattle.parts.specs.Hands.{Comparable, Copyable}

pub comparable : (s : StoredForm) (m n : ℕ) (u v : Word) (pairs outer inner : List ℕ)
    → InHand s m u outer → InHand s n v inner → pairs_named m n pairs ≡ true → Comparable pairs outer inner
comparable s m n u v pairs outer inner f g e =
    record { stored = s; m = m; n = n; u = u; v = v; first = f; second = g; named = e }

pub copyable : (e m n : ℕ) (u v : Word) (copies outer inner form : List ℕ)
    → InHand (stored_of e) m u outer → InHand (stored_of e) n v inner → copies_named m n copies ≡ true
    → 383 ≤ length form → Copyable e copies outer inner form
copyable e m n u v copies outer inner form f g h l =
    record { m = m; n = n; u = u; v = v; first = f; second = g; named = h; room = l }
