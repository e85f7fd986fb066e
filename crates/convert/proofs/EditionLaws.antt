-- What was read or loaded in the one stored form or the other was read or loaded in the edition that stores it.
use Rattle.convert.specs.declared.Loaded.{Loaded}
use Rattle.forms.specs.Converting.{Reading}
use Rattle.std.specs.Prelude.{Option}
use Prim.Native.Nat.{ℕ}
use mathlib.Core.List.{List}
use mathlib.Core.Bool.{true, false}
use mathlib.Core.Path.{◌≡◌, sym, subst}
use Rattle.forms.specs.Cells.{arity_of}
use Rattle.forms.specs.Stored.{StoredForm, stores_pairs}
use Rattle.forms.proofs.StoredLaws.{pairs-stored, lists-stored}
use Rattle.convert.specs.Holds.{ReadsAs, Reads, ReadsLists, ReadsPairs, CountedAs, LoadsCounted, CountsLists, CountsPairs}

module _ (e m : ℕ) (cs buffer : List ℕ) where
  pub reads-pairs : (vars : List ℕ) (r : Reading) → stores_pairs e ≡ true → ReadsPairs e m cs vars buffer r → Reads e m cs vars buffer r
  reads-pairs vars r k h = subst (λ (s : StoredForm). ReadsAs (arity_of e) s m cs vars buffer r) (sym (pairs-stored e k)) h

  pub reads-lists : (vars : List ℕ) (r : Reading) → stores_pairs e ≡ false → ReadsLists e m cs vars buffer r → Reads e m cs vars buffer r
  reads-lists vars r k h = subst (λ (s : StoredForm). ReadsAs (arity_of e) s m cs vars buffer r) (sym (lists-stored e k)) h

  pub counts-pairs : (r : Option Loaded) → stores_pairs e ≡ true → CountsPairs e m cs buffer r → LoadsCounted e m cs buffer r
  counts-pairs r k h = subst (λ (s : StoredForm). CountedAs s m cs buffer r) (sym (pairs-stored e k)) h

  pub counts-lists : (r : Option Loaded) → stores_pairs e ≡ false → CountsLists e m cs buffer r → LoadsCounted e m cs buffer r
  counts-lists r k h = subst (λ (s : StoredForm). CountedAs s m cs buffer r) (sym (lists-stored e k)) h
