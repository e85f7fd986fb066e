-- The loop invariants of the readers of compact form: what is still to be read gives the whole.
use Rattle.forms.specs.declared.Place.{Place}
use Rattle.std.specs.Prelude.{Option}
use Prim.Native.Nat.{ℕ, ◌+◌, ◌≤◌}
use mathlib.Core.Bool.{Bool, false}
use mathlib.Core.List.{List}
use mathlib.Core.Path.{◌≡◌}
use lib.ListN.{length}
use Rattle.form_reader.specs.Loading.{FormsRan, RestRan}

pub record FormsTurn (arity : ℕ → ℕ) (s : List ℕ) (limit from n known : ℕ) (out₀ : List ℕ) (start : ℕ) (out : List ℕ) (at due count to : ℕ) : Type 0 where
  pub from_at : from ≤ at
  pub at_in : at ≤ length s
  pub count-in : count ≤ at
  pub room : to + due ≤ limit
  pub out-kept : length out ≡ length out₀
  pub goes_on : (out' : List ℕ) (r : Option Place) → FormsRan arity s limit at due count out to out' r → FormsRan arity s limit from n known out₀ start out' r

pub record RestTurn (arity : ℕ → ℕ) (s : List ℕ) (limit from known : ℕ) (out₀ : List ℕ) (start : ℕ) (out : List ℕ) (at : ℕ) (some : Bool) (count to : ℕ) : Type 0 where
  pub from_at : from ≤ at
  pub at_in : at ≤ length s
  pub count-in : count ≤ at
  pub room : to + 1 ≤ limit
  pub out-kept : length out ≡ length out₀
  pub goes_on : (out' : List ℕ) (r : Option Place) → RestRan arity s limit at some count out to out' r → RestRan arity s limit from false known out₀ start out' r
