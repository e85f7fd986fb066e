-- Every answer of the two calls that list terms is one that a result word holds: at most 8 cells.
use Prim.Native.Nat.{ℕ, ◌≤◌}
use mathlib.Core.Bool.{Bool, true, false}
use mathlib.Core.List.{List}
use mathlib.Core.Path.{◌≡◌, refl, ap, ◌∙◌}
use native.Mathlib.Omega.{arith}
use lib.Dec.{leb}
use Rattle.basis.specs.Choice.{pick}
use Rattle.std.specs.Prelude.{Some, None, Ok, Err}
use Rattle.basis.specs.declared.refusals.Refusal.{Refusal}
use Rattle.basis.specs.declared.refusals.Refusal.TheVariants as refusal
use Rattle.forms.specs.declared.Unwritten.TheVariants.{Refused, Short}
use Rattle.listing.specs.Listing.{Listing, Listed, holds, listing, first_term, term_after, listable, offered}
use Rattle.listing.specs.Listing.{first_answer, after_answer, listing_out}
use Rattle.listing.proofs.Calls.{given}
use Rattle.words.specs.Listings.{ListingBounded}

-- what stands where a test holds; else a refusal
tested-bounded : (b : Bool) (x : Listing) (r : Refusal) → (b ≡ true → ListingBounded x) → ListingBounded (pick b x (Err (Refused r)))
tested-bounded true x r f = f refl
tested-bounded false x r f = tt

fitted-bounded : (b : Bool) (s : ℕ) → s ≤ 8 → ListingBounded {R = Refusal} (pick b (Ok (Some s)) (Err (Short s)))
fitted-bounded true s h = omega arith
fitted-bounded false s h = omega arith

offered-bounded : (f : Listed) (s room : ℕ) → s ≤ 8 → ListingBounded (offered f s room)
unfolding offered
offered-bounded None s room h = tt
offered-bounded (Some t) s room h = fitted-bounded (leb s room) s h

module _ (e s : ℕ) (symbols : List ℕ) where
  pub first-bounded : (room : ℕ) → ListingBounded (first_answer e s symbols room)
  unfolding first_answer
  first-bounded room =
      tested-bounded (listable e s symbols) (offered (first_term e s symbols) s room) refusal.Listing
      (λ h. offered-bounded (first_term e s symbols) s room (given e s symbols h).few-cells)

  pub after-bounded : (t : List ℕ) (room : ℕ) → ListingBounded (after_answer e s symbols t room)
  unfolding after_answer
  after-bounded t room =
      tested-bounded (listable e s symbols)
      (pick (holds t (listing e s symbols)) (offered (term_after e s symbols t) s room) (Err (Refused refusal.Listed))) refusal.Listing
      (λ h. tested-bounded (holds t (listing e s symbols)) (offered (term_after e s symbols t) s room) refusal.Listed
      (λ k. offered-bounded (term_after e s symbols t) s room (given e s symbols h).few-cells))

-- ---- an answer and what the call gives

pub listing-bounded : {a b : Listing} → a ≡ b → ListingBounded a → ListingBounded b
listing-bounded same f = rw same at f

-- what is left in out, by what the call answers
pub listing-left : {r x : Listing} → r ≡ x → (f : Listed) (out : List ℕ) {out' : List ℕ} → out' ≡ listing_out r f out → out' ≡ listing_out x f out
listing-left e f out h = h ∙ ap (λ (y : Listing). listing_out y f out) e
