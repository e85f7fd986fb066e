-- What the two calls answer, by what the code found.
use Rattle.std.specs.Prelude.{Some, None, Err}
use Prim.Native.Nat.{ℕ, ◌-◌, ◌≤◌}
use mathlib.Core.Bool.{true, false}
use mathlib.Core.List.{List, [], ◌++◌}
use mathlib.Core.Path.{◌≡◌, refl, sym, ap, ◌∙◌}
use native.Mathlib.Omega.{arith}
use lib.ListN.{length, take, drop, length-append, length-drop}
use lib.Seq.{take_at, length-take-le, take_all}
use lib.Dec.{eqb}
use borrow.Author.Tests.{eqb-true}
use Rattle.basis.specs.declared.refusals.Refusal.TheVariants as refusal
use Rattle.forms.specs.declared.Unwritten.TheVariants.{Refused}
use Rattle.listing.specs.declared.Spot.{Spot}
use Rattle.listing.specs.Listing.{alphabet, Listed, Listing, listing_out, first_term, term_after, listable, first_answer, after_answer, GivesFirst, GivesAfter}
use Rattle.listing.specs.Steps.{start, prefixed, first_way, next_way, goes, spelt, is_listed}
use Rattle.listing.specs.Clauses.{Offers}
use Rattle.listing.proofs.Tests.{both}
use Rattle.listing.proofs.Calls.{given, first-steps, holds-steps, after-steps}

prefixed-none : (f : Listed) → prefixed [] f ≡ f
unfolding prefixed
prefixed-none None = refl
prefixed-none (Some t) = refl

module _ (e s : ℕ) (symbols out : List ℕ) where
  pub first-refused : listable e s symbols ≡ false → GivesFirst e s symbols out (Err (Refused refusal.Listing)) out
  unfolding first_answer listing_out
  first-refused h = (rw h, refl)

  pub first-offered : listable e s symbols ≡ true → (p : Spot) → p ≡ start → (buffer : List ℕ) (f : Listed)
      → f ≡ prefixed (take p.at buffer) (first_way e symbols (alphabet s symbols) p (s - p.at))
      → (r : Listing) (out' : List ℕ) → Offers f s out r out' → GivesFirst e s symbols out r out'
  unfolding first_answer
  first-offered h p b buffer f k r out' o =
      let n : s - 0 ≡ s = omega arith in
      let z : f ≡ first_term e s symbols = rw b at k ∙ prefixed-none _ ∙ ap (first_way e symbols (alphabet s symbols) start) n ∙ sym (first-steps e s symbols (given e s symbols h)) in
      (o.0 ∙ rw (z, h), o.1 ∙ rw z)

module _ (e s : ℕ) (symbols t out : List ℕ) where
  pub after-refused : listable e s symbols ≡ false → GivesAfter e s symbols t out (Err (Refused refusal.Listing)) out
  unfolding after_answer listing_out
  after-refused h = (rw h, refl)

  module _ (h : listable e s symbols ≡ true) where
    pub after-strange : is_listed e s symbols t ≡ false → GivesAfter e s symbols t out (Err (Refused refusal.Listed)) out
    unfolding after_answer listing_out
    after-strange l = (rw (h, holds-steps e s symbols (given e s symbols h) t, l), refl)

    module _ (l : is_listed e s symbols t ≡ true) where
      -- the term is copied whole, and goes on from the start
      pub listed-whole : (length t ≡ s) × (spelt (alphabet s symbols) t ≡ true) × (goes e start t ≡ true)
      unfolding is_listed
      listed-whole =
          let a = both (eqb (length t) s) _ l in
          let b = both (spelt (alphabet s symbols) t) _ a.1 in
          (eqb-true (length t) s a.0, b.0, b.1)

      pub copied : (rest buffer : List ℕ) → buffer ≡ take s t ++ rest → take s buffer ≡ t
      copied rest buffer k =
          let n : length t ≡ s = listed-whole.0 in
          let z : take s t ≡ t = take_all s t (omega arith) in
          ap (take s) k ∙ take_at (take s t) rest s (ap length z ∙ n) ∙ z

      pub copied-long : (zeros buffer : List ℕ) → s ≤ length zeros → buffer ≡ take s t ++ drop s zeros → length buffer ≡ length zeros
      copied-long zeros buffer h k =
          let n : length t ≡ s = listed-whole.0 in
          ap length k ∙ length-append (take s t) (drop s zeros) ∙ omega (arith, length-take-le s t (omega arith), length-drop s zeros)

      -- the buffer that it is copied into
      pub record Copied (buffer : List ℕ) (p : Spot) : Type 0 where
        pub letters : spelt (alphabet s symbols) (drop p.at (take s buffer)) ≡ true
        pub ends : goes e p (drop p.at (take s buffer)) ≡ true

      pub copied-goes : (rest buffer : List ℕ) → buffer ≡ take s t ++ rest → (p : Spot) → p ≡ start → Copied buffer p
      copied-goes rest buffer k p b =
          let z : take s buffer ≡ t = copied rest buffer k in
          record { letters = rw (b, z) listed-whole.1; ends = rw (b, z) listed-whole.2 }

      pub after-offered : (rest buffer : List ℕ) → buffer ≡ take s t ++ rest → (p : Spot) → p ≡ start → (f : Listed)
          → f ≡ prefixed (take p.at buffer) (next_way e symbols (alphabet s symbols) p (drop p.at (take s buffer)))
          → (r : Listing) (out' : List ℕ) → Offers f s out r out' → GivesAfter e s symbols t out r out'
      unfolding after_answer
      after-offered rest buffer c p b f k r out' o =
          let w : next_way e symbols (alphabet s symbols) start (take s buffer) ≡ next_way e symbols (alphabet s symbols) start t = ap (next_way e symbols (alphabet s symbols) start) (copied rest buffer c) in
          let z : f ≡ term_after e s symbols t = rw b at k ∙ prefixed-none _ ∙ w ∙ sym (after-steps e s symbols (given e s symbols h) t l) in
          (o.0 ∙ rw (z, h, holds-steps e s symbols (given e s symbols h) t, l), o.1 ∙ rw z)
