-- The loop invariants of the readers of pair form: what is still to be read gives the whole, and the terms still due are
-- the sum over the cells read (crates/forms/specs/Due.antt).
use Rattle.forms.specs.Places.{placed}
use Rattle.forms.specs.declared.Place.{Place}
use Rattle.std.specs.Prelude.{Option, Some}
use Prim.Native.Nat.{ℕ, ◌+◌, ◌*◌, ◌-◌, ◌≤◌, ◌<◌}
use mathlib.Core.List.{List, [], ◌∷◌}
use mathlib.Core.Path.{◌≡◌, refl, sym, ◌∙◌}
use lib.ListN.{length, take, get_or}
use lib.Seq.{slice, slice_empty, length-take-le}
use native.Mathlib.Omega.{arith}
use Rattle.forms.specs.declared.Shape.TheVariants.{Symbol}
use Rattle.forms.specs.Cells.{shape_of}
use Rattle.forms.specs.Due.{arguments, due_after, due_of}
use Rattle.forms.proofs.DueLaws.{due-next, due-terms, due-within}
use Rattle.forms.proofs.NumberingLaws.{met-length}
use Rattle.pair_reader.specs.Storing.{Stores, TermsRan, ListRan}
use Rattle.pair_reader.proofs.PairSteps.{terms-none, terms-symbol, terms-one, term-room}

pub record TermsTurn (arity : ℕ → ℕ) (s : List ℕ) (from n : ℕ) (vars₀ : List ℕ) (known : ℕ) (out₀ : List ℕ) (start : ℕ) (vars out : List ℕ) (at due count to : ℕ) : Type 0 where
  pub from_at : from ≤ at
  pub at_in : at ≤ length s
  pub sum : due ≡ due_of arity n (slice from at s)
  pub count-in : count ≤ at
  pub room : 2 * to ≤ 3 * at
  pub vars-kept : length vars ≡ length vars₀
  pub out-kept : length out ≡ length out₀
  pub goes_on : (vars' out' : List ℕ) (r : Option Place) → TermsRan arity s at due vars count out to vars' out' r → TermsRan arity s from n vars₀ known out₀ start vars' out' r

module _ (arity : ℕ → ℕ) (s : List ℕ) (from n : ℕ) (vars₀ : List ℕ) (known : ℕ) (out₀ : List ℕ) (start : ℕ) where
  -- before the first cell
  pub turn-first : from ≤ length s → known ≤ from → 2 * start ≤ 3 * from → TermsTurn arity s from n vars₀ known out₀ start vars₀ out₀ from n known start
  unfolding due_of
  turn-first h k j =
      record { from_at = omega arith; at_in = h; sum = rw (slice_empty from s); count-in = k; room = j; vars-kept = refl; out-kept = refl; goes_on = λ v o r w. w }

  module _ (vars out : List ℕ) (at due count to : ℕ) (turn : TermsTurn arity s from n vars₀ known out₀ start vars out at due count to) where
    -- the sum is small: a cell adds 254 at most
    pub turn_small : ((p : ℕ) → arity p ≤ 255) → due ≤ n + 254 * at
    turn_small small = omega (arith, due-within arity s from at n turn.from_at turn.at_in small, turn.sum)

    module _ (wide : length s ≤ length vars₀) where
      -- none is due
      pub turn_last : due ≤ 0 → TermsRan arity s from n vars₀ known out₀ start vars out (Some (placed at to count))
      turn_last h = turn.goes_on vars out (Some (placed at to count)) (terms-none arity s at due vars count out to (omega arith) (omega arith))

      module _ (some : 0 < due) (vars₁ out₁ : List ℕ) (due₁ count₁ : ℕ) (kept : length out₁ ≡ length out) where
        -- after a symbol
        pub turn-symbol : (k : ℕ) → at < length s → shape_of arity (get_or s at 0) ≡ Symbol k → due₁ ≡ due_after due k → Stores (get_or s at 0) vars count out to vars₁ count₁ out₁
            → TermsTurn arity s from n vars₀ known out₀ start vars₁ out₁ (at + 1) due₁ count₁ (to + 1)
        unfolding arguments
        turn-symbol k h q d v =
            let e : due ≡ due_of arity n (slice from at s) = turn.sum in
            let j : count ≤ length vars = omega arith in
            record {
              from_at = omega arith;
              at_in = omega arith;
              sum = d ∙ sym (due-next arity s from at n turn.from_at turn.at_in h ∙ rw (← e, q));
              count-in = omega (arith, v.count_at, met-length (get_or s at 0 ∷ []) (take count vars), length-take-le count vars j);
              room = omega arith;
              vars-kept = v.kept ∙ turn.vars-kept;
              out-kept = kept ∙ turn.out-kept;
              goes_on = λ v' o' r w. turn.goes_on v' o' r (terms-symbol arity s at due some h vars count out to v' o' vars₁ count₁ out₁ (to + 1) k due₁ r q d v w);
            }

        -- after a term
        pub turn-term : (next end : ℕ) → due₁ ≡ due - 1 → TermsRan arity s at 1 vars count out to vars₁ out₁ (Some (placed next end count₁))
            → TermsTurn arity s from n vars₀ known out₀ start vars₁ out₁ next due₁ count₁ end
        turn-term next end d v =
            let f = term-room arity s at vars count out to vars₁ count₁ out₁ next end v turn.at_in turn.count-in (omega arith) in
            let e : due ≡ due_of arity n (slice from at s) = turn.sum in
            record {
              from_at = omega (arith, f);
              at_in = f.5;
              sum = omega (arith, due-terms arity s from at n turn.from_at turn.at_in 1 next v.0 (omega arith) v.1);
              count-in = f.3;
              room = omega (arith, f);
              vars-kept = f.4 ∙ turn.vars-kept;
              out-kept = kept ∙ turn.out-kept;
              goes_on = λ v' o' r w. turn.goes_on v' o' r (terms-one arity s at vars count out to vars₁ count₁ out₁ next end v v' o' due due₁ r some d w);
            }

pub record ListTurn (arity : ℕ → ℕ) (s : List ℕ) (from : ℕ) (vars₀ : List ℕ) (known : ℕ) (out₀ : List ℕ) (start : ℕ) (vars out : List ℕ) (at count to : ℕ) : Type 0 where
  pub from_at : from ≤ at
  pub at_in : at ≤ length s
  pub count-in : count ≤ at
  pub room : 2 * to + 1 ≤ 3 * at
  pub vars-kept : length vars ≡ length vars₀
  pub out-kept : length out ≡ length out₀
  pub goes_on : (vars' out' : List ℕ) (r : Option Place) → ListRan arity s at vars count out to vars' out' r → ListRan arity s from vars₀ known out₀ start vars' out' r
