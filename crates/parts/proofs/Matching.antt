-- Answers in hand compared pair by pair.
use Prim.Native.Nat.{ℕ, ◌+◌, ◌≤◌, ◌<◌}
use mathlib.Core.Bool.{Bool, true, false}
use mathlib.Core.List.{List}
use mathlib.Core.Path.{◌≡◌, refl, sym, ap, ◌∙◌}
use lib.ListN.{length, drop, get_or, drop_of_length-le}
use Rattle.basis.specs.Choice.{pick}
use Rattle.forms.specs.Compact.{same}
use Rattle.forms.specs.Stored.{StoredForm}
use Rattle.plain.specs.Words.{Word}
use Rattle.plain.specs.Joins.{Terms, term_at, pairs_named, matching}
use Rattle.parts.specs.Parts.{parts, InHand}
use Rattle.parts.specs.Segments.{Spans, segment}
use Rattle.parts.specs.Hands.{Comparable, Compares}
use Rattle.parts.proofs.SegmentLaws.{hand-spans, hand-segment}
use Rattle.parts.proofs.NamedTerms.{named-pair}

-- what is left to be compared decides
pub record Left (m n : ℕ) (us vs : Terms) (pairs : List ℕ) (i : ℕ) : Type 0 where
  pub named : pairs_named m n (drop i pairs) ≡ true
  pub rest : matching pairs us vs ≡ matching (drop i pairs) us vs

pub record Passed (pairs outer inner : List ℕ) (i : ℕ) : Type 0 where
  pub each : (form : StoredForm) (m n : ℕ) (u v : Word) → InHand form m u outer → InHand form n v inner
      → pairs_named m n pairs ≡ true → Left m n (parts form u) (parts form v) pairs i

pub passed_none : (pairs outer inner : List ℕ) → Passed pairs outer inner 0
passed_none pairs outer inner = record { each = λ form m n u v f g e. record { named = e; rest = refl } }

module _ (pairs outer inner : List ℕ) (i : ℕ) (p : Passed pairs outer inner i) where
  pub record Here : Type 0 where
    pub inside : i + 1 < length pairs
    pub first : Spans outer (get_or pairs i 0)
    pub second : Spans inner (get_or pairs (i + 1) 0)

  pub passed_here : Comparable pairs outer inner → i < length pairs → Here
  passed_here c h =
      let l = p.each c.stored c.m c.n c.u c.v c.first c.second c.named in
      let q = named-pair c.m c.n pairs i h l.named in
      record {
        inside = q.pair.inside;
        first = hand-spans c.stored c.m c.u outer c.first (get_or pairs i 0) q.first;
        second = hand-spans c.stored c.n c.v inner c.second (get_or pairs (i + 1) 0) q.second;
      }

  module _ (h : i < length pairs) (x y : ℕ) (a : x ≡ get_or pairs i 0) (b : y ≡ get_or pairs (i + 1) 0) (r : Bool) (s : r ≡ same (segment outer x) (segment inner y)) where
    step : (form : StoredForm) (m n : ℕ) (u v : Word) → InHand form m u outer → InHand form n v inner → pairs_named m n pairs ≡ true
        → (matching pairs (parts form u) (parts form v) ≡ pick r (matching (drop (i + 2) pairs) (parts form u) (parts form v)) false)
        × (pairs_named m n (drop (i + 2) pairs) ≡ true)
    unfolding matching
    step form m n u v f g e =
        let l = p.each form m n u v f g e in
        let q = named-pair m n pairs i h l.named in
        let z : same (term_at (parts form u) (get_or pairs i 0)) (term_at (parts form v) (get_or pairs (i + 1) 0)) ≡ r =
        ap (λ (w : Word). same w (term_at (parts form v) (get_or pairs (i + 1) 0))) (sym (hand-segment form m u outer f (get_or pairs i 0) q.first))
        ∙ ap (same (segment outer (get_or pairs i 0))) (sym (hand-segment form n v inner g (get_or pairs (i + 1) 0) q.second))
        ∙ ap (λ (j : ℕ). same (segment outer j) (segment inner (get_or pairs (i + 1) 0))) (sym a)
        ∙ ap (λ (j : ℕ). same (segment outer x) (segment inner j)) (sym b) ∙ sym s in (
          l.rest ∙ ap (λ (ps : List ℕ). matching ps (parts form u) (parts form v)) q.pair.cells
              ∙ ap (λ (t : Bool). pick t (matching (drop (i + 2) pairs) (parts form u) (parts form v)) false) z,
          q.more,
        )

    pub passed-more : r ≡ true → Passed pairs outer inner (i + 2)
    passed-more t = record {
      each = λ form m n u v f g e.
          let w = step form m n u v f g e in
          record { named = w.1; rest = w.0 ∙ ap (λ (d : Bool). pick d (matching (drop (i + 2) pairs) (parts form u) (parts form v)) false) t };
    }

    pub passed-other : r ≡ false → Compares pairs outer inner false
    passed-other t form m n u v f g e =
        sym ((step form m n u v f g e).0 ∙ ap (λ (d : Bool). pick d (matching (drop (i + 2) pairs) (parts form u) (parts form v)) false) t)

  pub passed-all : length pairs ≤ i → Compares pairs outer inner true
  unfolding matching
  passed-all h form m n u v f g e =
      sym ((p.each form m n u v f g e).rest ∙ ap (λ (ps : List ℕ). matching ps (parts form u) (parts form v)) (drop_of_length-le pairs h))
