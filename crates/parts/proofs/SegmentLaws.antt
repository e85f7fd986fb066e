-- The tokens of a term stand between the places of an answer in hand.
use Prim.Native.Nat.{ℕ, zero, suc, ◌+◌, ◌≤◌, ◌<◌}
use mathlib.Core.List.{List, [], ◌∷◌, ◌++◌, append-nil, map}
use mathlib.Core.Path.{◌≡◌, sym, ap, ◌∙◌}
use native.Mathlib.Omega.{arith}
use native.Mathlib.Nat.{suc-add, zero-add}
use native.Mathlib.Numerals.{add-one}
use lib.ListN.{length, take, drop, get_or, length-append}
use lib.Seq.{slice, take-take, take-nil, drop-nil, take-append_seam, drop-append_seam}
use Rattle.forms.specs.Terms.{Term, every}
use Rattle.forms.specs.Stored.{StoredForm}
use Rattle.plain.specs.Words.{Word}
use Rattle.plain.specs.Joins.{term_at}
use Rattle.parts.specs.Parts.{parts, tokens_start, InHand}
use Rattle.parts.specs.Segments.{from, until, Spans, segment}

-- ---- places within the forms of terms

pub every-grows : (form : Term → List ℕ) (ts : List Term) (i : ℕ) → length (every form (take i ts)) ≤ length (every form (take (suc i) ts))
unfolding every
every-grows form [] zero = omega arith
every-grows form [] (suc i) = omega arith
every-grows form (t ∷ ts) zero = omega arith
every-grows form (t ∷ ts) (suc i) = omega (arith, length-append (form t) (every form (take i ts)), length-append (form t) (every form (take (suc i) ts)), every-grows form ts i)

pub every-within : (form : Term → List ℕ) (ts : List Term) (i : ℕ) → length (every form (take i ts)) ≤ length (every form ts)
unfolding every
every-within form [] zero = omega arith
every-within form [] (suc i) = omega arith
every-within form (t ∷ ts) zero = omega arith
every-within form (t ∷ ts) (suc i) = omega (arith, length-append (form t) (every form (take i ts)), length-append (form t) (every form ts), every-within form ts i)

-- a part of what stands behind n cells
slice-behind : (n a b : ℕ) (l : List ℕ) → slice (n + a) (n + b) l ≡ slice a b (drop n l)
slice-behind zero a b l = rw (zero-add, zero-add)
slice-behind (suc n) a b [] = rw (suc-add, suc-add) (sym (ap (drop a) (take-nil b) ∙ drop-nil a))
slice-behind (suc n) a b (x ∷ l) = rw (suc-add, suc-add) (slice-behind n a b l)

every-slice : (form : Term → List ℕ) (ts : List Term) (i : ℕ) → i < length ts
    → slice (length (every form (take i ts))) (length (every form (take (suc i) ts))) (every form ts) ≡ get_or (map form ts) i []
unfolding every
every-slice form [] i h = absurd (omega arith)
every-slice form (t ∷ ts) zero h = rw (append-nil (form t)) (take-append_seam (form t) (every form ts))
every-slice form (t ∷ ts) (suc i) h =
    rw (
      length-append (form t) (every form (take i ts)),
      length-append (form t) (every form (take (suc i) ts)),
      slice-behind (length (form t)) (length (every form (take i ts))) (length (every form (take (suc i) ts))) (form t ++ every form ts),
      drop-append_seam (form t) (every form ts),
    ) (every-slice form ts i (omega arith))

-- ---- an answer in hand

module _ (s : StoredForm) (m : ℕ) (w : Word) (held : List ℕ) (hand : InHand s m w held) (i : ℕ) (low : i < m) where
  abbrev ts : List Term
  ts = s.terms w

  whole : length (every s.tokens ts) ≡ length w
  whole = sym (ap length hand.form.tokens)

  begins : from held i ≡ tokens_start + length (every s.tokens (take i ts))
  begins = hand.starts i (omega arith)

  ends : until held i ≡ tokens_start + length (every s.tokens (take (suc i) ts))
  ends = hand.starts (i + 1) (omega arith) ∙ rw add-one

  pub hand-spans : Spans held i
  hand-spans = record {
    inside = omega (arith, hand.room, hand.few);
    ordered = omega (arith, begins, ends, every-grows s.tokens ts i);
    within = omega (arith, ends, every-within s.tokens ts (suc i), whole, hand.room);
  }

  pub hand-segment : segment held i ≡ term_at (parts s w) i
  unfolding segment
  hand-segment =
      let a : ℕ = length (every s.tokens (take i ts)) in
      let b : ℕ = length (every s.tokens (take (suc i) ts)) in
      let k : b ≤ length w = omega (arith, every-within s.tokens ts (suc i), whole) in
      rw (begins, ends, slice-behind tokens_start a b held)
      (ap (λ (l : List ℕ). drop a l) (sym (take-take b (length w) (drop tokens_start held) k) ∙ ap (take b) (hand.tokens ∙ hand.form.tokens))
      ∙ every-slice s.tokens ts i (omega (arith, hand.form.count)))
