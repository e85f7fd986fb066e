-- One law for each outcome of the exports.
use Rattle.std.specs.Prelude.{Some, None, Ok, Err}
use Prim.Native.Nat.{ℕ, ◌*◌, ◌/◌, ◌%◌, ◌≤◌, ◌<◌}
use mathlib.Core.List.{List, ◌++◌}
use mathlib.Core.Bool.{true, false}
use mathlib.Core.Path.{◌≡◌, ap, ◌∙◌}
use native.Mathlib.Omega.{arith}
use lib.ListN.{length, take, drop}
use lib.Seq.{take_at}
use lib.Dec.{eqb}
use borrow.Author.Tests.{eqb-true, eqb-false, le-leb, lt-leb, eq-eqb, ne_eqb}
use Rattle.basis.specs.declared.refusals.Refusal.{Refusal}
use Rattle.basis.specs.declared.refusals.Refusal.TheVariants as refusal
use Rattle.basis.proofs.Cases.{by_cases}
use Rattle.forms.specs.declared.Unwritten.TheVariants.{Refused, Short}
use Rattle.forms.specs.Stored.{StoredForm, stored_of}
use Rattle.forms.specs.Converting.{converter_edition, formed, reading, loading, fitting, fitting_form, fitting_terms, compacting, expanding}
use Rattle.convert.proofs.ReadingLaws.{reading-long}
use Rattle.forms.proofs.StoredLaws.{stored_of_lem}
use Rattle.marshalling.specs.Bytes.{cells_of, bytes_of}
use Rattle.marshalling.specs.Export.{RefusesBytes, Outcome, outcome, returned, written_bytes, outcome_of, exported, compact_bytes, expand_bytes, outcome_in}
use Rattle.marshalling.proofs.BytesLaws.{cells-length}

-- ---- what fits or does not fit

module _ (n : ℕ) (cells out : List ℕ) where
  pub outcome-short : length out / 4 < n → outcome (returned (Err (Short n))) out ≡ outcome_of (fitting n (length out / 4)) cells out
  unfolding outcome_of written_bytes fitting
  outcome-short h = rw (lt-leb n (length out / 4) h)

  pub outcome-cells : (out' : List ℕ) → n ≤ length out / 4 → out' ≡ bytes_of cells ++ drop (4 * n) out → outcome (returned (Ok n)) out' ≡ outcome_of (fitting n (length out / 4)) cells out
  unfolding outcome_of written_bytes fitting
  outcome-cells out' h w = rw (le-leb n (length out / 4) h, w)

-- ---- the cells of the input

-- those that were decoded
pub cells-decoded : (n : ℕ) (b a x : List ℕ) → 4 * n ≡ length b → x ≡ cells_of b ++ drop n a → take n x ≡ cells_of b
cells-decoded n b a x e q = rw q (take_at (cells_of b) (drop n a) n (omega (arith, cells-length b)))

-- no form is longer than the longest
pub long-form : (e m : ℕ) (fs : List ℕ) → 383 < length fs → None ≡ loading (stored_of e) m fs
unfolding loading
long-form e m fs l = by_cases ((stored_of e).legal m fs)
    (λ h. let laws = stored_of_lem e in
    let x = laws.demand.loaded m fs h in
    absurd (omega (arith, (laws.demand.bounded m ((stored_of e).cells fs) x.0).1, ap length x.2, laws.within)))
    (λ h. rw h)

module _ (arity : ℕ → ℕ) (stored : StoredForm) (b out : List ℕ) where
  -- ---- a byte count not divisible by 4

  pub compact-odd : (length b % 4 ≡ 0 → ⊥) → outcome (returned (Err (Refused refusal.Term))) out ≡ compact_bytes arity stored b out
  unfolding compact_bytes exported outcome_of written_bytes
  compact-odd h = rw (ne_eqb (length b % 4) 0 h)

  module _ (h : length b % 4 ≡ 0) where
    -- ---- compacting

    pub compact-refused : (r : Refusal) → Err r ≡ reading arity stored 1 (cells_of b) → outcome (returned (Err (Refused r))) out ≡ compact_bytes arity stored b out
    unfolding compact_bytes exported outcome_of written_bytes compacting fitting_form
    compact-refused r e = rw (eq-eqb (length b % 4) 0 h, ← e)

    pub compact-long : 256 < length b / 4 → outcome (returned (Err (Refused refusal.Length))) out ≡ compact_bytes arity stored b out
    compact-long l = compact-refused refusal.Length (reading-long arity stored 1 (cells_of b) (omega (arith, cells-length b)))

    pub compact-form : (k v : ℕ) (form : List ℕ) → Ok (formed k v) ≡ reading arity stored 1 (cells_of b) → form ≡ stored.form (cells_of b)
        → outcome_of (fitting k (length out / 4)) form out ≡ compact_bytes arity stored b out
    unfolding compact_bytes exported compacting fitting_form
    compact-form k v form e f = rw (eq-eqb (length b % 4) 0 h, ← e, f)

module _ (stored : StoredForm) (b out : List ℕ) where
  pub expand-odd : (length b % 4 ≡ 0 → ⊥) → outcome (returned (Err (Refused refusal.Term))) out ≡ expand_bytes stored b out
  unfolding expand_bytes exported outcome_of written_bytes
  expand-odd h = rw (ne_eqb (length b % 4) 0 h)

  module _ (h : length b % 4 ≡ 0) where
    -- ---- expanding

    pub expand-refused : None ≡ loading stored 1 (cells_of b) → outcome (returned (Err (Refused refusal.Form))) out ≡ expand_bytes stored b out
    unfolding expand_bytes exported outcome_of written_bytes expanding fitting_terms
    expand-refused e = rw (eq-eqb (length b % 4) 0 h, ← e)

    pub expand-terms : (k : ℕ) (cells : List ℕ) → Some k ≡ loading stored 1 (cells_of b) → cells ≡ stored.cells (cells_of b)
        → outcome_of (fitting k (length out / 4)) cells out ≡ expand_bytes stored b out
    unfolding expand_bytes exported expanding fitting_terms
    expand-terms k cells e f = rw (eq-eqb (length b % 4) 0 h, ← e, f)

pub expand-long : (e : ℕ) (b out : List ℕ) → length b % 4 ≡ 0 → 383 < length b / 4 → outcome (returned (Err (Refused refusal.Form))) out ≡ expand_bytes (stored_of e) b out
expand-long e b out h l = expand-refused (stored_of e) b out h (long-form e 1 (cells_of b) (omega (arith, cells-length b)))

-- ---- editions

module _ (e : ℕ) (o : Outcome) (out : List ℕ) where
  pub edition-known : (o' : Outcome) → converter_edition e ≡ true → o' ≡ o → o' ≡ outcome_in e o out
  unfolding outcome_in
  edition-known o' k q = rw k q

  pub edition-refused : converter_edition e ≡ false → outcome (returned (Err (Refused refusal.Header))) out ≡ outcome_in e o out
  unfolding outcome_in returned
  edition-refused k = rw k

-- what is exported by a converter that answers o for whole cells, where that is o' in an edition that there is
pub export-in : (e : ℕ) (b out : List ℕ) (r : ℕ) (out' : List ℕ) (o o' : Outcome) → RefusesBytes e b out r out'
    → ((length b % 4 ≡ 0 → ⊥) → outcome (returned (Err (Refused refusal.Term))) out ≡ o) → (converter_edition e ≡ true → length b % 4 ≡ 0 → outcome r out' ≡ o)
    → (converter_edition e ≡ true → o ≡ o') → outcome r out' ≡ outcome_in e o' out
export-in e b out r out' o o' refused odd whole same = by_cases (converter_edition e)
    (λ k. edition-known e o' out _ k (by_cases (eqb (length b % 4) 0) (λ z. whole k (eqb-true _ _ z)) (λ z. refused.1 k (eqb-false _ _ z) ∙ odd (eqb-false _ _ z)) ∙ same k))
    (λ k. refused.0 k ∙ edition-refused e o' out k)
