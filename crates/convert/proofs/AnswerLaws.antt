-- One law for each answer of the converters, from what was read or loaded.
use Rattle.basis.specs.declared.refusals.Refusal.{Refusal}
use Rattle.forms.specs.declared.Form.{Form}
use Rattle.basis.specs.declared.refusals.Refusal.TheVariants as refusal
use Rattle.forms.specs.Converting.{Answer, formed}
use Rattle.forms.specs.declared.Unwritten.TheVariants.{Refused, Short}
use Rattle.std.specs.Prelude.{Err, None, Ok, Some}
use Prim.Native.Nat.{ℕ, ◌≤◌, ◌<◌}
use mathlib.Core.List.{List, [], ◌++◌}
use mathlib.Core.Bool.{Bool, true, false}
use mathlib.Core.Path.{◌≡◌, refl, ap, ◌∙◌, subst}
use native.Mathlib.Omega.{arith}
use lib.ListN.{length, take, drop, length-take}
use lib.Dec.{ltb}
use borrow.Author.Tests.{le-leb, lt-leb}
use Rattle.basis.specs.Choice.{pick}
use Rattle.forms.specs.Terms.{are_terms}
use Rattle.forms.specs.Numbering.{met}
use Rattle.forms.specs.Cells.{arity_of}
use Rattle.forms.specs.Compact.{compact_form, pair_form}
use Rattle.forms.specs.Stored.{StoredForm, compact_stored}
use Rattle.forms.specs.Converting.{reading, loading, fitting, fitting_form, fitting_terms, compacting, expanding, converter_edition, in_edition, written}
use Rattle.forms.proofs.StoredLaws.{converter-stored}
use Rattle.convert.specs.Holds.{Converts, Compacts, CompactsIn, Expands, ExpandsIn}

-- what stands at the start of a buffer is no longer than the buffer
pub taken-room : (n : ℕ) (buffer form : List ℕ) → take n buffer ≡ form → n ≡ length form → n ≤ length buffer
taken-room n buffer form e l = omega (arith, simp length-take at (ap length e))

-- what fits or does not fit
module _ (need : ℕ) (form out : List ℕ) where
  pub fitting-short : length out < need → (Err (Short need) ≡ fitting need (length out)) × (out ≡ written (Err (Short need)) form out)
  unfolding fitting written
  fitting-short h = (rw (lt-leb need (length out) h), refl)

  pub fitting-cells : (buffer out' : List ℕ) → need ≤ length out → take need buffer ≡ form → out' ≡ take need buffer ++ drop need out
      → (Ok need ≡ fitting need (length out)) × (out' ≡ written (Ok need) form out)
  unfolding fitting written
  fitting-cells buffer out' h e w = (rw (le-leb need (length out) h), w ∙ rw e)

-- ---- editions

-- in an edition that there is the answer is the converter's, and in another it is 1
module _ (e : ℕ) (answer : Answer) (form out : List ℕ) where
  pub edition-known : (r : Answer) (out' : List ℕ) → converter_edition e ≡ true → r ≡ answer → out' ≡ written r form out
      → (r ≡ in_edition e answer) × (out' ≡ written r form out)
  unfolding in_edition
  edition-known r out' k a w = (rw k a, w)

  pub edition-refused : converter_edition e ≡ false → (Err (Refused refusal.Header) ≡ in_edition e answer) × (out ≡ written (Err (Refused refusal.Header)) form out)
  unfolding in_edition written
  edition-refused k = (rw k, refl)

module _ (arity : ℕ → ℕ) (stored : StoredForm) (m : ℕ) (s : List ℕ) where
  -- ---- compacting

  form-tests : (n v k w : ℕ) (a b c : Bool) → Ok (formed n v) ≡ pick a (Err refusal.Length) (pick b (pick c (Err refusal.Variables) (Ok (formed k w))) (Err refusal.Term)) → n ≡ k
  form-tests n v k w true b c e = let z : ◌≡◌ {A = ℕ} 0 1 = cc in absurd (omega arith)
  form-tests n v k w false true true e = let z : ◌≡◌ {A = ℕ} 0 1 = cc in absurd (omega arith)
  form-tests n v k w false true false e = let f : formed n v ≡ formed k w = cc in ap (λ (x : Form). x.tokens) f
  form-tests n v k w false false c e = let z : ◌≡◌ {A = ℕ} 0 1 = cc in absurd (omega arith)

  pub reading-length : (n v : ℕ) → Ok (formed n v) ≡ reading arity stored m s → n ≡ length (stored.form s)
  unfolding reading
  reading-length n v e = form-tests n v (length (stored.form s)) (length (met [] s)) (ltb 256 (length s)) (are_terms arity m s) (ltb 32 (length (met [] s))) e

  pub compacting-refused : (out : List ℕ) (r : Refusal) → Err r ≡ reading arity stored m s → (Err (Refused r) ≡ compacting arity stored m s (length out)) × (out ≡ written (Err (Refused r)) (stored.form s) out)
  unfolding compacting fitting_form written
  compacting-refused out r e = (rw (← e), refl)

  pub compacting-form : (n v room : ℕ) → Ok (formed n v) ≡ reading arity stored m s → fitting n room ≡ compacting arity stored m s room
  unfolding compacting fitting_form
  compacting-form n v room e = rw (← e)

-- ---- expanding

module _ (stored : StoredForm) (m : ℕ) (s : List ℕ) where
  terms-tests : (n k : ℕ) (b : Bool) → Some n ≡ pick b (Some k) None → n ≡ k
  terms-tests n k true e = cc
  terms-tests n k false e = let z : ◌≡◌ {A = ℕ} 0 1 = cc in absurd (omega arith)

  pub loading-length : (n : ℕ) → Some n ≡ loading stored m s → n ≡ length (stored.cells s)
  unfolding loading
  loading-length n e = terms-tests n (length (stored.cells s)) (stored.legal m s) e

  pub expanding-refused : (out : List ℕ) → None ≡ loading stored m s → (Err (Refused refusal.Form) ≡ expanding stored m s (length out)) × (out ≡ written (Err (Refused refusal.Form)) (stored.cells s) out)
  unfolding expanding fitting_terms written
  expanding-refused out e = (rw (← e), refl)

  pub expanding-terms : (n room : ℕ) → Some n ≡ loading stored m s → fitting n room ≡ expanding stored m s room
  unfolding expanding fitting_terms
  expanding-terms n room e = rw (← e)

-- ---- in an edition that a converter takes, the stored form is compact form

pub compacted-in : (e m : ℕ) (cs out : List ℕ) (r : Answer) (out' : List ℕ) → converter_edition e ≡ true → Compacts e m cs out r out' → CompactsIn e m cs out r out'
compacted-in e m cs out r out' k h =
    let c = subst (λ (s : StoredForm). Converts (compacting (arity_of e) s m cs (length out)) (s.form cs) out r out') (converter-stored e k) h in
    edition-known e (compacting (arity_of e) (compact_stored (arity_of e)) m cs (length out)) (compact_form (arity_of e) cs) out r out' k c.0 c.1

pub expanded-in : (e m : ℕ) (fs out : List ℕ) (r : Answer) (out' : List ℕ) → converter_edition e ≡ true → Expands e m fs out r out' → ExpandsIn e m fs out r out'
expanded-in e m fs out r out' k h =
    let c = subst (λ (s : StoredForm). Converts (expanding s m fs (length out)) (s.cells fs) out r out') (converter-stored e k) h in
    edition-known e (expanding (compact_stored (arity_of e)) m fs (length out)) (pair_form (arity_of e) fs) out r out' k c.0 c.1
