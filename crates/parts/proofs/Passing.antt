-- The pass over a form notes where each of its terms begins.
use Prim.Native.Nat.{ℕ, zero, suc, ◌+◌, ◌<◌}
use mathlib.Core.List.{List, [], ◌∷◌, ◌++◌}
use mathlib.Core.Path.{◌≡◌, refl, sym, ap, ◌∙◌}
use native.Mathlib.Omega.{arith}
use native.Mathlib.Nat.{zero-add, add-zero, add_assoc}
use lib.ListN.{length, take, get_or, length-append}
use lib.Seq.{take_all}
use Rattle.forms.specs.Cells.{shape_of}
use Rattle.forms.specs.Terms.{Term, every}
use Rattle.forms.proofs.ReadLaws.{AllWellFormed}
use Rattle.plain.specs.Words.{Word}
use Rattle.parts.specs.Parts.{start_of, GroundForm}
use Rattle.parts.proofs.Scanning.{Sound, begins, begins-here}
use Rattle.parts.proofs.Rules.{Rule}
use Rattle.parts.proofs.GroundForms.{all-well, form-ground}

module _ (rule : Rule) where
  abbrev tokens : Term → List ℕ
  tokens = rule.stored.tokens

  abbrev places : ℕ → List Term → List ℕ
  places at [] = []
  places at (t ∷ ts) = at ∷ places (at + length (tokens t)) ts

  begins-every : (ts : List Term) (at : ℕ) → AllWellFormed (shape_of rule.arity) ts → begins rule.arity (every tokens ts) at 0 0 ≡ places at ts
  unfolding every
  begins-every [] at h = unfold begins in refl
  begins-every (t ∷ ts) at h =
      begins-here rule.arity (tokens t ++ every tokens ts) at 0 (omega (arith, length-append (tokens t) (every tokens ts), rule.tokens.below t))
      ∙ ap (λ (l : List ℕ). at ∷ l) (rule.tokens.passes t 0 h.0 at 0 0 (every tokens ts) ∙ rw zero-add (begins-every ts (at + length (tokens t)) h.1))

  places-length : (ts : List Term) (at : ℕ) → length (places at ts) ≡ length ts
  places-length [] at = refl
  places-length (t ∷ ts) at = ap suc (places-length ts (at + length (tokens t)))

  places-at : (ts : List Term) (at i : ℕ) → i < length ts → get_or (places at ts) i 0 ≡ at + length (every tokens (take i ts))
  unfolding every
  places-at [] at i h = absurd (omega arith)
  places-at (t ∷ ts) at zero h = sym (add-zero at)
  places-at (t ∷ ts) at (suc i) h = places-at ts (at + length (tokens t)) i (omega arith) ∙ rw (length-append (tokens t) (every tokens (take i ts)), add_assoc)

  sound-every : (ts : List Term) → AllWellFormed (shape_of rule.arity) ts → Sound (every tokens ts) 0
  unfolding every
  sound-every [] h = unfold Sound in tt
  sound-every (t ∷ ts) h = rule.tokens.keeps t 0 h.0 0 (every tokens ts) (sound-every ts h.1)

  -- ---- a form

  module _ (m : ℕ) (w : Word) (g : GroundForm rule.stored m w) where
    abbrev ts : List Term
    ts = rule.stored.terms w

    well : AllWellFormed (shape_of rule.arity) ts
    well = all-well rule ts (form-ground rule m w g)

    pub form-begins : begins rule.arity w 0 0 0 ≡ places 0 ts
    form-begins = ap (λ (l : List ℕ). begins rule.arity l 0 0 0) g.tokens ∙ begins-every ts 0 well

    pub begins-count : length (begins rule.arity w 0 0 0) ≡ m
    begins-count = ap length form-begins ∙ places-length ts 0 ∙ g.count

    pub begins-at : (i : ℕ) → i < m → get_or (begins rule.arity w 0 0 0) i 0 ≡ start_of rule.stored w i
    begins-at i h =
        ap (λ (l : List ℕ). get_or l i 0) form-begins ∙ places-at ts 0 i (omega (arith, g.count)) ∙ zero-add (start_of rule.stored w i)

    pub form-sound : Sound w 0
    form-sound = rw g.tokens (sound-every ts well)

    pub start-last : start_of rule.stored w m ≡ length w
    start-last =
        ap (λ (l : List Term). length (every tokens l)) (take_all m ts (omega (arith, g.count))) ∙ sym (ap length g.tokens)
