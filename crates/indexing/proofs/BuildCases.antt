-- A law for each case of the build.
use Rattle.std.specs.Prelude.{Err, Ok}
use Prim.Native.Nat.{ℕ, ◌*◌}
use mathlib.Core.Path.{◌≡◌, refl, ◌∙◌}
use mathlib.Core.Bool.{Bool, true, false}
use mathlib.Core.List.{List}
use lib.Dec.{leb}
use lib.ListN.{length}
use Rattle.basis.specs.Choice.{pick}
use Rattle.space.specs.Heading.{space_header}
use Rattle.space.specs.declared.Head.{Head}
use Rattle.trie.specs.Siblings.{Trie}
use Rattle.trie.specs.Index.{power_of_two, entering, built_index, roomy}
use Rattle.store.specs.Clauses.{view_in}
use Rattle.store.specs.Building.{nodes_fit, build_on, build_under, build_index}
use Rattle.indexing.specs.Parts.{BuildLeaves, Builds, tries_in}
use Rattle.indexing.specs.Parts.{BuildAnswer}
use Rattle.basis.specs.declared.refusals.Refusal.{Refusal}
use Rattle.basis.specs.declared.refusals.Refusal.TheVariants as refusal

-- ---- the slots

module _ (t : Trie) (before : List ℕ) where
  abbrev Result : BuildAnswer → List ℕ → Type 0
  Result r after = BuildLeaves (build_on t before) r after

  pub slots-odd : power_of_two (length before) ≡ false → Result (Err refusal.Slots) before
  unfolding build_on roomy
  slots-odd p = rw p (refl, refl)

  module _ (p : power_of_two (length before) ≡ true) (count : ℕ) (e : count ≡ length (entering t t.nodes))
      (r : Bool) (after : List ℕ) (f : (r ≡ leb (2 * count) (length before)) × (after ≡ pick r (built_index t (length before)) before)) where
    pub slots-few : r ≡ false → Result (Err refusal.Slots) after
    unfolding build_on roomy
    slots-few z = rw (p, ← e, ← f.0, z) (refl, f.1 ∙ rw z)

    pub slots-enough : r ≡ true → Result (Ok count) after
    unfolding build_on roomy
    slots-enough z = rw (p, ← e, ← f.0, z) (refl, f.1 ∙ rw z)

-- ---- the nodes, and the header

module _ (cs before : List ℕ) where
  module _ (h : Head) where
    pub nodes-unfit : nodes_fit (view_in cs h) h.nodes ≡ false → BuildLeaves (build_under cs before (Ok h)) (Err refusal.Records) before
    unfolding build_under
    nodes-unfit e = rw e (refl, refl)

    pub nodes-fitting : nodes_fit (view_in cs h) h.nodes ≡ true → (r : BuildAnswer) (after : List ℕ)
        → BuildLeaves (build_on (tries_in cs h) before) r after → BuildLeaves (build_under cs before (Ok h)) r after
    unfolding build_under
    nodes-fitting e r after d = rw e d

  pub header_refused : (r : Refusal) → Err r ≡ space_header cs → Builds cs before (Err r) before
  unfolding build_index build_under
  header_refused r e = rw (← e) (refl, refl)

  pub header-sound : (h : Head) → Ok h ≡ space_header cs → (r : BuildAnswer) (after : List ℕ)
      → BuildLeaves (build_under cs before (Ok h)) r after → Builds cs before r after
  unfolding build_index
  header-sound h e r after d = rw (← e) d
