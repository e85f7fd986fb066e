-- Laws of the states, written one after another.
use Prim.Native.Nat.{ℕ, suc, ◌+◌, ◌*◌, ◌≤◌, ◌<◌}
use mathlib.Core.Path.{◌≡◌, refl, ap, ◌∙◌, subst, sym}
use mathlib.Core.List.{List}
use native.Mathlib.Omega.{arith}
use native.Mathlib.Nat.{mul-le-mul_left}
use lib.ListN.{length, set}
use Rattle.space.specs.Layout.{sizes_of, subgoal_width, state_cell}
use Rattle.space.specs.Sound.{subgoal_under, SubgoalRoom}
use Rattle.space.specs.declared.Head.{Head}
use Rattle.space.specs.declared.Subgoal.{Subgoal}
use Rattle.space.proofs.JudgingLaws.{SubgoalBounds, subgoal-bounds}
use Rattle.store.specs.Clauses.{view_in}
use Rattle.agreement.specs.Whole.{up_to}
use Rattle.carrying.specs.Recoding.{widening}
use Rattle.carrying.specs.Copying.{states_given}
use Rattle.carrying.proofs.CopySteps.{states-more}
use Rattle.copying.specs.Clauses.{with_states, StatesReady}

pub states-none : (source : List ℕ) (h : Head) (offset : ℕ) (target : List ℕ) → target ≡ with_states source h offset target 0
unfolding states_given up_to
states-none source h offset target = refl

pub states-ended : (source : List ℕ) (h : Head) (offset : ℕ) (target now : List ℕ) (i : ℕ) → i ≤ h.subgoals → h.subgoals ≤ i
    → now ≡ with_states source h offset target i → now ≡ with_states source h offset target h.subgoals
states-ended source h offset target now i l m e =
    let z : i ≡ h.subgoals = omega arith in subst (λ (k : ℕ). now ≡ with_states source h offset target k) z e

-- the record of the next one, as it was read
module _ (source : List ℕ) (h : Head) (offset cells : ℕ) (ready : StatesReady source h offset cells) (i : ℕ) (low : i < h.subgoals) where
  pub state-room : (s : List ℕ) → cells ≡ length s → SubgoalRoom s 2 offset (i + 1)
  state-room s e =
      let m : subgoal_width 2 * (i + 1) ≤ subgoal_width 2 * h.subgoals = mul-le-mul_left (subgoal_width 2) (omega arith) in
      (omega arith, omega (arith, ready.room))

  module _ (g : Subgoal) (e : g ≡ subgoal_under source h (i + 1)) where
    record_is : g ≡ (view_in source h).subgoal (suc i)
    record_is = let z : i + 1 ≡ suc i = omega arith in e ∙ ap (λ (s : ℕ). subgoal_under source h s) z

    view-bounds : SubgoalBounds h.nodes h.answers ((view_in source h).subgoal (suc i))
    view-bounds = subgoal-bounds h.nodes h.answers ((view_in source h).subgoal (suc i)) (ready.sound i low)

    pub record-bounds : SubgoalBounds h.nodes h.answers g
    record-bounds = subst (SubgoalBounds h.nodes h.answers) (sym record_is) view-bounds

    pub states-next : (target now after : List ℕ) → now ≡ with_states source h offset target i
        → after ≡ set now (state_cell (sizes_of 2) offset (i + 1)) g.state → after ≡ with_states source h offset target (i + 1)
    states-next target now after q a =
        let z : i + 1 ≡ suc i = omega arith in
        let put : ℕ → ℕ → List ℕ → List ℕ = λ s x l. set l (state_cell (sizes_of 2) offset s) x in
        rw z (a ∙ ap (λ (s : ℕ). put s g.state now) z ∙ ap (λ (y : Subgoal). put (suc i) y.state now) record_is
        ∙ ap (put (suc i) ((view_in source h).subgoal (suc i)).state) q
        ∙ sym (states-more (sizes_of 2) offset target widening (view_in source h) i view-bounds.state-most))
