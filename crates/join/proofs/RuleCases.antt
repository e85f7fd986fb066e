-- The small tests of a join, case by case, as the code makes them.
use mathlib.Core.Path.{◌≡◌, ◌∙◌}
use mathlib.Core.Bool.{true, false, true≢false, false≢true}
use mathlib.Core.List.{List}
use Prim.Native.Nat.{ℕ, ◌-◌, ◌≤◌, ◌<◌}
use lib.Dec.{leb}
use borrow.Author.Tests.{lt-ltb, le-ltb, le-leb, lt-leb}
use Rattle.std.specs.Prelude.{Result, Ok, Err}
use Rattle.basis.specs.declared.refusals.Refusal.{Refusal}
use Rattle.basis.specs.declared.refusals.Refusal.TheVariants as refusal
use Rattle.plain.specs.Coding.{coding_of}
use Rattle.plain.specs.Joins.{named}
use Rattle.space.specs.declared.Head.{Head}
use Rattle.store.specs.Decisions.{broken, chain_of}
use Rattle.store.specs.Clauses.{view_in}
use Rattle.sides.specs.Chains.{ChainHeld, ChainJudged}
use Rattle.sides.specs.declared.Judged.{Judged}
use Rattle.sides.specs.declared.Judged.TheVariants.{Damaged, Ground, Variable}
use Rattle.join.specs.declared.Parties.{Parties}
use Rattle.pairing.specs.declared.Sums.{Sums}
use Rattle.join.specs.Joining.{whole_answers, ground_answers, sums_fit, room_for, Rules, RulesOn}
use Rattle.join.proofs.JoinCases.{ruled-first-broken, ruled-second-broken, ruled-finished, ruled-first-open, ruled-second-open, ruled-first-variable, ruled-second-variable, ruled-unnamed, ruled-on}

-- ---- room

module _ (h : Head) (y : Sums) where
  pub sums-nodes : h.node_capacity - h.nodes < y.missing → false ≡ sums_fit h y
  unfolding sums_fit
  sums-nodes l = rw (lt-leb y.missing (h.node_capacity - h.nodes) l)

  pub sums-answers : y.missing ≤ h.node_capacity - h.nodes → leb y.lacking (h.answer_capacity - h.answers) ≡ sums_fit h y
  unfolding sums_fit
  sums-answers l = rw (le-leb y.missing (h.node_capacity - h.nodes) l)

module _ (h : Head) (nodes answers : ℕ) where
  pub room-nodes : h.node_capacity - h.nodes < nodes → Err refusal.Nodes ≡ room_for h nodes answers
  unfolding room_for
  room-nodes l = rw (lt-ltb (h.node_capacity - h.nodes) nodes l)

  module _ (n : nodes ≤ h.node_capacity - h.nodes) where
    pub room-answers : h.answer_capacity - h.answers < answers → Err refusal.RecordsLeft ≡ room_for h nodes answers
    unfolding room_for
    room-answers l = rw (le-ltb (h.node_capacity - h.nodes) nodes n, lt-ltb (h.answer_capacity - h.answers) answers l)

    pub room-enough : answers ≤ h.answer_capacity - h.answers → Ok tt ≡ room_for h nodes answers
    unfolding room_for
    room-enough l = rw (le-ltb (h.node_capacity - h.nodes) nodes n, le-ltb (h.answer_capacity - h.answers) answers l)

-- ---- the rule

held_at : (cs : List ℕ) (h : Head) (s : ℕ) (j : Judged) → whole_answers j ≡ true → ChainJudged cs h s j → ChainHeld cs h s (ground_answers j)
unfolding whole_answers ground_answers
held_at cs h s Damaged e k = absurd (false≢true e)
held_at cs h s Ground e k = k
held_at cs h s Variable e k = k

broken-at : (cs : List ℕ) (h : Head) (s : ℕ) (j : Judged) → whole_answers j ≡ false → ChainJudged cs h s j → chain_of (coding_of h.edition) (view_in cs h) s ≡ broken
unfolding whole_answers
broken-at cs h s Damaged e k = k
broken-at cs h s Ground e k = absurd (true≢false e)
broken-at cs h s Variable e k = absurd (true≢false e)

module _ (y : Parties) (f g : Judged) (ps ks : List ℕ) where
  -- a source is damaged, or none
  pub rule-first : whole_answers f ≡ false → Rules y f g ps ks (Err refusal.Records)
  rule-first e cs h p a b = ruled-first-broken cs h y ps ks p (broken-at cs h y.first f e a)

  module _ (wf : whole_answers f ≡ true) where
    pub rule-second : whole_answers g ≡ false → Rules y f g ps ks (Err refusal.Records)
    rule-second e cs h p a b =
        let u = held_at cs h y.first f wf a in
        ruled-second-broken cs h y ps ks p u.0 u.1 (broken-at cs h y.second g e b)

    pub rule-whole : (r : Result Unit Refusal) → whole_answers g ≡ true → RulesOn y f g ps ks r → Rules y f g ps ks r
    rule-whole r wg k = k wf wg

  -- none is
  pub on-finished : (y.t.state ≡ 0 → ⊥) → RulesOn y f g ps ks (Err refusal.State)
  on-finished z wf wg cs h p a b =
      let u = held_at cs h y.first f wf a in
      let v = held_at cs h y.second g wg b in
      ruled-finished cs h y ps ks p u.0 u.1 v.0 v.1 z

  module _ (o : y.t.state ≡ 0) where
    pub on-first-open : y.f.state ≡ 0 → RulesOn y f g ps ks (Err refusal.SourceOpen)
    on-first-open e wf wg cs h p a b =
        let u = held_at cs h y.first f wf a in
        let v = held_at cs h y.second g wg b in
        ruled-first-open cs h y ps ks p u.0 u.1 v.0 v.1 o e

    module _ (m : y.f.state ≡ 0 → ⊥) where
      pub on-second-open : y.g.state ≡ 0 → RulesOn y f g ps ks (Err refusal.SourceOpen)
      on-second-open e wf wg cs h p a b =
          let u = held_at cs h y.first f wf a in
          let v = held_at cs h y.second g wg b in
          ruled-second-open cs h y ps ks p u.0 u.1 v.0 v.1 o m e

      module _ (n : y.g.state ≡ 0 → ⊥) where
        pub on-first-variable : ground_answers f ≡ false → RulesOn y f g ps ks (Err refusal.SourceVariable)
        on-first-variable e wf wg cs h p a b =
            let u = held_at cs h y.first f wf a in
            let v = held_at cs h y.second g wg b in
            ruled-first-variable cs h y ps ks p u.0 u.1 v.0 v.1 o m n (u.2 ∙ e)

        module _ (d : ground_answers f ≡ true) where
          pub on-second-variable : ground_answers g ≡ false → RulesOn y f g ps ks (Err refusal.SourceVariable)
          on-second-variable e wf wg cs h p a b =
              let u = held_at cs h y.first f wf a in
              let v = held_at cs h y.second g wg b in
              ruled-second-variable cs h y ps ks p u.0 u.1 v.0 v.1 o m n (u.2 ∙ d) (v.2 ∙ e)

          module _ (w : ground_answers g ≡ true) where
            pub on-unnamed : named y.f.variables y.g.variables ps y.t.variables ks ≡ false → RulesOn y f g ps ks (Err refusal.Names)
            on-unnamed e wf wg cs h p a b =
                let u = held_at cs h y.first f wf a in
                let v = held_at cs h y.second g wg b in
                ruled-unnamed cs h y ps ks p u.0 u.1 v.0 v.1 o m n (u.2 ∙ d) (v.2 ∙ w) e

            pub on-named : named y.f.variables y.g.variables ps y.t.variables ks ≡ true → RulesOn y f g ps ks (Ok tt)
            on-named e wf wg cs h p a b =
                let u = held_at cs h y.first f wf a in
                let v = held_at cs h y.second g wg b in
                ruled-on cs h y ps ks p u.0 u.1 v.0 v.1 o m n (u.2 ∙ d) (v.2 ∙ w) e
