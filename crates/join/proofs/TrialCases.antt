-- What a count on trial settles, case by case.
use mathlib.Core.Path.{◌≡◌, refl, sym, ap, ◌∙◌, subst}
use mathlib.Core.List.{List, []}
use Prim.Native.Nat.{ℕ, ◌+◌, ◌-◌, ◌<◌, ◌≤◌}
use native.Mathlib.Omega.{arith}
use Rattle.std.specs.Prelude.{Option, Some, None, Result, Ok, Err}
use Rattle.basis.specs.declared.refusals.Refusal.{Refusal}
use Rattle.basis.specs.declared.refusals.Refusal.TheVariants as refusal
use Rattle.space.specs.Sound.{Bounds, NodesIn, subgoal_under}
use Rattle.space.specs.declared.Head.{Head}
use Rattle.space.specs.declared.Subgoal.{Subgoal}
use Rattle.space.proofs.HeaderLaws.{header-bounds}
use Rattle.trie.specs.Walks.{Finding}
use Rattle.store.specs.Decisions.{nodes_needed_by, answers_needed_by}
use Rattle.store.specs.Clauses.{view_in, AnswersUnder}
use Rattle.plain.specs.Requests.{Request, Reply}
use Rattle.drafts.specs.Wiping.{Blank}
use Rattle.pairing.specs.declared.Sides.{Sides}
use Rattle.pairing.specs.declared.Sums.{Sums}
use Rattle.pairing.specs.Counting.{all_forms, JoinReady, Fitting}
use Rattle.join.specs.declared.Tally.{Tally}
use Rattle.join.specs.declared.Untried.TheVariants as untried
use Rattle.join.specs.Joining.{room_for, TellsRoom, SomeNew, sides_of, Enterable, EntersAll, JoinAnswer}
use Rattle.join.specs.declared.Parties.{Parties}
use Rattle.join.specs.Trial.{Tried, room_of, Roomed, Tryable, TriesAll, HeadCounts, Settles, Triable, Settled, TellsInPlace}
use Rattle.join.proofs.CallCases.{may-enter}
use Rattle.join.proofs.RuleCases.{room-nodes, room-answers, room-enough}

module _ (h : Head) (c : HeadCounts h) (free : ℕ) where
  within : h.nodes ≤ h.node_capacity
  within = c.0

  module _ (y : Tally) where
    pub settle-nodes : h.node_capacity < y.used → Settles h free (Ok y) (Some (Err refusal.Nodes))
    settle-nodes l find cs x root ps ks e t s r =
        let u = (t s r).0 in
        let n : x.h.nodes ≡ h.nodes = ap (λ (k : Head). k.nodes) e in
        let k = within in
        room-nodes h (nodes_needed_by find (view_in cs x.h) s [] (all_forms cs x ps ks)) (answers_needed_by find (view_in cs x.h) s [] (all_forms cs x ps ks)) (omega arith)
        ∙ ap (λ (k : Head). room_for k (nodes_needed_by find (view_in cs x.h) s [] (all_forms cs x ps ks)) (answers_needed_by find (view_in cs x.h) s [] (all_forms cs x ps ks))) (sym e)

    module _ (l : (h.node_capacity < y.used → ⊥)) where
      pub settle-records : h.answer_capacity - h.answers < y.answers → Settles h free (Ok y) (Some (Err refusal.RecordsLeft))
      settle-records m find cs x root ps ks e t s r =
          let u = (t s r).0 in
          let v = (t s r).1 in
          let n : x.h.nodes ≡ h.nodes = ap (λ (k : Head). k.nodes) e in
          let k = within in
          room-answers h (nodes_needed_by find (view_in cs x.h) s [] (all_forms cs x ps ks)) (answers_needed_by find (view_in cs x.h) s [] (all_forms cs x ps ks)) (settled-nodes n u) (omega arith)
          ∙ ap (λ (k : Head). room_for k (nodes_needed_by find (view_in cs x.h) s [] (all_forms cs x ps ks)) (answers_needed_by find (view_in cs x.h) s [] (all_forms cs x ps ks))) (sym e)
        where
          settled-nodes : {a b : ℕ} → a ≡ h.nodes → y.used ≡ a + b → b ≤ h.node_capacity - h.nodes
          settled-nodes {a} {b} i j = let w = within in let z : y.used ≤ h.node_capacity = (let q = l in omega arith) in omega arith

      pub settle-none : (h.answer_capacity - h.answers < y.answers → ⊥) → Settles h free (Ok y) (Some (Ok tt))
      settle-none m find cs x root ps ks e t s r =
          let u = (t s r).0 in
          let v = (t s r).1 in
          let n : x.h.nodes ≡ h.nodes = ap (λ (k : Head). k.nodes) e in
          room-enough h (nodes_needed_by find (view_in cs x.h) s [] (all_forms cs x ps ks)) (answers_needed_by find (view_in cs x.h) s [] (all_forms cs x ps ks)) (settled-nodes n u) (settled-answers v)
          ∙ ap (λ (k : Head). room_for k (nodes_needed_by find (view_in cs x.h) s [] (all_forms cs x ps ks)) (answers_needed_by find (view_in cs x.h) s [] (all_forms cs x ps ks))) (sym e)
        where
          settled-nodes : {a b : ℕ} → a ≡ h.nodes → y.used ≡ a + b → b ≤ h.node_capacity - h.nodes
          settled-nodes {a} {b} i j = let w = within in let z : y.used ≤ h.node_capacity = (let q = l in omega arith) in omega arith

          settled-answers : {b : ℕ} → y.answers ≡ b → b ≤ h.answer_capacity - h.answers
          settled-answers {b} j = let q = m in omega arith

  pub settle-over : free ≡ h.node_capacity - h.nodes → Settles h free (Err untried.Over) (Some (Err refusal.Nodes))
  settle-over f find cs x root ps ks e t s r =
      let u = t s r in
      room-nodes h (nodes_needed_by find (view_in cs x.h) s [] (all_forms cs x ps ks)) (answers_needed_by find (view_in cs x.h) s [] (all_forms cs x ps ks)) (omega arith)
      ∙ ap (λ (k : Head). room_for k (nodes_needed_by find (view_in cs x.h) s [] (all_forms cs x ps ks)) (answers_needed_by find (view_in cs x.h) s [] (all_forms cs x ps ks))) (sym e)

-- ---- the call on trial

module _ (cs : List ℕ) (x : Sides) (free root : ℕ) (ps ks : List ℕ) (T : Triable cs x free root ps ks) where
  pub trial-blank : Blank cs (room_of x free) → Tryable cs x free root ps ks
  trial-blank b = (T.0, T.1, b)

  bounds : Bounds cs x.h
  bounds = header-bounds cs x.h (sym T.0.1.space)

  pub trial-room : NodesIn cs (x.h.nodes + free)
  trial-room =
      let c = T.1 in
      record { few = (let m = bounds.nodes-most in omega arith); held = (let f = bounds.subgoals-from in let g = bounds.answers-from in let h = bounds.end-at in let e = bounds.end-within in omega arith) }

  pub trial-counts : HeadCounts x.h
  trial-counts = (bounds.nodes-within, bounds.answers-within, let m = bounds.answers-most in omega arith)

  pub trial-settled : (find : Finding) (ds : List ℕ) (r : Tried) (q : Option (Result Unit Refusal)) → TriesAll find cs x free root ps ks ds r → Settles x.h free r q → Settled find cs x root ps ks ds q
  trial-settled find ds r q t s = (t.0, s find cs x root ps ks refl t.1)

  pub trial-unsettled : (find : Finding) → Settled find cs x root ps ks cs None
  trial-unsettled find = (refl, tt)

-- ---- on trial first

module _ (cs : List ℕ) (x : Sides) (root : ℕ) (ps ks : List ℕ) (T : Roomed cs x root ps ks) where
  pub room-some : x.h.nodes ≤ x.h.node_capacity
  room-some = (header-bounds cs x.h (sym T.1.space)).nodes-within

  pub room-triable : (free : ℕ) → free ≤ x.h.node_capacity - x.h.nodes → Triable cs x free root ps ks
  room-triable free l = (T, let k = room-some in omega arith)

  pub room-ready : (ds : List ℕ) → ds ≡ cs → (JoinReady ds x ps ks × Fitting ds x ps ks) × (root < x.h.nodes)
  room-ready ds e = (
    subst (λ (c : List ℕ). JoinReady c x ps ks × Fitting c x ps ks) (sym e) (T.1.ready, T.1.fit),
    subst (λ (i : ℕ). i < x.h.nodes) (sym T.2) T.1.target.root_in,
  )

  pub room-counted : (find : Finding) (ds : List ℕ) (r : Result Unit Refusal) → ds ≡ cs → TellsRoom find ds x root ps ks r → TellsInPlace find cs x root ps ks ds r
  room-counted find ds r e t = (e, subst (λ (c : List ℕ). TellsRoom find c x root ps ks r) e t)

-- ---- and then entered, or refused

module _ (way : ℕ → Finding) (cs : List ℕ) (h : Head) (y : Parties) (ps ks : List ℕ) (sums : Sums) (n : SomeNew (way h.nodes) cs h y ps ks sums) (x : Sides) (i : x ≡ sides_of h y) where
  pub new-roomed : Roomed cs x y.t.root ps ks
  new-roomed = (
    y.target,
    may-enter way cs h y ps ks sums n x i,
    subst (λ (z : Sides). y.t.root ≡ (subgoal_under cs z.h y.target).root) (sym i) (ap (λ (g : Subgoal). g.root) n.grounded.parties.target.3),
  )

  pub enter-after : (ds : List ℕ) → ds ≡ cs → Enterable ds x y.target ps ks
  enter-after ds e = subst (λ (c : List ℕ). Enterable c x y.target ps ks) (sym e) (may-enter way cs h y ps ks sums n x i)

pub entered-after : (find : Finding) (cs ds : List ℕ) (x : Sides) (s : ℕ) (ps ks : List ℕ) (r : JoinAnswer) (es : List ℕ) → ds ≡ cs → EntersAll find ds x s ps ks r es → EntersAll find cs x s ps ks r es
entered-after find cs ds x s ps ks r es e a = subst (λ (c : List ℕ). EntersAll find c x s ps ks r es) e a

pub refused-after : (find : Finding) (cs ds : List ℕ) (h : Head) (q : Request) (r : Reply) → ds ≡ cs → AnswersUnder find cs h q r cs → AnswersUnder find cs h q r ds
refused-after find cs ds h q r e a = subst (AnswersUnder find cs h q r) (sym e) a
