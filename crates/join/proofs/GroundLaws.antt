-- A target without variables: every form is the empty one, and so all of them need no node and at most one answer.
use mathlib.Core.Path.{◌≡◌, refl, sym, ap, ◌∙◌, subst}
use mathlib.Core.Bool.{Bool, true, false, ◌||◌}
use mathlib.Core.List.{List, [], ◌∷◌, ◌++◌}
use Prim.Native.Nat.{ℕ, ◌+◌, ◌≤◌, ◌<◌}
use native.Mathlib.Omega.{arith}
use lib.ListN.{length}
use Rattle.std.specs.Prelude.{Result, Ok, Err}
use Rattle.basis.specs.Choice.{pick}
use Rattle.basis.specs.declared.refusals.Refusal.{Refusal}
use Rattle.basis.specs.declared.refusals.Refusal.TheVariants as refusal
use Rattle.forms.specs.Compact.{same}
use Rattle.plain.specs.Words.{Word, has}
use Rattle.plain.specs.Joins.{Terms, matching, copied, along, combined}
use Rattle.space.specs.declared.Head.{Head}
use Rattle.trie.specs.Walks.{Finding, walk_by}
use Rattle.store.specs.Views.{View, answer_trie}
use Rattle.store.specs.Decisions.{walk_to_by, lacking, nodes_needed_by, answers_needed_by}
use Rattle.store.specs.Clauses.{view_in}
use Rattle.sides.proofs.CountLaws.{answers-needed-none}
use Rattle.pairing.specs.declared.Sides.{Sides}
use Rattle.pairing.specs.declared.Sums.{Sums}
use Rattle.pairing.specs.Counting.{all_forms}
use Rattle.join.specs.declared.Parties.{Parties}
use Rattle.join.specs.Joining.{sides_of, room_for, SomeNeeded, SomeNew}
use Rattle.join.specs.Trial.{TellsInPlace}
use Rattle.join.proofs.JoinCases.{target-root}
use Rattle.join.proofs.RuleCases.{room-answers, room-enough}

-- ---- forms without a token

abbrev AllEmpty : List Word → Type 0
AllEmpty [] = Unit
AllEmpty (w ∷ ws) = (length w ≡ 0) × AllEmpty ws

empty-both : (us ws : List Word) → AllEmpty us → AllEmpty ws → AllEmpty (us ++ ws)
empty-both [] ws a b = b
empty-both (u ∷ us) ws a b = (a.0, empty-both us ws a.1 b)

module _ (ps : List ℕ) where
  kept-empty : (b : Bool) (ws : List Word) → AllEmpty ws → AllEmpty (pick b ([] ∷ ws) ws)
  kept-empty true ws a = (refl, a)
  kept-empty false ws a = a

  along-empty : (us : Terms) (vss : List Terms) → AllEmpty (along ps [] us vss)
  unfolding along copied
  along-empty us [] = tt
  along-empty us (vs ∷ vss) = kept-empty (matching ps us vs) (along ps [] us vss) (along-empty us vss)

  combined-empty : (uss vss : List Terms) → AllEmpty (combined ps [] uss vss)
  unfolding combined
  combined-empty [] vss = tt
  combined-empty (us ∷ uss) vss = empty-both (along ps [] us vss) (combined ps [] uss vss) (along-empty us vss) (combined-empty uss vss)

  all-empty : (ks : List ℕ) → length ks ≡ 0 → (uss vss : List Terms) → AllEmpty (combined ps ks uss vss)
  all-empty [] e = combined-empty
  all-empty (k ∷ ks) e = absurd (omega arith)

-- ---- what they need

same-empty : (v w : Word) → length v ≡ 0 → length w ≡ 0 → same v w ≡ true
unfolding same
same-empty [] [] a b = refl
same-empty [] (y ∷ w) a b = absurd (omega arith)
same-empty (x ∷ v) w a b = absurd (omega arith)

one-held : (b d : Bool) → d ≡ true → ◌≡◌ {A = ℕ} (pick b (pick d 0 1) 0) 0
one-held true d e = rw e
one-held false d e = refl

one-most : (b d : Bool) → pick b (pick d 0 1) 0 ≤ 1
one-most true true = omega arith
one-most true false = omega arith
one-most false d = omega arith

module _ (find : Finding) (v : View) (s : ℕ) where
  nodes-empty : (before ws : List Word) → AllEmpty ws → nodes_needed_by find v s before ws ≡ 0
  unfolding nodes_needed_by
  nodes-empty before [] a = refl
  nodes-empty before (w ∷ ws) a = omega (arith, a.0, nodes-empty (w ∷ before) ws a.1)

  -- after the first
  answers-after : (u : Word) (before ws : List Word) → length u ≡ 0 → AllEmpty ws → answers_needed_by find v s (u ∷ before) ws ≡ 0
  unfolding answers_needed_by has
  answers-after u before [] z a = refl
  answers-after u before (w ∷ ws) z a =
      let h : (same u w || has before w) ≡ true = ap (λ (b : Bool). b || has before w) (same-empty u w z a.0) in
      omega (arith, one-held (lacking v (walk_to_by find v s w)) (same u w || has before w) h, answers-after w (u ∷ before) ws a.0 a.1)

  answers-empty : (ws : List Word) → AllEmpty ws → answers_needed_by find v s [] ws ≤ 1
  unfolding answers_needed_by
  answers-empty [] a = omega arith
  answers-empty (w ∷ ws) a =
      omega (arith, one-most (lacking v (walk_to_by find v s w)) (has [] w), answers-after w [] ws a.0 a.1)

  -- the same for whichever subgoal has this answer root
  answers-rooted : (t : ℕ) → (v.subgoal s).root ≡ (v.subgoal t).root → (before ws : List Word) → answers_needed_by find v s before ws ≡ answers_needed_by find v t before ws
  unfolding answers_needed_by
  answers-rooted t e before [] = refl
  answers-rooted t e before (w ∷ ws) =
      ap (λ (r : ℕ). pick (lacking v (walk_by find (answer_trie v) r w)) (pick (has before w) 0 1) 0 + answers_needed_by find v s (w ∷ before) ws) e
      ∙ ap (λ (k : ℕ). pick (lacking v (walk_to_by find v t w)) (pick (has before w) 0 1) 0 + k) (answers-rooted t e (w ∷ before) ws)

-- ---- whether there is room

module _ (h : Head) where
  pub one-fits : h.answers < h.answer_capacity → Ok tt ≡ room_for h 0 1
  one-fits l = room-enough h 0 1 (omega arith) (omega arith)

  pub one-over : (h.answers < h.answer_capacity → ⊥) → Err refusal.RecordsLeft ≡ room_for h 0 1
  one-over l = room-answers h 0 1 (omega arith) (let q = l in omega arith)

pub ground-told : (find : Finding) (cs : List ℕ) (x : Sides) (root : ℕ) (ps ks : List ℕ) → length ks ≡ 0 → SomeNeeded find cs x root ps ks → (r : Result Unit Refusal) → r ≡ room_for x.h 0 1
    → TellsInPlace find cs x root ps ks cs r
ground-told find cs x root ps ks z some r e = (
  refl,
  λ s p.
      let a = all-empty ps ks z _ _ in
      let n : nodes_needed_by find (view_in cs x.h) s [] (all_forms cs x ps ks) ≡ 0 = nodes-empty find (view_in cs x.h) s [] (all_forms cs x ps ks) a in
      let m = answers-empty find (view_in cs x.h) s (all_forms cs x ps ks) a in
      let o = some s p in
      let k : answers_needed_by find (view_in cs x.h) s [] (all_forms cs x ps ks) ≡ 1 = omega arith in
      e ∙ ap (λ (i : ℕ). room_for x.h i 1) (sym n) ∙ ap (room_for x.h (nodes_needed_by find (view_in cs x.h) s [] (all_forms cs x ps ks))) (sym k),
)

pub new-needed : (way : ℕ → Finding) (cs : List ℕ) (h : Head) (y : Parties) (ps ks : List ℕ) (sums : Sums) → SomeNew (way h.nodes) cs h y ps ks sums → (x : Sides) → x ≡ sides_of h y
    → SomeNeeded (way x.h.nodes) cs x y.t.root ps ks
new-needed way cs h y ps ks sums n x i =
    subst (λ (z : Sides). SomeNeeded (way z.h.nodes) cs z y.t.root ps ks) (sym i)
    (λ s e q. n.some (n.summed.3 ∙ answers-needed-none (way h.nodes) (view_in cs h) y.target (all_forms cs (sides_of h y) ps ks)
    (answers-rooted (way h.nodes) (view_in cs h) y.target s (sym (target-root cs h y ps ks n.grounded) ∙ e) [] (all_forms cs (sides_of h y) ps ks) ∙ q)))
