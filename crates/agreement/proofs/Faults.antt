-- The first fault: how a pass over records finds it; there is none exactly where the space passes; and it names a record that is used.
use Rattle.std.specs.Prelude.{Err, Ok}
use Prim.Native.Nat.{ℕ, zero, suc, ◌<◌, ◌≤◌}
use mathlib.Core.Path.{◌≡◌, refl, sym, ◌∙◌}
use mathlib.Core.Bool.{Bool, true, false, ◌&&◌, true≢false, false≢true}
use mathlib.Core.List.{List}
use native.Mathlib.Omega.{arith}
use lib.Dec.{eqb, ltb}
use lib.ListN.{length, get_or}
use borrow.Author.Tests.{eq-eqb, le-ltb, ltb-true, ltb-false}
use Rattle.basis.specs.Choice.{pick}
use Rattle.basis.proofs.Cases.{by_cases}
use Rattle.plain.specs.Coding.{Coding, coding_of}
use Rattle.space.specs.Layout.{sizes_of, nodes_cell, subgoals_cell, answers_cell}
use Rattle.space.specs.Heading.{space_header, Header}
use Rattle.space.proofs.HeaderLaws.{header-bounds}
use Rattle.store.specs.Views.{View, view_of}
use Rattle.agreement.specs.Whole.{every_below, node_whole, subgoal_whole, answer_whole, chains, whole_view, whole_under, whole_any, whole_space}
use Rattle.agreement.specs.Faults.{Fault, nothing, heading, node, subgoal, answer, first_failing, node_broken, subgoal_broken, answer_broken, answer_lost, chained, fault_in, fault_under, fault_of, FaultTold, Used, FaultNamed}
use Rattle.agreement.proofs.AnswerChains.{all-counted, chained-listed}
use Rattle.agreement.proofs.WholeTests.{and_both, and-of, subgoal-local, answer-local, from_one}
use Rattle.agreement.proofs.WholeChains.{local-chained}

-- ---- the first number that fails

module _ (test : ℕ → Bool) where
  pub every-suc : (n : ℕ) → every_below test n ≡ true → test n ≡ true → every_below test (suc n) ≡ true
  unfolding every_below
  every-suc n e t = and-of e t

  pub failing-none : (n : ℕ) → every_below test n ≡ true → first_failing test n ≡ n
  unfolding every_below first_failing
  failing-none zero e = refl
  failing-none (suc n) e =
      let k = and_both (every_below test n) (test n) e in
      rw (failing-none n k.0, le-ltb n n (omega arith), k.1)

  pub failing-first : (n i : ℕ) → i < n → every_below test i ≡ true → test i ≡ false → first_failing test n ≡ i
  unfolding first_failing
  failing-first zero i h e t = absurd (omega arith)
  failing-first (suc n) i h e t = by_cases (ltb i n)
      (λ l. rw (failing-first n i (ltb-true i n l) e t, l))
      (λ l.
      let z : i ≡ n = same i n h (ltb-false i n l) in
      rw (← z, failing-none i e, le-ltb i i (omega arith), t))
    where
      same : (i n : ℕ) → i < suc n → n ≤ i → i ≡ n
      same i n h k = omega arith

  pub failing-most : (n : ℕ) → first_failing test n ≤ n
  unfolding first_failing
  failing-most zero = omega arith
  failing-most (suc n) = by_cases (ltb (first_failing test n) n)
      (λ l. rw l (omega (arith, failing-most n)))
      (λ l. rw l (by_cases (test n) (λ t. rw t (omega arith)) (λ t. rw t (omega arith))))

  pub none-failing : (n : ℕ) → ltb (first_failing test n) n ≡ false → every_below test n ≡ true
  unfolding first_failing every_below
  none-failing zero e = refl
  none-failing (suc n) e = by_cases (ltb (first_failing test n) n)
      (λ l. let f : ltb (first_failing test n) (suc n) ≡ false = rw l at e in
      let a : first_failing test n < n = ltb-true _ _ l in
      let b : suc n ≤ first_failing test n = ltb-false _ _ f in
      absurd (omega arith))
      (λ l. by_cases (test n)
      (λ t. and-of (none-failing n l) t)
      (λ t. let f : ltb n (suc n) ≡ false = rw (l, t) at e in
      let b : suc n ≤ n = ltb-false _ _ f in
      absurd (omega arith)))

-- ---- no fault

told-broken : (b : Bool) (x y : Fault) → pick b x y ≡ nothing → (x ≡ nothing → ⊥) → (b ≡ false) × (y ≡ nothing)
told-broken true x y e n = absurd (n e)
told-broken false x y e n = (refl, e)

told-count : (b : Bool) (x : Fault) → pick b nothing x ≡ nothing → (x ≡ nothing → ⊥) → b ≡ true
told-count true x e n = refl
told-count false x e n = absurd (n e)

node-not : {n : ℕ} → node n ≡ nothing → ⊥
node-not e = let z : ◌≡◌ {A = ℕ} 0 1 = cc in omega arith

subgoal-not : {n : ℕ} → subgoal n ≡ nothing → ⊥
subgoal-not e = let z : ◌≡◌ {A = ℕ} 0 1 = cc in omega arith

answer-not : {n : ℕ} → answer n ≡ nothing → ⊥
answer-not e = let z : ◌≡◌ {A = ℕ} 0 1 = cc in omega arith

heading-not : heading ≡ nothing → ⊥
heading-not e = let z : ◌≡◌ {A = ℕ} 0 1 = cc in omega arith

module _ (c : Coding) (v : View) where
  abbrev nodes : Bool
  nodes = every_below (node_whole c v) v.nodes

  abbrev subgoals : Bool
  subgoals = every_below (λ i. subgoal_whole c v (suc i)) v.subgoals

  abbrev answers : Bool
  answers = every_below (λ i. answer_whole c v (suc i)) v.answers

  abbrev counted : Bool
  counted = eqb (length (chains c v v.subgoals)) v.answers

  in_whole : fault_in c v ≡ nothing → whole_view c v ≡ true
  unfolding fault_in whole_view
  in_whole e =
      let n = told-broken _ _ _ e node-not in
      let s = told-broken _ _ _ n.1 subgoal-not in
      let a = told-broken _ _ _ s.1 answer-not in
      and-of (and-of (and-of
      (none-failing (node_whole c v) v.nodes n.0)
      (none-failing (λ i. subgoal_whole c v (suc i)) v.subgoals s.0))
      (none-failing (λ i. answer_whole c v (suc i)) v.answers a.0))
      (told-count _ _ a.1 answer-not)

  whole_in : whole_view c v ≡ true → fault_in c v ≡ nothing
  unfolding fault_in whole_view
  whole_in e =
      let k = and_both (nodes && subgoals && answers) counted e in
      let j = and_both (nodes && subgoals) answers k.0 in
      let i = and_both nodes subgoals j.0 in
      rw (
        failing-none (node_whole c v) v.nodes i.0,
        le-ltb v.nodes v.nodes (omega arith),
        failing-none (λ i. subgoal_whole c v (suc i)) v.subgoals i.1,
        le-ltb v.subgoals v.subgoals (omega arith),
        failing-none (λ i. answer_whole c v (suc i)) v.answers j.1,
        le-ltb v.answers v.answers (omega arith),
        k.1,
      )

fault-header : (cs : List ℕ) (x : Header) → fault_under cs x ≡ nothing → whole_any cs x ≡ true
unfolding fault_under whole_any whole_under
fault-header cs (Ok h) e = in_whole (coding_of h.edition) (view_of (sizes_of h.edition) cs h) e
fault-header cs (Err r) e = absurd (heading-not e)

whole-header : (cs : List ℕ) (x : Header) → whole_any cs x ≡ true → fault_under cs x ≡ nothing
unfolding fault_under whole_any whole_under
whole-header cs (Ok h) e = whole_in (coding_of h.edition) (view_of (sizes_of h.edition) cs h) e
whole-header cs (Err r) e = absurd (false≢true e)

pub fault-told : FaultTold
unfolding fault_of whole_space
fault-told cs = (fault-header cs (space_header cs), whole-header cs (space_header cs))

-- ---- the record that is named

picked : (P : Fault → Type 0) (b : Bool) (x y : Fault) → (b ≡ true → P x) → (b ≡ false → P y) → P (pick b x y)
picked P true x y f g = f refl
picked P false x y f g = g refl

module _ (c : Coding) (v : View) where
  -- where the chains are fewer than the answers, one of these is on no chain
  lost-used : every_below (λ i. subgoal_whole c v (suc i)) v.subgoals ≡ true → every_below (λ i. answer_whole c v (suc i)) v.answers ≡ true
      → eqb (length (chains c v v.subgoals)) v.answers ≡ false → answer_lost c v < v.answers
  lost-used s a e = by_cases (ltb (answer_lost c v) v.answers)
      (λ l. ltb-true _ _ l)
      (λ l.
      let all = none-failing (λ i. chained c v (suc i)) v.answers l in
      let R = local-chained c v (λ x h k. subgoal-local c v x (from_one c v (subgoal_whole c v) v.subgoals s x h k)) (λ x h k. answer-local c v x (from_one c v (answer_whole c v) v.answers a x h k)) in
      let n = all-counted c v R (λ x h k. chained-listed c v R x h k (from_one c v (chained c v) v.answers all x h k)) in
      absurd (true≢false (sym (eq-eqb _ _ n) ∙ e)))

  in-used : Used v.nodes v.subgoals v.answers (fault_in c v)
  unfolding fault_in
  in-used =
      let P : Fault → Type 0 = Used v.nodes v.subgoals v.answers in
      picked P (ltb (node_broken c v) v.nodes) (node (node_broken c v)) _
      (λ e. ltb-true _ _ e)
      (λ e. picked P (ltb (subgoal_broken c v) v.subgoals) (subgoal (suc (subgoal_broken c v))) _
      (λ f. (omega arith, ltb-true _ _ f))
      (λ f. picked P (ltb (answer_broken c v) v.answers) (answer (suc (answer_broken c v))) _
      (λ g. (omega arith, ltb-true _ _ g))
      (λ g. picked P (eqb (length (chains c v v.subgoals)) v.answers) nothing (answer (suc (answer_lost c v)))
      (λ k. tt)
      (λ k. (omega arith, lost-used (none-failing (λ i. subgoal_whole c v (suc i)) v.subgoals f) (none-failing (λ i. answer_whole c v (suc i)) v.answers g) k)))))

under-used : (cs : List ℕ) (x : Header) → x ≡ space_header cs → Used (get_or cs nodes_cell 0) (get_or cs subgoals_cell 0) (get_or cs answers_cell 0) (fault_under cs x)
unfolding fault_under
under-used cs (Ok h) e =
    let b = header-bounds cs h e in
    rw (← b.nodes-cell, ← b.subgoals-cell, ← b.answers-cell) (in-used (coding_of h.edition) (view_of (sizes_of h.edition) cs h))
under-used cs (Err r) e = tt

pub fault-named : FaultNamed
unfolding fault_of
fault-named cs = under-used cs (space_header cs) refl
