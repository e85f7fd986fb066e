-- A law for each case of the check.
use Rattle.basis.specs.declared.refusals.Refusal.{Refusal}
use Rattle.std.specs.Prelude.{Err, Ok}
use Prim.Native.Nat.{ℕ, suc, ◌+◌, ◌<◌, ◌≤◌}
use mathlib.Core.Path.{◌≡◌, refl, sym, ap}
use mathlib.Core.Bool.{Bool, true, false}
use mathlib.Core.List.{List}
use native.Mathlib.Omega.{arith}
use native.Mathlib.Numerals.{add-one}
use lib.ListN.{length}
use borrow.Author.Tests.{eq-eqb, ne_eqb, lt-ltb, le-ltb}
use Rattle.plain.specs.Coding.{coding_of}
use Rattle.space.specs.Heading.{space_header}
use Rattle.space.specs.Tables.{Opened}
use Rattle.space.specs.declared.tables.Table.{Table}
use Rattle.store.specs.Clauses.{view_at}
use Rattle.agreement.specs.Whole.{every_below, chains}
use Rattle.agreement.specs.Faults.{nothing, heading, node, subgoal, answer, first_failing, node_broken, subgoal_broken, answer_broken, answer_lost, fault_in, fault_under, fault_of}
use Rattle.agreement.proofs.Faults.{none-failing, failing-first, failing-none, failing-most, every-suc}
use Rattle.integrity.specs.Tests.{subgoal_test, answer_test, chained_in, chains_fault, ChainsWhole}

-- ---- a pass over records

pub pass-begin : (test : ℕ → Bool) → every_below test 0 ≡ true
unfolding every_below
pass-begin test = refl

module _ (test : ℕ → Bool) (n i : ℕ) (e : every_below test i ≡ true) where
  pub pass-ended : i ≤ n → n ≤ i → i ≡ first_failing test n
  pass-ended l k = let z : n ≡ i = omega arith in rw z (sym (failing-none test i e))

  pub pass-failed : i < n → test i ≡ false → i ≡ first_failing test n
  pass-failed l t = sym (failing-first test n i l e t)

  pub pass_on : test i ≡ true → every_below test (i + 1) ≡ true
  pass_on t = rw add-one (every-suc test i e t)

-- where none failed, all are whole
pub pass-whole : (test : ℕ → Bool) (n i : ℕ) → i ≡ first_failing test n → n ≤ i → every_below test n ≡ true
pass-whole test n i e l = none-failing test n (rw (← e) (le-ltb i n l))

-- ---- under a head

module _ (t : Table) where
  pub chains-whole : (k : ℕ) → k ≡ length (chains (coding_of t.head.edition) (view_at t) t.head.subgoals) → k ≡ t.head.answers → nothing ≡ chains_fault t
  unfolding chains_fault
  chains-whole k e f = rw (← e, eq-eqb k t.head.answers f)

  pub lost-most : answer_lost (coding_of t.head.edition) (view_at t) ≤ t.head.answers
  lost-most = failing-most (λ i. chained_in t (suc i)) t.head.answers

  pub chains-lost : (k a : ℕ) → k ≡ length (chains (coding_of t.head.edition) (view_at t) t.head.subgoals) → (k ≡ t.head.answers → ⊥) → a ≡ answer_lost (coding_of t.head.edition) (view_at t) → answer (a + 1) ≡ chains_fault t
  unfolding chains_fault
  chains-lost k a e o f = rw (← e, ne_eqb k t.head.answers o, add-one) (ap (λ (n : ℕ). answer (suc n)) f)

  module _ (n : ℕ) (e : n ≡ node_broken (coding_of t.head.edition) (view_at t)) where
    pub fault-node : n < t.head.nodes → node n ≡ fault_in (coding_of t.head.edition) (view_at t)
    unfolding fault_in
    fault-node l = rw (← e, lt-ltb n t.head.nodes l)

    module _ (l : t.head.nodes ≤ n) (s : ℕ) (f : s ≡ subgoal_broken (coding_of t.head.edition) (view_at t)) where
      pub fault-subgoal : s < t.head.subgoals → subgoal (s + 1) ≡ fault_in (coding_of t.head.edition) (view_at t)
      unfolding fault_in
      fault-subgoal k = rw (← e, le-ltb n t.head.nodes l, ← f, lt-ltb s t.head.subgoals k, add-one)

      module _ (k : t.head.subgoals ≤ s) (a : ℕ) (d : a ≡ answer_broken (coding_of t.head.edition) (view_at t)) where
        pub fault-answer : a < t.head.answers → answer (a + 1) ≡ fault_in (coding_of t.head.edition) (view_at t)
        unfolding fault_in
        fault-answer m = rw (← e, le-ltb n t.head.nodes l, ← f, le-ltb s t.head.subgoals k, ← d, lt-ltb a t.head.answers m, add-one)

        pub fault-chains : t.head.answers ≤ a → chains_fault t ≡ fault_in (coding_of t.head.edition) (view_at t)
        unfolding fault_in chains_fault
        fault-chains m = rw (← e, le-ltb n t.head.nodes l, ← f, le-ltb s t.head.subgoals k, ← d, le-ltb a t.head.answers m)

        pub all_whole : t.head.answers ≤ a → ChainsWhole t
        all_whole m = (pass-whole (λ i. subgoal_test t (suc i)) t.head.subgoals s f k, pass-whole (λ i. answer_test t (suc i)) t.head.answers a d m)

module _ (cs : List ℕ) where
  pub fault-header : (r : Refusal) → Err r ≡ space_header cs → heading ≡ fault_of cs
  unfolding fault_of fault_under
  fault-header r e = rw (← e)

  pub fault-sound : (t : Table) → Opened cs (Ok t) → fault_in (coding_of t.head.edition) (view_at t) ≡ fault_of cs
  unfolding fault_of fault_under
  fault-sound t o = let e : Ok t.head ≡ space_header t.cells.now = rw o.0 o.1 in rw (← o.0, ← e)
