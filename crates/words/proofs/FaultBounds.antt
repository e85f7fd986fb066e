-- Every fault that the check finds is one that a result word holds: no record has a number above 2^20 + 1.
use Rattle.std.specs.Prelude.{Err, Ok}
use Prim.Native.Nat.{ℕ, suc, ◌≤◌}
use mathlib.Core.Bool.{Bool, true, false}
use mathlib.Core.List.{List}
use mathlib.Core.Path.{◌≡◌, refl, sym, ap, ◌∙◌}
use native.Mathlib.Omega.{arith}
use lib.Dec.{eqb, ltb}
use lib.ListN.{length}
use Rattle.basis.specs.Choice.{pick}
use Rattle.plain.specs.Coding.{Coding, coding_of}
use Rattle.space.specs.Layout.{sizes_of, most}
use Rattle.space.specs.Heading.{space_header, Header}
use Rattle.space.proofs.HeaderLaws.{header-bounds}
use Rattle.store.specs.Views.{View, view_of}
use Rattle.agreement.specs.Whole.{node_whole, subgoal_whole, answer_whole, chains}
use Rattle.agreement.specs.Faults.{Fault, nothing, node, subgoal, answer, chained, node_broken, subgoal_broken, answer_broken, answer_lost, fault_in, fault_under, fault_of}
use Rattle.agreement.proofs.Faults.{failing-most}
use Rattle.integrity.specs.Tests.{CheckAnswer, said_check}
use Rattle.words.specs.Words.{word_check}
use Rattle.words.specs.Bounded.{FaultBounded}

picked-bounded : (b : Bool) (x y : Fault) → FaultBounded x → FaultBounded y → FaultBounded (pick b x y)
picked-bounded true x y p q = p
picked-bounded false x y p q = q

module _ (c : Coding) (v : View) (n : v.nodes ≤ most) (s : v.subgoals ≤ most) (a : v.answers ≤ most) where
  in-bounded : FaultBounded (fault_in c v)
  unfolding fault_in
  in-bounded =
      picked-bounded (ltb (node_broken c v) v.nodes) (node (node_broken c v)) _
      (omega (arith, failing-most (node_whole c v) v.nodes))
      (picked-bounded (ltb (subgoal_broken c v) v.subgoals) (subgoal (suc (subgoal_broken c v))) _
      (omega (arith, failing-most (λ i. subgoal_whole c v (suc i)) v.subgoals))
      (picked-bounded (ltb (answer_broken c v) v.answers) (answer (suc (answer_broken c v))) _
      (omega (arith, failing-most (λ i. answer_whole c v (suc i)) v.answers))
      (picked-bounded (eqb (length (chains c v v.subgoals)) v.answers) nothing (answer (suc (answer_lost c v)))
      tt
      (omega (arith, failing-most (λ i. chained c v (suc i)) v.answers)))))

under-bounded : (cs : List ℕ) (x : Header) → x ≡ space_header cs → FaultBounded (fault_under cs x)
unfolding fault_under
under-bounded cs (Ok h) e =
    let b = header-bounds cs h e in
    in-bounded (coding_of h.edition) (view_of (sizes_of h.edition) cs h) (omega arith) (omega arith) (omega arith)
under-bounded cs (Err r) e = tt

pub fault-bounded : (cs : List ℕ) → FaultBounded (fault_of cs)
unfolding fault_of
fault-bounded cs = under-bounded cs (space_header cs) refl

pub given-bounded : {x y : Fault} → x ≡ y → FaultBounded y → FaultBounded x
given-bounded e b = rw e b

-- ---- an answer and the variant that it is

module _ {a b : CheckAnswer} (same : a ≡ b) where
  pub variant-word : (w : ℕ) → w ≡ word_check (said_check b) → w ≡ word_check (said_check a)
  variant-word w e = e ∙ ap (λ (x : CheckAnswer). word_check (said_check x)) (sym same)
