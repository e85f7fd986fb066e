-- `space::records::write_subgoal` meets its contract.
use Prim.Native.Nat.{ℕ}
use Rattle.space.specs.Layout.{subgoal_to}
use Rattle.space.proofs.FieldLaws.{record-written}
use native.Mathlib.Omega.{arith}
use lib.ListN.{length-set}
use Rattle.space.proofs.records.write_subgoal.Goals as goal

pub bounds-space-at-2 : goal.bounds-space-at-2
bounds-space-at-2 c = simp length-set (omega arith)

pub bounds-space-at-3 : goal.bounds-space-at-3
bounds-space-at-3 c = simp length-set (omega arith)

pub bounds-space-at-4 : goal.bounds-space-at-4
bounds-space-at-4 c = simp length-set (omega arith)

pub bounds-space-at-5 : goal.bounds-space-at-5
bounds-space-at-5 c = simp length-set (omega arith)

pub bounds-space-at-6 : goal.bounds-space-at-6
bounds-space-at-6 c = simp length-set (omega arith)

pub returns : goal.returns
returns c = record-written c.args.space.now (λ (k : ℕ). subgoal_to k c.args.y) _ _ c.subgoal_place-at.ensures.0
