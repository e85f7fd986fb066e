-- `space::records::write_node` meets its contract.
use lib.ListN.{length-set}
use Prim.Native.Nat.{ℕ}
use Rattle.space.specs.Layout.{node_to}
use Rattle.space.proofs.FieldLaws.{record-written}
use native.Mathlib.Omega.{arith}
use Rattle.space.proofs.records.write_node.Goals as goal

pub offset_bounds-space-at : goal.offset_bounds-space-at
offset_bounds-space-at c = omega arith

pub bounds-space-at : goal.bounds-space-at
bounds-space-at c = omega arith

pub overflow_cast-space : goal.overflow_cast-space
overflow_cast-space c = omega arith

pub overflow_add-space : goal.overflow_add-space
overflow_add-space c = omega arith

pub offset_bounds-space-at-2 : goal.offset_bounds-space-at-2
offset_bounds-space-at-2 c = omega arith

pub bounds-space-at-2 : goal.bounds-space-at-2
bounds-space-at-2 c = simp length-set (omega arith)

pub overflow_cast-space-2 : goal.overflow_cast-space-2
overflow_cast-space-2 c = omega arith

pub overflow_add-space-2 : goal.overflow_add-space-2
overflow_add-space-2 c = omega arith

pub offset_bounds-space-at-3 : goal.offset_bounds-space-at-3
offset_bounds-space-at-3 c = omega arith

pub bounds-space-at-3 : goal.bounds-space-at-3
bounds-space-at-3 c = simp length-set (omega arith)

pub overflow_cast-space-3 : goal.overflow_cast-space-3
overflow_cast-space-3 c = omega arith

pub overflow_add-space-3 : goal.overflow_add-space-3
overflow_add-space-3 c = omega arith

pub offset_bounds-space-at-4 : goal.offset_bounds-space-at-4
offset_bounds-space-at-4 c = omega arith

pub bounds-space-at-4 : goal.bounds-space-at-4
bounds-space-at-4 c = simp length-set (omega arith)

pub overflow_cast-space-4 : goal.overflow_cast-space-4
overflow_cast-space-4 c = omega arith

pub overflow_add-space-4 : goal.overflow_add-space-4
overflow_add-space-4 c = omega arith

pub offset_bounds-space-at-5 : goal.offset_bounds-space-at-5
offset_bounds-space-at-5 c = omega arith

pub bounds-space-at-5 : goal.bounds-space-at-5
bounds-space-at-5 c = simp length-set (omega arith)

pub returns : goal.returns
returns c = record-written c.args.space.now (λ (k : ℕ). node_to k c.args.y) _ _ c.node_place-at.ensures
