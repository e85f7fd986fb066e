-- `space::records::write_answer` meets its contract.
use Prim.Native.Nat.{ℕ}
use Rattle.space.specs.Layout.{answer_to}
use Rattle.space.proofs.FieldLaws.{record-written}
use native.Mathlib.Omega.{arith}
use lib.ListN.{length-set}
use Rattle.space.proofs.records.write_answer.Goals as goal

pub bounds-space-at-2 : goal.bounds-space-at-2
bounds-space-at-2 c = simp length-set (omega arith)

pub bounds-space-at-3 : goal.bounds-space-at-3
bounds-space-at-3 c = simp length-set (omega arith)

pub returns : goal.returns
returns c = record-written c.args.space.now (λ (k : ℕ). answer_to k c.args.y) _ _ c.answer_place-at.ensures.0
