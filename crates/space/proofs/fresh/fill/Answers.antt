-- `space::fresh::fill` meets its contract.
use Rattle.space.specs.Layout.{sizes_of}
use Rattle.space.proofs.FreshCases.{fresh-written}
use native.Mathlib.Omega.{arith}
use lib.ListN.{length-set}
use Rattle.space.proofs.fresh.fill.Goals as goal

pub bounds-space-1 : goal.bounds-space-1
bounds-space-1 c = simp length-set (omega arith)

pub bounds-space-4 : goal.bounds-space-4
bounds-space-4 c = simp length-set (omega arith)

pub bounds-space-5 : goal.bounds-space-5
bounds-space-5 c = simp length-set (omega arith)

pub bounds-space-6 : goal.bounds-space-6
bounds-space-6 c = simp length-set (omega arith)

pub bounds-space-7 : goal.bounds-space-7
bounds-space-7 c = simp length-set (omega arith)

pub returns : goal.returns
returns c = fresh-written (sizes_of c.args.edition) c.args.n c.args.f c.args.a _ _ _ _ _ c.nodes_end-subgoal_offset.ensures.0 c.subgoals_end-answer_offset.ensures.0 c.answers_end-end.ensures.0 c.clear.ensures
