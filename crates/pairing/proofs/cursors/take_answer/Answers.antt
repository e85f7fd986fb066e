-- `pairing::cursors::take_answer` meets its contract.
use native.Mathlib.Omega.{arith}
use Rattle.pairing.proofs.HandLaws.{answer-gatherable, answer-takeable, answer-taken}
use Rattle.pairing.proofs.cursors.take_answer.Goals as goal

pub gather_path-k-requires : goal.gather_path-k-requires
gather_path-k-requires c = answer-gatherable _ c.args.h c.args.y _ _ _ c.requires

pub take_in_hand-requires : goal.take_in_hand-requires
take_in_hand-requires c = answer-takeable _ c.args.h c.args.y c.args.leaf _ _ c.gather_path-k.new.cells _ c.gather_path-k.result (omega arith) c.gather_path-k.ensures.1 c.requires

pub returns : goal.returns
returns c = answer-taken _ c.args.h c.args.y c.args.leaf _ c.args.form.now c.gather_path-k.new.cells _ c.gather_path-k.result (omega arith) c.gather_path-k.ensures.1 _ c.take_in_hand.ensures
