-- `ask_finish` meets its contract.
use Rattle.text.specs.Places.{rest_at}
use Rattle.plain.specs.Requests as request
use Rattle.asking.specs.Lines.{one_number}
use Rattle.asking.proofs.AskingLaws.{one-asks, one-bad, bad-leaves, asks-leaves}
use Rattle.asking.proofs.ask_finish.Goals as goal

pub returns-in_default : goal.returns-in_default
returns-in_default c = let l = c.args.line.now in let fs = rest_at l c.args.at in λ out. bad-leaves c.args.space.now out _ _ _ (one_number fs request.finish) (one-bad fs request.finish (rw c.in_default.is at c.only_number.ensures)) c.print_bad.ensures

pub returns : goal.returns
returns c = let l = c.args.line.now in let fs = rest_at l c.args.at in λ out. asks-leaves c.args.space.now out _ _ _ (one_number fs request.finish) _ _ _ (one-asks fs request.finish _ (rw c.in-Some.is at c.only_number.ensures).0) c.finish-finished.ensures.0 c.finish-finished.ensures.2 (c.print_finish.ensures _)
