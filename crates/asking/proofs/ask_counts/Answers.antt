-- `ask_counts` meets its contract.
use native.Mathlib.Omega.{arith}
use Rattle.text.specs.Places.{rest_at}
use Rattle.plain.specs.Requests as request
use Rattle.text.proofs.FieldsLaws.{rest-next, place_end}
use Rattle.asking.specs.Lines.{no_field}
use Rattle.asking.proofs.AskingLaws.{none-asks, some-bad, bad-leaves, asks-leaves}
use Rattle.asking.proofs.ask_counts.Goals as goal

pub returns-then-at-line : goal.returns-then-at-line
returns-then-at-line c = let l = c.args.line.now in let fs = rest_at l c.args.at in λ out. bad-leaves c.args.space.now out _ _ _ (no_field fs request.counts) (some-bad fs _ _ request.counts (rest-next l c.args.at c.requires.0.1 c.if-at-line.true)) c.print_bad.ensures

pub returns : goal.returns
returns c = let l = c.args.line.now in let fs = rest_at l c.args.at in λ out. asks-leaves c.args.space.now out _ _ _ (no_field fs request.counts) request.counts _ _ (none-asks fs request.counts (place_end l c.args.at (omega (arith, c.requires.0.0, c.if-at-line.false))).1) c.counts-used.ensures.0 c.counts-used.ensures.2 (c.print_counts.ensures _)
