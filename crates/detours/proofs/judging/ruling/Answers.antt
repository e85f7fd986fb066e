-- `detours::judging::ruling` meets its contract.
use Rattle.detours.proofs.GoalCases.{ruled-open, ruled-none, ruled-many, ruled-fit, ruled-unfit}
use Rattle.detours.proofs.judging.ruling.Goals.{then-n-eq0-via-then-n-eq0, then-n-eq0-via-else-n-eq0+then-n-gt-MOST_GOALS, then-n-eq0-via-else-n-eq0+else-n-gt-MOST_GOALS+then-not-fit}
use Rattle.detours.proofs.judging.ruling.Goals as goal

pub returns-then-opened : goal.returns-then-opened
returns-then-opened c = ruled-open c.args.opened c.args.fit c.args.n c.if-opened.true

pub returns-then-n-eq0 : goal.returns-then-n-eq0
returns-then-n-eq0 c = elim c.then-n-eq0.branch [
  | then-n-eq0-via-then-n-eq0 w ↦ ruled-none c.args.opened c.args.fit c.args.n c.if-opened.false w.if-n-eq0.true
  | then-n-eq0-via-else-n-eq0+then-n-gt-MOST_GOALS w ↦
      ruled-many c.args.opened c.args.fit c.args.n c.if-opened.false w.if-n-gt-MOST_GOALS.true
  | then-n-eq0-via-else-n-eq0+else-n-gt-MOST_GOALS+then-not-fit w ↦
      ruled-unfit c.args.opened c.args.fit c.args.n c.if-opened.false w.if-not-fit.true
]

pub returns : goal.returns
returns c =
    ruled-fit c.args.opened c.args.fit c.args.n c.if-opened.false c.if-n-eq0.false
    c.if-n-gt-MOST_GOALS.false c.if-not-fit.false
