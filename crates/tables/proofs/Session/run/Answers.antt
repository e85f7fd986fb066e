-- `run` meets its contract.
use mathlib.Core.Path.{◌≡◌}
use native.Mathlib.Omega.{arith}
use borrow.Author.Rules.{rules}
use Rattle.std.specs.Prelude.{Some, Ok, Err}
use Rattle.tables.proofs.FedLaws.{read_none, reads_on, read-so-far}
use Rattle.tables.proofs.Session.run.Goals as goal

pub loop-init : goal.loop-init
loop-init c = (omega arith, read_none _)

pub read_some-requires : goal.read_some-requires
read_some-requires c = omega arith

pub returns-in_err-n : goal.returns-in_err-n
returns-in_err-n c =
    let passed : c.from_residual.result ≡ Err c.in_err-n.field-0.0 = search rules in
    let h = rw c.in_err-n.was at c.read_some.ensures.reads_some in
    rw passed (reads_on c.loop.invariant.1 _ (Err c.in_err-n.field-0.0) _ h)

pub loop-preserved : goal.loop-preserved
loop-preserved c =
    let w = rw (c.in_ok-n.was, c.in-Some.is) at c.read_some.ensures.within in
    let h = rw (c.in_ok-n.was, c.in-Some.is) at c.read_some.ensures.reads_some in
    (w, read-so-far _ _ (reads_on c.loop.invariant.1 _ (Ok (Some c.in-Some.n)) _ h))

pub returns : goal.returns
returns c = (c.loop.invariant.1.bytes, c.loop.invariant.1.feeds)
