-- `read_some` meets its contract.
use mathlib.Core.Path.{◌≡◌}
use native.Mathlib.Omega.{arith}
use borrow.Author.Rules.{rules}
use Rattle.std.specs.Prelude.{Err}
use Rattle.tables.proofs.FedLaws.{feed-none, last-answered, last_none, chunk_failed}
use Rattle.tables.proofs.Session.read_some.Goals as goal

pub returns-in_err-n : goal.returns-in_err-n
returns-in_err-n c =
    let passed : c.from_residual.result ≡ Err c.in_err-n.field-0.0 = search rules in
    rw passed (record { within = tt; reads_some = (0, c.args.kept, feed-none _) })

pub returns-then-kept-gt0 : goal.returns-then-kept-gt0
returns-then-kept-gt0 c =
    let kept = c.args.kept in
    record { within = tt; reads_some = last-answered _ kept _ (omega arith) c.answer.ensures }

pub returns-else-kept-gt0 : goal.returns-else-kept-gt0
returns-else-kept-gt0 c = record { within = tt; reads_some = last_none _ c.args.kept (omega arith) }

pub returns-in_err-begun : goal.returns-in_err-begun
returns-in_err-begun c =
    let passed : c.from_residual-in_err-begun.result ≡ Err c.in_err-begun.field-0.0 = search rules in
    let k = rw c.in_err-begun.was at c.take_chunk.ensures.takes_chunk in
    rw passed (record { within = tt; reads_some = chunk_failed _ c.in_ok-n.n _ _ c.in_err-begun.field-0.0 k })

pub returns : goal.returns
returns c =
    let w = rw c.in_ok-begun.was at c.take_chunk.ensures.within in
    let k = rw c.in_ok-begun.was at c.take_chunk.ensures.takes_chunk in
    record { within = w; reads_some = (c.in_ok-n.n, k) }
