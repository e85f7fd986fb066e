-- `take_chunk` meets its contract.
use mathlib.Core.Path.{◌≡◌, refl}
use native.Mathlib.Omega.{arith}
use borrow.Author.Rules.{rules}
use Rattle.std.specs.Prelude.{Err}
use Rattle.tables.proofs.FedLaws.{through-none, through-all, through-some, through-more, through-line}
use Rattle.tables.proofs.Session.take_chunk.Goals as goal

pub loop-at-init : goal.loop-at-init
loop-at-init c = (c.requires, through-none _ _)

pub returns-in-More : goal.returns-in-More
returns-in-More c =
    let w = rw c.in-More.is at c.take_line.ensures.in_range in
    let e = rw c.in-More.is at c.take_line.ensures.line_value in
    record { within = omega (arith, w (omega arith)); takes_chunk = through-more c.loop-at.invariant.1 _ _ e }

pub answer-requires : goal.answer-requires
answer-requires c =
    let w = rw c.in-Line.is at c.take_line.ensures.in_range in
    omega (arith, w.2 (omega arith))

pub returns-in_err-answer-in-Line : goal.returns-in_err-answer-in-Line
returns-in_err-answer-in-Line c =
    let passed : c.from_residual.result ≡ Err c.in_err-answer-in-Line.field-0.0 = search rules in
    let e = rw c.in-Line.is at c.take_line.ensures.line_value in
    rw passed (record { within = tt; takes_chunk = through-some (through-line c.loop-at.invariant.1 _ _ _ _ (refl, refl, refl) e c.answer.ensures) })

pub loop-at-smaller : goal.loop-at-smaller
loop-at-smaller c =
    let w = rw c.in-Line.is at c.take_line.ensures.in_range in
    omega (arith, w.0, w.1)

pub loop-at-preserved : goal.loop-at-preserved
loop-at-preserved c =
    let e = rw c.in-Line.is at c.take_line.ensures.line_value in
    let fed = through-line c.loop-at.invariant.1 _ _ _ _ (refl, refl, refl) e c.answer.ensures in
    (omega arith, fed)

pub returns : goal.returns
returns c = record { within = omega arith; takes_chunk = through-all c.loop-at.invariant.1 (omega arith) }
