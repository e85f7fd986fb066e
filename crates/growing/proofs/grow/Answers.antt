-- `growing::grow` meets its contract: the capacities are indices, and each refusal has its law.
use borrow.Author.Rules.{rules}
use mathlib.Core.Path.{◌≡◌}
use Rattle.std.specs.Prelude.{Err}
use Rattle.basis.proofs.Tests.{told}
use Rattle.growing.proofs.GrowingCases.{grow-header, fresh_at, few-at, done_at}
use Rattle.growing.proofs.grow.Goals as goal

pub returns-in_err-h : goal.returns-in_err-h
returns-in_err-h c =
    let passed : c.from_residual.result ≡ Err c.in_err-h.field-0.0 = search rules in
    rw passed (grow-header _ _ _ _ _ (told c.in_err-h.was c.read_header.ensures))

pub rearrange-requires : goal.rearrange-requires
rearrange-requires c = ((told c.in_ok-h.was c.read_header.ensures), (told c.fits.ensures c.if-not-fits.false), (told c.is_enough.ensures c.if-not-is_enough.false))

pub returns : goal.returns
returns c = done_at _ _ _ _ _ _ _ c.wide-n.ensures.0 c.wide-f.ensures.0 c.wide-a.ensures.0 _ (told c.in_ok-h.was c.read_header.ensures) _ ((told c.in_ok-h.was c.read_header.ensures), (told c.fits.ensures c.if-not-fits.false), (told c.is_enough.ensures c.if-not-is_enough.false)) c.rearrange.ensures

pub returns-then-not-is_enough : goal.returns-then-not-is_enough
returns-then-not-is_enough c = few-at _ _ _ _ _ _ _ c.wide-n.ensures.0 c.wide-f.ensures.0 c.wide-a.ensures.0 _ (told c.in_ok-h.was c.read_header.ensures) (told c.fits.ensures c.if-not-fits.false) (told c.is_enough.ensures c.if-not-is_enough.true)

pub returns-then-not-fits : goal.returns-then-not-fits
returns-then-not-fits c = fresh_at _ _ _ _ _ _ _ c.wide-n.ensures.0 c.wide-f.ensures.0 c.wide-a.ensures.0 _ (told c.in_ok-h.was c.read_header.ensures) (told c.fits.ensures c.if-not-fits.true)
