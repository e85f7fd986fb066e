-- `terms` meets its contract: each turn reads a constant, which is one of the terms due, and the first other cell hands
-- the sum on.
use Prim.Native.Nat.{◌+◌, ◌-◌, ◌<◌}
use mathlib.Core.Path.{◌≡◌, sym, ap, ◌∙◌}
use native.Mathlib.Omega.{arith}
use lib.ListN.{set, length-set, get_or}
use lib.Seq.{get_or-take, length-take-le}
use Rattle.forms.proofs.ShapeLaws.{constant-shape}
use Rattle.forms.specs.Cells.{arity_of, constant}
use Rattle.pair_reader.proofs.StoringLaws.{stored-cell}
use Rattle.pair_reader.proofs.PairSteps.{terms-few}
use Rattle.pair_reader.proofs.PairTurns.{turn-first, turn_last, turn-symbol}
use Rattle.pair_reader.proofs.terms.Goals as goal

pub returns-then-s-n : goal.returns-then-s-n
returns-then-s-n c = terms-few (arity_of c.args.edition) c.args.s.now c.args.n c.if-s-n.true

pub loop-at-init : goal.loop-at-init
loop-at-init c =
    let e : c.args.n ≡ c.args.n - 0 = omega arith in
    rw (← e) (turn-first _ c.args.s.now 0 _ _ 0 _ 0 (omega arith) (omega arith) (omega arith))

pub loop-at-preserved : goal.loop-at-preserved
loop-at-preserved c =
    let n = c.args.n in
    let s = c.args.s.now in
    let at = c.loop-at.at in
    let l = length-take-le n s c.if-s-n.false in
    let h : at < n = omega (arith, l, c.loop-at-test.true) in
    let e = get_or-take n s at 0 h in
    let q = constant-shape (arity_of c.args.edition) (get_or s at 0) (ap constant (sym e) ∙ sym c.is_constant.ensures ∙ c.if-not-is_constant.false) in
    rw e (turn-symbol _ _ _ _ _ _ _ _ _ _ _ _ _ _ c.loop-at.invariant (omega arith) (omega arith) c.loop-at.vars (set c.loop-at.out at (get_or s at 0)) (n - (at + 1)) 0 (simp length-set) 0 (omega arith) q.0 (omega arith)
    (stored-cell c.loop-at.vars 0 c.loop-at.out at _ q.1 (omega arith)))

pub returns : goal.returns
returns c =
    let l = length-take-le c.args.n c.args.s.now c.if-s-n.false in
    let e : c.loop-at.at ≡ c.args.n = omega (arith, l, c.loop-at-test.false, c.loop-at.auto.at-end) in
    rw e at (turn_last _ _ _ _ _ _ _ _ _ _ _ _ _ _ c.loop-at.invariant (omega arith) (omega arith))

pub returns-then-not-is_constant : goal.returns-then-not-is_constant
returns-then-not-is_constant c =
    c.loop-at.invariant.goes_on c.scan.new.vars c.scan.new.out c.scan.result c.scan.ensures
