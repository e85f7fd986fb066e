-- `sides::chains::judge` meets its contract.
use Rattle.std.specs.Prelude.{true, false, ◌≡◌}
use Rattle.sides.specs.Chains.{free}
use Rattle.sides.proofs.ChainCases.{chain-broken, chain-held}
use borrow.Author.Rules.{rules}
use Rattle.sides.proofs.chains.judge.Goals as goal

pub returns-in-None : goal.returns-in-None
returns-in-None c =
    chain-broken (record { cells = c.args.space; head = c.args.h; within = c.requires.held.0 }) c.args.s (rw c.in-None.is at (c.judge_all.ensures free (λ end r e p. search rules)))

pub returns-in-Some-true : goal.returns-in-Some-true
returns-in-Some-true c =
    let told : c.in-Some-true.field-0 ≡ true = search rules in
    chain-held (record { cells = c.args.space; head = c.args.h; within = c.requires.held.0 }) c.args.s true (rw (c.in-Some-true.is, told) at (c.judge_all.ensures free (λ end r e p. search rules)))

pub returns-in-Some-false : goal.returns-in-Some-false
returns-in-Some-false c =
    let told : c.in-Some-false.field-0 ≡ false = search rules in
    chain-held (record { cells = c.args.space; head = c.args.h; within = c.requires.held.0 }) c.args.s false (rw (c.in-Some-false.is, told) at (c.judge_all.ensures free (λ end r e p. search rules)))
