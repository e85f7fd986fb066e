-- `detours::judging::judge_answers` meets its contract.
use Rattle.detours.specs.Judging.{fits}
use Rattle.detours.proofs.JudgeCases.{answers-held}
use Rattle.std.specs.Prelude.{None, ◌≡◌, true, false, eqb}
use borrow.Author.Tests.{eq-eqb, ne_eqb}
use borrow.Author.Rules.{rules}
use Rattle.detours.proofs.judging.judge_answers.Goals as goal

pub returns-in_err-all : goal.returns-in_err-all
returns-in_err-all c =
    let passed : c.from_residual.result ≡ None = search rules in
    rw passed (rw c.in_err-all.was at (c.judge_all.ensures (fits c.args.table.now.head.edition c.args.g.variables) (λ end r e p. search rules)))

pub returns-then-g-eq2 : goal.returns-then-g-eq2
returns-then-g-eq2 c =
    let two : eqb c.args.g.variables 2 ≡ true = eq-eqb _ _ (search rules) in
    rw two at (answers-held c.args.table.now c.args.s c.args.g c.requires.is _
    (rw c.in_ok-all.was at (c.judge_all.ensures (fits c.args.table.now.head.edition c.args.g.variables) (λ end r e p. search rules))))

pub returns-else-g-eq2 : goal.returns-else-g-eq2
returns-else-g-eq2 c =
    let other : eqb c.args.g.variables 2 ≡ false = ne_eqb _ _ (search rules) in
    rw other (rw other at (answers-held c.args.table.now c.args.s c.args.g c.requires.is _
    (rw c.in_ok-all.was at (c.judge_all.ensures (fits c.args.table.now.head.edition c.args.g.variables) (λ end r e p. search rules)))))
