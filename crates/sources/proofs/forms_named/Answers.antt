-- `sources::forms_named` meets its contract.
use mathlib.Core.Path.{◌∙◌}
use Rattle.sources.proofs.TableLaws.{subgoals-load, answers-load, unnamed-subgoal, named-answers}
use Rattle.sources.proofs.forms_named.Goals as goal

pub all_named-requires : goal.all_named-requires
all_named-requires c = rw c.subgoals.ensures (subgoals-load _ _ c.requires)

pub all_named-requires-then-all_named : goal.all_named-requires-then-all_named
all_named-requires-then-all_named c = rw c.answers.ensures (answers-load _ _ c.requires)

pub returns-then-all_named : goal.returns-then-all_named
returns-then-all_named c =
    (rw c.answers.ensures at c.all_named-then-all_named.ensures)
    ∙ named-answers c.args.source.now c.args.h _ (rw c.subgoals.ensures at c.all_named.ensures) c.if-all_named.true

pub returns-else-all_named : goal.returns-else-all_named
returns-else-all_named c =
    c.if-all_named.false
    ∙ unnamed-subgoal c.args.source.now c.args.h _ (rw c.subgoals.ensures at c.all_named.ensures) c.if-all_named.false
