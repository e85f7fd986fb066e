-- `sources::loads` meets its contract.
use mathlib.Core.Path.{◌∙◌}
use Rattle.basis.proofs.Tests.{told}
use Rattle.space.proofs.HeaderLaws.{header-bounds}
use Rattle.sources.proofs.TableLaws.{unloaded-subgoal, unloaded-answer, alike-subgoals, alike-answers}
use Rattle.sources.proofs.loads.Goals as goal
use Rattle.sources.proofs.loads.Goals.{then-not-all_load-via-then-not-all_load, then-not-all_load-via-else-not-all_load+then-not-all_load-2}

pub all_load-requires : goal.all_load-requires
all_load-requires c = rw c.subgoals-subgoals.ensures (header-bounds _ _ c.requires.0)

pub all_load-requires-else-not-all_load : goal.all_load-requires-else-not-all_load
all_load-requires-else-not-all_load c = rw c.answers-answers.ensures (header-bounds _ _ c.requires.0)

pub returns-then-not-all_load : goal.returns-then-not-all_load
returns-then-not-all_load c =
    let p = c.args in
    let e = rw c.subgoals-subgoals.ensures at c.all_load.ensures in
    elim c.then-not-all_load.branch [
      | then-not-all_load-via-then-not-all_load w ↦ unloaded-subgoal p.source.now p.h c.requires.1 _ e w.if-not-all_load.true
      | then-not-all_load-via-else-not-all_load+then-not-all_load-2 w ↦
          unloaded-answer p.source.now p.h c.requires.1 _ e w.if-not-all_load.false
          _ (rw c.answers-answers.ensures at w.all_load-else-not-all_load.ensures) w.if-not-all_load-2.true
    ]

pub all_differ-requires : goal.all_differ-requires
all_differ-requires c =
    (rw c.subgoals-subgoals.ensures (header-bounds _ _ c.requires.0), told c.all_load.ensures c.if-not-all_load.false)

pub all_differ-requires-then-all_differ : goal.all_differ-requires-then-all_differ
all_differ-requires-then-all_differ c =
    (rw c.answers-answers.ensures (header-bounds _ _ c.requires.0), told c.all_load-else-not-all_load.ensures c.if-not-all_load-2.false)

pub returns-then-all_differ : goal.returns-then-all_differ
returns-then-all_differ c =
    let p = c.args in
    let e = c.subgoals-subgoals.ensures in
    let f = c.answers-answers.ensures in
    (rw f at c.all_differ-then-all_differ.ensures) ∙ alike-answers p.source.now p.h c.requires.1 _
    (rw e at c.all_load.ensures) c.if-not-all_load.false
    _ (rw f at c.all_load-else-not-all_load.ensures) c.if-not-all_load-2.false _ (rw e at c.all_differ.ensures) c.if-all_differ.true

pub returns-else-all_differ : goal.returns-else-all_differ
returns-else-all_differ c =
    let p = c.args in
    let e = c.subgoals-subgoals.ensures in
    c.if-all_differ.false ∙ alike-subgoals p.source.now p.h c.requires.1 _
    (rw e at c.all_load.ensures) c.if-not-all_load.false
    _ (rw c.answers-answers.ensures at c.all_load-else-not-all_load.ensures) c.if-not-all_load-2.false
    _ (rw e at c.all_differ.ensures) c.if-all_differ.false
