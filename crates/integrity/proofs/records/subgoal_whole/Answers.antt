-- `integrity::records::subgoal_whole` meets its contract.
use Rattle.integrity.proofs.RecordCases.{subgoal-unstood, subgoal-unformed, subgoal-unended}
use Rattle.basis.proofs.Tests.{told}
use mathlib.Core.Path.{sym, ◌∙◌}
use Rattle.integrity.proofs.records.subgoal_whole.Goals as goal
use Rattle.integrity.proofs.records.subgoal_whole.Goals.{then-subgoal_stands, else-subgoal_stands, then-path_whole, else-path_whole}

pub returns-else-ends_whole : goal.returns-else-ends_whole
returns-else-ends_whole c = c.if-ends_whole.false ∙ elim c.if-subgoal_stands.branch [
  | then-subgoal_stands v ↦
      let stands = told c.subgoal_stands.ensures v.if-subgoal_stands.true in
      let formed = rw v.subgoal_end.ensures at v.path_whole.ensures in
      elim c.if-path_whole.branch [
        | then-path_whole w ↦ subgoal-unended c.args.table.now (c.args.s) (c.subgoal-g.result) (c.subgoal-g.ensures) stands (told formed (sym v.value-is ∙ w.if-path_whole.true)) (told w.ends_whole.ensures (sym w.value-is ∙ c.if-ends_whole.false))
        | else-path_whole w ↦ subgoal-unformed c.args.table.now (c.args.s) (c.subgoal-g.result) (c.subgoal-g.ensures) stands (told formed (sym v.value-is ∙ w.if-path_whole.false))
      ]
  | else-subgoal_stands v ↦ subgoal-unstood c.args.table.now (c.args.s) (c.subgoal-g.result) (c.subgoal-g.ensures) (told c.subgoal_stands.ensures v.if-subgoal_stands.false)
]
