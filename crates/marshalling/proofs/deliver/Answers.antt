-- `deliver` meets its contract: each outcome by its law.
use Rattle.marshalling.proofs.ExportLaws.{outcome-short, outcome-cells}
use Rattle.marshalling.proofs.deliver.Goals as goal

pub returns-then-out-n : goal.returns-then-out-n
returns-then-out-n c = outcome-short _ _ _ c.if-out-n.true

pub returns : goal.returns
returns c = outcome-cells _ _ _ _ c.if-out-n.false c.encode.ensures
