-- `indexing::build_on` meets its contract.
use Rattle.indexing.proofs.BuildCases.{slots-odd, slots-few, slots-enough}
use Rattle.basis.proofs.Tests.{told}
use Rattle.indexing.proofs.build_on.Goals as goal

pub fill-requires : goal.fill-requires
fill-requires c = (c.requires, told c.is_power_of_two.ensures c.if-is_power_of_two.true)

pub returns-then-fill : goal.returns-then-fill
returns-then-fill c = slots-enough _ c.args.index.now (told c.is_power_of_two.ensures c.if-is_power_of_two.true) _ c.count_entering-count.ensures.0 _ _ c.fill.ensures c.if-fill.true

pub returns-else-fill : goal.returns-else-fill
returns-else-fill c = slots-few _ c.args.index.now (told c.is_power_of_two.ensures c.if-is_power_of_two.true) _ c.count_entering-count.ensures.0 _ _ c.fill.ensures c.if-fill.false

pub returns-else-is_power_of_two : goal.returns-else-is_power_of_two
returns-else-is_power_of_two c = slots-odd _ _ (told c.is_power_of_two.ensures c.if-is_power_of_two.false)
