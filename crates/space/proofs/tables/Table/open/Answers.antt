-- `space::tables::Table::open` meets its contract.
use Rattle.basis.proofs.Tests.{told}
use Rattle.space.proofs.HeaderLaws.{header-bounds}
use Rattle.space.proofs.tables.Table.open.Goals as goal

pub invariant_of-result : goal.invariant_of-result
invariant_of-result c = record { within = header-bounds _ _ (told c.in_ok-head.was c.read_header.ensures) }
