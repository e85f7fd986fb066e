-- `damage::readings` meets its contract.
use Rattle.space.proofs.HeaderLaws.{header-bounds}
use Rattle.damage.proofs.readings.Goals as goal

pub records-requires : goal.records-requires
records-requires g c = header-bounds c.args.space.now c.in-Ok.h (cc)
