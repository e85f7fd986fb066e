-- `with_variables` meets its contract.
use Rattle.reasons.proofs.with_variables.Goals as goal

pub copy-requires : goal.copy-requires
copy-requires c = let k = rw c.in-Old.is at c.requires in (k.0, k.1)
