-- `integrity::check` meets its contract.
use Rattle.integrity.proofs.CheckCases.{fault-header, fault-sound}
use mathlib.Core.Path.{◌∙◌}
use Rattle.integrity.proofs.check.Goals as goal

pub returns-in-Ok : goal.returns-in-Ok
returns-in-Ok c = c.check_in.ensures ∙ fault-sound _ c.in-Ok.table c.in-Ok.ensures

pub returns-in-Err : goal.returns-in-Err
returns-in-Err c = fault-header (c.args.space.now) _ c.in-Err.ensures
