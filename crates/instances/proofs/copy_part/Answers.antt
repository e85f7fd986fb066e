-- `copy_part` meets its contract: the cells that were written are the part's.
use mathlib.Core.Path.{refl}
use native.Mathlib.Omega.{arith}
use Rattle.instances.proofs.InstanceLaws.{part-copied}
use Rattle.instances.proofs.copy_part.Goals as goal

pub returns : goal.returns
returns c =
    let a = c.args in
    (refl, part-copied a.s.now a.out.now _ a.to a.start a.end _ (omega arith) c.requires.0 c.requires.1 c.requires.2 c.copy_from_slice.ensures.after)
