-- `insert` meets its contract: the cells are moved, and x stands before them.
use mathlib.Core.Path.{ap, ◌∙◌}
use Rattle.pair_reader.proofs.StoringLaws.{insert-moved}
use lib.ListN.{set}
use Rattle.pair_reader.proofs.insert.Goals as goal

pub returns : goal.returns
returns c = ap (λ l. set l c.args.to c.args.x) c.copy_within.ensures.after ∙ insert-moved c.args.out.now c.args.to c.args.end c.args.x c.requires.0 c.requires.1
