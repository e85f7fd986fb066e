-- `read_terms` meets its contract: in the form that the edition stores.
use mathlib.Core.Path.{sym, ◌∙◌}
use Rattle.convert.proofs.EditionLaws.{reads-pairs, reads-lists}
use Rattle.convert.proofs.read_terms.Goals as goal

pub returns-then-stores_pairs : goal.returns-then-stores_pairs
returns-then-stores_pairs c = reads-pairs c.args.edition c.args.m c.args.s.now _ _ _ (sym c.stores_pairs.ensures ∙ c.if-stores_pairs.true) c.read_cells.ensures

pub returns : goal.returns
returns c = reads-lists c.args.edition c.args.m c.args.s.now _ _ _ (sym c.stores_pairs.ensures ∙ c.if-stores_pairs.false) c.read_compact.ensures
