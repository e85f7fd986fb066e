-- `load_counted` meets its contract: in the form that the edition stores.
use mathlib.Core.Path.{sym, ◌∙◌}
use Rattle.convert.proofs.EditionLaws.{counts-pairs, counts-lists}
use Rattle.convert.proofs.load_counted.Goals as goal

pub returns-then-stores_pairs : goal.returns-then-stores_pairs
returns-then-stores_pairs c = counts-pairs c.args.edition c.args.m c.args.s.now c.load_cells.new.cells c.load_cells.result (sym c.stores_pairs.ensures ∙ c.if-stores_pairs.true) c.load_cells.ensures

pub returns : goal.returns
returns c = counts-lists c.args.edition c.args.m c.args.s.now c.load_compact.new.cells c.load_compact.result (sym c.stores_pairs.ensures ∙ c.if-stores_pairs.false) c.load_compact.ensures
