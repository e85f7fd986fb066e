-- `variable_list` and `numbered` keep the lengths, and so the first cells are as many as are asked for.
use Rattle.std.proofs.Common.{arith, sym}
use Rattle.std.proofs.lemmas.List.{length-take-le}
use Rattle.boundaries.proofs.variables_32.Goals as goal

pub slice_bounds-count_compact-end-2 : goal.slice_bounds-count_compact-end-2
slice_bounds-count_compact-end-2 g c = sym (length-take-le 65 c.variable_list.new.cells (omega arith))

pub slice_bounds-count_compact-end-6 : goal.slice_bounds-count_compact-end-6
slice_bounds-count_compact-end-6 g c = sym (length-take-le 66 c.variable_list-2.new.cells (omega arith))

pub slice_bounds-count_expand-end-2 : goal.slice_bounds-count_expand-end-2
slice_bounds-count_expand-end-2 g c = sym (length-take-le 32 c.numbered.new.form (omega arith))
