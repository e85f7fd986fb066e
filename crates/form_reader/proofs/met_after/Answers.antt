-- `met_after` meets its contract, one case to each side of its tests.
use mathlib.Core.Path.{sym, ◌∙◌}
use borrow.Author.Tests.{eq-eqb, ne_eqb}
use Rattle.basis.proofs.Tests.{told}
use Rattle.form_reader.specs.Loading.{met_after}
use Rattle.form_reader.proofs.met_after.Goals as goal
use Rattle.form_reader.proofs.met_after.Goals.{else-is_variable-via-then-is_variable+else-payload_of-count, else-is_variable-via-else-is_variable}

pub returns-then-payload_of-count : goal.returns-then-payload_of-count
unfolding met_after
returns-then-payload_of-count c = simp (told c.is_variable.ensures c.if-is_variable.true, eq-eqb _ _ (sym c.payload_of.ensures ∙ c.if-payload_of-count.true))

pub returns : goal.returns
unfolding met_after
returns c = elim c.else-is_variable.branch [
  | else-is_variable-via-then-is_variable+else-payload_of-count w ↦ simp (told c.is_variable.ensures w.if-is_variable.true, ne_eqb _ _ (λ e. w.if-payload_of-count.false (w.payload_of.ensures ∙ e)))
  | else-is_variable-via-else-is_variable w ↦ simp (told c.is_variable.ensures w.if-is_variable.false)
]
