-- `copy_from` meets its contract, one case to each side.
use borrow.Author.Tests.{eq-eqb, ne_eqb}
use Rattle.parts.proofs.hands.copy_from.Goals as goal

pub copy_term-requires : goal.copy_term-requires
copy_term-requires c = rw (eq-eqb _ _ c.if-side-eq0.true) at c.requires

pub returns-then-side-eq0 : goal.returns-then-side-eq0
returns-then-side-eq0 c = rw (eq-eqb _ _ c.if-side-eq0.true) c.copy_term.ensures

pub copy_term-requires-2 : goal.copy_term-requires-2
copy_term-requires-2 c = rw (ne_eqb _ _ c.if-side-eq0.false) at c.requires

pub returns : goal.returns
returns c = rw (ne_eqb _ _ c.if-side-eq0.false) c.copy_term-2.ensures
