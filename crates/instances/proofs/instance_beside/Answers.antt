-- `instance_beside` meets its contract, by the call with the buffer that it was lent.
use borrow.Author.Rules.{rules}
use Rattle.instances.proofs.instance_beside.Goals as goal

pub returns : goal.returns
returns c = λ v. let h = c.with_terms.ensures.3.met.1 v in (h.0, search rules)
