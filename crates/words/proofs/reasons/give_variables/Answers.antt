-- `give_variables` meets its contract.
use Rattle.words.proofs.WhyLaws.{gives-variables}
use Rattle.words.proofs.reasons.give_variables.Goals as goal

pub returns : goal.returns
returns c =
    gives-variables c.args.variables.now c.args.out.now _ c.args.m c.requires.2 c.copy.ensures
