-- `give_reason` meets its contract: the reason, or a refusal.
use mathlib.Core.Path.{sym, ap}
use Rattle.store.specs.Replies.{said_why_by}
use Rattle.words.proofs.WhyLaws.{why-refused}
use Rattle.words.proofs.reasons.give_reason.Goals as goal

pub give_because-requires : goal.give_because-requires
give_because-requires g c = (rw c.in-Ok.is at c.requires.held).1

pub returns-in-Ok : goal.returns-in-Ok
returns-in-Ok g c = rw c.in-Ok.is c.give_because.ensures

pub returns-in-Err : goal.returns-in-Err
returns-in-Err g c = why-refused _ _ _ _ (sym (ap (said_why_by g.R.Numbered.number) c.in-Err.is)) c.refusal_word.ensures
