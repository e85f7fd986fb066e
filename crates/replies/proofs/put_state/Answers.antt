-- `put_state` meets its contract: each state by its word.
use Rattle.replies.proofs.put_state.Goals as goal

pub returns-in-Open : goal.returns-in-Open
returns-in-Open c = rw c.in-Open.is c.put.ensures

pub returns-in-Finished : goal.returns-in-Finished
returns-in-Finished c = rw c.in-Finished.is c.put-in-Finished.ensures
