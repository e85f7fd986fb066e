-- `print_call` meets its contract: each answer by its word, and an old subgoal's state behind its number.
use mathlib.Core.List.{◌∷◌}
use native.Mathlib.Omega.{arith}
use Rattle.store.specs.Replies.{said_state}
use Rattle.text.specs.Digits.{word_and_number}
use Rattle.text.proofs.DigitsLaws.{decimal-length, puts-append}
use Rattle.replies.specs.Texts.{text_old, state_text, reply_text}
use Rattle.replies.proofs.print_call.Goals as goal

pub returns-in-New : goal.returns-in-New
unfolding reply_text
returns-in-New c = λ out. rw c.in-New.is c.put_numbered.ensures

pub put_state-requires : goal.put_state-requires
put_state-requires c = omega (arith, decimal-length c.in-Old.n)

pub returns-in-Old : goal.returns-in-Old
unfolding reply_text
returns-in-Old c = λ out.
    rw c.in-Old.is
    (puts-append (word_and_number text_old c.in-Old.n) (32 ∷ state_text (said_state c.in-Old.state)) c.args.text.now _ _ _ _ _ c.put_numbered-end.ensures c.put_state.ensures)

pub returns-in-Refused : goal.returns-in-Refused
unfolding reply_text
returns-in-Refused c = λ out. rw c.in-Refused.is c.print_refused.ensures
