-- `words::detours::detours_result` meets its contract: what was found, or a refusal.
use mathlib.Core.Path.{sym, ap}
use Rattle.store.specs.Replies.{said_detours_by}
use Rattle.words.specs.Words.{word}
use Rattle.words.proofs.DetourWords.{detours-refused}
use Rattle.words.proofs.detours.detours_result.Goals as goal

pub returns-in-Ok : goal.returns-in-Ok
returns-in-Ok g c = rw c.in-Ok.is c.give_detour.ensures

pub returns-in-Err : goal.returns-in-Err
unfolding word
returns-in-Err g c = detours-refused _ c.args.out.now _ _ (sym (ap (said_detours_by g.R.Numbered.number) c.in-Err.is)) c.refusal_word.ensures
