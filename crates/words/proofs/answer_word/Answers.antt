-- `answer_word` meets its contract: each variant by its word.
use mathlib.Core.Path.{◌≡◌}
use Rattle.store.specs.Replies.{said_answer_by}
use Rattle.store.specs.declared.Entry.{Entry}
use Rattle.store.specs.declared.Entry.TheVariants as entry
use Rattle.words.specs.Words.{word}
use Rattle.words.proofs.WordLaws.{said-word}
use Rattle.words.proofs.answer_word.Goals as goal

pub returns-in-Ok-New : goal.returns-in-Ok-New
unfolding word
returns-in-Ok-New g c =
    let h = c.in-Ok-New in
    let which : ◌≡◌ {A = Entry} h.field-0 (entry.New h.n) = rw h.is at h.field-0-is in
    rw (h.is, which) c.result_word.ensures

pub returns-in-Ok-Old : goal.returns-in-Ok-Old
unfolding word
returns-in-Ok-Old g c =
    let h = c.in-Ok-Old in
    let which : ◌≡◌ {A = Entry} h.field-0 (entry.Old h.n) = rw h.is at h.field-0-is in
    rw (h.is, which) c.result_word-in-Ok-Old.ensures

pub returns-in-Err : goal.returns-in-Err
unfolding word
returns-in-Err g c = said-word (said_answer_by g.R.Numbered.number) c.in-Err.is _ c.refusal_word.ensures
