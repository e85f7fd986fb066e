-- `next_word` meets its contract: each variant by its word.
use mathlib.Core.Path.{◌≡◌}
use Rattle.store.specs.Replies.{said_next_by}
use Rattle.store.specs.declared.Next.{Next}
use Rattle.store.specs.declared.Next.TheVariants as next
use Rattle.words.specs.Words.{word}
use Rattle.words.proofs.WordLaws.{said-word}
use Rattle.words.proofs.next_word.Goals as goal

pub returns-in-Ok-At : goal.returns-in-Ok-At
unfolding word
returns-in-Ok-At g c =
    let h = c.in-Ok-At in
    let which : ◌≡◌ {A = Next} h.field-0 (next.At h.n) = rw h.is at h.field-0-is in
    rw (h.is, which) c.result_word.ensures

pub returns-in-Ok-Lacking : goal.returns-in-Ok-Lacking
returns-in-Ok-Lacking g c =
    let h = c.in-Ok-Lacking in
    let which : ◌≡◌ {A = Next} h.field-0 (next.Lacking h.state) = rw h.is at h.field-0-is in
    rw (h.is, which) c.lacking_word.ensures

pub returns-in-Err : goal.returns-in-Err
unfolding word
returns-in-Err g c = said-word (said_next_by g.R.Numbered.number) c.in-Err.is _ c.refusal_word.ensures
