-- `cells_word` meets its contract: each variant by its word.
use mathlib.Core.Path.{◌≡◌}
use native.Mathlib.Omega.{arith}
use Rattle.forms.specs.declared.Unwritten.{Unwritten}
use Rattle.forms.specs.declared.Unwritten.TheVariants.{Refused, Short}
use Rattle.store.specs.Replies.{said_cells_by}
use Rattle.words.specs.Words.{word}
use Rattle.words.proofs.WordLaws.{said-word}
use Rattle.words.proofs.cells_word.Goals as goal

pub overflow_cast-n : goal.overflow_cast-n
overflow_cast-n g c = let h = rw c.in-Ok.is at c.requires.few in omega arith

pub returns-in-Ok : goal.returns-in-Ok
unfolding word
returns-in-Ok g c = said-word (said_cells_by g.R.Numbered.number) c.in-Ok.is _ c.result_word.ensures

pub overflow_cast-n-in-Err-Short : goal.overflow_cast-n-in-Err-Short
overflow_cast-n-in-Err-Short g c =
    let h = c.in-Err-Short in
    let why : ◌≡◌ {A = Unwritten _} h.field-0 (Short h.n) = rw h.is at h.field-0-is in
    let k = rw (h.is, why) at c.requires.few in omega arith

pub returns-in-Err-Short : goal.returns-in-Err-Short
unfolding word
returns-in-Err-Short g c =
    let h = c.in-Err-Short in
    let why : ◌≡◌ {A = Unwritten _} h.field-0 (Short h.n) = rw h.is at h.field-0-is in
    rw (h.is, why) c.refusal_with.ensures

pub returns-in-Err-Refused : goal.returns-in-Err-Refused
unfolding word
returns-in-Err-Refused g c =
    let h = c.in-Err-Refused in
    let why : ◌≡◌ {A = Unwritten _} h.field-0 (Refused h.r) = rw h.is at h.field-0-is in
    rw (h.is, why) c.refusal_word.ensures
