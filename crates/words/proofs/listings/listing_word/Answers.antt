-- `words::listings::listing_word` meets its contract: each variant by its word.
use mathlib.Core.Path.{◌≡◌}
use native.Mathlib.Omega.{arith}
use Prim.Native.Nat.{ℕ}
use Rattle.std.specs.Prelude.{Option, Some, None}
use Rattle.forms.specs.declared.Unwritten.{Unwritten}
use Rattle.forms.specs.declared.Unwritten.TheVariants.{Refused, Short}
use Rattle.words.specs.Words.{word}
use Rattle.words.specs.Listings.{word_listing_by}
use Rattle.words.proofs.listings.listing_word.Goals as goal

pub overflow_cast-n : goal.overflow_cast-n
overflow_cast-n g c =
    let h = c.in-Ok-Some in
    let which : ◌≡◌ {A = Option ℕ} h.field-0 (Some h.n) = rw h.is at h.field-0-is in
    let k = rw (h.is, which) at c.requires.few in omega arith

pub returns-in-Ok-Some : goal.returns-in-Ok-Some
unfolding word_listing_by
returns-in-Ok-Some g c =
    let h = c.in-Ok-Some in
    let which : ◌≡◌ {A = Option ℕ} h.field-0 (Some h.n) = rw h.is at h.field-0-is in
    rw (h.is, which) c.result_word.ensures

pub returns-in-Ok-None : goal.returns-in-Ok-None
unfolding word_listing_by
returns-in-Ok-None g c =
    let h = c.in-Ok-None in
    let which : ◌≡◌ {A = Option ℕ} h.field-0 (None) = rw h.is at h.field-0-is in
    rw (h.is, which) c.result_word-in-Ok-None.ensures

pub returns-in-Err-Refused : goal.returns-in-Err-Refused
unfolding word_listing_by word
returns-in-Err-Refused g c =
    let h = c.in-Err-Refused in
    let why : ◌≡◌ {A = Unwritten _} h.field-0 (Refused h.r) = rw h.is at h.field-0-is in
    rw (h.is, why) c.refusal_word.ensures

pub overflow_cast-n-in-Err-Short : goal.overflow_cast-n-in-Err-Short
overflow_cast-n-in-Err-Short g c =
    let h = c.in-Err-Short in
    let why : ◌≡◌ {A = Unwritten _} h.field-0 (Short h.n) = rw h.is at h.field-0-is in
    let k = rw (h.is, why) at c.requires.few in omega arith

pub returns-in-Err-Short : goal.returns-in-Err-Short
unfolding word_listing_by
returns-in-Err-Short g c =
    let h = c.in-Err-Short in
    let why : ◌≡◌ {A = Unwritten _} h.field-0 (Short h.n) = rw h.is at h.field-0-is in
    rw (h.is, why) c.refusal_with.ensures
