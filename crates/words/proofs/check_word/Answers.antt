-- `check_word` meets its contract: each variant by its word.
use mathlib.Core.Path.{◌≡◌}
use borrow.Author.Rules.{rules}
use Rattle.integrity.specs.declared.Broken.{Broken}
use Rattle.integrity.specs.declared.Broken.TheVariants as broken
use Rattle.words.specs.Words.{word, word_check}
use Rattle.words.proofs.FaultBounds.{variant-word}
use Rattle.words.proofs.check_word.Goals as goal

pub returns-in-Ok : goal.returns-in-Ok
unfolding word_check
returns-in-Ok c = variant-word c.in-Ok.is _ c.result_word.ensures

pub returns-in-Err-Header : goal.returns-in-Err-Header
unfolding word_check word
returns-in-Err-Header c =
    let g = c.in-Err-Header in
    let which : ◌≡◌ {A = Broken} g.field-0 (broken.Header) = rw g.is at g.field-0-is in
    rw (g.is, which) c.refusal_word.ensures

pub broken_word-requires : goal.broken_word-requires
broken_word-requires c =
    let g = c.in-Err-Node in
    let which : ◌≡◌ {A = Broken} g.field-0 (broken.Node g.n) = rw g.is at g.field-0-is in
    (search rules, rw (g.is, which) at c.requires)

pub returns-in-Err-Node : goal.returns-in-Err-Node
unfolding word_check
returns-in-Err-Node c =
    let g = c.in-Err-Node in
    let which : ◌≡◌ {A = Broken} g.field-0 (broken.Node g.n) = rw g.is at g.field-0-is in
    rw (g.is, which) c.broken_word.ensures

pub broken_word-requires-in-Err-Subgoal : goal.broken_word-requires-in-Err-Subgoal
broken_word-requires-in-Err-Subgoal c =
    let g = c.in-Err-Subgoal in
    let which : ◌≡◌ {A = Broken} g.field-0 (broken.Subgoal g.s) = rw g.is at g.field-0-is in
    (search rules, rw (g.is, which) at c.requires)

pub returns-in-Err-Subgoal : goal.returns-in-Err-Subgoal
unfolding word_check
returns-in-Err-Subgoal c =
    let g = c.in-Err-Subgoal in
    let which : ◌≡◌ {A = Broken} g.field-0 (broken.Subgoal g.s) = rw g.is at g.field-0-is in
    rw (g.is, which) c.broken_word-in-Err-Subgoal.ensures

pub broken_word-requires-in-Err-Answer : goal.broken_word-requires-in-Err-Answer
broken_word-requires-in-Err-Answer c =
    let g = c.in-Err-Answer in
    let which : ◌≡◌ {A = Broken} g.field-0 (broken.Answer g.a) = rw g.is at g.field-0-is in
    (search rules, rw (g.is, which) at c.requires)

pub returns-in-Err-Answer : goal.returns-in-Err-Answer
unfolding word_check
returns-in-Err-Answer c =
    let g = c.in-Err-Answer in
    let which : ◌≡◌ {A = Broken} g.field-0 (broken.Answer g.a) = rw g.is at g.field-0-is in
    rw (g.is, which) c.broken_word-in-Err-Answer.ensures
