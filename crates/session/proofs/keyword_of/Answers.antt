-- `keyword_of` meets its contract: each word by its test and those before it.
use Rattle.basis.proofs.Tests.{told}
use Rattle.session.proofs.LineLaws.{is_call, is-answer, is-finish, is-next, is-load, is-instance, is-counts, is-why, is-other}
use Rattle.session.proofs.keyword_of.Goals as goal

pub returns-then-is_word : goal.returns-then-is_word
returns-then-is_word c = is_call _ (told c.is_word.ensures c.if-is_word.true)

pub returns-then-is_word-2 : goal.returns-then-is_word-2
returns-then-is_word-2 c = is-answer _ (told c.is_word.ensures c.if-is_word.false) (told c.is_word-else-is_word.ensures c.if-is_word-2.true)

pub returns-then-is_word-3 : goal.returns-then-is_word-3
returns-then-is_word-3 c = is-finish _ (told c.is_word.ensures c.if-is_word.false) (told c.is_word-else-is_word.ensures c.if-is_word-2.false) (told c.is_word-else-is_word-2.ensures c.if-is_word-3.true)

pub returns-then-is_word-4 : goal.returns-then-is_word-4
returns-then-is_word-4 c = is-next _ (told c.is_word.ensures c.if-is_word.false) (told c.is_word-else-is_word.ensures c.if-is_word-2.false) (told c.is_word-else-is_word-2.ensures c.if-is_word-3.false) (told c.is_word-else-is_word-3.ensures c.if-is_word-4.true)

pub returns-then-is_word-5 : goal.returns-then-is_word-5
returns-then-is_word-5 c = is-load _ (told c.is_word.ensures c.if-is_word.false) (told c.is_word-else-is_word.ensures c.if-is_word-2.false) (told c.is_word-else-is_word-2.ensures c.if-is_word-3.false) (told c.is_word-else-is_word-3.ensures c.if-is_word-4.false) (told c.is_word-else-is_word-4.ensures c.if-is_word-5.true)

pub returns-then-is_word-6 : goal.returns-then-is_word-6
returns-then-is_word-6 c = is-instance _ (told c.is_word.ensures c.if-is_word.false) (told c.is_word-else-is_word.ensures c.if-is_word-2.false) (told c.is_word-else-is_word-2.ensures c.if-is_word-3.false) (told c.is_word-else-is_word-3.ensures c.if-is_word-4.false) (told c.is_word-else-is_word-4.ensures c.if-is_word-5.false) (told c.is_word-else-is_word-5.ensures c.if-is_word-6.true)

pub returns-then-is_word-7 : goal.returns-then-is_word-7
returns-then-is_word-7 c = is-counts _ (told c.is_word.ensures c.if-is_word.false) (told c.is_word-else-is_word.ensures c.if-is_word-2.false) (told c.is_word-else-is_word-2.ensures c.if-is_word-3.false) (told c.is_word-else-is_word-3.ensures c.if-is_word-4.false) (told c.is_word-else-is_word-4.ensures c.if-is_word-5.false) (told c.is_word-else-is_word-5.ensures c.if-is_word-6.false) (told c.is_word-else-is_word-6.ensures c.if-is_word-7.true)

pub returns-then-is_word-8 : goal.returns-then-is_word-8
returns-then-is_word-8 c = is-why _ (told c.is_word.ensures c.if-is_word.false) (told c.is_word-else-is_word.ensures c.if-is_word-2.false) (told c.is_word-else-is_word-2.ensures c.if-is_word-3.false) (told c.is_word-else-is_word-3.ensures c.if-is_word-4.false) (told c.is_word-else-is_word-4.ensures c.if-is_word-5.false) (told c.is_word-else-is_word-5.ensures c.if-is_word-6.false) (told c.is_word-else-is_word-6.ensures c.if-is_word-7.false) (told c.is_word-else-is_word-7.ensures c.if-is_word-8.true)

pub returns-else-is_word-8 : goal.returns-else-is_word-8
returns-else-is_word-8 c = is-other _ (told c.is_word.ensures c.if-is_word.false) (told c.is_word-else-is_word.ensures c.if-is_word-2.false) (told c.is_word-else-is_word-2.ensures c.if-is_word-3.false) (told c.is_word-else-is_word-3.ensures c.if-is_word-4.false) (told c.is_word-else-is_word-4.ensures c.if-is_word-5.false) (told c.is_word-else-is_word-5.ensures c.if-is_word-6.false) (told c.is_word-else-is_word-6.ensures c.if-is_word-7.false) (told c.is_word-else-is_word-7.ensures c.if-is_word-8.false)
