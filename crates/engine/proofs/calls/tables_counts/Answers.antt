-- `engine::calls::tables_counts` meets its contract: each outcome by its law.
use mathlib.Core.Path.{◌≡◌, ap}
use native.Mathlib.Omega.{arith}
use Rattle.basis.proofs.Tests.{told}
use Rattle.std.specs.Prelude.{Ok, Err}
use Rattle.store.specs.Replies.{said_counts}
use Rattle.words.specs.Words.{word, counts_of}
use Rattle.words.proofs.WordLaws.{counts-refused, counts-short, counts-given}
use Rattle.engine.proofs.CountsLaw.{counts-returns}
use Rattle.engine.proofs.calls.tables_counts.Goals as goal

pub returns-in-Ok : goal.returns-in-Ok
unfolding word
returns-in-Ok c =
    let given_here : said_counts (Ok c.in-Ok.c) ≡ counts_of c.args.space.now = told (ap said_counts c.in-Ok.is) c.counts.ensures.0 in
    let e = c.copy_from_slice.ensures.after in
    counts-returns _ _ _ _ (rw e (counts-given _ _ _ _ given_here (omega arith) c.result_word.ensures))

pub returns-in-Ok-2 : goal.returns-in-Ok-2
unfolding word
returns-in-Ok-2 c =
    let given_here : said_counts (Ok c.in-Ok.c) ≡ counts_of c.args.space.now = told (ap said_counts c.in-Ok.is) c.counts.ensures.0 in
    counts-returns _ _ _ _ (counts-short _ _ _ _ given_here (omega arith) c.refusal_with.ensures)

pub returns-in-Err : goal.returns-in-Err
returns-in-Err c =
    let refusal_here : said_counts (Err c.in-Err.r) ≡ counts_of c.args.space.now = told (ap said_counts c.in-Err.is) c.counts.ensures.0 in
    counts-returns _ _ _ _ (counts-refused _ _ _ _ refusal_here c.refusal_word.ensures)
