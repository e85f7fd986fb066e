-- `reply_or_bad` meets its contract.
use mathlib.Core.Path.{sym, ap, ◌∙◌}
use native.Mathlib.Omega.{arith}
use Rattle.text.specs.Fields.{fields}
use Rattle.store.specs.Calls.{space_step}
use Rattle.asking.specs.Lines.{Meaning, word_means, means}
use Rattle.asking.specs.Saying.{said_of}
use Rattle.asking.proofs.AskingLaws.{bad-leaves, bad-out, leaves_alike}
use Rattle.session.proofs.LineLaws.{means-short, means-long, flat}
use Rattle.session.proofs.reply_or_bad.Goals as goal

pub returns-then-line-le-LONGEST_LINE : goal.returns-then-line-le-LONGEST_LINE
returns-then-line-le-LONGEST_LINE c = let l = c.args.line.now in let s = c.args.space.now in let out = c.args.out.now in let q = means-short l out (omega (arith, c.if-line-le-LONGEST_LINE.true)) in
    let e = flat (leaves_alike s out _ _ _ _ (means l out) (word_means (fields l) out) q (c.reply.ensures.word_puts, c.reply.ensures.space_value), c.reply.ensures.out_value ∙ sym (ap (λ (x : Meaning). (said_of space_step x s out).out) q)) in
    record { line_puts = e.0; space_value = e.1.0; out_value = e.1.1 }

pub returns-else-line-le-LONGEST_LINE : goal.returns-else-line-le-LONGEST_LINE
returns-else-line-le-LONGEST_LINE c = let l = c.args.line.now in let s = c.args.space.now in let out = c.args.out.now in let q = means-long l out (omega (arith, c.if-line-le-LONGEST_LINE.false)) in
    let e = flat (bad-leaves s out _ _ _ (means l out) q c.print_bad.ensures, bad-out s out (means l out) q) in
    record { line_puts = e.0; space_value = e.1.0; out_value = e.1.1 }
