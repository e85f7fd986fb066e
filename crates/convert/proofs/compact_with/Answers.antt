-- `compact_with` meets its contract: each answer by its law.
use Rattle.std.specs.Prelude.{Ok}
use mathlib.Core.Path.{◌≡◌, sym, ◌∙◌}
use lib.ListN.{length, take}
use Rattle.forms.specs.Cells.{arity_of}
use Rattle.forms.specs.Stored.{stored_of}
use Rattle.forms.specs.Converting.{reading}
use Rattle.convert.proofs.AnswerLaws.{taken-room, fitting-short, fitting-cells, reading-length, compacting-refused, compacting-form}
use Rattle.convert.proofs.compact_with.Goals as goal

pub returns-in_default : goal.returns-in_default
returns-in_default c = compacting-refused (arity_of c.args.edition) (stored_of c.args.edition) c.args.m c.args.s.now c.args.out.now _ (sym c.unwrap_err.ensures ∙ c.read_terms-read.ensures.0)

pub returns-then-out-n : goal.returns-then-out-n
returns-then-out-n c =
    let got_here : Ok c.in-Ok.size ≡ reading (arity_of c.args.edition) (stored_of c.args.edition) c.args.m c.args.s.now = sym c.in-Ok.is ∙ c.read_terms-read.ensures.0 in
    let f = fitting-short c.in-Ok.size.tokens ((stored_of c.args.edition).form c.args.s.now) c.args.out.now c.if-out-n.true in
    (f.0 ∙ compacting-form (arity_of c.args.edition) (stored_of c.args.edition) c.args.m c.args.s.now c.in-Ok.size.tokens c.in-Ok.size.variables (length c.args.out.now) (got_here), f.1)

pub copy-requires : goal.copy-requires
copy-requires c =
    let got_here : Ok c.in-Ok.size ≡ reading (arity_of c.args.edition) (stored_of c.args.edition) c.args.m c.args.s.now = sym c.in-Ok.is ∙ c.read_terms-read.ensures.0 in
    let holds_here : take c.in-Ok.size.tokens c.read_terms-read.new.form ≡ (stored_of c.args.edition).form c.args.s.now = rw c.in-Ok.is at c.read_terms-read.ensures.1 in
    (taken-room c.in-Ok.size.tokens c.read_terms-read.new.form ((stored_of c.args.edition).form c.args.s.now) (holds_here) (reading-length (arity_of c.args.edition) (stored_of c.args.edition) c.args.m c.args.s.now c.in-Ok.size.tokens c.in-Ok.size.variables (got_here)), c.if-out-n.false)

pub returns : goal.returns
returns c =
    let got_here : Ok c.in-Ok.size ≡ reading (arity_of c.args.edition) (stored_of c.args.edition) c.args.m c.args.s.now = sym c.in-Ok.is ∙ c.read_terms-read.ensures.0 in
    let holds_here : take c.in-Ok.size.tokens c.read_terms-read.new.form ≡ (stored_of c.args.edition).form c.args.s.now = rw c.in-Ok.is at c.read_terms-read.ensures.1 in
    let f = fitting-cells c.in-Ok.size.tokens ((stored_of c.args.edition).form c.args.s.now) c.args.out.now c.read_terms-read.new.form c.copy.new.out c.if-out-n.false (holds_here) c.copy.ensures in
    (f.0 ∙ compacting-form (arity_of c.args.edition) (stored_of c.args.edition) c.args.m c.args.s.now c.in-Ok.size.tokens c.in-Ok.size.variables (length c.args.out.now) (got_here), f.1)
