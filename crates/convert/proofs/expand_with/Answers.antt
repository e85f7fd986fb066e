-- `expand_with` meets its contract: each answer by its law.
use Rattle.std.specs.Prelude.{Some}
use mathlib.Core.Path.{◌≡◌, sym, ◌∙◌}
use lib.ListN.{length, take}
use Rattle.forms.specs.Stored.{stored_of}
use Rattle.forms.specs.Converting.{loading}
use Rattle.convert.proofs.AnswerLaws.{taken-room, fitting-short, fitting-cells, loading-length, expanding-refused, expanding-terms}
use Rattle.convert.proofs.expand_with.Goals as goal

pub returns-in_default : goal.returns-in_default
returns-in_default c = expanding-refused (stored_of c.args.edition) c.args.m c.args.s.now c.args.out.now (sym c.in_default.is ∙ c.load_terms.ensures.0)

pub returns-then-out-k : goal.returns-then-out-k
returns-then-out-k c =
    let got_here : Some c.in-Some.k ≡ loading (stored_of c.args.edition) c.args.m c.args.s.now = sym c.in-Some.is ∙ c.load_terms.ensures.0 in
    let f = fitting-short c.in-Some.k ((stored_of c.args.edition).cells c.args.s.now) c.args.out.now c.if-out-k.true in
    (f.0 ∙ expanding-terms (stored_of c.args.edition) c.args.m c.args.s.now c.in-Some.k (length c.args.out.now) (got_here), f.1)

pub copy-requires : goal.copy-requires
copy-requires c =
    let got_here : Some c.in-Some.k ≡ loading (stored_of c.args.edition) c.args.m c.args.s.now = sym c.in-Some.is ∙ c.load_terms.ensures.0 in
    let holds_here : take c.in-Some.k c.load_terms.new.cells ≡ (stored_of c.args.edition).cells c.args.s.now = rw c.in-Some.is at c.load_terms.ensures.1 in
    (taken-room c.in-Some.k c.load_terms.new.cells ((stored_of c.args.edition).cells c.args.s.now) (holds_here) (loading-length (stored_of c.args.edition) c.args.m c.args.s.now c.in-Some.k (got_here)), c.if-out-k.false)

pub returns : goal.returns
returns c =
    let got_here : Some c.in-Some.k ≡ loading (stored_of c.args.edition) c.args.m c.args.s.now = sym c.in-Some.is ∙ c.load_terms.ensures.0 in
    let holds_here : take c.in-Some.k c.load_terms.new.cells ≡ (stored_of c.args.edition).cells c.args.s.now = rw c.in-Some.is at c.load_terms.ensures.1 in
    let f = fitting-cells c.in-Some.k ((stored_of c.args.edition).cells c.args.s.now) c.args.out.now c.load_terms.new.cells c.copy.new.out c.if-out-k.false (holds_here) c.copy.ensures in
    (f.0 ∙ expanding-terms (stored_of c.args.edition) c.args.m c.args.s.now c.in-Some.k (length c.args.out.now) (got_here), f.1)
