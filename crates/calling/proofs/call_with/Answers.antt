-- `calling::call_with` meets its contract.
use Rattle.std.specs.Prelude.{Ok}
use mathlib.Core.Path.{◌≡◌, sym, ◌∙◌}
use lib.ListN.{take}
use native.Mathlib.Omega.{arith}
use Rattle.forms.specs.Cells.{arity_of}
use Rattle.forms.specs.Converting.{reading, formed}
use Rattle.forms.specs.Stored.{stored_of}
use Rattle.store.proofs.CallsReading.{variables-few, cells-enough, form-room, form-count}
use Rattle.store.proofs.CallsCases.{call-refused, call-other, call-form}
use borrow.Author.Rules.{rules}
use Rattle.calling.proofs.call_with.Goals as goal

pub returns-in_default : goal.returns-in_default
returns-in_default c = call-refused _ c.args.space.now c.args.h c.args.term.now _ (sym c.unwrap_err.ensures ∙ c.read_terms-read.ensures.0)

pub bounds-term-0 : goal.bounds-term-0
bounds-term-0 c =
    let got_here : Ok (formed c.in-Ok.size.tokens c.in-Ok.size.variables) ≡ reading (arity_of c.args.h.edition) (stored_of c.args.h.edition) 1 c.args.term.now = sym c.in-Ok.is
    ∙ c.read_terms-read.ensures.0 in
    omega (arith, cells-enough _ _ _ _ _ _ (got_here) (search rules))

pub slice_bounds-call_at-end : goal.slice_bounds-call_at-end
slice_bounds-call_at-end c =
    let got_here : Ok (formed c.in-Ok.size.tokens c.in-Ok.size.variables) ≡ reading (arity_of c.args.h.edition) (stored_of c.args.h.edition) 1 c.args.term.now = sym c.in-Ok.is
    ∙ c.read_terms-read.ensures.0 in
    let holds_here : take c.in-Ok.size.tokens c.read_terms-read.new.form ≡ (stored_of c.args.h.edition).form c.args.term.now = rw c.in-Ok.is at c.read_terms-read.ensures.1 in
    form-room _ _ _ _ _ _ (got_here) _ (holds_here)

pub slice_bounds-call_at-end-then-is_callable : goal.slice_bounds-call_at-end-then-is_callable
slice_bounds-call_at-end-then-is_callable c =
    let got_here : Ok (formed c.in-Ok.size.tokens c.in-Ok.size.variables) ≡ reading (arity_of c.args.h.edition) (stored_of c.args.h.edition) 1 c.args.term.now = sym c.in-Ok.is
    ∙ c.read_terms-read.ensures.0 in
    let holds_here : take c.in-Ok.size.tokens c.read_terms-read.new.form ≡ (stored_of c.args.h.edition).form c.args.term.now = rw c.in-Ok.is at c.read_terms-read.ensures.1 in
    form-count _ _ _ _ _ _ (got_here) _ (holds_here)

pub call_at-requires : goal.call_at-requires
call_at-requires c =
    let got_here : Ok (formed c.in-Ok.size.tokens c.in-Ok.size.variables) ≡ reading (arity_of c.args.h.edition) (stored_of c.args.h.edition) 1 c.args.term.now = sym c.in-Ok.is
    ∙ c.read_terms-read.ensures.0 in
    (search rules, variables-few _ _ _ _ _ _ (got_here))

pub returns-then-is_callable : goal.returns-then-is_callable
returns-then-is_callable c =
    let got_here : Ok (formed c.in-Ok.size.tokens c.in-Ok.size.variables) ≡ reading (arity_of c.args.h.edition) (stored_of c.args.h.edition) 1 c.args.term.now = sym c.in-Ok.is
    ∙ c.read_terms-read.ensures.0 in
    let holds_here : take c.in-Ok.size.tokens c.read_terms-read.new.form ≡ (stored_of c.args.h.edition).form c.args.term.now = rw c.in-Ok.is at c.read_terms-read.ensures.1 in
    call-form _ c.args.space.now c.args.h c.args.term.now _ _ (got_here) c.read_terms-read.new.form _ _ (sym c.is_callable.ensures ∙ c.if-is_callable.true) (holds_here) c.call_at.ensures

pub returns : goal.returns
returns c =
    let got_here : Ok (formed c.in-Ok.size.tokens c.in-Ok.size.variables) ≡ reading (arity_of c.args.h.edition) (stored_of c.args.h.edition) 1 c.args.term.now = sym c.in-Ok.is
    ∙ c.read_terms-read.ensures.0 in
    call-other _ c.args.space.now c.args.h c.args.term.now _ _ (got_here) (sym c.is_callable.ensures ∙ c.if-is_callable.false)
