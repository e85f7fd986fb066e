-- `why_with` meets its contract.
use Rattle.std.specs.Prelude.{Err, Ok}
use mathlib.Core.Path.{◌≡◌, sym, ◌∙◌}
use mathlib.Core.List.{[]}
use lib.ListN.{take, length-take}
use native.Mathlib.Omega.{arith}
use Rattle.forms.specs.Cells.{arity_of}
use Rattle.forms.specs.Converting.{reading, formed}
use Rattle.forms.specs.Numbering.{met}
use Rattle.forms.specs.Stored.{stored_of}
use Rattle.basis.proofs.Tests.{told}
use Rattle.trie.specs.Index.{search_indexed}
use Rattle.store.proofs.CallsReading.{cells-enough, form-room, form-count}
use borrow.Author.Rules.{rules}
use Rattle.reasons.proofs.WhyCases.{tokens-few, why-refused, why-other, why-form, why-named}
use Rattle.reasons.proofs.why_with.Goals as goal

pub returns-in_err-size : goal.returns-in_err-size
returns-in_err-size c =
    let passed : c.from_residual.result ≡ Err c.in_err-size.field-0.0 = search rules in
    rw passed (record { answers_under = why-refused _ c.args.space.now c.args.h c.args.term.now _ (told c.in_err-size.was c.read_terms.ensures.0); named_in = tt })

pub bounds-term-0 : goal.bounds-term-0
bounds-term-0 c =
    let got_here : Ok (formed c.in_ok-size.size.tokens c.in_ok-size.size.variables) ≡ reading (arity_of c.args.h.edition) (stored_of c.args.h.edition) 1 c.args.term.now =
    sym c.in_ok-size.was ∙ c.read_terms.ensures.0 in
    omega (arith, cells-enough _ _ _ _ _ _ (got_here) (search rules))

pub slice_bounds-why_at-end : goal.slice_bounds-why_at-end
slice_bounds-why_at-end c =
    let got_here : Ok (formed c.in_ok-size.size.tokens c.in_ok-size.size.variables) ≡ reading (arity_of c.args.h.edition) (stored_of c.args.h.edition) 1 c.args.term.now =
    sym c.in_ok-size.was ∙ c.read_terms.ensures.0 in
    let holds_here : take c.in_ok-size.size.tokens c.read_terms.new.form ≡ (stored_of c.args.h.edition).form c.args.term.now = rw c.in_ok-size.was at c.read_terms.ensures.1 in
    form-room _ _ _ _ _ _ (got_here) _ (holds_here)

pub slice_bounds-why_at-end-then-is_callable : goal.slice_bounds-why_at-end-then-is_callable
slice_bounds-why_at-end-then-is_callable c =
    let got_here : Ok (formed c.in_ok-size.size.tokens c.in_ok-size.size.variables) ≡ reading (arity_of c.args.h.edition) (stored_of c.args.h.edition) 1 c.args.term.now =
    sym c.in_ok-size.was ∙ c.read_terms.ensures.0 in
    let holds_here : take c.in_ok-size.size.tokens c.read_terms.new.form ≡ (stored_of c.args.h.edition).form c.args.term.now = rw c.in_ok-size.was at c.read_terms.ensures.1 in
    form-count _ _ _ _ _ _ (got_here) _ (holds_here)

pub why_at-requires : goal.why_at-requires
why_at-requires c =
    let got_here : Ok (formed c.in_ok-size.size.tokens c.in_ok-size.size.variables) ≡ reading (arity_of c.args.h.edition) (stored_of c.args.h.edition) 1 c.args.term.now =
    sym c.in_ok-size.was ∙ c.read_terms.ensures.0 in
    (c.requires.bounds, omega (arith, length-take c.in_ok-size.size.tokens c.read_terms.new.form, tokens-few c.args.h.edition 1 c.args.term.now _ _ got_here))

pub returns-then-is_callable : goal.returns-then-is_callable
returns-then-is_callable c =
    let got_here : Ok (formed c.in_ok-size.size.tokens c.in_ok-size.size.variables) ≡ reading (arity_of c.args.h.edition) (stored_of c.args.h.edition) 1 c.args.term.now =
    sym c.in_ok-size.was ∙ c.read_terms.ensures.0 in
    let holds_here : take c.in_ok-size.size.tokens c.read_terms.new.form ≡ (stored_of c.args.h.edition).form c.args.term.now = rw c.in_ok-size.was at c.read_terms.ensures.1 in
    let names_here : take c.in_ok-size.size.variables c.read_terms.new.vars ≡ met [] c.args.term.now = rw c.in_ok-size.was at c.read_terms.ensures.2 in
    record {
      answers_under = why-form _ c.args.space.now c.args.h c.args.term.now _ _ (got_here) _ c.read_terms.new.form c.why_at.result (names_here)
          (sym c.is_callable.ensures ∙ c.if-is_callable.true) (holds_here) c.why_at.ensures;
      named_in = why-named (search_indexed c.args.index.now c.args.h.nodes) c.args.space.now c.args.h c.args.term.now _ _ (got_here) _ c.read_terms.new.form
          c.why_at.result (names_here) c.why_at.ensures;
    }

pub returns : goal.returns
returns c =
    let got_here : Ok (formed c.in_ok-size.size.tokens c.in_ok-size.size.variables) ≡ reading (arity_of c.args.h.edition) (stored_of c.args.h.edition) 1 c.args.term.now =
    sym c.in_ok-size.was ∙ c.read_terms.ensures.0 in
    record { answers_under = why-other _ c.args.space.now c.args.h c.args.term.now _ _ (got_here) (sym c.is_callable.ensures ∙ c.if-is_callable.false); named_in = tt }
