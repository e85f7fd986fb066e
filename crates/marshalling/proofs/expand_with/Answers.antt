-- `expand_with` meets its contract: each outcome by its law.
use Rattle.std.specs.Prelude.{None, Some}
use Prim.Native.Nat.{◌%◌}
use mathlib.Core.Path.{◌≡◌, sym, ap, ◌∙◌}
use native.Mathlib.Omega.{arith}
use lib.ListN.{length, take}
use Rattle.forms.specs.Stored.{stored_of}
use Rattle.forms.specs.Converting.{loading}
use Rattle.convert.proofs.AnswerLaws.{taken-room, loading-length}
use Rattle.marshalling.specs.Bytes.{cells_of}
use Rattle.marshalling.proofs.BytesLaws.{cells-length}
use Rattle.marshalling.proofs.ExportLaws.{cells-decoded, expand-refused, expand-terms}
use Rattle.marshalling.proofs.expand_with.Goals as goal

pub slice_bounds-load_terms-end-2 : goal.slice_bounds-load_terms-end-2
slice_bounds-load_terms-end-2 c =
    let cells_here : take c.args.n c.decode.new.cells ≡ cells_of c.args.input.now = cells-decoded c.args.n c.args.input.now c.args.form.now c.decode.new.cells c.requires.0 c.decode.ensures in
    let count_here : length (take c.args.n c.decode.new.cells) ≡ c.args.n = ap length (cells_here) ∙ omega (arith, cells-length c.args.input.now, c.requires.0) in
    sym (count_here)

pub load_terms-requires : goal.load_terms-requires
load_terms-requires c =
    let cells_here : take c.args.n c.decode.new.cells ≡ cells_of c.args.input.now = cells-decoded c.args.n c.args.input.now c.args.form.now c.decode.new.cells c.requires.0 c.decode.ensures in
    let count_here : length (take c.args.n c.decode.new.cells) ≡ c.args.n = ap length (cells_here) ∙ omega (arith, cells-length c.args.input.now, c.requires.0) in
    (λ h. omega (arith, count_here, c.requires.2 h))

pub returns-in_default : goal.returns-in_default
returns-in_default c =
    let whole_here : length c.args.input.now % 4 ≡ 0 = omega (arith, c.requires.0) in
    let cells_here : take c.args.n c.decode.new.cells ≡ cells_of c.args.input.now = cells-decoded c.args.n c.args.input.now c.args.form.now c.decode.new.cells c.requires.0 c.decode.ensures in
    let refused_here : None ≡ loading (stored_of c.args.edition) 1 (cells_of c.args.input.now) = sym c.in_default.is ∙ c.load_terms.ensures.0 ∙ ap (loading (stored_of c.args.edition) 1) (cells_here) in
    expand-refused _ _ _ (whole_here) (refused_here)

pub deliver-requires : goal.deliver-requires
deliver-requires c =
    let cells_here : take c.args.n c.decode.new.cells ≡ cells_of c.args.input.now = cells-decoded c.args.n c.args.input.now c.args.form.now c.decode.new.cells c.requires.0 c.decode.ensures in
    let got_here : Some c.in-Some.k ≡ loading (stored_of c.args.edition) 1 (cells_of c.args.input.now) = sym c.in-Some.is ∙ c.load_terms.ensures.0 ∙ ap (loading (stored_of c.args.edition) 1) (cells_here) in
    let holds_here : take c.in-Some.k c.load_terms.new.cells ≡ (stored_of c.args.edition).cells (cells_of c.args.input.now) = (rw c.in-Some.is at c.load_terms.ensures.1) ∙ ap (stored_of c.args.edition).cells (cells_here) in
    let r = taken-room _ c.load_terms.new.cells _ (holds_here) (loading-length _ _ _ _ (got_here)) in (r, omega (arith, r, c.requires))

pub returns : goal.returns
returns c =
    let whole_here : length c.args.input.now % 4 ≡ 0 = omega (arith, c.requires.0) in
    let cells_here : take c.args.n c.decode.new.cells ≡ cells_of c.args.input.now = cells-decoded c.args.n c.args.input.now c.args.form.now c.decode.new.cells c.requires.0 c.decode.ensures in
    let got_here : Some c.in-Some.k ≡ loading (stored_of c.args.edition) 1 (cells_of c.args.input.now) = sym c.in-Some.is ∙ c.load_terms.ensures.0 ∙ ap (loading (stored_of c.args.edition) 1) (cells_here) in
    let holds_here : take c.in-Some.k c.load_terms.new.cells ≡ (stored_of c.args.edition).cells (cells_of c.args.input.now) = (rw c.in-Some.is at c.load_terms.ensures.1) ∙ ap (stored_of c.args.edition).cells (cells_here) in
    c.deliver.ensures ∙ expand-terms _ _ _ (whole_here) _ _ (got_here) (holds_here)
