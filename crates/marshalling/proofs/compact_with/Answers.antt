-- `compact_with` meets its contract: each outcome by its law.
use Rattle.std.specs.Prelude.{Ok, Err}
use Prim.Native.Nat.{◌%◌}
use mathlib.Core.Path.{◌≡◌, sym, ap, ◌∙◌}
use native.Mathlib.Omega.{arith}
use lib.ListN.{length, take}
use Rattle.forms.specs.Cells.{arity_of}
use Rattle.forms.specs.Stored.{stored_of}
use Rattle.forms.specs.Converting.{reading}
use Rattle.convert.proofs.AnswerLaws.{taken-room, reading-length}
use Rattle.marshalling.specs.Bytes.{cells_of}
use Rattle.marshalling.proofs.BytesLaws.{cells-length}
use Rattle.marshalling.proofs.ExportLaws.{cells-decoded, compact-refused, compact-form}
use Rattle.marshalling.proofs.compact_with.Goals as goal

pub read_terms-read-requires : goal.read_terms-read-requires
read_terms-read-requires c =
    let cells_here : take c.args.n c.decode.new.cells ≡ cells_of c.args.input.now = cells-decoded c.args.n c.args.input.now c.args.cells.now c.decode.new.cells c.requires.0 c.decode.ensures in
    let count_here : length (take c.args.n c.decode.new.cells) ≡ c.args.n = ap length (cells_here) ∙ omega (arith, cells-length c.args.input.now, c.requires.0) in
    (λ h. omega (arith, count_here, c.requires))

pub returns-in_default : goal.returns-in_default
returns-in_default c =
    let whole_here : length c.args.input.now % 4 ≡ 0 = omega (arith, c.requires.0) in
    let cells_here : take c.args.n c.decode.new.cells ≡ cells_of c.args.input.now = cells-decoded c.args.n c.args.input.now c.args.cells.now c.decode.new.cells c.requires.0 c.decode.ensures in
    let refused_here : Err c.unwrap_err.result ≡ reading (arity_of c.args.edition) (stored_of c.args.edition) 1 (cells_of c.args.input.now) = sym c.unwrap_err.ensures ∙ c.read_terms-read.ensures.0 ∙ ap (reading (arity_of c.args.edition) (stored_of c.args.edition) 1) (cells_here) in
    compact-refused _ _ _ _ (whole_here) _ (refused_here)

pub deliver-requires : goal.deliver-requires
deliver-requires c =
    let cells_here : take c.args.n c.decode.new.cells ≡ cells_of c.args.input.now = cells-decoded c.args.n c.args.input.now c.args.cells.now c.decode.new.cells c.requires.0 c.decode.ensures in
    let got_here : Ok c.in-Ok.size ≡ reading (arity_of c.args.edition) (stored_of c.args.edition) 1 (cells_of c.args.input.now) = sym c.in-Ok.is ∙ c.read_terms-read.ensures.0 ∙ ap (reading (arity_of c.args.edition) (stored_of c.args.edition) 1) (cells_here) in
    let holds_here : take c.in-Ok.size.tokens c.read_terms-read.new.form ≡ (stored_of c.args.edition).form (cells_of c.args.input.now) = (rw c.in-Ok.is at c.read_terms-read.ensures.1) ∙ ap (stored_of c.args.edition).form (cells_here) in
    let r = taken-room _ c.read_terms-read.new.form _ (holds_here) (reading-length _ _ _ _ _ _ (got_here)) in (r, omega (arith, r, c.requires))

pub returns : goal.returns
returns c =
    let whole_here : length c.args.input.now % 4 ≡ 0 = omega (arith, c.requires.0) in
    let cells_here : take c.args.n c.decode.new.cells ≡ cells_of c.args.input.now = cells-decoded c.args.n c.args.input.now c.args.cells.now c.decode.new.cells c.requires.0 c.decode.ensures in
    let got_here : Ok c.in-Ok.size ≡ reading (arity_of c.args.edition) (stored_of c.args.edition) 1 (cells_of c.args.input.now) = sym c.in-Ok.is ∙ c.read_terms-read.ensures.0 ∙ ap (reading (arity_of c.args.edition) (stored_of c.args.edition) 1) (cells_here) in
    let holds_here : take c.in-Ok.size.tokens c.read_terms-read.new.form ≡ (stored_of c.args.edition).form (cells_of c.args.input.now) = (rw c.in-Ok.is at c.read_terms-read.ensures.1) ∙ ap (stored_of c.args.edition).form (cells_here) in
    c.deliver.ensures ∙ compact-form _ _ _ _ (whole_here) _ _ _ (got_here) (holds_here)
