-- `read_cells` meets its contract: the cells read come before those still to be read.
use mathlib.Core.Path.{◌≡◌, refl}
use native.Mathlib.Omega.{arith}
use lib.ListN.{length-set}
use borrow.Author.Rules.{rules}
use Rattle.std.specs.Prelude.{None}
use Rattle.text.specs.Fields.{hex_cells}
use Rattle.text.specs.Places.{rest_at}
use Rattle.text.proofs.FieldsLaws.{prepend-none, cells-step, cells_over, cells-refused}
use Rattle.text.proofs.fields.read_cells.Goals as goal

pub loop-i-init : goal.loop-i-init
loop-i-init c = (c.requires.0, omega arith, refl, prepend-none _)

pub read_numeral-requires : goal.read_numeral-requires
read_numeral-requires c = (c.loop-i.invariant.0, omega arith, omega arith)

pub returns-in_err-read : goal.returns-in_err-read
returns-in_err-read c =
    let passed : c.from_residual.result ≡ None = search rules in
    let l = c.args.line.now in
    let v = c.loop-i.invariant in
    rw passed (cells-refused l c.loop-i.cells c.loop-i.i c.loop-i.n (hex_cells (rest_at l c.args.at)) v.3 c.loop-i-test.true v.0
    (rw c.in_err-read.was at c.read_numeral.ensures))

pub loop-i-smaller : goal.loop-i-smaller
loop-i-smaller c = let f = rw c.in_ok-read.was at c.read_numeral.ensures in omega (arith, f.3)

pub loop-i-preserved : goal.loop-i-preserved
loop-i-preserved c = let l = c.args.line.now in let i = c.loop-i.i in let k = c.loop-i.n in let u = c.loop-i.cells in let v = c.loop-i.invariant in let f = rw c.in_ok-read.was at c.read_numeral.ensures in (f.1, omega (arith, f.3, v.1), simp length-set v.2, cells-step l u i k (hex_cells (rest_at l c.args.at)) v.3 c.in_ok-read.read.value c.in_ok-read.read.end f.0 f.2 (omega (arith, v.1, v.2, c.requires.1)))

pub returns : goal.returns
returns c = let l = c.args.line.now in let i = c.loop-i.i in let k = c.loop-i.n in let u = c.loop-i.cells in let v = c.loop-i.invariant in (cells_over l u i k (hex_cells (rest_at l c.args.at)) v.3 (omega arith) v.0, omega (arith, v.1, v.2, c.requires.1, v.0.0))
