-- `width_of` meets its contract: a variable by its term, any other cell by itself.
use mathlib.Core.Path.{sym, ◌∙◌}
use native.Mathlib.Omega.{arith}
use Rattle.instances.proofs.InstanceLaws.{placed_at, width-variable, width-other}
use Rattle.instances.proofs.width_of.Goals as goal

pub bounds-starts-i : goal.bounds-starts-i
bounds-starts-i c =
    let term_here = placed_at 256 c.args.starts.now c.args.c c.payload_of-i.result c.requires (sym c.is_variable.ensures ∙ c.if-is_variable.true) c.payload_of-i.ensures in
    term_here.0

pub overflow_cast-result : goal.overflow_cast-result
overflow_cast-result c =
    let term_here = placed_at 256 c.args.starts.now c.args.c c.payload_of-i.result c.requires (sym c.is_variable.ensures ∙ c.if-is_variable.true) c.payload_of-i.ensures in
    omega (arith, term_here.2)

pub bounds-starts-i-then-is_variable : goal.bounds-starts-i-then-is_variable
bounds-starts-i-then-is_variable c =
    let term_here = placed_at 256 c.args.starts.now c.args.c c.payload_of-i.result c.requires (sym c.is_variable.ensures ∙ c.if-is_variable.true) c.payload_of-i.ensures in
    omega (arith, term_here.0)

pub overflow_cast-result-then-is_variable : goal.overflow_cast-result-then-is_variable
overflow_cast-result-then-is_variable c =
    let term_here = placed_at 256 c.args.starts.now c.args.c c.payload_of-i.result c.requires (sym c.is_variable.ensures ∙ c.if-is_variable.true) c.payload_of-i.ensures in
    omega (arith, term_here.1, term_here.2)

pub overflow_sub-result : goal.overflow_sub-result
overflow_sub-result c =
    let term_here = placed_at 256 c.args.starts.now c.args.c c.payload_of-i.result c.requires (sym c.is_variable.ensures ∙ c.if-is_variable.true) c.payload_of-i.ensures in
    term_here.1

pub returns-then-is_variable : goal.returns-then-is_variable
returns-then-is_variable c = width-variable c.args.starts.now c.args.c c.payload_of-i.result (sym c.is_variable.ensures ∙ c.if-is_variable.true) c.payload_of-i.ensures

pub returns : goal.returns
returns c = width-other c.args.starts.now c.args.c (sym c.is_variable.ensures ∙ c.if-is_variable.false)
