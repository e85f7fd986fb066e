-- `replace` meets its contract: a variable by its term, any other cell by itself.
use Prim.Native.Nat.{◌+◌}
use mathlib.Core.List.{[], ◌∷◌}
use mathlib.Core.Path.{refl, sym, ap, ◌∙◌}
use native.Mathlib.Omega.{arith}
use lib.ListN.{length}
use Rattle.instances.proofs.InstanceLaws.{placed_at, stands-variable, stands-other, stands-length, stands-written}
use Rattle.instances.proofs.replace.Goals as goal

pub bounds-starts-i : goal.bounds-starts-i
bounds-starts-i c =
    let chosen_here = sym c.is_variable.ensures ∙ c.if-is_variable.true in
    let term_here = placed_at (length c.args.terms.now) c.args.starts.now c.args.c c.payload_of-i.result c.requires.0 chosen_here c.payload_of-i.ensures in
    omega (arith, term_here.0)

pub overflow_cast-starts : goal.overflow_cast-starts
overflow_cast-starts c = omega (arith, c.type_inv.starts c.payload_of-i.result)

pub bounds-starts-i-then-is_variable : goal.bounds-starts-i-then-is_variable
bounds-starts-i-then-is_variable c =
    let chosen_here = sym c.is_variable.ensures ∙ c.if-is_variable.true in
    let term_here = placed_at (length c.args.terms.now) c.args.starts.now c.args.c c.payload_of-i.result c.requires.0 chosen_here c.payload_of-i.ensures in
    term_here.0

pub overflow_cast-starts-then-is_variable : goal.overflow_cast-starts-then-is_variable
overflow_cast-starts-then-is_variable c = omega (arith, c.type_inv.starts (c.payload_of-i.result + 1))

pub copy_part-requires : goal.copy_part-requires
copy_part-requires c =
    let chosen_here = sym c.is_variable.ensures ∙ c.if-is_variable.true in
    let term_here = placed_at (length c.args.terms.now) c.args.starts.now c.args.c c.payload_of-i.result c.requires.0 chosen_here c.payload_of-i.ensures in
    let cells_are = stands-variable c.args.terms.now c.args.starts.now c.args.c c.payload_of-i.result chosen_here c.payload_of-i.ensures in
    let length_is = stands-length c.args.terms.now c.args.starts.now c.args.c c.payload_of-i.result chosen_here c.payload_of-i.ensures term_here.2 in
    let t = term_here in
    (t.1, t.2, omega (arith, c.requires.1, length_is))

pub returns-then-is_variable : goal.returns-then-is_variable
returns-then-is_variable c =
    let chosen_here = sym c.is_variable.ensures ∙ c.if-is_variable.true in
    let term_here = placed_at (length c.args.terms.now) c.args.starts.now c.args.c c.payload_of-i.result c.requires.0 chosen_here c.payload_of-i.ensures in
    let cells_are = stands-variable c.args.terms.now c.args.starts.now c.args.c c.payload_of-i.result chosen_here c.payload_of-i.ensures in
    let length_is = stands-length c.args.terms.now c.args.starts.now c.args.c c.payload_of-i.result chosen_here c.payload_of-i.ensures term_here.2 in
    let e = c.copy_part.ensures in
    stands-written c.args.terms.now c.args.starts.now c.args.c _ c.args.out.now c.copy_part.new.out c.args.to c.copy_part.result _ cells_are length_is e.0 e.1

pub bounds-out-to : goal.bounds-out-to
bounds-out-to c =
    let other_here = stands-other c.args.terms.now c.args.starts.now c.args.c (sym c.is_variable.ensures ∙ c.if-is_variable.false) in
    omega (arith, c.requires.1, ap length other_here)

pub returns : goal.returns
returns c =
    let other_here = stands-other c.args.terms.now c.args.starts.now c.args.c (sym c.is_variable.ensures ∙ c.if-is_variable.false) in
    stands-written c.args.terms.now c.args.starts.now c.args.c (c.args.c ∷ []) c.args.out.now _ c.args.to _ 1 other_here (ap length other_here) refl refl
