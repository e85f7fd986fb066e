-- `note_starts` meets its contract: the scan keeps the sum, and notes a start where it falls.
use Prim.Native.Nat.{ℕ, ◌+◌, ◌*◌, ◌≤◌, ◌<◌}
use mathlib.Core.List.{List}
use mathlib.Core.Path.{◌≡◌, refl, sym, ◌∙◌}
use native.Mathlib.Omega.{arith}
use lib.ListN.{length, length-set}
use Rattle.forms.specs.Cells.{arity_of}
use Rattle.forms.proofs.ShapeLaws.{arity-small}
use Rattle.forms.proofs.DueLaws.{cells_of}
use Rattle.pair_reader.specs.Storing.{terms_at}
use Rattle.instances.proofs.InstanceLaws.{Scans, no_start, start-noted, terms-few, scan_begins, scan-inside, scan-due, scan-small, scan-on, scan-start, scan-next}
use Rattle.instances.proofs.InstanceTerms.{cells-grow}
use Rattle.instances.proofs.note_starts.Goals as goal

-- where a turn stands: before the end of the terms, with few enough due
turn : (edition m end at due i : ℕ) (s : List ℕ) → (enough : m ≤ length (terms_at (arity_of edition) s 0))
    → end ≡ cells_of m (terms_at (arity_of edition) s 0) → end ≤ 256 → Scans (arity_of edition) s m at due i → i < m
    → (at < length s) × (at < 256) × (0 < due) × (due ≤ 256 + 254 * 256) × (m ≤ 256)
turn edition m end at due i s enough e l scans h =
    let arity : ℕ → ℕ = arity_of edition in
    let few : m ≤ cells_of m (terms_at arity s 0) = terms-few arity s m enough in
    let inside : at < length s = scan-inside arity s m enough at due i scans h in
    let w : at < cells_of (i + 1) (terms_at arity s 0) = scans.within h in
    let low : at < 256 = omega (arith, w, cells-grow (terms_at arity s 0) (i + 1) m (omega arith), e, l) in
    let most : due ≤ m + 254 * at = scan-small arity s m enough at due i scans h (arity-small edition) in
    (inside, low, scan-due arity s m enough at due i scans h, omega (arith, few, e, l), omega (arith, few, e, l))

pub loop-i-init : goal.loop-i-init
loop-i-init c =
    let a = c.args in
    let s = a.s.now in
    let none = sym (no_start (arity_of a.edition) s) in
    (omega arith, scan_begins (arity_of a.edition) s a.m c.requires.0, start-noted (arity_of a.edition) s a.starts.now 0 0 (omega arith) none (λ k h. absurd (omega (arith, h))), simp length-set (omega arith), refl)

pub offset_bounds-s-at : goal.offset_bounds-s-at
offset_bounds-s-at c =
    let turn_here = turn c.args.edition c.args.m c.args.end c.loop-i.at c.loop-i.due c.loop-i.i c.args.s.now c.requires.0 c.requires.2 c.requires.3 c.loop-i.invariant.1 (omega arith) in
    omega (arith, turn_here)

pub bounds-s-at : goal.bounds-s-at
bounds-s-at c =
    let turn_here = turn c.args.edition c.args.m c.args.end c.loop-i.at c.loop-i.due c.loop-i.i c.args.s.now c.requires.0 c.requires.2 c.requires.3 c.loop-i.invariant.1 (omega arith) in
    omega (arith, turn_here)

pub due_after-due-requires : goal.due_after-due-requires
due_after-due-requires c =
    let turn_here = turn c.args.edition c.args.m c.args.end c.loop-i.at c.loop-i.due c.loop-i.i c.args.s.now c.requires.0 c.requires.2 c.requires.3 c.loop-i.invariant.1 (omega arith) in
    omega (arith, turn_here, c.arguments_of.ensures)

pub overflow_add-at : goal.overflow_add-at
overflow_add-at c =
    let turn_here = turn c.args.edition c.args.m c.args.end c.loop-i.at c.loop-i.due c.loop-i.i c.args.s.now c.requires.0 c.requires.2 c.requires.3 c.loop-i.invariant.1 (omega arith) in
    omega (arith, turn_here)

pub overflow_add-due : goal.overflow_add-due
overflow_add-due c =
    let turn_here = turn c.args.edition c.args.m c.args.end c.loop-i.at c.loop-i.due c.loop-i.i c.args.s.now c.requires.0 c.requires.2 c.requires.3 c.loop-i.invariant.1 (omega arith) in
    omega (arith, turn_here, c.arguments_of.ensures, c.due_after-due.ensures)

pub loop-i-smaller : goal.loop-i-smaller
loop-i-smaller c =
    let turn_here = turn c.args.edition c.args.m c.args.end c.loop-i.at c.loop-i.due c.loop-i.i c.args.s.now c.requires.0 c.requires.2 c.requires.3 c.loop-i.invariant.1 (omega arith) in
    omega (arith, turn_here)

pub loop-i-preserved : goal.loop-i-preserved
loop-i-preserved c =
    let a = c.args in
    let l = c.loop-i in
    let v = l.invariant in
    let p = c.requires in
    (omega arith, scan-on (arity_of a.edition) a.s.now a.m p.0 l.at l.due l.i v.1 (omega arith) c.arguments_of.result c.due_after-due.result c.arguments_of.ensures.0 c.due_after-due.ensures c.if-due-i.false, v.2, v.3, v.4)

pub overflow_cast-starts : goal.overflow_cast-starts
overflow_cast-starts c =
    let turn_here = turn c.args.edition c.args.m c.args.end c.loop-i.at c.loop-i.due c.loop-i.i c.args.s.now c.requires.0 c.requires.2 c.requires.3 c.loop-i.invariant.1 (omega arith) in
    omega (arith, turn_here)

pub loop-i-smaller-then-due-i : goal.loop-i-smaller-then-due-i
loop-i-smaller-then-due-i c =
    let turn_here = turn c.args.edition c.args.m c.args.end c.loop-i.at c.loop-i.due c.loop-i.i c.args.s.now c.requires.0 c.requires.2 c.requires.3 c.loop-i.invariant.1 (omega arith) in
    omega (arith, turn_here)

pub loop-i-preserved-then-due-i : goal.loop-i-preserved-then-due-i
loop-i-preserved-then-due-i c =
    let a = c.args in
    let l = c.loop-i in
    let v = l.invariant in
    let p = c.requires in
    (omega arith, scan-next (arity_of a.edition) a.s.now a.m p.0 l.at l.due l.i v.1 (omega arith) c.arguments_of.result c.due_after-due.result c.arguments_of.ensures.0 c.due_after-due.ensures c.if-due-i.true, start-noted (arity_of a.edition) a.s.now l.starts (l.i + 1) (l.at + 1) (omega arith) (scan-start (arity_of a.edition) a.s.now a.m p.0 l.at l.due l.i v.1 (omega arith) c.arguments_of.result c.due_after-due.result c.arguments_of.ensures.0 c.due_after-due.ensures c.if-due-i.true) v.2, simp length-set (omega arith), simp length-set (v.4 ∙ length-set a.starts.now 0 0))

pub overflow_cast-starts-2 : goal.overflow_cast-starts-2
overflow_cast-starts-2 c = omega (arith, c.requires.3)

pub shape_of-starts : goal.shape_of-starts
shape_of-starts c = simp length-set (c.loop-i.invariant.4 ∙ length-set c.args.starts.now 0 0)

pub returns : goal.returns
returns c =
    let v = c.loop-i.invariant in
    let a = c.args in
    (λ k h. start-noted _ a.s.now c.loop-i.starts a.m a.end (omega arith) c.requires.2 (λ j l. v.2 j (omega (arith, l))) k (omega (arith, h)), simp length-set (v.4 ∙ length-set a.starts.now 0 0))
