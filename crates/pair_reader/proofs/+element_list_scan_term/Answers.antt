-- The proof of the cycle of calls {element, list, scan, term}. The measure is four times the cells left, and one to three more
-- for term, element and list.
use borrow.Author.Rules.{rules}
use Rattle.forms.specs.Places.{placed}
use Rattle.std.specs.Prelude.{None, Some}
use Prim.Native.Nat.{◌≤◌, ◌-◌, ◌*◌, ◌+◌}
use mathlib.Core.Path.{◌≡◌, refl, sym, ◌∙◌}
use native.Mathlib.Omega.{arith}
use lib.ListN.{length, length-set, get_or}
use Rattle.forms.proofs.ShapeLaws.{arity-small, symbol-small, constant-shape}
use Rattle.forms.specs.declared.Shape.TheVariants.{Symbol, Pair}
use Rattle.forms.specs.Cells.{shape_of, arity_of}
use Rattle.pair_reader.specs.Storing.{TermsRan}
use Rattle.pair_reader.proofs.StoringLaws.{stored-cell}
use Rattle.pair_reader.proofs.PairSteps.{terms-none, terms-end, terms-illegal, terms-symbol, terms-pair, terms-pair-short, list-short, list-nil, list-more, list-tail, term-room}
use Rattle.pair_reader.proofs.PairTurns.{turn-first, turn_small, turn_last, turn-symbol, turn-term}
use Prim.Native.Nat.{◌<◌}
use Rattle.pair_reader.proofs.+element_list_scan_term.Goals as goal

pub element-returns-then-s-at : goal.element-returns-then-s-at
element-returns-then-s-at t c = terms-end _ _ _ 1 (omega arith) c.if-s-at.true

pub element-returns-then-is_constant : goal.element-returns-then-is_constant
element-returns-then-is_constant t c = terms-symbol (arity_of c.args.edition) _ _ 1 (omega arith) (omega arith) c.args.vars.now _ c.args.out.now _ c.args.vars.now _ c.args.vars.now _ _ _ 0 0 (Some (placed (c.args.at + 1) (c.args.to + 1) c.args.count))
    (constant-shape (arity_of c.args.edition) _ (sym c.is_constant.ensures ∙ c.if-is_constant.true)).0 refl
    (stored-cell c.args.vars.now c.args.count c.args.out.now c.args.to _ (constant-shape (arity_of c.args.edition) _ (sym c.is_constant.ensures ∙ c.if-is_constant.true)).1 (omega arith))
    (terms-none (arity_of c.args.edition) _ _ 0 _ _ _ _ refl (omega arith))

pub element-term-requires : goal.element-term-requires
element-term-requires t c = omega arith

pub element-returns : goal.element-returns
element-returns t c = c.term.ensures

pub list-loop-after-init : goal.list-loop-after-init
list-loop-after-init t c = record {
  from_at = omega arith;
  at_in = omega arith;
  count-in = omega arith;
  room = omega arith;
  vars-kept = refl;
  out-kept = refl;
  goes_on = λ v o r w. w;
}

pub list-element-requires : goal.list-element-requires
list-element-requires t c = omega arith

pub list-returns-in_err-after : goal.list-returns-in_err-after
list-returns-in_err-after t c =
    let passed : c.from_residual.result ≡ None = search rules in rw passed (c.loop-after.invariant.goes_on c.loop-after.vars c.loop-after.out None (omega (arith, rw c.in_err-after.was at c.element.ensures)))

pub list-returns-then-s-after : goal.list-returns-then-s-after
list-returns-then-s-after t c =
    let list_got_here : TermsRan (arity_of c.args.edition) c.args.s.now c.loop-after.at 1 c.loop-after.vars c.loop-after.count c.loop-after.out c.loop-after.to c.element.new.vars c.element.new.out (Some (placed c.in_ok-after.after.at c.in_ok-after.after.to c.in_ok-after.after.count)) = rw c.in_ok-after.was at c.element.ensures in
    c.loop-after.invariant.goes_on c.loop-after.vars c.loop-after.out None (list-short _ _ _ _ _ _ _ _ _ _ _ _ (list_got_here) c.if-s-after.true)

pub list-insert-requires : goal.list-insert-requires
list-insert-requires t c =
    let list_got_here : TermsRan (arity_of c.args.edition) c.args.s.now c.loop-after.at 1 c.loop-after.vars c.loop-after.count c.loop-after.out c.loop-after.to c.element.new.vars c.element.new.out (Some (placed c.in_ok-after.after.at c.in_ok-after.after.to c.in_ok-after.after.count)) = rw c.in_ok-after.was at c.element.ensures in
    let list_left_here : (2 * c.in_ok-after.after.to + 3 * c.loop-after.at + 1 ≤ 3 * c.in_ok-after.after.at + 2 * c.loop-after.to) × (c.loop-after.at < c.in_ok-after.after.at) × (c.loop-after.to ≤ c.in_ok-after.after.to) × (c.in_ok-after.after.count ≤ c.in_ok-after.after.at) × (length c.element.new.vars ≡ length c.loop-after.vars) × (c.in_ok-after.after.at ≤ length c.args.s.now) = term-room _ _ _ _ _ _ _ _ _ _ _ _ (list_got_here) (omega arith) (omega arith) (omega arith) in
    omega (arith, list_left_here)

pub list-overflow_add-result-then-c-eq-NIL : goal.list-overflow_add-result-then-c-eq-NIL
list-overflow_add-result-then-c-eq-NIL t c =
    let list_got_here : TermsRan (arity_of c.args.edition) c.args.s.now c.loop-after.at 1 c.loop-after.vars c.loop-after.count c.loop-after.out c.loop-after.to c.element.new.vars c.element.new.out (Some (placed c.in_ok-after.after.at c.in_ok-after.after.to c.in_ok-after.after.count)) = rw c.in_ok-after.was at c.element.ensures in
    let list_left_here : (2 * c.in_ok-after.after.to + 3 * c.loop-after.at + 1 ≤ 3 * c.in_ok-after.after.at + 2 * c.loop-after.to) × (c.loop-after.at < c.in_ok-after.after.at) × (c.loop-after.to ≤ c.in_ok-after.after.to) × (c.in_ok-after.after.count ≤ c.in_ok-after.after.at) × (length c.element.new.vars ≡ length c.loop-after.vars) × (c.in_ok-after.after.at ≤ length c.args.s.now) = term-room _ _ _ _ _ _ _ _ _ _ _ _ (list_got_here) (omega arith) (omega arith) (omega arith) in
    omega (arith, list_left_here)

pub list-returns-then-c-eq-NIL : goal.list-returns-then-c-eq-NIL
list-returns-then-c-eq-NIL t c =
    let list_got_here : TermsRan (arity_of c.args.edition) c.args.s.now c.loop-after.at 1 c.loop-after.vars c.loop-after.count c.loop-after.out c.loop-after.to c.element.new.vars c.element.new.out (Some (placed c.in_ok-after.after.at c.in_ok-after.after.to c.in_ok-after.after.count)) = rw c.in_ok-after.was at c.element.ensures in
    let list_left_here : (2 * c.in_ok-after.after.to + 3 * c.loop-after.at + 1 ≤ 3 * c.in_ok-after.after.at + 2 * c.loop-after.to) × (c.loop-after.at < c.in_ok-after.after.at) × (c.loop-after.to ≤ c.in_ok-after.after.to) × (c.in_ok-after.after.count ≤ c.in_ok-after.after.at) × (length c.element.new.vars ≡ length c.loop-after.vars) × (c.in_ok-after.after.at ≤ length c.args.s.now) = term-room _ _ _ _ _ _ _ _ _ _ _ _ (list_got_here) (omega arith) (omega arith) (omega arith) in
    c.loop-after.invariant.goes_on c.element.new.vars c.insert.new.out (Some (placed (c.in_ok-after.after.at + 1) (c.in_ok-after.after.to + 1) c.in_ok-after.after.count))
    (list-nil _ _ _ _ _ _ _ _ _ _ _ _ (list_got_here) c.insert.new.out c.if-s-after.false c.if-c-eq-NIL.true (omega (arith, list_left_here)) c.insert.ensures)

pub list-offset_bounds-out-after : goal.list-offset_bounds-out-after
list-offset_bounds-out-after t c =
    let list_got_here : TermsRan (arity_of c.args.edition) c.args.s.now c.loop-after.at 1 c.loop-after.vars c.loop-after.count c.loop-after.out c.loop-after.to c.element.new.vars c.element.new.out (Some (placed c.in_ok-after.after.at c.in_ok-after.after.to c.in_ok-after.after.count)) = rw c.in_ok-after.was at c.element.ensures in
    let list_left_here : (2 * c.in_ok-after.after.to + 3 * c.loop-after.at + 1 ≤ 3 * c.in_ok-after.after.at + 2 * c.loop-after.to) × (c.loop-after.at < c.in_ok-after.after.at) × (c.loop-after.to ≤ c.in_ok-after.after.to) × (c.in_ok-after.after.count ≤ c.in_ok-after.after.at) × (length c.element.new.vars ≡ length c.loop-after.vars) × (c.in_ok-after.after.at ≤ length c.args.s.now) = term-room _ _ _ _ _ _ _ _ _ _ _ _ (list_got_here) (omega arith) (omega arith) (omega arith) in
    omega (arith, list_left_here)

pub list-bounds-out-after : goal.list-bounds-out-after
list-bounds-out-after t c =
    let list_got_here : TermsRan (arity_of c.args.edition) c.args.s.now c.loop-after.at 1 c.loop-after.vars c.loop-after.count c.loop-after.out c.loop-after.to c.element.new.vars c.element.new.out (Some (placed c.in_ok-after.after.at c.in_ok-after.after.to c.in_ok-after.after.count)) = rw c.in_ok-after.was at c.element.ensures in
    let list_left_here : (2 * c.in_ok-after.after.to + 3 * c.loop-after.at + 1 ≤ 3 * c.in_ok-after.after.at + 2 * c.loop-after.to) × (c.loop-after.at < c.in_ok-after.after.at) × (c.loop-after.to ≤ c.in_ok-after.after.to) × (c.in_ok-after.after.count ≤ c.in_ok-after.after.at) × (length c.element.new.vars ≡ length c.loop-after.vars) × (c.in_ok-after.after.at ≤ length c.args.s.now) = term-room _ _ _ _ _ _ _ _ _ _ _ _ (list_got_here) (omega arith) (omega arith) (omega arith) in
    omega (arith, list_left_here)

pub list-overflow_add-after : goal.list-overflow_add-after
list-overflow_add-after t c =
    let list_got_here : TermsRan (arity_of c.args.edition) c.args.s.now c.loop-after.at 1 c.loop-after.vars c.loop-after.count c.loop-after.out c.loop-after.to c.element.new.vars c.element.new.out (Some (placed c.in_ok-after.after.at c.in_ok-after.after.to c.in_ok-after.after.count)) = rw c.in_ok-after.was at c.element.ensures in
    let list_left_here : (2 * c.in_ok-after.after.to + 3 * c.loop-after.at + 1 ≤ 3 * c.in_ok-after.after.at + 2 * c.loop-after.to) × (c.loop-after.at < c.in_ok-after.after.at) × (c.loop-after.to ≤ c.in_ok-after.after.to) × (c.in_ok-after.after.count ≤ c.in_ok-after.after.at) × (length c.element.new.vars ≡ length c.loop-after.vars) × (c.in_ok-after.after.at ≤ length c.args.s.now) = term-room _ _ _ _ _ _ _ _ _ _ _ _ (list_got_here) (omega arith) (omega arith) (omega arith) in
    omega (arith, list_left_here)

pub list-term-requires : goal.list-term-requires
list-term-requires t c =
    let list_got_here : TermsRan (arity_of c.args.edition) c.args.s.now c.loop-after.at 1 c.loop-after.vars c.loop-after.count c.loop-after.out c.loop-after.to c.element.new.vars c.element.new.out (Some (placed c.in_ok-after.after.at c.in_ok-after.after.to c.in_ok-after.after.count)) = rw c.in_ok-after.was at c.element.ensures in
    let list_left_here : (2 * c.in_ok-after.after.to + 3 * c.loop-after.at + 1 ≤ 3 * c.in_ok-after.after.at + 2 * c.loop-after.to) × (c.loop-after.at < c.in_ok-after.after.at) × (c.loop-after.to ≤ c.in_ok-after.after.to) × (c.in_ok-after.after.count ≤ c.in_ok-after.after.at) × (length c.element.new.vars ≡ length c.loop-after.vars) × (c.in_ok-after.after.at ≤ length c.args.s.now) = term-room _ _ _ _ _ _ _ _ _ _ _ _ (list_got_here) (omega arith) (omega arith) (omega arith) in
    simp length-set (omega (arith, list_left_here))

pub list-shape_of-out-then-c-ne-PAIR : goal.list-shape_of-out-then-c-ne-PAIR
list-shape_of-out-then-c-ne-PAIR t c = c.term.auto.out ∙ simp length-set (c.element.auto.out ∙ c.loop-after.invariant.out-kept)

pub list-returns-then-c-ne-PAIR : goal.list-returns-then-c-ne-PAIR
list-returns-then-c-ne-PAIR t c =
    let list_got_here : TermsRan (arity_of c.args.edition) c.args.s.now c.loop-after.at 1 c.loop-after.vars c.loop-after.count c.loop-after.out c.loop-after.to c.element.new.vars c.element.new.out (Some (placed c.in_ok-after.after.at c.in_ok-after.after.to c.in_ok-after.after.count)) = rw c.in_ok-after.was at c.element.ensures in
    let list_left_here : (2 * c.in_ok-after.after.to + 3 * c.loop-after.at + 1 ≤ 3 * c.in_ok-after.after.at + 2 * c.loop-after.to) × (c.loop-after.at < c.in_ok-after.after.at) × (c.loop-after.to ≤ c.in_ok-after.after.to) × (c.in_ok-after.after.count ≤ c.in_ok-after.after.at) × (length c.element.new.vars ≡ length c.loop-after.vars) × (c.in_ok-after.after.at ≤ length c.args.s.now) = term-room _ _ _ _ _ _ _ _ _ _ _ _ (list_got_here) (omega arith) (omega arith) (omega arith) in
    c.loop-after.invariant.goes_on c.term.new.vars c.term.new.out c.term.result
    (list-tail _ _ _ _ _ _ _ _ _ _ _ _ (list_got_here) c.term.new.vars c.term.new.out c.term.result c.if-s-after.false c.if-c-eq-NIL.false c.if-c-ne-PAIR.true (omega (arith, list_left_here)) c.term.ensures)

pub list-loop-after-smaller : goal.list-loop-after-smaller
list-loop-after-smaller t c =
    let list_got_here : TermsRan (arity_of c.args.edition) c.args.s.now c.loop-after.at 1 c.loop-after.vars c.loop-after.count c.loop-after.out c.loop-after.to c.element.new.vars c.element.new.out (Some (placed c.in_ok-after.after.at c.in_ok-after.after.to c.in_ok-after.after.count)) = rw c.in_ok-after.was at c.element.ensures in
    let list_left_here : (2 * c.in_ok-after.after.to + 3 * c.loop-after.at + 1 ≤ 3 * c.in_ok-after.after.at + 2 * c.loop-after.to) × (c.loop-after.at < c.in_ok-after.after.at) × (c.loop-after.to ≤ c.in_ok-after.after.to) × (c.in_ok-after.after.count ≤ c.in_ok-after.after.at) × (length c.element.new.vars ≡ length c.loop-after.vars) × (c.in_ok-after.after.at ≤ length c.args.s.now) = term-room _ _ _ _ _ _ _ _ _ _ _ _ (list_got_here) (omega arith) (omega arith) (omega arith) in
    omega (arith, list_left_here)

pub list-loop-after-preserved : goal.list-loop-after-preserved
list-loop-after-preserved t c =
    let list_got_here : TermsRan (arity_of c.args.edition) c.args.s.now c.loop-after.at 1 c.loop-after.vars c.loop-after.count c.loop-after.out c.loop-after.to c.element.new.vars c.element.new.out (Some (placed c.in_ok-after.after.at c.in_ok-after.after.to c.in_ok-after.after.count)) = rw c.in_ok-after.was at c.element.ensures in
    let list_left_here : (2 * c.in_ok-after.after.to + 3 * c.loop-after.at + 1 ≤ 3 * c.in_ok-after.after.at + 2 * c.loop-after.to) × (c.loop-after.at < c.in_ok-after.after.at) × (c.loop-after.to ≤ c.in_ok-after.after.to) × (c.in_ok-after.after.count ≤ c.in_ok-after.after.at) × (length c.element.new.vars ≡ length c.loop-after.vars) × (c.in_ok-after.after.at ≤ length c.args.s.now) = term-room _ _ _ _ _ _ _ _ _ _ _ _ (list_got_here) (omega arith) (omega arith) (omega arith) in
    let f = list_left_here in
    record {
      from_at = omega (arith, f);
      at_in = omega arith;
      count-in = omega (arith, f);
      room = omega (arith, f);
      vars-kept = f.4 ∙ c.loop-after.invariant.vars-kept;
      out-kept = c.element.auto.out ∙ c.loop-after.invariant.out-kept;
      goes_on = λ v o r w. c.loop-after.invariant.goes_on v o r (list-more _ _ _ _ _ _ _ _ _ _ _ _ (list_got_here) v o r c.if-s-after.false c.if-c-ne-PAIR.false w);
    }

pub term-scan-requires : goal.term-scan-requires
term-scan-requires t c = omega arith

pub term-returns : goal.term-returns
term-returns t c = c.scan.ensures

pub scan-loop-due-init : goal.scan-loop-due-init
scan-loop-due-init t c = turn-first _ c.args.s.now c.args.from.at _ _ c.args.from.count _ c.args.from.to (omega arith) (omega arith) (omega arith)

pub scan-returns-then-s-at : goal.scan-returns-then-s-at
scan-returns-then-s-at t c = c.loop-due.invariant.goes_on c.loop-due.vars c.loop-due.out None (terms-end _ _ _ _ (omega arith) c.if-s-at.true)

pub scan-due_after-due-requires : goal.scan-due_after-due-requires
scan-due_after-due-requires t c =
    let scan_shape_here : shape_of (arity_of c.args.edition) (get_or c.args.s.now c.loop-due.at 0) ≡ Symbol c.in-Symbol.k = sym c.shape_of.ensures ∙ c.in-Symbol.is in
    omega (arith, symbol-small _ (arity-small _) _ _ (scan_shape_here), turn_small _ _ _ _ _ _ _ _ _ _ _ _ _ _ c.loop-due.invariant (arity-small _))

pub scan-loop-due-smaller-in-Symbol : goal.scan-loop-due-smaller-in-Symbol
scan-loop-due-smaller-in-Symbol t c = omega arith

pub scan-loop-due-preserved-in-Symbol : goal.scan-loop-due-preserved-in-Symbol
scan-loop-due-preserved-in-Symbol t c =
    let scan_shape_here : shape_of (arity_of c.args.edition) (get_or c.args.s.now c.loop-due.at 0) ≡ Symbol c.in-Symbol.k = sym c.shape_of.ensures ∙ c.in-Symbol.is in
    turn-symbol _ _ _ _ _ _ _ _ _ _ _ _ _ _ c.loop-due.invariant (omega arith) (omega arith) c.store-count.new.vars c.store-count.new.out c.due_after-due.result c.store-count.result c.store-count.auto.out c.in-Symbol.k c.if-s-at.false (scan_shape_here) c.due_after-due.ensures c.store-count.ensures

pub scan-list-requires : goal.scan-list-requires
scan-list-requires t c = simp length-set (omega arith)

pub scan-returns-in_err-after-in-Pair : goal.scan-returns-in_err-after-in-Pair
scan-returns-in_err-after-in-Pair t c =
    let passed : c.from_residual.result ≡ None = search rules in rw passed (
    let scan_shape_pair_here : shape_of (arity_of c.args.edition) (get_or c.args.s.now c.loop-due.at 0) ≡ Pair = sym c.shape_of.ensures ∙ c.in-Pair.is in
    c.loop-due.invariant.goes_on c.loop-due.vars c.loop-due.out None
    (terms-pair-short (arity_of c.args.edition) c.args.s.now c.loop-due.at c.loop-due.due (omega arith) c.if-s-at.false (scan_shape_pair_here) (rw c.in_err-after-in-Pair.was at c.list.ensures)))

pub scan-due_after-due-requires-in-Pair : goal.scan-due_after-due-requires-in-Pair
scan-due_after-due-requires-in-Pair t c = omega (arith, turn_small _ _ _ _ _ _ _ _ _ _ _ _ _ _ c.loop-due.invariant (arity-small _))

pub scan-loop-due-smaller : goal.scan-loop-due-smaller
scan-loop-due-smaller t c =
    let scan_shape_pair_here : shape_of (arity_of c.args.edition) (get_or c.args.s.now c.loop-due.at 0) ≡ Pair = sym c.shape_of.ensures ∙ c.in-Pair.is in
    let scan_got_here : TermsRan (arity_of c.args.edition) c.args.s.now c.loop-due.at 1 c.loop-due.vars c.loop-due.count c.loop-due.out c.loop-due.to c.list.new.vars c.list.new.out (Some (placed c.in_ok-after-in-Pair.after.at c.in_ok-after-in-Pair.after.to c.in_ok-after-in-Pair.after.count)) = terms-pair _ _ c.loop-due.at c.loop-due.vars c.loop-due.count c.loop-due.out c.loop-due.to c.list.new.vars c.in_ok-after-in-Pair.after.count c.list.new.out c.in_ok-after-in-Pair.after.at c.in_ok-after-in-Pair.after.to c.if-s-at.false (scan_shape_pair_here) (omega arith) (rw c.in_ok-after-in-Pair.was at c.list.ensures) in
    omega (arith, term-room _ _ _ _ _ _ _ _ _ _ _ _ (scan_got_here) (omega arith) (omega arith) (omega arith))

pub scan-overflow_sub-due : goal.scan-overflow_sub-due
scan-overflow_sub-due t c = omega arith

pub scan-loop-due-preserved : goal.scan-loop-due-preserved
scan-loop-due-preserved t c =
    let scan_shape_pair_here : shape_of (arity_of c.args.edition) (get_or c.args.s.now c.loop-due.at 0) ≡ Pair = sym c.shape_of.ensures ∙ c.in-Pair.is in
    let scan_got_here : TermsRan (arity_of c.args.edition) c.args.s.now c.loop-due.at 1 c.loop-due.vars c.loop-due.count c.loop-due.out c.loop-due.to c.list.new.vars c.list.new.out (Some (placed c.in_ok-after-in-Pair.after.at c.in_ok-after-in-Pair.after.to c.in_ok-after-in-Pair.after.count)) = terms-pair _ _ c.loop-due.at c.loop-due.vars c.loop-due.count c.loop-due.out c.loop-due.to c.list.new.vars c.in_ok-after-in-Pair.after.count c.list.new.out c.in_ok-after-in-Pair.after.at c.in_ok-after-in-Pair.after.to c.if-s-at.false (scan_shape_pair_here) (omega arith) (rw c.in_ok-after-in-Pair.was at c.list.ensures) in
    turn-term _ _ _ _ _ _ _ _ _ _ _ _ _ _ c.loop-due.invariant (omega arith) (omega arith) c.list.new.vars c.list.new.out (c.due_after-due-in-Pair.result - 2) c.in_ok-after-in-Pair.after.count (c.list.auto.out ∙ simp length-set) c.in_ok-after-in-Pair.after.at c.in_ok-after-in-Pair.after.to (omega arith) (scan_got_here)

pub scan-returns-in-Illegal : goal.scan-returns-in-Illegal
scan-returns-in-Illegal t c = c.loop-due.invariant.goes_on c.loop-due.vars c.loop-due.out None
    (terms-illegal (arity_of c.args.edition) c.args.s.now c.loop-due.at c.loop-due.due (omega arith) c.if-s-at.false (sym c.shape_of.ensures ∙ c.in-Illegal.is))

pub scan-returns : goal.scan-returns
scan-returns t c = turn_last _ _ _ _ _ _ _ _ _ _ _ _ _ _ c.loop-due.invariant (omega arith) (omega arith)
