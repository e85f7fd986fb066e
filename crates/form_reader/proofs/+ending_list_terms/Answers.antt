-- The proof of the cycle of calls {ending, list, terms}. The measure is three times the cells left, and one or two more for all but terms.
use borrow.Author.Rules.{rules}
use Rattle.forms.specs.Places.{placed}
use Rattle.std.specs.Prelude.{None, Some}
use Prim.Native.Nat.{◌≤◌, ◌-◌, ◌+◌}
use mathlib.Core.Bool.{true, false}
use mathlib.Core.Path.{◌≡◌, refl, sym, ◌∙◌, subst}
use native.Mathlib.Omega.{arith}
use lib.ListN.{length, length-set, set, get_or}
use Rattle.form_reader.proofs.FormSteps.{met-after-most}
use Rattle.forms.specs.declared.Shape.TheVariants.{Symbol}
use Rattle.forms.specs.Cells.{variable, constant, shape_of, arity_of, PAIR, nil}
use Rattle.forms.specs.Due.{due_after}
use Rattle.forms.proofs.ShapeLaws.{arity-small, symbol-small, variable-shape}
use Rattle.form_reader.specs.Loading.{FormsRan, RestRan}
use Rattle.form_reader.proofs.FormSteps.{ordered-variable, ordered-cell, forms-none, forms-end, forms-full, forms-illegal, forms-unordered, forms-symbol, forms-begin-short, forms-begin, rest_end, rest-last-short, rest-tail-first, rest-tail-end, rest-tail-nil, rest-tail-list, rest-full, constant-no-tail, rest-element-short, rest-last, rest-tail, rest-element, forms-room, rest-room, forms-constant}
use mathlib.Core.List.{[], ◌∷◌}
use mathlib.Core.Logic.{⊎_elim}
use denote.Enum.Declared.{tag_of}
use types.Run.{OneOf}
use Rattle.forms.specs.contracts.Shape.{the_type}
use Prim.Native.Nat.{ℕ, ◌<◌}
use Rattle.form_reader.proofs.+ending_list_terms.Goals as goal
use Rattle.form_reader.proofs.+ending_list_terms.Goals.{ending-then-c-eq-NIL-via-then-c-eq-NIL, ending-then-c-eq-NIL-via-else-c-eq-NIL+then-c-eq-BLIST}

-- a symbol is no other shape
no_symbol : (k : ℕ) → OneOf (1 ∷ 2 ∷ []) (tag_of the_type (Symbol k)) → ⊥
no_symbol k o = ⊎_elim (λ (e : ◌≡◌ {A = ℕ} 0 1). omega arith) (λ (e : ◌≡◌ {A = ℕ} 0 2). omega arith) o

pub ending-returns-then-s-at : goal.ending-returns-then-s-at
ending-returns-then-s-at t c = rest-tail-end (arity_of c.args.edition) c.args.s.now c.args.limit c.args.from.at c.args.from.count c.args.out.now c.args.from.to (omega arith) c.args.out.now c.requires.1.1 c.if-s-at.true

pub ending-returns-then-c-eq-NIL : goal.ending-returns-then-c-eq-NIL
ending-returns-then-c-eq-NIL t c = elim c.then-c-eq-NIL.branch [
  | ending-then-c-eq-NIL-via-then-c-eq-NIL w ↦ rest-tail-nil (arity_of c.args.edition) c.args.s.now c.args.limit c.args.from.at c.args.from.count c.args.out.now c.args.from.to (omega arith) c.args.out.now c.requires.1.1 c.if-s-at.false w.if-c-eq-NIL.true
  | ending-then-c-eq-NIL-via-else-c-eq-NIL+then-c-eq-BLIST w ↦ rest-tail-list (arity_of c.args.edition) c.args.s.now c.args.limit c.args.from.at c.args.from.count c.args.out.now c.args.from.to (omega arith) c.args.out.now c.requires.1.1 c.if-s-at.false w.if-c-eq-BLIST.true
]

pub ending-terms-requires : goal.ending-terms-requires
ending-terms-requires t c = omega arith

pub ending-returns : goal.ending-returns
ending-returns t c = rest-tail (arity_of c.args.edition) c.args.s.now c.args.limit c.args.from.at c.args.from.count c.args.out.now c.args.from.to (omega arith) c.terms.new.out c.terms.result c.requires.1.1 c.if-s-at.false c.if-c-eq-NIL.false c.if-c-eq-BLIST.false c.terms.ensures

pub list-loop-at-init : goal.list-loop-at-init
list-loop-at-init t c = record {
  from_at = omega arith;
  at_in = omega arith;
  count-in = omega arith;
  room = omega arith;
  out-kept = refl;
  goes_on = λ o r w. w;
}

pub list-returns-then-s-at : goal.list-returns-then-s-at
list-returns-then-s-at t c = c.loop-at.invariant.goes_on c.loop-at.out None (rest_end (arity_of c.args.edition) c.args.s.now c.args.limit c.loop-at.at c.loop-at.some c.loop-at.count c.loop-at.out c.loop-at.to c.loop-at.out c.if-s-at.true)

pub list-returns-then-limit-to : goal.list-returns-then-limit-to
list-returns-then-limit-to t c = c.loop-at.invariant.goes_on c.loop-at.out None (rest-full (arity_of c.args.edition) c.args.s.now c.args.limit c.loop-at.at c.loop-at.count c.loop-at.out c.loop-at.to c.if-s-at.false c.loop-at.some c.loop-at.out (constant-no-tail (get_or c.args.s.now c.loop-at.at 0) (sym c.is_constant.ensures ∙ c.if-is_constant.true)) c.if-limit-to.true)

pub list-bounds-out-to-then-is_constant : goal.list-bounds-out-to-then-is_constant
list-bounds-out-to-then-is_constant t c = simp length-set (omega arith)

pub list-loop-at-smaller-then-is_constant : goal.list-loop-at-smaller-then-is_constant
list-loop-at-smaller-then-is_constant t c = omega arith

pub list-loop-at-preserved-then-is_constant : goal.list-loop-at-preserved-then-is_constant
list-loop-at-preserved-then-is_constant t c = let k : constant (get_or c.args.s.now c.loop-at.at 0) ≡ true = sym c.is_constant.ensures ∙ c.if-is_constant.true in
    record {
      from_at = omega arith;
      at_in = omega arith;
      count-in = omega arith;
      room = omega arith;
      out-kept = simp length-set c.loop-at.invariant.out-kept;
      goes_on = λ o r w.
          c.loop-at.invariant.goes_on o r
          (rest-element (arity_of c.args.edition) c.args.s.now c.args.limit c.loop-at.at c.loop-at.count c.loop-at.out c.loop-at.to c.if-s-at.false c.loop-at.some (set (set c.loop-at.out c.loop-at.to PAIR) (c.loop-at.to + 1) (get_or c.args.s.now c.loop-at.at 0)) (c.loop-at.at + 1) (c.loop-at.to + 2) c.loop-at.count o r
          (forms-constant (arity_of c.args.edition) c.args.s.now (c.args.limit - 1) c.loop-at.at c.loop-at.count (set c.loop-at.out c.loop-at.to PAIR) (c.loop-at.to + 1) (c.loop-at.to + 2) c.if-s-at.false k (omega arith) (omega arith)) w);
    }

pub list-ending-requires : goal.list-ending-requires
list-ending-requires t c = (omega arith, ((omega arith, omega arith, omega arith, omega arith, omega arith), (omega arith, c.if-c.true)))

pub list-returns-then-not-some : goal.list-returns-then-not-some
list-returns-then-not-some t c = c.loop-at.invariant.goes_on c.loop-at.out None (subst (λ b. RestRan (arity_of c.args.edition) c.args.s.now c.args.limit c.loop-at.at b c.loop-at.count c.loop-at.out c.loop-at.to c.loop-at.out None) (sym c.if-not-some.true) (rest-tail-first (arity_of c.args.edition) c.args.s.now c.args.limit c.loop-at.at c.loop-at.count c.loop-at.out c.loop-at.to c.if-s-at.false c.loop-at.out c.if-c.true))

pub list-returns-then-c : goal.list-returns-then-c
list-returns-then-c t c = c.loop-at.invariant.goes_on c.ending.new.out c.ending.result (subst (λ b. RestRan (arity_of c.args.edition) c.args.s.now c.args.limit c.loop-at.at b c.loop-at.count c.loop-at.out c.loop-at.to c.ending.new.out c.ending.result) (sym c.if-not-some.false) c.ending.ensures)

pub list-returns-then-limit-to-2 : goal.list-returns-then-limit-to-2
list-returns-then-limit-to-2 t c = c.loop-at.invariant.goes_on c.loop-at.out None (rest-full (arity_of c.args.edition) c.args.s.now c.args.limit c.loop-at.at c.loop-at.count c.loop-at.out c.loop-at.to c.if-s-at.false c.loop-at.some c.loop-at.out c.if-c.false c.if-limit-to-2.true)

pub list-terms-requires : goal.list-terms-requires
list-terms-requires t c = simp length-set (omega arith)

pub list-returns-in_err-after : goal.list-returns-in_err-after
list-returns-in_err-after t c =
    let passed : c.from_residual.result ≡ None = search rules in
    rw passed (c.loop-at.invariant.goes_on c.loop-at.out None (rest-last-short (arity_of c.args.edition) c.args.s.now c.args.limit c.loop-at.at c.loop-at.count c.loop-at.out c.loop-at.to c.if-s-at.false c.loop-at.some c.terms.new.out c.loop-at.out c.if-c-eq-ELIST.true (rw c.in_err-after.was at c.terms.ensures)))

pub list-offset_bounds-out-after : goal.list-offset_bounds-out-after
list-offset_bounds-out-after t c =
    let list_last_here : FormsRan (arity_of c.args.edition) c.args.s.now (c.args.limit - 1) (c.loop-at.at + 1) 1 c.loop-at.count (set c.loop-at.out c.loop-at.to PAIR) (c.loop-at.to + 1) c.terms.new.out (Some (placed c.in_ok-after.after.at c.in_ok-after.after.to c.in_ok-after.after.count)) = rw c.in_ok-after.was at c.terms.ensures in
    let list_last_room_here : (c.in_ok-after.after.to ≤ c.args.limit - 1) × (c.loop-at.at + 1 < c.in_ok-after.after.at) × (c.in_ok-after.after.at ≤ length c.args.s.now) × (c.in_ok-after.after.count + (c.loop-at.at + 1) ≤ c.loop-at.count + c.in_ok-after.after.at) = forms-room _ _ _ _ _ _ _ _ _ _ _ (list_last_here) (omega arith) in
    omega (arith, list_last_room_here)

pub list-bounds-out-after : goal.list-bounds-out-after
list-bounds-out-after t c =
    let list_last_here : FormsRan (arity_of c.args.edition) c.args.s.now (c.args.limit - 1) (c.loop-at.at + 1) 1 c.loop-at.count (set c.loop-at.out c.loop-at.to PAIR) (c.loop-at.to + 1) c.terms.new.out (Some (placed c.in_ok-after.after.at c.in_ok-after.after.to c.in_ok-after.after.count)) = rw c.in_ok-after.was at c.terms.ensures in
    let list_last_room_here : (c.in_ok-after.after.to ≤ c.args.limit - 1) × (c.loop-at.at + 1 < c.in_ok-after.after.at) × (c.in_ok-after.after.at ≤ length c.args.s.now) × (c.in_ok-after.after.count + (c.loop-at.at + 1) ≤ c.loop-at.count + c.in_ok-after.after.at) = forms-room _ _ _ _ _ _ _ _ _ _ _ (list_last_here) (omega arith) in
    omega (arith, list_last_room_here, c.terms.auto.out, length-set c.loop-at.out c.loop-at.to PAIR)

pub list-overflow_add-result : goal.list-overflow_add-result
list-overflow_add-result t c =
    let list_last_here : FormsRan (arity_of c.args.edition) c.args.s.now (c.args.limit - 1) (c.loop-at.at + 1) 1 c.loop-at.count (set c.loop-at.out c.loop-at.to PAIR) (c.loop-at.to + 1) c.terms.new.out (Some (placed c.in_ok-after.after.at c.in_ok-after.after.to c.in_ok-after.after.count)) = rw c.in_ok-after.was at c.terms.ensures in
    let list_last_room_here : (c.in_ok-after.after.to ≤ c.args.limit - 1) × (c.loop-at.at + 1 < c.in_ok-after.after.at) × (c.in_ok-after.after.at ≤ length c.args.s.now) × (c.in_ok-after.after.count + (c.loop-at.at + 1) ≤ c.loop-at.count + c.in_ok-after.after.at) = forms-room _ _ _ _ _ _ _ _ _ _ _ (list_last_here) (omega arith) in
    omega (arith, list_last_room_here)

pub list-shape_of-out-then-c-eq-ELIST : goal.list-shape_of-out-then-c-eq-ELIST
list-shape_of-out-then-c-eq-ELIST t c = simp length-set (c.terms.auto.out ∙ simp length-set c.loop-at.invariant.out-kept)

pub list-returns-then-c-eq-ELIST : goal.list-returns-then-c-eq-ELIST
list-returns-then-c-eq-ELIST t c =
    let list_last_here : FormsRan (arity_of c.args.edition) c.args.s.now (c.args.limit - 1) (c.loop-at.at + 1) 1 c.loop-at.count (set c.loop-at.out c.loop-at.to PAIR) (c.loop-at.to + 1) c.terms.new.out (Some (placed c.in_ok-after.after.at c.in_ok-after.after.to c.in_ok-after.after.count)) = rw c.in_ok-after.was at c.terms.ensures in
    c.loop-at.invariant.goes_on (set c.terms.new.out c.in_ok-after.after.to nil) (Some (placed c.in_ok-after.after.at (c.in_ok-after.after.to + 1) c.in_ok-after.after.count)) (rest-last (arity_of c.args.edition) c.args.s.now c.args.limit c.loop-at.at c.loop-at.count c.loop-at.out c.loop-at.to c.if-s-at.false c.loop-at.some c.terms.new.out c.in_ok-after.after.at c.in_ok-after.after.to c.in_ok-after.after.count c.if-c-eq-ELIST.true (omega arith) (list_last_here))

pub list-terms-requires-in-loop-at : goal.list-terms-requires-in-loop-at
list-terms-requires-in-loop-at t c = simp length-set (omega arith)

pub list-returns-in_err-after-2 : goal.list-returns-in_err-after-2
list-returns-in_err-after-2 t c =
    let passed : c.from_residual-in_err-after-2.result ≡ None = search rules in
    rw passed (c.loop-at.invariant.goes_on c.loop-at.out None (rest-element-short (arity_of c.args.edition) c.args.s.now c.args.limit c.loop-at.at c.loop-at.count c.loop-at.out c.loop-at.to c.if-s-at.false c.loop-at.some c.terms-in-loop-at.new.out c.loop-at.out c.if-c-eq-ELIST.false c.if-c.false (rw c.in_err-after-2.was at c.terms-in-loop-at.ensures)))

pub list-loop-at-smaller : goal.list-loop-at-smaller
list-loop-at-smaller t c =
    let list_got_here : FormsRan (arity_of c.args.edition) c.args.s.now (c.args.limit - 1) c.loop-at.at 1 c.loop-at.count (set c.loop-at.out c.loop-at.to PAIR) (c.loop-at.to + 1) c.terms-in-loop-at.new.out (Some (placed c.in_ok-after-2.after.at c.in_ok-after-2.after.to c.in_ok-after-2.after.count)) = rw c.in_ok-after-2.was at c.terms-in-loop-at.ensures in
    let list_room_here : (c.in_ok-after-2.after.to ≤ c.args.limit - 1) × (c.loop-at.at < c.in_ok-after-2.after.at) × (c.in_ok-after-2.after.at ≤ length c.args.s.now) × (c.in_ok-after-2.after.count + c.loop-at.at ≤ c.loop-at.count + c.in_ok-after-2.after.at) = forms-room _ _ _ _ _ _ _ _ _ _ _ (list_got_here) (omega arith) in
    omega (arith, list_room_here)

pub list-loop-at-preserved : goal.list-loop-at-preserved
list-loop-at-preserved t c =
    let list_got_here : FormsRan (arity_of c.args.edition) c.args.s.now (c.args.limit - 1) c.loop-at.at 1 c.loop-at.count (set c.loop-at.out c.loop-at.to PAIR) (c.loop-at.to + 1) c.terms-in-loop-at.new.out (Some (placed c.in_ok-after-2.after.at c.in_ok-after-2.after.to c.in_ok-after-2.after.count)) = rw c.in_ok-after-2.was at c.terms-in-loop-at.ensures in
    let list_room_here : (c.in_ok-after-2.after.to ≤ c.args.limit - 1) × (c.loop-at.at < c.in_ok-after-2.after.at) × (c.in_ok-after-2.after.at ≤ length c.args.s.now) × (c.in_ok-after-2.after.count + c.loop-at.at ≤ c.loop-at.count + c.in_ok-after-2.after.at) = forms-room _ _ _ _ _ _ _ _ _ _ _ (list_got_here) (omega arith) in
    let f = list_room_here in
    record {
      from_at = omega (arith, f);
      at_in = f.2;
      count-in = omega (arith, f);
      room = omega (arith, f);
      out-kept = c.terms-in-loop-at.auto.out ∙ simp length-set c.loop-at.invariant.out-kept;
      goes_on = λ o r w.
          c.loop-at.invariant.goes_on o r
          (rest-element (arity_of c.args.edition) c.args.s.now c.args.limit c.loop-at.at c.loop-at.count c.loop-at.out c.loop-at.to c.if-s-at.false c.loop-at.some c.terms-in-loop-at.new.out c.in_ok-after-2.after.at c.in_ok-after-2.after.to c.in_ok-after-2.after.count o r (list_got_here) w);
    }

pub terms-loop-due-init : goal.terms-loop-due-init
terms-loop-due-init t c = record {
  from_at = omega arith;
  at_in = omega arith;
  count-in = omega arith;
  room = omega arith;
  out-kept = refl;
  goes_on = λ o r w. w;
}

pub terms-returns-then-s-at : goal.terms-returns-then-s-at
terms-returns-then-s-at t c = c.loop-due.invariant.goes_on c.loop-due.out None (forms-end (arity_of c.args.edition) c.args.s.now c.args.limit c.loop-due.at c.loop-due.due c.loop-due.count c.loop-due.out c.loop-due.to c.loop-due.out (omega arith) c.if-s-at.true)

pub terms-overflow_sub-limit : goal.terms-overflow_sub-limit
terms-overflow_sub-limit t c = omega arith

pub terms-list-requires : goal.terms-list-requires
terms-list-requires t c = omega arith

pub terms-returns-in_err-after : goal.terms-returns-in_err-after
terms-returns-in_err-after t c =
    let passed : c.from_residual.result ≡ None = search rules in
    rw passed (c.loop-due.invariant.goes_on c.loop-due.out None (forms-begin-short (arity_of c.args.edition) c.args.s.now c.args.limit c.loop-due.at c.loop-due.due c.loop-due.count c.loop-due.out c.loop-due.to c.loop-due.out (omega arith) c.if-s-at.false c.list.new.out c.due_after-behind.result c.due_after-behind.ensures c.if-c-eq-BLIST.true (rw c.in_err-after.was at c.list.ensures)))

pub terms-loop-due-smaller-then-c-eq-BLIST : goal.terms-loop-due-smaller-then-c-eq-BLIST
terms-loop-due-smaller-then-c-eq-BLIST t c =
    let terms_got_here : RestRan (arity_of c.args.edition) c.args.s.now (c.args.limit - c.due_after-behind.result) (c.loop-due.at + 1) false c.loop-due.count c.loop-due.out c.loop-due.to c.list.new.out (Some (placed c.in_ok-after.after.at c.in_ok-after.after.to c.in_ok-after.after.count)) = rw c.in_ok-after.was at c.list.ensures in
    let terms_room_here : (c.in_ok-after.after.to ≤ c.args.limit - c.due_after-behind.result) × (c.loop-due.at + 1 ≤ c.in_ok-after.after.at) × (c.in_ok-after.after.at ≤ length c.args.s.now) × (c.in_ok-after.after.count + (c.loop-due.at + 1) ≤ c.loop-due.count + c.in_ok-after.after.at) = rest-room _ _ _ _ _ _ _ _ _ _ _ (terms_got_here) (omega arith) in
    omega (arith, terms_room_here)

pub terms-loop-due-preserved-then-c-eq-BLIST : goal.terms-loop-due-preserved-then-c-eq-BLIST
terms-loop-due-preserved-then-c-eq-BLIST t c =
    let terms_got_here : RestRan (arity_of c.args.edition) c.args.s.now (c.args.limit - c.due_after-behind.result) (c.loop-due.at + 1) false c.loop-due.count c.loop-due.out c.loop-due.to c.list.new.out (Some (placed c.in_ok-after.after.at c.in_ok-after.after.to c.in_ok-after.after.count)) = rw c.in_ok-after.was at c.list.ensures in
    let terms_room_here : (c.in_ok-after.after.to ≤ c.args.limit - c.due_after-behind.result) × (c.loop-due.at + 1 ≤ c.in_ok-after.after.at) × (c.in_ok-after.after.at ≤ length c.args.s.now) × (c.in_ok-after.after.count + (c.loop-due.at + 1) ≤ c.loop-due.count + c.in_ok-after.after.at) = rest-room _ _ _ _ _ _ _ _ _ _ _ (terms_got_here) (omega arith) in
    let f = terms_room_here in
    record {
      from_at = omega (arith, f);
      at_in = f.2;
      count-in = omega (arith, f);
      room = omega (arith, f);
      out-kept = c.list.auto.out ∙ c.loop-due.invariant.out-kept;
      goes_on = λ o r w.
          c.loop-due.invariant.goes_on o r
          (forms-begin (arity_of c.args.edition) c.args.s.now c.args.limit c.loop-due.at c.loop-due.due c.loop-due.count c.loop-due.out c.loop-due.to o (omega arith) c.if-s-at.false c.list.new.out c.in_ok-after.after.at c.in_ok-after.after.to c.in_ok-after.after.count c.due_after-behind.result r c.due_after-behind.ensures c.if-c-eq-BLIST.true (terms_got_here) w);
    }

pub terms-returns-then-count-payload_of : goal.terms-returns-then-count-payload_of
terms-returns-then-count-payload_of t c = c.loop-due.invariant.goes_on c.loop-due.out None (forms-unordered (arity_of c.args.edition) c.args.s.now c.args.limit c.loop-due.at c.loop-due.due c.loop-due.count c.loop-due.out c.loop-due.to c.loop-due.out (omega arith) c.if-s-at.false (sym c.is_variable.ensures ∙ c.if-is_variable.true) (omega (arith, c.payload_of.ensures)))

pub terms-met_after-count-requires : goal.terms-met_after-count-requires
terms-met_after-count-requires t c = omega arith

pub terms-loop-due-smaller-then-is_variable : goal.terms-loop-due-smaller-then-is_variable
terms-loop-due-smaller-then-is_variable t c = omega arith

pub terms-loop-due-preserved-then-is_variable : goal.terms-loop-due-preserved-then-is_variable
terms-loop-due-preserved-then-is_variable t c = let q : variable (get_or c.args.s.now c.loop-due.at 0) ≡ true = sym c.is_variable.ensures ∙ c.if-is_variable.true in
    record {
      from_at = omega arith;
      at_in = omega arith;
      count-in = omega (arith, c.met_after-count.ensures, met-after-most c.loop-due.count (get_or c.args.s.now c.loop-due.at 0));
      room = omega arith;
      out-kept = simp length-set c.loop-due.invariant.out-kept;
      goes_on = λ o r w.
          c.loop-due.invariant.goes_on o r
          (forms-symbol (arity_of c.args.edition) c.args.s.now c.args.limit c.loop-due.at c.loop-due.due c.loop-due.count c.loop-due.out c.loop-due.to o (omega arith) c.if-s-at.false 0 c.due_after-due.result c.met_after-count.result r
          (variable-shape (arity_of c.args.edition) (get_or c.args.s.now c.loop-due.at 0) q) c.due_after-due.ensures (ordered-variable c.loop-due.count (get_or c.args.s.now c.loop-due.at 0) q (omega (arith, c.payload_of.ensures))) c.met_after-count.ensures w);
    }

pub terms-returns-in_default : goal.terms-returns-in_default
terms-returns-in_default t c = c.loop-due.invariant.goes_on c.loop-due.out None (forms-illegal (arity_of c.args.edition) c.args.s.now c.args.limit c.loop-due.at c.loop-due.due c.loop-due.count c.loop-due.out c.loop-due.to c.loop-due.out (omega arith) c.if-s-at.false c.if-c-eq-BLIST.false (λ k e. c.in_default.not-Symbol k (c.shape_of.ensures ∙ e)))

pub terms-overflow_add-to-in-loop-due : goal.terms-overflow_add-to-in-loop-due
terms-overflow_add-to-in-loop-due t c =
    let terms_shape_here : shape_of (arity_of c.args.edition) (get_or c.args.s.now c.loop-due.at 0) ≡ Symbol c.in-Symbol.k = sym c.shape_of.ensures ∙ c.in-Symbol.is in
    omega (arith, symbol-small _ (arity-small _) _ _ (terms_shape_here))

pub terms-overflow_add-to-in-loop-due-2 : goal.terms-overflow_add-to-in-loop-due-2
terms-overflow_add-to-in-loop-due-2 t c =
    let terms_shape_here : shape_of (arity_of c.args.edition) (get_or c.args.s.now c.loop-due.at 0) ≡ Symbol c.in-Symbol.k = sym c.shape_of.ensures ∙ c.in-Symbol.is in
    omega (arith, symbol-small _ (arity-small _) _ _ (terms_shape_here))

pub terms-returns-then-limit-to : goal.terms-returns-then-limit-to
terms-returns-then-limit-to t c =
    let terms_shape_here : shape_of (arity_of c.args.edition) (get_or c.args.s.now c.loop-due.at 0) ≡ Symbol c.in-Symbol.k = sym c.shape_of.ensures ∙ c.in-Symbol.is in
    let q : variable (get_or c.args.s.now c.loop-due.at 0) ≡ false = sym c.is_variable.ensures ∙ c.if-is_variable.false in
    let d = ordered-cell c.loop-due.count (get_or c.args.s.now c.loop-due.at 0) q in
    c.loop-due.invariant.goes_on c.loop-due.out None
    (forms-symbol (arity_of c.args.edition) c.args.s.now c.args.limit c.loop-due.at c.loop-due.due c.loop-due.count c.loop-due.out c.loop-due.to c.loop-due.out (omega arith) c.if-s-at.false c.in-Symbol.k (due_after c.loop-due.due c.in-Symbol.k) c.loop-due.count None
    (terms_shape_here) refl d.0 (sym d.1)
    (forms-full (arity_of c.args.edition) c.args.s.now c.args.limit (c.loop-due.at + 1) (due_after c.loop-due.due c.in-Symbol.k) c.loop-due.count (set c.loop-due.out c.loop-due.to (get_or c.args.s.now c.loop-due.at 0)) (c.loop-due.to + 1) c.loop-due.out (omega arith)))

pub terms-due_after-due-requires-in-loop-due : goal.terms-due_after-due-requires-in-loop-due
terms-due_after-due-requires-in-loop-due t c =
    let terms_shape_here : shape_of (arity_of c.args.edition) (get_or c.args.s.now c.loop-due.at 0) ≡ Symbol c.in-Symbol.k = sym c.shape_of.ensures ∙ c.in-Symbol.is in
    omega (arith, symbol-small _ (arity-small _) _ _ (terms_shape_here))

pub terms-loop-due-smaller : goal.terms-loop-due-smaller
terms-loop-due-smaller t c = omega arith

pub terms-loop-due-preserved : goal.terms-loop-due-preserved
terms-loop-due-preserved t c =
    let terms_shape_here : shape_of (arity_of c.args.edition) (get_or c.args.s.now c.loop-due.at 0) ≡ Symbol c.in-Symbol.k = sym c.shape_of.ensures ∙ c.in-Symbol.is in
    let q : variable (get_or c.args.s.now c.loop-due.at 0) ≡ false = sym c.is_variable.ensures ∙ c.if-is_variable.false in
    let d = ordered-cell c.loop-due.count (get_or c.args.s.now c.loop-due.at 0) q in
    record {
      from_at = omega arith;
      at_in = omega arith;
      count-in = omega arith;
      room = omega arith;
      out-kept = simp length-set c.loop-due.invariant.out-kept;
      goes_on = λ o r w.
          c.loop-due.invariant.goes_on o r
          (forms-symbol (arity_of c.args.edition) c.args.s.now c.args.limit c.loop-due.at c.loop-due.due c.loop-due.count c.loop-due.out c.loop-due.to o (omega arith) c.if-s-at.false c.in-Symbol.k c.due_after-due-in-loop-due.result c.loop-due.count r
          (terms_shape_here) c.due_after-due-in-loop-due.ensures d.0 (sym d.1) w);
    }

pub terms-returns : goal.terms-returns
terms-returns t c = c.loop-due.invariant.goes_on c.loop-due.out (Some (placed c.loop-due.at c.loop-due.to c.loop-due.count)) (forms-none (arity_of c.args.edition) c.args.s.now c.args.limit c.loop-due.at c.loop-due.due c.loop-due.count c.loop-due.out c.loop-due.to (omega arith) (omega arith))
