-- `are_symbols` meets its contract: those that are left are symbols where all of them are.
use Prim.Native.Nat.{◌+◌}
use Rattle.std.proofs.lemmas.List.{take_rest}
use Rattle.listing.proofs.Tests.{refuted, confirmed}
use mathlib.Core.Path.{refl, ◌∙◌, sym}
use Rattle.listing.proofs.Cases.{any-contains}
use Rattle.listing.proofs.Letters.{symbols-all, symbols-not, symbols-again, symbols-later}
use Rattle.listing.proofs.are_symbols.Goals as goal
use Rattle.listing.proofs.are_symbols.Goals.{then-not-is_symbol-via-then-not-is_symbol, then-not-is_symbol-via-else-not-is_symbol+then-contains}

pub returns-then-not-is_symbol : goal.returns-then-not-is_symbol
returns-then-not-is_symbol c = elim c.then-not-is_symbol.branch [
  | then-not-is_symbol-via-then-not-is_symbol w ↦
      symbols-not _ c.args.symbols.now c.loop-i.i c.loop-i-test.true _ refl (refuted c.is_symbol.ensures w.if-not-is_symbol.true) ∙ sym c.loop-i.invariant
  | then-not-is_symbol-via-else-not-is_symbol+then-contains w ↦
      symbols-again _ c.args.symbols.now c.loop-i.i c.loop-i-test.true _ refl (confirmed c.is_symbol.ensures w.if-not-is_symbol.false)
      (sym (any-contains _ _) ∙ sym (rw (take_rest c.args.symbols.now (c.loop-i.i + 1)) at w.contains.ensures.value) ∙ w.if-contains.true) ∙ sym c.loop-i.invariant
]

pub loop-i-preserved : goal.loop-i-preserved
loop-i-preserved c =
    c.loop-i.invariant
    ∙ symbols-later _ c.args.symbols.now c.loop-i.i c.loop-i-test.true _ refl (confirmed c.is_symbol.ensures c.if-not-is_symbol.false)
    (sym (any-contains _ _) ∙ sym (rw (take_rest c.args.symbols.now (c.loop-i.i + 1)) at c.contains.ensures.value) ∙ c.if-contains.false)

pub returns : goal.returns
returns c = symbols-all _ c.args.symbols.now c.loop-i.i c.loop-i-test.false ∙ sym c.loop-i.invariant
