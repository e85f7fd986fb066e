-- `sides::names::named` meets its contract.
use mathlib.Core.Bool.{◌&&◌}
use mathlib.Core.Path.{◌≡◌, sym, ◌∙◌}
use lib.Dec.{eqb, leb}
use lib.ListN.{length}
use Prim.Native.Nat.{◌*◌}
use borrow.Author.Tests.{le-leb, lt-leb}
use Rattle.basis.proofs.Both.{both-on, both-off}
use Rattle.plain.specs.Joins.{pairs_named}
use Rattle.sides.proofs.NameCases.{named-all}
use Rattle.sides.proofs.names.named.Goals.{then-pairs-le-PAIR_CELLS, else-pairs-le-PAIR_CELLS, then-copies-k, else-copies-k}
use Rattle.sides.proofs.names.named.Goals as goal

pub returns-then-pairs_named : goal.returns-then-pairs_named
returns-then-pairs_named c =
    let short : c.if-pairs-le-PAIR_CELLS.value ≡ (leb (length c.args.pairs.now) 64 && eqb (length c.args.copies.now) (2 * c.args.k)) =
    elim c.if-pairs-le-PAIR_CELLS.branch [
      | then-pairs-le-PAIR_CELLS w ↦ both-on (le-leb _ _ w.if-pairs-le-PAIR_CELLS.true) w.value-is
      | else-pairs-le-PAIR_CELLS w ↦ both-off _ (lt-leb _ _ w.if-pairs-le-PAIR_CELLS.false) w.value-is
    ] in
    let tests : c.if-copies-k.value ≡ ((leb (length c.args.pairs.now) 64 && eqb (length c.args.copies.now) (2 * c.args.k)) && pairs_named c.args.m c.args.n c.args.pairs.now) =
    elim c.if-copies-k.branch [
      | then-copies-k w ↦ both-on (sym short ∙ w.if-copies-k.true) (w.value-is ∙ w.pairs_named.ensures)
      | else-copies-k w ↦ both-off _ (sym short ∙ w.if-copies-k.false) (w.value-is ∙ short)
    ] in
    both-on (sym tests ∙ c.if-pairs_named.true) c.copies_named.ensures ∙ named-all _ _ _ _ _

pub returns-else-pairs_named : goal.returns-else-pairs_named
returns-else-pairs_named c =
    let short : c.if-pairs-le-PAIR_CELLS.value ≡ (leb (length c.args.pairs.now) 64 && eqb (length c.args.copies.now) (2 * c.args.k)) =
    elim c.if-pairs-le-PAIR_CELLS.branch [
      | then-pairs-le-PAIR_CELLS w ↦ both-on (le-leb _ _ w.if-pairs-le-PAIR_CELLS.true) w.value-is
      | else-pairs-le-PAIR_CELLS w ↦ both-off _ (lt-leb _ _ w.if-pairs-le-PAIR_CELLS.false) w.value-is
    ] in
    let tests : c.if-copies-k.value ≡ ((leb (length c.args.pairs.now) 64 && eqb (length c.args.copies.now) (2 * c.args.k)) && pairs_named c.args.m c.args.n c.args.pairs.now) =
    elim c.if-copies-k.branch [
      | then-copies-k w ↦ both-on (sym short ∙ w.if-copies-k.true) (w.value-is ∙ w.pairs_named.ensures)
      | else-copies-k w ↦ both-off _ (sym short ∙ w.if-copies-k.false) (w.value-is ∙ short)
    ] in
    both-off _ (sym tests ∙ c.if-pairs_named.false) tests ∙ named-all _ _ _ _ _
