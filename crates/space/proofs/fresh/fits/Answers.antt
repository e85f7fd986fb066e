-- `space::fresh::fits` meets its contract.
use borrow.Author.Rules.{rules}
use Rattle.basis.proofs.Tests.{told}
use Prim.Native.Nat.{ℕ, ◌≤◌}
use mathlib.Core.Path.{ap, ◌∙◌}
use lib.Dec.{leb}
use lib.ListN.{length}
use Rattle.space.specs.Layout.{sizes_of, most}
use Rattle.space.proofs.FreshCases.{fits-nodes, fits-subgoals, fits-answers, fits-end, range-three, end-stands, end-computed}
use Rattle.space.proofs.fresh.fits.Goals as goal

pub nodes_end-requires : goal.nodes_end-requires
nodes_end-requires c =
    let ranges_here : (c.args.n ≤ most) × (c.args.f ≤ most) × (c.args.a ≤ most) = range-three (search told) (search told) (search told) in
    let r = ranges_here in search rules

pub subgoals_end-answer_offset-requires : goal.subgoals_end-answer_offset-requires
subgoals_end-answer_offset-requires c =
    let ranges_here : (c.args.n ≤ most) × (c.args.f ≤ most) × (c.args.a ≤ most) = range-three (search told) (search told) (search told) in
    let r = ranges_here in search rules

pub answers_end-requires : goal.answers_end-requires
answers_end-requires c =
    let ranges_here : (c.args.n ≤ most) × (c.args.f ≤ most) × (c.args.a ≤ most) = range-three (search told) (search told) (search told) in
    let r = ranges_here in search rules

pub returns-then-in_range-3 : goal.returns-then-in_range-3
returns-then-in_range-3 c = ap (λ (k : ℕ). leb k (length c.args.space.now)) (end-computed (sizes_of c.args.edition) c.args.n c.args.f c.args.a _ _ (end-stands _ _ c.nodes_end.ensures.0 c.subgoals_end-answer_offset.ensures.0) c.answers_end.ensures.0) ∙ fits-end _ _ _ _ _ (search told) (search told) (search told)

pub returns-else-in_range-3 : goal.returns-else-in_range-3
returns-else-in_range-3 c = fits-answers _ _ _ _ _ (search told) (search told) (search told)

pub returns-else-in_range-2 : goal.returns-else-in_range-2
returns-else-in_range-2 c = fits-subgoals _ _ _ _ _ (search told) (search told)

pub returns-else-in_range : goal.returns-else-in_range
returns-else-in_range c = fits-nodes _ _ _ _ _ (search told)
