-- `calling::enter_subgoal` meets its contract.
use Prim.Native.Nat.{◌+◌, ◌≤◌}
use native.Mathlib.Omega.{arith}
use lib.ListN.{length}
use Rattle.space.specs.Sound.{subgoals_end}
use Rattle.space.proofs.WidthLaws.{subgoals-stand}
use Rattle.store.proofs.CallsCases.{subgoal-entered}
use borrow.Author.Rules.{rules}
use Rattle.calling.proofs.enter_subgoal.Goals as goal

pub write_subgoal-requires : goal.write_subgoal-requires
write_subgoal-requires c =
    let stands_here : subgoals_end c.args.h.edition c.args.h.subgoal_offset (c.args.h.subgoals + 1) ≤ length c.args.space.now = subgoals-stand _ _ c.requires.stopped_at.0 _ (search rules) in (
      search rules,
      omega (arith, stands_here),
      record {
        leaf-fits = omega arith;
        root-fits = omega arith;
        variables-fit = omega arith;
        state-fits = omega arith;
        first_fits =
            omega arith;
        last_fits = omega arith;
      },
    )

pub returns : goal.returns
returns c = subgoal-entered _ _ _ _ _ _ _ _ _ _ _ c.append_path.ensures c.write_link.ensures c.write_node.ensures c.write_subgoal.ensures c.write_subgoal_counts.ensures
