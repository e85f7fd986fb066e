use Prim.Native.Nat.{suc, ◌+◌, ◌-◌, ◌*◌}
use lib.ListN.{length}
use Rattle.store.proofs.ChainMeasure.{ahead}
use Rattle.detours.proofs.GoalSteps.{Trying}
use Rattle.detours.proofs.searching.+search_try_offer.Given as goal

abbrev pub decreases-search : goal.decreases-search
decreases-search l = 2 * (length l.goals.now - l.at)

abbrev pub decreases-try_offer : goal.decreases-try_offer
decreases-try_offer l = 2 * (length l.goals.now - suc l.at) + 1

abbrev pub invariant-search-loop-a : goal.invariant-search-loop-a
invariant-search-loop-a l = Trying l.table l.goals l.at l.sum l.initial.work l.work l.a

abbrev pub decreases-search-loop-a : goal.decreases-search-loop-a
decreases-search-loop-a l = ahead l.table.head.answers l.a
