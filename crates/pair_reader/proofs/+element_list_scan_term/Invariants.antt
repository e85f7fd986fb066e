use Prim.Native.Nat.{◌-◌, ◌*◌, ◌+◌}
use lib.ListN.{length}
use Rattle.forms.specs.Cells.{arity_of}
use Rattle.pair_reader.proofs.PairTurns.{TermsTurn, ListTurn}
use Rattle.pair_reader.proofs.+element_list_scan_term.Given as goal

abbrev pub decreases-element : goal.decreases-element
decreases-element l = 4 * (length l.s.now - l.at) + 2

abbrev pub decreases-list : goal.decreases-list
decreases-list l = 4 * (length l.s.now - l.from) + 3

abbrev pub decreases-term : goal.decreases-term
decreases-term l = 4 * (length l.s.now - l.at) + 1

abbrev pub decreases-scan : goal.decreases-scan
decreases-scan l = 4 * (length l.s.now - l.from.at)

abbrev pub invariant-list-loop-after : goal.invariant-list-loop-after
invariant-list-loop-after l = ListTurn (arity_of l.edition) l.s l.from l.initial.vars l.known l.initial.out l.start l.vars l.out l.at l.count l.to

abbrev pub decreases-list-loop-after : goal.decreases-list-loop-after
decreases-list-loop-after l = length l.s - l.at

abbrev pub invariant-scan-loop-due : goal.invariant-scan-loop-due
invariant-scan-loop-due l = TermsTurn (arity_of l.edition) l.s l.initial.at l.n l.initial.vars l.initial.count l.initial.out l.initial.to l.vars l.out l.at l.due l.count l.to

abbrev pub decreases-scan-loop-due : goal.decreases-scan-loop-due
decreases-scan-loop-due l = length l.s - l.at
