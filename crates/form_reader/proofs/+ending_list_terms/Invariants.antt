use Prim.Native.Nat.{◌-◌, ◌*◌, ◌+◌}
use lib.ListN.{length}
use Rattle.forms.specs.Cells.{arity_of}
use Rattle.form_reader.proofs.FormTurns.{FormsTurn, RestTurn}
use Rattle.form_reader.proofs.+ending_list_terms.Given as goal

abbrev pub decreases-ending : goal.decreases-ending
decreases-ending l = 3 * (length l.s.now - l.from.at) + 1

abbrev pub decreases-list : goal.decreases-list
decreases-list l = 3 * (length l.s.now - l.from.at) + 2

abbrev pub decreases-terms : goal.decreases-terms
decreases-terms l = 3 * (length l.s.now - l.from.at)

abbrev pub invariant-list-loop-at : goal.invariant-list-loop-at
invariant-list-loop-at l = RestTurn (arity_of l.edition) l.s l.limit l.initial.at l.initial.count l.initial.out l.initial.to l.out l.at l.some l.count l.to

abbrev pub decreases-list-loop-at : goal.decreases-list-loop-at
decreases-list-loop-at l = length l.s - l.at

abbrev pub invariant-terms-loop-due : goal.invariant-terms-loop-due
invariant-terms-loop-due l = FormsTurn (arity_of l.edition) l.s l.limit l.initial.at l.n l.initial.count l.initial.out l.initial.to l.out l.at l.due l.count l.to

abbrev pub decreases-terms-loop-due : goal.decreases-terms-loop-due
decreases-terms-loop-due l = length l.s - l.at
