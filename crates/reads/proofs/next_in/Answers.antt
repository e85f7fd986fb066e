-- `reads::next_in` meets its contract.
use Rattle.reads.proofs.ReadsCases.{starting-within, next-zero, next-above, next-elsewhere, next-onward}
use Rattle.store.specs.Clauses.{view_at}
use native.Mathlib.Omega.{arith}
use mathlib.Core.Path.{◌∙◌}
use Rattle.basis.proofs.Tests.{told}
use borrow.Author.Rules.{rules}
use Rattle.reads.proofs.next_in.Goals.{then-s-eq0-via-then-s-eq0, then-s-eq0-via-else-s-eq0+then-table-s, then-s-eq0-via-else-s-eq0+else-table-s+then-not-starts}
use Rattle.reads.proofs.next_in.Goals as goal

pub returns-then-s-eq0 : goal.returns-then-s-eq0
returns-then-s-eq0 c = elim c.then-s-eq0.branch [
  | then-s-eq0-via-then-s-eq0 w ↦ next-zero _ _ _ _ w.if-s-eq0.true
  | then-s-eq0-via-else-s-eq0+then-table-s w ↦ next-above _ _ _ _ w.if-s-eq0.false w.if-table-s.true
  | then-s-eq0-via-else-s-eq0+else-table-s+then-not-starts w ↦
      next-elsewhere _ _ _ _ w.if-s-eq0.false w.if-table-s.false (told w.starts.ensures w.if-not-starts.true)
]

pub go_on-requires : goal.go_on-requires
go_on-requires c = (
  omega arith,
  search rules,
  starting-within (view_at c.args.table.now) c.args.s c.args.a
      (told c.starts.ensures c.if-not-starts.false),
)

pub returns : goal.returns
returns c = c.go_on.ensures ∙ next-onward _ _ _ _ (search rules) (search rules) (told c.starts.ensures c.if-not-starts.false)
