-- `space::heading::count` meets its contract.
use native.Mathlib.Omega.{arith}
use Rattle.space.proofs.HeaderCases.{counted-end, counted_none, counted-nodes, counted-subgoals, counted-last}
use borrow.Author.Rules.{rules}
use Rattle.space.proofs.heading.count.Goals as goal

pub bounds-space-7 : goal.bounds-space-7
bounds-space-7 c = omega arith

pub returns-then-space-end : goal.returns-then-space-end
returns-then-space-end c = counted-end _ _ _ _ (search rules)

pub bounds-space-1 : goal.bounds-space-1
bounds-space-1 c = omega arith

pub returns-then-nodes-eq0 : goal.returns-then-nodes-eq0
returns-then-nodes-eq0 c = counted_none _ _ _ _ (search rules) (search rules)

pub returns-then-n-nodes : goal.returns-then-n-nodes
returns-then-n-nodes c = counted-nodes _ _ _ _ (search rules) (search rules) (search rules)

pub bounds-space-2 : goal.bounds-space-2
bounds-space-2 c = omega arith

pub returns-then-f-wide : goal.returns-then-f-wide
returns-then-f-wide c = counted-subgoals _ _ _ _ (search rules) (search rules) (search rules) (search rules)

pub bounds-space-3 : goal.bounds-space-3
bounds-space-3 c = omega arith

pub returns : goal.returns
returns c = counted-last _ _ _ _ (search rules) (search rules) (search rules) (search rules) c.wide-2.result c.wide-2.ensures.0
