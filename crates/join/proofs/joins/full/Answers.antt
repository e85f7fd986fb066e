-- `join::joins::full` meets its contract.
use Rattle.join.proofs.CallCases.{fills-nodes, fills-answers, fills-none}
use Rattle.trie.specs.Index.{search_indexed}
use borrow.Author.Rules.{rules}
use Rattle.join.proofs.joins.full.Goals as goal

pub overflow_sub-nodes : goal.overflow_sub-nodes
overflow_sub-nodes c = c.requires.ready_to_count.0.known.bounds.nodes-within

pub overflow_sub-answers : goal.overflow_sub-answers
overflow_sub-answers c = c.requires.ready_to_count.0.known.bounds.answers-within

pub returns-then-nodes-y : goal.returns-then-nodes-y
returns-then-nodes-y c = fills-nodes (search_indexed c.args.asked.now.index.now c.args.x.h.nodes) c.args.space.now c.args.x c.args.root c.args.asked.now.pairs.now c.args.asked.now.copies.now _ c.needs-y.ensures (search rules)

pub returns-then-answers-y : goal.returns-then-answers-y
returns-then-answers-y c = fills-answers (search_indexed c.args.asked.now.index.now c.args.x.h.nodes) c.args.space.now c.args.x c.args.root c.args.asked.now.pairs.now c.args.asked.now.copies.now _ c.needs-y.ensures (search rules) (search rules)

pub returns : goal.returns
returns c = fills-none (search_indexed c.args.asked.now.index.now c.args.x.h.nodes) c.args.space.now c.args.x c.args.root c.args.asked.now.pairs.now c.args.asked.now.copies.now _ c.needs-y.ensures (search rules) (search rules)
