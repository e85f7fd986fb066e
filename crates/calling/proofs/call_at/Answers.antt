-- `calling::call_at` meets its contract.
use native.Mathlib.Omega.{arith}
use mathlib.Core.Path.{◌≡◌, sym, ◌∙◌}
use Rattle.space.specs.Layout.{sizes}
use Rattle.space.proofs.HeaderLaws.{bounds-nodes}
use Rattle.trie.specs.Siblings.{trie_in}
use Rattle.trie.specs.Walks.{walk_by, shown}
use Rattle.trie.specs.Index.{search_indexed}
use Rattle.trie.proofs.IndexLaws.{indexes-find}
use Rattle.trie.specs.declared.Walked.TheVariants as walked
use Rattle.store.proofs.CallsCases.{at-damaged, at-whole, at-stopped, leaf-within, link-within, Stops, stops_at}
use borrow.Author.Rules.{rules}
use Rattle.calling.proofs.call_at.Goals as goal

pub node_in-y-requires : goal.node_in-y-requires
node_in-y-requires c =
    let ends_here : walked.Whole c.in-Whole.leaf ≡ shown (walk_by (search_indexed c.args.index.now c.args.h.nodes) (trie_in sizes c.args.space.now c.args.h.nodes
    c.args.h.subgoals) 0 c.args.tokens.now) = sym c.in-Whole.is ∙ c.walk_tokens.ensures in
    (bounds-nodes _ _ c.requires.0, leaf-within (indexes-find _ _) c.args.space.now c.args.h.nodes c.args.h.subgoals 0 c.args.tokens.now (search rules) _ (ends_here))

pub call_old-requires : goal.call_old-requires
call_old-requires c =
    let ends_here : walked.Whole c.in-Whole.leaf ≡ shown (walk_by (search_indexed c.args.index.now c.args.h.nodes) (trie_in sizes c.args.space.now c.args.h.nodes
    c.args.h.subgoals) 0 c.args.tokens.now) = sym c.in-Whole.is ∙ c.walk_tokens.ensures in
    (search rules, omega (arith, link-within (indexes-find _ _) c.args.space.now c.args.h.nodes c.args.h.subgoals 0 c.args.tokens.now (search rules) _ _ (ends_here) c.node_in-y.ensures))

pub returns-in-Whole : goal.returns-in-Whole
returns-in-Whole c =
    let ends_here : walked.Whole c.in-Whole.leaf ≡ shown (walk_by (search_indexed c.args.index.now c.args.h.nodes) (trie_in sizes c.args.space.now c.args.h.nodes
    c.args.h.subgoals) 0 c.args.tokens.now) = sym c.in-Whole.is ∙ c.walk_tokens.ensures in
    at-whole c.args.space.now c.args.h _ _ _ c.node_in-y.result _ (ends_here) c.node_in-y.ensures c.call_old.ensures

pub overflow_sub-from : goal.overflow_sub-from
overflow_sub-from c =
    let stops_here : Stops (search_indexed c.args.index.now c.args.h.nodes) c.args.space.now c.args.h.nodes c.args.h.subgoals 0 c.args.tokens.now c.in-Stopped.parent
    c.in-Stopped.last c.in-Stopped.left = stops_at (indexes-find _ _) c.args.space.now c.args.h.nodes c.args.h.subgoals 0 c.args.tokens.now (search rules) _ _ _ (sym c.in-Stopped.is
    ∙ c.walk_tokens.ensures) in
    (stops_here).fewer

pub call_new-requires : goal.call_new-requires
call_new-requires c =
    let stops_here : Stops (search_indexed c.args.index.now c.args.h.nodes) c.args.space.now c.args.h.nodes c.args.h.subgoals 0 c.args.tokens.now c.in-Stopped.parent
    c.in-Stopped.last c.in-Stopped.left = stops_at (indexes-find _ _) c.args.space.now c.args.h.nodes c.args.h.subgoals 0 c.args.tokens.now (search rules) _ _ _ (sym c.in-Stopped.is
    ∙ c.walk_tokens.ensures) in
    (search rules, (stops_here).parent-within, (stops_here).last_within, search rules)

pub returns-in-Stopped : goal.returns-in-Stopped
returns-in-Stopped c =
    let stops_here : Stops (search_indexed c.args.index.now c.args.h.nodes) c.args.space.now c.args.h.nodes c.args.h.subgoals 0 c.args.tokens.now c.in-Stopped.parent
    c.in-Stopped.last c.in-Stopped.left = stops_at (indexes-find _ _) c.args.space.now c.args.h.nodes c.args.h.subgoals 0 c.args.tokens.now (search rules) _ _ _ (sym c.in-Stopped.is
    ∙ c.walk_tokens.ensures) in
    at-stopped c.args.space.now c.args.h _ _ _ _ _ _ _ (stops_here).stops c.call_new.ensures

pub returns-in-Damaged : goal.returns-in-Damaged
returns-in-Damaged c = at-damaged c.args.space.now c.args.h _ _ (sym c.in-Damaged.is ∙ c.walk_tokens.ensures)
