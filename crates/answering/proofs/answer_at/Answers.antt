-- `answering::answer_at_lem` meets its contract.
use mathlib.Core.Path.{◌≡◌, sym, ◌∙◌}
use Rattle.space.specs.Layout.{sizes}
use Rattle.space.proofs.HeaderLaws.{bounds-nodes}
use Rattle.trie.specs.Siblings.{trie_in}
use Rattle.trie.specs.Walks.{walk_by, shown}
use Rattle.trie.specs.Index.{search_indexed}
use Rattle.trie.proofs.IndexLaws.{indexes-find}
use Rattle.trie.specs.declared.Walked.TheVariants as walked
use Rattle.store.proofs.CallsCases.{leaf-within, link-within, Stops, stops_at}
use Rattle.store.proofs.CallsAnswers.{at-damaged, at-whole, at-stopped}
use borrow.Author.Rules.{rules}
use Rattle.answering.proofs.answer_at.Goals as goal

pub node_in-y-requires : goal.node_in-y-requires
node_in-y-requires c =
    let ends_here : walked.Whole c.in-Whole.leaf ≡ shown (walk_by (search_indexed c.args.index.now c.args.stood) (trie_in sizes c.args.space.now c.args.h.nodes
    c.args.h.answers) c.args.g.root c.args.tokens.now) = sym c.in-Whole.is ∙ c.walk_tokens.ensures in
    (bounds-nodes _ _ c.requires.0, leaf-within (indexes-find _ _) c.args.space.now c.args.h.nodes c.args.h.answers c.args.g.root c.args.tokens.now c.requires.5 _ (ends_here))

pub answer_old-requires : goal.answer_old-requires
answer_old-requires c =
    let ends_here : walked.Whole c.in-Whole.leaf ≡ shown (walk_by (search_indexed c.args.index.now c.args.stood) (trie_in sizes c.args.space.now c.args.h.nodes
    c.args.h.answers) c.args.g.root c.args.tokens.now) = sym c.in-Whole.is ∙ c.walk_tokens.ensures in
    record {
      held = (search rules, search rules, search rules, search rules, search rules, search rules);
      a_le_answers =
          link-within (indexes-find _ _) c.args.space.now c.args.h.nodes c.args.h.answers c.args.g.root c.args.tokens.now c.requires.5 _ _ (ends_here) c.node_in-y.ensures;
    }

pub returns-in-Whole : goal.returns-in-Whole
returns-in-Whole c =
    let ends_here : walked.Whole c.in-Whole.leaf ≡ shown (walk_by (search_indexed c.args.index.now c.args.stood) (trie_in sizes c.args.space.now c.args.h.nodes
    c.args.h.answers) c.args.g.root c.args.tokens.now) = sym c.in-Whole.is ∙ c.walk_tokens.ensures in
    at-whole c.args.space.now c.args.h c.args.s c.args.tokens.now _ _ c.node_in-y.result _ _ (ends_here) c.node_in-y.ensures c.answer_old.ensures

pub overflow_sub-from : goal.overflow_sub-from
overflow_sub-from c =
    let stops_here : Stops (search_indexed c.args.index.now c.args.stood) c.args.space.now c.args.h.nodes c.args.h.answers c.args.g.root c.args.tokens.now
    c.in-Stopped.parent c.in-Stopped.last c.in-Stopped.left = stops_at (indexes-find _ _) c.args.space.now c.args.h.nodes c.args.h.answers c.args.g.root
    c.args.tokens.now c.requires.5 _ _ _ (sym c.in-Stopped.is ∙ c.walk_tokens.ensures) in
    (stops_here).fewer

pub answer_new-requires : goal.answer_new-requires
answer_new-requires c =
    let stops_here : Stops (search_indexed c.args.index.now c.args.stood) c.args.space.now c.args.h.nodes c.args.h.answers c.args.g.root c.args.tokens.now
    c.in-Stopped.parent c.in-Stopped.last c.in-Stopped.left = stops_at (indexes-find _ _) c.args.space.now c.args.h.nodes c.args.h.answers c.args.g.root
    c.args.tokens.now c.requires.5 _ _ _ (sym c.in-Stopped.is ∙ c.walk_tokens.ensures) in
    record { held = (search rules, search rules, search rules, search rules, search rules, search rules); parent_lt_nodes = ((stops_here).parent-within, (stops_here).last_within) }

pub returns-in-Stopped : goal.returns-in-Stopped
returns-in-Stopped c =
    let stops_here : Stops (search_indexed c.args.index.now c.args.stood) c.args.space.now c.args.h.nodes c.args.h.answers c.args.g.root c.args.tokens.now
    c.in-Stopped.parent c.in-Stopped.last c.in-Stopped.left = stops_at (indexes-find _ _) c.args.space.now c.args.h.nodes c.args.h.answers c.args.g.root
    c.args.tokens.now c.requires.5 _ _ _ (sym c.in-Stopped.is ∙ c.walk_tokens.ensures) in
    at-stopped c.args.space.now c.args.h c.args.s c.args.tokens.now _ _ _ _ _ _ (stops_here).stops c.answer_new.ensures

pub returns-in-Damaged : goal.returns-in-Damaged
returns-in-Damaged c = at-damaged c.args.space.now c.args.h c.args.s c.args.tokens.now _ (sym c.in-Damaged.is ∙ c.walk_tokens.ensures)
