-- `why_at` meets its contract: the walk is call's.
use mathlib.Core.Path.{◌≡◌, sym, ◌∙◌}
use native.Mathlib.Omega.{arith}
use Rattle.space.specs.Layout.{sizes}
use Rattle.trie.specs.Siblings.{trie_in}
use Rattle.trie.specs.Walks.{walk_by, shown}
use Rattle.trie.specs.Index.{search_indexed}
use Rattle.trie.proofs.IndexLaws.{indexes-find}
use Rattle.trie.specs.declared.Walked.TheVariants as walked
use Rattle.store.specs.Clauses.{view_in}
use Rattle.store.proofs.CallsWalks.{shown-whole, shown-damaged}
use Rattle.store.proofs.CallsCases.{leaf-within, leaf-judged, Stops, stops_at}
use borrow.Author.Rules.{rules}
use Rattle.reasons.proofs.WhyCases.{reasons-whole, reasons-stopped, reasons-damaged, found-count}
use Rattle.reasons.proofs.why_at.Goals as goal

pub why_old-requires : goal.why_old-requires
why_old-requires c =
    let ends_here : walked.Whole c.in-Whole.leaf ≡ shown (walk_by (search_indexed c.args.index.now c.args.h.nodes) (trie_in sizes c.args.space.now c.args.h.nodes
    c.args.h.subgoals) 0 c.args.tokens.now) = sym c.in-Whole.is ∙ c.walk_tokens.ensures in
    let e = ends_here in (
      c.requires.0,
      (
        leaf-within (indexes-find _ _) c.args.space.now c.args.h.nodes c.args.h.subgoals 0 c.args.tokens.now (search rules) _ e,
        leaf-judged (indexes-find _ _) c.args.space.now c.args.h.nodes c.args.h.subgoals 0 c.args.tokens.now (search rules) _ e,
      ),
    )

pub returns-in-Whole : goal.returns-in-Whole
returns-in-Whole c =
    let ends_here : walked.Whole c.in-Whole.leaf ≡ shown (walk_by (search_indexed c.args.index.now c.args.h.nodes) (trie_in sizes c.args.space.now c.args.h.nodes
    c.args.h.subgoals) 0 c.args.tokens.now) = sym c.in-Whole.is ∙ c.walk_tokens.ensures in
    reasons-whole (search_indexed c.args.index.now c.args.h.nodes) (view_in c.args.space.now c.args.h) c.args.tokens.now c.args.m _ c.why_old.result (shown-whole _ _ (ends_here)) c.why_old.ensures

pub overflow_sub-tokens : goal.overflow_sub-tokens
overflow_sub-tokens c =
    let stops_here : Stops (search_indexed c.args.index.now c.args.h.nodes) c.args.space.now c.args.h.nodes c.args.h.subgoals 0 c.args.tokens.now
    c.in-Stopped.parent c.in-Stopped.field-1 c.in-Stopped.left = stops_at (indexes-find _ _) c.args.space.now c.args.h.nodes c.args.h.subgoals 0 c.args.tokens.now (search rules) _ _ _
    (sym c.in-Stopped.is ∙ c.walk_tokens.ensures) in
    (stops_here).fewer

pub why_new-requires : goal.why_new-requires
why_new-requires c =
    let stops_here : Stops (search_indexed c.args.index.now c.args.h.nodes) c.args.space.now c.args.h.nodes c.args.h.subgoals 0 c.args.tokens.now
    c.in-Stopped.parent c.in-Stopped.field-1 c.in-Stopped.left = stops_at (indexes-find _ _) c.args.space.now c.args.h.nodes c.args.h.subgoals 0 c.args.tokens.now (search rules) _ _ _
    (sym c.in-Stopped.is ∙ c.walk_tokens.ensures) in
    ((c.requires.0, ((stops_here).parent-within, (stops_here).parent-judged)), omega (arith, c.requires.1))

pub returns-in-Stopped : goal.returns-in-Stopped
returns-in-Stopped c =
    let stops_here : Stops (search_indexed c.args.index.now c.args.h.nodes) c.args.space.now c.args.h.nodes c.args.h.subgoals 0 c.args.tokens.now
    c.in-Stopped.parent c.in-Stopped.field-1 c.in-Stopped.left = stops_at (indexes-find _ _) c.args.space.now c.args.h.nodes c.args.h.subgoals 0 c.args.tokens.now (search rules) _ _ _
    (sym c.in-Stopped.is ∙ c.walk_tokens.ensures) in
    let k = stops_here in
    reasons-stopped (search_indexed c.args.index.now c.args.h.nodes) (view_in c.args.space.now c.args.h) c.args.tokens.now c.args.m _ _ _ c.why_new.result _ k.stops
    (found-count c.args.tokens.now c.in-Stopped.left k.fewer) (c.why_new.ensures c.args.m)

pub returns-in-Damaged : goal.returns-in-Damaged
returns-in-Damaged c =
    reasons-damaged (search_indexed c.args.index.now c.args.h.nodes) (view_in c.args.space.now c.args.h) c.args.tokens.now c.args.m (shown-damaged _ (sym c.in-Damaged.is ∙ c.walk_tokens.ensures))
