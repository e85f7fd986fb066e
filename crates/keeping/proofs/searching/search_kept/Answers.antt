-- `keeping::searching::search_kept` meets its contract.
use Rattle.keeping.proofs.FindCases.{usable-room, no-slots, kept-none, kept-first}
use mathlib.Core.Path.{sym, ap, ◌∙◌}
use Prim.Native.Nat.{◌<◌}
use native.Mathlib.Omega.{arith}
use Rattle.space.specs.Layout.{sizes}
use Rattle.space.specs.declared.Node.{Node}
use Rattle.trie.specs.Siblings.{trie_in}
use Rattle.trie.proofs.SearchCases.{at-damaged, at-stray, at-found, at_last, at_next}
use Rattle.trie.proofs.SearchLaws.{first-within}
use borrow.Author.Rules.{rules}
use Rattle.keeping.proofs.searching.search_kept.Goals as goal

pub returns-then-is_empty : goal.returns-then-is_empty
returns-then-is_empty c = c.search_children.ensures ∙ no-slots (trie_in sizes c.args.space.now c.args.nodes c.args.links) c.args.lasts.now c.args.slots.now c.args.parent c.args.token (search rules) (search rules)

pub returns-then-y-eq0 : goal.returns-then-y-eq0
returns-then-y-eq0 c = kept-none (trie_in sizes c.args.space.now c.args.nodes c.args.links) c.args.lasts.now c.args.slots.now c.args.parent c.args.token c.node_in-y.result c.node_in-y.ensures (search rules)

pub read_node-requires : goal.read_node-requires
read_node-requires c =
    let f = first-within (trie_in sizes c.args.space.now c.args.nodes c.args.links) c.args.parent (search rules) c.requires.parent_value in
    let e = ap (λ (y : Node). y.child) c.node_in-y.ensures in
    (search rules, omega arith)

pub returns-in_default : goal.returns-in_default
returns-in_default c = at-damaged (kept-first (trie_in sizes c.args.space.now c.args.nodes c.args.links) c.args.lasts.now c.args.slots.now c.args.parent c.args.token c.node_in-y.result c.node_in-y.ensures (search rules) (c.requires.nodes_in.2 (search rules))) c.in_default.ensures

pub returns-then-z-parent : goal.returns-then-z-parent
returns-then-z-parent c =
    at-stray (kept-first (trie_in sizes c.args.space.now c.args.nodes c.args.links) c.args.lasts.now c.args.slots.now c.args.parent c.args.token c.node_in-y.result c.node_in-y.ensures (search rules) (c.requires.nodes_in.2 (search rules))) _ c.in-Some.ensures (search rules)

pub returns-then-z-token : goal.returns-then-z-token
returns-then-z-token c =
    at-found (kept-first (trie_in sizes c.args.space.now c.args.nodes c.args.links) c.args.lasts.now c.args.slots.now c.args.parent c.args.token c.node_in-y.result c.node_in-y.ensures (search rules) (c.requires.nodes_in.2 (search rules))) _ c.in-Some.ensures (search rules) (search rules)

pub returns-then-z-eq0 : goal.returns-then-z-eq0
returns-then-z-eq0 c =
    at_last (kept-first (trie_in sizes c.args.space.now c.args.nodes c.args.links) c.args.lasts.now c.args.slots.now c.args.parent c.args.token c.node_in-y.result c.node_in-y.ensures (search rules) (c.requires.nodes_in.2 (search rules))) _ c.in-Some.ensures (search rules) (search rules) (search rules)

pub find-requires : goal.find-requires
find-requires c =
    let r = usable-room c.args.nodes c.args.lasts.now c.args.slots.now (omega (arith, c.requires.nodes_in.1)) (c.requires.nodes_in.2 (search rules)) in
    record { nodes_in = (c.requires.nodes_in.0, c.requires.nodes_in.1, record { lasts-room = omega (arith, r.lasts-room, c.requires.nodes_in.1); slots-some = r.slots-some; slots-most = r.slots-most }); parent_value = c.requires.parent_value }

pub returns : goal.returns
returns c =
    let first_inside_here : c.node_in-y.result.child < c.args.nodes = let f = first-within (trie_in sizes c.args.space.now c.args.nodes c.args.links) c.args.parent c.requires.nodes_in.1 c.requires.parent_value in
    let e = ap (λ (y : Node). y.child) c.node_in-y.ensures in
    omega arith in
    c.find.ensures ∙ sym (at_next (kept-first (trie_in sizes c.args.space.now c.args.nodes c.args.links) c.args.lasts.now c.args.slots.now c.args.parent c.args.token c.node_in-y.result c.node_in-y.ensures (search rules) (c.requires.nodes_in.2 (search rules))) _ c.in-Some.ensures (search rules) (search rules) (search rules) (first_inside_here)).3
