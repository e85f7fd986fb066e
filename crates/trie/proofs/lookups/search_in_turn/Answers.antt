-- `trie::lookups::search_in_turn` meets its contract.
use Rattle.std.proofs.Common.{◌∙◌, arith, rules}
use Rattle.space.specs.Layout.{sizes}
use Rattle.trie.specs.Siblings.{trie_in}
use Rattle.trie.proofs.SearchCases.{at-damaged, at-stray, at-found, at_last}
use Rattle.trie.proofs.TurnCases.{indexed-none, in-turn, met-free, met-within, met-confirmed, met-other, met_next}
use Rattle.trie.proofs.lookups.search_in_turn.Goals as goal

pub returns-then-p-eq0 : goal.returns-then-p-eq0
returns-then-p-eq0 c = indexed-none (trie_in sizes c.args.space.now c.args.nodes c.args.links) c.args.index.now c.args.stood _ _ c.node_in-p.result c.node_in-p.ensures (search rules)

pub loop-x-init : goal.loop-x-init
loop-x-init c = in-turn _ _ _ _ _ _ _ _ c.node_in-p.result c.node_in-p.ensures (search rules) c.requires.nodes_in.2 (search rules) c.requires.parent_value c.slot_of-slot.ensures

pub entry_beside-x-requires : goal.entry_beside-x-requires
entry_beside-x-requires c = c.loop-x.invariant.turns.slot-within

pub search_siblings-requires : goal.search_siblings-requires
search_siblings-requires c = (search rules, c.loop-x.invariant.turns.within)

pub returns-then-x-eq0 : goal.returns-then-x-eq0
returns-then-x-eq0 c = c.search_siblings.ensures ∙ met-free c.loop-x.invariant _ c.entry_beside-x.ensures (search rules)

pub judge-requires : goal.judge-requires
judge-requires c = (search rules, met-within c.loop-x.invariant _ c.entry_beside-x.ensures (search rules) _ c.confirms.ensures (search rules))

pub returns-then-confirms : goal.returns-then-confirms
returns-then-confirms c = c.judge.ensures ∙ met-confirmed c.loop-x.invariant _ c.entry_beside-x.ensures (search rules) _ c.confirms.ensures (search rules)

pub read_node-requires : goal.read_node-requires
read_node-requires c = (search rules, c.loop-x.invariant.turns.within)

pub returns-in_default : goal.returns-in_default
returns-in_default c = at-damaged (met-other c.loop-x.invariant _ c.entry_beside-x.ensures (search rules) _ c.confirms.ensures (search rules)) c.in_default.ensures

pub returns-then-y-parent : goal.returns-then-y-parent
returns-then-y-parent c =
    at-stray (met-other c.loop-x.invariant _ c.entry_beside-x.ensures (search rules) _ c.confirms.ensures (search rules)) _ c.in-Some.ensures (search rules)

pub returns-then-y-token : goal.returns-then-y-token
returns-then-y-token c =
    at-found (met-other c.loop-x.invariant _ c.entry_beside-x.ensures (search rules) _ c.confirms.ensures (search rules)) _ c.in-Some.ensures (search rules) (search rules)

pub returns-then-y-eq0 : goal.returns-then-y-eq0
returns-then-y-eq0 c =
    at_last (met-other c.loop-x.invariant _ c.entry_beside-x.ensures (search rules) _ c.confirms.ensures (search rules)) _ c.in-Some.ensures (search rules) (search rules) (search rules)

pub slot_after-slot-requires : goal.slot_after-slot-requires
slot_after-slot-requires c = c.loop-x.invariant.turns.slot-within

pub loop-x-smaller : goal.loop-x-smaller
loop-x-smaller c =
    omega (arith, met_next c.loop-x.invariant _ c.entry_beside-x.ensures (search rules) _ c.confirms.ensures (search rules) _ c.in-Some.ensures (search rules) (search rules) (search rules) _ c.slot_after-slot.ensures)

pub loop-x-preserved : goal.loop-x-preserved
loop-x-preserved c =
    (met_next c.loop-x.invariant _ c.entry_beside-x.ensures (search rules) _ c.confirms.ensures (search rules) _ c.in-Some.ensures (search rules) (search rules) (search rules) _ c.slot_after-slot.ensures).1
