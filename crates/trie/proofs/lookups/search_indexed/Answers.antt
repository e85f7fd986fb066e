-- `trie::lookups::search_indexed` meets its contract.
use Rattle.std.proofs.Common.{sym, ◌∙◌, rules}
use Rattle.space.specs.Layout.{sizes}
use Rattle.trie.specs.Siblings.{trie_in}
use Rattle.trie.proofs.TurnCases.{no-slots}
use Rattle.trie.proofs.lookups.search_indexed.Goals as goal

pub returns-then-is_empty : goal.returns-then-is_empty
returns-then-is_empty c =
    c.search_children.ensures
    ∙ sym (no-slots (trie_in sizes c.args.space.now c.args.nodes c.args.links) c.args.index.now c.args.stood _ _ (search rules))

pub search_in_turn-requires : goal.search_in_turn-requires
search_in_turn-requires c = record { nodes_in = (search rules, search rules, c.requires.nodes_in.2 (search rules)); parent_value = c.requires.parent_value }

pub returns : goal.returns
returns c = c.search_in_turn.ensures
