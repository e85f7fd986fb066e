-- `sides::searches::search` meets its contract.
use Rattle.sides.proofs.SearchCases.{searched-whole, searched-stopped, searched-damaged}
use Rattle.store.proofs.CallsCases.{leaf-within, link-within}
use Rattle.trie.proofs.IndexLaws.{indexes-find}
use Rattle.basis.proofs.Tests.{told}
use Rattle.space.proofs.HeaderLaws.{bounds-nodes}
use Rattle.sides.proofs.searches.search.Goals as goal

pub node_in-y-requires : goal.node_in-y-requires
node_in-y-requires c = (
  bounds-nodes _ _ c.requires.0,
  leaf-within (indexes-find _ _) c.args.space.now c.args.h.nodes c.args.h.answers c.args.root c.args.tokens.now c.requires.1 _
      (told c.in-Whole.is c.walk_tokens.ensures),
)

pub whole_sound-requires : goal.whole_sound-requires
whole_sound-requires c = (
  c.requires.0,
  link-within (indexes-find _ _) c.args.space.now c.args.h.nodes c.args.h.answers c.args.root c.args.tokens.now c.requires.1 _ _
      (told c.in-Whole.is c.walk_tokens.ensures) c.node_in-y.ensures,
)

pub returns-in-Whole : goal.returns-in-Whole
returns-in-Whole c = searched-whole _ c.args.space.now c.args.h c.args.root c.args.tokens.now _ c.node_in-y.result _
    (told c.in-Whole.is c.walk_tokens.ensures) c.node_in-y.ensures c.whole_sound.ensures

pub returns-in-Stopped : goal.returns-in-Stopped
returns-in-Stopped c = searched-stopped _ c.args.space.now c.args.h c.args.root c.args.tokens.now _ _ _ (told c.in-Stopped.is c.walk_tokens.ensures)

pub returns-in-Damaged : goal.returns-in-Damaged
returns-in-Damaged c = searched-damaged _ c.args.space.now c.args.h c.args.root c.args.tokens.now (told c.in-Damaged.is c.walk_tokens.ensures)
