-- `trie::walks::walk_tokens` meets its contract.
use Rattle.trie.proofs.TurnCases.{used-slotted, used-walks}
use Rattle.trie.proofs.IndexLaws.{indexes-find}
use Rattle.trie.specs.Index.{Slotted, search_indexed}
use Rattle.trie.specs.Siblings.{Trie, trie_in}
use Rattle.space.specs.Layout.{sizes}
use Rattle.std.proofs.Common.{ℕ, List, take, ◌∙◌, rules}
use Rattle.trie.proofs.walks.walk_tokens.Goals as goal

pub walk_by-requires-clause-searches : goal.walk_by-requires-clause-searches
walk_by-requires-clause-searches c =
    let i : List ℕ = take c.used_slots.result c.args.index.now in
    let u : Slotted i = used-slotted c.args.index.now _ c.used_slots.ensures.0 in
    let f = indexes-find i c.args.stood in
    let t : Trie = (trie_in sizes c.args.space.now c.args.nodes c.args.links) in
    record {
      callable = λ n x h s l. search rules;
      within = λ n x child h s l p. (f.found t n x child h s (search rules)).within;
      judged = λ n x child h s l p. (f.found t n x child h s (search rules)).judged;
    }

pub returns : goal.returns
returns c =
    c.walk_by.ensures (search_indexed (take c.used_slots.result c.args.index.now) c.args.stood) (λ n x r h s l p. search rules)
    ∙ used-walks c.args.index.now _ c.used_slots.ensures.0 c.args.stood (trie_in sizes c.args.space.now c.args.nodes c.args.links) _ _
