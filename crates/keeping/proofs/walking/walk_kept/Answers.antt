-- `keeping::walking::walk_kept` meets its contract.
use Rattle.keeping.specs.Clauses.{Usable, ledger_in}
use Rattle.keeping.proofs.FindCases.{used-usable, used-walks}
use Rattle.trie.proofs.LedgerLaws.{ledgers-find}
use Rattle.trie.specs.Ledger.{search_in}
use Rattle.trie.specs.Siblings.{Trie, trie_in}
use Rattle.space.specs.Layout.{sizes}
use Prim.Native.Nat.{ℕ}
use mathlib.Core.List.{List}
use mathlib.Core.Path.{refl, ◌∙◌}
use lib.ListN.{take}
use native.Mathlib.Omega.{arith}
use borrow.Author.Rules.{rules}
use Rattle.keeping.proofs.walking.walk_kept.Goals as goal

pub walk_by-requires-clause-searches : goal.walk_by-requires-clause-searches
walk_by-requires-clause-searches c =
    let i : List ℕ = take c.used_slots.result c.args.slots.now in
    let u : Usable c.args.nodes c.args.lasts.now i = used-usable c.args.nodes c.args.lasts.now c.args.slots.now _ c.used_slots.ensures in
    let f = ledgers-find (ledger_in c.args.lasts.now i) in
    let t : Trie = (trie_in sizes c.args.space.now c.args.nodes c.args.links) in
    record {
      callable = λ n x h s l. search rules;
      within = λ n x child h s l p. (f.found t n x child h s (search rules)).within;
      judged = λ n x child h s l p. (f.found t n x child h s (search rules)).judged;
    }

pub returns : goal.returns
returns c =
    c.walk_by.ensures (search_in (ledger_in c.args.lasts.now (take c.used_slots.result c.args.slots.now))) (λ n x r h s l p. search rules)
    ∙ used-walks c.args.nodes c.args.lasts.now c.args.slots.now _ c.used_slots.ensures (trie_in sizes c.args.space.now c.args.nodes c.args.links) refl (omega (arith, c.requires.1)) _ _
