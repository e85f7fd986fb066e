-- `trie::siblings::search_siblings` meets its contract.
use Rattle.std.proofs.Common.{arith, rules}
use Rattle.trie.proofs.SearchCases.{chain-begin, chain-damaged, chain-stray, chain-found, chain-last, chain_next}
use Rattle.trie.proofs.siblings.search_siblings.Goals as goal

pub loop-y-init : goal.loop-y-init
loop-y-init c = chain-begin _ _ _ _ (search rules)

pub loop-y-smaller : goal.loop-y-smaller
loop-y-smaller c =
    omega (arith, chain_next c.loop-y.invariant _ c.in-Some.ensures (search rules) (search rules) (search rules))

pub loop-y-preserved : goal.loop-y-preserved
loop-y-preserved c =
    (chain_next c.loop-y.invariant _ c.in-Some.ensures (search rules) (search rules) (search rules)).1

pub returns-in_default : goal.returns-in_default
returns-in_default c = chain-damaged c.loop-y.invariant c.in_default.ensures

pub returns-then-y-parent : goal.returns-then-y-parent
returns-then-y-parent c =
    chain-stray c.loop-y.invariant _ c.in-Some.ensures (search rules)

pub returns-then-y-token : goal.returns-then-y-token
returns-then-y-token c =
    chain-found c.loop-y.invariant _ c.in-Some.ensures (search rules) (search rules)

pub returns-then-y-eq0 : goal.returns-then-y-eq0
returns-then-y-eq0 c =
    chain-last c.loop-y.invariant _ c.in-Some.ensures (search rules) (search rules) (search rules)
