-- `drafts::drafting::draft` meets its contract.
use mathlib.Core.Path.{◌≡◌}
use Rattle.std.specs.Prelude.{None}
use native.Mathlib.Omega.{arith}
use borrow.Author.Rules.{rules}
use Rattle.drafts.proofs.DraftCases.{drafting-begun, drafting-reachable, drafting-on, drafting-full, mark-node, drafting-done}
use Rattle.drafts.proofs.drafting.draft.Goals as goal

pub loop-token-init : goal.loop-token-init
loop-token-init c = drafting-begun _ _ _ _ _ c.requires

pub reach-requires : goal.reach-requires
reach-requires c = drafting-reachable _ _ _ _ _ c.requires _ _ _ _ c.loop-token.invariant

pub loop-token-preserved : goal.loop-token-preserved
loop-token-preserved c = drafting-on _ _ _ _ _ c.requires _ _ _ _ c.loop-token.invariant (search rules) _ _ _ (rw c.in_ok-reached.was at c.reach.ensures)

pub returns-in_err-reached : goal.returns-in_err-reached
returns-in_err-reached c =
    let passed : c.from_residual.result ≡ None = search rules in
    rw passed (drafting-full _ _ _ _ _ c.requires _ _ _ _ c.loop-token.invariant (search rules) _ (rw c.in_err-reached.was at c.reach.ensures))

pub mark-held-requires : goal.mark-held-requires
mark-held-requires c = mark-node _ _ _ _ _ c.requires _ _ _ _ c.loop-token.invariant (λ l. omega arith) (omega arith)

pub returns : goal.returns
returns c = drafting-done _ _ _ _ _ c.requires _ _ _ _ c.loop-token.invariant (λ l. omega arith) (omega arith) _ _ c.mark-held.ensures
