-- `drafts::wiping::is_blank` meets its contract.
use Rattle.std.proofs.Common.{◌≡◌, ◌-◌, take, drop, rules, tests, arith}
use Rattle.std.proofs.lemmas.Iterator.{cases_from_all, YieldsList-from_slice}
use Rattle.drafts.proofs.WipeCases.{blank-part}
use Rattle.drafts.proofs.wiping.is_blank.Goals as goal

pub returns : goal.returns
returns c = blank-part c.args.space.now c.args.x _ _ c.nodes_end.ensures.0 c.nodes_end-2.ensures.0 (omega (arith, c.requires.held, c.nodes_end-2.ensures.0)) c.all.result _
    (cases_from_all _ _ c.all.result (λ x. x ≡ 0) (λ x. x ≡ 0 → ⊥) c.all.ensures.ran (YieldsList-from_slice (take (c.nodes_end-2.result - c.nodes_end.result) (drop c.nodes_end.result c.args.space.now)) cc) (λ x q k. search (rules, tests, arith)) (λ x q k. search (rules, tests, arith)))
