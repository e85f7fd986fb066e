-- `trie::paths::copy_run` meets its contract: at each turn the cells from the i-th on are copied.
use Rattle.std.proofs.Common.{◌≡◌, ℕ, ◌+◌, ◌-◌, ◌++◌, drop, ap, ◌∙◌, arith, rules}
use Rattle.trie.specs.Runs.{levels}
use Rattle.trie.proofs.PathCases.{copied-step, copied_none}
use Rattle.trie.proofs.paths.copy_run.Goals as goal

pub loop-i-init : goal.loop-i-init
loop-i-init c = (omega arith, copied_none c.args.run.now c.args.path.now c.args.from (omega arith))

pub loop-i-preserved : goal.loop-i-preserved
loop-i-preserved c = (omega arith, copied-step c.args.run.now c.loop-i.path (drop (c.args.from + levels) c.args.path.now) c.args.from (c.loop-i.i - 1) c.loop-i.i (omega arith) (omega arith) (omega arith) c.loop-i.invariant.1)

pub returns : goal.returns
returns c = let z : c.loop-i.i ≡ 0 = omega arith in let f : c.args.from ≡ c.args.from + c.loop-i.i = omega arith in (ap (λ (j : ℕ). drop j c.loop-i.path) f ∙ c.loop-i.invariant.1 ∙ ap (λ (j : ℕ). drop j c.args.run.now ++ drop (c.args.from + levels) c.args.path.now) z, search rules)
