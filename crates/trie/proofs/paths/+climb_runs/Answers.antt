-- `trie::paths::climb_runs` meets its contract. The number to go on from falls, and with it the node's.
use Rattle.trie.proofs.PathCases.{run-falls, run_on, runs-whole, runs-lost, runs_last, runs-next}
use Rattle.std.proofs.Common.{ℕ, refl, arith, rules, inl, inr}
use Rattle.trie.proofs.paths.+climb_runs.Goals as goal

pub overflow_sub-from : goal.overflow_sub-from
overflow_sub-from t c = omega arith

pub overflow_mul-from : goal.overflow_mul-from
overflow_mul-from t c = omega arith

pub copy_run-requires : goal.copy_run-requires
copy_run-requires t c = (search rules, omega arith)

pub overflow_add-result : goal.overflow_add-result
overflow_add-result t c = omega arith

pub returns-then-begun-lt-LOST : goal.returns-then-begun-lt-LOST
returns-then-begun-lt-LOST t c = runs-whole c.args.space.now.now c.args.end c.args.begun c.args.run.now c.args.runs c.args.path.now c.copy_run.new.path (omega arith) (search rules) c.copy_run.ensures (search rules)

pub returns-then-begun-eq-LOST : goal.returns-then-begun-eq-LOST
returns-then-begun-eq-LOST t c = elim c.then-begun-eq-LOST.either [
  | inl e ↦ runs-lost c.args.space.now.now c.args.end c.args.begun c.args.run.now c.args.runs c.args.path.now c.copy_run.new.path (omega arith) (search rules) c.copy_run.ensures e
  | inr e ↦ let a : ℕ = c.args.begun in runs_last c.args.space.now.now c.args.end c.args.begun c.args.run.now c.args.runs c.args.path.now c.copy_run.new.path (omega arith) (search rules) c.copy_run.ensures (omega (arith, e.0)) e.1
]

pub overflow_sub-begun : goal.overflow_sub-begun
overflow_sub-begun t c = omega arith

pub climb-r-requires : goal.climb-r-requires
climb-r-requires t c = record { nodes_in = (c.requires.run_begun.0, c.requires.run_begun.2 (omega arith)); le_left = search rules }

pub overflow_sub-runs : goal.overflow_sub-runs
overflow_sub-runs t c = omega arith

pub climb_runs-requires : goal.climb_runs-requires
climb_runs-requires t c =
    let d = c.climb-r.ensures in
    let p = c.requires in
    let less = run-falls c.args.space.now.now c.args.end c.args.begun _ _ _ d (omega arith) in
    (omega arith, ((p.run_begun.0, omega (arith, d.2), run_on c.args.space.now.now c.args.end c.args.begun _ _ _ d (p.run_begun.2 (omega arith))), (omega arith, omega (arith, c.copy_run.ensures.1))))

pub returns : goal.returns
returns t c = runs-next c.args.space.now.now c.args.end c.args.begun c.args.run.now c.args.runs c.args.path.now c.copy_run.new.path (omega arith) (search rules) c.copy_run.ensures (omega arith) (search rules) _ c.climb-r.new.run c.climb-r.result refl c.climb-r.ensures _ _ c.climb_runs.ensures
