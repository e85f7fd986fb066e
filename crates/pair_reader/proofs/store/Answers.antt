-- `store` meets its contract: a variable by its rank, and any other cell as it is.
use mathlib.Core.Path.{sym, ◌∙◌}
use native.Mathlib.Omega.{arith}
use Rattle.pair_reader.proofs.StoringLaws.{stored-cell, stored-variable, rank-most}
use Rattle.pair_reader.proofs.store.Goals as goal

pub overflow_add-r : goal.overflow_add-r
overflow_add-r c = let m = rank-most c.args.vars.now c.args.count c.args.c c.number-r.result (omega arith) c.number-r.ensures.0 in omega arith

pub overflow_cast-out : goal.overflow_cast-out
overflow_cast-out c = let m = rank-most c.args.vars.now c.args.count c.args.c c.number-r.result (omega arith) c.number-r.ensures.0 in omega arith

pub overflow_add-out : goal.overflow_add-out
overflow_add-out c = let m = rank-most c.args.vars.now c.args.count c.args.c c.number-r.result (omega arith) c.number-r.ensures.0 in omega arith

pub returns-then-is_variable : goal.returns-then-is_variable
returns-then-is_variable c =
    stored-variable _ c.args.count _ c.args.to c.args.c c.number-r.result (sym c.is_variable.ensures ∙ c.if-is_variable.true) (omega arith) c.number-r.ensures.0
    c.number-r.new.vars c.max.result c.number-r.ensures.1 c.max.ensures

pub returns : goal.returns
returns c = stored-cell _ c.args.count _ c.args.to c.args.c (sym c.is_variable.ensures ∙ c.if-is_variable.false) (omega arith)
