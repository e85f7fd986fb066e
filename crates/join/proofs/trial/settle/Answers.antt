-- `join::trial::settle` meets its contract.
use mathlib.Core.Path.{◌≡◌, sym, subst}
use native.Mathlib.Omega.{arith}
use Rattle.std.specs.Prelude.{Some, Ok, Err}
use Rattle.basis.specs.declared.refusals.Refusal.TheVariants as refusal
use Rattle.join.specs.declared.Untried.TheVariants as untried
use Rattle.join.specs.Trial.{Settles, Tried}
use Rattle.join.proofs.TrialCases.{settle-nodes, settle-records, settle-none, settle-over}
use borrow.Author.Rules.{rules}
use Rattle.join.proofs.trial.settle.Goals as goal

pub returns-then-h-y : goal.returns-then-h-y
returns-then-h-y c = subst (λ (t : Tried). Settles c.args.h c.args.free t (Some (Err refusal.Nodes))) (sym c.in-Ok.is) (settle-nodes c.args.h c.requires c.args.free c.in-Ok.y (search rules))

pub returns-then-answers-y : goal.returns-then-answers-y
returns-then-answers-y c = subst (λ (t : Tried). Settles c.args.h c.args.free t (Some (Err refusal.RecordsLeft))) (sym c.in-Ok.is) (settle-records c.args.h c.requires c.args.free c.in-Ok.y (search rules) (search rules))

pub returns-else-answers-y : goal.returns-else-answers-y
returns-else-answers-y c = subst (λ (t : Tried). Settles c.args.h c.args.free t (Some (Ok tt))) (sym c.in-Ok.is) (settle-none c.args.h c.requires c.args.free c.in-Ok.y (search rules) (search rules))

pub returns-then-free-h : goal.returns-then-free-h
returns-then-free-h c =
    let over : c.args.r ≡ Err untried.Over = grind arith in
    subst (λ (t : Tried). Settles c.args.h c.args.free t (Some (Err refusal.Nodes))) (sym over) (settle-over c.args.h c.requires c.args.free (search rules))
