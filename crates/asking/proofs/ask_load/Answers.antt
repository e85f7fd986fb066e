-- `ask_load` meets its contract.
use mathlib.Core.Path.{sym, ◌∙◌}
use native.Mathlib.Omega.{arith}
use Rattle.text.specs.Places.{rest_at}
use Rattle.plain.specs.Requests as request
use Rattle.reads.proofs.ReadsLaws.{load_fits}
use Rattle.asking.specs.Lines.{one_number}
use Rattle.asking.proofs.AskingLaws.{one-asks, one-bad, bad-leaves, bad-out, asks-leaves, asks-out}
use Rattle.asking.proofs.ask_load.Goals as goal

pub returns-in_default : goal.returns-in_default
returns-in_default c = let l = c.args.line.now in let fs = rest_at l c.args.at in let b = one-bad fs (λ a. request.load a c.args.out.now) (rw c.in_default.is at c.only_number.ensures) in record { load_prints = bad-leaves c.args.space.now c.args.out.now _ _ _ (one_number fs (λ a. request.load a c.args.out.now)) b c.print_bad.ensures; out_value = bad-out c.args.space.now c.args.out.now (one_number fs (λ a. request.load a c.args.out.now)) b }

pub print_cells-requires : goal.print_cells-requires
print_cells-requires c = record { out_in_bounds = omega arith; by_index = λ n e. omega (arith, load_fits c.args.space.now _ c.args.out.now n (sym c.load-loaded.ensures.0 ∙ e)) }

pub returns : goal.returns
returns c = let l = c.args.line.now in let fs = rest_at l c.args.at in let b = one-asks fs (λ a. request.load a c.args.out.now) _ (rw c.in-Some.is at c.only_number.ensures).0 in record { load_prints = asks-leaves c.args.space.now c.args.out.now _ _ _ (one_number fs (λ a. request.load a c.args.out.now)) _ _ _ b c.load-loaded.ensures.0 c.load-loaded.ensures.2 (rw (← c.load-loaded.ensures.1) c.print_cells.ensures); out_value = c.load-loaded.ensures.1 ∙ asks-out c.args.space.now c.args.out.now (one_number fs (λ a. request.load a c.args.out.now)) _ b }
