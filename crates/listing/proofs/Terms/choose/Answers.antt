-- `choose` meets its contract: the cells that are left give the first that all of them give.
use native.Mathlib.Omega.{arith}
use Rattle.basis.proofs.Tests.{told}
use mathlib.Core.Path.{refl, ◌∙◌, sym}
use Rattle.listing.proofs.Calls.{given}
use Rattle.listing.proofs.Turns.{choice-here, choice-later, choice-none}
use borrow.Author.Rules.{rules}
use Rattle.listing.proofs.Terms.choose.Goals as goal

pub overflow_sub-left : goal.overflow_sub-left
overflow_sub-left c = omega arith

pub overflow_sub-left-2 : goal.overflow_sub-left-2
overflow_sub-left-2 c = omega arith

pub loop-j-init : goal.loop-j-init
loop-j-init c = (refl, omega (arith, given _ _ _ c.args.self.now.given))

pub overflow_add-j-end : goal.overflow_add-j-end
overflow_add-j-end c = omega (arith, given _ _ _ c.args.self.now.given)

pub letter-c-requires : goal.letter-c-requires
letter-c-requires c = omega (arith, given _ _ _ c.args.self.now.given)

pub goes_on-requires : goal.goes_on-requires
goes_on-requires c = let g = given _ _ _ c.args.self.now.given in (omega arith, omega arith, omega arith)

pub returns-then-goes_on : goal.returns-then-goes_on
returns-then-goes_on c = choice-here _ c.args.self.now.s c.args.self.now.symbols.now c.args.self.now.sums c.args.place _ c.loop-j.invariant.1 c.args.self.now.table c.loop-j.j _ (search rules) c.letter-c.ensures (search told) ∙ sym c.loop-j.invariant.0

pub loop-j-preserved : goal.loop-j-preserved
loop-j-preserved c = (c.loop-j.invariant.0 ∙ choice-later _ c.args.self.now.s c.args.self.now.symbols.now c.args.self.now.sums c.args.place _ c.loop-j.invariant.1 c.args.self.now.table c.loop-j.j _ (search rules) c.letter-c.ensures (search told), c.loop-j.invariant.1)

pub returns : goal.returns
returns c = choice-none _ c.args.self.now.s c.args.self.now.symbols.now _ _ c.loop-j.j (search rules) ∙ sym c.loop-j.invariant.0
