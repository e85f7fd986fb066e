-- `give_because` meets its contract: each outcome by its law.
use Prim.Native.Nat.{ℕ}
use mathlib.Core.List.{List}
use mathlib.Core.Path.{◌≡◌, refl, sym, ap}
use lib.ListN.{take}
use native.Mathlib.Omega.{arith}
use Rattle.store.specs.Replies.{said_because, NamesIn}
use Rattle.store.specs.declared.Reason.{Reason}
use Rattle.store.specs.declared.Reason.TheVariants as reason
use Rattle.store.specs.declared.Why.{Why}
use Rattle.plain.specs.Requests as request
use Rattle.words.specs.Words.{word}
use Rattle.words.proofs.WhyLaws.{why-short, why-given, old-cells, new-cells}
use Rattle.words.proofs.reasons.give_because.Goals as goal

said-here : (y : Why) {r : Reason} → y.reason ≡ r → said_because r y.variables ≡ said_because y.reason y.variables
said-here y e = sym (ap (λ (r : Reason). said_because r y.variables) e)

-- either reason is one
reasoned : (r : Reason) (vs : List ℕ) → (y : request.Reason) × (request.because y ≡ said_because r vs)
reasoned (reason.Old n k) vs = (request.old_as n (take k vs), refl)
reasoned (reason.New k s) vs = (request.new_past k s, refl)

pub returns-then-out-lt-WHY_CELLS : goal.returns-then-out-lt-WHY_CELLS
unfolding word
returns-then-out-lt-WHY_CELLS c =
    let k = reasoned c.args.why.now.reason c.args.why.now.variables in
    why-short _ _ _ k.0 k.1 (omega arith) c.refusal_with.ensures

pub give_variables-requires : goal.give_variables-requires
give_variables-requires c =
    let k : NamesIn c.args.why.now.variables (reason.Old c.in-Old.s c.in-Old.m) = rw c.in-Old.is at c.requires in
    (k.0, k.1, omega arith)

pub returns-in-Old : goal.returns-in-Old
unfolding word
returns-in-Old c =
    let k : NamesIn c.args.why.now.variables (reason.Old c.in-Old.s c.in-Old.m) = rw c.in-Old.is at c.requires in
    why-given _ _ _ _ (said-here c.args.why.now c.in-Old.is) _ (omega arith) c.result_word.ensures (old-cells _ _ _ _ _ k.0 c.give_variables.ensures)

pub returns-in-New : goal.returns-in-New
unfolding word
returns-in-New c = why-given _ _ _ _ (said-here c.args.why.now c.in-New.is) _ (omega arith) c.result_word-in-New.ensures (new-cells _ c.in-New.s _ (omega arith))
