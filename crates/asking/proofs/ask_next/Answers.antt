-- `ask_next` meets its contract.
use Prim.Native.Nat.{ℕ}
use mathlib.Core.List.{List}
use mathlib.Core.Path.{◌∙◌}
use Rattle.text.specs.Fields.{only_number}
use Rattle.text.specs.Places.{rest_at}
use Rattle.plain.specs.Requests as request
use Rattle.asking.specs.Lines.{asks, with_number, two_numbers}
use Rattle.asking.proofs.AskingLaws.{first-means, first-bad, one-asks, one-bad, bad-leaves, asks-leaves}
use Rattle.asking.proofs.ask_next.Goals as goal

pub returns-in_default : goal.returns-in_default
returns-in_default c = let l = c.args.line.now in let fs = rest_at l c.args.at in λ out. bad-leaves c.args.space.now out _ _ _ (two_numbers fs request.next) (first-bad fs (λ (gs : List (List ℕ)) (n : ℕ). with_number (only_number gs) (λ k. asks (request.next n k))) (rw c.in_default.is at c.first_number.ensures)) c.print_bad.ensures

pub only_number-requires : goal.only_number-requires
only_number-requires c = (rw c.in-Some.is at c.first_number.ensures).1

pub returns-in_default-only_number : goal.returns-in_default-only_number
returns-in_default-only_number c = let l = c.args.line.now in let fs = rest_at l c.args.at in let f = rw c.in-Some.is at c.first_number.ensures in λ out. bad-leaves c.args.space.now out _ _ _ (two_numbers fs request.next) (first-means fs (λ (gs : List (List ℕ)) (n : ℕ). with_number (only_number gs) (λ k. asks (request.next n k))) _ _ f.0 f.2 ∙ one-bad (rest_at l c.in-Some.subgoal.end) (request.next c.in-Some.subgoal.value) (rw c.in_default-only_number.is at c.only_number.ensures)) c.print_bad-in_default-only_number.ensures

pub returns : goal.returns
returns c = let l = c.args.line.now in let fs = rest_at l c.args.at in let f = rw c.in-Some.is at c.first_number.ensures in λ out. asks-leaves c.args.space.now out _ _ _ (two_numbers fs request.next) _ _ _ (first-means fs (λ (gs : List (List ℕ)) (n : ℕ). with_number (only_number gs) (λ k. asks (request.next n k))) _ _ f.0 f.2 ∙ one-asks (rest_at l c.in-Some.subgoal.end) (request.next c.in-Some.subgoal.value) _ (rw c.in-Some-only_number.is at c.only_number.ensures).0) c.next-handed.ensures.0 c.next-handed.ensures.2 (c.print_next.ensures _)
