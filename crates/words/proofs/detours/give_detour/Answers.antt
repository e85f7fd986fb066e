-- `words::detours::give_detour` meets its contract: each outcome by its law.
use Prim.Native.Nat.{ℕ}
use mathlib.Core.List.{List}
use mathlib.Core.Path.{◌≡◌, refl, sym, ap}
use native.Mathlib.Omega.{arith}
use lib.ListN.{take}
use Rattle.store.specs.Replies.{said_outcome}
use Rattle.store.specs.declared.Detour.{Detour}
use Rattle.store.specs.declared.Outcome.{Outcome}
use Rattle.store.specs.declared.Outcome.TheVariants as outcome
use Rattle.plain.specs.Requests as request
use Rattle.words.specs.Words.{word}
use Rattle.words.proofs.DetourWords.{detours-short, detours-none, detours-found}
use Rattle.words.proofs.detours.give_detour.Goals as goal

said-here : (d : Detour) {o : Outcome} → d.outcome ≡ o
    → said_outcome o (take d.count d.numbers) ≡ said_outcome d.outcome (take d.count d.numbers)
said-here d e = sym (ap (λ (x : Outcome). said_outcome x (take d.count d.numbers)) e)

-- either outcome is that of a search
searched : (o : Outcome) (ns : List ℕ) → (d : request.Detour) × (request.detoured d ≡ said_outcome o ns)
searched (outcome.Found total tried ended) ns =
    (record { best = request.found total ns; tried = tried; ended = ended }, refl)
searched (outcome.Nothing tried ended) ns = (record { best = request.none_found; tried = tried; ended = ended }, refl)

pub returns-then-out-lt-DETOUR_CELLS : goal.returns-then-out-lt-DETOUR_CELLS
unfolding word
returns-then-out-lt-DETOUR_CELLS c =
    let d = c.args.detour.now in
    let k = searched d.outcome (take d.count d.numbers) in
    detours-short _ c.args.out.now _ k.0 k.1 (omega arith) c.refusal_with.ensures

pub returns-in-Found : goal.returns-in-Found
unfolding word
returns-in-Found c =
    let d = c.args.detour.now in
    detours-found _ c.args.out.now _ _ _ _ d.numbers d.count (said-here d c.in-Found.is) (omega arith) _ _
    c.write_progress.ensures c.write_numbers.ensures c.result_word.ensures

pub returns-in-Nothing : goal.returns-in-Nothing
unfolding word
returns-in-Nothing c =
    detours-none _ c.args.out.now _ _ _ (said-here c.args.detour.now c.in-Nothing.is) (omega arith) _
    c.write_progress-in-Nothing.ensures c.result_word-in-Nothing.ensures
