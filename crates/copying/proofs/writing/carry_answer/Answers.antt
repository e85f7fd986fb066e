-- `copying::writing::carry_answer` meets its contract.
use mathlib.Core.Path.{ap, ◌∙◌}
use mathlib.Core.List.{List}
use Prim.Native.Nat.{ℕ}
use Rattle.space.specs.Layout.{sizes_of}
use Rattle.space.specs.Heading.{header_of}
use Rattle.store.specs.Changes.{form_given}
use Rattle.copying.proofs.GiveCases.{recoded_whole}
use Rattle.copying.proofs.writing.carry_answer.Goals as goal

pub returns : goal.returns
returns c =
    let T : List ℕ = c.args.target.now in
    c.give_answer.ensures
    ∙ ap (λ (w : List ℕ). form_given (sizes_of 2) T c.args.s w (header_of (sizes_of 2) T)) (recoded_whole _ _ _ _ c.recoded_path-k.ensures)
