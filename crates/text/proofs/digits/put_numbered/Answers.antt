-- `put_numbered` meets its contract: the number stands behind the word.
use mathlib.Core.List.{◌∷◌}
use Rattle.text.specs.Digits.{decimal_text}
use Rattle.text.proofs.DigitsLaws.{puts-append}
use Rattle.text.proofs.digits.put_numbered.Goals as goal

pub returns : goal.returns
returns c =
    let a = c.args in
    puts-append a.word.now (32 ∷ decimal_text a.n) _ _ _ _ _ _ c.put-end.ensures c.put_field.ensures
