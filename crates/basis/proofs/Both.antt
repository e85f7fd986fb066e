-- What `&&` and `||` give, by the branch that the code takes.
use mathlib.Core.Bool.{Bool, true, false, ◌&&◌, ◌||◌}
use mathlib.Core.Path.{◌≡◌, ◌∙◌}

pub both-on : {a b v : Bool} → a ≡ true → v ≡ b → v ≡ (a && b)
both-on t e = rw t e

pub both-off : {a v : Bool} (b : Bool) → a ≡ false → v ≡ a → v ≡ (a && b)
both-off b t e = rw t (e ∙ t)

pub either-on : {a v : Bool} (b : Bool) → a ≡ true → v ≡ a → v ≡ (a || b)
either-on b t e = rw t (e ∙ t)

pub either-off : {a b v : Bool} → a ≡ false → v ≡ b → v ≡ (a || b)
either-off t e = rw t e
