-- How the tokens of a stored form change when a table is copied into another edition.
use Rattle.std.specs.Prelude.{ℕ, ◌+◌, ◌*◌, ◌/◌, ◌%◌, Bool, true, ◌&&◌, [], ◌∷◌, map, eqb, ltb}
use Rattle.basis.specs.Choice.{pick}
use Rattle.forms.specs.Cells.{kind, payload, tag}
use Rattle.plain.specs.Words.{Word}

-- the token that a token becomes, and whether it can be stored there; one that cannot is 18
pub record Recoding : Type 0 where
  pub code : ℕ → ℕ
  pub takes : ℕ → Bool

-- between editions of equal payloads
abbrev pub unchanged : Recoding
unchanged = record { code = λ x. x; takes = λ x. true }

-- the names that edition 2 has room for
abbrev pub name_limit : ℕ
name_limit = 1048576

-- from edition 1 to those after it: a functor's payload, name × 16 + arity, becomes name × 256 + arity
unfoldable pub wider : ℕ → ℕ
wider x = pick (eqb (kind x) 4) (tag 4 (payload x / 16 * 256 + payload x % 16)) x

unfoldable pub name_fits : ℕ → Bool
name_fits x = pick (eqb (kind x) 4) (ltb (payload x / 16) name_limit) true

abbrev pub widening : Recoding
widening = record { code = wider; takes = name_fits }

-- token by token
abbrev pub recoded : Recoding → Word → Word
recoded r w = map r.code w

unfoldable pub takes_word : Recoding → Word → Bool
takes_word r [] = true
takes_word r (x ∷ w) = r.takes x && takes_word r w

-- between the known editions, of which 1 alone has other payloads
abbrev pub recoding_of : ℕ → ℕ → Recoding
recoding_of e d = pick (eqb e 1) (pick (eqb d 1) unchanged widening) unchanged
