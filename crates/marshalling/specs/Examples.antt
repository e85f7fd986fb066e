-- Examples of the exports, computed.
use Rattle.std.specs.Prelude.{ℕ, ◌+◌, ◌^◌, List, [], ◌∷◌, ◌++◌, ◌≡◌, refl}
use Rattle.forms.specs.Cells.{arity_of, shape_of, symbolic, token_of}
use Rattle.forms.specs.Terms.{pairs, every, applied, paired, begun, reads, are_terms}
use Rattle.forms.specs.Numbering.{rank, seen, met, renamed, numbered}
use Rattle.forms.specs.Compact.{compact, elements, compact_form, filled, last_of, tail_of, inside, into, collected}
use Rattle.forms.specs.Compact.{whole, entered, items, front, form_terms, pair_form, same, are_forms, legal_form}
use Rattle.forms.specs.Converting.{reading, loading, fitting, fitting_form, fitting_terms, compacting, expanding}
use Rattle.forms.specs.Stored.{compact_stored}
use Rattle.marshalling.specs.Bytes.{cells_of, bytes_of}
use Rattle.marshalling.specs.Export.{outcome, returned, written_bytes, outcome_of, exported}
use Rattle.marshalling.specs.Export.{compact_bytes, expand_bytes}

-- [1|2] in pair form, and in compact form (M6)
abbrev pair12 : List ℕ
pair12 = 0 ∷ 0 ∷ 0 ∷ 80 ∷ 1 ∷ 0 ∷ 0 ∷ 48 ∷ 2 ∷ 0 ∷ 0 ∷ 48 ∷ []

abbrev form12 : List ℕ
form12 = 0 ∷ 0 ∷ 0 ∷ 96 ∷ 1 ∷ 0 ∷ 0 ∷ 48 ∷ 0 ∷ 0 ∷ 0 ∷ 128 ∷ 2 ∷ 0 ∷ 0 ∷ 48 ∷ []

-- an out of seventeen bytes, and one of fifteen
abbrev lent17 : List ℕ
lent17 = 9 ∷ 9 ∷ 9 ∷ 9 ∷ 9 ∷ 9 ∷ 9 ∷ 9 ∷ 9 ∷ 9 ∷ 9 ∷ 9 ∷ 9 ∷ 9 ∷ 9 ∷ 9 ∷ 7 ∷ []

abbrev lent15 : List ℕ
lent15 = 9 ∷ 9 ∷ 9 ∷ 9 ∷ 9 ∷ 9 ∷ 9 ∷ 9 ∷ 9 ∷ 9 ∷ 9 ∷ 9 ∷ 9 ∷ 9 ∷ 9 ∷ []

pub exports :
    -- twelve bytes become sixteen, and the one behind them stays
    (compact_bytes (arity_of 1) (compact_stored (arity_of 1)) pair12 lent17 ≡ outcome 4 (form12 ++ (7 ∷ [])))
    -- sixteen become twelve, and the three behind them stay
    × (expand_bytes (compact_stored (arity_of 1)) form12 lent15 ≡ outcome 3 (pair12 ++ (9 ∷ 9 ∷ 9 ∷ [])))
    -- fifteen bytes are room for three cells
    × (compact_bytes (arity_of 1) (compact_stored (arity_of 1)) pair12 lent15 ≡ outcome (2 ^ 31 + 12) lent15)
    -- a byte count of 5 is 3
    × (compact_bytes (arity_of 1) (compact_stored (arity_of 1)) (0 ∷ 0 ∷ 0 ∷ 80 ∷ 1 ∷ []) lent15
    ≡ outcome (2 ^ 31 + 3) lent15)
    × (expand_bytes (compact_stored (arity_of 1)) (0 ∷ 0 ∷ 0 ∷ 80 ∷ 1 ∷ []) lent15 ≡ outcome (2 ^ 31 + 3) lent15)
unfolding cells_of bytes_of returned written_bytes outcome_of exported compact_bytes expand_bytes compact_form reading
    loading fitting_form fitting_terms compacting expanding legal_form are_terms are_forms fitting pair_form form_terms
    front symbolic token_of items entered filled last_of tail_of into inside collected whole reads begun applied paired
    shape_of every compact elements pairs numbered renamed met seen rank same
exports = (refl, refl, refl, refl, refl)
