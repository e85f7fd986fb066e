-- A law for each step of looking at the names in a form.
use Prim.Native.Nat.{ℕ, ◌+◌, ◌≤◌, ◌<◌}
use mathlib.Core.Path.{◌≡◌, refl, sym, ap, ◌∙◌}
use mathlib.Core.Bool.{true, false, ◌&&◌}
use mathlib.Core.List.{List}
use native.Mathlib.Numerals.{add-one}
use lib.ListN.{length, get_or, drop, drop_of_length-le}
use lib.Seq.{drop-cons}
use Rattle.plain.specs.Words.{Word}
use Rattle.carrying.specs.Recoding.{name_fits, widening, takes_word}
use Rattle.sources.specs.declared.Records.{Records}
use Rattle.sources.specs.Records.{record_at, named_at}

-- what is still to be looked at decides
abbrev pub Rest : Word → ℕ → Type 0
Rest w i = takes_word widening (drop i w) ≡ takes_word widening w

pub rest-begin : (w : Word) → Rest w 0
rest-begin w = refl

module _ (w : Word) (i : ℕ) (r : Rest w i) where
  module _ (h : i < length w) where
    next-is : takes_word widening w ≡ (name_fits (get_or w i 0) && takes_word widening (drop (i + 1) w))
    unfolding takes_word
    next-is = sym r ∙ ap (takes_word widening) (drop-cons w i 0 h) ∙ rw add-one refl

    pub rest-unnamed : name_fits (get_or w i 0) ≡ false → false ≡ takes_word widening w
    rest-unnamed e = rw (next-is, e) refl

    pub rest-on : name_fits (get_or w i 0) ≡ true → Rest w (i + 1)
    rest-on e = rw (next-is, e) refl

  pub rest_ended : length w ≤ i → true ≡ takes_word widening w
  unfolding takes_word
  rest_ended l = ap (takes_word widening) (sym (drop_of_length-le w {i = i} l)) ∙ r

pub named-is : (cs : List ℕ) (x : Records) (i : ℕ) (w : Word) → w ≡ (record_at cs x i).form → takes_word widening w ≡ named_at cs x i
unfolding named_at
named-is cs x i w e = ap (takes_word widening) e
