-- Laws of recoding a form in place, and of the pass over the nodes.
use Prim.Native.Nat.{ℕ, zero, suc, ◌+◌, ◌≤◌, ◌<◌}
use mathlib.Core.Path.{◌≡◌, refl, sym, ap, ◌∙◌}
use mathlib.Core.Bool.{Bool, true, false}
use mathlib.Core.List.{List, [], ◌∷◌, map}
use native.Mathlib.Omega.{arith}
use native.Mathlib.Nat.{le_of_suc-le-suc}
use lib.Dec.{eqb, ltb}
use lib.ListN.{length, get_or, set, length-map, get_or-map}
use lib.Seq.{ext_get_or, get_or-set_same, get_or-set_other}
use borrow.Author.Tests.{eqb-true, eqb-false, lt-ltb, le-ltb, ltb-true, ltb-false}
use Rattle.basis.specs.Choice.{pick}
use Rattle.basis.proofs.Cases.{by_cases}
use Rattle.space.specs.declared.Head.{Head}
use Rattle.store.specs.Clauses.{view_in}
use Rattle.agreement.specs.Whole.{every_below}
use Rattle.agreement.proofs.WholeTests.{and_both}
use Rattle.carrying.specs.Recoding.{wider, name_fits, widening, recoded, takes_word}
use Rattle.carrying.specs.Quick.{takes_nodes}
use Rattle.sources.proofs.PassLaws.{pass-fails}

-- ---- in place

-- the first i tokens are recoded
abbrev pub Turned : List ℕ → ℕ → List ℕ → Type 0
Turned before i form = (j : ℕ) → get_or form j 0 ≡ pick (ltb j i) (wider (get_or before j 0)) (get_or before j 0)

pub turned-begin : (before : List ℕ) → Turned before 0 before
turned-begin before j = rw (le-ltb j 0 (omega arith))

-- the next one as it still stands
pub turned-at : (before form : List ℕ) (i : ℕ) → Turned before i form → get_or form i 0 ≡ get_or before i 0
turned-at before form i t = t i ∙ rw (le-ltb i i (omega arith))

pub turned_on : (before form : List ℕ) (i x : ℕ) → i < length form → x ≡ wider (get_or before i 0) → Turned before i form → Turned before (i + 1) (set form i x)
turned_on before form i x h e t j = by_cases (eqb j i)
    (λ q. let z : j ≡ i = eqb-true j i q in
    rw (z, lt-ltb i (i + 1) (omega arith)) (get_or-set_same form i x 0 h ∙ e))
    (λ q. let z : j ≡ i → ⊥ = eqb-false j i q in
    get_or-set_other form i j x 0 z ∙ t j ∙ ap (λ (b : Bool). pick b (wider (get_or before j 0)) (get_or before j 0)) (same i j z))
  where
    same : (i j : ℕ) → (j ≡ i → ⊥) → ltb j i ≡ ltb j (i + 1)
    same i j z = by_cases (ltb j i)
        (λ q. let l : j < i = ltb-true j i q in q ∙ sym (lt-ltb j (i + 1) (omega arith)))
        (λ q. let l : i ≤ j = ltb-false j i q in q ∙ sym (le-ltb j (i + 1) (omega arith)))

wider-none : wider 0 ≡ 0
unfolding wider
wider-none = refl

pub turned-ended : (before form : List ℕ) (i : ℕ) → length before ≤ i → length form ≡ length before → Turned before i form → form ≡ recoded widening before
turned-ended before form i h n t =
    ext_get_or 0 form (map wider before) (n ∙ sym (length-map before wider)) (λ j l.
    t j ∙ rw (lt-ltb j i (omega arith)) (sym (ap (get_or (map wider before) j) (sym wider-none) ∙ get_or-map wider before j 0)))

pub taken_at : (w : List ℕ) → takes_word widening w ≡ true → (i : ℕ) → i < length w → name_fits (get_or w i 0) ≡ true
unfolding takes_word
taken_at [] e i h = absurd (omega arith)
taken_at (x ∷ w) e zero h = (and_both (name_fits x) (takes_word widening w) e).0
taken_at (x ∷ w) e (suc i) h = taken_at w (and_both (name_fits x) (takes_word widening w) e).1 i (le_of_suc-le-suc h)

-- ---- the pass

-- the token of node i is named
abbrev pub token_named : List ℕ → Head → ℕ → Bool
token_named cs h i = name_fits ((view_in cs h).node i).token

pub nodes-unnamed : (cs : List ℕ) (h : Head) (i : ℕ) → i < h.nodes → token_named cs h i ≡ false → false ≡ takes_nodes widening (view_in cs h)
unfolding takes_nodes
nodes-unnamed cs h i l e = sym (pass-fails (token_named cs h) h.nodes i l e)

pub nodes-named : (cs : List ℕ) (h : Head) (i : ℕ) → i ≤ h.nodes → h.nodes ≤ i → every_below (token_named cs h) i ≡ true → true ≡ takes_nodes widening (view_in cs h)
unfolding takes_nodes
nodes-named cs h i l m e = let z : i ≡ h.nodes = omega arith in sym (rw z at e)
