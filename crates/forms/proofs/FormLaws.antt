-- Laws of the compact form of terms that stand one after another: its variables, its renaming, its length.
use Prim.Native.Nat.{ℕ, ◌+◌, ◌*◌, ◌^◌, ◌/◌, ◌≤◌, ◌<◌}
use mathlib.Core.List.{List, [], ◌∷◌, ◌++◌, map, map-append}
use mathlib.Core.Bool.{Bool, true, false}
use mathlib.Core.Path.{◌≡◌, refl, sym, ap, ◌∙◌}
use native.Mathlib.Omega.{arith}
use lib.ListN.{length, length-append}
use lib.Dec.{eqb}
use borrow.Author.Tests.{eqb-true, ne_eqb}
use Rattle.basis.specs.Choice.{pick}
use Rattle.forms.specs.Cells.{tag, nil, BLIST, ELIST, EPAIR, variable}
use Rattle.forms.specs.Terms.{Term, cell, arg, pair, pairs, every}
use Rattle.forms.specs.Numbering.{rank, seen, met, renamed}
use Rattle.forms.specs.Compact.{compact, elements}
use Rattle.forms.proofs.ReadLaws.{compact-size}
use Rattle.forms.proofs.NumberingLaws.{mapped, met-append, rank-le}

-- ---- its variables are met in the order of pair form

met-cell : (vs e : List ℕ) (c : ℕ) (b : Bool) → eqb c nil ≡ b → met vs (pick b (ELIST ∷ e) (e ++ (EPAIR ∷ c ∷ []))) ≡ met (met vs e) (c ∷ [])
unfolding met seen
met-cell vs e c true q = rw (eqb-true c nil q)
met-cell vs e c false q = met-append e (EPAIR ∷ c ∷ []) vs

met-both : (x x' y y' vs : List ℕ) → met vs x ≡ met vs x' → met (met vs x') y ≡ met (met vs x') y' → met vs (x ++ y) ≡ met vs (x' ++ y')
met-both x x' y y' vs p q = met-append x y vs ∙ ap (λ (l : List ℕ). met l y) p ∙ q ∙ sym (met-append x' y' vs)

mutual
  unfolding compact pairs met seen

  pub met-compact : (t : Term) (vs : List ℕ) → met vs (compact t) ≡ met vs (pairs t)
  met-compact (cell c) vs = refl
  met-compact (arg f a) vs = met-both (compact f) (pairs f) (compact a) (pairs a) vs (met-compact f vs) (met-compact a (met vs (pairs f)))
  met-compact (pair h t) vs = met-elements t (compact h) vs ∙ ap (λ (l : List ℕ). met l (pairs t)) (met-compact h vs) ∙ sym (met-append (pairs h) (pairs t) vs)

  pub met-elements : (t : Term) (e vs : List ℕ) → met vs (elements e t) ≡ met (met vs e) (pairs t)
  met-elements (cell c) e vs = met-cell vs e c (eqb c nil) refl
  met-elements (arg f a) e vs = met-append e (EPAIR ∷ (compact f ++ compact a)) vs ∙ met-both (compact f) (pairs f) (compact a) (pairs a) (met vs e) (met-compact f (met vs e)) (met-compact a (met (met vs e) (pairs f)))
  met-elements (pair h t) e vs = met-append e (elements (compact h) t) vs ∙ met-elements t (compact h) (met vs e) ∙ ap (λ (l : List ℕ). met l (pairs t)) (met-compact h (met vs e)) ∙ sym (met-append (pairs h) (pairs t) (met vs e))

pub met_every : (ts : List Term) (vs : List ℕ) → met vs (every compact ts) ≡ met vs (every pairs ts)
unfolding every
met_every [] vs = refl
met_every (t ∷ ts) vs = met-both (compact t) (pairs t) (every compact ts) (every pairs ts) vs (met-compact t vs) (met_every ts (met vs (pairs t)))

-- ---- renaming and compacting commute

-- a renaming that keeps the marks of compact form, and makes no [] and unmakes none
pub record KeepsMarks (ρ : ℕ → ℕ) : Type 0 where
  pub begins : ρ BLIST ≡ BLIST
  pub lasts : ρ ELIST ≡ ELIST
  pub tails : ρ EPAIR ≡ EPAIR
  pub empty : (c : ℕ) → eqb (ρ c) nil ≡ eqb c nil

module _ (ρ : ℕ → ℕ) (keeps : KeepsMarks ρ) where
  mapped-cell : (c : ℕ) (e : List ℕ) (b : Bool) → pick b (ELIST ∷ map ρ e) (map ρ e ++ (EPAIR ∷ ρ c ∷ [])) ≡ map ρ (pick b (ELIST ∷ e) (e ++ (EPAIR ∷ c ∷ [])))
  mapped-cell c e true = rw keeps.lasts
  mapped-cell c e false = rw (map-append ρ e (EPAIR ∷ c ∷ []), keeps.tails)

  mutual
    unfolding compact mapped

    pub compact-mapped : (t : Term) → compact (mapped ρ t) ≡ map ρ (compact t)
    compact-mapped (cell c) = refl
    compact-mapped (arg f a) = rw (compact-mapped f, compact-mapped a, map-append ρ (compact f) (compact a))
    compact-mapped (pair h t) = rw (keeps.begins, compact-mapped h, elements-mapped t (compact h))

    elements-mapped : (t : Term) (e : List ℕ) → elements (map ρ e) (mapped ρ t) ≡ map ρ (elements e t)
    elements-mapped (cell c) e = rw (keeps.empty c) (mapped-cell c e (eqb c nil))
    elements-mapped (arg f a) e = rw (map-append ρ e (EPAIR ∷ (compact f ++ compact a)), keeps.tails, map-append ρ (compact f) (compact a), compact-mapped f, compact-mapped a)
    elements-mapped (pair h t) e = rw (map-append ρ e (elements (compact h) t), compact-mapped h, elements-mapped t (compact h))

  pub every-mapped : (ts : List Term) → every compact (map (mapped ρ) ts) ≡ map ρ (every compact ts)
  unfolding every
  every-mapped [] = refl
  every-mapped (t ∷ ts) = rw (map-append ρ (compact t) (every compact ts), compact-mapped t, every-mapped ts)

renamed-nil : (c r : ℕ) (b : Bool) → variable c ≡ b → r < 2 ^ 28 → eqb (pick b (tag 1 r) c) nil ≡ eqb c nil
renamed-nil c r true q h =
    let e : c / 2 ^ 28 ≡ 1 = eqb-true (c / 2 ^ 28) 1 q in
    rw (ne_eqb (tag 1 r) nil (λ z. omega arith), ne_eqb c nil (λ z. omega arith))
renamed-nil c r false q h = refl

pub renamed_keeps : (vs : List ℕ) → length vs < 2 ^ 28 → KeepsMarks (renamed vs)
unfolding renamed
renamed_keeps vs h =
    record { begins = refl; lasts = refl; tails = refl; empty = λ c. renamed-nil c (rank vs c) (variable c) refl (omega (arith, rank-le vs c)) }

-- ---- its length

pub every-compact-size : (ts : List Term) → 2 * length (every compact ts) + length ts ≤ 3 * length (every pairs ts)
unfolding every
every-compact-size [] = omega arith
every-compact-size (t ∷ ts) = simp length-append (omega (arith, compact-size t, every-compact-size ts))

pub every-compact-short : (ts : List Term) → length (every pairs ts) ≤ 256 → length (every compact ts) ≤ 383
unfolding every
every-compact-short [] h = omega arith
every-compact-short (t ∷ ts) h = omega (arith, every-compact-size (t ∷ ts))

-- a pair form has at most 2s - 1 cells for a compact form of s tokens
elements-room-cell : (c : ℕ) (e : List ℕ) (b : Bool) → 2 * length e + 1 ≤ 2 * length (pick b (ELIST ∷ e) (e ++ (EPAIR ∷ c ∷ [])))
elements-room-cell c e true = omega arith
elements-room-cell c e false = simp length-append (omega arith)

mutual
  unfolding compact pairs

  pub pairs-size : (t : Term) → length (pairs t) + 1 ≤ 2 * length (compact t)
  pairs-size (cell c) = omega arith
  pairs-size (arg f a) = simp length-append (omega (arith, pairs-size f, pairs-size a))
  pairs-size (pair h t) = simp length-append (omega (arith, pairs-size h, elements-room t (compact h)))

  pub elements-room : (t : Term) (e : List ℕ) → length (pairs t) + 2 * length e ≤ 2 * length (elements e t)
  elements-room (cell c) e = omega (arith, elements-room-cell c e (eqb c nil))
  elements-room (arg f a) e = simp length-append (omega (arith, pairs-size f, pairs-size a, length-append (compact f) (compact a)))
  elements-room (pair h t) e = simp length-append (omega (arith, pairs-size h, elements-room t (compact h)))

-- a term has a cell and a token
pub every-pairs-least : (ts : List Term) → length ts ≤ length (every pairs ts)
unfolding every
every-pairs-least [] = omega arith
every-pairs-least (t ∷ ts) = simp length-append (omega (arith, compact-size t, every-pairs-least ts))

pub every-compact-least : (ts : List Term) → length ts ≤ length (every compact ts)
unfolding every
every-compact-least [] = omega arith
every-compact-least (t ∷ ts) = simp length-append (omega (arith, pairs-size t, every-compact-least ts))

pub every-pairs-size : (ts : List Term) → length (every pairs ts) + length ts ≤ 2 * length (every compact ts)
unfolding every
every-pairs-size [] = omega arith
every-pairs-size (t ∷ ts) = simp length-append (omega (arith, pairs-size t, every-pairs-size ts))
