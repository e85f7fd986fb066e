-- First children of the subgoal trie lead to the lowest-numbered subgoal: the relation by keys, and what keeps it.
use mathlib.Core.Path.{◌≡◌, sym, ◌∙◌}
use mathlib.Core.Bool.{true, false}
use mathlib.Core.List.{List, [], ◌∷◌, ◌++◌}
use Prim.Native.Nat.{ℕ, suc, ◌≤◌, ◌<◌}
use native.Mathlib.Omega.{arith}
use lib.Dec.{ltb}
use lib.ListN.{length, length-append, get_or-append}
use borrow.Author.Tests.{ltb-true, ltb-false}
use Rattle.basis.proofs.Cases.{by_cases}
use Rattle.plain.specs.Words.{Word, has}
use Rattle.plain.specs.Table.{Table, called_forms}
use Rattle.plain.proofs.PrefixLaws.{begins}
use Rattle.plain.proofs.Keys.{key, Different, has-place, place-has}
use Rattle.plain.proofs.ReasonLaws.{lowest, lowest-some}

-- c is the lowest-numbered node whose key goes on from p's by one token
pub record First (K : List Word) (p : Word) (x c : ℕ) : Type 0 where
  pub inside : c < length K
  pub goes_on : key K c ≡ 0 ∷ (p ++ (x ∷ []))
  pub lowest-of : (i z : ℕ) → i < length K → key K i ≡ 0 ∷ (p ++ (z ∷ [])) → c ≤ i

-- in the subgoal trie, the root apart: below the first child stands a subgoal that is no higher than those below another
abbrev pub Firsts : Table → List Word → Type 0
Firsts t K = (p : Word) (x y c j : ℕ) → 0 < length p → First K p x c → j < length K → key K j ≡ 0 ∷ (p ++ (y ∷ []))
    → lowest t (p ++ (x ∷ [])) ≤ lowest t (p ++ (y ∷ []))

-- ---- keys more, and forms more

module _ (t u : Table) (K L : List Word) (different : Different (K ++ L))
    (members : (a : ℕ) (v : Word) → has K (0 ∷ a ∷ v) ≡ begins (called_forms t.subgoals) (a ∷ v))
    (old : (v : Word) → begins (called_forms t.subgoals) v ≡ true → lowest u v ≡ lowest t v)
    (new : (a : ℕ) (v : Word) → begins (called_forms t.subgoals) (a ∷ v) ≡ false → has (K ++ L) (0 ∷ a ∷ v) ≡ true → lowest u (a ∷ v) ≡ suc (length t.subgoals))
    (firsts : Firsts t K) where
  key-before : (i : ℕ) → i < length K → key (K ++ L) i ≡ key K i
  key-before i h = get_or-append K L [] i h

  -- an old key begins a form, a new one none that was there
  begun-old : (i a : ℕ) (v : Word) → i < length K → key (K ++ L) i ≡ 0 ∷ a ∷ v → begins (called_forms t.subgoals) (a ∷ v) ≡ true
  begun-old i a v h e = sym (members a v) ∙ place-has K (0 ∷ a ∷ v) i h (sym (key-before i h) ∙ e)

  begun-new : (i a : ℕ) (v : Word) → length K ≤ i → i < length (K ++ L) → key (K ++ L) i ≡ 0 ∷ a ∷ v → begins (called_forms t.subgoals) (a ∷ v) ≡ false
  begun-new i a v h l e = by_cases (begins (called_forms t.subgoals) (a ∷ v))
      (λ z. let p = has-place K (0 ∷ a ∷ v) (members a v ∙ z) in
      let q : p.0 ≡ i = different p.0 i (omega (arith, p.1, length-append K L)) l (key-before p.0 p.1 ∙ p.2 ∙ sym e) in
      absurd (omega (arith, p.1)))
      (λ z. z)

  low-new : (i a : ℕ) (v : Word) → length K ≤ i → i < length (K ++ L) → key (K ++ L) i ≡ 0 ∷ a ∷ v → lowest u (a ∷ v) ≡ suc (length t.subgoals)
  low-new i a v h l e = new a v (begun-new i a v h l e) (place-has (K ++ L) (0 ∷ a ∷ v) i l e)

  low-old : (i a : ℕ) (v : Word) → i < length K → key (K ++ L) i ≡ 0 ∷ a ∷ v → (lowest u (a ∷ v) ≡ lowest t (a ∷ v)) × (lowest t (a ∷ v) ≤ length t.subgoals)
  low-old i a v h e = let b = begun-old i a v h e in (old (a ∷ v) b, (lowest-some t (a ∷ v) b).high)

  pub firsts_more : Firsts u (K ++ L)
  firsts_more [] x y c j some f h e = absurd (omega arith)
  firsts_more (a ∷ q) x y c j some f h e = by_cases (ltb c (length K))
      (λ z. let hc : c < length K = ltb-true _ _ z in
      let lc = low-old c a (q ++ (x ∷ [])) hc f.goes_on in
      by_cases (ltb j (length K))
      (λ z'. let hj : j < length K = ltb-true _ _ z' in
      let lj = low-old j a (q ++ (y ∷ [])) hj e in
      let g : First K (a ∷ q) x c = record {
        inside = hc;
        goes_on = sym (key-before c hc) ∙ f.goes_on;
        lowest-of = λ i w hi k. f.lowest-of i w (omega (arith, length-append K L)) (key-before i hi ∙ k);
      } in
      let k = firsts (a ∷ q) x y c j (omega arith) g hj (sym (key-before j hj) ∙ e) in
      omega (arith, lc.0, lj.0))
      (λ z'. let lj = low-new j a (q ++ (y ∷ [])) (ltb-false _ _ z') h e in omega (arith, lc.0, lc.1)))
      (λ z. let hc : length K ≤ c = ltb-false _ _ z in
      let k = f.lowest-of j y h e in
      let lc = low-new c a (q ++ (x ∷ [])) hc f.inside f.goes_on in
      let lj = low-new j a (q ++ (y ∷ [])) (omega arith) h e in
      omega arith)

-- the same forms
pub firsts-forms : (t u : Table) (K : List Word) → ((v : Word) → lowest u v ≡ lowest t v) → Firsts t K → Firsts u K
firsts-forms t u K same f p x y c j some g h e = rw (same (p ++ (x ∷ [])), same (p ++ (y ∷ []))) (f p x y c j some g h e)
