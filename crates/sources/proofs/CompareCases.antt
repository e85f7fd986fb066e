-- A law for each step of comparing a record with those before it, and of the sum over all.
use Prim.Native.Nat.{ℕ, ◌+◌, ◌-◌, ◌≤◌}
use mathlib.Core.Path.{◌≡◌, refl, sym, ap, ◌∙◌, subst}
use mathlib.Core.Bool.{true, false, not}
use mathlib.Core.List.{List, ◌∷◌}
use native.Mathlib.Omega.{arith}
use native.Mathlib.Numerals.{add-one}
use lib.ListN.{length}
use borrow.Author.Tests.{eq-eqb, ne_eqb}
use Rattle.plain.specs.Words.{Word, most, has}
use Rattle.plain.specs.Table.{Answer, answers_to}
use Rattle.plain.proofs.LongestShared.{most-le}
use Rattle.sides.specs.Searches.{MeetsOneMore}
use Rattle.sides.specs.declared.Earlier.{Earlier}
use Rattle.sources.specs.declared.Records.{Records}
use Rattle.sources.specs.declared.Compared.{Compared}
use Rattle.sources.specs.Records.{sum_below, record_at, before, differs_at, brings_at, EarlierTo, MeetsRecord, ComparesTo, Brings}
use Rattle.sources.proofs.PlaceCases.{Gathered}

module _ (y : Answer) (l : List Answer) (s : ℕ) where
  to-other : (y.subgoal ≡ s → ⊥) → answers_to (y ∷ l) s ≡ answers_to l s
  unfolding answers_to
  to-other n = rw (ne_eqb y.subgoal s n) refl

  to_same : y.subgoal ≡ s → answers_to (y ∷ l) s ≡ y.form ∷ answers_to l s
  unfolding answers_to
  to_same e = rw (eq-eqb y.subgoal s e) refl

-- ---- one more

module _ (cs : List ℕ) (x : Records) (j s : ℕ) (w : Word) (a : Earlier) where
  pub meets-other : (o : ℕ) → o ≡ (record_at cs x j).subgoal → (o ≡ s → ⊥) → MeetsRecord cs x j s w a a
  meets-other o e n l q =
      let t = to-other (record_at cs x j) l s (λ z. n (e ∙ z)) in
      (q.0 ∙ ap (λ (k : List Word). most k w) (sym t), q.1 ∙ ap (λ (k : List Word). has k w) (sym t))

  pub meets-same : (o : ℕ) → o ≡ (record_at cs x j).subgoal → o ≡ s → (v : Word) → v ≡ (record_at cs x j).form → (b : Earlier) → MeetsOneMore a v w b → MeetsRecord cs x j s w a b
  meets-same o e n v f b m l q =
      let t : answers_to (record_at cs x j ∷ l) s ≡ v ∷ answers_to l s = to_same (record_at cs x j) l s (sym e ∙ n) ∙ ap (λ (k : Word). k ∷ answers_to l s) (sym f) in
      let r = m (answers_to l s) q.0 q.1 in
      (r.0 ∙ ap (λ (k : List Word). most k w) (sym t), r.1 ∙ ap (λ (k : List Word). has k w) (sym t))

-- ---- all before one

module _ (cs : List ℕ) (x : Records) (s : ℕ) (w : Word) where
  pub earlier-begin : EarlierTo (before cs x 0) s w (record { shared = 0; held = false })
  unfolding before answers_to most has
  earlier-begin = (refl, refl)

  pub earlier_on : (j : ℕ) (a b : Earlier) → EarlierTo (before cs x j) s w a → MeetsRecord cs x j s w a b → EarlierTo (before cs x (j + 1)) s w b
  unfolding before
  earlier_on j a b e m = rw add-one (m (before cs x j) e)

  pub earlier-ended : (i j : ℕ) (a : Earlier) → j ≤ i → i ≤ j → EarlierTo (before cs x j) s w a → EarlierTo (before cs x i) s w a
  earlier-ended i j a l m e = let z : j ≡ i = omega arith in subst (λ (k : ℕ). EarlierTo (before cs x k) s w a) z e

-- ---- a record

-- no more is shared than there is
pub shared-within : (l : List Answer) (s : ℕ) (w : Word) (e : Earlier) → EarlierTo l s w e → e.shared ≤ length w
shared-within l s w e q = omega (arith, q.0, most-le (answers_to l s) w)

module _ (cs : List ℕ) (x : Records) (i k : ℕ) (cells : List ℕ) (g : Gathered (record_at cs x i).form k cells) where
  pub compares : (o : ℕ) → o ≡ (record_at cs x i).subgoal → (w : Word) → w ≡ (record_at cs x i).form → (e : Earlier) → EarlierTo (before cs x i) o w e
      → ComparesTo cs x i (record { tokens = 384 - k - e.shared; held = e.held })
  unfolding brings_at
  compares o q w f e t =
      let u : EarlierTo (before cs x i) (record_at cs x i).subgoal (record_at cs x i).form e =
      subst (λ (v : Word). EarlierTo (before cs x i) (record_at cs x i).subgoal v e) f (subst (λ (s : ℕ). EarlierTo (before cs x i) s w e) q t) in
      (omega (arith, g.size, u.0), omega (arith, g.some), u.1)

  pub fewer : (o : ℕ) (w : Word) → w ≡ (record_at cs x i).form → (e : Earlier) → EarlierTo (before cs x i) o w e → e.shared ≤ 384 - k
  fewer o w f e t = omega (arith, shared-within (before cs x i) o w e t, ap length f, g.size)

module _ (cs : List ℕ) (x : Records) (i : ℕ) (c : Compared) (t : ComparesTo cs x i c) where
  pub differs-not : c.held ≡ true → differs_at cs x i ≡ false
  unfolding differs_at
  differs-not e = ap not (sym t.2 ∙ e)

  pub differs : c.held ≡ false → differs_at cs x i ≡ true
  unfolding differs_at
  differs e = ap not (sym t.2 ∙ e)

  pub brings-on : (sum : ℕ) → Brings cs x i sum → Brings cs x (i + 1) (sum + c.tokens)
  unfolding sum_below
  brings-on sum b = rw add-one (omega (arith, b.0, t.0), omega (arith, b.1, t.1))

pub brings-begin : (cs : List ℕ) (x : Records) → Brings cs x 0 0
unfolding sum_below
brings-begin cs x = (refl, omega arith)

pub brings-ended : (cs : List ℕ) (x : Records) (n i sum : ℕ) → i ≤ n → n ≤ i → Brings cs x i sum → Brings cs x n sum
brings-ended cs x n i sum l m b = let z : i ≡ n = omega arith in subst (λ (k : ℕ). Brings cs x k sum) z b
