-- One law for each answer of the function that loads terms.
use Rattle.forms.specs.Places.{placed}
use Rattle.std.specs.Prelude.{None, Some}
use Prim.Native.Nat.{ℕ, suc, zero, ◌*◌, ◌≤◌, ◌<◌}
use mathlib.Core.List.{List, [], ◌∷◌, ◌++◌, append-nil}
use mathlib.Core.Bool.{Bool, true, false}
use mathlib.Core.Logic.{inl, inr}
use mathlib.Core.Path.{◌≡◌, refl, sym, ap, ◌∙◌}
use native.Mathlib.Omega.{arith}
use native.Mathlib.Numerals.{add-one}
use lib.ListN.{length, take, drop, length-append, drop_of_length-le}
use lib.Seq.{sets, take_all}
use lib.Dec.{eqb, leb}
use borrow.Author.Tests.{eqb-true, eq-eqb, ne_eqb, le-leb, lt-leb, leb-true, leb-false}
use Rattle.basis.specs.Choice.{pick}
use Rattle.forms.specs.Cells.{kind, payload, tag, variable, token_of}
use Rattle.forms.specs.Terms.{Term, pairs, every}
use Rattle.forms.specs.Numbering.{rank, seen, met, renamed, numbered}
use Rattle.forms.specs.Compact.{compact, items, front, form_terms, pair_form, same, are_forms, legal_form}
use Rattle.forms.specs.Stored.{compact_stored}
use Rattle.forms.specs.Converting.{loading}
use Rattle.forms.proofs.CompactLaws.{same-length-empty}
use Rattle.forms.proofs.FormLaws.{every-compact-short, every-pairs-least, every-pairs-size}
use Rattle.forms.proofs.ExactLaws.{front-every, forms-every, forms-compact, compact-forms}
use Rattle.forms.proofs.RoundTrip.{same_self, same_true, LegalParts, parts-legal, legal-parts}
use Rattle.pair_reader.specs.Storing.{numbered_from}
use Rattle.form_reader.specs.Loading.{in_order, met_after, ordered, met_in, FormsRan}
use Rattle.convert.specs.Holds.{HoldsTerms}
use Rattle.convert.proofs.ReadingLaws.{numbered-whole, sets-taken}

-- ---- variables in order are numbered by first meeting

-- the first k variables
unfoldable firsts : ℕ → List ℕ
firsts zero = []
firsts (suc k) = firsts k ++ (tag 1 k ∷ [])

firsts-length : (k : ℕ) → length (firsts k) ≡ k
unfolding firsts
firsts-length zero = refl
firsts-length (suc k) = simp length-append (omega (arith, firsts-length k))

rank-snoc : (vs : List ℕ) (y x : ℕ) → rank vs x < length vs → rank (vs ++ (y ∷ [])) x ≡ rank vs x
unfolding rank
rank-snoc [] y x h = absurd (omega arith)
rank-snoc (v ∷ vs) y x h = go (eqb v x) h (λ g. rank-snoc vs y x g)
  where
    go : (b : Bool) → pick b 0 (suc (rank vs x)) < suc (length vs) → (rank vs x < length vs → rank (vs ++ (y ∷ [])) x ≡ rank vs x) → pick b 0 (suc (rank (vs ++ (y ∷ [])) x)) ≡ pick b 0 (suc (rank vs x))
    go true g f = refl
    go false g f = ap suc (f (omega arith))

rank-last : (vs : List ℕ) (y x : ℕ) → rank vs x ≡ length vs → rank (vs ++ (y ∷ [])) x ≡ pick (eqb y x) (length vs) (suc (length vs))
unfolding rank
rank-last [] y x e = refl
rank-last (v ∷ vs) y x e = go (eqb v x) e (λ q. rank-last vs y x q)
  where
    more : (b : Bool) → suc (pick b (length vs) (suc (length vs))) ≡ pick b (suc (length vs)) (suc (suc (length vs)))
    more true = refl
    more false = refl

    go : (b : Bool) → pick b 0 (suc (rank vs x)) ≡ suc (length vs) → (rank vs x ≡ length vs → rank (vs ++ (y ∷ [])) x ≡ pick (eqb y x) (length vs) (suc (length vs)))
        → pick b 0 (suc (rank (vs ++ (y ∷ [])) x)) ≡ pick (eqb y x) (suc (length vs)) (suc (suc (length vs)))
    go true q f = absurd (omega arith)
    go false q f = ap suc (f (omega arith)) ∙ more (eqb y x)

-- a variable whose number is k or more ranks behind the first k, and any other at its number
firsts-rank-out : (k p : ℕ) → k ≤ p → rank (firsts k) (tag 1 p) ≡ k
unfolding firsts rank
firsts-rank-out zero p h = refl
firsts-rank-out (suc k) p h =
    let r : rank (firsts k) (tag 1 p) ≡ length (firsts k) = firsts-rank-out k p (omega arith) ∙ sym (firsts-length k) in
    let n : eqb (tag 1 k) (tag 1 p) ≡ false = ne_eqb (tag 1 k) (tag 1 p) (λ e. omega arith) in
    rank-last (firsts k) (tag 1 k) (tag 1 p) r ∙ rw n (ap suc (firsts-length k))

firsts-rank-in : (k p : ℕ) → p < k → rank (firsts k) (tag 1 p) ≡ p
unfolding firsts
firsts-rank-in zero p h = absurd (omega arith)
firsts-rank-in (suc k) p h = go (leb k p) refl (λ g. firsts-rank-in k p g)
  where
    go : (b : Bool) → leb k p ≡ b → (p < k → rank (firsts k) (tag 1 p) ≡ p) → rank (firsts k ++ (tag 1 k ∷ [])) (tag 1 p) ≡ p
    go true q f =
        let e : k ≡ p = omega (arith, leb-true k p q) in
        let r : rank (firsts k) (tag 1 p) ≡ length (firsts k) = firsts-rank-out k p (omega arith) ∙ sym (firsts-length k) in
        let n : eqb (tag 1 k) (tag 1 p) ≡ true = eq-eqb (tag 1 k) (tag 1 p) (omega arith) in
        rank-last (firsts k) (tag 1 k) (tag 1 p) r ∙ rw n (firsts-length k ∙ e)
    go false q f =
        let e : p < k = leb-false k p q in
        let r : rank (firsts k) (tag 1 p) ≡ p = f e in
        rank-snoc (firsts k) (tag 1 k) (tag 1 p) (omega (arith, firsts-length k)) ∙ r

module _ (k c : ℕ) (v : variable c ≡ true) where
  is-tag : c ≡ tag 1 (payload c)
  is-tag = let e : kind c ≡ 1 = eqb-true (kind c) 1 v in omega arith

  -- a variable met before
  firsts-old : payload c < k → (seen (firsts k) c ≡ firsts (met_after k c)) × (renamed (seen (firsts k) c) c ≡ c)
  unfolding seen renamed met_after
  firsts-old h =
      let r : rank (firsts k) c ≡ payload c = ap (rank (firsts k)) is-tag ∙ firsts-rank-in k (payload c) h in
      let l : leb (length (firsts k)) (rank (firsts k) c) ≡ false = lt-leb (length (firsts k)) (rank (firsts k) c) (omega (arith, firsts-length k)) in
      let n : eqb (payload c) k ≡ false = ne_eqb (payload c) k (λ e. omega arith) in
      rw (v, l, n) (refl, ap (tag 1) r ∙ sym is-tag)

  -- the next variable
  firsts-next : payload c ≡ k → (seen (firsts k) c ≡ firsts (met_after k c)) × (renamed (seen (firsts k) c) c ≡ c)
  unfolding seen renamed met_after firsts
  firsts-next h =
      let t : c ≡ tag 1 k = is-tag ∙ ap (tag 1) h in
      let r : rank (firsts k) c ≡ k = ap (rank (firsts k)) t ∙ firsts-rank-out k k (omega arith) in
      let l : leb (length (firsts k)) (rank (firsts k) c) ≡ true = le-leb (length (firsts k)) (rank (firsts k) c) (omega (arith, firsts-length k)) in
      let n : eqb (payload c) k ≡ true = eq-eqb (payload c) k h in
      let q : rank (firsts k ++ (c ∷ [])) c ≡ k = rank-last (firsts k) c c (r ∙ sym (firsts-length k)) ∙ rw (eq-eqb c c refl) (firsts-length k) in
      rw (v, l, n, add-one) (ap (λ (x : ℕ). firsts k ++ (x ∷ [])) t, ap (tag 1) q ∙ sym t)

  firsts-met : payload c ≤ k → (seen (firsts k) c ≡ firsts (met_after k c)) × (renamed (seen (firsts k) c) c ≡ c)
  firsts-met h = go (leb k (payload c)) refl
    where
      go : (b : Bool) → leb k (payload c) ≡ b → (seen (firsts k) c ≡ firsts (met_after k c)) × (renamed (seen (firsts k) c) c ≡ c)
      go true q = firsts-next (omega (arith, leb-true k (payload c) q))
      go false q = firsts-old (leb-false k (payload c) q)

  -- a variable out of order is renamed
  firsts-unordered : k < payload c → eqb c (renamed (seen (firsts k) c) c) ≡ false
  unfolding seen renamed
  firsts-unordered h =
      let r : rank (firsts k) c ≡ k = ap (rank (firsts k)) is-tag ∙ firsts-rank-out k (payload c) (omega arith) in
      let l : leb (length (firsts k)) (rank (firsts k) c) ≡ true = le-leb (length (firsts k)) (rank (firsts k) c) (omega (arith, firsts-length k)) in
      let q : rank (firsts k ++ (c ∷ [])) c ≡ k = rank-last (firsts k) c c (r ∙ sym (firsts-length k)) ∙ rw (eq-eqb c c refl) (firsts-length k) in
      rw (v, l, q) (ne_eqb c (tag 1 k) (λ e. omega (arith, is-tag)))

ordered_same : (cs : List ℕ) (k : ℕ) → same cs (numbered_from (firsts k) cs) ≡ ordered k cs
unfolding same numbered_from ordered in_order
ordered_same [] k = refl
ordered_same (c ∷ cs) k = go (variable c) refl (λ n. ordered_same cs n)
  where
    met-case : variable c ≡ true → (b : Bool) → leb (payload c) k ≡ b → ((n : ℕ) → same cs (numbered_from (firsts n) cs) ≡ ordered n cs)
        → pick (eqb c (renamed (seen (firsts k) c) c)) (same cs (numbered_from (seen (firsts k) c) cs)) false ≡ pick b (ordered (met_after k c) cs) false
    met-case v true q f =
        let w = firsts-met k c v (leb-true (payload c) k q) in
        rw (w.1, w.0, eq-eqb c c refl) (f (met_after k c))
    met-case v false q f = rw (firsts-unordered k c v (leb-false (payload c) k q))

    other-case : variable c ≡ false → ((n : ℕ) → same cs (numbered_from (firsts n) cs) ≡ ordered n cs)
        → pick (eqb c (renamed (seen (firsts k) c) c)) (same cs (numbered_from (seen (firsts k) c) cs)) false ≡ ordered (met_after k c) cs
    other-case v f = unfold renamed seen met_after in rw (v, eq-eqb c c refl) (f k)

    go : (b : Bool) → variable c ≡ b → ((n : ℕ) → same cs (numbered_from (firsts n) cs) ≡ ordered n cs)
        → pick (eqb c (renamed (seen (firsts k) c) c)) (same cs (numbered_from (seen (firsts k) c) cs)) false ≡ pick (pick b (leb (payload c) k) true) (ordered (met_after k c) cs) false
    go true v f = met-case v (leb (payload c) k) refl f
    go false v f = other-case v f

ordered-met : (cs : List ℕ) (k : ℕ) → ordered k cs ≡ true → met (firsts k) cs ≡ firsts (met_in k cs)
unfolding met ordered in_order met_in
ordered-met [] k h = refl
ordered-met (c ∷ cs) k h = go (variable c) refl h (λ n g. ordered-met cs n g)
  where
    met-case : variable c ≡ true → (b : Bool) → leb (payload c) k ≡ b → pick b (ordered (met_after k c) cs) false ≡ true → ((n : ℕ) → ordered n cs ≡ true → met (firsts n) cs ≡ firsts (met_in n cs))
        → met (seen (firsts k) c) cs ≡ firsts (met_in (met_after k c) cs)
    met-case v true q g f = let w = firsts-met k c v (leb-true (payload c) k q) in rw w.0 (f (met_after k c) g)
    met-case v false q g f = let z : ◌≡◌ {A = ℕ} 0 1 = cc in absurd (omega arith)

    other-case : variable c ≡ false → ordered (met_after k c) cs ≡ true → ((n : ℕ) → ordered n cs ≡ true → met (firsts n) cs ≡ firsts (met_in n cs))
        → met (seen (firsts k) c) cs ≡ firsts (met_in (met_after k c) cs)
    other-case v g f =
        let e : seen (firsts k) c ≡ firsts k = unfold seen in rw v in
        let a : met_after k c ≡ k = unfold met_after in rw v in
        rw (e, a) (f k (rw a at g))

    go : (b : Bool) → variable c ≡ b → pick (pick b (leb (payload c) k) true) (ordered (met_after k c) cs) false ≡ true → ((n : ℕ) → ordered n cs ≡ true → met (firsts n) cs ≡ firsts (met_in n cs))
        → met (seen (firsts k) c) cs ≡ firsts (met_in (met_after k c) cs)
    go true v g f = met-case v (leb (payload c) k) refl g f
    go false v g f = other-case v g f

pub ordered-numbered : (cs : List ℕ) → ordered 0 cs ≡ true → (cs ≡ numbered cs) × (met_in 0 cs ≡ length (met [] cs))
unfolding firsts
ordered-numbered cs h =
    (same_true cs (numbered cs) (rw (numbered-whole cs) (ordered_same cs 0 ∙ h)), sym (ap length (ordered-met cs 0 h) ∙ firsts-length (met_in 0 cs)))

pub unordered-numbered : (cs : List ℕ) → ordered 0 cs ≡ false → cs ≡ numbered cs → ⊥
unfolding firsts
unordered-numbered cs h e =
    let p : same cs (numbered cs) ≡ true = rw (← e) (same_self cs) in
    let q : same cs (numbered cs) ≡ false = rw (numbered-whole cs) (ordered_same cs 0 ∙ h) in
    let z : ◌≡◌ {A = ℕ} 0 1 = cc in omega arith

-- ---- answers

module _ (arity : ℕ → ℕ) (m : ℕ) (s : List ℕ) where
  -- what is no legal form
  none : (LegalParts arity m s → ⊥) → None ≡ loading (compact_stored arity) m s
  unfolding loading
  none f = go (legal_form arity m s) refl
    where
      go : (b : Bool) → legal_form arity m s ≡ b → None ≡ pick (legal_form arity m s) (Some (length (pair_form arity s))) None
      go true e = absurd (f (legal-parts arity m s e))
      go false e = rw e

  pub loading-long : 383 < length s → None ≡ loading (compact_stored arity) m s
  loading-long h = none (λ p.
      let w = forms-compact arity m s p.forms in
      let l : length (every pairs (form_terms arity s)) ≤ 256 = unfold pair_form in p.cells in
      omega (arith, ap length w.1, every-compact-short (form_terms arity s) l))

  -- the cells of a legal form, and that they are within a buffer that has room for the terms
  legal-cells : (limit room : ℕ) → (room < 256 → 2 * length s ≤ room) → (limit < 256 → limit ≡ room) → LegalParts arity m s
      → (m ≤ length (every pairs (form_terms arity s))) × (length (every pairs (form_terms arity s)) ≤ limit)
  legal-cells limit room h g p =
      let w = forms-compact arity m s p.forms in
      let l : length (every pairs (form_terms arity s)) ≤ 256 = unfold pair_form in p.cells in
      let k : m ≤ length (every pairs (form_terms arity s)) = omega (arith, w.0, every-pairs-least (form_terms arity s)) in
      (k, within (leb 256 limit) refl (omega (arith, every-pairs-size (form_terms arity s), ap length w.1)) l)
    where
      within : (b : Bool) → leb 256 limit ≡ b → length (every pairs (form_terms arity s)) ≤ 2 * length s → length (every pairs (form_terms arity s)) ≤ 256 → length (every pairs (form_terms arity s)) ≤ limit
      within true q a l = omega (arith, leb-true 256 limit q)
      within false q a l = let e : limit ≡ room = g (leb-false 256 limit q) in omega (arith, leb-false 256 limit q, h (omega (arith, leb-false 256 limit q)))

  module _ (limit room : ℕ) (h : room < 256 → 2 * length s ≤ room) (g : limit < 256 → limit ≡ room) where
    pub loading-many : limit < m → None ≡ loading (compact_stored arity) m s
    loading-many l = none (λ p. omega (arith, legal-cells limit room h g p))

    pub loading-malformed : (out out' : List ℕ) → FormsRan arity s limit 0 m 0 out 0 out' None → None ≡ loading (compact_stored arity) m s
    unfolding form_terms
    loading-malformed out out' (inl l) = none (λ p.
        let w = forms-compact arity m s p.forms in
        let q : take m (form_terms arity s) ≡ form_terms arity s = take_all m (form_terms arity s) (omega (arith, w.0)) in
        omega (arith, legal-cells limit room h g p, l (omega (arith, w.0)), ap (λ (ts : List Term). length (every pairs ts)) q))
    loading-malformed out out' (inr l) = none (λ p. unordered-numbered s l p.numbers)

  module _ (limit : ℕ) (out out' : List ℕ) (next end known : ℕ) (v : FormsRan arity s limit 0 m 0 out 0 out' (Some (placed next end known))) where
    abbrev ts : List Term
    ts = v.0

    the-terms : form_terms arity s ≡ ts ++ form_terms arity (drop next s)
    unfolding form_terms
    the-terms = ap (λ (l : List ℕ). front (items (token_of arity) l)) v.3.cells ∙ front-every arity ts (drop next s) v.1

    pub loading-left : next < length s → None ≡ loading (compact_stored arity) m s
    loading-left h = none (λ p.
        let w = forms-compact arity m s p.forms in
        let z : form_terms arity (drop next s) ≡ [] = same-length-empty ts (form_terms arity (drop next s)) (sym (ap length the-terms) ∙ w.0 ∙ sym v.2) in
        let e : form_terms arity s ≡ ts = the-terms ∙ rw (z, append-nil) in
        omega (arith, v.3.next-at, ap length w.1, ap (λ (l : List Term). length (every compact l)) e))

    module _ (all : length s ≤ next) where
      the_form : s ≡ every compact ts
      the_form = v.3.cells ∙ rw (drop_of_length-le s {i = next} all, append-nil)

      terms-are : form_terms arity s ≡ ts
      terms-are = ap (form_terms arity) the_form ∙ forms-every arity ts v.1

      are-forms : are_forms arity m s ≡ true
      are-forms = rw the_form (compact-forms arity m ts v.1 v.2)

      the-pairs : pair_form arity s ≡ every pairs ts
      unfolding pair_form
      the-pairs = ap (every pairs) terms-are

      pairs_end : length (pair_form arity s) ≡ end
      pairs_end = ap length the-pairs ∙ (omega (arith, v.3.end-at))

      order_kept : ordered 0 s ≡ true
      order_kept = rw the_form v.3.numbers

      pub variables : known ≡ length (met [] s)
      variables = v.3.known ∙ ap (met_in 0) (sym the_form) ∙ (ordered-numbered s order_kept).1

      pub loading-crowded : 32 < known → None ≡ loading (compact_stored arity) m s
      loading-crowded h = none (λ p. omega (arith, p.variables, variables))

      pub loading-terms : known ≤ 32 → limit ≤ 256 → limit ≤ length out → (Some end ≡ loading (compact_stored arity) m s) × HoldsTerms (compact_stored arity) s out' (Some end)
      unfolding loading
      loading-terms h b k =
          let l : legal_form arity m s ≡ true =
          parts-legal arity m s (record {
            numbers = (ordered-numbered s order_kept).0;
            variables = omega (arith, variables);
            forms = are-forms;
            cells = omega (arith, pairs_end, v.4);
          }) in
          (rw (l, pairs_end), sets-taken out' out (pair_form arity s) end (v.3.wrote ∙ ap (sets out 0) (sym the-pairs)) pairs_end (omega (arith, v.4)))
