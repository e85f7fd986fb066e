-- One law for each branch of the term reader and the list reader of pair form.
use Rattle.forms.specs.Places.{placed}
use Rattle.forms.specs.declared.Place.{Place}
use Rattle.std.specs.Prelude.{None, Option, Some}
use Prim.Native.Nat.{ℕ, suc, zero, ◌+◌, ◌*◌, ◌-◌, ◌≤◌, ◌<◌}
use mathlib.Core.List.{List, [], ◌∷◌, ◌++◌, append-nil}
use mathlib.Core.Bool.{Bool, true, false}
use mathlib.Core.Path.{◌≡◌, refl, sym, ap, ◌∙◌, subst}
use native.Mathlib.Omega.{arith}
use native.Mathlib.Nat.{not-suc-le-zero}
use native.Mathlib.Numerals.{add-one}
use lib.ListN.{length, take, drop, get_or, set, length-append, length-drop, drop_of_length-le}
use lib.Seq.{sets, drop-cons, drop-drop, length-take-le}
use lib.Dec.{leb}
use borrow.Author.Tests.{ne_eqb, leb-true, leb-false}
use Rattle.forms.specs.declared.Shape.{Shape}
use Rattle.forms.specs.declared.Shape.TheVariants.{Symbol, Pair, Illegal}
use Rattle.forms.specs.Cells.{shape_of, nil, PAIR, BLIST, ELIST, EPAIR}
use Rattle.forms.specs.Terms.{Term, cell, arg, pairs, every, applied, paired, begun, reads}
use Rattle.forms.specs.Due.{due_after}
use Rattle.forms.specs.Compact.{compact, elements}
use Rattle.forms.proofs.ShapeLaws.{pair-cell-of}
use Rattle.forms.proofs.ReadLaws.{applied-short, applied-length, applied-every, pairs-joins, compact-joins, compact-size, reads-after, reads-within}
use Rattle.forms.proofs.DueLaws.{due-after}
use Rattle.forms.proofs.NumberingLaws.{met-length}
use Rattle.forms.proofs.FormLaws.{met-compact, every-pairs-least}
use Rattle.pair_reader.specs.Storing.{Stored, terms_at, TermsRan, ListRan, elements_of}
use Rattle.pair_reader.proofs.StoringLaws.{stored-none, stored-cell, stored-append, stored_last}

module _ (arity : ℕ → ℕ) (s : List ℕ) where
  -- ---- the terms at a place

  pub at-cons : (at : ℕ) → at < length s → terms_at arity s at ≡ begun (shape_of arity (get_or s at 0)) (get_or s at 0) (terms_at arity s (at + 1))
  unfolding reads
  at-cons at h = rw (drop-cons s at 0, add-one)

  pub at-end : (at : ℕ) → length s ≤ at → terms_at arity s at ≡ []
  unfolding reads
  at-end at h = rw (drop_of_length-le s {i = at} h)

  pub at_after : (at n next : ℕ) → n ≤ length (terms_at arity s at) → next ≡ at + length (every pairs (take n (terms_at arity s at))) → terms_at arity s next ≡ drop n (terms_at arity s at)
  at_after at n next h e =
      ap (terms_at arity s) e ∙ ap (reads (shape_of arity)) (sym (drop-drop (length (every pairs (take n (terms_at arity s at)))) at s))
      ∙ reads-after (shape_of arity) (pair-cell-of arity) (drop at s) n h

  -- ---- the term reader

  pub terms-none : (at n : ℕ) (vars : List ℕ) (count : ℕ) (out : List ℕ) (to : ℕ) → n ≡ 0 → count ≤ length vars → TermsRan arity s at n vars count out to vars out (Some (placed at to count))
  unfolding every
  terms-none at n vars count out to e h = rw e (omega arith, omega arith, stored-none vars count out to h)

  pub terms-end : (at n : ℕ) → 0 < n → length s ≤ at → length (terms_at arity s at) < n
  terms-end at n f h = rw (at-end at h) (omega arith)

  -- n terms have as many cells at least
  pub terms-few : (n : ℕ) → length s < n → length (terms_at arity s 0) < n
  terms-few n h = go (leb n (length (terms_at arity s 0))) refl
    where
      go : (b : Bool) → leb n (length (terms_at arity s 0)) ≡ b → length (terms_at arity s 0) < n
      go true e =
          let k : n ≤ length (terms_at arity s 0) = leb-true _ _ e in
          absurd (omega (arith, reads-within (shape_of arity) (pair-cell-of arity) (drop 0 s) n k, every-pairs-least (take n (terms_at arity s 0)), length-take-le n (terms_at arity s 0) k, length-drop 0 s))
      go false e = leb-false _ _ e

  module _ (at n : ℕ) (some : 0 < n) (h : at < length s) where
    pub terms-illegal : shape_of arity (get_or s at 0) ≡ Illegal → length (terms_at arity s at) < n
    unfolding begun
    terms-illegal e = rw (at-cons at h, e) (omega arith)

    at_symbol : (k : ℕ) → shape_of arity (get_or s at 0) ≡ Symbol k → terms_at arity s at ≡ applied k (cell (get_or s at 0)) (terms_at arity s (at + 1))
    unfolding begun
    at_symbol k e = rw (at-cons at h, e)

    at_pair : shape_of arity (get_or s at 0) ≡ Pair → terms_at arity s at ≡ paired (terms_at arity s (at + 1))
    unfolding begun
    at_pair e = rw (at-cons at h, e)

    few : (k : ℕ) (f : Term) (ts : List Term) (b : Bool) → leb k (length ts) ≡ b → length ts < k + (n - 1) → length (applied k f ts) < n
    few k f ts true q g = omega (arith, applied-length k f ts (leb-true _ _ q))
    few k f ts false q g = rw (applied-short k f ts (leb-false _ _ q)) (omega arith)

    single : (ts : List Term) → length ts < 2 → length (paired ts) < n
    unfolding paired
    single [] g = omega arith
    single (x ∷ []) g = omega arith
    single (x ∷ y ∷ ts) g = omega arith

    pub terms-pair-short : shape_of arity (get_or s at 0) ≡ Pair → length (terms_at arity s (at + 1)) < 2 → length (terms_at arity s at) < n
    terms-pair-short e g = rw (at_pair e) (single (terms_at arity s (at + 1)) g)

    module _ (vars : List ℕ) (count : ℕ) (out : List ℕ) (to : ℕ) (vars' out' : List ℕ) where
      symbol-ran : (vars₁ : List ℕ) (count₁ : ℕ) (out₁ : List ℕ) (to₁ k : ℕ) (ts : List Term) (m : ℕ) → n ≡ suc m → (r : Option Place)
          → terms_at arity s at ≡ applied k (cell (get_or s at 0)) ts → terms_at arity s (at + 1) ≡ ts
          → Stored (get_or s at 0 ∷ []) vars count out to vars₁ count₁ out₁ to₁
          → TermsRan arity s (at + 1) (k + m) vars₁ count₁ out₁ to₁ vars' out' r → TermsRan arity s at n vars count out to vars' out' r
      unfolding pairs compact
      symbol-ran vars₁ count₁ out₁ to₁ k ts m p (Some place) e e' v w =
          let c : ℕ = get_or s at 0 in
          let w₁ : k + m ≤ length ts = rw e' at w.0 in
          let l : k ≤ length ts = omega arith in
          let x : place.at ≡ at + 1 + length (every pairs (take (k + m) ts)) = rw e' at w.1 in
          let u : Stored (every compact (take (k + m) ts)) vars₁ count₁ out₁ to₁ vars' place.count out' place.to = rw e' at w.2 in
          rw (e, p) (
            omega (arith, applied-length k (cell c) ts l),
            rw (applied-every pairs pairs-joins k m (cell c) ts l) (omega arith),
            rw (applied-every compact compact-joins k m (cell c) ts l) (stored-append (c ∷ []) (every compact (take (k + m) ts)) vars count out to vars₁ count₁ out₁ to₁ vars' place.count out' place.to v u),
          )
      symbol-ran vars₁ count₁ out₁ to₁ k ts m p None e e' v w =
          let w₁ : length ts < k + (n - 1) = omega (arith, rw e' at w) in
          rw e (few k (cell (get_or s at 0)) ts (leb k (length ts)) refl w₁)

      -- a symbol is stored, and its arguments are due
      pub terms-symbol : (vars₁ : List ℕ) (count₁ : ℕ) (out₁ : List ℕ) (to₁ k due : ℕ) (r : Option Place) → shape_of arity (get_or s at 0) ≡ Symbol k → due ≡ due_after n k
          → Stored (get_or s at 0 ∷ []) vars count out to vars₁ count₁ out₁ to₁
          → TermsRan arity s (at + 1) due vars₁ count₁ out₁ to₁ vars' out' r → TermsRan arity s at n vars count out to vars' out' r
      terms-symbol vars₁ count₁ out₁ to₁ k due r e d v w =
          symbol-ran vars₁ count₁ out₁ to₁ k (terms_at arity s (at + 1)) (n - 1) (omega arith) r (at_symbol k e) refl v (subst (λ x. TermsRan arity s (at + 1) x vars₁ count₁ out₁ to₁ vars' out' r) (d ∙ due-after n k some) w)

  module _ (at : ℕ) (vars : List ℕ) (count : ℕ) (out : List ℕ) (to : ℕ) (vars₁ : List ℕ) (count₁ : ℕ) (out₁ : List ℕ) (next end : ℕ) where
    pair-ran : (ts : List Term) → terms_at arity s at ≡ paired ts → 2 ≤ length ts → next ≡ at + 1 + length (every pairs (take 2 ts))
        → Stored (BLIST ∷ elements_of ts) vars count out to vars₁ count₁ out₁ end → TermsRan arity s at 1 vars count out to vars₁ out₁ (Some (placed next end count₁))
    unfolding pairs compact paired every elements_of
    pair-ran [] e g q v = absurd (not-suc-le-zero g)
    pair-ran (x ∷ []) e g q v = absurd (omega arith)
    pair-ran (x ∷ y ∷ ts) e g q v = rw e (omega arith, simp length-append (omega (arith, simp length-append at q)), rw append-nil v)

    -- a list is stored, which is one term
    pub terms-pair : at < length s → shape_of arity (get_or s at 0) ≡ Pair → count ≤ length vars
        → ListRan arity s (at + 1) vars count (set out to BLIST) (to + 1) vars₁ out₁ (Some (placed next end count₁)) → TermsRan arity s at 1 vars count out to vars₁ out₁ (Some (placed next end count₁))
    terms-pair h e g v =
        pair-ran (terms_at arity s (at + 1)) (at_pair at 1 (omega arith) h e) v.0 v.1
        (stored-append (BLIST ∷ []) (elements_of (terms_at arity s (at + 1))) vars count out to vars count (set out to BLIST) (to + 1) vars₁ count₁ out₁ end (stored-cell vars count out to BLIST refl g) v.2)

  -- ---- behind one term: the others, or the rest of the list that it is an element of

  -- a term that a list may end in behind EPAIR
  Ending : Term → Type 0
  Ending t = (e : List ℕ) → elements e t ≡ e ++ (EPAIR ∷ compact t)

  ending-cell : (c : ℕ) → (c ≡ nil → ⊥) → Ending (cell c)
  unfolding Ending elements
  ending-cell c f e = rw (ne_eqb c nil f)

  ending-arg : (f a : Term) → Ending (arg f a)
  unfolding Ending elements
  ending-arg f a e = refl

  ending-applied : (k : ℕ) (f t : Term) (ts us : List Term) → Ending f → applied k f ts ≡ t ∷ us → Ending t
  unfolding applied
  ending-applied zero f t ts us p e = let z : f ≡ t = cc in subst Ending z p
  ending-applied (suc k) f t [] us p e = let z : ◌≡◌ {A = ℕ} 0 1 = cc in absurd (omega arith)
  ending-applied (suc k) f t (a ∷ ts) us p e = ending-applied k (arg f a) t ts us (ending-arg f a) e

  ending-begun : (c : ℕ) (q : Shape) (t : Term) (ts us : List Term) → (c ≡ nil → ⊥) → (q ≡ Pair → ⊥) → begun q c ts ≡ t ∷ us → Ending t
  unfolding begun
  ending-begun c (Symbol k) t ts us f g e = ending-applied k (cell c) t ts us (ending-cell c f) e
  ending-begun c Pair t ts us f g e = absurd (g refl)
  ending-begun c Illegal t ts us f g e = let z : ◌≡◌ {A = ℕ} 0 1 = cc in absurd (omega arith)

  first : (ts us : List Term) → 1 ≤ length ts → us ≡ drop 1 ts → (t : Term) × (ts ≡ t ∷ us)
  first [] us h e = absurd (not-suc-le-zero h)
  first (t ∷ ts) us h e = (t, rw e)

  module _ (at : ℕ) (vars : List ℕ) (count : ℕ) (out : List ℕ) (to : ℕ) (vars₁ : List ℕ) (count₁ : ℕ) (out₁ : List ℕ) (next end : ℕ)
      (v : TermsRan arity s at 1 vars count out to vars₁ out₁ (Some (placed next end count₁))) where
    -- the term, and what stands behind it
    element : (t : Term) × (terms_at arity s at ≡ t ∷ terms_at arity s next)
    element = first (terms_at arity s at) (terms_at arity s next) v.0 (at_after at 1 next v.0 v.1)

    pub list-short : length s ≤ next → length (terms_at arity s at) < 2
    list-short h = rw (element.1, at-end next h) (omega arith)

    module _ (x : Term) (us : List Term) (e : terms_at arity s at ≡ x ∷ us) (e' : terms_at arity s next ≡ us) where
      first_next : next ≡ at + length (pairs x)
      unfolding every
      first_next = let q : next ≡ at + length (pairs x ++ []) = rw e at v.1 in rw append-nil at q

      first-stored : Stored (compact x) vars count out to vars₁ count₁ out₁ end
      unfolding every
      first-stored = let q : Stored (compact x ++ []) vars count out to vars₁ count₁ out₁ end = rw e at v.2 in rw append-nil at q

      one-ran : (vars' out' : List ℕ) (m : ℕ) (r : Option Place) → TermsRan arity s next m vars₁ count₁ out₁ end vars' out' r → TermsRan arity s at (suc m) vars count out to vars' out' r
      unfolding every
      one-ran vars' out' m (Some place) w =
          let k : m ≤ length us = rw e' at w.0 in
          let l : place.at ≡ next + length (every pairs (take m us)) = rw e' at w.1 in
          let o : Stored (every compact (take m us)) vars₁ count₁ out₁ end vars' place.count out' place.to = rw e' at w.2 in
          rw e (
            omega arith,
            simp length-append (omega (arith, first_next)),
            stored-append (compact x) (every compact (take m us)) vars count out to vars₁ count₁ out₁ end vars' place.count out' place.to first-stored o,
          )
      one-ran vars' out' m None w = let k : length us < m = rw e' at w in rw e (omega arith)

      nil-ran : (out' : List ℕ) (ts : List Term) → us ≡ cell nil ∷ ts → end < length out
          → out' ≡ sets out₁ to (ELIST ∷ take (end - to) (drop to out₁)) → ListRan arity s at vars count out to vars₁ out' (Some (placed (next + 1) (end + 1) count₁))
      unfolding elements_of elements every pairs
      nil-ran out' ts p h w =
          rw (e, p)
          (omega arith, simp length-append (omega (arith, first_next)), stored_last (compact x) vars count out to vars₁ count₁ out₁ end out' first-stored h w)

      more-ran : (vars' out' : List ℕ) (ts : List Term) (r : Option Place) → us ≡ paired ts → terms_at arity s (next + 1) ≡ ts
          → ListRan arity s (next + 1) vars₁ count₁ out₁ end vars' out' r → ListRan arity s at vars count out to vars' out' r
      unfolding elements_of elements every pairs paired
      more-ran vars' out' [] (Some place) p q w = absurd (not-suc-le-zero (rw q at w.0))
      more-ran vars' out' (y ∷ []) (Some place) p q w = let z : 2 ≤ 1 = rw q at w.0 in absurd (omega arith)
      more-ran vars' out' (y ∷ u ∷ ts) (Some place) p q w =
          let l : place.at ≡ next + 1 + length (pairs y ++ (pairs u ++ [])) = rw q at w.1 in
          let m : Stored (elements (compact y) u) vars₁ count₁ out₁ end vars' place.count out' place.to = rw q at w.2 in
          rw (e, p) (
            omega arith,
            simp length-append (omega (arith, first_next, simp length-append at l)),
            stored-append (compact x) (elements (compact y) u) vars count out to vars₁ count₁ out₁ end vars' place.count out' place.to first-stored m,
          )
      more-ran vars' out' [] None p q w = rw (e, p) (omega arith)
      more-ran vars' out' (y ∷ []) None p q w = rw (e, p) (omega arith)
      more-ran vars' out' (y ∷ u ∷ ts) None p q w = let z : suc (suc (length ts)) < 2 = rw q at w in absurd (omega arith)

      tail-ran : (vars' out' : List ℕ) (ts : List Term) (r : Option Place) → us ≡ ts → ((t : Term) (ts' : List Term) → ts ≡ t ∷ ts' → Ending t) → count₁ ≤ length vars₁
          → TermsRan arity s next 1 vars₁ count₁ (set out₁ end EPAIR) (end + 1) vars' out' r → ListRan arity s at vars count out to vars' out' r
      unfolding elements_of every Ending
      tail-ran vars' out' [] (Some place) p f g w = absurd (not-suc-le-zero (rw (e', p) at w.0))
      tail-ran vars' out' (t ∷ ts) (Some place) p f g w =
          let l : place.at ≡ next + length (pairs t ++ []) = rw (e', p) at w.1 in
          let m : Stored (compact t ++ []) vars₁ count₁ (set out₁ end EPAIR) (end + 1) vars' place.count out' place.to = rw (e', p) at w.2 in
          let m' : Stored (compact t) vars₁ count₁ (set out₁ end EPAIR) (end + 1) vars' place.count out' place.to = rw append-nil at m in
          let o : Stored (EPAIR ∷ compact t) vars₁ count₁ out₁ end vars' place.count out' place.to =
          stored-append (EPAIR ∷ []) (compact t) vars₁ count₁ out₁ end vars₁ count₁ (set out₁ end EPAIR) (end + 1) vars' place.count out' place.to (stored-cell vars₁ count₁ out₁ end EPAIR refl g) m' in
          rw (e, p) (
            omega arith,
            simp length-append (omega (arith, first_next, simp length-append at l)),
            rw (f t ts refl (compact x)) (stored-append (compact x) (EPAIR ∷ compact t) vars count out to vars₁ count₁ out₁ end vars' place.count out' place.to first-stored o),
          )
      tail-ran vars' out' [] None p f g w = rw (e, p) (omega arith)
      tail-ran vars' out' (t ∷ ts) None p f g w = let z : suc (length ts) < 1 = rw (e', p) at w in absurd (omega arith)

      first_count : count ≤ length vars → count₁ ≤ count + length (pairs x)
      first_count h =
          omega (arith, first-stored.count_at, ap length (met-compact x (take count vars)), met-length (pairs x) (take count vars), length-take-le count vars h)

    -- it is one of n terms, and the others follow
    pub terms-one : (vars' out' : List ℕ) (n due : ℕ) (r : Option Place) → 0 < n → due ≡ n - 1
        → TermsRan arity s next due vars₁ count₁ out₁ end vars' out' r → TermsRan arity s at n vars count out to vars' out' r
    terms-one vars' out' n due r h d w =
        let z : suc due ≡ n = omega arith in
        subst (λ x. TermsRan arity s at x vars count out to vars' out' r) z (one-ran element.0 (terms_at arity s next) element.1 refl vars' out' due r w)

    -- the element is the last one
    pub list-nil : (out' : List ℕ) → next < length s → get_or s next 0 ≡ nil → end < length out
        → out' ≡ sets out₁ to (ELIST ∷ take (end - to) (drop to out₁)) → ListRan arity s at vars count out to vars₁ out' (Some (placed (next + 1) (end + 1) count₁))
    unfolding begun shape_of applied
    list-nil out' h q k w = nil-ran element.0 (terms_at arity s next) element.1 refl out' (terms_at arity s (next + 1)) (rw (at-cons next h, q)) k w

    -- another element follows
    pub list-more : (vars' out' : List ℕ) (r : Option Place) → next < length s → get_or s next 0 ≡ PAIR
        → ListRan arity s (next + 1) vars₁ count₁ out₁ end vars' out' r → ListRan arity s at vars count out to vars' out' r
    unfolding begun shape_of
    list-more vars' out' r h q w = more-ran element.0 (terms_at arity s next) element.1 refl vars' out' (terms_at arity s (next + 1)) r (rw (at-cons next h, q)) refl w

    -- the list ends in another term
    pub list-tail : (vars' out' : List ℕ) (r : Option Place) → next < length s → (get_or s next 0 ≡ nil → ⊥) → (get_or s next 0 ≡ PAIR → ⊥) → count₁ ≤ length vars₁
        → TermsRan arity s next 1 vars₁ count₁ (set out₁ end EPAIR) (end + 1) vars' out' r → ListRan arity s at vars count out to vars' out' r
    list-tail vars' out' r h f g k w =
        tail-ran element.0 (terms_at arity s next) element.1 refl vars' out' (terms_at arity s next) r refl
        (λ t ts' q. ending-begun (get_or s next 0) (shape_of arity (get_or s next 0)) t (terms_at arity s (next + 1)) ts' f (λ z. g (pair-cell-of arity (get_or s next 0) z)) (sym (at-cons next h) ∙ q)) k w

    -- the room that it leaves
    pub term-room : at ≤ length s → count ≤ at → count ≤ length vars
        → (2 * end + 3 * at + 1 ≤ 3 * next + 2 * to) × (at < next) × (to ≤ end) × (count₁ ≤ next) × (length vars₁ ≡ length vars) × (next ≤ length s)
    term-room h k j =
        omega (
          arith,
          compact-size element.0,
          first_next element.0 (terms_at arity s next) element.1 refl,
          (first-stored element.0 (terms_at arity s next) element.1 refl).end-at,
          first_count element.0 (terms_at arity s next) element.1 refl j,
          v.1,
          v.2.kept,
          length-drop at s,
          reads-within (shape_of arity) (pair-cell-of arity) (drop at s) 1 v.0,
        )
