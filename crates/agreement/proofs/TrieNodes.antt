-- The node records of a forest by number: what each field holds as a function of the keys, and what an append makes of them.
use mathlib.Core.Path.{◌≡◌, refl, sym, ap, ◌∙◌, subst}
use mathlib.Core.Bool.{Bool}
use mathlib.Core.List.{List, [], ◌∷◌, ◌++◌, append_assoc, append-nil}
use Prim.Native.Nat.{ℕ, suc, ◌+◌, ◌≤◌, ◌<◌}
use native.Mathlib.Omega.{arith}
use lib.Dec.{eqb, ltb}
use lib.ListN.{length, length-append, get_or-append}
use lib.Seq.{get_or_at}
use borrow.Author.Tests.{eqb-true, eqb-false, ne_eqb, ltb-true, ltb-false}
use Rattle.basis.specs.Choice.{pick}
use Rattle.basis.proofs.Cases.{by_cases}
use Rattle.plain.specs.Words.{Word}
use Rattle.plain.specs.Table.{after}
use Rattle.plain.proofs.PrefixLaws.{longer}
use Rattle.plain.proofs.Keys.{key}
use Rattle.plain.proofs.AfterLaws.{after-old, after-new, after-other, after-low, after_cong, after-least}
use Rattle.space.specs.declared.Node.{Node}
use Rattle.trie.specs.Append.{new_node, new_root, with_child, with_sibling, with_node, with_path}
use Rattle.trie.proofs.AppendLaws.{with-new, with-child, with-no-child, with-sibling, with-no-sibling}

abbrev pub par : (ℕ → Node) → ℕ → ℕ
par nd i = (nd i).parent

-- node i is a root, or its key goes on from its parent's by its token
pub data Kind (K : List Word) (nd : ℕ → Node) (i : ℕ) : Type 0 where
  is_root : (s : ℕ) → par nd i ≡ i → (nd i).token ≡ 0 → key K i ≡ s ∷ [] → Kind K nd i
  is_child : par nd i < i → key K i ≡ key K (par nd i) ++ ((nd i).token ∷ []) → Kind K nd i

-- the next sibling of i: none for a root
abbrev pub next_of : (ℕ → Node) → ℕ → ℕ → ℕ
next_of nd n i = pick (eqb (par nd i) i) 0 (after (par nd) n i (par nd i))

-- the records of the n nodes with these keys
pub record Tries (K : List Word) (nd : ℕ → Node) (n : ℕ) : Type 0 where
  pub keys : length K ≡ n
  pub kind : (i : ℕ) → i < n → Kind K nd i
  pub child : (i : ℕ) → i < n → (nd i).child ≡ after (par nd) n i i
  pub sibling : (i : ℕ) → i < n → (nd i).sibling ≡ next_of nd n i

pub tries-count : (K : List Word) (nd : ℕ → Node) (n m : ℕ) → n ≡ m → Tries K nd n → Tries K nd m
tries-count K nd n m e r = subst (λ (k : ℕ). Tries K nd k) e r

kind-most : (K : List Word) (nd : ℕ → Node) (i : ℕ) → Kind K nd i → par nd i ≤ i
kind-most K nd i (is_root s p t k) = omega arith
kind-most K nd i (is_child p k) = omega arith

kind-up : (K : List Word) (nd : ℕ → Node) (i : ℕ) → Kind K nd i → (par nd i ≡ i → ⊥) → par nd i < i
kind-up K nd i (is_root s p t k) h = absurd (h p)
kind-up K nd i (is_child p k) h = p

pub parent-most : (K : List Word) (nd : ℕ → Node) (n : ℕ) → Tries K nd n → (i : ℕ) → i < n → par nd i ≤ i
parent-most K nd n r i h = kind-most K nd i (r.kind i h)

-- ---- the same but for links

pub record Linked (nd new : ℕ → Node) (n : ℕ) : Type 0 where
  pub token-same : (i : ℕ) → i < n → (new i).token ≡ (nd i).token
  pub child-same : (i : ℕ) → i < n → (new i).child ≡ (nd i).child
  pub sibling-same : (i : ℕ) → i < n → (new i).sibling ≡ (nd i).sibling
  pub parent-same : (i : ℕ) → i < n → (new i).parent ≡ (nd i).parent

pub linked-equal : (nd new : ℕ → Node) (n : ℕ) → ((i : ℕ) → i < n → new i ≡ nd i) → Linked nd new n
linked-equal nd new n e = record {
  token-same = λ i h. ap (λ (y : Node). y.token) (e i h);
  child-same = λ i h. ap (λ (y : Node). y.child) (e i h);
  sibling-same = λ i h. ap (λ (y : Node). y.sibling) (e i h);
  parent-same = λ i h. ap (λ (y : Node). y.parent) (e i h);
}

module _ (K : List Word) (nd new : ℕ → Node) (n : ℕ) (r : Tries K nd n) (l : Linked nd new n) where
  linked-after : (i y : ℕ) → after (par new) n i y ≡ after (par nd) n i y
  linked-after i y = after_cong (par new) (par nd) n i y l.parent-same

  linked-kind : (i : ℕ) → i < n → Kind K nd i → Kind K new i
  linked-kind i h (is_root s p t k) = is_root s (l.parent-same i h ∙ p) (l.token-same i h ∙ t) k
  linked-kind i h (is_child p k) = is_child (rw (l.parent-same i h) p) (k ∙ rw (l.parent-same i h, l.token-same i h))

  pub tries-linked : Tries K new n
  tries-linked = record {
    keys = r.keys;
    kind = λ i h. linked-kind i h (r.kind i h);
    child = λ i h. l.child-same i h ∙ r.child i h ∙ sym (linked-after i i);
    sibling = λ i h. l.sibling-same i h ∙ r.sibling i h ∙ rw (l.parent-same i h, linked-after i (par nd i));
  }

-- ---- one record more, where the others keep their parents and tokens

module _ (K : List Word) (nd new : ℕ → Node) (n q t : ℕ) (x : Word) (r : Tries K nd n)
    (par-kept : (i : ℕ) → i < n → par new i ≡ par nd i)
    (token-kept : (i : ℕ) → i < n → (new i).token ≡ (nd i).token)
    (last : new n ≡ new_node t q) where
  par-last : par new n ≡ q
  par-last = ap (λ (y : Node). y.parent) last

  after_kept : (i y : ℕ) → after (par new) n i y ≡ after (par nd) n i y
  after_kept i y = after_cong (par new) (par nd) n i y par-kept

  key-before : (i : ℕ) → i < n → key (K ++ (x ∷ [])) i ≡ key K i
  key-before i h = get_or-append K (x ∷ []) [] i (rw r.keys h)

  key-at : key (K ++ (x ∷ [])) n ≡ x
  key-at = get_or_at K x [] [] n r.keys

  kind-before : (i : ℕ) → i < n → Kind K nd i → Kind (K ++ (x ∷ [])) new i
  kind-before i h (is_root s p tk k) = is_root s (par-kept i h ∙ p) (token-kept i h ∙ tk) (key-before i h ∙ k)
  kind-before i h (is_child p k) =
      is_child (rw (par-kept i h) p) (key-before i h ∙ k ∙ rw (par-kept i h, key-before (par nd i) (omega arith), token-kept i h))

  kind-child : q < n → x ≡ key K q ++ (t ∷ []) → Kind (K ++ (x ∷ [])) new n
  kind-child h e =
      let k : key (K ++ (x ∷ [])) (par new n) ≡ key K q = ap (key (K ++ (x ∷ []))) par-last ∙ key-before q h in
      let u : (new n).token ≡ t = ap (λ (y : Node). y.token) last in
      is_child (rw par-last h) (key-at ∙ e ∙ rw (k, u))

  -- a node that keeps its next sibling
  next-kept : (i : ℕ) → i < n → ((par nd i ≡ i → ⊥) → par nd i ≡ q → after (par nd) n i (par nd i) ≡ 0 → ⊥) → next_of nd n i ≡ next_of new (suc n) i
  next-kept i h k = by_cases (eqb (par nd i) i)
      (λ e. rw (par-kept i h, e))
      (λ e. rw (par-kept i h, e) (by_cases (eqb (par nd i) q)
      (λ z. sym (after-old (par new) n i (par nd i) (λ o. k (eqb-false _ _ e) (eqb-true _ _ z) (sym (after_kept i (par nd i)) ∙ o)) ∙ after_kept i (par nd i)))
      (λ z. sym (after-other (par new) n i (par nd i) (λ o. eqb-false _ _ z (sym o ∙ par-last)) ∙ after_kept i (par nd i)))))

  tries-snoc : Kind (K ++ (x ∷ [])) new n
      → ((i : ℕ) → i < n → (new i).child ≡ after (par new) (suc n) i i)
      → ((i : ℕ) → i < n → (new i).sibling ≡ next_of new (suc n) i)
      → Tries (K ++ (x ∷ [])) new (suc n)
  tries-snoc k c s = record {
    keys = length-append K (x ∷ []) ∙ omega (arith, r.keys);
    kind = λ i h. by_cases (eqb i n)
        (λ e. rw (eqb-true i n e) k)
        (λ e. kind-before i (lower i h (eqb-false i n e)) (r.kind i (lower i h (eqb-false i n e))));
    child = λ i h. by_cases (eqb i n)
        (λ e. rw (eqb-true i n e, last) (sym (after-low (par new) (suc n) n n (omega arith))))
        (λ e. c i (lower i h (eqb-false i n e)));
    sibling = λ i h. by_cases (eqb i n)
        (λ e. rw (eqb-true i n e, after-low (par new) (suc n) n (par new n) (omega arith), last) (by_cases (eqb (par new n) n) (λ z. rw z) (λ z. rw z)))
        (λ e. s i (lower i h (eqb-false i n e)));
  }
    where
      lower : (i : ℕ) → i < suc n → (i ≡ n → ⊥) → i < n
      lower i h e = omega arith

-- ---- a root more

pub tries-root : (K : List Word) (nd new : ℕ → Node) (n s : ℕ) → Tries K nd n → ((i : ℕ) → i < n → new i ≡ nd i) → new n ≡ new_root n
    → Tries (K ++ ((s ∷ []) ∷ [])) new (suc n)
tries-root K nd new n s r e last =
    let x : Word = s ∷ [] in
    let P : (i : ℕ) → i < n → par new i ≡ par nd i = λ i h. ap (λ (y : Node). y.parent) (e i h) in
    let T : (i : ℕ) → i < n → (new i).token ≡ (nd i).token = λ i h. ap (λ (y : Node). y.token) (e i h) in
    let pn : par new n ≡ n = ap (λ (y : Node). y.parent) last in
    tries-snoc K nd new n n 0 x r P T last
    (is_root s pn (ap (λ (y : Node). y.token) last) (get_or_at K x [] [] n r.keys))
    (λ i h. ap (λ (y : Node). y.child) (e i h) ∙ r.child i h ∙ sym (after_kept K nd new n n 0 x r P T last i i) ∙ sym (after-other (par new) n i i (λ z. differ i h (sym pn ∙ z))))
    (λ i h. ap (λ (y : Node). y.sibling) (e i h) ∙ r.sibling i h ∙ next-kept K nd new n n 0 x r P T last i h (λ ne p z. lower i h p))
  where
    differ : (i : ℕ) → i < n → n ≡ i → ⊥
    differ i h e = omega arith

    lower : (i : ℕ) → i < n → par nd i ≡ n → ⊥
    lower i h p = omega (arith, parent-most K nd n r i h)

-- ---- fields that an append leaves

with-field : (f : Node → ℕ) → ((y : Node) (m : ℕ) → f (with_child y m) ≡ f y) → ((y : Node) (m : ℕ) → f (with_sibling y m) ≡ f y)
    → (nd : ℕ → Node) (n q l t i : ℕ) → (i ≡ n → ⊥) → f (with_node nd n q l t i) ≡ f (nd i)
with-field f c s nd n q l t i e = by_cases (eqb l 0)
    (λ z. by_cases (eqb i q)
    (λ p. ap f (with-child nd n q l t i e (eqb-true _ _ z) (eqb-true _ _ p)) ∙ c (nd i) n)
    (λ p. ap f (with-no-child nd n q l t i e (eqb-true _ _ z) (eqb-false _ _ p))))
    (λ z. by_cases (eqb i l)
    (λ p. ap f (with-sibling nd n q l t i e (eqb-false _ _ z) (eqb-true _ _ p)) ∙ s (nd i) n)
    (λ p. ap f (with-no-sibling nd n q l t i e (eqb-false _ _ z) (eqb-false _ _ p))))

below-not : (i n : ℕ) → i < n → i ≡ n → ⊥
below-not i n h e = omega arith

pub with-parent : (nd : ℕ → Node) (n q l t i : ℕ) → i < n → par (with_node nd n q l t) i ≡ par nd i
with-parent nd n q l t i h = with-field (λ y. y.parent) (λ y m. refl) (λ y m. refl) nd n q l t i (below-not i n h)

pub with-token : (nd : ℕ → Node) (n q l t i : ℕ) → i < n → (with_node nd n q l t i).token ≡ (nd i).token
with-token nd n q l t i h = with-field (λ y. y.token) (λ y m. refl) (λ y m. refl) nd n q l t i (below-not i n h)

pub with-link : (nd : ℕ → Node) (n q l t i : ℕ) → i < n → (with_node nd n q l t i).link ≡ (nd i).link
with-link nd n q l t i h = with-field (λ y. y.link) (λ y m. refl) (λ y m. refl) nd n q l t i (below-not i n h)

-- ---- where a walk stopped

-- l is the last child of p
pub record LastOf (nd : ℕ → Node) (n p l : ℕ) : Type 0 where
  pub inside : l < n
  pub above : p < l
  pub parent : par nd l ≡ p
  pub none : (nd l).sibling ≡ 0

-- q has no child, or l is its last one
pub data Stop (nd : ℕ → Node) (n q l : ℕ) : Type 0 where
  bare : l ≡ 0 → (nd q).child ≡ 0 → Stop nd n q l
  behind : (l ≡ 0 → ⊥) → LastOf nd n q l → Stop nd n q l

pub stop-inside : (nd : ℕ → Node) (n q l : ℕ) → q < n → Stop nd n q l → l < n
stop-inside nd n q l h (bare z e) = omega arith
stop-inside nd n q l h (behind z o) = o.inside

-- ---- the first child of q

module _ (K : List Word) (nd : ℕ → Node) (n q l t : ℕ) (r : Tries K nd n) (inside : q < n) (z : l ≡ 0) (none : (nd q).child ≡ 0) where
  abbrev first : ℕ → Node
  first = with_node nd n q l t

  empty : after (par nd) n q q ≡ 0
  empty = sym (r.child q inside) ∙ none

  no-child : (i : ℕ) → i < n → (par nd i ≡ i → ⊥) → par nd i ≡ q → ⊥
  no-child i h ne p =
      let up : par nd i < i = kind-up K nd i (r.kind i h) ne in
      (after-least (par nd) n q q i (record { above = omega arith; below = h; under = p })).0 empty

  tries-first : Tries (K ++ ((key K q ++ (t ∷ [])) ∷ [])) first (suc n)
  tries-first =
      let x : Word = key K q ++ (t ∷ []) in
      let P = with-parent nd n q l t in
      let T = with-token nd n q l t in
      let L : first n ≡ new_node t q = with-new nd n q l t n refl in
      let pn : par first n ≡ q = ap (λ (y : Node). y.parent) L in
      let keep : (i y : ℕ) → after (par first) n i y ≡ after (par nd) n i y = after_kept K nd first n q t x r P T L in
      tries-snoc K nd first n q t x r P T L
      (kind-child K nd first n q t x r P T L inside refl)
      (λ i h. by_cases (eqb i q)
      (λ e. let i=q : i ≡ q = eqb-true i q e in
      ap (λ (y : Node). y.child) (with-child nd n q l t i (below-not i n h) z i=q)
      ∙ sym (after-new (par first) n i i (keep i i ∙ ap (λ (j : ℕ). after (par nd) n j j) i=q ∙ empty) h (pn ∙ sym i=q)))
      (λ e. ap (λ (y : Node). y.child) (with-no-child nd n q l t i (below-not i n h) z (eqb-false i q e))
      ∙ r.child i h ∙ sym (keep i i) ∙ sym (after-other (par first) n i i (λ o. eqb-false i q e (sym o ∙ pn)))))
      (λ i h. sibling-kept i h ∙ r.sibling i h ∙ next-kept K nd first n q t x r P T L i h (λ ne p o. no-child i h ne p))
    where
      sibling-kept : (i : ℕ) → i < n → (first i).sibling ≡ (nd i).sibling
      sibling-kept i h = by_cases (eqb i q)
          (λ e. ap (λ (y : Node). y.sibling) (with-child nd n q l t i (below-not i n h) z (eqb-true i q e)))
          (λ e. ap (λ (y : Node). y.sibling) (with-no-child nd n q l t i (below-not i n h) z (eqb-false i q e)))

-- ---- a child of q after its last child l

module _ (K : List Word) (nd : ℕ → Node) (n q l t : ℕ) (r : Tries K nd n) (z : l ≡ 0 → ⊥) (o : LastOf nd n q l) where
  abbrev next : ℕ → Node
  next = with_node nd n q l t

  -- nothing of q's comes after l
  end-own : after (par nd) n l (par nd l) ≡ 0
  end-own =
      sym (subst (λ (b : Bool). (nd l).sibling ≡ pick b 0 (after (par nd) n l (par nd l))) (ne_eqb (par nd l) l (λ e. omega (arith, o.above, o.parent))) (r.sibling l o.inside))
      ∙ o.none

  end : after (par nd) n l q ≡ 0
  end = subst (λ (y : ℕ). after (par nd) n l y ≡ 0) o.parent end-own

  -- another child of q comes before l
  earlier : (i : ℕ) → i < n → (i ≡ l → ⊥) → par nd i ≡ q → after (par nd) n i (par nd i) ≡ 0 → ⊥
  earlier i h ne p y = by_cases (ltb i l)
      (λ e. (after-least (par nd) n i (par nd i) l (record { above = ltb-true i l e; below = o.inside; under = o.parent ∙ sym p })).0 y)
      (λ e. (after-least (par nd) n l q i (record { above = over i (ltb-false i l e) ne; below = h; under = p })).0 end)
    where
      over : (i : ℕ) → l ≤ i → (i ≡ l → ⊥) → l < i
      over i h e = omega arith

  tries-next : Tries (K ++ ((key K q ++ (t ∷ [])) ∷ [])) next (suc n)
  tries-next =
      let x : Word = key K q ++ (t ∷ []) in
      let P = with-parent nd n q l t in
      let T = with-token nd n q l t in
      let L : next n ≡ new_node t q = with-new nd n q l t n refl in
      let pn : par next n ≡ q = ap (λ (y : Node). y.parent) L in
      let keep : (i y : ℕ) → after (par next) n i y ≡ after (par nd) n i y = after_kept K nd next n q t x r P T L in
      tries-snoc K nd next n q t x r P T L
      (kind-child K nd next n q t x r P T L (omega (arith, o.above, o.inside)) refl)
      (λ i h. child-kept i h ∙ r.child i h ∙ sym (keep i i)
      ∙ sym (by_cases (eqb i q)
      (λ e. let i=q : i ≡ q = eqb-true i q e in
      after-old (par next) n i i (λ y. (after-least (par nd) n q q l (record { above = o.above; below = o.inside; under = o.parent })).0 (sym (keep q q) ∙ rw i=q at y)))
      (λ e. after-other (par next) n i i (λ y. eqb-false i q e (sym y ∙ pn)))))
      (λ i h. by_cases (eqb i l)
      (λ e. let i=l : i ≡ l = eqb-true i l e in
      ap (λ (y : Node). y.sibling) (with-sibling nd n q l t i (below-not i n h) z i=l)
      ∙ sym (rw (P i h, i=l, ne_eqb (par nd l) l (λ y. omega (arith, o.above, o.parent)))
      (after-new (par next) n l (par nd l) (keep l (par nd l) ∙ end-own) o.inside (pn ∙ sym o.parent))))
      (λ e. ap (λ (y : Node). y.sibling) (with-no-sibling nd n q l t i (below-not i n h) z (eqb-false i l e))
      ∙ r.sibling i h ∙ next-kept K nd next n q t x r P T L i h (λ ne p y. earlier i h (eqb-false i l e) p y)))
    where
      child-kept : (i : ℕ) → i < n → (next i).child ≡ (nd i).child
      child-kept i h = by_cases (eqb i l)
          (λ e. ap (λ (y : Node). y.child) (with-sibling nd n q l t i (below-not i n h) z (eqb-true i l e)))
          (λ e. ap (λ (y : Node). y.child) (with-no-sibling nd n q l t i (below-not i n h) z (eqb-false i l e)))

-- ---- a path

tries-append : (K : List Word) (nd : ℕ → Node) (n q l t : ℕ) → Tries K nd n → q < n → Stop nd n q l
    → Tries (K ++ ((key K q ++ (t ∷ [])) ∷ [])) (with_node nd n q l t) (n + 1)
tries-append K nd n q l t r h (bare z c) = tries-count _ _ (suc n) (n + 1) (omega arith) (tries-first K nd n q l t r h z c)
tries-append K nd n q l t r h (behind z o) = tries-count _ _ (suc n) (n + 1) (omega arith) (tries-next K nd n q l t r z o)

-- the clauses of with_path as equations
pub path-nil : (nd : ℕ → Node) (n q l : ℕ) → with_path nd n q l [] ≡ nd
unfolding with_path
path-nil nd n q l = refl

pub path-cons : (nd : ℕ → Node) (n q l t : ℕ) (u : Word) → with_path nd n q l (t ∷ u) ≡ with_path (with_node nd n q l t) (n + 1) n 0 u
unfolding with_path
path-cons nd n q l t u = refl

pub tries-path : (K : List Word) (nd : ℕ → Node) (n q l : ℕ) (w : Word) → Tries K nd n → q < n → Stop nd n q l
    → Tries (K ++ longer (key K q) w) (with_path nd n q l w) (n + length w)
unfolding longer
tries-path K nd n q l [] r h s = rw (append-nil, path-nil) (tries-count _ _ n (n + 0) (omega arith) r)
tries-path K nd n q l (t ∷ w) r h s =
    let x : Word = key K q ++ (t ∷ []) in
    let K₁ : List Word = K ++ (x ∷ []) in
    let nd₁ : ℕ → Node = with_node nd n q l t in
    let r₁ : Tries K₁ nd₁ (n + 1) = tries-append K nd n q l t r h s in
    let kx : key K₁ n ≡ x = get_or_at K x [] [] n r.keys in
    let c : (nd₁ n).child ≡ 0 = ap (λ (y : Node). y.child) (with-new nd n q l t n refl) in
    let rest : Tries (K₁ ++ longer (key K₁ n) w) (with_path nd₁ (n + 1) n 0 w) (n + 1 + length w) = tries-path K₁ nd₁ (n + 1) n 0 w r₁ (omega arith) (bare refl c) in
    rw (path-cons nd n q l t w)
    (tries-count _ _ (n + 1 + length w) (n + suc (length w)) (omega arith)
    (subst (λ (L : List Word). Tries L (with_path nd₁ (n + 1) n 0 w) (n + 1 + length w)) (ap (λ (y : Word). K₁ ++ longer y w) kx ∙ append_assoc K (x ∷ []) (longer x w)) rest))

pub path-link-before : (nd : ℕ → Node) (n q l : ℕ) (w : Word) (i : ℕ) → i < n → (with_path nd n q l w i).link ≡ (nd i).link
path-link-before nd n q l [] i h = rw (path-nil nd n q l)
path-link-before nd n q l (t ∷ w) i h = rw (path-cons nd n q l t w) (path-link-before (with_node nd n q l t) (n + 1) n 0 w i (omega arith) ∙ with-link nd n q l t i h)

pub path-link-new : (nd : ℕ → Node) (n q l : ℕ) (w : Word) (i : ℕ) → n ≤ i → i < n + length w → (with_path nd n q l w i).link ≡ 0
path-link-new nd n q l [] i h k = absurd (omega arith)
path-link-new nd n q l (t ∷ w) i h k = rw (path-cons nd n q l t w) (by_cases (eqb i n)
    (λ e. let i=n : i ≡ n = eqb-true i n e in
    path-link-before (with_node nd n q l t) (n + 1) n 0 w i (omega arith) ∙ ap (λ (y : Node). y.link) (with-new nd n q l t i i=n))
    (λ e. path-link-new (with_node nd n q l t) (n + 1) n 0 w i (more (eqb-false i n e)) (omega arith)))
  where
    more : (i ≡ n → ⊥) → n + 1 ≤ i
    more ne = omega arith
