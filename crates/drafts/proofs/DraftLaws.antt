-- The words of a draft while tokens are drafted one after another.
use Prim.Native.Nat.{ℕ, ◌+◌, ◌<◌, ◌≤◌}
use mathlib.Core.Path.{◌≡◌, refl, sym, ap, ◌∙◌}
use mathlib.Core.Bool.{Bool, true, false, not, ◌||◌, true≢false}
use mathlib.Core.List.{List, [], ◌∷◌, ◌++◌}
use native.Mathlib.Omega.{arith}
use lib.Dec.{eqb, ltb}
use lib.ListN.{length, length-append, get_or-append}
use lib.Seq.{get_or-append-add}
use borrow.Author.Tests.{eqb-true, eqb-false, ltb-true, ltb-false}
use Rattle.basis.specs.Choice.{pick}
use Rattle.basis.proofs.Cases.{by_cases}
use Rattle.forms.specs.Compact.{same}
use Rattle.forms.proofs.RoundTrip.{same_self, same_true}
use Rattle.plain.specs.Words.{Word, has}
use Rattle.plain.proofs.WordLaws.{has-snoc}
use Rattle.plain.proofs.Keys.{has-place, place-has, snoc-left, snoc-right, snoc-nil}
use Rattle.space.specs.declared.Node.{Node}
use Rattle.agreement.proofs.CellRecords.{Kept}
use Rattle.drafts.specs.declared.Room.{Room}
use Rattle.drafts.specs.Entries.{Bucketed, Absent, Present, Placed}
use Rattle.drafts.specs.Drafts.{word_of, Keyed}

pub kept_same : (lo hi : ℕ) (cs : List ℕ) → Kept lo hi cs cs
kept_same lo hi cs = record { size = refl; below = λ k h. refl; above = λ k h. refl }

pub kept_then : {lo hi : ℕ} {cs ds es : List ℕ} → Kept lo hi cs ds → Kept lo hi ds es → Kept lo hi cs es
kept_then p q = record { size = q.size ∙ p.size; below = λ k h. q.below k h ∙ p.below k h; above = λ k h. q.above k h ∙ p.above k h }

-- ---- the words

or_left : (a b : Bool) → a ≡ true → (a || b) ≡ true
or_left true b e = refl
or_left false b e = let z : ◌≡◌ {A = ℕ} 0 1 = cc in absurd (omega arith)

nil_not : (w : Word) → w ≡ [] → 1 ≤ length w → ⊥
nil_not [] e l = omega arith
nil_not (x ∷ w) e l = let z : ◌≡◌ {A = ℕ} 0 1 = cc in omega arith

module _ (at : ℕ → Node) (x : Room) (used : ℕ) (B : Bucketed at x used) (K ends : List Word) (size : length K ≡ used) (Q : Keyed at x.base K ends) where
  word_some : (n : ℕ) → n < used → 1 ≤ length (word_of K n)
  word_some n h = by_cases (ltb n x.base)
      (λ e. rw (Q.old-word n (ltb-true _ _ e)) (omega arith))
      (λ e. let i : x.base ≤ n = ltb-false _ _ e in
      rw (Q.new_word n i (omega arith)) (omega (arith, length-append (word_of K (at n).parent) ((at n).token ∷ []))))

  module _ (parent token : ℕ) (below : parent < used) where
    pub known-word : (n : ℕ) → Present at x used parent token n → word_of K n ≡ word_of K parent ++ (token ∷ [])
    known-word n p = Q.new_word n p.low (let h = p.high in omega arith) ∙ ap (λ (m : ℕ). word_of K m ++ ((at n).token ∷ [])) p.parent_is ∙ ap (λ (y : ℕ). word_of K parent ++ (y ∷ [])) p.token-is

    pub absent-word : Absent at x used parent token → has K (word_of K parent ++ (token ∷ [])) ≡ false
    absent-word a = by_cases (has K (word_of K parent ++ (token ∷ [])))
        (λ e.
        let r = has-place K (word_of K parent ++ (token ∷ [])) e in
        let j : ℕ = r.0 in
        let within : j < length K = r.1 in
        let is : word_of K j ≡ word_of K parent ++ (token ∷ []) = r.2 in
        by_cases (ltb j x.base)
        (λ l. absurd (nil_not (word_of K parent) (snoc-nil (word_of K parent) j token (sym (Q.old-word j (ltb-true _ _ l)) ∙ is)) (word_some parent below)))
        (λ l. let low : x.base ≤ j = ltb-false _ _ l in
        let both : word_of K (at j).parent ++ ((at j).token ∷ []) ≡ word_of K parent ++ (token ∷ []) = sym (Q.new_word j low within) ∙ is in
        let up = B.parent-below j low (omega arith) in
        absurd (a j low (omega arith)
        (Q.different (at j).parent parent (omega arith) (omega arith) (snoc-left (word_of K (at j).parent) (word_of K parent) (at j).token token both))
        (snoc-right (word_of K (at j).parent) (word_of K parent) (at j).token token both))))
        (λ e. e)

    -- an entry more
    module _ (at' : ℕ → Node) (b : ℕ) (P : Placed at at' used b parent token) (lacks : has K (word_of K parent ++ (token ∷ [])) ≡ false) where
      abbrev more : List Word
      more = K ++ ((word_of K parent ++ (token ∷ [])) ∷ [])

      word-old : (n : ℕ) → n < used → word_of (K ++ ((word_of K parent ++ (token ∷ [])) ∷ [])) n ≡ word_of K n
      word-old n h = get_or-append K ((word_of K parent ++ (token ∷ [])) ∷ []) [] n (omega arith)

      pub word-new : word_of (K ++ ((word_of K parent ++ (token ∷ [])) ∷ [])) used ≡ word_of K parent ++ (token ∷ [])
      word-new =
          let e : length K + 0 ≡ used = omega arith in
          ap (λ (i : ℕ). word_of more i) (sym e) ∙ get_or-append-add K ((word_of K parent ++ (token ∷ [])) ∷ []) 0 []

      pub size-new : length (K ++ ((word_of K parent ++ (token ∷ [])) ∷ [])) ≡ used + 1
      size-new = length-append K ((word_of K parent ++ (token ∷ [])) ∷ []) ∙ ap (λ (i : ℕ). i + 1) size

      -- the new word is none before
      word-alone : (n : ℕ) → n < used → word_of K n ≡ word_of K parent ++ (token ∷ []) → ⊥
      word-alone n h e = true≢false (sym (place-has K (word_of K parent ++ (token ∷ [])) n (omega arith) e) ∙ lacks)

      pub keyed-more : Keyed at' x.base (K ++ ((word_of K parent ++ (token ∷ [])) ∷ [])) ends
      keyed-more = record {
        different = λ i j h k e.
            let z = size-new in
            by_cases (eqb i used)
            (λ p. let p' : i ≡ used = eqb-true _ _ p in
            by_cases (eqb j used)
            (λ q. let q' : j ≡ used = eqb-true _ _ q in omega arith)
            (λ q. let q' : j ≡ used → ⊥ = eqb-false _ _ q in let l : j < used = omega arith in
            absurd (word-alone j l (sym (word-old j l) ∙ sym e ∙ ap (λ (y : ℕ). word_of more y) p' ∙ word-new))))
            (λ p. let p' : i ≡ used → ⊥ = eqb-false _ _ p in let l : i < used = omega arith in
            by_cases (eqb j used)
            (λ q. let q' : j ≡ used = eqb-true _ _ q in
            absurd (word-alone i l (sym (word-old i l) ∙ e ∙ ap (λ (y : ℕ). word_of more y) q' ∙ word-new)))
            (λ q. let q' : j ≡ used → ⊥ = eqb-false _ _ q in let m : j < used = omega arith in
            Q.different i j (omega arith) (omega arith) (sym (word-old i l) ∙ e ∙ word-old j m)));
        old-word = λ n h. let f = B.from in word-old n (omega arith) ∙ Q.old-word n h;
        new_word = λ n l h.
            let z = size-new in
            by_cases (eqb n used)
            (λ p. let p' : n ≡ used = eqb-true _ _ p in
            let f : (at' n).parent ≡ parent = ap (λ (y : ℕ). (at' y).parent) p' ∙ P.parent-new in
            let g : (at' n).token ≡ token = ap (λ (y : ℕ). (at' y).token) p' ∙ P.token-new in
            ap (λ (y : ℕ). word_of more y) p' ∙ word-new ∙ ap (λ (w : Word). w ++ (token ∷ [])) (sym (word-old parent below))
            ∙ ap (λ (y : ℕ). word_of more y ++ (token ∷ [])) (sym f) ∙ ap (λ (y : ℕ). word_of more (at' n).parent ++ (y ∷ [])) (sym g))
            (λ p. let p' : n ≡ used → ⊥ = eqb-false _ _ p in let m : n < used = omega arith in
            let f : (at' n).parent ≡ (at n).parent = P.parent-old n p' in
            let g : (at' n).token ≡ (at n).token = P.token-old n p' in
            let up = B.parent-below n l m in
            word-old n m ∙ Q.new_word n l (omega arith) ∙ ap (λ (w : Word). w ++ ((at n).token ∷ [])) (sym (word-old (at n).parent (omega arith)))
            ∙ ap (λ (y : ℕ). word_of more y ++ ((at n).token ∷ [])) (sym f) ∙ ap (λ (y : ℕ). word_of more (at' n).parent ++ (y ∷ [])) (sym g));
        marked = λ n l h.
            let z = size-new in
            by_cases (eqb n used)
            (λ p. let p' : n ≡ used = eqb-true _ _ p in
            let none : has ends (word_of K parent ++ (token ∷ [])) ≡ false = by_cases (has ends (word_of K parent ++ (token ∷ [])))
            (λ q. absurd (true≢false (sym (Q.ends-in (word_of K parent ++ (token ∷ [])) q) ∙ lacks))) (λ q. q) in
            ap (λ (y : ℕ). (at' y).link) p' ∙ P.link-new ∙ ap (λ (c : Bool). pick c 1 0) (sym none) ∙ ap (λ (w : Word). pick (has ends w) 1 0) (sym word-new) ∙ ap (λ (y : ℕ). pick (has ends (word_of more y)) 1 0) (sym p'))
            (λ p. let p' : n ≡ used → ⊥ = eqb-false _ _ p in let m : n < used = omega arith in
            P.link-old n p' ∙ Q.marked n l (omega arith) ∙ ap (λ (w : Word). pick (has ends w) 1 0) (sym (word-old n m)));
        ends-in = λ w e. has-snoc K (word_of K parent ++ (token ∷ [])) w ∙ or_left (has K w) (same (word_of K parent ++ (token ∷ [])) w) (Q.ends-in w e);
      }

  -- ---- a word ends at entry n

  module _ (n : ℕ) (low : x.base ≤ n) (high : n < used) (at' : ℕ → Node)
      (token-kept : (m : ℕ) → (at' m).token ≡ (at m).token) (parent-kept : (m : ℕ) → (at' m).parent ≡ (at m).parent)
      (link-new : (at' n).link ≡ 1) (link-kept : (m : ℕ) → (m ≡ n → ⊥) → (at' m).link ≡ (at m).link) where
    pub keyed-marked : Keyed at' x.base K (ends ++ (word_of K n ∷ []))
    keyed-marked = record {
      different = Q.different;
      old-word = Q.old-word;
      new_word = λ m l h. Q.new_word m l h ∙ ap (λ (y : ℕ). word_of K y ++ ((at m).token ∷ [])) (sym (parent-kept m)) ∙ ap (λ (y : ℕ). word_of K (at' m).parent ++ (y ∷ [])) (sym (token-kept m));
      marked = λ m l h. rw (has-snoc ends (word_of K n) (word_of K m)) (by_cases (eqb m n)
          (λ e. let i : m ≡ n = eqb-true _ _ e in
          ap (λ (y : ℕ). (at' y).link) i ∙ link-new ∙ sym (ap (λ (c : Bool). pick c 1 0) (or_same (has ends (word_of K m)) (same (word_of K n) (word_of K m)) (ap (λ (y : ℕ). same (word_of K n) (word_of K y)) i ∙ same_self (word_of K n)))))
          (λ e. let o : m ≡ n → ⊥ = eqb-false _ _ e in
          link-kept m o ∙ Q.marked m l h ∙ ap (λ (c : Bool). pick c 1 0) (sym (or-none (has ends (word_of K m)) (same (word_of K n) (word_of K m)) (by_cases (same (word_of K n) (word_of K m))
          (λ q. absurd (o (sym (Q.different n m (omega arith) h (same_true (word_of K n) (word_of K m) q)))))
          (λ q. q))))));
      ends-in = λ w e. by_cases (has ends w) (Q.ends-in w)
          (λ q. let r : same (word_of K n) w ≡ true = or-only (has ends w) (same (word_of K n) w) (sym (has-snoc ends (word_of K n) w) ∙ e) q in
          place-has K w n (omega arith) (same_true (word_of K n) w r));
    }
      where
        or_same : (a b : Bool) → b ≡ true → (a || b) ≡ true
        or_same true b e = refl
        or_same false b e = e

        or-none : (a b : Bool) → b ≡ false → (a || b) ≡ a
        or-none true b e = refl
        or-none false b e = e

        or-only : (a b : Bool) → (a || b) ≡ true → a ≡ false → b ≡ true
        or-only true b e f = absurd (true≢false f)
        or-only false b e f = e

    pub was-marked : (r : Bool) → r ≡ not (eqb (at n).link 0) → r ≡ has ends (word_of K n)
    was-marked r e = e ∙ by_cases (has ends (word_of K n))
        (λ h. let i : (at n).link ≡ 1 = Q.marked n low (omega arith) ∙ ap (λ (c : Bool). pick c 1 0) h in rw (i, h))
        (λ h. let i : (at n).link ≡ 0 = Q.marked n low (omega arith) ∙ ap (λ (c : Bool). pick c 1 0) h in rw (i, h))
