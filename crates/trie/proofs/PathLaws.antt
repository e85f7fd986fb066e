-- The steps of a gathered path, and its size.
use Rattle.std.proofs.Common.{◌≡◌, ℕ, zero, suc, ◌+◌, ◌-◌, ◌<◌, ◌≤◌, true, false, eqb, List, [], ◌∷◌, ◌++◌, length, sym, refl, ap, ◌∙◌, append_assoc, append-nil, arith, length-append, eq-eqb, ne_eqb, eqb-true}
use borrow.Author.Tests.{eqb-false}
use Rattle.basis.proofs.Cases.{by_cases}
use Rattle.trie.specs.Siblings.{Trie, sound}
use Rattle.space.proofs.JudgingLaws.{node-bounds}
use Rattle.trie.specs.Paths.{Path, none, tokens, below, gather}
use Rattle.trie.specs.Runs.{onto, Climb, lost, to_root, cut, longer, climbed}

module _ (t : Trie) (root n : ℕ) where
  pub gather-unsound : (most : ℕ) → sound t n ≡ false → gather most t root n ≡ none
  unfolding gather
  gather-unsound zero e = simp e
  gather-unsound (suc most) e = simp e

  module _ (e : sound t n ≡ true) where
    pub gather-root : (most : ℕ) → (t.at n).parent ≡ n → n ≡ root → gather most t root n ≡ tokens []
    unfolding gather
    gather-root zero p r = simp (e, eq-eqb _ _ p, eq-eqb _ _ r)
    gather-root (suc most) p r = simp (e, eq-eqb _ _ p, eq-eqb _ _ r)

    pub gather-other : (most : ℕ) → (t.at n).parent ≡ n → (n ≡ root → ⊥) → gather most t root n ≡ none
    unfolding gather
    gather-other zero p r = simp (e, eq-eqb _ _ p, ne_eqb _ _ r)
    gather-other (suc most) p r = simp (e, eq-eqb _ _ p, ne_eqb _ _ r)

    module _ (p : (t.at n).parent ≡ n → ⊥) where
      pub gather-deep : gather 0 t root n ≡ none
      unfolding gather
      gather-deep = simp (e, ne_eqb _ _ p)

      pub gather-up : (most : ℕ) → gather (suc most) t root n ≡ below (gather most t root (t.at n).parent) (t.at n).token
      unfolding gather
      gather-up most = simp (e, ne_eqb _ _ p)

-- ---- one node of a path that there is

abbrev pub tokens_of : Path → List ℕ
tokens_of none = []
tokens_of (tokens xs) = xs

none-not : {us : List ℕ} → none ≡ tokens us → ⊥
none-not e = let z : ◌≡◌ {A = ℕ} 0 1 = cc in omega arith

-- the path above a node that is no root
pub record Above (t : Trie) (root n : ℕ) (us : List ℕ) : Type 0 where
  pub lower : (t.at n).parent < n
  pub fuel : ℕ
  pub first : List ℕ
  pub path : gather fuel t root (t.at n).parent ≡ tokens first
  pub is : us ≡ first ++ ((t.at n).token ∷ [])

below-tokens : (p : Path) (x : ℕ) (us : List ℕ) → below p x ≡ tokens us → (ys : List ℕ) × (p ≡ tokens ys) × (us ≡ ys ++ (x ∷ []))
below-tokens none x us e = absurd (none-not e)
below-tokens (tokens ys) x us e = (ys, refl, sym (ap tokens_of e))

module _ (t : Trie) (root n : ℕ) (us : List ℕ) where
  path-sound : (most : ℕ) → gather most t root n ≡ tokens us → sound t n ≡ true
  path-sound most e = by_cases (sound t n) (λ j. j) (λ j. absurd (none-not (sym (gather-unsound t root n most j) ∙ e)))

  pub path-root : (most : ℕ) → gather most t root n ≡ tokens us → (t.at n).parent ≡ n → us ≡ []
  path-root most e p =
      let j = path-sound most e in
      by_cases (eqb n root)
      (λ r. ap tokens_of (sym e ∙ gather-root t root n j most p (eqb-true _ _ r)))
      (λ r. absurd (none-not (sym (gather-other t root n j most p (eqb-false _ _ r)) ∙ e)))

  pub path-above : (most : ℕ) → gather most t root n ≡ tokens us → ((t.at n).parent ≡ n → ⊥) → Above t root n us
  path-above zero e p = absurd (none-not (sym (gather-deep t root n (path-sound zero e) p) ∙ e))
  path-above (suc most) e p =
      let j = path-sound (suc most) e in
      let b = node-bounds t.nodes t.links n (t.at n) j in
      let f : below (gather most t root (t.at n).parent) (t.at n).token ≡ tokens us = sym (gather-up t root n j p most) ∙ e in
      let y = below-tokens (gather most t root (t.at n).parent) (t.at n).token us f in
      record { lower = omega (arith, b.parent-most, p); fuel = most; first = y.0; path = y.1; is = y.2 }

-- a path has at most as many tokens as were allowed
abbrev pub Within : ℕ → Path → Type 0
Within most none = Unit
Within most (tokens xs) = length xs ≤ most

below-within : (most : ℕ) (p : Path) (token : ℕ) → Within most p → Within (suc most) (below p token)
below-within most none token h = tt
below-within most (tokens xs) token h = simp length-append (omega arith)

-- at a node that is no root, by what is known of the node above it
step-within : (most : ℕ) (t : Trie) (root n : ℕ) → (sound t n ≡ true → ((t.at n).parent ≡ n → ⊥) → Within most (gather most t root n)) → Within most (gather most t root n)
step-within most t root n higher =
    by_cases (sound t n) (λ e.
    by_cases (eqb (t.at n).parent n) (λ p.
    by_cases (eqb n root)
    (λ r. rw (gather-root t root n e most (eqb-true _ _ p) (eqb-true _ _ r)) (omega arith))
    (λ r. rw (gather-other t root n e most (eqb-true _ _ p) (eqb-false _ _ r)) tt))
    (λ p. higher e (eqb-false _ _ p)))
    (λ e. rw (gather-unsound t root n most e) tt)

pub gather-within : (most : ℕ) (t : Trie) (root n : ℕ) → Within most (gather most t root n)
gather-within zero t root n = step-within 0 t root n (λ e p. rw (gather-deep t root n e p) tt)
gather-within (suc k) t root n =
    step-within (suc k) t root n (λ e p.
    rw (gather-up t root n e p k) (below-within k (gather k t root (t.at n).parent) (t.at n).token (gather-within k t root (t.at n).parent)))

-- ---- a path with further tokens behind it

onto-nothing : (p : Path) → p ≡ onto p []
onto-nothing none = refl
onto-nothing (tokens xs) = ap tokens (sym (append-nil xs))

onto-below : (p : Path) (xs : List ℕ) (token : ℕ) → below (onto p xs) token ≡ onto p (xs ++ (token ∷ []))
onto-below none xs token = refl
onto-below (tokens ys) xs token = ap tokens (append_assoc ys xs (token ∷ []))

-- ---- the steps of a climb

module _ (t : Trie) (root n levels : ℕ) where
  pub climbed-unsound : sound t n ≡ false → climbed (suc levels) t root n ≡ lost
  unfolding climbed
  climbed-unsound e = simp e

  module _ (e : sound t n ≡ true) where
    pub climbed-root : (t.at n).parent ≡ n → n ≡ root → climbed (suc levels) t root n ≡ to_root []
    unfolding climbed
    climbed-root p r = simp (e, eq-eqb _ _ p, eq-eqb _ _ r)

    pub climbed-other : (t.at n).parent ≡ n → (n ≡ root → ⊥) → climbed (suc levels) t root n ≡ lost
    unfolding climbed
    climbed-other p r = simp (e, eq-eqb _ _ p, ne_eqb _ _ r)

    pub climbed-up : ((t.at n).parent ≡ n → ⊥) → climbed (suc levels) t root n ≡ longer (climbed levels t root (t.at n).parent) (t.at n).token
    unfolding climbed
    climbed-up p = simp (e, ne_eqb _ _ p)

-- ---- what a climb of some levels tells of the whole path

abbrev pub Tells : Trie → ℕ → ℕ → ℕ → Climb → Type 0
Tells t root n levels lost = (most : ℕ) → gather most t root n ≡ none
Tells t root n levels (to_root xs) = (length xs ≤ levels) × ((most : ℕ) → length xs ≤ most → gather most t root n ≡ tokens xs)
    × ((most : ℕ) → most < length xs → gather most t root n ≡ none)
Tells t root n levels (cut p xs) = (length xs ≡ levels) × (p + levels ≤ n) × ((most : ℕ) → levels ≤ most → gather most t root n ≡ onto (gather (most - levels) t root p) xs)
    × ((most : ℕ) → most < levels → gather most t root n ≡ none)

module _ (t : Trie) (root n : ℕ) (e : sound t n ≡ true) (p : (t.at n).parent ≡ n → ⊥) where
  abbrev above : ℕ
  above = (t.at n).parent

  abbrev token : ℕ
  token = (t.at n).token

  higher-none : (most : ℕ) → ((m : ℕ) → m < most → gather m t root above ≡ none) → gather most t root n ≡ none
  higher-none zero x = gather-deep t root n e p
  higher-none (suc most) x = gather-up t root n e p most ∙ ap (λ (q : Path). below q token) (x most (omega arith))

  higher-whole : (xs : List ℕ) → ((m : ℕ) → length xs ≤ m → gather m t root above ≡ tokens xs) → (most : ℕ) → length xs + 1 ≤ most
      → gather most t root n ≡ tokens (xs ++ (token ∷ []))
  higher-whole xs x zero l = absurd (omega arith)
  higher-whole xs x (suc most) l = gather-up t root n e p most ∙ ap (λ (q : Path). below q token) (x most (omega arith))

  higher-cut : (levels q : ℕ) (xs : List ℕ) → ((m : ℕ) → levels ≤ m → gather m t root above ≡ onto (gather (m - levels) t root q) xs) → (most : ℕ) → suc levels ≤ most
      → gather most t root n ≡ onto (gather (most - suc levels) t root q) (xs ++ (token ∷ []))
  higher-cut levels q xs x zero l = absurd (omega arith)
  higher-cut levels q xs x (suc most) l =
      let k : most - levels ≡ suc most - suc levels = omega arith in
      gather-up t root n e p most ∙ ap (λ (r : Path). below r token) (x most (omega arith))
      ∙ onto-below (gather (most - levels) t root q) xs token
      ∙ ap (λ (m : ℕ). onto (gather m t root q) (xs ++ (token ∷ []))) k

  longer-tells : (levels : ℕ) (c : Climb) → Tells t root above levels c → Tells t root n (suc levels) (longer c token)
  longer-tells levels lost x = λ most. higher-none most (λ m l. x m)
  longer-tells levels (to_root xs) x =
      let k : length (xs ++ (token ∷ [])) ≡ length xs + 1 = length-append xs (token ∷ []) in
      let b : length xs ≤ levels = x.0 in (
        omega arith,
        λ most l. higher-whole xs x.1 most (omega arith),
        λ most l. higher-none most (λ m i. x.2 m (omega arith)),
      )
  longer-tells levels (cut q xs) x =
      let k : length (xs ++ (token ∷ [])) ≡ length xs + 1 = length-append xs (token ∷ []) in
      let b : length xs ≡ levels = x.0 in
      let h : q + levels ≤ above = x.1 in
      let o : above ≡ n → ⊥ = p in
      let l = (node-bounds t.nodes t.links n (t.at n) e).parent-most in (
        omega arith,
        omega arith,
        λ most i. higher-cut levels q xs x.2 most i,
        λ most i. higher-none most (λ m j. x.3 m (omega arith)),
      )

pub climbed-tells : (t : Trie) (root levels n : ℕ) → Tells t root n levels (climbed levels t root n)
climbed-tells t root zero n =
    unfold climbed in (refl, omega arith, λ most l. onto-nothing (gather most t root n) ∙ ap (λ (m : ℕ). onto (gather m t root n) []) (let z : most ≡ most - 0 = omega arith in z), λ most l. absurd (omega arith))
climbed-tells t root (suc levels) n =
    by_cases (sound t n) (λ e.
    by_cases (eqb (t.at n).parent n) (λ p.
    by_cases (eqb n root)
    (λ r. rw (climbed-root t root n levels e (eqb-true _ _ p) (eqb-true _ _ r)) (omega arith, λ most l. gather-root t root n e most (eqb-true _ _ p) (eqb-true _ _ r), λ most l. absurd (omega arith)))
    (λ r. rw (climbed-other t root n levels e (eqb-true _ _ p) (eqb-false _ _ r)) (λ most. gather-other t root n e most (eqb-true _ _ p) (eqb-false _ _ r))))
    (λ p. rw (climbed-up t root n levels e (eqb-false _ _ p)) (longer-tells t root n e (eqb-false _ _ p) levels (climbed levels t root (t.at n).parent) (climbed-tells t root levels (t.at n).parent))))
    (λ e. rw (climbed-unsound t root n levels e) (λ most. gather-unsound t root n most e))
