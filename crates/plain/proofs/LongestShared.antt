-- The longest prefix that a word shares with those of a list: it is what the walk finds, and what a new word need not add.
use mathlib.Core.Path.{◌≡◌, sym, ap, ◌∙◌}
use mathlib.Core.Bool.{◌||◌, true≢false}
use mathlib.Core.List.{List, [], ◌∷◌, ◌++◌, append_assoc}
use Prim.Native.Nat.{ℕ, zero, suc, ◌≤◌, ◌<◌, max}
use native.Mathlib.Nat.{le_of_suc-le-suc}
use native.Mathlib.Omega.{arith}
use lib.Dec.{eqb, leb, leb-zero, leb-suc-zero, leb-suc-suc}
use lib.ListN.{length, take}
use borrow.Author.Tests.{le-leb, lt-leb, leb-true, leb-false}
use Rattle.basis.proofs.Cases.{by_cases}
use Rattle.plain.specs.Words.{Word, has, prefixes, common, most}
use Rattle.plain.specs.Consequences.{Brought}
use Rattle.plain.proofs.PrefixLaws.{starts, begins, shared, Closed, has-prefixes, prefixes-closed, shared-le, distinct_snoc}

-- the prefix of w of length k, under p, is there exactly where k is at most what the walk finds
pub shared-exact : (vs : List Word) (p w : Word) (k : ℕ) → Closed vs → 0 < k → k ≤ length w → has vs (p ++ take k w) ≡ leb k (shared vs p w)
shared-exact vs p [] k c h l = absurd (omega arith)
shared-exact vs p (t ∷ w) zero c h l = absurd (omega arith)
shared-exact vs p (t ∷ w) (suc zero) c h l = by_cases (has vs (p ++ (t ∷ [])))
    (λ e. e ∙ sym (unfold shared in rw (e, leb-suc-suc 0 (shared vs (p ++ (t ∷ [])) w), leb-zero (shared vs (p ++ (t ∷ [])) w))))
    (λ e. e ∙ sym (unfold shared in rw e))
shared-exact vs p (t ∷ w) (suc (suc k)) c h l = by_cases (has vs (p ++ (t ∷ [])))
    (λ e. ap (has vs) (sym (append_assoc p (t ∷ []) (take (suc k) w)))
    ∙ shared-exact vs (p ++ (t ∷ [])) w (suc k) c (omega arith) (le_of_suc-le-suc l)
    ∙ sym (unfold shared in rw (e, leb-suc-suc (suc k) (shared vs (p ++ (t ∷ [])) w))))
    (λ e. ap (has vs) (sym (append_assoc p (t ∷ []) (take (suc k) w))) ∙ c p t (take (suc k) w) e ∙ sym (unfold shared in rw (e, leb-suc-zero (suc k))))

-- some word of the list begins with the first k tokens of w exactly where k is at most what the walk finds
pub begins-shared : (ws : List Word) (w : Word) (k : ℕ) → 0 < k → k ≤ length w → begins ws (take k w) ≡ leb k (shared (prefixes ws) [] w)
begins-shared ws [] k h l = absurd (omega arith)
begins-shared ws (t ∷ w) zero h l = absurd (omega arith)
begins-shared ws (t ∷ w) (suc k) h l = sym (has-prefixes ws t (take k w)) ∙ shared-exact (prefixes ws) [] (t ∷ w) (suc k) (prefixes-closed ws) h l

-- ---- and so it is the most that a word of the list shares

-- a number of at most l is leb-equal by the k of at most l that it is not below
leb-equal : (l a b : ℕ) → a ≤ l → b ≤ l → ((k : ℕ) → 0 < k → k ≤ l → leb k a ≡ leb k b) → a ≡ b
leb-equal l a b p q h = by_cases (leb a b)
    (λ e. by_cases (leb b a)
    (λ f. let y : a ≤ b = leb-true a b e in let z : b ≤ a = leb-true b a f in omega arith)
    (λ f. let z : a < b = leb-false b a f in absurd (true≢false (sym (le-leb b b (omega arith)) ∙ sym (h b (omega arith) q) ∙ f))))
    (λ e. let z : b < a = leb-false a b e in absurd (true≢false (sym (le-leb a a (omega arith)) ∙ h a (omega arith) p ∙ e)))

pub common-le : (v w : Word) → common v w ≤ length w
unfolding common
common-le [] w = omega arith
common-le (x ∷ v) [] = omega arith
common-le (x ∷ v) (y ∷ w) = by_cases (eqb x y) (λ e. rw e (omega (arith, common-le v w))) (λ e. rw e (omega arith))

pub starts-common : (v w : Word) (k : ℕ) → k ≤ length w → starts (take k w) v ≡ leb k (common v w)
unfolding starts common
starts-common v w zero h = sym (leb-zero (common v w))
starts-common v [] (suc k) h = absurd (omega arith)
starts-common [] (y ∷ w) (suc k) h = sym (leb-suc-zero k)
starts-common (x ∷ v) (y ∷ w) (suc k) h = by_cases (eqb x y)
    (λ e. rw (e, leb-suc-suc k (common v w)) (starts-common v w k (le_of_suc-le-suc h)))
    (λ e. rw (e, leb-suc-zero k))

pub most-le : (vs : List Word) (w : Word) → most vs w ≤ length w
unfolding most
most-le [] w = omega arith
most-le (v ∷ vs) w = omega (arith, common-le v w, most-le vs w)

leb-max : (k a b : ℕ) → leb k (max a b) ≡ (leb k a || leb k b)
leb-max k a b = by_cases (leb k a)
    (λ e. let p : k ≤ a = leb-true k a e in rw e (le-leb k (max a b) (omega arith)))
    (λ e. by_cases (leb k b)
    (λ f. let p : k ≤ b = leb-true k b f in rw (e, f) (le-leb k (max a b) (omega arith)))
    (λ f. let p : a < k = leb-false k a e in let q : b < k = leb-false k b f in rw (e, f) (lt-leb k (max a b) (omega arith))))

pub begins-most : (vs : List Word) (w : Word) (k : ℕ) → 0 < k → k ≤ length w → begins vs (take k w) ≡ leb k (most vs w)
unfolding begins most
begins-most [] w zero p h = absurd (omega arith)
begins-most [] w (suc k) p h = sym (leb-suc-zero k)
begins-most (v ∷ vs) w k p h = rw (starts-common v w k h, begins-most vs w k p h) (sym (leb-max k (common v w) (most vs w)))

-- the walk finds exactly the longest prefix shared with a word of the list
pub shared-most : (ws : List Word) (w : Word) → shared (prefixes ws) [] w ≡ most ws w
shared-most ws w = leb-equal (length w) (shared (prefixes ws) [] w) (most ws w) (shared-le (prefixes ws) [] w) (most-le ws w)
    (λ k h l. sym (begins-shared ws w k h l) ∙ begins-most ws w k h l)

pub brought : Brought
brought ws w = distinct_snoc ws w ∙ rw (shared-most ws w)
