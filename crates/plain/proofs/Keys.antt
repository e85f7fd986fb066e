-- The keys of the nodes, which are the distinct prefixes: each has one place.
use mathlib.Core.Path.{◌≡◌, refl, sym, ap, ◌∙◌, subst}
use mathlib.Core.Bool.{true, false, false≢true, true≢false, or-true}
use mathlib.Core.List.{List, [], ◌∷◌, ◌++◌, append_assoc, append_cancel_right, nil≢cons, tail-eq_of_cons-eq}
use Prim.Native.Nat.{ℕ, zero, suc, ◌+◌, ◌<◌, suc-le-suc}
use native.Mathlib.Nat.{le_of_suc-le-suc}
use native.Mathlib.Omega.{arith}
use lib.ListN.{length, get_or, get_or-append}
use lib.Seq.{get_or-append-add}
use Rattle.basis.proofs.Cases.{by_cases}
use Rattle.forms.specs.Compact.{same}
use Rattle.forms.proofs.RoundTrip.{same_self, same_true}
use Rattle.plain.specs.Words.{Word, has, add, union, all_inits, prefixes}
use Rattle.plain.proofs.WordLaws.{or_right, or-false-both, add-old, add-new, has-snoc}
use Rattle.plain.proofs.PrefixLaws.{longer, prefixes-snoc}

-- the key of node i
abbrev pub key : List Word → ℕ → Word
key K i = get_or K i []

-- ---- snoc

pub snoc-right : (a b : Word) (s t : ℕ) → a ++ (s ∷ []) ≡ b ++ (t ∷ []) → s ≡ t
snoc-right [] [] s t e = cc
snoc-right [] (y ∷ []) s t e = let z : ◌≡◌ {A = List ℕ} [] (t ∷ []) = cc in absurd (nil≢cons z)
snoc-right [] (y ∷ y' ∷ b) s t e = let z : ◌≡◌ {A = List ℕ} [] (y' ∷ b ++ (t ∷ [])) = cc in absurd (nil≢cons z)
snoc-right (x ∷ []) [] s t e = let z : ◌≡◌ {A = List ℕ} [] (s ∷ []) = cc in absurd (nil≢cons z)
snoc-right (x ∷ x' ∷ a) [] s t e = let z : ◌≡◌ {A = List ℕ} [] (x' ∷ a ++ (s ∷ [])) = cc in absurd (nil≢cons z)
snoc-right (x ∷ a) (y ∷ b) s t e = snoc-right a b s t (tail-eq_of_cons-eq e)

pub snoc-left : (a b : Word) (s t : ℕ) → a ++ (s ∷ []) ≡ b ++ (t ∷ []) → a ≡ b
snoc-left a b s t e = append_cancel_right a b (t ∷ []) (subst (λ (x : ℕ). a ++ (x ∷ []) ≡ b ++ (t ∷ [])) (snoc-right a b s t e) e)

pub snoc-nil : (a : Word) (s t : ℕ) → s ∷ [] ≡ a ++ (t ∷ []) → a ≡ []
snoc-nil a s t e = sym (snoc-left [] a s t e)

-- ---- places

pub has-place : (K : List Word) (x : Word) → has K x ≡ true → (j : ℕ) × (j < length K) × (key K j ≡ x)
unfolding has
has-place [] x e = absurd (false≢true e)
has-place (v ∷ K) x e = by_cases (same v x)
    (λ s. (0, omega arith, same_true v x s))
    (λ s. let r = has-place K x (or_right (same v x) (has K x) e s) in (suc r.0, suc-le-suc r.1, r.2))

pub place-has : (K : List Word) (x : Word) (j : ℕ) → j < length K → key K j ≡ x → has K x ≡ true
unfolding has
place-has [] x j h e = absurd (omega arith)
place-has (v ∷ K) x zero h e = rw (e, same_self x)
place-has (v ∷ K) x (suc j) h e = rw (place-has K x j (le_of_suc-le-suc h) e, or-true (same v x))

-- ---- all different

-- equal keys are those of one node
abbrev pub Different : List Word → Type 0
Different K = (i j : ℕ) → i < length K → j < length K → key K i ≡ key K j → i ≡ j

-- no word of the list comes again behind itself
unfoldable pub Fresh : List Word → Type 0
Fresh [] = Unit {0}
Fresh (v ∷ K) = (has K v ≡ false) × Fresh K

fresh-different : (K : List Word) → Fresh K → Different K
unfolding Fresh
fresh-different [] f i j h k e = absurd (omega arith)
fresh-different (v ∷ K) f zero zero h k e = refl
fresh-different (v ∷ K) f zero (suc j) h k e = absurd (true≢false (sym (place-has K v j (le_of_suc-le-suc k) (sym e)) ∙ f.0))
fresh-different (v ∷ K) f (suc i) zero h k e = absurd (true≢false (sym (place-has K v i (le_of_suc-le-suc h) e) ∙ f.0))
fresh-different (v ∷ K) f (suc i) (suc j) h k e = ap suc (fresh-different K f.1 i j (le_of_suc-le-suc h) (le_of_suc-le-suc k) e)

same-sym : (v w : Word) → same v w ≡ false → same w v ≡ false
same-sym v w e = by_cases (same w v)
    (λ s. absurd (true≢false (sym (same_self v) ∙ subst (λ (x : Word). same v x ≡ false) (same_true w v s) e)))
    (λ s. s)

fresh-snoc : (K : List Word) (w : Word) → Fresh K → has K w ≡ false → Fresh (K ++ (w ∷ []))
unfolding Fresh has
fresh-snoc [] w f h = (refl, tt)
fresh-snoc (v ∷ K) w f h =
    let b = or-false-both (same v w) (has K w) h in
    (rw (has-snoc K w v, f.0) (same-sym v w b.0), fresh-snoc K w f.1 b.1)

fresh-union : (K ws : List Word) → Fresh K → Fresh (union K ws)
unfolding union
fresh-union K [] f = f
fresh-union K (w ∷ ws) f = fresh-union (add K w) ws (by_cases (has K w) (λ e. rw (add-old K w e) f) (λ e. rw (add-new K w e) (fresh-snoc K w f e)))

pub prefixes-different : (es : List Word) → Different (prefixes es)
prefixes-different es = fresh-different (prefixes es) (unfold prefixes Fresh in fresh-union [] (all_inits es) tt)

-- ---- keys when words are entered

-- a node keeps its key
pub key-kept : (es : List Word) (w : Word) (i : ℕ) → i < length (prefixes es) → key (prefixes (es ++ (w ∷ []))) i ≡ key (prefixes es) i
key-kept es w i h = rw (prefixes-snoc es w) (get_or-append (prefixes es) _ [] i h)

longer-last : (p : Word) (t : ℕ) (u : Word) → get_or (longer p (t ∷ u)) (length u) [] ≡ p ++ (t ∷ u)
unfolding longer
longer-last p t [] = refl
longer-last p t (x ∷ u) = longer-last (p ++ (t ∷ [])) x u ∙ append_assoc p (t ∷ []) (x ∷ u)

-- the last new node has the whole word as its key
pub key-last : (K : List Word) (p : Word) (t : ℕ) (u : Word) → key (K ++ longer p (t ∷ u)) (length K + length u) ≡ p ++ (t ∷ u)
key-last K p t u = get_or-append-add K (longer p (t ∷ u)) (length u) [] ∙ longer-last p t u
