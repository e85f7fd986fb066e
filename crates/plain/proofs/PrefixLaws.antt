-- Laws of distinct prefixes: which they are, and how many more one word brings.
use mathlib.Core.Path.{◌≡◌, refl, sym, ap, ◌∙◌}
use mathlib.Core.Bool.{Bool, true, false, ◌&&◌, ◌||◌, or-true, false≢true, true≢false}
use mathlib.Core.List.{List, [], ◌∷◌, ◌++◌, map, append_assoc, append-nil}
use Prim.Native.Nat.{ℕ, suc, ◌+◌, ◌-◌, ◌≤◌}
use native.Mathlib.Omega.{arith}
use lib.Dec.{eqb}
use lib.ListN.{length, drop, length-append, length-drop}
use borrow.Author.Tests.{eq-eqb}
use Rattle.basis.specs.Choice.{pick}
use Rattle.basis.proofs.Cases.{by_cases}
use Rattle.forms.specs.Compact.{same}
use Rattle.forms.proofs.RoundTrip.{same_self, same_true}
use Rattle.plain.specs.Words.{Word, has, union, inits, all_inits, prefixes, distinct}
use Rattle.plain.proofs.WordLaws.{or_right, or-false-both, same-grown, has-append, has-snoc, has-union, union-nil, union-old, union-new, union-append}

-- ---- prefixes longer than p, as a walk meets them

-- the prefixes of p ++ w that are longer than p, the shortest first
unfoldable pub longer : Word → Word → List Word
longer p [] = []
longer p (t ∷ w) = (p ++ (t ∷ [])) ∷ longer (p ++ (t ∷ [])) w

pub longer-length : (p w : Word) → length (longer p w) ≡ length w
unfolding longer
longer-length p [] = refl
longer-length p (t ∷ w) = ap suc (longer-length (p ++ (t ∷ [])) w)

map-map : (p : Word) (t : ℕ) (ws : List Word) → map (λ u. p ++ u) (map (λ u. t ∷ u) ws) ≡ map (λ u. (p ++ (t ∷ [])) ++ u) ws
map-map p t [] = refl
map-map p t (w ∷ ws) = rw (map-map p t ws, append_assoc p (t ∷ []) w)

pub longer-map : (p w : Word) → longer p w ≡ map (λ u. p ++ u) (inits w)
unfolding longer inits
longer-map p [] = refl
longer-map p (t ∷ w) = rw (longer-map (p ++ (t ∷ [])) w, map-map p t (inits w))

map-id : (ws : List Word) → map (λ u. u) ws ≡ ws
map-id [] = refl
map-id (w ∷ ws) = ap {B = List Word} (λ r. w ∷ r) (map-id ws)

pub inits-longer : (w : Word) → inits w ≡ longer [] w
inits-longer w = sym (longer-map [] w ∙ map-id (inits w))

-- words none of which the list holds, each going on from the one before: all are added
pub longer-added : (vs : List Word) (q w : Word) → ((u : Word) → has vs (q ++ u) ≡ false) → union vs (q ∷ longer q w) ≡ vs ++ (q ∷ longer q w)
unfolding longer
longer-added vs q [] h = union-new vs q [] (rw append-nil at (h [])) ∙ union-nil _
longer-added vs q (t ∷ w) h =
    let k : (u : Word) → has (vs ++ (q ∷ [])) ((q ++ (t ∷ [])) ++ u) ≡ false =
    λ u. rw (append_assoc q (t ∷ []) u, has-snoc vs q (q ++ t ∷ u), h (t ∷ u)) (same-grown q t u) in
    union-new vs q (longer q (t ∷ w)) (rw append-nil at (h [])) ∙ longer-added (vs ++ (q ∷ [])) (q ++ (t ∷ [])) w k ∙ append_assoc vs (q ∷ []) _

-- how many tokens of w a walk from p finds, where vs holds the prefixes
unfoldable pub shared : List Word → Word → Word → ℕ
shared vs p [] = 0
shared vs p (t ∷ w) = pick (has vs (p ++ (t ∷ []))) (suc (shared vs (p ++ (t ∷ [])) w)) 0

-- where the list lacks a word, it lacks those that go on from it
abbrev pub Closed : List Word → Type 0
Closed vs = (p : Word) (t : ℕ) (u : Word) → has vs (p ++ (t ∷ [])) ≡ false → has vs ((p ++ (t ∷ [])) ++ u) ≡ false

-- a walk to a word that is there finds all of it
pub shared-whole : (vs : List Word) (p w : Word) → Closed vs → has vs (p ++ w) ≡ true → shared vs p w ≡ length w
unfolding shared
shared-whole vs p [] c e = refl
shared-whole vs p (t ∷ w) c e = by_cases (has vs (p ++ (t ∷ [])))
    (λ h. rw h (ap suc (shared-whole vs (p ++ (t ∷ [])) w c (rw (append_assoc p (t ∷ []) w) e))))
    (λ h. absurd (true≢false (sym e ∙ rw (append_assoc p (t ∷ []) w) at (c p t w h))))

-- adding a word's prefixes appends those past what the walk finds
pub union-longer : (vs : List Word) (p w : Word) → Closed vs → union vs (longer p w) ≡ vs ++ drop (shared vs p w) (longer p w)
unfolding longer shared
union-longer vs p [] c = union-nil vs ∙ sym (append-nil vs)
union-longer vs p (t ∷ w) c =
    by_cases (has vs (p ++ (t ∷ [])))
    (λ e. rw e (union-old vs (p ++ (t ∷ [])) (longer (p ++ (t ∷ [])) w) e ∙ union-longer vs (p ++ (t ∷ [])) w c))
    (λ e. rw e (longer-added vs (p ++ (t ∷ [])) w (λ u. c p t u e)))

-- ---- which prefixes

-- whether the second word begins with the first
unfoldable pub starts : Word → Word → Bool
starts [] w = true
starts (x ∷ u) [] = false
starts (x ∷ u) (y ∷ w) = eqb y x && starts u w

-- whether some word of the list begins with u
unfoldable pub begins : List Word → Word → Bool
begins [] u = false
begins (w ∷ ws) u = starts u w || begins ws u

has-map : (t : ℕ) (vs : List Word) (x : ℕ) (u : Word) → has (map (λ v. t ∷ v) vs) (x ∷ u) ≡ (eqb t x && has vs u)
unfolding has same
has-map t [] x u = by_cases (eqb t x) (λ e. rw e) (λ e. rw e)
has-map t (v ∷ vs) x u = by_cases (eqb t x) (λ e. rw (has-map t vs x u, e)) (λ e. rw (has-map t vs x u, e))

pub starts-inits : (u w : Word) → starts u w ≡ (same [] u || has (inits w) u)
unfolding starts same has inits
starts-inits [] w = refl
starts-inits (x ∷ u) [] = refl
starts-inits (x ∷ u) (y ∷ w) = by_cases (eqb y x)
    (λ e. rw (has-map y (inits w) x u, e) (starts-inits u w))
    (λ e. rw (has-map y (inits w) x u, e))

pub has-all_inits : (ws : List Word) (t : ℕ) (u : Word) → has (all_inits ws) (t ∷ u) ≡ begins ws (t ∷ u)
unfolding all_inits begins
has-all_inits [] t u = unfold has in refl
has-all_inits (w ∷ ws) t u = rw (has-append (inits w) (all_inits ws) (t ∷ u), has-all_inits ws t u, starts-inits (t ∷ u) w) (unfold same in refl)

pub has-prefixes : (ws : List Word) (t : ℕ) (u : Word) → has (prefixes ws) (t ∷ u) ≡ begins ws (t ∷ u)
unfolding prefixes
has-prefixes ws t u = has-union [] (all_inits ws) (t ∷ u) ∙ (unfold has in has-all_inits ws t u)

pub starts-self : (w : Word) → starts w w ≡ true
unfolding starts
starts-self [] = refl
starts-self (t ∷ w) = rw (eq-eqb t t refl) (starts-self w)

pub has-begins : (ws : List Word) (w : Word) → has ws w ≡ true → begins ws w ≡ true
unfolding has begins
has-begins [] w e = absurd (false≢true e)
has-begins (v ∷ ws) w e = by_cases (same v w)
    (λ s. rw (same_true v w s, starts-self w))
    (λ s. rw (has-begins ws w (or_right (same v w) (has ws w) e s), or-true (starts w v)))

-- a word that only the list with one more begins, the last begins with
pub begins-last : (ws : List Word) (w u : Word) → begins ws u ≡ false → begins (ws ++ (w ∷ [])) u ≡ true → starts u w ≡ true
unfolding begins
begins-last [] w u e h = by_cases (starts u w) (λ s. s) (λ s. absurd (false≢true (rw s at h)))
begins-last (v ∷ ws) w u e h =
    let b = or-false-both (starts u v) (begins ws u) e in
    begins-last ws w u b.1 (or_right (starts u v) (begins (ws ++ (w ∷ [])) u) h b.0)

pub begins-witness : (ws : List Word) (w : Word) → begins ws w ≡ true → (v : Word) × (has ws v ≡ true) × (starts w v ≡ true)
unfolding has begins
begins-witness [] w e = absurd (false≢true e)
begins-witness (v ∷ ws) w e = by_cases (starts w v)
    (λ s. (v, rw (same_self v), s))
    (λ s. let r = begins-witness ws w (or_right (starts w v) (begins ws w) e s) in (r.0, rw (r.1, or-true (same v r.0)), r.2))

-- ---- closed under prefixes

pub starts-append : (p u w : Word) → starts p w ≡ false → starts (p ++ u) w ≡ false
unfolding starts
starts-append [] u w e = absurd (true≢false e)
starts-append (x ∷ p) u [] e = refl
starts-append (x ∷ p) u (y ∷ w) e = by_cases (eqb y x) (λ h. rw h (starts-append p u w (rw h at e))) (λ h. rw h)

pub begins-append : (ws : List Word) (p u : Word) → begins ws p ≡ false → begins ws (p ++ u) ≡ false
unfolding begins
begins-append [] p u e = refl
begins-append (w ∷ ws) p u e =
    let h : (starts p w ≡ false) × (begins ws p ≡ false) = or-false-both (starts p w) (begins ws p) e in
    rw (starts-append p u w h.0, begins-append ws p u h.1)

pub has-prefixes-snoc : (ws : List Word) (p : Word) (t : ℕ) (u : Word) → has (prefixes ws) ((p ++ (t ∷ [])) ++ u) ≡ begins ws ((p ++ (t ∷ [])) ++ u)
has-prefixes-snoc ws [] t u = has-prefixes ws t u
has-prefixes-snoc ws (x ∷ p) t u = has-prefixes ws x _

pub prefixes-closed : (ws : List Word) → Closed (prefixes ws)
prefixes-closed ws p t u e =
    has-prefixes-snoc ws p t u ∙ begins-append ws (p ++ (t ∷ [])) u
    (sym (rw append-nil at (has-prefixes-snoc ws p t [])) ∙ e)

-- ---- how many more

pub all_inits-append : (ws us : List Word) → all_inits (ws ++ us) ≡ all_inits ws ++ all_inits us
unfolding all_inits
all_inits-append [] us = refl
all_inits-append (w ∷ ws) us = rw (all_inits-append ws us) (sym (append_assoc (inits w) (all_inits ws) (all_inits us)))

all_inits-one : (w : Word) → all_inits (w ∷ []) ≡ longer [] w
unfolding all_inits
all_inits-one w = append-nil (inits w) ∙ inits-longer w

pub prefixes-snoc : (ws : List Word) (w : Word) → prefixes (ws ++ (w ∷ [])) ≡ prefixes ws ++ drop (shared (prefixes ws) [] w) (longer [] w)
unfolding prefixes
prefixes-snoc ws w =
    ap (union []) (all_inits-append ws (w ∷ []) ∙ ap (λ (r : List Word). all_inits ws ++ r) (all_inits-one w))
    ∙ union-append [] (all_inits ws) (longer [] w)
    ∙ union-longer (prefixes ws) [] w (prefixes-closed ws)

pub shared-le : (vs : List Word) (p w : Word) → shared vs p w ≤ length w
unfolding shared
shared-le vs p [] = omega arith
shared-le vs p (t ∷ w) = by_cases (has vs (p ++ (t ∷ []))) (λ e. rw e (omega (arith, shared-le vs (p ++ (t ∷ [])) w))) (λ e. rw e (omega arith))

pub prefixes-snoc-length : (ws : List Word) (w : Word) → length (prefixes (ws ++ (w ∷ []))) ≡ length (prefixes ws) + (length w - shared (prefixes ws) [] w)
prefixes-snoc-length ws w =
    ap length (prefixes-snoc ws w)
    ∙ length-append (prefixes ws) _
    ∙ ap (λ (n : ℕ). length (prefixes ws) + n) (length-drop (shared (prefixes ws) [] w) (longer [] w) ∙ ap (λ (n : ℕ). n - shared (prefixes ws) [] w) (longer-length [] w))

-- a word brings as many distinct prefixes as it has tokens past what the walk finds
pub distinct_snoc : (ws : List Word) (w : Word) → distinct (ws ++ (w ∷ [])) ≡ distinct ws + (length w - shared (prefixes ws) [] w)
unfolding distinct
distinct_snoc ws w = prefixes-snoc-length ws w
