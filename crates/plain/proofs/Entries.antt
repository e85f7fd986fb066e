-- One forest for all tries: each stored word has the number of its trie in front, 0 for the subgoals, s for the answers to s.
use mathlib.Core.Path.{◌≡◌, refl, sym, ◌∙◌}
use mathlib.Core.Bool.{true, false}
use mathlib.Core.List.{List, [], ◌∷◌, ◌++◌, append-nil}
use Prim.Native.Nat.{ℕ, suc, ◌+◌, ◌<◌}
use native.Mathlib.Omega.{arith}
use lib.Dec.{eqb}
use lib.ListN.{length, drop}
use borrow.Author.Tests.{eq-eqb, ne_eqb}
use Rattle.basis.specs.Choice.{pick}
use Rattle.basis.proofs.Cases.{by_cases}
use Rattle.plain.specs.Words.{Word, has, prefixes, distinct}
use Rattle.plain.proofs.PrefixLaws.{starts, begins, longer, shared, has-begins, has-prefixes, has-prefixes-snoc, prefixes-closed, prefixes-snoc, prefixes-snoc-length, shared-whole, distinct_snoc}

-- the words of trie s
unfoldable pub under : ℕ → List Word → List Word
under s [] = []
under s ([] ∷ es) = under s es
under s ((x ∷ w) ∷ es) = pick (eqb x s) (w ∷ under s es) (under s es)

pub under-append : (s : ℕ) (es fs : List Word) → under s (es ++ fs) ≡ under s es ++ under s fs
unfolding under
under-append s [] fs = refl
under-append s ([] ∷ es) fs = under-append s es fs
under-append s ((x ∷ w) ∷ es) fs = by_cases (eqb x s) (λ e. rw (e, under-append s es fs)) (λ e. rw (e, under-append s es fs))

pub under_same : (s : ℕ) (w : Word) → under s ((s ∷ w) ∷ []) ≡ w ∷ []
unfolding under
under_same s w = rw (eq-eqb s s refl)

pub under-other : (s x : ℕ) (w : Word) → (x ≡ s → ⊥) → under s ((x ∷ w) ∷ []) ≡ []
unfolding under
under-other s x w h = rw (ne_eqb x s h)

pub begins-under : (s : ℕ) (es : List Word) (u : Word) → begins es (s ∷ u) ≡ begins (under s es) u
unfolding begins under starts
begins-under s [] u = refl
begins-under s ([] ∷ es) u = begins-under s es u
begins-under s ((x ∷ w) ∷ es) u = by_cases (eqb x s) (λ e. rw (e, begins-under s es u)) (λ e. rw (e, begins-under s es u))

has-under : (s : ℕ) (es : List Word) (p : Word) (t : ℕ) → has (prefixes es) (s ∷ p ++ (t ∷ [])) ≡ has (prefixes (under s es)) (p ++ (t ∷ []))
has-under s es p t =
    has-prefixes es s (p ++ (t ∷ [])) ∙ begins-under s es (p ++ (t ∷ []))
    ∙ sym (rw append-nil at (has-prefixes-snoc (under s es) p t []))

-- inside a trie, the walk sees the words of this trie alone
pub shared-under : (s : ℕ) (es : List Word) (p w : Word) → shared (prefixes es) (s ∷ p) w ≡ shared (prefixes (under s es)) p w
unfolding shared
shared-under s es p [] = refl
shared-under s es p (t ∷ w) = by_cases (has (prefixes (under s es)) (p ++ (t ∷ [])))
    (λ e. rw (has-under s es p t, e, shared-under s es (p ++ (t ∷ [])) w))
    (λ e. rw (has-under s es p t, e))

shared_root : (s : ℕ) (es : List Word) (w : Word) → begins es (s ∷ []) ≡ true → shared (prefixes es) [] (s ∷ w) ≡ suc (shared (prefixes (under s es)) [] w)
unfolding shared
shared_root s es w e = rw (has-prefixes es s [], e, shared-under s es [] w)

shared-none : (s : ℕ) (es : List Word) (w : Word) → begins es (s ∷ []) ≡ false → shared (prefixes es) [] (s ∷ w) ≡ 0
unfolding shared
shared-none s es w e = rw (has-prefixes es s [], e)

-- a word more in a trie that is there: as many nodes as the words of its own trie have distinct prefixes more
pub nodes-entry : (s : ℕ) (es : List Word) (w : Word) → begins es (s ∷ []) ≡ true
    → length (prefixes (es ++ ((s ∷ w) ∷ []))) + distinct (under s es) ≡ length (prefixes es) + distinct (under s es ++ (w ∷ []))
nodes-entry s es w e =
    rw (prefixes-snoc-length es (s ∷ w), distinct_snoc (under s es) w, shared_root s es w e) (omega arith)

-- a root more: one node
pub nodes-root : (s : ℕ) (es : List Word) → begins es (s ∷ []) ≡ false → length (prefixes (es ++ ((s ∷ []) ∷ []))) ≡ suc (length (prefixes es))
nodes-root s es e = rw (prefixes-snoc-length es (s ∷ []), shared-none s es [] e) (omega arith)

-- ---- the keys of one entry more

-- a word more in a trie that is there
pub prefixes-under : (es : List Word) (s : ℕ) (w : Word) → begins es (s ∷ []) ≡ true
    → prefixes (es ++ ((s ∷ w) ∷ [])) ≡ prefixes es ++ drop (shared (prefixes es) (s ∷ []) w) (longer (s ∷ []) w)
prefixes-under es s w e = prefixes-snoc es (s ∷ w) ∙ (unfold shared longer in rw (has-prefixes es s [], e))

-- a root more
pub prefixes-root : (es : List Word) (s : ℕ) → begins es (s ∷ []) ≡ false → prefixes (es ++ ((s ∷ []) ∷ [])) ≡ prefixes es ++ ((s ∷ []) ∷ [])
unfolding shared longer
prefixes-root es s b = prefixes-snoc es (s ∷ []) ∙ rw (has-prefixes es s [], b)

-- ---- a trie with its root and its words

module _ (es ws : List Word) (s : ℕ) (u : under s es ≡ [] ∷ ws) where
  pub trie-root : begins es (s ∷ []) ≡ true
  trie-root = begins-under s es [] ∙ rw u (unfold begins starts in refl)

  pub trie-has : (t : ℕ) (w : Word) → has (prefixes es) (s ∷ t ∷ w) ≡ begins ws (t ∷ w)
  trie-has t w = has-prefixes es s (t ∷ w) ∙ begins-under s es (t ∷ w) ∙ rw u (unfold begins starts in refl)

  -- a word of which the walk finds less is not there
  pub trie-lacks : (w : Word) → shared (prefixes es) (s ∷ []) w < length w → has ws w ≡ false
  trie-lacks [] h = absurd (omega arith)
  trie-lacks (t ∷ w) h = by_cases (has ws (t ∷ w))
      (λ e. let z = shared-whole (prefixes es) (s ∷ []) (t ∷ w) (prefixes-closed es) (trie-has t w ∙ has-begins ws (t ∷ w) e) in absurd (omega arith))
      (λ e. e)
