-- The links of the nodes by their keys, and a word entered past where the walk stopped, its leaf linked.
use mathlib.Core.Path.{◌≡◌, refl, sym, ap, ◌∙◌, subst}
use mathlib.Core.Bool.{true, false}
use mathlib.Core.List.{List, [], ◌∷◌, ◌++◌}
use Prim.Native.Nat.{ℕ, suc, ◌+◌, ◌-◌, ◌≤◌, ◌<◌}
use native.Mathlib.Omega.{arith}
use lib.Dec.{eqb, ltb}
use lib.ListN.{length, drop, length-append, get_or-append}
use lib.Seq.{get_or_at}
use borrow.Author.Tests.{eqb-true, eqb-false, eq-eqb, ne_eqb, ltb-true, ltb-false}
use Rattle.basis.specs.Choice.{pick}
use Rattle.basis.proofs.Cases.{by_cases}
use Rattle.forms.specs.Compact.{same}
use Rattle.forms.proofs.RoundTrip.{same_self, same_true}
use Rattle.plain.specs.Words.{Word, has, prefixes}
use Rattle.plain.proofs.PrefixLaws.{begins, longer, shared}
use Rattle.plain.proofs.Entries.{prefixes-under}
use Rattle.plain.proofs.Keys.{key, Different, has-place, key-last}
use Rattle.space.specs.declared.Node.{Node}
use Rattle.trie.specs.Append.{new_root, with_path}
use Rattle.agreement.specs.Records.{with_link, updated}
use Rattle.agreement.proofs.Numberings.{Numbering, numbering-more, shared-members}
use Rattle.agreement.proofs.TrieNodes.{Tries, Linked, tries-linked, Stop, tries-path, path-link-before, path-link-new}

-- ---- a reader with one record changed

pub updated-here : {R : Type 0} (nd : ℕ → R) (j : ℕ) (y : R) → updated nd j y j ≡ y
updated-here nd j y = rw (eq-eqb j j refl)

pub updated-other : {R : Type 0} (nd : ℕ → R) (j : ℕ) (y : R) (i : ℕ) → (i ≡ j → ⊥) → updated nd j y i ≡ nd i
updated-other nd j y i h = rw (ne_eqb i j h)

-- ---- a link written

-- the reader with the link of node j written
abbrev pub linking : (ℕ → Node) → ℕ → ℕ → ℕ → Node
linking nd j v = updated nd j (with_link (nd j) v)

linking-field : (f : Node → ℕ) → ((y : Node) (v : ℕ) → f (with_link y v) ≡ f y) → (nd : ℕ → Node) (j v i : ℕ) → f (linking nd j v i) ≡ f (nd i)
linking-field f h nd j v i = by_cases (eqb i j)
    (λ e. rw e (h (nd j) v ∙ ap (λ (k : ℕ). f (nd k)) (sym (eqb-true i j e))))
    (λ e. rw e)

pub linking-linked : (nd : ℕ → Node) (n j v : ℕ) → Linked nd (linking nd j v) n
linking-linked nd n j v = record {
  token-same = λ i h. linking-field (λ y. y.token) (λ y m. refl) nd j v i;
  child-same = λ i h. linking-field (λ y. y.child) (λ y m. refl) nd j v i;
  sibling-same = λ i h. linking-field (λ y. y.sibling) (λ y m. refl) nd j v i;
  parent-same = λ i h. linking-field (λ y. y.parent) (λ y m. refl) nd j v i;
}

-- ---- links by keys

abbrev pub Links : List Word → (ℕ → Node) → ℕ → (Word → ℕ) → Type 0
Links K nd n f = (i : ℕ) → i < n → (nd i).link ≡ f (key K i)

-- of a new path: old ones stay, new ones are 0
links-path : (K L : List Word) (nd : ℕ → Node) (n q l : ℕ) (w : Word) (f : Word → ℕ) → length K ≡ n → length (K ++ L) ≡ n + length w → Different (K ++ L)
    → Links K nd n f → ((y : Word) → has K y ≡ false → f y ≡ 0) → Links (K ++ L) (with_path nd n q l w) (n + length w) f
links-path K L nd n q l w f size whole d h z i b = by_cases (ltb i n)
    (λ e. let lt : i < n = ltb-true _ _ e in
    path-link-before nd n q l w i lt ∙ h i lt ∙ ap f (sym (get_or-append K L [] i (omega arith))))
    (λ e. let ge : n ≤ i = ltb-false _ _ e in
    path-link-new nd n q l w i ge b ∙ sym (z (key (K ++ L) i) (by_cases (has K (key (K ++ L) i))
    (λ y. let p = has-place K (key (K ++ L) i) y in
    let same_place : p.0 ≡ i = d p.0 i (omega (arith, p.1, length-append K L)) (omega arith) (get_or-append K L [] p.0 p.1 ∙ p.2) in
    absurd (omega (arith, p.1)))
    (λ y. y))))

pub links-linking : (K : List Word) (nd : ℕ → Node) (n : ℕ) (f : Word → ℕ) (j v : ℕ) → length K ≡ n → Different K → j < n → Links K nd n f
    → Links K (linking nd j v) n (λ y. pick (same (key K j) y) v (f y))
links-linking K nd n f j v size d hj h i b = by_cases (eqb i j)
    (λ e. let i=j : i ≡ j = eqb-true i j e in rw (e, i=j, same_self (key K j)))
    (λ e. by_cases (same (key K j) (key K i))
    (λ z. absurd (eqb-false i j e (sym (d j i (omega arith) (omega arith) (same_true _ _ z)))))
    (λ z. rw (e, z) (h i b)))

pub links-root : (K : List Word) (nd new : ℕ → Node) (n : ℕ) (f : Word → ℕ) (s : ℕ) → length K ≡ n → f (s ∷ []) ≡ 0 → ((i : ℕ) → i < n → new i ≡ nd i) → new n ≡ new_root n
    → Links K nd n f → Links (K ++ ((s ∷ []) ∷ [])) new (suc n) f
links-root K nd new n f s size z kept last h i b = by_cases (eqb i n)
    (λ e. let i=n : i ≡ n = eqb-true _ _ e in
    rw (i=n, last, get_or_at K (s ∷ []) [] [] n size) (sym z))
    (λ e. let lt : i < n = lower (eqb-false _ _ e) in
    rw (kept i lt, get_or-append K ((s ∷ []) ∷ []) [] i (omega arith)) (h i lt))
  where
    lower : (i ≡ n → ⊥) → i < n
    lower ne = omega arith

-- ---- a word entered past where the walk stopped

module _ (es K : List Word) (num : Numbering es K) (nd : ℕ → Node) (n s p q l a : ℕ) (u w : Word) (r : Tries K nd n)
    (there : begins es (s ∷ []) ≡ true) (root-key : key K p ≡ s ∷ [])
    (inside : q < n) (st : Stop nd n q l)
    (path : key K q ++ (a ∷ u) ≡ s ∷ w)
    (rest : longer (key K q) (a ∷ u) ≡ drop (shared K (key K p) w) (longer (key K p) w)) where
  -- the entries with the word, the keys with the new ones, the count and the new leaf
  abbrev more : List Word
  more = es ++ ((s ∷ w) ∷ [])

  abbrev longer_keys : List Word
  longer_keys = K ++ longer (key K q) (a ∷ u)

  abbrev total : ℕ
  total = n + length (a ∷ u)

  keys-more : prefixes more ≡ prefixes es ++ longer (key K q) (a ∷ u)
  keys-more = prefixes-under es s w there ∙ ap {B = List Word} (λ (y : List Word). prefixes es ++ y)
      (ap (λ (i : ℕ). drop i (longer (s ∷ []) w)) (sym (shared-members K (prefixes es) num.members (s ∷ []) w))
      ∙ subst (λ (y : Word). drop (shared K y w) (longer y w) ≡ longer (key K q) (a ∷ u)) root-key (sym rest))

  pub numbering-leaf : Numbering (es ++ ((s ∷ w) ∷ [])) (K ++ longer (key K q) (a ∷ u))
  numbering-leaf = numbering-more es more K (longer (key K q) (a ∷ u)) num keys-more

  pub leaf-key : key (K ++ longer (key K q) (a ∷ u)) (n + length (a ∷ u) - 1) ≡ s ∷ w
  leaf-key =
      let at_leaf : total - 1 ≡ length K + length u = omega (arith, r.keys) in
      rw at_leaf (key-last K (key K q) a u ∙ path)

  tries-entered : Tries longer_keys (with_path nd n q l (a ∷ u)) total
  tries-entered = tries-path K nd n q l (a ∷ u) r inside st

  pub tries-leaf : (v : ℕ) → Tries (K ++ longer (key K q) (a ∷ u)) (linking (with_path nd n q l (a ∷ u)) (n + length (a ∷ u) - 1) v) (n + length (a ∷ u))
  tries-leaf v = tries-linked longer_keys (with_path nd n q l (a ∷ u)) _ total tries-entered (linking-linked (with_path nd n q l (a ∷ u)) total (total - 1) v)

  pub links-leaf : (f g : Word → ℕ) (v : ℕ) → Links K nd n f → ((y : Word) → has K y ≡ false → f y ≡ 0)
      → ((y : Word) → g y ≡ pick (same (s ∷ w) y) v (f y))
      → Links (K ++ longer (key K q) (a ∷ u)) (linking (with_path nd n q l (a ∷ u)) (n + length (a ∷ u) - 1) v) (n + length (a ∷ u)) g
  links-leaf f g v h z e i b =
      let one : Links longer_keys (with_path nd n q l (a ∷ u)) total f =
      links-path K (longer (key K q) (a ∷ u)) nd n q l (a ∷ u) f r.keys tries-entered.keys numbering-leaf.different h z in
      links-linking longer_keys (with_path nd n q l (a ∷ u)) total f (total - 1) v tries-entered.keys numbering-leaf.different (omega arith) one i b
      ∙ rw leaf-key (sym (e (key longer_keys i)))
