-- The keys of the nodes of a whole space: read off parents and tokens, all different, and the paths gathered are their words.
use Prim.Native.Nat.{ℕ, zero, suc, ◌-◌, ◌≤◌, ◌<◌}
use mathlib.Core.Path.{◌≡◌, refl, sym, ap, ◌∙◌}
use mathlib.Core.List.{List, [], ◌∷◌, ◌++◌, append-nil, append_assoc, nil≢cons, concat-ne-nil, head-eq_of_cons-eq}
use native.Mathlib.Omega.{arith}
use lib.Dec.{eqb, ltb}
use lib.ListN.{length, length-append, get_or-append}
use lib.Seq.{get_or_at}
use borrow.Author.Tests.{eqb-true, eqb-false, eq-eqb, ne_eqb, ltb-true, ltb-false}
use Rattle.basis.specs.Choice.{pick}
use Rattle.basis.proofs.Cases.{by_cases}
use Rattle.plain.specs.Words.{Word}
use Rattle.plain.specs.Coding.{Coding}
use Rattle.plain.proofs.Keys.{key, snoc-right, snoc-left, snoc-nil, Different}
use Rattle.space.specs.declared.Node.{Node}
use Rattle.trie.specs.Siblings.{Trie, sound}
use Rattle.trie.specs.Paths.{Path, none, tokens, below, gather}
use Rattle.store.specs.Views.{View}
use Rattle.agreement.proofs.TrieNodes.{par, Kind, is_root, is_child, Tries}
use Rattle.agreement.proofs.WholeTests.{Whole}

module _ (v : View) where
  -- the trie of which i is the root: the subgoal whose leaf stands before it
  unfoldable pub trie_of : ℕ → ℕ
  trie_of i = pick (eqb i 0) 0 (v.node (i - 1)).link

  -- by the keys of lower nodes
  unfoldable pub key_from : List Word → ℕ → Word
  key_from K i = pick (eqb (par v.node i) i) (trie_of i ∷ []) (key K (par v.node i) ++ ((v.node i).token ∷ []))

  unfoldable pub keys_up : ℕ → List Word
  keys_up zero = []
  keys_up (suc n) = let K = keys_up n in K ++ (key_from K n ∷ [])

  pub keys_length : (n : ℕ) → length (keys_up n) ≡ n
  unfolding keys_up
  keys_length zero = refl
  keys_length (suc n) = length-append (keys_up n) _ ∙ omega (arith, keys_length n)

  keys-before : (n m i : ℕ) → i < m → m ≤ n → key (keys_up n) i ≡ key (keys_up m) i
  unfolding keys_up
  keys-before zero m i h k = absurd (omega arith)
  keys-before (suc n) m i h k = by_cases (eqb m (suc n))
      (λ e. let z : m ≡ suc n = eqb-true m (suc n) e in rw z)
      (λ e. let l : m ≤ n = lower m n k (eqb-false m (suc n) e) in
      get_or-append (keys_up n) _ [] i (omega (arith, keys_length n)) ∙ keys-before n m i h l)
    where
      lower : (m n : ℕ) → m ≤ suc n → (m ≡ suc n → ⊥) → m ≤ n
      lower m n h k = omega arith

  key-last : (i : ℕ) → key (keys_up (suc i)) i ≡ key_from (keys_up i) i
  unfolding keys_up
  key-last i = get_or_at (keys_up i) (key_from (keys_up i) i) [] [] i (keys_length i)

  key_from-root : (K : List Word) (i : ℕ) → par v.node i ≡ i → key_from K i ≡ trie_of i ∷ []
  unfolding key_from
  key_from-root K i e = rw (eq-eqb (par v.node i) i e)

  key_from-child : (K : List Word) (i : ℕ) → (par v.node i ≡ i → ⊥) → key_from K i ≡ key K (par v.node i) ++ ((v.node i).token ∷ [])
  unfolding key_from
  key_from-child K i e = rw (ne_eqb (par v.node i) i e)

  module _ (n i : ℕ) (h : i < n) where
    pub key-root : par v.node i ≡ i → key (keys_up n) i ≡ trie_of i ∷ []
    key-root e = keys-before n (suc i) i (omega arith) h ∙ key-last i ∙ key_from-root (keys_up i) i e

    pub key-child : par v.node i < i → key (keys_up n) i ≡ key (keys_up n) (par v.node i) ++ ((v.node i).token ∷ [])
    key-child l =
        keys-before n (suc i) i (omega arith) h ∙ key-last i ∙ key_from-child (keys_up i) i (λ z. omega arith)
        ∙ ap (λ (x : Word). x ++ ((v.node i).token ∷ [])) (sym (keys-before n i (par v.node i) l (omega arith)))

  pub trie-zero : trie_of 0 ≡ 0
  unfolding trie_of
  trie-zero = refl

  pub trie-some : (i : ℕ) → 0 < i → trie_of i ≡ (v.node (i - 1)).link
  unfolding trie_of
  trie-some i h = rw (ne_eqb i 0 (λ z. omega arith))

module _ (c : Coding) (v : View) (W : Whole c v) where
  abbrev nd : ℕ → Node
  nd = v.node

  abbrev n : ℕ
  n = v.nodes

  abbrev K : List Word
  K = keys_up v v.nodes

  -- ---- the tries

  pub up : (i : ℕ) → i < n → (par nd i ≡ i → ⊥) → par nd i < i
  up i h e = let f = W.node i h in strict f.lower e
    where
      strict : {a b : ℕ} → a ≤ b → (a ≡ b → ⊥) → a < b
      strict h k = omega arith

  kinds : (i : ℕ) → i < n → Kind K nd i
  kinds i h = by_cases (eqb (par nd i) i)
      (λ e. let p : par nd i ≡ i = eqb-true _ _ e in is_root (trie_of v i) p ((W.node i h).root-token p) (key-root v n i h p))
      (λ e. let l = up i h (eqb-false _ _ e) in is_child l (key-child v n i h l))

  pub whole-tries : Tries (keys_up v v.nodes) v.node v.nodes
  whole-tries = record {
    keys = keys_length v n;
    kind = kinds;
    child = λ i h. (W.node i h).child;
    sibling = λ i h. (W.node i h).sibling;
  }

  -- ---- all different

  some : (i : ℕ) → i < n → key K i ≡ [] → ⊥
  some i h e = by_cases (eqb (par nd i) i)
      (λ p. nil≢cons (sym e ∙ key-root v n i h (eqb-true _ _ p)))
      (λ p. concat-ne-nil (nd i).token (key K (par nd i)) (sym (key-child v n i h (up i h (eqb-false _ _ p))) ∙ e))

  pub root-trie : (i : ℕ) → i < n → par nd i ≡ i → 0 < i → (0 < trie_of v i) × (trie_of v i ≤ v.subgoals) × ((v.subgoal (trie_of v i)).root ≡ i)
  root-trie i h p pos = let f = (W.node i h).root-own p pos in rw (trie-some v i pos) f

  roots-differ : (i j : ℕ) → i < n → j < n → par nd i ≡ i → par nd j ≡ j → trie_of v i ≡ trie_of v j → i ≡ j
  roots-differ i j h k p q e = by_cases (eqb i 0)
      (λ a. by_cases (eqb j 0)
      (λ b. eqb-true i 0 a ∙ sym (eqb-true j 0 b))
      (λ b. let z : trie_of v i ≡ 0 = ap (trie_of v) (eqb-true i 0 a) ∙ trie-zero v in let f = root-trie j k q (pos j (eqb-false j 0 b)) in absurd (omega (arith, f.0))))
      (λ a. by_cases (eqb j 0)
      (λ b. let z : trie_of v j ≡ 0 = ap (trie_of v) (eqb-true j 0 b) ∙ trie-zero v in let f = root-trie i h p (pos i (eqb-false i 0 a)) in absurd (omega (arith, f.0)))
      (λ b. sym (root-trie i h p (pos i (eqb-false i 0 a))).2 ∙ ap (λ (s : ℕ). (v.subgoal s).root) e ∙ (root-trie j k q (pos j (eqb-false j 0 b))).2))
    where
      pos : (i : ℕ) → (i ≡ 0 → ⊥) → 0 < i
      pos i h = omega arith

  -- two children of one node with one token are one
  children-differ : (i j : ℕ) → i < n → j < n → (par nd i ≡ i → ⊥) → (par nd j ≡ j → ⊥) → par nd i ≡ par nd j → (nd i).token ≡ (nd j).token → i ≡ j
  children-differ i j h k p q e t = by_cases (ltb i j)
      (λ l. absurd ((W.node i h).token-own p j k (ltb-true _ _ l) (sym e) (sym t)))
      (λ l. by_cases (ltb j i)
      (λ m. absurd ((W.node j k).token-own q i h (ltb-true _ _ m) e t))
      (λ m. between (ltb-false _ _ l) (ltb-false _ _ m)))
    where
      between : {a b : ℕ} → b ≤ a → a ≤ b → a ≡ b
      between h k = omega arith

  differ : (b i j : ℕ) → i < b → i < n → j < n → key K i ≡ key K j → i ≡ j
  differ zero i j l h k e = absurd (omega arith)
  differ (suc b) i j l h k e = by_cases (eqb (par nd i) i)
      (λ p. by_cases (eqb (par nd j) j)
      (λ q. roots-differ i j h k (eqb-true _ _ p) (eqb-true _ _ q) (head-eq_of_cons-eq (sym (key-root v n i h (eqb-true _ _ p)) ∙ e ∙ key-root v n j k (eqb-true _ _ q))))
      (λ q. let r = up j k (eqb-false _ _ q) in
      absurd (some (par nd j) (omega arith) (snoc-nil (key K (par nd j)) (trie_of v i) (nd j).token (sym (key-root v n i h (eqb-true _ _ p)) ∙ e ∙ key-child v n j k r)))))
      (λ p. let l' = up i h (eqb-false _ _ p) in
      by_cases (eqb (par nd j) j)
      (λ q. absurd (some (par nd i) (omega arith) (snoc-nil (key K (par nd i)) (trie_of v j) (nd i).token (sym (key-root v n j k (eqb-true _ _ q)) ∙ sym e ∙ key-child v n i h l'))))
      (λ q. let r = up j k (eqb-false _ _ q) in
      let x : key K (par nd i) ++ ((nd i).token ∷ []) ≡ key K (par nd j) ++ ((nd j).token ∷ []) = sym (key-child v n i h l') ∙ e ∙ key-child v n j k r in
      children-differ i j h k (eqb-false _ _ p) (eqb-false _ _ q)
      (differ b (par nd i) (par nd j) (omega arith) (omega arith) (omega arith) (snoc-left (key K (par nd i)) (key K (par nd j)) (nd i).token (nd j).token x))
      (snoc-right (key K (par nd i)) (key K (par nd j)) (nd i).token (nd j).token x)))

  pub whole-different : Different (keys_up v v.nodes)
  whole-different i j h k e = differ n i j (omega (arith, keys_length v n)) (omega (arith, keys_length v n)) (omega (arith, keys_length v n)) e

  -- ---- paths

  -- a path that is gathered is the word between the keys
  module _ (b root : ℕ) where
    abbrev T : Trie
    T = record { at = v.node; nodes = v.nodes; links = b }

    abbrev Reached : ℕ → Path → Type 0
    Reached i p = (w : Word) → p ≡ tokens w → key K i ≡ key K root ++ w

    ending-key : (i : ℕ) → Reached i (pick (eqb i root) (tokens []) none)
    ending-key i = by_cases (eqb i root)
        (λ e. rw e (λ w q. let z : [] ≡ w = cc in rw (← z, eqb-true i root e) (sym (append-nil (key K root)))))
        (λ e. rw e (λ w q. let z : ◌≡◌ {A = ℕ} 0 1 = cc in absurd (omega arith)))

    none-key : (i : ℕ) → Reached i none
    none-key i w q = let z : ◌≡◌ {A = ℕ} 0 1 = cc in absurd (omega arith)

    below_key : (i : ℕ) (p : Path) → i < n → par nd i < i → Reached (par nd i) p → Reached i (below p (nd i).token)
    below_key i none h l r w q = let z : ◌≡◌ {A = ℕ} 0 1 = cc in absurd (omega arith)
    below_key i (tokens u) h l r w q =
        let z : u ++ ((nd i).token ∷ []) ≡ w = cc in
        key-child v n i h l ∙ ap (λ (x : Word). x ++ ((nd i).token ∷ [])) (r u refl) ∙ append_assoc (key K root) u ((nd i).token ∷ []) ∙ ap (λ (x : Word). key K root ++ x) z

    pub gathered-key : (k i : ℕ) → i < v.nodes → Reached i (gather k T root i)
    unfolding gather
    gathered-key zero i h = by_cases (sound T i)
        (λ s. by_cases (eqb (par nd i) i) (λ p. rw (s, p) (ending-key i)) (λ p. rw (s, p) (none-key i)))
        (λ s. rw s (none-key i))
    gathered-key (suc k) i h = by_cases (sound T i)
        (λ s. by_cases (eqb (par nd i) i)
        (λ p. rw (s, p) (ending-key i))
        (λ p. let l = up i h (eqb-false _ _ p) in rw (s, p) (below_key i (gather k T root (par nd i)) h l (gathered-key k (par nd i) (omega arith)))))
        (λ s. rw s (none-key i))
