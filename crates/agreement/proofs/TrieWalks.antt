-- Search, walk and gathering over the node records of a forest: no record is damaged, and they find what the keys say.
use mathlib.Core.Path.{◌≡◌, refl, sym, ap, ◌∙◌, subst}
use mathlib.Core.Bool.{true, false, true≢false}
use mathlib.Core.List.{List, [], ◌∷◌, ◌++◌, append_assoc, append-nil, nil≢cons, concat-ne-nil, head-eq_of_cons-eq, tail-eq_of_cons-eq}
use Prim.Native.Nat.{ℕ, zero, suc, ◌+◌, ◌≤◌, ◌<◌}
use native.Mathlib.Omega.{arith}
use lib.Dec.{eqb, ltb}
use lib.ListN.{length, drop, length-append}
use borrow.Author.Tests.{eqb-true, eqb-false, eq-eqb, ne_eqb, lt-ltb, ltb-true, ltb-false}
use Rattle.basis.proofs.Cases.{by_cases}
use Rattle.plain.specs.Words.{Word, has}
use Rattle.plain.specs.Table.{after}
use Rattle.plain.proofs.PrefixLaws.{longer, shared}
use Rattle.plain.proofs.Keys.{key, snoc-right, snoc-left, snoc-nil, has-place, place-has, Different}
use Rattle.plain.proofs.AfterLaws.{Follows, after-found, after-least}
use Rattle.space.specs.Judging.{follows}
use Rattle.space.specs.declared.Node.{Node}
use Rattle.space.proofs.JudgingLaws.{follows-zero, node-sound}
use Rattle.trie.specs.Siblings.{Trie, sound, search_siblings, search_children}
use Rattle.trie.specs.Walks.{Walk, whole, stopped, Finding, root_sound, walk_from, walk, walk_by, walk_from_by}
use Rattle.trie.specs.Paths.{tokens, below, gather}
use Rattle.trie.specs.declared.Search.TheVariants.{Found, Last}
use Rattle.trie.specs.Ledger.{is_last, last_below}
use Rattle.trie.proofs.PathLaws.{gather-root, gather-up}
use Rattle.trie.proofs.IndexLaws.{Confirmed, Ending, Chained, AsChains, grown-same, walk-alike}
use Rattle.agreement.proofs.TrieNodes.{par, Kind, is_root, is_child, next_of, Tries, parent-most, LastOf, Stop, bare, behind}

-- ---- a number that follows another

pub follows-rising : (bound n x : ℕ) → n < x → x < bound → follows bound n x ≡ true
unfolding follows
follows-rising bound n x h k = rw (ne_eqb x 0 (λ e. omega arith), lt-ltb n x h, lt-ltb x bound k)

pub follows-after : (f : ℕ → ℕ) (n i x : ℕ) → follows n i (after f n i x) ≡ true
follows-after f n i x = by_cases (eqb (after f n i x) 0)
    (λ e. ap (follows n i) (eqb-true (after f n i x) 0 e) ∙ follows-zero n i)
    (λ e. let c = after-found f n i x (eqb-false _ _ e) in follows-rising n i (after f n i x) c.above c.below)

found-one : {a b : ℕ} → Found a ≡ Found b → a ≡ b
found-one e = cc

found-not : (a b : ℕ) → Last a ≡ Found b → ⊥
found-not a b e = let z : ◌≡◌ {A = ℕ} 0 1 = cc in omega arith

-- ---- what a walk comes to, by the keys

pub data Walked (K : List Word) (nd : ℕ → Node) (n p : ℕ) (w : Word) : Walk → Type 0 where
  ends : (j : ℕ) → j < n → key K j ≡ key K p ++ w → Walked K nd n p w (whole j)
  stops : (q l t : ℕ) (u : Word) → q < n → Stop nd n q l → key K q ++ (t ∷ u) ≡ key K p ++ w → shared K (key K p) w < length w
      → longer (key K q) (t ∷ u) ≡ drop (shared K (key K p) w) (longer (key K p) w) → Walked K nd n p w (stopped q l (t ∷ u))

module _ (K : List Word) (nd : ℕ → Node) (n : ℕ) (r : Tries K nd n) (d : Different K) where
  pub key-some : (i : ℕ) → i < n → key K i ≡ [] → ⊥
  key-some i h e = some (r.kind i h)
    where
      some : Kind K nd i → ⊥
      some (is_root s p t k) = nil≢cons (sym e ∙ k)
      some (is_child p k) = concat-ne-nil (nd i).token (key K (par nd i)) (sym k ∙ e)

  follows_next : (i : ℕ) → follows n i (next_of nd n i) ≡ true
  follows_next i = by_cases (eqb (par nd i) i) (λ e. rw e (follows-zero n i)) (λ e. rw e (follows-after (par nd) n i (par nd i)))

  -- ---- a child by its key

  -- j is the child of p with token t
  record ChildOf (p t j : ℕ) : Type 0 where
    inside : j < n
    above : p < j
    parent : par nd j ≡ p
    token : (nd j).token ≡ t

  child-of : (p t j : ℕ) → p < n → j < n → key K j ≡ key K p ++ (t ∷ []) → ChildOf p t j
  child-of p t j hp hj e = go (r.kind j hj)
    where
      go : Kind K nd j → ChildOf p t j
      go (is_root s q z k) = absurd (key-some p hp (snoc-nil (key K p) s t (sym k ∙ e)))
      go (is_child q k) =
          let up : par nd j ≡ p = d (par nd j) p (omega (arith, r.keys)) (omega (arith, r.keys)) (snoc-left (key K (par nd j)) (key K p) (nd j).token t (sym k ∙ e)) in
          record { inside = hj; above = omega arith; parent = up; token = snoc-right (key K (par nd j)) (key K p) (nd j).token t (sym k ∙ e) }

  key_of : (p c : ℕ) → c < n → p < c → par nd c ≡ p → key K c ≡ key K p ++ ((nd c).token ∷ [])
  key_of p c h b e = go (r.kind c h)
    where
      go : Kind K nd c → key K c ≡ key K p ++ ((nd c).token ∷ [])
      go (is_root s q z k) = absurd (omega arith)
      go (is_child q k) = k ∙ rw e

  -- the first child goes on from its parent's key
  pub first_key : (p : ℕ) → p < n → ((nd p).child ≡ 0 → ⊥) → Follows (par nd) n p p (nd p).child × (key K (nd p).child ≡ key K p ++ ((nd (nd p).child).token ∷ []))
  first_key p h ne =
      let f : Follows (par nd) n p p (nd p).child = subst (λ (x : ℕ). Follows (par nd) n p p x) (sym (r.child p h)) (after-found (par nd) n p p (λ z. ne (r.child p h ∙ z))) in
      (f, key_of p (nd p).child f.below f.above f.under)

  -- and no lower-numbered node does
  pub first-least : (p t j : ℕ) → p < n → j < n → key K j ≡ key K p ++ (t ∷ []) → ((nd p).child ≡ 0 → ⊥) × ((nd p).child ≤ j)
  first-least p t j h hj e =
      let o = child-of p t j h hj e in
      let m = after-least (par nd) n p p j (record { above = o.above; below = hj; under = o.parent }) in
      (λ z. m.0 (sym (r.child p h) ∙ z), rw (r.child p h) m.1)

  -- a parent has one child for each token
  pub child-one : (p t a b : ℕ) → a < n → p < a → par nd a ≡ p → (nd a).token ≡ t → b < n → p < b → par nd b ≡ p → (nd b).token ≡ t → a ≡ b
  child-one p t a b ha pa ea ta hb pb eb tb =
      d a b (omega (arith, r.keys)) (omega (arith, r.keys))
      (key_of p a ha pa ea ∙ ap (λ (x : ℕ). key K p ++ (x ∷ [])) (ta ∙ sym tb) ∙ sym (key_of p b hb pb eb))

  pub child-up : (i : ℕ) → i < n → (par nd i ≡ i → ⊥) → par nd i < i
  child-up i h e = go (r.kind i h)
    where
      go : Kind K nd i → par nd i < i
      go (is_root s p t k) = absurd (e p)
      go (is_child p k) = p

  -- l is the child of p with the highest number below m
  record Latest (m p l : ℕ) : Type 0 where
    inside : l < m
    above : p < l
    parent : par nd l ≡ p
    over : (i : ℕ) → l < i → i < m → par nd i ≡ p → ⊥

  next-sibling : (p c : ℕ) → c < n → p < c → par nd c ≡ p → (nd c).sibling ≡ after (par nd) n c p
  next-sibling p c h b e = r.sibling c h ∙ rw (e, ne_eqb p c (λ z. omega arith))

  token-key : (p t c : ℕ) → Follows (par nd) n p p c → eqb (nd c).token t ≡ true → key K c ≡ key K p ++ (t ∷ [])
  token-key p t c ch e = subst (λ (x : ℕ). key K c ≡ key K p ++ (x ∷ [])) (eqb-true (nd c).token t e) (key_of p c ch.below ch.above ch.under)

  first_of : (p : ℕ) → p < n → ((nd p).child ≡ 0 → ⊥) → Follows (par nd) n p p (nd p).child
  first_of p h e = subst (λ (x : ℕ). Follows (par nd) n p p x) (sym (r.child p h)) (after-found (par nd) n p p (λ z. e (r.child p h ∙ z)))

  -- ---- the steps of a walk

  shared-off : (p t : ℕ) (w : Word) → has K (key K p ++ (t ∷ [])) ≡ false → shared K (key K p) (t ∷ w) ≡ 0
  unfolding shared
  shared-off p t w e = rw e

  shared-on : (p t j : ℕ) (w : Word) → j < n → key K j ≡ key K p ++ (t ∷ []) → shared K (key K p) (t ∷ w) ≡ suc (shared K (key K j) w)
  unfolding shared
  shared-on p t j w h e = rw (place-has K (key K p ++ (t ∷ [])) j (omega (arith, r.keys)) e, e)

  stops-here : (p l t : ℕ) (w : Word) → p < n → Stop nd n p l → has K (key K p ++ (t ∷ [])) ≡ false → Walked K nd n p (t ∷ w) (stopped p l (t ∷ w))
  stops-here p l t w h s e =
      let z = shared-off p t w e in
      stops p l t w h s refl (omega (arith, z)) (rw z)

  goes_on : (p t j : ℕ) (w : Word) → j < n → key K j ≡ key K p ++ (t ∷ []) → {v : Walk} → Walked K nd n j w v → Walked K nd n p (t ∷ w) v
  goes_on p t j w h e (ends i hi k) = ends i hi (k ∙ ap (λ (x : Word). x ++ w) e ∙ append_assoc (key K p) (t ∷ []) w)
  goes_on p t j w h e (stops q l t' u hq st k s g) =
      stops q l t' u hq st (k ∙ ap (λ (x : Word). x ++ w) e ∙ append_assoc (key K p) (t ∷ []) w)
      (omega (arith, shared-on p t j w h e))
      (g ∙ rw (shared-on p t j w h e) (unfold longer in ap (λ (x : Word). drop (shared K (key K j) w) (longer x w)) e))

  -- ---- in trie s, whose links are at most b

  module _ (b s : ℕ) (bounded : (i : ℕ) (v : Word) → i < n → key K i ≡ s ∷ v → (nd i).link ≤ b) where
    abbrev T : Trie
    T = record { at = nd; nodes = n; links = b }

    abbrev InTrie : ℕ → Type 0
    InTrie i = (v : Word) × (key K i ≡ s ∷ v)

    child-in : (p t c : ℕ) → InTrie p → key K c ≡ key K p ++ (t ∷ []) → InTrie c
    child-in p t c tp k = (tp.0 ++ (t ∷ []), k ∙ rw tp.1)

    in-child : (p c : ℕ) → InTrie p → Follows (par nd) n p p c → InTrie c
    in-child p c tp ch = child-in p (nd c).token c tp (key_of p c ch.below ch.above ch.under)

    pub node-judged : (i : ℕ) → i < n → InTrie i → sound T i ≡ true
    node-judged i h tr = node-sound n b i (nd i) (record {
      child-follows = rw (r.child i h) (follows-after (par nd) n i i);
      sibling-follows = rw (r.sibling i h) (follows_next i);
      parent-most = parent-most K nd n r i h;
      link-most = bounded i tr.0 h tr.1;
    })

    siblings-hit : (k p t c : ℕ) → sound T c ≡ true → par nd c ≡ p → eqb (nd c).token t ≡ true → search_siblings (suc k) T p t c ≡ Found c
    unfolding search_siblings
    siblings-hit k p t c j e h = rw (j, e, eq-eqb p p refl, h)

    siblings-end : (k p t c : ℕ) → sound T c ≡ true → par nd c ≡ p → eqb (nd c).token t ≡ false → eqb (nd c).sibling 0 ≡ true → search_siblings (suc k) T p t c ≡ Last c
    unfolding search_siblings
    siblings-end k p t c j e h z = rw (j, e, eq-eqb p p refl, h, z)

    siblings-on : (k p t c : ℕ) → sound T c ≡ true → par nd c ≡ p → eqb (nd c).token t ≡ false → eqb (nd c).sibling 0 ≡ false
        → search_siblings (suc k) T p t c ≡ search_siblings k T p t (nd c).sibling
    unfolding search_siblings
    siblings-on k p t c j e h z = rw (j, e, eq-eqb p p refl, h, z)

    siblings-found : (k p t j c : ℕ) → InTrie p → ChildOf p t j → key K j ≡ key K p ++ (t ∷ []) → Follows (par nd) n p p c → c ≤ j → j < c + k
        → search_siblings k T p t c ≡ Found j
    siblings-found zero p t j c tp cj e ch le fuel = absurd (omega arith)
    siblings-found (suc k) p t j c tp cj e ch le fuel = by_cases (eqb (nd c).token t)
        (λ h. let c=j : c ≡ j = d c j (omega (arith, r.keys, ch.below)) (omega (arith, r.keys, cj.inside)) (token-key p t c ch h ∙ sym e) in
        siblings-hit k p t c (node-judged c ch.below (in-child p c tp ch)) ch.under h ∙ ap Found c=j)
        (λ h. let c<j : c < j = strict c j le (λ z. eqb-false (nd c).token t h (rw z cj.token)) in
        let s = next-sibling p c ch.below ch.above ch.under in
        let m = after-least (par nd) n c p j (record { above = c<j; below = cj.inside; under = cj.parent }) in
        let ne : (nd c).sibling ≡ 0 → ⊥ = λ z. m.0 (sym s ∙ z) in
        let a = after-found (par nd) n c p m.0 in
        siblings-on k p t c (node-judged c ch.below (in-child p c tp ch)) ch.under h (ne_eqb (nd c).sibling 0 ne)
        ∙ rw s (siblings-found k p t j (after (par nd) n c p) tp cj e
        (record { above = omega (arith, ch.above, a.above); below = a.below; under = a.under })
        m.1 (omega (arith, a.above))))
      where
        strict : (c j : ℕ) → c ≤ j → (c ≡ j → ⊥) → c < j
        strict c j h k = omega arith

    -- the search for a node's token among the children of its parent finds it
    pub search-own : (j : ℕ) → j < n → InTrie (par nd j) → par nd j < j → search_children T (par nd j) (nd j).token ≡ Found j
    unfolding search_children
    search-own j h tp l =
        let p : ℕ = par nd j in
        let m = after-least (par nd) n p p j (record { above = l; below = h; under = refl }) in
        let ne : (nd p).child ≡ 0 → ⊥ = λ z. m.0 (sym (r.child p (omega arith)) ∙ z) in
        rw (ne_eqb (nd p).child 0 ne)
        (siblings-found n p (nd j).token j (nd p).child tp (record { inside = h; above = l; parent = refl; token = refl }) (key_of p j h l refl) (first_of p (omega arith) ne)
        (rw (r.child p (omega arith)) m.1) (omega arith))

    siblings-last : (k p t c : ℕ) → InTrie p → has K (key K p ++ (t ∷ [])) ≡ false → Follows (par nd) n p p c → n ≤ c + k
        → (l : ℕ) × (search_siblings k T p t c ≡ Last l) × LastOf nd n p l
    siblings-last zero p t c tp hn ch fuel = absurd (omega (arith, ch.below))
    siblings-last (suc k) p t c tp hn ch fuel = by_cases (eqb (nd c).token t)
        (λ h. absurd (true≢false (sym (place-has K (key K p ++ (t ∷ [])) c (omega (arith, r.keys, ch.below)) (token-key p t c ch h)) ∙ hn)))
        (λ h. by_cases (eqb (nd c).sibling 0)
        (λ z. (
          c,
          siblings-end k p t c (node-judged c ch.below (in-child p c tp ch)) ch.under h z,
          record { inside = ch.below; above = ch.above; parent = ch.under; none = eqb-true _ _ z },
        ))
        (λ z. let s = next-sibling p c ch.below ch.above ch.under in
        let a = after-found (par nd) n c p (λ q. eqb-false _ _ z (s ∙ q)) in
        let v = siblings-last k p t (after (par nd) n c p) tp hn
        (record { above = omega (arith, ch.above, a.above); below = a.below; under = a.under }) (omega (arith, a.above)) in
        (v.0, siblings-on k p t c (node-judged c ch.below (in-child p c tp ch)) ch.under h z ∙ ap (λ (x : ℕ). search_siblings k T p t x) s ∙ v.1, v.2)))

    -- a node of this parent and token is what the search ends with
    pub search-child : (p t x : ℕ) → InTrie p → p < x → x < n → par nd x ≡ p → (nd x).token ≡ t → (sound T x ≡ true) × (search_children T p t ≡ Found x)
    search-child p t x tp above below e u =
        let k = key_of p x below above e in
        let o = search-own x below (rw e tp) (rw e above) in
        (node-judged x below (child-in p (nd x).token x tp k), rw (e, u) at o)

    -- what the search ends with is a node of this trie
    pub search-meets : (p t c : ℕ) → p < n → InTrie p → search_children T p t ≡ Found c → (c < n) × InTrie c
    unfolding search_children
    search-meets p t c h tp e = by_cases (has K (key K p ++ (t ∷ [])))
        (λ k. let f = has-place K (key K p ++ (t ∷ [])) k in
        let hj : f.0 < n = omega (arith, r.keys, f.1) in
        let cj = child-of p t f.0 h hj f.2 in
        let o : search_children T p t ≡ Found f.0 = (search-child p t f.0 tp cj.above hj cj.parent cj.token).1 in
        let same : f.0 ≡ c = found-one (sym o ∙ e) in
        (rw (← same) hj, rw (← same) (child-in p t f.0 tp f.2)))
        (λ k. by_cases (eqb (nd p).child 0)
        (λ z. absurd (found-not 0 c (rw z at e)))
        (λ z. let v = siblings-last n p t (nd p).child tp k (first_of p h (eqb-false _ _ z)) (omega arith) in
        absurd (found-not v.0 c (sym v.1 ∙ (rw z at e)))))

    -- a parent has one last child
    last_one : (p a b : ℕ) → Ending T p a → LastOf nd n p b → a ≡ b
    last_one p a b f g =
        let i = next-sibling p a f.below f.above f.parent_is in
        let j = next-sibling p b g.inside g.above g.parent in
        by_cases (ltb a b)
        (λ l. absurd ((after-least (par nd) n a p b (record { above = ltb-true a b l; below = g.inside; under = g.parent })).0 (sym i ∙ f.none)))
        (λ l. by_cases (ltb b a)
        (λ o. absurd ((after-least (par nd) n b p a (record { above = ltb-true b a o; below = f.below; under = f.parent_is })).0 (sym j ∙ g.none)))
        (λ o. let x = ltb-false a b l in let y = ltb-false b a o in omega arith))

    -- where no node has this parent and token, the search ends with the last child
    search-lacks : (p t : ℕ) → p < n → InTrie p → ((x : ℕ) → Confirmed T p t x → ⊥) → (l : ℕ) → Ending T p l → search_children T p t ≡ Last l
    unfolding search_children
    search-lacks p t h tp nowhere l f = by_cases (has K (key K p ++ (t ∷ [])))
        (λ k. let j = has-place K (key K p ++ (t ∷ [])) k in
        let hj : j.0 < n = omega (arith, r.keys, j.1) in
        let cj = child-of p t j.0 h hj j.2 in
        absurd (nowhere j.0 (record { above = cj.above; below = hj; parent_is = cj.parent; token-is = cj.token })))
        (λ k. let m = after-least (par nd) n p p l (record { above = f.above; below = f.below; under = f.parent_is }) in
        let ne : (nd p).child ≡ 0 → ⊥ = λ z. m.0 (sym (r.child p h) ∙ z) in
        let v = siblings-last n p t (nd p).child tp k (first_of p h ne) (omega arith) in
        rw (ne_eqb (nd p).child 0 ne) (v.1 ∙ ap Last (sym (last_one p l v.0 f v.2))))

    -- the child of the highest number is the last one
    latest-is : (m p : ℕ) → m ≤ n → (j : ℕ) → j < m → par nd j < j → par nd j ≡ p → Latest m p (last_below nd m p)
    unfolding last_below
    latest-is zero p h j l u e = absurd (omega arith)
    latest-is (suc m) p h j l u e = by_cases (ltb (par nd m) m)
        (λ a. by_cases (eqb (par nd m) p)
        (λ b. let x : par nd m ≡ p = eqb-true (par nd m) p b in let y : par nd m < m = ltb-true (par nd m) m a in
        rw (a, b) (record { inside = omega arith; above = omega arith; parent = x; over = λ i g k f. absurd (omega arith) }))
        (λ b. rw (a, b) (further (eqb-false _ _ b) (λ k. latest-is m p (omega arith) j k u e))))
        (λ a. rw a (further (λ z. let y : m ≤ par nd m = ltb-false (par nd m) m a in root-not m j l u e y z) (λ k. latest-is m p (omega arith) j k u e)))
      where
        root-not : (m j : ℕ) → j < suc m → par nd j < j → par nd j ≡ p → m ≤ par nd m → par nd m ≡ p → ⊥
        root-not m j l u e y z = omega arith

        lower : (i : ℕ) → i < suc m → (i ≡ m → ⊥) → i < m
        lower i g ne = omega arith

        further : (par nd m ≡ p → ⊥) → (j < m → Latest m p (last_below nd m p)) → Latest (suc m) p (last_below nd m p)
        further ne again =
            let r = again (lower j l (λ z. ne (ap (par nd) (sym z) ∙ e))) in
            record { inside = omega (arith, r.inside); above = r.above; parent = r.parent; over = λ i g k f. r.over i g (lower i k (λ z. ne (ap (par nd) (sym z) ∙ f))) f }

    last-confirmed : (p : ℕ) → p < n → InTrie p → ((nd p).child ≡ 0 → ⊥) → is_last T p (last_below nd n p) ≡ true
    unfolding is_last
    last-confirmed p h tp z =
        let f = first_of p h z in
        let l : ℕ = last_below nd n p in
        let o = latest-is n p (omega arith) (nd p).child f.below (rw f.under f.above) f.under in
        let s = next-sibling p l o.inside o.above o.parent in
        let none : (nd l).sibling ≡ 0 = by_cases (eqb (nd l).sibling 0)
        (λ q. eqb-true _ _ q)
        (λ q. let a = after-found (par nd) n l p (λ y. eqb-false _ _ q (s ∙ y)) in absurd (o.over (after (par nd) n l p) a.above a.below a.under)) in
        rw (
          lt-ltb p l o.above,
          lt-ltb l n o.inside,
          node-judged l o.inside (child-in p (nd l).token l tp (key_of p l o.inside o.above o.parent)),
          o.parent,
          eq-eqb p p refl,
          none,
        )

    chained : (p t : ℕ) → p < n → InTrie p → Chained T p t
    chained p t h tp = record {
      met = λ x k. search-child p t x tp k.above k.below k.parent_is k.token-is;
      lacks = search-lacks p t h tp;
      latest = last-confirmed p h tp;
    }

    -- so a walk by another way of finding is the walk by the chains
    pub walk-as-chains : (find : Finding) → AsChains nd n find → (p : ℕ) (w : Word) → p < n → key K p ≡ s ∷ [] → walk_by find T p w ≡ walk T p w
    walk-as-chains find as-chains p w h e =
        walk-alike find T (λ i. (i < n) × InTrie i)
        (λ i x m. as-chains T i x (grown-same nd n) m.0 (chained i x m.0 m.1))
        (λ i x c m f. search-meets i x c m.0 m.1 f)
        p w (h, ([], e))

    -- the clauses of the walk as equations
    walk-bare : (p t : ℕ) (w : Word) → (nd p).child ≡ 0 → walk_from T p (t ∷ w) ≡ stopped p 0 (t ∷ w)
    unfolding walk_from_by search_children
    walk-bare p t w e = rw (eq-eqb (nd p).child 0 e)

    walk-last : (p t l : ℕ) (w : Word) → ((nd p).child ≡ 0 → ⊥) → search_siblings n T p t (nd p).child ≡ Last l → walk_from T p (t ∷ w) ≡ stopped p l (t ∷ w)
    unfolding walk_from_by search_children
    walk-last p t l w e s = rw (ne_eqb (nd p).child 0 e, s)

    walk-on : (p t j : ℕ) (w : Word) → ((nd p).child ≡ 0 → ⊥) → search_siblings n T p t (nd p).child ≡ Found j → walk_from T p (t ∷ w) ≡ walk_from T j w
    unfolding walk_from_by search_children
    walk-on p t j w e s = rw (ne_eqb (nd p).child 0 e, s)

    walked_from : (p : ℕ) (w : Word) → p < n → InTrie p → Walked K nd n p w (walk_from T p w)
    walked_from p [] h tp = unfold walk_from_by in ends p h (sym (append-nil (key K p)))
    walked_from p (t ∷ w) h tp = by_cases (has K (key K p ++ (t ∷ [])))
        (λ e. let f = has-place K (key K p ++ (t ∷ [])) e in
        let j = f.0 in
        let hj : j < n = omega (arith, r.keys, f.1) in
        let cj = child-of p t j h hj f.2 in
        let m = after-least (par nd) n p p j (record { above = cj.above; below = cj.inside; under = cj.parent }) in
        let ne : (nd p).child ≡ 0 → ⊥ = λ z. m.0 (sym (r.child p h) ∙ z) in
        let sf = siblings-found n p t j (nd p).child tp cj f.2 (first_of p h ne) (rw (r.child p h) m.1) (omega arith) in
        rw (walk-on p t j w ne sf) (goes_on p t j w hj f.2 (walked_from j w hj (child-in p t j tp f.2))))
        (λ e. by_cases (eqb (nd p).child 0)
        (λ z. rw (walk-bare p t w (eqb-true _ _ z)) (stops-here p 0 t w h (bare refl (eqb-true _ _ z)) e))
        (λ z. let v = siblings-last n p t (nd p).child tp e (first_of p h (eqb-false _ _ z)) (omega arith) in
        rw (walk-last p t v.0 w (eqb-false _ _ z) v.1) (stops-here p v.0 t w h (behind (λ q. omega (arith, v.2.above)) v.2) e)))

    -- ---- from the root

    root-own : (p : ℕ) → p < n → key K p ≡ s ∷ [] → par nd p ≡ p
    root-own p h e = go (r.kind p h)
      where
        go : Kind K nd p → par nd p ≡ p
        go (is_root x q z k) = q
        go (is_child q k) = absurd (key-some (par nd p) (omega arith) (snoc-nil (key K (par nd p)) s (nd p).token (sym e ∙ k)))

    pub root-judged : (p : ℕ) → p < n → key K p ≡ s ∷ [] → root_sound T p ≡ true
    root-judged p h e = rw (node-judged p h ([], e), root-own p h e, eq-eqb p p refl)

    pub walked : (p : ℕ) (w : Word) → p < n → key K p ≡ s ∷ [] → Walked K nd n p w (walk T p w)
    unfolding walk_by
    walked p w h e = rw (root-judged p h e) (walked_from p w h ([], e))

    -- ---- the tokens gathered from a node are the word of its key

    module _ (root : ℕ) (root_in : root < n) (root-key : key K root ≡ s ∷ []) where
      gather-top : (k i x : ℕ) (v : Word) → i < n → key K i ≡ s ∷ v → par nd i ≡ i → key K i ≡ x ∷ [] → gather k T root i ≡ tokens v
      gather-top k i x v h e p q =
          let none : [] ≡ v = tail-eq_of_cons-eq (sym q ∙ e) in
          let here : i ≡ root = d i root (omega (arith, r.keys)) (omega (arith, r.keys)) (e ∙ ap (λ (y : Word). s ∷ y) (sym none) ∙ sym root-key) in
          gather-root T root i (node-judged i h (v, e)) k p here ∙ ap tokens none

      abbrev Gathers : ℕ → Type 0
      Gathers k = (i : ℕ) (v : Word) → i < n → key K i ≡ s ∷ v → length v ≤ k → gather k T root i ≡ tokens v

      -- by the key of the parent
      gather-below : (k i : ℕ) (v y : Word) → Gathers k → i < n → key K i ≡ s ∷ v → par nd i < i → key K (par nd i) ≡ y → s ∷ v ≡ y ++ ((nd i).token ∷ [])
          → length v ≤ suc k → gather (suc k) T root i ≡ tokens v
      gather-below k i v [] g h e p f q l = absurd (key-some (par nd i) (omega arith) f)
      gather-below k i v (x ∷ y) g h e p f q l =
          let tail : v ≡ y ++ ((nd i).token ∷ []) = tail-eq_of_cons-eq q in
          let head : x ≡ s = sym (head-eq_of_cons-eq q) in
          let size : length v ≡ length y + 1 = ap length tail ∙ length-append y ((nd i).token ∷ []) in
          gather-up T root i (node-judged i h (v, e)) (λ z. omega arith) k
          ∙ rw (g (par nd i) y (omega arith) (f ∙ ap (λ (a : ℕ). a ∷ y) head) (omega arith)) (ap tokens (sym tail))

      gather-short : (i : ℕ) → i < n → key K i ≡ s ∷ [] → par nd i < i → key K i ≡ key K (par nd i) ++ ((nd i).token ∷ []) → ⊥
      gather-short i h e p q = key-some (par nd i) (omega arith) (snoc-nil (key K (par nd i)) s (nd i).token (sym e ∙ q))

      gather-zero : (i : ℕ) (v : Word) → i < n → key K i ≡ s ∷ v → length v ≤ 0 → Kind K nd i → gather 0 T root i ≡ tokens v
      gather-zero i v h e l (is_root x p t q) = gather-top 0 i x v h e p q
      gather-zero i [] h e l (is_child p q) = absurd (gather-short i h e p q)
      gather-zero i (x ∷ v) h e l (is_child p q) = absurd (omega arith)

      gather-suc : (k i : ℕ) (v : Word) → Gathers k → i < n → key K i ≡ s ∷ v → length v ≤ suc k → Kind K nd i → gather (suc k) T root i ≡ tokens v
      gather-suc k i v g h e l (is_root x p t q) = gather-top (suc k) i x v h e p q
      gather-suc k i v g h e l (is_child p q) = gather-below k i v (key K (par nd i)) g h e p refl (sym e ∙ q) l

      pub gather-key : (k : ℕ) → Gathers k
      gather-key zero i v h e l = gather-zero i v h e l (r.kind i h)
      gather-key (suc k) i v h e l = gather-suc k i v (λ i v h e l. gather-key k i v h e l) h e l (r.kind i h)
