-- A walk after an append: it finds the path that was appended where it had stopped. Paths gathered before stay.
use Rattle.std.proofs.Common.{◌≡◌, ℕ, zero, suc, ◌+◌, ◌*◌, ◌<◌, ◌≤◌, Bool, true, false, ◌&&◌, eqb, List, [], ◌∷◌, length, sym, refl, ap, ◌∙◌, arith, eq-eqb, eqb-true}
use borrow.Author.Tests.{eqb-false}
use Rattle.basis.proofs.Cases.{by_cases}
use Rattle.space.specs.Layout.{sizes}
use Rattle.space.specs.Judging.{node_sound}
use Rattle.space.specs.declared.Node.{Node}
use Rattle.space.proofs.JudgingLaws.{NodeBounds, node-bounds, node-sound, follows-zero, follows-last, follows-more}
use Rattle.trie.specs.Siblings.{Trie, trie_in, sound, search_siblings, search_children}
use Rattle.trie.specs.Walks.{whole, stopped, walk_from, walk, walk_by, walk_from_by}
use Rattle.trie.specs.Paths.{Path, none, tokens, below, gather}
use Rattle.trie.proofs.PathLaws.{gather-unsound, gather-root, gather-other, gather-deep, gather-up}
use Rattle.trie.specs.Append.{new_node, with_child, with_sibling, with_node, append_node, append_path}
use Rattle.trie.specs.declared.Search.{Search}
use Rattle.trie.specs.declared.Search.TheVariants.{Found, Last, Damaged}
use Rattle.trie.proofs.SearchCases.{search-same, search-next, children-none, children-some}
use Rattle.trie.proofs.SearchLaws.{Step, hurt, same, ended, onto, search-step, sibling-within, first-within, children-found, Ends, children-ended}
use Rattle.trie.proofs.WalkCases.{walk-found, walk-last, walk-damaged}
use Rattle.trie.proofs.AppendLaws.{with-new, with-child, with-no-child, with-sibling, with-no-sibling, append-node-size, append-node-records}

-- t' is t with one more node
pub record Grown (t t' : Trie) (parent last token : ℕ) : Type 0 where
  pub nodes-more : t'.nodes ≡ t.nodes + 1
  pub links-same : t'.links ≡ t.links
  pub records : (m : ℕ) → t'.at m ≡ with_node t.at t.nodes parent last token m

-- what a search sees of node m is as it was
pub record Kept (t t' : Trie) (m : ℕ) : Type 0 where
  pub token-same : (t'.at m).token ≡ (t.at m).token
  pub parent-same : (t'.at m).parent ≡ (t.at m).parent
  pub child-same : ((t.at m).child ≡ 0 → ⊥) → (t'.at m).child ≡ (t.at m).child
  pub sibling-same : ((t.at m).sibling ≡ 0 → ⊥) → (t'.at m).sibling ≡ (t.at m).sibling
  pub sound-same : sound t m ≡ true → sound t' m ≡ true

module _ {t t' : Trie} {parent last token : ℕ} (g : Grown t t' parent last token) (e : Ends t parent last) where
  grown-sound : (m : ℕ) (y : Node) → t'.at m ≡ y → NodeBounds (t.nodes + 1) t.links m y → sound t' m ≡ true
  grown-sound m y q b =
      ap (λ (k : ℕ). node_sound k t'.links m (t'.at m)) g.nodes-more
      ∙ ap (λ (k : ℕ). node_sound (t.nodes + 1) k m (t'.at m)) g.links-same
      ∙ ap (λ (x : Node). node_sound (t.nodes + 1) t.links m x) q ∙ node-sound (t.nodes + 1) t.links m y b

  kept_whole : (m : ℕ) → t'.at m ≡ t.at m → Kept t t' m
  kept_whole m q = record {
    token-same = ap (λ (y : Node). y.token) q;
    parent-same = ap (λ (y : Node). y.parent) q;
    child-same = λ _. ap (λ (y : Node). y.child) q;
    sibling-same = λ _. ap (λ (y : Node). y.sibling) q;
    sound-same = λ s. let b = node-bounds t.nodes t.links m (t.at m) s in
        grown-sound m (t.at m) q (record {
          child-follows = follows-more _ _ _ b.child-follows;
          sibling-follows = follows-more _ _ _ b.sibling-follows;
          parent-most = b.parent-most;
          link-most = b.link-most;
        });
  }

  kept-child : (m : ℕ) → m < t.nodes → (t.at m).child ≡ 0 → t'.at m ≡ with_child (t.at m) t.nodes → Kept t t' m
  kept-child m h z q = record {
    token-same = ap (λ (y : Node). y.token) q;
    parent-same = ap (λ (y : Node). y.parent) q;
    child-same = λ n. absurd (n z);
    sibling-same = λ _. ap (λ (y : Node). y.sibling) q;
    sound-same = λ s. let b = node-bounds t.nodes t.links m (t.at m) s in
        grown-sound m (with_child (t.at m) t.nodes) q (record {
          child-follows = follows-last _ _ h;
          sibling-follows = follows-more _ _ _ b.sibling-follows;
          parent-most = b.parent-most;
          link-most = b.link-most;
        });
  }

  kept-sibling : (m : ℕ) → m < t.nodes → (t.at m).sibling ≡ 0 → t'.at m ≡ with_sibling (t.at m) t.nodes → Kept t t' m
  kept-sibling m h z q = record {
    token-same = ap (λ (y : Node). y.token) q;
    parent-same = ap (λ (y : Node). y.parent) q;
    child-same = λ _. ap (λ (y : Node). y.child) q;
    sibling-same = λ n. absurd (n z);
    sound-same = λ s. let b = node-bounds t.nodes t.links m (t.at m) s in
        grown-sound m (with_sibling (t.at m) t.nodes) q (record {
          child-follows = follows-more _ _ _ b.child-follows;
          sibling-follows = follows-last _ _ h;
          parent-most = b.parent-most;
          link-most = b.link-most;
        });
  }

  pub kept : (m : ℕ) → m < t.nodes → Kept t t' m
  kept m h =
      let n : m ≡ t.nodes → ⊥ = omega arith in
      by_cases (eqb last 0)
      (λ z. let z' : last ≡ 0 = eqb-true _ _ z in
      by_cases (eqb m parent)
      (λ q. let q' : m ≡ parent = eqb-true _ _ q in
      kept-child m h (ap (λ (k : ℕ). (t.at k).child) q' ∙ e.no-child z') (g.records m ∙ with-child t.at t.nodes parent last token m n z' q'))
      (λ q. kept_whole m (g.records m ∙ with-no-child t.at t.nodes parent last token m n z' (eqb-false _ _ q))))
      (λ z. let z' : last ≡ 0 → ⊥ = eqb-false _ _ z in
      by_cases (eqb m last)
      (λ q. let q' : m ≡ last = eqb-true _ _ q in
      kept-sibling m h (ap (λ (k : ℕ). (t.at k).sibling) q' ∙ e.no-sibling z') (g.records m ∙ with-sibling t.at t.nodes parent last token m n z' q'))
      (λ q. kept_whole m (g.records m ∙ with-no-sibling t.at t.nodes parent last token m n z' (eqb-false _ _ q))))

  -- the new node
  pub new_is : t'.at t.nodes ≡ new_node token parent
  new_is = g.records t.nodes ∙ with-new t.at t.nodes parent last token t.nodes refl

  pub new-sound : sound t' t.nodes ≡ true
  new-sound = let p = e.parent-within in
      grown-sound t.nodes (new_node token parent) new_is (record {
        child-follows = follows-zero (t.nodes + 1) t.nodes;
        sibling-follows = follows-zero (t.nodes + 1) t.nodes;
        parent-most = omega arith;
        link-most = omega arith;
      })

  pub new-found : (k : ℕ) → search_siblings (suc k) t' parent token t.nodes ≡ Found t.nodes
  new-found k = search-same k t' parent token t.nodes new-sound (ap (λ (y : Node). y.parent) new_is) (ap (λ (y : Node). y.token) new_is)

  -- a child found is found again
  again-step : (k' : ℕ) {p x n c : ℕ} {rest r : Search} → Step t p x n rest r → n < t.nodes → r ≡ Found c →
      ((t.at n).sibling < t.nodes → rest ≡ Found c → search_siblings k' t' p x (t.at n).sibling ≡ Found c) → search_siblings (suc k') t' p x n ≡ Found c
  again-step k' hurt h f again = let z : ◌≡◌ {A = ℕ} 0 1 = cc in absurd (omega arith)
  again-step k' {p = p} {x = x} {n = n} {c = c} (same s q w) h f again =
      let a = kept n h in
      let i : n ≡ c = cc in
      search-same k' t' p x n (a.sound-same s) (a.parent-same ∙ q) (a.token-same ∙ w) ∙ ap Found i
  again-step k' (ended s q w u) h f again = let z : ◌≡◌ {A = ℕ} 0 1 = cc in absurd (omega arith)
  again-step k' {p = p} {x = x} {n = n} (onto s q w u) h f again =
      let a = kept n h in
      let v : (t'.at n).sibling ≡ (t.at n).sibling = a.sibling-same u in
      search-next k' t' p x n (a.sound-same s) (a.parent-same ∙ q) (λ y. w (sym a.token-same ∙ y)) (λ y. u (sym v ∙ y))
      ∙ ap (search_siblings k' t' p x) v ∙ again (sibling-within t n h s) f

  pub found-again : (k k' p x n c : ℕ) → k ≤ k' → n < t.nodes → search_siblings k t p x n ≡ Found c → search_siblings k' t' p x n ≡ Found c
  unfolding search_siblings
  found-again zero k' p x n c l h f = let z : ◌≡◌ {A = ℕ} 0 1 = cc in absurd (omega arith)
  found-again (suc k) zero p x n c l h f = absurd (omega arith)
  found-again (suc k) (suc k') p x n c l h f =
      again-step k' (search-step k t p x n) h f (λ i r. found-again k k' p x (t.at n).sibling c (omega arith) i r)

  -- a search that ended at the last child goes on to the new one
  onward-step : (k' : ℕ) {n : ℕ} {rest r : Search} → Step t parent token n rest r → n < t.nodes → (last ≡ 0 → ⊥) → r ≡ Last last →
      ((t.at n).sibling < t.nodes → rest ≡ Last last → search_siblings (suc k') t' parent token (t.at n).sibling ≡ Found t.nodes) →
      search_siblings (suc (suc k')) t' parent token n ≡ Found t.nodes
  onward-step k' hurt h z f again = let y : ◌≡◌ {A = ℕ} 0 1 = cc in absurd (omega arith)
  onward-step k' (same s q w) h z f again = let y : ◌≡◌ {A = ℕ} 0 1 = cc in absurd (omega arith)
  onward-step k' {n = n} (ended s q w u) h z f again =
      let a = kept n h in
      let i : n ≡ last = cc in
      let v : (t'.at n).sibling ≡ t.nodes = ap (λ (y : Node). y.sibling) (g.records n ∙ with-sibling t.at t.nodes parent last token n (omega arith) z i) in
      search-next (suc k') t' parent token n (a.sound-same s) (a.parent-same ∙ q) (λ y. w (sym a.token-same ∙ y)) (λ y. let o : t.nodes ≡ 0 = sym v ∙ y in omega arith)
      ∙ ap (search_siblings (suc k') t' parent token) v ∙ new-found k'
  onward-step k' {n = n} (onto s q w u) h z f again =
      let a = kept n h in
      let v : (t'.at n).sibling ≡ (t.at n).sibling = a.sibling-same u in
      search-next (suc k') t' parent token n (a.sound-same s) (a.parent-same ∙ q) (λ y. w (sym a.token-same ∙ y)) (λ y. u (sym v ∙ y))
      ∙ ap (search_siblings (suc k') t' parent token) v ∙ again (sibling-within t n h s) f

  pub last-onward : (k k' n : ℕ) → k < k' → n < t.nodes → (last ≡ 0 → ⊥) → search_siblings k t parent token n ≡ Last last → search_siblings k' t' parent token n ≡ Found t.nodes
  unfolding search_siblings
  last-onward zero k' n l h z f = let y : ◌≡◌ {A = ℕ} 0 1 = cc in absurd (omega arith)
  last-onward (suc k) zero n l h z f = absurd (omega arith)
  last-onward (suc k) (suc zero) n l h z f = absurd (omega arith)
  last-onward (suc k) (suc (suc k')) n l h z f =
      onward-step k' (search-step k t parent token n) h z f (λ i r. last-onward k (suc k') (t.at n).sibling (omega arith) i z r)

  pub children-again : (n x c : ℕ) → n < t.nodes → sound t n ≡ true → search_children t n x ≡ Found c → search_children t' n x ≡ Found c
  children-again n x c h s f =
      by_cases (eqb (t.at n).child 0)
      (λ z. let d = children-none t n x (t.at n) refl (eqb-true _ _ z) in let y : ◌≡◌ {A = ℕ} 0 1 = cc in absurd (omega arith))
      (λ z. let c' : (t'.at n).child ≡ (t.at n).child = (kept n h).child-same (eqb-false _ _ z) in
      sym (children-some t' n x (t'.at n) refl (λ y. eqb-false _ _ z (sym c' ∙ y)))
      ∙ ap (search_siblings t'.nodes t' n x) c'
      ∙ found-again t.nodes t'.nodes n x (t.at n).child c (let m = g.nodes-more in omega arith) (first-within t n h s)
      (children-some t n x (t.at n) refl (eqb-false _ _ z) ∙ f))

  pub children-onward : sound t parent ≡ true → search_children t parent token ≡ Last last → search_children t' parent token ≡ Found t.nodes
  children-onward s f =
      let h : parent < t.nodes = e.parent-within in
      let m : t'.nodes ≡ suc t.nodes = let x = g.nodes-more in omega arith in
      by_cases (eqb (t.at parent).child 0)
      (λ z. let i : last ≡ 0 = cc (children-none t parent token (t.at parent) refl (eqb-true _ _ z)) in
      let c : (t'.at parent).child ≡ t.nodes = ap (λ (y : Node). y.child) (g.records parent ∙ with-child t.at t.nodes parent last token parent (omega arith) i refl) in
      sym (children-some t' parent token (t'.at parent) refl (λ y. let w : t.nodes ≡ 0 = sym c ∙ y in omega arith))
      ∙ ap (search_siblings t'.nodes t' parent token) c ∙ ap (λ (k : ℕ). search_siblings k t' parent token t.nodes) m ∙ new-found t.nodes)
      (λ z. let z' : (t.at parent).child ≡ 0 → ⊥ = eqb-false _ _ z in
      let c : (t'.at parent).child ≡ (t.at parent).child = (kept parent h).child-same z' in
      let l : last ≡ 0 → ⊥ = λ y. z' (e.no-child y) in
      sym (children-some t' parent token (t'.at parent) refl (λ y. z' (sym c ∙ y)))
      ∙ ap (search_siblings t'.nodes t' parent token) c
      ∙ last-onward t.nodes t'.nodes (t.at parent).child (omega arith) (first-within t parent h s) l
      (children-some t parent token (t.at parent) refl z' ∙ f))

-- where a walk stops, the search among the children ended at their last
record Stop (t : Trie) (parent last token : ℕ) : Type 0 where
  within : parent < t.nodes
  judged : sound t parent ≡ true
  searched : search_children t parent token ≡ Last last

stopped-parts : {n l p k : ℕ} {ys xs : List ℕ} {y x : ℕ} → stopped n l (y ∷ ys) ≡ stopped p k (x ∷ xs) → (n ≡ p) × (l ≡ k) × (y ≡ x) × (ys ≡ xs)
stopped-parts e = (cc, cc, cc, cc)

walk-stop : (ys : List ℕ) (t : Trie) (n parent last token : ℕ) (xs : List ℕ) → n < t.nodes → sound t n ≡ true → walk_from t n ys ≡ stopped parent last (token ∷ xs) → Stop t parent last token
unfolding walk_from_by
walk-stop [] t n parent last token xs h s e = let z : ◌≡◌ {A = ℕ} 0 1 = cc in absurd (omega arith)
walk-stop (y ∷ ys) t n parent last token xs h s e = by-search (search_children t n y) refl (λ c f. walk-stop ys t c parent last token xs)
  where
    by-search : (r : Search) → search_children t n y ≡ r → ((c : ℕ) → search_children t n y ≡ Found c → c < t.nodes → sound t c ≡ true → walk_from t c ys ≡ stopped parent last (token ∷ xs) → Stop t parent last token) → Stop t parent last token
    by-search (Found c) f next =
        let d = children-found t n y c h s f in
        next c f d.within d.judged (sym (walk-found search_children t n y ys c f) ∙ e)
    by-search (Last l) f next =
        let q = stopped-parts (sym (walk-last search_children t n y ys l f) ∙ e) in
        let i : n ≡ parent = q.0 in
        let j : y ≡ token = q.2 in
        record {
          within = omega arith;
          judged = sym (ap (sound t) i) ∙ s;
          searched = ap (λ (k : ℕ). search_children t k token) (sym i) ∙ ap (search_children t n) (sym j) ∙ f ∙ ap Last q.1;
        }
    by-search Damaged f next =
        let d = sym (walk-damaged search_children t n y ys f) ∙ e in
        let z : ◌≡◌ {A = ℕ} 0 1 = cc in absurd (omega arith)

-- after one more node, the walk goes through it
walk_through : (ys : List ℕ) (t t' : Trie) (n parent last token : ℕ) (xs : List ℕ) → Grown t t' parent last token → Ends t parent last → sound t parent ≡ true →
    n < t.nodes → sound t n ≡ true → walk_from t n ys ≡ stopped parent last (token ∷ xs) → walk_from t' n ys ≡ walk_from t' t.nodes xs
unfolding walk_from_by
walk_through [] t t' n parent last token xs g e p h s w = let z : ◌≡◌ {A = ℕ} 0 1 = cc in absurd (omega arith)
walk_through (y ∷ ys) t t' n parent last token xs g e p h s w = by-search (search_children t n y) refl (λ c. walk_through ys t t' c parent last token xs g e p)
  where
    by-search : (r : Search) → search_children t n y ≡ r → ((c : ℕ) → c < t.nodes → sound t c ≡ true → walk_from t c ys ≡ stopped parent last (token ∷ xs) → walk_from t' c ys ≡ walk_from t' t.nodes xs) → walk_from t' n (y ∷ ys) ≡ walk_from t' t.nodes xs
    by-search (Found c) f next =
        let d = children-found t n y c h s f in
        walk-found search_children t' n y ys c (children-again g e n y c h s f) ∙ next c d.within d.judged (sym (walk-found search_children t n y ys c f) ∙ w)
    by-search (Last l) f next =
        let q = stopped-parts (sym (walk-last search_children t n y ys l f) ∙ w) in
        let i : n ≡ parent = q.0 in
        let j : y ≡ token = q.2 in
        let f' : search_children t parent token ≡ Last last = ap (λ (k : ℕ). search_children t k token) (sym i) ∙ ap (search_children t n) (sym j) ∙ f ∙ ap Last q.1 in
        let a : search_children t' n y ≡ Found t.nodes = ap (λ (k : ℕ). search_children t' k y) i ∙ ap (search_children t' parent) j ∙ children-onward g e p f' in
        walk-found search_children t' n y ys t.nodes a ∙ ap (walk_from t' t.nodes) q.3
    by-search Damaged f next =
        let d = sym (walk-damaged search_children t n y ys f) ∙ w in
        let z : ◌≡◌ {A = ℕ} 0 1 = cc in absurd (omega arith)

pub both_true : (b c : Bool) → b && c ≡ true → (b ≡ true) × (c ≡ true)
both_true true c e = (refl, e)
both_true false c e = let z : ◌≡◌ {A = ℕ} 0 1 = cc in absurd (omega arith)

-- a root at which a walk did not find damage
root-sound : (t : Trie) (root : ℕ) (ys : List ℕ) (parent last : ℕ) (xs : List ℕ) → walk t root ys ≡ stopped parent last xs →
    (sound t root ≡ true) × ((t.at root).parent ≡ root) × (walk_from t root ys ≡ stopped parent last xs)
unfolding walk_by
root-sound t root ys parent last xs e =
    by_cases (sound t root && eqb (t.at root).parent root)
    (λ b. let q = both_true _ _ b in (q.0, eqb-true _ _ q.1, rw b at e))
    (λ b. let d = rw b at e in let z : ◌≡◌ {A = ℕ} 0 1 = cc in absurd (omega arith))

root-walk : (t : Trie) (root : ℕ) (ys : List ℕ) → sound t root ≡ true → (t.at root).parent ≡ root → walk t root ys ≡ walk_from t root ys
unfolding walk_by
root-walk t root ys s p = simp (s, eq-eqb _ _ p)

-- the walk that stopped before the tokens left goes on from the new node, whatever holds the records
pub walk-grown : (t t' : Trie) (root parent last token : ℕ) (ys xs : List ℕ) → Grown t t' parent last token → root < t.nodes →
    walk t root ys ≡ stopped parent last (token ∷ xs) → walk t' root ys ≡ walk_from t' t.nodes xs
walk-grown t t' root parent last token ys xs g h e =
    let r = root-sound t root ys parent last (token ∷ xs) e in
    let s = walk-stop ys t root parent last token xs h r.0 r.2 in
    let d = children-ended t parent token last s.within s.judged s.searched in
    let k = kept g d root h in
    root-walk t' root ys (k.sound-same r.0) (k.parent-same ∙ r.1)
    ∙ walk_through ys t t' root parent last token xs g d s.judged h r.0 r.2

-- where a walk stopped: a node in range, and its last child
pub walk_ends : (t : Trie) (root parent last token : ℕ) (ys xs : List ℕ) → root < t.nodes → walk t root ys ≡ stopped parent last (token ∷ xs) → Ends t parent last
walk_ends t root parent last token ys xs h e =
    let r = root-sound t root ys parent last (token ∷ xs) e in
    let s = walk-stop ys t root parent last token xs h r.0 r.2 in
    children-ended t parent token last s.within s.judged s.searched

cells-grown : (s : List ℕ) (nodes links parent last token : ℕ) → parent < nodes → last < nodes → 8 + 5 * (nodes + 1) ≤ length s →
    Grown (trie_in sizes s nodes links) (trie_in sizes (append_node sizes s nodes parent last token) (nodes + 1) links) parent last token
cells-grown s nodes links parent last token p l h =
    record { nodes-more = refl; links-same = refl; records = append-node-records s nodes parent last token p l h }

-- in cells: after the tokens left are appended, the walk is whole, at the last new node
pub walk-appended : (xs s ys : List ℕ) (nodes links root parent last token : ℕ) → 8 + 5 * (nodes + (length xs + 1)) ≤ length s → root < nodes →
    walk (trie_in sizes s nodes links) root ys ≡ stopped parent last (token ∷ xs) →
    walk (trie_in sizes (append_path sizes s nodes parent last (token ∷ xs)) (nodes + (length xs + 1)) links) root ys ≡ whole (nodes + length xs)
unfolding append_path walk_from_by
walk-appended [] s ys nodes links root parent last token h r e =
    let d = walk_ends (trie_in sizes s nodes links) root parent last token ys [] r e in
    let p : parent < nodes = d.parent-within in
    let l : last < nodes = d.last_within in
    walk-grown (trie_in sizes s nodes links) (trie_in sizes (append_node sizes s nodes parent last token) (nodes + 1) links) root parent last token ys []
    (cells-grown s nodes links parent last token p l (omega arith)) r e
    ∙ ap whole (omega arith)
walk-appended (x ∷ xs) s ys nodes links root parent last token h r e =
    let d = walk_ends (trie_in sizes s nodes links) root parent last token ys (x ∷ xs) r e in
    let p : parent < nodes = d.parent-within in
    let l : last < nodes = d.last_within in
    let s' = append_node sizes s nodes parent last token in
    let t = trie_in sizes s nodes links in
    let t' = trie_in sizes s' (nodes + 1) links in
    let g = cells-grown s nodes links parent last token p l (omega arith) in
    let c : (t'.at nodes).child ≡ 0 = ap (λ (y : Node). y.child) (new_is g d) in
    let w : walk t' root ys ≡ stopped nodes 0 (x ∷ xs) =
    walk-grown t t' root parent last token ys (x ∷ xs) g r e
    ∙ walk-last search_children t' nodes x xs 0 (sym (children-none t' nodes x (t'.at nodes) refl c)) in
    let i : nodes + (length (x ∷ xs) + 1) ≡ nodes + 1 + (length xs + 1) = omega arith in
    let j : nodes + 1 + length xs ≡ nodes + length (x ∷ xs) = omega arith in
    ap (λ (k : ℕ). walk (trie_in sizes (append_path sizes s' (nodes + 1) nodes 0 (x ∷ xs)) k links) root ys) i
    ∙ walk-appended xs s' ys (nodes + 1) links root nodes 0 x (omega (arith, append-node-size s nodes parent last token)) (omega arith) w
    ∙ ap whole j

-- a path that was gathered stays as it was
below-tokens : (p : Path) (x : ℕ) (xs : List ℕ) → below p x ≡ tokens xs → (ys : List ℕ) × (p ≡ tokens ys)
below-tokens none x xs e = let z : ◌≡◌ {A = ℕ} 0 1 = cc in absurd (omega arith)
below-tokens (tokens ys) x xs e = (ys, refl)

gather-step : (most : ℕ) (t t' : Trie) (root n : ℕ) (xs : List ℕ) → Kept t t' n → gather most t root n ≡ tokens xs →
    (sound t n ≡ true → ((t.at n).parent ≡ n → ⊥) → gather most t' root n ≡ tokens xs) → gather most t' root n ≡ tokens xs
gather-step most t t' root n xs k w up =
    by_cases (sound t n) (λ s.
    by_cases (eqb (t.at n).parent n) (λ p.
    let p' : (t.at n).parent ≡ n = eqb-true _ _ p in
    by_cases (eqb n root)
    (λ r. gather-root t' root n (k.sound-same s) most (k.parent-same ∙ p') (eqb-true _ _ r) ∙ sym (gather-root t root n s most p' (eqb-true _ _ r)) ∙ w)
    (λ r. let d = gather-other t root n s most p' (eqb-false _ _ r) in let z : ◌≡◌ {A = ℕ} 0 1 = cc in absurd (omega arith)))
    (λ p. up s (eqb-false _ _ p)))
    (λ s. let d = gather-unsound t root n most s in let z : ◌≡◌ {A = ℕ} 0 1 = cc in absurd (omega arith))

pub gather-kept : (most : ℕ) (t t' : Trie) (parent last token root n : ℕ) (xs : List ℕ) → Grown t t' parent last token → Ends t parent last →
    n < t.nodes → gather most t root n ≡ tokens xs → gather most t' root n ≡ tokens xs
gather-kept zero t t' parent last token root n xs g e h w =
    gather-step 0 t t' root n xs (kept g e n h) w (λ s p.
    let d = gather-deep t root n s p in let z : ◌≡◌ {A = ℕ} 0 1 = cc in absurd (omega arith))
gather-kept (suc most) t t' parent last token root n xs g e h w =
    let k = kept g e n h in
    gather-step (suc most) t t' root n xs k w (λ s p.
    let b = node-bounds t.nodes t.links n (t.at n) s in
    let u : below (gather most t root (t.at n).parent) (t.at n).token ≡ tokens xs = sym (gather-up t root n s p most) ∙ w in
    let ys = below-tokens (gather most t root (t.at n).parent) (t.at n).token xs u in
    let i : gather most t' root (t.at n).parent ≡ gather most t root (t.at n).parent =
    gather-kept most t t' parent last token root (t.at n).parent ys.0 g e (omega arith) ys.1 ∙ sym ys.1 in
    gather-up t' root n (k.sound-same s) (λ y. p (sym k.parent-same ∙ y)) most
    ∙ ap (λ (m : ℕ). below (gather most t' root m) (t'.at n).token) k.parent-same
    ∙ ap (below (gather most t' root (t.at n).parent)) k.token-same
    ∙ ap (λ (q : Path). below q (t.at n).token) i ∙ u)
