-- Walks with an index while the forms of a join are entered, on any trie, sound or damaged: a walk that was whole stays so, the
-- walk that stopped is whole once its path is entered, and any other that stopped has no more tokens left than before; it is
-- whole only where its tokens begin the form that was entered.
use Rattle.std.proofs.Common.{◌≡◌, ℕ, zero, suc, ◌+◌, ◌-◌, ◌<◌, ◌≤◌, true, eqb, ◌⊎◌, List, [], ◌∷◌, ◌++◌, length, sym, refl, ap, ◌∙◌, subst, inl, inr, arith, eqb-true}
use borrow.Author.Tests.{eqb-false}
use Rattle.basis.proofs.Cases.{by_cases}
use Rattle.space.specs.declared.Node.{Node}
use Rattle.space.proofs.JudgingLaws.{node-bounds, follows-rises}
use Rattle.trie.specs.Siblings.{Trie, sound, search_siblings, search_children}
use Rattle.trie.specs.Walks.{Walk, whole, stopped, damaged, Finding, walk_from_by}
use Rattle.trie.specs.Append.{with_node, with_path}
use Rattle.trie.specs.Index.{confirmed, search_indexed}
use Rattle.trie.specs.Turns.{entry_judged}
use Rattle.trie.specs.Entered.{Entered, Relinked}
use Rattle.trie.specs.declared.Search.{Search}
use Rattle.trie.specs.declared.Search.TheVariants.{Found, Last, Damaged}
use Rattle.trie.proofs.SearchCases.{children-none, children-some}
use Rattle.trie.proofs.SearchLaws.{Step, hurt, same, ended, onto, search-step, sibling-rises}
use Rattle.trie.proofs.WalkCases.{walk-found, walk-last, walk-damaged}
use Rattle.trie.proofs.WalkLaws.{kept, new_is, new-sound}
use Rattle.trie.proofs.IndexLaws.{confirmed-is, indexes-find}
use Rattle.trie.proofs.TurnsLaws.{chain-or-entry}
use Rattle.trie.proofs.EnteredLaws.{entered-grown, entered-ends, node-found, found-stays, missed-stays, childless, relinked-sound, linked-same}

-- ---- a child that is found is above its parent

chain-above : (k : ℕ) (t : Trie) (p x n c : ℕ) → search_siblings k t p x n ≡ Found c → n ≤ c
unfolding search_siblings
chain-above zero t p x n c f = let z : ◌≡◌ {A = ℕ} 0 1 = cc in absurd (omega arith)
chain-above (suc k) t p x n c f = go (search-step k t p x n) f (λ r. chain-above k t p x (t.at n).sibling c r)
  where
    go : {rest r : Search} → Step t p x n rest r → r ≡ Found c → (rest ≡ Found c → (t.at n).sibling ≤ c) → n ≤ c
    go hurt e on = let z : ◌≡◌ {A = ℕ} 0 1 = cc in absurd (omega arith)
    go (same s q w) e on = let i : n ≡ c = cc in omega arith
    go (ended s q w u) e on = let z : ◌≡◌ {A = ℕ} 0 1 = cc in absurd (omega arith)
    go (onto s q w u) e on = let up = sibling-rises t n s u in let l = on e in omega arith

children-above : (t : Trie) (p x c : ℕ) → sound t p ≡ true → search_children t p x ≡ Found c → p < c
children-above t p x c s f = by_cases (eqb (t.at p).child 0)
    (λ z. let d = children-none t p x (t.at p) refl (eqb-true _ _ z) in let y : ◌≡◌ {A = ℕ} 0 1 = cc in absurd (omega arith))
    (λ z. let up : p < (t.at p).child = follows-rises t.nodes p (t.at p).child (node-bounds t.nodes t.links p (t.at p) s).child-follows (eqb-false _ _ z) in
    let l = chain-above t.nodes t p x (t.at p).child c (children-some t p x (t.at p) refl (eqb-false _ _ z) ∙ f) in omega arith)

-- ---- tokens backwards

backwards : List ℕ → List ℕ → List ℕ
backwards [] rs = rs
backwards (x ∷ ws) rs = backwards ws (x ∷ rs)

backwards-twice : (ws rs us : List ℕ) → backwards (backwards ws rs) us ≡ backwards rs (ws ++ us)
unfolding backwards
backwards-twice [] rs us = refl
backwards-twice (x ∷ ws) rs us = backwards-twice ws (x ∷ rs) us

ends-empty : (ws : List ℕ) → ws ++ [] ≡ ws
ends-empty [] = refl
ends-empty (x ∷ ws) = ap (λ (us : List ℕ). x ∷ us) (ends-empty ws)

forwards : (a b : List ℕ) → backwards a [] ≡ backwards b [] → a ≡ b
forwards a b e = sym (back a) ∙ ap (λ (us : List ℕ). backwards us []) e ∙ back b
  where
    back : (ws : List ℕ) → backwards (backwards ws []) [] ≡ ws
    back ws = backwards-twice ws [] [] ∙ (unfold backwards in ends-empty ws)

append-twice : (a b c : List ℕ) → (a ++ b) ++ c ≡ a ++ (b ++ c)
append-twice [] b c = refl
append-twice (x ∷ a) b c = ap (λ (us : List ℕ). x ∷ us) (append-twice a b c)

module _ (index : List ℕ) (stood : ℕ) where
  abbrev pub F : Finding
  F = search_indexed index stood

  found-above : (t : Trie) (p x c : ℕ) → sound t p ≡ true → F t p x ≡ Found c → p < c
  found-above t p x c s f = go (chain-or-entry index stood t p x)
    where
      go : (F t p x ≡ search_children t p x) ⊎ ((y : ℕ) × (confirmed t p x y ≡ true) × (F t p x ≡ entry_judged t y)) → p < c
      go (inl e) = children-above t p x c s (sym e ∙ f)
      go (inr k) = by_cases (sound t k.0)
          (λ j. let i : Found k.0 ≡ Found c = sym (k.2 ∙ rw j) ∙ f in let is : k.0 ≡ c = cc in subst (λ (m : ℕ). p < m) is (confirmed-is t p x k.0 k.1).above)
          (λ j. let i : Damaged ≡ Found c = sym (k.2 ∙ rw j) ∙ f in let z : ◌≡◌ {A = ℕ} 0 1 = cc in absurd (omega arith))

  -- ---- the tokens from a node up to another

  data Up (t : Trie) (n : ℕ) : List ℕ → ℕ → Type 0 where
    here : Up t n [] n
    up : {rs : List ℕ} {p : ℕ} → Up t n rs p → (x c : ℕ) → p < c → (t.at c).parent ≡ p → (t.at c).token ≡ x → Up t n (x ∷ rs) c

  up_above : {t : Trie} {n : ℕ} {rs : List ℕ} {p : ℕ} → Up t n rs p → n ≤ p
  up_above here = omega arith
  up_above (up a x c l e f) = let b = up_above a in omega arith

  up_same : {t : Trie} {n : ℕ} {rs : List ℕ} {q : ℕ} → Up t n rs q → {rs' : List ℕ} {q' : ℕ} → q ≡ q' → Up t n rs' q' → rs ≡ rs'
  up_same here i here = refl
  up_same here i (up b y d l e f) = let k = up_above b in absurd (omega arith)
  up_same (up a x c l e f) i here = let k = up_above a in absurd (omega arith)
  up_same {t} (up {rs} {p} a x c l e f) i (up {rs = rs'} {p = p'} b y d l' e' f') =
      let j : p ≡ p' = sym e ∙ ap (λ (m : ℕ). (t.at m).parent) i ∙ e' in
      let k : x ≡ y = sym f ∙ ap (λ (m : ℕ). (t.at m).token) i ∙ f' in
      let r : rs ≡ rs' = up_same a j b in
      ap (λ (z : ℕ). z ∷ rs) k ∙ ap (λ (zs : List ℕ). y ∷ zs) r

  -- a walk by what the first search gives
  search-cases : (t : Trie) (n x : ℕ) (P : Type 0) → ((c : ℕ) → F t n x ≡ Found c → P) → ((l : ℕ) → F t n x ≡ Last l → P) → (F t n x ≡ Damaged → P) → P
  search-cases t n x P f g h = go (F t n x) refl
    where
      go : (r : Search) → F t n x ≡ r → P
      go (Found c) e = f c e
      go (Last l) e = g l e
      go Damaged e = h e

  not-whole : {p l j : ℕ} {us : List ℕ} → stopped p l us ≡ whole j → ⊥
  not-whole e = let z : ◌≡◌ {A = ℕ} 0 1 = cc in omega arith

  hurt-whole : {j : ℕ} → damaged ≡ whole j → ⊥
  hurt-whole e = let z : ◌≡◌ {A = ℕ} 0 1 = cc in omega arith

  hurt-stopped : {p l : ℕ} {us : List ℕ} → damaged ≡ stopped p l us → ⊥
  hurt-stopped e = let z : ◌≡◌ {A = ℕ} 0 1 = cc in omega arith

  up-walk : {t : Trie} {n : ℕ} {rs : List ℕ} {p : ℕ} (ws : List ℕ) (q : ℕ) → Up t n rs p → p < t.nodes → sound t p ≡ true → walk_from_by F t p ws ≡ whole q → Up t n (backwards ws rs) q
  unfolding backwards walk_from_by
  up-walk {t} {n} {rs} [] q a h s e = subst (λ (m : ℕ). Up t n rs m) (whole_is e) a
    where
      whole_is : {i j : ℕ} → whole i ≡ whole j → i ≡ j
      whole_is e = cc
  up-walk {t} {n} {rs} {p} (x ∷ ws) q a h s e = search-cases t p x (Up t n (backwards ws (x ∷ rs)) q)
      (λ c f. let d = (indexes-find index stood).found t p x c h s f in
      up-walk ws q (up a x c (found-above t p x c s f) d.parent_is d.token-is) d.within d.judged (sym (walk-found F t p x ws c f) ∙ e))
      (λ l f. absurd (not-whole (sym (walk-last F t p x ws l f) ∙ e)))
      (λ f. absurd (hurt-whole (sym (walk-damaged F t p x ws f) ∙ e)))

  unique : (t : Trie) (n : ℕ) (a b : List ℕ) (q : ℕ) → n < t.nodes → sound t n ≡ true → walk_from_by F t n a ≡ whole q → walk_from_by F t n b ≡ whole q → a ≡ b
  unique t n a b q h s e f = forwards a b (up_same (up-walk a q here h s e) refl (up-walk b q here h s f))

  -- ---- walks that stopped

  record Split (t : Trie) (n : ℕ) (ws : List ℕ) (q l : ℕ) (us : List ℕ) : Type 0 where
    passed : List ℕ
    first : ℕ
    rest : List ℕ
    left_is : us ≡ first ∷ rest
    whole_is : ws ≡ passed ++ us
    reached : walk_from_by F t n passed ≡ whole q
    within : q < t.nodes
    judged : sound t q ≡ true
    missed : F t q first ≡ Last l

  stopped-is : {p l q k : ℕ} {us vs : List ℕ} → stopped p l us ≡ stopped q k vs → (p ≡ q) × (l ≡ k) × (us ≡ vs)
  stopped-is e = (cc, cc, cc)

  split : (ws : List ℕ) (t : Trie) (n q l : ℕ) (us : List ℕ) → n < t.nodes → sound t n ≡ true → walk_from_by F t n ws ≡ stopped q l us → Split t n ws q l us
  unfolding walk_from_by
  split [] t n q l us h s e = let z : ◌≡◌ {A = ℕ} 0 1 = cc in absurd (omega arith)
  split (x ∷ ws) t n q l us h s e = search-cases t n x (Split t n (x ∷ ws) q l us)
      (λ c f. let d = (indexes-find index stood).found t n x c h s f in
      let r = split ws t c q l us d.within d.judged (sym (walk-found F t n x ws c f) ∙ e) in
      record {
        passed = x ∷ r.passed;
        first = r.first;
        rest = r.rest;
        left_is = r.left_is;
        whole_is = ap (λ (zs : List ℕ). x ∷ zs) r.whole_is;
        reached = walk-found F t n x r.passed c f ∙ r.reached;
        within = r.within;
        judged = r.judged;
        missed = r.missed;
      })
      (λ k f. let i = stopped-is (sym (walk-last F t n x ws k f) ∙ e) in
      record {
        passed = [];
        first = x;
        rest = ws;
        left_is = sym i.2;
        whole_is = i.2;
        reached = ap whole i.0;
        within = subst (λ (m : ℕ). m < t.nodes) i.0 h;
        judged = sym (ap (sound t) i.0) ∙ s;
        missed = ap (λ (m : ℕ). F t m x) (sym i.0) ∙ f ∙ ap Last i.1;
      })
      (λ f. absurd (hurt-stopped (sym (walk-damaged F t n x ws f) ∙ e)))

  walk-append : (a : List ℕ) (t : Trie) (n q : ℕ) (us : List ℕ) → walk_from_by F t n a ≡ whole q → walk_from_by F t n (a ++ us) ≡ walk_from_by F t q us
  unfolding walk_from_by
  walk-append [] t n q us e = let i : n ≡ q = cc in ap (λ (m : ℕ). walk_from_by F t m us) i
  walk-append (x ∷ a) t n q us e = search-cases t n x (walk_from_by F t n (x ∷ (a ++ us)) ≡ walk_from_by F t q us)
      (λ c f. walk-found F t n x (a ++ us) c f ∙ walk-append a t c q us (sym (walk-found F t n x a c f) ∙ e))
      (λ l f. absurd (not-whole (sym (walk-last F t n x a l f) ∙ e)))
      (λ f. absurd (hurt-whole (sym (walk-damaged F t n x a f) ∙ e)))

  -- ---- what stays

  pub record Keeps (t t' : Trie) : Type 0 where
    pub grows : t.nodes ≤ t'.nodes
    pub sound-kept : (n : ℕ) → n < t.nodes → sound t n ≡ true → sound t' n ≡ true
    pub parent-kept : (n : ℕ) → n < t.nodes → (t'.at n).parent ≡ (t.at n).parent
    pub finds : (n x c : ℕ) → n < t.nodes → sound t n ≡ true → F t n x ≡ Found c → F t' n x ≡ Found c

  pub keeps_then : {t t' t'' : Trie} → Keeps t t' → Keeps t' t'' → Keeps t t''
  keeps_then a b = let g = a.grows in let k = b.grows in record {
    grows = omega arith;
    sound-kept = λ n h s. b.sound-kept n (omega arith) (a.sound-kept n h s);
    parent-kept = λ n h. b.parent-kept n (omega arith) ∙ a.parent-kept n h;
    finds = λ n x c h s f. b.finds n x c (omega arith) (a.sound-kept n h s) (a.finds n x c h s f);
  }

  keeps-entered : {t t' : Trie} {parent last token : ℕ} → stood ≤ t.nodes → Entered F t t' parent last token → Keeps t t'
  keeps-entered {t} {t'} {parent} {last} {token} few en = let m = en.nodes-more in record {
    grows = omega arith;
    sound-kept = λ n h s. (kept (entered-grown index stood en) (entered-ends index stood en) n h).sound-same s;
    parent-kept = λ n h. (kept (entered-grown index stood en) (entered-ends index stood en) n h).parent-same;
    finds = λ n x c h s f. found-stays index stood t t' parent last token en few n x c h s f;
  }

  keeps-relinked : {t t' : Trie} → Relinked t t' → Keeps t t'
  keeps-relinked {t} {t'} k = let m = k.nodes-same in record {
    grows = omega arith;
    sound-kept = relinked-sound k;
    parent-kept = k.parents-same;
    finds = λ n x c h s f. linked-same index stood t t' k n x (Found c) h s (λ e. let z : ◌≡◌ {A = ℕ} 0 1 = cc in omega arith) f;
  }

  pub walk_kept : {t t' : Trie} → Keeps t t' → (ws : List ℕ) (n j : ℕ) → n < t.nodes → sound t n ≡ true → walk_from_by F t n ws ≡ whole j → walk_from_by F t' n ws ≡ whole j
  unfolding walk_from_by
  walk_kept k [] n j h s e = e
  walk_kept {t} {t'} k (x ∷ ws) n j h s e = search-cases t n x (walk_from_by F t' n (x ∷ ws) ≡ whole j)
      (λ c f. let d = (indexes-find index stood).found t n x c h s f in
      walk-found F t' n x ws c (k.finds n x c h s f) ∙ walk_kept k ws c j d.within d.judged (sym (walk-found F t n x ws c f) ∙ e))
      (λ l f. absurd (not-whole (sym (walk-last F t n x ws l f) ∙ e)))
      (λ f. absurd (hurt-whole (sym (walk-damaged F t n x ws f) ∙ e)))

  -- ---- a path

  abbrev with_token : Trie → ℕ → ℕ → ℕ → Trie
  with_token t parent last x = record { at = with_node t.at t.nodes parent last x; nodes = t.nodes + 1; links = t.links }

  pub with_tokens : Trie → ℕ → ℕ → List ℕ → Trie
  with_tokens t parent last [] = t
  with_tokens t parent last (x ∷ xs) = with_tokens (with_token t parent last x) t.nodes 0 xs

  pub tokens-nodes : (xs : List ℕ) (t : Trie) (parent last : ℕ) → (with_tokens t parent last xs).nodes ≡ t.nodes + length xs
  unfolding with_tokens
  tokens-nodes [] t parent last = omega arith
  tokens-nodes (x ∷ xs) t parent last = let r = tokens-nodes xs (with_token t parent last x) t.nodes 0 in omega arith

  pub tokens-links : (xs : List ℕ) (t : Trie) (parent last : ℕ) → (with_tokens t parent last xs).links ≡ t.links
  unfolding with_tokens
  tokens-links [] t parent last = refl
  tokens-links (x ∷ xs) t parent last = tokens-links xs (with_token t parent last x) t.nodes 0

  pub tokens-at : (xs : List ℕ) (t : Trie) (parent last m : ℕ) → (with_tokens t parent last xs).at m ≡ with_path t.at t.nodes parent last xs m
  unfolding with_tokens with_path
  tokens-at [] t parent last m = refl
  tokens-at (x ∷ xs) t parent last m = tokens-at xs (with_token t parent last x) t.nodes 0 m

  -- what a walk of us from the first new node comes to, where xs are the tokens of those behind it
  Tail : List ℕ → List ℕ → Walk → Type 0
  Tail xs us (whole j) = (rest : List ℕ) × (xs ≡ us ++ rest)
  Tail xs us (stopped p l vs) = length vs ≤ length us
  Tail xs us damaged = ⊥

  tail-on : (x z : ℕ) (xs us : List ℕ) (w : Walk) → z ≡ x → Tail xs us w → Tail (x ∷ xs) (z ∷ us) w
  unfolding Tail
  tail-on x z xs us (whole j) e k = (k.0, ap (λ (i : ℕ). i ∷ xs) (sym e) ∙ ap (λ (is : List ℕ). z ∷ is) k.1)
  tail-on x z xs us (stopped p l vs) e k = omega arith
  tail-on x z xs us damaged e k = k

  tail_none : (xs : List ℕ) (j : ℕ) → Tail xs [] (whole j)
  unfolding Tail
  tail_none xs j = (xs, refl)

  tail-stopped : (xs : List ℕ) (z : ℕ) (us : List ℕ) (p l : ℕ) → Tail xs (z ∷ us) (stopped p l (z ∷ us))
  unfolding Tail
  tail-stopped xs z us p l = omega arith

  record Pathed (t t' : Trie) (parent token : ℕ) (xs : List ℕ) : Type 0 where
    keeps : Keeps t t'
    some : t.nodes < t'.nodes
    first_found : F t' parent token ≡ Found t.nodes
    rest-whole : walk_from_by F t' t.nodes xs ≡ whole (t.nodes + length xs)
    missed-on : (n x l : ℕ) → n < t.nodes → sound t n ≡ true → F t n x ≡ Last l → ((k : ℕ) × (F t' n x ≡ Last k)) ⊎ ((n ≡ parent) × (x ≡ token))
    tail : (us : List ℕ) → Tail xs us (walk_from_by F t' t.nodes us)

  one-entered : (t : Trie) (parent last token : ℕ) → parent < t.nodes → sound t parent ≡ true → F t parent token ≡ Last last → Entered F t (with_token t parent last token) parent last token
  one-entered t parent last token h s f = record { within = h; judged = s; missed = f; nodes-more = refl; links-same = refl; records = λ m. refl }

  module _ (t : Trie) (parent last token : ℕ) (few : stood ≤ t.nodes) (h : parent < t.nodes) (s : sound t parent ≡ true) (f : F t parent token ≡ Last last) where
    abbrev T : Trie
    T = with_token t parent last token

    en : Entered F t T parent last token
    en = one-entered t parent last token h s f

    T-sound : sound T t.nodes ≡ true
    T-sound = new-sound (entered-grown index stood en) (entered-ends index stood en)

    T-empty : (x : ℕ) → F T t.nodes x ≡ Last 0
    T-empty x = childless index stood T t.nodes x (ap (λ (y : Node). y.child) (new_is (entered-grown index stood en) (entered-ends index stood en)))

    path-last : Pathed t T parent token []
    path-last = unfold walk_from_by in record {
      keeps = keeps-entered few en;
      some = omega arith;
      first_found = node-found index stood t T parent last token en few;
      rest-whole = ap whole (omega arith);
      missed-on = λ n x l i j g. missed-stays index stood t T parent last token en few n x l i j g;
      tail = tails;
    }
      where
        tails : (us : List ℕ) → Tail [] us (walk_from_by F T t.nodes us)
        tails [] = unfold walk_from_by in tail_none [] t.nodes
        tails (z ∷ us) = subst (Tail [] (z ∷ us)) (sym (walk-last F T t.nodes z us 0 (T-empty z))) (tail-stopped [] z us t.nodes 0)

    module _ (y : ℕ) (ys : List ℕ) (t' : Trie) (r : Pathed T t' t.nodes y ys) where
      new_in : t.nodes < T.nodes
      new_in = omega arith

      path-on : Pathed t t' parent token (y ∷ ys)
      path-on = let g = r.keeps.grows in record {
        keeps = keeps_then (keeps-entered few en) r.keeps;
        some = omega arith;
        first_found = r.keeps.finds parent token t.nodes (omega arith) ((keeps-entered few en).sound-kept parent h s) (node-found index stood t T parent last token en few);
        rest-whole = walk-found F t' t.nodes y ys T.nodes r.first_found ∙ r.rest-whole ∙ ap whole (omega arith);
        missed-on = λ n x l i j g. missed n x l i j g;
        tail = tails;
      }
        where
          missed : (n x l : ℕ) → n < t.nodes → sound t n ≡ true → F t n x ≡ Last l → ((k : ℕ) × (F t' n x ≡ Last k)) ⊎ ((n ≡ parent) × (x ≡ token))
          missed n x l i j g = go (missed-stays index stood t T parent last token en few n x l i j g)
            where
              on : ((k : ℕ) × (F t' n x ≡ Last k)) ⊎ ((n ≡ t.nodes) × (x ≡ y)) → ((k : ℕ) × (F t' n x ≡ Last k)) ⊎ ((n ≡ parent) × (x ≡ token))
              on (inl a) = inl a
              on (inr a) = let o = a.0 in absurd (omega arith)

              go : ((k : ℕ) × (F T n x ≡ Last k)) ⊎ ((n ≡ parent) × (x ≡ token)) → ((k : ℕ) × (F t' n x ≡ Last k)) ⊎ ((n ≡ parent) × (x ≡ token))
              go (inl a) = on (r.missed-on n x a.0 (omega arith) ((keeps-entered few en).sound-kept n i j) a.1)
              go (inr a) = inr a

          tails : (us : List ℕ) → Tail (y ∷ ys) us (walk_from_by F t' t.nodes us)
          tails [] = unfold walk_from_by in tail_none (y ∷ ys) t.nodes
          tails (z ∷ us) = go (r.missed-on t.nodes z 0 new_in T-sound (T-empty z))
            where
              go : ((k : ℕ) × (F t' t.nodes z ≡ Last k)) ⊎ ((t.nodes ≡ t.nodes) × (z ≡ y)) → Tail (y ∷ ys) (z ∷ us) (walk_from_by F t' t.nodes (z ∷ us))
              go (inl a) = subst (Tail (y ∷ ys) (z ∷ us)) (sym (walk-last F t' t.nodes z us a.0 a.1)) (tail-stopped (y ∷ ys) z us t.nodes a.0)
              go (inr a) =
                  let e : F t' t.nodes z ≡ Found T.nodes = ap (F t' t.nodes) a.1 ∙ r.first_found in
                  subst (Tail (y ∷ ys) (z ∷ us)) (sym (walk-found F t' t.nodes z us T.nodes e)) (tail-on y z ys us (walk_from_by F t' T.nodes us) a.1 (r.tail us))

  path-entered : (xs : List ℕ) (t : Trie) (parent last token : ℕ) → stood ≤ t.nodes → parent < t.nodes → sound t parent ≡ true → F t parent token ≡ Last last → Pathed t (with_tokens t parent last (token ∷ xs)) parent token xs
  unfolding with_tokens
  path-entered [] t parent last token few h s f = path-last t parent last token few h s f
  path-entered (y ∷ ys) t parent last token few h s f =
      path-on t parent last token few h s f y ys (with_tokens (with_token t parent last token) t.nodes 0 (y ∷ ys))
      (path-entered ys (with_token t parent last token) t.nodes 0 y (omega arith) (omega arith) (T-sound t parent last token few h s f) (T-empty t parent last token few h s f y))

  -- ---- a form given

  -- what the walk of u comes to afterwards, where it stopped with the tokens us left and the form w was given
  unfoldable pub After : List ℕ → List ℕ → List ℕ → Walk → Type 0
  After w u us (whole j) = (rest : List ℕ) × (w ≡ u ++ rest)
  After w u us (stopped p l vs) = length vs ≤ length us
  After w u us damaged = ⊥

  module _ (t : Trie) (n : ℕ) (w : List ℕ) (parent last : ℕ) (left : List ℕ) (few : stood ≤ t.nodes) (h : n < t.nodes) (s : sound t n ≡ true) (e : walk_from_by F t n w ≡ stopped parent last left) where
    abbrev S : Split t n w parent last left
    S = split w t n parent last left h s e

    abbrev t₁ : Trie
    t₁ = with_tokens t parent last left

    pathed : Pathed t t₁ parent S.first S.rest
    pathed = subst (λ (us : List ℕ). Pathed t (with_tokens t parent last us) parent S.first S.rest) (sym S.left_is) (path-entered S.rest t parent last S.first few S.within S.judged S.missed)

    pub given-keeps : Keeps t t₁
    given-keeps = pathed.keeps

    pub given-whole : walk_from_by F t₁ n w ≡ whole (t.nodes + length left - 1)
    given-whole =
        let i : length left ≡ suc (length S.rest) = ap length S.left_is in
        let j : t.nodes + length S.rest ≡ t.nodes + length left - 1 = omega arith in
        ap (walk_from_by F t₁ n) S.whole_is
        ∙ walk-append S.passed t₁ n parent left (walk_kept given-keeps S.passed n parent h s S.reached)
        ∙ ap (walk_from_by F t₁ parent) S.left_is
        ∙ walk-found F t₁ parent S.first S.rest t.nodes pathed.first_found
        ∙ pathed.rest-whole ∙ ap whole j

    module _ (u : List ℕ) (q l : ℕ) (us : List ℕ) (d : walk_from_by F t n u ≡ stopped q l us) where
      abbrev U : Split t n u q l us
      U = split u t n q l us h s d

      along : walk_from_by F t₁ n u ≡ walk_from_by F t₁ q (U.first ∷ U.rest)
      along =
          ap (walk_from_by F t₁ n) U.whole_is
          ∙ walk-append U.passed t₁ n q us (walk_kept given-keeps U.passed n q h s U.reached) ∙ ap (walk_from_by F t₁ q) U.left_is

      from_tail : q ≡ parent → U.first ≡ S.first → (x : Walk) → Tail S.rest U.rest x → After w u us x
      unfolding Tail After
      from_tail i j (whole k) a =
          let same : S.passed ≡ U.passed = unique t n S.passed U.passed parent h s S.reached (U.reached ∙ ap whole i) in (
            a.0,
            S.whole_is ∙ ap (λ (zs : List ℕ). zs ++ left) same ∙ ap (λ (zs : List ℕ). U.passed ++ zs) S.left_is
                ∙ ap (λ (z : ℕ). U.passed ++ (z ∷ S.rest)) (sym j) ∙ ap (λ (zs : List ℕ). U.passed ++ (U.first ∷ zs)) a.1
                ∙ sym (append-twice U.passed (U.first ∷ U.rest) a.0) ∙ ap (λ (zs : List ℕ). (U.passed ++ zs) ++ a.0) (sym U.left_is) ∙ ap (λ (zs : List ℕ). zs ++ a.0) (sym U.whole_is),
          )
      from_tail i j (stopped p k vs) a = let m : length us ≡ suc (length U.rest) = ap length U.left_is in omega arith
      from_tail i j damaged a = a

      still : (p k : ℕ) → After w u us (stopped p k (U.first ∷ U.rest))
      unfolding After
      still p k = let m : length us ≡ length (U.first ∷ U.rest) = ap length U.left_is in omega arith

      pub given-after : After w u us (walk_from_by F t₁ n u)
      given-after = subst (After w u us) (sym along) (go (pathed.missed-on q U.first l U.within U.judged U.missed))
        where
          go : ((k : ℕ) × (F t₁ q U.first ≡ Last k)) ⊎ ((q ≡ parent) × (U.first ≡ S.first)) → After w u us (walk_from_by F t₁ q (U.first ∷ U.rest))
          go (inl a) = subst (After w u us) (sym (walk-last F t₁ q U.first U.rest a.0 a.1)) (still q a.0)
          go (inr a) =
              let f : F t₁ q U.first ≡ Found t.nodes = ap (λ (m : ℕ). F t₁ m U.first) a.0 ∙ ap (F t₁ parent) a.1 ∙ pathed.first_found in
              subst (After w u us) (sym (walk-found F t₁ q U.first U.rest t.nodes f)) (from_tail a.0 a.1 (walk_from_by F t₁ t.nodes U.rest) (pathed.tail U.rest))

  -- ---- a leaf linked

  module _ {t t' : Trie} (k : Relinked t t') where
    pub linked-keeps : Keeps t t'
    linked-keeps = keeps-relinked k

    pub linked-walk : (ws : List ℕ) (n : ℕ) → n < t.nodes → sound t n ≡ true → (walk_from_by F t n ws ≡ damaged → ⊥) → walk_from_by F t' n ws ≡ walk_from_by F t n ws
    unfolding walk_from_by
    linked-walk [] n h s d = refl
    linked-walk (x ∷ ws) n h s d = search-cases t n x (walk_from_by F t' n (x ∷ ws) ≡ walk_from_by F t n (x ∷ ws))
        (λ c f. let m = (indexes-find index stood).found t n x c h s f in
        walk-found F t' n x ws c ((keeps-relinked k).finds n x c h s f)
        ∙ linked-walk ws c m.within m.judged (λ e. d (walk-found F t n x ws c f ∙ e)) ∙ sym (walk-found F t n x ws c f))
        (λ l f. walk-last F t' n x ws l (linked-same index stood t t' k n x (Last l) h s (λ e. let z : ◌≡◌ {A = ℕ} 0 1 = cc in omega arith) f) ∙ sym (walk-last F t n x ws l f))
        (λ f. absurd (d (walk-damaged F t n x ws f)))
