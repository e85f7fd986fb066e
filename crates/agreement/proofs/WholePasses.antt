-- Records that hold the same as a table pass the check, and say that table.
use Prim.Native.Nat.{ℕ, zero, suc, ◌+◌, ◌-◌, ◌≤◌, ◌<◌}
use mathlib.Core.Path.{◌≡◌, refl, sym, ap, ◌∙◌, subst}
use mathlib.Core.Bool.{true, true≢false, false≢true}
use mathlib.Core.List.{List, [], ◌∷◌, ◌++◌, append-nil, append_assoc, concat-ne-nil, tail-eq_of_cons-eq}
use native.Mathlib.Omega.{arith}
use lib.Dec.{eqb, leb}
use lib.ListN.{length}
use borrow.Author.Tests.{eqb-true, eqb-false, eq-eqb, ne_eqb, leb-true, leb-false}
use Rattle.basis.proofs.Cases.{by_cases}
use Rattle.forms.specs.Compact.{same}
use Rattle.forms.specs.Numbering.{met}
use Rattle.plain.specs.Words.{Word, has}
use Rattle.plain.specs.Coding.{Coding}
use Rattle.plain.specs.CodingLaws.{CodingLaws}
use Rattle.plain.specs.Requests.{State, Open, Finished}
use Rattle.plain.specs.Table.{Table, subgoal_at, answer_at, subgoal_of_answer, called_forms, answers_to, after, subgoal_of, answer_of}
use Rattle.plain.proofs.PrefixLaws.{begins, has-prefixes, has-begins, begins-witness, begins-append}
use Rattle.plain.proofs.Entries.{under, begins-under}
use Rattle.plain.proofs.Keys.{key, snoc-left, snoc-nil, has-place, place-has}
use Rattle.plain.proofs.AfterLaws.{after-least, after-found}
use Rattle.space.specs.Judging.{follows}
use Rattle.space.proofs.JudgingLaws.{follows-zero}
use Rattle.trie.specs.Siblings.{search_children}
use Rattle.trie.specs.declared.Search.TheVariants.{Found}
use Rattle.plain.proofs.RecordLaws.{called-held, answer-held}
use Rattle.plain.proofs.NumberLaws.{subgoal_of-none, subgoal_of-some, answer_of-none, answer_of-some}
use Rattle.plain.proofs.LinkLaws.{link_of}
use Rattle.plain.proofs.StoredForms.{starts-rest, called-form-legal, answer-form-legal}
use Rattle.trie.specs.Paths.{Path, tokens}
use Rattle.store.specs.Views.{View}
use Rattle.agreement.specs.Whole.{word_of, subgoal_path, answer_path, all_nodes}
use Rattle.agreement.proofs.TrieNodes.{par, next_of, Kind, is_root, is_child, parent-most}
use Rattle.agreement.proofs.TrieWalks.{follows-after, key-some, search-own}
use Rattle.agreement.proofs.SameRecords.{later, state_cell, LastSame, no_last, some-last, Same, variables-met, own-low, own-high, gather-subgoal, gather-answer}
use Rattle.agreement.proofs.Callables.{Callable}
use Rattle.agreement.proofs.WholeTests.{NodeFacts, Leads, to-subgoal, to-answer, LastFacts, none_last, has_last, SubgoalFacts, AnswerFacts, Whole, NodeLocal, EndsFacts, no-ends, both_ends, SubgoalLocal, AnswerLocal, Local}
use Rattle.agreement.proofs.AnswerChains.{as_many}
use Rattle.agreement.proofs.FirstLeaves.{led-up}
use Rattle.agreement.proofs.WholeChains.{local-chained}
use Rattle.agreement.proofs.RisingChains.{after-above}

read_back : (p : Path) (w : Word) → p ≡ tokens w → word_of p ≡ w
read_back p w e = ap word_of e

path-back : (p : Path) (w : Word) → p ≡ tokens w → p ≡ tokens (word_of p)
path-back p w e = e ∙ ap tokens (sym (read_back p w e))

state-most : (x : State) → state_cell x ≤ 1
state-most Open = omega arith
state-most Finished = omega arith

module _ (c : Coding) (laws : CodingLaws c) (t : Table) (callable : Callable t) (v : View) (S : Same c t v) where
  abbrev K : List Word
  K = S.K

  abbrev n : ℕ
  n = v.nodes

  inside : (i : ℕ) → i < n → i < length K
  inside i h = omega (arith, S.tries.keys)

  equal-keys : (i j : ℕ) → i < n → j < n → key K i ≡ key K j → i ≡ j
  equal-keys i j h k e = S.numbering.different i j (inside i h) (inside j k) e

  sub_in : (s : ℕ) → s ≤ v.subgoals → s ≤ length t.subgoals
  sub_in s h = omega (arith, S.subgoals)

  ans-in : (a : ℕ) → a ≤ v.answers → a ≤ length t.answers
  ans-in a h = omega (arith, S.answers)

  -- ---- links

  called-own : (s : ℕ) → 0 < s → s ≤ length t.subgoals → subgoal_of t (subgoal_at t s).form ≡ s
  called-own s h k =
      let p = subgoal_of-some t (subgoal_at t s).form (called-held t s h k) in
      S.sound.kept.subgoals-differ (subgoal_of t (subgoal_at t s).form) s p.low p.high h k p.form

  given-own : (a : ℕ) → 0 < a → a ≤ length t.answers → answer_of t (subgoal_of_answer t a) (answer_at t a).form ≡ a
  given-own a h k =
      let p = answer_of-some t (subgoal_of_answer t a) (answer_at t a).form (answer-held t a h k) in
      S.sound.kept.answers-differ (answer_of t (subgoal_of_answer t a) (answer_at t a).form) a p.low p.high h k p.subgoal p.form

  link-subgoal : (s : ℕ) → 0 < s → s ≤ length t.subgoals → (v.node (v.subgoal s).leaf).link ≡ s
  link-subgoal s h k =
      let o = S.subgoal s h k in
      S.links (v.subgoal s).leaf o.leaf-in ∙ ap (link_of t) o.leaf-key ∙ (unfold link_of in called-own s h k)

  link_of-given : (s : ℕ) (w : Word) → 0 < s → link_of t (s ∷ w) ≡ answer_of t s w
  unfolding link_of
  link_of-given zero w h = absurd (omega arith)
  link_of-given (suc s) w h = refl

  link-answer : (a : ℕ) → 0 < a → a ≤ length t.answers → (v.node (v.answer a).leaf).link ≡ a
  link-answer a h k =
      let o = S.answer a h k in
      S.links (v.answer a).leaf o.leaf-in ∙ ap (link_of t) o.leaf-key ∙ link_of-given (subgoal_of_answer t a) (answer_at t a).form (own-low c laws t v S a h k) ∙ given-own a h k

  -- a link that a key has is the number of a record with this leaf
  leads-by : (i : ℕ) (y : Word) → i < n → key K i ≡ y → (v.node i).link ≡ link_of t y → ((v.node i).link ≡ 0 → ⊥) → Leads v i
  unfolding link_of
  leads-by i [] h e l ne = absurd (ne l)
  leads-by i (zero ∷ w) h e l ne = by_cases (has (called_forms t.subgoals) w)
      (λ q.
      let p = subgoal_of-some t w q in
      let o = S.subgoal (subgoal_of t w) p.low p.high in
      to-subgoal (rw l (omega (arith, p.high, S.subgoals)))
      (rw l (equal-keys (v.subgoal (subgoal_of t w)).leaf i o.leaf-in h (o.leaf-key ∙ ap (λ (x : Word). 0 ∷ x) p.form ∙ sym e))))
      (λ q. absurd (ne (l ∙ subgoal_of-none t w q)))
  leads-by i (suc s ∷ w) h e l ne = by_cases (has (answers_to t.answers (suc s)) w)
      (λ q.
      let p = answer_of-some t (suc s) w q in
      let o = S.answer (answer_of t (suc s) w) p.low p.high in
      to-answer (rw l (omega (arith, p.high, S.answers)))
      (rw l (equal-keys (v.answer (answer_of t (suc s) w)).leaf i o.leaf-in h (o.leaf-key ∙ ap (λ (x : ℕ). x ∷ (answer_at t (answer_of t (suc s) w)).form) p.subgoal ∙ ap (λ (x : Word). suc s ∷ x) p.form ∙ sym e))))
      (λ q. absurd (ne (l ∙ answer_of-none t (suc s) w q)))

  -- ---- roots

  key-begun : (i s : ℕ) (u : Word) → i < n → key K i ≡ s ∷ u → begins (under s S.es) u ≡ true
  key-begun i s u h e =
      sym (begins-under s S.es u) ∙ sym (has-prefixes S.es s u) ∙ sym (S.numbering.members (s ∷ u)) ∙ place-has K (s ∷ u) i (inside i h) e

  trie-most : (i s : ℕ) (u : Word) → i < n → key K i ≡ s ∷ u → s ≤ length t.subgoals
  trie-most i s u h e = by_cases (leb s (length t.subgoals))
      (λ q. leb-true _ _ q)
      (λ q. absurd (empty (rw (S.forest.unused s (leb-false _ _ q)) at (key-begun i s u h e))))
    where
      empty : begins [] u ≡ true → ⊥
      empty e = unfold begins in false≢true e

  root-own-facts : (i s : ℕ) → i < n → 0 < i → key K i ≡ s ∷ [] → (0 < (v.node (i - 1)).link) × ((v.node (i - 1)).link ≤ v.subgoals) × ((v.subgoal (v.node (i - 1)).link).root ≡ i)
  root-own-facts i s h pos e =
      let high : s ≤ length t.subgoals = trie-most i s [] h e in
      let low : 0 < s = by_cases (eqb s 0)
      (λ z. let q : i ≡ 0 = equal-keys i 0 h S.some (e ∙ ap (λ (x : ℕ). x ∷ []) (eqb-true s 0 z) ∙ sym S.origin) in absurd (omega arith))
      (λ z. some s (eqb-false s 0 z)) in
      let o = S.subgoal s low high in
      let r : (v.subgoal s).root ≡ i = equal-keys (v.subgoal s).root i o.root_in h (o.root-key ∙ sym e) in
      let l : i - 1 ≡ (v.subgoal s).leaf = before i _ _ r o.root-next in
      let k : (v.node (i - 1)).link ≡ s = ap (λ (j : ℕ). (v.node j).link) l ∙ link-subgoal s low high in
      rw k (low, omega (arith, S.subgoals), r)
    where
      some : (s : ℕ) → (s ≡ 0 → ⊥) → 0 < s
      some s h = omega arith

      before : (i root leaf : ℕ) → root ≡ i → root ≡ suc leaf → i - 1 ≡ leaf
      before i root leaf p q = omega arith

  kind : (i : ℕ) → i < n → Kind K v.node i
  kind i h = S.tries.kind i h

  -- ---- a node that is no root

  child-key : (i : ℕ) → i < n → (par v.node i ≡ i → ⊥) → key K i ≡ key K (par v.node i) ++ ((v.node i).token ∷ [])
  child-key i h ne = go (kind i h)
    where
      go : Kind K v.node i → key K i ≡ key K (par v.node i) ++ ((v.node i).token ∷ [])
      go (is_root s p q k) = absurd (ne p)
      go (is_child p k) = k

  token-facts : (i j : ℕ) → i < n → j < n → i < j → (par v.node i ≡ i → ⊥) → par v.node j ≡ par v.node i → (v.node j).token ≡ (v.node i).token → ⊥
  token-facts i j h k l ne p e =
      let low = parent-most K v.node n S.tries i h in
      let z : i ≡ j = equal-keys i j h k (child-key i h ne ∙ sym (child-key j k (λ q. omega arith) ∙ ap (λ (x : ℕ). key K x ++ ((v.node j).token ∷ [])) p ∙ ap (λ (x : ℕ). key K (par v.node i) ++ (x ∷ [])) e)) in
      omega arith

  -- a key that goes on from i's is that of a node below it
  child-there : (i s : ℕ) (u : Word) (x : ℕ) → i < n → key K i ≡ s ∷ u → has K (s ∷ (u ++ (x ∷ []))) ≡ true → (v.node i).child ≡ 0 → ⊥
  child-there i s u x h e q z =
      let p = has-place K (s ∷ (u ++ (x ∷ []))) q in
      let k : p.0 < n = omega (arith, p.1, S.tries.keys) in
      go p.0 k p.2 (kind p.0 k)
    where
      go : (j : ℕ) → j < n → key K j ≡ s ∷ (u ++ (x ∷ [])) → Kind K v.node j → ⊥
      go j k f (is_root y p q r) = concat-ne-nil x u (sym (tail-eq_of_cons-eq (sym r ∙ f)))
      go j k f (is_child p r) =
          let up : par v.node j ≡ i = equal-keys (par v.node j) i (omega arith) h (snoc-left (key K (par v.node j)) (s ∷ u) (v.node j).token x (sym r ∙ f) ∙ sym e) in
          (after-least (par v.node) n i i j (record { above = subst (λ (m : ℕ). m < j) up p; below = k; under = up })).0 (sym (S.tries.child i h) ∙ z)

  -- a word of trie s that is not empty has a link
  linked-word : (i s x : ℕ) (u : Word) → i < n → key K i ≡ s ∷ x ∷ u → has (under s S.es) (x ∷ u) ≡ true → (v.node i).link ≡ 0 → ⊥
  linked-word i zero x u h e q z =
      let f : has (called_forms t.subgoals) (x ∷ u) ≡ true = unfold has same in (rw S.forest.calls at q) in
      let p = subgoal_of-some t (x ∷ u) f in
      let l : (v.node i).link ≡ subgoal_of t (x ∷ u) = S.links i h ∙ ap (link_of t) e ∙ (unfold link_of in refl) in
      omega (arith, p.low)
  linked-word i (suc s) x u h e q z =
      let f : has (answers_to t.answers (suc s)) (x ∷ u) ≡ true = unfold has same in (rw (S.forest.replies (suc s) (omega arith) (trie-most i (suc s) (x ∷ u) h e)) at q) in
      let p = answer_of-some t (suc s) (x ∷ u) f in
      let l : (v.node i).link ≡ answer_of t (suc s) (x ∷ u) = S.links i h ∙ ap (link_of t) e ∙ (unfold link_of in refl) in
      omega (arith, p.low)

  live-word : (i s x : ℕ) (u w rest : Word) → i < n → key K i ≡ s ∷ x ∷ u → has (under s S.es) w ≡ true → w ≡ (x ∷ u) ++ rest → (v.node i).link ≡ 0 → (v.node i).child ≡ 0 → ⊥
  live-word i s x u w [] h e q f l z = linked-word i s x u h e (subst (λ (y : Word). has (under s S.es) y ≡ true) (f ∙ append-nil (x ∷ u)) q) l
  live-word i s x u w (y ∷ r) h e q f l z =
      let b : begins (under s S.es) (((x ∷ u) ++ (y ∷ [])) ++ r) ≡ true =
      subst (λ (m : Word). begins (under s S.es) m ≡ true) (f ∙ sym (append_assoc (x ∷ u) (y ∷ []) r)) (has-begins (under s S.es) w q) in
      let d : begins (under s S.es) ((x ∷ u) ++ (y ∷ [])) ≡ true =
      by_cases (begins (under s S.es) ((x ∷ u) ++ (y ∷ []))) (λ a. a) (λ a. absurd (true≢false (sym b ∙ begins-append (under s S.es) ((x ∷ u) ++ (y ∷ [])) r a))) in
      child-there i s (x ∷ u) y h e (S.numbering.members (s ∷ ((x ∷ u) ++ (y ∷ []))) ∙ has-prefixes S.es s ((x ∷ u) ++ (y ∷ [])) ∙ begins-under s S.es ((x ∷ u) ++ (y ∷ [])) ∙ d) z

  live-key : (i : ℕ) (y : Word) → i < n → (par v.node i ≡ i → ⊥) → key K i ≡ y → (v.node i).link ≡ 0 → (v.node i).child ≡ 0 → ⊥
  live-key i [] h ne e l z = key-some K v.node n S.tries S.numbering.different i h e
  live-key i (s ∷ []) h ne e l z =
      let low = parent-most K v.node n S.tries i h in
      key-some K v.node n S.tries S.numbering.different (par v.node i) (omega arith) (snoc-nil (key K (par v.node i)) s (v.node i).token (sym e ∙ child-key i h ne))
  live-key i (s ∷ x ∷ u) h ne e l z =
      let p = begins-witness (under s S.es) (x ∷ u) (key-begun i s (x ∷ u) h e) in
      let r = starts-rest (x ∷ u) p.0 p.2 in
      live-word i s x u p.0 r.0 h e p.1 r.1 l z

  node-facts : (i : ℕ) → i < n → NodeFacts v i
  node-facts i h = record {
    lower = parent-most K v.node n S.tries i h;
    child = S.tries.child i h;
    sibling = S.tries.sibling i h;
    leads = λ ne. leads-by i (key K i) h refl (S.links i h) ne;
    root-token = λ p. token p (kind i h);
    root-own = λ p pos. root p pos (kind i h);
    token-own = λ ne j k l p e. token-facts i j h k l ne p e;
    lives = λ ne l z. live-key i (key K i) h ne refl l z;
  }
    where
      token : par v.node i ≡ i → Kind K v.node i → (v.node i).token ≡ 0
      token p (is_root s q r k) = r
      token p (is_child q k) = absurd (omega arith)

      root : par v.node i ≡ i → 0 < i → Kind K v.node i → (0 < (v.node (i - 1)).link) × ((v.node (i - 1)).link ≤ v.subgoals) × ((v.subgoal (v.node (i - 1)).link).root ≡ i)
      root p pos (is_root s q r k) = root-own-facts i s h pos k
      root p pos (is_child q k) = absurd (omega arith)

  -- ---- records

  owner-same : (a : ℕ) (j : ℕ) → a < j → j < suc (length t.answers) → (v.answer j).subgoal ≡ subgoal_of_answer t j
  owner-same a j h k = (S.answer j (omega arith) (omega arith)).subgoal

  later_same : (a s : ℕ) → later t a s ≡ after (λ b. (v.answer b).subgoal) (suc v.answers) a s
  later_same a s =
      sym (after-above (λ b. (v.answer b).subgoal) (subgoal_of_answer t) (suc (length t.answers)) a s (owner-same a)) ∙ ap (λ (m : ℕ). after (λ b. (v.answer b).subgoal) (suc m) a s) (sym S.answers)

  last-facts : (s first last : ℕ) → LastSame t s first last → LastFacts v s first last
  last-facts s first last (no_last p q) = none_last q p
  last-facts s first last (some-last p q o z) =
      let y = S.answer last p q in
      has_last p (omega (arith, S.answers)) (y.subgoal ∙ o) (y.next ∙ ap (later t last) o ∙ z)

  root-parent : (s p : ℕ) → p < n → key K p ≡ s ∷ [] → par v.node p ≡ p
  root-parent s p h e = go (kind p h)
    where
      go : Kind K v.node p → par v.node p ≡ p
      go (is_root x q z k) = q
      go (is_child q k) = absurd (key-some K v.node n S.tries S.numbering.different (par v.node p) (omega arith) (snoc-nil (key K (par v.node p)) s (v.node p).token (sym e ∙ k)))

  module _ (s : ℕ) (low : 0 < s) (high : s ≤ length t.subgoals) where
    called-path : subgoal_path v s ≡ tokens (subgoal_at t s).form
    called-path = gather-subgoal c laws t v S s low high

    called-read : word_of (subgoal_path v s) ≡ (subgoal_at t s).form
    called-read = read_back (subgoal_path v s) (subgoal_at t s).form called-path

    subgoal-facts : SubgoalFacts c v s
    subgoal-facts =
        let o = S.subgoal s low high in
        record {
          root_in = o.root_in;
          root-next = o.root-next;
          root-own = root-parent s (v.subgoal s).root o.root_in o.root-key;
          linked = link-subgoal s low high;
          state = rw o.state (state-most (subgoal_at t s).state);
          path = path-back (subgoal_path v s) (subgoal_at t s).form called-path;
          legal = rw called-read (called-form-legal c laws t S.sound s low high);
          begins = rw called-read (callable s low high);
          variables = ap (λ (w : Word). length (met [] w)) called-read ∙ variables-met c laws t v S s low high;
          first = o.first ∙ later_same 0 s;
          last = last-facts s _ _ o.last;
          led = led-up c laws t v S s low high;
        }

  module _ (a : ℕ) (low : 0 < a) (high : a ≤ length t.answers) where
    abbrev own : ℕ
    own = subgoal_of_answer t a

    given-path : answer_path v a ≡ tokens (answer_at t a).form
    given-path = rw (S.answer a low high).subgoal (gather-answer c laws t v S a low high)

    given-read : word_of (answer_path v a) ≡ (answer_at t a).form
    given-read = read_back (answer_path v a) (answer_at t a).form given-path

    answer-facts : AnswerFacts c v a
    answer-facts =
        let o = S.answer a low high in
        let g = S.subgoal own (own-low c laws t v S a low high) (own-high c laws t v S a low high) in
        record {
          low = rw o.subgoal (own-low c laws t v S a low high);
          high = rw (o.subgoal, S.subgoals) (own-high c laws t v S a low high);
          leaf-in = o.leaf-in;
          linked = link-answer a low high;
          path = path-back (answer_path v a) (answer_at t a).form given-path;
          legal = rw (given-read, o.subgoal, g.variables) (answer-form-legal c laws t S.sound a low high);
          next = o.next ∙ later_same a own ∙ ap (after (λ b. (v.answer b).subgoal) (suc v.answers) a) (sym o.subgoal);
        }

  pub same_whole : Whole c v
  same_whole = record {
    node = node-facts;
    subgoal = λ s h k. subgoal-facts s h (sub_in s k);
    answer = λ a h k. answer-facts a h (ans-in a k);
  }

  -- ---- what each test says by itself

  link-most : (i : ℕ) → i < n → (v.node i).link ≤ v.subgoals + v.answers
  link-most i h = by_cases (eqb (v.node i).link 0)
      (λ z. let q : (v.node i).link ≡ 0 = eqb-true _ _ z in omega arith)
      (λ z. go ((same_whole.node i h).leads (eqb-false _ _ z)))
    where
      go : Leads v i → (v.node i).link ≤ v.subgoals + v.answers
      go (to-subgoal l e) = omega arith
      go (to-answer l e) = omega arith

  key-trie : (i : ℕ) (y : Word) → i < n → key K i ≡ y → (s : ℕ) × (u : Word) × (key K i ≡ s ∷ u)
  key-trie i [] h e = absurd (key-some K v.node n S.tries S.numbering.different i h e)
  key-trie i (s ∷ u) h e = (s, u, e)

  up : (i : ℕ) → i < n → (par v.node i ≡ i → ⊥) → par v.node i < i
  up i h ne = let l = parent-most K v.node n S.tries i h in strict l ne
    where
      strict : {a b : ℕ} → a ≤ b → (a ≡ b → ⊥) → a < b
      strict h k = omega arith

  own-found : (i : ℕ) → i < n → (par v.node i ≡ i → ⊥) → search_children (all_nodes c v) (par v.node i) (v.node i).token ≡ Found i
  own-found i h ne =
      let l = up i h ne in
      let t = key-trie (par v.node i) (key K (par v.node i)) (omega arith) refl in
      search-own K v.node n S.tries S.numbering.different (v.subgoals + v.answers) t.0 (λ j u k e. link-most j k) i h (t.1, t.2) l

  sibling-after : (i : ℕ) → i < n → (par v.node i ≡ i → ⊥) → (v.node i).sibling ≡ after (par v.node) n i (par v.node i)
  sibling-after i h ne = S.tries.sibling i h ∙ rw (ne_eqb (par v.node i) i ne)

  node-local : (i : ℕ) → i < n → NodeLocal c v i
  node-local i h =
      let f = same_whole.node i h in
      record {
        judged = record {
          child-follows = rw f.child (follows-after (par v.node) n i i);
          sibling-follows = rw f.sibling (follows-own i);
          parent-most = f.lower;
          link-most = link-most i h;
        };
        child-own = λ ne. subst (λ (j : ℕ). par v.node j ≡ i) (sym f.child) (after-found (par v.node) n i i (λ z. ne (f.child ∙ z))).under;
        leads = f.leads;
        root-token = f.root-token;
        root-sibling = λ p. f.sibling ∙ rw (eq-eqb (par v.node i) i p);
        root-own = f.root-own;
        sibling-own = λ p ne.
            let e = sibling-after i h p in
            subst (λ (j : ℕ). par v.node j ≡ par v.node i) (sym e) (after-found (par v.node) n i (par v.node i) (λ z. ne (e ∙ z))).under;
        found = own-found i h;
        lives = f.lives;
      }
    where
      follows-own : (i : ℕ) → follows n i (next_of v.node n i) ≡ true
      follows-own i = by_cases (eqb (par v.node i) i) (λ e. rw e (follows-zero n i)) (λ e. rw e (follows-after (par v.node) n i (par v.node i)))

  ends_of : (s : ℕ) → 0 < s → s ≤ v.subgoals → EndsFacts v s
  ends_of s h k = go f.last
    where
      f : SubgoalFacts c v s
      f = same_whole.subgoal s h k

      go : LastFacts v s (v.subgoal s).first (v.subgoal s).last → EndsFacts v s
      go (none_last p q) = no-ends p q
      go (has_last p q o z) =
          let a = after-least (λ b. (v.answer b).subgoal) (suc v.answers) 0 s (v.subgoal s).last (record { above = p; below = omega arith; under = o }) in
          let b = after-found (λ b. (v.answer b).subgoal) (suc v.answers) 0 s a.0 in
          let e = f.first in
          both_ends (subst (λ (x : ℕ). 0 < x) (sym e) b.above) (subst (λ (x : ℕ). x ≤ v.answers) (sym e) (below b.below)) (ap (λ (x : ℕ). (v.answer x).subgoal) e ∙ b.under) p q o z
        where
          below : {x : ℕ} → x < suc v.answers → x ≤ v.answers
          below h = omega arith

  subgoal-local : (s : ℕ) → 0 < s → s ≤ v.subgoals → SubgoalLocal c v s
  subgoal-local s h k =
      let f = same_whole.subgoal s h k in
      record {
        root_in = f.root_in;
        root-next = f.root-next;
        root-own = f.root-own;
        linked = f.linked;
        state = f.state;
        path = f.path;
        legal = f.legal;
        begins = f.begins;
        variables = f.variables;
        ends = ends_of s h k;
        led = f.led;
      }

  next-facts : (a : ℕ) → 0 < a → a ≤ v.answers → ((v.answer a).next ≡ 0 → ⊥) → (a < (v.answer a).next) × ((v.answer a).next ≤ v.answers) × ((v.answer (v.answer a).next).subgoal ≡ (v.answer a).subgoal)
  next-facts a h k ne =
      let e = (same_whole.answer a h k).next in
      let b = after-found (λ b. (v.answer b).subgoal) (suc v.answers) a (v.answer a).subgoal (λ z. ne (e ∙ z)) in
      (subst (λ (x : ℕ). a < x) (sym e) b.above, subst (λ (x : ℕ). x ≤ v.answers) (sym e) (below b.below), ap (λ (x : ℕ). (v.answer x).subgoal) e ∙ b.under)
    where
      below : {x : ℕ} → x < suc v.answers → x ≤ v.answers
      below h = omega arith

  answer-local : (a : ℕ) → 0 < a → a ≤ v.answers → AnswerLocal c v a
  answer-local a h k =
      let f = same_whole.answer a h k in
      record { low = f.low; high = f.high; leaf-in = f.leaf-in; linked = f.linked; path = f.path; legal = f.legal; next-own = next-facts a h k }

  pub same-local : Local c v
  same-local = record {
    node = node-local;
    subgoal = subgoal-local;
    answer = answer-local;
    count = as_many c v (local-chained c v subgoal-local answer-local) (λ s h k. (same_whole.subgoal s h k).first) (λ a h k. (same_whole.answer a h k).next);
  }
