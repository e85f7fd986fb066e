-- A call: an old subgoal is found, a new one is entered, as in the plain table.
use mathlib.Core.Path.{◌≡◌, refl, sym, ap, ◌∙◌, subst}
use mathlib.Core.Bool.{true, false}
use mathlib.Core.List.{List, [], ◌∷◌, ◌++◌, append_assoc}
use Prim.Native.Nat.{ℕ, suc, ◌+◌, ◌-◌, ◌≤◌, ◌<◌}
use native.Mathlib.Omega.{arith}
use lib.Dec.{eqb, leb, ltb}
use lib.ListN.{length, drop, get_or-append}
use lib.Seq.{get_or_at}
use borrow.Author.Tests.{eqb-true, eqb-false, eq-eqb, ne_eqb, lt-ltb, ltb-true, leb-true}
use Rattle.basis.proofs.Cases.{by_cases}
use Rattle.plain.specs.Words.{Word, has, prefixes}
use Rattle.plain.specs.Coding.{Coding, Reading, refused, accepted}
use Rattle.plain.specs.CodingLaws.{CodingLaws}
use Rattle.plain.specs.Requests.{Open, call_least, new, old_subgoal, refused}
use Rattle.plain.specs.Table as table
use Rattle.plain.specs.Table.{Table, subgoal_at, answer_at, subgoal_of_answer, called_forms, nodes, subgoal_of, with_subgoal, becomes, appended, step}
use Rattle.plain.proofs.PrefixLaws.{starts, begins, longer, shared, begins-last, begins-witness}
use Rattle.plain.proofs.Entries.{prefixes-root, trie-root, trie-has, trie-lacks}
use Rattle.plain.proofs.Keys.{key, Different, place-has}
use Rattle.plain.proofs.AfterLaws.{after-found}
use Rattle.plain.proofs.NumberLaws.{subgoal_of-none, subgoal_of-some, answer_of-none}
use Rattle.plain.proofs.RecordLaws.{subgoal_at-before, subgoal_at-new, subgoals-count}
use Rattle.plain.proofs.LinkLaws.{link_of, link_of-call}
use Rattle.plain.proofs.Counted.{called_forms-snoc, after_call, root-free, forest-call}
use Rattle.plain.proofs.Soundness.{Fit, called-fit, FormEnters, sound-subgoal}
use Rattle.plain.proofs.StoredForms.{legal-starts, held-called}
use Rattle.plain.proofs.ReasonLaws.{lowest-old, lowest-new}
use Rattle.space.specs.declared.Node.{Node}
use Rattle.space.specs.declared.Subgoal.{Subgoal}
use Rattle.space.specs.declared.Answer.{Answer}
use Rattle.trie.specs.Append.{new_root, with_path}
use Rattle.trie.specs.Walks.{Walk, whole, stopped}
use Rattle.store.specs.Views.{View}
use Rattle.store.specs.Changes.{new_subgoal}
use Rattle.store.specs.Decisions as decisions
use Rattle.store.specs.Decisions.{enters_subgoal, called_old, called_new, called_at, decide, decide_by}
use Rattle.store.specs.Calls.{reply, out_after}
use Rattle.agreement.specs.Records.{updated, changed_view, subgoal-fits}
use Rattle.agreement.proofs.TrieNodes.{Tries, tries-count, tries-root, Stop, stop-inside}
use Rattle.agreement.proofs.TrieWalks.{Walked, ends, stops}
use Rattle.agreement.proofs.Numberings.{Numbering, numbering-more, shared-members}
use Rattle.agreement.proofs.TrieLinks.{updated-here, updated-other, linking, Links, links-root, numbering-leaf, leaf-key, tries-leaf, links-leaf}
use Rattle.agreement.proofs.FirstChildren.{Firsts, firsts_more}
use Rattle.agreement.proofs.SameRecords.{subgoal-keys, later, LastSame, no_last, some-last, SubgoalSame, AnswerSame, Same, different, link-none, link-called, walked_call, subgoal-judged, subgoal-state}
use Rattle.agreement.proofs.Agreeing.{Agrees, agrees-says, agrees-pick}
use Rattle.plain.proofs.Naming.{naming-cases}

-- ---- a new subgoal, where the walk stopped

module _ (c : Coding) (laws : CodingLaws c) (t : Table) (v : View) (S : Same c t v) (w : Word) (m q l a : ℕ) (u : Word)
    (inside : q < v.nodes) (st : Stop v.node v.nodes q l)
    (path : key S.K q ++ (a ∷ u) ≡ 0 ∷ w)
    (rest : longer (key S.K q) (a ∷ u) ≡ drop (shared S.K (key S.K 0) w) (longer (key S.K 0) w))
    (absent : has (called_forms t.subgoals) w ≡ false) where
  -- the subgoals so far, the table with the new one, and its answer root
  abbrev total : ℕ
  total = length t.subgoals

  abbrev grown : Table
  grown = with_subgoal t w m

  abbrev root : ℕ
  root = v.nodes + length (a ∷ u)

  -- the entries with the form, and with the answer root
  abbrev more : List Word
  more = S.es ++ ((0 ∷ w) ∷ [])

  -- the keys with those of the path, and with that of the answer root
  abbrev J : List Word
  J = S.K ++ longer (key S.K q) (a ∷ u)

  abbrev K : List Word
  K = J ++ ((suc total ∷ []) ∷ [])

  -- the node records with the path, and with the answer root
  abbrev leafed : ℕ → Node
  leafed = linking (with_path v.node v.nodes q l (a ∷ u)) (root - 1) (v.subgoals + 1)

  abbrev rooted : ℕ → Node
  rooted = updated leafed root (new_root root)

  there : begins S.es (0 ∷ []) ≡ true
  there = trie-root S.es (called_forms t.subgoals) 0 S.forest.calls

  numbering-leafed : Numbering more J
  numbering-leafed = numbering-leaf S.es S.K S.numbering v.node v.nodes 0 0 q l a u w S.tries there S.origin inside st path rest

  numbering-grown : Numbering (after_call S.es total w) K
  numbering-grown = numbering-more more (after_call S.es total w) J ((suc total ∷ []) ∷ []) numbering-leafed (prefixes-root more (suc total) (root-free t S.es w m S.forest))

  tries-leafed : Tries J leafed root
  tries-leafed = tries-leaf S.es S.K S.numbering v.node v.nodes 0 0 q l a u w S.tries there S.origin inside st path rest (v.subgoals + 1)

  rooted-kept : (i : ℕ) → i < root → rooted i ≡ leafed i
  rooted-kept i h = updated-other leafed root (new_root root) i (λ e. omega arith)

  tries-grown : Tries K rooted (root + 1)
  tries-grown = tries-count _ _ (suc root) (root + 1) (omega arith)
      (tries-root J leafed rooted root (suc total) tries-leafed rooted-kept (updated-here leafed root (new_root root)))

  pub nodes-grown : nodes (with_subgoal t w m) ≡ v.nodes + length (a ∷ u) + 1
  nodes-grown = sym (forest-call t S.es w m S.forest).count ∙ sym numbering-grown.count ∙ tries-grown.keys

  key-leafed : (i : ℕ) → i < root → key K i ≡ key J i
  key-leafed i h = get_or-append J ((suc total ∷ []) ∷ []) [] i (omega (arith, tries-leafed.keys))

  key-grown : (i : ℕ) → i < v.nodes → key K i ≡ key S.K i
  key-grown i h = key-leafed i (omega arith) ∙ get_or-append S.K (longer (key S.K q) (a ∷ u)) [] i (omega (arith, S.tries.keys))

  next-number : v.subgoals + 1 ≡ suc total
  next-number = omega (arith, S.subgoals)

  links-leafed : Links J leafed root (link_of grown)
  links-leafed = links-leaf S.es S.K S.numbering v.node v.nodes 0 0 q l a u w S.tries there S.origin inside st path rest (link_of t) (link_of grown) (v.subgoals + 1)
      S.links (link-none c laws t v S) (λ y. link_of-call t w m y absent ∙ rw next-number)

  links-grown : Links K rooted (root + 1) (link_of grown)
  links-grown i h =
      links-root J leafed rooted root (link_of grown) (suc total) tries-leafed.keys unlinked rooted-kept (updated-here leafed root (new_root root)) links-leafed i (omega arith)
    where
      unlinked : link_of grown (suc total ∷ []) ≡ 0
      unlinked = unfold link_of in answer_of-none grown (suc total) [] (rw (S.forest.unanswered (suc total) (omega arith)) (unfold has in refl))

  -- a new key begins the new form
  begins-new : (b : ℕ) (y : Word) → begins (called_forms t.subgoals) (b ∷ y) ≡ false → has K (0 ∷ b ∷ y) ≡ true → starts (b ∷ y) w ≡ true
  begins-new b y e h =
      let k : begins (called_forms grown.subgoals) (b ∷ y) ≡ true =
      sym (trie-has (after_call S.es total w) (called_forms grown.subgoals) 0 (forest-call t S.es w m S.forest).calls b y) ∙ sym (numbering-grown.members (0 ∷ b ∷ y)) ∙ h in
      begins-last (called_forms t.subgoals) w (b ∷ y) e (rw (called_forms-snoc t.subgoals (record { form = w; m = m; state = Open })) at k)

  firsts-grown : Firsts grown K
  firsts-grown =
      let assoc : K ≡ S.K ++ (longer (key S.K q) (a ∷ u) ++ ((suc total ∷ []) ∷ [])) = append_assoc S.K (longer (key S.K q) (a ∷ u)) ((suc total ∷ []) ∷ []) in
      subst (Firsts grown) (sym assoc)
      (firsts_more t grown S.K _ (subst Different assoc numbering-grown.different) (subgoal-keys c t v S) (λ y e. lowest-old t w m y e)
      (λ b y e h. lowest-new t w m (b ∷ y) e (begins-new b y e (rw assoc h)))
      S.firsts)

  -- an old record says the same of the new forest
  last-grown : (s first last : ℕ) → LastSame t s first last → LastSame grown s first last
  unfolding answer_at
  last-grown s first last (no_last p z) = no_last p z
  last-grown s first last (some-last p z y x) = some-last p z y x

  subgoal-grown : (s : ℕ) (g : Subgoal) → s ≤ total → SubgoalSame t S.K v.nodes s g → SubgoalSame grown K (root + 1) s g
  unfolding answer_at
  subgoal-grown s g h o = record {
    leaf-in = omega (arith, o.leaf-in);
    leaf-key = key-grown g.leaf o.leaf-in ∙ o.leaf-key ∙ rw (subgoal_at-before t w m s h);
    root_in = omega (arith, o.root_in);
    root-key = key-grown g.root o.root_in ∙ o.root-key;
    root-next = o.root-next;
    variables = o.variables ∙ rw (subgoal_at-before t w m s h);
    state = o.state ∙ rw (subgoal_at-before t w m s h);
    first = o.first;
    last = last-grown s _ _ o.last;
  }

  answer-grown : (b : ℕ) (y : Answer) → AnswerSame t S.K v.nodes b y → AnswerSame grown K (root + 1) b y
  unfolding answer_at
  answer-grown b y o = record { leaf-in = omega (arith, o.leaf-in); leaf-key = key-grown y.leaf o.leaf-in ∙ o.leaf-key; subgoal = o.subgoal; next = o.next }

  -- nothing answers the new subgoal yet
  unanswered : later t 0 (suc total) ≡ 0
  unanswered = by_cases (eqb (later t 0 (suc total)) 0)
      (λ e. eqb-true _ _ e)
      (λ e. let f = after-found (subgoal_of_answer t) (suc (length t.answers)) 0 (suc total) (eqb-false _ _ e) in
      let o = S.sound.kept.answered (later t 0 (suc total)) f.above (omega (arith, f.below)) in
      absurd (omega (arith, o.1, f.under)))

  subgoal-entered : SubgoalSame grown K (root + 1) (suc total) (new_subgoal (root - 1) root m)
  unfolding answer_at
  subgoal-entered = record {
    leaf-in = omega arith;
    leaf-key = key-leafed (root - 1) (omega arith)
        ∙ leaf-key S.es S.K S.numbering v.node v.nodes 0 0 q l a u w S.tries there S.origin inside st path rest ∙ rw (subgoal_at-new t w m);
    root_in = omega arith;
    root-key = get_or_at J (suc total ∷ []) [] [] root tries-leafed.keys;
    root-next = omega arith;
    variables = rw (subgoal_at-new t w m);
    state = rw (subgoal_at-new t w m);
    first = sym unanswered;
    last = no_last refl refl;
  }

  same-called : FormEnters c t w m → Same c (with_subgoal t w m) (changed_view v (enters_subgoal q l (a ∷ u) m))
  unfolding changed_view
  same-called e = record {
    es = after_call S.es total w;
    forest = forest-call t S.es w m S.forest;
    K = K;
    numbering = numbering-grown;
    tries = tries-grown;
    links = links-grown;
    firsts = firsts-grown;
    origin = key-grown 0 S.some ∙ S.origin;
    some = omega arith;
    N-same = S.N-same;
    F-same = S.F-same;
    A-same = S.A-same;
    sound = sound-subgoal c laws t S.sound w m e;
    subgoals = next-number ∙ sym (subgoals-count t w m);
    answers = S.answers;
    subgoal = λ s h k. by_cases (eqb s (v.subgoals + 1))
        (λ z. let x : s ≡ suc total = eqb-true _ _ z ∙ next-number in rw (z, x) subgoal-entered)
        (λ z. let x : s ≤ total = before s k (eqb-false _ _ z) in rw z (subgoal-grown s (v.subgoal s) x (S.subgoal s h x)));
    answer = λ b h k. answer-grown b (v.answer b) (S.answer b h k);
  }
    where
      before : (s : ℕ) → s ≤ length grown.subgoals → (s ≡ v.subgoals + 1 → ⊥) → s ≤ total
      before s k ne = omega (arith, subgoals-count t w m, S.subgoals)

  pub called-entered : FormEnters c t w m → Agrees c v [] (becomes (with_subgoal t w m) (new (suc (length t.subgoals)))) (enters_subgoal q l (a ∷ u) m)
  unfolding reply out_after
  called-entered e = record {
    fits = subgoal-fits q l (a ∷ u) m inside (stop-inside v.node v.nodes q l inside st) (omega arith) (omega (arith, nodes-grown, e.room, S.N-same)) (omega (arith, e.free, S.subgoals, S.F-same));
    replies = λ after. ap new next-number;
    leaves = refl;
    same = same-called e;
  }

-- ---- the call

module _ (c : Coding) (laws : CodingLaws c) (t : Table) (v : View) (S : Same c t v) where
  -- the form is there
  called-old : (w : Word) (m j : ℕ) → j < v.nodes → key S.K j ≡ 0 ∷ w → has (called_forms t.subgoals) w ≡ true
      → Agrees c v [] (table.called t (accepted w m)) (called_at v (whole j) m)
  unfolding table.called called_at called_old
  called-old w m j hj k e =
      let p = subgoal_of-some t w e in
      let s : ℕ = subgoal_of t w in
      let g = S.subgoal s p.low p.high in
      let at_leaf : (v.subgoal s).leaf ≡ j =
      different c laws t v S (v.subgoal s).leaf j (omega (arith, g.leaf-in, S.tries.keys)) (omega (arith, S.tries.keys)) (g.leaf-key ∙ rw p.form (sym k)) in
      rw (
        link-called c laws t v S j w hj k,
        ne_eqb s 0 (λ z. omega (arith, p.low)),
        lt-ltb 0 s p.low,
        subgoal-judged c laws t v S s p.low p.high,
        at_leaf,
        eq-eqb j j refl,
        subgoal-state c laws t v S s p.low p.high,
      )
      (agrees-says c t v S [] (old_subgoal s (subgoal_at t s).state))

  -- a form that the walk finds whole is there
  pub called-held : (w : Word) (m : ℕ) → Fit c w m → (j : ℕ) → j < v.nodes → key S.K j ≡ 0 ∷ w → has (called_forms t.subgoals) w ≡ true
  called-held [] m e j h k = let z = laws.legal-some 0 [] e.0 in absurd (omega arith)
  called-held (a ∷ w) m e j h k =
      let begun : begins (called_forms t.subgoals) (a ∷ w) ≡ true =
      sym (trie-has S.es (called_forms t.subgoals) 0 S.forest.calls a w) ∙ sym (S.numbering.members (0 ∷ a ∷ w)) ∙ place-has S.K (0 ∷ a ∷ w) j (omega (arith, S.tries.keys)) k in
      let b = begins-witness (called_forms t.subgoals) (a ∷ w) begun in
      let eq : a ∷ w ≡ b.0 = legal-starts c laws 1 (a ∷ w) b.0 e.0 (held-called c laws t S.sound b.0 b.1) b.2 in
      rw eq b.1

  called-new : (w : Word) (m : ℕ) → Fit c w m → (q l a : ℕ) (u : Word) → q < v.nodes → Stop v.node v.nodes q l
      → key S.K q ++ (a ∷ u) ≡ 0 ∷ w → shared S.K (0 ∷ []) w < length w
      → longer (key S.K q) (a ∷ u) ≡ drop (shared S.K (key S.K 0) w) (longer (key S.K 0) w)
      → Agrees c v [] (table.called t (accepted w m)) (called_at v (stopped q l (a ∷ u)) m)
  unfolding table.called appended table.fits called_at called_new
  called-new w m e q l a u h st path less rest =
      let absent : has (called_forms t.subgoals) w ≡ false = trie-lacks S.es (called_forms t.subgoals) 0 S.forest.calls w (rw (← (shared-members S.K (prefixes S.es) S.numbering.members (0 ∷ []) w)) less) in
      let count : nodes (with_subgoal t w m) ≡ v.nodes + length (a ∷ u) + 1 = nodes-grown c laws t v S w m q l a u h st path rest absent in
      rw (subgoal_of-none t w absent)
      (agrees-pick c v [] (leb (nodes (with_subgoal t w m)) t.N) (leb (v.nodes + length (a ∷ u) + 1) v.N) _ _ _ _ (rw (count, S.N-same))
      (λ z. agrees-pick c v [] (ltb (length t.subgoals) t.F) (ltb v.subgoals v.F) _ _ _ _ (rw (S.subgoals, S.F-same))
      (λ y. called-entered c laws t v S w m q l a u h st path rest absent (record { fit = e; absent = absent; room = leb-true _ _ z; free = ltb-true _ _ y }))
      (λ y. agrees-says c t v S [] (refused 11)))
      (λ z. agrees-says c t v S [] (refused 10)))

  called-walked : (w : Word) (m : ℕ) → Fit c w m → {x : Walk} → Walked S.K v.node v.nodes 0 w x
      → Agrees c v [] (table.called t (accepted w m)) (called_at v x m)
  called-walked w m e (ends j h k) = called-old w m j h (k ∙ rw S.origin) (called-held w m e j h (k ∙ rw S.origin))
  called-walked w m e (stops q l a u h st path less rest) = called-new w m e q l a u h st (path ∙ rw S.origin) (rw S.origin at less) rest

  -- a form of one legal term enters, whoever read it
  pub form-agrees : (w : Word) (m : ℕ) → Fit c w m → Agrees c v [] (table.called t (accepted w m)) (decisions.called v (accepted w m))
  form-agrees w m e = unfold decisions.called_by in called-walked w m e (walked_call c laws t v S w)

  called-says : (r : ℕ) → Agrees c v [] (table.called t (refused r)) (decisions.called v (refused r))
  unfolding table.called decisions.called_by
  called-says r = agrees-says c t v S [] (refused r)

  called-read : (ks : List ℕ) (x : Reading) → c.called ks ≡ x → Agrees c v [] (table.called t x) (decisions.called v x)
  called-read ks (refused r) e = called-says r
  called-read ks (accepted w m) e = form-agrees w m (called-fit c laws ks w m e)

  pub call-agrees : (ks : List ℕ) (x : ℕ) → Agrees c v [] (step c t (call_least ks x)) (decide c v (call_least ks x))
  unfolding step decide_by
  call-agrees ks x = naming-cases (λ r. Agrees c v [] (table.called t r) (decisions.called v r)) x (c.called ks) (called-read ks (c.called ks) refl) (called-says 21)
