-- An answer: an old one is found, a new one is entered behind the last of its subgoal, as in the plain table.
use mathlib.Core.Path.{◌≡◌, refl, sym, ap, ◌∙◌, subst}
use mathlib.Core.Bool.{true, false, true≢false}
use mathlib.Core.List.{List, [], ◌∷◌, ◌++◌, append-nil}
use Prim.Native.Nat.{ℕ, zero, suc, ◌+◌, ◌-◌, ◌≤◌, ◌<◌}
use native.Mathlib.Omega.{arith}
use lib.Dec.{eqb, leb, ltb}
use lib.ListN.{length, drop, get_or-append}
use borrow.Author.Tests.{eqb-true, eqb-false, eq-eqb, ne_eqb, ltb-true, ltb-false, leb-true}
use Rattle.basis.specs.Choice.{pick}
use Rattle.basis.proofs.Cases.{by_cases}
use Rattle.plain.specs.Words.{Word, has, prefixes}
use Rattle.plain.specs.Coding.{Coding, Reading, refused, accepted}
use Rattle.plain.specs.CodingLaws.{CodingLaws}
use Rattle.plain.specs.Requests.{State, Open, Finished, answer, new, old_answer, refused, Result}
use Rattle.plain.specs.Table as table
use Rattle.plain.specs.Table.{Table, subgoal_at, answer_at, subgoal_of_answer, called_forms, answers_to, nodes, answer_of, after, with_answer, with_entry, becomes, appended, step}
use Rattle.plain.proofs.PrefixLaws.{begins, longer, shared, begins-witness}
use Rattle.plain.proofs.Entries.{prefixes-under, trie-root, trie-has, trie-lacks}
use Rattle.plain.proofs.Keys.{key, place-has}
use Rattle.plain.proofs.AfterLaws.{after-old, after-new, after-other, after-low, after_cong, after-least}
use Rattle.plain.proofs.NumberLaws.{answer_of-none, answer_of-some}
use Rattle.plain.proofs.RecordLaws.{answer_at-before, answer_at-new, answers-count, settled-ground, settled-other, entry-nodes}
use Rattle.plain.proofs.LinkLaws.{link_of, link_of-answer}
use Rattle.plain.proofs.Counted.{forest-answer, nodes-answer}
use Rattle.plain.proofs.Changes.{AnswerEnters}
use Rattle.plain.proofs.Soundness.{sound-answer}
use Rattle.plain.proofs.StoredForms.{legal-starts, held-answer}
use Rattle.plain.proofs.ReasonLaws.{lowest-forms}
use Rattle.space.specs.declared.Node.{Node}
use Rattle.space.specs.declared.Subgoal.{Subgoal}
use Rattle.space.specs.declared.Answer.{Answer}
use Rattle.trie.specs.Append.{with_path}
use Rattle.trie.specs.Walks.{Walk, whole, stopped}
use Rattle.store.specs.Views.{View}
use Rattle.store.specs.Decisions as decisions
use Rattle.store.specs.Decisions.{Decision, enters_answer, enters_empty, answered_new, answered_old, answered_at, decide, decide_by}
use Rattle.store.specs.Calls.{reply, out_after}
use Rattle.agreement.specs.Records.{with_next, with_new_answer, changed_view, answer-fits, empty-fits}
use Rattle.agreement.proofs.TrieNodes.{Tries, tries-linked, Stop, stop-inside}
use Rattle.agreement.proofs.TrieWalks.{Walked, ends, stops}
use Rattle.agreement.proofs.Numberings.{Numbering, numbering-kept, shared-members}
use Rattle.agreement.proofs.TrieLinks.{linking, linking-linked, Links, links-linking, numbering-leaf, leaf-key, tries-leaf, links-leaf}
use Rattle.agreement.proofs.FirstChildren.{Firsts, firsts_more}
use Rattle.agreement.proofs.SameRecords.{subgoal-keys, later, LastSame, no_last, some-last, later-some, last-most, SubgoalSame, AnswerSame, Same, different, link-none, link-answered, walked-answer, answer-root-judged, subgoal-judged, subgoal-state, answer-judged, last-judged}
use Rattle.agreement.proofs.Agreeing.{Agrees, agrees-says, agrees-known, agrees-pick, same-finished}

-- ---- a new answer, at a leaf of the nodes with its path

module _ (c : Coding) (t : Table) (v : View) (S : Same c t v) (s : ℕ) (low : 0 < s) (high : s ≤ length t.subgoals) (w : Word) where
  -- the answers so far, the table with the new one, the entries with its form, and the subgoal's record
  abbrev total : ℕ
  total = length t.answers

  abbrev fuller : Table
  fuller = with_answer t s w

  abbrev more : List Word
  more = S.es ++ ((s ∷ w) ∷ [])

  abbrev g : Subgoal
  g = v.subgoal s

  total-more : length fuller.answers ≡ suc total
  total-more = answers-count t s w

  next-number : v.answers + 1 ≡ suc total
  next-number = omega (arith, S.answers)

  -- ---- the answers of a subgoal

  own-before : (b : ℕ) → b < suc total → subgoal_of_answer fuller b ≡ subgoal_of_answer t b
  own-before b h = ap (λ (y : table.Answer). y.subgoal) (answer_at-before t s w b (omega arith))

  form-before : (b : ℕ) → b < suc total → (answer_at fuller b).form ≡ (answer_at t b).form
  form-before b h = ap (λ (y : table.Answer). y.form) (answer_at-before t s w b (omega arith))

  own_new : subgoal_of_answer fuller (suc total) ≡ s
  own_new = ap (λ (y : table.Answer). y.subgoal) (answer_at-new t s w)

  later-kept : (b y : ℕ) → after (subgoal_of_answer fuller) (suc total) b y ≡ later t b y
  later-kept b y = after_cong (subgoal_of_answer fuller) (subgoal_of_answer t) (suc total) b y own-before

  later-count : (b y : ℕ) → later fuller b y ≡ after (subgoal_of_answer fuller) (suc (suc total)) b y
  later-count b y = rw total-more

  later-old : (b y : ℕ) → (later t b y ≡ 0 → ⊥) → later fuller b y ≡ later t b y
  later-old b y h = later-count b y ∙ after-old (subgoal_of_answer fuller) (suc total) b y (λ e. h (sym (later-kept b y) ∙ e)) ∙ later-kept b y

  later-new : (b : ℕ) → later t b s ≡ 0 → b < suc total → later fuller b s ≡ suc total
  later-new b e h = later-count b s ∙ after-new (subgoal_of_answer fuller) (suc total) b s (later-kept b s ∙ e) h own_new

  later-other : (b y : ℕ) → (y ≡ s → ⊥) → later fuller b y ≡ later t b y
  later-other b y h = later-count b y ∙ after-other (subgoal_of_answer fuller) (suc total) b y (λ e. h (sym e ∙ own_new)) ∙ later-kept b y

  later_last : (y : ℕ) → later fuller (suc total) y ≡ 0
  later_last y = later-count (suc total) y ∙ after-low (subgoal_of_answer fuller) (suc (suc total)) (suc total) y (omega arith)

  -- an answer to s that is not the last one has one after it
  followed-by : (b first last : ℕ) → first ≡ later t 0 s → LastSame t s first last → 0 < b → b ≤ total → subgoal_of_answer t b ≡ s → (b ≡ last → ⊥) → later t b s ≡ 0 → ⊥
  followed-by b first last f (no_last p q) h k e ne z = later-some t s b h k e (sym f ∙ p)
  followed-by b first last f (some-last p q y x) h k e ne z = by_cases (ltb b last)
      (λ r. (after-least (subgoal_of_answer t) (suc total) b s last (record { above = ltb-true _ _ r; below = omega arith; under = y })).0 z)
      (λ r. (after-least (subgoal_of_answer t) (suc total) last s b (record { above = over (ltb-false b last r) ne; below = omega arith; under = e })).0 x)
    where
      over : last ≤ b → (b ≡ last → ⊥) → last < b
      over h k = omega arith

  -- ---- the records

  -- the keys with those of the path: L is empty for the empty answer
  module _ (L : List Word) (num : Numbering (S.es ++ ((s ∷ w) ∷ [])) (S.K ++ L)) (nd : ℕ → Node) (n leaf : ℕ) (bigger : v.nodes ≤ n) (inside : leaf < n) (form-key : key (S.K ++ L) leaf ≡ s ∷ w) where
    abbrev K : List Word
    K = S.K ++ L

    abbrev grown : View
    grown = with_new_answer v nd n s leaf

    key-before : (j : ℕ) → j < v.nodes → key K j ≡ key S.K j
    key-before j h = get_or-append S.K L [] j (omega (arith, S.tries.keys))

    record-new : grown.answer (v.answers + 1) ≡ record { leaf = leaf; subgoal = s; next = 0 }
    record-new = rw (eq-eqb (v.answers + 1) (v.answers + 1) refl)

    record-other : (b : ℕ) → b ≤ total → (b ≡ g.last → ⊥) → grown.answer b ≡ v.answer b
    record-other b k ne = rw (ne_eqb b (v.answers + 1) (λ e. omega (arith, S.answers))) (by_cases (eqb g.last 0) (λ e. rw e) (λ e. rw (e, ne_eqb b g.last ne)))

    record-last : 0 < g.last → g.last ≤ total → grown.answer g.last ≡ with_next (v.answer g.last) (v.answers + 1)
    record-last h k = rw (ne_eqb g.last (v.answers + 1) (λ e. omega (arith, S.answers)), ne_eqb g.last 0 (λ e. omega arith), eq-eqb g.last g.last refl)

    answer-new : AnswerSame fuller K n (suc total) (record { leaf = leaf; subgoal = s; next = 0 })
    answer-new = record {
      leaf-in = inside;
      leaf-key = form-key ∙ rw (own_new, answer_at-new t s w);
      subgoal = sym own_new;
      next = sym (later_last (subgoal_of_answer fuller (suc total)));
    }

    -- an old answer, with what follows it now
    answer-kept : (b : ℕ) (y : Answer) (f : ℕ) → b ≤ total → AnswerSame t S.K v.nodes b y → f ≡ later fuller b (subgoal_of_answer t b) → AnswerSame fuller K n b (with_next y f)
    answer-kept b y f k o e =
        let own = own-before b (omega arith) in
        record {
          leaf-in = omega (arith, o.leaf-in);
          leaf-key = key-before y.leaf o.leaf-in ∙ o.leaf-key ∙ rw (own, form-before b (omega arith));
          subgoal = o.subgoal ∙ sym own;
          next = e ∙ rw own;
        }

    answer-last : LastSame t s g.first g.last → 0 < g.last → AnswerSame fuller K n g.last (grown.answer g.last)
    answer-last (no_last p q) h = absurd (omega arith)
    answer-last (some-last p q y x) h = rw (record-last p q)
        (answer-kept g.last (v.answer g.last) (v.answers + 1) q (S.answer g.last p q)
        (next-number ∙ sym (ap (λ (z : ℕ). later fuller g.last z) y ∙ later-new g.last x (omega arith))))

    answers-same : (b : ℕ) → 0 < b → b ≤ length fuller.answers → AnswerSame fuller K n b (grown.answer b)
    answers-same b h k = by_cases (ltb total b)
        (λ z. let e : b ≡ suc total = newest b k (ltb-true total b z) in rw (e, ← next-number, record-new, next-number) answer-new)
        (λ z. let le : b ≤ total = ltb-false total b z in
        let o = S.answer b h le in
        let sg = S.subgoal s low high in
        by_cases (eqb b g.last)
        (λ y. let e : b ≡ g.last = eqb-true b g.last y in rw e (answer-last sg.last (rw (← e) h)))
        (λ y. rw (record-other b le (eqb-false _ _ y))
        (answer-kept b (v.answer b) (v.answer b).next le o (o.next ∙ sym (by_cases (eqb (subgoal_of_answer t b) s)
        (λ x. let e : subgoal_of_answer t b ≡ s = eqb-true _ _ x in
        later-old b (subgoal_of_answer t b) (λ q. followed-by b g.first g.last sg.first sg.last h le e (eqb-false _ _ y) (rw e at q)))
        (λ x. later-other b (subgoal_of_answer t b) (eqb-false _ _ x)))))))
      where
        newest : (b : ℕ) → b ≤ length fuller.answers → total < b → b ≡ suc total
        newest b k l = omega (arith, total-more)

    first-new : (first last : ℕ) → first ≡ later t 0 s → LastSame t s first last → pick (eqb last 0) (v.answers + 1) first ≡ later fuller 0 s
    first-new first last e (no_last p q) = rw (eq-eqb last 0 q) (next-number ∙ sym (later-new 0 (sym e ∙ p) (omega arith)))
    first-new first last e (some-last p q y x) = rw (ne_eqb last 0 (λ z. omega arith)) (e ∙ sym (later-old 0 s (later-some t s last p q y)))

    last-kept : (b first last : ℕ) → (b ≡ s → ⊥) → LastSame t b first last → LastSame fuller b first last
    last-kept b first last ne (no_last p q) = no_last p q
    last-kept b first last ne (some-last p q y x) = some-last p (omega (arith, total-more)) (own-before last (omega arith) ∙ y) (later-other last b ne ∙ x)

    last-new : (first : ℕ) → LastSame fuller s first (v.answers + 1)
    last-new first = rw next-number (some-last (omega arith) (omega (arith, total-more)) own_new (later_last s))

    -- a subgoal, with its first and last answers as they are now
    subgoal-kept : (b : ℕ) (y : Subgoal) (first last : ℕ) → SubgoalSame t S.K v.nodes b y → first ≡ later fuller 0 b → LastSame fuller b first last
        → SubgoalSame fuller K n b (record { leaf = y.leaf; root = y.root; variables = y.variables; state = y.state; first = first; last = last })
    unfolding subgoal_at
    subgoal-kept b y first last o f l = record {
      leaf-in = omega (arith, o.leaf-in);
      leaf-key = key-before y.leaf o.leaf-in ∙ o.leaf-key;
      root_in = omega (arith, o.root_in);
      root-key = key-before y.root o.root_in ∙ o.root-key;
      root-next = o.root-next;
      variables = o.variables;
      state = o.state;
      first = f;
      last = l;
    }

    subgoals-same : (b : ℕ) → 0 < b → b ≤ length t.subgoals → SubgoalSame fuller K n b (grown.subgoal b)
    subgoals-same b h k = by_cases (eqb b s)
        (λ e. let q : b ≡ s = eqb-true b s e in
        let o = S.subgoal s low high in
        rw (e, q) (subgoal-kept s g _ (v.answers + 1) o (first-new g.first g.last o.first o.last) (last-new _)))
        (λ e. let o = S.subgoal b h k in
        rw e (subgoal-kept b (v.subgoal b) (v.subgoal b).first (v.subgoal b).last o (o.first ∙ sym (later-other 0 b (eqb-false b s e))) (last-kept b _ _ (eqb-false b s e) o.last)))

    firsts-answered : Firsts fuller K
    firsts-answered = firsts_more t fuller S.K L num.different (subgoal-keys c t v S) (λ y e. lowest-forms fuller t refl y)
        (λ b y e h. absurd (true≢false (sym (sym (trie-has (S.es ++ ((s ∷ w) ∷ [])) (called_forms t.subgoals) 0 (forest-answer t S.es s w S.forest low high).calls b y) ∙ sym (num.members (0 ∷ b ∷ y)) ∙ h) ∙ e)))
        S.firsts

    same-answered : CodingLaws c → AnswerEnters c t s w → Tries K (linking nd leaf (v.answers + 1)) n → Links K (linking nd leaf (v.answers + 1)) n (link_of fuller)
        → Same c fuller (with_new_answer v nd n s leaf)
    same-answered laws e tries links = record {
      es = more;
      forest = forest-answer t S.es s w S.forest low high;
      K = K;
      numbering = num;
      tries = tries;
      links = links;
      firsts = firsts-answered;
      origin = key-before 0 S.some ∙ S.origin;
      some = omega (arith, S.some);
      N-same = S.N-same;
      F-same = S.F-same;
      A-same = S.A-same;
      sound = sound-answer c laws t S.sound s w e;
      subgoals = S.subgoals;
      answers = next-number ∙ sym total-more;
      subgoal = subgoals-same;
      answer = answers-same;
    }

-- ---- the answer

module _ (c : Coding) (laws : CodingLaws c) (t : Table) (v : View) (S : Same c t v) (s : ℕ) (low : 0 < s) (high : s ≤ length t.subgoals) where
  there : begins S.es (s ∷ []) ≡ true
  there = trie-root S.es (answers_to t.answers s) s (S.forest.replies s low high)

  last-in : (v.subgoal s).last ≤ v.answers
  last-in = rw S.answers (last-most t s _ _ (S.subgoal s low high).last)

  -- the form is there
  answered-old : (w : Word) (m j : ℕ) → j < v.nodes → key S.K j ≡ s ∷ w → has (answers_to t.answers s) w ≡ true
      → Agrees c v [] (table.answered t s (accepted w m)) (answered_at v s w (whole j))
  unfolding table.answered answered_at answered_old
  answered-old w m j h k e =
      let p = answer_of-some t s w e in
      let b : ℕ = answer_of t s w in
      let o = S.answer b p.low p.high in
      let at_leaf : (v.answer b).leaf ≡ j =
      different c laws t v S (v.answer b).leaf j (omega (arith, o.leaf-in, S.tries.keys)) (omega (arith, S.tries.keys)) (o.leaf-key ∙ rw (p.subgoal, p.form) (sym k)) in
      rw (link-answered c laws t v S s low j w h k, ne_eqb b 0 (λ z. omega (arith, p.low)), answer-judged c laws t v S b p.low p.high, at_leaf, eq-eqb j j refl)
      (agrees-says c t v S [] (old_answer b))

  -- a form that the walk finds whole is there, unless it is empty
  pub answered-held : (a : ℕ) (w : Word) (m : ℕ) (ks : List ℕ) → c.answered (subgoal_at t s).m ks ≡ accepted (a ∷ w) m → (j : ℕ) → j < v.nodes → key S.K j ≡ s ∷ a ∷ w
      → has (answers_to t.answers s) (a ∷ w) ≡ true
  answered-held a w m ks e j h k =
      let begun : begins (answers_to t.answers s) (a ∷ w) ≡ true =
      sym (trie-has S.es (answers_to t.answers s) s (S.forest.replies s low high) a w) ∙ sym (S.numbering.members (s ∷ a ∷ w)) ∙ place-has S.K (s ∷ a ∷ w) j (omega (arith, S.tries.keys)) k in
      let b = begins-witness (answers_to t.answers s) (a ∷ w) begun in
      let eq : a ∷ w ≡ b.0 = legal-starts c laws (subgoal_at t s).m (a ∷ w) b.0 (laws.answered-legal (subgoal_at t s).m ks (a ∷ w) m e) (held-answer c laws t S.sound s b.0 b.1) b.2 in
      rw eq b.1

  open-agrees : (x : State) (r : Result Table) (d : Decision) → (x ≡ Open → Agrees c v [] r d) → Agrees c v [] (table.while_open t x r) (decisions.while_open x d)
  open-agrees Open r d f = f refl
  open-agrees Finished r d f = agrees-says c t v S [] (refused 8)

  -- a form that is not there, with so many nodes more
  appended-agrees : (w : Word) (m : ℕ) (ks : List ℕ) → c.answered (subgoal_at t s).m ks ≡ accepted w m → has (answers_to t.answers s) w ≡ false → (k : ℕ) (d : Decision) → nodes (with_answer t s w) ≡ v.nodes + k
      → (AnswerEnters c t s w → Agrees c v [] (becomes (with_entry t s w) (new (suc (length t.answers)))) d)
      → Agrees c v [] (table.answered t s (accepted w m)) (answered_new v s k d)
  unfolding table.answered appended table.fits answered_new
  appended-agrees w m ks e absent k d count f =
      rw (answer_of-none t s w absent, last-judged c laws t v S s low high, subgoal-state c laws t v S s low high)
      (open-agrees (subgoal_at t s).state _ _ (λ is_open.
      agrees-pick c v [] (leb (nodes (with_entry t s w)) t.N) (leb (v.nodes + k) v.N) _ _ _ _ (rw (entry-nodes t s w low, count, S.N-same))
      (λ z. agrees-pick c v [] (ltb (length t.answers) t.A) (ltb v.answers v.A) _ _ _ _ (rw (S.answers, S.A-same))
      (λ y. let r : nodes (with_entry t s w) ≤ t.N = leb-true _ _ z in
      f (record { low = low; high = high; cs = ks; n = m; reading = e; absent = absent; room = omega (arith, entry-nodes t s w low); free = ltb-true _ _ y }))
      (λ y. agrees-says c t v S [] (refused 11)))
      (λ z. agrees-says c t v S [] (refused 10))))

  -- ---- the empty answer, at the root

  keys-empty : prefixes (S.es ++ ((s ∷ []) ∷ [])) ≡ prefixes S.es
  unfolding longer shared
  keys-empty = prefixes-under S.es s [] there ∙ append-nil (prefixes S.es)

  nodes-empty : nodes (with_answer t s []) ≡ v.nodes + 0
  nodes-empty = sym (nodes-answer t S.es s [] S.forest low high) ∙ ap length keys-empty ∙ sym S.numbering.count ∙ S.tries.keys ∙ omega arith

  module _ (e : AnswerEnters c t s []) where
    abbrev root : ℕ
    root = (v.subgoal s).root

    same-empty : Same c (with_answer t s []) (with_new_answer v v.node v.nodes s root)
    same-empty =
        let o = S.subgoal s low high in
        let none : S.K ++ [] ≡ S.K = append-nil S.K in
        same-answered c t v S s low high [] [] (rw none (numbering-kept S.es (S.es ++ ((s ∷ []) ∷ [])) S.K S.numbering keys-empty))
        v.node v.nodes root (omega arith) o.root_in (rw none o.root-key) laws e
        (rw none (tries-linked S.K v.node _ v.nodes S.tries (linking-linked v.node v.nodes root (v.answers + 1))))
        (rw none (λ i b. links-linking S.K v.node v.nodes (link_of t) root (v.answers + 1) S.tries.keys S.numbering.different o.root_in S.links i b
        ∙ rw (o.root-key, next-number c t v S s low high []) (sym (link_of-answer t s [] (key S.K i) low e.absent))))

    -- a subgoal that has an empty answer has no variables
    no-variables : (subgoal_at t s).m ≡ 0
    no-variables = none_of (subgoal_at t s).m (laws.answered-legal (subgoal_at t s).m e.cs [] e.n e.reading)
      where
        none_of : (m : ℕ) → c.legal m [] ≡ true → m ≡ 0
        none_of zero h = refl
        none_of (suc m) h = absurd (omega (arith, laws.legal-some m [] h))

    empty-entered : Agrees c v [] (becomes (with_entry t s []) (new (suc (length t.answers)))) (enters_empty s)
    unfolding reply out_after changed_view
    empty-entered = rw (settled-ground (with_answer t s []) s (unfold subgoal_at in no-variables)) (record {
      fits = empty-fits s low (omega (arith, S.subgoals)) last-in (S.subgoal s low high).root_in (omega (arith, e.free, S.answers, S.A-same));
      replies = λ after. ap new (next-number c t v S s low high []);
      leaves = refl;
      same = same-finished c (with_answer t s []) (with_new_answer v v.node v.nodes s root) same-empty s low high;
    })

  answered-empty : (m : ℕ) (ks : List ℕ) → c.answered (subgoal_at t s).m ks ≡ accepted [] m → (j : ℕ) → j < v.nodes → key S.K j ≡ s ∷ [] → has (answers_to t.answers s) [] ≡ false
      → Agrees c v [] (table.answered t s (accepted [] m)) (answered_at v s [] (whole j))
  unfolding answered_at answered_old
  answered-empty m ks e j h k absent =
      rw (link-answered c laws t v S s low j [] h k, answer_of-none t s [] absent) (appended-agrees [] m ks e absent 0 (enters_empty s) nodes-empty empty-entered)

  answered-whole : (w : Word) (m : ℕ) (ks : List ℕ) → c.answered (subgoal_at t s).m ks ≡ accepted w m → (j : ℕ) → j < v.nodes → key S.K j ≡ s ∷ w
      → Agrees c v [] (table.answered t s (accepted w m)) (answered_at v s w (whole j))
  answered-whole [] m ks e j h k = by_cases (has (answers_to t.answers s) [])
      (λ z. answered-old [] m j h k z)
      (λ z. answered-empty m ks e j h k z)
  answered-whole (a ∷ w) m ks e j h k = answered-old (a ∷ w) m j h k (answered-held a w m ks e j h k)

  -- ---- a path more, where the walk stopped

  module _ (w : Word) (q l a : ℕ) (u : Word) (inside : q < v.nodes) (st : Stop v.node v.nodes q l)
      (path : key S.K q ++ (a ∷ u) ≡ s ∷ w)
      (rest : longer (key S.K q) (a ∷ u) ≡ drop (shared S.K (key S.K (v.subgoal s).root) w) (longer (key S.K (v.subgoal s).root) w)) where
    abbrev last : ℕ
    last = v.nodes + length (a ∷ u) - 1

    root-key : key S.K (v.subgoal s).root ≡ s ∷ []
    root-key = (S.subgoal s low high).root-key

    abbrev L : List Word
    L = longer (key S.K q) (a ∷ u)

    numbering-new : Numbering (S.es ++ ((s ∷ w) ∷ [])) (S.K ++ L)
    numbering-new = numbering-leaf S.es S.K S.numbering v.node v.nodes s (v.subgoal s).root q l a u w S.tries there root-key inside st path rest

    tries-more : Tries (S.K ++ L) (linking (with_path v.node v.nodes q l (a ∷ u)) last (v.answers + 1)) (v.nodes + length (a ∷ u))
    tries-more = tries-leaf S.es S.K S.numbering v.node v.nodes s (v.subgoal s).root q l a u w S.tries there root-key inside st path rest (v.answers + 1)

    pub nodes-more : nodes (with_answer t s w) ≡ v.nodes + length (a ∷ u)
    nodes-more = sym (nodes-answer t S.es s w S.forest low high) ∙ sym numbering-new.count ∙ tries-more.keys

    some-variables : 0 < length w → AnswerEnters c t s w → (subgoal_at t s).m ≡ 0 → ⊥
    some-variables some e z =
        let n : w ≡ [] = laws.legal-empty w (subst (λ (m : ℕ). c.legal m w ≡ true) z (laws.answered-legal (subgoal_at t s).m e.cs w e.n e.reading)) in
        omega (arith, ap length n)

    path-entered : 0 < length w → AnswerEnters c t s w → Agrees c v [] (becomes (with_entry t s w) (new (suc (length t.answers)))) (enters_answer s q l (a ∷ u))
    unfolding reply out_after changed_view
    path-entered some e = rw (settled-other (with_answer t s w) s (unfold subgoal_at in some-variables some e)) (record {
      fits = answer-fits s q l (a ∷ u) low (omega (arith, S.subgoals)) last-in inside (stop-inside v.node v.nodes q l inside st) (omega arith)
          (omega (arith, nodes-more, e.room, S.N-same)) (omega (arith, e.free, S.answers, S.A-same));
      replies = λ after. ap new (next-number c t v S s low high w);
      leaves = refl;
      same = same-answered c t v S s low high w L numbering-new (with_path v.node v.nodes q l (a ∷ u)) (v.nodes + length (a ∷ u)) last (omega arith) (omega arith)
          (leaf-key S.es S.K S.numbering v.node v.nodes s (v.subgoal s).root q l a u w S.tries there root-key inside st path rest) laws e tries-more
          (links-leaf S.es S.K S.numbering v.node v.nodes s (v.subgoal s).root q l a u w S.tries there root-key inside st path rest (link_of t) (link_of (with_answer t s w)) (v.answers + 1)
          S.links (link-none c laws t v S) (λ y. link_of-answer t s w y low e.absent ∙ rw (next-number c t v S s low high w)));
    })

    answered-new : (m : ℕ) (ks : List ℕ) → c.answered (subgoal_at t s).m ks ≡ accepted w m → shared S.K (s ∷ []) w < length w
        → Agrees c v [] (table.answered t s (accepted w m)) (answered_at v s w (stopped q l (a ∷ u)))
    unfolding answered_at
    answered-new m ks e less =
        let absent : has (answers_to t.answers s) w ≡ false = trie-lacks S.es (answers_to t.answers s) s (S.forest.replies s low high) w (rw (← (shared-members S.K (prefixes S.es) S.numbering.members (s ∷ []) w)) less) in
        appended-agrees w m ks e absent (length (a ∷ u)) (enters_answer s q l (a ∷ u)) nodes-more (path-entered (omega arith))

  answered-walked : (w : Word) (m : ℕ) (ks : List ℕ) → c.answered (subgoal_at t s).m ks ≡ accepted w m → {x : Walk} → Walked S.K v.node v.nodes (v.subgoal s).root w x
      → Agrees c v [] (table.answered t s (accepted w m)) (answered_at v s w x)
  answered-walked w m ks e (ends j h k) = answered-whole w m ks e j h (k ∙ rw (S.subgoal s low high).root-key)
  answered-walked w m ks e (stops q l a u h st path less rest) =
      answered-new w q l a u h st (path ∙ rw (S.subgoal s low high).root-key) rest m ks e (rw (S.subgoal s low high).root-key at less)

  pub answered-read : (ks : List ℕ) (x : Reading) → c.answered (subgoal_at t s).m ks ≡ x → Agrees c v [] (table.answered t s x) (decisions.answered v s x)
  answered-read ks (refused r) e = unfold table.answered decisions.answered_by in agrees-says c t v S [] (refused r)
  answered-read ks (accepted w m) e = unfold decisions.answered_by in answered-walked w m ks e (walked-answer c laws t v S s low high w)

module _ (c : Coding) (laws : CodingLaws c) (t : Table) (v : View) (S : Same c t v) where
  pub answer-agrees : (s : ℕ) (ks : List ℕ) → Agrees c v [] (step c t (answer s ks)) (decide c v (answer s ks))
  unfolding step decide_by
  answer-agrees s ks = agrees-known c t v S [] (length t.subgoals) v.subgoals s _ _ S.subgoals (λ low high.
      rw (subgoal-judged c laws t v S s low high, answer-root-judged c laws t v S s low high, (S.subgoal s low high).variables)
      (answered-read c laws t v S s low high ks (c.answered (subgoal_at t s).m ks) refl))
