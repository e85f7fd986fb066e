-- A whole space holds the records of the table that it says.
use Prim.Native.Nat.{ℕ, zero, suc, ◌≤◌, ◌<◌}
use mathlib.Core.Path.{◌≡◌, refl, sym, ap, ◌∙◌, subst}
use mathlib.Core.Bool.{true}
use mathlib.Core.List.{List, [], ◌∷◌}
use native.Mathlib.Omega.{arith}
use lib.Dec.{eqb}
use lib.ListN.{length}
use borrow.Author.Tests.{eqb-true, eqb-false}
use Rattle.basis.proofs.Cases.{by_cases}
use Rattle.plain.specs.Words.{Word, has}
use Rattle.forms.specs.Numbering.{met}
use Rattle.plain.specs.Coding.{Coding}
use Rattle.plain.specs.CodingLaws.{CodingLaws}
use Rattle.plain.specs.Table.{Table, Subgoal, Answer, subgoal_at, answer_at, subgoal_of_answer, called_forms, answers_to, nodes, after, subgoal_of, answer_of}
use Rattle.plain.specs.Consequences.{Kept}
use Rattle.plain.proofs.Entries.{trie-has}
use Rattle.plain.proofs.Keys.{key}
use Rattle.plain.proofs.NumberLaws.{subgoal_of-none, answer_of-none}
use Rattle.plain.proofs.LinkLaws.{link_of}
use Rattle.plain.proofs.Soundness.{Fit}
use Rattle.trie.specs.Paths.{longest}
use Rattle.trie.proofs.PathLaws.{Within, gather-within}
use Rattle.store.specs.Views.{View, subgoal_trie}
use Rattle.store.specs.Decisions.{state_of}
use Rattle.agreement.specs.Whole.{word_of, subgoal_path, answer_path, table_read, ReadingAgain}
use Rattle.agreement.proofs.RisingChains.{after-above}
use Rattle.agreement.proofs.TrieLinks.{Links}
use Rattle.agreement.proofs.FirstChildren.{Firsts}
use Rattle.agreement.proofs.FirstLeaves.{test-firsts}
use Rattle.agreement.proofs.SameRecords.{later, state_cell, LastSame, no_last, some-last, SubgoalSame, AnswerSame, Same}
use Rattle.agreement.proofs.Callables.{Callable}
use Rattle.agreement.proofs.WholeTests.{Leads, to-subgoal, to-answer, LastFacts, none_last, has_last, Whole}
use Rattle.agreement.proofs.WholeKeys.{keys_up, keys_length, whole-tries, whole-different}
use Rattle.agreement.proofs.WholeTable.{subgoals-length, answers-length, subgoal-at, answer_at_lem, owner_at, whole-origin, leaf-in, leaf-key, root-key, answer-key, called-differ, given-differ, called-has, given-has, called-by, given_by}
use Rattle.agreement.proofs.WholeForest.{entries, whole-numbering}

state-read : (x : ℕ) → x ≤ 1 → x ≡ state_cell (state_of x)
state-read zero h = refl
state-read (suc zero) h = refl
state-read (suc (suc x)) h = absurd (omega arith)

module _ (c : Coding) (laws : CodingLaws c) (again : ReadingAgain c) (v : View) (W : Whole c v) (some : 0 < v.nodes)
    (nodes-room : v.nodes ≤ v.N) (subgoals-room : v.subgoals ≤ v.F) (answers-room : v.answers ≤ v.A) where
  abbrev t : Table
  t = table_read v

  abbrev K : List Word
  K = keys_up v v.nodes

  pos : (k : ℕ) → (k ≡ 0 → ⊥) → 0 < k
  pos k h = omega arith

  sub_low : (s : ℕ) → s ≤ length t.subgoals → s ≤ v.subgoals
  sub_low s h = omega (arith, subgoals-length v)

  ans-low : (a : ℕ) → a ≤ length t.answers → a ≤ v.answers
  ans-low a h = omega (arith, answers-length v)

  -- ---- what is later

  owner-same : (i : ℕ) (j : ℕ) → i < j → j < suc (length t.answers) → subgoal_of_answer t j ≡ (v.answer j).subgoal
  owner-same i j h k = owner_at v j (omega arith) (ans-low j (omega arith))

  later-read : (a s : ℕ) → after (λ b. (v.answer b).subgoal) (suc v.answers) a s ≡ later t a s
  later-read a s = ap (λ (n : ℕ). after (λ b. (v.answer b).subgoal) (suc n) a s) (sym (answers-length v)) ∙ sym (after-above (subgoal_of_answer t) (λ b. (v.answer b).subgoal) (suc (length t.answers)) a s (owner-same a))

  last-read : (s first last : ℕ) → LastFacts v s first last → LastSame t s first last
  last-read s first last (none_last p q) = no_last q p
  last-read s first last (has_last p q o n) =
      some-last p (omega (arith, answers-length v)) (owner_at v last p q ∙ o)
      (sym (later-read last s) ∙ ap (after (λ b. (v.answer b).subgoal) (suc v.answers) last) (sym o) ∙ sym (W.answer last p q).next ∙ n)

  -- ---- links

  link-called : (s : ℕ) → 0 < s → s ≤ v.subgoals → subgoal_of t (word_of (subgoal_path v s)) ≡ s
  link-called s h k =
      let p = called-by c v W some (word_of (subgoal_path v s)) (called-has c v W some s h k) in
      p.4 ∙ called-differ c v W some p.0 s p.1 p.2 h k p.3

  link-given : (a : ℕ) → 0 < a → a ≤ v.answers → answer_of t (v.answer a).subgoal (word_of (answer_path v a)) ≡ a
  link-given a h k =
      let p = given_by c v W some (v.answer a).subgoal (word_of (answer_path v a)) (given-has c v W some a h k) in
      p.5 ∙ given-differ c v W some p.0 a p.1 p.2 h k p.3 p.4

  link_of-answer : (s : ℕ) (w : Word) → 0 < s → link_of t (s ∷ w) ≡ answer_of t s w
  unfolding link_of
  link_of-answer zero w h = absurd (omega arith)
  link_of-answer (suc s) w h = refl

  link_of-called : (w : Word) → link_of t (0 ∷ w) ≡ subgoal_of t w
  unfolding link_of
  link_of-called w = refl

  within : (i : ℕ) → i < v.nodes → i < length K
  within i h = omega (arith, keys_length v v.nodes)

  -- a node without a link is no record's leaf
  unlinked : (i : ℕ) (y : Word) → i < v.nodes → (v.node i).link ≡ 0 → key K i ≡ y → link_of t y ≡ 0
  unfolding link_of
  unlinked i [] h z e = refl
  unlinked i (zero ∷ w) h z e = by_cases (has (called_forms t.subgoals) w)
      (λ q.
      let p = called-by c v W some w q in
      let same-leaf : (v.subgoal p.0).leaf ≡ i =
      whole-different c v W (v.subgoal p.0).leaf i (within _ (leaf-in c v W some p.0 p.1 p.2)) (within i h) (leaf-key c v W some p.0 p.1 p.2 ∙ ap (λ (x : Word). 0 ∷ x) p.3 ∙ sym e) in
      let l : p.0 ≡ 0 = sym (W.subgoal p.0 p.1 p.2).linked ∙ ap (λ (k : ℕ). (v.node k).link) same-leaf ∙ z in
      absurd (omega (arith, p.1)))
      (λ q. subgoal_of-none t w q)
  unlinked i (suc s ∷ w) h z e = by_cases (has (answers_to t.answers (suc s)) w)
      (λ q.
      let p = given_by c v W some (suc s) w q in
      let same-leaf : (v.answer p.0).leaf ≡ i =
      whole-different c v W (v.answer p.0).leaf i (within _ (W.answer p.0 p.1 p.2).leaf-in) (within i h)
      (answer-key c v W some p.0 p.1 p.2 ∙ ap (λ (x : ℕ). x ∷ word_of (answer_path v p.0)) p.3 ∙ ap (λ (x : Word). suc s ∷ x) p.4 ∙ sym e) in
      let l : p.0 ≡ 0 = sym (W.answer p.0 p.1 p.2).linked ∙ ap (λ (k : ℕ). (v.node k).link) same-leaf ∙ z in
      absurd (omega (arith, p.1)))
      (λ q. answer_of-none t (suc s) w q)

  links : Links K v.node v.nodes (link_of t)
  links i h = by_cases (eqb (v.node i).link 0)
      (λ z. eqb-true _ _ z ∙ sym (unlinked i (key K i) h (eqb-true _ _ z) refl))
      (λ z. go (pos _ (eqb-false _ _ z)) ((W.node i h).leads (eqb-false _ _ z)))
    where
      go : 0 < (v.node i).link → Leads v i → (v.node i).link ≡ link_of t (key K i)
      go p (to-subgoal l e) =
          let k : ℕ = (v.node i).link in
          sym (link-called k p l) ∙ sym (link_of-called (word_of (subgoal_path v k))) ∙ ap (link_of t) (sym (leaf-key c v W some k p l) ∙ ap (key K) e)
      go p (to-answer l e) =
          let k : ℕ = (v.node i).link in
          sym (link-given k p l) ∙ sym (link_of-answer (v.answer k).subgoal (word_of (answer_path v k)) (W.answer k p l).low) ∙ ap (link_of t) (sym (answer-key c v W some k p l) ∙ ap (key K) e)

  -- ---- the table is sound

  path-short : (s : ℕ) → 0 < s → s ≤ v.subgoals → length (word_of (subgoal_path v s)) ≤ longest
  path-short s h k = subst (Within longest) (W.subgoal s h k).path (gather-within longest (subgoal_trie v) 0 (v.subgoal s).leaf)

  m-at : (s : ℕ) → 0 < s → s ≤ v.subgoals → (subgoal_at t s).m ≡ (v.subgoal s).variables
  m-at s h k = ap (λ (y : Subgoal). y.m) (subgoal-at v s h k)

  form-at : (s : ℕ) → 0 < s → s ≤ v.subgoals → (subgoal_at t s).form ≡ word_of (subgoal_path v s)
  form-at s h k = ap (λ (y : Subgoal). y.form) (subgoal-at v s h k)

  given-at : (a : ℕ) → 0 < a → a ≤ v.answers → (answer_at t a).form ≡ word_of (answer_path v a)
  given-at a h k = ap (λ (y : Answer). y.form) (answer_at_lem v a h k)

  nodes-read : v.nodes ≡ nodes t
  nodes-read = let e = entries c v W some in sym (keys_length v v.nodes) ∙ (whole-numbering c v W some e.0 e.1).count ∙ e.1.count

  read-called : (s : ℕ) → 0 < s → s ≤ length t.subgoals → Fit c (subgoal_at t s).form (subgoal_at t s).m
  read-called s h k =
      let l = sub_low s k in
      let f = W.subgoal s h l in
      let w : Word = word_of (subgoal_path v s) in
      let b = laws.called-variables (c.expand w) w (length (met [] w)) (again.legal-called w f.legal f.begins) in
      rw (form-at s h l, m-at s h l) (f.legal, f.variables, omega (arith, f.variables, b.1))

  read-answered : (a : ℕ) → 0 < a → a ≤ length t.answers → c.legal (subgoal_at t (subgoal_of_answer t a)).m (answer_at t a).form ≡ true
  read-answered a h k =
      let l = ans-low a k in
      let f = W.answer a h l in
      rw (owner_at v a h l, given-at a h l, m-at (v.answer a).subgoal f.low f.high) f.legal

  -- every subgoal is a term to call
  pub whole-callable : Callable (table_read v)
  whole-callable s h k = let l = sub_low s k in rw (form-at s h l) (W.subgoal s h l).begins

  kept : Kept t
  kept = record {
    room = omega (arith, nodes-read);
    subgoal-room = omega (arith, subgoals-length v);
    answer-room = omega (arith, answers-length v);
    answered = λ a h k.
        let l = ans-low a k in
        let f = W.answer a h l in
        let e = owner_at v a h l in
        (omega (arith, f.low), omega (arith, f.high, subgoals-length v));
    subgoals-differ = λ i j p q r z e.
        called-differ c v W some i j p (sub_low i q) r (sub_low j z) (sym (form-at i p (sub_low i q)) ∙ e ∙ form-at j r (sub_low j z));
    answers-differ = λ a b p q r z o e.
        given-differ c v W some a b p (ans-low a q) r (ans-low b z) (sym (owner_at v a p (ans-low a q)) ∙ o ∙ owner_at v b r (ans-low b z))
        (sym (given-at a p (ans-low a q)) ∙ e ∙ given-at b r (ans-low b z));
  }

  -- ---- the records

  subgoal-read : (s : ℕ) → 0 < s → s ≤ v.subgoals → SubgoalSame t K v.nodes s (v.subgoal s)
  subgoal-read s h k =
      let f = W.subgoal s h k in
      record {
        leaf-in = leaf-in c v W some s h k;
        leaf-key = leaf-key c v W some s h k ∙ ap (λ (w : Word). 0 ∷ w) (sym (form-at s h k));
        root_in = f.root_in;
        root-key = root-key c v W some s h k;
        root-next = f.root-next;
        variables = sym (m-at s h k);
        state = state-read (v.subgoal s).state f.state ∙ ap (λ (y : Subgoal). state_cell y.state) (sym (subgoal-at v s h k));
        first = f.first ∙ later-read 0 s;
        last = last-read s _ _ f.last;
      }

  answer-read : (a : ℕ) → 0 < a → a ≤ v.answers → AnswerSame t K v.nodes a (v.answer a)
  answer-read a h k =
      let f = W.answer a h k in
      let e = owner_at v a h k in
      record {
        leaf-in = f.leaf-in;
        leaf-key = answer-key c v W some a h k ∙ rw (e, given-at a h k);
        subgoal = sym e;
        next = f.next ∙ later-read a (v.answer a).subgoal ∙ ap (later t a) (sym e);
      }

  firsts : Firsts t K
  firsts =
      let e = entries c v W some in
      let num = whole-numbering c v W some e.0 e.1 in
      test-firsts c t v K (whole-tries c v W) (whole-different c v W)
      (λ a u. num.members (0 ∷ a ∷ u) ∙ trie-has e.0 (called_forms t.subgoals) 0 e.1.calls a u)
      (λ i w h k. links i h ∙ ap (link_of t) k ∙ link_of-called w)
      (λ i h. (W.node i h).lives)
      (λ s h k. let l = sub_low s k in
      let o = subgoal-read s h l in
      (o.leaf-in, o.leaf-key, rw (form-at s h l) (path-short s h l), (W.subgoal s h l).led))

  pub whole_same : Same c (table_read v) v
  whole_same = record {
    es = (entries c v W some).0;
    forest = (entries c v W some).1;
    K = K;
    numbering = whole-numbering c v W some (entries c v W some).0 (entries c v W some).1;
    tries = whole-tries c v W;
    links = links;
    firsts = firsts;
    origin = whole-origin c v W some;
    some = some;
    N-same = refl;
    F-same = refl;
    A-same = refl;
    sound = record { kept = kept; called = read-called; answered = read-answered };
    subgoals = sym (subgoals-length v);
    answers = sym (answers-length v);
    subgoal = λ s h k. subgoal-read s h (sub_low s k);
    answer = λ a h k. answer-read a h (ans-low a k);
  }
