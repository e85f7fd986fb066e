-- A plain table and a view of records that hold the same: the relation, the fresh one, and what it gives of every record.
use mathlib.Core.Path.{◌≡◌, refl, sym, ap, ◌∙◌}
use mathlib.Core.Bool.{true, false, ◌&&◌, true≢false}
use mathlib.Core.List.{List, [], ◌∷◌, ◌++◌, concat-ne-nil, tail-eq_of_cons-eq}
use Prim.Native.Nat.{ℕ, zero, suc, ◌+◌, ◌≤◌, ◌<◌}
use native.Mathlib.Omega.{arith}
use lib.Dec.{eqb, ltb}
use lib.ListN.{length}
use borrow.Author.Tests.{eqb-true, eqb-false, eq-eqb, ne_eqb, lt-ltb, le-leb, ltb-true, ltb-false}
use Rattle.basis.specs.Choice.{pick}
use Rattle.basis.proofs.Cases.{by_cases}
use Rattle.forms.specs.Numbering.{met}
use Rattle.plain.specs.Words.{Word, has, add, union, inits, all_inits, prefixes}
use Rattle.plain.specs.Coding.{Coding}
use Rattle.plain.specs.CodingLaws.{CodingLaws}
use Rattle.plain.specs.Requests.{State, Open, Finished}
use Rattle.plain.specs.Table.{Table, fresh, subgoal_at, answer_at, subgoal_of_answer, called_forms, answers_to, nodes, counted, number, subgoal_of, answer_of, after}
use Rattle.plain.proofs.PrefixLaws.{begins, has-prefixes, has-begins}
use Rattle.plain.proofs.Entries.{under, trie-root, trie-has}
use Rattle.plain.proofs.Keys.{key, Different, place-has}
use Rattle.plain.proofs.AfterLaws.{after-found, after-least}
use Rattle.plain.proofs.NumberLaws.{subgoal_of-none, subgoal_of-some, answer_of-none, answer_of-some}
use Rattle.plain.proofs.LinkLaws.{link_of}
use Rattle.plain.proofs.Counted.{Forest, forest-fresh}
use Rattle.plain.proofs.Soundness.{Sound, sound-fresh}
use Rattle.plain.proofs.StoredForms.{called-form-legal, answer-form-legal}
use Rattle.space.specs.Judging.{both_or_neither, subgoal_sound, answer_sound}
use Rattle.space.specs.declared.Node.{Node}
use Rattle.space.specs.declared.Subgoal.{Subgoal}
use Rattle.space.specs.declared.Answer.{Answer}
use Rattle.space.proofs.JudgingLaws.{SubgoalBounds, AnswerBounds}
use Rattle.trie.specs.Append.{new_root}
use Rattle.trie.specs.Walks.{Finding, root_sound, walk, walk_by}
use Rattle.trie.specs.Paths.{tokens, gather, longest}
use Rattle.trie.proofs.IndexLaws.{AsChains}
use Rattle.store.specs.Views.{View, subgoal_trie, answer_trie}
use Rattle.store.specs.Decisions.{state_of, sound_subgoal, sound_answer, sound_answer_of, sound_last}
use Rattle.agreement.specs.Records.{Alike, fresh_view}
use Rattle.agreement.proofs.Numberings.{Numbering, numbering-made}
use Rattle.agreement.proofs.TrieNodes.{Tries, linked-equal, tries-linked, tries-root}
use Rattle.agreement.proofs.TrieWalks.{follows-after, Walked, walked, walk-as-chains, root-judged, gather-key}
use Rattle.agreement.proofs.TrieLinks.{Links}
use Rattle.agreement.proofs.FirstChildren.{First, Firsts}

-- ---- the relation

-- the lowest answer number above a under subgoal s, or 0
abbrev pub later : Table → ℕ → ℕ → ℕ
later t a s = after (subgoal_of_answer t) (suc (length t.answers)) a s

-- a state as its cell
abbrev pub state_cell : State → ℕ
state_cell Open = 0
state_cell Finished = 1

-- no answer; or the last is one of the subgoal's answers that no other follows
pub data LastSame (t : Table) (s first last : ℕ) : Type 0 where
  no_last : first ≡ 0 → last ≡ 0 → LastSame t s first last
  some-last : 0 < last → last ≤ length t.answers → subgoal_of_answer t last ≡ s → later t last s ≡ 0 → LastSame t s first last

-- the record of subgoal s, where the n nodes have these keys
pub record SubgoalSame (t : Table) (K : List Word) (n s : ℕ) (g : Subgoal) : Type 0 where
  pub leaf-in : g.leaf < n
  pub leaf-key : key K g.leaf ≡ 0 ∷ (subgoal_at t s).form
  pub root_in : g.root < n
  pub root-key : key K g.root ≡ s ∷ []
  -- a subgoal's answer root follows its leaf
  pub root-next : g.root ≡ suc g.leaf
  pub variables : g.variables ≡ (subgoal_at t s).m
  pub state : g.state ≡ state_cell (subgoal_at t s).state
  pub first : g.first ≡ later t 0 s
  pub last : LastSame t s g.first g.last

-- the record of answer a
pub record AnswerSame (t : Table) (K : List Word) (n a : ℕ) (y : Answer) : Type 0 where
  pub leaf-in : y.leaf < n
  pub leaf-key : key K y.leaf ≡ subgoal_of_answer t a ∷ (answer_at t a).form
  pub subgoal : y.subgoal ≡ subgoal_of_answer t a
  pub next : y.next ≡ later t a (subgoal_of_answer t a)

-- the nodes are those of the prefixes of the entries, K being their keys by number
pub record Same (c : Coding) (t : Table) (v : View) : Type 0 where
  pub es : List Word
  pub forest : Forest t es
  pub K : List Word
  pub numbering : Numbering es K
  pub tries : Tries K v.node v.nodes
  pub links : Links K v.node v.nodes (link_of t)
  -- first children lead to the lowest-numbered subgoal
  pub firsts : Firsts t K
  pub origin : key K 0 ≡ 0 ∷ []
  pub some : 0 < v.nodes
  pub N-same : v.N ≡ t.N
  pub F-same : v.F ≡ t.F
  pub A-same : v.A ≡ t.A
  pub sound : Sound c t
  pub subgoals : v.subgoals ≡ length t.subgoals
  pub answers : v.answers ≡ length t.answers
  pub subgoal : (s : ℕ) → 0 < s → s ≤ length t.subgoals → SubgoalSame t K v.nodes s (v.subgoal s)
  pub answer : (a : ℕ) → 0 < a → a ≤ length t.answers → AnswerSame t K v.nodes a (v.answer a)

-- ---- the fresh one

prefixes-zero : prefixes ((0 ∷ []) ∷ []) ≡ (0 ∷ []) ∷ []
unfolding prefixes union add has all_inits inits
prefixes-zero = refl

tries-none : (nd : ℕ → Node) → Tries [] nd 0
tries-none nd = record { keys = refl; kind = λ i h. absurd (omega arith); child = λ i h. absurd (omega arith); sibling = λ i h. absurd (omega arith) }

none_first : (p : Word) (x i : ℕ) → First (prefixes ((0 ∷ []) ∷ [])) p x i → ⊥
none_first p x i g =
    let h : i < 1 = rw prefixes-zero at g.inside in
    let z : i ≡ 0 = omega arith in
    let e : 0 ∷ [] ≡ 0 ∷ (p ++ (x ∷ [])) = rw (prefixes-zero, z) at g.goes_on in
    concat-ne-nil x p (sym (tail-eq_of_cons-eq e))

pub same-fresh : (c : Coding) (n f a : ℕ) → 1 ≤ n → Same c (fresh n f a) (fresh_view n f a)
same-fresh c n f a h = record {
  es = (0 ∷ []) ∷ [];
  forest = forest-fresh n f a;
  K = prefixes ((0 ∷ []) ∷ []);
  numbering = numbering-made ((0 ∷ []) ∷ []);
  tries = rw prefixes-zero (tries-root [] (λ i. new_root 0) (λ i. new_root 0) 0 0 (tries-none (λ i. new_root 0)) (λ i k. refl) refl);
  links = λ i k. let z : i ≡ 0 = omega arith in rw (z, prefixes-zero) (unfold link_of subgoal_of number in refl);
  firsts = λ p x y i j some g k e. absurd (none_first p x i g);
  origin = rw prefixes-zero;
  some = omega arith;
  N-same = refl;
  F-same = refl;
  A-same = refl;
  sound = sound-fresh c n f a h;
  subgoals = refl;
  answers = refl;
  subgoal = λ s p q. absurd (omega arith);
  answer = λ s p q. absurd (omega arith);
}

-- the keys of the subgoal trie are the words that begin a form
pub subgoal-keys : (c : Coding) (t : Table) (v : View) (S : Same c t v) (a : ℕ) (u : Word) → has S.K (0 ∷ a ∷ u) ≡ begins (called_forms t.subgoals) (a ∷ u)
subgoal-keys c t v S a u = S.numbering.members (0 ∷ a ∷ u) ∙ trie-has S.es (called_forms t.subgoals) 0 S.forest.calls a u

-- ---- another view of the same records

pub same_alike : (c : Coding) (t : Table) (v w : View) → Same c t v → Alike w v → Same c t w
same_alike c t v w S e = record {
  es = S.es;
  forest = S.forest;
  K = S.K;
  numbering = S.numbering;
  tries = rw e.nodes-same (tries-linked S.K v.node w.node v.nodes S.tries (linked-equal v.node w.node v.nodes e.node-same));
  links = λ i h. let k : i < v.nodes = omega (arith, e.nodes-same) in ap (λ (y : Node). y.link) (e.node-same i k) ∙ S.links i k;
  firsts = S.firsts;
  origin = S.origin;
  some = omega (arith, e.nodes-same, S.some);
  N-same = e.N-same ∙ S.N-same;
  F-same = e.F-same ∙ S.F-same;
  A-same = e.A-same ∙ S.A-same;
  sound = S.sound;
  subgoals = e.subgoals-same ∙ S.subgoals;
  answers = e.answers-same ∙ S.answers;
  subgoal = λ s h k. rw (e.nodes-same, e.subgoal-same s h (omega (arith, S.subgoals))) (S.subgoal s h k);
  answer = λ a h k. rw (e.nodes-same, e.answer-same a h (omega (arith, S.answers))) (S.answer a h k);
}

-- ---- tests

pub state-of : (x : State) → state_of (state_cell x) ≡ x
state-of Open = refl
state-of Finished = refl

state-most : (x : State) → state_cell x ≤ 1
state-most Open = omega arith
state-most Finished = omega arith

subgoal-sound : (nodes answers : ℕ) (y : Subgoal) → SubgoalBounds nodes answers y → subgoal_sound nodes answers y ≡ true
unfolding subgoal_sound
subgoal-sound nodes answers y b =
    rw (lt-ltb _ _ b.leaf-below, lt-ltb _ _ b.root_below, le-leb _ _ b.variables-most, le-leb _ _ b.state-most, le-leb _ _ b.first-most, le-leb _ _ b.last-most) b.first-and-last

answer-sound : (nodes subgoals answers a : ℕ) (y : Answer) → AnswerBounds nodes subgoals answers a y → answer_sound nodes subgoals answers a y ≡ true
unfolding answer_sound
answer-sound nodes subgoals answers a y b =
    rw (lt-ltb _ _ b.leaf-below, lt-ltb _ _ b.subgoal-some, le-leb _ _ b.subgoal-most) b.next-follows

both-none : (first last : ℕ) → first ≡ 0 → last ≡ 0 → both_or_neither first last ≡ true
unfolding both_or_neither
both-none first last e f = rw (eq-eqb first 0 e, eq-eqb last 0 f)

both_some : (first last : ℕ) → (first ≡ 0 → ⊥) → (last ≡ 0 → ⊥) → both_or_neither first last ≡ true
unfolding both_or_neither
both_some first last e f = rw (ne_eqb first 0 e, ne_eqb last 0 f)

pub later-most : (t : Table) (a s : ℕ) → later t a s ≤ length t.answers
later-most t a s = by_cases (eqb (later t a s) 0)
    (λ e. let z : later t a s ≡ 0 = eqb-true _ _ e in omega arith)
    (λ e. let f = after-found (subgoal_of_answer t) (suc (length t.answers)) a s (eqb-false _ _ e) in omega (arith, f.below))

pub last-most : (t : Table) (s first last : ℕ) → LastSame t s first last → last ≤ length t.answers
last-most t s first last (no_last p q) = omega arith
last-most t s first last (some-last p q u z) = q

-- a subgoal with a last answer has a first one
pub later-some : (t : Table) (s last : ℕ) → 0 < last → last ≤ length t.answers → subgoal_of_answer t last ≡ s → later t 0 s ≡ 0 → ⊥
later-some t s last h k e = (after-least (subgoal_of_answer t) (suc (length t.answers)) 0 s last (record { above = h; below = omega arith; under = e })).0

-- ---- what the relation gives

module _ (c : Coding) (laws : CodingLaws c) (t : Table) (v : View) (S : Same c t v) where
  abbrev K : List Word
  K = S.K

  pub nodes-count : v.nodes ≡ nodes t
  nodes-count = sym S.tries.keys ∙ S.numbering.count ∙ S.forest.count

  pub same-counts : counted t ≡ record { nodes = v.nodes; subgoals = v.subgoals; answers = v.answers }
  unfolding counted
  same-counts = rw (nodes-count, S.subgoals, S.answers)

  pub nodes-room : v.nodes ≤ v.N
  nodes-room = omega (arith, nodes-count, S.sound.kept.room, S.N-same)

  abbrev pub different : Different S.K
  different = S.numbering.different

  -- ---- links

  lacks : (ws : List Word) (s : ℕ) → under s S.es ≡ [] ∷ ws → (a : ℕ) (w : Word) → has K (s ∷ a ∷ w) ≡ false → has ws (a ∷ w) ≡ false
  lacks ws s u a w e = by_cases (has ws (a ∷ w))
      (λ z. absurd (true≢false (sym (S.numbering.members (s ∷ a ∷ w) ∙ trie-has S.es ws s u a w ∙ has-begins ws (a ∷ w) z) ∙ e)))
      (λ z. z)

  lacks-answer : (s : ℕ) (w : Word) → 0 < s → s ≤ length t.subgoals → has K (s ∷ w) ≡ false → has (answers_to t.answers s) w ≡ false
  lacks-answer s [] h k e = absurd (true≢false (sym (S.numbering.members (s ∷ []) ∙ has-prefixes S.es s [] ∙ trie-root S.es (answers_to t.answers s) s (S.forest.replies s h k)) ∙ e))
  lacks-answer s (a ∷ w) h k e = lacks (answers_to t.answers s) s (S.forest.replies s h k) a w e

  -- a key that is not there has link 0
  pub link-none : (y : Word) → has S.K y ≡ false → link_of t y ≡ 0
  unfolding link_of
  link-none [] e = refl
  link-none (zero ∷ []) e = absurd (true≢false (sym (place-has K (0 ∷ []) 0 (omega (arith, S.some, S.tries.keys)) S.origin) ∙ e))
  link-none (zero ∷ a ∷ w) e = subgoal_of-none t (a ∷ w) (lacks (called_forms t.subgoals) 0 S.forest.calls a w e)
  link-none (suc s ∷ w) e = answer_of-none t (suc s) w (by_cases (ltb (length t.subgoals) (suc s))
      (λ z. rw (S.forest.unanswered (suc s) (ltb-true _ _ z)) (unfold has in refl))
      (λ z. lacks-answer (suc s) w (omega arith) (ltb-false _ _ z) e))

  pub link-called : (i : ℕ) (w : Word) → i < v.nodes → key S.K i ≡ 0 ∷ w → (v.node i).link ≡ subgoal_of t w
  link-called i w h e = S.links i h ∙ rw e (unfold link_of in refl)

  pub link-answered : (s : ℕ) → 0 < s → (i : ℕ) (w : Word) → i < v.nodes → key S.K i ≡ s ∷ w → (v.node i).link ≡ answer_of t s w
  link-answered zero h i w b e = absurd (omega arith)
  link-answered (suc s) h i w b e = S.links i b ∙ rw e (unfold link_of in refl)

  pub called-links : (i : ℕ) (w : Word) → i < v.nodes → key S.K i ≡ 0 ∷ w → (v.node i).link ≤ v.subgoals
  called-links i w h e =
      let l = link-called i w h e in
      by_cases (has (called_forms t.subgoals) w)
      (λ z. let p = subgoal_of-some t w z in omega (arith, p.high, S.subgoals))
      (λ z. let p = subgoal_of-none t w z in omega arith)

  pub answered-links : (s : ℕ) → 0 < s → (i : ℕ) (w : Word) → i < v.nodes → key S.K i ≡ s ∷ w → (v.node i).link ≤ v.answers
  answered-links s h i w b e =
      let l = link-answered s h i w b e in
      by_cases (has (answers_to t.answers s) w)
      (λ z. let p = answer_of-some t s w z in omega (arith, p.high, S.answers))
      (λ z. let p = answer_of-none t s w z in omega arith)

  -- ---- walks

  pub walked_call : (w : Word) → Walked S.K v.node v.nodes 0 w (walk (subgoal_trie v) 0 w)
  walked_call w = walked K v.node v.nodes S.tries different v.subgoals 0 called-links 0 w S.some S.origin

  pub call-as-chains : (find : Finding) → AsChains v.node v.nodes find → (w : Word) → walk_by find (subgoal_trie v) 0 w ≡ walk (subgoal_trie v) 0 w
  call-as-chains find as-chains w =
      walk-as-chains K v.node v.nodes S.tries different v.subgoals 0 called-links find as-chains 0 w S.some S.origin

  module _ (s : ℕ) (low : 0 < s) (high : s ≤ length t.subgoals) where
    pub answer-root-judged : root_sound (answer_trie v) (v.subgoal s).root ≡ true
    answer-root-judged =
        let o = S.subgoal s low high in
        root-judged K v.node v.nodes S.tries different v.answers s (answered-links s low) (v.subgoal s).root o.root_in o.root-key

    pub walked-answer : (w : Word) → Walked S.K v.node v.nodes (v.subgoal s).root w (walk (answer_trie v) (v.subgoal s).root w)
    walked-answer w =
        let o = S.subgoal s low high in
        walked K v.node v.nodes S.tries different v.answers s (answered-links s low) (v.subgoal s).root w o.root_in o.root-key

    pub answer-as-chains : (find : Finding) → AsChains v.node v.nodes find → (w : Word)
        → walk_by find (answer_trie v) (v.subgoal s).root w ≡ walk (answer_trie v) (v.subgoal s).root w
    answer-as-chains find as-chains w =
        let o = S.subgoal s low high in
        walk-as-chains K v.node v.nodes S.tries different v.answers s (answered-links s low) find as-chains (v.subgoal s).root w o.root_in o.root-key

    -- ---- a subgoal record

    variables-known : (length (met [] (subgoal_at t s).form) ≡ (subgoal_at t s).m) × ((subgoal_at t s).m ≤ 32)
    variables-known = let f = S.sound.called s low high in (f.1, f.2)

    pub variables-met : length (met [] (subgoal_at t s).form) ≡ (v.subgoal s).variables
    variables-met = variables-known.0 ∙ sym (S.subgoal s low high).variables

    both : (first last : ℕ) → first ≡ later t 0 s → LastSame t s first last → both_or_neither first last ≡ true
    both first last e (no_last p q) = both-none first last p q
    both first last e (some-last p q u z) = both_some first last (λ y. later-some t s last p q u (sym e ∙ y)) (λ y. omega arith)

    pub subgoal-judged : sound_subgoal v s ≡ true
    subgoal-judged =
        let o = S.subgoal s low high in
        subgoal-sound v.nodes v.answers (v.subgoal s) (record {
          leaf-below = o.leaf-in;
          root_below = o.root_in;
          variables-most = rw o.variables variables-known.1;
          state-most = rw o.state (state-most (subgoal_at t s).state);
          first-most = rw (o.first, S.answers) (later-most t 0 s);
          last-most = rw S.answers (last-most t s _ _ o.last);
          first-and-last = both _ _ o.first o.last;
        })

    pub subgoal-state : state_of (v.subgoal s).state ≡ (subgoal_at t s).state
    subgoal-state = ap state_of (S.subgoal s low high).state ∙ state-of (subgoal_at t s).state

    -- the path of a subgoal is its form
    pub gather-subgoal : gather longest (subgoal_trie v) 0 (v.subgoal s).leaf ≡ tokens (subgoal_at t s).form
    gather-subgoal =
        let o = S.subgoal s low high in
        gather-key K v.node v.nodes S.tries different v.subgoals 0 called-links 0 S.some S.origin longest (v.subgoal s).leaf (subgoal_at t s).form
        o.leaf-in o.leaf-key (laws.legal-short 1 (subgoal_at t s).form (called-form-legal c laws t S.sound s low high))

  -- ---- an answer record

  module _ (a : ℕ) (low : 0 < a) (high : a ≤ length t.answers) where
    abbrev own : ℕ
    own = subgoal_of_answer t a

    pub own-low : 0 < subgoal_of_answer t a
    own-low = (S.sound.kept.answered a low high).0

    pub own-high : subgoal_of_answer t a ≤ length t.subgoals
    own-high = (S.sound.kept.answered a low high).1

    pub answer-judged : sound_answer v a ≡ true
    answer-judged =
        let o = S.answer a low high in
        answer-sound v.nodes v.subgoals v.answers a (v.answer a) (record {
          leaf-below = o.leaf-in;
          subgoal-some = rw o.subgoal own-low;
          subgoal-most = rw (o.subgoal, S.subgoals) own-high;
          next-follows =
              let e : v.answers + 1 ≡ suc (length t.answers) = omega (arith, S.answers) in
              rw (o.next, e) (follows-after (subgoal_of_answer t) (suc (length t.answers)) a own);
        })

    pub answer-own-judged : (s : ℕ) → subgoal_of_answer t a ≡ s → sound_answer_of v s a ≡ true
    answer-own-judged s e = rw (answer-judged, (S.answer a low high).subgoal, e, eq-eqb s s refl)

    -- the path of an answer is its form
    pub gather-answer : gather longest (answer_trie v) (v.subgoal (subgoal_of_answer t a)).root (v.answer a).leaf ≡ tokens (answer_at t a).form
    gather-answer =
        let o = S.answer a low high in
        let g = S.subgoal own own-low own-high in
        gather-key K v.node v.nodes S.tries different v.answers own (answered-links own own-low) (v.subgoal own).root g.root_in g.root-key longest (v.answer a).leaf (answer_at t a).form
        o.leaf-in o.leaf-key (laws.legal-short (subgoal_at t own).m (answer_at t a).form (answer-form-legal c laws t S.sound a low high))

  pub last-judged : (s : ℕ) → 0 < s → s ≤ length t.subgoals → sound_last v s ≡ true
  last-judged s h k = go (v.subgoal s).last (S.subgoal s h k).last
    where
      go : (a : ℕ) → LastSame t s (v.subgoal s).first a → pick (eqb a 0) true (sound_answer_of v s a && eqb (v.answer a).next 0) ≡ true
      go a (no_last p q) = rw (eq-eqb a 0 q)
      go a (some-last p q u z) =
          rw (ne_eqb a 0 (λ e. omega arith), answer-own-judged a p q s u, (S.answer a p q).next, u, z)
