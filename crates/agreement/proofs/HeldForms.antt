-- Forms that are held while others are entered, on any records, sound or damaged: one view before a form is entered and one
-- after it.
use Prim.Native.Nat.{ℕ, ◌+◌, ◌-◌, ◌<◌, ◌≤◌}
use mathlib.Core.Path.{◌≡◌, refl, sym, ap, ◌∙◌, subst}
use mathlib.Core.Bool.{true, false}
use mathlib.Core.List.{List, [], ◌∷◌}
use mathlib.Core.Logic.{◌⊎◌, inl, inr}
use native.Mathlib.Omega.{arith}
use lib.Dec.{eqb}
use lib.ListN.{length}
use borrow.Author.Tests.{eqb-true, eq-eqb, ne_eqb, lt-ltb, le-leb}
use Rattle.basis.specs.Choice.{pick}
use Rattle.basis.proofs.Cases.{by_cases}
use Rattle.plain.specs.Words.{Word}
use Rattle.plain.specs.Requests.{old_answer}
use Rattle.space.specs.Judging.{follows, answer_sound}
use Rattle.space.specs.declared.Node.{Node}
use Rattle.space.specs.declared.Subgoal.{Subgoal}
use Rattle.space.specs.declared.Answer.{Answer}
use Rattle.space.proofs.JudgingLaws.{answer-bounds}
use Rattle.trie.specs.Siblings.{Trie, sound}
use Rattle.trie.specs.Walks.{Walk, whole, stopped, damaged, Finding, walk_from_by, walk_by}
use Rattle.trie.specs.Append.{with_node, with_path}
use Rattle.trie.specs.Index.{search_indexed}
use Rattle.trie.specs.Entered.{Relinked}
use Rattle.trie.proofs.StayLaws.{Keeps, keeps_then, walk_kept, with_tokens, tokens-nodes, tokens-links, tokens-at, After, given-keeps, given-whole, given-after, linked-keeps, linked-walk}
use Rattle.store.specs.Views.{View, answer_trie}
use Rattle.store.specs.Decisions.{says, enters_answer, sound_answer, sound_last, answered_old, answered_at, walk_to_by}
use Rattle.agreement.specs.Records.{Alike, with_link, with_last, with_next, updated, changed_view}
use Rattle.agreement.proofs.SameBut.{follows-wider}

-- ---- links along a path of new nodes

node-link : (at : ℕ → Node) (n parent last x m : ℕ) → m < n → (with_node at n parent last x m).link ≡ (at m).link
unfolding with_node
node-link at n parent last x m h =
    rw (ne_eqb m n (λ (e : m ≡ n). omega arith))
    (by_cases (eqb last 0)
    (λ z. by_cases (eqb m parent) (λ p. rw (z, p)) (λ p. rw (z, p)))
    (λ z. by_cases (eqb m last) (λ p. rw (z, p)) (λ p. rw (z, p))))

path-link : (xs : List ℕ) (at : ℕ → Node) (n parent last m : ℕ) → m < n → (with_path at n parent last xs m).link ≡ (at m).link
unfolding with_path
path-link [] at n parent last m h = refl
path-link (x ∷ xs) at n parent last m h = path-link xs (with_node at n parent last x) (n + 1) n 0 m (omega arith) ∙ node-link at n parent last x m h

-- ---- a node whose link is set

module _ (path : ℕ → Node) (leaf a m : ℕ) where
  linked-token : (updated path leaf (with_link (path leaf) a) m).token ≡ (path m).token
  linked-token = by_cases (eqb m leaf) (λ e. rw e (ap (λ (i : ℕ). (path i).token) (sym (eqb-true _ _ e)))) (λ e. rw e)

  linked-parent : (updated path leaf (with_link (path leaf) a) m).parent ≡ (path m).parent
  linked-parent = by_cases (eqb m leaf) (λ e. rw e (ap (λ (i : ℕ). (path i).parent) (sym (eqb-true _ _ e)))) (λ e. rw e)

  linked-child : (updated path leaf (with_link (path leaf) a) m).child ≡ (path m).child
  linked-child = by_cases (eqb m leaf) (λ e. rw e (ap (λ (i : ℕ). (path i).child) (sym (eqb-true _ _ e)))) (λ e. rw e)

  linked-sibling : (updated path leaf (with_link (path leaf) a) m).sibling ≡ (path m).sibling
  linked-sibling = by_cases (eqb m leaf) (λ e. rw e (ap (λ (i : ℕ). (path i).sibling) (sym (eqb-true _ _ e)))) (λ e. rw e)

  linked-most : (l : ℕ) → a ≤ l → (path m).link ≤ l → (updated path leaf (with_link (path leaf) a) m).link ≤ l
  linked-most l h k = by_cases (eqb m leaf) (λ e. rw e h) (λ e. rw e k)

  linked-other : (m ≡ leaf → ⊥) → (updated path leaf (with_link (path leaf) a) m).link ≡ (path m).link
  linked-other o = rw (ne_eqb m leaf o)

pub linked-here : (path : ℕ → Node) (leaf a : ℕ) → (updated path leaf (with_link (path leaf) a) leaf).link ≡ a
linked-here path leaf a = rw (eq-eqb leaf leaf refl)

-- ---- answers

-- a new answer
pub answer-made : (v : View) (s a leaf : ℕ) → v.answer a ≡ record { leaf = leaf; subgoal = s; next = 0 } → leaf < v.nodes → 1 ≤ s → s ≤ v.subgoals → sound_answer v a ≡ true
unfolding answer_sound follows
answer-made v s a leaf e h low high = rw (e, lt-ltb leaf v.nodes h, lt-ltb 0 s (omega arith), le-leb s v.subgoals high)

last_made : (v : View) (s a leaf : ℕ) → (v.subgoal s).last ≡ a → (a ≡ 0 → ⊥) → v.answer a ≡ record { leaf = leaf; subgoal = s; next = 0 } → leaf < v.nodes → 1 ≤ s → s ≤ v.subgoals → sound_last v s ≡ true
last_made v s a leaf i z e h low high =
    let j = answer-made v s a leaf e h low high in
    let own : eqb (v.answer a).subgoal s ≡ true = eq-eqb _ _ (ap (λ (y : Answer). y.subgoal) e) in
    let end : eqb (v.answer a).next 0 ≡ true = eq-eqb _ _ (ap (λ (y : Answer). y.next) e) in
    rw (i, ne_eqb a 0 z, j, own, end)

-- one that was sound is so under counts that grew, also where a new answer follows it
answer-kept : (nodes nodes' subgoals answers answers' a : ℕ) (y : Answer) → nodes ≤ nodes' → answers ≤ answers' → answer_sound nodes subgoals answers a y ≡ true → answer_sound nodes' subgoals answers' a y ≡ true
unfolding answer_sound
answer-kept nodes nodes' subgoals answers answers' a y n k e =
    let b = answer-bounds nodes subgoals answers a y e in
    simp (
      lt-ltb y.leaf nodes' (omega (arith, b.leaf-below)),
      lt-ltb 0 y.subgoal b.subgoal-some,
      le-leb y.subgoal subgoals b.subgoal-most,
      follows-wider (answers + 1) (answers' + 1) a y.next (omega arith) (omega arith) b.next-follows,
    )

answer-followed : (nodes nodes' subgoals answers a : ℕ) (y : Answer) → nodes ≤ nodes' → a ≤ answers → answer_sound nodes subgoals answers a y ≡ true → answer_sound nodes' subgoals (answers + 1) a (with_next y (answers + 1)) ≡ true
unfolding answer_sound follows
answer-followed nodes nodes' subgoals answers a y n k e =
    let b = answer-bounds nodes subgoals answers a y e in
    simp (
      lt-ltb y.leaf nodes' (omega (arith, b.leaf-below)),
      lt-ltb 0 y.subgoal b.subgoal-some,
      le-leb y.subgoal subgoals b.subgoal-most,
      ne_eqb (answers + 1) 0 (λ (z : answers + 1 ≡ 0). omega arith),
      lt-ltb a (answers + 1) (omega arith),
      lt-ltb (answers + 1) (answers + 1 + 1) (omega arith),
    )

-- ---- what is held

module _ (index : List ℕ) (stood s r : ℕ) where
  abbrev pub Way : Finding
  Way = search_indexed index stood

  abbrev pub from : View → Word → Walk
  from v u = walk_from_by Way (answer_trie v) r u

  -- the answer root of s
  pub record Rooted (v : View) : Type 0 where
    pub root_is : (v.subgoal s).root ≡ r
    pub root_in : r < v.nodes
    pub root-sound : sound (answer_trie v) r ≡ true
    pub root-own : (v.node r).parent ≡ r
    pub few : stood ≤ v.nodes

  pub to-root : (v : View) → Rooted v → (u : Word) → walk_to_by Way v s u ≡ from v u
  unfolding walk_by
  to-root v R u = rw (R.root_is, R.root-sound, eq-eqb _ _ R.root-own)

  pub record HeldAt (v : View) (u : Word) : Type 0 where
    pub leaf : ℕ
    pub at : from v u ≡ whole leaf
    pub leaf-in : leaf < v.nodes
    pub some : (v.node leaf).link ≡ 0 → ⊥
    pub most : (v.node leaf).link ≤ v.answers
    pub judged : sound_answer v (v.node leaf).link ≡ true
    pub ends : (v.answer (v.node leaf).link).leaf ≡ leaf

  pub held-says : (v : View) → Rooted v → (u : Word) (h : HeldAt v u) → answered_at v s u (walk_to_by Way v s u) ≡ says (old_answer (v.node h.leaf).link)
  unfolding answered_at answered_old
  held-says v R u h = rw (to-root v R u, h.at, ne_eqb _ _ h.some, h.judged, eq-eqb _ _ h.ends)

  -- a path entered
  pub record Grew (v v' : View) (parent last : ℕ) (left : Word) : Type 0 where
    pub nodes-are : v'.nodes ≡ v.nodes + length left
    pub answers-are : v'.answers ≡ v.answers + 1
    pub subgoals-are : v'.subgoals ≡ v.subgoals
    pub N-is : v'.N ≡ v.N
    pub A-is : v'.A ≡ v.A
    pub node-is : (m : ℕ) → m < v'.nodes
        → v'.node m ≡ updated (with_path v.node v.nodes parent last left) (v.nodes + length left - 1) (with_link (with_path v.node v.nodes parent last left (v.nodes + length left - 1)) (v.answers + 1)) m
    pub own : v'.subgoal s ≡ with_last (v.subgoal s) (v.answers + 1)
    pub answer-is : (a : ℕ) → 1 ≤ a → a ≤ v.answers + 1
        → v'.answer a ≡ updated (pick (eqb (v.subgoal s).last 0) v.answer (updated v.answer (v.subgoal s).last (with_next (v.answer (v.subgoal s).last) (v.answers + 1)))) (v.answers + 1) (record { leaf = v.nodes + length left - 1; subgoal = s; next = 0 }) a

  pub grew : (v v' : View) (parent last : ℕ) (left : Word) → 1 ≤ s → s ≤ v.subgoals → Alike v' (changed_view v (enters_answer s parent last left)) → Grew v v' parent last left
  unfolding changed_view
  grew v v' parent last left low high a = record {
    nodes-are = a.nodes-same;
    answers-are = a.answers-same;
    subgoals-are = a.subgoals-same;
    N-is = a.N-same;
    A-is = a.A-same;
    node-is = λ m h. a.node-same m (subst (λ (k : ℕ). m < k) a.nodes-same h);
    own = a.subgoal-same s low high ∙ rw (eq-eqb s s refl);
    answer-is = λ b l h. a.answer-same b l h;
  }

  module _ (v v' : View) (parent last : ℕ) (left : Word) (g : Grew v v' parent last left) (R : Rooted v) (w : Word) (e : from v w ≡ stopped parent last left) (some : 1 ≤ length left) (low : 1 ≤ s) (high : s ≤ v.subgoals) where
    abbrev T : Trie
    T = with_tokens index stood (answer_trie v) parent last left

    abbrev path : ℕ → Node
    path = with_path v.node v.nodes parent last left

    T-nodes : T.nodes ≡ v'.nodes
    T-nodes = tokens-nodes index stood left (answer_trie v) parent last ∙ sym g.nodes-are

    T-at : (m : ℕ) → T.at m ≡ path m
    T-at m = tokens-at index stood left (answer_trie v) parent last m

    T-in : (m : ℕ) → m < T.nodes → m < v'.nodes
    T-in m h = subst (λ (k : ℕ). m < k) T-nodes h

    relinked : Relinked T (answer_trie v')
    relinked = record {
      nodes-same = sym T-nodes;
      tokens-same = λ m h. ap (λ (y : Node). y.token) (g.node-is m (T-in m h)) ∙ linked-token path (v.nodes + length left - 1) (v.answers + 1) m ∙ sym (ap (λ (y : Node). y.token) (T-at m));
      parents-same = λ m h. ap (λ (y : Node). y.parent) (g.node-is m (T-in m h)) ∙ linked-parent path (v.nodes + length left - 1) (v.answers + 1) m ∙ sym (ap (λ (y : Node). y.parent) (T-at m));
      children-same = λ m h. ap (λ (y : Node). y.child) (g.node-is m (T-in m h)) ∙ linked-child path (v.nodes + length left - 1) (v.answers + 1) m ∙ sym (ap (λ (y : Node). y.child) (T-at m));
      siblings-same = λ m h. ap (λ (y : Node). y.sibling) (g.node-is m (T-in m h)) ∙ linked-sibling path (v.nodes + length left - 1) (v.answers + 1) m ∙ sym (ap (λ (y : Node). y.sibling) (T-at m));
      links-held = λ m h l.
          let k : (path m).link ≤ v.answers = subst (λ (i : ℕ). (path m).link ≤ i) (tokens-links index stood left (answer_trie v) parent last) (subst (λ (y : Node). y.link ≤ T.links) (T-at m) l) in
          subst (λ (y : Node). y.link ≤ v'.answers) (sym (g.node-is m (T-in m h))) (linked-most path (v.nodes + length left - 1) (v.answers + 1) m v'.answers (omega (arith, g.answers-are)) (omega (arith, g.answers-are)));
    }

    path-keeps : Keeps index stood (answer_trie v) T
    path-keeps = given-keeps index stood (answer_trie v) r w parent last left R.few R.root_in R.root-sound e

    view-keeps : Keeps index stood (answer_trie v) (answer_trie v')
    view-keeps = keeps_then index stood path-keeps (linked-keeps index stood relinked)

    T-root : r < T.nodes
    T-root = let k = path-keeps.grows in let h = R.root_in in omega arith

    walks-on : (u : Word) → (walk_from_by Way T r u ≡ damaged → ⊥) → from v' u ≡ walk_from_by Way T r u
    walks-on u d = linked-walk index stood relinked u r T-root (path-keeps.sound-kept r R.root_in R.root-sound) d

    pub rooted_on : Rooted v'
    rooted_on = record {
      root_is = ap (λ (y : Subgoal). y.root) g.own ∙ R.root_is;
      root_in = let k = view-keeps.grows in let h = R.root_in in omega arith;
      root-sound = view-keeps.sound-kept r R.root_in R.root-sound;
      root-own = view-keeps.parent-kept r R.root_in ∙ R.root-own;
      few = let k = view-keeps.grows in let h = R.few in omega arith;
    }

    new-answer : v'.answer (v.answers + 1) ≡ record { leaf = v.nodes + length left - 1; subgoal = s; next = 0 }
    new-answer = g.answer-is (v.answers + 1) (omega arith) (omega arith) ∙ rw (eq-eqb (v.answers + 1) (v.answers + 1) refl)

    leaf-new : v.nodes + length left - 1 < v'.nodes
    leaf-new = omega (arith, g.nodes-are)

    pub last_on : sound_last v' s ≡ true
    last_on = last_made v' s (v.answers + 1) (v.nodes + length left - 1) (ap (λ (y : Subgoal). y.last) g.own) (λ z. omega arith) new-answer leaf-new low (omega (arith, g.subgoals-are))

    pub open-on : (v'.subgoal s).state ≡ (v.subgoal s).state
    open-on = ap (λ (y : Subgoal). y.state) g.own

    pub held_new : HeldAt v' w
    held_new =
        let link : (v'.node (v.nodes + length left - 1)).link ≡ v.answers + 1 = ap (λ (y : Node). y.link) (g.node-is (v.nodes + length left - 1) leaf-new) ∙ linked-here path (v.nodes + length left - 1) (v.answers + 1) in
        let there : walk_from_by Way T r w ≡ whole (v.nodes + length left - 1) = given-whole index stood (answer_trie v) r w parent last left R.few R.root_in R.root-sound e in
        record {
          leaf = v.nodes + length left - 1;
          at = walks-on w (λ d. let z : ◌≡◌ {A = ℕ} 0 1 = cc in omega arith) ∙ there;
          leaf-in = leaf-new;
          some = λ z. let n : v.answers + 1 ≡ 0 = sym link ∙ z in omega arith;
          most = omega (arith, g.answers-are, link);
          judged = ap (sound_answer v') link ∙ answer-made v' s (v.answers + 1) (v.nodes + length left - 1) new-answer leaf-new low (omega (arith, g.subgoals-are));
          ends = ap (λ (a : ℕ). (v'.answer a).leaf) link ∙ ap (λ (y : Answer). y.leaf) new-answer;
        }

    -- an answer that was there: as it was, or followed by the new one
    answer-old : (a : ℕ) → 1 ≤ a → a ≤ v.answers → (v'.answer a ≡ v.answer a) ⊎ (v'.answer a ≡ with_next (v.answer a) (v.answers + 1))
    answer-old a l h =
        let is = g.answer-is a l (omega arith) in
        let o : eqb a (v.answers + 1) ≡ false = ne_eqb _ _ (λ (z : a ≡ v.answers + 1). omega arith) in
        by_cases (eqb (v.subgoal s).last 0)
        (λ z. inl (is ∙ rw (o, z)))
        (λ z. by_cases (eqb a (v.subgoal s).last)
        (λ q. inr (is ∙ rw (o, z, q) (ap (λ (b : ℕ). with_next (v.answer b) (v.answers + 1)) (sym (eqb-true _ _ q)))))
        (λ q. inl (is ∙ rw (o, z, q))))

    sound-old : (a : ℕ) → a ≤ v.answers → sound_answer v a ≡ true → (v'.answer a ≡ v.answer a) ⊎ (v'.answer a ≡ with_next (v.answer a) (v.answers + 1)) → sound_answer v' a ≡ true
    sound-old a h j (inl q) =
        ap (answer_sound v'.nodes v'.subgoals v'.answers a) q ∙ ap (λ (k : ℕ). answer_sound v'.nodes k v'.answers a (v.answer a)) g.subgoals-are
        ∙ answer-kept v.nodes v'.nodes v.subgoals v.answers v'.answers a (v.answer a) (omega (arith, g.nodes-are)) (omega (arith, g.answers-are)) j
    sound-old a h j (inr q) =
        ap (answer_sound v'.nodes v'.subgoals v'.answers a) q ∙ ap (λ (k : ℕ). answer_sound v'.nodes k v'.answers a (with_next (v.answer a) (v.answers + 1))) g.subgoals-are
        ∙ ap (λ (k : ℕ). answer_sound v'.nodes v.subgoals k a (with_next (v.answer a) (v.answers + 1))) g.answers-are
        ∙ answer-followed v.nodes v'.nodes v.subgoals v.answers a (v.answer a) (omega (arith, g.nodes-are)) h j

    leaf-old : (a : ℕ) → (v'.answer a ≡ v.answer a) ⊎ (v'.answer a ≡ with_next (v.answer a) (v.answers + 1)) → (v'.answer a).leaf ≡ (v.answer a).leaf
    leaf-old a (inl q) = ap (λ (y : Answer). y.leaf) q
    leaf-old a (inr q) = ap (λ (y : Answer). y.leaf) q

    pub held_on : (u : Word) → HeldAt v u → HeldAt v' u
    held_on u h =
        let b : h.leaf < v.nodes = h.leaf-in in
        let link : (v'.node h.leaf).link ≡ (v.node h.leaf).link =
        ap (λ (y : Node). y.link) (g.node-is h.leaf (omega (arith, g.nodes-are))) ∙ linked-other path (v.nodes + length left - 1) (v.answers + 1) h.leaf (λ z. omega arith)
        ∙ path-link left v.node v.nodes parent last h.leaf b in
        let old = answer-old (v.node h.leaf).link (above (v.node h.leaf).link h.some) h.most in
        record {
          leaf = h.leaf;
          at = walk_kept index stood view-keeps u r h.leaf R.root_in R.root-sound h.at;
          leaf-in = omega (arith, g.nodes-are);
          some = λ z. h.some (sym link ∙ z);
          most = omega (arith, g.answers-are, link, h.most);
          judged = ap (sound_answer v') link ∙ sound-old (v.node h.leaf).link h.most h.judged old;
          ends = ap (λ (a : ℕ). (v'.answer a).leaf) link ∙ leaf-old (v.node h.leaf).link old ∙ h.ends;
        }
      where
        above : (n : ℕ) → (n ≡ 0 → ⊥) → 1 ≤ n
        above n z = omega arith

    not-hurt : (u us : List ℕ) (x : Walk) → After index stood w u us x → x ≡ damaged → ⊥
    unfolding After
    not-hurt u us (whole j) a d = let z : ◌≡◌ {A = ℕ} 0 1 = cc in omega arith
    not-hurt u us (stopped p l vs) a d = let z : ◌≡◌ {A = ℕ} 0 1 = cc in omega arith
    not-hurt u us damaged a d = a

    pub after_on : (u : Word) (q l : ℕ) (us : List ℕ) → from v u ≡ stopped q l us → After index stood w u us (from v' u)
    after_on u q l us d =
        let a = given-after index stood (answer_trie v) r w parent last left R.few R.root_in R.root-sound e u q l us d in
        subst (After index stood w u us) (sym (walks-on u (not-hurt u us (walk_from_by Way T r u) a))) a
