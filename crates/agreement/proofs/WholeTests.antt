-- The check of a whole space as facts: what each test says, and back.
use Prim.Native.Nat.{ℕ, zero, suc, ◌+◌, ◌-◌, ◌≤◌, ◌<◌}
use mathlib.Core.Path.{◌≡◌, refl, sym, ap, ◌∙◌}
use mathlib.Core.Bool.{Bool, true, false, not, ◌&&◌, ◌||◌, true≢false, false≢true, or-true}
use mathlib.Core.List.{[]}
use native.Mathlib.Omega.{arith}
use lib.Dec.{eqb, leb, ltb}
use lib.ListN.{length}
use borrow.Author.Tests.{eqb-true, eqb-false, eq-eqb, ne_eqb, ltb-true, leb-true, lt-ltb, le-leb, not-true}
use Rattle.basis.specs.Choice.{pick}
use Rattle.basis.proofs.Cases.{by_cases}
use Rattle.forms.specs.Numbering.{met}
use Rattle.plain.specs.Words.{Word}
use Rattle.plain.specs.Coding.{Coding, predicate}
use Rattle.plain.specs.Table.{after}
use Rattle.plain.proofs.WordLaws.{or_right}
use Rattle.space.proofs.JudgingLaws.{NodeBounds, node-bounds, node-sound}
use Rattle.trie.specs.Siblings.{sound, search_children}
use Rattle.trie.specs.declared.Search.{Search}
use Rattle.trie.specs.declared.Search.TheVariants.{Found, Last, Damaged}
use Rattle.trie.specs.Paths.{Path, none, tokens, longest}
use Rattle.store.specs.Views.{View}
use Rattle.agreement.specs.Whole.{every_below, word_of, subgoal_path, answer_path, path_passes, ends_at, all_nodes, root_whole, child_whole, link_whole, node_whole, ends_whole, led_up, subgoal_whole, answer_whole, chains, whole_view}
use Rattle.agreement.proofs.TrieNodes.{par, next_of}

-- ---- tests

pub and_both : (a b : Bool) → (a && b) ≡ true → (a ≡ true) × (b ≡ true)
and_both true b e = (refl, e)
and_both false b e = absurd (false≢true e)

pub and-of : {a b : Bool} → a ≡ true → b ≡ true → (a && b) ≡ true
and-of e f = rw (e, f)

pub every-below : (test : ℕ → Bool) (n : ℕ) → every_below test n ≡ true → (i : ℕ) → i < n → test i ≡ true
unfolding every_below
every-below test zero e i h = absurd (omega arith)
every-below test (suc n) e i h =
    let k = and_both (every_below test n) (test n) e in
    by_cases (eqb i n)
    (λ q. let z : i ≡ n = eqb-true i n q in rw z k.1)
    (λ q. every-below test n k.0 i (lower i n h (eqb-false i n q)))
  where
    lower : (i n : ℕ) → i < suc n → (i ≡ n → ⊥) → i < n
    lower i n h k = omega arith

pub below-every : (test : ℕ → Bool) (n : ℕ) → ((i : ℕ) → i < n → test i ≡ true) → every_below test n ≡ true
unfolding every_below
below-every test zero f = refl
below-every test (suc n) f = and-of (below-every test n (λ i h. f i (omega arith))) (f n (omega arith))

-- ---- facts

-- a link leads to a record whose leaf is the node
pub data Leads (v : View) (i : ℕ) : Type 0 where
  to-subgoal : (v.node i).link ≤ v.subgoals → (v.subgoal (v.node i).link).leaf ≡ i → Leads v i
  to-answer : (v.node i).link ≤ v.answers → (v.answer (v.node i).link).leaf ≡ i → Leads v i

pub record NodeFacts (v : View) (i : ℕ) : Type 0 where
  pub lower : par v.node i ≤ i
  pub child : (v.node i).child ≡ after (par v.node) v.nodes i i
  pub sibling : (v.node i).sibling ≡ next_of v.node v.nodes i
  pub leads : ((v.node i).link ≡ 0 → ⊥) → Leads v i
  pub root-token : par v.node i ≡ i → (v.node i).token ≡ 0
  pub root-own : par v.node i ≡ i → 0 < i → (0 < (v.node (i - 1)).link) × ((v.node (i - 1)).link ≤ v.subgoals) × ((v.subgoal (v.node (i - 1)).link).root ≡ i)
  pub token-own : (par v.node i ≡ i → ⊥) → (j : ℕ) → j < v.nodes → i < j → par v.node j ≡ par v.node i → (v.node j).token ≡ (v.node i).token → ⊥
  pub lives : (par v.node i ≡ i → ⊥) → (v.node i).link ≡ 0 → (v.node i).child ≡ 0 → ⊥

pub data LastFacts (v : View) (s first last : ℕ) : Type 0 where
  none_last : last ≡ 0 → first ≡ 0 → LastFacts v s first last
  has_last : 0 < last → last ≤ v.answers → (v.answer last).subgoal ≡ s → (v.answer last).next ≡ 0 → LastFacts v s first last

pub record SubgoalFacts (c : Coding) (v : View) (s : ℕ) : Type 0 where
  pub root_in : (v.subgoal s).root < v.nodes
  pub root-next : (v.subgoal s).root ≡ suc (v.subgoal s).leaf
  pub root-own : par v.node (v.subgoal s).root ≡ (v.subgoal s).root
  pub linked : (v.node (v.subgoal s).leaf).link ≡ s
  pub state : (v.subgoal s).state ≤ 1
  pub path : subgoal_path v s ≡ tokens (word_of (subgoal_path v s))
  pub legal : c.legal 1 (word_of (subgoal_path v s)) ≡ true
  pub begins : predicate (word_of (subgoal_path v s)) ≡ true
  pub variables : length (met [] (word_of (subgoal_path v s))) ≡ (v.subgoal s).variables
  pub first : (v.subgoal s).first ≡ after (λ a. (v.answer a).subgoal) (suc v.answers) 0 s
  pub last : LastFacts v s (v.subgoal s).first (v.subgoal s).last
  pub led : led_up c v longest s (v.subgoal s).leaf ≡ true

pub record AnswerFacts (c : Coding) (v : View) (a : ℕ) : Type 0 where
  pub low : 0 < (v.answer a).subgoal
  pub high : (v.answer a).subgoal ≤ v.subgoals
  pub leaf-in : (v.answer a).leaf < v.nodes
  pub linked : (v.node (v.answer a).leaf).link ≡ a
  pub path : answer_path v a ≡ tokens (word_of (answer_path v a))
  pub legal : c.legal (v.subgoal (v.answer a).subgoal).variables (word_of (answer_path v a)) ≡ true
  pub next : (v.answer a).next ≡ after (λ b. (v.answer b).subgoal) (suc v.answers) a (v.answer a).subgoal

-- what follows for the whole (WholeChains.antt)
pub record Whole (c : Coding) (v : View) : Type 0 where
  pub node : (i : ℕ) → i < v.nodes → NodeFacts v i
  pub subgoal : (s : ℕ) → 0 < s → s ≤ v.subgoals → SubgoalFacts c v s
  pub answer : (a : ℕ) → 0 < a → a ≤ v.answers → AnswerFacts c v a

-- ---- what each test says by itself

pub record NodeLocal (c : Coding) (v : View) (i : ℕ) : Type 0 where
  pub judged : NodeBounds v.nodes (v.subgoals + v.answers) i (v.node i)
  pub child-own : ((v.node i).child ≡ 0 → ⊥) → par v.node (v.node i).child ≡ i
  pub leads : ((v.node i).link ≡ 0 → ⊥) → Leads v i
  pub root-token : par v.node i ≡ i → (v.node i).token ≡ 0
  pub root-sibling : par v.node i ≡ i → (v.node i).sibling ≡ 0
  pub root-own : par v.node i ≡ i → 0 < i → (0 < (v.node (i - 1)).link) × ((v.node (i - 1)).link ≤ v.subgoals) × ((v.subgoal (v.node (i - 1)).link).root ≡ i)
  pub sibling-own : (par v.node i ≡ i → ⊥) → ((v.node i).sibling ≡ 0 → ⊥) → par v.node (v.node i).sibling ≡ par v.node i
  pub found : (par v.node i ≡ i → ⊥) → search_children (all_nodes c v) (par v.node i) (v.node i).token ≡ Found i
  pub lives : (par v.node i ≡ i → ⊥) → (v.node i).link ≡ 0 → (v.node i).child ≡ 0 → ⊥

pub data EndsFacts (v : View) (s : ℕ) : Type 0 where
  no-ends : (v.subgoal s).last ≡ 0 → (v.subgoal s).first ≡ 0 → EndsFacts v s
  both_ends : 0 < (v.subgoal s).first → (v.subgoal s).first ≤ v.answers → (v.answer (v.subgoal s).first).subgoal ≡ s
      → 0 < (v.subgoal s).last → (v.subgoal s).last ≤ v.answers → (v.answer (v.subgoal s).last).subgoal ≡ s → (v.answer (v.subgoal s).last).next ≡ 0 → EndsFacts v s

pub record SubgoalLocal (c : Coding) (v : View) (s : ℕ) : Type 0 where
  pub root_in : (v.subgoal s).root < v.nodes
  pub root-next : (v.subgoal s).root ≡ suc (v.subgoal s).leaf
  pub root-own : par v.node (v.subgoal s).root ≡ (v.subgoal s).root
  pub linked : (v.node (v.subgoal s).leaf).link ≡ s
  pub state : (v.subgoal s).state ≤ 1
  pub path : subgoal_path v s ≡ tokens (word_of (subgoal_path v s))
  pub legal : c.legal 1 (word_of (subgoal_path v s)) ≡ true
  pub begins : predicate (word_of (subgoal_path v s)) ≡ true
  pub variables : length (met [] (word_of (subgoal_path v s))) ≡ (v.subgoal s).variables
  pub ends : EndsFacts v s
  pub led : led_up c v longest s (v.subgoal s).leaf ≡ true

pub record AnswerLocal (c : Coding) (v : View) (a : ℕ) : Type 0 where
  pub low : 0 < (v.answer a).subgoal
  pub high : (v.answer a).subgoal ≤ v.subgoals
  pub leaf-in : (v.answer a).leaf < v.nodes
  pub linked : (v.node (v.answer a).leaf).link ≡ a
  pub path : answer_path v a ≡ tokens (word_of (answer_path v a))
  pub legal : c.legal (v.subgoal (v.answer a).subgoal).variables (word_of (answer_path v a)) ≡ true
  pub next-own : ((v.answer a).next ≡ 0 → ⊥) → (a < (v.answer a).next) × ((v.answer a).next ≤ v.answers) × ((v.answer (v.answer a).next).subgoal ≡ (v.answer a).subgoal)

pub record Local (c : Coding) (v : View) : Type 0 where
  pub node : (i : ℕ) → i < v.nodes → NodeLocal c v i
  pub subgoal : (s : ℕ) → 0 < s → s ≤ v.subgoals → SubgoalLocal c v s
  pub answer : (a : ℕ) → 0 < a → a ≤ v.answers → AnswerLocal c v a
  pub count : length (chains c v v.subgoals) ≡ v.answers

-- ---- from the tests

path-facts : (p : Path) (test : Word → Bool) → path_passes p test ≡ true → (p ≡ tokens (word_of p)) × (test (word_of p) ≡ true)
path-facts none test e = absurd (false≢true e)
path-facts (tokens w) test e = (refl, e)

or_left : (a b : Bool) → (a || b) ≡ true → b ≡ false → a ≡ true
or_left true b e f = refl
or_left false b e f = absurd (true≢false (sym e ∙ f))

not-and : (a b : Bool) → not (a && b) ≡ true → a ≡ true → b ≡ true → ⊥
not-and a b e f g = true≢false (sym (and-of f g) ∙ not-true (a && b) e)

unless-zero : (x : ℕ) (b : Bool) → pick (eqb x 0) true b ≡ true → (x ≡ 0 → ⊥) → b ≡ true
unless-zero x b e ne = rw (ne_eqb x 0 ne) at e

ends-facts : (i : ℕ) (x : Search) → ends_at i x ≡ true → x ≡ Found i
ends-facts i (Found j) e = ap Found (eqb-true j i e)
ends-facts i (Last j) e = absurd (false≢true e)
ends-facts i Damaged e = absurd (false≢true e)

some_number : (n : ℕ) → (n ≡ 0 → ⊥) → 0 < n
some_number n h = omega arith

module _ (c : Coding) (v : View) where
  link-facts : (i : ℕ) → link_whole c v i ≡ true → ((v.node i).link ≡ 0 → ⊥) → Leads v i
  unfolding link_whole
  link-facts i e ne =
      let k : ℕ = (v.node i).link in
      by_cases (leb k v.answers && eqb (v.answer k).leaf i)
      (λ q. let b = and_both (leb k v.answers) (eqb (v.answer k).leaf i) q in to-answer (leb-true _ _ b.0) (eqb-true _ _ b.1))
      (λ q.
      let f : (eqb k 0 || (leb k v.subgoals && eqb (v.subgoal k).leaf i)) ≡ true = or_left _ _ e q in
      let b = and_both (leb k v.subgoals) (eqb (v.subgoal k).leaf i) (or_right (eqb k 0) _ f (ne_eqb k 0 ne)) in
      to-subgoal (leb-true _ _ b.0) (eqb-true _ _ b.1))

  root-facts : (i : ℕ) → root_whole c v i ≡ true → ((v.node i).token ≡ 0) × ((v.node i).sibling ≡ 0)
      × (0 < i → (0 < (v.node (i - 1)).link) × ((v.node (i - 1)).link ≤ v.subgoals) × ((v.subgoal (v.node (i - 1)).link).root ≡ i))
  unfolding root_whole
  root-facts i e =
      let s : ℕ = (v.node (i - 1)).link in
      let t = and_both (eqb (v.node i).token 0 && eqb (v.node i).sibling 0) (eqb i 0 || (ltb 0 s && leb s v.subgoals && eqb (v.subgoal s).root i)) e in
      let u = and_both (eqb (v.node i).token 0) (eqb (v.node i).sibling 0) t.0 in (
        eqb-true _ _ u.0,
        eqb-true _ _ u.1,
        λ pos.
            let a = and_both (ltb 0 s && leb s v.subgoals) (eqb (v.subgoal s).root i) (or_right (eqb i 0) _ t.1 (ne_eqb i 0 (λ z. omega arith))) in
            let b = and_both (ltb 0 s) (leb s v.subgoals) a.0 in
            (ltb-true _ _ b.0, leb-true _ _ b.1, eqb-true _ _ a.1),
      )

  child-facts : (i : ℕ) → child_whole c v i ≡ true
      → (((v.node i).sibling ≡ 0 → ⊥) → par v.node (v.node i).sibling ≡ par v.node i)
      × (search_children (all_nodes c v) (par v.node i) (v.node i).token ≡ Found i)
      × ((v.node i).link ≡ 0 → (v.node i).child ≡ 0 → ⊥)
  unfolding child_whole
  child-facts i e =
      let k = and_both _ (not (eqb (v.node i).link 0 && eqb (v.node i).child 0)) e in
      let l = and_both (pick (eqb (v.node i).sibling 0) true (eqb (par v.node (v.node i).sibling) (par v.node i))) (ends_at i (search_children (all_nodes c v) (par v.node i) (v.node i).token)) k.0 in (
        (λ ne. eqb-true _ _ (unless-zero (v.node i).sibling _ l.0 ne)),
        ends-facts i _ l.1,
        (λ p q. not-and (eqb (v.node i).link 0) (eqb (v.node i).child 0) k.1 (eq-eqb _ _ p) (eq-eqb _ _ q)),
      )

  pub node-local : (i : ℕ) → node_whole c v i ≡ true → NodeLocal c v i
  unfolding node_whole
  node-local i e =
      let a = and_both _ (pick (eqb (par v.node i) i) (root_whole c v i) (child_whole c v i)) e in
      let b = and_both _ (link_whole c v i) a.0 in
      let d = and_both (sound (all_nodes c v) i) (pick (eqb (v.node i).child 0) true (eqb (par v.node (v.node i).child) i)) b.0 in
      let root : par v.node i ≡ i → root_whole c v i ≡ true = λ p. rw (eq-eqb (par v.node i) i p) at a.1 in
      let kid : (par v.node i ≡ i → ⊥) → child_whole c v i ≡ true = λ p. rw (ne_eqb (par v.node i) i p) at a.1 in
      record {
        judged = node-bounds v.nodes (v.subgoals + v.answers) i (v.node i) d.0;
        child-own = λ ne. eqb-true _ _ (unless-zero (v.node i).child _ d.1 ne);
        leads = link-facts i b.1;
        root-token = λ p. (root-facts i (root p)).0;
        root-sibling = λ p. (root-facts i (root p)).1;
        root-own = λ p. (root-facts i (root p)).2;
        sibling-own = λ p. (child-facts i (kid p)).0;
        found = λ p. (child-facts i (kid p)).1;
        lives = λ p. (child-facts i (kid p)).2;
      }

  chain-ends : (s : ℕ) → ends_whole c v s ≡ true → EndsFacts v s
  unfolding ends_whole
  chain-ends s e =
      let first : ℕ = (v.subgoal s).first in
      let last : ℕ = (v.subgoal s).last in
      by_cases (eqb last 0)
      (λ z. no-ends (eqb-true _ _ z) (eqb-true _ _ (rw z at e)))
      (λ z.
      let f : (ltb 0 first && leb first v.answers && eqb (v.answer first).subgoal s && leb last v.answers && eqb (v.answer last).subgoal s && eqb (v.answer last).next 0) ≡ true = rw z at e in
      let a = and_both _ _ f in
      let b = and_both _ _ a.0 in
      let d = and_both _ _ b.0 in
      let g = and_both _ _ d.0 in
      let h = and_both _ _ g.0 in
      both_ends (ltb-true _ _ h.0) (leb-true _ _ h.1) (eqb-true _ _ g.1) (some_number last (eqb-false last 0 z)) (leb-true _ _ d.1) (eqb-true _ _ b.1) (eqb-true _ _ a.1))

  pub subgoal-local : (s : ℕ) → subgoal_whole c v s ≡ true → SubgoalLocal c v s
  unfolding subgoal_whole
  subgoal-local s e =
      let l = and_both _ (led_up c v longest s (v.subgoal s).leaf) e in
      let a = and_both _ _ l.0 in
      let d = and_both _ _ a.0 in
      let f = and_both _ _ d.0 in
      let g = and_both _ _ f.0 in
      let h = and_both _ _ g.0 in
      let k = and_both _ _ h.0 in
      let p = path-facts (subgoal_path v s) _ d.1 in
      let q = and_both _ _ p.1 in
      let r = and_both _ _ q.0 in
      record {
        root_in = ltb-true _ _ k.0;
        root-next = eqb-true _ _ k.1;
        root-own = eqb-true _ _ h.1;
        linked = eqb-true _ _ g.1;
        state = leb-true _ _ f.1;
        path = p.0;
        legal = r.0;
        begins = r.1;
        variables = eqb-true _ _ q.1;
        ends = chain-ends s a.1;
        led = l.1;
      }

  pub answer-local : (a : ℕ) → answer_whole c v a ≡ true → AnswerLocal c v a
  unfolding answer_whole
  answer-local x e =
      let next : ℕ = (v.answer x).next in
      let a = and_both _ (pick (eqb next 0) true (ltb x next && leb next v.answers && eqb (v.answer next).subgoal (v.answer x).subgoal)) e in
      let b = and_both _ _ a.0 in
      let d = and_both _ _ b.0 in
      let f = and_both _ _ d.0 in
      let g = and_both _ _ f.0 in
      let p = path-facts (answer_path v x) _ b.1 in
      record {
        low = ltb-true _ _ g.0;
        high = leb-true _ _ g.1;
        leaf-in = ltb-true _ _ f.1;
        linked = eqb-true _ _ d.1;
        path = p.0;
        legal = p.1;
        next-own = λ ne.
            let k = and_both _ _ (unless-zero next _ a.1 ne) in
            let l = and_both _ _ k.0 in
            (ltb-true _ _ l.0, leb-true _ _ l.1, eqb-true _ _ k.1);
      }

  pub from_one : (test : ℕ → Bool) (n : ℕ) → every_below (λ i. test (suc i)) n ≡ true → (s : ℕ) → 0 < s → s ≤ n → test s ≡ true
  from_one test n e zero h k = absurd (omega arith)
  from_one test n e (suc s) h k = every-below (λ i. test (suc i)) n e s k

  pub whole-local : whole_view c v ≡ true → Local c v
  unfolding whole_view
  whole-local e =
      let z = and_both _ (eqb (length (chains c v v.subgoals)) v.answers) e in
      let a = and_both _ (every_below (λ i. answer_whole c v (suc i)) v.answers) z.0 in
      let b = and_both (every_below (node_whole c v) v.nodes) (every_below (λ i. subgoal_whole c v (suc i)) v.subgoals) a.0 in
      record {
        node = λ i h. node-local i (every-below (node_whole c v) v.nodes b.0 i h);
        subgoal = λ s h k. subgoal-local s (from_one (subgoal_whole c v) v.subgoals b.1 s h k);
        answer = λ s h k. answer-local s (from_one (answer_whole c v) v.answers a.1 s h k);
        count = eqb-true _ _ z.1;
      }

-- ---- to the tests

path-test : (p : Path) (test : Word → Bool) → p ≡ tokens (word_of p) → test (word_of p) ≡ true → path_passes p test ≡ true
path-test none test e f = let z : ◌≡◌ {A = ℕ} 0 1 = cc in absurd (omega arith)
path-test (tokens w) test e f = f

not-of : (b : Bool) → (b ≡ true → ⊥) → not b ≡ true
not-of true h = absurd (h refl)
not-of false h = refl

or-first : (a b : Bool) → a ≡ true → (a || b) ≡ true
or-first a b e = rw e

or-second : (a b : Bool) → b ≡ true → (a || b) ≡ true
or-second a b e = rw (e, or-true a)

zero_or : (x : ℕ) (b : Bool) → ((x ≡ 0 → ⊥) → b ≡ true) → pick (eqb x 0) true b ≡ true
zero_or x b f = by_cases (eqb x 0) (λ z. rw z) (λ z. rw z (f (eqb-false x 0 z)))

ends-test : (i : ℕ) (x : Search) → x ≡ Found i → ends_at i x ≡ true
ends-test i x e = rw e (eq-eqb i i refl)

module _ (c : Coding) (v : View) where
  link-test : (i : ℕ) → (((v.node i).link ≡ 0 → ⊥) → Leads v i) → link_whole c v i ≡ true
  unfolding link_whole
  link-test i f =
      let k : ℕ = (v.node i).link in
      let a : Bool = leb k v.subgoals && eqb (v.subgoal k).leaf i in
      let b : Bool = leb k v.answers && eqb (v.answer k).leaf i in
      by_cases (eqb k 0)
      (λ z. or-first (eqb k 0 || a) b (or-first (eqb k 0) a z))
      (λ z. go (f (eqb-false _ _ z)))
    where
      go : Leads v i → (eqb (v.node i).link 0 || (leb (v.node i).link v.subgoals && eqb (v.subgoal (v.node i).link).leaf i) || (leb (v.node i).link v.answers && eqb (v.answer (v.node i).link).leaf i)) ≡ true
      go (to-subgoal l e) = or-first _ _ (or-second (eqb (v.node i).link 0) (leb (v.node i).link v.subgoals && eqb (v.subgoal (v.node i).link).leaf i) (and-of (le-leb _ _ l) (eq-eqb _ _ e)))
      go (to-answer l e) = or-second (eqb (v.node i).link 0 || (leb (v.node i).link v.subgoals && eqb (v.subgoal (v.node i).link).leaf i)) (leb (v.node i).link v.answers && eqb (v.answer (v.node i).link).leaf i) (and-of (le-leb _ _ l) (eq-eqb _ _ e))

  root-test : (i : ℕ) → (v.node i).token ≡ 0 → (v.node i).sibling ≡ 0
      → (0 < i → (0 < (v.node (i - 1)).link) × ((v.node (i - 1)).link ≤ v.subgoals) × ((v.subgoal (v.node (i - 1)).link).root ≡ i)) → root_whole c v i ≡ true
  unfolding root_whole
  root-test i p q f = and-of (and-of (eq-eqb _ _ p) (eq-eqb _ _ q)) (by_cases (eqb i 0)
      (λ z. or-first (eqb i 0) _ z)
      (λ z. let g = f (some_number i (eqb-false i 0 z)) in or-second (eqb i 0) _ (and-of (and-of (lt-ltb _ _ g.0) (le-leb _ _ g.1)) (eq-eqb _ _ g.2))))

  child-test : (i : ℕ) → (((v.node i).sibling ≡ 0 → ⊥) → par v.node (v.node i).sibling ≡ par v.node i) → search_children (all_nodes c v) (par v.node i) (v.node i).token ≡ Found i
      → ((v.node i).link ≡ 0 → (v.node i).child ≡ 0 → ⊥) → child_whole c v i ≡ true
  unfolding child_whole
  child-test i f s g =
      and-of (and-of
      (zero_or (v.node i).sibling _ (λ ne. eq-eqb _ _ (f ne)))
      (ends-test i _ s))
      (not-of (eqb (v.node i).link 0 && eqb (v.node i).child 0) (λ e. let a = and_both (eqb (v.node i).link 0) (eqb (v.node i).child 0) e in g (eqb-true _ _ a.0) (eqb-true _ _ a.1)))

  kind-test : (i : ℕ) → NodeLocal c v i → pick (eqb (par v.node i) i) (root_whole c v i) (child_whole c v i) ≡ true
  kind-test i f = by_cases (eqb (par v.node i) i)
      (λ p. let q : par v.node i ≡ i = eqb-true _ _ p in rw p (root-test i (f.root-token q) (f.root-sibling q) (f.root-own q)))
      (λ p. let q : par v.node i ≡ i → ⊥ = eqb-false _ _ p in rw p (child-test i (f.sibling-own q) (f.found q) (f.lives q)))

  node-test : (i : ℕ) → NodeLocal c v i → node_whole c v i ≡ true
  unfolding node_whole
  node-test i f =
      and-of (and-of (and-of
      (node-sound v.nodes (v.subgoals + v.answers) i (v.node i) f.judged)
      (zero_or (v.node i).child _ (λ ne. eq-eqb _ _ (f.child-own ne))))
      (link-test i f.leads))
      (kind-test i f)

  ends-test-of : (s : ℕ) → EndsFacts v s → ends_whole c v s ≡ true
  unfolding ends_whole
  ends-test-of s (no-ends p q) = rw (eq-eqb (v.subgoal s).last 0 p) (eq-eqb _ _ q)
  ends-test-of s (both_ends a b d p q o z) =
      rw (ne_eqb (v.subgoal s).last 0 (λ e. omega arith))
      (and-of (and-of (and-of (and-of (and-of (lt-ltb _ _ a) (le-leb _ _ b)) (eq-eqb _ _ d)) (le-leb _ _ q)) (eq-eqb _ _ o)) (eq-eqb _ _ z))

  subgoal-test : (s : ℕ) → SubgoalLocal c v s → subgoal_whole c v s ≡ true
  unfolding subgoal_whole
  subgoal-test s f =
      and-of (and-of (and-of (and-of (and-of (and-of (and-of
      (lt-ltb _ _ f.root_in)
      (eq-eqb _ _ f.root-next))
      (eq-eqb _ _ f.root-own))
      (eq-eqb _ _ f.linked))
      (le-leb _ _ f.state))
      (path-test (subgoal_path v s) (λ w. c.legal 1 w && predicate w && eqb (length (met [] w)) (v.subgoal s).variables) f.path
      (and-of (and-of f.legal f.begins) (eq-eqb _ _ f.variables))))
      (ends-test-of s f.ends))
      f.led

  answer-test : (a : ℕ) → AnswerLocal c v a → answer_whole c v a ≡ true
  unfolding answer_whole
  answer-test a f =
      and-of (and-of (and-of (and-of (and-of
      (lt-ltb _ _ f.low)
      (le-leb _ _ f.high))
      (lt-ltb _ _ f.leaf-in))
      (eq-eqb _ _ f.linked))
      (path-test (answer_path v a) (λ w. c.legal (v.subgoal (v.answer a).subgoal).variables w) f.path f.legal))
      (zero_or (v.answer a).next _ (λ ne. let k = f.next-own ne in and-of (and-of (lt-ltb _ _ k.0) (le-leb _ _ k.1)) (eq-eqb _ _ k.2)))

  pub local-whole : Local c v → whole_view c v ≡ true
  unfolding whole_view
  local-whole W =
      and-of (and-of (and-of
      (below-every (node_whole c v) v.nodes (λ i h. node-test i (W.node i h)))
      (below-every (λ i. subgoal_whole c v (suc i)) v.subgoals (λ i h. subgoal-test (suc i) (W.subgoal (suc i) (omega arith) h))))
      (below-every (λ i. answer_whole c v (suc i)) v.answers (λ i h. answer-test (suc i) (W.answer (suc i) (omega arith) h))))
      (eq-eqb _ _ W.count)
