-- A law for each case of judging.
use Rattle.std.specs.Prelude.{None, Some}
use Prim.Native.Nat.{ℕ, ◌+◌, ◌<◌, ◌≤◌}
use mathlib.Core.Path.{◌≡◌, refl}
use mathlib.Core.Bool.{Bool, true, false, not, ◌&&◌}
use lib.Dec.{eqb, leb, ltb}
use borrow.Author.Tests.{lt-ltb, le-ltb, le-leb, lt-leb, eq-eqb, ne_eqb}
use Rattle.space.specs.Judging.{follows, both_or_neither, node_sound, subgoal_sound, answer_sound, read_node, read_subgoal, read_answer}
use Rattle.space.specs.declared.Node.{Node}
use Rattle.space.specs.declared.Subgoal.{Subgoal}
use Rattle.space.specs.declared.Answer.{Answer}

module _ (bound n x : ℕ) where
  pub follows-none : x ≡ 0 → true ≡ follows bound n x
  unfolding follows
  follows-none e = simp (eq-eqb _ _ e)

  pub follows-below : (x ≡ 0 → ⊥) → x ≤ n → false ≡ follows bound n x
  unfolding follows
  follows-below e h = simp (ne_eqb _ _ e, le-ltb _ _ h)

  pub follows-above : (x ≡ 0 → ⊥) → n < x → ltb x bound ≡ follows bound n x
  unfolding follows
  follows-above e h = simp (ne_eqb _ _ e, lt-ltb _ _ h)

pub none-or-both : (first last : ℕ) → first ≡ 0 → eqb last 0 ≡ both_or_neither first last
unfolding both_or_neither
none-or-both first last e = simp (eq-eqb _ _ e)

pub both-or-none : (first last : ℕ) → (first ≡ 0 → ⊥) → not (eqb last 0) ≡ both_or_neither first last
unfolding both_or_neither
both-or-none first last e = simp (ne_eqb _ _ e)

module _ (nodes links n : ℕ) (y : Node) where
  pub node-child : follows nodes n y.child ≡ false → false ≡ node_sound nodes links n y
  unfolding node_sound
  node-child e = simp e

  module _ (e : follows nodes n y.child ≡ true) where
    pub node-sibling : follows nodes n y.sibling ≡ false → false ≡ node_sound nodes links n y
    unfolding node_sound
    node-sibling f = simp (e, f)

    module _ (f : follows nodes n y.sibling ≡ true) where
      pub node-parent : n < y.parent → false ≡ node_sound nodes links n y
      unfolding node_sound
      node-parent g = simp (e, f, lt-leb _ _ g)

      pub node-link : y.parent ≤ n → leb y.link links ≡ node_sound nodes links n y
      unfolding node_sound
      node-link g = simp (e, f, le-leb _ _ g)

-- ---- a node, by its two halves

pub both-tests : (p n l links : ℕ) → p ≤ n → leb l links ≡ (leb p n && leb l links)
both-tests p n l links g = simp (le-leb _ _ g)

pub first-fails : (p n l links : ℕ) → n < p → false ≡ (leb p n && leb l links)
first-fails p n l links g = simp (lt-leb _ _ g)

pub and_second : (a b : Bool) → a ≡ true → b ≡ (a && b)
and_second a b e = rw e refl

pub and_none : (a b : Bool) → a ≡ false → false ≡ (a && b)
and_none a b e = rw e refl

and-all : (a b c : Bool) → a ≡ true → (b && c) ≡ (a && b && c)
and-all a b c e = rw e refl

and_first : (a b c : Bool) → a ≡ false → (a && b && c) ≡ false
and_first a b c e = rw e refl

module _ (nodes links n : ℕ) (y : Node) where
  abbrev pub node_rises : Bool
  node_rises = leb y.parent n && leb y.link links

  abbrev pub node_branches : Bool
  node_branches = follows nodes n y.child && follows nodes n y.sibling

  pub node-halves : node_branches ≡ true → node_rises ≡ node_sound nodes links n y
  unfolding node_sound
  node-halves e = and-all node_branches (leb y.parent n) (leb y.link links) e

  pub node-unsound-below : node_branches ≡ false → node_sound nodes links n y ≡ false
  unfolding node_sound
  node-unsound-below e = and_first node_branches (leb y.parent n) (leb y.link links) e

module _ (nodes answers : ℕ) (y : Subgoal) where
  pub subgoal-leaf : nodes ≤ y.leaf → false ≡ subgoal_sound nodes answers y
  unfolding subgoal_sound
  subgoal-leaf h = simp (le-ltb _ _ h)

  module _ (h : y.leaf < nodes) where
    pub subgoal-root : nodes ≤ y.root → false ≡ subgoal_sound nodes answers y
    unfolding subgoal_sound
    subgoal-root i = simp (lt-ltb _ _ h, le-ltb _ _ i)

    module _ (i : y.root < nodes) where
      pub subgoal-variables : 32 < y.variables → false ≡ subgoal_sound nodes answers y
      unfolding subgoal_sound
      subgoal-variables j = simp (lt-ltb _ _ h, lt-ltb _ _ i, lt-leb _ _ j)

      module _ (j : y.variables ≤ 32) where
        pub subgoal-state : 1 < y.state → false ≡ subgoal_sound nodes answers y
        unfolding subgoal_sound
        subgoal-state k = simp (lt-ltb _ _ h, lt-ltb _ _ i, le-leb _ _ j, lt-leb _ _ k)

        module _ (k : y.state ≤ 1) where
          pub subgoal-first : answers < y.first → false ≡ subgoal_sound nodes answers y
          unfolding subgoal_sound
          subgoal-first l = simp (lt-ltb _ _ h, lt-ltb _ _ i, le-leb _ _ j, le-leb _ _ k, lt-leb _ _ l)

          module _ (l : y.first ≤ answers) where
            pub subgoal-last : answers < y.last → false ≡ subgoal_sound nodes answers y
            unfolding subgoal_sound
            subgoal-last m = simp (lt-ltb _ _ h, lt-ltb _ _ i, le-leb _ _ j, le-leb _ _ k, le-leb _ _ l, lt-leb _ _ m)

            pub subgoal-both : y.last ≤ answers → both_or_neither y.first y.last ≡ subgoal_sound nodes answers y
            unfolding subgoal_sound
            subgoal-both m = simp (lt-ltb _ _ h, lt-ltb _ _ i, le-leb _ _ j, le-leb _ _ k, le-leb _ _ l, le-leb _ _ m)

module _ (nodes subgoals answers a : ℕ) (y : Answer) where
  pub answer-leaf : nodes ≤ y.leaf → false ≡ answer_sound nodes subgoals answers a y
  unfolding answer_sound
  answer-leaf h = simp (le-ltb _ _ h)

  module _ (h : y.leaf < nodes) where
    pub answer-none : y.subgoal ≤ 0 → false ≡ answer_sound nodes subgoals answers a y
    unfolding answer_sound
    answer-none i = simp (lt-ltb _ _ h, le-ltb _ _ i)

    module _ (i : 0 < y.subgoal) where
      pub answer-subgoal : subgoals < y.subgoal → false ≡ answer_sound nodes subgoals answers a y
      unfolding answer_sound
      answer-subgoal j = simp (lt-ltb _ _ h, lt-ltb _ _ i, lt-leb _ _ j)

      pub answer-next : y.subgoal ≤ subgoals → follows (answers + 1) a y.next ≡ answer_sound nodes subgoals answers a y
      unfolding answer_sound
      answer-next j = simp (lt-ltb _ _ h, lt-ltb _ _ i, le-leb _ _ j)

module _ (nodes links : ℕ) (at : ℕ → Node) (n : ℕ) (y : Node) (e : y ≡ at n) where
  pub node-read : node_sound nodes links n y ≡ true → Some y ≡ read_node nodes links at n
  unfolding read_node
  node-read t = rw (← e, t)

  pub node-damaged : node_sound nodes links n y ≡ false → None ≡ read_node nodes links at n
  unfolding read_node
  node-damaged t = rw (← e, t)

module _ (nodes answers : ℕ) (at : ℕ → Subgoal) (s : ℕ) (y : Subgoal) (e : y ≡ at s) where
  pub subgoal-read : subgoal_sound nodes answers y ≡ true → Some y ≡ read_subgoal nodes answers at s
  unfolding read_subgoal
  subgoal-read t = rw (← e, t)

  pub subgoal-damaged : subgoal_sound nodes answers y ≡ false → None ≡ read_subgoal nodes answers at s
  unfolding read_subgoal
  subgoal-damaged t = rw (← e, t)

module _ (nodes subgoals answers : ℕ) (at : ℕ → Answer) (a : ℕ) (y : Answer) (e : y ≡ at a) where
  pub answer-read : answer_sound nodes subgoals answers a y ≡ true → Some y ≡ read_answer nodes subgoals answers at a
  unfolding read_answer
  answer-read t = rw (← e, t)

  pub answer-damaged : answer_sound nodes subgoals answers a y ≡ false → None ≡ read_answer nodes subgoals answers at a
  unfolding read_answer
  answer-damaged t = rw (← e, t)
