-- The cells of a space hold the records of a view, and go on holding them where one record or the counts change.
use Prim.Native.Nat.{ℕ, ◌+◌, ◌-◌, ◌*◌, ◌<◌, ◌≤◌}
use mathlib.Core.Path.{◌≡◌, ap, ◌∙◌}
use mathlib.Core.List.{List}
use native.Mathlib.Omega.{arith}
use native.Mathlib.Nat.{mul-le-mul_left}
use lib.ListN.{length, get_or}
use lib.Dec.{eqb, ltb}
use borrow.Author.Tests.{eqb-true, eqb-false, ltb-true, ltb-false}
use Rattle.basis.specs.Writes.{Write, writes}
use Rattle.basis.proofs.Cases.{by_cases}
use Rattle.basis.proofs.WritesLaws.{length-writes, Apart, writes-frame}
use Rattle.space.specs.Layout.{Sizes, subgoal_offset_of, answer_offset_of, node_at, subgoal_at, answer_at, node_from, subgoal_from, answer_from, node_in, subgoal_in, answer_in}
use Rattle.space.specs.declared.Node.{Node}
use Rattle.space.specs.declared.Subgoal.{Subgoal}
use Rattle.space.specs.declared.Answer.{Answer}
use Rattle.space.proofs.LayoutLaws.{node-equal, subgoal-equal, answer-equal}
use Rattle.store.specs.Views.{View}
use Rattle.agreement.specs.Records.{Wide, updated}
use Rattle.agreement.proofs.HeaderTests.{Headed}

-- ---- cells that stay

-- no cell changes but those from lo on, below hi
pub record Kept (lo hi : ℕ) (cs ds : List ℕ) : Type 0 where
  pub size : length ds ≡ length cs
  pub below : (k : ℕ) → k < lo → get_or ds k 0 ≡ get_or cs k 0
  pub above : (k : ℕ) → hi ≤ k → get_or ds k 0 ≡ get_or cs k 0

pub writes_kept : (lo hi : ℕ) (ws : List Write) (cs : List ℕ) → ((j : ℕ) → j < lo → Apart j ws) → ((j : ℕ) → hi ≤ j → Apart j ws) → Kept lo hi cs (writes ws cs)
writes_kept lo hi ws cs b a =
    record { size = length-writes ws cs; below = λ k h. writes-frame ws cs k (b k h); above = λ k h. writes-frame ws cs k (a k h) }

-- the same cells from k on
abbrev pub Same : ℕ → ℕ → List ℕ → List ℕ → Type 0
Same k size cs ds = (j : ℕ) → k ≤ j → j < k + size → get_or ds j 0 ≡ get_or cs j 0

module _ (k : ℕ) (cs ds : List ℕ) where
  pub node-same : Same k 5 cs ds → node_from ds k ≡ node_from cs k
  node-same c =
      node-equal (node_from ds k) (node_from cs k)
      (c k (omega arith) (omega arith))
      (c (k + 1) (omega arith) (omega arith))
      (c (k + 2) (omega arith) (omega arith))
      (c (k + 3) (omega arith) (omega arith))
      (c (k + 4) (omega arith) (omega arith))

  pub subgoal-same : Same k 6 cs ds → subgoal_from ds k ≡ subgoal_from cs k
  subgoal-same c =
      subgoal-equal (subgoal_from ds k) (subgoal_from cs k)
      (c k (omega arith) (omega arith))
      (c (k + 1) (omega arith) (omega arith))
      (c (k + 2) (omega arith) (omega arith))
      (c (k + 3) (omega arith) (omega arith))
      (c (k + 4) (omega arith) (omega arith))
      (c (k + 5) (omega arith) (omega arith))

  pub answer-same : Same k 3 cs ds → answer_from ds k ≡ answer_from cs k
  answer-same c =
      answer-equal (answer_from ds k) (answer_from cs k)
      (c k (omega arith) (omega arith))
      (c (k + 1) (omega arith) (omega arith))
      (c (k + 2) (omega arith) (omega arith))

-- a row of w cells ends before the next begins
pub row_ends : (w i n : ℕ) → i < n → w * i + w ≤ w * n
row_ends w i n h = omega (arith, mul-le-mul_left w h)

module _ {lo hi : ℕ} {cs ds : List ℕ} (K : Kept lo hi cs ds) where
  same-below : (k size : ℕ) → k + size ≤ lo → Same k size cs ds
  same-below k size h j a b = K.below j (omega arith)

  same_above : (k size : ℕ) → hi ≤ k → Same k size cs ds
  same_above k size h j a b = K.above j (omega arith)

-- another row of the same table
row_same : (b w i m size : ℕ) {cs ds : List ℕ} → Kept (b + w * i) (b + w * i + w) cs ds → size ≤ w → (m ≡ i → ⊥) → Same (b + w * m) size cs ds
row_same b w i m size K h e =
    by_cases (ltb m i)
    (λ t. let l : m < i = ltb-true _ _ t in same-below K (b + w * m) size (omega (arith, row_ends w m i l)))
    (λ t. let l : i ≤ m = ltb-false _ _ t in
    let o : i < m = omega arith in
    same_above K (b + w * m) size (omega (arith, row_ends w i m o)))

-- ---- cells that hold a view

pub record Holds (z : Sizes) (p q : ℕ) (cs : List ℕ) (v : View) : Type 0 where
  pub headed : Headed z cs v.N v.F v.A v.nodes v.subgoals v.answers
  pub subgoals-at : p ≡ subgoal_offset_of z v.N
  pub answers_at : q ≡ answer_offset_of z v.N v.F
  pub node-held : (n : ℕ) → n < v.N → node_in z cs n ≡ v.node n
  pub subgoal-held : (s : ℕ) → 1 ≤ s → s ≤ v.F → subgoal_in z cs p s ≡ v.subgoal s
  pub answer-held : (a : ℕ) → 1 ≤ a → a ≤ v.A → answer_in z cs q a ≡ v.answer a

headed-kept : {z : Sizes} {cs ds : List ℕ} {N F A nodes subgoals answers : ℕ} {lo hi : ℕ}
    → Headed z cs N F A nodes subgoals answers → Kept lo hi cs ds → 8 ≤ lo → Headed z ds N F A nodes subgoals answers
headed-kept H K l = record {
  edition = K.below 0 (omega arith) ∙ H.edition;
  nodes-cell = K.below 1 (omega arith) ∙ H.nodes-cell;
  subgoals-cell = K.below 2 (omega arith) ∙ H.subgoals-cell;
  answers-cell = K.below 3 (omega arith) ∙ H.answers-cell;
  nodes-from = K.below 4 (omega arith) ∙ H.nodes-from;
  subgoals-from = K.below 5 (omega arith) ∙ H.subgoals-from;
  answers-from = K.below 6 (omega arith) ∙ H.answers-from;
  end-at = K.below 7 (omega arith) ∙ H.end-at;
  end-within = omega (arith, H.end-within, K.size);
}

-- the view with other nodes, subgoals, answers or counts
abbrev pub with_nodes : View → (ℕ → Node) → View
with_nodes v at = record { N = v.N; F = v.F; A = v.A; nodes = v.nodes; subgoals = v.subgoals; answers = v.answers; node = at; subgoal = v.subgoal; answer = v.answer }

abbrev pub with_subgoals : View → (ℕ → Subgoal) → View
with_subgoals v at = record { N = v.N; F = v.F; A = v.A; nodes = v.nodes; subgoals = v.subgoals; answers = v.answers; node = v.node; subgoal = at; answer = v.answer }

abbrev pub with_answers : View → (ℕ → Answer) → View
with_answers v at = record { N = v.N; F = v.F; A = v.A; nodes = v.nodes; subgoals = v.subgoals; answers = v.answers; node = v.node; subgoal = v.subgoal; answer = at }

abbrev pub with_counts : View → ℕ → ℕ → ℕ → View
with_counts v n f a = record { N = v.N; F = v.F; A = v.A; nodes = n; subgoals = f; answers = a; node = v.node; subgoal = v.subgoal; answer = v.answer }

module _ {z : Sizes} (wide : Wide z) {p q : ℕ} {cs : List ℕ} {v : View} (H : Holds z p q cs v) where
  -- readers are held by what they read within the capacities
  pub nodes-like : (at : ℕ → Node) → ((n : ℕ) → n < v.N → v.node n ≡ at n) → Holds z p q cs (with_nodes v at)
  nodes-like at e = record {
    headed = H.headed;
    subgoals-at = H.subgoals-at;
    answers_at = H.answers_at;
    node-held = λ n l. H.node-held n l ∙ e n l;
    subgoal-held = H.subgoal-held;
    answer-held = H.answer-held;
  }

  pub subgoals-like : (at : ℕ → Subgoal) → ((s : ℕ) → v.subgoal s ≡ at s) → Holds z p q cs (with_subgoals v at)
  subgoals-like at e = record {
    headed = H.headed;
    subgoals-at = H.subgoals-at;
    answers_at = H.answers_at;
    node-held = H.node-held;
    subgoal-held = λ s l m. H.subgoal-held s l m ∙ e s;
    answer-held = H.answer-held;
  }

  -- where the records stand
  node-fits : (n : ℕ) → n < v.N → node_at z n + z.node ≤ p
  node-fits n l = omega (arith, H.subgoals-at, row_ends z.node n v.N l)

  subgoal-fits : (s : ℕ) → 1 ≤ s → s ≤ v.F → subgoal_at z p s + z.subgoal ≤ q
  subgoal-fits s l m =
      let h : s - 1 < v.F = omega arith in
      omega (arith, H.subgoals-at, H.answers_at, row_ends z.subgoal (s - 1) v.F h)

  pub answer-inside : (a : ℕ) → 1 ≤ a → a ≤ v.A → answer_at z q a + z.answer ≤ length cs
  answer-inside a l m =
      let h : a - 1 < v.A = omega arith in
      omega (arith, H.answers_at, H.headed.end-within, row_ends z.answer (a - 1) v.A h)

  -- the offsets in their order
  pub record Order : Type 0 where
    pub first : 8 ≤ p
    pub second : p ≤ q
    pub third : q ≤ length cs

  pub order : Order
  order = record {
    first = omega (arith, H.subgoals-at);
    second = omega (arith, H.subgoals-at, H.answers_at);
    third = omega (arith, H.answers_at, H.headed.end-within);
  }

  pub node-inside : (n : ℕ) → n < v.N → node_at z n + z.node ≤ length cs
  node-inside n l = omega (arith, order, node-fits n l)

  pub subgoal-inside : (s : ℕ) → 1 ≤ s → s ≤ v.F → subgoal_at z p s + z.subgoal ≤ length cs
  subgoal-inside s l m = omega (arith, order, subgoal-fits s l m)

  module _ {ds : List ℕ} where
    pub node-changed : (i : ℕ) (y : Node) → i < v.N → Kept (node_at z i) (node_at z i + z.node) cs ds → node_in z ds i ≡ y
        → Holds z p q ds (with_nodes v (updated v.node i y))
    node-changed i y h K e =
        let f = node-fits i h in
        let o = order in
        record {
          headed = headed-kept H.headed K (omega arith);
          subgoals-at = H.subgoals-at;
          answers_at = H.answers_at;
          node-held = λ n l.
              by_cases (eqb n i)
              (λ t. rw t (ap (node_in z ds) (eqb-true _ _ t) ∙ e))
              (λ t. rw t (node-same (node_at z n) cs ds (row_same 8 z.node i n 5 K wide.node_wide (eqb-false _ _ t)) ∙ H.node-held n l));
          subgoal-held = λ s l m. subgoal-same (subgoal_at z p s) cs ds (same_above K (subgoal_at z p s) 6 (omega arith)) ∙ H.subgoal-held s l m;
          answer-held = λ a l m. answer-same (answer_at z q a) cs ds (same_above K (answer_at z q a) 3 (omega arith)) ∙ H.answer-held a l m;
        }

    pub subgoal-changed : (i : ℕ) (y : Subgoal) → 1 ≤ i → i ≤ v.F → Kept (subgoal_at z p i) (subgoal_at z p i + z.subgoal) cs ds → subgoal_in z ds p i ≡ y
        → Holds z p q ds (with_subgoals v (updated v.subgoal i y))
    subgoal-changed i y g h K e =
        let f = subgoal-fits i g h in
        let o = order in
        record {
          headed = headed-kept H.headed K (omega arith);
          subgoals-at = H.subgoals-at;
          answers_at = H.answers_at;
          node-held = λ n l. node-same (node_at z n) cs ds (same-below K (node_at z n) 5 (omega (arith, node-fits n l, wide.node_wide))) ∙ H.node-held n l;
          subgoal-held = λ s l m.
              by_cases (eqb s i)
              (λ t. rw t (ap (subgoal_in z ds p) (eqb-true _ _ t) ∙ e))
              (λ t. let d : s ≡ i → ⊥ = eqb-false _ _ t in
              rw t (subgoal-same (subgoal_at z p s) cs ds (row_same p z.subgoal (i - 1) (s - 1) 6 K wide.subgoal-wide (omega arith)) ∙ H.subgoal-held s l m));
          answer-held = λ a l m. answer-same (answer_at z q a) cs ds (same_above K (answer_at z q a) 3 (omega arith)) ∙ H.answer-held a l m;
        }

    pub answer-changed : (i : ℕ) (y : Answer) → 1 ≤ i → i ≤ v.A → Kept (answer_at z q i) (answer_at z q i + z.answer) cs ds → answer_in z ds q i ≡ y
        → Holds z p q ds (with_answers v (updated v.answer i y))
    answer-changed i y g h K e =
        let o = order in
        record {
          headed = headed-kept H.headed K (omega arith);
          subgoals-at = H.subgoals-at;
          answers_at = H.answers_at;
          node-held = λ n l. node-same (node_at z n) cs ds (same-below K (node_at z n) 5 (omega (arith, node-fits n l, wide.node_wide))) ∙ H.node-held n l;
          subgoal-held = λ s l m. subgoal-same (subgoal_at z p s) cs ds (same-below K (subgoal_at z p s) 6 (omega (arith, subgoal-fits s l m, wide.subgoal-wide))) ∙ H.subgoal-held s l m;
          answer-held = λ a l m.
              by_cases (eqb a i)
              (λ t. rw t (ap (answer_in z ds q) (eqb-true _ _ t) ∙ e))
              (λ t. let d : a ≡ i → ⊥ = eqb-false _ _ t in
              rw t (answer-same (answer_at z q a) cs ds (row_same q z.answer (i - 1) (a - 1) 3 K wide.answer-wide (omega arith)) ∙ H.answer-held a l m));
        }

    pub counts-changed : (n f a : ℕ) → Kept 1 4 cs ds → get_or ds 1 0 ≡ n → get_or ds 2 0 ≡ f → get_or ds 3 0 ≡ a → Holds z p q ds (with_counts v n f a)
    counts-changed n f a K x y w =
        let o = order in
        record {
          headed = record {
            edition = K.below 0 (omega arith) ∙ H.headed.edition;
            nodes-cell = x;
            subgoals-cell = y;
            answers-cell = w;
            nodes-from = K.above 4 (omega arith) ∙ H.headed.nodes-from;
            subgoals-from = K.above 5 (omega arith) ∙ H.headed.subgoals-from;
            answers-from = K.above 6 (omega arith) ∙ H.headed.answers-from;
            end-at = K.above 7 (omega arith) ∙ H.headed.end-at;
            end-within = omega (arith, H.headed.end-within, K.size);
          };
          subgoals-at = H.subgoals-at;
          answers_at = H.answers_at;
          node-held = λ i l. node-same (node_at z i) cs ds (same_above K (node_at z i) 5 (omega arith)) ∙ H.node-held i l;
          subgoal-held = λ s l m. subgoal-same (subgoal_at z p s) cs ds (same_above K (subgoal_at z p s) 6 (omega arith)) ∙ H.subgoal-held s l m;
          answer-held = λ b l m. answer-same (answer_at z q b) cs ds (same_above K (answer_at z q b) 3 (omega arith)) ∙ H.answer-held b l m;
        }
