-- The table that a whole space says: its records by number, their keys, and that no form stands twice.
use Prim.Native.Nat.{ℕ, zero, suc, ◌-◌, ◌≤◌, ◌<◌}
use mathlib.Core.Path.{◌≡◌, refl, sym, ap, ◌∙◌, subst}
use mathlib.Core.Bool.{true}
use mathlib.Core.List.{List, [], ◌∷◌, ◌++◌}
use native.Mathlib.Omega.{arith}
use lib.Dec.{eqb}
use lib.ListN.{length, get_or, length-append, get_or-append}
use lib.Seq.{get_or_at}
use borrow.Author.Tests.{eqb-true, eqb-false}
use Rattle.basis.proofs.Cases.{by_cases}
use Rattle.plain.specs.Words.{Word, has}
use Rattle.plain.specs.Coding.{Coding}
use Rattle.plain.specs.Table.{Table, Subgoal, Answer, no_subgoal, no_answer, subgoal_at, answer_at, subgoal_of_answer, called_forms, answers_to, subgoal_of, answer_of}
use Rattle.plain.proofs.Keys.{key}
use Rattle.plain.proofs.RecordLaws.{called-held, answer-held}
use Rattle.plain.proofs.NumberLaws.{subgoal_of-some, answer_of-some}
use Rattle.trie.specs.Paths.{longest}
use Rattle.store.specs.Views.{View}
use Rattle.agreement.specs.Whole.{up_to, word_of, subgoal_path, answer_path, subgoal_read, answer_read, table_read}
use Rattle.agreement.proofs.TrieNodes.{par}
use Rattle.agreement.proofs.WholeTests.{SubgoalFacts, AnswerFacts, Whole}
use Rattle.agreement.proofs.WholeKeys.{keys_up, keys_length, key-root, trie-zero, trie-some, whole-different, gathered-key}

-- ---- lists by number

pub up_to-length : {R : Type 0} (f : ℕ → R) (n : ℕ) → length (up_to f n) ≡ n
unfolding up_to
up_to-length f zero = refl
up_to-length f (suc n) = length-append (up_to f n) _ ∙ omega (arith, up_to-length f n)

pub up_to-at : {R : Type 0} (f : ℕ → R) (n : ℕ) (d : R) (i : ℕ) → i < n → get_or (up_to f n) i d ≡ f i
unfolding up_to
up_to-at f zero d i h = absurd (omega arith)
up_to-at f (suc n) d i h = by_cases (eqb i n)
    (λ e. let z : i ≡ n = eqb-true i n e in rw z (get_or_at (up_to f n) (f n) [] d n (up_to-length f n)))
    (λ e. get_or-append (up_to f n) _ d i (within i n h (eqb-false i n e) (up_to-length f n)) ∙ up_to-at f n d i (lower i n h (eqb-false i n e)))
  where
    lower : (i n : ℕ) → i < suc n → (i ≡ n → ⊥) → i < n
    lower i n h k = omega arith

    within : {m : ℕ} (i n : ℕ) → i < suc n → (i ≡ n → ⊥) → m ≡ n → i < m
    within i n h k e = omega arith

module _ (v : View) where
  abbrev t : Table
  t = table_read v

  pub subgoals-length : length (table_read v).subgoals ≡ v.subgoals
  subgoals-length = up_to-length _ v.subgoals

  pub answers-length : length (table_read v).answers ≡ v.answers
  answers-length = up_to-length _ v.answers

  pub subgoal-at : (s : ℕ) → 0 < s → s ≤ v.subgoals → subgoal_at (table_read v) s ≡ subgoal_read v s
  unfolding subgoal_at
  subgoal-at zero h k = absurd (omega arith)
  subgoal-at (suc s) h k = up_to-at (λ i. subgoal_read v (suc i)) v.subgoals no_subgoal s k

  pub answer_at_lem : (a : ℕ) → 0 < a → a ≤ v.answers → answer_at (table_read v) a ≡ answer_read v a
  unfolding answer_at
  answer_at_lem zero h k = absurd (omega arith)
  answer_at_lem (suc a) h k = up_to-at (λ i. answer_read v (suc i)) v.answers no_answer a k

  pub owner_at : (a : ℕ) → 0 < a → a ≤ v.answers → subgoal_of_answer (table_read v) a ≡ (v.answer a).subgoal
  owner_at a h k = ap (λ (y : Answer). y.subgoal) (answer_at_lem a h k)

-- ---- keys of records

module _ (c : Coding) (v : View) (W : Whole c v) (some : 0 < v.nodes) where
  abbrev K : List Word
  K = keys_up v v.nodes

  -- the forms as they are read
  abbrev called : ℕ → Word
  called s = word_of (subgoal_path v s)

  abbrev given : ℕ → Word
  given a = word_of (answer_path v a)

  pub whole-origin : key (keys_up v v.nodes) 0 ≡ 0 ∷ []
  whole-origin =
      let l = (W.node 0 some).lower in
      let p : par v.node 0 ≡ 0 = omega arith in
      key-root v v.nodes 0 some p ∙ ap (λ (s : ℕ). s ∷ []) (trie-zero v)

  module _ (s : ℕ) (low : 0 < s) (high : s ≤ v.subgoals) where
    abbrev f : SubgoalFacts c v s
    f = W.subgoal s low high

    pub leaf-in : (v.subgoal s).leaf < v.nodes
    leaf-in = omega (arith, f.root_in, f.root-next)

    pub leaf-key : key (keys_up v v.nodes) (v.subgoal s).leaf ≡ 0 ∷ word_of (subgoal_path v s)
    leaf-key = gathered-key c v W v.subgoals 0 longest (v.subgoal s).leaf leaf-in (called s) f.path ∙ ap (λ (x : Word). x ++ called s) whole-origin

    pub root-key : key (keys_up v v.nodes) (v.subgoal s).root ≡ s ∷ []
    root-key =
        let before : (v.subgoal s).root - 1 ≡ (v.subgoal s).leaf = omega (arith, f.root-next) in
        key-root v v.nodes (v.subgoal s).root f.root_in f.root-own
        ∙ ap (λ (x : ℕ). x ∷ []) (trie-some v (v.subgoal s).root (omega (arith, f.root-next)) ∙ ap (λ (i : ℕ). (v.node i).link) before ∙ f.linked)

  module _ (a : ℕ) (low : 0 < a) (high : a ≤ v.answers) where
    abbrev g : AnswerFacts c v a
    g = W.answer a low high

    pub answer-key : key (keys_up v v.nodes) (v.answer a).leaf ≡ (v.answer a).subgoal ∷ word_of (answer_path v a)
    answer-key =
        gathered-key c v W v.answers (v.subgoal (v.answer a).subgoal).root longest (v.answer a).leaf g.leaf-in (given a) g.path
        ∙ ap (λ (x : Word). x ++ given a) (root-key (v.answer a).subgoal g.low g.high)

  -- ---- no form twice

  within : (i : ℕ) → i < v.nodes → i < length K
  within i h = omega (arith, keys_length v v.nodes)

  pub called-differ : (i j : ℕ) → 0 < i → i ≤ v.subgoals → 0 < j → j ≤ v.subgoals → word_of (subgoal_path v i) ≡ word_of (subgoal_path v j) → i ≡ j
  called-differ i j p q r z e =
      let same-leaf : (v.subgoal i).leaf ≡ (v.subgoal j).leaf =
      whole-different c v W (v.subgoal i).leaf (v.subgoal j).leaf (within _ (leaf-in i p q)) (within _ (leaf-in j r z))
      (leaf-key i p q ∙ ap (λ (w : Word). 0 ∷ w) e ∙ sym (leaf-key j r z)) in
      sym (W.subgoal i p q).linked ∙ ap (λ (k : ℕ). (v.node k).link) same-leaf ∙ (W.subgoal j r z).linked

  pub given-differ : (a b : ℕ) → 0 < a → a ≤ v.answers → 0 < b → b ≤ v.answers → (v.answer a).subgoal ≡ (v.answer b).subgoal → word_of (answer_path v a) ≡ word_of (answer_path v b) → a ≡ b
  given-differ a b p q r z o e =
      let same-leaf : (v.answer a).leaf ≡ (v.answer b).leaf =
      whole-different c v W (v.answer a).leaf (v.answer b).leaf (within _ (W.answer a p q).leaf-in) (within _ (W.answer b r z).leaf-in)
      (answer-key a p q ∙ ap (λ (x : ℕ). x ∷ given a) o ∙ ap (λ (w : Word). (v.answer b).subgoal ∷ w) e ∙ sym (answer-key b r z)) in
      sym (W.answer a p q).linked ∙ ap (λ (k : ℕ). (v.node k).link) same-leaf ∙ (W.answer b r z).linked

  -- ---- by the table

  form-at : (s : ℕ) → 0 < s → s ≤ v.subgoals → (subgoal_at (table_read v) s).form ≡ called s
  form-at s h k = ap (λ (y : Subgoal). y.form) (subgoal-at v s h k)

  given-at : (a : ℕ) → 0 < a → a ≤ v.answers → (answer_at (table_read v) a).form ≡ given a
  given-at a h k = ap (λ (y : Answer). y.form) (answer_at_lem v a h k)

  pub called-has : (s : ℕ) → 0 < s → s ≤ v.subgoals → has (called_forms (table_read v).subgoals) (word_of (subgoal_path v s)) ≡ true
  called-has s h k = subst (λ (w : Word). has (called_forms (table_read v).subgoals) w ≡ true) (form-at s h k) (called-held (table_read v) s h (omega (arith, subgoals-length v)))

  pub given-has : (a : ℕ) → 0 < a → a ≤ v.answers → has (answers_to (table_read v).answers (v.answer a).subgoal) (word_of (answer_path v a)) ≡ true
  given-has a h k =
      subst (λ (s : ℕ). has (answers_to (table_read v).answers s) (given a) ≡ true) (owner_at v a h k)
      (subst (λ (w : Word). has (answers_to (table_read v).answers (subgoal_of_answer (table_read v) a)) w ≡ true) (given-at a h k) (answer-held (table_read v) a h (omega (arith, answers-length v))))

  -- a form that is held is that of a record
  pub called-by : (w : Word) → has (called_forms (table_read v).subgoals) w ≡ true → (s : ℕ) × (0 < s) × (s ≤ v.subgoals) × (word_of (subgoal_path v s) ≡ w) × (subgoal_of (table_read v) w ≡ s)
  called-by w e =
      let p = subgoal_of-some (table_read v) w e in
      let s : ℕ = subgoal_of (table_read v) w in
      let h : s ≤ v.subgoals = omega (arith, p.high, subgoals-length v) in
      (s, p.low, h, sym (form-at s p.low h) ∙ p.form, refl)

  pub given_by : (x : ℕ) (w : Word) → has (answers_to (table_read v).answers x) w ≡ true
      → (a : ℕ) × (0 < a) × (a ≤ v.answers) × ((v.answer a).subgoal ≡ x) × (word_of (answer_path v a) ≡ w) × (answer_of (table_read v) x w ≡ a)
  given_by x w e =
      let p = answer_of-some (table_read v) x w e in
      let a : ℕ = answer_of (table_read v) x w in
      let h : a ≤ v.answers = omega (arith, p.high, answers-length v) in
      (a, p.low, h, sym (owner_at v a p.low h) ∙ p.subgoal, sym (given-at a p.low h) ∙ p.form, refl)
