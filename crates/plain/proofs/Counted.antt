-- The plain table and the entries of the forest: one relation, kept by each call that changes the table.
use mathlib.Core.Path.{◌≡◌, refl, sym, ap, ◌∙◌, subst}
use mathlib.Core.Bool.{false}
use mathlib.Core.List.{List, [], ◌∷◌, ◌++◌, append-nil}
use Prim.Native.Nat.{ℕ, zero, suc, ◌+◌, ◌≤◌, ◌<◌}
use native.Mathlib.Nat.{add-zero}
use native.Mathlib.Omega.{arith}
use lib.Dec.{eqb}
use lib.ListN.{length}
use borrow.Author.Tests.{eqb-true, eqb-false, eq-eqb, ne_eqb}
use Rattle.basis.proofs.Cases.{by_cases}
use Rattle.forms.specs.Compact.{same}
use Rattle.plain.specs.Words.{Word, has, add, union, inits, all_inits, prefixes, distinct}
use Rattle.plain.specs.Requests.{Open}
use Rattle.plain.specs.Table.{Table, Subgoal, Answer, answers_to, answer_nodes, nodes, called_forms, with_subgoal, with_answer, with_finished, fresh}
use Rattle.plain.proofs.PrefixLaws.{begins}
use Rattle.plain.proofs.RecordLaws.{subgoals-count, finished-forms, finished-count}
use Rattle.plain.proofs.Entries.{under, under-append, under_same, under-other, begins-under, trie-root, nodes-entry, nodes-root}

-- ---- the table's own sums

pub distinct_nil : (ws : List Word) → distinct ([] ∷ ws) ≡ distinct ws
unfolding distinct prefixes all_inits inits
distinct_nil ws = refl

distinct_none : distinct [] ≡ 0
unfolding distinct prefixes all_inits union
distinct_none = refl

pub called_forms-snoc : (gs : List Subgoal) (g : Subgoal) → called_forms (gs ++ (g ∷ [])) ≡ called_forms gs ++ (g.form ∷ [])
called_forms-snoc [] g = refl
called_forms-snoc (h ∷ gs) g = ap {B = List Word} (λ r. h.form ∷ r) (called_forms-snoc gs g)

pub answers_to-same : (l : List Answer) (s : ℕ) (w : Word) → answers_to (l ++ (record { subgoal = s; form = w } ∷ [])) s ≡ answers_to l s ++ (w ∷ [])
unfolding answers_to
answers_to-same [] s w = rw (eq-eqb s s refl)
answers_to-same (a ∷ l) s w = by_cases (eqb a.subgoal s) (λ e. rw (e, answers_to-same l s w)) (λ e. rw (e, answers_to-same l s w))

pub answers_to-other : (l : List Answer) (x s : ℕ) (w : Word) → (x ≡ s → ⊥) → answers_to (l ++ (record { subgoal = x; form = w } ∷ [])) s ≡ answers_to l s
unfolding answers_to
answers_to-other [] x s w h = rw (ne_eqb x s h)
answers_to-other (a ∷ l) x s w h = by_cases (eqb a.subgoal s) (λ e. rw (e, answers_to-other l x s w h)) (λ e. rw (e, answers_to-other l x s w h))

answer_nodes-suc : (l : List Answer) (s n : ℕ) → answer_nodes l s (suc n) ≡ answer_nodes l s n + 1 + distinct (answers_to l (s + n))
unfolding answer_nodes
answer_nodes-suc l s zero = rw (add-zero s) (omega arith)
answer_nodes-suc l s (suc n) =
    let e : suc s + n ≡ s + suc n = omega arith in
    let h : answer_nodes l (suc s) (suc n) ≡ answer_nodes l (suc s) n + 1 + distinct (answers_to l (s + suc n)) =
    subst (λ (k : ℕ). answer_nodes l (suc s) (suc n) ≡ answer_nodes l (suc s) n + 1 + distinct (answers_to l k)) e (answer_nodes-suc l (suc s) n) in
    omega (arith, h)

-- an answer to a subgoal outside the range changes nothing
answer_nodes-outside : (l : List Answer) (x : ℕ) (w : Word) (s n : ℕ) → x < s → answer_nodes (l ++ (record { subgoal = x; form = w } ∷ [])) s n ≡ answer_nodes l s n
unfolding answer_nodes
answer_nodes-outside l x w s zero h = refl
answer_nodes-outside l x w s (suc n) h =
    rw (answers_to-other l x s w (λ e. omega arith), answer_nodes-outside l x w (suc s) n (omega arith))

pub answer_nodes-inside : (l : List Answer) (x : ℕ) (w : Word) (s n : ℕ) → s ≤ x → x < s + n
    → answer_nodes (l ++ (record { subgoal = x; form = w } ∷ [])) s n + distinct (answers_to l x) ≡ answer_nodes l s n + distinct (answers_to l x ++ (w ∷ []))
unfolding answer_nodes
answer_nodes-inside l x w s zero h k = absurd (omega arith)
answer_nodes-inside l x w s (suc n) h k = by_cases (eqb x s)
    (λ e. let e' : x ≡ s = eqb-true x s e in
    let here : answers_to (l ++ (record { subgoal = x; form = w } ∷ [])) s ≡ answers_to l x ++ (w ∷ []) = rw (← e') (answers_to-same l x w) in
    rw (here, answer_nodes-outside l x w (suc s) n (omega arith), ← e') (omega arith))
    (λ e. rw (answers_to-other l x s w (eqb-false x s e))
    (omega (arith, answer_nodes-inside l x w (suc s) n (above x s h (eqb-false x s e)) (omega arith))))
  where
    above : (x s : ℕ) → s ≤ x → (x ≡ s → ⊥) → suc s ≤ x
    above x s h k = omega arith

-- ---- the relation

-- the entries are those of the table's tries
pub record Forest (t : Table) (es : List Word) : Type 0 where
  -- trie 0 holds the empty word, for its root, and the forms of the subgoals
  pub calls : under 0 es ≡ [] ∷ called_forms t.subgoals
  -- trie s holds the empty word and the forms of the answers to s
  pub replies : (s : ℕ) → 0 < s → s ≤ length t.subgoals → under s es ≡ [] ∷ answers_to t.answers s
  -- no other trie holds a word, and no answer is to another subgoal
  pub unused : (s : ℕ) → length t.subgoals < s → under s es ≡ []
  pub unanswered : (s : ℕ) → length t.subgoals < s → answers_to t.answers s ≡ []
  -- the nodes are as many as the table says
  pub count : length (prefixes es) ≡ nodes t

begins-none : (s : ℕ) (es : List Word) → under s es ≡ [] → begins es (s ∷ []) ≡ false
begins-none s es e = begins-under s es [] ∙ rw e (unfold begins in refl)

pub forest-fresh : (n f a : ℕ) → Forest (fresh n f a) ((0 ∷ []) ∷ [])
forest-fresh n f a = record {
  calls = under_same 0 [];
  replies = λ s h k. absurd (omega arith);
  unused = λ s h. under-other s 0 [] (λ e. omega arith);
  unanswered = λ s h. unfold answers_to in refl;
  count = unfold nodes distinct answer_nodes union add has same prefixes all_inits inits in refl;
}

-- ---- an answer more

pub nodes-answer : (t : Table) (es : List Word) (s : ℕ) (w : Word) → Forest t es → 0 < s → s ≤ length t.subgoals
    → length (prefixes (es ++ ((s ∷ w) ∷ []))) ≡ nodes (with_answer t s w)
unfolding nodes
nodes-answer t es s w r h k =
    let a = nodes-entry s es w (trie-root es (answers_to t.answers s) s (r.replies s h k)) in
    let b = answer_nodes-inside t.answers s w 1 (length t.subgoals) h (omega arith) in
    let c : distinct (under s es) ≡ distinct (answers_to t.answers s) = rw (r.replies s h k) (distinct_nil (answers_to t.answers s)) in
    let d : distinct (under s es ++ (w ∷ [])) ≡ distinct (answers_to t.answers s ++ (w ∷ [])) = rw (r.replies s h k) (distinct_nil (answers_to t.answers s ++ (w ∷ []))) in
    omega (arith, r.count)

pub forest-answer : (t : Table) (es : List Word) (s : ℕ) (w : Word) → Forest t es → 0 < s → s ≤ length t.subgoals → Forest (with_answer t s w) (es ++ ((s ∷ w) ∷ []))
forest-answer t es s w r h k = record {
  calls = under-append 0 es ((s ∷ w) ∷ []) ∙ rw (under-other 0 s w (λ e. omega arith), r.calls, append-nil (called_forms t.subgoals));
  replies = λ x hx kx. by_cases (eqb s x)
      (λ e. let q : s ≡ x = eqb-true s x e in
      under-append x es ((s ∷ w) ∷ []) ∙ rw (r.replies x hx kx, ← q, under_same s w, answers_to-same t.answers s w))
      (λ e. under-append x es ((s ∷ w) ∷ [])
      ∙ rw (r.replies x hx kx, under-other x s w (eqb-false s x e), answers_to-other t.answers s x w (eqb-false s x e), append-nil (answers_to t.answers x)));
  unused = λ x hx. under-append x es ((s ∷ w) ∷ []) ∙ rw (r.unused x hx, under-other x s w (λ e. omega arith));
  unanswered = λ x hx. answers_to-other t.answers s x w (λ e. omega arith) ∙ r.unanswered x hx;
  count = nodes-answer t es s w r h k;
}

-- ---- a subgoal more

-- the entries with a subgoal's form more, and the root of its answers
abbrev pub after_call : List Word → ℕ → Word → List Word
after_call es n w = (es ++ ((0 ∷ w) ∷ [])) ++ ((suc n ∷ []) ∷ [])

module _ (t : Table) (es : List Word) (w : Word) (m : ℕ) (r : Forest t es) where
  -- the subgoals so far
  abbrev total : ℕ
  total = length t.subgoals

  -- the entries with its form
  abbrev more : List Word
  more = es ++ ((0 ∷ w) ∷ [])

  under-more-zero : under 0 more ≡ [] ∷ called_forms (with_subgoal t w m).subgoals
  under-more-zero = under-append 0 es ((0 ∷ w) ∷ []) ∙ rw (r.calls, under_same 0 w, called_forms-snoc t.subgoals (record { form = w; m = m; state = Open }))

  under_more : (s : ℕ) → 0 < s → under s more ≡ under s es
  under_more s h = under-append s es ((0 ∷ w) ∷ []) ∙ rw (under-other s 0 w (λ e. omega arith), append-nil (under s es))

  under-new : (s : ℕ) → (suc total ≡ s → ⊥) → under s (after_call es total w) ≡ under s more
  under-new s h = under-append s more ((suc total ∷ []) ∷ []) ∙ rw (under-other s (suc total) [] h, append-nil (under s more))

  pub root-free : begins (es ++ ((0 ∷ w) ∷ [])) (suc (length t.subgoals) ∷ []) ≡ false
  root-free = begins-none (suc total) more (under_more (suc total) (omega arith) ∙ r.unused (suc total) (omega arith))

  pub nodes-call : length (prefixes (after_call es total w)) ≡ nodes (with_subgoal t w m)
  unfolding nodes
  nodes-call =
      let a = nodes-entry 0 es w (trie-root es (called_forms t.subgoals) 0 r.calls) in
      let b = nodes-root (suc total) more (begins-none (suc total) more (under_more (suc total) (omega arith) ∙ r.unused (suc total) (omega arith))) in
      let c : distinct (under 0 es) ≡ distinct (called_forms t.subgoals) = rw r.calls (distinct_nil (called_forms t.subgoals)) in
      let d : distinct (under 0 es ++ (w ∷ [])) ≡ distinct (called_forms (with_subgoal t w m).subgoals) =
      rw (r.calls, called_forms-snoc t.subgoals (record { form = w; m = m; state = Open })) (distinct_nil (called_forms t.subgoals ++ (w ∷ []))) in
      let e : answer_nodes t.answers 1 (length (with_subgoal t w m).subgoals) ≡ answer_nodes t.answers 1 total + 1 =
      rw (subgoals-count t w m, answer_nodes-suc t.answers 1 total, r.unanswered (1 + total) (omega arith))
      (omega (arith, distinct_none)) in
      omega (arith, r.count)

  pub forest-call : Forest (with_subgoal t w m) (after_call es total w)
  forest-call = record {
    calls = under-new 0 (λ e. omega arith) ∙ under-more-zero;
    replies = λ s h k. by_cases (eqb (suc total) s)
        (λ e. let q : suc total ≡ s = eqb-true (suc total) s e in
        under-append s more ((suc total ∷ []) ∷ [])
        ∙ rw (under_more s h, r.unused s (omega arith), ← q, under_same (suc total) [], r.unanswered (suc total) (omega arith)))
        (λ e. under-new s (eqb-false (suc total) s e) ∙ under_more s h ∙ r.replies s h (below s k (eqb-false (suc total) s e)));
    unused = λ s h. under-new s (λ e. omega (arith, subgoals-count t w m)) ∙ under_more s (omega arith) ∙ r.unused s (omega (arith, subgoals-count t w m));
    unanswered = λ s h. r.unanswered s (omega (arith, subgoals-count t w m));
    count = nodes-call;
  }
    where
      below : (s : ℕ) → s ≤ length (with_subgoal t w m).subgoals → (suc total ≡ s → ⊥) → s ≤ total
      below s k ne = omega (arith, subgoals-count t w m)

-- ---- a subgoal finished

pub forest-finish : (t : Table) (es : List Word) (s : ℕ) → Forest t es → 0 < s → Forest (with_finished t s) es
forest-finish t es s r h = record {
  calls = r.calls ∙ ap {B = List Word} (λ (l : List Word). [] ∷ l) (sym (finished-forms t s h));
  replies = λ x hx kx. r.replies x hx (omega (arith, finished-count t s));
  unused = λ x hx. r.unused x (omega (arith, finished-count t s));
  unanswered = λ x hx. r.unanswered x (omega (arith, finished-count t s));
  count = r.count ∙ (unfold nodes in rw (finished-forms t s h, finished-count t s));
}
