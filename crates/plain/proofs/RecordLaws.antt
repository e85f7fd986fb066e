-- The records of a table after each change, by number; and a record's form is among those of the table.
use mathlib.Core.Path.{◌≡◌, refl, ap, ◌∙◌}
use mathlib.Core.Bool.{true, or-true}
use mathlib.Core.List.{List, [], ◌∷◌}
use Prim.Native.Nat.{ℕ, zero, suc, ◌≤◌, ◌<◌, pred}
use native.Mathlib.Omega.{arith}
use native.Mathlib.Nat.{le_of_suc-le-suc}
use lib.Dec.{eqb}
use lib.ListN.{length, get_or, length-append, length-map, length-set, get_or-append, get_or-map}
use lib.Seq.{map-set_same, get_or_at, get_or-set_same, get_or-set_other}
use borrow.Author.Tests.{eqb-true, eqb-false, eq-eqb, ne_eqb}
use Rattle.basis.specs.Choice.{pick}
use Rattle.basis.proofs.Cases.{by_cases}
use Rattle.forms.specs.Compact.{same}
use Rattle.forms.proofs.RoundTrip.{same_self}
use Rattle.plain.specs.Words.{Word, has}
use Rattle.plain.specs.Requests.{Open, Finished}
use Rattle.plain.specs.Table.{Table, Subgoal, Answer, no_subgoal, no_answer, subgoal_at, answer_at, subgoal_of_answer, called_forms, answers_to, nodes, with_subgoal, with_answer, with_finished, settled, with_entry}
use Rattle.plain.proofs.Keys.{place-has}

-- ---- a subgoal more

module _ (t : Table) (w : Word) (m : ℕ) where
  pub subgoal_at-before : (s : ℕ) → s ≤ length t.subgoals → subgoal_at (with_subgoal t w m) s ≡ subgoal_at t s
  unfolding subgoal_at
  subgoal_at-before s h = get_or-append (no_subgoal ∷ t.subgoals) _ no_subgoal s (omega arith)

  pub subgoal_at-new : subgoal_at (with_subgoal t w m) (suc (length t.subgoals)) ≡ record { form = w; m = m; state = Open }
  unfolding subgoal_at
  subgoal_at-new = get_or_at (no_subgoal ∷ t.subgoals) _ [] no_subgoal (suc (length t.subgoals)) refl

  pub subgoals-count : length (with_subgoal t w m).subgoals ≡ suc (length t.subgoals)
  subgoals-count = length-append t.subgoals _ ∙ omega arith

-- ---- an answer more

module _ (t : Table) (s : ℕ) (w : Word) where
  pub answer_at-before : (a : ℕ) → a ≤ length t.answers → answer_at (with_answer t s w) a ≡ answer_at t a
  unfolding answer_at
  answer_at-before a h = get_or-append (no_answer ∷ t.answers) _ no_answer a (omega arith)

  pub answer_at-new : answer_at (with_answer t s w) (suc (length t.answers)) ≡ record { subgoal = s; form = w }
  unfolding answer_at
  answer_at-new = get_or_at (no_answer ∷ t.answers) _ [] no_answer (suc (length t.answers)) refl

  pub answers-count : length (with_answer t s w).answers ≡ suc (length t.answers)
  answers-count = length-append t.answers _ ∙ omega arith

-- ---- a subgoal finished

-- what lasts of a subgoal: its form and m, and that it is finished
pub record Lasts (x y : Subgoal) : Type 0 where
  pub form : y.form ≡ x.form
  pub m : y.m ≡ x.m
  pub finished : x.state ≡ Finished → y.state ≡ Finished

pub equal-lasts : (x y : Subgoal) → y ≡ x → Lasts x y
equal-lasts x y e = record { form = ap (λ (g : Subgoal). g.form) e; m = ap (λ (g : Subgoal). g.m) e; finished = λ h. ap (λ (g : Subgoal). g.state) e ∙ h }

module _ (t : Table) where
  pub subgoal_at-finished : (s : ℕ) → 0 < s → s ≤ length t.subgoals
      → subgoal_at (with_finished t s) s ≡ record { form = (subgoal_at t s).form; m = (subgoal_at t s).m; state = Finished }
  unfolding subgoal_at
  subgoal_at-finished zero h k = absurd (omega arith)
  subgoal_at-finished (suc s) h k = get_or-set_same t.subgoals s _ no_subgoal k

  pub subgoal_at-others : (s x : ℕ) → 0 < s → (x ≡ s → ⊥) → subgoal_at (with_finished t s) x ≡ subgoal_at t x
  unfolding subgoal_at
  subgoal_at-others zero x h n = absurd (omega arith)
  subgoal_at-others (suc s) zero h n = refl
  subgoal_at-others (suc s) (suc x) h n = get_or-set_other t.subgoals s x _ no_subgoal (λ e. n (ap suc e))

  pub finished-forms : (s : ℕ) → 0 < s → called_forms (with_finished t s).subgoals ≡ called_forms t.subgoals
  unfolding subgoal_at
  finished-forms zero h = absurd (omega arith)
  finished-forms (suc s) h = map-set_same (λ (g : Subgoal). g.form) t.subgoals s _ no_subgoal refl

  pub finished-count : (s : ℕ) → length (with_finished t s).subgoals ≡ length t.subgoals
  finished-count s = length-set t.subgoals (pred s) _

  pub subgoal_at-lasts : (s x : ℕ) → 0 < s → s ≤ length t.subgoals → Lasts (subgoal_at t x) (subgoal_at (with_finished t s) x)
  subgoal_at-lasts s x h k = by_cases (eqb x s)
      (λ e. let q : x ≡ s = eqb-true x s e in let r = subgoal_at-finished s h k in
      rw q (record { form = ap (λ (g : Subgoal). g.form) r; m = ap (λ (g : Subgoal). g.m) r; finished = λ z. ap (λ (g : Subgoal). g.state) r }))
      (λ e. equal-lasts (subgoal_at t x) (subgoal_at (with_finished t s) x) (subgoal_at-others s x h (eqb-false x s e)))

-- ---- a ground subgoal finished, another left as it was

module _ (t : Table) (s : ℕ) where
  pub settled-cases : (P : Table → Type 0) → P (with_finished t s) → P t → P (settled t s)
  unfolding settled
  settled-cases P f g = by_cases (eqb (subgoal_at t s).m 0) (λ e. rw e f) (λ e. rw e g)

  pub settled-ground : (subgoal_at t s).m ≡ 0 → settled t s ≡ with_finished t s
  unfolding settled
  settled-ground e = rw e

  pub settled-other : ((subgoal_at t s).m ≡ 0 → ⊥) → settled t s ≡ t
  unfolding settled
  settled-other h = rw (ne_eqb (subgoal_at t s).m 0 h)

  pub settled-rooms : ((settled t s).N ≡ t.N) × ((settled t s).F ≡ t.F) × ((settled t s).A ≡ t.A)
  settled-rooms = settled-cases (λ u. (u.N ≡ t.N) × (u.F ≡ t.F) × (u.A ≡ t.A)) (refl, refl, refl) (refl, refl, refl)

  pub settled-answers : (settled t s).answers ≡ t.answers
  settled-answers = settled-cases (λ u. u.answers ≡ t.answers) refl refl

  pub settled-answer_at : (a : ℕ) → answer_at (settled t s) a ≡ answer_at t a
  settled-answer_at a = settled-cases (λ u. answer_at u a ≡ answer_at t a) (unfold answer_at in refl) refl

  pub settled-count : length (settled t s).subgoals ≡ length t.subgoals
  settled-count = settled-cases (λ u. length u.subgoals ≡ length t.subgoals) (finished-count t s) refl

  pub settled-nodes : 0 < s → nodes (settled t s) ≡ nodes t
  settled-nodes low = settled-cases (λ u. nodes u ≡ nodes t) (unfold nodes in rw (finished-forms t s low, finished-count t s)) refl

  pub settled-lasts : 0 < s → s ≤ length t.subgoals → (x : ℕ) → Lasts (subgoal_at t x) (subgoal_at (settled t s) x)
  settled-lasts low high x = settled-cases (λ u. Lasts (subgoal_at t x) (subgoal_at u x)) (subgoal_at-lasts t s x low high) (equal-lasts _ _ refl)

  pub settled-apart : 0 < s → (x : ℕ) → (x ≡ s → ⊥) → subgoal_at (settled t s) x ≡ subgoal_at t x
  settled-apart low x ne = settled-cases (λ u. subgoal_at u x ≡ subgoal_at t x) (subgoal_at-others t s x low ne) refl

-- what becomes of it
abbrev pub closing : Subgoal → Subgoal
closing g = pick (eqb g.m 0) (record { form = g.form; m = g.m; state = Finished }) g

pub settled-own : (t : Table) (s : ℕ) → 0 < s → s ≤ length t.subgoals → subgoal_at (settled t s) s ≡ closing (subgoal_at t s)
unfolding settled
settled-own t s low high = by_cases (eqb (subgoal_at t s).m 0) (λ e. rw e (subgoal_at-finished t s low high)) (λ e. rw e)

-- and of a table in which an answer enters
module _ (t : Table) (s : ℕ) (w : Word) where
  pub entry-answers : (with_entry t s w).answers ≡ (with_answer t s w).answers
  entry-answers = settled-answers (with_answer t s w) s

  pub entry-count : length (with_entry t s w).answers ≡ suc (length t.answers)
  entry-count = ap length entry-answers ∙ answers-count t s w

  pub entry-subgoals : length (with_entry t s w).subgoals ≡ length t.subgoals
  entry-subgoals = settled-count (with_answer t s w) s

  pub entry-nodes : 0 < s → nodes (with_entry t s w) ≡ nodes (with_answer t s w)
  entry-nodes low = settled-nodes (with_answer t s w) s low

  pub entry-lasts : 0 < s → s ≤ length t.subgoals → (x : ℕ) → Lasts (subgoal_at t x) (subgoal_at (with_entry t s w) x)
  unfolding subgoal_at
  entry-lasts low high x = settled-lasts (with_answer t s w) s low high x

  pub entry-apart : 0 < s → (x : ℕ) → (x ≡ s → ⊥) → subgoal_at (with_entry t s w) x ≡ subgoal_at t x
  unfolding subgoal_at
  entry-apart low x ne = settled-apart (with_answer t s w) s low x ne

  pub entry-own : 0 < s → s ≤ length t.subgoals → subgoal_at (with_entry t s w) s ≡ closing (subgoal_at t s)
  unfolding subgoal_at
  entry-own low high = settled-own (with_answer t s w) s low high

-- ---- a record's form is held

pub called-held : (t : Table) (s : ℕ) → 0 < s → s ≤ length t.subgoals → has (called_forms t.subgoals) (subgoal_at t s).form ≡ true
unfolding subgoal_at no_subgoal
called-held t zero h k = absurd (omega arith)
called-held t (suc s) h k =
    place-has (called_forms t.subgoals) _ s (omega (arith, length-map t.subgoals (λ (g : Subgoal). g.form))) (get_or-map (λ (g : Subgoal). g.form) t.subgoals s no_subgoal)

answer-held-at : (l : List Answer) (i : ℕ) → i < length l → has (answers_to l (get_or l i no_answer).subgoal) (get_or l i no_answer).form ≡ true
unfolding has answers_to
answer-held-at [] i h = absurd (omega arith)
answer-held-at (a ∷ l) zero h = rw (eq-eqb a.subgoal a.subgoal refl, same_self a.form)
answer-held-at (a ∷ l) (suc i) h = by_cases (eqb a.subgoal (get_or l i no_answer).subgoal)
    (λ e. rw (e, answer-held-at l i (le_of_suc-le-suc h), or-true (same a.form (get_or l i no_answer).form)))
    (λ e. rw e (answer-held-at l i (le_of_suc-le-suc h)))

pub answer-held : (t : Table) (a : ℕ) → 0 < a → a ≤ length t.answers → has (answers_to t.answers (subgoal_of_answer t a)) (answer_at t a).form ≡ true
unfolding answer_at
answer-held t zero h k = absurd (omega arith)
answer-held t (suc a) h k = answer-held-at t.answers a k
