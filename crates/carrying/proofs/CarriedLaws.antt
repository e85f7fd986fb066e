-- What a table stores, and that a carried table stores the same.
use Prim.Native.Nat.{ℕ, zero, suc, ◌≤◌, ◌<◌}
use mathlib.Core.Path.{◌≡◌, refl, sym, ap, ◌∙◌}
use mathlib.Core.Bool.{true, ◌&&◌}
use mathlib.Core.List.{List, [], ◌∷◌}
use native.Mathlib.Omega.{arith}
use lib.Dec.{leb}
use lib.ListN.{length, get_or, length-map, get_or-map}
use borrow.Author.Tests.{leb-true, le-leb}
use Rattle.plain.specs.Words.{Word}
use Rattle.plain.specs.Coding.{Coding}
use Rattle.plain.specs.Table.{Table, Subgoal, Answer, no_subgoal, no_answer, subgoal_at, answer_at, subgoal_of_answer, called_forms, nodes}
use Rattle.plain.proofs.Soundness.{Sound, Fit}
use Rattle.carrying.specs.Recoding.{Recoding, recoded, takes_word}
use Rattle.carrying.specs.Carrying.{carried_subgoal, carried_answer, carried, answer_forms, takes_words, takes_table, holdable}
use Rattle.carrying.specs.Promises.{AllCallable}
use Rattle.carrying.proofs.RecodingLaws.{Recodes, both, met-same, begins-recoded, recoded-differ}

-- every form is legal, and none is stored twice; nothing is said of the capacities
pub record Stored (c : Coding) (t : Table) : Type 0 where
  pub called : (s : ℕ) → 0 < s → s ≤ length t.subgoals → Fit c (subgoal_at t s).form (subgoal_at t s).m
  pub owned : (a : ℕ) → 0 < a → a ≤ length t.answers → (0 < subgoal_of_answer t a) × (subgoal_of_answer t a ≤ length t.subgoals)
  pub given : (a : ℕ) → 0 < a → a ≤ length t.answers → c.legal (subgoal_at t (subgoal_of_answer t a)).m (answer_at t a).form ≡ true
  pub subgoals-differ : (i j : ℕ) → 0 < i → i ≤ length t.subgoals → 0 < j → j ≤ length t.subgoals → (subgoal_at t i).form ≡ (subgoal_at t j).form → i ≡ j
  pub answers-differ : (a b : ℕ) → 0 < a → a ≤ length t.answers → 0 < b → b ≤ length t.answers
      → subgoal_of_answer t a ≡ subgoal_of_answer t b → (answer_at t a).form ≡ (answer_at t b).form → a ≡ b

-- the capacities are enough
pub record Roomy (t : Table) : Type 0 where
  pub room : nodes t ≤ t.N
  pub subgoal-room : length t.subgoals ≤ t.F
  pub answer-room : length t.answers ≤ t.A

pub holdable-roomy : (t : Table) → holdable t ≡ true → Roomy t
unfolding holdable
holdable-roomy t e =
    let p = both (leb (nodes t) t.N && leb (length t.subgoals) t.F) (leb (length t.answers) t.A) e in
    let q = both (leb (nodes t) t.N) (leb (length t.subgoals) t.F) p.0 in
    record { room = leb-true _ _ q.0; subgoal-room = leb-true _ _ q.1; answer-room = leb-true _ _ p.1 }

pub roomy-holdable : (t : Table) → Roomy t → holdable t ≡ true
unfolding holdable
roomy-holdable t r = rw (le-leb _ _ r.room, le-leb _ _ r.subgoal-room, le-leb _ _ r.answer-room)

-- ---- a sound table is both

pub stored-sound : (c : Coding) (t : Table) → Stored c t → Roomy t → Sound c t
stored-sound c t k r = record {
  kept = record {
    room = r.room;
    subgoal-room = r.subgoal-room;
    answer-room = r.answer-room;
    answered = k.owned;
    subgoals-differ = k.subgoals-differ;
    answers-differ = k.answers-differ;
  };
  called = k.called;
  answered = k.given;
}

pub sound-stored : (c : Coding) (t : Table) → Sound c t → Stored c t
sound-stored c t sound = record {
  called = sound.called;
  owned = sound.kept.answered;
  given = sound.answered;
  subgoals-differ = sound.kept.subgoals-differ;
  answers-differ = sound.kept.answers-differ;
}

-- ---- the records of a carried table

module _ (r : Recoding) (n f a : ℕ) (t : Table) where
  abbrev u : Table
  u = carried r n f a t

  pub carried-subgoal : (s : ℕ) → subgoal_at (carried r n f a t) s ≡ carried_subgoal r (subgoal_at t s)
  unfolding subgoal_at no_subgoal
  carried-subgoal zero = refl
  carried-subgoal (suc s) = get_or-map (carried_subgoal r) t.subgoals s no_subgoal

  pub carried-answer : (b : ℕ) → answer_at (carried r n f a t) b ≡ carried_answer r (answer_at t b)
  unfolding answer_at no_answer
  carried-answer zero = refl
  carried-answer (suc b) = get_or-map (carried_answer r) t.answers b no_answer

  pub carried-owner : (b : ℕ) → subgoal_of_answer (carried r n f a t) b ≡ subgoal_of_answer t b
  carried-owner b = ap (λ (y : Answer). y.subgoal) (carried-answer b)

  pub carried-form : (b : ℕ) → (answer_at (carried r n f a t) b).form ≡ recoded r (answer_at t b).form
  carried-form b = ap (λ (y : Answer). y.form) (carried-answer b)

  pub carried-subgoals : length (carried r n f a t).subgoals ≡ length t.subgoals
  carried-subgoals = length-map t.subgoals (carried_subgoal r)

  pub carried-answers : length (carried r n f a t).answers ≡ length t.answers
  carried-answers = length-map t.answers (carried_answer r)

-- ---- what a recoding takes

pub takes_at : (r : Recoding) (ws : List Word) → takes_words r ws ≡ true → (i : ℕ) → takes_word r (get_or ws i []) ≡ true
unfolding takes_words takes_word
takes_at r [] e i = refl
takes_at r (w ∷ ws) e zero = (both (takes_word r w) (takes_words r ws) e).0
takes_at r (w ∷ ws) e (suc i) = takes_at r ws (both (takes_word r w) (takes_words r ws) e).1 i

module _ (r : Recoding) (t : Table) (takes : takes_table r t ≡ true) where
  all-taken : (takes_words r (called_forms t.subgoals) ≡ true) × (takes_words r (answer_forms t.answers) ≡ true)
  unfolding takes_table
  all-taken = both (takes_words r (called_forms t.subgoals)) (takes_words r (answer_forms t.answers)) takes

  pub takes-subgoal : (s : ℕ) → takes_word r (subgoal_at t s).form ≡ true
  unfolding subgoal_at no_subgoal takes_word
  takes-subgoal zero = refl
  takes-subgoal (suc s) = rw (← get_or-map (λ (g : Subgoal). g.form) t.subgoals s no_subgoal) (takes_at r (called_forms t.subgoals) all-taken.0 s)

  pub takes-answer : (b : ℕ) → takes_word r (answer_at t b).form ≡ true
  unfolding answer_at no_answer takes_word
  takes-answer zero = refl
  takes-answer (suc b) = rw (← get_or-map (λ (y : Answer). y.form) t.answers b no_answer) (takes_at r (answer_forms t.answers) all-taken.1 b)

-- ---- a carried table stores the same

module _ (r : Recoding) (old new : ℕ → ℕ) (R : Recodes r old new) (n f a : ℕ) (t : Table) (takes : takes_table r t ≡ true) where
  abbrev v : Table
  v = carried r n f a t

  abbrev at-subgoal : (s : ℕ) → subgoal_at (carried r n f a t) s ≡ carried_subgoal r (subgoal_at t s)
  at-subgoal = carried-subgoal r n f a t

  abbrev owner : (b : ℕ) → subgoal_of_answer (carried r n f a t) b ≡ subgoal_of_answer t b
  owner = carried-owner r n f a t

  abbrev formed : (b : ℕ) → (answer_at (carried r n f a t) b).form ≡ recoded r (answer_at t b).form
  formed = carried-form r n f a t

  in-subgoals : (s : ℕ) → s ≤ length v.subgoals → s ≤ length t.subgoals
  in-subgoals s h = omega (arith, carried-subgoals r n f a t)

  in-answers : (b : ℕ) → b ≤ length v.answers → b ≤ length t.answers
  in-answers b h = omega (arith, carried-answers r n f a t)

  pub carried-stored : (c d : Coding) → ((m : ℕ) (w : Word) → takes_word r w ≡ true → c.legal m w ≡ true → d.legal m (recoded r w) ≡ true)
      → Stored c t → Stored d (carried r n f a t)
  carried-stored c d legal k = record {
    called = λ s p q.
        let g = k.called s p (in-subgoals s q) in
        rw (at-subgoal s) (
          legal 1 (subgoal_at t s).form (takes-subgoal r t takes s) g.0,
          ap length (met-same r old new R (subgoal_at t s).form []) ∙ g.1,
          g.2,
        );
    owned = λ b p q. let o = k.owned b p (in-answers b q) in (omega (arith, o.0, owner b), omega (arith, o.1, owner b, carried-subgoals r n f a t));
    given = λ b p q.
        let m : (subgoal_at v (subgoal_of_answer v b)).m ≡ (subgoal_at t (subgoal_of_answer t b)).m =
        ap (λ (s : ℕ). (subgoal_at v s).m) (owner b) ∙ ap (λ (g : Subgoal). g.m) (at-subgoal (subgoal_of_answer t b)) in
        ap (λ (k : ℕ). d.legal k (answer_at v b).form) m ∙ ap (λ (w : Word). d.legal (subgoal_at t (subgoal_of_answer t b)).m w) (formed b)
        ∙ legal (subgoal_at t (subgoal_of_answer t b)).m (answer_at t b).form (takes-answer r t takes b) (k.given b p (in-answers b q));
    subgoals-differ = λ i j p q p' q' e.
        k.subgoals-differ i j p (in-subgoals i q) p' (in-subgoals j q')
        (recoded-differ r old new R _ _ (takes-subgoal r t takes i) (takes-subgoal r t takes j) (rw (at-subgoal i, at-subgoal j) at e));
    answers-differ = λ i j p q p' q' o e.
        k.answers-differ i j p (in-answers i q) p' (in-answers j q') (sym (owner i) ∙ o ∙ owner j)
        (recoded-differ r old new R _ _ (takes-answer r t takes i) (takes-answer r t takes j) (sym (formed i) ∙ e ∙ formed j));
  }

  pub carried-callable : AllCallable t → AllCallable (carried r n f a t)
  carried-callable b s p q = rw (at-subgoal s) (begins-recoded r old new R (subgoal_at t s).form (takes-subgoal r t takes s) (b s p (in-subgoals s q)))
