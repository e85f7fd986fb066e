-- A law for each case of judging goals.
use Rattle.std.specs.Prelude as std
use Rattle.std.specs.Prelude.{None, Some, Result, Ok, Err}
use Rattle.basis.specs.declared.refusals.Refusal.{Refusal}
use Rattle.basis.specs.declared.refusals.Refusal.TheVariants as refusal
use Prim.Native.Nat.{ℕ, zero, suc, ◌≤◌, ◌<◌}
use mathlib.Core.Path.{◌≡◌, refl, sym, ap, ◌∙◌, subst}
use mathlib.Core.Bool.{Bool, true, false, ◌&&◌, ◌||◌, false≢true}
use mathlib.Core.List.{List, [], ◌∷◌, ◌++◌, map}
use native.Mathlib.Omega.{arith}
use lib.Dec.{eqb, leb, ltb}
use lib.ListN.{length, take, drop, get_or, length-map, drop_of_length-le}
use lib.Seq.{take-suc, take_all, drop-cons}
use borrow.Author.Tests.{eqb-true, eqb-false, lt-ltb, le-leb, lt-leb, ltb-true, leb-true}
use Rattle.basis.specs.Choice.{pick}
use Rattle.basis.proofs.Cases.{by_cases}
use Rattle.trie.proofs.WalkLaws.{both_true}
use Rattle.plain.specs.Coding.{coding_of}
use Rattle.plain.specs.Joins.{is_open}
use Rattle.plain.specs.Requests.{detoured, refused}
use Rattle.plain.specs.Detours.{Live, Goal, Option, options_of, all_offer, goals_fit, any_open, few_goals, detours_of, detour, all_within}
use Rattle.space.specs.Sound.{subgoal_under}
use Rattle.space.specs.declared.tables.Table.{Table}
use Rattle.space.specs.declared.Subgoal.{Subgoal}
use Rattle.space.proofs.JudgingLaws.{subgoal-bounds, read-subgoal-sound}
use Rattle.store.specs.Clauses.{view_at}
use Rattle.store.specs.Decisions.{says, state_of, sound_subgoal, Lives, severed, lives, lives_of, Goals, unsound, goals, goal_before, goals_in, detours_in}
use Rattle.store.proofs.CallsRecords.{reads-subgoal, read-subgoal-damaged}
use Rattle.detours.specs.Searching.{Searched, lives_in, answers_in, options_in, goals_from}
use Rattle.detours.specs.Judging.{variables_of, goal_fits, AnswersHeld, goal_in, goal_severed, GoalSevered, GoalSound, GoalTold, ruled, GoalsTold}
use Rattle.detours.specs.declared.GoalJudged.{GoalJudged}

-- ---- a goal

state-open : (x : ℕ) → is_open (state_of x) ≡ eqb x 0
state-open x = by_cases (eqb x 0) (λ e. rw e refl) (λ e. rw e refl)

severed-record : (b : Bool) (ls : Lives) → b ≡ false → goal_severed b ls ≡ true
unfolding goal_severed
severed-record true ls e = absurd (false≢true (sym e))
severed-record false ls e = refl

severed-answers : (b : Bool) (ls : Lives) → ls ≡ severed → goal_severed b ls ≡ true
unfolding goal_severed
severed-answers true ls e = rw e refl
severed-answers false ls e = refl

lives-in : (x : Lives) (ls : List Live) → x ≡ lives ls → lives_in x ≡ ls
unfolding lives_in
lives-in x ls e = rw e refl

module _ (table : Table) (s : ℕ) where
  pub goal-damaged : None ≡ reads-subgoal (view_at table) s → GoalSevered table s
  goal-damaged e = severed-record (sound_subgoal (view_at table) s) (lives_of (coding_of table.head.edition) (view_at table) s) (read-subgoal-damaged table.head.nodes table.head.answers (view_at table).subgoal s e)

  pub goal-severed : lives_of (coding_of table.head.edition) (view_at table) s ≡ severed → GoalSevered table s
  goal-severed e = severed-answers (sound_subgoal (view_at table) s) (lives_of (coding_of table.head.edition) (view_at table) s) e

  module _ (g : Subgoal) (e : Some g ≡ reads-subgoal (view_at table) s) where
    goal-read : (g ≡ subgoal_under table.cells.now table.head s) × (sound_subgoal (view_at table) s ≡ true)
    goal-read = read-subgoal-sound table.head.nodes table.head.answers (view_at table).subgoal s e

    pub goal-is : g ≡ subgoal_under table.cells.now table.head s
    goal-is = goal-read.0

    pub goal-first : g.first ≤ table.head.answers
    goal-first = omega (arith, ap (λ (x : Subgoal). x.first) goal-is, (subgoal-bounds table.head.nodes table.head.answers (subgoal_under table.cells.now table.head s) goal-read.1).first-most)

    pub goal-sound : (o b : Bool) → o ≡ eqb g.state 0 → AnswersHeld table s b → GoalTold table s (Some (record { is_open = o; fits = b }))
    goal-sound o b f a =
        let ls : answers_in table s ≡ a.0 = lives-in (lives_of (coding_of table.head.edition) (view_at table) s) a.0 a.1 in (
          record { record-sound = goal-read.1; answers-sound = a.1 ∙ ap lives (sym ls) },
          state-open (subgoal_under table.cells.now table.head s).state ∙ ap (λ (x : Subgoal). eqb x.state 0) (sym goal-is) ∙ sym f,
          ap (goal_fits table s) ls ∙ a.2,
        )

-- of the number that it is
pub told-goal : (table : Table) {s t : ℕ} (j : std.Option GoalJudged) → s ≡ t → GoalTold table s j → GoalTold table t j
told-goal table j e x = subst (λ (k : ℕ). GoalTold table k j) e x

-- ---- the rule

pub ruled-open : (o b : Bool) (n : ℕ) → o ≡ true → Err refusal.SourceOpen ≡ ruled o b n
unfolding ruled
ruled-open o b n e = rw e refl

and-false : (a : Bool) → (a && false) ≡ false
and-false true = refl
and-false false = refl

module _ (o b : Bool) (n : ℕ) (e : o ≡ false) where
  pub ruled-none : n ≡ 0 → Err refusal.Goals ≡ ruled o b n
  unfolding ruled
  ruled-none z = rw (e, z) refl

  pub ruled-many : 6 < n → Err refusal.Goals ≡ ruled o b n
  unfolding ruled
  ruled-many l = rw (e, lt-leb n 6 l, and-false (leb 1 n)) refl

  pub ruled-fit : (n ≡ 0 → ⊥) → n ≤ 6 → b ≡ true → Ok tt ≡ ruled o b n
  unfolding ruled
  ruled-fit z l f = rw (e, f, le-leb 1 n (omega (arith, z)), le-leb n 6 l) refl

  pub ruled-unfit : b ≡ false → Err refusal.Goals ≡ ruled o b n
  unfolding ruled
  ruled-unfit f = rw (e, f, and-false (leb 1 n && leb n 6)) refl

-- ---- numbers

within-some : (n s : ℕ) (ss : List ℕ) → all_within n (s ∷ ss) ≡ (ltb 0 s && leb s n && all_within n ss)
unfolding all_within
within-some n s ss = refl

within_none : (n : ℕ) → all_within n [] ≡ true
unfolding all_within
within_none n = refl

module _ (n : ℕ) (ss : List ℕ) (i : ℕ) (l : i < length ss) (e : all_within n ss ≡ all_within n (drop i ss)) where
  here : all_within n ss ≡ (ltb 0 (get_or ss i 0) && leb (get_or ss i 0) n && all_within n (drop (suc i) ss))
  here = e ∙ ap (all_within n) (drop-cons ss i 0 l) ∙ within-some n (get_or ss i 0) (drop (suc i) ss)

  pub within-zero : get_or ss i 0 ≡ 0 → false ≡ all_within n ss
  within-zero z = sym (here ∙ rw z refl)

  pub within-above : (get_or ss i 0 ≡ 0 → ⊥) → n < get_or ss i 0 → false ≡ all_within n ss
  within-above z k = sym (here ∙ rw (lt-ltb 0 (get_or ss i 0) (omega (arith, z)), lt-leb (get_or ss i 0) n k) refl)

  pub within_on : (get_or ss i 0 ≡ 0 → ⊥) → get_or ss i 0 ≤ n → all_within n ss ≡ all_within n (drop (suc i) ss)
  within_on z k = here ∙ rw (lt-ltb 0 (get_or ss i 0) (omega (arith, z)), le-leb (get_or ss i 0) n k) refl

pub within-ended : (n : ℕ) (ss : List ℕ) (i : ℕ) → length ss ≤ i → all_within n ss ≡ all_within n (drop i ss) → true ≡ all_within n ss
within-ended n ss i l e = sym (e ∙ ap (all_within n) (drop_of_length-le ss {i = i} l) ∙ within_none n)

within-parts : (a b c : Bool) → (a && b && c) ≡ true → (a ≡ true) × (b ≡ true) × (c ≡ true)
within-parts true true c e = (refl, refl, e)
within-parts true false c e = absurd (false≢true e)
within-parts false b c e = absurd (false≢true e)

-- each of them
pub within-each : (n : ℕ) (ss : List ℕ) → all_within n ss ≡ true → (i : ℕ) → i < length ss → (1 ≤ get_or ss i 0) × (get_or ss i 0 ≤ n)
unfolding all_within
within-each n [] e i l = absurd (omega arith)
within-each n (s ∷ ss) e zero l =
    let p = within-parts (ltb 0 s) (leb s n) (all_within n ss) e in (omega (arith, ltb-true 0 s p.0), leb-true s n p.1)
within-each n (s ∷ ss) e (suc i) l = let p = within-parts (ltb 0 s) (leb s n) (all_within n ss) e in within-each n ss p.2 i (omega arith)

-- ---- all goals

module _ (table : Table) where
  abbrev goals_of : List ℕ → List Goal
  goals_of ss = map (goal_in table) ss

  before-unsound : (s : ℕ) (ls : Lives) → goal_before (view_at table) s ls unsound ≡ unsound
  unfolding goal_before
  before-unsound s severed = refl
  before-unsound s (lives ls) = refl

  before-severed : (s : ℕ) (ls : Lives) (later : Goals) → goal_severed true ls ≡ true → goal_before (view_at table) s ls later ≡ unsound
  unfolding goal_before goal_severed
  before-severed s severed later e = refl
  before-severed s (lives ls) later e = absurd (false≢true e)

  goals-first : (s : ℕ) (ss : List ℕ) → GoalSevered table s → goals_in (coding_of table.head.edition) (view_at table) (s ∷ ss) ≡ unsound
  unfolding goals_in
  goals-first s ss e = by_cases (sound_subgoal (view_at table) s)
      (λ t. rw t (before-severed s (lives_of (coding_of table.head.edition) (view_at table) s) (goals_in (coding_of table.head.edition) (view_at table) ss) (rw t at e)))
      (λ t. rw t refl)

  goals-later : (s : ℕ) (ss : List ℕ) → goals_in (coding_of table.head.edition) (view_at table) ss ≡ unsound → goals_in (coding_of table.head.edition) (view_at table) (s ∷ ss) ≡ unsound
  unfolding goals_in
  goals-later s ss e = by_cases (sound_subgoal (view_at table) s)
      (λ t. rw (t, e) (before-unsound s (lives_of (coding_of table.head.edition) (view_at table) s)))
      (λ t. rw t refl)

  -- one that is damaged
  goals-unsound : (ss : List ℕ) (i : ℕ) → i < length ss → GoalSevered table (get_or ss i 0) → goals_in (coding_of table.head.edition) (view_at table) ss ≡ unsound
  goals-unsound [] i l e = absurd (omega arith)
  goals-unsound (s ∷ ss) zero l e = goals-first s ss e
  goals-unsound (s ∷ ss) (suc i) l e = goals-later s ss (goals-unsound ss i (omega arith) e)

  -- none is
  goals-sound : (ss : List ℕ) → ((i : ℕ) → i < length ss → GoalSound table (get_or ss i 0)) → goals_in (coding_of table.head.edition) (view_at table) ss ≡ goals (goals_of ss)
  unfolding goals_in goal_before lives_in
  goals-sound [] k = refl
  goals-sound (s ∷ ss) k =
      let f = k 0 (omega arith) in
      rw (f.record-sound, f.answers-sound, goals-sound ss (λ i l. k (suc i) (omega arith))) refl

  open_more : (ss : List ℕ) (s : ℕ) → any_open (goals_of (ss ++ (s ∷ []))) ≡ (any_open (goals_of ss) || is_open (goal_in table s).state)
  unfolding any_open
  open_more [] s = by_cases (is_open (goal_in table s).state) (λ e. rw e refl) (λ e. rw e refl)
  open_more (x ∷ ss) s = by_cases (is_open (goal_in table x).state) (λ e. rw e refl) (λ e. rw e (open_more ss s))

  fit-more : (ss : List ℕ) (s : ℕ) → goals_fit (coding_of table.head.edition) (goals_of (ss ++ (s ∷ []))) ≡ (goals_fit (coding_of table.head.edition) (goals_of ss) && goal_fits table s (answers_in table s))
  unfolding goals_fit
  fit-more [] s = by_cases (eqb (variables_of table s) 2)
      (λ e. by_cases (all_offer (coding_of table.head.edition) (answers_in table s)) (λ f. rw (e, f) refl) (λ f. rw (e, f) refl))
      (λ e. rw e refl)
  fit-more (x ∷ ss) s = by_cases (eqb (variables_of table x) 2)
      (λ e. by_cases (all_offer (coding_of table.head.edition) (answers_in table x)) (λ f. rw (e, f) (fit-more ss s)) (λ f. rw (e, f) refl))
      (λ e. rw e refl)

  fit-each : (ss : List ℕ) → goals_fit (coding_of table.head.edition) (goals_of ss) ≡ true → (i : ℕ) → i < length ss
      → (variables_of table (get_or ss i 0) ≡ 2) × (all_offer (coding_of table.head.edition) (answers_in table (get_or ss i 0)) ≡ true)
  unfolding goals_fit
  fit-each [] e i l = absurd (omega arith)
  fit-each (s ∷ ss) e zero l =
      let p = within-parts (eqb (variables_of table s) 2) (all_offer (coding_of table.head.edition) (answers_in table s)) (goals_fit (coding_of table.head.edition) (goals_of ss)) e in
      (eqb-true (variables_of table s) 2 p.0, p.1)
  fit-each (s ∷ ss) e (suc i) l =
      let p = within-parts (eqb (variables_of table s) 2) (all_offer (coding_of table.head.edition) (answers_in table s)) (goals_fit (coding_of table.head.edition) (goals_of ss)) e in
      fit-each ss p.2 i (omega arith)

  options-are : (ss : List ℕ) → map (options_of (coding_of table.head.edition)) (goals_of ss) ≡ goals_from table ss 0
  options-are [] = refl
  options-are (s ∷ ss) = ap (λ (gs : List (List Option)). options_in table s ∷ gs) (options-are ss)

  -- the goals before i are judged
  pub record Judging (ss : List ℕ) (i : ℕ) (o b : Bool) : Type 0 where
    pub within : i ≤ length ss
    pub sound : (j : ℕ) → j < i → GoalSound table (get_or ss j 0)
    pub opened : any_open (goals_of (take i ss)) ≡ o
    pub fit : goals_fit (coding_of table.head.edition) (goals_of (take i ss)) ≡ b

  pub judging-begun : (ss : List ℕ) → Judging ss 0 false true
  unfolding any_open goals_fit
  judging-begun ss = record { within = omega arith; sound = λ j l. absurd (omega arith); opened = refl; fit = refl }

  module _ (ss : List ℕ) (i : ℕ) (o b : Bool) (g : Judging ss i o b) where
    pub judging-damaged : i < length ss → GoalSevered table (get_or ss i 0) → GoalsTold table ss (Err refusal.Records)
    unfolding detours_in
    judging-damaged l e budget = rw (goals-unsound ss i l e) refl

    pub judging-on : (next : ℕ) → next ≡ suc i → (o' b' : Bool) (x : GoalJudged) → i < length ss → GoalTold table (get_or ss i 0) (Some x) → o' ≡ (o || x.is_open) → b' ≡ (b && x.fits) → Judging ss next o' b'
    judging-on next is o' b' x l e f k = rw is record {
      within = omega arith;
      sound = λ j m. by_cases (eqb j i)
          (λ t. rw (eqb-true j i t) e.0)
          (λ t. g.sound j (omega (arith, eqb-false j i t)));
      opened = ap (λ (xs : List ℕ). any_open (goals_of xs)) (take-suc ss i 0 l) ∙ open_more (take i ss) (get_or ss i 0) ∙ rw (g.opened, e.1) (sym f);
      fit = ap (λ (xs : List ℕ). goals_fit (coding_of table.head.edition) (goals_of xs)) (take-suc ss i 0 l) ∙ fit-more (take i ss) (get_or ss i 0) ∙ rw (g.fit, e.2) (sym k);
    }

    module _ (all : i ≡ length ss) where
      whole : take i ss ≡ ss
      whole = take_all i ss (omega arith)

      opened-all : any_open (goals_of ss) ≡ o
      opened-all = ap (λ (xs : List ℕ). any_open (goals_of xs)) (sym whole) ∙ g.opened

      fit_all : goals_fit (coding_of table.head.edition) (goals_of ss) ≡ b
      fit_all = ap (λ (xs : List ℕ). goals_fit (coding_of table.head.edition) (goals_of xs)) (sym whole) ∙ g.fit

      few-all : few_goals (goals_of ss) ≡ (leb 1 (length ss) && leb (length ss) 6)
      unfolding few_goals
      few-all = rw (length-map ss (goal_in table)) refl

      said : (budget : ℕ) → detours_in (coding_of table.head.edition) (goals_in (coding_of table.head.edition) (view_at table) ss) budget
          ≡ says (pick o (refused 14) (pick ((leb 1 (length ss) && leb (length ss) 6) && b) (detoured (detour (goals_from table ss 0) budget)) (refused 22)))
      unfolding detours_in detours_of
      said budget = rw (goals-sound ss (λ j l. g.sound j (omega arith)), opened-all, few-all, fit_all, options-are ss) refl

      searched : all_within table.head.subgoals ss ≡ true → b ≡ true → (j : ℕ) → j < length ss → Searched table (get_or ss j 0)
      searched w t j l =
          let n = within-each table.head.subgoals ss w j l in
          let f = fit-each ss (fit_all ∙ t) j l in
          let s = g.sound j (omega arith) in
          record {
            low = n.0;
            high = n.1;
            two = f.0;
            first-within = (subgoal-bounds table.head.nodes table.head.answers (subgoal_under table.cells.now table.head (get_or ss j 0)) s.record-sound).first-most;
            sound = s.answers-sound;
            fit = f.1;
          }

      ruled-told : all_within table.head.subgoals ss ≡ true → (p : Bool) → o ≡ p → (q : Bool) → ((leb 1 (length ss) && leb (length ss) 6) && b) ≡ q
          → GoalsTold table ss (pick p (Err refusal.SourceOpen) (pick q (Ok tt) (Err refusal.Goals)))
      ruled-told w true e q f = λ budget. said budget ∙ rw e refl
      ruled-told w false e false f = λ budget. said budget ∙ rw (e, f) refl
      ruled-told w false e true f =
          let x = both_true (leb 1 (length ss) && leb (length ss) 6) b f in
          let y = both_true (leb 1 (length ss)) (leb (length ss) 6) x.0 in
          record {
            some = leb-true 1 (length ss) y.0;
            few = leb-true (length ss) 6 y.1;
            searched = searched w x.1;
            told = λ budget. said budget ∙ rw (e, f) refl;
          }

      pub judging-ended : all_within table.head.subgoals ss ≡ true → (r : Result Unit Refusal) → r ≡ ruled o b (length ss) → GoalsTold table ss r
      unfolding ruled
      judging-ended w r e =
          rw e (ruled-told w o refl ((leb 1 (length ss) && leb (length ss) 6) && b) refl)
