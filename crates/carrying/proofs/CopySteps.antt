-- The loops of the copy: what each turn adds, and that the target holds a table before each.
use Rattle.std.specs.Prelude.{Ok}
use Prim.Native.Nat.{ℕ, zero, suc, ◌+◌, ◌≤◌}
use mathlib.Core.Path.{◌≡◌, refl, sym, ap, ◌∙◌, subst}
use mathlib.Core.List.{List, [], ◌∷◌, ◌++◌, map, append-nil, append_assoc, map-append}
use native.Mathlib.Omega.{arith}
use lib.Dec.{eqb}
use lib.ListN.{length, set}
use borrow.Author.Tests.{eqb-true, eqb-false}
use Rattle.basis.proofs.Cases.{by_cases}
use Rattle.plain.specs.Coding.{Coding}
use Rattle.plain.specs.CodingLaws.{CodingLaws}
use Rattle.plain.specs.Table.{Table, Subgoal, Answer}
use Rattle.plain.proofs.Soundness.{Sound}
use Rattle.space.specs.Layout.{Sizes, subgoal_offset_of, state_cell}
use Rattle.space.specs.Heading.{header_of}
use Rattle.space.specs.Fresh.{fresh_answer, fresh_space}
use Rattle.store.specs.Views.{View}
use Rattle.store.specs.Decisions.{state_of}
use Rattle.store.specs.Changes.{form_given}
use Rattle.store.specs.Calls.{cell_step}
use Rattle.agreement.specs.Records.{Wide}
use Rattle.agreement.specs.Whole.{ReadingAgain, up_to, word_of, subgoal_path, answer_path, subgoal_read, answer_read, table_read}
use Rattle.agreement.proofs.Holding.{Cells, Holds}
use Rattle.agreement.proofs.CallLists.{cell_step-sound}
use Rattle.agreement.proofs.Following.{fresh_holds}
use Rattle.agreement.proofs.Theorem.{cells-hold}
use Rattle.agreement.proofs.WholeTable.{up_to-length}
use Rattle.carrying.specs.Recoding.{Recoding, recoded}
use Rattle.carrying.specs.Carrying.{carried_subgoal, carried_answer, carried}
use Rattle.carrying.specs.Copying.{subgoal_given, subgoals_given, answers_given, state_number, states_given, built}
use Rattle.carrying.specs.Clauses.{first_subgoals, first_answers, after_subgoals, after_answers, after_states}
use Rattle.carrying.proofs.Building.{begun, subgoals-hold}
use Rattle.carrying.proofs.BuildingAnswers.{Partly, begun-partly, answers-hold}

-- ---- lists by number

pub map-up_to : {A B : Type 0} (g : A → B) (f : ℕ → A) (n : ℕ) → map g (up_to f n) ≡ up_to (λ i. g (f i)) n
unfolding up_to
map-up_to g f zero = refl
map-up_to {A} {B} g f (suc n) = map-append g (up_to f n) (f n ∷ []) ∙ ap (λ (l : List B). l ++ (g (f n) ∷ [])) (map-up_to g f n)

pub up_to-suc : {A : Type 0} (f : ℕ → A) (n : ℕ) → up_to f (suc n) ≡ up_to f n ++ (f n ∷ [])
unfolding up_to
up_to-suc f n = refl

up_to-split : {A : Type 0} (f : ℕ → A) (i n : ℕ) → i ≤ n → (more : List A) × (up_to f n ≡ up_to f i ++ more)
unfolding up_to
up_to-split {A} f i zero h = let z : i ≡ 0 = omega arith in ([], subst (λ (k : ℕ). up_to f 0 ≡ up_to f k ++ []) (sym z) refl)
up_to-split {A} f i (suc n) h = by_cases (eqb i (suc n))
    (λ e. let z : i ≡ suc n = eqb-true _ _ e in ([], subst (λ (k : ℕ). up_to f (suc n) ≡ up_to f k ++ []) (sym z) (sym (append-nil (up_to f (suc n))))))
    (λ e. let r = up_to-split f i n (below i n h (eqb-false _ _ e)) in
    (r.0 ++ (f n ∷ []), ap (λ (l : List A). l ++ (f n ∷ [])) r.1 ∙ append_assoc (up_to f i) r.0 (f n ∷ [])))
  where
    below : (i n : ℕ) → i ≤ suc n → (i ≡ suc n → ⊥) → i ≤ n
    below i n h k = omega arith

-- ---- one more

pub subgoals-snoc : (z : Sizes) (gs : List Subgoal) (cs : List ℕ) (g : Subgoal) → subgoals_given z cs (gs ++ (g ∷ [])) ≡ subgoal_given z (subgoals_given z cs gs) g.form g.m (header_of z (subgoals_given z cs gs))
unfolding subgoals_given
subgoals-snoc z [] cs g = refl
subgoals-snoc z (x ∷ gs) cs g = subgoals-snoc z gs (subgoal_given z cs x.form x.m (header_of z cs)) g

pub answers-snoc : (z : Sizes) (ys : List Answer) (cs : List ℕ) (y : Answer) → answers_given z cs (ys ++ (y ∷ [])) ≡ form_given z (answers_given z cs ys) y.subgoal y.form (header_of z (answers_given z cs ys))
unfolding answers_given
answers-snoc z [] cs y = refl
answers-snoc z (x ∷ ys) cs y = answers-snoc z ys (form_given z cs x.subgoal x.form (header_of z cs)) y

pub states-snoc : (z : Sizes) (o : ℕ) (gs : List Subgoal) (cs : List ℕ) (s : ℕ) (g : Subgoal)
    → states_given z o cs s (gs ++ (g ∷ [])) ≡ set (states_given z o cs s gs) (state_cell z o (s + length gs)) (state_number g.state)
unfolding states_given
states-snoc z o [] cs s g = let e : s + 0 ≡ s = omega arith in rw e
states-snoc z o (x ∷ gs) cs s g =
    let e : s + suc (length gs) ≡ suc s + length gs = omega arith in
    rw e (states-snoc z o gs (set cs (state_cell z o s) (state_number x.state)) (suc s) g)

state-cell : (x : ℕ) → x ≤ 1 → state_number (state_of x) ≡ x
state-cell zero h = refl
state-cell (suc zero) h = refl
state-cell (suc (suc x)) h = absurd (omega arith)

-- the state of subgoal i + 1, as its cell is recorded, after those before it
pub states-more : (z : Sizes) (o : ℕ) (cs : List ℕ) (r : Recoding) (v : View) (i : ℕ) → (v.subgoal (suc i)).state ≤ 1
    → states_given z o cs 1 (first_subgoals r v (suc i)) ≡ set (states_given z o cs 1 (first_subgoals r v i)) (state_cell z o (suc i)) (v.subgoal (suc i)).state
states-more z o cs r v i h =
    let before : List ℕ = states_given z o cs 1 (first_subgoals r v i) in
    let p = up_to-length (λ j. carried_subgoal r (subgoal_read v (suc j))) i in
    let q : 1 + length (first_subgoals r v i) ≡ suc i = omega arith in
    ap (states_given z o cs 1) (up_to-suc (λ j. carried_subgoal r (subgoal_read v (suc j))) i)
    ∙ states-snoc z o (first_subgoals r v i) cs 1 (carried_subgoal r (subgoal_read v (suc i)))
    ∙ ap (λ (k : ℕ). set before (state_cell z o k) (state_number (state_of (v.subgoal (suc i)).state))) q
    ∙ ap (λ (k : ℕ). set before (state_cell z o (suc i)) k) (state-cell (v.subgoal (suc i)).state h)

module _ (z : Sizes) (r : Recoding) (v : View) (n f a : ℕ) (target : List ℕ) where
  abbrev S : ℕ → List ℕ
  S = after_subgoals z r v n f a target

  abbrev A : ℕ → List ℕ
  A = after_answers z r v n f a target

  abbrev T : ℕ → List ℕ
  T = after_states z r v n f a target

  pub subgoals-first : after_subgoals z r v n f a target 0 ≡ fresh_space z n f a target
  unfolding subgoals_given up_to
  subgoals-first = refl

  -- subgoal i + 1: its path, recoded, and its variables
  pub subgoals-next : (i : ℕ) → after_subgoals z r v n f a target (suc i)
      ≡ subgoal_given z (S i) (recoded r (word_of (subgoal_path v (suc i)))) (v.subgoal (suc i)).variables (header_of z (S i))
  subgoals-next i =
      ap (subgoals_given z (fresh_space z n f a target)) (up_to-suc (λ j. carried_subgoal r (subgoal_read v (suc j))) i)
      ∙ subgoals-snoc z (first_subgoals r v i) (fresh_space z n f a target) (carried_subgoal r (subgoal_read v (suc i)))

  pub answers-first : after_answers z r v n f a target 0 ≡ S v.subgoals
  unfolding answers_given up_to
  answers-first = refl

  -- answer i + 1: its subgoal, and its path recoded
  pub answers_next : (i : ℕ) → after_answers z r v n f a target (suc i)
      ≡ form_given z (A i) (v.answer (suc i)).subgoal (recoded r (word_of (answer_path v (suc i)))) (header_of z (A i))
  answers_next i =
      ap (answers_given z (S v.subgoals)) (up_to-suc (λ j. carried_answer r (answer_read v (suc j))) i)
      ∙ answers-snoc z (first_answers r v i) (S v.subgoals) (carried_answer r (answer_read v (suc i)))

  pub states-first : after_states z r v n f a target 0 ≡ A v.answers
  unfolding states_given up_to
  states-first = refl

  -- the state of subgoal i + 1, as its cell is recorded
  pub states-next : (i : ℕ) → (v.subgoal (suc i)).state ≤ 1
      → after_states z r v n f a target (suc i) ≡ set (T i) (state_cell z (subgoal_offset_of z n) (suc i)) (v.subgoal (suc i)).state
  states-next i h = states-more z (subgoal_offset_of z n) (A v.answers) r v i h

  -- ---- at the end

  pub subgoals-all : (carried r n f a (table_read v)).subgoals ≡ first_subgoals r v v.subgoals
  subgoals-all = map-up_to (carried_subgoal r) (λ i. subgoal_read v (suc i)) v.subgoals

  pub answers-all : (carried r n f a (table_read v)).answers ≡ first_answers r v v.answers
  answers-all = map-up_to (carried_answer r) (λ i. answer_read v (suc i)) v.answers

  pub states-last : built z (carried r n f a (table_read v)) target ≡ after_states z r v n f a target v.subgoals
  unfolding built
  states-last = rw (subgoals-all, answers-all)

  -- ---- before each turn the target holds a table, so its header is sound and counts what has entered

  module _ (wide : Wide z) (c : Coding) (laws : CodingLaws c) (again : ReadingAgain c) (sound : Sound c (carried r n f a (table_read v))) (fresh : fresh_answer z n f a target ≡ Ok tt) where
    abbrev u : Table
    u = carried r n f a (table_read v)

    cells : Cells z
    cells = cells-hold z wide

    pub subgoals-held : (i : ℕ) → i ≤ v.subgoals → Holds z c (begun (carried r n f a (table_read v)) (first_subgoals r v i)) (after_subgoals z r v n f a target i)
    subgoals-held i h =
        let p = up_to-split (λ j. carried_subgoal r (subgoal_read v (suc j))) i v.subgoals h in
        subgoals-hold z c cells laws u sound (first_subgoals r v i) p.0 [] (fresh_space z n f a target) (sym (subgoals-all ∙ p.1)) (fresh_holds z c cells laws (cell_step z c) (cell_step-sound z c) n f a target fresh)

    pub answers-held : (i : ℕ) → i ≤ v.answers
        → (t : Table) × Partly (carried r n f a (table_read v)) t (first_answers r v i) × Holds z c t (after_answers z r v n f a target i)
    answers-held i h =
        let p = up_to-split (λ j. carried_answer r (answer_read v (suc j))) i v.answers h in
        let k : Holds z c (begun u u.subgoals) (S v.subgoals) = subst (λ (l : List Subgoal). Holds z c (begun u l) (S v.subgoals)) (sym subgoals-all) (subgoals-held v.subgoals (omega arith)) in
        answers-hold z c cells laws again u sound (first_answers r v i) p.0 [] (begun u u.subgoals) (S v.subgoals) (sym (answers-all ∙ p.1)) (begun-partly u) k
