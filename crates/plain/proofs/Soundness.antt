-- Every table that calls make of a fresh one is sound: room is kept, no form is held twice, and each is legal.
use mathlib.Core.Path.{◌≡◌, sym, ap, ◌∙◌}
use mathlib.Core.Bool.{true, false, true≢false}
use mathlib.Core.List.{List, [], ◌∷◌}
use Prim.Native.Nat.{ℕ, suc, ◌≤◌, ◌<◌}
use native.Mathlib.Omega.{arith}
use lib.Dec.{eqb}
use lib.ListN.{length}
use borrow.Author.Tests.{eqb-true, eqb-false}
use Rattle.basis.proofs.Cases.{by_cases}
use Rattle.forms.specs.Numbering.{met}
use Rattle.plain.specs.Words.{Word, has, union, all_inits, prefixes, distinct}
use Rattle.plain.specs.Coding.{Coding, accepted}
use Rattle.plain.specs.CodingLaws.{CodingLaws}
use Rattle.plain.specs.Requests.{Request, left}
use Rattle.plain.specs.Table.{Table, Subgoal, Answer, fresh, subgoal_at, answer_at, subgoal_of_answer, called_forms, answers_to, answer_nodes, nodes, with_subgoal, with_answer, with_finished, with_entry, step}
use Rattle.plain.specs.Consequences.{Kept, reached, Keeping}
use Rattle.plain.proofs.RecordLaws.{subgoal_at-before, subgoal_at-new, subgoals-count, answer_at-before, answer_at-new, answers-count, subgoal_at-lasts, called-held, answer-held, finished-forms, finished-count, settled-cases}
use Rattle.plain.proofs.Changes.{SubgoalEnters, AnswerEnters, AnswersEnter, no-more, one_more_lem, Changed, stayed, subgoal-enters, answer-enters, finishes, answers-enter, step-changed}
use Rattle.plain.proofs.Growth.{left-grows}

-- a form of one legal term with m variables
abbrev pub Fit : Coding → Word → ℕ → Type 0
Fit c w m = (c.legal 1 w ≡ true) × (length (met [] w) ≡ m) × (m ≤ 32)

-- what is kept, and that each stored form is legal, a subgoal's with its variables
pub record Sound (c : Coding) (t : Table) : Type 0 where
  pub kept : Kept t
  pub called : (s : ℕ) → 0 < s → s ≤ length t.subgoals → Fit c (subgoal_at t s).form (subgoal_at t s).m
  pub answered : (a : ℕ) → 0 < a → a ≤ length t.answers → c.legal (subgoal_at t (subgoal_of_answer t a)).m (answer_at t a).form ≡ true

pub sound-fresh : (c : Coding) (n f a : ℕ) → 0 < n → Sound c (fresh n f a)
sound-fresh c n f a h = record {
  kept = record {
    room = unfold nodes answer_nodes distinct prefixes all_inits union in h;
    subgoal-room = omega arith;
    answer-room = omega arith;
    answered = λ x p q. absurd (omega arith);
    subgoals-differ = λ i j p q. absurd (omega arith);
    answers-differ = λ i j p q. absurd (omega arith);
  };
  called = λ s p q. absurd (omega arith);
  answered = λ s p q. absurd (omega arith);
}

-- a number of one of n + 1 records is that of one of n, or the last
last_or : {A : Type 0} (i n : ℕ) → i ≤ suc n → (i ≡ suc n → A) → (i ≤ n → A) → A
last_or i n h f g = by_cases (eqb i (suc n)) (λ e. f (eqb-true _ _ e)) (λ e. let z : i ≡ suc n → ⊥ = eqb-false _ _ e in g (below i n h z))
  where
    below : (i n : ℕ) → i ≤ suc n → (i ≡ suc n → ⊥) → i ≤ n
    below i n h z = omega arith

-- a called term has such a form
pub called-fit : (c : Coding) → CodingLaws c → (cs : List ℕ) (w : Word) (m : ℕ) → c.called cs ≡ accepted w m → Fit c w m
called-fit c laws cs w m e = let v = laws.called-variables cs w m e in (laws.called-legal cs w m e, v.0, v.1)

-- such a form enters as a subgoal, whoever read it
pub record FormEnters (c : Coding) (t : Table) (w : Word) (m : ℕ) : Type 0 where
  pub fit : Fit c w m
  pub absent : has (called_forms t.subgoals) w ≡ false
  pub room : nodes (with_subgoal t w m) ≤ t.N
  pub free : length t.subgoals < t.F

subgoal-form : (c : Coding) → CodingLaws c → (t : Table) (w : Word) (m : ℕ) → SubgoalEnters c t w m → FormEnters c t w m
subgoal-form c laws t w m e = record { fit = called-fit c laws e.cs w m e.reading; absent = e.absent; room = e.room; free = e.free }

module _ (c : Coding) (laws : CodingLaws c) (t : Table) (sound : Sound c t) where
  abbrev kept : Kept t
  kept = sound.kept

  module _ (w : Word) (m : ℕ) (e : FormEnters c t w m) where
    -- the table with the subgoal, and its number
    abbrev grown : Table
    grown = with_subgoal t w m

    abbrev last : ℕ
    last = suc (length t.subgoals)

    grown-count : length grown.subgoals ≡ last
    grown-count = subgoals-count t w m

    -- no subgoal has the new one's form
    old-form : (s : ℕ) → 0 < s → s ≤ length t.subgoals → (subgoal_at grown s).form ≡ w → ⊥
    old-form s p q z =
        let f : (subgoal_at t s).form ≡ w = ap (λ (g : Subgoal). g.form) (sym (subgoal_at-before t w m s q)) ∙ z in
        true≢false (sym (called-held t s p q) ∙ ap (has (called_forms t.subgoals)) f ∙ e.absent)

    new-form : (subgoal_at grown last).form ≡ w
    new-form = ap (λ (g : Subgoal). g.form) (subgoal_at-new t w m)

    grown-differ : (i j : ℕ) → 0 < i → i ≤ length grown.subgoals → 0 < j → j ≤ length grown.subgoals → (subgoal_at grown i).form ≡ (subgoal_at grown j).form → i ≡ j
    grown-differ i j p q r s z =
        last_or i (length t.subgoals) (omega (arith, grown-count))
        (λ x. last_or j (length t.subgoals) (omega (arith, grown-count)) (λ y. x ∙ sym y)
        (λ y. absurd (old-form j r y (sym z ∙ ap (λ (k : ℕ). (subgoal_at grown k).form) x ∙ new-form))))
        (λ x. last_or j (length t.subgoals) (omega (arith, grown-count))
        (λ y. absurd (old-form i p x (z ∙ ap (λ (k : ℕ). (subgoal_at grown k).form) y ∙ new-form)))
        (λ y. kept.subgoals-differ i j p x r y
        (ap (λ (g : Subgoal). g.form) (sym (subgoal_at-before t w m i x)) ∙ z ∙ ap (λ (g : Subgoal). g.form) (subgoal_at-before t w m j y))))

    grown-called : (s : ℕ) → 0 < s → s ≤ length grown.subgoals → Fit c (subgoal_at grown s).form (subgoal_at grown s).m
    grown-called s p q =
        last_or s (length t.subgoals) (omega (arith, grown-count))
        (λ x. rw (x, subgoal_at-new t w m) e.fit)
        (λ x. rw (subgoal_at-before t w m s x) (sound.called s p x))

    grown-answered : (a : ℕ) → 0 < a → a ≤ length t.answers → (0 < subgoal_of_answer t a) × (subgoal_of_answer t a ≤ length grown.subgoals)
    grown-answered a p q = let k = kept.answered a p q in (k.0, omega (arith, k.1, grown-count))

    pub sound-subgoal : Sound c grown
    sound-subgoal = record {
      kept = record {
        room = e.room;
        subgoal-room = omega (arith, e.free, grown-count);
        answer-room = kept.answer-room;
        answered = unfold answer_at in grown-answered;
        subgoals-differ = grown-differ;
        answers-differ = unfold answer_at in kept.answers-differ;
      };
      called = grown-called;
      answered = λ a p q. unfold answer_at in
          rw (subgoal_at-before t w m (subgoal_of_answer t a) (kept.answered a p q).1) (sound.answered a p q);
    }

  module _ (s : ℕ) (w : Word) (e : AnswerEnters c t s w) where
    -- the table with the answer, and its number
    abbrev fuller : Table
    fuller = with_answer t s w

    abbrev latest : ℕ
    latest = suc (length t.answers)

    fuller-count : length fuller.answers ≡ latest
    fuller-count = answers-count t s w

    before : (a : ℕ) → a ≤ length t.answers → answer_at fuller a ≡ answer_at t a
    before a h = answer_at-before t s w a h

    newest : answer_at fuller latest ≡ record { subgoal = s; form = w }
    newest = answer_at-new t s w

    before-subgoal : (a : ℕ) → a ≤ length t.answers → subgoal_of_answer fuller a ≡ subgoal_of_answer t a
    before-subgoal a h = ap (λ (x : Answer). x.subgoal) (before a h)

    newest-subgoal : subgoal_of_answer fuller latest ≡ s
    newest-subgoal = ap (λ (x : Answer). x.subgoal) newest

    -- no answer to the subgoal has the new one's form
    old-answer : (a : ℕ) → 0 < a → a ≤ length t.answers → subgoal_of_answer t a ≡ s → (answer_at t a).form ≡ w → ⊥
    old-answer a p q x y =
        true≢false (sym (answer-held t a p q) ∙ ap (λ (k : ℕ). has (answers_to t.answers k) (answer_at t a).form) x ∙ ap (has (answers_to t.answers s)) y ∙ e.absent)

    fuller-differ : (a b : ℕ) → 0 < a → a ≤ length fuller.answers → 0 < b → b ≤ length fuller.answers
        → subgoal_of_answer fuller a ≡ subgoal_of_answer fuller b → (answer_at fuller a).form ≡ (answer_at fuller b).form → a ≡ b
    fuller-differ a b p q r z f g =
        last_or a (length t.answers) (omega (arith, fuller-count))
        (λ x. last_or b (length t.answers) (omega (arith, fuller-count)) (λ y. x ∙ sym y)
        (λ y. absurd (old-answer b r y (sym (rw (x, newest-subgoal, before-subgoal b y) at f)) (sym (rw (x, newest, before b y) at g)))))
        (λ x. last_or b (length t.answers) (omega (arith, fuller-count))
        (λ y. absurd (old-answer a p x (rw (y, newest-subgoal, before-subgoal a x) at f) (rw (y, newest, before a x) at g)))
        (λ y. kept.answers-differ a b p x r y (rw (before-subgoal a x, before-subgoal b y) at f) (rw (before a x, before b y) at g)))

    fuller-answered : (a : ℕ) → 0 < a → a ≤ length fuller.answers → c.legal (subgoal_at t (subgoal_of_answer fuller a)).m (answer_at fuller a).form ≡ true
    fuller-answered a p q =
        last_or a (length t.answers) (omega (arith, fuller-count))
        (λ x. rw (x, newest-subgoal, newest) (laws.answered-legal (subgoal_at t s).m e.cs w e.n e.reading))
        (λ x. rw (before-subgoal a x, before a x) (sound.answered a p x))

    pub sound-answer : Sound c fuller
    sound-answer = record {
      kept = record {
        room = e.room;
        subgoal-room = kept.subgoal-room;
        answer-room = omega (arith, e.free, fuller-count);
        answered = λ a p q.
            last_or a (length t.answers) (omega (arith, fuller-count))
            (λ x. rw (x, newest-subgoal) (e.low, e.high))
            (λ x. rw (before-subgoal a x) (kept.answered a p x));
        subgoals-differ = unfold subgoal_at in kept.subgoals-differ;
        answers-differ = fuller-differ;
      };
      called = unfold subgoal_at in sound.called;
      answered = unfold subgoal_at in fuller-answered;
    }

module _ (c : Coding) (t : Table) (sound : Sound c t) where
  module _ (s : ℕ) (low : 0 < s) (high : s ≤ length t.subgoals) where
    -- the table with the subgoal finished
    abbrev ended : Table
    ended = with_finished t s

    ended-count : length ended.subgoals ≡ length t.subgoals
    ended-count = finished-count t s

    ended-nodes : nodes ended ≡ nodes t
    unfolding nodes
    ended-nodes = rw (finished-forms t s low, finished-count t s)

    ended-form : (x : ℕ) → (subgoal_at ended x).form ≡ (subgoal_at t x).form
    ended-form x = (subgoal_at-lasts t s x low high).form

    ended-m : (x : ℕ) → (subgoal_at ended x).m ≡ (subgoal_at t x).m
    ended-m x = (subgoal_at-lasts t s x low high).m

    ended-answered : (a : ℕ) → 0 < a → a ≤ length t.answers → c.legal (subgoal_at ended (subgoal_of_answer t a)).m (answer_at t a).form ≡ true
    ended-answered a p q = rw (ended-m (subgoal_of_answer t a)) (sound.answered a p q)

    pub sound-finished : Sound c ended
    sound-finished = record {
      kept = record {
        room = omega (arith, ended-nodes, sound.kept.room);
        subgoal-room = omega (arith, ended-count, sound.kept.subgoal-room);
        answer-room = sound.kept.answer-room;
        answered = unfold answer_at in λ a p q. let k = sound.kept.answered a p q in (k.0, omega (arith, k.1, ended-count));
        subgoals-differ = λ i j p q r z f. sound.kept.subgoals-differ i j p (omega (arith, ended-count)) r (omega (arith, ended-count)) (sym (ended-form i) ∙ f ∙ ended-form j);
        answers-differ = unfold answer_at in sound.kept.answers-differ;
      };
      called = λ x p q. rw (ended-form x, ended-m x) (sound.called x p (omega (arith, ended-count)));
      answered = unfold answer_at in ended-answered;
    }

pub sound-entry : (c : Coding) → CodingLaws c → (t : Table) → Sound c t → (s : ℕ) (w : Word) → AnswerEnters c t s w → Sound c (with_entry t s w)
sound-entry c laws t sound s w e =
    let full : Sound c (with_answer t s w) = sound-answer c laws t sound s w e in
    settled-cases (with_answer t s w) s (Sound c) (sound-finished c (with_answer t s w) full s e.low e.high) full

sound-entered : {c : Coding} {s : ℕ} {t u : Table} → CodingLaws c → Sound c t → AnswersEnter c s t u → Sound c u
sound-entered laws sound no-more = sound
sound-entered {c} {s} {t} laws sound (one_more_lem w e rest) = sound-entered laws (sound-entry c laws t sound s w e) rest

pub sound-changed : (c : Coding) → CodingLaws c → (t u : Table) → Sound c t → Changed c t u → Sound c u
sound-changed c laws t u sound stayed = sound
sound-changed c laws t u sound (subgoal-enters w m e) = sound-subgoal c laws t sound w m (subgoal-form c laws t w m e)
sound-changed c laws t u sound (answer-enters s w o e) = sound-entry c laws t sound s w e
sound-changed c laws t u sound (finishes s low high) = sound-finished c t sound s low high
sound-changed c laws t u sound (answers-enter s x o e) = sound-entered laws sound e

pub sound-step : (c : Coding) → CodingLaws c → (t : Table) (q : Request) → Sound c t → Sound c (step c t q).state
sound-step c laws t q sound = sound-changed c laws t (step c t q).state sound (step-changed c t q)

pub sound-left : (c : Coding) → CodingLaws c → (t : Table) → Sound c t → (qs : List Request) → Sound c (left (step c) t qs)
unfolding left
sound-left c laws t sound [] = sound
sound-left c laws t sound (q ∷ qs) = sound-left c laws (step c t q).state (sound-step c laws t q sound) qs

pub sound-reached : (c : Coding) → CodingLaws c → (n f a : ℕ) → 0 < n → (qs : List Request) → Sound c (reached c n f a qs)
sound-reached c laws n f a h qs = sound-left c laws (fresh n f a) (sound-fresh c n f a h) qs

pub keeping : (c : Coding) → CodingLaws c → Keeping c
keeping c laws n f a h qs = let g = left-grows c (fresh n f a) qs in ((sound-reached c laws n f a h qs).kept, g.N, g.F, g.A)
