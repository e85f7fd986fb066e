-- Two codings that read alike answer alike (specs/Alike.antt): the second table is the first with its forms translated.
use mathlib.Core.Path.{◌≡◌, refl, sym, ap, ◌∙◌, subst}
use mathlib.Core.Bool.{Bool, true, false}
use mathlib.Core.List.{List, [], ◌∷◌, ◌++◌, map, map-append}
use Prim.Native.Nat.{ℕ, zero, suc, ◌-◌, pred}
use native.Mathlib.Omega.{arith}
use lib.Dec.{eqb, leb, ltb}
use lib.ListN.{length, get_or, set, length-map, get_or-map}
use Rattle.basis.specs.Choice.{pick}
use Rattle.basis.proofs.Cases.{by_cases}
use Rattle.forms.specs.Compact.{same}
use Rattle.forms.proofs.RoundTrip.{same_self, same_true}
use Rattle.plain.specs.Words.{Word}
use Rattle.plain.specs.Coding.{Coding, Reading, refused, accepted, naming}
use Rattle.plain.specs.CodingLaws.{CodingLaws}
use Rattle.plain.specs.Joins.{Forms, declined, formed, Side, combined, before, all_read, is_open, ground, named, join_of}
use Rattle.plain.specs.Requests.{State, Open, Finished, Request, call_least, answer, finish, next, load, instance, counts, join, why, detours}
use Rattle.plain.specs.Requests.{Reply, new, old_subgoal, old_answer, used, joined, refused, short, Result, Seen, trace}
use Rattle.plain.specs.Table.{Table, Subgoal, Answer, fresh, no_subgoal, no_answer, subgoal_at, answer_at, subgoal_of_answer, answers_to, counted, number, subgoal_of, answer_of, after, following}
use Rattle.plain.specs.Table.{with_subgoal, with_answer, with_finished, settled, with_entry, stays, becomes, known, fits, appended, called, answered, while_open, starting, onward, writes, given, entered, side_of, joining, newness, reasoned, numbered_answers, goal_of, detouring, step, table_trace}
use Rattle.plain.specs.Detours.{Live, Goal, Option, all_offer, goals_fit, any_open, few_goals, option_of, options_of, detours_of}
use Rattle.plain.specs.Alike.{nodes_apart, reason_apart, reply_apart, seen_apart, is_ten, up_to_ten, AnswerAlike, read_as, ReadAlike}
use Rattle.plain.proofs.Changes.{Readable, Read, all_read_lem, join-cases, AnswersEnter, no-more, one_more_lem, Changed, stayed, subgoal-enters, answer-enters, finishes, answers-enter, step-changed}
use Rattle.plain.proofs.Naming.{naming-cases}

map-set : {A B : Type 0} (f : A → B) (l : List A) (i : ℕ) (v : A) → map f (set l i v) ≡ set (map f l) i (f v)
map-set f [] i v = refl
map-set f (x ∷ xs) zero v = refl
map-set f (x ∷ xs) (suc i) v = ap (λ l. f x ∷ l) (map-set f xs i v)

-- ---- forms that a coding holds to be legal

module _ (c : Coding) where
  abbrev LegalForm : Word → Type 0
  LegalForm w = (m : ℕ) × (c.legal m w ≡ true)

  abbrev LegalForms : List Word → Type 0
  LegalForms [] = Unit {0}
  LegalForms (w ∷ ws) = LegalForm w × LegalForms ws

  abbrev LegalGoals : List Subgoal → Type 0
  LegalGoals [] = Unit {0}
  LegalGoals (g ∷ gs) = LegalForm g.form × LegalGoals gs

  abbrev LegalAnswers : List Answer → Type 0
  LegalAnswers [] = Unit {0}
  LegalAnswers (a ∷ l) = LegalForm a.form × LegalAnswers l

  pub record LegalTable (t : Table) : Type 0 where
    pub subgoals : LegalGoals t.subgoals
    pub answers : LegalAnswers t.answers

  goals-append : (gs hs : List Subgoal) → LegalGoals gs → LegalGoals hs → LegalGoals (gs ++ hs)
  goals-append [] hs h k = k
  goals-append (g ∷ gs) hs h k = (h.0, goals-append gs hs h.1 k)

  answers-append : (l k : List Answer) → LegalAnswers l → LegalAnswers k → LegalAnswers (l ++ k)
  answers-append [] k h x = x
  answers-append (a ∷ l) k h x = (h.0, answers-append l k h.1 x)

  goals-set : (gs : List Subgoal) (i : ℕ) (g : Subgoal) → LegalGoals gs → LegalForm g.form → LegalGoals (set gs i g)
  goals-set [] i g h k = tt
  goals-set (x ∷ gs) zero g h k = (k, h.1)
  goals-set (x ∷ gs) (suc i) g h k = (h.0, goals-set gs i g h.1 k)

  forms-to : (l : List Answer) (s : ℕ) → LegalAnswers l → LegalForms (answers_to l s)
  unfolding answers_to
  forms-to [] s h = tt
  forms-to (a ∷ l) s h = by_cases (eqb a.subgoal s) (λ e. rw e (h.0, forms-to l s h.1)) (λ e. rw e (forms-to l s h.1))

  abbrev LegalLives : List Live → Type 0
  LegalLives [] = Unit {0}
  LegalLives (a ∷ l) = LegalForm a.form × LegalLives l

  lives-legal : (s n : ℕ) (l : List Answer) → LegalAnswers l → LegalLives (numbered_answers s n l)
  unfolding numbered_answers
  lives-legal s n [] h = tt
  lives-legal s n (a ∷ l) h = by_cases (eqb a.subgoal s) (λ e. rw e (h.0, lives-legal s (suc n) l h.1)) (λ e. rw e (lives-legal s (suc n) l h.1))

  module _ (none : c.legal 0 [] ≡ true) where
    goal-legal : (gs : List Subgoal) (s : ℕ) → LegalGoals gs → LegalForm (get_or gs s no_subgoal).form
    unfolding no_subgoal
    goal-legal [] s h = (0, none)
    goal-legal (g ∷ gs) zero h = h.0
    goal-legal (g ∷ gs) (suc s) h = goal-legal gs s h.1

    answer-legal : (l : List Answer) (a : ℕ) → LegalAnswers l → LegalForm (get_or l a no_answer).form
    unfolding no_answer
    answer-legal [] a h = (0, none)
    answer-legal (x ∷ l) zero h = h.0
    answer-legal (x ∷ l) (suc a) h = answer-legal l a h.1

    goal-at-legal : (t : Table) (s : ℕ) → LegalTable t → LegalForm (subgoal_at t s).form
    unfolding subgoal_at no_subgoal
    goal-at-legal t zero h = (0, none)
    goal-at-legal t (suc s) h = goal-legal t.subgoals s h.subgoals

    answer-at-legal : (t : Table) (a : ℕ) → LegalTable t → LegalForm (answer_at t a).form
    unfolding answer_at no_answer
    answer-at-legal t zero h = (0, none)
    answer-at-legal t (suc a) h = answer-legal t.answers a h.answers

    -- every call leaves them legal
    finished-legal : (t : Table) (s : ℕ) → LegalTable t → LegalTable (with_finished t s)
    finished-legal t s h = record { subgoals = goals-set t.subgoals (pred s) _ h.subgoals (goal-at-legal t s h); answers = h.answers }

    settled-legal : (t : Table) (s : ℕ) → LegalTable t → LegalTable (settled t s)
    unfolding settled
    settled-legal t s h = by_cases (eqb (subgoal_at t s).m 0) (λ e. rw e (finished-legal t s h)) (λ e. rw e h)

    entry-legal : (t : Table) (s : ℕ) (w : Word) → LegalForm w → LegalTable t → LegalTable (with_entry t s w)
    entry-legal t s w k h = settled-legal (with_answer t s w) s (record { subgoals = h.subgoals; answers = answers-append t.answers _ h.answers (k, tt) })

    module _ (laws : CodingLaws c) where
      enters-legal : {s : ℕ} {t u : Table} → AnswersEnter c s t u → LegalTable t → LegalTable u
      enters-legal no-more h = h
      enters-legal {s} {t} (one_more_lem w e more) h = enters-legal more (entry-legal t s w (_, laws.answered-legal _ e.cs w e.n e.reading) h)

      changed-legal : {t u : Table} → Changed c t u → LegalTable t → LegalTable u
      changed-legal stayed h = h
      changed-legal {t} (subgoal-enters w m e) h =
          record { subgoals = goals-append t.subgoals _ h.subgoals ((1, laws.called-legal e.cs w m e.reading), tt); answers = h.answers }
      changed-legal {t} (answer-enters s w o e) h = entry-legal t s w (_, laws.answered-legal _ e.cs w e.n e.reading) h
      changed-legal {t} (finishes s low high) h = finished-legal t s h
      changed-legal (answers-enter s u o e) h = enters-legal e h

      pub step-legal : (t : Table) (q : Request) → LegalTable t → LegalTable (step c t q).state
      step-legal t q h = changed-legal (step-changed c t q) h

-- ---- the table in the other form

module _ (c d : Coding) (laws : CodingLaws c) (alike : ReadAlike c d) where
  abbrev τ : Word → Word
  τ = alike.other

  abbrev goal : Subgoal → Subgoal
  goal g = record { form = τ g.form; m = g.m; state = g.state }

  abbrev reply : Answer → Answer
  reply a = record { subgoal = a.subgoal; form = τ a.form }

  -- with room for k nodes
  abbrev imaged : ℕ → Table → Table
  imaged k t = record { N = k; F = t.F; A = t.A; subgoals = map goal t.subgoals; answers = map reply t.answers }

  module _ (k : ℕ) where
    -- ---- records

    subgoal_at-imaged : (t : Table) (s : ℕ) → subgoal_at (imaged k t) s ≡ goal (subgoal_at t s)
    unfolding subgoal_at
    subgoal_at-imaged t s =
        let e : goal no_subgoal ≡ no_subgoal = unfold no_subgoal in rw alike.other_none in
        subst (λ (x : Subgoal). get_or (x ∷ map goal t.subgoals) s x ≡ goal (get_or (no_subgoal ∷ t.subgoals) s no_subgoal)) e
        (get_or-map goal (no_subgoal ∷ t.subgoals) s no_subgoal)

    answer_at-imaged : (t : Table) (a : ℕ) → answer_at (imaged k t) a ≡ reply (answer_at t a)
    unfolding answer_at
    answer_at-imaged t a =
        let e : reply no_answer ≡ no_answer = unfold no_answer in rw alike.other_none in
        subst (λ (x : Answer). get_or (x ∷ map reply t.answers) a x ≡ reply (get_or (no_answer ∷ t.answers) a no_answer)) e
        (get_or-map reply (no_answer ∷ t.answers) a no_answer)

    m-imaged : (t : Table) (s : ℕ) → (subgoal_at (imaged k t) s).m ≡ (subgoal_at t s).m
    m-imaged t s = ap (λ (g : Subgoal). g.m) (subgoal_at-imaged t s)

    state-imaged : (t : Table) (s : ℕ) → (subgoal_at (imaged k t) s).state ≡ (subgoal_at t s).state
    state-imaged t s = ap (λ (g : Subgoal). g.state) (subgoal_at-imaged t s)

    owner-imaged : (t : Table) (a : ℕ) → subgoal_of_answer (imaged k t) a ≡ subgoal_of_answer t a
    owner-imaged t a = ap (λ (x : Answer). x.subgoal) (answer_at-imaged t a)

    goals-many : (t : Table) → length (imaged k t).subgoals ≡ length t.subgoals
    goals-many t = length-map t.subgoals goal

    answers-many : (t : Table) → length (imaged k t).answers ≡ length t.answers
    answers-many t = length-map t.answers reply

    answers_to-imaged : (l : List Answer) (s : ℕ) → answers_to (map reply l) s ≡ map τ (answers_to l s)
    unfolding answers_to
    answers_to-imaged [] s = refl
    answers_to-imaged (a ∷ l) s = by_cases (eqb a.subgoal s) (λ e. rw (e, answers_to-imaged l s)) (λ e. rw (e, answers_to-imaged l s))

    -- ---- finding

    same-imaged : (w v : Word) → LegalForm c w → LegalForm c v → same (τ w) (τ v) ≡ same w v
    same-imaged w v h k = by_cases (same w v)
        (λ e. rw (same_true w v e) (same_self (τ v) ∙ sym (same_self v)))
        (λ e. by_cases (same (τ w) (τ v))
        (λ f. let z : w ≡ v = alike.apart h.0 k.0 w v h.1 k.1 (same_true (τ w) (τ v) f) in f ∙ sym (rw z (same_self v)))
        (λ f. f ∙ sym e))

    number-goals : (w : Word) → LegalForm c w → (n : ℕ) (gs : List Subgoal) → LegalGoals c gs
        → number (λ g. same g.form (τ w)) n (map goal gs) ≡ number (λ g. same g.form w) n gs
    unfolding number
    number-goals w h n [] l = refl
    number-goals w h n (g ∷ gs) l = rw (same-imaged g.form w l.0 h, number-goals w h (suc n) gs l.1)

    number-answers : (s : ℕ) (w : Word) → LegalForm c w → (n : ℕ) (as' : List Answer) → LegalAnswers c as'
        → number (λ a. pick (eqb a.subgoal s) (same a.form (τ w)) false) n (map reply as') ≡ number (λ a. pick (eqb a.subgoal s) (same a.form w) false) n as'
    unfolding number
    number-answers s w h n [] l = refl
    number-answers s w h n (a ∷ as') l = rw (same-imaged a.form w l.0 h, number-answers s w h (suc n) as' l.1)

    after_same : (f g : ℕ → ℕ) → ((i : ℕ) → f i ≡ g i) → (n i x : ℕ) → after f n i x ≡ after g n i x
    unfolding after
    after_same f g e zero i x = refl
    after_same f g e (suc n) i x = rw (e n, after_same f g e n i x)

    module _ (t : Table) (legal : LegalTable c t) where
      subgoal_of-imaged : (w : Word) → LegalForm c w → subgoal_of (imaged k t) (τ w) ≡ subgoal_of t w
      unfolding subgoal_of
      subgoal_of-imaged w h = number-goals w h 1 t.subgoals legal.subgoals

      answer_of-imaged : (s : ℕ) (w : Word) → LegalForm c w → answer_of (imaged k t) s (τ w) ≡ answer_of t s w
      unfolding answer_of
      answer_of-imaged s w h = number-answers s w h 1 t.answers legal.answers

    following-imaged : (t : Table) (s a : ℕ) → following (imaged k t) s a ≡ following t s a
    unfolding following
    following-imaged t s a =
        ap (λ (n : ℕ). after (subgoal_of_answer (imaged k t)) (suc n) a s) (answers-many t)
        ∙ after_same (subgoal_of_answer (imaged k t)) (subgoal_of_answer t) (owner-imaged t) (suc (length t.answers)) a s

    starting-imaged : (t : Table) (s a : ℕ) → starting (imaged k t) s a ≡ starting t s a
    unfolding starting
    starting-imaged t s a = rw (answers-many t, owner-imaged t a)

    onward-imaged : (t : Table) (s a : ℕ) → onward (imaged k t) s a ≡ onward t s a
    unfolding onward
    onward-imaged t s a = rw (following-imaged t s a, state-imaged t s)

    -- ---- changing

    abbrev table_of : ℕ → ℕ → List Subgoal → List Answer → Table
    table_of f a gs l = record { N = k; F = f; A = a; subgoals = gs; answers = l }

    subgoal-imaged : (t : Table) (w : Word) (m : ℕ) → with_subgoal (imaged k t) (τ w) m ≡ imaged k (with_subgoal t w m)
    subgoal-imaged t w m =
        ap (λ (gs : List Subgoal). table_of t.F t.A gs (map reply t.answers)) (sym (map-append goal t.subgoals (record { form = w; m = m; state = Open } ∷ [])))

    answer-imaged : (t : Table) (s : ℕ) (w : Word) → with_answer (imaged k t) s (τ w) ≡ imaged k (with_answer t s w)
    answer-imaged t s w =
        ap (λ (l : List Answer). table_of t.F t.A (map goal t.subgoals) l) (sym (map-append reply t.answers (record { subgoal = s; form = w } ∷ [])))

    finished-imaged : (t : Table) (s : ℕ) → with_finished (imaged k t) s ≡ imaged k (with_finished t s)
    finished-imaged t s =
        ap (λ (g : Subgoal). table_of t.F t.A (set (map goal t.subgoals) (pred s) (record { form = g.form; m = g.m; state = Finished })) (map reply t.answers)) (subgoal_at-imaged t s)
        ∙ ap (λ (gs : List Subgoal). table_of t.F t.A gs (map reply t.answers)) (sym (map-set goal t.subgoals (pred s) (record { form = (subgoal_at t s).form; m = (subgoal_at t s).m; state = Finished })))

    settled-imaged : (t : Table) (s : ℕ) → settled (imaged k t) s ≡ imaged k (settled t s)
    unfolding settled
    settled-imaged t s =
        ap (λ (m : ℕ). pick (eqb m 0) (with_finished (imaged k t) s) (imaged k t)) (m-imaged t s)
        ∙ by_cases (eqb (subgoal_at t s).m 0) (λ e. rw e (finished-imaged t s)) (λ e. rw e refl)

    entry-imaged : (t : Table) (s : ℕ) (w : Word) → with_entry (imaged k t) s (τ w) ≡ imaged k (with_entry t s w)
    entry-imaged t s w = ap (λ (u : Table). settled u s) (answer-imaged t s w) ∙ settled-imaged (with_answer t s w) s

    given-imaged : (t : Table) (s : ℕ) (w : Word) → LegalTable c t → LegalForm c w → given (imaged k t) s (τ w) ≡ imaged k (given t s w)
    unfolding given
    given-imaged t s w l h = by_cases (eqb (answer_of t s w) 0)
        (λ e. rw (answer_of-imaged t l s w h, e) (entry-imaged t s w))
        (λ e. rw (answer_of-imaged t l s w h, e) refl)

    given-legal : (t : Table) (s : ℕ) (w : Word) → LegalTable c t → LegalForm c w → LegalTable c (given t s w)
    unfolding given
    given-legal t s w l h = by_cases (eqb (answer_of t s w) 0) (λ e. rw e (entry-legal c alike.none t s w h l)) (λ e. rw e l)

    entered-imaged : (t : Table) (s : ℕ) (ws : List Word) → LegalTable c t → LegalForms c ws → entered (imaged k t) s (map τ ws) ≡ imaged k (entered t s ws)
    unfolding entered
    entered-imaged t s [] l h = refl
    entered-imaged t s (w ∷ ws) l h =
        ap (λ (u : Table). entered u s (map τ ws)) (given-imaged t s w l h.0) ∙ entered-imaged (given t s w) s ws (given-legal t s w l h.0) h.1

    -- ---- one call on both

    -- what a call leaves of the two, where neither is refused by 10
    abbrev Agree : Result Table → Result Table → Type 0
    Agree r p = is_ten r.reply ≡ false → is_ten p.reply ≡ false
        → (reply_apart r.reply ≡ reply_apart p.reply) × (r.out ≡ p.out) × (p.state ≡ imaged k r.state)

    stays-agree : (t : Table) (out : List ℕ) (r : Reply) → Agree (stays t out r) (stays (imaged k t) out r)
    stays-agree t out r x y = (refl, refl, refl)

    known-agree : (t : Table) (out : List ℕ) (n n' s : ℕ) (r p : Result Table) → n' ≡ n → Agree r p → Agree (known t out n s r) (known (imaged k t) out n' s p)
    known-agree t out n n' s r p e h = by_cases (ltb 0 s)
        (λ f. by_cases (leb s n) (λ g. rw (e, f, g) h) (λ g. rw (e, f, g) (stays-agree t out (refused 7))))
        (λ f. rw f (stays-agree t out (refused 7)))

    open-agree : (t : Table) (x y : State) (r p : Result Table) → y ≡ x → Agree r p → Agree (while_open t x r) (while_open (imaged k t) y p)
    open-agree t Open y r p e h = rw e h
    open-agree t Finished y r p e h = rw e (stays-agree t [] (refused 8))

    ten-first : (t : Table) (p : Result Table) → Agree (becomes t (refused 10)) p
    unfolding is_ten
    ten-first t p x y = let z : ◌≡◌ {A = ℕ} 0 1 = cc in absurd (omega arith)

    ten-second : (r : Result Table) (u : Table) → Agree r (becomes u (refused 10))
    unfolding is_ten
    ten-second r u x y = let z : ◌≡◌ {A = ℕ} 0 1 = cc in absurd (omega arith)

    appended-agree : (t more more' : Table) (room room' : Bool) (n n' : ℕ) → more' ≡ imaged k more → room' ≡ room → n' ≡ n
        → Agree (appended t more room n) (appended (imaged k t) more' room' n')
    unfolding appended
    appended-agree t more more' room room' n n' e f g = by_cases (fits more t.N)
        (λ x. by_cases (fits more' k)
        (λ y. by_cases room
        (λ z. rw (x, y, f, g, z) (λ a b. (refl, refl, e)))
        (λ z. rw (x, y, f, z) (stays-agree t [] (refused 11))))
        (λ y. rw (x, y) (ten-second (pick room (becomes more (new n)) (becomes t (refused 11))) (imaged k t))))
        (λ x. rw x (ten-first t (appended (imaged k t) more' room' n')))

    -- what was read is legal
    abbrev ReadLegal : Reading → Type 0
    ReadLegal (refused r) = Unit {0}
    ReadLegal (accepted w m) = LegalForm c w

    called-legally : (ks : List ℕ) (x : Reading) → c.called ks ≡ x → ReadLegal x
    called-legally ks (refused r) e = tt
    called-legally ks (accepted w m) e = (1, laws.called-legal ks w m e)

    answered-legally : (n : ℕ) (ks : List ℕ) (x : Reading) → c.answered n ks ≡ x → ReadLegal x
    answered-legally n ks (refused r) e = tt
    answered-legally n ks (accepted w m) e = (n, laws.answered-legal n ks w m e)

    module _ (t : Table) (legal : LegalTable c t) where
      called-agree : (x : Reading) → ReadLegal x → Agree (called t x) (called (imaged k t) (read_as τ x))
      unfolding called read_as
      called-agree (refused r) h = stays-agree t [] (refused r)
      called-agree (accepted w m) h =
          let e : subgoal_of (imaged k t) (τ w) ≡ subgoal_of t w = subgoal_of-imaged t legal w h in
          by_cases (eqb (subgoal_of t w) 0)
          (λ f. rw (e, f) (appended-agree t (with_subgoal t w m) (with_subgoal (imaged k t) (τ w) m) _ _ _ _ (subgoal-imaged t w m)
          (ap (λ (n : ℕ). ltb n t.F) (goals-many t)) (ap suc (goals-many t))))
          (λ f. rw (e, f, state-imaged t (subgoal_of t w)) (stays-agree t [] (old_subgoal (subgoal_of t w) (subgoal_at t (subgoal_of t w)).state)))

      answered-agree : (s : ℕ) (x : Reading) → ReadLegal x → Agree (answered t s x) (answered (imaged k t) s (read_as τ x))
      unfolding answered read_as
      answered-agree s (refused r) h = stays-agree t [] (refused r)
      answered-agree s (accepted w m) h =
          let e : answer_of (imaged k t) s (τ w) ≡ answer_of t s w = answer_of-imaged t legal s w h in
          by_cases (eqb (answer_of t s w) 0)
          (λ f. rw (e, f) (open-agree t (subgoal_at t s).state (subgoal_at (imaged k t) s).state _ _ (state-imaged t s)
          (appended-agree t (with_entry t s w) (with_entry (imaged k t) s (τ w)) _ _ _ _ (entry-imaged t s w)
          (ap (λ (n : ℕ). ltb n t.A) (answers-many t)) (ap suc (answers-many t)))))
          (λ f. rw (e, f) (stays-agree t [] (old_answer (answer_of t s w))))

      writes-agree : (cs ds out : List ℕ) → ds ≡ cs → Agree (writes t cs out) (writes (imaged k t) ds out)
      unfolding writes
      writes-agree cs ds out e = rw e (by_cases (leb (length cs) (length out))
          (λ f. rw f (λ a b. (refl, refl, refl)))
          (λ f. rw f (stays-agree t out (short (length cs)))))

      -- ---- joins

      -- the forms that a join gives, in the other form
      abbrev forms_as : Forms → Forms
      forms_as (declined r) = declined r
      forms_as (formed ws) = formed (map τ ws)

      before-as : (x : Reading) (l : Forms) → before (read_as τ x) (forms_as l) ≡ forms_as (before x l)
      unfolding before read_as
      before-as (refused r) l = refl
      before-as (accepted w m) (declined r) = refl
      before-as (accepted w m) (formed ws) = refl

      all-as : (m : ℕ) (kss : List (List ℕ)) → all_read d m kss ≡ forms_as (all_read c m kss)
      unfolding all_read
      all-as m [] = refl
      all-as m (ks ∷ kss) = rw (alike.answered m ks, all-as m kss) (before-as (c.answered m ks) (all_read c m kss))

      ground-as : (ws : List Word) → LegalForms c ws → ground (map τ ws) ≡ ground ws
      unfolding ground
      ground-as [] h = refl
      ground-as (w ∷ ws) h = rw (alike.variables h.0.0 w h.0.1, ground-as ws h.1)

      terms-as : (ws : List Word) → LegalForms c ws → map (λ w. d.terms w) (map τ ws) ≡ map (λ w. c.terms w) ws
      terms-as [] h = refl
      terms-as (w ∷ ws) h = rw (alike.terms h.0.0 w h.0.1, terms-as ws h.1)

      abbrev side_as : Side → Side
      side_as f = record { state = f.state; m = f.m; forms = map τ f.forms }

      side-imaged : (s : ℕ) → side_of (imaged k t) s ≡ side_as (side_of t s)
      unfolding side_of
      side-imaged s = rw (state-imaged t s, m-imaged t s, answers_to-imaged t.answers s)

      picked-as : (b : Bool) (x y : Forms) → pick b (forms_as x) (forms_as y) ≡ forms_as (pick b x y)
      picked-as true x y = refl
      picked-as false x y = refl

      join-as : (f g : Side) (ps : List ℕ) (x : State) (m : ℕ) (cs : List ℕ) → LegalForms c f.forms → LegalForms c g.forms
          → join_of d (side_as f) (side_as g) ps x m cs ≡ forms_as (join_of c f g ps x m cs)
      unfolding join_of
      join-as f g ps Finished m cs h l = refl
      join-as f g ps Open m cs h l =
          by_cases (is_open f.state) (λ a. rw a refl) (λ a.
          by_cases (is_open g.state) (λ b. rw (a, b) refl) (λ b.
          by_cases (ground f.forms) (λ e. by_cases (ground g.forms) (λ i.
          by_cases (named f.m g.m ps m cs)
          (λ j. rw (a, b, ground-as f.forms h, ground-as g.forms l, e, i, j, terms-as f.forms h, terms-as g.forms l)
          (all-as m (combined ps cs (map (λ w. c.terms w) f.forms) (map (λ w. c.terms w) g.forms))))
          (λ j. rw (a, b, ground-as f.forms h, ground-as g.forms l, e, i, j) refl))
          (λ i. rw (a, b, ground-as f.forms h, ground-as g.forms l, e, i) refl))
          (λ e. rw (a, b, ground-as f.forms h, e) refl)))

      readable-legal : (m : ℕ) (ws : List Word) → Readable c m ws → LegalForms c ws
      readable-legal m [] h = tt
      readable-legal m (w ∷ ws) h = ((m, laws.answered-legal m h.0.0 w h.0.1 h.0.2), readable-legal m ws h.1)

      abbrev FormsLegal : Forms → Type 0
      FormsLegal (declined r) = Unit {0}
      FormsLegal (formed ws) = LegalForms c ws

      read-legal : (m : ℕ) (x : Forms) → Read c m x → FormsLegal x
      read-legal m (declined r) h = tt
      read-legal m (formed ws) h = readable-legal m ws h

      join-legal : (f g : Side) (ps : List ℕ) (x : State) (m : ℕ) (cs : List ℕ) → FormsLegal (join_of c f g ps x m cs)
      join-legal f g ps x m cs = join-cases FormsLegal c f g ps x m cs tt tt tt tt (λ e. let kss = combined ps cs (map (λ w. c.terms w) f.forms) (map (λ w. c.terms w) g.forms) in read-legal m (all_read c m kss) (all_read_lem c m kss))

      joining-agree : (s : ℕ) (x : Forms) → FormsLegal x → Agree (joining t s x) (joining (imaged k t) s (forms_as x))
      unfolding joining
      joining-agree s (declined r) h = stays-agree t [] (refused r)
      joining-agree s (formed ws) h =
          let e : entered (imaged k t) s (map τ ws) ≡ imaged k (entered t s ws) = entered-imaged t s ws legal h in
          let more : Table = entered t s ws in
          rw e (by_cases (fits more t.N)
          (λ x. by_cases (fits (imaged k more) k)
          (λ y. by_cases (leb (length more.answers) t.A)
          (λ z. rw (x, y, answers-many more, answers-many t, z) (λ a b. (refl, refl, refl)))
          (λ z. rw (x, y, answers-many more, z) (stays-agree t [] (refused 11))))
          (λ y. rw (x, y) (ten-second (pick (leb (length more.answers) t.A) (becomes more (joined (length more.answers - length t.answers))) (becomes t (refused 11))) (imaged k t))))
          (λ x. rw x (ten-first t _)))

      -- ---- every call

      load_cells : (a : ℕ) → d.expand (answer_at (imaged k t) a).form ≡ c.expand (answer_at t a).form
      load_cells a =
          let h : LegalForm c (answer_at t a).form = answer-at-legal c alike.none t a legal in
          ap (λ (x : Answer). d.expand x.form) (answer_at-imaged t a) ∙ alike.expands h.0 (answer_at t a).form h.1

      instance-cells : (a : ℕ) → d.instance_of (subgoal_at (imaged k t) (subgoal_of_answer (imaged k t) a)).form (answer_at (imaged k t) a).form
          ≡ c.instance_of (subgoal_at t (subgoal_of_answer t a)).form (answer_at t a).form
      instance-cells a =
          let s : ℕ = subgoal_of_answer t a in
          let g : LegalForm c (subgoal_at t s).form = goal-at-legal c alike.none t s legal in
          let h : LegalForm c (answer_at t a).form = answer-at-legal c alike.none t a legal in
          ap (λ (x : Answer). d.instance_of (subgoal_at (imaged k t) x.subgoal).form x.form) (answer_at-imaged t a)
          ∙ ap (λ (x : Subgoal). d.instance_of x.form (τ (answer_at t a).form)) (subgoal_at-imaged t s)
          ∙ alike.instances g.0 h.0 (subgoal_at t s).form (answer_at t a).form g.1 h.1

      counts-apart : nodes_apart (counted t) ≡ nodes_apart (counted (imaged k t))
      unfolding counted
      counts-apart = rw (goals-many t, answers-many t) refl

      counts-agree : Agree (becomes t (used (counted t))) (becomes (imaged k t) (used (counted (imaged k t))))
      unfolding reply_apart
      counts-agree x y = (ap used counts-apart, refl, refl)

      abbrev joins : Coding → Table → ℕ → ℕ → List ℕ → ℕ → List ℕ → Forms
      joins e u f g ps s cs = join_of e (side_of u f) (side_of u g) ps (subgoal_at u s).state (subgoal_at u s).m cs

      joins-as : (f g : ℕ) (ps : List ℕ) (s : ℕ) (cs : List ℕ) → joins d (imaged k t) f g ps s cs ≡ forms_as (joins c t f g ps s cs)
      joins-as f g ps s cs =
          ap (λ (x : Side). join_of d x (side_of (imaged k t) g) ps (subgoal_at (imaged k t) s).state (subgoal_at (imaged k t) s).m cs) (side-imaged f)
          ∙ ap (λ (x : Side). join_of d (side_as (side_of t f)) x ps (subgoal_at (imaged k t) s).state (subgoal_at (imaged k t) s).m cs) (side-imaged g)
          ∙ ap (λ (x : Subgoal). join_of d (side_as (side_of t f)) (side_as (side_of t g)) ps x.state x.m cs) (subgoal_at-imaged t s)
          ∙ join-as (side_of t f) (side_of t g) ps (subgoal_at t s).state (subgoal_at t s).m cs
          (unfold side_of in forms-to c t.answers f legal.answers) (unfold side_of in forms-to c t.answers g legal.answers)

      join-agree : (f g : ℕ) (ps : List ℕ) (s : ℕ) (cs : List ℕ) → Agree (joining t s (joins c t f g ps s cs)) (joining (imaged k t) s (joins d (imaged k t) f g ps s cs))
      join-agree f g ps s cs =
          subst (λ (x : Forms). Agree (joining t s (joins c t f g ps s cs)) (joining (imaged k t) s x)) (sym (joins-as f g ps s cs))
          (joining-agree s (joins c t f g ps s cs) (join-legal (side_of t f) (side_of t g) ps (subgoal_at t s).state (subgoal_at t s).m cs))

      reasoned-agree : (cs : List ℕ) (x : Reading) → ReadLegal x → Agree (becomes t (reasoned t cs x)) (becomes (imaged k t) (reasoned (imaged k t) cs (read_as τ x)))
      unfolding reasoned read_as newness reply_apart reason_apart
      reasoned-agree cs (refused r) h = stays-agree t [] (refused r)
      reasoned-agree cs (accepted w m) h =
          let e : subgoal_of (imaged k t) (τ w) ≡ subgoal_of t w = subgoal_of-imaged t legal w h in
          by_cases (eqb (subgoal_of t w) 0)
          (λ f. rw (e, f) (λ x y. (refl, refl, refl)))
          (λ f. rw (e, f) (λ x y. (refl, refl, refl)))

      -- ---- detours

      abbrev live_as : Live → Live
      live_as l = record { number = l.number; form = τ l.form }

      abbrev goal_as : Goal → Goal
      goal_as g = record { state = g.state; m = g.m; answers = map live_as g.answers }

      lives-imaged : (s n : ℕ) (l : List Answer) → numbered_answers s n (map reply l) ≡ map live_as (numbered_answers s n l)
      unfolding numbered_answers
      lives-imaged s n [] = refl
      lives-imaged s n (a ∷ l) = by_cases (eqb a.subgoal s)
          (λ e. rw e (ap (λ (r : List Live). record { number = n; form = τ a.form } ∷ r) (lives-imaged s (suc n) l)))
          (λ e. rw e (lives-imaged s (suc n) l))

      goal-as : (s : ℕ) → goal_of d (imaged k t) s ≡ goal_as (goal_of c t s)
      unfolding goal_of
      goal-as s = rw (state-imaged t s, m-imaged t s, lives-imaged s 1 t.answers)

      goals-as : (ss : List ℕ) → map (goal_of d (imaged k t)) ss ≡ map goal_as (map (goal_of c t) ss)
      goals-as [] = refl
      goals-as (s ∷ ss) = ap (λ (g : Goal). g ∷ map (goal_of d (imaged k t)) ss) (goal-as s) ∙ ap (λ (gs : List Goal). goal_as (goal_of c t s) ∷ gs) (goals-as ss)

      abbrev LegalIn : List Goal → Type 0
      LegalIn [] = Unit {0}
      LegalIn (g ∷ gs) = LegalLives c g.answers × LegalIn gs

      goals-legal : (ss : List ℕ) → LegalIn (map (goal_of c t) ss)
      unfolding goal_of
      goals-legal [] = tt
      goals-legal (s ∷ ss) = (lives-legal c s 1 t.answers legal.answers, goals-legal ss)

      offer-as : (ls : List Live) → LegalLives c ls → all_offer d (map live_as ls) ≡ all_offer c ls
      unfolding all_offer
      offer-as [] h = refl
      offer-as (l ∷ ls) h = rw (alike.terms h.0.0 l.form h.0.1, offer-as ls h.1)

      options-as : (ls : List Live) → LegalLives c ls → map (option_of d) (map live_as ls) ≡ map (option_of c) ls
      options-as [] h = refl
      options-as (l ∷ ls) h = rw (alike.terms h.0.0 l.form h.0.1, options-as ls h.1)

      fit-as : (gs : List Goal) → LegalIn gs → goals_fit d (map goal_as gs) ≡ goals_fit c gs
      unfolding goals_fit
      fit-as [] h = refl
      fit-as (g ∷ gs) h = rw (offer-as g.answers h.0, fit-as gs h.1)

      open-as : (gs : List Goal) → any_open (map goal_as gs) ≡ any_open gs
      unfolding any_open
      open-as [] = refl
      open-as (g ∷ gs) = rw (open-as gs)

      few-as : (gs : List Goal) → few_goals (map goal_as gs) ≡ few_goals gs
      unfolding few_goals
      few-as gs = rw (length-map gs goal_as)

      all-options : (gs : List Goal) → LegalIn gs → map (options_of d) (map goal_as gs) ≡ map (options_of c) gs
      all-options [] h = refl
      all-options (g ∷ gs) h =
          ap (λ (os : List Option). os ∷ map (options_of d) (map goal_as gs)) (options-as g.answers h.0) ∙ ap (λ (os : List (List Option)). options_of c g ∷ os) (all-options gs h.1)

      detours-as : (gs : List Goal) (b : ℕ) → LegalIn gs → detours_of d (map goal_as gs) b ≡ detours_of c gs b
      unfolding detours_of
      detours-as gs b h = rw (open-as gs, few-as gs, fit-as gs h, all-options gs h)

      detouring-as : (ss : List ℕ) (b : ℕ) → detouring d (imaged k t) ss b ≡ detouring c t ss b
      unfolding detouring
      detouring-as ss b = rw (goals-many t, goals-as ss, detours-as (map (goal_of c t) ss) b (goals-legal ss))

      answer-agree : (s : ℕ) (cs : List ℕ) → Agree (answered t s (c.answered (subgoal_at t s).m cs)) (answered (imaged k t) s (d.answered (subgoal_at (imaged k t) s).m cs))
      answer-agree s cs =
          let m : ℕ = (subgoal_at t s).m in
          let e : d.answered (subgoal_at (imaged k t) s).m cs ≡ read_as τ (c.answered m cs) = ap (λ (n : ℕ). d.answered n cs) (m-imaged t s) ∙ alike.answered m cs in
          subst (λ (x : Reading). Agree (answered t s (c.answered m cs)) (answered (imaged k t) s x)) (sym e)
          (answered-agree s (c.answered m cs) (answered-legally m cs (c.answered m cs) refl))

      next_agree : (s a : ℕ) → Agree (becomes t (pick (starting t s a) (onward t s a) (refused 7))) (becomes (imaged k t) (pick (starting (imaged k t) s a) (onward (imaged k t) s a) (refused 7)))
      next_agree s a = rw (starting-imaged t s a, onward-imaged t s a) (stays-agree t [] (pick (starting t s a) (onward t s a) (refused 7)))

      naming-as : (x : ℕ) (r : Reading) → naming x (read_as τ r) ≡ read_as τ (naming x r)
      unfolding naming read_as
      naming-as x (refused r) = refl
      naming-as x (accepted w m) = by_cases (eqb x 0) (λ e. rw e) (λ e. rw e)

      step-agree : (q : Request) → Agree (step c t q) (step d (imaged k t) q)
      unfolding step
      step-agree (call_least cs x) =
          subst (λ (r : Reading). Agree (called t (naming x (c.called cs))) (called (imaged k t) r)) (sym (ap (naming x) (alike.called cs) ∙ naming-as x (c.called cs)))
          (called-agree (naming x (c.called cs)) (naming-cases ReadLegal x (c.called cs) (called-legally cs (c.called cs) refl) tt))
      step-agree (answer s cs) = known-agree t [] (length t.subgoals) (length (imaged k t).subgoals) s _ _ (goals-many t) (answer-agree s cs)
      step-agree (finish s) = known-agree t [] (length t.subgoals) (length (imaged k t).subgoals) s _ _ (goals-many t) (λ x y. (refl, refl, finished-imaged t s))
      step-agree (next s a) = known-agree t [] (length t.subgoals) (length (imaged k t).subgoals) s _ _ (goals-many t) (next_agree s a)
      step-agree (load a out) = known-agree t out (length t.answers) (length (imaged k t).answers) a _ _ (answers-many t) (writes-agree _ _ out (load_cells a))
      step-agree (instance a out) = known-agree t out (length t.answers) (length (imaged k t).answers) a _ _ (answers-many t) (writes-agree _ _ out (instance-cells a))
      step-agree counts = counts-agree
      step-agree (join f g ps s cs) =
          known-agree t [] (length t.subgoals) (length (imaged k t).subgoals) f _ _ (goals-many t)
          (known-agree t [] (length t.subgoals) (length (imaged k t).subgoals) g _ _ (goals-many t)
          (known-agree t [] (length t.subgoals) (length (imaged k t).subgoals) s _ _ (goals-many t) (join-agree f g ps s cs)))
      step-agree (why cs) =
          subst (λ (x : Reading). Agree (becomes t (reasoned t cs (c.called cs))) (becomes (imaged k t) (reasoned (imaged k t) cs x))) (sym (alike.called cs))
          (reasoned-agree cs (c.called cs) (called-legally cs (c.called cs) refl))
      step-agree (detours ss b) = rw (detouring-as ss b) (stays-agree t [] (detouring c t ss b))

    -- ---- every list of calls

    one-more-seen : (x y : Seen) (xs ys : List Seen)
        → (is_ten x.reply ≡ false → is_ten y.reply ≡ false → (seen_apart x ≡ seen_apart y) × (up_to_ten xs ys ≡ up_to_ten ys xs))
        → up_to_ten (x ∷ xs) (y ∷ ys) ≡ up_to_ten (y ∷ ys) (x ∷ xs)
    unfolding up_to_ten
    one-more-seen x y xs ys h = by_cases (is_ten x.reply)
        (λ e. by_cases (is_ten y.reply) (λ f. rw (e, f) refl) (λ f. rw (e, f) refl))
        (λ e. by_cases (is_ten y.reply)
        (λ f. rw (e, f) refl)
        (λ f. let g = h e f in rw (e, f) (ap (λ (z : Seen). z ∷ up_to_ten xs ys) g.0 ∙ ap (λ (zs : List Seen). seen_apart y ∷ zs) g.1)))

    trace-agree : (qs : List Request) (t : Table) → LegalTable c t
        → up_to_ten (table_trace c t qs) (table_trace d (imaged k t) qs) ≡ up_to_ten (table_trace d (imaged k t) qs) (table_trace c t qs)
    unfolding trace
    trace-agree [] t l = unfold up_to_ten in refl
    trace-agree (q ∷ qs) t l =
        let r : Result Table = step c t q in
        let p : Result Table = step d (imaged k t) q in
        let m : LegalTable c r.state = step-legal c alike.none laws t q l in
        one-more-seen
        (record { reply = r.reply; counted = counted r.state; out = r.out }) (record { reply = p.reply; counted = counted p.state; out = p.out })
        (table_trace c r.state qs) (table_trace d p.state qs)
        (λ e f.
        let g = step-agree t l q e f in
        let n : nodes_apart (counted r.state) ≡ nodes_apart (counted p.state) = counts-apart r.state m ∙ ap (λ (u : Table). nodes_apart (counted u)) (sym g.2) in
        let s : seen_apart (record { reply = r.reply; counted = counted r.state; out = r.out }) ≡ seen_apart (record { reply = p.reply; counted = counted p.state; out = p.out }) = rw (g.0, n, g.1) refl in
        (s, subst (λ (u : Table). up_to_ten (table_trace c r.state qs) (table_trace d u qs) ≡ up_to_ten (table_trace d u qs) (table_trace c r.state qs)) (sym g.2) (trace-agree qs r.state m)))

  pub answer-alike : AnswerAlike c d
  answer-alike n k f a qs = trace-agree k qs (fresh n f a) (record { subgoals = tt; answers = tt })
