-- What a call may leave, case by case; what it changes, and that a refused one changes nothing.
use mathlib.Core.Path.{◌≡◌, refl, sym, subst}
use mathlib.Core.Bool.{Bool, true, false, ◌&&◌}
use mathlib.Core.List.{List, [], ◌∷◌, ◌++◌, map}
use mathlib.Core.Logic.{inl, inr}
use Prim.Native.Nat.{ℕ, suc, ◌-◌, ◌≤◌, ◌<◌}
use native.Mathlib.Omega.{arith}
use lib.Dec.{eqb, leb, ltb}
use lib.ListN.{length, drop}
use borrow.Author.Tests.{ne_eqb, ltb-true, leb-true, leb-false}
use Rattle.basis.specs.Choice.{pick}
use Rattle.basis.proofs.Cases.{by_cases}
use Rattle.plain.specs.Words.{Word, has}
use Rattle.plain.specs.Coding.{Coding, Reading, refused, accepted}
use Rattle.plain.specs.CodingLaws.{CodingLaws}
use Rattle.plain.specs.Requests.{State, Open, Finished, Request, call_least, answer, finish, next, load, instance, counts, join, why, detours, new, old_subgoal, old_answer, cells, joined, refused, short, lacks_next, Result, lent}
use Rattle.plain.specs.Table.{Table, subgoal_at, answer_at, subgoal_of_answer, called_forms, answers_to, nodes, subgoal_of, answer_of, following, with_subgoal, with_answer, with_finished, with_entry, stays, becomes, known, fits, appended, called, answered, while_open, starting, onward, writes, entered, side_of, joining, reasoned, goal_of, detouring, step}
use Rattle.plain.specs.Detours.{any_open, few_goals, goals_fit, detours_of, all_within}
use Rattle.plain.specs.Joins.{Forms, declined, formed, Side, combined, before, all_read, is_open, ground, named, join_of}
use Rattle.plain.specs.Consequences.{RefusedBy, Known, Refusing, RefusingBy}
use Rattle.plain.proofs.NumberLaws.{Called, subgoal_of-none, subgoal_of-some, Given, answer_of-none, answer_of-some}
use Rattle.plain.proofs.RecordLaws.{settled-rooms, entry-count, entry-subgoals, entry-nodes, entry-lasts}
use Rattle.plain.proofs.EnteringLaws.{entered-old, entered-new, entering}
use Rattle.plain.proofs.Naming.{naming-cases}

-- ---- room

pub fits-room : (t : Table) (n : ℕ) → fits t n ≡ true → nodes t ≤ n
unfolding fits
fits-room t n e = omega (arith, leb-true)

pub fits-full : (t : Table) (n : ℕ) → fits t n ≡ false → n < nodes t
unfolding fits
fits-full t n e = omega (arith, leb-false)

-- ---- the cases of each definition, for what is to be shown of a result

module _ (P : Result Table → Type 0) (t : Table) where
  pub known-cases : (out : List ℕ) (n s : ℕ) (r : Result Table) → P (stays t out (refused 7)) → (0 < s → s ≤ n → P r) → P (known t out n s r)
  known-cases out n s r refuses accepts = by_cases (ltb 0 s)
      (λ e. by_cases (leb s n) (λ f. rw (e, f) (accepts (ltb-true _ _ e) (leb-true _ _ f))) (λ f. rw (e, f) refuses))
      (λ e. rw e refuses)

  -- 10 comes exactly where the nodes used would be above N, and 11 only where they would not
  pub appended-cases : (more : Table) (room : Bool) (n : ℕ) → (t.N < nodes more → P (becomes t (refused 10))) → (nodes more ≤ t.N → room ≡ false → P (becomes t (refused 11)))
      → (nodes more ≤ t.N → room ≡ true → P (becomes more (new n))) → P (appended t more room n)
  unfolding appended
  appended-cases more room n ten eleven accepts = by_cases (fits more t.N)
      (λ e. let k = fits-room more t.N e in by_cases room (λ f. rw (e, f) (accepts k f)) (λ f. rw (e, f) (eleven k f)))
      (λ e. rw e (ten (fits-full more t.N e)))

  pub called-cases : (w : Word) (m : ℕ) → ((s : ℕ) → Called t w s → P (becomes t (old_subgoal s (subgoal_at t s).state)))
      → (has (called_forms t.subgoals) w ≡ false → P (appended t (with_subgoal t w m) (ltb (length t.subgoals) t.F) (suc (length t.subgoals))))
      → P (called t (accepted w m))
  unfolding called
  called-cases w m old fresh = by_cases (has (called_forms t.subgoals) w)
      (λ e. let r = subgoal_of-some t w e in rw (ne_eqb (subgoal_of t w) 0 (λ z. omega (arith, r.low))) (old (subgoal_of t w) r))
      (λ e. rw (subgoal_of-none t w e) (fresh e))

  pub open-cases : (s : State) (r : Result Table) → (s ≡ Finished → P (becomes t (refused 8))) → (s ≡ Open → P r) → P (while_open t s r)
  open-cases Open r refuses accepts = accepts refl
  open-cases Finished r refuses accepts = refuses refl

  pub answered-cases : (s : ℕ) (w : Word) (m : ℕ) → ((a : ℕ) → Given t s w a → P (becomes t (old_answer a)))
      → (has (answers_to t.answers s) w ≡ false → (subgoal_at t s).state ≡ Finished → P (becomes t (refused 8)))
      → (has (answers_to t.answers s) w ≡ false → (subgoal_at t s).state ≡ Open → P (appended t (with_entry t s w) (ltb (length t.answers) t.A) (suc (length t.answers))))
      → P (answered t s (accepted w m))
  unfolding answered
  answered-cases s w m old eight fresh = by_cases (has (answers_to t.answers s) w)
      (λ e. let r = answer_of-some t s w e in rw (ne_eqb (answer_of t s w) 0 (λ z. omega (arith, r.low))) (old (answer_of t s w) r))
      (λ e. rw (answer_of-none t s w e) (open-cases (subgoal_at t s).state _ (eight e) (fresh e)))

  pub writes-cases : (cs out : List ℕ) → P (stays t out (short (length cs)))
      → (length cs ≤ length out → P (record { reply = cells (length cs); out = cs ++ drop (length cs) out; state = t })) → P (writes t cs out)
  unfolding writes
  writes-cases cs out refuses accepts = by_cases (leb (length cs) (length out)) (λ e. rw e (accepts (leb-true _ _ e))) (λ e. rw e refuses)

  -- 10 comes exactly where the nodes used would be above N with every form entered, and 11 only where they would not
  pub joining-cases : (s : ℕ) (ws : List Word) → (t.N < nodes (entered t s ws) → P (becomes t (refused 10)))
      → (nodes (entered t s ws) ≤ t.N → t.A < length (entered t s ws).answers → P (becomes t (refused 11)))
      → (nodes (entered t s ws) ≤ t.N → length (entered t s ws).answers ≤ t.A → P (becomes (entered t s ws) (joined (length (entered t s ws).answers - length t.answers))))
      → P (joining t s (formed ws))
  unfolding joining
  joining-cases s ws ten eleven accepts = by_cases (fits (entered t s ws) t.N)
      (λ e. let k = fits-room (entered t s ws) t.N e in
      by_cases (leb (length (entered t s ws).answers) t.A) (λ f. rw (e, f) (accepts k (leb-true _ _ f))) (λ f. rw (e, f) (eleven k (leb-false _ _ f))))
      (λ e. rw e (ten (fits-full (entered t s ws) t.N e)))

-- ---- the rule of a join

-- the cells that each form was read from
abbrev pub Readable : Coding → ℕ → List Word → Type 0
Readable c m [] = Unit {0}
Readable c m (w ∷ ws) = ((ks : List ℕ) × (n : ℕ) × (c.answered m ks ≡ accepted w n)) × Readable c m ws

module _ (P : Forms → Type 0) where
  -- a refusal comes before what was read after it
  pub before-cases : (x : Reading) (later : Forms) → ((r : ℕ) → x ≡ refused r → P (declined r))
      → ((w : Word) (n r : ℕ) → x ≡ accepted w n → later ≡ declined r → P (declined r))
      → ((w : Word) (n : ℕ) (ws : List Word) → x ≡ accepted w n → later ≡ formed ws → P (formed (w ∷ ws))) → P (before x later)
  unfolding before
  before-cases (refused r) later f g h = f r refl
  before-cases (accepted w n) (declined r) f g h = g w n r refl refl
  before-cases (accepted w n) (formed ws) f g h = h w n ws refl refl

  pub join-cases : (c : Coding) (f g : Side) (ps : List ℕ) (x : State) (m : ℕ) (cs : List ℕ) → P (declined 8) → P (declined 14) → P (declined 15) → P (declined 16)
      → (x ≡ Open → P (all_read c m (combined ps cs (map (λ w. c.terms w) f.forms) (map (λ w. c.terms w) g.forms))))
      → P (join_of c f g ps x m cs)
  unfolding join_of
  join-cases c f g ps Finished m cs eight fourteen fifteen sixteen reads = eight
  join-cases c f g ps Open m cs eight fourteen fifteen sixteen reads =
      by_cases (is_open f.state) (λ a. rw a fourteen) (λ a.
      by_cases (is_open g.state) (λ b. rw (a, b) fourteen) (λ b.
      by_cases (ground f.forms) (λ d. by_cases (ground g.forms) (λ e.
      by_cases (named f.m g.m ps m cs) (λ k. rw (a, b, d, e, k) (reads refl)) (λ k. rw (a, b, d, e, k) sixteen))
      (λ e. rw (a, b, d, e) fifteen)) (λ d. rw (a, b, d) fifteen)))

-- what the cells are read to: forms, each with the cells that it was read from, or the refusal of one of them
abbrev pub Read : Coding → ℕ → Forms → Type 0
Read c m (declined r) = (ks : List ℕ) × (c.answered m ks ≡ refused r)
Read c m (formed ws) = Readable c m ws

pub all_read_lem : (c : Coding) (m : ℕ) (kss : List (List ℕ)) → Read c m (all_read c m kss)
unfolding all_read
all_read_lem c m [] = tt
all_read_lem c m (ks ∷ kss) = before-cases (Read c m) (c.answered m ks) (all_read c m kss)
    (λ r e. (ks, e))
    (λ w n r e f. rw f at (all_read_lem c m kss))
    (λ w n ws e f. ((ks, n, e), rw f at (all_read_lem c m kss)))

-- ---- what a call changes

module _ (c : Coding) (t : Table) where
  -- a form that the table lacks enters as a subgoal
  pub record SubgoalEnters (w : Word) (m : ℕ) : Type 0 where
    pub cs : List ℕ
    pub reading : c.called cs ≡ accepted w m
    pub absent : has (called_forms t.subgoals) w ≡ false
    pub room : nodes (with_subgoal t w m) ≤ t.N
    pub free : length t.subgoals < t.F

  -- a form that a subgoal lacks enters as its answer
  pub record AnswerEnters (s : ℕ) (w : Word) : Type 0 where
    pub low : 0 < s
    pub high : s ≤ length t.subgoals
    pub cs : List ℕ
    pub n : ℕ
    pub reading : c.answered (subgoal_at t s).m cs ≡ accepted w n
    pub absent : has (answers_to t.answers s) w ≡ false
    pub room : nodes (with_answer t s w) ≤ t.N
    pub free : length t.answers < t.A

-- answers that enter one after another
pub data AnswersEnter (c : Coding) (s : ℕ) : Table → Table → Type 0 where
  no-more : {t : Table} → AnswersEnter c s t t
  one_more_lem : {t u : Table} (w : Word) → AnswerEnters c t s w → AnswersEnter c s (with_entry t s w) u → AnswersEnter c s t u

-- the table at the end has room for each of them
pub entered-enter : (c : Coding) (t : Table) (s : ℕ) (ws : List Word) → 0 < s → s ≤ length t.subgoals → Readable c (subgoal_at t s).m ws
    → nodes (entered t s ws) ≤ t.N → length (entered t s ws).answers ≤ t.A → AnswersEnter c s t (entered t s ws)
entered-enter c t s [] low high e room free = unfold entered in no-more
entered-enter c t s (w ∷ ws) low high e room free = by_cases (has (answers_to t.answers s) w)
    (λ h. let z : entered t s (w ∷ ws) ≡ entered t s ws = entered-old t s w ws low high h in
    rw z (entered-enter c t s ws low high e.1 (rw z at room) (rw z at free)))
    (λ h. let u : Table = with_entry t s w in
    let rooms = settled-rooms (with_answer t s w) s in
    let high' : s ≤ length u.subgoals = omega (arith, entry-subgoals t s w) in
    let z : entered t s (w ∷ ws) ≡ entered u s ws = entered-new t s w ws low high h in
    let n = entering u s ws low high' in
    let r : nodes (entered u s ws) ≤ t.N = rw z at room in
    let f : length (entered u s ws).answers ≤ t.A = rw z at free in
    rw z (one_more_lem w
    (record { low = low; high = high; cs = e.0.0; n = e.0.1; reading = e.0.2; absent = h; room = omega (arith, n.0, entry-nodes t s w low); free = omega (arith, n.1, entry-count t s w) })
    (entered-enter c u s ws low high' (subst (λ (m : ℕ). Readable c m ws) (sym (entry-lasts t s w low high s).m) e.1) (omega (arith, rooms.0)) (omega (arith, rooms.2)))))

module _ (c : Coding) (t : Table) where
  pub data Changed : Table → Type 0 where
    stayed : Changed t
    subgoal-enters : (w : Word) (m : ℕ) → SubgoalEnters c t w m → Changed (with_subgoal t w m)
    answer-enters : (s : ℕ) (w : Word) → (subgoal_at t s).state ≡ Open → AnswerEnters c t s w → Changed (with_entry t s w)
    finishes : (s : ℕ) → 0 < s → s ≤ length t.subgoals → Changed (with_finished t s)
    answers-enter : (s : ℕ) (u : Table) → (subgoal_at t s).state ≡ Open → AnswersEnter c s t u → Changed u

  abbrev Leaves : Result Table → Type 0
  Leaves r = Changed r.state

  called-changed : (cs : List ℕ) (r : Reading) → c.called cs ≡ r → Leaves (called t r)
  called-changed cs (refused n) e = unfold called in stayed
  called-changed cs (accepted w m) e =
      called-cases Leaves t w m (λ s k. stayed)
      (λ absent. appended-cases Leaves t (with_subgoal t w m) (ltb (length t.subgoals) t.F) (suc (length t.subgoals)) (λ full. stayed) (λ room full. stayed)
      (λ room free. subgoal-enters w m (record { cs = cs; reading = e; absent = absent; room = room; free = ltb-true _ _ free })))

  answered-changed : (s : ℕ) → 0 < s → s ≤ length t.subgoals
      → (cs : List ℕ) (r : Reading) → c.answered (subgoal_at t s).m cs ≡ r → Leaves (answered t s r)
  answered-changed s low high cs (refused n) e = unfold answered in stayed
  answered-changed s low high cs (accepted w n) e =
      answered-cases Leaves t s w n (λ s k. stayed) (λ absent fin. stayed)
      (λ absent is_open. appended-cases Leaves t (with_entry t s w) (ltb (length t.answers) t.A) (suc (length t.answers)) (λ full. stayed) (λ room full. stayed)
      (λ room free. answer-enters s w is_open (record { low = low; high = high; cs = cs; n = n; reading = e; absent = absent; room = omega (arith, entry-nodes t s w low); free = ltb-true _ _ free })))

  joining-changed : (s : ℕ) → 0 < s → s ≤ length t.subgoals → (subgoal_at t s).state ≡ Open → (x : Forms) → Read c (subgoal_at t s).m x → Leaves (joining t s x)
  joining-changed s low high is_open (declined r) e = unfold joining in stayed
  joining-changed s low high is_open (formed ws) e = joining-cases Leaves t s ws (λ full. stayed) (λ room full. stayed)
      (λ room free. answers-enter s (entered t s ws) is_open (entered-enter c t s ws low high e room free))

  pub step-changed : (q : Request) → Changed (step c t q).state
  unfolding step
  step-changed (call_least cs x) = naming-cases (λ r. Leaves (called t r)) x (c.called cs) (called-changed cs (c.called cs) refl) (unfold called in stayed)
  step-changed (answer s cs) =
      known-cases Leaves t [] (length t.subgoals) s _ stayed
      (λ low high. answered-changed s low high cs (c.answered (subgoal_at t s).m cs) refl)
  step-changed (finish s) = known-cases Leaves t [] (length t.subgoals) s _ stayed (λ low high. finishes s low high)
  step-changed (next s a) = known-cases Leaves t [] (length t.subgoals) s _ stayed (λ low high. stayed)
  step-changed (load a out) =
      known-cases Leaves t out (length t.answers) a _ stayed (λ low high. writes-cases Leaves t (c.expand (answer_at t a).form) out stayed (λ fits. stayed))
  step-changed (instance a out) =
      known-cases Leaves t out (length t.answers) a _ stayed
      (λ low high. writes-cases Leaves t (c.instance_of (subgoal_at t (subgoal_of_answer t a)).form (answer_at t a).form) out stayed (λ fits. stayed))
  step-changed counts = stayed
  step-changed (join f g ps s cs) =
      known-cases Leaves t [] (length t.subgoals) f _ stayed (λ fl fh.
      known-cases Leaves t [] (length t.subgoals) g _ stayed (λ gl gh.
      known-cases Leaves t [] (length t.subgoals) s _ stayed (λ low high.
      join-cases (λ x. Leaves (joining t s x)) c (side_of t f) (side_of t g) ps (subgoal_at t s).state (subgoal_at t s).m cs
      (unfold joining in stayed) (unfold joining in stayed) (unfold joining in stayed) (unfold joining in stayed)
      (λ is_open. joining-changed s low high is_open _ (all_read_lem c (subgoal_at t s).m _)))))
  step-changed (why cs) = stayed
  step-changed (detours gs b) = stayed

-- ---- refusals

-- where the reply is a refusal, the table stays, and out as lent, and the number is one of those in Q
module _ (c : Coding) (t : Table) (Q : ℕ → Type 0)
    (called-by : (cs : List ℕ) (r : ℕ) → c.called cs ≡ refused r → Q r)
    (answered-by : (m : ℕ) (cs : List ℕ) (r : ℕ) → c.answered m cs ≡ refused r → Q r)
    (seven : Q 7) (eight : Q 8) (ten : Q 10) (eleven : Q 11) (twelve : Q 12) (fourteen : Q 14) (fifteen : Q 15) (sixteen : Q 16) (twenty-one : Q 21) (twenty-two : Q 22) where
  abbrev Keeps : List ℕ → Result Table → Type 0
  Keeps out x = (r : ℕ) → RefusedBy r x.reply → (x.state ≡ t) × (x.out ≡ out) × Q r

  keeps : (out : List ℕ) (n : ℕ) → Q n → Keeps out (stays t out (refused n))
  keeps out n q r h = (refl, refl, subst Q h q)

  appended-keeps : (more : Table) (room : Bool) (n : ℕ) → Keeps [] (appended t more room n)
  appended-keeps more room n = appended-cases (Keeps []) t more room n (λ full. keeps [] 10 ten) (λ room full. keeps [] 11 eleven) (λ e f r h. absurd h)

  writes-keeps : (cs out : List ℕ) → Keeps out (writes t cs out)
  writes-keeps cs out = writes-cases (Keeps out) t cs out (λ r h. (refl, refl, subst Q h twelve)) (λ fits r h. absurd h)

  called-keeps : (x : Reading) → ((r : ℕ) → x ≡ refused r → Q r) → Keeps [] (called t x)
  called-keeps (refused n) f = unfold called in keeps [] n (f n refl)
  called-keeps (accepted w m) f =
      called-cases (Keeps []) t w m (λ s k r h. absurd h) (λ absent. appended-keeps (with_subgoal t w m) (ltb (length t.subgoals) t.F) (suc (length t.subgoals)))

  answered-keeps : (s : ℕ) (x : Reading) → ((r : ℕ) → x ≡ refused r → Q r) → Keeps [] (answered t s x)
  answered-keeps s (refused n) f = unfold answered in keeps [] n (f n refl)
  answered-keeps s (accepted w m) f =
      answered-cases (Keeps []) t s w m (λ s k r h. absurd h) (λ absent fin. keeps [] 8 eight) (λ absent is_open. appended-keeps (with_entry t s w) (ltb (length t.answers) t.A) (suc (length t.answers)))

  lacks-keeps : (x : State) → Keeps [] (becomes t (lacks_next x))
  lacks-keeps Open r h = absurd h
  lacks-keeps Finished r h = absurd h

  onward-keeps : (s a : ℕ) → Keeps [] (becomes t (pick (starting t s a) (onward t s a) (refused 7)))
  unfolding onward
  onward-keeps s a = by_cases (starting t s a)
      (λ e. by_cases (eqb (following t s a) 0) (λ f. rw (e, f) (lacks-keeps (subgoal_at t s).state)) (λ f. rw (e, f) (λ r h. absurd h)))
      (λ e. rw e (keeps [] 7 seven))

  joining-keeps : (s m : ℕ) (x : Forms) → Read c m x → Keeps [] (joining t s x)
  joining-keeps s m (declined r) e = unfold joining in keeps [] r (answered-by m e.0 r e.1)
  joining-keeps s m (formed ws) e = joining-cases (Keeps []) t s ws (λ full. keeps [] 10 ten) (λ room full. keeps [] 11 eleven) (λ room free r h. absurd h)

  reasoned-keeps : (cs : List ℕ) (x : Reading) → ((r : ℕ) → x ≡ refused r → Q r) → Keeps [] (becomes t (reasoned t cs x))
  unfolding reasoned
  reasoned-keeps cs (refused n) f = keeps [] n (f n refl)
  reasoned-keeps cs (accepted w m) f = λ r h. absurd h

  detours-keeps : (gs : List ℕ) (b : ℕ) → Keeps [] (becomes t (detouring c t gs b))
  unfolding detouring detours_of
  detours-keeps gs b = by_cases (all_within (length t.subgoals) gs)
      (λ e. by_cases (any_open (map (goal_of c t) gs))
      (λ f. rw (e, f) (keeps [] 14 fourteen))
      (λ f. by_cases (few_goals (map (goal_of c t) gs) && goals_fit c (map (goal_of c t) gs))
      (λ g. rw (e, f, g) (λ r h. absurd h))
      (λ g. rw (e, f, g) (keeps [] 22 twenty-two))))
      (λ e. rw e (keeps [] 7 seven))

  pub step_keeps : (q : Request) → Keeps (lent q) (step c t q)
  unfolding step lent
  step_keeps (call_least cs x) = naming-cases (λ r. Keeps [] (called t r)) x (c.called cs) (called-keeps (c.called cs) (called-by cs)) (unfold called in keeps [] 21 twenty-one)
  step_keeps (answer s cs) =
      known-cases (Keeps []) t [] (length t.subgoals) s _ (keeps [] 7 seven)
      (λ low high. answered-keeps s (c.answered (subgoal_at t s).m cs) (answered-by (subgoal_at t s).m cs))
  step_keeps (finish s) = known-cases (Keeps []) t [] (length t.subgoals) s _ (keeps [] 7 seven) (λ low high r h. absurd h)
  step_keeps (next s a) = known-cases (Keeps []) t [] (length t.subgoals) s _ (keeps [] 7 seven) (λ low high. onward-keeps s a)
  step_keeps (load a out) = known-cases (Keeps out) t out (length t.answers) a _ (keeps out 7 seven) (λ low high. writes-keeps (c.expand (answer_at t a).form) out)
  step_keeps (instance a out) =
      known-cases (Keeps out) t out (length t.answers) a _ (keeps out 7 seven)
      (λ low high. writes-keeps (c.instance_of (subgoal_at t (subgoal_of_answer t a)).form (answer_at t a).form) out)
  step_keeps counts = λ r h. absurd h
  step_keeps (join f g ps s cs) =
      known-cases (Keeps []) t [] (length t.subgoals) f _ (keeps [] 7 seven) (λ fl fh.
      known-cases (Keeps []) t [] (length t.subgoals) g _ (keeps [] 7 seven) (λ gl gh.
      known-cases (Keeps []) t [] (length t.subgoals) s _ (keeps [] 7 seven) (λ low high.
      join-cases (λ x. Keeps [] (joining t s x)) c (side_of t f) (side_of t g) ps (subgoal_at t s).state (subgoal_at t s).m cs
      (unfold joining in keeps [] 8 eight) (unfold joining in keeps [] 14 fourteen) (unfold joining in keeps [] 15 fifteen) (unfold joining in keeps [] 16 sixteen)
      (λ is_open. joining-keeps s (subgoal_at t s).m _ (all_read_lem c (subgoal_at t s).m _)))))
  step_keeps (why cs) = reasoned-keeps cs (c.called cs) (called-by cs)
  step_keeps (detours gs b) = detours-keeps gs b

pub refusing : (c : Coding) → Refusing c
refusing c t q r h = let k = step_keeps c t (λ n. Unit {0}) (λ cs n e. tt) (λ m cs n e. tt) tt tt tt tt tt tt tt tt tt tt q r h in (k.0, k.1)

pub refusing-by : (c : Coding) → CodingLaws c → RefusingBy c
refusing-by c laws t q r h =
    let low : (b : ℕ) → b ≤ 8 → (n : ℕ) → (3 ≤ n) × (n ≤ b) → Known n = λ b k n e. inl (e.0, omega (arith, e.1)) in
    (step_keeps c t Known (λ cs n e. low 6 (omega arith) n (laws.called-refused cs n e)) (λ m cs n e. low 5 (omega arith) n (laws.answered-refused m cs n e))
    (inl (omega arith, omega arith)) (inl (omega arith, omega arith))
    (inr (inl (omega arith, omega arith))) (inr (inl (omega arith, omega arith))) (inr (inl (omega arith, omega arith)))
    (inr (inr (inl (omega arith, omega arith)))) (inr (inr (inl (omega arith, omega arith)))) (inr (inr (inl (omega arith, omega arith)))) (inr (inr (inr (omega arith, omega arith)))) (inr (inr (inr (omega arith, omega arith)))) q r h).2
