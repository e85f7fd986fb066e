-- Joins on the plain table: one that is accepted leaves what its answers leave, given one after another.
use mathlib.Core.Path.{◌≡◌, refl, sym, ap, ◌∙◌, subst}
use mathlib.Core.Bool.{true, false}
use mathlib.Core.List.{List, [], ◌∷◌, map}
use mathlib.Core.Logic.{inl}
use Prim.Native.Nat.{ℕ, suc, ◌+◌, ◌-◌, ◌≤◌, ◌<◌}
use native.Mathlib.Omega.{arith}
use lib.Dec.{ltb}
use lib.ListN.{length}
use borrow.Author.Tests.{ltb-false, lt-ltb, le-leb}
use Rattle.plain.specs.Words.{Word, has}
use Rattle.plain.specs.Coding.{Coding, refused, accepted}
use Rattle.plain.specs.CodingLaws.{CodingLaws}
use Rattle.plain.specs.Requests.{Open, answer, join, joined, refused, Result, left}
use Rattle.plain.specs.Joins.{Forms, declined, formed, all_read}
use Rattle.plain.specs.Table.{Table, subgoal_at, answers_to, nodes, with_entry, answered, given, entered, side_of, joining, step}
use Rattle.plain.specs.Consequences.{join_cells, Joining}
use Rattle.plain.proofs.RecordLaws.{entry-count}
use Rattle.plain.proofs.EnteringLaws.{given-old, given-new, given-subgoals, given_stays, given-held, Taking, taking-open, given-taking, entering}
use Rattle.plain.proofs.Changes.{known-cases, appended-cases, answered-cases, joining-cases, before-cases, join-cases}

-- ---- one form

-- the plain table takes the form, where there is room
module _ (t : Table) (s : ℕ) (low : 0 < s) (high : s ≤ length t.subgoals) (w : Word) (n : ℕ) (ready : has (answers_to t.answers s) w ≡ false → (subgoal_at t s).state ≡ Open)
    (room : nodes (given t s w) ≤ t.N) (free : length (given t s w).answers ≤ t.A) where
  abbrev Taken : Result Table → Type 0
  Taken r = r.state ≡ given t s w

  pub taken : (answered t s (accepted w n)).state ≡ given t s w
  taken = answered-cases Taken t s w n
      (λ a g. sym (given-old t s low high w (given-held t s w a g)))
      (λ absent fin. let o = ready absent in let z : ◌≡◌ {A = ℕ} 0 1 = cc in absurd (omega arith))
      (λ absent is_open.
      let e : given t s w ≡ with_entry t s w = given-new t s low high w absent in
      appended-cases Taken t (with_entry t s w) (ltb (length t.answers) t.A) (suc (length t.answers))
      (λ full. absurd (omega (arith, ap nodes e)))
      (λ room' full. absurd (omega (arith, ltb-false (length t.answers) t.A full, ap (λ (u : Table). length u.answers) e, entry-count t s w)))
      (λ room' free'. sym e))

-- ---- the answers of a join

-- the forms are those that the cells are read to, one by one
abbrev ReadAs : Coding → ℕ → List (List ℕ) → List Word → Type 0
ReadAs c m [] [] = Unit {0}
ReadAs c m [] (w ∷ ws) = ⊥
ReadAs c m (ks ∷ kss) [] = ⊥
ReadAs c m (ks ∷ kss) (w ∷ ws) = ((n : ℕ) × (c.answered m ks ≡ accepted w n)) × ReadAs c m kss ws

abbrev AllReadAs : Coding → ℕ → List (List ℕ) → Forms → Type 0
AllReadAs c m kss (declined r) = Unit {0}
AllReadAs c m kss (formed ws) = ReadAs c m kss ws

all-read-as : (c : Coding) (m : ℕ) (kss : List (List ℕ)) → AllReadAs c m kss (all_read c m kss)
unfolding all_read
all-read-as c m [] = tt
all-read-as c m (ks ∷ kss) = before-cases (AllReadAs c m (ks ∷ kss)) (c.answered m ks) (all_read c m kss)
    (λ r e. tt)
    (λ w n r e f. tt)
    (λ w n ws e f. ((n, e), rw f at (all-read-as c m kss)))

-- the form of an answer to a ground subgoal is empty
pub ground-empty : (c : Coding) → CodingLaws c → (m : ℕ) (ks : List ℕ) (w : Word) (n : ℕ) → c.answered m ks ≡ accepted w n → m ≡ 0 → w ≡ []
ground-empty c laws m ks w n e z = laws.legal-empty w (subst (λ (k : ℕ). c.legal k w ≡ true) z (laws.answered-legal m ks w n e))

module _ (c : Coding) (laws : CodingLaws c) (s : ℕ) (low : 0 < s) where
  answer-given : (t : Table) (ks : List ℕ) (w : Word) (n : ℕ) → s ≤ length t.subgoals → Taking t s → c.answered (subgoal_at t s).m ks ≡ accepted w n
      → nodes (given t s w) ≤ t.N → length (given t s w).answers ≤ t.A → (step c t (answer s ks)).state ≡ given t s w
  unfolding step
  answer-given t ks w n high ready e room free =
      rw (lt-ltb 0 s low, le-leb s (length t.subgoals) high, e) (taken t s low high w n (taking-open t s w ready (ground-empty c laws (subgoal_at t s).m ks w n e)) room free)

  -- where there is room at the end
  given-by-answers : (kss : List (List ℕ)) (ws : List Word) (t : Table) → ReadAs c (subgoal_at t s).m kss ws → s ≤ length t.subgoals → Taking t s
      → nodes (entered t s ws) ≤ t.N → length (entered t s ws).answers ≤ t.A → entered t s ws ≡ left (step c) t (map (λ ks. answer s ks) kss)
  unfolding entered left
  given-by-answers [] [] t e high ready room free = refl
  given-by-answers [] (w ∷ ws) t e high ready room free = absurd e
  given-by-answers (ks ∷ kss) [] t e high ready room free = absurd e
  given-by-answers (ks ∷ kss) (w ∷ ws) t e high ready room free =
      let u : Table = given t s w in
      let kept = given_stays t s low high w in
      let high' : s ≤ length u.subgoals = rw (given-subgoals t s low high w) high in
      let more = entering u s ws low high' in
      let here : (step c t (answer s ks)).state ≡ u = answer-given t ks w e.0.0 high ready e.0.1 (omega (arith, more.0)) (omega (arith, more.1)) in
      given-by-answers kss ws u (subst (λ (m : ℕ). ReadAs c m kss ws) (sym kept.2) e.1) high' (given-taking t s low high w ready (ground-empty c laws (subgoal_at t s).m ks w e.0.0 e.0.1))
      (subst (λ (m : ℕ). nodes (entered u s ws) ≤ m) (sym kept.0) room) (subst (λ (m : ℕ). length (entered u s ws).answers ≤ m) (sym kept.1) free)
      ∙ ap (λ (v : Table). left (step c) v (map (λ ks. answer s ks) kss)) (sym here)

module _ (c : Coding) (laws : CodingLaws c) (t : Table) (f g s n : ℕ) (ps cs : List ℕ) where
  abbrev kss : List (List ℕ)
  kss = join_cells c t f g ps cs

  abbrev Leaves : Result Table → Type 0
  Leaves r = r.reply ≡ joined n → (r.state ≡ left (step c) t (map (λ ks. answer s ks) kss)) × (length r.state.answers ≡ length t.answers + n)

  never : (r : ℕ) (A : Type 0) → refused r ≡ joined n → A
  never r A e = let z : ◌≡◌ {A = ℕ} 0 1 = cc in absurd (omega arith)

  joining-leaves : 0 < s → s ≤ length t.subgoals → (subgoal_at t s).state ≡ Open → (x : Forms) → AllReadAs c (subgoal_at t s).m kss x → Leaves (joining t s x)
  joining-leaves low high is_open (declined r) e = unfold joining in never r _
  joining-leaves low high is_open (formed ws) e = joining-cases Leaves t s ws (λ full. never 10 _) (λ room full. never 11 _)
      (λ room free k.
      let count : length (entered t s ws).answers - length t.answers ≡ n = cc in
      (given-by-answers c laws s low kss ws t e high (inl is_open) room free, omega (arith, (entering t s ws low high).1)))

  join-leaves : Leaves (step c t (join f g ps s cs))
  unfolding step
  join-leaves =
      known-cases Leaves t [] (length t.subgoals) f _ (never 7 _) (λ fl fh.
      known-cases Leaves t [] (length t.subgoals) g _ (never 7 _) (λ gl gh.
      known-cases Leaves t [] (length t.subgoals) s _ (never 7 _) (λ low high.
      join-cases (λ x. Leaves (joining t s x)) c (side_of t f) (side_of t g) ps (subgoal_at t s).state (subgoal_at t s).m cs
      (declines 8) (declines 14) (declines 15) (declines 16)
      (λ is_open. unfold side_of in joining-leaves low high is_open _ (all-read-as c (subgoal_at t s).m kss)))))
    where
      declines : (r : ℕ) → Leaves (joining t s (declined r))
      declines r = unfold joining in never r _

pub join-given : (c : Coding) → CodingLaws c → Joining c
join-given c laws t f g s n ps cs e = join-leaves c laws t f g s n ps cs e
