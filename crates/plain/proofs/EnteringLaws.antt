-- Forms that are given to a subgoal one after another: the nodes and the answers that they bring.
use mathlib.Core.Path.{◌≡◌, refl, sym, ap, ◌∙◌}
use mathlib.Core.Bool.{Bool, true, false, ◌||◌, or-true, false≢true}
use mathlib.Core.List.{List, [], ◌∷◌, ◌++◌}
use mathlib.Core.Logic.{◌⊎◌, inl, inr}
use Prim.Native.Nat.{ℕ, ◌+◌, ◌-◌, ◌≤◌, ◌<◌, max}
use native.Mathlib.Omega.{arith}
use lib.Dec.{eqb}
use lib.ListN.{length}
use borrow.Author.Tests.{eqb-true, eqb-false, eq-eqb, ne_eqb}
use Rattle.basis.specs.Choice.{pick}
use Rattle.basis.proofs.Cases.{by_cases}
use Rattle.forms.specs.Compact.{same}
use Rattle.forms.proofs.RoundTrip.{same_self, same_true}
use Rattle.plain.specs.Words.{Word, has, common, most, brings, newcomers}
use Rattle.plain.specs.Requests.{Open}
use Rattle.plain.specs.Table.{Table, Subgoal, subgoal_at, subgoal_of_answer, answers_to, nodes, answer_of, with_answer, with_entry, given, entered}
use Rattle.plain.specs.Consequences.{Entering}
use Rattle.plain.proofs.WordLaws.{or_right, has-snoc}
use Rattle.plain.proofs.LongestShared.{most-le, brought}
use Rattle.plain.proofs.NumberLaws.{Given, answer_of-none, answer_of-some}
use Rattle.plain.proofs.RecordLaws.{answer-held, entry-answers, entry-count, entry-subgoals, entry-nodes, entry-lasts, entry-own, settled-rooms}
use Rattle.plain.proofs.Counted.{answers_to-same, answer_nodes-inside}

-- ---- the most that a word of a list shares

common-self : (w : Word) → common w w ≡ length w
unfolding common
common-self [] = refl
common-self (x ∷ w) = rw (eq-eqb x x refl, common-self w)

most-snoc : (vs : List Word) (w u : Word) → most (vs ++ (w ∷ [])) u ≡ max (most vs u) (common w u)
unfolding most
most-snoc [] w u = omega arith
most-snoc (v ∷ vs) w u = omega (arith, most-snoc vs w u)

most-held : (vs : List Word) (w u : Word) → has vs w ≡ true → common w u ≤ most vs u
unfolding most has
most-held [] w u e = absurd (false≢true e)
most-held (v ∷ vs) w u e = by_cases (same v w)
    (λ p. let q : v ≡ w = same_true v w p in let z : common v u ≡ common w u = ap (λ (x : Word). common x u) q in omega arith)
    (λ p. omega (arith, most-held vs w u (or_right (same v w) (has vs w) e p)))

-- a word of the list is shared whole
pub most-whole : (vs : List Word) (w : Word) → has vs w ≡ true → most vs w ≡ length w
most-whole vs w e = omega (arith, most-held vs w w e, common-self w, most-le vs w)

-- ---- one form

module _ (t : Table) (s : ℕ) (low : 0 < s) (high : s ≤ length t.subgoals) (w : Word) where
  abbrev held : List Word
  held = answers_to t.answers s

  pub nodes-brought : nodes (with_answer t s w) ≡ nodes t + (length w - most (answers_to t.answers s) w)
  unfolding nodes
  nodes-brought =
      let a = answer_nodes-inside t.answers s w 1 (length t.subgoals) low (omega arith) in
      let b = brought held w in
      omega arith

  pub given-old : has (answers_to t.answers s) w ≡ true → given t s w ≡ t
  unfolding given
  given-old e = let p = answer_of-some t s w e in rw (ne_eqb (answer_of t s w) 0 (λ z. omega (arith, p.low)))

  pub given-new : has (answers_to t.answers s) w ≡ false → given t s w ≡ with_entry t s w
  unfolding given
  given-new e = rw (answer_of-none t s w e)

  pub given-nodes : nodes (given t s w) ≡ nodes t + (length w - most (answers_to t.answers s) w)
  given-nodes = by_cases (has held w)
      (λ e. rw (given-old e) (omega (arith, most-whole held w e)))
      (λ e. rw (given-new e, entry-nodes t s w low) nodes-brought)

  pub given-count : length (given t s w).answers ≡ length t.answers + pick (has (answers_to t.answers s) w) 0 1
  given-count = by_cases (has held w)
      (λ e. rw (given-old e, e) (omega arith))
      (λ e. rw (given-new e, e) (entry-count t s w ∙ omega arith))

  pub given-most : (u : Word) → most (answers_to (given t s w).answers s) u ≡ max (most (answers_to t.answers s) u) (common w u)
  given-most u = by_cases (has held w)
      (λ e. rw (given-old e) (omega (arith, most-held held w u e)))
      (λ e. rw (given-new e, entry-answers t s w, answers_to-same t.answers s w) (most-snoc held w u))

  pub given-has : (u : Word) → has (answers_to (given t s w).answers s) u ≡ (has (answers_to t.answers s) u || same w u)
  given-has u = by_cases (has held w)
      (λ e. rw (given-old e) (by_cases (has held u)
      (λ f. rw f)
      (λ f. by_cases (same w u) (λ g. absurd (false≢true (sym f ∙ ap (has held) (sym (same_true w u g)) ∙ e))) (λ g. rw (f, g)))))
      (λ e. rw (given-new e, entry-answers t s w, answers_to-same t.answers s w) (has-snoc held w u))

  -- nothing else changes
  pub given-subgoals : length (given t s w).subgoals ≡ length t.subgoals
  given-subgoals = by_cases (has held w) (λ e. rw (given-old e)) (λ e. rw (given-new e) (entry-subgoals t s w))

  pub given_stays : ((given t s w).N ≡ t.N) × ((given t s w).A ≡ t.A) × ((subgoal_at (given t s w) s).m ≡ (subgoal_at t s).m)
  given_stays = by_cases (has held w)
      (λ e. rw (given-old e) (refl, refl, refl))
      (λ e. let r = settled-rooms (with_answer t s w) s in rw (given-new e) (r.0, r.2, (entry-lasts t s w low high s).m))

-- an answer of this form is among them
pub given-held : (t : Table) (s : ℕ) (w : Word) (a : ℕ) → Given t s w a → has (answers_to t.answers s) w ≡ true
given-held t s w a g = ap (λ (x : ℕ). has (answers_to t.answers x) w) (sym g.subgoal) ∙ ap (has (answers_to t.answers (subgoal_of_answer t a))) (sym g.form) ∙ answer-held t a g.low g.high

-- a subgoal that forms are given to: it is open; or it is ground, holds the empty answer, and takes no other
abbrev pub Taking : Table → ℕ → Type 0
Taking t s = ((subgoal_at t s).state ≡ Open) ⊎ (((subgoal_at t s).m ≡ 0) × (has (answers_to t.answers s) [] ≡ true))

pub taking-open : (t : Table) (s : ℕ) (w : Word) → Taking t s → ((subgoal_at t s).m ≡ 0 → w ≡ []) → has (answers_to t.answers s) w ≡ false → (subgoal_at t s).state ≡ Open
taking-open t s w (inl o) f e = o
taking-open t s w (inr k) f e = absurd (false≢true (sym e ∙ ap (has (answers_to t.answers s)) (f k.0) ∙ k.1))

entry-taking : (t : Table) (s : ℕ) → 0 < s → s ≤ length t.subgoals → (w : Word) → Taking t s → ((subgoal_at t s).m ≡ 0 → w ≡ []) → Taking (with_entry t s w) s
entry-taking t s low high w k f = by_cases (eqb (subgoal_at t s).m 0)
    (λ z. let m : (subgoal_at t s).m ≡ 0 = eqb-true _ _ z in
    inr ((entry-lasts t s w low high s).m ∙ m, rw (entry-answers t s w, answers_to-same t.answers s w, has-snoc (answers_to t.answers s) w [], f m) (rw (same_self []) (or-true (has (answers_to t.answers s) [])))))
    (λ z. kept (eqb-false _ _ z) (entry-own t s w low high ∙ rw z) k)
  where
    kept : ((subgoal_at t s).m ≡ 0 → ⊥) → subgoal_at (with_entry t s w) s ≡ subgoal_at t s → Taking t s → Taking (with_entry t s w) s
    kept n q (inl o) = inl (ap (λ (g : Subgoal). g.state) q ∙ o)
    kept n q (inr k) = absurd (n k.0)

pub given-taking : (t : Table) (s : ℕ) → 0 < s → s ≤ length t.subgoals → (w : Word) → Taking t s → ((subgoal_at t s).m ≡ 0 → w ≡ []) → Taking (given t s w) s
given-taking t s low high w k f = by_cases (has (answers_to t.answers s) w)
    (λ e. rw (given-old t s low high w e) k)
    (λ e. rw (given-new t s low high w e) (entry-taking t s low high w k f))

-- ---- forms one after another

max-order : (a b x : ℕ) → max (max a b) x ≡ max a (max x b)
max-order a b x = omega arith

or-order : (a b x : Bool) → ((a || b) || x) ≡ (a || (x || b))
or-order true b x = refl
or-order false true true = refl
or-order false true false = refl
or-order false false x = by_cases x (λ e. rw e) (λ e. rw e)

or-none : (b : Bool) → b ≡ (b || false)
or-none true = refl
or-none false = refl

-- the first of them
module _ (t : Table) (s : ℕ) (w : Word) (ws : List Word) (low : 0 < s) (high : s ≤ length t.subgoals) where
  pub entered-old : has (answers_to t.answers s) w ≡ true → entered t s (w ∷ ws) ≡ entered t s ws
  unfolding entered
  entered-old e = ap (λ (u : Table). entered u s ws) (given-old t s low high w e)

  pub entered-new : has (answers_to t.answers s) w ≡ false → entered t s (w ∷ ws) ≡ entered (with_entry t s w) s ws
  unfolding entered
  entered-new e = ap (λ (u : Table). entered u s ws) (given-new t s low high w e)

module _ (s : ℕ) (low : 0 < s) (held : List Word) where
  abbrev Shares : Table → List Word → Type 0
  Shares t before = (u : Word) → most (answers_to t.answers s) u ≡ max (most held u) (most before u)

  abbrev Has : Table → List Word → Type 0
  Has t before = (u : Word) → has (answers_to t.answers s) u ≡ (has held u || has before u)

  entered-nodes : (ws before : List Word) (t : Table) → s ≤ length t.subgoals → Shares t before → nodes (entered t s ws) ≡ nodes t + brings held before ws
  unfolding entered brings
  entered-nodes [] before t high e = omega arith
  entered-nodes (w ∷ ws) before t high e =
      let g : Table = given t s w in
      let n = given-nodes t s low high w in
      let m = e w in
      let r = entered-nodes ws (w ∷ before) g (rw (given-subgoals t s low high w) high)
      (λ u. given-most t s low high w u ∙ ap (λ (x : ℕ). max x (common w u)) (e u) ∙ (unfold most in max-order (most held u) (most before u) (common w u))) in
      omega arith

  entered-count : (ws before : List Word) (t : Table) → s ≤ length t.subgoals → Has t before → length (entered t s ws).answers ≡ length t.answers + newcomers held before ws
  unfolding entered newcomers
  entered-count [] before t high e = omega arith
  entered-count (w ∷ ws) before t high e =
      let g : Table = given t s w in
      let n : length g.answers ≡ length t.answers + pick (has held w || has before w) 0 1 =
      given-count t s low high w ∙ ap (λ (b : Bool). length t.answers + pick b 0 1) (e w) in
      let r = entered-count ws (w ∷ before) g (rw (given-subgoals t s low high w) high)
      (λ u. given-has t s low high w u ∙ ap (λ (b : Bool). b || same w u) (e u) ∙ (unfold has in or-order (has held u) (has before u) (same w u))) in
      omega arith

none-shared : (held : List Word) (u : Word) → most held u ≡ max (most held u) (most [] u)
unfolding most
none-shared held u = omega arith

none-held : (held : List Word) (u : Word) → has held u ≡ (has held u || has [] u)
unfolding has
none-held held u = or-none (has held u)

pub entering : Entering
entering t s ws low high =
    let held : List Word = answers_to t.answers s in (
      entered-nodes s low held ws [] t high (none-shared held),
      entered-count s low held ws [] t high (none-held held),
    )
