-- A law for each case of judging a source's answers, and the forms of a chain as those of its answers.
use Rattle.std.specs.Prelude.{None, Some}
use Prim.Native.Nat.{ℕ, zero, suc, ◌+◌, ◌-◌, ◌<◌, ◌≤◌}
use mathlib.Core.Path.{◌≡◌, refl, sym, ap, ◌∙◌}
use mathlib.Core.Bool.{Bool, true, false, ◌&&◌}
use mathlib.Core.List.{List, [], ◌∷◌, ◌++◌, append_assoc, append-nil}
use native.Mathlib.Omega.{arith}
use lib.Dec.{eqb}
use lib.ListN.{length}
use borrow.Author.Tests.{eq-eqb, ne_eqb}
use Rattle.forms.specs.Numbering.{met}
use Rattle.basis.proofs.Cases.{by_cases}
use Rattle.forms.specs.Stored.{stored_of}
use Rattle.plain.specs.Words.{Word}
use Rattle.plain.specs.Coding.{Coding, coding_of}
use Rattle.plain.specs.Joins.{ground}
use Rattle.plain.specs.Detours.{Live}
use Rattle.space.specs.Judging.{answer_sound}
use Rattle.space.specs.Sound.{subgoal_under}
use Rattle.space.specs.declared.Subgoal.{Subgoal}
use Rattle.space.specs.declared.Answer.{Answer}
use Rattle.space.specs.declared.tables.Table.{Table}
use Rattle.space.proofs.JudgingLaws.{answer-bounds, read-answer-sound, follows-rises, follows-within}
use Rattle.space.proofs.HeaderLaws.{bounds-nodes}
use Rattle.trie.specs.Paths.{Path, none, tokens, gather, longest}
use Rattle.trie.specs.Ends.{answer_end}
use Rattle.trie.specs.Runs.{path_to}
use Rattle.store.specs.Views.{View, answer_trie}
use Rattle.store.specs.Clauses.{view_at}
use Rattle.store.specs.Decisions.{sound_answer_of, Chain, broken, unbroken, headed, chain_from, chain_of}
use Rattle.store.specs.Decisions.{Lives, severed, lives, lives_behind, lives_from, lives_of}
use Rattle.path_terms.specs.AlongPaths.{worth}
use Rattle.store.proofs.CallsRecords.{reads-answer, read-answer-damaged}
use Rattle.sides.specs.Chains.{free, PathSevered, PathHeld, PathJudged, prepended, lives_at, Onward, MemberRead, all_pass, LivesHeld, LivesJudged, ChainHeld}
use Rattle.sides.specs.declared.Member.{Member}

-- ---- a path

module _ (edition m : ℕ) where
  pub path-severed : (p : Path) (n : ℕ) → n ≡ worth edition m false p → n ≡ 0 → PathSevered edition p m
  unfolding lives_behind
  path-severed none n e z a later = refl
  path-severed (tokens w) n e z a severed = refl
  path-severed (tokens w) n e z a (lives ls) =
      by_cases ((stored_of edition).legal m w)
      (λ l. let d : n ≡ length (met [] w) + 1 = rw l at e in absurd (omega arith))
      (λ l. rw l refl)

  -- a form that is worth something
  held : (p : Path) (n : ℕ) → n ≡ worth edition m false p → (n ≡ 0 → ⊥)
      → (w : Word) × (p ≡ tokens w) × ((stored_of edition).legal m w ≡ true) × (n ≡ length (met [] w) + 1)
  held none n e z = absurd (z e)
  held (tokens w) n e z =
      by_cases ((stored_of edition).legal m w)
      (λ l. (w, refl, l, rw l at e))
      (λ l. let d : n ≡ 0 = rw l at e in absurd (z d))

  module _ (p : Path) (n : ℕ) (e : n ≡ worth edition m false p) (z : n ≡ 0 → ⊥) where
    pub path-ground : n ≡ 1 → PathHeld free edition p m true
    path-ground o = let h = held p n e z in (h.0, h.1, h.2, eq-eqb (length (met [] h.0)) 0 (omega (arith, h.3)))

    pub path-variable : (n ≡ 1 → ⊥) → PathHeld free edition p m false
    path-variable o = let h = held p n e z in (h.0, h.1, h.2, ne_eqb (length (met [] h.0)) 0 (λ x. o (omega (arith, h.3, x))))

-- ---- an answer

module _ (table : Table) (s : ℕ) (g : Subgoal) (a : ℕ) (z : a ≡ 0 → ⊥) where
  pub member-damaged : None ≡ reads-answer (view_at table) a → MemberRead table s g a None
  unfolding lives_from
  member-damaged e steps = simp (ne_eqb _ _ z, read-answer-damaged _ _ _ _ _ e)

  module _ (y : Answer) (e : Some y ≡ reads-answer (view_at table) a) where
    read : (y ≡ (view_at table).answer a) × (answer_sound table.head.nodes table.head.subgoals table.head.answers a ((view_at table).answer a) ≡ true)
    read = read-answer-sound table.head.nodes table.head.subgoals table.head.answers (view_at table).answer a e

    pub member-other : (y.subgoal ≡ s → ⊥) → MemberRead table s g a None
    unfolding lives_from
    member-other o steps = simp (ne_eqb _ _ z, read.1, ne_eqb _ _ (λ x. o (ap (λ (w : Answer). w.subgoal) read.0 ∙ x)))

    leaf-within : y.leaf < table.head.nodes
    leaf-within =
        let b = answer-bounds _ _ _ _ _ read.1 in
        let f : y.leaf ≡ ((view_at table).answer a).leaf = ap (λ (w : Answer). w.leaf) read.0 in
        omega arith

    onward : Onward table.head a y.next
    onward =
        let b = answer-bounds _ _ _ _ _ read.1 in
        let w = follows-within (table.head.answers + 1) a ((view_at table).answer a).next (omega arith) b.next-follows in
        let n : y.next ≡ ((view_at table).answer a).next = ap (λ (w : Answer). w.next) read.0 in
        (λ k. let r = follows-rises (table.head.answers + 1) a ((view_at table).answer a).next b.next-follows (λ x. k (n ∙ x)) in omega arith, omega arith)

    module _ (o : y.subgoal ≡ s) (is : g ≡ subgoal_under table.cells.now table.head s) where
      -- the answers from a on: its path before what follows
      from-here : (steps : ℕ) → lives_at table s (suc steps) a
          ≡ lives_behind ((stored_of table.head.edition).legal g.variables) a (path_to table.cells.now (answer_end table.head g y)) (lives_at table s steps y.next)
      unfolding lives_from
      from-here steps =
          rw (is, read.0)
          (simp (ne_eqb _ _ z, read.1, eq-eqb _ _ (ap (λ (w : Answer). w.subgoal) (sym read.0) ∙ o)))

      pub member-read : MemberRead table s g a (Some (record { next = y.next; end = answer_end table.head g y }))
      member-read = ((bounds-nodes _ _ table.within, leaf-within), onward, from-here)

-- ---- all answers

behind-legal : (legal : Word → Bool) (a : ℕ) (w : Word) → legal w ≡ true → (later : Lives) → lives_behind legal a (tokens w) later ≡ prepended (record { number = a; form = w } ∷ []) later
unfolding lives_behind prepended
behind-legal legal a w t severed = refl
behind-legal legal a w t (lives ls) = rw t refl

prepended-none : (x : Lives) → x ≡ prepended [] x
unfolding prepended
prepended-none severed = refl
prepended-none (lives ls) = refl

prepended-append : (ks ls : List Live) (x : Lives) → prepended ks (prepended ls x) ≡ prepended (ks ++ ls) x
unfolding prepended
prepended-append ks ls severed = refl
prepended-append ks ls (lives ms) = ap lives (sym (append_assoc ks ls ms))

prepended-severed : (ks : List Live) → prepended ks severed ≡ severed
unfolding prepended
prepended-severed ks = refl

prepended-ended : (ks : List Live) → prepended ks (lives []) ≡ lives ks
unfolding prepended
prepended-ended ks = ap lives (append-nil ks)

pass-append : (test : Word → Bool) (ls : List Live) (l : Live) → all_pass test (ls ++ (l ∷ [])) ≡ (all_pass test ls && test l.form)
unfolding all_pass
pass-append test [] l = by_cases (test l.form) (λ e. rw e refl) (λ e. rw e refl)
pass-append test (k ∷ ls) l = by_cases (test k.form) (λ e. rw e (pass-append test ls l)) (λ e. rw e refl)

pub lives-end : (c : Coding) (v : View) (s k a : ℕ) → a ≡ 0 → lives_from c v s k a ≡ lives []
unfolding lives_from
lives-end c v s zero a e = simp (eq-eqb a 0 e)
lives-end c v s (suc k) a e = simp (eq-eqb a 0 e)

-- the answers before a are judged: they stand before those from a on, whose steps suffice
pub record Passed (test : Word → Bool) (table : Table) (s a : ℕ) (b : Bool) : Type 0 where
  pub before : List Live
  pub steps : ℕ
  pub rest : lives_of (coding_of table.head.edition) (view_at table) s ≡ prepended before (lives_at table s steps a)
  pub passes : all_pass test before ≡ b
  pub suffice : (a ≡ 0 → ⊥) → table.head.answers < steps + a

module _ (test : Word → Bool) (table : Table) (s : ℕ) where
  pub passed-begin : (g : Subgoal) → g ≡ subgoal_under table.cells.now table.head s → Passed test table s g.first true
  unfolding all_pass
  passed-begin g f = record {
    before = [];
    steps = table.head.answers;
    rest = ap (λ (x : Subgoal). lives_at table s table.head.answers x.first) (sym f) ∙ prepended-none (lives_at table s table.head.answers g.first);
    passes = refl;
    suffice = λ z. omega arith;
  }

  module _ {a : ℕ} {b : Bool} (p : Passed test table s a b) where
    pub passed-ended : a ≡ 0 → LivesHeld test table s b
    passed-ended z =
        (p.before, p.rest ∙ ap (prepended p.before) (lives-end (coding_of table.head.edition) (view_at table) s p.steps a z) ∙ prepended-ended p.before, p.passes)

    module _ (z : a ≡ 0 → ⊥) (within : a ≤ table.head.answers) where
      one-step : p.steps ≡ suc (p.steps - 1)
      one-step = let k = p.suffice z in omega arith

      from_step : (x : Lives) → lives_at table s (suc (p.steps - 1)) a ≡ x → lives_of (coding_of table.head.edition) (view_at table) s ≡ prepended p.before x
      from_step x e = p.rest ∙ ap (λ (k : ℕ). prepended p.before (lives_at table s k a)) one-step ∙ ap (prepended p.before) e

      module _ (g : Subgoal) where
        pub passed-damaged : MemberRead table s g a None → lives_of (coding_of table.head.edition) (view_at table) s ≡ severed
        passed-damaged j = from_step severed (j (p.steps - 1)) ∙ prepended-severed p.before

        module _ (m : Member) (j : MemberRead table s g a (Some m)) where
          pub passed-severed : PathJudged test table.head.edition (path_to table.cells.now m.end) g.variables None → lives_of (coding_of table.head.edition) (view_at table) s ≡ severed
          passed-severed q =
              from_step severed (j.2 (p.steps - 1) ∙ q a (lives_at table s (p.steps - 1) m.next)) ∙ prepended-severed p.before

          pub passed_on : (t : Bool) → PathJudged test table.head.edition (path_to table.cells.now m.end) g.variables (Some t) → Passed test table s m.next (b && t)
          passed_on t q = record {
            before = p.before ++ (record { number = a; form = q.0 } ∷ []);
            steps = p.steps - 1;
            rest = from_step _ (
                j.2 (p.steps - 1) ∙ ap (λ (x : Path). lives_behind ((stored_of table.head.edition).legal g.variables) a x (lives_at table s (p.steps - 1) m.next)) q.1
                ∙ behind-legal ((stored_of table.head.edition).legal g.variables) a q.0 q.2 (lives_at table s (p.steps - 1) m.next))
                ∙ prepended-append p.before (record { number = a; form = q.0 } ∷ []) (lives_at table s (p.steps - 1) m.next);
            passes = pass-append test p.before (record { number = a; form = q.0 }) ∙ rw (p.passes, q.3) refl;
            suffice = λ k. let u = p.suffice z in let i = j.1.0 k in omega (arith, one-step);
          }

-- ---- the forms of a source: those of its answers

unfoldable pub forms : List Live → List Word
forms [] = []
forms (l ∷ ls) = l.form ∷ forms ls

unfoldable pub forms_of : Lives → Chain
forms_of severed = broken
forms_of (lives ls) = unbroken (forms ls)

headed-behind : (legal : Word → Bool) (a : ℕ) (p : Path) (x : Lives) → headed legal p (forms_of x) ≡ forms_of (lives_behind legal a p x)
unfolding headed lives_behind forms_of forms
headed-behind legal a none x = refl
headed-behind legal a (tokens w) severed = refl
headed-behind legal a (tokens w) (lives ls) = by_cases (legal w) (λ e. rw e refl) (λ e. rw e refl)

pub chain-lives : (c : Coding) (v : View) (s k a : ℕ) → chain_from c v s k a ≡ forms_of (lives_from c v s k a)
unfolding chain_from lives_from forms_of forms
chain-lives c v s zero a = by_cases (eqb a 0) (λ e. rw e refl) (λ e. rw e refl)
chain-lives c v s (suc k) a =
    by_cases (eqb a 0)
    (λ e. rw e refl)
    (λ e. rw e (by_cases (sound_answer_of v s a)
    (λ o. rw o (rw (chain-lives c v s k (v.answer a).next)
    (headed-behind (λ w. c.legal (v.subgoal s).variables w) a
    (gather longest (answer_trie v) (v.subgoal s).root (v.answer a).leaf) (lives_from c v s k (v.answer a).next))))
    (λ o. rw o refl)))

ground-forms : (ls : List Live) → ground (forms ls) ≡ all_pass free ls
unfolding ground all_pass forms
ground-forms [] = refl
ground-forms (l ∷ ls) = by_cases (free l.form) (λ e. rw e (ground-forms ls)) (λ e. rw e refl)

module _ (table : Table) (s : ℕ) where
  forms-here : chain_of (coding_of table.head.edition) (view_at table) s ≡ forms_of (lives_of (coding_of table.head.edition) (view_at table) s)
  forms-here = chain-lives (coding_of table.head.edition) (view_at table) s (view_at table).answers ((view_at table).subgoal s).first

  pub chain-broken : LivesJudged free table s None → chain_of (coding_of table.head.edition) (view_at table) s ≡ broken
  unfolding forms_of
  chain-broken e = forms-here ∙ ap forms_of e

  pub chain-held : (b : Bool) → LivesJudged free table s (Some b) → ChainHeld table.cells.now table.head s b
  unfolding forms_of
  chain-held b e = (forms e.0, forms-here ∙ ap forms_of e.1, ground-forms e.0 ∙ e.2)
