-- A call that answers alike and leaves the same: what is shown of each call, and of counts, finish, next, load and instance.
use mathlib.Core.Path.{◌≡◌, refl, sym, ap, ◌∙◌}
use mathlib.Core.Bool.{Bool, true, false, true≢false, false≢true}
use mathlib.Core.List.{List, [], ◌∷◌}
use Prim.Native.Nat.{ℕ, zero, suc, ◌≤◌, ◌<◌}
use native.Mathlib.Omega.{arith}
use lib.Dec.{eqb, leb, ltb}
use lib.ListN.{length}
use borrow.Author.Tests.{eqb-true, eqb-false, eq-eqb, ne_eqb, ltb-true, leb-true}
use Rattle.basis.specs.Choice.{pick}
use Rattle.basis.proofs.Cases.{by_cases}
use Rattle.forms.specs.Compact.{same}
use Rattle.plain.specs.Words.{Word}
use Rattle.plain.specs.Coding.{Coding}
use Rattle.plain.specs.CodingLaws.{CodingLaws}
use Rattle.plain.specs.Requests.{finish, next, load, instance, counts, Reply, used, refused, Result}
use Rattle.plain.specs.Table as table
use Rattle.plain.specs.Table.{Table, subgoal_at, answer_at, subgoal_of_answer, called_forms, number, subgoal_of, answer_of, following, with_finished, stays, writes, step}
use Rattle.plain.proofs.AfterLaws.{after-found}
use Rattle.plain.proofs.RecordLaws.{subgoal_at-finished, subgoal_at-lasts, subgoal_at-others, finished-forms, finished-count}
use Rattle.plain.proofs.LinkLaws.{link_of}
use Rattle.plain.proofs.Counted.{forest-finish}
use Rattle.plain.proofs.Soundness.{sound-finished}
use Rattle.plain.proofs.StoredForms.{called-form-legal, answer-form-legal}
use Rattle.plain.proofs.ReasonLaws.{lowest-forms}
use Rattle.space.specs.declared.Subgoal.{Subgoal}
use Rattle.store.specs.Views.{View}
use Rattle.store.specs.Decisions as decisions
use Rattle.store.specs.Decisions.{Decision, says, gives, finishes, known, sound, on_path, loaded, instanced, handed, decide, decide_by}
use Rattle.store.specs.Calls.{reply, out_after}
use Rattle.agreement.specs.Records.{with_state, with_finish, changed_view, Fits, says-fits, gives_fits, finish-fits}
use Rattle.agreement.proofs.FirstChildren.{firsts-forms}
use Rattle.agreement.proofs.SameRecords.{later, state_cell, LastSame, no_last, some-last, SubgoalSame, Same, same-counts, subgoal-judged, subgoal-state, answer-judged, answer-own-judged, variables-met, own-low, own-high, gather-subgoal, gather-answer}

-- what the plain table gives and the decision on a view agree, out being lent
pub record Agrees (c : Coding) (v : View) (out : List ℕ) (r : Result Table) (d : Decision) : Type 0 where
  pub fits : Fits v d
  pub replies : (after : ℕ) → reply v d (length out) after ≡ r.reply
  pub leaves : out_after d out ≡ r.out
  pub same : Same c r.state (changed_view v d)

module _ (c : Coding) (t : Table) (v : View) (S : Same c t v) where
  pub agrees-says : (out : List ℕ) (x : Reply) → Agrees c v out (stays t out x) (says x)
  unfolding reply out_after changed_view
  agrees-says out x = record { fits = says-fits x; replies = λ after. refl; leaves = refl; same = S }

  pub agrees-gives : (ks out : List ℕ) → Agrees c v out (writes t ks out) (gives ks)
  unfolding reply out_after changed_view writes
  agrees-gives ks out = by_cases (leb (length ks) (length out))
      (λ e. rw e (record { fits = gives_fits ks; replies = λ after. rw e; leaves = rw e; same = S }))
      (λ e. rw e (record { fits = gives_fits ks; replies = λ after. rw e; leaves = rw e; same = S }))

  -- both sides test a number alike
  pub agrees-known : (out : List ℕ) (n k s : ℕ) (r : Result Table) (d : Decision) → k ≡ n → (0 < s → s ≤ n → Agrees c v out r d)
      → Agrees c v out (table.known t out n s r) (known k s d)
  agrees-known out n k s r d e f = rw e (by_cases (ltb 0 s)
      (λ p. by_cases (leb s n) (λ q. rw (p, q) (f (ltb-true _ _ p) (leb-true _ _ q))) (λ q. rw (p, q) (agrees-says out (refused 7))))
      (λ p. rw p (agrees-says out (refused 7))))

-- both sides test alike
pub agrees-pick : (c : Coding) (v : View) (out : List ℕ) (b b' : Bool) (r r' : Result Table) (d d' : Decision) → b ≡ b' → (b ≡ true → Agrees c v out r d) → (b ≡ false → Agrees c v out r' d')
    → Agrees c v out (pick b r r') (pick b' d d')
agrees-pick c v out true true r r' d d' e f g = f refl
agrees-pick c v out true false r r' d d' e f g = absurd (true≢false e)
agrees-pick c v out false true r r' d d' e f g = absurd (false≢true e)
agrees-pick c v out false false r r' d d' e f g = g refl

-- ---- finish

-- finding by form reads the forms alone
number-forms : (y : Word) (n : ℕ) (gs : List table.Subgoal) → number (λ g. same g.form y) n gs ≡ number (λ w. same w y) n (called_forms gs)
unfolding number
number-forms y n [] = refl
number-forms y n (g ∷ gs) = ap (λ (k : ℕ). pick (same g.form y) n k) (number-forms y (suc n) gs)

module _ (c : Coding) (t : Table) (v : View) (S : Same c t v) (s : ℕ) (low : 0 < s) (high : s ≤ length t.subgoals) where
  abbrev ended : Table
  ended = with_finished t s

  subgoal_of-finished : (y : Word) → subgoal_of t y ≡ subgoal_of ended y
  unfolding subgoal_of
  subgoal_of-finished y =
      number-forms y 1 t.subgoals ∙ ap (number (λ w. same w y) 1) (sym (finished-forms t s low)) ∙ sym (number-forms y 1 ended.subgoals)

  link_of-finished : (y : Word) → link_of t y ≡ link_of ended y
  unfolding link_of
  link_of-finished [] = refl
  link_of-finished (zero ∷ y) = subgoal_of-finished y
  link_of-finished (suc i ∷ y) = unfold answer_of in refl

  last-finished : (i first last : ℕ) → LastSame t i first last → LastSame ended i first last
  unfolding answer_at
  last-finished i first last (no_last p q) = no_last p q
  last-finished i first last (some-last p q u z) = some-last p q u z

  subgoal-finished : (i : ℕ) (g : Subgoal) (x : ℕ) → SubgoalSame t S.K v.nodes i g → x ≡ state_cell (subgoal_at ended i).state
      → SubgoalSame ended S.K v.nodes i (with_state g x)
  unfolding answer_at
  subgoal-finished i g x o e =
      let l = subgoal_at-lasts t s i low high in
      record {
        leaf-in = o.leaf-in;
        leaf-key = o.leaf-key ∙ ap (λ (w : Word). 0 ∷ w) (sym l.form);
        root_in = o.root_in;
        root-key = o.root-key;
        root-next = o.root-next;
        variables = o.variables ∙ sym l.m;
        state = e;
        first = o.first;
        last = last-finished i _ _ o.last;
      }

  pub same-finished : Same c ended (with_finish v s)
  unfolding answer_at
  same-finished = record {
    es = S.es;
    forest = forest-finish t S.es s S.forest low;
    K = S.K;
    numbering = S.numbering;
    tries = S.tries;
    links = λ i h. S.links i h ∙ link_of-finished _;
    firsts = firsts-forms t ended S.K (λ u. lowest-forms ended t (finished-forms t s low) u) S.firsts;
    origin = S.origin;
    some = S.some;
    N-same = S.N-same;
    F-same = S.F-same;
    A-same = S.A-same;
    sound = sound-finished c t S.sound s low high;
    subgoals = S.subgoals ∙ sym (finished-count t s);
    answers = S.answers;
    subgoal = λ i h k. by_cases (eqb i s)
        (λ e. let q : i ≡ s = eqb-true i s e in
        rw (e, q) (subgoal-finished s (v.subgoal s) 1 (S.subgoal s low high) (rw (subgoal_at-finished t s low high))))
        (λ e. let o = S.subgoal i h (omega (arith, finished-count t s)) in
        rw e (subgoal-finished i (v.subgoal i) (v.subgoal i).state o (o.state ∙ rw (subgoal_at-others t s i low (eqb-false i s e)))));
    answer = λ b h k. let o = S.answer b h k in record { leaf-in = o.leaf-in; leaf-key = o.leaf-key; subgoal = o.subgoal; next = o.next };
  }

-- ---- next

module _ (c : Coding) (laws : CodingLaws c) (t : Table) (v : View) (S : Same c t v) where
  starting-same : (s a : ℕ) → table.starting t s a ≡ decisions.starting v s a
  unfolding table.starting decisions.starting
  starting-same s a = by_cases (eqb a 0) (λ z. rw z) (λ z. rw (z, S.answers) (by_cases (leb a (length t.answers))
      (λ y. rw (y, (S.answer a (some a (eqb-false a 0 z)) (leb-true a (length t.answers) y)).subgoal))
      (λ y. rw y)))
    where
      some : (a : ℕ) → (a ≡ 0 → ⊥) → 0 < a
      some a h = omega arith

  -- what follows an answer is handed out
  handed-same : (s a : ℕ) → 0 < s → s ≤ length t.subgoals → handed v s (later t a s) ≡ says (table.onward t s a)
  unfolding handed table.onward following
  handed-same s a low high = by_cases (eqb (later t a s) 0)
      (λ e. rw (e, subgoal-state c laws t v S s low high))
      (λ e. let f = after-found (subgoal_of_answer t) (suc (length t.answers)) a s (eqb-false _ _ e) in
      rw (e, answer-own-judged c laws t v S (later t a s) (omega (arith, f.above)) (omega (arith, f.below)) s f.under))

  onward-first : (s : ℕ) → 0 < s → s ≤ length t.subgoals → decisions.onward v s 0 ≡ says (table.onward t s 0)
  unfolding decisions.onward
  onward-first s low high = rw (subgoal-judged c laws t v S s low high, (S.subgoal s low high).first) (handed-same s 0 low high)

  onward-next : (s a : ℕ) → 0 < s → s ≤ length t.subgoals → 0 < a → a ≤ length t.answers → subgoal_of_answer t a ≡ s → decisions.onward v s a ≡ says (table.onward t s a)
  unfolding decisions.onward
  onward-next s a low high p q e =
      rw (subgoal-judged c laws t v S s low high, ne_eqb a 0 (λ z. omega arith), answer-judged c laws t v S a p q, (S.answer a p q).next, e) (handed-same s a low high)

  -- where next may start
  starting-from : (s a : ℕ) → table.starting t s a ≡ true → (a ≡ 0 → ⊥) → (0 < a) × (a ≤ length t.answers) × (subgoal_of_answer t a ≡ s)
  unfolding table.starting
  starting-from s a e z =
      let f : pick (leb a (length t.answers)) (eqb (subgoal_of_answer t a) s) false ≡ true = rw (ne_eqb a 0 z) at e in
      by_cases (leb a (length t.answers))
      (λ y. (omega arith, leb-true _ _ y, eqb-true _ _ (rw y at f)))
      (λ y. absurd (false≢true (rw y at f)))

  onward-same : (s a : ℕ) → 0 < s → s ≤ length t.subgoals → table.starting t s a ≡ true → decisions.onward v s a ≡ says (table.onward t s a)
  onward-same s a low high e = by_cases (eqb a 0)
      (λ z. let q : a ≡ 0 = eqb-true a 0 z in rw q (onward-first s low high))
      (λ z. let f = starting-from s a e (eqb-false a 0 z) in onward-next s a low high f.0 f.1 f.2)

  -- ---- load and instance

  loaded-form : (a : ℕ) → 0 < a → a ≤ length t.answers → (d : Word → Decision) → loaded c v a d ≡ d (answer_at t a).form
  unfolding loaded on_path
  loaded-form a low high d =
      rw (
        (S.answer a low high).subgoal,
        gather-answer c laws t v S a low high,
        (S.subgoal (subgoal_of_answer t a) (own-low c laws t v S a low high) (own-high c laws t v S a low high)).variables,
        answer-form-legal c laws t S.sound a low high,
      )

  instanced-form : (s : ℕ) → 0 < s → s ≤ length t.subgoals → (d : Word → Decision) → instanced c v s d ≡ d (subgoal_at t s).form
  unfolding instanced on_path
  instanced-form s low high d =
      rw (gather-subgoal c laws t v S s low high, called-form-legal c laws t S.sound s low high, eq-eqb _ _ (variables-met c laws t v S s low high))

  pair-judged : (a : ℕ) → 0 < a → a ≤ length t.answers → decisions.sound_pair v a ≡ true
  pair-judged a low high =
      rw (answer-judged c laws t v S a low high, (S.answer a low high).subgoal) (subgoal-judged c laws t v S (subgoal_of_answer t a) (own-low c laws t v S a low high) (own-high c laws t v S a low high))

  -- ---- the calls

  pub counts-agrees : Agrees c v [] (step c t counts) (decide c v counts)
  unfolding step decide_by
  counts-agrees = rw (same-counts c laws t v S) (agrees-says c t v S [] (used _))

  pub finish-agrees : (s : ℕ) → Agrees c v [] (step c t (finish s)) (decide c v (finish s))
  unfolding step decide_by
  finish-agrees s = agrees-known c t v S [] (length t.subgoals) v.subgoals s _ _ S.subgoals (λ low high.
      rw (subgoal-judged c laws t v S s low high) (record {
        fits = finish-fits s low (omega (arith, S.subgoals));
        replies = λ after. unfold reply in refl;
        leaves = unfold out_after in refl;
        same = unfold changed_view in same-finished c t v S s low high;
      }))

  pub next-agrees : (s a : ℕ) → Agrees c v [] (step c t (next s a)) (decide c v (next s a))
  unfolding step decide_by
  next-agrees s a = agrees-known c t v S [] (length t.subgoals) v.subgoals s _ _ S.subgoals (λ low high.
      by_cases (table.starting t s a)
      (λ e. let f : decisions.starting v s a ≡ true = sym (starting-same s a) ∙ e in rw (e, f, onward-same s a low high e) (agrees-says c t v S [] _))
      (λ e. let f : decisions.starting v s a ≡ false = sym (starting-same s a) ∙ e in rw (e, f) (agrees-says c t v S [] (refused 7))))

  pub load-agrees : (a : ℕ) (out : List ℕ) → Agrees c v out (step c t (load a out)) (decide c v (load a out))
  unfolding step decide_by
  load-agrees a out = agrees-known c t v S out (length t.answers) v.answers a _ _ S.answers (λ low high.
      rw (pair-judged a low high, loaded-form a low high (λ w. gives (c.expand w))) (agrees-gives c t v S _ out))

  pub instance-agrees : (a : ℕ) (out : List ℕ) → Agrees c v out (step c t (instance a out)) (decide c v (instance a out))
  unfolding step decide_by
  instance-agrees a out = agrees-known c t v S out (length t.answers) v.answers a _ _ S.answers (λ low high.
      rw (
        pair-judged a low high,
        loaded-form a low high (λ w. instanced c v (v.answer a).subgoal (λ u. gives (c.instance_of u w))),
        (S.answer a low high).subgoal,
        instanced-form (subgoal_of_answer t a) (own-low c laws t v S a low high) (own-high c laws t v S a low high) (λ u. gives (c.instance_of u (answer_at t a).form)),
      )
      (agrees-gives c t v S _ out))
