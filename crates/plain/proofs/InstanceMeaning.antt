-- Instance writes the called term with the answering terms for its variables (specs/InstanceMeaning.antt).
use mathlib.Core.Path.{◌≡◌, refl, sym, ap, ◌∙◌}
use mathlib.Core.Bool.{true}
use mathlib.Core.List.{List, [], ◌∷◌, ◌++◌, map, map-append}
use Prim.Native.Nat.{ℕ, zero, suc, ◌≤◌, ◌<◌}
use native.Mathlib.Omega.{arith}
use native.Mathlib.Nat.{not-suc-le-zero}
use lib.Dec.{ltb}
use lib.ListN.{length, get_or}
use borrow.Author.Tests.{eq-eqb, lt-ltb, le-leb}
use Rattle.basis.specs.Choice.{pick}
use Rattle.basis.proofs.Cases.{by_cases}
use Rattle.forms.specs.Cells.{kind, payload, tag, PAIR, variable, shape_of}
use Rattle.forms.specs.Terms.{Term, cell, arg, pair, pairs, every, reads}
use Rattle.forms.specs.Numbering.{rank, met, renamed, numbered}
use Rattle.forms.specs.Stored.{StoredForm}
use Rattle.forms.specs.Promises.{Legal}
use Rattle.forms.proofs.NumberingLaws.{mapped, numbered-reads, numbered-renamed, In, Each, each-met}
use Rattle.forms.proofs.ExactLaws.{terms-pairs}
use Rattle.forms.proofs.StoredLaws.{ExactTerms, StoredLaws}
use Rattle.plain.specs.Words.{Word}
use Rattle.plain.specs.Coding.{Coding, Reading, refused, accepted, coded_as}
use Rattle.plain.specs.Requests.{Request, call, answer, instance, Result, left}
use Rattle.plain.specs.Table.{Table, Subgoal, Answer, fresh, subgoal_at, answer_at, subgoal_of_answer, with_subgoal, with_answer, with_entry, called, answered, writes, step}
use Rattle.plain.specs.Consequences.{Gives, reached}
use Rattle.plain.specs.InstanceMeaning.{replaced, term_cells, instantiated, Got, Instancing}
use Rattle.plain.proofs.Instances.{spread, substituted-every}
use Rattle.plain.proofs.StoredCoding.{called-form, answered-form, form-variables, form-terms, stored-laws}
use Rattle.plain.proofs.NumberLaws.{Called, Given}
use Rattle.plain.proofs.RecordLaws.{subgoal_at-new, subgoals-count, answer_at-new, settled-answer_at, entry-count, entry-subgoals, entry-lasts}
use Rattle.plain.proofs.Changes.{known-cases, appended-cases, called-cases, answered-cases}
use Rattle.plain.proofs.Growth.{Grows, left-grows}
use Rattle.plain.proofs.Soundness.{sound-reached}
use Rattle.plain.proofs.Naming.{naming-none}

-- ---- variables of the parts

each_both : (vs xs ys : List ℕ) → Each vs xs → Each vs ys → Each vs (xs ++ ys)
each_both vs [] ys h k = k
each_both vs (x ∷ xs) ys h k = (h.0, each_both vs xs ys h.1 k)

each-parts : (vs xs ys : List ℕ) → Each vs (xs ++ ys) → Each vs xs × Each vs ys
each-parts vs [] ys h = (tt, h)
each-parts vs (x ∷ xs) ys h = let p = each-parts vs xs ys h.1 in ((h.0, p.0), p.1)

each_part : (vs : List ℕ) (us : List Term) (i : ℕ) → i < length us → Each vs (every pairs us) → Each vs (get_or (map pairs us) i [])
unfolding every
each_part vs [] i h e = absurd (not-suc-le-zero h)
each_part vs (u ∷ us) zero h e = (each-parts vs (pairs u) (every pairs us) e).0
each_part vs (u ∷ us) (suc i) h e = each_part vs us i (omega arith) (each-parts vs (pairs u) (every pairs us) e).1

-- ---- what is stored in the place of what was given

module _ (ρ : ℕ → ℕ) (keeps : ρ PAIR ≡ PAIR) where
  mapped-pairs : (t : Term) → pairs (mapped ρ t) ≡ map ρ (pairs t)
  unfolding mapped pairs
  mapped-pairs (cell c) = refl
  mapped-pairs (arg f a) = rw (map-append ρ (pairs f) (pairs a), mapped-pairs f, mapped-pairs a)
  mapped-pairs (pair h t) = rw (map-append ρ (pairs h) (pairs t), keeps, mapped-pairs h, mapped-pairs t)

  mapped-part : (us : List Term) (i : ℕ) (d : Term) → i < length us → pairs (get_or (map (mapped ρ) us) i d) ≡ map ρ (get_or (map pairs us) i [])
  mapped-part [] i d h = absurd (not-suc-le-zero h)
  mapped-part (u ∷ us) zero d h = mapped-pairs u
  mapped-part (u ∷ us) (suc i) d h = mapped-part us i d (omega arith)

-- terms us for the variables vs of a term; ws are the variables of the terms
module _ (vs ws : List ℕ) (us : List Term) (few : length vs ≤ 32) (as_many : length us ≡ length vs) where
  -- what stands for a cell, as given
  abbrev given : ℕ → List ℕ
  given c = pick (variable c) (get_or (map pairs us) (rank vs c) []) (c ∷ [])

  -- and as numbered
  abbrev spread_cell : ℕ → List ℕ
  spread_cell x = pick (variable x) (pairs (get_or (map (mapped (renamed ws)) us) (payload x) (cell x))) (x ∷ [])

  spread-given : (c : ℕ) → (variable c ≡ true → In vs c) → spread_cell (renamed vs c) ≡ map (renamed ws) (given c)
  unfolding renamed
  spread-given c h = by_cases (variable c)
      (λ e.
      let r : rank vs c < length us = omega (arith, h e) in
      let v : variable (tag 1 (rank vs c)) ≡ true = eq-eqb (kind (tag 1 (rank vs c))) 1 (omega arith) in
      let p : payload (tag 1 (rank vs c)) ≡ rank vs c = omega arith in
      rw (e, v, p) (mapped-part (renamed ws) refl us (rank vs c) (cell (tag 1 (rank vs c))) r))
      (λ e. rw e (rw e))

  spread-numbered : (cs : List ℕ) → Each vs cs → spread (map (mapped (renamed ws)) us) (map (renamed vs) cs) ≡ map (renamed ws) (replaced vs (map pairs us) cs)
  unfolding spread replaced
  spread-numbered [] h = refl
  spread-numbered (c ∷ cs) h = rw (map-append (renamed ws) (given c) (replaced vs (map pairs us) cs), spread-given c h.0, spread-numbered cs h.1)

  each-given : (c : ℕ) → (variable c ≡ true → In vs c) → Each ws (every pairs us) → Each ws (given c)
  each-given c h e = by_cases (variable c)
      (λ v. rw v (each_part ws us (rank vs c) (omega (arith, h v)) e))
      (λ v. rw v ((λ z. let q : ◌≡◌ {A = ℕ} 0 1 = cc in absurd (omega arith)), tt))

  each-replaced : (cs : List ℕ) → Each vs cs → Each ws (every pairs us) → Each ws (replaced vs (map pairs us) cs)
  unfolding replaced
  each-replaced [] h e = tt
  each-replaced (c ∷ cs) h e = each_both ws (given c) (replaced vs (map pairs us) cs) (each-given c h.0 e) (each-replaced cs h.1 e)

-- ---- instances of forms

module _ (arity : ℕ → ℕ) (form : StoredForm) (laws : StoredLaws arity form) (term terms : List ℕ) (m : ℕ) (one : Legal arity 1 term) (many : Legal arity m terms) (count : length (met [] term) ≡ m) where
  abbrev vs : List ℕ
  vs = met [] term

  abbrev ws : List ℕ
  ws = met [] terms

  -- the terms as given
  abbrev us : List Term
  us = reads (shape_of arity) terms

  form-instance : (coded_as arity form).instance_of (form.form term) (form.form terms) ≡ map (renamed ws) (replaced vs (map pairs us) term)
  form-instance =
      let stored-terms : form.terms (form.form terms) ≡ map (mapped (renamed ws)) us =
      form-terms arity form laws m terms many ∙ numbered-reads arity terms many.cells in
      let f = laws.demand.stored 1 term one in
      let x : ExactTerms arity form 1 (form.form term) = laws.exact-terms 1 (form.form term) (laws.legal-exact 1 (form.form term) f.0) in
      let stored-term : every pairs (form.terms (form.form term)) ≡ map (renamed vs) term = sym x.cells ∙ (unfold numbered in f.1) in
      substituted-every (form.terms (form.form terms)) (form.terms (form.form term))
      ∙ ap (spread (form.terms (form.form terms))) stored-term
      ∙ ap (λ (l : List Term). spread l (map (renamed vs) term)) stored-terms
      ∙ spread-numbered vs ws us one.variables ((terms-pairs arity m terms many.terms).0 ∙ sym count) term (each-met term [])

  pub instance-given : (coded_as arity form).instance_of (form.form term) (form.form terms) ≡ instantiated arity term terms
  unfolding instantiated term_cells
  instance-given =
      let as_many : length us ≡ length vs = (terms-pairs arity m terms many.terms).0 ∙ sym count in
      let inside : Each ws (every pairs us) = rw (← (terms-pairs arity m terms many.terms).1) (each-met terms []) in
      let variables : length (met [] (form.form term)) ≡ m = form-variables arity form laws 1 term one ∙ count in
      let numbers = (stored-laws arity form laws).instance-numbered (form.form term) (form.form terms) (laws.demand.stored 1 term one).0 (rw variables (laws.demand.stored m terms many).0) in
      sym numbers ∙ ap numbered form-instance
      ∙ numbered-renamed ws (replaced vs (map pairs us) term) (omega (arith, many.variables))
      (each-replaced vs ws us one.variables as_many term (each-met term []) inside)

-- ---- calls that give a number

module _ (c : Coding) (cs : List ℕ) where
  -- subgoal i has the form that the lent cells were read to
  abbrev Calls : Table → ℕ → Type 0
  Calls t i = (w : Word) × (m : ℕ) × (c.called cs ≡ accepted w m) × Called t w i

  abbrev CallGives : Result Table → Type 0
  CallGives r = (i : ℕ) → Gives i r.reply → Calls r.state i

  called-gives : (t : Table) (r : Reading) → c.called cs ≡ r → CallGives (called t r)
  called-gives t (refused k) e = unfold called in λ i h. absurd h
  called-gives t (accepted w m) e =
      called-cases CallGives t w m (λ s k i h. rw (← h) (w, m, e, k))
      (λ absent. appended-cases CallGives t (with_subgoal t w m) (ltb (length t.subgoals) t.F) (suc (length t.subgoals)) (λ full i h. absurd h) (λ room full i h. absurd h)
      (λ room free i h. rw (← h) (w, m, e, record { low = omega arith; high = omega (arith, subgoals-count t w m); form = ap (λ (g : Subgoal). g.form) (subgoal_at-new t w m) })))

  call-gives : (t : Table) → CallGives (step c t (call cs))
  unfolding step
  call-gives t = rw (naming-none (c.called cs)) (called-gives t (c.called cs) refl)

  calls-grow : (t u : Table) (i : ℕ) → Grows t u → Calls t i → Calls u i
  calls-grow t u i g k =
      (k.0, k.1, k.2, record { low = k.3.low; high = omega (arith, k.3.high, g.more-subgoals); form = (g.subgoals i k.3.high).form ∙ k.3.form })

  -- answer i to subgoal s has the form that the lent cells were read to, with the subgoal's m
  abbrev Answers : ℕ → Table → ℕ → Type 0
  Answers s t i = (w : Word) × (n : ℕ) × (c.answered (subgoal_at t s).m cs ≡ accepted w n) × Given t s w i × (s ≤ length t.subgoals)

  abbrev AnswerGives : ℕ → Result Table → Type 0
  AnswerGives s r = (i : ℕ) → Gives i r.reply → Answers s r.state i

  answered-gives : (t : Table) (s : ℕ) → 0 < s → s ≤ length t.subgoals → (r : Reading) → c.answered (subgoal_at t s).m cs ≡ r → AnswerGives s (answered t s r)
  answered-gives t s low q (refused k) e = unfold answered in λ i h. absurd h
  answered-gives t s low q (accepted w n) e =
      let at_entry : answer_at (with_entry t s w) (suc (length t.answers)) ≡ record { subgoal = s; form = w } =
      settled-answer_at (with_answer t s w) s (suc (length t.answers)) ∙ answer_at-new t s w in
      answered-cases (AnswerGives s) t s w n (λ a k i h. rw (← h) (w, n, e, k, q)) (λ absent fin i h. absurd h)
      (λ absent is_open. appended-cases (AnswerGives s) t (with_entry t s w) (ltb (length t.answers) t.A) (suc (length t.answers)) (λ full i h. absurd h) (λ room full i h. absurd h)
      (λ room free i h. rw (← h) (
        w,
        n,
        ap (λ (m : ℕ). c.answered m cs) (entry-lasts t s w low q s).m ∙ e,
        record {
          low = omega arith;
          high = omega (arith, entry-count t s w);
          subgoal = ap (λ (a : Answer). a.subgoal) at_entry;
          form = ap (λ (a : Answer). a.form) at_entry;
        },
        omega (arith, entry-subgoals t s w, q),
      )))

  answer-gives : (t : Table) (s : ℕ) → AnswerGives s (step c t (answer s cs))
  unfolding step
  answer-gives t s =
      known-cases (AnswerGives s) t [] (length t.subgoals) s _ (λ i h. absurd h)
      (λ low high. answered-gives t s low high (c.answered (subgoal_at t s).m cs) refl)

  answers-grow : (t u : Table) (s i : ℕ) → Grows t u → Answers s t i → Answers s u i
  answers-grow t u s i g k =
      let same : answer_at u i ≡ answer_at t i = g.answers i k.3.high in (
        k.0,
        k.1,
        ap (λ (m : ℕ). c.answered m cs) (g.subgoals s k.4).m ∙ k.2,
        record {
          low = k.3.low;
          high = omega (arith, k.3.high, g.more-answers);
          subgoal = ap (λ (a : Answer). a.subgoal) same ∙ k.3.subgoal;
          form = ap (λ (a : Answer). a.form) same ∙ k.3.form;
        },
        omega (arith, k.4, g.more-subgoals),
      )

-- ---- among the calls of a list

pub left-append : (c : Coding) (t : Table) (xs ys : List Request) → left (step c) t (xs ++ ys) ≡ left (step c) (left (step c) t xs) ys
unfolding left
left-append c t [] ys = refl
left-append c t (q ∷ xs) ys = left-append c (step c t q).state xs ys

module _ (c : Coding) (n f a : ℕ) (calls : List Request) (q : Request) (i : ℕ) (got : Got c n f a calls q i) where
  -- the table that the call found
  abbrev found : Table
  found = reached c n f a got.before

  got-grows : Grows (step c found q).state (reached c n f a calls)
  unfolding left
  got-grows = rw (got.listed, left-append c (fresh n f a) got.before (q ∷ got.behind)) (left-grows c (step c found q).state got.behind)

instance-writes : (c : Coding) (t : Table) (b : ℕ) (ks out : List ℕ) → 0 < b → b ≤ length t.answers
    → c.instance_of (subgoal_at t (subgoal_of_answer t b)).form (answer_at t b).form ≡ ks → step c t (instance b out) ≡ writes t ks out
unfolding step
instance-writes c t b ks out low high e = rw (lt-ltb 0 b low, le-leb b (length t.answers) high, e)

pub instancing : (arity : ℕ → ℕ) (form : StoredForm) → StoredLaws arity form → Instancing arity form
instancing arity form laws n f a pos calls term terms s b out got-s got-b =
    let c : Coding = coded_as arity form in
    let t : Table = reached c n f a calls in
    let x = calls-grow c term _ t s (got-grows c n f a calls (call term) s got-s) (call-gives c term (reached c n f a got-s.before) s got-s.gives) in
    let y = answers-grow c terms _ t s b (got-grows c n f a calls (answer s terms) b got-b) (answer-gives c terms (reached c n f a got-b.before) s b got-b.gives) in
    let m : ℕ = (subgoal_at t s).m in
    let p = called-form arity form laws term x.0 x.1 x.2 in
    let q = answered-form arity form laws m terms y.0 y.1 y.2 in
    let held = (sound-reached c (stored-laws arity form laws) n f a pos calls).called s x.3.low x.3.high in
    let count : length (met [] (subgoal_at t s).form) ≡ m = held.1 in
    let held-form : (subgoal_at t s).form ≡ form.form term = x.3.form ∙ sym p.2 in
    let variables : length (met [] term) ≡ m = sym (form-variables arity form laws 1 term p.0) ∙ ap (λ (l : Word). length (met [] l)) (sym held-form) ∙ count in
    instance-writes c t b (instantiated arity term terms) out y.3.low y.3.high
    (ap (λ (k : ℕ). c.instance_of (subgoal_at t k).form (answer_at t b).form) y.3.subgoal
    ∙ ap (λ (w : Word). c.instance_of w (answer_at t b).form) held-form
    ∙ ap (λ (w : Word). c.instance_of (form.form term) w) (y.3.form ∙ sym q.1)
    ∙ instance-given arity form laws term terms m p.0 q.0 variables)
