-- What follows for every list of calls (specs/Consequences.antt): variants, loading, finishing, the numbering of instances; then all of it.
use mathlib.Core.Path.{◌≡◌, refl, sym, ap, ◌∙◌}
use mathlib.Core.Bool.{true≢false}
use mathlib.Core.List.{List, []}
use mathlib.Core.Logic.{inl, inr}
use Prim.Native.Nat.{ℕ, suc, ◌≤◌, ◌<◌}
use native.Mathlib.Omega.{arith}
use lib.Dec.{leb, ltb}
use lib.ListN.{length, take, drop}
use lib.Seq.{take-append_seam}
use borrow.Author.Tests.{ne_eqb, lt-ltb, le-leb, leb-true, leb-false}
use Rattle.basis.proofs.Cases.{by_cases}
use Rattle.forms.specs.Numbering.{numbered}
use Rattle.plain.specs.Words.{Word, has}
use Rattle.plain.specs.Coding.{Coding, Reading, refused, accepted, compact_coding, pair_coding}
use Rattle.plain.specs.CodingLaws.{CodingLaws}
use Rattle.plain.specs.Requests.{Finished, call, answer, finish, load, instance, new, done, cells, refused, Result, left}
use Rattle.plain.specs.Table.{Table, Subgoal, Answer, subgoal_at, answer_at, subgoal_of_answer, answers_to, answer_of, with_subgoal, with_answer, with_entry, called, answered, writes, step}
use Rattle.plain.specs.Consequences.{Gives, OldOrRefused, Kept, reached, Calling, Answering, Loading, Finishing, Repeating, FinishedBy, Numbering, Consequences}
use Rattle.plain.proofs.NumberLaws.{Given, answer_of-none, answer_of-some}
use Rattle.plain.proofs.EnteringLaws.{given-held}
use Rattle.plain.proofs.RecordLaws.{subgoal_at-new, subgoals-count, answer_at-new, subgoal_at-finished, finished-count, settled-answer_at, entry-count, entry-subgoals, entry-lasts, entry-own}
use Rattle.plain.proofs.Changes.{known-cases, appended-cases, called-cases, answered-cases, writes-cases, refusing, refusing-by}
use Rattle.plain.proofs.StoredCoding.{compact-laws, pair-laws}
use Rattle.plain.proofs.Growth.{Grows, grows-trans, step-grows, left-grows}
use Rattle.plain.proofs.Soundness.{Sound, sound-step, sound-left, sound-reached, keeping}
use Rattle.plain.proofs.NextLaws.{visiting}
use Rattle.plain.proofs.Endings.{Silent, left-silent, ending}
use Rattle.plain.proofs.JoinLaws.{join-given}
use Rattle.plain.proofs.JoinRefusals.{join-refusing}
use Rattle.plain.proofs.Naming.{naming-none}

-- ---- calls that give a number

module _ (c : Coding) (cs : List ℕ) where
  -- subgoal i has the form that the lent cells were read to
  pub record Stores (t : Table) (i : ℕ) : Type 0 where
    pub form : Word
    pub m : ℕ
    pub reading : c.called cs ≡ accepted form m
    pub low : 0 < i
    pub high : i ≤ length t.subgoals
    pub stored : (subgoal_at t i).form ≡ form

  abbrev CallStores : Result Table → Type 0
  CallStores r = (i : ℕ) → Gives i r.reply → Stores r.state i

  called-stores : (t : Table) (r : Reading) → c.called cs ≡ r → CallStores (called t r)
  called-stores t (refused k) e = unfold called in λ i h. absurd h
  called-stores t (accepted w m) e =
      called-cases CallStores t w m
      (λ s k i h. rw (← h) (record { form = w; m = m; reading = e; low = k.low; high = k.high; stored = k.form }))
      (λ absent. appended-cases CallStores t (with_subgoal t w m) (ltb (length t.subgoals) t.F) (suc (length t.subgoals)) (λ full i h. absurd h) (λ room full i h. absurd h)
      (λ room free i h. rw (← h) (record {
        form = w;
        m = m;
        reading = e;
        low = omega arith;
        high = omega (arith, subgoals-count t w m);
        stored = ap (λ (g : Subgoal). g.form) (subgoal_at-new t w m);
      })))

  call-stores : (t : Table) → CallStores (step c t (call cs))
  unfolding step
  call-stores t = rw (naming-none (c.called cs)) (called-stores t (c.called cs) refl)

  -- answer i to subgoal s has the form that the lent cells were read to
  pub record Holds (t : Table) (s i : ℕ) : Type 0 where
    pub form : Word
    pub n : ℕ
    pub known : 0 < s
    pub reading : c.answered (subgoal_at t s).m cs ≡ accepted form n
    pub low : 0 < i
    pub high : i ≤ length t.answers
    pub subgoal : subgoal_of_answer t i ≡ s
    pub stored : (answer_at t i).form ≡ form
    pub among : s ≤ length t.subgoals

  abbrev AnswerHolds : ℕ → Result Table → Type 0
  AnswerHolds s r = (i : ℕ) → Gives i r.reply → Holds r.state s i

  answered-holds : (t : Table) (s : ℕ) → 0 < s → s ≤ length t.subgoals → (r : Reading) → c.answered (subgoal_at t s).m cs ≡ r → AnswerHolds s (answered t s r)
  answered-holds t s p q (refused k) e = unfold answered in λ i h. absurd h
  answered-holds t s p q (accepted w n) e =
      answered-cases (AnswerHolds s) t s w n
      (λ a g i h. rw (← h) (record { form = w; n = n; known = p; reading = e; low = g.low; high = g.high; subgoal = g.subgoal; stored = g.form; among = q }))
      (λ absent fin i h. absurd h)
      (λ absent is_open. appended-cases (AnswerHolds s) t (with_entry t s w) (ltb (length t.answers) t.A) (suc (length t.answers)) (λ full i h. absurd h) (λ room full i h. absurd h)
      (λ room free i h. rw (← h) (record {
        form = w;
        n = n;
        known = p;
        reading = rw (entry-lasts t s w p q s).m e;
        low = omega arith;
        high = omega (arith, entry-count t s w);
        subgoal = ap (λ (a : Answer). a.subgoal) (settled-answer_at (with_answer t s w) s _ ∙ answer_at-new t s w);
        stored = ap (λ (a : Answer). a.form) (settled-answer_at (with_answer t s w) s _ ∙ answer_at-new t s w);
        among = omega (arith, entry-subgoals t s w);
      })))

  answer-holds : (t : Table) (s : ℕ) → AnswerHolds s (step c t (answer s cs))
  unfolding step
  answer-holds t s =
      known-cases (AnswerHolds s) t [] (length t.subgoals) s _ (λ i h. absurd h)
      (λ low high. answered-holds t s low high (c.answered (subgoal_at t s).m cs) refl)

-- and this lasts
stores-grows : (c : Coding) (cs : List ℕ) (t u : Table) (i : ℕ) → Grows t u → Stores c cs t i → Stores c cs u i
stores-grows c cs t u i g k = record {
  form = k.form;
  m = k.m;
  reading = k.reading;
  low = k.low;
  high = omega (arith, k.high, g.more-subgoals);
  stored = (g.subgoals i k.high).form ∙ k.stored;
}

holds-grows : (c : Coding) (cs : List ℕ) (t u : Table) (s i : ℕ) → Grows t u → Holds c cs t s i → Holds c cs u s i
holds-grows c cs t u s i g k = record {
  form = k.form;
  n = k.n;
  known = k.known;
  reading = ap (λ (m : ℕ). c.answered m cs) (g.subgoals s k.among).m ∙ k.reading;
  low = k.low;
  high = omega (arith, k.high, g.more-answers);
  subgoal = ap (λ (a : Answer). a.subgoal) (g.answers i k.high) ∙ k.subgoal;
  stored = ap (λ (a : Answer). a.form) (g.answers i k.high) ∙ k.stored;
  among = omega (arith, k.among, g.more-subgoals);
}

-- ---- variants

pub calling : (c : Coding) → CodingLaws c → Calling c
calling c laws n f a pos before between cs ds i j h k =
    let t : Table = reached c n f a before in
    let t₁ : Table = (step c t (call cs)).state in
    let u : Table = left (step c) t₁ between in
    let u₁ : Table = (step c u (call ds)).state in
    let g : Grows t₁ u₁ = grows-trans t₁ u u₁ (left-grows c t₁ between) (step-grows c u (call ds)) in
    let x = stores-grows c cs t₁ u₁ i g (call-stores c cs t i h) in
    let y = call-stores c ds u j k in
    let sound : Sound c u₁ = sound-step c laws u (call ds) (sound-left c laws t₁ (sound-step c laws t (call cs) (sound-reached c laws n f a pos before)) between) in (
      (λ e.
          let w : x.form ≡ y.form = sym x.stored ∙ ap (λ (s : ℕ). (subgoal_at u₁ s).form) e ∙ y.stored in
          sym (laws.called-expands cs x.form x.m x.reading) ∙ ap (λ (v : Word). c.expand v) w ∙ laws.called-expands ds y.form y.m y.reading),
      (λ e. sound.kept.subgoals-differ i j x.low x.high y.low y.high
          (x.stored ∙ laws.called-variants cs ds x.form y.form x.m y.m x.reading y.reading e ∙ sym y.stored)),
    )

pub answering : (c : Coding) → CodingLaws c → Answering c
answering c laws n f a pos before between s cs ds i j h k =
    let t : Table = reached c n f a before in
    let t₁ : Table = (step c t (answer s cs)).state in
    let u : Table = left (step c) t₁ between in
    let u₁ : Table = (step c u (answer s ds)).state in
    let g : Grows t₁ u₁ = grows-trans t₁ u u₁ (left-grows c t₁ between) (step-grows c u (answer s ds)) in
    let x = holds-grows c cs t₁ u₁ s i g (answer-holds c cs t s i h) in
    let y = answer-holds c ds u s j k in
    let m : ℕ = (subgoal_at u₁ s).m in
    let sound : Sound c u₁ = sound-step c laws u (answer s ds) (sound-left c laws t₁ (sound-step c laws t (answer s cs) (sound-reached c laws n f a pos before)) between) in (
      (λ e.
          let w : x.form ≡ y.form = sym x.stored ∙ ap (λ (b : ℕ). (answer_at u₁ b).form) e ∙ y.stored in
          sym (laws.answered-expands m cs x.form x.n x.reading) ∙ ap (λ (v : Word). c.expand v) w ∙ laws.answered-expands m ds y.form y.n y.reading),
      (λ e. sound.kept.answers-differ i j x.low x.high y.low y.high (x.subgoal ∙ sym y.subgoal)
          (x.stored ∙ laws.answered-variants m cs ds x.form y.form x.n y.n x.reading y.reading e ∙ sym y.stored)),
    )

-- ---- loading

load-writes : (c : Coding) (u : Table) (n : ℕ) (ks out : List ℕ) → 0 < n → n ≤ length u.answers → c.expand (answer_at u n).form ≡ ks → step c u (load n out) ≡ writes u ks out
unfolding step
load-writes c u n ks out low high e = rw (lt-ltb 0 n low, le-leb n (length u.answers) high, e)

pub loading : (c : Coding) → CodingLaws c → Loading c
loading c laws t s i cs between out h =
    let t₁ : Table = (step c t (answer s cs)).state in
    let u : Table = left (step c) t₁ between in
    let k = holds-grows c cs t₁ u s i (left-grows c t₁ between) (answer-holds c cs t s i h) in
    load-writes c u i (numbered cs) out k.low k.high
    (ap (λ (v : Word). c.expand v) k.stored ∙ laws.answered-expands (subgoal_at u s).m cs k.form k.n k.reading)

-- ---- finishing

finish-holds : (c : Coding) (t : Table) (s : ℕ) → (step c t (finish s)).reply ≡ done
    → (0 < s) × (s ≤ length (step c t (finish s)).state.subgoals) × ((subgoal_at (step c t (finish s)).state s).state ≡ Finished)
unfolding step
finish-holds c t s =
    known-cases (λ r. r.reply ≡ done → (0 < s) × (s ≤ length r.state.subgoals) × ((subgoal_at r.state s).state ≡ Finished)) t [] (length t.subgoals) s _
    (λ e. let z : ◌≡◌ {A = ℕ} 0 1 = cc in absurd (omega arith))
    (λ low high e. (low, omega (arith, finished-count t s), ap (λ (g : Subgoal). g.state) (subgoal_at-finished t s low high)))

-- an answer to a finished subgoal
module _ (c : Coding) (laws : CodingLaws c) (u : Table) (s : ℕ) (fin : (subgoal_at u s).state ≡ Finished) where
  abbrev Settles : Result Table → Type 0
  Settles r = (r.state ≡ u) × OldOrRefused r.reply

  answered-settles : (ks : List ℕ) (x : Reading) → c.answered (subgoal_at u s).m ks ≡ x → Settles (answered u s x)
  answered-settles ks (refused r) e = unfold answered in (refl, inr (r, refl, inl (laws.answered-refused (subgoal_at u s).m ks r e)))
  answered-settles ks (accepted w n) e = answered-cases Settles u s w n
      (λ a g. (refl, inl (a, refl)))
      (λ absent f. (refl, inr (8, refl, inr refl)))
      (λ absent o. let z : ◌≡◌ {A = ℕ} 0 1 = cc in absurd (omega arith))

  answer-settles : (ks : List ℕ) → 0 < s → s ≤ length u.subgoals → Settles (step c u (answer s ks))
  unfolding step
  answer-settles ks low high = rw (lt-ltb 0 s low, le-leb s (length u.subgoals) high) (answered-settles ks (c.answered (subgoal_at u s).m ks) refl)

pub finishing : (c : Coding) → CodingLaws c → Finishing c
finishing c laws t s cs qs low high fin =
    let u : Table = left (step c) t qs in
    let g : Grows t u = left-grows c t qs in
    let f : (subgoal_at u s).state ≡ Finished = (g.subgoals s high).finished fin in
    let k = answer-settles c laws u s f cs low (omega (arith, high, g.more-subgoals)) in
    (f, k.0, k.1)

-- the same answers are held, so the same is said
module _ (t u : Table) (s : ℕ) (low : 0 < s) (high : s ≤ length t.subgoals) (g : Grows t u) (quiet : Silent s t u) (fin : (subgoal_at t s).state ≡ Finished) (kept : Kept u) where
  fin-later : (subgoal_at u s).state ≡ Finished
  fin-later = (g.subgoals s high).finished fin

  -- an answer that is held later was held before
  held-before : (w : Word) (a : ℕ) → Given u s w a → Given t s w a
  held-before w a k = by_cases (leb a (length t.answers))
      (λ q. let h : a ≤ length t.answers = leb-true _ _ q in
      let e = g.answers a h in
      record { low = k.low; high = h; subgoal = ap (λ (y : Answer). y.subgoal) (sym e) ∙ k.subgoal; form = ap (λ (y : Answer). y.form) (sym e) ∙ k.form })
      (λ q. absurd (quiet a (leb-false _ _ q) k.high k.subgoal))

  answered-again : (x : Reading) → (answered u s x).reply ≡ (answered t s x).reply
  unfolding answered
  answered-again (refused r) = refl
  answered-again (accepted w n) = by_cases (has (answers_to t.answers s) w)
      (λ h.
      let a = answer_of-some t s w h in
      let i : ℕ = answer_of t s w in
      let e = g.answers i a.high in
      let later : Given u s w i = record { low = a.low; high = omega (arith, a.high, g.more-answers); subgoal = ap (λ (y : Answer). y.subgoal) e ∙ a.subgoal; form = ap (λ (y : Answer). y.form) e ∙ a.form } in
      let b = answer_of-some u s w (given-held u s w i later) in
      let j : ℕ = answer_of u s w in
      let same : j ≡ i = kept.answers-differ j i b.low b.high later.low later.high (b.subgoal ∙ sym later.subgoal) (b.form ∙ sym later.form) in
      rw (same, ne_eqb i 0 (λ z. omega (arith, a.low))))
      (λ h. by_cases (has (answers_to u.answers s) w)
      (λ k. absurd (true≢false (sym (given-held t s w (answer_of u s w) (held-before w (answer_of u s w) (answer_of-some u s w k))) ∙ h)))
      (λ k. rw (answer_of-none t s w h, answer_of-none u s w k, fin, fin-later)))

  answer-again : (c : Coding) (ks : List ℕ) → (step c u (answer s ks)).reply ≡ (step c t (answer s ks)).reply
  unfolding step
  answer-again c ks =
      rw (lt-ltb 0 s low, le-leb s (length t.subgoals) high, le-leb s (length u.subgoals) (omega (arith, g.more-subgoals)), (g.subgoals s high).m) (answered-again (c.answered (subgoal_at t s).m ks))

pub repeating : (c : Coding) → CodingLaws c → Repeating c
repeating c laws n f a pos before between s cs low high fin =
    let t : Table = reached c n f a before in
    let u : Table = left (step c) t between in
    answer-again t u s low high (left-grows c t between) (left-silent c s t between high fin) fin (sound-left c laws t (sound-reached c laws n f a pos before) between).kept c cs

-- what finishes

module _ (c : Coding) (t : Table) (s : ℕ) (low : 0 < s) (high : s ≤ length t.subgoals) (ground : (subgoal_at t s).m ≡ 0) where
  abbrev Finishes : Result Table → Type 0
  Finishes r = (i : ℕ) → r.reply ≡ new i → (subgoal_at r.state s).state ≡ Finished

  answered-finishes : (x : Reading) → Finishes (answered t s x)
  answered-finishes (refused r) = unfold answered in λ i e. let z : ◌≡◌ {A = ℕ} 0 1 = cc in absurd (omega arith)
  answered-finishes (accepted w n) = answered-cases Finishes t s w n
      (λ a g i e. let z : ◌≡◌ {A = ℕ} 0 1 = cc in absurd (omega arith))
      (λ absent f i e. let z : ◌≡◌ {A = ℕ} 0 1 = cc in absurd (omega arith))
      (λ absent o. appended-cases Finishes t (with_entry t s w) (ltb (length t.answers) t.A) (suc (length t.answers))
      (λ full i e. let z : ◌≡◌ {A = ℕ} 0 1 = cc in absurd (omega arith))
      (λ room full i e. let z : ◌≡◌ {A = ℕ} 0 1 = cc in absurd (omega arith))
      (λ room free i e. ap (λ (y : Subgoal). y.state) (entry-own t s w low high) ∙ rw ground))

answer-finishes : (c : Coding) (t : Table) (s : ℕ) (cs : List ℕ) (i : ℕ) → (subgoal_at t s).m ≡ 0 → (step c t (answer s cs)).reply ≡ new i → (subgoal_at (step c t (answer s cs)).state s).state ≡ Finished
unfolding step
answer-finishes c t s cs i ground = known-cases (λ r. r.reply ≡ new i → (subgoal_at r.state s).state ≡ Finished) t [] (length t.subgoals) s _
    (λ e. let z : ◌≡◌ {A = ℕ} 0 1 = cc in absurd (omega arith))
    (λ low high. answered-finishes c t s low high ground (c.answered (subgoal_at t s).m cs) i)

pub finished-by : (c : Coding) → FinishedBy c
finished-by c t s = ((λ e. (finish-holds c t s e).2), (λ cs i ground e. answer-finishes c t s cs i ground e))

-- ---- instances

module _ (c : Coding) (laws : CodingLaws c) (t : Table) (sound : Sound c t) where
  instance-cells : (b : ℕ) → 0 < b → b ≤ length t.answers
      → (let ks = c.instance_of (subgoal_at t (subgoal_of_answer t b)).form (answer_at t b).form in numbered ks ≡ ks)
  instance-cells b low high =
      let s : ℕ = subgoal_of_answer t b in
      let k = sound.kept.answered b low high in
      let f = sound.called s k.0 k.1 in
      laws.instance-numbered (subgoal_at t s).form (answer_at t b).form f.0 (rw f.1 (sound.answered b low high))

  abbrev Numbers : Result Table → Type 0
  Numbers r = (k : ℕ) → r.reply ≡ cells k → numbered (take k r.out) ≡ take k r.out

  writes-numbers : (ks out : List ℕ) → numbered ks ≡ ks → Numbers (writes t ks out)
  writes-numbers ks out e =
      writes-cases Numbers t ks out (λ k h. let z : ◌≡◌ {A = ℕ} 0 1 = cc in absurd (omega arith))
      (λ fits k h. let z : length ks ≡ k = cc in rw (← z, take-append_seam ks (drop (length ks) out)) e)

  instance-numbers : (b : ℕ) (out : List ℕ) → Numbers (step c t (instance b out))
  unfolding step
  instance-numbers b out =
      known-cases Numbers t out (length t.answers) b _ (λ k h. let z : ◌≡◌ {A = ℕ} 0 1 = cc in absurd (omega arith))
      (λ low high. writes-numbers (c.instance_of (subgoal_at t (subgoal_of_answer t b)).form (answer_at t b).form) out (instance-cells b low high))

pub numbering : (c : Coding) → CodingLaws c → Numbering c
numbering c laws n f a h qs b k out e = instance-numbers c laws (reached c n f a qs) (sound-reached c laws n f a h qs) b out k e

-- ---- all of it, for every coding that meets the laws, and so for compact form

pub consequences : (c : Coding) → CodingLaws c → Consequences c
consequences c laws = record {
  refusing = refusing c;
  refusing-by = refusing-by c laws;
  visiting = visiting c;
  ending = ending c;
  calling = calling c laws;
  answering = answering c laws;
  loading = loading c laws;
  finishing = finishing c laws;
  repeating = repeating c laws;
  finished-by = finished-by c;
  joining = join-given c laws;
  join-refusing = join-refusing c laws;
  keeping = keeping c laws;
  numbering = numbering c laws;
}

pub compact-consequences : (arity : ℕ → ℕ) → Consequences (compact_coding arity)
compact-consequences arity = consequences (compact_coding arity) (compact-laws arity)

pub pair-consequences : (arity : ℕ → ℕ) → Consequences (pair_coding arity)
pair-consequences arity = consequences (pair_coding arity) (pair-laws arity)
