-- Arrival order (specs/Order.antt): what tables load that differ in answer numbers alone; one exchange; lists of calls.
use mathlib.Core.Path.{◌≡◌, refl, sym, ap, ◌∙◌, subst}
use mathlib.Core.Bool.{Bool, true, false, true≢false}
use mathlib.Core.List.{List, [], ◌∷◌, ◌++◌, map}
use Prim.Native.Nat.{ℕ, zero, suc, ◌+◌, ◌≤◌, ◌<◌}
use native.Mathlib.Omega.{arith}
use lib.Dec.{eqb, leb, ltb}
use lib.ListN.{length, get_or, drop}
use lib.Seq.{ext_get_or}
use borrow.Author.Tests.{eqb-true, eqb-false, ne_eqb, lt-ltb, le-leb, ltb-true}
use Rattle.basis.specs.Choice.{pick}
use Rattle.basis.proofs.Cases.{by_cases}
use Rattle.plain.specs.Words.{Word, has, distinct}
use Rattle.plain.specs.Coding.{Coding, Reading, refused, accepted}
use Rattle.plain.specs.Requests.{State, Open, Request, answer, load, instance, Reply, new, old_answer, refused, cells}
use Rattle.plain.specs.Requests.{short, Counts, Result, Seen, trace, left}
use Rattle.plain.specs.Table.{Table, Subgoal, Answer, fresh, no_subgoal, no_answer, subgoal_at, answer_at, subgoal_of_answer, answers_to}
use Rattle.plain.specs.Table.{answer_nodes, nodes, counted, answer_of, with_answer, with_entry, fits, appended}
use Rattle.plain.specs.Table.{answered, writes, step, table_trace}
use Rattle.plain.specs.Consequences.{numbers_of, Visits, reached}
use Rattle.plain.specs.Order.{Accepted, Exchangeable, Exchanged, unchanged, exchange, behind, again, unnumbered}
use Rattle.plain.specs.Order.{compared, concerns, Heard, heard}
use Rattle.plain.specs.Order.{loads_of, instances_of, HandsOut, SameAnswers, SameButNumbers, OtherOrder, Rearranged}
use Rattle.plain.specs.Order.{Renumbered, PlainArrivalOrder}
use Rattle.plain.proofs.NumberLaws.{answer_of-none, answer_of-some}
use Rattle.plain.proofs.PrefixLaws.{distinct_snoc}
use Rattle.plain.proofs.Changes.{known-cases, open-cases, appended-cases}
use Rattle.plain.proofs.RecordLaws.{answers-count, finished-forms, finished-count, closing, settled-cases, settled-rooms, entry-answers, entry-count, entry-subgoals, entry-nodes, entry-apart, entry-own}
use Rattle.plain.proofs.Counted.{answers_to-same, answers_to-other}
use Rattle.plain.proofs.NextLaws.{visiting}
use Rattle.plain.proofs.Renumbering.{renumbered-refl, renumbered-trans, nodes-alike, Parallel, load-leaves}
use Rattle.plain.proofs.Renumbering.{instance-leaves, step-parallel}

-- ---- loads

-- what is seen where these cells are written, or do not fit
unfoldable shown : Counts → List ℕ → List ℕ → Seen
shown k cs out =
    pick (leb (length cs) (length out)) (record { reply = cells (length cs); counted = k; out = cs ++ drop (length cs) out })
    (record { reply = short (length cs); counted = k; out = out })

trace-one : {S : Type 0} (step : S → Request → Result S) (count : S → Counts) (s : S) (q : Request) (qs : List Request)
    → trace step count s (q ∷ qs) ≡ record { reply = (step s q).reply; counted = count (step s q).state; out = (step s q).out } ∷ trace step count (step s q).state qs
unfolding trace
trace-one step count s q qs = refl

-- what is seen of one call on the table
abbrev seen_of : Result Table → Seen
seen_of r = record { reply = r.reply; counted = counted r.state; out = r.out }

writes-shown : (t : Table) (cs out : List ℕ) → seen_of (writes t cs out) ≡ shown (counted t) cs out
unfolding writes shown
writes-shown t cs out = by_cases (leb (length cs) (length out)) (λ e. rw e) (λ e. rw e)

module _ (c : Coding) (t : Table) (s : ℕ) (out : List ℕ) (ask : ℕ → Request) (cells_of : Word → List ℕ)
    (gives : (b : ℕ) → 0 < b → b ≤ length t.answers → subgoal_of_answer t b ≡ s → step c t (ask b) ≡ writes t (cells_of (answer_at t b).form) out)
    (leaves : (b : ℕ) → (step c t (ask b)).state ≡ t) where
  -- the answers from number n on are those of the list
  abbrev Behind : ℕ → List Answer → Type 0
  Behind n l = (i : ℕ) → i < length l → answer_at t (n + i) ≡ get_or l i no_answer

  asked : (n : ℕ) (l : List Answer) → 0 < n → n + length l ≤ suc (length t.answers) → Behind n l
      → table_trace c t (map ask (numbers_of s n l)) ≡ map (λ w. shown (counted t) (cells_of w) out) (answers_to l s)
  unfolding numbers_of answers_to
  asked n [] pos fits h = unfold trace in refl
  asked n (a ∷ l) pos fits h =
      let here : answer_at t n ≡ a = subst (λ (i : ℕ). answer_at t i ≡ a) (plus n) (h 0 (omega arith)) in
      let more : table_trace c t (map ask (numbers_of s (suc n) l)) ≡ map (λ w. shown (counted t) (cells_of w) out) (answers_to l s) =
      asked (suc n) l (omega arith) (omega arith) (λ i k. subst (λ (j : ℕ). answer_at t j ≡ get_or l i no_answer) (moved n i) (h (suc i) (omega arith))) in
      by_cases (eqb a.subgoal s)
      (λ e.
      let r = gives n pos (omega arith) (ap (λ (x : Answer). x.subgoal) here ∙ eqb-true a.subgoal s e) in
      rw e (
      trace-one (step c) counted t (ask n) (map ask (numbers_of s (suc n) l))
      ∙ ap (λ (x : Seen). x ∷ table_trace c (step c t (ask n)).state (map ask (numbers_of s (suc n) l)))
      (ap seen_of r ∙ writes-shown t (cells_of (answer_at t n).form) out ∙ ap (λ (x : Answer). shown (counted t) (cells_of x.form) out) here)
      ∙ ap (λ (u : Table). shown (counted t) (cells_of a.form) out ∷ table_trace c u (map ask (numbers_of s (suc n) l))) (leaves n)
      ∙ ap (λ (xs : List Seen). shown (counted t) (cells_of a.form) out ∷ xs) more))
      (λ e. rw e more)
    where
      plus : (n : ℕ) → n + 0 ≡ n
      plus n = omega arith

      moved : (n i : ℕ) → n + suc i ≡ suc n + i
      moved n i = omega arith

  asked-all : table_trace c t (map ask (numbers_of s 1 t.answers)) ≡ map (λ w. shown (counted t) (cells_of w) out)
      (answers_to t.answers s)
  asked-all = asked 1 t.answers (omega arith) (omega arith) (λ i h. subst (λ (j : ℕ). answer_at t j ≡ get_or t.answers i no_answer) (first i) (unfold answer_at in refl))
    where
      first : (i : ℕ) → suc i ≡ 1 + i
      first i = omega arith

load_gives : (c : Coding) (t : Table) (b : ℕ) (out : List ℕ) → 0 < b → b ≤ length t.answers
    → step c t (load b out) ≡ writes t (c.expand (answer_at t b).form) out
unfolding step
load_gives c t b out low high = rw (lt-ltb 0 b low, le-leb b (length t.answers) high)

instance-gives : (c : Coding) (t : Table) (b : ℕ) (out : List ℕ) → 0 < b → b ≤ length t.answers
    → step c t (instance b out) ≡ writes t (c.instance_of (subgoal_at t (subgoal_of_answer t b)).form (answer_at t b).form) out
unfolding step
instance-gives c t b out low high = rw (lt-ltb 0 b low, le-leb b (length t.answers) high)

counted_same : (t u : Table) → Renumbered t u → counted t ≡ counted u
unfolding counted
counted_same t u r = rw (nodes-alike t u (rw r.subgoals) (rw r.subgoals) r.answers-to, r.answers, r.subgoals)

subgoal_at-same : (t u : Table) → Renumbered t u → (s : ℕ) → subgoal_at t s ≡ subgoal_at u s
unfolding subgoal_at
subgoal_at-same t u r s = rw r.subgoals

-- the numbers of the answers to s
abbrev all_of : Table → ℕ → List ℕ
all_of t s = numbers_of s 1 t.answers

hands_out : (c : Coding) (t : Table) (s a : ℕ) (bs : List ℕ) → Visits c t s a bs → HandsOut (step c) t s (subgoal_at t s).state a bs
hands_out c t s a [] v = v
hands_out c t s a (b ∷ bs) v = (v.0, hands_out c t s b bs v.1)

module _ (c : Coding) (t u : Table) (r : Renumbered t u) where
  loads-same : (s : ℕ) (out : List ℕ)
      → table_trace c t (loads_of (all_of t s) out) ≡ table_trace c u (loads_of (all_of u s) out)
  loads-same s out =
      asked-all c t s out (λ b. load b out) c.expand (λ b low high e. load_gives c t b out low high) (λ b. load-leaves c t b out)
      ∙ (rw (counted_same t u r, r.answers-to s))
      ∙ sym (asked-all c u s out (λ b. load b out) c.expand (λ b low high e. load_gives c u b out low high) (λ b. load-leaves c u b out))

  instances-same : (s : ℕ) (out : List ℕ)
      → table_trace c t (instances_of (all_of t s) out) ≡ table_trace c u (instances_of (all_of u s) out)
  instances-same s out =
      asked-all c t s out (λ b. instance b out) (c.instance_of (subgoal_at t s).form)
      (λ b low high e. instance-gives c t b out low high ∙ rw e) (λ b. instance-leaves c t b out)
      ∙ (rw (counted_same t u r, r.answers-to s, subgoal_at-same t u r s))
      ∙ sym (asked-all c u s out (λ b. instance b out) (c.instance_of (subgoal_at u s).form)
      (λ b low high e. instance-gives c u b out low high ∙ rw e) (λ b. instance-leaves c u b out))

  answers-same : (s : ℕ) → 0 < s → s ≤ length t.subgoals → SameAnswers (step c) counted s t u
  answers-same s low high = record {
    state = (subgoal_at t s).state;
    numbers = all_of t s;
    handed = hands_out c t s 0 (all_of t s) (visiting c t s low high);
    other-numbers = all_of u s;
    other-handed = subst (λ (x : State). HandsOut (step c) u s x 0 (all_of u s)) (sym (ap (λ (g : Subgoal). g.state) (subgoal_at-same t u r s)))
        (hands_out c u s 0 (all_of u s) (visiting c u s low (rw (← r.subgoals) high)));
    loads = loads-same s;
    instances = instances-same s;
  }

-- ---- one answer

-- the table after an accepted answer of this form
abbrev entered_in : Table → ℕ → Word → Table
entered_in t x w = pick (has (answers_to t.answers x) w) t (with_entry t x w)

-- the answer is accepted: it is read to a form that the subgoal holds; or the subgoal is open, and there is room for it
record Takes (c : Coding) (t : Table) (x : ℕ) (cs : List ℕ) : Type 0 where
  w : Word
  n : ℕ
  low : 0 < x
  high : x ≤ length t.subgoals
  reading : c.answered (subgoal_at t x).m cs ≡ accepted w n
  open-if : has (answers_to t.answers x) w ≡ false → (subgoal_at t x).state ≡ Open
  room : has (answers_to t.answers x) w ≡ false → (nodes (with_answer t x w) ≤ t.N) × (length t.answers < t.A)

module _ (c : Coding) (cs : List ℕ) where
  abbrev Takes-if : Table → ℕ → Result Table → Type 0
  Takes-if t x r = Accepted r.reply → Takes c t x cs

  answered-takes : (t : Table) (x : ℕ) → 0 < x → x ≤ length t.subgoals
      → (r : Reading) → c.answered (subgoal_at t x).m cs ≡ r → Takes-if t x (answered t x r)
  answered-takes t x low high (refused k) e = unfold answered in λ h. absurd h.1
  answered-takes t x low high (accepted w n) e = by_cases (has (answers_to t.answers x) w)
      (λ held h. record { w = w; n = n; low = low; high = high; reading = e; open-if = λ z. absurd (true≢false (sym held ∙ z)); room = λ z. absurd (true≢false (sym held ∙ z)) })
      (λ lacks. unfold answered in rw (answer_of-none t x w lacks)
      (open-cases (Takes-if t x) t (subgoal_at t x).state _ (λ fin h. absurd h.1) (λ is_open. appended-cases (Takes-if t x) t (with_entry t x w) (ltb (length t.answers) t.A) (suc (length t.answers))
      (λ full h. absurd h.1) (λ room full h. absurd h.1)
      (λ room free h. record { w = w; n = n; low = low; high = high; reading = e; open-if = λ z. is_open; room = λ z. (omega (arith, entry-nodes t x w low), ltb-true _ _ free) }))))

  takes : (t : Table) (x : ℕ) → Takes-if t x (step c t (answer x cs))
  unfolding step
  takes t x =
      known-cases (Takes-if t x) t [] (length t.subgoals) x _ (λ h. absurd h.1)
      (λ low high. answered-takes t x low high (c.answered (subgoal_at t x).m cs) refl)

  -- what an accepted answer leaves and says
  record Took (t : Table) (x : ℕ) (w : Word) (r : Result Table) : Type 0 where
    state : r.state ≡ entered_in t x w
    word : unnumbered r.reply ≡ pick (has (answers_to t.answers x) w) (old_answer 0) (new 0)
    accepts : Accepted r.reply

  answered-took : (t : Table) (x : ℕ) (k : Takes c t x cs) → Took t x k.w (answered t x (accepted k.w k.n))
  unfolding answered unnumbered appended fits
  answered-took t x k = by_cases (has (answers_to t.answers x) k.w)
      (λ e. let a = answer_of-some t x k.w e in
      rw (ne_eqb (answer_of t x k.w) 0 (λ z. omega (arith, a.low))) (record { state = rw e; word = rw e; accepts = (_, refl) }))
      (λ e. rw (answer_of-none t x k.w e, k.open-if e, entry-nodes t x k.w k.low, le-leb _ _ (k.room e).0, lt-ltb _ _ (k.room e).1) (record { state = rw e; word = rw e; accepts = (_, refl) }))

  took : (t : Table) (x : ℕ) (k : Takes c t x cs) → Took t x k.w (step c t (answer x cs))
  unfolding step
  took t x k = rw (lt-ltb 0 x k.low, le-leb x (length t.subgoals) k.high, k.reading) (answered-took t x k)

-- ---- one exchange

-- one answer more takes no node away
distinct_more : (l : List Answer) (x : ℕ) (w : Word) (s : ℕ)
    → distinct (answers_to l s) ≤ distinct (answers_to (l ++ (record { subgoal = x; form = w } ∷ [])) s)
distinct_more l x w s = by_cases (eqb x s)
    (λ e. let q : x ≡ s = eqb-true x s e in rw (← q, answers_to-same l x w, distinct_snoc (answers_to l x) w) (omega arith))
    (λ e. rw (answers_to-other l x s w (eqb-false x s e)) (omega arith))

answer_nodes-more : (l : List Answer) (x : ℕ) (w : Word) (s n : ℕ)
    → answer_nodes l s n ≤ answer_nodes (l ++ (record { subgoal = x; form = w } ∷ [])) s n
unfolding answer_nodes
answer_nodes-more l x w s zero = omega arith
answer_nodes-more l x w s (suc n) = omega (arith, distinct_more l x w s, answer_nodes-more l x w (suc s) n)

nodes-more : (t : Table) (x : ℕ) (w : Word) → nodes t ≤ nodes (with_answer t x w)
unfolding nodes
nodes-more t x w = omega (arith, answer_nodes-more t.answers x w 1 (length t.subgoals))

-- what subgoal x holds is the same whether y's answer came before or after
own-answers : (t : Table) (x y : ℕ) (w v : Word) → (y ≡ x → ⊥)
    → answers_to (with_answer (with_answer t x w) y v).answers x ≡ answers_to
    (with_answer (with_answer t y v) x w).answers x
own-answers t x y w v apart =
    answers_to-other (with_answer t x w).answers y x v apart
    ∙ answers_to-same t.answers x w
    ∙ ap (λ (l : List Word). l ++ (w ∷ [])) (sym (answers_to-other t.answers y x v apart))
    ∙ sym (answers_to-same (with_answer t y v).answers x w)

both-orders : (t : Table) (x y : ℕ) (w v : Word) → (x ≡ y → ⊥)
    → Renumbered (with_answer (with_answer t x w) y v) (with_answer (with_answer t y v) x w)
both-orders t x y w v apart = record {
  N = refl;
  F = refl;
  A = refl;
  subgoals = refl;
  answers = answers-count (with_answer t x w) y v ∙ ap suc (answers-count t x w ∙ sym (answers-count t y v)) ∙ sym (answers-count (with_answer t y v) x w);
  answers-to = λ s. by_cases (eqb x s)
      (λ e. let q : x ≡ s = eqb-true x s e in rw (← q) (own-answers t x y w v (λ z. apart (sym z))))
      (λ e. by_cases (eqb y s)
      (λ g. let q : y ≡ s = eqb-true y s g in rw (← q) (sym (own-answers t y x v w apart)))
      (λ g. answers_to-other (with_answer t x w).answers y s v (eqb-false y s g)
      ∙ answers_to-other t.answers x s w (eqb-false x s e)
      ∙ sym (answers_to-other t.answers y s v (eqb-false y s g))
      ∙ sym (answers_to-other (with_answer t y v).answers x s w (eqb-false x s e))));
}

both-nodes : (t : Table) (x y : ℕ) (w v : Word) → (x ≡ y → ⊥)
    → nodes (with_answer (with_answer t x w) y v) ≡ nodes (with_answer (with_answer t y v) x w)
both-nodes t x y w v apart =
    nodes-alike (with_answer (with_answer t x w) y v) (with_answer (with_answer t y v) x w) refl refl (both-orders t x y w v apart).answers-to

-- ---- with a ground subgoal finished by its answer

-- the nodes are those of the answers
entry-under : (t : Table) (x y : ℕ) (w v : Word) → 0 < x → nodes (with_answer (with_entry t x w) y v) ≡ nodes (with_answer (with_answer t x w) y v)
entry-under t x y w v low = settled-cases (with_answer t x w) x (λ u. nodes (with_answer u y v) ≡ nodes (with_answer (with_answer t x w) y v))
    (unfold nodes in rw (finished-forms (with_answer t x w) x low, finished-count (with_answer t x w) x)) refl

both-answers : (t : Table) (x y : ℕ) (w v : Word) → (with_entry (with_entry t x w) y v).answers ≡ (with_answer (with_answer t x w) y v).answers
both-answers t x y w v = entry-answers (with_entry t x w) y v ∙ ap (λ (l : List Answer). l ++ (record { subgoal = y; form = v } ∷ [])) (entry-answers t x w)

both-rooms : (t : Table) (x y : ℕ) (w v : Word)
    → ((with_entry (with_entry t x w) y v).N ≡ t.N) × ((with_entry (with_entry t x w) y v).F ≡ t.F) × ((with_entry (with_entry t x w) y v).A ≡ t.A)
both-rooms t x y w v =
    let a = settled-rooms (with_answer t x w) x in
    let b = settled-rooms (with_answer (with_entry t x w) y v) y in
    (b.0 ∙ a.0, b.1 ∙ a.1, b.2 ∙ a.2)

-- the later subgoal's record is the same as if it had come first
own-both : (t : Table) (x y : ℕ) (w v : Word) → (y ≡ x → ⊥) → 0 < x → 0 < y → y ≤ length t.subgoals
    → subgoal_at (with_entry (with_entry t x w) y v) y ≡ subgoal_at (with_entry (with_entry t y v) x w) y
own-both t x y w v apart lx ly hy =
    entry-own (with_entry t x w) y v ly (omega (arith, entry-subgoals t x w))
    ∙ ap closing (entry-apart t x w lx y apart)
    ∙ sym (entry-apart (with_entry t y v) x w lx y apart ∙ entry-own t y v ly hy)

module _ (t : Table) (x y : ℕ) (w v : Word) (apart : x ≡ y → ⊥) (lx : 0 < x) (hx : x ≤ length t.subgoals) (ly : 0 < y) (hy : y ≤ length t.subgoals) where
  abbrev one_way : Table
  one_way = with_entry (with_entry t x w) y v

  abbrev other_way : Table
  other_way = with_entry (with_entry t y v) x w

  each-subgoal : (i : ℕ) → subgoal_at one_way i ≡ subgoal_at other_way i
  each-subgoal i = by_cases (eqb i y)
      (λ e. let q : i ≡ y = eqb-true i y e in rw q (own-both t x y w v (λ z. apart (sym z)) lx ly hy))
      (λ e. by_cases (eqb i x)
      (λ g. let q : i ≡ x = eqb-true i x g in rw q (sym (own-both t y x v w apart ly lx hx)))
      (λ g. entry-apart (with_entry t x w) y v ly i (eqb-false i y e) ∙ entry-apart t x w lx i (eqb-false i x g)
      ∙ sym (entry-apart (with_entry t y v) x w lx i (eqb-false i x g) ∙ entry-apart t y v ly i (eqb-false i y e))))

  same-subgoals : one_way.subgoals ≡ other_way.subgoals
  same-subgoals = ext_get_or no_subgoal one_way.subgoals other_way.subgoals
      (entry-subgoals (with_entry t x w) y v ∙ entry-subgoals t x w ∙ sym (entry-subgoals (with_entry t y v) x w ∙ entry-subgoals t y v))
      (λ i h. unfold subgoal_at in each-subgoal (suc i))

  entries-exchange : Renumbered (with_entry (with_entry t x w) y v) (with_entry (with_entry t y v) x w)
  entries-exchange =
      let a = both-rooms t x y w v in
      let b = both-rooms t y x v w in
      let o = both-orders t x y w v apart in
      record {
        N = a.0 ∙ sym b.0;
        F = a.1 ∙ sym b.1;
        A = a.2 ∙ sym b.2;
        subgoals = same-subgoals;
        answers = ap length (both-answers t x y w v) ∙ o.answers ∙ sym (ap length (both-answers t y x v w));
        answers-to = λ s. ap (λ (l : List Answer). answers_to l s) (both-answers t x y w v) ∙ o.answers-to s ∙ sym (ap (λ (l : List Answer). answers_to l s) (both-answers t y x v w));
      }

-- an answer to another subgoal leaves a subgoal as it was
module _ (t : Table) (x : ℕ) (w : Word) where
  subgoals-entered : length (entered_in t x w).subgoals ≡ length t.subgoals
  subgoals-entered = by_cases (has (answers_to t.answers x) w) (λ e. rw e) (λ e. rw e (entry-subgoals t x w))

  subgoal_at-entered : 0 < x → (s : ℕ) → (s ≡ x → ⊥) → subgoal_at (entered_in t x w) s ≡ subgoal_at t s
  subgoal_at-entered low s apart = by_cases (has (answers_to t.answers x) w) (λ e. rw e) (λ e. rw e (entry-apart t x w low s apart))

  others-entered : (s : ℕ) → (x ≡ s → ⊥) → answers_to (entered_in t x w).answers s ≡ answers_to t.answers s
  others-entered s apart = by_cases (has (answers_to t.answers x) w) (λ e. rw e) (λ e. rw (e, entry-answers t x w) (answers_to-other t.answers x s w apart))

module _ (c : Coding) (t : Table) (x y : ℕ) (w v : Word) (apart : x ≡ y → ⊥) (lx : 0 < x) (hx : x ≤ length t.subgoals) (ly : 0 < y) (hy : y ≤ length t.subgoals) where
  apart' : y ≡ x → ⊥
  apart' z = apart (sym z)

  entered-orders : Renumbered (entered_in (entered_in t x w) y v) (entered_in (entered_in t y v) x w)
  entered-orders =
      let hx' : has (answers_to (entered_in t y v).answers x) w ≡ has (answers_to t.answers x) w = ap (λ (l : List Word). has l w) (others-entered t y v x apart') in
      let hy' : has (answers_to (entered_in t x w).answers y) v ≡ has (answers_to t.answers y) v = ap (λ (l : List Word). has l v) (others-entered t x w y apart) in
      rw (hx', hy') (by_cases (has (answers_to t.answers x) w)
      (λ e. by_cases (has (answers_to t.answers y) v) (λ g. rw (e, g) (renumbered-refl _)) (λ g. rw (e, g) (renumbered-refl _)))
      (λ e. by_cases (has (answers_to t.answers y) v) (λ g. rw (e, g) (renumbered-refl _)) (λ g. rw (e, g) (entries-exchange t x y w v apart lx hx ly hy))))

-- the room that an answer of this form needs, if it is to enter
abbrev Room : Table → ℕ → Word → Type 0
Room t x w = has (answers_to t.answers x) w ≡ false → (nodes (with_answer t x w) ≤ t.N) × (length t.answers < t.A)

module _ (t : Table) (x y : ℕ) (w v : Word) (apart : x ≡ y → ⊥) (lx : 0 < x) (ly : 0 < y) (rx : Room t x w) (ry : Room (entered_in t x w) y v) where
  lacks-after : has (answers_to t.answers y) v ≡ false → has (answers_to (entered_in t x w).answers y) v ≡ false
  lacks-after e = ap (λ (l : List Word). has l v) (others-entered t x w y apart) ∙ e

  room-first : Room t y v
  room-first e = by_cases (has (answers_to t.answers x) w)
      (λ g. rw g at (ry (lacks-after e)))
      (λ g.
      let k : (nodes (with_answer (with_entry t x w) y v) ≤ (with_entry t x w).N) × (length (with_entry t x w).answers < (with_entry t x w).A) = rw g at (ry (lacks-after e)) in
      let rooms = settled-rooms (with_answer t x w) x in
      (omega (arith, k.0, rooms.0, entry-under t x y w v lx, both-nodes t x y w v apart, nodes-more (with_answer t y v) x w), omega (arith, k.1, rooms.2, entry-count t x w)))

  room-second : Room (entered_in t y v) x w
  room-second e =
      let g : has (answers_to t.answers x) w ≡ false = ap (λ (l : List Word). has l w) (sym (others-entered t y v x (λ z. apart (sym z)))) ∙ e in
      by_cases (has (answers_to t.answers y) v)
      (λ h. rw h (rx g))
      (λ h.
      let k : (nodes (with_answer (with_entry t x w) y v) ≤ (with_entry t x w).N) × (length (with_entry t x w).answers < (with_entry t x w).A) = rw g at (ry (lacks-after h)) in
      let rooms = settled-rooms (with_answer t x w) x in
      let others = settled-rooms (with_answer t y v) y in
      rw h (omega (arith, k.0, rooms.0, others.0, entry-under t x y w v lx, entry-under t y x v w ly, both-nodes t x y w v apart), omega (arith, k.1, rooms.2, others.2, entry-count t x w, entry-count t y v)))

module _ (c : Coding) (t : Table) (x y : ℕ) (cs ds : List ℕ) (e : Exchangeable (step c) t x cs y ds) where
  tx : Takes c t x cs
  tx = takes c cs t x e.first

  -- what the first leaves
  left-first : (step c t (answer x cs)).state ≡ entered_in t x tx.w
  left-first = (took c cs t x tx).state

  ty : Takes c (entered_in t x tx.w) y ds
  ty = subst (λ (u : Table). Takes c u y ds) left-first (takes c ds (step c t (answer x cs)).state y e.second)

  apart-too : y ≡ x → ⊥
  apart-too z = e.apart (sym z)

  abbrev uy : Takes c t y ds
  uy = record {
    w = ty.w;
    n = ty.n;
    low = ty.low;
    high = rw (← (subgoals-entered t x tx.w)) ty.high;
    reading = rw (subgoal_at-entered t x tx.w tx.low y apart-too) at ty.reading;
    open-if = λ z. rw (subgoal_at-entered t x tx.w tx.low y apart-too) at (ty.open-if (lacks-after t x y tx.w ty.w e.apart tx.low ty.low tx.room ty.room z));
    room = room-first t x y tx.w ty.w e.apart tx.low ty.low tx.room ty.room;
  }

  left_other : (step c t (answer y ds)).state ≡ entered_in t y ty.w
  left_other = (took c ds t y uy).state

  abbrev ux : Takes c (entered_in t y ty.w) x cs
  ux = record {
    w = tx.w;
    n = tx.n;
    low = tx.low;
    high = rw (subgoals-entered t y ty.w) tx.high;
    reading = rw (subgoal_at-entered t y ty.w ty.low x e.apart) tx.reading;
    open-if = λ z. rw (subgoal_at-entered t y ty.w ty.low x e.apart) (tx.open-if (ap (λ (l : List Word). has l tx.w) (sym (others-entered t y ty.w x apart-too)) ∙ z));
    room = room-second t x y tx.w ty.w e.apart tx.low ty.low tx.room ty.room;
  }

  pub exchanged-back : Exchangeable (step c) t y ds x cs
  exchanged-back = record {
    apart = apart-too;
    first = (took c ds t y uy).accepts;
    second = rw left_other (took c cs (entered_in t y ty.w) x ux).accepts;
  }

  pub word_first : unnumbered (step c (step c t (answer y ds)).state (answer x cs)).reply ≡ unnumbered
      (step c t (answer x cs)).reply
  word_first =
      ap (λ (u : Table). unnumbered (step c u (answer x cs)).reply) left_other
      ∙ (took c cs (entered_in t y ty.w) x ux).word
      ∙ ap (λ (l : List Word). pick (has l tx.w) (old_answer 0) (new 0)) (others-entered t y ty.w x apart-too)
      ∙ sym (took c cs t x tx).word

  pub word-second : unnumbered (step c t (answer y ds)).reply ≡ unnumbered
      (step c (step c t (answer x cs)).state (answer y ds)).reply
  word-second =
      (took c ds t y uy).word
      ∙ ap (λ (l : List Word). pick (has l ty.w) (old_answer 0) (new 0)) (sym (others-entered t x tx.w y e.apart))
      ∙ sym (took c ds (entered_in t x tx.w) y ty).word
      ∙ ap (λ (u : Table). unnumbered (step c u (answer y ds)).reply) (sym left-first)

  left_both : (step c (step c t (answer x cs)).state (answer y ds)).state ≡ entered_in (entered_in t x tx.w) y ty.w
  left_both = ap (λ (u : Table). (step c u (answer y ds)).state) left-first ∙ (took c ds (entered_in t x tx.w) y ty).state

  left_back : (step c (step c t (answer y ds)).state (answer x cs)).state ≡ entered_in (entered_in t y ty.w) x tx.w
  left_back = ap (λ (u : Table). (step c u (answer x cs)).state) left_other ∙ (took c cs (entered_in t y ty.w) x ux).state

  pub exchanged-states : Renumbered (step c (step c t (answer x cs)).state (answer y ds)).state
      (step c (step c t (answer y ds)).state (answer x cs)).state
  exchanged-states = rw (left_both, left_back) (entered-orders c t x y tx.w ty.w e.apart tx.low tx.high uy.low uy.high)

-- ---- lists

left_one : {S : Type 0} (step : S → Request → Result S) (s : S) (q : Request) (qs : List Request)
    → left step s (q ∷ qs) ≡ left step (step s q).state qs
unfolding left
left_one step s q qs = refl

-- a call, with what is compared of this reply
abbrev hearing : Request → Reply → Heard
hearing q r = record { request = q; reply = compared q r }

heard-one : (c : Coding) (s : ℕ) (t : Table) (q : Request) (qs : List Request)
    → heard s (q ∷ qs) (table_trace c t (q ∷ qs))
    ≡ pick (concerns s q) (hearing q (step c t q).reply ∷ heard s qs (table_trace c (step c t q).state qs)) (heard s qs (table_trace c (step c t q).state qs))
unfolding heard trace
heard-one c s t q qs = refl

-- tables that differ in answer numbers alone go on so, whatever is called, and every subgoal hears the same
pub going_on : (c : Coding) (t u : Table) → Renumbered t u → (qs : List Request)
    → Renumbered (left (step c) t qs) (left (step c) u qs) × ((s : ℕ) → heard s qs (table_trace c t qs) ≡ heard s qs (table_trace c u qs))
going_on c t u r [] = unfold left heard in (r, λ s. refl)
going_on c t u r (q ∷ qs) =
    let p : Parallel (compared q) (step c t q) (step c u q) = step-parallel c t u r q in
    let k = going_on c (step c t q).state (step c u q).state p.states qs in (
      rw (left_one (step c) t q qs, left_one (step c) u q qs) k.0,
      λ s. heard-one c s t q qs ∙ rw (k.1 s, p.replies) (sym (heard-one c s u q qs)),
    )

-- what is heard of two calls of which no subgoal hears both
heard-swapped : (p q : Bool) → (p ≡ true → q ≡ true → ⊥) → (x y : Heard) (l : List Heard)
    → pick p (x ∷ pick q (y ∷ l) l) (pick q (y ∷ l) l) ≡ pick q (y ∷ pick p (x ∷ l) l) (pick p (x ∷ l) l)
heard-swapped true true h x y l = absurd (h refl refl)
heard-swapped true false h x y l = refl
heard-swapped false true h x y l = refl
heard-swapped false false h x y l = refl

heard-two : (c : Coding) (s : ℕ) (t : Table) (q q' : Request) (qs : List Request) (x y : Heard) (l : List Heard)
    → hearing q (step c t q).reply ≡ x → hearing q' (step c (step c t q).state q').reply ≡ y → heard s qs (table_trace c (step c (step c t q).state q').state qs) ≡ l
    → heard s (q ∷ q' ∷ qs) (table_trace c t (q ∷ q' ∷ qs)) ≡ pick (concerns s q) (x ∷ pick (concerns s q') (y ∷ l) l) (pick (concerns s q') (y ∷ l) l)
heard-two c s t q q' qs x y l e f g = heard-one c s t q (q' ∷ qs) ∙ rw (heard-one c s (step c t q).state q' qs, e, f, g)

apart-concerns : (s x y : ℕ) (cs ds : List ℕ) → (x ≡ y → ⊥) → concerns s (answer x cs) ≡ true
    → concerns s (answer y ds) ≡ true → ⊥
unfolding concerns
apart-concerns s x y cs ds apart e f = apart (eqb-true x s e ∙ sym (eqb-true y s f))

module _ (c : Coding) (t : Table) (x y : ℕ) (cs ds : List ℕ) (e : Exchangeable (step c) t x cs y ds) (qs : List Request) where
  -- the tables that the two orders leave
  abbrev t₂ : Table
  t₂ = (step c (step c t (answer x cs)).state (answer y ds)).state

  abbrev u₂ : Table
  u₂ = (step c (step c t (answer y ds)).state (answer x cs)).state

  swapped-states : Renumbered (left (step c) t (answer x cs ∷ answer y ds ∷ qs))
      (left (step c) t (answer y ds ∷ answer x cs ∷ qs))
  unfolding left
  swapped-states = (going_on c t₂ u₂ (exchanged-states c t x y cs ds e) qs).0

  swapped-heard : (s : ℕ)
      → heard s (answer x cs ∷ answer y ds ∷ qs) (table_trace c t (answer x cs ∷ answer y ds ∷ qs))
      ≡ heard s (answer y ds ∷ answer x cs ∷ qs) (table_trace c t (answer y ds ∷ answer x cs ∷ qs))
  swapped-heard s =
      let hx : Heard = hearing (answer x cs) (step c t (answer x cs)).reply in
      let hy : Heard = hearing (answer y ds) (step c (step c t (answer x cs)).state (answer y ds)).reply in
      let l : List Heard = heard s qs (table_trace c t₂ qs) in
      heard-two c s t (answer x cs) (answer y ds) qs hx hy l refl refl refl
      ∙ heard-swapped (concerns s (answer x cs)) (concerns s (answer y ds)) (apart-concerns s x y cs ds e.apart) hx hy l
      ∙ sym (heard-two c s t (answer y ds) (answer x cs) qs hy hx l
      (unfold compared in ap (λ (r : Reply). record { request = answer y ds; reply = r }) (word-second c t x y cs ds e))
      (unfold compared in ap (λ (r : Reply). record { request = answer x cs; reply = r }) (word_first c t x y cs ds e))
      (sym ((going_on c t₂ u₂ (exchanged-states c t x y cs ds e) qs).1 s)))

-- ---- the statement

alike : (c : Coding) (t u : Table) → Renumbered t u → SameButNumbers (step c) counted t u
alike c t u r = record {
  same-counts = counted_same t u r;
  same-answers = λ i low high. answers-same c t u r i low (unfold counted in high);
  same-replies = λ i qs. (going_on c t u r qs).1 i;
}

-- both lists from table t on: what they leave, and what is heard
record ListsAlike (c : Coding) (t : Table) (qs rs : List Request) : Type 0 where
  states : Renumbered (left (step c) t qs) (left (step c) t rs)
  hears : (s : ℕ) → heard s qs (table_trace c t qs) ≡ heard s rs (table_trace c t rs)

lists-alike : (c : Coding) (t : Table) (qs rs : List Request) → Exchanged (step c) t qs rs → ListsAlike c t qs rs
lists-alike c t qs rs (unchanged s l) = record { states = renumbered-refl _; hears = λ i. refl }
lists-alike c t qs rs (exchange s x cs y ds l e) = record { states = swapped-states c s x y cs ds e l; hears = swapped-heard c s x y cs ds e l }
lists-alike c t qs rs (behind s q l k e) =
    let r = lists-alike c (step c s q).state l k e in
    record {
      states = rw (left_one (step c) s q l, left_one (step c) s q k) r.states;
      hears = λ i. heard-one c i s q l ∙ rw (r.hears i) (sym (heard-one c i s q k));
    }
lists-alike c t qs rs (again s l k p e f) =
    let a = lists-alike c s l k e in
    let b = lists-alike c s k p f in
    record { states = renumbered-trans _ _ _ a.states b.states; hears = λ i. a.hears i ∙ b.hears i }

-- of any table
pub other-order : (c : Coding) (t : Table) (x y : ℕ) (cs ds : List ℕ) → Exchangeable (step c) t x cs y ds
    → OtherOrder (step c) counted t x cs y ds
other-order c t x y cs ds e = record {
  exchangeable = exchanged-back c t x y cs ds e;
  first_word = sym (word_first c t x y cs ds e);
  second_word = sym (word-second c t x y cs ds e);
  states = alike c _ _ (swapped-states c t x y cs ds e []);
}

pub rearranged : (c : Coding) (t : Table) (qs rs : List Request) → Exchanged (step c) t qs rs
    → Rearranged (step c) counted t qs rs
rearranged c t qs rs e = let k = lists-alike c t qs rs e in record { hears = k.hears; states = alike c _ _ k.states }

-- for every coding
pub plain-arrival-order : (c : Coding) → PlainArrivalOrder c
plain-arrival-order c = record {
  arrival-order = λ n f a. record {
    exchanging = λ before x y cs ds e. other-order c (reached c n f a before) x y cs ds e;
    rearranging = λ qs rs e. rearranged c (fresh n f a) qs rs e;
  };
  renumbering = λ n f a qs rs e. (lists-alike c (fresh n f a) qs rs e).states;
}
