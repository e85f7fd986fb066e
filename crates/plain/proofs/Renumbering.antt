-- Tables that differ in answer numbers alone: what they use, what they load, and that every call keeps them so.
use mathlib.Core.Path.{◌≡◌, refl, sym, ap, ◌∙◌, subst}
use mathlib.Core.Bool.{Bool, true, false}
use mathlib.Core.List.{List, [], ◌∷◌, ◌++◌}
use Prim.Native.Nat.{ℕ, zero, suc, ◌+◌, ◌-◌}
use native.Mathlib.Omega.{arith}
use lib.Dec.{eqb, leb, ltb}
use lib.ListN.{length, length-append}
use borrow.Author.Tests.{ne_eqb}
use Rattle.basis.specs.Choice.{pick}
use Rattle.basis.proofs.Cases.{by_cases}
use Rattle.plain.specs.Words.{Word, has}
use Rattle.plain.specs.Coding.{Coding, Reading, refused, accepted, naming}
use Rattle.plain.specs.Joins.{Forms, declined, formed, join_of}
use Rattle.plain.specs.Requests.{State, Open, Finished, Request, call_least, answer, finish, next, load, instance}
use Rattle.plain.specs.Requests.{counts, join, why, detours, Reply, used, joined, refused, Result}
use Rattle.plain.specs.Table.{Table, Answer, subgoal_at, answers_to, answer_nodes, nodes, called_forms, counted}
use Rattle.plain.specs.Table.{subgoal_of, answer_of, with_subgoal, with_answer, with_finished, settled, with_entry, stays, becomes, known}
use Rattle.plain.specs.Table.{fits, appended, called, answered, while_open, given, entered, side_of, joining, sharing, newness, reasoned, detouring, step}
use Rattle.plain.specs.Order.{Renumbered, unnumbered, compared}
use Rattle.plain.proofs.NumberLaws.{answer_of-none, answer_of-some}
use Rattle.plain.proofs.Changes.{known-cases, writes-cases}
use Rattle.plain.proofs.DetourOrder.{detours-alike}
use Rattle.plain.specs.Detours.{all_within}

-- ---- the table with other answers

-- only the answers differ
abbrev pub with_answers : Table → List Answer → Table
with_answers t l = record { N = t.N; F = t.F; A = t.A; subgoals = t.subgoals; answers = l }

pub renumbered-refl : (t : Table) → Renumbered t t
renumbered-refl t = record { N = refl; F = refl; A = refl; subgoals = refl; answers = refl; answers-to = λ s. refl }

pub renumbered-trans : (t u v : Table) → Renumbered t u → Renumbered u v → Renumbered t v
renumbered-trans t u v r p = record {
  N = r.N ∙ p.N;
  F = r.F ∙ p.F;
  A = r.A ∙ p.A;
  subgoals = r.subgoals ∙ p.subgoals;
  answers = r.answers ∙ p.answers;
  answers-to = λ s. r.answers-to s ∙ p.answers-to s;
}

renumbered-with : (t u : Table) → Renumbered t u → with_answers t u.answers ≡ u
renumbered-with t u r = rw (r.N, r.F, r.A, r.subgoals)

pub answers_to-append : (l k : List Answer) (s : ℕ) → answers_to (l ++ k) s ≡ answers_to l s ++ answers_to k s
unfolding answers_to
answers_to-append [] k s = refl
answers_to-append (a ∷ l) k s = by_cases (eqb a.subgoal s) (λ e. rw (e, answers_to-append l k s)) (λ e. rw (e, answers_to-append l k s))

-- ---- nodes

answer_nodes-alike : (l k : List Answer) → ((s : ℕ) → answers_to l s ≡ answers_to k s) → (s n : ℕ)
    → answer_nodes l s n ≡ answer_nodes k s n
unfolding answer_nodes
answer_nodes-alike l k e s zero = refl
answer_nodes-alike l k e s (suc n) = rw (e s, answer_nodes-alike l k e (suc s) n)

pub nodes-alike : (t u : Table) → called_forms t.subgoals ≡ called_forms u.subgoals
    → length t.subgoals ≡ length u.subgoals
    → ((s : ℕ) → answers_to t.answers s ≡ answers_to u.answers s) → nodes t ≡ nodes u
unfolding nodes
nodes-alike t u e f g = rw (e, f, answer_nodes-alike t.answers u.answers g 1 (length u.subgoals))

-- ---- one call on two such tables

-- the results of one call: what f leaves of the replies is the same, and answer numbers alone differ
pub record Parallel (f : Reply → Reply) (r p : Result Table) : Type 0 where
  pub replies : f r.reply ≡ f p.reply
  pub states : Renumbered r.state p.state

module _ (t : Table) (l : List Answer) (many : length t.answers ≡ length l) (each : (s : ℕ) → answers_to t.answers s ≡ answers_to l s) where
  abbrev other : Table
  other = with_answers t l

  renumbered-other : Renumbered t other
  renumbered-other = record { N = refl; F = refl; A = refl; subgoals = refl; answers = many; answers-to = each }

  stays-parallel : (f : Reply → Reply) (out : List ℕ) (r : Reply) → Parallel f (stays t out r) (stays other out r)
  stays-parallel f out r = record { replies = refl; states = renumbered-other }

  known-parallel : (f : Reply → Reply) (out : List ℕ) (n s : ℕ) (r p : Result Table) → Parallel f r p
      → Parallel f (known t out n s r) (known other out n s p)
  known-parallel f out n s r p h = by_cases (ltb 0 s)
      (λ e. by_cases (leb s n) (λ g. rw (e, g) h) (λ g. rw (e, g) (stays-parallel f out (refused 7))))
      (λ e. rw e (stays-parallel f out (refused 7)))

  open-parallel : (f : Reply → Reply) (s : State) (r p : Result Table) → Parallel f r p
      → Parallel f (while_open t s r) (while_open other s p)
  open-parallel f Open r p h = h
  open-parallel f Finished r p h = stays-parallel f [] (refused 8)

  appended-parallel : (f : Reply → Reply) (more more' : Table) (room : Bool) (n : ℕ) → nodes more ≡ nodes more'
      → Renumbered more more'
      → Parallel f (appended t more room n) (appended other more' room n)
  unfolding appended fits
  appended-parallel f more more' room n e h = by_cases (leb (nodes more) t.N)
      (λ g. by_cases room
      (λ k. rw (← e, g, k) (record { replies = refl; states = h }))
      (λ k. rw (← e, g, k) (stays-parallel f [] (refused 11))))
      (λ g. rw (← e, g) (stays-parallel f [] (refused 10)))

  called-parallel : (r : Reading) → Parallel (λ x. x) (called t r) (called other r)
  unfolding called
  called-parallel (refused n) = stays-parallel (λ x. x) [] (refused n)
  called-parallel (accepted w m) = by_cases (eqb (subgoal_of t w) 0)
      (λ e. unfold subgoal_of subgoal_at in rw e
      (appended-parallel (λ x. x) (with_subgoal t w m) (with_subgoal other w m) (ltb (length t.subgoals) t.F) (suc (length t.subgoals))
      (nodes-alike (with_subgoal t w m) (with_subgoal other w m) refl refl each)
      (record { N = refl; F = refl; A = refl; subgoals = refl; answers = many; answers-to = each })))
      (λ e. unfold subgoal_of subgoal_at in rw e (stays-parallel (λ x. x) [] _))

  -- the same answers more on each side, one or several
  pub more-parallel : (k : List Answer) → Renumbered (with_answers t (t.answers ++ k)) (with_answers other (l ++ k))
  more-parallel k = record {
    N = refl;
    F = refl;
    A = refl;
    subgoals = refl;
    answers = length-append t.answers k ∙ ap (λ (n : ℕ). n + length k) many ∙ sym (length-append l k);
    answers-to = λ s. answers_to-append t.answers k s ∙ ap (λ (r : List Word). r ++ answers_to k s) (each s) ∙ sym (answers_to-append l k s);
  }

  finished-parallel : (s : ℕ) → Renumbered (with_finished t s) (with_finished other s)
  unfolding subgoal_at
  finished-parallel s = record { N = refl; F = refl; A = refl; subgoals = refl; answers = many; answers-to = each }

  settled-with : (s : ℕ) → Renumbered (settled t s) (settled other s)
  unfolding settled subgoal_at
  settled-with s = by_cases (eqb (subgoal_at t s).m 0) (λ e. rw e (finished-parallel s)) (λ e. rw e renumbered-other)

settled-parallel : (t u : Table) → Renumbered t u → (s : ℕ) → Renumbered (settled t s) (settled u s)
settled-parallel t u r s = subst (λ (v : Table). Renumbered (settled t s) (settled v s)) (renumbered-with t u r) (settled-with t u.answers r.answers r.answers-to s)

module _ (t : Table) (l : List Answer) (many : length t.answers ≡ length l) (each : (s : ℕ) → answers_to t.answers s ≡ answers_to l s) where
  -- an answer enters on each side
  entry-parallel : (s : ℕ) (w : Word) → Renumbered (with_entry t s w) (with_entry (with_answers t l) s w)
  entry-parallel s w = settled-parallel (with_answer t s w) (with_answer (with_answers t l) s w) (more-parallel t l many each (record { subgoal = s; form = w } ∷ [])) s

  answered-parallel : (s : ℕ) (r : Reading) → Parallel unnumbered (answered t s r) (answered (with_answers t l) s r)
  unfolding answered
  answered-parallel s (refused n) = stays-parallel t l many each unnumbered [] (refused n)
  answered-parallel s (accepted w m) = by_cases (has (answers_to t.answers s) w)
      (λ e.
      let g : has (answers_to l s) w ≡ true = rw (← (each s)) e in
      let a = answer_of-some t s w e in
      let b = answer_of-some (with_answers t l) s w g in
      rw (ne_eqb (answer_of t s w) 0 (λ z. omega (arith, a.low)), ne_eqb (answer_of (with_answers t l) s w) 0 (λ z. omega (arith, b.low)))
      (record { replies = unfold unnumbered in refl; states = renumbered-other t l many each }))
      (λ e.
      let g : has (answers_to l s) w ≡ false = rw (← (each s)) e in
      rw (answer_of-none t s w e, answer_of-none (with_answers t l) s w g, ← many)
      (let more : Renumbered (with_entry t s w) (with_entry (with_answers t l) s w) = entry-parallel s w in
      unfold subgoal_at in open-parallel t l many each unnumbered (subgoal_at t s).state _ _
      (appended-parallel t l many each unnumbered (with_entry t s w) (with_entry (with_answers t l) s w) (ltb (length t.answers) t.A) (suc (length t.answers))
      (nodes-alike (with_entry t s w) (with_entry (with_answers t l) s w) (ap called_forms more.subgoals) (ap length more.subgoals) more.answers-to) more)))

  counted-alike : counted t ≡ counted (with_answers t l)
  unfolding counted
  counted-alike = rw (nodes-alike t (with_answers t l) refl refl each, many)

-- ---- a join: the forms that enter are read off the answers to its sources and to its target

module _ (t : Table) (l : List Answer) (many : length t.answers ≡ length l) (each : (s : ℕ) → answers_to t.answers s ≡ answers_to l s) where
  given-with : (s : ℕ) (w : Word) → Renumbered (given t s w) (given (with_answers t l) s w)
  unfolding given
  given-with s w = by_cases (has (answers_to t.answers s) w)
      (λ e.
      let g : has (answers_to l s) w ≡ true = rw (← (each s)) e in
      let a = answer_of-some t s w e in
      let b = answer_of-some (with_answers t l) s w g in
      rw (ne_eqb (answer_of t s w) 0 (λ z. omega (arith, a.low)), ne_eqb (answer_of (with_answers t l) s w) 0 (λ z. omega (arith, b.low)))
      (renumbered-other t l many each))
      (λ e.
      let g : has (answers_to l s) w ≡ false = rw (← (each s)) e in
      rw (answer_of-none t s w e, answer_of-none (with_answers t l) s w g) (entry-parallel t l many each s w))

given-parallel : (t u : Table) → Renumbered t u → (s : ℕ) (w : Word) → Renumbered (given t s w) (given u s w)
given-parallel t u r s w = subst (λ (v : Table). Renumbered (given t s w) (given v s w)) (renumbered-with t u r) (given-with t u.answers r.answers r.answers-to s w)

entered-parallel : (t u : Table) → Renumbered t u → (s : ℕ) (ws : List Word)
    → Renumbered (entered t s ws) (entered u s ws)
unfolding entered
entered-parallel t u r s [] = r
entered-parallel t u r s (w ∷ ws) = entered-parallel (given t s w) (given u s w) (given-parallel t u r s w) s ws

module _ (t : Table) (l : List Answer) (many : length t.answers ≡ length l) (each : (s : ℕ) → answers_to t.answers s ≡ answers_to l s) where
  -- all of them enter, or none
  abbrev all_or_none : Table → Table → Result Table
  all_or_none u more =
      pick (fits more u.N)
      (pick (leb (length more.answers) u.A) (becomes more (joined (length more.answers - length u.answers))) (becomes u (refused 11)))
      (becomes u (refused 10))

  all-parallel : (more more' : Table) → nodes more ≡ nodes more' → Renumbered more more'
      → Parallel (λ r. r) (all_or_none t more) (all_or_none (with_answers t l) more')
  unfolding fits
  all-parallel more more' e h = by_cases (leb (nodes more) t.N)
      (λ g. by_cases (leb (length more.answers) t.A)
      (λ k. rw (← e, g, ← h.answers, k, ← many) (record { replies = refl; states = h }))
      (λ k. rw (← e, g, ← h.answers, k) (stays-parallel t l many each (λ r. r) [] (refused 11))))
      (λ g. rw (← e, g) (stays-parallel t l many each (λ r. r) [] (refused 10)))

  reasoned-parallel : (cs : List ℕ) (x : Reading) → Parallel (λ r. r) (becomes t (reasoned t cs x)) (becomes (with_answers t l) (reasoned (with_answers t l) cs x))
  unfolding reasoned newness sharing subgoal_of
  reasoned-parallel cs (refused r) = stays-parallel t l many each (λ r. r) [] (refused r)
  reasoned-parallel cs (accepted w m) = record { replies = refl; states = renumbered-other t l many each }

  detours-parallel : (c : Coding) (gs : List ℕ) (b : ℕ) → Parallel unnumbered (becomes t (detouring c t gs b)) (becomes (with_answers t l) (detouring c (with_answers t l) gs b))
  unfolding detouring
  detours-parallel c gs b = by_cases (all_within (length t.subgoals) gs)
      (λ e. rw e (record { replies = detours-alike t (with_answers t l) refl each c gs b; states = renumbered-other t l many each }))
      (λ e. rw e (stays-parallel t l many each unnumbered [] (refused 7)))

  joining-parallel : (s : ℕ) (ws : Forms) → Parallel (λ r. r) (joining t s ws) (joining (with_answers t l) s ws)
  unfolding joining
  joining-parallel s (declined r) = stays-parallel t l many each (λ r. r) [] (refused r)
  joining-parallel s (formed ws) =
      let more : Renumbered (entered t s ws) (entered (with_answers t l) s ws) = entered-parallel t (with_answers t l) (renumbered-other t l many each) s ws in
      all-parallel (entered t s ws) (entered (with_answers t l) s ws)
      (nodes-alike (entered t s ws) (entered (with_answers t l) s ws) (ap called_forms more.subgoals) (ap length more.subgoals) more.answers-to) more

  side-alike : (s : ℕ) → side_of (with_answers t l) s ≡ side_of t s
  unfolding side_of subgoal_at
  side-alike s = rw (each s)

  join-parallel : (c : Coding) (f g : ℕ) (ps : List ℕ) (s : ℕ) (cs : List ℕ)
      → Parallel (λ r. r)
      (joining t s (join_of c (side_of t f) (side_of t g) ps (subgoal_at t s).state (subgoal_at t s).m cs))
      (joining (with_answers t l) s (join_of c (side_of (with_answers t l) f) (side_of (with_answers t l) g) ps (subgoal_at (with_answers t l) s).state (subgoal_at (with_answers t l) s).m cs))
  unfolding subgoal_at
  join-parallel c f g ps s cs = rw (side-alike f, side-alike g) (joining-parallel s (join_of c (side_of t f) (side_of t g) ps (subgoal_at t s).state (subgoal_at t s).m cs))

-- the calls that are given an answer number leave the table as it is
abbrev StaysAt : Table → Result Table → Type 0
StaysAt t r = r.state ≡ t

module _ (c : Coding) (t : Table) where
  next-leaves : (s a : ℕ) → StaysAt t (step c t (next s a))
  unfolding step
  next-leaves s a = known-cases (StaysAt t) t [] (length t.subgoals) s _ refl (λ low high. refl)

  pub load-leaves : (a : ℕ) (out : List ℕ) → StaysAt t (step c t (load a out))
  unfolding step
  load-leaves a out = known-cases (StaysAt t) t out (length t.answers) a _ refl (λ low high. writes-cases (StaysAt t) t _ out refl (λ fits. refl))

  pub instance-leaves : (a : ℕ) (out : List ℕ) → StaysAt t (step c t (instance a out))
  unfolding step
  instance-leaves a out = known-cases (StaysAt t) t out (length t.answers) a _ refl (λ low high. writes-cases (StaysAt t) t _ out refl (λ fits. refl))

-- nothing is compared of their replies
leaves-parallel : (t u : Table) → Renumbered t u → (f : Reply → Reply) → ((x y : Reply) → f x ≡ f y)
    → (r p : Result Table) → StaysAt t r → StaysAt u p → Parallel f r p
leaves-parallel t u h f e r p a b = record { replies = e r.reply p.reply; states = rw (a, b) h }

module _ (c : Coding) (t : Table) (l : List Answer) (many : length t.answers ≡ length l) (each : (s : ℕ) → answers_to t.answers s ≡ answers_to l s) where
  step-with : (q : Request) → Parallel (compared q) (step c t q) (step c (with_answers t l) q)
  unfolding step compared
  step-with (call_least cs x) = called-parallel t l many each (naming x (c.called cs))
  step-with (answer s cs) =
      known-parallel t l many each unnumbered [] (length t.subgoals) s _ _
      (unfold subgoal_at in answered-parallel t l many each s (c.answered (subgoal_at t s).m cs))
  step-with (finish s) =
      known-parallel t l many each (λ x. x) [] (length t.subgoals) s _ _ (record { replies = refl; states = finished-parallel t l many each s })
  step-with (next s a) =
      leaves-parallel t (with_answers t l) (renumbered-other t l many each) _ (λ x y. refl) _ _ (next-leaves c t s a) (next-leaves c (with_answers t l) s a)
  step-with (load a out) =
      leaves-parallel t (with_answers t l) (renumbered-other t l many each) _ (λ x y. refl) _ _ (load-leaves c t a out) (load-leaves c (with_answers t l) a out)
  step-with (instance a out) =
      leaves-parallel t (with_answers t l) (renumbered-other t l many each) _ (λ x y. refl) _ _ (instance-leaves c t a out) (instance-leaves c (with_answers t l) a out)
  step-with counts = record { replies = ap used (counted-alike t l many each); states = renumbered-other t l many each }
  step-with (join f g ps s cs) =
      known-parallel t l many each (λ x. x) [] (length t.subgoals) f _ _
      (known-parallel t l many each (λ x. x) [] (length t.subgoals) g _ _
      (known-parallel t l many each (λ x. x) [] (length t.subgoals) s _ _ (join-parallel t l many each c f g ps s cs)))
  step-with (why cs) = reasoned-parallel t l many each cs (c.called cs)
  step-with (detours gs b) = detours-parallel t l many each c gs b

-- every call keeps tables that differ in answer numbers alone so, and replies alike
pub step-parallel : (c : Coding) (t u : Table) → Renumbered t u → (q : Request)
    → Parallel (compared q) (step c t q) (step c u q)
step-parallel c t u r q = subst (λ (v : Table). Parallel (compared q) (step c t q) (step c v q)) (renumbered-with t u r) (step-with c t u.answers r.answers r.answers-to q)
