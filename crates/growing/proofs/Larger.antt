-- A larger plain table answers as the smaller one does, where the smaller one had room.
use Prim.Native.Nat.{ℕ, suc, ◌≤◌, ◌<◌}
use mathlib.Core.Path.{◌≡◌, refl, ap, ◌∙◌}
use mathlib.Core.Bool.{Bool, true, false}
use mathlib.Core.List.{List, [], ◌∷◌}
use native.Mathlib.Omega.{arith}
use lib.Dec.{eqb, leb, ltb}
use lib.ListN.{length}
use borrow.Author.Tests.{leb-true, le-leb, ltb-true, lt-ltb}
use Rattle.basis.proofs.Cases.{by_cases}
use Rattle.plain.specs.Words.{Word}
use Rattle.plain.specs.Coding.{Coding, Reading, naming}
use Rattle.plain.specs.Coding as reading
use Rattle.plain.specs.Joins.{Forms, declined, formed, join_of}
use Rattle.plain.specs.Requests.{State, Open, Finished, call_least, answer, finish, next, load, instance, counts, join, why, detours, Reply, refused, Result, trace, left}
use Rattle.plain.specs.Table.{Table, subgoal_at, answer_at, nodes, counted, subgoal_of, answer_of, following, with_subgoal, with_answer, settled, with_entry, known, fits, appended, called, while_open, answered, starting, onward, writes, given, entered, side_of, joining, sharing, newness, reasoned, goal_of, detouring, step, table_trace}
use Rattle.plain.proofs.Growth.{step-grows}
use Rattle.growing.specs.Promises.{resized, HadRoom, resized_result, LargerAccepts, AllHadRoom, LargerShows}

module _ (n f a : ℕ) where
  abbrev up : Table → Table
  up t = resized n f a t

  abbrev over : Result Table → Result Table
  over r = resized_result n f a r

  -- ---- what is read

  pub counted-larger : (t : Table) → counted (resized n f a t) ≡ counted t
  unfolding counted nodes
  counted-larger t = refl

  subgoal_of-larger : (t : Table) (w : Word) → subgoal_of (resized n f a t) w ≡ subgoal_of t w
  unfolding subgoal_of
  subgoal_of-larger t w = refl

  answer_of-larger : (t : Table) (s : ℕ) (w : Word) → answer_of (resized n f a t) s w ≡ answer_of t s w
  unfolding answer_of
  answer_of-larger t s w = refl

  subgoal-larger : (t : Table) (s : ℕ) → subgoal_at (resized n f a t) s ≡ subgoal_at t s
  unfolding subgoal_at
  subgoal-larger t s = refl

  reasoned-larger : (t : Table) (cs : List ℕ) (r : Reading) → reasoned (resized n f a t) cs r ≡ reasoned t cs r
  unfolding reasoned newness sharing subgoal_of
  reasoned-larger t cs (reading.refused r) = refl
  reasoned-larger t cs (reading.accepted w m) = refl

  -- ---- what is changed

  settled-larger : (t : Table) (s : ℕ) → settled (resized n f a t) s ≡ resized n f a (settled t s)
  unfolding settled subgoal_at
  settled-larger t s = by_cases (eqb (subgoal_at t s).m 0) (λ q. rw q refl) (λ q. rw q refl)

  entry-larger : (t : Table) (s : ℕ) (w : Word) → with_entry (resized n f a t) s w ≡ resized n f a (with_entry t s w)
  entry-larger t s w = settled-larger (with_answer t s w) s

  given-larger : (t : Table) (s : ℕ) (w : Word) → given (resized n f a t) s w ≡ resized n f a (given t s w)
  unfolding given
  given-larger t s w = by_cases (eqb (answer_of t s w) 0)
      (λ q. rw (answer_of-larger t s w, q) (entry-larger t s w))
      (λ q. rw (answer_of-larger t s w, q) refl)

  entered-larger : (t : Table) (s : ℕ) (ws : List Word) → entered (resized n f a t) s ws ≡ resized n f a (entered t s ws)
  unfolding entered
  entered-larger t s [] = refl
  entered-larger t s (w ∷ ws) = ap (λ (x : Table). entered x s ws) (given-larger t s w) ∙ entered-larger (given t s w) s ws

  -- ---- answers

  fits-larger : (t : Table) (N : ℕ) → N ≤ n → fits t N ≡ true → fits (resized n f a t) n ≡ true
  unfolding fits nodes
  fits-larger t N l e = let h : nodes t ≤ N = leb-true _ _ e in le-leb (nodes t) n (omega arith)

  known-larger : (t : Table) (out : List ℕ) (k s : ℕ) (r r' : Result Table) → (HadRoom r.reply → r' ≡ resized_result n f a r)
      → HadRoom (known t out k s r).reply → known (resized n f a t) out k s r' ≡ resized_result n f a (known t out k s r)
  known-larger t out k s r r' g e = by_cases (ltb 0 s)
      (λ p. by_cases (leb s k) (λ q. rw (p, q) (g (rw (p, q) at e))) (λ q. rw (p, q) refl))
      (λ p. rw p refl)

  appended-larger : (t more : Table) (room room' : Bool) (k : ℕ) → t.N ≤ n → (room ≡ true → room' ≡ true) → HadRoom (appended t more room k).reply
      → appended (resized n f a t) (resized n f a more) room' k ≡ resized_result n f a (appended t more room k)
  unfolding appended
  appended-larger t more true room' k l g e = by_cases (fits more t.N)
      (λ q. rw (q, fits-larger more t.N l q, g refl) refl)
      (λ q. let z : HadRoom (refused 10) = rw q at e in absurd (z.0 refl))
  appended-larger t more false room' k l g e = by_cases (fits more t.N)
      (λ q. let z : HadRoom (refused 11) = rw q at e in absurd (z.1 refl))
      (λ q. let z : HadRoom (refused 10) = rw q at e in absurd (z.0 refl))

  room-larger : (k F G : ℕ) → F ≤ G → ltb k F ≡ true → ltb k G ≡ true
  room-larger k F G l e = let h : k < F = ltb-true _ _ e in lt-ltb k G (omega arith)

  called-larger : (t : Table) (r : Reading) → t.N ≤ n → t.F ≤ f → HadRoom (called t r).reply → called (resized n f a t) r ≡ resized_result n f a (called t r)
  unfolding called
  called-larger t (reading.refused r) l m e = refl
  called-larger t (reading.accepted w k) l m e = by_cases (eqb (subgoal_of t w) 0)
      (λ q. rw (subgoal_of-larger t w, q)
      (appended-larger t (with_subgoal t w k) (ltb (length t.subgoals) t.F) (ltb (length t.subgoals) f) (suc (length t.subgoals)) l (room-larger _ _ _ m) (rw q at e)))
      (λ q. rw (subgoal_of-larger t w, q, subgoal-larger t (subgoal_of t w)) refl)

  while-larger : (t : Table) (x : State) (r r' : Result Table) → (HadRoom r.reply → r' ≡ resized_result n f a r)
      → HadRoom (while_open t x r).reply → while_open (resized n f a t) x r' ≡ resized_result n f a (while_open t x r)
  while-larger t Open r r' g e = g e
  while-larger t Finished r r' g e = refl

  entry-appended : (t : Table) (s : ℕ) (w : Word) → t.N ≤ n → t.A ≤ a → (let k = length t.answers in
      HadRoom (appended t (with_entry t s w) (ltb k t.A) (suc k)).reply
      → appended (resized n f a t) (with_entry (resized n f a t) s w) (ltb k a) (suc k) ≡ resized_result n f a (appended t (with_entry t s w) (ltb k t.A) (suc k)))
  entry-appended t s w l m e =
      ap (λ (x : Table). appended (resized n f a t) x (ltb (length t.answers) a) (suc (length t.answers))) (entry-larger t s w)
      ∙ appended-larger t (with_entry t s w) (ltb (length t.answers) t.A) (ltb (length t.answers) a) (suc (length t.answers)) l (room-larger _ _ _ m) e

  answered-larger : (t : Table) (s : ℕ) (r : Reading) → t.N ≤ n → t.A ≤ a → HadRoom (answered t s r).reply
      → answered (resized n f a t) s r ≡ resized_result n f a (answered t s r)
  unfolding answered
  answered-larger t s (reading.refused r) l m e = refl
  answered-larger t s (reading.accepted w k) l m e = by_cases (eqb (answer_of t s w) 0)
      (λ q. rw (answer_of-larger t s w, q, subgoal-larger t s)
      (while-larger t (subgoal_at t s).state _ _ (entry-appended t s w l m) (rw q at e)))
      (λ q. rw (answer_of-larger t s w, q) refl)

  joining-larger : (t : Table) (s : ℕ) (x : Forms) → t.N ≤ n → t.A ≤ a → HadRoom (joining t s x).reply
      → joining (resized n f a t) s x ≡ resized_result n f a (joining t s x)
  unfolding joining
  joining-larger t s (declined r) l m e = refl
  joining-larger t s (formed ws) l m e = by_cases (fits (entered t s ws) t.N)
      (λ p. by_cases (leb (length (entered t s ws).answers) t.A)
      (λ q. let h : length (entered t s ws).answers ≤ t.A = leb-true _ _ q in
      rw (p, q, entered-larger t s ws, fits-larger (entered t s ws) t.N l p, le-leb (length (entered t s ws).answers) a (omega arith)) refl)
      (λ q. let z : HadRoom (refused 11) = rw (p, q) at e in absurd (z.1 refl)))
      (λ p. let z : HadRoom (refused 10) = rw p at e in absurd (z.0 refl))

  writes-larger : (t : Table) (cs out : List ℕ) → writes (resized n f a t) cs out ≡ resized_result n f a (writes t cs out)
  unfolding writes
  writes-larger t cs out = by_cases (leb (length cs) (length out)) (λ q. rw q refl) (λ q. rw q refl)

module _ (c : Coding) (n f a : ℕ) where
  pub larger-accepts : LargerAccepts c n f a
  unfolding step subgoal_at answer_at side_of
  larger-accepts t (call_least cs x) l m k e = called-larger n f a t (naming x (c.called cs)) l m e
  larger-accepts t (answer s cs) l m k e =
      known-larger n f a t [] (length t.subgoals) s _ _ (λ z. answered-larger n f a t s (c.answered (subgoal_at t s).m cs) l k z) e
  larger-accepts t (finish s) l m k e = known-larger n f a t [] (length t.subgoals) s _ _ (λ z. refl) e
  larger-accepts t (next s b) l m k e = known-larger n f a t [] (length t.subgoals) s _ _ (λ z. unfold starting onward following in refl) e
  larger-accepts t (load b out) l m k e = known-larger n f a t out (length t.answers) b _ _ (λ z. writes-larger n f a t _ out) e
  larger-accepts t (instance b out) l m k e = known-larger n f a t out (length t.answers) b _ _ (λ z. writes-larger n f a t _ out) e
  larger-accepts t counts l m k e = unfold counted nodes in refl
  larger-accepts t (join x y ps s cs) l m k e =
      known-larger n f a t [] (length t.subgoals) x _ _
      (λ z. known-larger n f a t [] (length t.subgoals) y _ _
      (λ z1. known-larger n f a t [] (length t.subgoals) s _ _
      (λ z2. joining-larger n f a t s (join_of c (side_of t x) (side_of t y) ps (subgoal_at t s).state (subgoal_at t s).m cs) l k z2) z1) z) e
  larger-accepts t (why cs) l m k e = ap (λ (r : Reply). record { reply = r; out = []; state = resized n f a t }) (reasoned-larger n f a t cs (c.called cs))
  larger-accepts t (detours gs b) l m k e = unfold detouring goal_of in refl

  pub larger-shows : LargerShows c n f a
  unfolding trace left AllHadRoom
  larger-shows t [] l m k e = (refl, refl)
  larger-shows t (q ∷ qs) l m k e =
      let u : Table = (step c t q).state in
      let g = step-grows c t q in
      let x : step c (resized n f a t) q ≡ resized_result n f a (step c t q) = larger-accepts t q l m k e.0 in
      let r = larger-shows u qs (omega (arith, g.N)) (omega (arith, g.F)) (omega (arith, g.A)) e.1 in (
        ap (λ (y : Result Table). record { reply = y.reply; counted = counted y.state; out = y.out } ∷ table_trace c y.state qs) x
            ∙ rw (counted-larger n f a u, r.0) refl,
        ap (λ (y : Result Table). left (step c) y.state qs) x ∙ r.1,
      )
