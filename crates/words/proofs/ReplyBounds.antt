-- Every answer of the calls and of fresh is one that a result word holds: no refusal above 22, and at most 256 * 257 cells.
use Prim.Native.Nat.{ℕ, zero, suc, ◌+◌, ◌*◌, ◌-◌, ◌^◌, ◌≤◌, ◌<◌}
use mathlib.Core.Bool.{Bool, true, false, ◌&&◌}
use mathlib.Core.List.{List, [], ◌∷◌, map}
use mathlib.Core.Path.{◌≡◌, refl, ap}
use native.Mathlib.Omega.{arith}
use lib.Dec.{eqb, leb, ltb}
use lib.ListN.{length, get_or, length-append}
use Rattle.std.specs.Prelude.{Ok, Err, ◌%◌, ◌/◌}
use Rattle.trie.proofs.WalkLaws.{both_true}
use Rattle.convert.proofs.ReadingLaws.{refusal-small}
use Rattle.basis.specs.Choice.{pick}
use Rattle.basis.specs.Editions.{known_edition}
use Rattle.basis.specs.Refusals.{number_of}
use Rattle.basis.proofs.Cases.{by_cases}
use Rattle.forms.specs.Cells.{variable, payload, arity_of}
use Rattle.forms.specs.Terms.{Term, cell, arg, pair, pairs, every}
use Rattle.forms.specs.Numbering.{met}
use Rattle.forms.specs.Converting.{reading}
use Rattle.forms.specs.Converting as forms
use Rattle.forms.proofs.StoredLaws.{stored_of_lem}
use Rattle.forms.specs.Stored.{stored_of}
use Rattle.plain.specs.Coding.{Reading, refused, accepted, handed_on, judged, predicate, taken, substituted, coding_of, naming}
use Rattle.plain.specs.Requests.{State, Open, Finished, Request, call_least, answer, finish, next, load, instance, counts, join, why, detours, lent, Reply, old_subgoal, old_answer}
use Rattle.plain.specs.Requests.{at, lacks_next, refused}
use Rattle.plain.specs.Words.{Word}
use Rattle.plain.specs.Detours.{any_open, few_goals, goals_fit, detours_of, all_within}
use Rattle.plain.specs.Joins.{Forms, declined, formed, join_of}
use Rattle.plain.proofs.Changes.{Read, all_read_lem, join-cases}
use Rattle.plain.proofs.StoredCoding.{coding-laws}
use Rattle.space.specs.Layout.{sizes_of}
use Rattle.space.specs.Heading.{Header, header_of, space_header, capacity, counted, in_range}
use Rattle.space.specs.Heading as heading
use Rattle.space.specs.Fresh.{fresh_fits, fresh_answer, fresh_answer_in}
use Rattle.trie.specs.Siblings.{search_children}
use Rattle.trie.specs.Walks.{Walk, whole, stopped, damaged, root_sound, Finding, walk_by}
use Rattle.trie.specs.Paths.{Path, tokens, gather, longest}
use Rattle.trie.specs.Paths as path
use Rattle.store.specs.Views.{View, view_of, subgoal_trie, answer_trie}
use Rattle.store.specs.Decisions.{Decision, says, gives, enters_subgoal, enters_answer, enters_empty, finishes, enters_answers, refuses, sound_subgoal, sound_answer}
use Rattle.store.specs.Decisions.{sound_answer_of, sound, known, state_of, sound_last, while_open, called_old, called_new, called_at, called_by, answered_new, answered_old}
use Rattle.store.specs.Decisions.{answered_at, answered_by, starting, handed, onward, on_path, loaded, instanced, sound_pair, Chain, broken, unbroken, chain_of, on_chains, side_in}
use Rattle.store.specs.Decisions.{all_sound_by, nodes_needed_by, answers_needed_by, joining_by, Way, astray, leads, firsts_from, named_by, new_at, reasoned_at, reasoned_by, Goals}
use Rattle.store.specs.Decisions.{unsound, goals, goals_in, detours_in, sound_target, decide_by}
use Rattle.store.specs.Calls.{reply, under_by, under_any_by, space_step_by, space_step}
use Rattle.growing.specs.Growing.{enough, grow_under, grow_reply}
use Rattle.words.specs.Words.{said_fresh}
use Rattle.words.specs.Bounded.{Bounded}
use Rattle.plain.proofs.Naming.{naming-cases}

-- ---- the cells of an instance

got-cells : (us : List Term) (i c : ℕ) → length (pairs (get_or us i (cell c))) ≤ 1 + length (every pairs us)
unfolding pairs every
got-cells [] i c = omega arith
got-cells (u ∷ us) zero c = simp length-append (omega arith)
got-cells (u ∷ us) (suc i) c = simp length-append (omega (arith, got-cells us i c))

module _ (us : List Term) (few : length (every pairs us) ≤ 256) where
  term-cells : (t : Term) → length (pairs (substituted us t)) ≤ 257 * length (pairs t)
  unfolding pairs substituted
  term-cells (cell c) = by_cases (variable c) (λ q. rw q (omega (arith, got-cells us (payload c) c))) (λ q. rw q (omega arith))
  term-cells (arg f a) = simp length-append (omega (arith, term-cells f, term-cells a))
  term-cells (pair h t) = simp length-append (omega (arith, term-cells h, term-cells t))

  all-cells : (ts : List Term) → length (every pairs (map (substituted us) ts)) ≤ 257 * length (every pairs ts)
  unfolding every
  all-cells [] = omega arith
  all-cells (t ∷ ts) = simp length-append (omega (arith, term-cells t, all-cells ts))

short-cells : (e m : ℕ) (w : Word) → (stored_of e).legal m w ≡ true → length ((stored_of e).cells w) ≤ 256
short-cells e m w h = ((stored_of_lem e).demand.loaded m w h).0.cells

legal-cells : (e m : ℕ) (w : Word) → (stored_of e).legal m w ≡ true → length (every pairs ((stored_of e).terms w)) ≤ 256
legal-cells e m w h =
    let laws = stored_of_lem e in
    omega (arith, short-cells e m w h, ap length (laws.exact-terms m w (laws.legal-exact m w h)).cells)

-- ---- decisions

abbrev Small : Decision → Type 0
Small (says r) = Bounded r
Small (gives ks) = length ks < 2 ^ 32
Small (enters_subgoal parent last left m) = Unit {0}
Small (enters_answer s parent last left) = Unit {0}
Small (enters_empty s) = Unit {0}
Small (finishes s) = Unit {0}
Small (enters_answers s ws) = Unit {0}

-- a test and its refusal
small-pick : (b : Bool) (d : Decision) (r : ℕ) → r ≤ 22 → (b ≡ true → Small d) → Small (pick b d (refuses r))
small-pick true d r h f = f refl
small-pick false d r h f = h

-- two tests, each with its refusal
small-tests : (a b : Bool) (d : Decision) (i j : ℕ) → i ≤ 22 → j ≤ 22 → Small d → Small (pick a (pick b d (refuses i)) (refuses j))
small-tests true b d i j h k f = small-pick b d i h (λ q. f)
small-tests false b d i j h k f = k

small-either : (b : Bool) (d e : Decision) → Small d → Small e → Small (pick b d e)
small-either true d e f g = f
small-either false d e f g = g

module _ (d : Decision) where
  small-sound : (b : Bool) → (b ≡ true → Small d) → Small (sound b d)
  small-sound b f = small-pick b d 9 (omega arith) f

  small-known : (n s : ℕ) → Small d → Small (known n s d)
  small-known n s f = small-tests (ltb 0 s) (leb s n) d 7 7 (omega arith) (omega arith) f

  small-while : (x : State) → Small d → Small (while_open x d)
  small-while Open f = f
  small-while Finished f = omega arith

module _ (v : View) where
  small-called-old : (leaf s : ℕ) → Small (called_old v leaf s)
  unfolding called_old
  small-called-old leaf s =
      small-sound (says (old_subgoal s (state_of (v.subgoal s).state))) (ltb 0 s && sound_subgoal v s && eqb (v.subgoal s).leaf leaf) (λ q. tt)

  small-called-at : (w : Walk) (m : ℕ) → Small (called_at v w m)
  unfolding called_at called_new
  small-called-at (whole leaf) m = small-called-old leaf (v.node leaf).link
  small-called-at (stopped parent last left) m =
      small-tests (leb (v.nodes + length left + 1) v.N) (ltb v.subgoals v.F) (enters_subgoal parent last left m) 11 10 (omega arith) (omega arith) tt
  small-called-at damaged m = omega arith

  small-named : (leaf : ℕ) (say : ℕ → Reply) → ((s : ℕ) → Bounded (say s)) → Small (named_by v leaf say)
  unfolding named_by
  small-named leaf say f =
      let s = (v.node leaf).link in small-sound (says (say s)) (ltb 0 s && sound_subgoal v s && eqb (v.subgoal s).leaf leaf) (λ q. f s)

  small-new-at : (n : ℕ) (x : Way) → Small (new_at v n x)
  unfolding new_at
  small-new-at n astray = omega arith
  small-new-at n (leads leaf) = small-named leaf _ (λ s. tt)

  small-reasoned-at : (vs : List ℕ) (w : Word) (x : Walk) → Small (reasoned_at v vs w x)
  unfolding reasoned_at
  small-reasoned-at vs w (whole leaf) = small-named leaf _ (λ s. tt)
  small-reasoned-at vs w (stopped parent last left) =
      small-either (eqb (length w - length left) 0) _ (new_at v (length w - length left) (firsts_from v v.nodes parent)) tt (small-new-at (length w - length left) (firsts_from v v.nodes parent))
  small-reasoned-at vs w damaged = omega arith

  small-answered-new : (s more : ℕ) (d : Decision) → Small d → Small (answered_new v s more d)
  unfolding answered_new
  small-answered-new s more d f =
      let x : State = state_of (v.subgoal s).state in
      let room : Decision = pick (leb (v.nodes + more) v.N) (pick (ltb v.answers v.A) d (refuses 11)) (refuses 10) in
      small-sound (while_open x room) (sound_last v s)
      (λ q. small-while room x (small-tests (leb (v.nodes + more) v.N) (ltb v.answers v.A) d 11 10 (omega arith) (omega arith) f))

  small-answered-old : (s : ℕ) (w : Word) (leaf a : ℕ) → Small (answered_old v s w leaf a)
  unfolding answered_old
  small-answered-old s w leaf a =
      small-either (eqb a 0) (pick (eqb (length w) 0) (answered_new v s 0 (enters_empty s)) (refuses 9)) (sound (sound_answer v a && eqb (v.answer a).leaf leaf) (says (old_answer a)))
      (small-pick (eqb (length w) 0) (answered_new v s 0 (enters_empty s)) 9 (omega arith) (λ q. small-answered-new s 0 (enters_empty s) tt))
      (small-sound (says (old_answer a)) (sound_answer v a && eqb (v.answer a).leaf leaf) (λ q. tt))

  small-answered-at : (s : ℕ) (w : Word) (x : Walk) → Small (answered_at v s w x)
  unfolding answered_at
  small-answered-at s w (whole leaf) = small-answered-old s w leaf (v.node leaf).link
  small-answered-at s w (stopped parent last left) = small-answered-new s (length left) (enters_answer s parent last left) tt
  small-answered-at s w damaged = omega arith

  small-lacks : (x : State) → Small (says (lacks_next x))
  small-lacks Open = tt
  small-lacks Finished = tt

  small-handed : (s a : ℕ) → Small (handed v s a)
  unfolding handed
  small-handed s a =
      small-either (eqb a 0) (says (lacks_next (state_of (v.subgoal s).state))) (sound (sound_answer_of v s a) (says (at a)))
      (small-lacks (state_of (v.subgoal s).state)) (small-sound (says (at a)) (sound_answer_of v s a) (λ q. tt))

  small-onward : (s a : ℕ) → Small (onward v s a)
  unfolding onward
  small-onward s a =
      let first = handed v s (v.subgoal s).first in
      let after = handed v s (v.answer a).next in
      small-sound (pick (eqb a 0) first (sound (sound_answer v a) after)) (sound_subgoal v s)
      (λ q. small-either (eqb a 0) first (sound (sound_answer v a) after)
      (small-handed s (v.subgoal s).first) (small-sound after (sound_answer v a) (λ z. small-handed s (v.answer a).next)))

small-path : (p : Path) (test : Word → Bool) (d : Word → Decision) → ((w : Word) → test w ≡ true → Small (d w)) → Small (on_path p test d)
unfolding on_path
small-path path.none test d f = omega arith
small-path (tokens w) test d f = small-sound (d w) (test w) (f w)

-- ---- readings

abbrev SmallReading : Reading → Type 0
SmallReading (refused r) = r ≤ 22
SmallReading (accepted w m) = Unit {0}

abbrev pub SmallHeader : Header → Type 0
SmallHeader (Ok h) = Unit {0}
SmallHeader (Err r) = number_of r ≤ 22

-- the calls on a space of edition ed, by any way of finding a child
module _ (find : Finding) (ed : ℕ) where
  handed_on-small : (m : ℕ) (cs : List ℕ) (x : forms.Reading) (legal : Reading) → x ≡ reading (arity_of ed) (stored_of ed) m cs → SmallReading legal → SmallReading (handed_on x legal)
  unfolding handed_on
  handed_on-small m cs (Ok form) legal e f = f
  handed_on-small m cs (Err r) legal e f = omega (arith, refusal-small (arity_of ed) (stored_of ed) m r cs e)

  judged-small : (m : ℕ) (cs : List ℕ) (legal : Reading) → SmallReading legal → SmallReading (judged (arity_of ed) (stored_of ed) m cs legal)
  unfolding judged
  judged-small m cs legal f = handed_on-small m cs (reading (arity_of ed) (stored_of ed) m cs) legal refl f

  taken-small : (cs : List ℕ) → SmallReading (taken (stored_of ed) cs)
  unfolding taken
  taken-small cs = tt

  callable-small : (b : Bool) (cs : List ℕ) → SmallReading (pick b (taken (stored_of ed) cs) (refused 6))
  callable-small true cs = taken-small cs
  callable-small false cs = omega arith

  small-called : (v : View) (r : Reading) → SmallReading r → Small (called_by find v r)
  unfolding called_by
  small-called v (refused r) f = f
  small-called v (accepted w m) f = small-called-at v (walk_by find (subgoal_trie v) 0 w) m

  small-reasoned : (v : View) (cs : List ℕ) (r : Reading) → SmallReading r → Small (reasoned_by find v cs r)
  unfolding reasoned_by
  small-reasoned v cs (refused r) f = f
  small-reasoned v cs (accepted w m) f = small-reasoned-at v (met [] cs) w (walk_by find (subgoal_trie v) 0 w)

  small-answered : (v : View) (s : ℕ) (r : Reading) → SmallReading r → Small (answered_by find v s r)
  unfolding answered_by
  small-answered v s (refused r) f = f
  small-answered v s (accepted w m) f = small-answered-at v s w (walk_by find (answer_trie v) (v.subgoal s).root w)

  -- ---- the header

  header-whole : (least size low high : ℕ) (f : ℕ → Header) → ((n : ℕ) → SmallHeader (f n)) → SmallHeader (heading.whole (capacity least size low high) f)
  unfolding heading.whole capacity
  header-whole least size low high f g = by_cases (ltb high low) (λ q. rw q (omega arith))
      (λ q. rw q (by_cases (eqb ((high - low) % size) 0)
      (λ r. rw r (by_cases (in_range least ((high - low) / size)) (λ k. rw k (g ((high - low) / size))) (λ k. rw k (omega arith))))
      (λ r. rw r (omega arith))))

  header-counted : (s : List ℕ) (n f a : ℕ) → SmallHeader (counted s n f a)
  unfolding counted
  header-counted s n f a = by_cases (ltb (length s) (get_or s 7 0)) (λ q. rw q (omega arith))
      (λ q. rw q (by_cases (eqb (get_or s 1 0) 0) (λ q. rw q (omega arith))
      (λ q. rw q (by_cases (ltb n (get_or s 1 0)) (λ q. rw q (omega arith))
      (λ q. rw q (by_cases (ltb f (get_or s 2 0)) (λ q. rw q (omega arith))
      (λ q. rw q (by_cases (ltb a (get_or s 3 0)) (λ q. rw q (omega arith)) (λ q. rw q tt)))))))))

  header-small : (s : List ℕ) → SmallHeader (header_of (sizes_of ed) s)
  unfolding header_of
  header-small s = by_cases (ltb (length s) 8) (λ q. rw q (omega arith))
      (λ q. rw q (by_cases (eqb (get_or s 0 0) ed)
      (λ q. rw q (by_cases (eqb (get_or s 4 0) 8)
      (λ q. rw q (header-whole 1 (sizes_of ed).node 8 (get_or s 5 0)
      (λ n. heading.whole (capacity 0 (sizes_of ed).subgoal (get_or s 5 0) (get_or s 6 0)) (λ f. heading.whole (capacity 0 (sizes_of ed).answer (get_or s 6 0) (get_or s 7 0)) (λ a. counted s n f a)))
      (λ n. header-whole 0 (sizes_of ed).subgoal (get_or s 5 0) (get_or s 6 0) (λ f. heading.whole (capacity 0 (sizes_of ed).answer (get_or s 6 0) (get_or s 7 0)) (λ a. counted s n f a))
      (λ f. header-whole 0 (sizes_of ed).answer (get_or s 6 0) (get_or s 7 0) (λ a. counted s n f a) (header-counted s n f)))))
      (λ q. rw q (omega arith))))
      (λ q. rw q (omega arith))))

  -- ---- the eight calls

  small-load : (v : View) (a : ℕ) → Small (loaded (coding_of ed) v a (λ w. gives ((stored_of ed).cells w)))
  unfolding loaded
  small-load v a =
      let g = v.subgoal (v.answer a).subgoal in
      small-path (gather longest (answer_trie v) g.root (v.answer a).leaf) ((stored_of ed).legal g.variables) (λ w. gives ((stored_of ed).cells w))
      (λ w l. omega (arith, short-cells ed g.variables w l))

  small-instanced : (v : View) (s : ℕ) (w : Word) → length (every pairs ((stored_of ed).terms w)) ≤ 256 → Small (instanced (coding_of ed) v s (λ u. gives ((coding_of ed).instance_of u w)))
  unfolding instanced
  small-instanced v s w l =
      let g = v.subgoal s in
      small-path (gather longest (subgoal_trie v) 0 g.leaf) (λ u. (stored_of ed).legal 1 u && eqb (length (met [] u)) g.variables) (λ u. gives ((coding_of ed).instance_of u w))
      (λ u k. omega (arith, all-cells ((stored_of ed).terms w) l ((stored_of ed).terms u), legal-cells ed 1 u (both_true ((stored_of ed).legal 1 u) (eqb (length (met [] u)) g.variables) k).0))

  small-instance : (v : View) (a : ℕ) → Small (loaded (coding_of ed) v a (λ w. instanced (coding_of ed) v (v.answer a).subgoal (λ u. gives ((coding_of ed).instance_of u w))))
  unfolding loaded
  small-instance v a =
      let s = (v.answer a).subgoal in
      let g = v.subgoal s in
      small-path (gather longest (answer_trie v) g.root (v.answer a).leaf) ((stored_of ed).legal g.variables) (λ w. instanced (coding_of ed) v s (λ u. gives ((coding_of ed).instance_of u w)))
      (λ w l. small-instanced v s w (legal-cells ed g.variables w l))

  -- a join: reading refuses by 3 to 5, the rule by 8 and 14 to 16
  small-joining : (v : View) (s m : ℕ) (x : Forms) → Read (coding_of ed) m x → Small (joining_by find v s x)
  unfolding joining_by
  small-joining v s m (declined r) e = omega (arith, ((coding-laws ed).answered-refused m e.0 r e.1).1)
  small-joining v s m (formed ws) e =
      small-sound _ (all_sound_by find v s ws && pick (eqb (answers_needed_by find v s [] ws) 0) true (sound_last v s)) (λ q.
      small-tests (leb (v.nodes + nodes_needed_by find v s [] ws) v.N) (leb (v.answers + answers_needed_by find v s [] ws) v.A) (enters_answers s ws) 11 10 (omega arith) (omega arith) tt)

  small-declined : (v : View) (s r : ℕ) → r ≤ 22 → Small (joining_by find v s (declined r))
  unfolding joining_by
  small-declined v s r h = h

  small-chains : (v : View) (s f g : ℕ) (ps cs : List ℕ) (x y : Chain)
      → Small (on_chains x y (λ us vs. joining_by find v s (join_of (coding_of ed) (side_in v f us) (side_in v g vs) ps (state_of (v.subgoal s).state) (v.subgoal s).variables cs)))
  unfolding on_chains
  small-chains v s f g ps cs broken y = omega arith
  small-chains v s f g ps cs (unbroken us) broken = omega arith
  small-chains v s f g ps cs (unbroken us) (unbroken vs) =
      join-cases (λ x. Small (joining_by find v s x)) (coding_of ed) (side_in v f us) (side_in v g vs) ps (state_of (v.subgoal s).state) (v.subgoal s).variables cs
      (small-declined v s 8 (omega arith)) (small-declined v s 14 (omega arith)) (small-declined v s 15 (omega arith)) (small-declined v s 16 (omega arith))
      (λ o. small-joining v s (v.subgoal s).variables _ (all_read_lem (coding_of ed) (v.subgoal s).variables _))

  small-detours : (x : Goals) (b : ℕ) → Small (detours_in (coding_of ed) x b)
  unfolding detours_in detours_of
  small-detours unsound b = omega arith
  small-detours (goals gs) b = by_cases (any_open gs)
      (λ e. rw e (omega arith))
      (λ e. by_cases (few_goals gs && goals_fit (coding_of ed) gs) (λ f. rw (e, f) tt) (λ f. rw (e, f) (omega arith)))

  decide-small : (v : View) (q : Request) → Small (decide_by find (coding_of ed) v q)
  unfolding decide_by
  decide-small v (call_least cs x) =
      let r = (coding_of ed).called cs in
      small-called v (naming x r)
      (naming-cases SmallReading x r (judged-small 1 cs (pick (predicate cs) (taken (stored_of ed) cs) (refused 6)) (callable-small (predicate cs) cs)) (omega arith))
  decide-small v (answer s cs) =
      let g = v.subgoal s in
      let r = (coding_of ed).answered g.variables cs in
      small-known (sound (sound_subgoal v s && root_sound (answer_trie v) g.root) (answered_by find v s r)) v.subgoals s
      (small-sound (answered_by find v s r) (sound_subgoal v s && root_sound (answer_trie v) g.root)
      (λ q. small-answered v s r (judged-small g.variables cs (taken (stored_of ed) cs) (taken-small cs))))
  decide-small v (finish s) =
      small-known (sound (sound_subgoal v s) (finishes s)) v.subgoals s (small-sound (finishes s) (sound_subgoal v s) (λ q. tt))
  decide-small v (next s a) =
      small-known (pick (starting v s a) (onward v s a) (refuses 7)) v.subgoals s
      (small-pick (starting v s a) (onward v s a) 7 (omega arith) (λ q. small-onward v s a))
  decide-small v (load a out) =
      let d = loaded (coding_of ed) v a (λ w. gives ((stored_of ed).cells w)) in
      small-known (sound (sound_pair v a) d) v.answers a (small-sound d (sound_pair v a) (λ q. small-load v a))
  decide-small v (instance a out) =
      let d = loaded (coding_of ed) v a (λ w. instanced (coding_of ed) v (v.answer a).subgoal (λ u. gives ((coding_of ed).instance_of u w))) in
      small-known (sound (sound_pair v a) d) v.answers a (small-sound d (sound_pair v a) (λ q. small-instance v a))
  decide-small v counts = tt
  decide-small v (join f g ps s cs) =
      small-known _ v.subgoals f (small-known _ v.subgoals g (small-known _ v.subgoals s
      (small-sound _ (sound_subgoal v f && sound_subgoal v g && sound_target v s) (λ q. small-chains v s f g ps cs (chain_of (coding_of ed) v f) (chain_of (coding_of ed) v g)))))
  decide-small v (why cs) =
      small-reasoned v cs ((coding_of ed).called cs) (judged-small 1 cs (pick (predicate cs) (taken (stored_of ed) cs) (refused 6)) (callable-small (predicate cs) cs))
  decide-small v (detours ss b) =
      small-pick (all_within v.subgoals ss) (detours_in (coding_of ed) (goals_in (coding_of ed) v ss) b) 7 (omega arith) (λ q. small-detours (goals_in (coding_of ed) v ss) b)

  reply-bounded : (v : View) (d : Decision) (room after : ℕ) → Small d → Bounded (reply v d room after)
  unfolding reply
  reply-bounded v (says r) room after f = f
  reply-bounded v (gives ks) room after f = by_cases (leb (length ks) room) (λ q. rw q f) (λ q. rw q f)
  reply-bounded v (enters_subgoal parent last left m) room after f = tt
  reply-bounded v (enters_answer s parent last left) room after f = tt
  reply-bounded v (enters_empty s) room after f = tt
  reply-bounded v (finishes s) room after f = tt
  reply-bounded v (enters_answers s ws) room after f = tt

  under-bounded : (s : List ℕ) (q : Request) (h : Header) → SmallHeader h → Bounded (under_by find (sizes_of ed) (coding_of ed) s q h).reply
  unfolding under_by
  under-bounded s q (Ok h) f = reply-bounded (view_of (sizes_of ed) s h) (decide_by find (coding_of ed) (view_of (sizes_of ed) s h) q) (length (lent q)) _ (decide-small (view_of (sizes_of ed) s h) q)
  under-bounded s q (Err r) f = f

pub any_small : (s : List ℕ) → SmallHeader (space_header s)
unfolding space_header
any_small s = by_cases (known_edition (get_or s 0 0)) (λ q. rw q (header-small search_children (get_or s 0 0) s)) (λ q. rw q (omega arith))

any-bounded : (find : Finding) (s : List ℕ) (q : Request) (h : Header) → SmallHeader h → Bounded (under_any_by find s q h).reply
unfolding under_any_by
any-bounded find s q (Ok h) f = under-bounded find h.edition s q (Ok h) f
any-bounded find s q (Err r) f = f

pub step-bounded : (find : Finding) (s : List ℕ) (q : Request) → Bounded (space_step_by find s q).reply
unfolding space_step_by
step-bounded find s q = any-bounded find s q (space_header s) (any_small s)

-- of the two calls whose words hold a count of cells, by the search among siblings
pub load-bounded : (s : List ℕ) (a : ℕ) (out : List ℕ) → Bounded (space_step s (load a out)).reply
load-bounded s a out = step-bounded search_children s (load a out)

pub instance-bounded : (s : List ℕ) (a : ℕ) (out : List ℕ) → Bounded (space_step s (instance a out)).reply
instance-bounded s a out = step-bounded search_children s (instance a out)

pub fresh-bounded : (e n f a : ℕ) (s : List ℕ) → Bounded (said_fresh (fresh_answer_in e n f a s))
unfolding fresh_answer_in fresh_answer
fresh-bounded e n f a s = by_cases (known_edition e)
    (λ k. by_cases (fresh_fits (sizes_of e) n f a s) (λ q. rw (k, q) tt) (λ q. rw (k, q) (omega arith)))
    (λ k. rw k (omega arith))

grow-small : (n f a : ℕ) (s : List ℕ) (x : Header) → SmallHeader x → Bounded (said_fresh (grow_under n f a s x))
unfolding grow_under
grow-small n f a s (Ok h) k = by_cases (fresh_fits (sizes_of h.edition) n f a s)
    (λ q. by_cases (enough n f a h) (λ e. rw (q, e) tt) (λ e. rw (q, e) (omega arith)))
    (λ q. rw q (omega arith))
grow-small n f a s (Err r) k = k

pub grow-bounded : (n f a : ℕ) (s : List ℕ) → Bounded (said_fresh (grow_reply n f a s))
unfolding grow_reply
grow-bounded n f a s = grow-small n f a s (space_header s) (any_small s)
