-- A join: both sides read the same sources, follow one rule, count alike, and enter every form or none.
use Rattle.std.specs.Prelude.{Ok}
use mathlib.Core.Path.{◌≡◌, refl, sym, ap, ◌∙◌}
use mathlib.Core.Bool.{Bool, true, false, true≢false, false≢true}
use mathlib.Core.List.{List, []}
use mathlib.Core.Logic.{inl}
use Prim.Native.Nat.{ℕ, ◌+◌, ◌-◌, ◌≤◌, ◌<◌}
use native.Mathlib.Omega.{arith}
use lib.Dec.{eqb, leb, ltb}
use lib.ListN.{length}
use borrow.Author.Tests.{ltb-true, leb-true}
use Rattle.basis.specs.Choice.{pick}
use Rattle.basis.proofs.Cases.{by_cases}
use Rattle.plain.specs.Words.{Word}
use Rattle.plain.specs.Coding.{Coding}
use Rattle.plain.specs.CodingLaws.{CodingLaws}
use Rattle.plain.specs.Joins.{Forms, declined, formed, Side, join_of}
use Rattle.plain.specs.Requests.{Open, join, Counts, Reply, joined, refused, Result}
use Rattle.plain.specs.Table as table
use Rattle.plain.specs.Table.{Table, counted, subgoal_at, answers_to, nodes, entered, side_of, stays, becomes, step}
use Rattle.plain.proofs.EnteringLaws.{entering}
use Rattle.plain.proofs.Changes.{Readable, Read, all_read_lem, join-cases}
use Rattle.space.specs.Layout.{Sizes}
use Rattle.space.specs.Heading.{header_of}
use Rattle.space.specs.declared.Head.{Head}
use Rattle.store.specs.Views.{View, view_of}
use Rattle.store.specs.Decisions as decisions
use Rattle.store.specs.Decisions.{Decision, says, enters_answers, known, on_chains, side_in, nodes_needed, answers_needed, decide, decide_by}
use Rattle.store.specs.Changes.{forms_given, change_by}
use Rattle.store.specs.Calls.{used_answers, reply, out_after, counted_cells}
use Rattle.agreement.proofs.SameRecords.{Same, same-counts, nodes-count, answer-root-judged, subgoal-judged, subgoal-state, last-judged}
use Rattle.agreement.proofs.Agreeing.{agrees-says}
use Rattle.agreement.proofs.Holding.{Cells, Holds, AnswersAlike, agrees-answers}
use Rattle.agreement.proofs.Chains.{chain-forms}
use Rattle.agreement.proofs.Giving.{all-judged, needed-nodes, needed-answers, forms-given, forms-same}

either : (b : Bool) → pick b true true ≡ true
either true = refl
either false = refl

side_same : (c : Coding) (laws : CodingLaws c) (t : Table) (v : View) (S : Same c t v) (s : ℕ) → 0 < s → s ≤ length t.subgoals → side_in v s (answers_to t.answers s) ≡ side_of t s
unfolding side_in side_of
side_same c laws t v S s low high = rw (subgoal-state c laws t v S s low high, (S.subgoal s low high).variables)

module _ (z : Sizes) (c : Coding) (cells : Cells z) (laws : CodingLaws c) (t : Table) (cs : List ℕ) (h : Head) (e : header_of z cs ≡ Ok h) (S : Same c t (view_of z cs h)) where
  abbrev v : View
  v = view_of z cs h

  abbrev Both : Result Table → Decision → Type 0
  Both = AnswersAlike z c cs h []

  answers-says : (x : Reply) → Both (stays t [] x) (says x)
  answers-says x = agrees-answers z c cells cs h e (agrees-says c t v S [] x)

  -- both sides test a number alike
  answers-known : (n k s : ℕ) (r : Result Table) (d : Decision) → k ≡ n → (0 < s → s ≤ n → Both r d) → Both (table.known t [] n s r) (known k s d)
  answers-known n k s r d q f = rw q (by_cases (ltb 0 s)
      (λ p. by_cases (leb s n) (λ q. rw (p, q) (f (ltb-true _ _ p) (leb-true _ _ q))) (λ q. rw (p, q) (answers-says (refused 7))))
      (λ p. rw p (answers-says (refused 7))))

  -- both sides test alike
  answers-pick : (b b' : Bool) (r r' : Result Table) (d d' : Decision) → b ≡ b' → (b ≡ true → Both r d) → (b ≡ false → Both r' d') → Both (pick b r r') (pick b' d d')
  answers-pick true true r r' d d' q f g = f refl
  answers-pick true false r r' d d' q f g = absurd (true≢false q)
  answers-pick false true r r' d d' q f g = absurd (false≢true q)
  answers-pick false false r r' d d' q f g = g refl

  module _ (s : ℕ) (low : 0 < s) (high : s ≤ length t.subgoals) where
    joining-accepted : (subgoal_at t s).state ≡ Open → (ws : List Word) → Readable c (subgoal_at t s).m ws
        → nodes (entered t s ws) ≤ t.N → length (entered t s ws).answers ≤ t.A
        → Both (becomes (entered t s ws) (joined (length (entered t s ws).answers - length t.answers))) (enters_answers s ws)
    unfolding reply out_after change_by counted
    joining-accepted is_open ws k room free =
        let u : Table = entered t s ws in
        let cs' : List ℕ = forms_given z cs s ws in
        let entry = forms-given z c cells laws s low ws t cs (record { head = h; sound = e; same = S }) high (inl is_open) k room free in
        let left : Holds z c u cs' = entry.holds in
        let count : counted_cells cs' ≡ counted u = cells.cells-counts cs' left.head left.sound ∙ sym (same-counts c laws u (view_of z cs' left.head) left.same) in
        let used : used_answers cs' ≡ length u.answers = ap (λ (n : Counts). n.answers) count in
        record {
          replies = rw (used, S.answers);
          leaves = refl;
          holds = left;
          grows = entry.grows;
          change-same = λ find as-chains. forms-same z c cells laws s low find ws t cs (record { head = h; sound = e; same = S }) as-chains high (inl is_open) k room free;
        }

    -- every form or none
    joining-formed : (subgoal_at t s).state ≡ Open → (ws : List Word) → Readable c (subgoal_at t s).m ws → Both (table.joining t s (formed ws)) (decisions.joining v s (formed ws))
    unfolding table.joining table.fits decisions.joining_by
    joining-formed is_open ws k =
        let n = entering t s ws low high in
        let a : v.nodes + nodes_needed v s [] ws ≡ nodes (entered t s ws) =
        omega (arith, nodes-count c laws t v S, needed-nodes c laws t v S s low high ws [] k, n.0) in
        let b : v.answers + answers_needed v s [] ws ≡ length (entered t s ws).answers =
        omega (arith, S.answers, needed-answers c laws t v S s low high ws [] k, n.1) in
        rw (all-judged c laws t v S s low high ws k, last-judged c laws t v S s low high, either (eqb (answers_needed v s [] ws) 0))
        (answers-pick (leb (nodes (entered t s ws)) t.N) (leb (v.nodes + nodes_needed v s [] ws) v.N) _ _ _ _ (rw (a, S.N-same))
        (λ p. answers-pick (leb (length (entered t s ws).answers) t.A) (leb (v.answers + answers_needed v s [] ws) v.A) _ _ _ _ (rw (b, S.A-same))
        (λ q. joining-accepted is_open ws k (leb-true _ _ p) (leb-true _ _ q))
        (λ q. answers-says (refused 11)))
        (λ p. answers-says (refused 10)))

    joining-read : (subgoal_at t s).state ≡ Open → (x : Forms) → Read c (subgoal_at t s).m x → Both (table.joining t s x) (decisions.joining v s x)
    joining-read is_open (declined r) k = unfold table.joining decisions.joining_by in answers-says (refused r)
    joining-read is_open (formed ws) k = joining-formed is_open ws k

    declines : (r : ℕ) → Both (table.joining t s (declined r)) (decisions.joining v s (declined r))
    unfolding table.joining decisions.joining_by
    declines r = answers-says (refused r)

    joining-answers : (f g : Side) (ps ks : List ℕ)
        → (let x = join_of c f g ps (subgoal_at t s).state (subgoal_at t s).m ks in Both (table.joining t s x) (decisions.joining v s x))
    joining-answers f g ps ks =
        join-cases (λ x. Both (table.joining t s x) (decisions.joining v s x)) c f g ps (subgoal_at t s).state (subgoal_at t s).m ks
        (declines 8) (declines 14) (declines 15) (declines 16)
        (λ is_open. joining-read is_open _ (all_read_lem c (subgoal_at t s).m _))

  pub join-answers : (f g : ℕ) (ps : List ℕ) (s : ℕ) (ks : List ℕ) → AnswersAlike z c cs h [] (step c t (join f g ps s ks)) (decide c (view_of z cs h) (join f g ps s ks))
  unfolding step decide_by on_chains
  join-answers f g ps s ks =
      answers-known (length t.subgoals) v.subgoals f _ _ S.subgoals (λ fl fh.
      answers-known (length t.subgoals) v.subgoals g _ _ S.subgoals (λ gl gh.
      answers-known (length t.subgoals) v.subgoals s _ _ S.subgoals (λ low high.
      rw (
        subgoal-judged c laws t v S f fl fh,
        subgoal-judged c laws t v S g gl gh,
        subgoal-judged c laws t v S s low high,
        answer-root-judged c laws t v S s low high,
        chain-forms c laws t v S f fl fh,
        chain-forms c laws t v S g gl gh,
        side_same c laws t v S f fl fh,
        side_same c laws t v S g gl gh,
        subgoal-state c laws t v S s low high,
        (S.subgoal s low high).variables,
      )
      (joining-answers s low high (side_of t f) (side_of t g) ps ks))))
