-- Forms that are given to a subgoal one after another: what they need is what they bring to the plain table, and cells that
-- hold a table go on to hold it with each form. One form is entered as a single answer is.
use mathlib.Core.Path.{◌≡◌, refl, sym, ap, ◌∙◌, subst}
use mathlib.Core.Bool.{Bool, true, false, ◌||◌}
use mathlib.Core.List.{List, [], ◌∷◌}
use Prim.Native.Nat.{ℕ, ◌-◌, ◌≤◌, ◌<◌}
use native.Mathlib.Omega.{arith}
use lib.Dec.{eqb}
use lib.ListN.{length}
use borrow.Author.Tests.{eq-eqb, ne_eqb}
use Rattle.basis.specs.Choice.{pick}
use Rattle.basis.proofs.Cases.{by_cases}
use Rattle.plain.specs.Words.{Word, has, prefixes, most, brings, newcomers}
use Rattle.plain.specs.Coding.{Coding, accepted}
use Rattle.plain.specs.CodingLaws.{CodingLaws}
use Rattle.plain.specs.Table as table
use Rattle.plain.specs.Table.{Table, subgoal_at, answers_to, nodes, answer_of, given, entered}
use Rattle.plain.proofs.Entries.{trie-lacks}
use Rattle.plain.proofs.Keys.{key}
use Rattle.plain.proofs.NumberLaws.{answer_of-none, answer_of-some}
use Rattle.plain.proofs.EnteringLaws.{most-whole, nodes-brought, given-subgoals, given_stays, Taking, taking-open, given-taking, entering}
use Rattle.plain.proofs.Changes.{Readable}
use Rattle.plain.proofs.JoinLaws.{taken, ground-empty}
use Rattle.space.specs.Layout.{Sizes, node_in}
use Rattle.space.specs.Heading.{header_of}
use Rattle.space.specs.declared.Head.{Head}
use Rattle.trie.specs.Walks.{Walk, whole, Finding}
use Rattle.trie.specs.Ledger.{Grown}
use Rattle.trie.proofs.IndexLaws.{AsChains, grown-same, grown-on, as-chains-on}
use Rattle.trie.specs.Siblings.{search_children}
use Rattle.store.specs.Views.{View, view_of}
use Rattle.store.specs.Decisions as decisions
use Rattle.store.specs.Decisions.{Decision, answered_at, walk_to, met_sound, all_sound, all_sound_by, lacking, missing, nodes_needed, nodes_needed_by, answers_needed, answers_needed_by}
use Rattle.store.proofs.JoinCases.{given-written}
use Rattle.store.specs.Changes.{answer_given, form_given, form_given_by, forms_given, forms_given_by}
use Rattle.agreement.proofs.TrieWalks.{Walked, ends, stops}
use Rattle.agreement.proofs.Numberings.{shared-members}
use Rattle.agreement.proofs.SameRecords.{Same, different, link-answered, walked-answer, answer-as-chains, answer-judged, nodes-count}
use Rattle.agreement.proofs.Agreeing.{Agrees}
use Rattle.agreement.proofs.Answering.{answered-held, nodes-more, answered-read}
use Rattle.agreement.proofs.Holding.{Cells, Holds, agrees-answers}

-- ---- what the search of a form tells

module _ (c : Coding) (laws : CodingLaws c) (t : Table) (v : View) (S : Same c t v) (s : ℕ) (low : 0 < s) (high : s ≤ length t.subgoals) where
  abbrev held : List Word
  held = answers_to t.answers s

  -- of a form that is read from an answer's cells
  record Told (w : Word) (x : Walk) : Type 0 where
    judged : met_sound v w x ≡ true
    lacks : lacking v x ≡ pick (has (answers_to t.answers s) w) false true
    left : missing x ≡ length w - most (answers_to t.answers s) w

  told-old : (w : Word) (j : ℕ) → j < v.nodes → key S.K j ≡ s ∷ w → has held w ≡ true → Told w (whole j)
  unfolding met_sound lacking missing
  told-old w j h k e =
      let p = answer_of-some t s w e in
      let b : ℕ = answer_of t s w in
      let o = S.answer b p.low p.high in
      let ne : eqb b 0 ≡ false = ne_eqb b 0 (λ z. omega (arith, p.low)) in
      let at_leaf : (v.answer b).leaf ≡ j =
      different c laws t v S (v.answer b).leaf j (omega (arith, o.leaf-in, S.tries.keys)) (omega (arith, S.tries.keys)) (o.leaf-key ∙ rw (p.subgoal, p.form) (sym k)) in
      record {
        judged = rw (link-answered c laws t v S s low j w h k, ne, answer-judged c laws t v S b p.low p.high, at_leaf, eq-eqb j j refl);
        lacks = rw (link-answered c laws t v S s low j w h k, ne, e);
        left = omega (arith, most-whole held w e);
      }

  told-empty : (j : ℕ) → j < v.nodes → key S.K j ≡ s ∷ [] → has held [] ≡ false → Told [] (whole j)
  unfolding met_sound lacking missing
  told-empty j h k e = record {
    judged = rw (link-answered c laws t v S s low j [] h k, answer_of-none t s [] e);
    lacks = rw (link-answered c laws t v S s low j [] h k, answer_of-none t s [] e, e);
    left = omega arith;
  }

  told-whole : (w : Word) (n : ℕ) (ks : List ℕ) → c.answered (subgoal_at t s).m ks ≡ accepted w n → (j : ℕ) → j < v.nodes → key S.K j ≡ s ∷ w → Told w (whole j)
  told-whole [] n ks e j h k = by_cases (has held []) (λ z. told-old [] j h k z) (λ z. told-empty j h k z)
  told-whole (a ∷ w) n ks e j h k = told-old (a ∷ w) j h k (answered-held c laws t v S s low high a w n ks e j h k)

  told-walked : (w : Word) (n : ℕ) (ks : List ℕ) → c.answered (subgoal_at t s).m ks ≡ accepted w n → {x : Walk} → Walked S.K v.node v.nodes (v.subgoal s).root w x → Told w x
  unfolding met_sound lacking missing
  told-walked w n ks e (ends j h k) = told-whole w n ks e j h (k ∙ rw (S.subgoal s low high).root-key)
  told-walked w n ks e (stops q l a u h st path less rest) =
      let root-key = (S.subgoal s low high).root-key in
      let absent : has held w ≡ false = trie-lacks S.es held s (S.forest.replies s low high) w (rw (← (shared-members S.K (prefixes S.es) S.numbering.members (s ∷ []) w)) (rw root-key at less)) in
      let more = nodes-more c laws t v S s low high w q l a u h st (path ∙ rw root-key) rest in
      record {
        judged = refl;
        lacks = rw absent;
        left = omega (arith, nodes-brought t s low high w, nodes-count c laws t v S);
      }

  told : (w : Word) (n : ℕ) (ks : List ℕ) → c.answered (subgoal_at t s).m ks ≡ accepted w n → Told w (walk_to v s w)
  told w n ks e = told-walked w n ks e (walked-answer c laws t v S s low high w)

  -- ---- the counts before anything is written

  pub all-judged : (ws : List Word) → Readable c (subgoal_at t s).m ws → all_sound v s ws ≡ true
  unfolding all_sound_by
  all-judged [] e = refl
  all-judged (w ∷ ws) e = rw (told w e.0.1 e.0.0 e.0.2).judged (all-judged ws e.1)

  pub needed-nodes : (ws before : List Word) → Readable c (subgoal_at t s).m ws → nodes_needed v s before ws ≡ brings (answers_to t.answers s) before ws
  unfolding nodes_needed_by brings
  needed-nodes [] before e = refl
  needed-nodes (w ∷ ws) before e =
      let l = (told w e.0.1 e.0.0 e.0.2).left in
      let r = needed-nodes ws (w ∷ before) e.1 in
      omega arith

  one-needed : (b h : Bool) → ◌≡◌ {A = ℕ} (pick (pick h false true) (pick b 0 1) 0) (pick (h || b) 0 1)
  one-needed b true = refl
  one-needed b false = refl

  pub needed-answers : (ws before : List Word) → Readable c (subgoal_at t s).m ws → answers_needed v s before ws ≡ newcomers (answers_to t.answers s) before ws
  unfolding answers_needed_by newcomers
  needed-answers [] before e = refl
  needed-answers (w ∷ ws) before e =
      rw ((told w e.0.1 e.0.0 e.0.2).lacks, one-needed (has before w) (has held w), needed-answers ws (w ∷ before) e.1)

-- ---- one form, entered as a single answer is

module _ (z : Sizes) (c : Coding) (cells : Cells z) (laws : CodingLaws c) (s : ℕ) (low : 0 < s) where
  -- it holds the table with the form, and every node is still there
  pub record Given (t : Table) (cs cs' : List ℕ) (k : Holds z c t cs) (u : Table) : Type 0 where
    pub holds : Holds z c u cs'
    pub grows : Grown (node_in z cs) k.head.nodes (node_in z cs') holds.head.nodes

  form-given : (t : Table) (cs : List ℕ) (k : Holds z c t cs) → s ≤ length t.subgoals → Taking t s → (w : Word) (n : ℕ) (ks : List ℕ) → c.answered (subgoal_at t s).m ks ≡ accepted w n
      → nodes (given t s w) ≤ t.N → length (given t s w).answers ≤ t.A → Given t cs (form_given z cs s w (header_of z cs)) k (given t s w)
  unfolding form_given_by
  form-given t cs k high ready w n ks e room free =
      let h : Head = k.head in
      let x : Walk = walk_to (view_of z cs h) s w in
      let d : Decision = answered_at (view_of z cs h) s w x in
      let a : Agrees c (view_of z cs h) [] (table.answered t s (accepted w n)) d = unfold decisions.answered_by in answered-read c laws t (view_of z cs h) k.same s low high ks (accepted w n) e in
      let g = taken t s low high w n (taking-open t s w ready (ground-empty c laws (subgoal_at t s).m ks w n e)) room free in
      let b = agrees-answers z c cells cs h k.sound a in
      rw k.sound (subst (λ (u : Table). Given t cs (answer_given z cs h d) k u) g
      (subst (λ (cs' : List ℕ). Given t cs cs' k (table.answered t s (accepted w n)).state) (given-written search_children z cs h s w x) (record { holds = b.holds; grows = b.grows })))

  -- all of them, where there is room at the end
  pub forms-given : (ws : List Word) (t : Table) (cs : List ℕ) (k : Holds z c t cs) → s ≤ length t.subgoals → Taking t s → Readable c (subgoal_at t s).m ws
      → nodes (entered t s ws) ≤ t.N → length (entered t s ws).answers ≤ t.A → Given t cs (forms_given z cs s ws) k (entered t s ws)
  unfolding entered forms_given_by
  forms-given [] t cs k high ready e room free = record { holds = k; grows = grown-same (node_in z cs) k.head.nodes }
  forms-given (w ∷ ws) t cs k high ready e room free =
      let u : Table = given t s w in
      let kept = given_stays t s low high w in
      let high' : s ≤ length u.subgoals = rw (given-subgoals t s low high w) high in
      let more = entering u s ws low high' in
      let here : Given t cs (form_given z cs s w (header_of z cs)) k u =
      form-given t cs k high ready w e.0.1 e.0.0 e.0.2 (omega (arith, more.0)) (omega (arith, more.1)) in
      let rest = forms-given ws u (form_given z cs s w (header_of z cs)) here.holds high' (given-taking t s low high w ready (ground-empty c laws (subgoal_at t s).m e.0.0 w e.0.1 e.0.2)) (rw kept.2 e.1)
      (subst (λ (m : ℕ). nodes (entered u s ws) ≤ m) (sym kept.0) room) (subst (λ (m : ℕ). length (entered u s ws).answers ≤ m) (sym kept.1) free) in
      record { holds = rest.holds; grows = grown-on here.grows rest.grows }

  -- and another way of finding a child gives them alike
  module _ (find : Finding) where
    form-same : (t : Table) (cs : List ℕ) (k : Holds z c t cs) → AsChains (node_in z cs) k.head.nodes find → s ≤ length t.subgoals → (w : Word) → form_given_by find z cs s w (header_of z cs) ≡ form_given z cs s w (header_of z cs)
    unfolding form_given_by
    form-same t cs k as-chains high w =
        let h : Head = k.head in
        rw k.sound (ap (λ (x : Walk). answer_given z cs h (answered_at (view_of z cs h) s w x)) (answer-as-chains c laws t (view_of z cs h) k.same s low high find as-chains w))

    pub forms-same : (ws : List Word) (t : Table) (cs : List ℕ) (k : Holds z c t cs) → AsChains (node_in z cs) k.head.nodes find → s ≤ length t.subgoals → Taking t s → Readable c (subgoal_at t s).m ws
        → nodes (entered t s ws) ≤ t.N → length (entered t s ws).answers ≤ t.A → forms_given_by find z cs s ws ≡ forms_given z cs s ws
    unfolding entered forms_given_by
    forms-same [] t cs k as-chains high ready e room free = refl
    forms-same (w ∷ ws) t cs k as-chains high ready e room free =
        let u : Table = given t s w in
        let kept = given_stays t s low high w in
        let high' : s ≤ length u.subgoals = rw (given-subgoals t s low high w) high in
        let more = entering u s ws low high' in
        let here : Given t cs (form_given z cs s w (header_of z cs)) k u =
        form-given t cs k high ready w e.0.1 e.0.0 e.0.2 (omega (arith, more.0)) (omega (arith, more.1)) in
        ap (λ (ds : List ℕ). forms_given_by find z ds s ws) (form-same t cs k as-chains high w)
        ∙ forms-same ws u (form_given z cs s w (header_of z cs)) here.holds (as-chains-on find here.grows as-chains) high' (given-taking t s low high w ready (ground-empty c laws (subgoal_at t s).m e.0.0 w e.0.1 e.0.2)) (rw kept.2 e.1)
        (subst (λ (m : ℕ). nodes (entered u s ws) ≤ m) (sym kept.0) room) (subst (λ (m : ℕ). length (entered u s ws).answers ≤ m) (sym kept.1) free)
