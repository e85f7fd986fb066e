-- A sound table built in a fresh space: its subgoals by number, then its answers.
use Prim.Native.Nat.{ℕ, suc, ◌+◌, ◌≤◌, ◌<◌}
use mathlib.Core.Path.{◌≡◌, refl, sym, ap, ◌∙◌, subst}
use mathlib.Core.Bool.{true, false}
use mathlib.Core.List.{List, [], ◌∷◌, ◌++◌, map, append-nil, append_assoc, map-append}
use native.Mathlib.Omega.{arith}
use lib.ListN.{length, get_or, length-map, length-append, get_or-map, get_or-append}
use lib.Seq.{get_or_at}
use borrow.Author.Tests.{lt-ltb, le-leb}
use Rattle.basis.proofs.Cases.{by_cases}
use Rattle.plain.specs.Words.{Word, has, distinct}
use Rattle.plain.specs.Coding.{Coding, accepted}
use Rattle.plain.specs.CodingLaws.{CodingLaws}
use Rattle.plain.specs.Requests.{Open}
use Rattle.plain.specs.Table as table
use Rattle.plain.specs.Table.{Table, Subgoal, Answer, no_subgoal, no_answer, subgoal_at, answer_at, subgoal_of_answer, called_forms, answers_to, answer_nodes, nodes, with_subgoal, appended, fits}
use Rattle.plain.proofs.Soundness.{Sound, Fit}
use Rattle.plain.proofs.Keys.{has-place}
use Rattle.plain.proofs.NumberLaws.{subgoal_of-none}
use Rattle.space.specs.Layout.{Sizes}
use Rattle.space.specs.Heading.{header_of}
use Rattle.space.specs.declared.Head.{Head}
use Rattle.store.specs.Views.{View, view_of}
use Rattle.store.specs.Decisions as decisions
use Rattle.store.specs.Changes.{change}
use Rattle.agreement.proofs.Holding.{Cells, Holds, agrees-answers}
use Rattle.agreement.proofs.Calling.{form-agrees}
use Rattle.carrying.specs.Copying.{subgoal_given, subgoals_given}
use Rattle.carrying.proofs.NodeCounts.{distinct_more, answer_nodes-more, answer_nodes-longer}

-- ---- one subgoal

-- the plain table takes a form that it lacks, where there is room
called-taken : (t : Table) (w : Word) (m : ℕ) → has (called_forms t.subgoals) w ≡ false → nodes (with_subgoal t w m) ≤ t.N → length t.subgoals < t.F
    → (table.called t (accepted w m)).state ≡ with_subgoal t w m
unfolding table.called appended fits
called-taken t w m absent room free = rw (subgoal_of-none t w absent, le-leb _ _ room, lt-ltb _ _ free)

module _ (z : Sizes) (c : Coding) (cells : Cells z) (laws : CodingLaws c) where
  pub subgoal-holds : (t : Table) (cs : List ℕ) → Holds z c t cs → (w : Word) (m : ℕ) → Fit c w m
      → has (called_forms t.subgoals) w ≡ false → nodes (with_subgoal t w m) ≤ t.N → length t.subgoals < t.F
      → Holds z c (with_subgoal t w m) (subgoal_given z cs w m (header_of z cs))
  unfolding subgoal_given
  subgoal-holds t cs k w m e absent room free =
      let h : Head = k.head in
      let v : View = view_of z cs h in
      let b = agrees-answers z c cells cs h k.sound (form-agrees c laws t v k.same w m e) in
      rw k.sound (subst (λ (u : Table). Holds z c u (change z cs h (decisions.called v (accepted w m)))) (called-taken t w m absent room free) b.holds)

-- ---- all subgoals

abbrev pub opened : Subgoal → Subgoal
opened g = record { form = g.form; m = g.m; state = Open }

-- the first subgoals of u, open, and no answer
abbrev pub begun : Table → List Subgoal → Table
begun u gs = record { N = u.N; F = u.F; A = u.A; subgoals = map opened gs; answers = [] }

pub forms-opened : (gs : List Subgoal) → called_forms (map opened gs) ≡ called_forms gs
forms-opened [] = refl
forms-opened (g ∷ gs) = ap {B = List Word} (λ (l : List Word). g.form ∷ l) (forms-opened gs)

forms-at : (gs : List Subgoal) (j : ℕ) → get_or (called_forms gs) j [] ≡ (get_or gs j no_subgoal).form
unfolding no_subgoal
forms-at gs j = get_or-map (λ (x : Subgoal). x.form) gs j no_subgoal

forms-append : (gs hs : List Subgoal) → called_forms (gs ++ hs) ≡ called_forms gs ++ called_forms hs
forms-append [] hs = refl
forms-append (g ∷ gs) hs = ap {B = List Word} (λ (l : List Word). g.form ∷ l) (forms-append gs hs)

-- a part of the subgoals takes no more nodes than all of them and the answers
begun-nodes : (u : Table) (gs rest : List Subgoal) → gs ++ rest ≡ u.subgoals → nodes (begun u gs) ≤ nodes u
unfolding nodes
begun-nodes u gs rest e =
    let a = distinct_more (called_forms rest) (called_forms gs) in
    let b : distinct (called_forms u.subgoals) ≡ distinct (called_forms gs ++ called_forms rest) = ap distinct (ap (λ (l : List Subgoal). called_forms l) (sym e) ∙ forms-append gs rest) in
    let c : length gs + length rest ≡ length u.subgoals = sym (length-append gs rest) ∙ ap length e in
    let d : length (map opened gs) ≡ length gs = length-map gs opened in
    let f = answer_nodes-more [] u.answers 1 (length gs) in
    let g = answer_nodes-longer u.answers 1 (length gs) (length u.subgoals) (omega arith) in
    let k : distinct (called_forms (map opened gs)) ≡ distinct (called_forms gs) = ap distinct (forms-opened gs) in
    rw d (omega arith)

module _ (u : Table) (gs : List Subgoal) (g : Subgoal) (rest : List Subgoal) (e : gs ++ (g ∷ rest) ≡ u.subgoals) where
  count : length gs + suc (length rest) ≡ length u.subgoals
  count = sym (length-append gs (g ∷ rest)) ∙ ap length e

  -- the next subgoal's number
  next-is : subgoal_at u (suc (length gs)) ≡ g
  unfolding subgoal_at
  next-is = ap (λ (l : List Subgoal). get_or (no_subgoal ∷ l) (suc (length gs)) no_subgoal) (sym e) ∙ get_or_at (no_subgoal ∷ gs) g rest no_subgoal (suc (length gs)) refl

  earlier-is : (j : ℕ) → j < length gs → subgoal_at u (suc j) ≡ get_or gs j no_subgoal
  unfolding subgoal_at
  earlier-is j h = ap (λ (l : List Subgoal). get_or (no_subgoal ∷ l) (suc j) no_subgoal) (sym e) ∙ get_or-append gs (g ∷ rest) no_subgoal j h

  next-absent : (c : Coding) → Sound c u → has (called_forms (begun u gs).subgoals) g.form ≡ false
  next-absent c sound = by_cases (has (called_forms (map opened gs)) g.form)
      (λ q.
      let q' : has (called_forms gs) g.form ≡ true = rw (forms-opened gs) at q in
      let p = has-place (called_forms gs) g.form q' in
      let j : ℕ = p.0 in
      let l : j < length gs = omega (arith, p.1, length-map gs (λ (x : Subgoal). x.form)) in
      let f : (subgoal_at u (suc j)).form ≡ g.form =
      ap (λ (x : Subgoal). x.form) (earlier-is j l) ∙ sym (forms-at gs j) ∙ p.2 in
      let z : suc j ≡ suc (length gs) =
      sound.kept.subgoals-differ (suc j) (suc (length gs)) (omega arith) (omega (arith, count)) (omega arith) (omega (arith, count))
      (f ∙ ap (λ (x : Subgoal). x.form) (sym next-is)) in
      absurd (omega arith))
      (λ q. q)

  next-begun : with_subgoal (begun u gs) g.form g.m ≡ begun u (gs ++ (g ∷ []))
  next-begun = rw (map-append opened gs (g ∷ []))

module _ (z : Sizes) (c : Coding) (cells : Cells z) (laws : CodingLaws c) (u : Table) (sound : Sound c u) where
  -- some of the subgoals, those before them entered
  pub subgoals-hold : (rest more gs : List Subgoal) (cs : List ℕ) → gs ++ (rest ++ more) ≡ u.subgoals → Holds z c (begun u gs) cs
      → Holds z c (begun u (gs ++ rest)) (subgoals_given z cs rest)
  unfolding subgoals_given
  subgoals-hold [] more gs cs e k = subst (λ (l : List Subgoal). Holds z c (begun u l) cs) (sym (append-nil gs)) k
  subgoals-hold (g ∷ rest) more gs cs e k =
      let s : ℕ = suc (length gs) in
      let n = count u gs g (rest ++ more) e in
      let fit : Fit c g.form g.m = subst (λ (x : Subgoal). Fit c x.form x.m) (next-is u gs g (rest ++ more) e) (sound.called s (omega arith) (omega arith)) in
      let e' : (gs ++ (g ∷ [])) ++ (rest ++ more) ≡ u.subgoals = append_assoc gs (g ∷ []) (rest ++ more) ∙ e in
      let grown = next-begun u gs g (rest ++ more) e in
      let room : nodes (with_subgoal (begun u gs) g.form g.m) ≤ u.N = omega (arith, ap nodes grown, begun-nodes u (gs ++ (g ∷ [])) (rest ++ more) e', sound.kept.room) in
      let free : length (map opened gs) < u.F = omega (arith, length-map gs opened, sound.kept.subgoal-room) in
      let ds : List ℕ = subgoal_given z cs g.form g.m (header_of z cs) in
      let here = subgoal-holds z c cells laws (begun u gs) cs k g.form g.m fit (next-absent u gs g (rest ++ more) e c sound) room free in
      subst (λ (l : List Subgoal). Holds z c (begun u l) (subgoals_given z ds rest)) (append_assoc gs (g ∷ []) rest)
      (subgoals-hold rest more (gs ++ (g ∷ [])) ds e' (subst (λ (t : Table). Holds z c t ds) grown here))
