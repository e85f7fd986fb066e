-- A copy leaves every cell past the end of the target.
use Rattle.basis.specs.declared.refusals.Refusal.TheVariants as refusal
use Rattle.std.specs.Prelude.{Err, Ok}
use Prim.Native.Nat.{ℕ, zero, suc, ◌+◌, ◌-◌, ◌≤◌, ◌<◌}
use mathlib.Core.Path.{◌≡◌, refl, sym, ap, ◌∙◌, subst}
use mathlib.Core.Bool.{Bool, true, false, ◌&&◌}
use mathlib.Core.List.{List, [], ◌∷◌, ◌++◌, append_assoc}
use native.Mathlib.Omega.{arith}
use lib.Dec.{leb}
use lib.ListN.{length, get_or, set, drop, replicate, length-append, length-replicate, length-drop}
use lib.Seq.{get_or-append-add}
use borrow.Author.Tests.{leb-true}
use Rattle.basis.specs.Writes.{put}
use Rattle.basis.proofs.Cases.{by_cases}
use Rattle.forms.specs.Cells.{arity_of}
use Rattle.forms.specs.Stored.{stores_pairs}
use Rattle.plain.specs.Words.{Word}
use Rattle.plain.specs.Coding.{Coding, accepted, coding_of}
use Rattle.plain.specs.CodingLaws.{CodingLaws}
use Rattle.plain.specs.Table.{Table, Subgoal, Answer, subgoal_at, answer_at, subgoal_of_answer}
use Rattle.plain.proofs.StoredCoding.{coding-laws}
use Rattle.plain.proofs.Soundness.{Sound, Fit}
use Rattle.space.specs.Layout.{Sizes, sizes_of, subgoal_offset_of, end_offset, state_cell}
use Rattle.space.specs.Heading.{in_range, header_of}
use Rattle.space.specs.Fresh.{fresh_header, fresh_cells, fresh_fits, fresh_answer, fresh_space, FreshAnswer}
use Rattle.store.specs.Views.{View, view_of}
use Rattle.store.specs.Decisions as decisions
use Rattle.store.specs.Decisions.{answered_at, walk_to}
use Rattle.store.specs.Changes.{form_given, form_given_by, change}
use Rattle.store.proofs.JoinCases.{given-written}
use Rattle.trie.specs.Siblings.{search_children}
use Rattle.agreement.specs.Records.{Wide, Fits}
use Rattle.agreement.specs.Whole.{ReadingAgain, word_of, subgoal_path, answer_path, subgoal_read, answer_read, table_read}
use Rattle.agreement.proofs.HeaderTests.{header_read}
use Rattle.agreement.proofs.CellChanges.{sizes-wide}
use Rattle.agreement.proofs.Calling.{form-agrees}
use Rattle.agreement.proofs.Answering.{answered-read}
use Rattle.agreement.proofs.Holding.{Holds}
use Rattle.agreement.proofs.ReadingAgain.{coding-again}
use Rattle.agreement.proofs.Theorem.{fresh_in}
use Rattle.agreement.proofs.WholeTable.{subgoals-length, answers-length, subgoal-at, answer_at_lem}
use Rattle.carrying.specs.Recoding.{Recoding, recoded}
use Rattle.carrying.specs.Carrying.{carried_subgoal, carried_answer, carried}
use Rattle.carrying.specs.Copying.{subgoal_given, state_number, states_given, built, copy_reply, copy_space}
use Rattle.carrying.specs.Clauses.{first_subgoals, after_subgoals, after_answers}
use Rattle.carrying.specs.Promises.{CopyFrames}
use Rattle.carrying.proofs.RecodingLaws.{Recodes}
use Rattle.carrying.proofs.CarriedLaws.{carried-subgoal, carried-answer, carried-subgoals, carried-answers}
use Rattle.carrying.proofs.Building.{begun}
use Rattle.carrying.proofs.CopySteps.{subgoals-next, answers_next, subgoals-held, answers-held, subgoals-first, answers-first, subgoals-all, answers-all}
use Rattle.carrying.proofs.CellsKept.{Framed, framed-same, framed_then, writes-framed, subgoal-row, change-framed}
use Rattle.carrying.proofs.Theorems.{went, went-space, went-sound, copies}

-- ---- one decision on cells that hold a table

module _ (z : Sizes) (wide : Wide z) (c : Coding) (laws : CodingLaws c) (t : Table) (cs : List ℕ) (k : Holds z c t cs) where
  abbrev w : View
  w = view_of z cs k.head

  pub held-framed : {d : decisions.Decision} → Fits (view_of z cs k.head) d → Framed (end_offset z t.N t.F t.A) cs (change z cs k.head d)
  held-framed {d} fits =
      let S = k.same in
      let e : end_offset z k.head.node_capacity k.head.subgoal_capacity k.head.answer_capacity ≡ end_offset z t.N t.F t.A =
      ap (λ (x : ℕ). end_offset z x k.head.subgoal_capacity k.head.answer_capacity) S.N-same
      ∙ ap (λ (x : ℕ). end_offset z t.N x k.head.answer_capacity) S.F-same ∙ ap (λ (x : ℕ). end_offset z t.N t.F x) S.A-same in
      subst (λ (x : ℕ). Framed x cs (change z cs k.head d)) e (change-framed wide cs k.head (header_read z cs k.head k.sound) fits)

  pub subgoal-step-framed : (u : Word) (m : ℕ) → Fit c u m → Framed (end_offset z t.N t.F t.A) cs (subgoal_given z cs u m (header_of z cs))
  unfolding subgoal_given
  subgoal-step-framed u m e = rw k.sound (held-framed (form-agrees c laws t w k.same u m e).fits)

  pub answer-step-framed : (s : ℕ) (low : 0 < s) (high : s ≤ length t.subgoals) (u : Word) (n : ℕ) (ks : List ℕ) → c.answered (subgoal_at t s).m ks ≡ accepted u n
      → Framed (end_offset z t.N t.F t.A) cs (form_given z cs s u (header_of z cs))
  unfolding form_given_by
  answer-step-framed s low high u n ks e =
      let fits : Fits w (answered_at w s u (walk_to w s u)) = unfold decisions.answered_by in (answered-read c laws t w k.same s low high ks (accepted u n) e).fits in
      rw k.sound (subst (Framed (end_offset z t.N t.F t.A) cs) (given-written search_children z cs k.head s u (walk_to w s u)) (held-framed fits))

-- ---- the states

states-framed : (z : Sizes) → Wide z → (N F A : ℕ) (gs : List Subgoal) (s : ℕ) (cs : List ℕ) → 1 ≤ s → s + length gs ≤ suc F
    → Framed (end_offset z N F A) cs (states_given z (subgoal_offset_of z N) cs s gs)
unfolding states_given
states-framed z wide N F A [] s cs l h = framed-same (end_offset z N F A) cs
states-framed z wide N F A (g ∷ gs) s cs l h =
    let r = subgoal-row wide N F A s l (omega arith) in
    let w = wide.subgoal-wide in
    framed_then (writes-framed (end_offset z N F A) (put (state_cell z (subgoal_offset_of z N) s) (state_number g.state) ∷ []) cs (λ j k. omega arith))
    (states-framed z wide N F A gs (suc s) (set cs (state_cell z (subgoal_offset_of z N) s) (state_number g.state)) (omega arith) (omega arith))

-- ---- a fresh space

fresh-end : (z : Sizes) (n f a : ℕ) (s : List ℕ) → fresh_fits z n f a s ≡ true → end_offset z n f a ≤ length s
unfolding fresh_fits
fresh-end z n f a s e = go (in_range 1 n) (in_range 0 f) (in_range 0 a) e
  where
    go : (x y w : Bool) → (x && y && w && leb (end_offset z n f a) (length s)) ≡ true → end_offset z n f a ≤ length s
    go true true true e = leb-true _ _ e
    go true true false e = let z : ◌≡◌ {A = ℕ} 0 1 = cc in absurd (omega arith)
    go true false w e = let z : ◌≡◌ {A = ℕ} 0 1 = cc in absurd (omega arith)
    go false y w e = let z : ◌≡◌ {A = ℕ} 0 1 = cc in absurd (omega arith)

behind : (xs ys : List ℕ) (n k : ℕ) → length xs ≡ n → n ≤ k → get_or (xs ++ drop n ys) k 0 ≡ get_or (drop n ys) (k - n) 0
behind xs ys n k e h =
    let q : length xs + (k - n) ≡ k = omega arith in
    ap (λ (i : ℕ). get_or (xs ++ drop n ys) i 0) (sym q) ∙ get_or-append-add xs (drop n ys) (k - n) 0

dropped : (ys : List ℕ) (n j : ℕ) → get_or (drop n ys) j 0 ≡ get_or ys (n + j) 0
dropped ys zero j = let e : 0 + j ≡ j = omega arith in rw e refl
dropped [] (suc n) j = refl
dropped (y ∷ ys) (suc n) j = let e : suc n + j ≡ suc (n + j) = omega arith in rw e (dropped ys n j)

fresh-framed : (z : Sizes) (n f a : ℕ) (s : List ℕ) → fresh_answer z n f a s ≡ Ok tt → Framed (end_offset z n f a) s (fresh_space z n f a s)
unfolding fresh_answer fresh_space fresh_cells
fresh-framed z n f a s d = by_cases (fresh_fits z n f a s)
    (λ e.
    let w = fresh-end z n f a s e in
    let end : ℕ = end_offset z n f a in
    let front : List ℕ = fresh_header z n f a ++ replicate (end - 8) 0 in
    let long : length front ≡ end = length-append (fresh_header z n f a) (replicate (end - 8) 0) ∙ (let q : length (replicate {A = ℕ} (end - 8) 0) ≡ end - 8 = length-replicate (end - 8) 0 in omega arith) in
    let is : fresh_header z n f a ++ (replicate (end - 8) 0 ++ drop end s) ≡ front ++ drop end s = sym (append_assoc (fresh_header z n f a) (replicate (end - 8) 0) (drop end s)) in
    rw (e, is) (record {
      size = length-append front (drop end s) ∙ (let q : length (drop end s) ≡ length s - end = length-drop end s in omega arith);
      below = λ k h. absurd (omega arith);
      above = λ k h. behind front s end k long h ∙ dropped s end (k - end) ∙ ap (λ (i : ℕ). get_or s i 0) (back end k h);
    }))
    (λ e. let r : Err refusal.Fresh ≡ Ok tt = rw e at d in let x : ◌≡◌ {A = ℕ} 0 1 = cc in absurd (omega arith))
  where
    back : (n k : ℕ) → n ≤ k → n + (k - n) ≡ k
    back n k h = omega arith

-- ---- the loops

module _ (z : Sizes) (wide : Wide z) (c : Coding) (laws : CodingLaws c) (again : ReadingAgain c) (r : Recoding) (v : View) (n f a : ℕ) (target : List ℕ)
    (sound : Sound c (carried r n f a (table_read v))) (fresh : fresh_answer z n f a target ≡ Ok tt) where
  abbrev u : Table
  u = carried r n f a (table_read v)

  abbrev end : ℕ
  end = end_offset z n f a

  abbrev S : ℕ → List ℕ
  S = after_subgoals z r v n f a target

  abbrev A : ℕ → List ℕ
  A = after_answers z r v n f a target

  count-subgoals : length u.subgoals ≡ v.subgoals
  count-subgoals = carried-subgoals r n f a (table_read v) ∙ subgoals-length v

  count-answers : length u.answers ≡ v.answers
  count-answers = carried-answers r n f a (table_read v) ∙ answers-length v

  subgoal-is : (i : ℕ) → i < v.subgoals → subgoal_at u (suc i) ≡ carried_subgoal r (subgoal_read v (suc i))
  subgoal-is i h = carried-subgoal r n f a (table_read v) (suc i) ∙ ap (λ (g : Subgoal). carried_subgoal r g) (subgoal-at v (suc i) (omega arith) h)

  answer-is : (i : ℕ) → i < v.answers → answer_at u (suc i) ≡ carried_answer r (answer_read v (suc i))
  answer-is i h = carried-answer r n f a (table_read v) (suc i) ∙ ap (λ (y : Answer). carried_answer r y) (answer_at_lem v (suc i) (omega arith) h)

  subgoals-framed : (i : ℕ) → i ≤ v.subgoals → Framed end (fresh_space z n f a target) (S i)
  subgoals-framed zero h = subst (Framed end (fresh_space z n f a target)) (sym (subgoals-first z r v n f a target)) (framed-same end (fresh_space z n f a target))
  subgoals-framed (suc i) h =
      let k = subgoals-held z r v n f a target wide c laws again sound fresh i (omega arith) in
      let fit : Fit c (recoded r (word_of (subgoal_path v (suc i)))) (v.subgoal (suc i)).variables =
      subst (λ (g : Subgoal). Fit c g.form g.m) (subgoal-is i h) (sound.called (suc i) (omega arith) (omega (arith, count-subgoals))) in
      framed_then (subgoals-framed i (omega arith))
      (subst (Framed end (S i)) (sym (subgoals-next z r v n f a target i)) (subgoal-step-framed z wide c laws (begun u (first_subgoals r v i)) (S i) k (recoded r (word_of (subgoal_path v (suc i)))) (v.subgoal (suc i)).variables fit))

  answers-framed : (i : ℕ) → i ≤ v.answers → Framed end (S v.subgoals) (A i)
  answers-framed zero h = subst (Framed end (S v.subgoals)) (sym (answers-first z r v n f a target)) (framed-same end (S v.subgoals))
  answers-framed (suc i) h =
      let held = answers-held z r v n f a target wide c laws again sound fresh i (omega arith) in
      let t : Table = held.0 in
      let p = held.1 in
      let is = answer-is i h in
      let s : ℕ = (v.answer (suc i)).subgoal in
      let w : Word = recoded r (word_of (answer_path v (suc i))) in
      let own : subgoal_of_answer u (suc i) ≡ s = ap (λ (y : Answer). y.subgoal) is in
      let o = sound.kept.answered (suc i) (omega arith) (omega (arith, count-answers)) in
      let low : 0 < s = omega (arith, o.0) in
      let high : s ≤ length t.subgoals = omega (arith, o.1, p.count) in
      let m : ℕ = (subgoal_at t s).m in
      let legal : c.legal m w ≡ true =
      subst (λ (k : ℕ). c.legal k w ≡ true) (ap (λ (k : ℕ). (subgoal_at u k).m) own ∙ sym (p.m s))
      (subst (λ (y : Answer). c.legal (subgoal_at u (subgoal_of_answer u (suc i))).m y.form ≡ true) is (sound.answered (suc i) (omega arith) (omega (arith, count-answers)))) in
      let g = again.legal-answered m w legal in
      let e : end_offset z t.N t.F t.A ≡ end =
      ap (λ (x : ℕ). end_offset z x t.F t.A) p.N-same ∙ ap (λ (x : ℕ). end_offset z n x t.A) p.F-same ∙ ap (λ (x : ℕ). end_offset z n f x) p.A-same in
      framed_then (answers-framed i (omega arith))
      (subst (Framed end (A i)) (sym (answers_next z r v n f a target i))
      (subst (λ (x : ℕ). Framed x (A i) (form_given z (A i) s w (header_of z (A i)))) e (answer-step-framed z wide c laws t (A i) held.2 s low high w g.0 (c.expand w) g.1)))

  pub built-framed : Framed (end_offset z n f a) target (built z (carried r n f a (table_read v)) target)
  unfolding built
  built-framed =
      let room : 1 + length u.subgoals ≤ suc f = omega (arith, sound.kept.subgoal-room) in
      rw (subgoals-all z r v n f a target, answers-all z r v n f a target)
      (framed_then (fresh-framed z n f a target fresh)
      (framed_then (subgoals-framed v.subgoals (omega arith))
      (framed_then (answers-framed v.answers (omega arith))
      (states-framed z wide n f a (first_subgoals r v v.subgoals) 1 (A v.answers) (omega arith) (omega (arith, ap length (subgoals-all z r v n f a target)))))))

-- ---- the copy

module _ (e d : ℕ) (r : Recoding) (R : Recodes r (arity_of e) (arity_of d)) (alike : stores_pairs e ≡ stores_pairs d) where
  framed-by : (n f a : ℕ) (source target : List ℕ) (x : FreshAnswer) → copy_reply e d r n f a source target ≡ x → Framed (end_offset (sizes_of d) n f a) target (copy_space e d r n f a source target)
  framed-by n f a source target (Ok tt) q =
      let w = went e d r R alike n f a source target q in
      let v : View = view_of (sizes_of e) source w.head in
      let k = fresh_in d n f a target w.fresh-done in
      subst (Framed (end_offset (sizes_of d) n f a) target) (sym (went-space e d r R alike n f a source target q w.head w.header-sound))
      (built-framed (sizes_of d) (sizes-wide d) (coding_of d) (coding-laws d) (coding-again d) r v n f a target (went-sound e d r R alike n f a source target w) k.1)
  framed-by n f a source target (Err k) q =
      let s : copy_space e d r n f a source target ≡ target = (copies e d r R alike).refuses n f a k source target q in
      subst (Framed (end_offset (sizes_of d) n f a) target) (sym s) (framed-same (end_offset (sizes_of d) n f a) target)

  pub copy-frames : CopyFrames e d r
  copy-frames n f a source target =
      let k = framed-by n f a source target (copy_reply e d r n f a source target) refl in
      (k.size, λ i h. k.above i h)
