-- Laws of writing a copy: what is known of a source that nothing refuses, and so what each loop asks for.
use Rattle.std.specs.Prelude.{Err, Ok}
use Rattle.basis.specs.declared.refusals.Refusal.{Refusal}
use Prim.Native.Nat.{ℕ, suc, ◌+◌, ◌*◌, ◌≤◌, ◌<◌}
use mathlib.Core.Path.{◌≡◌, refl, sym, ap, ◌∙◌, subst}
use mathlib.Core.Bool.{Bool, true, ◌&&◌, false≢true}
use mathlib.Core.List.{List, []}
use native.Mathlib.Omega.{arith}
use native.Mathlib.Nat.{mul-le-mul_left}
use lib.Dec.{eqb}
use lib.ListN.{length}
use Rattle.basis.specs.Editions.{known_edition}
use Rattle.forms.specs.Numbering.{met}
use Rattle.plain.specs.Words.{Word}
use Rattle.plain.specs.Coding.{coding_of}
use Rattle.plain.specs.Table as table
use Rattle.plain.specs.Table.{Table}
use Rattle.plain.proofs.Soundness.{Sound}
use Rattle.plain.proofs.StoredCoding.{coding-laws}
use Rattle.space.specs.Layout.{sizes_of, subgoal_width, subgoal_offset_of, subgoal_in}
use Rattle.space.specs.Heading.{header_of, space_header, Header}
use Rattle.space.specs.Sound.{Bounds, subgoal_under}
use Rattle.space.specs.Fresh.{fresh_answer, fresh_space, fresh_space_in}
use Rattle.space.specs.declared.Head.{Head}
use Rattle.space.proofs.HeaderLaws.{header-bounds}
use Rattle.space.proofs.JudgingLaws.{AnswerBounds, subgoal-bounds, answer-bounds}
use Rattle.trie.specs.Paths.{Path, none, tokens}
use Rattle.store.specs.Views.{View, view_of}
use Rattle.store.specs.Clauses.{view_in}
use Rattle.store.specs.Decisions.{sound_subgoal, sound_answer, sound_pair}
use Rattle.agreement.specs.Whole.{path_passes, word_of, subgoal_path, answer_path, table_read}
use Rattle.agreement.proofs.CellChanges.{sizes-wide}
use Rattle.agreement.proofs.HeaderTests.{header_read}
use Rattle.agreement.proofs.Holding.{Holds}
use Rattle.agreement.proofs.ReadingAgain.{coding-again}
use Rattle.agreement.proofs.SameRecords.{last-most}
use Rattle.agreement.proofs.Theorem.{header-any, fresh_in}
use Rattle.agreement.proofs.WholeTable.{subgoals-length, subgoal-at, answer_at_lem}
use Rattle.agreement.proofs.WholeTests.{and_both}
use Rattle.carrying.specs.Recoding.{widening, takes_word}
use Rattle.carrying.specs.Carrying.{carried, takes_table}
use Rattle.carrying.specs.Copying.{source_loads, subgoal_loads, answer_loads, states_given, built, carry_reply, carry_space}
use Rattle.carrying.specs.Clauses.{first_subgoals, first_answers, after_subgoals, after_answers}
use Rattle.carrying.proofs.BuildingAnswers.{Partly}
use Rattle.carrying.proofs.CarriedLaws.{takes-subgoal, takes-answer, carried-subgoals}
use Rattle.carrying.proofs.CopySteps.{subgoals-held, answers-held, states-last}
use Rattle.carrying.proofs.LoadingLaws.{subgoal-loads, answer-loads}
use Rattle.carrying.proofs.Theorems.{went, went-space, went-sound, carrying-done, carry-recodes}
use Rattle.copying.specs.Clauses.{PathCarried, with_first, SubgoalsReady, TakesAnswer, with_answers, AnswersReady, with_states, StatesReady}

pub sound-same : {x y : Head} → ◌≡◌ {A = Header} (Ok x) (Ok y) → x ≡ y
sound-same e = cc

sound-not-refused : {x : Head} {k : Refusal} → ◌≡◌ {A = Header} (Ok x) (Err k) → ⊥
sound-not-refused e = let z : ◌≡◌ {A = ℕ} 0 1 = cc in omega arith

-- ---- a source that nothing refuses

pub record Accepted (n f a : ℕ) (source target : List ℕ) (h : Head) : Type 0 where
  pub bounds : Bounds source h
  pub known : known_edition 2 ≡ true
  pub loads : source_loads (coding_of 1) (view_in source h) ≡ true
  pub takes : takes_table widening (table_read (view_in source h)) ≡ true
  pub sound : Sound (coding_of 2) (carried widening n f a (table_read (view_in source h)))
  pub fresh : fresh_answer (sizes_of 2) n f a target ≡ Ok tt
  pub freshened : fresh_space_in 2 n f a target ≡ fresh_space (sizes_of 2) n f a target
  pub leaves : built (sizes_of 2) (carried widening n f a (table_read (view_in source h))) target ≡ carry_space n f a source target

pub accepted : (n f a : ℕ) (source target : List ℕ) (h : Head) → carry_reply n f a source target ≡ Ok tt → Ok h ≡ space_header source
    → Accepted n f a source target h
accepted n f a source target h done s =
    let w = went 1 2 widening carry-recodes refl n f a source target done in
    let same : w.head ≡ h = sound-same (sym w.header-sound ∙ sym s) in
    let edition : h.edition ≡ 1 = subst (λ (y : Head). y.edition ≡ 1) same w.edition in
    let is : view_of (sizes_of 1) source w.head ≡ view_in source h =
    ap (λ (y : Head). view_of (sizes_of 1) source y) same ∙ ap (λ (k : ℕ). view_of (sizes_of k) source h) (sym edition) in
    let k = fresh_in 2 n f a target w.fresh-done in
    let p = carrying-done widening n f a (table_read (view_of (sizes_of 1) source w.head)) w.carries in
    record {
      bounds = header-bounds source h s;
      known = k.0;
      loads = subst (λ (v : View). source_loads (coding_of 1) v ≡ true) is w.all-load;
      takes = subst (λ (v : View). takes_table widening (table_read v) ≡ true) is p.0;
      sound = subst (λ (v : View). Sound (coding_of 2) (carried widening n f a (table_read v))) is
          (went-sound 1 2 widening carry-recodes refl n f a source target w);
      fresh = k.1;
      freshened = k.2;
      leaves =
          sym (went-space 1 2 widening carry-recodes refl n f a source target done w.head w.header-sound
          ∙ ap (λ (v : View). built (sizes_of 2) (carried widening n f a (table_read v)) target) is);
    }

-- its header is sound
pub not-refused : (n f a : ℕ) (source target : List ℕ) → carry_reply n f a source target ≡ Ok tt → (k : Refusal) → Err k ≡ space_header source → ⊥
not-refused n f a source target done k e =
    let w = went 1 2 widening carry-recodes refl n f a source target done in sound-not-refused (sym w.header-sound ∙ sym e)

-- ---- cells of edition 2 that hold a table

passes-tokens : (p : Path) (test : Word → Bool) → path_passes p test ≡ true → p ≡ tokens (word_of p)
passes-tokens none test e = absurd (false≢true e)
passes-tokens (tokens w) test e = refl

module _ (known : known_edition 2 ≡ true) (t : Table) (cs : List ℕ) (k : Holds (sizes_of 2) (coding_of 2) t cs) where
  held_two : space_header cs ≡ header_of (sizes_of 2) cs
  held_two = (header-any 2 known cs k.head k.sound).0 ∙ sym k.sound

  held-takes : (s : ℕ) → 0 < s → s ≤ length t.subgoals → TakesAnswer cs s
  held-takes s low high g e =
      let any = header-any 2 known cs k.head k.sound in
      let same : k.head ≡ g = sound-same (sym any.0 ∙ sym e) in
      let o = k.same.subgoal s low high in
      let last = last-most t s _ _ o.last in
      let two : 2 ≡ k.head.edition = sym any.1 in
      subst (λ (y : Head). (1 ≤ s) × (s ≤ y.subgoals) × ((subgoal_under cs y s).root < y.nodes) × ((subgoal_under cs y s).last ≤ y.answers)) same (
        omega arith,
        omega (arith, k.same.subgoals),
        subst (λ (x : ℕ). (subgoal_in (sizes_of x) cs k.head.subgoal_offset s).root < k.head.nodes) two o.root_in,
        subst (λ (x : ℕ). (subgoal_in (sizes_of x) cs k.head.subgoal_offset s).last ≤ k.head.answers) two (omega (arith, last, k.same.answers)),
      )

  -- where its subgoals begin, and that the first so many stand in the cells
  held-offset : (g : Head) → Ok g ≡ space_header cs
      → (g.subgoal_offset ≡ subgoal_offset_of (sizes_of 2) t.N) × ((s : ℕ) → s ≤ t.F → g.subgoal_offset + subgoal_width 2 * s ≤ length cs)
  held-offset g e =
      let any = header-any 2 known cs k.head k.sound in
      let same : k.head ≡ g = sound-same (sym any.0 ∙ sym e) in
      let r = header_read (sizes_of 2) cs k.head k.sound in
      let o : k.head.subgoal_offset ≡ subgoal_offset_of (sizes_of 2) t.N =
      ap (λ (y : Head). y.subgoal_offset) r.is ∙ r.headed.subgoals-from ∙ ap (subgoal_offset_of (sizes_of 2)) k.same.N-same in
      let o' : k.head.subgoal_offset ≡ subgoal_offset_of (sizes_of 2) k.head.node_capacity =
      ap (λ (y : Head). y.subgoal_offset) r.is ∙ r.headed.subgoals-from in
      subst (λ (y : Head). (y.subgoal_offset ≡ subgoal_offset_of (sizes_of 2) t.N) × ((s : ℕ) → s ≤ t.F → y.subgoal_offset + subgoal_width 2 * s ≤ length cs)) same (
        o,
        λ s l.
            let m : subgoal_width 2 * s ≤ subgoal_width 2 * k.head.subgoal_capacity = mul-le-mul_left (subgoal_width 2) (omega (arith, k.same.F-same)) in
            omega (arith, o', m, r.headed.end-within),
      )

-- ---- what the loops ask for

module _ (n f a : ℕ) (source target : List ℕ) (h : Head) (x : Accepted n f a source target h) where
  abbrev v : View
  v = view_in source h

  abbrev u : Table
  u = carried widening n f a (table_read (view_in source h))

  abbrev S : ℕ → List ℕ
  S = after_subgoals (sizes_of 2) widening (view_in source h) n f a target

  abbrev A : ℕ → List ℕ
  A = after_answers (sizes_of 2) widening (view_in source h) n f a target

  subgoal-read : (s : ℕ) → 0 < s → s ≤ h.subgoals → (sound_subgoal v s ≡ true) × PathCarried (subgoal_path v s)
  unfolding subgoal_loads
  subgoal-read s low high =
      let test : Word → Bool = λ w. (coding_of 1).legal 1 w && eqb (length (met [] w)) (v.subgoal s).variables in
      let p = and_both (sound_subgoal v s) (path_passes (subgoal_path v s) test) (subgoal-loads (coding_of 1) v x.loads s low high) in (
        p.0,
        (
          word_of (subgoal_path v s),
          passes-tokens (subgoal_path v s) test p.1,
          subst (λ (g : table.Subgoal). takes_word widening g.form ≡ true) (subgoal-at v s low high) (takes-subgoal widening (table_read v) x.takes s),
        ),
      )

  answer-read : (b : ℕ) → 0 < b → b ≤ h.answers → AnswerBounds h.nodes h.subgoals h.answers b (v.answer b) × PathCarried (answer_path v b)
  unfolding answer_loads
  answer-read b low high =
      let test : Word → Bool = λ w. (coding_of 1).legal (v.subgoal (v.answer b).subgoal).variables w in
      let p = and_both (sound_pair v b) (path_passes (answer_path v b) test) (answer-loads (coding_of 1) v x.loads b low high) in
      let q = and_both (sound_answer v b) (sound_subgoal v (v.answer b).subgoal) p.0 in (
        answer-bounds h.nodes h.subgoals h.answers b (v.answer b) q.0,
        (
          word_of (answer_path v b),
          passes-tokens (answer_path v b) test p.1,
          subst (λ (y : table.Answer). takes_word widening y.form ≡ true) (answer_at_lem v b low high) (takes-answer widening (table_read v) x.takes b),
        ),
      )

  held-subgoals : (i : ℕ) → i ≤ h.subgoals → (t : Table) × Holds (sizes_of 2) (coding_of 2) t (S i)
  held-subgoals i l = (_, subgoals-held (sizes_of 2) widening v n f a target (sizes-wide 2) (coding_of 2) (coding-laws 2) (coding-again 2) x.sound x.fresh i l)

  held-answers : (i : ℕ) → i ≤ h.answers → (t : Table) × Partly u t (first_answers widening v i) × Holds (sizes_of 2) (coding_of 2) t (A i)
  held-answers i l = answers-held (sizes_of 2) widening v n f a target (sizes-wide 2) (coding_of 2) (coding-laws 2) (coding-again 2) x.sound x.fresh i l

  count : length u.subgoals ≡ h.subgoals
  count = carried-subgoals widening n f a (table_read v) ∙ subgoals-length v

  subgoals-ready : SubgoalsReady source h (fresh_space (sizes_of 2) n f a target)
  subgoals-ready i low =
      let r = subgoal-read (suc i) (omega arith) low in
      let b = subgoal-bounds h.nodes h.answers (v.subgoal (suc i)) r.0 in
      let k = held-subgoals i (omega arith) in
      record { leaf-in = b.leaf-below; path = r.1; variables = b.variables-most; two = held_two x.known k.0 (S i) k.1 }

  answers-ready : AnswersReady source h (S h.subgoals)
  answers-ready i low =
      let r = answer-read (suc i) (omega arith) low in
      let k = held-answers i (omega arith) in
      let high : (v.answer (suc i)).subgoal ≤ length k.0.subgoals = omega (arith, r.0.subgoal-most, k.1.count, count) in
      record {
        own-low = r.0.subgoal-some;
        own-high = r.0.subgoal-most;
        leaf-in = r.0.leaf-below;
        path = r.1;
        two = held_two x.known k.0 (A i) k.2;
        takes = held-takes x.known k.0 (A i) k.2 (v.answer (suc i)).subgoal r.0.subgoal-some high;
      }

  -- the cells as each step leaves them
  module _ (begun : List ℕ) (e : begun ≡ fresh_space_in 2 n f a target) where
    pub subgoals-asked : Bounds source h × SubgoalsReady source h begun
    subgoals-asked = (x.bounds, subst (SubgoalsReady source h) (sym (e ∙ x.freshened)) subgoals-ready)

    module _ (entered : List ℕ) (e1 : entered ≡ with_first source h begun h.subgoals) where
      subgoals-in : entered ≡ S h.subgoals
      subgoals-in = e1 ∙ ap (λ (l : List ℕ). with_first source h l h.subgoals) (e ∙ x.freshened)

      pub answers-asked : Bounds source h × AnswersReady source h entered
      answers-asked = (x.bounds, subst (AnswersReady source h) (sym subgoals-in) answers-ready)

      module _ (answered : List ℕ) (e2 : answered ≡ with_answers source h entered h.answers) where
        answers-in : answered ≡ A h.answers
        answers-in = e2 ∙ ap (λ (l : List ℕ). with_answers source h l h.answers) subgoals-in

        held_all : (t : Table) × Partly u t (first_answers widening v h.answers) × Holds (sizes_of 2) (coding_of 2) t answered
        held_all =
            let k = held-answers h.answers (omega arith) in
            (k.0, k.1, subst (Holds (sizes_of 2) (coding_of 2) k.0) (sym answers-in) k.2)

        pub not-headless : (k : Refusal) → Err k ≡ space_header answered → ⊥
        not-headless k q =
            let m = held_all in
            sound-not-refused (sym (header-any 2 x.known answered m.2.head m.2.sound).0 ∙ sym q)

        module _ (to : Head) (q : Ok to ≡ space_header answered) where
          begins-at : to.subgoal_offset ≡ subgoal_offset_of (sizes_of 2) n
          begins-at =
              let m = held_all in
              (held-offset x.known m.0 answered m.2 to q).0 ∙ ap (subgoal_offset_of (sizes_of 2)) m.1.N-same

          pub states-asked : Bounds source h × StatesReady source h to.subgoal_offset (length answered)
          states-asked =
              let m = held_all in
              let room : h.subgoals ≤ m.0.F = omega (arith, count, x.sound.kept.subgoal-room, m.1.F-same) in (
                x.bounds,
                record {
                  room = (held-offset x.known m.0 answered m.2 to q).1 h.subgoals room;
                  sound = λ i low. (subgoal-read (suc i) (omega arith) low).0;
                },
              )

          pub written : (after : List ℕ) → after ≡ with_states source h to.subgoal_offset answered h.subgoals → after ≡ carry_space n f a source target
          written after r =
              let gs : List table.Subgoal = first_subgoals widening v h.subgoals in
              r ∙ ap (λ (o : ℕ). states_given (sizes_of 2) o answered 1 gs) begins-at
              ∙ ap (λ (l : List ℕ). states_given (sizes_of 2) (subgoal_offset_of (sizes_of 2) n) l 1 gs) answers-in
              ∙ sym (states-last (sizes_of 2) widening v n f a target) ∙ x.leaves
