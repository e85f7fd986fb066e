-- Then the states, as recorded: the cells hold the table.
use Rattle.std.specs.Prelude.{Ok}
use Prim.Native.Nat.{ℕ, zero, suc, ◌+◌, ◌≤◌, ◌<◌}
use mathlib.Core.Path.{◌≡◌, refl, sym, ap, ◌∙◌, subst}
use mathlib.Core.List.{List, [], ◌∷◌, ◌++◌, append-nil}
use native.Mathlib.Omega.{arith}
use lib.ListN.{length, get_or}
use borrow.Author.Tests.{eq-eqb, ne_eqb}
use Rattle.basis.specs.Choice.{pick}
use Rattle.forms.specs.Compact.{same}
use Rattle.plain.specs.Words.{Word}
use Rattle.plain.specs.Coding.{Coding}
use Rattle.plain.specs.CodingLaws.{CodingLaws}
use Rattle.plain.specs.Requests.{State, Open, Finished}
use Rattle.plain.specs.Table as table
use Rattle.plain.specs.Table.{Table, Answer, no_subgoal, subgoal_at, answer_at, called_forms, nodes, number, subgoal_of, answer_of}
use Rattle.plain.proofs.LinkLaws.{link_of}
use Rattle.plain.proofs.Counted.{Forest}
use Rattle.plain.proofs.Soundness.{Sound}
use Rattle.plain.proofs.ReasonLaws.{lowest-forms}
use Rattle.space.specs.Layout.{Sizes, subgoal_offset_of}
use Rattle.space.specs.Fresh.{fresh_answer, fresh_space}
use Rattle.space.specs.declared.Head.{Head}
use Rattle.space.specs.declared.Subgoal.{Subgoal}
use Rattle.store.specs.Views.{View, view_of}
use Rattle.store.specs.Calls.{cell_step}
use Rattle.agreement.specs.Whole.{ReadingAgain}
use Rattle.agreement.specs.Records.{Wide, with_state, updated}
use Rattle.agreement.proofs.HeaderTests.{header_read}
use Rattle.agreement.proofs.CellRecords as records
use Rattle.agreement.proofs.CellRecords.{with_subgoals}
use Rattle.agreement.proofs.CellWrites.{state-set}
use Rattle.agreement.proofs.CellChanges.{view-held, view_made}
use Rattle.agreement.proofs.SameRecords.{state_cell, LastSame, no_last, some-last, SubgoalSame, Same, same_alike}
use Rattle.agreement.proofs.Holding.{Cells, Holds}
use Rattle.agreement.proofs.CallLists.{cell_step-sound}
use Rattle.agreement.proofs.Following.{fresh_holds}
use Rattle.agreement.proofs.Theorem.{cells-hold}
use Rattle.carrying.specs.Copying.{state_number, subgoals_given, answers_given, states_given, built}
use Rattle.carrying.proofs.Building.{begun, subgoals-hold}
use Rattle.carrying.proofs.BuildingAnswers.{Partly, begun-partly, answers-hold}

-- ---- the states in the cells

unfoldable states_at : (ℕ → Subgoal) → ℕ → List table.Subgoal → ℕ → Subgoal
states_at at s [] = at
states_at at s (g ∷ gs) = states_at (updated at s (with_state (at s) (state_number g.state))) (suc s) gs

states-below : (gs : List table.Subgoal) (at : ℕ → Subgoal) (s i : ℕ) → i < s → states_at at s gs i ≡ at i
unfolding states_at
states-below [] at s i h = refl
states-below (g ∷ gs) at s i h = states-below gs (updated at s (with_state (at s) (state_number g.state))) (suc s) i (omega arith) ∙ rw (ne_eqb i s (λ e. omega arith))

states-at : (gs : List table.Subgoal) (at : ℕ → Subgoal) (s j : ℕ) → j < length gs → states_at at s gs (s + j) ≡ with_state (at (s + j)) (state_number (get_or gs j no_subgoal).state)
unfolding states_at
states-at [] at s j h = absurd (omega arith)
states-at (g ∷ gs) at s zero h =
    let e : s + 0 ≡ s = omega arith in
    rw e (states-below gs (updated at s (with_state (at s) (state_number g.state))) (suc s) s (omega arith) ∙ rw (eq-eqb s s refl))
states-at (g ∷ gs) at s (suc j) h =
    let e : s + suc j ≡ suc s + j = omega arith in
    rw e (states-at gs (updated at s (with_state (at s) (state_number g.state))) (suc s) j (omega arith) ∙ rw (ne_eqb (suc s + j) s (λ x. omega arith)))

module _ {z : Sizes} (wide : Wide z) {p q : ℕ} (v : View) where
  states-put : (gs : List table.Subgoal) (at : ℕ → Subgoal) (s : ℕ) (cs : List ℕ) → 1 ≤ s → s + length gs ≤ suc v.F → records.Holds z p q cs (with_subgoals v at)
      → records.Holds z p q (states_given z p cs s gs) (with_subgoals v (states_at at s gs))
  unfolding states_given states_at
  states-put [] at s cs l h H = H
  states-put (g ∷ gs) at s cs l h H =
      states-put gs (updated at s (with_state (at s) (state_number g.state))) (suc s) _ (omega arith) (omega arith)
      (state-set wide H s l (omega arith) (state_number g.state))

-- ---- the table with other states

number-forms : (y : Word) (n : ℕ) (gs : List table.Subgoal) → number (λ g. same g.form y) n gs ≡ number (λ w. same w y) n (called_forms gs)
unfolding number
number-forms y n [] = refl
number-forms y n (g ∷ gs) = ap (λ (k : ℕ). pick (same g.form y) n k) (number-forms y (suc n) gs)

-- u with these subgoals instead
abbrev mixed : Table → List table.Subgoal → Table
mixed u gs = record { N = u.N; F = u.F; A = u.A; subgoals = gs; answers = u.answers }

module _ (c : Coding) (u : Table) (sound : Sound c u) (gs : List table.Subgoal) (forms : called_forms gs ≡ called_forms u.subgoals) (count : length gs ≡ length u.subgoals)
    (form : (s : ℕ) → (subgoal_at (mixed u gs) s).form ≡ (subgoal_at u s).form) (m : (s : ℕ) → (subgoal_at (mixed u gs) s).m ≡ (subgoal_at u s).m) where
  abbrev t : Table
  t = mixed u gs

  link_of-same : (y : Word) → link_of t y ≡ link_of u y
  unfolding link_of subgoal_of
  link_of-same [] = refl
  link_of-same (zero ∷ y) = number-forms y 1 gs ∙ ap (number (λ w. same w y) 1) forms ∙ sym (number-forms y 1 u.subgoals)
  link_of-same (suc i ∷ y) = unfold answer_of in refl

  forest-same : (es : List Word) → Forest t es → Forest u es
  forest-same es r = record {
    calls = r.calls ∙ ap {B = List Word} (λ (l : List Word). [] ∷ l) forms;
    replies = λ x h k. r.replies x h (omega (arith, count));
    unused = λ x h. r.unused x (omega (arith, count));
    unanswered = λ x h. r.unanswered x (omega (arith, count));
    count = r.count ∙ (unfold nodes in rw (forms, count));
  }

  last-same : (i first last : ℕ) → LastSame t i first last → LastSame u i first last
  unfolding answer_at
  last-same i first last (no_last p q) = no_last p q
  last-same i first last (some-last p q x z) = some-last p q x z

  subgoal-same : (K : List Word) (n i : ℕ) (g : Subgoal) → SubgoalSame t K n i g → SubgoalSame u K n i (with_state g (state_cell (subgoal_at u i).state))
  unfolding answer_at
  subgoal-same K n i g o = record {
    leaf-in = o.leaf-in;
    leaf-key = o.leaf-key ∙ ap (λ (w : Word). 0 ∷ w) (form i);
    root_in = o.root_in;
    root-key = o.root-key;
    root-next = o.root-next;
    variables = o.variables ∙ m i;
    state = refl;
    first = o.first;
    last = last-same i _ _ o.last;
  }

  same-restated : (v : View) (at : ℕ → Subgoal) → ((s : ℕ) → 0 < s → s ≤ length u.subgoals → at s ≡ with_state (v.subgoal s) (state_cell (subgoal_at u s).state))
      → Same c (mixed u gs) v → Same c u (with_subgoals v at)
  unfolding answer_at
  same-restated v at e S = record {
    es = S.es;
    forest = forest-same S.es S.forest;
    K = S.K;
    numbering = S.numbering;
    tries = S.tries;
    links = λ i h. S.links i h ∙ link_of-same _;
    origin = S.origin;
    some = S.some;
    N-same = S.N-same;
    F-same = S.F-same;
    A-same = S.A-same;
    sound = sound;
    firsts = λ p x y i j some g k e. omega (arith, S.firsts p x y i j some g k e, lowest-forms (mixed u gs) u forms (p ++ (x ∷ [])), lowest-forms (mixed u gs) u forms (p ++ (y ∷ [])));
    subgoals = S.subgoals ∙ count;
    answers = S.answers;
    subgoal = λ s h k. rw (e s h k) (subgoal-same S.K v.nodes s (v.subgoal s) (S.subgoal s h (omega (arith, count))));
    answer = λ b h k. let o = S.answer b h k in record { leaf-in = o.leaf-in; leaf-key = o.leaf-key; subgoal = o.subgoal; next = o.next };
  }

-- ---- together

cell-state : (x : State) → state_number x ≡ state_cell x
cell-state Open = refl
cell-state Finished = refl

table_of : (n m f g a b : ℕ) (x : List table.Subgoal) (y w : List Answer) → n ≡ m → f ≡ g → a ≡ b → y ≡ w
    → ◌≡◌ {A = Table} (record { N = n; F = f; A = a; subgoals = x; answers = y }) (record { N = m; F = g; A = b; subgoals = x; answers = w })
table_of n m f g a b x y w e h i k = rw (e, h, i, k)

subgoal_at-alike : (t u : Table) → t.subgoals ≡ u.subgoals → (s : ℕ) → subgoal_at t s ≡ subgoal_at u s
unfolding subgoal_at
subgoal_at-alike t u e s = ap (λ (l : List table.Subgoal). get_or (no_subgoal ∷ l) s no_subgoal) e

subgoal_at-place : (u : Table) (j : ℕ) → subgoal_at u (suc j) ≡ get_or u.subgoals j no_subgoal
unfolding subgoal_at
subgoal_at-place u j = refl

module _ (z : Sizes) (wide : Wide z) (c : Coding) (laws : CodingLaws c) (again : ReadingAgain c) (u : Table) (sound : Sound c u) where
  states-hold : (t : Table) (cs : List ℕ) → Partly u t u.answers → Holds z c t cs → Holds z c u (states_given z (subgoal_offset_of z u.N) cs 1 u.subgoals)
  states-hold t cs p k =
      let h : Head = k.head in
      let v : View = view_of z cs h in
      let r = header_read z cs h k.sound in
      let H = view-held z cs h r in
      let is : t ≡ mixed u t.subgoals = table_of _ _ _ _ _ _ t.subgoals _ _ p.N-same p.F-same p.A-same p.answers in
      let S : Same c (mixed u t.subgoals) v = subst (λ (x : Table). Same c x v) is k.same in
      let offset : h.subgoal_offset ≡ subgoal_offset_of z u.N = H.subgoals-at ∙ ap (λ (n : ℕ). subgoal_offset_of z n) S.N-same in
      let room : 1 + length u.subgoals ≤ suc v.F = omega (arith, sound.kept.subgoal-room, S.F-same) in
      let G = states-put wide v u.subgoals v.subgoal 1 cs (omega arith) room H in
      let made = view_made wide G r.within in
      let at-states : (s : ℕ) → 0 < s → s ≤ length u.subgoals → states_at v.subgoal 1 u.subgoals s ≡ with_state (v.subgoal s) (state_cell (subgoal_at u s).state) = placed v in
      let same = same-restated c u sound t.subgoals p.forms p.count
      (λ s. ap (λ (g : table.Subgoal). g.form) (subgoal_at-alike (mixed u t.subgoals) t refl s) ∙ p.form s)
      (λ s. ap (λ (g : table.Subgoal). g.m) (subgoal_at-alike (mixed u t.subgoals) t refl s) ∙ p.m s)
      v (states_at v.subgoal 1 u.subgoals) at-states S in
      subst (λ (o : ℕ). Holds z c u (states_given z o cs 1 u.subgoals)) offset
      (record { head = made.0; sound = made.1; same = same_alike c u (with_subgoals v (states_at v.subgoal 1 u.subgoals)) _ same made.2 })
    where
      placed : (v : View) (s : ℕ) → 0 < s → s ≤ length u.subgoals → states_at v.subgoal 1 u.subgoals s ≡ with_state (v.subgoal s) (state_cell (subgoal_at u s).state)
      placed v zero l h = absurd (omega arith)
      placed v (suc j) l h =
          let e : 1 + j ≡ suc j = omega arith in
          let x = states-at u.subgoals v.subgoal 1 j (omega arith) in
          let y : state_number (get_or u.subgoals j no_subgoal).state ≡ state_cell (subgoal_at u (suc j)).state =
          cell-state (get_or u.subgoals j no_subgoal).state ∙ ap (λ (g : table.Subgoal). state_cell g.state) (sym (subgoal_at-place u j)) in
          subst (λ (i : ℕ). states_at v.subgoal 1 u.subgoals i ≡ with_state (v.subgoal i) (state_number (get_or u.subgoals j no_subgoal).state)) e x
          ∙ ap (λ (i : ℕ). with_state (v.subgoal (suc j)) i) y

  -- the cells hold the table
  pub built-holds : (cs : List ℕ) → fresh_answer z u.N u.F u.A cs ≡ Ok tt → Holds z c u (built z u cs)
  unfolding built
  built-holds cs d =
      let cells : Cells z = cells-hold z wide in
      let k = fresh_holds z c cells laws (cell_step z c) (cell_step-sound z c) u.N u.F u.A cs d in
      let called = subgoals-hold z c cells laws u sound u.subgoals [] [] (fresh_space z u.N u.F u.A cs) (append-nil u.subgoals) k in
      let full = answers-hold z c cells laws again u sound u.answers [] [] (begun u u.subgoals) (subgoals_given z (fresh_space z u.N u.F u.A cs) u.subgoals) (append-nil u.answers) (begun-partly u) called in
      states-hold full.0 (answers_given z (subgoals_given z (fresh_space z u.N u.F u.A cs) u.subgoals) u.answers) full.1 full.2
