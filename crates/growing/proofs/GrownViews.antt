-- The header and the records of a grown table.
use Rattle.basis.specs.declared.refusals.Refusal.TheVariants as refusal
use Rattle.basis.specs.declared.refusals.Refusal.{Refusal}
use Rattle.std.specs.Prelude.{Err, Ok}
use Prim.Native.Nat.{ℕ, ◌+◌, ◌-◌, ◌*◌, ◌≤◌, ◌<◌}
use mathlib.Core.Path.{◌≡◌, refl, sym, ap, ◌∙◌, subst}
use mathlib.Core.Bool.{Bool, true, false}
use mathlib.Core.List.{List}
use native.Mathlib.Omega.{arith}
use native.Mathlib.Nat.{mul-le-mul_left}
use lib.ListN.{length, get_or}
use Rattle.basis.specs.Choice.{pick}
use Rattle.space.specs.Layout.{sizes_of, subgoal_width, answer_width, subgoal_offset_of, answer_offset_of, end_offset, node_in, subgoal_in, answer_in}
use Rattle.space.specs.Heading.{head_of, header_of, space_header, Header}
use Rattle.space.specs.Fresh.{fresh_fits, FreshAnswer}
use Rattle.space.specs.declared.Head.{Head}
use Rattle.space.proofs.HeaderLaws.{subgoal-width, answer-width}
use Rattle.space.proofs.LayoutLaws.{node-equal, subgoal-equal, answer-equal}
use Rattle.trie.specs.Append.{new_root}
use Rattle.store.specs.Views.{view_of}
use Rattle.store.specs.Changes.{new_subgoal}
use Rattle.agreement.specs.Records.{Alike}
use Rattle.agreement.proofs.CellRecords.{row_ends}
use Rattle.agreement.proofs.CellChanges.{sizes-wide}
use Rattle.agreement.proofs.HeaderTests.{Headed, Within, header_made}
use Rattle.agreement.proofs.Theorem.{header-any}
use Rattle.growing.specs.Growing.{enough, grown_cells, grow_under, grow_reply, grow_space}
use Rattle.growing.specs.Clauses.{Grows}
use Rattle.growing.specs.Promises.{Grown, view_before, view_after, resized_view, GrownView, FreeAsFresh, GrownFree, GrownFrame, GrowRefused}
use Rattle.growing.proofs.MovingLaws.{at_place}
use Rattle.growing.proofs.GrowingCases.{grow-done}
use Rattle.growing.proofs.Regions.{header-in, Room, grows-room, Regions, regions-grown}

not_done : {k : Refusal} → ◌≡◌ {A = FreshAnswer} (Err k) (Ok tt) → ⊥
not_done e = let z : ◌≡◌ {A = ℕ} 0 1 = cc in omega arith

picked : (b : Bool) (x : FreshAnswer) (k : Refusal) → pick b x (Err k) ≡ Ok tt → (b ≡ true) × (x ≡ Ok tt)
picked true x k e = (refl, e)
picked false x k e = absurd (not_done e)

same_head : (x y : Head) → ◌≡◌ {A = Header} (Ok x) (Ok y) → x ≡ y
same_head x y e = cc

-- ---- what done means

grows-under : (n f a : ℕ) (cs : List ℕ) (x : Header) → space_header cs ≡ x → grow_under n f a cs x ≡ Ok tt → (h : Head) × Grows n f a h cs
unfolding grow_under
grows-under n f a cs (Ok h) s e =
    let p = picked (fresh_fits (sizes_of h.edition) n f a cs) _ refusal.Fresh e in
    let q = picked (enough n f a h) (Ok tt) refusal.Capacity p.1 in
    (h, (sym s, p.0, q.0))
grows-under n f a cs (Err k) s e = absurd (not_done e)

pub grows : (n f a : ℕ) (cs : List ℕ) → Grown n f a cs → (h : Head) × Grows n f a h cs
unfolding grow_reply
grows n f a cs e = grows-under n f a cs (space_header cs) refl e

pub grown-cells : (n f a : ℕ) (cs : List ℕ) (h : Head) → Grows n f a h cs → grow_space n f a cs ≡ grown_cells n f a (sizes_of h.edition) h cs
grown-cells n f a cs h g = sym (grow-done n f a cs h g.0 _ g.1 g.2 refl).1

pub grow-refused : GrowRefused
unfolding grow_space
grow-refused n f a k cs e = rw e

-- ---- the records

module _ (n f a : ℕ) (h : Head) (cs ds : List ℕ) (R : Room n f a h cs) (D : Regions n f a h cs ds) where
  abbrev W : ℕ
  W = subgoal_width h.edition

  abbrev U : ℕ
  U = answer_width h.edition

  headed : Headed (sizes_of h.edition) ds n f a h.nodes h.subgoals h.answers
  headed = record {
    edition = D.heading 0 (omega arith);
    nodes-cell = D.heading 1 (omega arith);
    subgoals-cell = D.heading 2 (omega arith);
    answers-cell = D.heading 3 (omega arith);
    nodes-from = D.heading 4 (omega arith);
    subgoals-from = D.heading 5 (omega arith);
    answers-from = D.heading 6 (omega arith);
    end-at = D.heading 7 (omega arith);
    end-within = omega (arith, D.size, R.new-end);
  }

  within : Within n f a h.nodes h.subgoals h.answers
  within = record {
    some-node = R.some-node;
    nodes-within = R.nodes-used;
    subgoals-within = R.subgoals-used;
    answers-within = R.answers-used;
    nodes-most = R.nodes-most;
    subgoals-most = R.subgoals-most;
    answers-most = R.answers-most;
  }

  pub grown-header : header_of (sizes_of h.edition) ds ≡ Ok (head_of ds n f a)
  grown-header = header_made (sizes-wide h.edition) ds n f a h.nodes h.subgoals h.answers headed within

  node_kept : (i : ℕ) → i < h.nodes → node_in (sizes_of h.edition) ds i ≡ node_in (sizes_of h.edition) cs i
  node_kept i l =
      node-equal (node_in (sizes_of h.edition) ds i) (node_in (sizes_of h.edition) cs i)
      (D.nodes (8 + 5 * i) (omega arith) (omega arith))
      (D.nodes (8 + 5 * i + 1) (omega arith) (omega arith))
      (D.nodes (8 + 5 * i + 2) (omega arith) (omega arith))
      (D.nodes (8 + 5 * i + 3) (omega arith) (omega arith))
      (D.nodes (8 + 5 * i + 4) (omega arith) (omega arith))

  node-free : (i : ℕ) → h.nodes ≤ i → i < n → node_in (sizes_of h.edition) ds i ≡ new_root 0
  node-free i l m =
      node-equal (node_in (sizes_of h.edition) ds i) (new_root 0)
      (D.nodes-free (8 + 5 * i) (omega arith) (omega arith))
      (D.nodes-free (8 + 5 * i + 1) (omega arith) (omega arith))
      (D.nodes-free (8 + 5 * i + 2) (omega arith) (omega arith))
      (D.nodes-free (8 + 5 * i + 3) (omega arith) (omega arith))
      (D.nodes-free (8 + 5 * i + 4) (omega arith) (omega arith))

  -- cell j of the record after i others
  subgoal-cell : (i j : ℕ) → i < h.subgoals → j < 6 → get_or ds (8 + 5 * n + W * i + j) 0 ≡ get_or cs (h.subgoal_offset + W * i + j) 0
  subgoal-cell i j l m =
      let r : W * i + W ≤ W * h.subgoals = row_ends W i h.subgoals l in
      at_place ds (let e : 8 + 5 * n + W * i + j ≡ 8 + 5 * n + (W * i + j) = omega arith in e)
      ∙ D.subgoals (W * i + j) (omega (arith, subgoal-width h.edition 1))
      ∙ at_place cs (let e : h.subgoal_offset + (W * i + j) ≡ h.subgoal_offset + W * i + j = omega arith in e)

  subgoal-zero : (i j : ℕ) → h.subgoals ≤ i → i < f → j < 6 → get_or ds (8 + 5 * n + W * i + j) 0 ≡ 0
  subgoal-zero i j l u m =
      let r : W * i + W ≤ W * f = row_ends W i f u in
      at_place ds (let e : 8 + 5 * n + W * i + j ≡ 8 + 5 * n + (W * i + j) = omega arith in e)
      ∙ D.subgoals-free (W * i + j) (omega (arith, mul-le-mul_left W l)) (omega (arith, subgoal-width h.edition 1))

  answer-cell : (i j : ℕ) → i < h.answers → j < 3 → get_or ds (8 + 5 * n + W * f + U * i + j) 0 ≡ get_or cs (h.answer_offset + U * i + j) 0
  answer-cell i j l m =
      let r : U * i + U ≤ U * h.answers = row_ends U i h.answers l in
      at_place ds (let e : 8 + 5 * n + W * f + U * i + j ≡ 8 + 5 * n + W * f + (U * i + j) = omega arith in e)
      ∙ D.answers (U * i + j) (omega (arith, answer-width h.edition 1))
      ∙ at_place cs (let e : h.answer_offset + (U * i + j) ≡ h.answer_offset + U * i + j = omega arith in e)

  answer-zero : (i j : ℕ) → h.answers ≤ i → i < a → j < 3 → get_or ds (8 + 5 * n + W * f + U * i + j) 0 ≡ 0
  answer-zero i j l u m =
      let r : U * i + U ≤ U * a = row_ends U i a u in
      at_place ds (let e : 8 + 5 * n + W * f + U * i + j ≡ 8 + 5 * n + W * f + (U * i + j) = omega arith in e)
      ∙ D.answers-free (U * i + j) (omega (arith, mul-le-mul_left U l)) (omega (arith, answer-width h.edition 1))

  first_cell : (s : List ℕ) (k : ℕ) → get_or s k 0 ≡ get_or s (k + 0) 0
  first_cell s k = at_place s (let e : k ≡ k + 0 = omega arith in e)

  subgoal-kept : (s : ℕ) → 1 ≤ s → s ≤ h.subgoals
      → subgoal_in (sizes_of h.edition) ds (subgoal_offset_of (sizes_of h.edition) n) s ≡ subgoal_in (sizes_of h.edition) cs h.subgoal_offset s
  subgoal-kept s l m =
      let i : ℕ = s - 1 in
      let u : s - 1 < h.subgoals = omega arith in
      subgoal-equal (subgoal_in (sizes_of h.edition) ds (subgoal_offset_of (sizes_of h.edition) n) s) (subgoal_in (sizes_of h.edition) cs h.subgoal_offset s)
      (first_cell ds (8 + 5 * n + W * i) ∙ subgoal-cell i 0 u (omega arith) ∙ sym (first_cell cs (h.subgoal_offset + W * i)))
      (subgoal-cell i 1 u (omega arith))
      (subgoal-cell i 2 u (omega arith))
      (subgoal-cell i 3 u (omega arith))
      (subgoal-cell i 4 u (omega arith))
      (subgoal-cell i 5 u (omega arith))

  subgoal-free : (s : ℕ) → h.subgoals < s → s ≤ f → subgoal_in (sizes_of h.edition) ds (subgoal_offset_of (sizes_of h.edition) n) s ≡ new_subgoal 0 0 0
  subgoal-free s l m =
      let i : ℕ = s - 1 in
      let u : h.subgoals ≤ s - 1 = omega arith in
      let v : s - 1 < f = omega arith in
      subgoal-equal (subgoal_in (sizes_of h.edition) ds (subgoal_offset_of (sizes_of h.edition) n) s) (new_subgoal 0 0 0)
      (first_cell ds (8 + 5 * n + W * i) ∙ subgoal-zero i 0 u v (omega arith))
      (subgoal-zero i 1 u v (omega arith))
      (subgoal-zero i 2 u v (omega arith))
      (subgoal-zero i 3 u v (omega arith))
      (subgoal-zero i 4 u v (omega arith))
      (subgoal-zero i 5 u v (omega arith))

  answer-kept : (b : ℕ) → 1 ≤ b → b ≤ h.answers
      → answer_in (sizes_of h.edition) ds (answer_offset_of (sizes_of h.edition) n f) b ≡ answer_in (sizes_of h.edition) cs h.answer_offset b
  answer-kept b l m =
      let i : ℕ = b - 1 in
      let u : b - 1 < h.answers = omega arith in
      answer-equal (answer_in (sizes_of h.edition) ds (answer_offset_of (sizes_of h.edition) n f) b) (answer_in (sizes_of h.edition) cs h.answer_offset b)
      (first_cell ds (8 + 5 * n + W * f + U * i) ∙ answer-cell i 0 u (omega arith) ∙ sym (first_cell cs (h.answer_offset + U * i)))
      (answer-cell i 1 u (omega arith))
      (answer-cell i 2 u (omega arith))

  answer-free : (b : ℕ) → h.answers < b → b ≤ a → answer_in (sizes_of h.edition) ds (answer_offset_of (sizes_of h.edition) n f) b ≡ record { leaf = 0; subgoal = 0; next = 0 }
  answer-free b l m =
      let i : ℕ = b - 1 in
      let u : h.answers ≤ b - 1 = omega arith in
      let v : b - 1 < a = omega arith in
      answer-equal (answer_in (sizes_of h.edition) ds (answer_offset_of (sizes_of h.edition) n f) b) (record { leaf = 0; subgoal = 0; next = 0 })
      (first_cell ds (8 + 5 * n + W * f + U * i) ∙ answer-zero i 0 u v (omega arith))
      (answer-zero i 1 u v (omega arith))
      (answer-zero i 2 u v (omega arith))

  pub alike : Alike (view_of (sizes_of h.edition) ds (head_of ds n f a)) (resized_view n f a (view_of (sizes_of h.edition) cs h))
  alike = record {
    N-same = refl;
    F-same = refl;
    A-same = refl;
    nodes-same = headed.nodes-cell;
    subgoals-same = headed.subgoals-cell;
    answers-same = headed.answers-cell;
    node-same = node_kept;
    subgoal-same = λ s l m. ap (λ (k : ℕ). subgoal_in (sizes_of h.edition) ds k s) headed.subgoals-from ∙ subgoal-kept s l m;
    answer-same = λ b l m. ap (λ (k : ℕ). answer_in (sizes_of h.edition) ds k b) headed.answers-from ∙ answer-kept b l m;
  }

  pub nodes-zero : (i : ℕ) → (head_of ds n f a).nodes ≤ i → i < n → (view_of (sizes_of h.edition) ds (head_of ds n f a)).node i ≡ new_root 0
  nodes-zero i l m = node-free i (omega (arith, headed.nodes-cell)) m

  pub subgoals-zero : (s : ℕ) → (head_of ds n f a).subgoals < s → s ≤ f → (view_of (sizes_of h.edition) ds (head_of ds n f a)).subgoal s ≡ new_subgoal 0 0 0
  subgoals-zero s l m = ap (λ (k : ℕ). subgoal_in (sizes_of h.edition) ds k s) headed.subgoals-from ∙ subgoal-free s (omega (arith, headed.subgoals-cell)) m

  pub answers-zero : (b : ℕ) → (head_of ds n f a).answers < b → b ≤ a → (view_of (sizes_of h.edition) ds (head_of ds n f a)).answer b ≡ record { leaf = 0; subgoal = 0; next = 0 }
  answers-zero b l m = ap (λ (k : ℕ). answer_in (sizes_of h.edition) ds k b) headed.answers-from ∙ answer-free b (omega (arith, headed.answers-cell)) m

  pub edition-same : (head_of ds n f a).edition ≡ h.edition
  edition-same = headed.edition

-- ---- of the space

module _ (n f a : ℕ) (cs : List ℕ) (h : Head) (G : Grows n f a h cs) where
  abbrev after : List ℕ
  after = grow_space n f a cs

  room : Room n f a h cs
  room = grows-room n f a h cs G

  regions : Regions n f a h cs (grow_space n f a cs)
  regions = subst (λ (x : List ℕ). Regions n f a h cs x) (sym (grown-cells n f a cs h G)) (regions-grown n f a h cs room)

  pub header-after : (space_header (grow_space n f a cs) ≡ Ok (head_of (grow_space n f a cs) n f a)) × ((head_of (grow_space n f a cs) n f a).edition ≡ h.edition)
  header-after = header-any h.edition (header-in cs h (sym G.0)).0 (grow_space n f a cs) (head_of (grow_space n f a cs) n f a) (grown-header n f a h cs (grow_space n f a cs) room regions)

  view-after : Alike (view_after n f a cs (head_of (grow_space n f a cs) n f a)) (resized_view n f a (view_before n f a cs h))
  view-after =
      subst (λ (e : ℕ). Alike (view_of (sizes_of e) (grow_space n f a cs) (head_of (grow_space n f a cs) n f a)) (resized_view n f a (view_before n f a cs h))) (sym header-after.1)
      (alike n f a h cs (grow_space n f a cs) room regions)

  free-after : FreeAsFresh n f a cs (head_of (grow_space n f a cs) n f a)
  free-after = record {
    nodes-free = λ i l m. subst (λ (e : ℕ). (view_of (sizes_of e) (grow_space n f a cs) (head_of (grow_space n f a cs) n f a)).node i ≡ new_root 0) (sym header-after.1)
        (nodes-zero n f a h cs (grow_space n f a cs) room regions i l m);
    subgoals-free = λ s l m. subst (λ (e : ℕ). (view_of (sizes_of e) (grow_space n f a cs) (head_of (grow_space n f a cs) n f a)).subgoal s ≡ new_subgoal 0 0 0) (sym header-after.1)
        (subgoals-zero n f a h cs (grow_space n f a cs) room regions s l m);
    answers-free = λ b l m. subst (λ (e : ℕ). (view_of (sizes_of e) (grow_space n f a cs) (head_of (grow_space n f a cs) n f a)).answer b ≡ record { leaf = 0; subgoal = 0; next = 0 }) (sym header-after.1)
        (answers-zero n f a h cs (grow_space n f a cs) room regions b l m);
  }

  frame-after : (length (grow_space n f a cs) ≡ length cs) × ((k : ℕ) → end_offset (sizes_of h.edition) n f a ≤ k → get_or (grow_space n f a cs) k 0 ≡ get_or cs k 0)
  frame-after = (regions.size, λ k l. regions.past k l)

-- growing under the head that the header says
pub grows-as : (n f a : ℕ) (cs : List ℕ) (h : Head) → space_header cs ≡ Ok h → Grown n f a cs → Grows n f a h cs
grows-as n f a cs h s e =
    let g = grows n f a cs e in
    subst (λ (x : Head). Grows n f a x cs) (same_head g.0 h (g.1.0 ∙ s)) g.1

pub grown-view : GrownView
grown-view n f a cs h s e =
    let G = grows-as n f a cs h s e in
    let k = header-after n f a cs h G in
    (head_of (grow_space n f a cs) n f a, k.0, k.1, view-after n f a cs h G)

pub grown-free : GrownFree
grown-free n f a cs g e s =
    let x = grows n f a cs e in
    let k = header-after n f a cs x.0 x.1 in
    subst (FreeAsFresh n f a cs) (same_head (head_of (grow_space n f a cs) n f a) g (sym k.0 ∙ s)) (free-after n f a cs x.0 x.1)

pub grown-frame : GrownFrame
grown-frame n f a cs h s e = frame-after n f a cs h (grows-as n f a cs h s e)
