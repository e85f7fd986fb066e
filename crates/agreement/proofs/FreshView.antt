-- A fresh space has a sound header and the subgoal root alone.
use Rattle.basis.specs.declared.refusals.Refusal.TheVariants as refusal
use Rattle.std.specs.Prelude.{Err, Ok}
use Prim.Native.Nat.{ℕ, ◌+◌, ◌-◌, ◌*◌, ◌<◌, ◌≤◌}
use mathlib.Core.Path.{◌≡◌, refl, ap, ◌∙◌}
use mathlib.Core.Bool.{true, ◌&&◌}
use mathlib.Core.List.{List, ◌++◌}
use native.Mathlib.Omega.{arith}
use lib.ListN.{length, get_or, drop, replicate, length-append, length-replicate, length-drop, get_or-replicate, get_or-append}
use lib.Seq.{get_or-append-add}
use lib.Dec.{leb}
use borrow.Author.Tests.{leb-true}
use Rattle.basis.proofs.Cases.{by_cases}
use Rattle.space.specs.Layout.{Sizes, most, subgoal_offset_of, answer_offset_of, end_offset, node_at, subgoal_at, answer_at, node_in, subgoal_in, answer_in}
use Rattle.space.specs.Heading.{in_range, header_of}
use Rattle.space.specs.Fresh.{fresh_header, fresh_cells, fresh_fits, fresh_answer, fresh_space}
use Rattle.space.specs.declared.Head.{Head}
use Rattle.space.proofs.HeaderLaws.{range-least, range-largest}
use Rattle.space.proofs.LayoutLaws.{node-equal, subgoal-equal, answer-equal}
use Rattle.trie.specs.Append.{new_root}
use Rattle.trie.proofs.WalkLaws.{both_true}
use Rattle.store.specs.Views.{view_of}
use Rattle.store.specs.Changes.{new_subgoal}
use Rattle.agreement.specs.Records.{Wide, Alike, fresh_view}
use Rattle.agreement.proofs.CellRecords.{Holds, row_ends}
use Rattle.agreement.proofs.CellChanges.{view_made}

zeros-behind : (x : List ℕ) (n : ℕ) (y : List ℕ) (j : ℕ) → length x ≤ j → j < length x + n → get_or (x ++ (replicate n 0 ++ y)) j 0 ≡ 0
zeros-behind x n y j l h =
    let e : j ≡ length x + (j - length x) = omega arith in
    ap (λ (k : ℕ). get_or (x ++ (replicate n 0 ++ y)) k 0) e
    ∙ get_or-append-add x (replicate n 0 ++ y) (j - length x) 0
    ∙ get_or-append (replicate n 0) y 0 (j - length x) (omega (arith, length-replicate {A = ℕ} n 0))
    ∙ get_or-replicate n (j - length x) 0 0 (omega arith)

module _ (z : Sizes) (n f a : ℕ) (s : List ℕ) where
  pub record Held : Type 0 where
    pub some-node : 1 ≤ n
    pub nodes-most : n ≤ most
    pub subgoals-most : f ≤ most
    pub answers-most : a ≤ most
    pub end-within : end_offset z n f a ≤ length s

  fits-held : fresh_fits z n f a s ≡ true → Held
  unfolding fresh_fits
  fits-held t =
      let x = both_true (in_range 1 n && in_range 0 f && in_range 0 a) (leb (end_offset z n f a) (length s)) t in
      let y = both_true (in_range 1 n && in_range 0 f) (in_range 0 a) x.0 in
      let w = both_true (in_range 1 n) (in_range 0 f) y.0 in
      record {
        some-node = range-least 1 n w.0;
        nodes-most = range-largest 1 n w.0;
        subgoals-most = range-largest 0 f w.1;
        answers-most = range-largest 0 a y.1;
        end-within = leb-true _ _ x.1;
      }

  answer-done : fresh_answer z n f a s ≡ Ok tt → fresh_fits z n f a s ≡ true
  unfolding fresh_answer
  answer-done e =
      by_cases (fresh_fits z n f a s) (λ t. t) (λ t.
      let x : Err refusal.Fresh ≡ Ok tt = simp t at e in
      let y : ◌≡◌ {A = ℕ} 0 1 = cc in
      absurd (omega arith))

  space-cells : fresh_fits z n f a s ≡ true → fresh_space z n f a s ≡ fresh_cells z n f a s
  unfolding fresh_space
  space-cells t = simp t

  module _ (d : Held) where
    cells-length : length (fresh_cells z n f a s) ≡ length s
    unfolding fresh_cells
    cells-length =
        simp (length-append, length-replicate, length-drop) (omega (arith, d.end-within))

    -- the cells behind the header
    cell-zero : (j : ℕ) → 8 ≤ j → j < end_offset z n f a → get_or (fresh_cells z n f a s) j 0 ≡ 0
    unfolding fresh_cells
    cell-zero j l h = zeros-behind (fresh_header z n f a) (end_offset z n f a - 8) (drop (end_offset z n f a) s) j l (omega arith)

    fresh-held : Wide z → Holds z (subgoal_offset_of z n) (answer_offset_of z n f) (fresh_cells z n f a s) (fresh_view n f a)
    unfolding fresh_cells
    fresh-held wide = record {
      headed = record {
        edition = refl;
        nodes-cell = refl;
        subgoals-cell = refl;
        answers-cell = refl;
        nodes-from = refl;
        subgoals-from = refl;
        answers-from = refl;
        end-at = refl;
        end-within = omega (arith, cells-length, d.end-within);
      };
      subgoals-at = refl;
      answers_at = refl;
      node-held = λ i l.
          let r : z.node * i + z.node ≤ z.node * n = row_ends z.node i n l in
          node-equal (node_in z (fresh_cells z n f a s) i) (new_root 0)
          (cell-zero (node_at z i) (omega arith) (omega arith))
          (cell-zero (node_at z i + 1) (omega arith) (omega arith))
          (cell-zero (node_at z i + 2) (omega arith) (omega arith))
          (cell-zero (node_at z i + 3) (omega arith) (omega arith))
          (cell-zero (node_at z i + 4) (omega arith) (omega arith));
      subgoal-held = λ i l m.
          let o : i - 1 < f = omega arith in
          let r : z.subgoal * (i - 1) + z.subgoal ≤ z.subgoal * f = row_ends z.subgoal (i - 1) f o in
          subgoal-equal (subgoal_in z (fresh_cells z n f a s) (subgoal_offset_of z n) i) (new_subgoal 0 0 0)
          (cell-zero (subgoal_at z (subgoal_offset_of z n) i) (omega arith) (omega arith))
          (cell-zero (subgoal_at z (subgoal_offset_of z n) i + 1) (omega arith) (omega arith))
          (cell-zero (subgoal_at z (subgoal_offset_of z n) i + 2) (omega arith) (omega arith))
          (cell-zero (subgoal_at z (subgoal_offset_of z n) i + 3) (omega arith) (omega arith))
          (cell-zero (subgoal_at z (subgoal_offset_of z n) i + 4) (omega arith) (omega arith))
          (cell-zero (subgoal_at z (subgoal_offset_of z n) i + 5) (omega arith) (omega arith));
      answer-held = λ i l m.
          let o : i - 1 < a = omega arith in
          let r : z.answer * (i - 1) + z.answer ≤ z.answer * a = row_ends z.answer (i - 1) a o in
          answer-equal (answer_in z (fresh_cells z n f a s) (answer_offset_of z n f) i) (record { leaf = 0; subgoal = 0; next = 0 })
          (cell-zero (answer_at z (answer_offset_of z n f) i) (omega arith) (omega arith))
          (cell-zero (answer_at z (answer_offset_of z n f) i + 1) (omega arith) (omega arith))
          (cell-zero (answer_at z (answer_offset_of z n f) i + 2) (omega arith) (omega arith));
    }

pub fresh-view : (z : Sizes) → Wide z → (n f a : ℕ) (s : List ℕ) → fresh_answer z n f a s ≡ Ok tt
    → (h : Head) × (header_of z (fresh_space z n f a s) ≡ Ok h) × Alike (view_of z (fresh_space z n f a s) h) (fresh_view n f a)
fresh-view z wide n f a s e =
    let t = answer-done z n f a s e in
    let d = fits-held z n f a s t in
    rw (space-cells z n f a s t)
    (view_made wide (fresh-held z n f a s d wide) (record {
      some-node = omega arith;
      nodes-within = d.some-node;
      subgoals-within = omega arith;
      answers-within = omega arith;
      nodes-most = d.nodes-most;
      subgoals-most = d.subgoals-most;
      answers-most = d.answers-most;
    }))
