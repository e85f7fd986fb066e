-- Blocks moved, free records cleared and offsets written come to the grown table.
use Prim.Native.Nat.{ℕ, ◌+◌, ◌-◌, ◌*◌, ◌≤◌, ◌<◌}
use mathlib.Core.Path.{◌≡◌, ap, ◌∙◌}
use mathlib.Core.List.{List}
use native.Mathlib.Omega.{arith}
use lib.ListN.{length, get_or, set, length-set}
use lib.Seq.{get_or-set_same, get_or-set_other}
use Rattle.space.specs.Layout.{sizes_of, subgoal_width, answer_width}
use Rattle.space.specs.Heading.{offsets_written}
use Rattle.space.specs.Fresh.{cleared}
use Rattle.space.specs.Sound.{subgoals_end, answers_end}
use Rattle.space.specs.declared.Head.{Head}
use Rattle.growing.specs.declared.Block.{Block}
use Rattle.growing.specs.Moving.{both_moved}
use Rattle.growing.specs.Growing.{grown_header, grown_cells}
use Rattle.growing.specs.Clauses.{Grows}
use Rattle.growing.proofs.MovingLaws.{at_place, both-length, both_first, both-second, both_below, both-above, cleared-length, cleared-in, cleared-below, cleared-above}
use Rattle.growing.proofs.Regions.{below-eight, Room, grows-room, Regions, regions-equal, regions-grown}

-- under the offsets g, o and q of the new capacities; u, v and w are the ends of what is used there
module _ (n f a : ℕ) (h : Head) (cs : List ℕ) (R : Room n f a h cs) where
  abbrev g : ℕ
  g = 8 + 5 * n

  abbrev o : ℕ
  o = 8 + 5 * n + subgoal_width h.edition * f

  abbrev q : ℕ
  q = 8 + 5 * n + subgoal_width h.edition * f + answer_width h.edition * a

  abbrev u : ℕ
  u = 8 + 5 * h.nodes

  abbrev v : ℕ
  v = 8 + 5 * n + subgoal_width h.edition * h.subgoals

  abbrev w : ℕ
  w = 8 + 5 * n + subgoal_width h.edition * f + answer_width h.edition * h.answers

  abbrev b : Block
  b = record { from = h.subgoal_offset; to = 8 + 5 * n; count = subgoal_width h.edition * h.subgoals }

  abbrev d : Block
  d = record { from = h.answer_offset; to = 8 + 5 * n + subgoal_width h.edition * f; count = answer_width h.edition * h.answers }

  bf : b.from + b.count ≤ length cs
  bf = omega (arith, R.old-subgoals, R.old-answers)

  bt : b.to + b.count ≤ length cs
  bt = omega (arith, R.new-subgoals, R.new-end)

  dt : d.to + d.count ≤ length cs
  dt = omega (arith, R.new-answers, R.new-end)

  order : b.to + b.count ≤ d.to
  order = omega (arith, R.new-subgoals)

  abbrev x1 : List ℕ
  x1 = both_moved b d cs

  abbrev x2 : List ℕ
  x2 = cleared u g x1

  abbrev x3 : List ℕ
  x3 = cleared v o x2

  abbrev x4 : List ℕ
  x4 = cleared w q x3

  abbrev x5 : List ℕ
  x5 = offsets_written g o q x4

  ug : u ≤ g
  ug = omega (arith, R.nodes-used)

  vo : v ≤ o
  vo = omega (arith, R.new-subgoals)

  wq : w ≤ q
  wq = omega (arith, R.new-answers)

  l1 : length x1 ≡ length cs
  l1 = both-length b d cs bf bt R.old-answers dt R.old-subgoals order

  g1 : g ≤ length x1
  g1 = omega (arith, l1, R.new-end)

  l2 : length x2 ≡ length cs
  l2 = cleared-length u g x1 ug g1 ∙ l1

  o2 : o ≤ length x2
  o2 = omega (arith, l2, R.new-end)

  l3 : length x3 ≡ length cs
  l3 = cleared-length v o x2 vo o2 ∙ l2

  q3 : q ≤ length x3
  q3 = omega (arith, l3, R.new-end)

  l4 : length x4 ≡ length cs
  l4 = cleared-length w q x3 wq q3 ∙ l3

  -- after the header the offsets change nothing
  behind : (k : ℕ) → 8 ≤ k → get_or x5 k 0 ≡ get_or x4 k 0
  behind k m =
      get_or-set_other (set (set x4 5 g) 6 o) 7 k q 0 (λ e. omega arith)
      ∙ get_or-set_other (set x4 5 g) 6 k o 0 (λ e. omega arith)
      ∙ get_or-set_other x4 5 k g 0 (λ e. omega arith)

  -- below the free nodes nothing but the offsets changes
  front : (k : ℕ) → k < u → get_or x4 k 0 ≡ get_or cs k 0
  front k m =
      cleared-below w q x3 wq q3 k (omega (arith, R.nodes-used))
      ∙ cleared-below v o x2 vo o2 k (omega (arith, R.nodes-used))
      ∙ cleared-below u g x1 ug g1 k m
      ∙ both_below b d cs bf bt R.old-answers dt R.old-subgoals order k (omega (arith, R.nodes-used))

  named : (k : ℕ) → k < 5 → get_or x5 k 0 ≡ get_or cs k 0
  named k m =
      get_or-set_other (set (set x4 5 g) 6 o) 7 k q 0 (λ e. omega arith)
      ∙ get_or-set_other (set x4 5 g) 6 k o 0 (λ e. omega arith)
      ∙ get_or-set_other x4 5 k g 0 (λ e. omega arith)
      ∙ front k (omega arith)

  in-header : (k : ℕ) → k < length cs → k < length (set (set x4 5 g) 6 o)
  in-header k m = simp length-set (omega (arith, l4))

  regions-made : Regions n f a h cs x5
  regions-made = record {
    size = simp length-set l4;
    heading = below-eight (λ k. get_or x5 k 0 ≡ get_or (grown_header n f a (sizes_of h.edition) h) k 0)
        (named 0 (omega arith) ∙ R.edition-cell)
        (named 1 (omega arith) ∙ R.nodes-cell)
        (named 2 (omega arith) ∙ R.subgoals-cell)
        (named 3 (omega arith) ∙ R.answers-cell)
        (named 4 (omega arith) ∙ R.offset-cell)
        (get_or-set_other (set (set x4 5 g) 6 o) 7 5 q 0 (λ e. omega arith)
        ∙ get_or-set_other (set x4 5 g) 6 5 o 0 (λ e. omega arith)
        ∙ get_or-set_same x4 5 g 0 (omega (arith, l4, R.new-end)))
        (get_or-set_other (set (set x4 5 g) 6 o) 7 6 q 0 (λ e. omega arith)
        ∙ get_or-set_same (set x4 5 g) 6 o 0 (simp length-set (omega (arith, l4, R.new-end))))
        (get_or-set_same (set (set x4 5 g) 6 o) 7 q 0 (in-header 7 (omega (arith, R.new-end))));
    nodes = λ k m p. behind k m ∙ front k p;
    nodes-free = λ k m p.
        behind k (omega arith)
        ∙ cleared-below w q x3 wq q3 k (omega arith)
        ∙ cleared-below v o x2 vo o2 k (omega arith)
        ∙ cleared-in u g x1 ug g1 k m p;
    subgoals = λ k p.
        behind (g + k) (omega arith)
        ∙ cleared-below w q x3 wq q3 (g + k) (omega (arith, R.new-subgoals))
        ∙ cleared-below v o x2 vo o2 (g + k) (omega arith)
        ∙ cleared-above u g x1 ug g1 (g + k) (omega arith)
        ∙ both_first b d cs bf bt R.old-answers dt R.old-subgoals order (g + k) (omega arith) (omega arith)
        ∙ at_place cs (let e : h.subgoal_offset + (g + k - g) ≡ h.subgoal_offset + k = omega arith in e);
    subgoals-free = λ k m p.
        behind (g + k) (omega arith)
        ∙ cleared-below w q x3 wq q3 (g + k) (omega arith)
        ∙ cleared-in v o x2 vo o2 (g + k) (omega arith) (omega arith);
    answers = λ k p.
        behind (o + k) (omega arith)
        ∙ cleared-below w q x3 wq q3 (o + k) (omega arith)
        ∙ cleared-above v o x2 vo o2 (o + k) (omega arith)
        ∙ cleared-above u g x1 ug g1 (o + k) (omega arith)
        ∙ both-second b d cs bf bt R.old-answers dt R.old-subgoals order (o + k) (omega arith) (omega arith)
        ∙ at_place cs (let e : h.answer_offset + (o + k - o) ≡ h.answer_offset + k = omega arith in e);
    answers-free = λ k m p.
        behind (o + k) (omega arith)
        ∙ cleared-in w q x3 wq q3 (o + k) (omega arith) (omega arith);
    past = λ k m.
        behind k (omega arith)
        ∙ cleared-above w q x3 wq q3 k m
        ∙ cleared-above v o x2 vo o2 k (omega arith)
        ∙ cleared-above u g x1 ug g1 k (omega arith)
        ∙ both-above b d cs bf bt R.old-answers dt R.old-subgoals order k (omega (arith, R.new-answers));
  }

  pub rearranged : offsets_written (8 + 5 * n) (8 + 5 * n + subgoal_width h.edition * f) (8 + 5 * n + subgoal_width h.edition * f + answer_width h.edition * a)
      (cleared (8 + 5 * n + subgoal_width h.edition * f + answer_width h.edition * h.answers) (8 + 5 * n + subgoal_width h.edition * f + answer_width h.edition * a)
      (cleared (8 + 5 * n + subgoal_width h.edition * h.subgoals) (8 + 5 * n + subgoal_width h.edition * f)
      (cleared (8 + 5 * h.nodes) (8 + 5 * n) (both_moved b d cs)))) ≡ grown_cells n f a (sizes_of h.edition) h cs
  rearranged = regions-equal n f a h cs x5 (grown_cells n f a (sizes_of h.edition) h cs) regions-made (regions-grown n f a h cs R)

-- the same by the numbers that were computed and the lists that each call left
module _ (n f a : ℕ) (h : Head) (cs : List ℕ) (G : Grows n f a h cs) where
  abbrev made : (g o q u v w c e : ℕ) → List ℕ
  made g o q u v w c e =
      offsets_written g o q (cleared w q (cleared v o (cleared u g
      (both_moved (record { from = h.subgoal_offset; to = g; count = c }) (record { from = h.answer_offset; to = o; count = e }) cs))))

  pub rearranged-by : (g o q u v w : ℕ) → g ≡ 8 + 5 * n → o ≡ subgoals_end h.edition g f → q ≡ answers_end h.edition o a
      → u ≡ 8 + 5 * h.nodes → v ≡ subgoals_end h.edition g h.subgoals → w ≡ answers_end h.edition o h.answers
      → (x1 x2 x3 x4 x5 : List ℕ)
      → x1 ≡ both_moved (record { from = h.subgoal_offset; to = g; count = v - g }) (record { from = h.answer_offset; to = o; count = w - o }) cs
      → x2 ≡ cleared u g x1 → x3 ≡ cleared v o x2 → x4 ≡ cleared w q x3 → x5 ≡ offsets_written g o q x4
      → x5 ≡ grown_cells n f a (sizes_of h.edition) h cs
  rearranged-by g o q u v w eg eo eq eu ev ew x1 x2 x3 x4 x5 e1 e2 e3 e4 e5 =
      let g0 : ℕ = 8 + 5 * n in
      let o0 : ℕ = 8 + 5 * n + subgoal_width h.edition * f in
      let q0 : ℕ = 8 + 5 * n + subgoal_width h.edition * f + answer_width h.edition * a in
      let v0 : ℕ = 8 + 5 * n + subgoal_width h.edition * h.subgoals in
      let w0 : ℕ = 8 + 5 * n + subgoal_width h.edition * f + answer_width h.edition * h.answers in
      let po : o ≡ o0 = omega arith in
      let pq : q ≡ q0 = omega arith in
      let pv : v ≡ v0 = omega arith in
      let pw : w ≡ w0 = omega arith in
      let pc : v - g ≡ subgoal_width h.edition * h.subgoals = omega arith in
      let pe : w - o ≡ answer_width h.edition * h.answers = omega arith in
      let all : x5 ≡ made g o q u v w (v - g) (w - o) =
      e5 ∙ ap (λ (x : List ℕ). offsets_written g o q x)
      (e4 ∙ ap (λ (x : List ℕ). cleared w q x) (e3 ∙ ap (λ (x : List ℕ). cleared v o x) (e2 ∙ ap (λ (x : List ℕ). cleared u g x) e1))) in
      all
      ∙ ap (λ (k : ℕ). made g o q u v w k (w - o)) pc
      ∙ ap (λ (k : ℕ). made g o q u v w (subgoal_width h.edition * h.subgoals) k) pe
      ∙ ap (λ (k : ℕ). made k o q u v w (subgoal_width h.edition * h.subgoals) (answer_width h.edition * h.answers)) eg
      ∙ ap (λ (k : ℕ). made g0 k q u v w (subgoal_width h.edition * h.subgoals) (answer_width h.edition * h.answers)) po
      ∙ ap (λ (k : ℕ). made g0 o0 k u v w (subgoal_width h.edition * h.subgoals) (answer_width h.edition * h.answers)) pq
      ∙ ap (λ (k : ℕ). made g0 o0 q0 k v w (subgoal_width h.edition * h.subgoals) (answer_width h.edition * h.answers)) eu
      ∙ ap (λ (k : ℕ). made g0 o0 q0 (8 + 5 * h.nodes) k w (subgoal_width h.edition * h.subgoals) (answer_width h.edition * h.answers)) pv
      ∙ ap (λ (k : ℕ). made g0 o0 q0 (8 + 5 * h.nodes) v0 k (subgoal_width h.edition * h.subgoals) (answer_width h.edition * h.answers)) pw
      ∙ rearranged n f a h cs (grows-room n f a h cs G)
