-- Every cell of a grown table by its region, and that the regions say all of it.
use Rattle.basis.specs.declared.refusals.Refusal.TheVariants as refusal
use Rattle.std.specs.Prelude.{Err, Ok}
use Prim.Native.Nat.{ℕ, zero, suc, ◌+◌, ◌-◌, ◌*◌, ◌≤◌, ◌<◌}
use mathlib.Core.Path.{◌≡◌, sym, ap, ◌∙◌, subst}
use mathlib.Core.Bool.{true, ◌&&◌}
use mathlib.Core.List.{List, ◌++◌}
use native.Mathlib.Omega.{arith}
use native.Mathlib.Nat.{mul-le-mul_left}
use lib.Dec.{leb, ltb}
use lib.ListN.{length, get_or, take, drop, replicate, length-append, length-drop, length-replicate, get_or-replicate}
use lib.Seq.{length-take-le, get_or-take, get_or-drop, ext_get_or}
use borrow.Author.Tests.{leb-true, ltb-true, ltb-false}
use Rattle.basis.specs.Editions.{known_edition}
use Rattle.basis.proofs.Cases.{by_cases}
use Rattle.space.specs.Layout.{Sizes, sizes_of, subgoal_width, answer_width, most, subgoal_offset_of, answer_offset_of, end_offset}
use Rattle.space.specs.Heading.{in_range, header_of, space_header}
use Rattle.space.specs.Fresh.{fresh_fits}
use Rattle.space.specs.declared.Head.{Head}
use Rattle.space.proofs.HeaderLaws.{range-largest}
use Rattle.trie.proofs.WalkLaws.{both_true}
use Rattle.agreement.specs.Whole.{edition_of}
use Rattle.agreement.proofs.HeaderTests.{header_read}
use Rattle.carrying.proofs.Theorems.{space-edition}
use Rattle.growing.specs.Growing.{enough, grown_header, block, grown_cells}
use Rattle.growing.specs.Clauses.{Grows}
use Rattle.growing.proofs.MovingLaws.{append_left, append_right, at_place}

-- a sound header is one of the edition that it names
pub header-in : (cs : List ℕ) (h : Head) → space_header cs ≡ Ok h → (known_edition h.edition ≡ true) × (header_of (sizes_of h.edition) cs ≡ Ok h)
unfolding space_header
header-in cs h s =
    let is : edition_of cs ≡ h.edition = space-edition cs h s in
    by_cases (known_edition (edition_of cs))
    (λ k. let q : header_of (sizes_of (edition_of cs)) cs ≡ Ok h = rw k at s in
    (subst (λ (x : ℕ). known_edition x ≡ true) is k, subst (λ (x : ℕ). header_of (sizes_of x) cs ≡ Ok h) is q))
    (λ k. let q : Err refusal.Header ≡ Ok h = rw k at s in let z : ◌≡◌ {A = ℕ} 0 1 = cc in absurd (omega arith))

-- eight cells one by one
pub below-eight : (P : ℕ → Type 0) → P 0 → P 1 → P 2 → P 3 → P 4 → P 5 → P 6 → P 7 → (k : ℕ) → k < 8 → P k
below-eight P a b c d e f g i zero h = a
below-eight P a b c d e f g i (suc zero) h = b
below-eight P a b c d e f g i (suc (suc zero)) h = c
below-eight P a b c d e f g i (suc (suc (suc zero))) h = d
below-eight P a b c d e f g i (suc (suc (suc (suc zero)))) h = e
below-eight P a b c d e f g i (suc (suc (suc (suc (suc zero))))) h = f
below-eight P a b c d e f g i (suc (suc (suc (suc (suc (suc zero)))))) h = g
below-eight P a b c d e f g i (suc (suc (suc (suc (suc (suc (suc zero))))))) h = i
below-eight P a b c d e f g i (suc (suc (suc (suc (suc (suc (suc (suc k)))))))) h = absurd (omega arith)

module _ (n f a : ℕ) (h : Head) (cs : List ℕ) where
  abbrev z : Sizes
  z = sizes_of h.edition

  -- the cells of so many subgoals and answers
  abbrev wide-s : ℕ → ℕ
  wide-s k = subgoal_width h.edition * k

  abbrev wide-a : ℕ → ℕ
  wide-a k = answer_width h.edition * k

  -- what is known of the places once growing is not refused; flat, for omega
  pub record Room : Type 0 where
    pub edition-cell : get_or cs 0 0 ≡ h.edition
    pub nodes-cell : get_or cs 1 0 ≡ h.nodes
    pub subgoals-cell : get_or cs 2 0 ≡ h.subgoals
    pub answers-cell : get_or cs 3 0 ≡ h.answers
    pub offset-cell : get_or cs 4 0 ≡ 8
    pub some-node : 1 ≤ h.nodes
    pub nodes-most : n ≤ most
    pub subgoals-most : f ≤ most
    pub answers-most : a ≤ most
    pub nodes-used : h.nodes ≤ n
    pub subgoals-used : h.subgoals ≤ f
    pub answers-used : h.answers ≤ a
    pub new-end : end_offset (sizes_of h.edition) n f a ≤ length cs
    pub new-subgoals : subgoal_width h.edition * h.subgoals ≤ subgoal_width h.edition * f
    pub new-answers : answer_width h.edition * h.answers ≤ answer_width h.edition * a
    pub old-subgoals : h.subgoal_offset + subgoal_width h.edition * h.subgoals ≤ h.answer_offset
    pub old-answers : h.answer_offset + answer_width h.edition * h.answers ≤ length cs

  pub grows-room : Grows n f a h cs → Room
  unfolding fresh_fits enough
  grows-room g =
      let known = header-in cs h (sym g.0) in
      let r = header_read z cs h known.1 in
      let d = r.headed in
      let w = r.within in
      let x = both_true (in_range 1 n && in_range 0 f && in_range 0 a) (leb (end_offset z n f a) (length cs)) g.1 in
      let y = both_true (in_range 1 n && in_range 0 f) (in_range 0 a) x.0 in
      let o = both_true (in_range 1 n) (in_range 0 f) y.0 in
      let p = both_true (leb h.nodes n && leb h.subgoals f) (leb h.answers a) g.2 in
      let q = both_true (leb h.nodes n) (leb h.subgoals f) p.0 in
      let su : h.subgoals ≤ f = leb-true _ _ q.1 in
      let au : h.answers ≤ a = leb-true _ _ p.1 in
      let so : h.subgoal_offset ≡ subgoal_offset_of z h.node_capacity = ap (λ (k : Head). k.subgoal_offset) r.is ∙ d.subgoals-from in
      let ao : h.answer_offset ≡ answer_offset_of z h.node_capacity h.subgoal_capacity = ap (λ (k : Head). k.answer_offset) r.is ∙ d.answers-from in
      let sm : wide-s h.subgoals ≤ wide-s h.subgoal_capacity = mul-le-mul_left (subgoal_width h.edition) w.subgoals-within in
      let am : wide-a h.answers ≤ wide-a h.answer_capacity = mul-le-mul_left (answer_width h.edition) w.answers-within in
      record {
        edition-cell = d.edition;
        nodes-cell = d.nodes-cell;
        subgoals-cell = d.subgoals-cell;
        answers-cell = d.answers-cell;
        offset-cell = d.nodes-from;
        some-node = w.some-node;
        nodes-most = range-largest 1 n o.0;
        subgoals-most = range-largest 0 f o.1;
        answers-most = range-largest 0 a y.1;
        nodes-used = leb-true _ _ q.0;
        subgoals-used = su;
        answers-used = au;
        new-end = leb-true _ _ x.1;
        new-subgoals = mul-le-mul_left (subgoal_width h.edition) su;
        new-answers = mul-le-mul_left (answer_width h.edition) au;
        old-subgoals = omega (arith, so, ao, sm);
        old-answers = omega (arith, ao, am, d.end-within);
      }

  -- what stands in a list at every place
  pub record Regions (ds : List ℕ) : Type 0 where
    pub size : length ds ≡ length cs
    pub heading : (k : ℕ) → k < 8 → get_or ds k 0 ≡ get_or (grown_header n f a (sizes_of h.edition) h) k 0
    pub nodes : (k : ℕ) → 8 ≤ k → k < 8 + 5 * h.nodes → get_or ds k 0 ≡ get_or cs k 0
    pub nodes-free : (k : ℕ) → 8 + 5 * h.nodes ≤ k → k < 8 + 5 * n → get_or ds k 0 ≡ 0
    pub subgoals : (k : ℕ) → k < subgoal_width h.edition * h.subgoals → get_or ds (8 + 5 * n + k) 0 ≡ get_or cs (h.subgoal_offset + k) 0
    pub subgoals-free : (k : ℕ) → subgoal_width h.edition * h.subgoals ≤ k → k < subgoal_width h.edition * f → get_or ds (8 + 5 * n + k) 0 ≡ 0
    pub answers : (k : ℕ) → k < answer_width h.edition * h.answers
        → get_or ds (8 + 5 * n + subgoal_width h.edition * f + k) 0 ≡ get_or cs (h.answer_offset + k) 0
    pub answers-free : (k : ℕ) → answer_width h.edition * h.answers ≤ k → k < answer_width h.edition * a
        → get_or ds (8 + 5 * n + subgoal_width h.edition * f + k) 0 ≡ 0
    pub past : (k : ℕ) → 8 + 5 * n + subgoal_width h.edition * f + answer_width h.edition * a ≤ k → get_or ds k 0 ≡ get_or cs k 0

  -- two lists with these regions are equal
  pub regions-equal : (ds es : List ℕ) → Regions ds → Regions es → ds ≡ es
  regions-equal ds es D E = ext_get_or 0 ds es (D.size ∙ sym E.size) (λ k b. by_cases (ltb k 8)
      (λ t. let u : k < 8 = ltb-true _ _ t in D.heading k u ∙ sym (E.heading k u))
      (λ t. let u : 8 ≤ k = ltb-false _ _ t in by_cases (ltb k (8 + 5 * h.nodes))
      (λ t1. let u1 : k < 8 + 5 * h.nodes = ltb-true _ _ t1 in D.nodes k u u1 ∙ sym (E.nodes k u u1))
      (λ t1. let u1 : 8 + 5 * h.nodes ≤ k = ltb-false _ _ t1 in by_cases (ltb k (8 + 5 * n))
      (λ t2. let u2 : k < 8 + 5 * n = ltb-true _ _ t2 in D.nodes-free k u1 u2 ∙ sym (E.nodes-free k u1 u2))
      (λ t2. let u2 : 8 + 5 * n ≤ k = ltb-false _ _ t2 in
      let p : k ≡ 8 + 5 * n + (k - (8 + 5 * n)) = omega arith in
      at_place ds p ∙ second (k - (8 + 5 * n)) ∙ sym (at_place es p)))))
    where
      third : (j : ℕ) → get_or ds (8 + 5 * n + wide-s f + j) 0 ≡ get_or es (8 + 5 * n + wide-s f + j) 0
      third j = by_cases (ltb j (wide-a h.answers))
          (λ t. let u : j < wide-a h.answers = ltb-true _ _ t in D.answers j u ∙ sym (E.answers j u))
          (λ t. let u : wide-a h.answers ≤ j = ltb-false _ _ t in by_cases (ltb j (wide-a a))
          (λ t1. let u1 : j < wide-a a = ltb-true _ _ t1 in D.answers-free j u u1 ∙ sym (E.answers-free j u u1))
          (λ t1. let u1 : wide-a a ≤ j = ltb-false _ _ t1 in D.past (8 + 5 * n + wide-s f + j) (omega arith) ∙ sym (E.past (8 + 5 * n + wide-s f + j) (omega arith))))

      second : (j : ℕ) → get_or ds (8 + 5 * n + j) 0 ≡ get_or es (8 + 5 * n + j) 0
      second j = by_cases (ltb j (wide-s h.subgoals))
          (λ t. let u : j < wide-s h.subgoals = ltb-true _ _ t in D.subgoals j u ∙ sym (E.subgoals j u))
          (λ t. let u : wide-s h.subgoals ≤ j = ltb-false _ _ t in by_cases (ltb j (wide-s f))
          (λ t1. let u1 : j < wide-s f = ltb-true _ _ t1 in D.subgoals-free j u u1 ∙ sym (E.subgoals-free j u u1))
          (λ t1. let u1 : wide-s f ≤ j = ltb-false _ _ t1 in
          let p : 8 + 5 * n + j ≡ 8 + 5 * n + wide-s f + (j - wide-s f) = omega arith in
          at_place ds p ∙ third (j - wide-s f) ∙ sym (at_place es p)))

-- one block with zeros after it, and what follows
module _ (width used room : ℕ) (xs ys : List ℕ) (fits : width * used ≤ width * room) (held : width * used ≤ length xs) where
  abbrev front : List ℕ
  front = take (width * used) xs ++ replicate (width * room - width * used) 0

  used-size : length (take (width * used) xs) ≡ width * used
  used-size = length-take-le (width * used) xs held

  pub block_size : length front ≡ width * room
  block_size =
      length-append (take (width * used) xs) (replicate (width * room - width * used) 0)
      ∙ omega (arith, used-size, length-replicate {A = ℕ} (width * room - width * used) 0)

  pub block-used : (k : ℕ) → k < width * used → get_or (front ++ ys) k 0 ≡ get_or xs k 0
  block-used k u =
      append_left front ys k (omega (arith, block_size))
      ∙ append_left (take (width * used) xs) (replicate (width * room - width * used) 0) k (omega (arith, used-size))
      ∙ get_or-take (width * used) xs k 0 u

  pub block-free : (k : ℕ) → width * used ≤ k → k < width * room → get_or (front ++ ys) k 0 ≡ 0
  block-free k l u =
      append_left front ys k (omega (arith, block_size))
      ∙ append_right (take (width * used) xs) (replicate (width * room - width * used) 0) k (omega (arith, used-size))
      ∙ get_or-replicate (width * room - width * used) (k - length (take (width * used) xs)) 0 0 (omega (arith, used-size))

  pub block-next : (k : ℕ) → get_or (front ++ ys) (width * room + k) 0 ≡ get_or ys k 0
  block-next k =
      append_right front ys (width * room + k) (omega (arith, block_size))
      ∙ at_place ys (let e : width * room + k - length front ≡ k = omega (arith, block_size) in e)

module _ (n f a : ℕ) (h : Head) (cs : List ℕ) (R : Room n f a h cs) where
  abbrev w : Sizes
  w = sizes_of h.edition

  abbrev end : ℕ
  end = end_offset (sizes_of h.edition) n f a

  abbrev nodes-from : List ℕ
  nodes-from = drop 8 cs

  abbrev subgoals-from : List ℕ
  subgoals-from = drop h.subgoal_offset cs

  abbrev answers-from : List ℕ
  answers-from = drop h.answer_offset cs

  abbrev rest : List ℕ
  rest = drop (end_offset (sizes_of h.edition) n f a) cs

  abbrev third : List ℕ
  third = block w.answer h.answers a answers-from ++ rest

  abbrev second : List ℕ
  second = block w.subgoal h.subgoals f subgoals-from ++ third

  abbrev first : List ℕ
  first = block w.node h.nodes n nodes-from ++ second

  n-fits : w.node * h.nodes ≤ w.node * n
  n-fits = omega (arith, R.nodes-used)

  n_held : w.node * h.nodes ≤ length nodes-from
  n_held = omega (arith, length-drop 8 cs, R.nodes-used, R.new-end)

  s-held : w.subgoal * h.subgoals ≤ length subgoals-from
  s-held = omega (arith, length-drop h.subgoal_offset cs, R.old-subgoals, R.old-answers)

  a-held : w.answer * h.answers ≤ length answers-from
  a-held = omega (arith, length-drop h.answer_offset cs, R.old-answers)

  after-header : (k : ℕ) → get_or (grown_cells n f a w h cs) (8 + k) 0 ≡ get_or first k 0
  unfolding grown_cells
  after-header k = append_right (grown_header n f a w h) first (8 + k) (omega arith) ∙ at_place first (let e : 8 + k - 8 ≡ k = omega arith in e)

  after-nodes : (k : ℕ) → get_or (grown_cells n f a w h cs) (8 + 5 * n + k) 0 ≡ get_or second k 0
  after-nodes k =
      at_place (grown_cells n f a w h cs) (let e : 8 + 5 * n + k ≡ 8 + (5 * n + k) = omega arith in e)
      ∙ after-header (5 * n + k) ∙ block-next w.node h.nodes n nodes-from second n-fits n_held k

  after-subgoals : (k : ℕ) → get_or (grown_cells n f a w h cs) (8 + 5 * n + w.subgoal * f + k) 0 ≡ get_or third k 0
  after-subgoals k =
      at_place (grown_cells n f a w h cs) (let e : 8 + 5 * n + w.subgoal * f + k ≡ 8 + 5 * n + (w.subgoal * f + k) = omega arith in e)
      ∙ after-nodes (w.subgoal * f + k) ∙ block-next w.subgoal h.subgoals f subgoals-from third R.new-subgoals s-held k

  after-answers : (k : ℕ) → get_or (grown_cells n f a w h cs) (8 + 5 * n + w.subgoal * f + w.answer * a + k) 0 ≡ get_or rest k 0
  after-answers k =
      at_place (grown_cells n f a w h cs) (let e : 8 + 5 * n + w.subgoal * f + w.answer * a + k ≡ 8 + 5 * n + w.subgoal * f + (w.answer * a + k) = omega arith in e)
      ∙ after-subgoals (w.answer * a + k) ∙ block-next w.answer h.answers a answers-from rest R.new-answers a-held k

  all-size : length (grown_cells n f a w h cs) ≡ length cs
  unfolding grown_cells
  all-size =
      length-append (grown_header n f a w h) first
      ∙ omega (
        arith,
        length-append (block w.node h.nodes n nodes-from) second,
        block_size w.node h.nodes n nodes-from second n-fits n_held,
        length-append (block w.subgoal h.subgoals f subgoals-from) third,
        block_size w.subgoal h.subgoals f subgoals-from third R.new-subgoals s-held,
        length-append (block w.answer h.answers a answers-from) rest,
        block_size w.answer h.answers a answers-from rest R.new-answers a-held,
        length-drop end cs,
        R.new-end,
      )

  -- the cells that are due have these regions
  pub regions-grown : Regions n f a h cs (grown_cells n f a (sizes_of h.edition) h cs)
  regions-grown = record {
    size = all-size;
    heading = λ k u. unfold grown_cells in append_left (grown_header n f a w h) first k u;
    nodes = λ k l u.
        at_place (grown_cells n f a w h cs) (back k l)
        ∙ after-header (k - 8) ∙ block-used w.node h.nodes n nodes-from second n-fits n_held (k - 8) (omega arith)
        ∙ get_or-drop 8 cs (k - 8) 0 ∙ sym (at_place cs (back k l));
    nodes-free = λ k l u.
        at_place (grown_cells n f a w h cs) (back k (omega arith))
        ∙ after-header (k - 8) ∙ block-free w.node h.nodes n nodes-from second n-fits n_held (k - 8) (omega arith) (omega arith);
    subgoals = λ k u.
        after-nodes k ∙ block-used w.subgoal h.subgoals f subgoals-from third R.new-subgoals s-held k u ∙ get_or-drop h.subgoal_offset cs k 0;
    subgoals-free = λ k l u. after-nodes k ∙ block-free w.subgoal h.subgoals f subgoals-from third R.new-subgoals s-held k l u;
    answers = λ k u.
        after-subgoals k ∙ block-used w.answer h.answers a answers-from rest R.new-answers a-held k u ∙ get_or-drop h.answer_offset cs k 0;
    answers-free = λ k l u. after-subgoals k ∙ block-free w.answer h.answers a answers-from rest R.new-answers a-held k l u;
    past = λ k l.
        at_place (grown_cells n f a w h cs) (over k l) ∙ after-answers (k - end) ∙ get_or-drop end cs (k - end) 0 ∙ sym (at_place cs (over k l));
  }
    where
      back : (k : ℕ) → 8 ≤ k → k ≡ 8 + (k - 8)
      back k l = omega arith

      over : (k : ℕ) → end ≤ k → k ≡ end + (k - end)
      over k l = omega arith
