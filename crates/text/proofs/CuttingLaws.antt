-- Lines cut from chunks: each step keeps what the buffer holds of a line, and the chunks' borders do not show.
use Prim.Native.Nat.{ℕ, ◌+◌, ◌≤◌, ◌<◌}
use mathlib.Core.Bool.{true, false}
use mathlib.Core.List.{List, [], ◌∷◌, ◌++◌}
use mathlib.Core.Path.{◌≡◌, refl, sym, ap, ◌∙◌}
use native.Mathlib.Numerals.{add-one}
use native.Mathlib.Omega.{arith}
use lib.Dec.{eqb, ltb, leb}
use lib.ListN.{length, take, drop, get_or, set, length-append, length-drop, length-set, drop_of_length-le}
use lib.Seq.{drop-cons, drop-drop, take_all, take-append-le, length-take-le, take-suc-set, set_out}
use borrow.Author.Tests.{ltb-true, lt-ltb, le-ltb, leb-true, leb-false, eq-eqb, ne_eqb}
use Rattle.basis.proofs.Cases.{by_cases}
use Rattle.text.specs.Cutting.{newline, Lines, lines, lines_from, concatenated, lines_of_chunks, AnyChunks, Took, took, kept_more, taking, Keeps, InRange, Cuts, TakesLines}
use Rattle.text.specs.declared.Taking.{Taking}
use Rattle.text.specs.declared.Taking.TheVariants.{Line, More}

-- ---- chunks

-- a chunk and what follows it
abbrev then : Lines → (List ℕ → Lines) → Lines
then r later = lines (r.ended ++ (later r.begun).ended) (later r.begun).begun

lines-append : (xs ys begun : List ℕ) → lines_from begun (xs ++ ys) ≡ then (lines_from begun xs) (λ l. lines_from l ys)
unfolding lines_from
lines-append [] ys begun = refl
lines-append (b ∷ xs) ys begun =
    by_cases (eqb b newline)
    (λ e. rw e (ap (λ (r : Lines). lines (begun ∷ r.ended) r.begun) (lines-append xs ys [])))
    (λ e. rw e (lines-append xs ys (begun ++ (b ∷ []))))

pub any-chunks : AnyChunks
unfolding lines_from lines_of_chunks
any-chunks begun [] = refl
any-chunks begun (c ∷ cs) =
    ap (λ (r : Lines). lines ((lines_from begun c).ended ++ r.ended) r.begun) (any-chunks (lines_from begun c).begun cs)
    ∙ sym (lines-append c (concatenated cs) begun)

-- ---- the lines of bytes, a byte at a time

module _ (begun bs : List ℕ) (b : ℕ) where
  pub lines_end : eqb b newline ≡ true
      → lines_from begun (b ∷ bs) ≡ lines (begun ∷ (lines_from [] bs).ended) (lines_from [] bs).begun
  unfolding lines_from
  lines_end e = rw e

  pub lines-on : eqb b newline ≡ false → lines_from begun (b ∷ bs) ≡ lines_from (begun ++ (b ∷ [])) bs
  unfolding lines_from
  lines-on e = rw e

-- ---- a byte kept

module _ (line begun : List ℕ) (kept b : ℕ) (k : Keeps line kept begun) where
  keeps-full : length line ≤ length begun → Keeps (set line kept b) (kept_more line kept) (begun ++ (b ∷ []))
  keeps-full h =
      let full : kept ≡ length line =
      sym (length-take-le kept line k.0) ∙ ap length k.1 ∙ length-take-le (length line) begun h in
      rw (le-ltb kept (length line) (omega arith), set_out line kept b (omega arith))
      (k.0, k.1 ∙ sym (take-append-le (length line) begun (b ∷ []) h))

  keeps_on : length begun < length line → Keeps (set line kept b) (kept_more line kept) (begun ++ (b ∷ []))
  keeps_on h =
      let all : take (length line) begun ≡ begun = take_all (length line) begun (omega arith) in
      let n : kept ≡ length begun = sym (length-take-le kept line k.0) ∙ ap length (k.1 ∙ all) in
      let room : length (begun ++ (b ∷ [])) ≤ length line = omega (arith, length-append begun (b ∷ [])) in
      let more : kept + 1 ≤ length line = omega arith in
      let lt : kept < length line = omega arith in
      let at-end : take (kept + 1) (set line kept b) ≡ begun ++ (b ∷ []) =
      ap (λ (j : ℕ). take j (set line kept b)) (add-one kept) ∙ take-suc-set line kept b lt ∙ ap (λ (l : List ℕ). l ++ (b ∷ [])) (k.1 ∙ all) in
      rw (lt-ltb kept (length line) lt, length-set line kept b)
      (more, at-end ∙ sym (take_all (length line) (begun ++ (b ∷ [])) room))

  pub keeps-more : Keeps (set line kept b) (kept_more line kept) (begun ++ (b ∷ []))
  keeps-more =
      by_cases (leb (length line) (length begun))
      (λ t. keeps-full (leb-true (length line) (length begun) t))
      (λ t. keeps_on (leb-false (length line) (length begun) t))

-- ---- a step, byte by byte

module _ (chunk bs : List ℕ) (at b : ℕ) (e : b ∷ bs ≡ drop at chunk) where
  pub rest-behind : bs ≡ drop (at + 1) chunk
  rest-behind = ap (drop 1) e ∙ drop-drop 1 at chunk

  rest-within : at < length chunk
  rest-within = omega (arith, ap length e ∙ length-drop at chunk)

module _ (bs line : List ℕ) (at kept b : ℕ) where
  pub taking-end : eqb b newline ≡ true → taking (b ∷ bs) at line kept ≡ took (Line (at + 1) kept) line
  unfolding taking
  taking-end t = rw t

  pub taking-on : eqb b newline ≡ false
      → taking (b ∷ bs) at line kept ≡ taking bs (at + 1) (set line kept b) (kept_more line kept)
  unfolding taking
  taking-on t = rw t

cuts-more : (chunk bs line begun : List ℕ) (b : ℕ) (r : Taking) → eqb b newline ≡ false
    → Cuts chunk bs (begun ++ (b ∷ [])) line r → Cuts chunk (b ∷ bs) begun line r
cuts-more chunk bs line begun b (Line next n) t w =
    record { whole = w.whole; keeps = w.keeps; goes_on = lines-on begun bs b t ∙ w.goes_on }
cuts-more chunk bs line begun b (More n) t w = rw (lines-on begun bs b t) w

cuts-all : (bs chunk : List ℕ) (at : ℕ) (line : List ℕ) (kept : ℕ) (begun : List ℕ) → bs ≡ drop at chunk
    → Keeps line kept begun → Cuts chunk bs begun (taking bs at line kept).line (taking bs at line kept).answer
cuts-all [] chunk at line kept begun e k = unfold taking lines_from in (refl, k)
cuts-all (b ∷ bs) chunk at line kept begun e k =
    by_cases (eqb b newline)
    (λ t. rw (taking-end bs line at kept b t)
    (record { whole = begun; keeps = k; goes_on = rw (← rest-behind chunk bs at b e) (lines_end begun bs b t) }))
    (λ t. rw (taking-on bs line at kept b t)
    (cuts-more chunk bs (taking bs (at + 1) (set line kept b) (kept_more line kept)).line begun b
    (taking bs (at + 1) (set line kept b) (kept_more line kept)).answer t
    (cuts-all bs chunk (at + 1) (set line kept b) (kept_more line kept) (begun ++ (b ∷ [])) (rest-behind chunk bs at b e) (keeps-more line begun kept b k))))

pub takes-lines : TakesLines
takes-lines chunk line begun at kept k = cuts-all (drop at chunk) chunk at line kept begun refl k

-- ---- places and counts

kept-within : (line : List ℕ) (kept b : ℕ) → kept ≤ length line → kept_more line kept ≤ length (set line kept b)
kept-within line kept b h =
    by_cases (ltb kept (length line))
    (λ t. rw (t, length-set line kept b) (omega (arith, ltb-true)))
    (λ t. rw (t, length-set line kept b) h)

range-later : (chunk line : List ℕ) (at kept b : ℕ) (r : Taking)
    → InRange chunk (at + 1) (set line kept b) (kept_more line kept) r → InRange chunk at line kept r
range-later chunk line at kept b (Line next n) w =
    (omega (arith, w.0), w.1, λ h. omega (arith, w.2 (kept-within line kept b h), length-set line kept b))
range-later chunk line at kept b (More n) w =
    λ h. omega (arith, w (kept-within line kept b h), length-set line kept b)

range_all : (bs chunk : List ℕ) (at : ℕ) (line : List ℕ) (kept : ℕ) → bs ≡ drop at chunk
    → InRange chunk at line kept (taking bs at line kept).answer
range_all [] chunk at line kept e = unfold taking in (λ h. h)
range_all (b ∷ bs) chunk at line kept e =
    by_cases (eqb b newline)
    (λ t. rw (taking-end bs line at kept b t) (omega arith, omega (arith, rest-within chunk bs at b e), λ h. h))
    (λ t. rw (taking-on bs line at kept b t)
    (range-later chunk line at kept b (taking bs (at + 1) (set line kept b) (kept_more line kept)).answer
    (range_all bs chunk (at + 1) (set line kept b) (kept_more line kept) (rest-behind chunk bs at b e))))

pub in-range : (chunk line : List ℕ) (at kept : ℕ) (r : Took) → r ≡ taking (drop at chunk) at line kept
    → InRange chunk at line kept r.answer
in-range chunk line at kept r e = rw e (range_all (drop at chunk) chunk at line kept refl)

-- ---- the loop's steps

module _ (chunk line : List ℕ) (i n : ℕ) where
  pub step-over : length chunk ≤ i → took (More n) line ≡ taking (drop i chunk) i line n
  unfolding taking
  step-over h = rw (drop_of_length-le chunk h)

  module _ (h : i < length chunk) where
    cons : drop i chunk ≡ get_or chunk i 0 ∷ drop (i + 1) chunk
    cons = rw (add-one, drop-cons chunk i 0)

    pub step_end : get_or chunk i 0 ≡ newline → took (Line (i + 1) n) line ≡ taking (drop i chunk) i line n
    step_end t = rw cons (sym (taking-end (drop (i + 1) chunk) line i n (get_or chunk i 0) (eq-eqb (get_or chunk i 0) newline t)))

    pub step-on : (get_or chunk i 0 ≡ newline → ⊥)
        → taking (drop (i + 1) chunk) (i + 1) (set line n (get_or chunk i 0)) (kept_more line n) ≡ taking (drop i chunk) i line n
    step-on t = rw cons (sym (taking-on (drop (i + 1) chunk) line i n (get_or chunk i 0) (ne_eqb (get_or chunk i 0) newline t)))

    -- a turn of the loop, with what is left after it
    pub step-turn : (after : List ℕ) (m : ℕ) (whole : Took) → (get_or chunk i 0 ≡ newline → ⊥)
        → (m ≡ kept_more line n) × (after ≡ set line n (get_or chunk i 0)) → taking (drop i chunk) i line n ≡ whole
        → taking (drop (i + 1) chunk) (i + 1) after m ≡ whole
    step-turn after m whole t k e = rw (k.0, k.1) (step-on t ∙ e)

-- ---- one byte

pub keep-more : (line : List ℕ) (kept : ℕ) → kept < length line → kept + 1 ≡ kept_more line kept
keep-more line kept h = rw (lt-ltb kept (length line) h)

pub keep-none : (line : List ℕ) (kept b : ℕ) → length line ≤ kept → (kept ≡ kept_more line kept) × (line ≡ set line kept b)
keep-none line kept b h = (rw (le-ltb kept (length line) h), sym (set_out line kept b h))
