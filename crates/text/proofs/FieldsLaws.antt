-- Laws of fields at places of a line, and of numerals read digit by digit.
use Prim.Native.Nat.{ℕ, zero, suc, ◌+◌, ◌*◌, ◌-◌, ◌^◌, ◌≤◌, ◌<◌}
use mathlib.Core.Bool.{Bool, true, false, not, ◌&&◌, cond}
use mathlib.Core.List.{List, [], ◌∷◌, ◌++◌, append-nil}
use mathlib.Core.Path.{◌≡◌, refl, sym, ap, subst, ◌∙◌}
use native.Mathlib.Omega.{arith}
use native.Mathlib.Nat.{mul-le-mul_left, mul_comm}
use lib.Pow.{pow-add}
use lib.Dec.{eqb, leb, ltb}
use lib.ListN.{length, take, drop, get_or, set, length-drop}
use lib.Pointwise.{pointwise}
use lib.Seq.{drop-drop, drop-cons, drop-length, append_snoc, take-suc-set, length-take-le}
use Rattle.std.proofs.lemmas.List.{take_all}
use borrow.Author.Tests.{ltb-false, leb-true, leb-false, lt-ltb, le-ltb, le-leb, lt-leb, ne_eqb}
use Rattle.std.specs.Prelude.{Option, Some, None, ◌==◌, nat_lt, min}
use Rattle.std.specs.List.{position, position_or_len}
use Rattle.std.specs.Option.{unwrap_or}
use Rattle.basis.specs.Choice.{pick}
use Rattle.basis.proofs.Cases.{by_cases}
use Rattle.forms.specs.Compact.{same}
use Rattle.text.specs.Fields.{space, digit_of, fields, Number, no_number, some_number, Cells, no_cells, some_cells, value_from, numeral, numeral_first, behind, first_number, only_number, cell_before, hex_cells}
use Rattle.text.specs.Places.{field_at, rest_at, FieldEnds, EndsFirst}

-- ---- fields

fields-goes-on : (b : ℕ) (bs : List ℕ) → eqb b space ≡ false → ((fields (b ∷ bs)).first ≡ b ∷ (fields bs).first) × ((fields (b ∷ bs)).others ≡ (fields bs).others)
unfolding fields
fields-goes-on b bs e = rw e (refl, refl)

fields-ends : (b : ℕ) (bs : List ℕ) → eqb b space ≡ true → ((fields (b ∷ bs)).first ≡ []) × ((fields (b ∷ bs)).others ≡ (fields bs).first ∷ (fields bs).others)
unfolding fields
fields-ends b bs e = rw e (refl, refl)

no-head : {b : ℕ} {bs : List ℕ} → b ∷ bs ≡ [] → ⊥
no-head e = let z : ◌≡◌ {A = ℕ} 0 1 = cc in omega arith

fields-none : ((fields []).first ≡ []) × ((fields []).others ≡ [])
unfolding fields
fields-none = (refl, refl)

module _ (line : List ℕ) (i : ℕ) where
  dropped : i < length line → drop i line ≡ get_or line i 0 ∷ drop (i + 1) line
  dropped h = drop-cons line i 0 h ∙ ap (λ (j : ℕ). get_or line i 0 ∷ drop j line) (let e : suc i ≡ i + 1 = omega arith in e)

  -- no field at the line's end
  pub place_end : length line ≡ i → (field_at line i ≡ []) × (rest_at line i ≡ [])
  place_end e =
      let d : drop i line ≡ [] = ap (λ (j : ℕ). drop j line) (sym e) ∙ drop-length line in
      (ap (λ (w : List ℕ). (fields w).first) d ∙ fields-none.0, ap (λ (w : List ℕ). (fields w).others) d ∙ fields-none.1)

  -- behind a field that is over there is a space, and then the next field
  pub rest-next : field_at line i ≡ [] → i < length line → rest_at line i ≡ field_at line (i + 1) ∷ rest_at line (i + 1)
  rest-next e h =
      let b = get_or line i 0 in
      let w = drop (i + 1) line in
      by_cases (eqb b space)
      (λ t. ap (λ (u : List ℕ). (fields u).others) (dropped h) ∙ (fields-ends b w t).1)
      (λ t. absurd (no-head (sym (fields-goes-on b w t).0 ∙ sym (ap (λ (u : List ℕ). (fields u).first) (dropped h)) ∙ e)))

-- ---- numerals

value-digit : (base n b : ℕ) (bs : List ℕ) → digit_of b < base → value_from base n (b ∷ bs) ≡ value_from base (base * n + digit_of b) bs
unfolding value_from
value-digit base n b bs h = rw (lt-ltb _ _ h)

value-bad : (base n b : ℕ) (bs : List ℕ) → base ≤ digit_of b → value_from base n (b ∷ bs) ≡ no_number
unfolding value_from
value-bad base n b bs h = rw (le-ltb _ _ h)

value-end : (base n : ℕ) → value_from base n [] ≡ some_number n
unfolding value_from
value-end base n = refl

pick-alike : {A : Type 0} (b : Bool) (x : A) → pick b x x ≡ x
pick-alike true x = refl
pick-alike false x = refl

module _ (base least most : ℕ) (f : List ℕ) where
  pub numeral-bad : value_from base 0 f ≡ no_number → numeral base least most f ≡ no_number
  unfolding numeral
  numeral-bad e = rw e (pick-alike (leb least (length f) && leb (length f) most) no_number)

  pub numeral-long : most < length f → numeral base least most f ≡ no_number
  unfolding numeral
  numeral-long h = by_cases (leb least (length f)) (λ t. rw (t, lt-leb _ _ h)) (λ t. rw t)

  pub numeral-short : length f < least → numeral base least most f ≡ no_number
  unfolding numeral
  numeral-short h = rw (lt-leb _ _ h)

  pub numeral-right : (n : ℕ) → least ≤ length f → length f ≤ most → value_from base 0 f ≡ some_number n → numeral base least most f ≡ some_number n
  unfolding numeral
  numeral-right n h k e = rw (le-leb _ _ h, le-leb _ _ k, e)

-- so many hexadecimal digits
abbrev pub hex_room : ℕ → ℕ
hex_room k = 16 ^ k

hex-room-more : (k : ℕ) → hex_room (suc k) ≡ 16 * hex_room k
hex-room-more k = ap (λ (j : ℕ). 16 ^ j) (let e : suc k ≡ 1 + k = omega arith in e) ∙ pow-add 16 1 k

ap-le : {a b : ℕ} → a ≡ b → a ≤ b
ap-le e = omega arith

hex-room-grows : (k d : ℕ) → hex_room k ≤ hex_room (d + k)
hex-room-grows k zero = ap-le (ap (λ (j : ℕ). 16 ^ j) (let e : k ≡ 0 + k = omega arith in e))
hex-room-grows k (suc d) = omega (arith, hex-room-grows k d, hex-room-more (d + k), ap (λ (j : ℕ). 16 ^ j) (let e : suc d + k ≡ suc (d + k) = omega arith in e))

-- seven digits leave room for one more in 32 bits
pub hex-room-seven : (k : ℕ) → k < 8 → hex_room k ≤ 2 ^ 28
hex-room-seven k h = omega (arith, hex-room-grows k (7 - k), ap (λ (j : ℕ). 16 ^ j) (let e : (7 - k) + k ≡ 7 = omega arith in e))

pub product-most : (base v : ℕ) → base ≤ 16 → base * v ≤ 16 * v
product-most base v h = rw (mul_comm base v, mul_comm 16 v) (mul-le-mul_left v h)

-- the digits behind place i, where those before it have a value
module _ (base v : ℕ) (ds : List ℕ) (i : ℕ) where
  module _ (h : i < length ds) where
    pub digit-next : (d : ℕ) → d ≡ digit_of (get_or ds i 0) → d < base → value_from base v (drop i ds) ≡ value_from base (base * v + d) (drop (i + 1) ds)
    digit-next d q b =
        ap (value_from base v) (dropped ds i h) ∙ value-digit base v (get_or ds i 0) (drop (i + 1) ds) (omega arith)
        ∙ ap (λ (x : ℕ). value_from base (base * v + x) (drop (i + 1) ds)) (sym q)

    pub digit-bad : base ≤ digit_of (get_or ds i 0) → value_from base v (drop i ds) ≡ no_number
    digit-bad b = ap (value_from base v) (dropped ds i h) ∙ value-bad base v (get_or ds i 0) (drop (i + 1) ds) b

  pub digits_over : length ds ≡ i → value_from base v (drop i ds) ≡ some_number v
  digits_over e = ap (value_from base v) (ap (λ (j : ℕ). drop j ds) (sym e) ∙ drop-length ds) ∙ value-end base v

pub digit-small : (base v i d : ℕ) → base ≤ 16 → d < base → v < 16 ^ i → base * v + d < 16 ^ (i + 1)
digit-small base v i d b l s =
    let e : i + 1 ≡ suc i = omega arith in
    omega (arith, product-most base v b, ap (λ (j : ℕ). 16 ^ j) e, hex-room-more i)

-- ---- the field behind a place

module _ (line : List ℕ) (i : ℕ) (e : FieldEnds line i) where
  -- the field that ends n bytes behind the space, and the fields behind it
  module _ (h : i < length line) (rest : List ℕ) (r : rest ≡ drop (i + 1) line) (n : ℕ) (d : EndsFirst rest n) where
    ends : EndsFirst (drop (i + 1) line) n
    ends = subst (λ (w : List ℕ). EndsFirst w n) r d

    after : drop n (drop (i + 1) line) ≡ drop (i + 1 + n) line
    after = drop-drop n (i + 1) line

    next-field : rest_at line i ≡ take n rest ∷ rest_at line (i + 1 + n)
    next-field =
        rest-next line i e.1 h ∙ ap (λ (w : List ℕ). w ∷ rest_at line (i + 1)) (ends.1 ∙ ap (take n) (sym r))
        ∙ ap (λ (fs : List (List ℕ)). take n rest ∷ fs) (sym ends.2 ∙ ap (λ (w : List ℕ). (fields w).others) after)

    pub next-ends : FieldEnds line (i + 1 + n)
    next-ends = (omega (arith, ends.0.0, length-drop (i + 1) line), ap (λ (w : List ℕ). (fields w).first) (sym after) ∙ ends.0.1)

    pub first-behind : behind (rest_at line i) ≡ rest_at line (i + 1 + n)
    first-behind = ap behind next-field

    module _ (base least most : ℕ) where
      pub first-numeral : {m : Number} → numeral base least most (take n rest) ≡ m → numeral_first base least most (rest_at line i) ≡ m
      first-numeral t = ap (numeral_first base least most) next-field ∙ t

  -- a field of more bytes than a numeral has
  pub first-longer : (base least most : ℕ) (rest : List ℕ) → i < length line → rest ≡ drop (i + 1) line → most < length (fields rest).first → numeral_first base least most (rest_at line i) ≡ no_number
  first-longer base least most rest h r l =
      ap (numeral_first base least most) (rest-next line i e.1 h)
      ∙ numeral-long base least most (field_at line (i + 1)) (subst (λ (w : List ℕ). most < length (fields w).first) r l)

  pub first-none : (base least most : ℕ) → length line ≤ i → numeral_first base least most (rest_at line i) ≡ no_number
  first-none base least most h = ap (numeral_first base least most) (place_end line i (omega (arith, e.0))).1

-- ---- the first field

-- the first space ends it, or the line does
abbrev first_space : List ℕ → ℕ
first_space line = position_or_len (λ b. b == 32) line

module _ (b : ℕ) (bs : List ℕ) where
  ends-here : eqb b space ≡ true → EndsFirst (b ∷ bs) 0
  ends-here t = let e = fields-ends b bs t in ((omega arith, e.0), e.0, refl)

  ends-later : (i : ℕ) → eqb b space ≡ false → EndsFirst bs i → EndsFirst (b ∷ bs) (suc i)
  ends-later i t e = let g = fields-goes-on b bs t in ((omega (arith, e.0.0), e.0.1), g.0 ∙ ap (λ (w : List ℕ). b ∷ w) e.1, e.2 ∙ sym g.1)

  space-here : eqb b space ≡ true → first_space (b ∷ bs) ≡ 0
  space-here t = ap (λ (x : Bool). cond (not x) (1 + first_space bs) 0) t

  space-later : eqb b space ≡ false → first_space (b ∷ bs) ≡ suc (first_space bs)
  space-later t = let e : first_space (b ∷ bs) ≡ 1 + first_space bs = ap (λ (x : Bool). cond (not x) (1 + first_space bs) 0) t in omega arith

ends-first : (line : List ℕ) → EndsFirst line (first_space line)
ends-first [] = ((omega arith, fields-none.0), fields-none.0, refl)
ends-first (b ∷ bs) =
    by_cases (eqb b space)
    (λ t. subst (EndsFirst (b ∷ bs)) (sym (space-here b bs t)) (ends-here b bs t))
    (λ t. subst (EndsFirst (b ∷ bs)) (sym (space-later b bs t)) (ends-later b bs (first_space bs) t (ends-first bs)))

space-first : (line : List ℕ) → unwrap_or (position (λ b. b == 32) line) (length line) ≡ first_space line
space-first line =
    by_cases (nat_lt (first_space line) (length line))
    (λ t. ap (λ (x : Bool). unwrap_or (cond x (Some (first_space line)) None) (length line)) t)
    (λ t. ap (λ (x : Bool). unwrap_or (cond x (Some (first_space line)) None) (length line)) t
    ∙ (let g = ltb-false (first_space line) (length line) t in omega (arith, (ends-first line).0.0)))

pub first_end : (line : List ℕ) (r : Option ℕ) (n : ℕ) → r ≡ position (λ b. b == 32) line → n ≡ unwrap_or r (length line) → EndsFirst line n
first_end line r n p q = subst (EndsFirst line) (sym (q ∙ ap (λ (x : Option ℕ). unwrap_or x (length line)) p ∙ space-first line)) (ends-first line)

-- ---- the first field within so many bytes

first-length : (line : List ℕ) → length (fields line).first ≡ first_space line
first-length line = let f = ends-first line in ap length f.1 ∙ length-take-le (first_space line) line f.0.0

ends-unique : (line : List ℕ) (n : ℕ) → EndsFirst line n → n ≡ first_space line
ends-unique line n d = sym (length-take-le n line d.0.0) ∙ sym (ap length d.1) ∙ first-length line

space-within : (k : ℕ) (line : List ℕ) → first_space (take k line) < k → first_space line ≡ first_space (take k line)
space-within zero line h = absurd (let z : ⊥ = omega arith in z)
space-within (suc k) [] h = refl
space-within (suc k) (b ∷ bs) h =
    by_cases (eqb b space)
    (λ t. space-here b bs t ∙ sym (space-here b (take k bs) t))
    (λ t. let e = space-later b (take k bs) t in space-later b bs t ∙ ap suc (space-within k bs (omega (arith, e))) ∙ sym e)

space-most : (k : ℕ) (line : List ℕ) → first_space (take k line) ≤ first_space line
space-most zero line = omega arith
space-most (suc k) [] = omega arith
space-most (suc k) (b ∷ bs) =
    by_cases (eqb b space)
    (λ t. omega (arith, space-here b bs t, space-here b (take k bs) t))
    (λ t. omega (arith, space-later b bs t, space-later b (take k bs) t, space-most k bs))

module _ (line : List ℕ) (most k n : ℕ) (q : k ≡ min (length line) (most + 1)) (d : EndsFirst (take k line) n) where
  pub first-within : n ≤ most → EndsFirst line n
  first-within h =
      by_cases (leb (length line) k)
      (λ t. subst (λ (w : List ℕ). EndsFirst w n) (take_all k line (leb-true _ _ t)) d)
      (λ t. let u = ends-unique (take k line) n d in
      subst (EndsFirst line) (space-within k line (omega (arith, u, q, leb-false _ _ t)) ∙ sym u) (ends-first line))

  pub first-beyond : most < n → most < length (fields line).first
  first-beyond h = omega (arith, first-length line, ends-unique (take k line) n d, space-most k line)

-- ---- exactly one number

no_fields : {f : List ℕ} {fs : List (List ℕ)} → f ∷ fs ≡ [] → ⊥
no_fields e = let z : ◌≡◌ {A = ℕ} 0 1 = cc in omega arith

no_number_lem : {n : ℕ} → no_number ≡ some_number n → ⊥
no_number_lem e = let z : ◌≡◌ {A = ℕ} 0 1 = cc in omega arith

pub only-right : (fs : List (List ℕ)) (n : ℕ) → behind fs ≡ [] → first_number fs ≡ some_number n → only_number fs ≡ some_number n
only-right [] n e h = absurd (no_number_lem h)
only-right (f ∷ []) n e h = h
only-right (f ∷ g ∷ fs) n e h = absurd (no_fields e)

pub only-many : (fs : List (List ℕ)) (g : List ℕ) (gs : List (List ℕ)) → behind fs ≡ g ∷ gs → only_number fs ≡ no_number
only-many [] g gs e = absurd (no_fields (sym e))
only-many (f ∷ []) g gs e = absurd (no_fields (sym e))
only-many (f ∷ h ∷ fs) g gs e = rw (ne_eqb (length (f ∷ h ∷ fs)) 1 (λ q. omega arith))

pub only_none : (fs : List (List ℕ)) → first_number fs ≡ no_number → only_number fs ≡ no_number
only_none fs e = ap (λ (n : Number). pick (eqb (length fs) 1) n no_number) e ∙ pick-alike (eqb (length fs) 1) no_number

-- ---- cells

-- cells before those that are read, if they are
abbrev pub prepend : List ℕ → Cells → Cells
prepend ks no_cells = no_cells
prepend ks (some_cells cs) = some_cells (ks ++ cs)

pub prepend-none : (cs : Cells) → cs ≡ prepend [] cs
prepend-none no_cells = refl
prepend-none (some_cells cs) = refl

prepend-one : (ks : List ℕ) (n : ℕ) (cs : Cells) → prepend ks (cell_before (some_number n) cs) ≡ prepend (ks ++ (n ∷ [])) cs
prepend-one ks n no_cells = refl
prepend-one ks n (some_cells cs) = ap some_cells (sym (append_snoc ks n cs))

cells-first : (fs : List (List ℕ)) (n : ℕ) → numeral_first 16 8 8 fs ≡ some_number n → hex_cells fs ≡ cell_before (some_number n) (hex_cells (behind fs))
unfolding hex_cells
cells-first [] n e = absurd (no_number_lem e)
cells-first (f ∷ fs) n e = ap (λ (m : Number). cell_before m (hex_cells fs)) e

cells-none : hex_cells [] ≡ some_cells []
unfolding hex_cells
cells-none = refl

cells-bad : (f : List ℕ) (fs : List (List ℕ)) → numeral 16 8 8 f ≡ no_number → hex_cells (f ∷ fs) ≡ no_cells
unfolding hex_cells
cells-bad f fs e = ap (λ (m : Number). cell_before m (hex_cells fs)) e

module _ (line front : List ℕ) (i k : ℕ) (said : Cells) (s : said ≡ prepend (take k front) (hex_cells (rest_at line i))) where
  -- a cell more
  pub cells-step : (n e : ℕ) → numeral_first 16 8 8 (rest_at line i) ≡ some_number n → rest_at line e ≡ behind (rest_at line i) → k < length front
      → said ≡ prepend (take (k + 1) (set front k n)) (hex_cells (rest_at line e))
  cells-step n e t r h =
      s ∙ ap (prepend (take k front)) (cells-first (rest_at line i) n t) ∙ prepend-one (take k front) n (hex_cells (behind (rest_at line i)))
      ∙ ap (λ (fs : List (List ℕ)). prepend (take k front ++ (n ∷ [])) (hex_cells fs)) (sym r)
      ∙ ap (λ (ks : List ℕ). prepend ks (hex_cells (rest_at line e))) (sym (take-suc-set front k n h) ∙ ap (λ (j : ℕ). take j (set front k n)) (let q : suc k ≡ k + 1 = omega arith in q))

  pub cells_over : length line ≤ i → FieldEnds line i → said ≡ some_cells (take k front)
  cells_over h e = s ∙ ap (λ (fs : List (List ℕ)). prepend (take k front) (hex_cells fs)) (place_end line i (omega (arith, e.0))).1 ∙ ap (prepend (take k front)) cells-none ∙ ap some_cells (append-nil (take k front))

  pub cells-refused : i < length line → FieldEnds line i → numeral_first 16 8 8 (rest_at line i) ≡ no_number → said ≡ no_cells
  cells-refused h e t =
      let r = rest-next line i e.1 h in
      s ∙ ap (λ (fs : List (List ℕ)). prepend (take k front) (hex_cells fs)) r
      ∙ ap (prepend (take k front)) (cells-bad (field_at line (i + 1)) (rest_at line (i + 1)) (sym (ap (numeral_first 16 8 8) r) ∙ t))

-- ---- words

pub same-pointwise : (xs ys : List ℕ) → pointwise eqb xs ys ≡ same xs ys
unfolding same
same-pointwise [] [] = refl
same-pointwise [] (y ∷ ys) = refl
same-pointwise (x ∷ xs) [] = refl
same-pointwise (x ∷ xs) (y ∷ ys) = by_cases (eqb x y) (λ t. rw t (same-pointwise xs ys)) (λ t. rw t)
