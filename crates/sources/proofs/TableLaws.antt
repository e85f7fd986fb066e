-- The records of both kinds as the table that is read: all load, no two are alike, their names and what they bring.
use Prim.Native.Nat.{ℕ, zero, suc, ◌+◌, ◌-◌, ◌≤◌, ◌<◌}
use mathlib.Core.Path.{◌≡◌, refl, sym, ap, ◌∙◌}
use mathlib.Core.Bool.{Bool, true, false, ◌&&◌, ◌||◌, not}
use mathlib.Core.List.{List, [], ◌∷◌, ◌++◌, map, map-append}
use native.Mathlib.Omega.{arith}
use lib.Dec.{eqb, leb}
use lib.ListN.{length}
use borrow.Author.Tests.{eqb-true, eqb-false, eq-eqb, ne_eqb, le-leb, lt-leb}
use Rattle.basis.proofs.Cases.{by_cases}
use Rattle.forms.specs.Compact.{same}
use Rattle.plain.specs.Words.{Word, has, most, brings}
use Rattle.plain.specs.Coding.{coding_of}
use Rattle.plain.specs.Table.{Subgoal, Answer, called_forms, answers_to}
use Rattle.plain.proofs.WordLaws.{has-snoc}
use Rattle.space.specs.Layout as layout
use Rattle.space.specs.Sound.{Bounds}
use Rattle.space.specs.declared.Head.{Head}
use Rattle.space.proofs.HeaderLaws.{header-bounds}
use Rattle.store.specs.Clauses.{view_in}
use Rattle.agreement.specs.Whole.{every_below, up_to, word_of, subgoal_path, subgoal_read, answer_read, table_read}
use Rattle.agreement.proofs.WholeTests.{and_both}
use Rattle.carrying.specs.Recoding.{Recoding, widening, takes_word}
use Rattle.carrying.specs.Carrying.{answer_forms, takes_words, takes_table, all_different, answer_keys, none_alike}
use Rattle.carrying.specs.Copying.{subgoal_loads, answer_loads, source_loads}
use Rattle.carrying.specs.Clauses.{slow_fits}
use Rattle.carrying.specs.Needs.{answers_bring}
use Rattle.carrying.proofs.CopySteps.{map-up_to}
use Rattle.sources.specs.declared.Kind.{Kind}
use Rattle.sources.specs.declared.Kind.TheVariants as kind
use Rattle.sources.specs.declared.Records.{Records}
use Rattle.sources.specs.Records.{of_kind, Loads, subgoals_of, answers_of, count_of, unowned, sum_below, record_at, loads_at, named_at, before, differs_at, brings_at, AllLoad, Brings}

either-most : (k : Kind) (a b : ℕ) {m : ℕ} → a ≤ m → b ≤ m → of_kind k a b ≤ m
either-most kind.Answers a b h l = h
either-most kind.Subgoals a b h l = l

-- ---- words

same-turned : (v w : Word) → same v w ≡ same w v
unfolding same
same-turned [] [] = refl
same-turned [] (y ∷ w) = refl
same-turned (x ∷ v) [] = refl
same-turned (x ∷ v) (y ∷ w) = by_cases (eqb x y)
    (λ e. rw (e, eq-eqb y x (sym (eqb-true x y e))) (same-turned v w))
    (λ e. let n : x ≡ y → ⊥ = eqb-false x y e in rw (e, ne_eqb y x (λ z. n (sym z))) refl)

-- four tests in two orders
four : (a b c d : Bool) → (not (a || b) && (c && not d)) ≡ ((not a && c) && not (b || d))
four true b c d = refl
four false true true d = refl
four false true false d = refl
four false false c d = refl

different-snoc : (ws : List Word) (w : Word) → all_different (ws ++ (w ∷ [])) ≡ (all_different ws && not (has ws w))
unfolding all_different has
different-snoc [] w = refl
different-snoc (v ∷ ws) w =
    rw (has-snoc ws w v, different-snoc ws w, same-turned v w) (four (has ws v) (same w v) (all_different ws) (has ws w))

takes-snoc : (r : Recoding) (ws : List Word) (w : Word) → takes_words r (ws ++ (w ∷ [])) ≡ (takes_words r ws && takes_word r w)
unfolding takes_words
takes-snoc r [] w = and-true (takes_word r w)
  where
    and-true : (b : Bool) → (b && true) ≡ b
    and-true true = refl
    and-true false = refl
takes-snoc r (v ∷ ws) w = rw (takes-snoc r ws w) (and_assoc (takes_word r v) (takes_words r ws) (takes_word r w))
  where
    and_assoc : (a b d : Bool) → (a && (b && d)) ≡ ((a && b) && d)
    and_assoc true b d = refl
    and_assoc false b d = refl

-- ---- answers

-- one under a subgoal is one of the answers to it
has-under : (l : List Answer) (s : ℕ) (w : Word) → has (answers_to l s) w ≡ has (answer_keys l) (s ∷ w)
unfolding has answers_to same
has-under [] s w = refl
has-under (y ∷ l) s w = by_cases (eqb y.subgoal s)
    (λ e. rw e (ap (λ (b : Bool). same y.form w || b) (has-under l s w)))
    (λ e. rw e (has-under l s w))

-- each turned in front of those before it
unfoldable turned : List Answer → List Answer → List Answer
turned [] k = k
turned (y ∷ l) k = turned l (y ∷ k)

turned-snoc : (l k : List Answer) (y : Answer) → turned (l ++ (y ∷ [])) k ≡ y ∷ turned l k
unfolding turned
turned-snoc [] k y = refl
turned-snoc (x ∷ l) k y = turned-snoc l (x ∷ k) y

bring-snoc : (l k : List Answer) (y : Answer)
    → answers_bring k (l ++ (y ∷ [])) ≡ answers_bring k l + (length y.form - most (answers_to (turned l k) y.subgoal) y.form)
unfolding answers_bring turned
bring-snoc [] k y = omega arith
bring-snoc (x ∷ l) k y = omega (arith, bring-snoc l (x ∷ k) y)

-- ---- the records of a kind

module _ (cs : List ℕ) (x : Records) where
  or_turned : (a b : Bool) → (a || b) ≡ (b || a)
  or_turned true true = refl
  or_turned true false = refl
  or_turned false true = refl
  or_turned false false = refl

  before-has : (n : ℕ) (w : Word) → has (answer_keys (before cs x n)) w ≡ has (answer_keys (up_to (record_at cs x) n)) w
  unfolding before up_to has
  before-has zero w = refl
  before-has (suc n) w =
      let k : Word = (record_at cs x n).subgoal ∷ (record_at cs x n).form in
      ap (λ (b : Bool). same k w || b) (before-has n w) ∙ or_turned (same k w) (has (answer_keys (up_to (record_at cs x) n)) w)
      ∙ sym (ap (λ (l : List Word). has l w) (map-append (λ (y : Answer). y.subgoal ∷ y.form) (up_to (record_at cs x) n) (record_at cs x n ∷ []))
      ∙ has-snoc (answer_keys (up_to (record_at cs x) n)) k w)

  pub differ-all : (n : ℕ) → every_below (differs_at cs x) n ≡ all_different (answer_keys (up_to (record_at cs x) n))
  unfolding every_below up_to
  differ-all zero = unfold all_different in refl
  differ-all (suc n) =
      let y : Answer = record_at cs x n in
      let d : differs_at cs x n ≡ not (has (answer_keys (up_to (record_at cs x) n)) (y.subgoal ∷ y.form)) =
      unfold differs_at in ap not (has-under (before cs x n) y.subgoal y.form ∙ before-has n (y.subgoal ∷ y.form)) in
      ap (λ (b : Bool). b && differs_at cs x n) (differ-all n) ∙ ap (λ (b : Bool). all_different (answer_keys (up_to (record_at cs x) n)) && b) d
      ∙ sym (ap all_different (map-append (λ (z : Answer). z.subgoal ∷ z.form) (up_to (record_at cs x) n) (y ∷ []))
      ∙ different-snoc (answer_keys (up_to (record_at cs x) n)) (y.subgoal ∷ y.form))

  pub named-all : (n : ℕ) → every_below (named_at cs x) n ≡ takes_words widening (answer_forms (up_to (record_at cs x) n))
  unfolding every_below up_to
  named-all zero = unfold takes_words in refl
  named-all (suc n) =
      let t : takes_word widening (record_at cs x n).form ≡ named_at cs x n = unfold named_at in refl in
      ap (λ (b : Bool). b && named_at cs x n) (named-all n)
      ∙ sym (ap (takes_words widening) (map-append (λ (z : Answer). z.form) (up_to (record_at cs x) n) (record_at cs x n ∷ []))
      ∙ takes-snoc widening (answer_forms (up_to (record_at cs x) n)) (record_at cs x n).form ∙ ap (λ (b : Bool). takes_words widening (answer_forms (up_to (record_at cs x) n)) && b) t)

  turned-before : (n : ℕ) → turned (up_to (record_at cs x) n) [] ≡ before cs x n
  unfolding before up_to turned
  turned-before zero = refl
  turned-before (suc n) = turned-snoc (up_to (record_at cs x) n) [] (record_at cs x n) ∙ ap (λ (l : List Answer). record_at cs x n ∷ l) (turned-before n)

  pub brings-all : (n : ℕ) → sum_below (brings_at cs x) n ≡ answers_bring [] (up_to (record_at cs x) n)
  unfolding sum_below up_to
  brings-all zero = unfold answers_bring in refl
  brings-all (suc n) =
      let y : Answer = record_at cs x n in
      let b : brings_at cs x n ≡ length y.form - most (answers_to (turned (up_to (record_at cs x) n) []) y.subgoal) y.form =
      unfold brings_at in ap (λ (l : List Answer). length y.form - most (answers_to l y.subgoal) y.form) (sym (turned-before n)) in
      ap (λ (k : ℕ). k + brings_at cs x n) (brings-all n) ∙ ap (λ (k : ℕ). answers_bring [] (up_to (record_at cs x) n) + k) b ∙ sym (bring-snoc (up_to (record_at cs x) n) [] y)

  -- no more than a space has room for
  pub count_most : Bounds cs x.h → count_of x ≤ layout.most
  unfolding count_of
  count_most b = either-most x.kind x.h.answers x.h.subgoals (omega (arith, b)) (omega (arith, b))

-- ---- forms of subgoals

has-unowned : (ws : List Word) (w : Word) → has (answer_keys (map unowned ws)) (0 ∷ w) ≡ has ws w
unfolding has same
has-unowned [] w = refl
has-unowned (v ∷ ws) w = ap (λ (b : Bool). same v w || b) (has-unowned ws w)

different-unowned : (ws : List Word) → all_different (answer_keys (map unowned ws)) ≡ all_different ws
unfolding all_different
different-unowned [] = refl
different-unowned (w ∷ ws) = rw (has-unowned ws w, different-unowned ws) refl

takes-unowned : (r : Recoding) (ws : List Word) → takes_words r (answer_forms (map unowned ws)) ≡ takes_words r ws
unfolding takes_words
takes-unowned r [] = refl
takes-unowned r (w ∷ ws) = rw (takes-unowned r ws) refl

to-unowned : (ws : List Word) → answers_to (map unowned ws) 0 ≡ ws
unfolding answers_to
to-unowned [] = refl
to-unowned (w ∷ ws) = ap (λ (l : List Word). w ∷ l) (to-unowned ws)

brings-unowned : (ws k : List Word) → answers_bring (map unowned k) (map unowned ws) ≡ brings [] k ws
unfolding answers_bring brings
brings-unowned [] k = refl
brings-unowned (w ∷ ws) k =
    let n : most [] w ≡ 0 = unfold most in refl in
    let a = ap (λ (l : List Word). most l w) (to-unowned k) in
    let b = brings-unowned ws (w ∷ k) in
    omega arith

-- ---- both kinds under a head

module _ (cs : List ℕ) (h : Head) where
  -- a test of all records of a kind
  abbrev all_of : ((cs : List ℕ) (x : Records) → ℕ → Bool) → Records → Bool
  all_of test x = every_below (test cs x) (count_of x)

  count-both : (count_of (subgoals_of h) ≡ h.subgoals) × (count_of (answers_of h) ≡ h.answers)
  unfolding count_of
  count-both = (refl, refl)

  subgoals-are : (n : ℕ) → up_to (record_at cs (subgoals_of h)) n ≡ map unowned (called_forms (up_to (λ i. subgoal_read (view_in cs h) (suc i)) n))
  unfolding record_at
  subgoals-are n =
      sym (ap (map unowned) (map-up_to (λ (g : Subgoal). g.form) (λ (i : ℕ). subgoal_read (view_in cs h) (suc i)) n) ∙ map-up_to unowned (λ (i : ℕ). word_of (subgoal_path (view_in cs h) (suc i))) n)

  answers-are : (n : ℕ) → up_to (record_at cs (answers_of h)) n ≡ up_to (λ i. answer_read (view_in cs h) (suc i)) n
  unfolding record_at
  answers-are n = refl

  -- ---- loading

  loads-subgoals : all_of loads_at (subgoals_of h) ≡ every_below (λ i. subgoal_loads (coding_of h.edition) (view_in cs h) (suc i)) h.subgoals
  unfolding loads_at count_of
  loads-subgoals = refl

  loads-answers : all_of loads_at (answers_of h) ≡ every_below (λ i. answer_loads (coding_of h.edition) (view_in cs h) (suc i)) h.answers
  unfolding loads_at count_of
  loads-answers = refl

  differ-subgoals : all_of differs_at (subgoals_of h) ≡ all_different (called_forms (table_read (view_in cs h)).subgoals)
  differ-subgoals =
      ap (every_below (differs_at cs (subgoals_of h))) count-both.0 ∙ differ-all cs (subgoals_of h) h.subgoals ∙ ap (λ (l : List Answer). all_different (answer_keys l)) (subgoals-are h.subgoals)
      ∙ different-unowned (called_forms (table_read (view_in cs h)).subgoals)

  differ-answers : all_of differs_at (answers_of h) ≡ all_different (answer_keys (table_read (view_in cs h)).answers)
  differ-answers =
      ap (every_below (differs_at cs (answers_of h))) count-both.1 ∙ differ-all cs (answers_of h) h.answers ∙ ap (λ (l : List Answer). all_different (answer_keys l)) (answers-are h.answers)

  module _ (one : h.edition ≡ 1) where
    loads-are : source_loads (coding_of 1) (view_in cs h)
        ≡ (all_of loads_at (subgoals_of h) && all_of loads_at (answers_of h) && (all_of differs_at (subgoals_of h) && all_of differs_at (answers_of h)))
    unfolding source_loads none_alike
    loads-are = ap (λ (e : ℕ). source_loads (coding_of e) (view_in cs h)) (sym one) ∙ sym (rw (loads-subgoals, loads-answers, differ-subgoals, differ-answers) refl)

    module _ (a : Bool) (p : a ≡ all_of loads_at (subgoals_of h)) where
      pub unloaded-subgoal : a ≡ false → false ≡ source_loads (coding_of 1) (view_in cs h)
      unloaded-subgoal e = rw (loads-are, sym p ∙ e) refl

      module _ (s : a ≡ true) (b : Bool) (q : b ≡ all_of loads_at (answers_of h)) where
        pub unloaded-answer : b ≡ false → false ≡ source_loads (coding_of 1) (view_in cs h)
        unloaded-answer e = rw (loads-are, sym p ∙ s, sym q ∙ e) refl

        module _ (t : b ≡ true) (d : Bool) (u : d ≡ all_of differs_at (subgoals_of h)) where
          pub alike-subgoals : d ≡ false → false ≡ source_loads (coding_of 1) (view_in cs h)
          alike-subgoals e = rw (loads-are, sym p ∙ s, sym q ∙ t, sym u ∙ e) refl

          pub alike-answers : d ≡ true → all_of differs_at (answers_of h) ≡ source_loads (coding_of 1) (view_in cs h)
          alike-answers e = rw (loads-are, sym p ∙ s, sym q ∙ t, sym u ∙ e) refl

  -- ---- a source that loads

  module _ (k : Loads cs h) where
    load-both : (all_of loads_at (subgoals_of h) ≡ true) × (all_of loads_at (answers_of h) ≡ true)
    load-both =
        let e = sym (loads-are k.0.1) ∙ k.1 in
        let x = and_both (all_of loads_at (subgoals_of h) && all_of loads_at (answers_of h)) (all_of differs_at (subgoals_of h) && all_of differs_at (answers_of h)) e in
        and_both (all_of loads_at (subgoals_of h)) (all_of loads_at (answers_of h)) x.0

    pub loads-bounds : Bounds cs h
    loads-bounds = header-bounds cs h k.0.0

    pub subgoals-load : AllLoad cs (subgoals_of h)
    subgoals-load = (loads-bounds, load-both.0)

    pub answers-load : AllLoad cs (answers_of h)
    answers-load = (loads-bounds, load-both.1)

  -- ---- names

  named-both : takes_table widening (table_read (view_in cs h)) ≡ (all_of named_at (subgoals_of h) && all_of named_at (answers_of h))
  unfolding takes_table
  named-both =
      let a : all_of named_at (subgoals_of h) ≡ takes_words widening (called_forms (table_read (view_in cs h)).subgoals) =
      ap (every_below (named_at cs (subgoals_of h))) count-both.0 ∙ named-all cs (subgoals_of h) h.subgoals ∙ ap (λ (l : List Answer). takes_words widening (answer_forms l))
      (subgoals-are h.subgoals)
      ∙ takes-unowned widening (called_forms (table_read (view_in cs h)).subgoals) in
      let b : all_of named_at (answers_of h) ≡ takes_words widening (answer_forms (table_read (view_in cs h)).answers) =
      ap (every_below (named_at cs (answers_of h))) count-both.1 ∙ named-all cs (answers_of h) h.answers ∙ ap (λ (l : List Answer). takes_words widening (answer_forms l))
      (answers-are h.answers) in
      sym (rw (a, b) refl)

  module _ (a : Bool) (p : a ≡ all_of named_at (subgoals_of h)) where
    pub unnamed-subgoal : a ≡ false → false ≡ takes_table widening (table_read (view_in cs h))
    unnamed-subgoal e = rw (named-both, sym p ∙ e) refl

    pub named-answers : a ≡ true → all_of named_at (answers_of h) ≡ takes_table widening (table_read (view_in cs h))
    named-answers e = rw (named-both, sym p ∙ e) refl

  -- ---- room

  -- the nodes that a copy needs
  abbrev needed : ℕ
  needed = suc (brings [] [] (called_forms (table_read (view_in cs h)).subgoals)) + h.subgoals + answers_bring [] (table_read (view_in cs h)).answers

  module _ (n f a : ℕ) where
    pub few-subgoals : f < h.subgoals → false ≡ slow_fits n f a (view_in cs h)
    few-subgoals l = rw (lt-leb h.subgoals f l) (either (leb needed n) (leb h.answers a))
      where
        either : (x y : Bool) → false ≡ (x && false && y)
        either true y = refl
        either false y = refl

    module _ (l : h.subgoals ≤ f) where
      pub few-answers : a < h.answers → false ≡ slow_fits n f a (view_in cs h)
      few-answers m = rw (le-leb h.subgoals f l, lt-leb h.answers a m) (either (leb needed n))
        where
          either : (x : Bool) → false ≡ (x && true && false)
          either true = refl
          either false = refl

      module _ (m : h.answers ≤ a) (b d : ℕ) (p : Brings cs (subgoals_of h) (count_of (subgoals_of h)) b)
          (q : Brings cs (answers_of h) (count_of (answers_of h)) d) where
        pub nodes-fit : (k : ℕ) → k ≡ 1 + b + h.subgoals + d → leb k n ≡ slow_fits n f a (view_in cs h)
        nodes-fit k e =
            let x : b ≡ brings [] [] (called_forms (table_read (view_in cs h)).subgoals) =
            p.0 ∙ ap (sum_below (brings_at cs (subgoals_of h))) count-both.0 ∙ brings-all cs (subgoals_of h) h.subgoals ∙ ap (answers_bring []) (subgoals-are h.subgoals)
            ∙ brings-unowned (called_forms (table_read (view_in cs h)).subgoals) [] in
            let y : d ≡ answers_bring [] (table_read (view_in cs h)).answers =
            q.0 ∙ ap (sum_below (brings_at cs (answers_of h))) count-both.1 ∙ brings-all cs (answers_of h) h.answers ∙ ap (answers_bring []) (answers-are h.answers) in
            let z : k ≡ needed = omega arith in
            rw (le-leb h.subgoals f l, le-leb h.answers a m) (ap (λ (j : ℕ). leb j n) z ∙ and-true (leb needed n))
          where
            and-true : (x : Bool) → x ≡ (x && true && true)
            and-true true = refl
            and-true false = refl
