-- The pass over all forms of a join that counts exactly: each form against those before it.
use mathlib.Core.Path.{◌≡◌, refl, sym, ap, ◌∙◌, subst}
use mathlib.Core.Bool.{Bool, true, false, ◌||◌}
use mathlib.Core.List.{List, [], ◌∷◌, ◌++◌}
use Prim.Native.Nat.{ℕ, suc, ◌+◌, ◌-◌, ◌*◌, ◌^◌, ◌≤◌, ◌<◌, min}
use native.Mathlib.Omega.{arith}
use lib.ListN.{length, take, length-append}
use lib.Seq.{take_at, take-append-add, length-take-le}
use Rattle.plain.proofs.LongestShared.{most-le}
use Rattle.basis.specs.Choice.{pick}
use Rattle.forms.specs.Stored.{stored_of}
use Rattle.forms.specs.Compact.{same}
use Rattle.plain.specs.Words.{Word, most, has}
use Rattle.space.specs.Sound.{subgoal_under}
use Rattle.store.specs.Views.{View}
use Rattle.trie.specs.Walks.{Finding}
use Rattle.store.specs.Decisions.{walk_to_by, lacking, missing, nodes_needed_by, answers_needed_by}
use Rattle.store.specs.Clauses.{view_in}
use Rattle.parts.specs.Parts.{all_fit}
use Rattle.sides.specs.Searches.{Searched, MeetsOneMore}
use Rattle.sides.specs.declared.Met.{Met}
use Rattle.pairing.specs.declared.Sides.{Sides}
use Rattle.pairing.specs.declared.Cursor.{Cursor}
use Rattle.pairing.specs.declared.Needs.{Needs}
use Rattle.sides.specs.declared.Earlier.{Earlier}
use Rattle.pairing.specs.declared.Found.TheVariants as found
use Rattle.pairing.specs.declared.Walk.{Walk}
use Rattle.pairing.specs.Pairing.{Stands, to_come, Advances}
use Rattle.pairing.specs.Counting.{Begun, all_forms, JoinReady, Fitting, backwards, EarlierOf, one_new, needs_more, NeedsUpTo}
use Rattle.sides.proofs.SharedLaws.{has-cons, held_whole}
use Rattle.pairing.proofs.CountLaws.{begins, all_come, fit-cons, met-walk}

-- ---- lists

append-nil : (ws : List Word) → ws ++ [] ≡ ws
append-nil [] = refl
append-nil (w ∷ ws) = ap (λ (us : List Word). w ∷ us) (append-nil ws)

append-one : (ds : List Word) (w : Word) (ws : List Word) → (ds ++ (w ∷ [])) ++ ws ≡ ds ++ (w ∷ ws)
append-one [] w ws = refl
append-one (d ∷ ds) w ws = ap (λ (us : List Word). d ∷ us) (append-one ds w ws)

backwards-one : (ds : List Word) (w : Word) (before : List Word) → backwards (ds ++ (w ∷ [])) before ≡ w ∷ backwards ds before
unfolding backwards
backwards-one [] w before = refl
backwards-one (d ∷ ds) w before = backwards-one ds w (d ∷ before)

backwards-more : (ds es before : List Word) → backwards (ds ++ es) before ≡ backwards es (backwards ds before)
unfolding backwards
backwards-more [] es before = refl
backwards-more (d ∷ ds) es before = backwards-more ds es (d ∷ before)

or-true : (b : Bool) → (b || true) ≡ true
or-true true = refl
or-true false = refl

-- a form that is held is held among more
held_more : (ds before : List Word) (w : Word) → has before w ≡ true → has (backwards ds before) w ≡ true
unfolding backwards
held_more [] before w h = h
held_more (d ∷ ds) before w h = held_more ds (d ∷ before) w (has-cons d before w ∙ ap (λ (b : Bool). same d w || b) h ∙ or-true (same d w))

-- ---- the forms before one

-- the first i forms are passed, and what is shared with them is known
pub record Comparing (cs : List ℕ) (x : Sides) (ps ks : List ℕ) (w : Word) (at : Cursor) (hands form : List ℕ) (i : ℕ) (e : Earlier) : Type 0 where
  pub stands : Stands cs x at hands form
  pub fit : all_fit (stored_of x.h.edition) (to_come cs x ps ks at hands) ≡ true
  pub done : List Word
  pub are : all_forms cs x ps ks ≡ done ++ to_come cs x ps ks at hands
  pub passed : length done ≡ i
  pub shared : e.shared ≡ most (backwards done []) w
  pub held : e.held ≡ has (backwards done []) w

abbrev pub none_earlier : Earlier
none_earlier = record { shared = 0; held = false }

module _ (cs : List ℕ) (x : Sides) (ps ks : List ℕ) (w : Word) where
  pub comparing-begun : JoinReady cs x ps ks → Fitting cs x ps ks → (v : Walk) → Begun x v → Comparing cs x ps ks w v.at v.first v.form 0 none_earlier
  unfolding backwards most has
  comparing-begun r f v b = record {
    stands = begins cs x ps ks r v b;
    fit = subst (λ (ws : List Word). all_fit (stored_of x.h.edition) ws ≡ true) (all_come cs x ps ks v b) f;
    done = [];
    are = all_come cs x ps ks v b;
    passed = refl;
    shared = refl;
    held = refl;
  }

  module _ (at : Cursor) (hands form : List ℕ) (i : ℕ) (e : Earlier) (c : Comparing cs x ps ks w at hands form i e) where
    pub compared-end : (count : ℕ) → i ≡ count → EarlierOf (all_forms cs x ps ks) count w e
    compared-end count k =
        let t : take count (all_forms cs x ps ks) ≡ c.done = ap (take count) c.are ∙ take_at c.done (to_come cs x ps ks at hands) count (c.passed ∙ k) in
        (c.shared ∙ ap (λ (ds : List Word). most (backwards ds []) w) (sym t), c.held ∙ ap (λ (ds : List Word). has (backwards ds []) w) (sym t))

    -- the form is among those passed, so that those to come change nothing
    pub compared-held : (count : ℕ) → i ≤ count → e.held ≡ true → EarlierOf (all_forms cs x ps ks) count w e
    compared-held count k h =
        let more : List Word = take (count - i) (to_come cs x ps ks at hands) in
        let n : count ≡ length c.done + (count - i) = omega (arith, c.passed) in
        let t : take count (all_forms cs x ps ks) ≡ c.done ++ more =
        ap (take count) c.are ∙ ap (λ (j : ℕ). take j (c.done ++ to_come cs x ps ks at hands)) n ∙ take-append-add c.done (to_come cs x ps ks at hands) (count - i) in
        let b : backwards (take count (all_forms cs x ps ks)) [] ≡ backwards more (backwards c.done []) = ap (λ (ds : List Word). backwards ds []) t ∙ backwards-more c.done more [] in
        let p : has (backwards c.done []) w ≡ true = sym c.held ∙ h in
        let q : has (backwards (take count (all_forms cs x ps ks)) []) w ≡ true = ap (λ (ds : List Word). has ds w) b ∙ held_more more (backwards c.done []) w p in
        (c.shared ∙ held_whole (backwards c.done []) w p ∙ sym (held_whole (backwards (take count (all_forms cs x ps ks)) []) w q), h ∙ sym q)

    -- there is a further form
    pub comparing-short : (count : ℕ) → count ≤ length (all_forms cs x ps ks) → i < count → to_come cs x ps ks at hands ≡ [] → ⊥
    comparing-short count l k z = omega (arith, ap length (c.are ∙ ap (λ (ws : List Word). c.done ++ ws) z ∙ append-nil c.done), c.passed)

    pub comparing-on : (hands' form' : List ℕ) (next : Cursor) (n : ℕ) → Advances cs x ps ks at hands hands' form' (found.At (next, n)) → (b : Earlier) → MeetsOneMore e (take n form') w b
        → Comparing cs x ps ks w next hands' form' (i + 1) b
    comparing-on hands' form' next n a b m =
        let v : Word = take n form' in
        let j = m (backwards c.done []) c.shared c.held in
        record {
          stands = a.0;
          fit = sym (fit-cons (stored_of x.h.edition) (take n form') (to_come cs x ps ks next hands') a.1.2) ∙ ap (all_fit (stored_of x.h.edition)) (sym a.1.1) ∙ c.fit;
          done = c.done ++ (take n form' ∷ []);
          are = c.are ∙ ap (λ (ws : List Word). c.done ++ ws) a.1.1 ∙ sym (append-one c.done (take n form') (to_come cs x ps ks next hands'));
          passed = length-append c.done (take n form' ∷ []) ∙ ap (λ (k : ℕ). k + 1) c.passed;
          shared = j.0 ∙ ap (λ (ds : List Word). most ds w) (sym (backwards-one c.done (take n form') []));
          held = j.1 ∙ ap (λ (ds : List Word). has ds w) (sym (backwards-one c.done (take n form') []));
        }

pub shared-length : (ws : List Word) (k : ℕ) (w : Word) (r : Earlier) → EarlierOf ws k w r → r.shared ≤ length w
shared-length ws k w r o = omega (arith, o.0, most-le (backwards (take k ws) []) w)

-- ---- the exact needs

abbrev pub no_needs : Needs
no_needs = record { nodes = 0; answers = 0 }

-- by any way of finding a child
module _ (find : Finding) where
  nodes-cons : (v : View) (s : ℕ) (before : List Word) (w : Word) (ws : List Word) → nodes_needed_by find v s before (w ∷ ws) ≡ min (missing (walk_to_by find v s w)) (length w - most before w) + nodes_needed_by find v s (w ∷ before) ws
  unfolding nodes_needed_by
  nodes-cons v s before w ws = refl

  answers-cons : (v : View) (s : ℕ) (before : List Word) (w : Word) (ws : List Word) → answers_needed_by find v s before (w ∷ ws) ≡ pick (lacking v (walk_to_by find v s w)) (pick (has before w) 0 1) 0 + answers_needed_by find v s (w ∷ before) ws
  unfolding answers_needed_by
  answers-cons v s before w ws = refl

  one-new : (p q : Bool) → one_new p q ≡ pick p (pick q 0 1) 0
  unfolding one_new
  one-new p q = refl

  one-new-most : (p q : Bool) → one_new p q ≤ 1
  unfolding one_new
  one-new-most true true = omega arith
  one-new-most true false = omega arith
  one-new-most false q = omega arith

  pub record Needing (cs : List ℕ) (x : Sides) (root : ℕ) (ps ks : List ℕ) (at : Cursor) (hands form : List ℕ) (i : ℕ) (y : Needs) : Type 0 where
    pub stands : Stands cs x at hands form
    pub fit : all_fit (stored_of x.h.edition) (to_come cs x ps ks at hands) ≡ true
    pub done : List Word
    pub are : all_forms cs x ps ks ≡ done ++ to_come cs x ps ks at hands
    pub passed : length done ≡ i
    pub nodes : (s : ℕ) → root ≡ (subgoal_under cs x.h s).root
        → y.nodes + nodes_needed_by find (view_in cs x.h) s (backwards done []) (to_come cs x ps ks at hands) ≡ nodes_needed_by find (view_in cs x.h) s [] (all_forms cs x ps ks)
    pub answers : (s : ℕ) → root ≡ (subgoal_under cs x.h s).root
        → y.answers + answers_needed_by find (view_in cs x.h) s (backwards done []) (to_come cs x ps ks at hands) ≡ answers_needed_by find (view_in cs x.h) s [] (all_forms cs x ps ks)
    pub nodes-most : y.nodes + 383 * length (to_come cs x ps ks at hands) ≤ 383 * length (all_forms cs x ps ks)
    pub answers-most : y.answers + length (to_come cs x ps ks at hands) ≤ length (all_forms cs x ps ks)

  module _ (cs : List ℕ) (x : Sides) (root : ℕ) (ps ks : List ℕ) where
    pub needing-begun : JoinReady cs x ps ks → Fitting cs x ps ks → (v : Walk) → Begun x v → Needing cs x root ps ks v.at v.first v.form 0 no_needs
    unfolding backwards
    needing-begun r f v b =
        let e = all_come cs x ps ks v b in
        record {
          stands = begins cs x ps ks r v b;
          fit = subst (λ (ws : List Word). all_fit (stored_of x.h.edition) ws ≡ true) e f;
          done = [];
          are = e;
          passed = refl;
          nodes = λ s p. omega (arith, ap (nodes_needed_by find (view_in cs x.h) s []) e);
          answers = λ s p. omega (arith, ap (answers_needed_by find (view_in cs x.h) s []) e);
          nodes-most = omega (arith, ap length e);
          answers-most = omega (arith, ap length e);
        }

    module _ (at : Cursor) (hands form : List ℕ) (i : ℕ) (y : Needs) (c : Needing cs x root ps ks at hands form i y) where
      pub needed-end : (free : ℕ) → to_come cs x ps ks at hands ≡ [] → NeedsUpTo free find cs x root ps ks y
      unfolding nodes_needed_by answers_needed_by
      needed-end free e s p =
          let n = ap (nodes_needed_by find (view_in cs x.h) s (backwards c.done [])) e in
          let a = ap (answers_needed_by find (view_in cs x.h) s (backwards c.done [])) e in
          (omega (arith, c.nodes s p), λ l. (omega (arith, c.nodes s p, n), omega (arith, c.answers s p, a)))

      -- more nodes than are free, whatever is still to come
      pub needed-over : (free : ℕ) → free < y.nodes → NeedsUpTo free find cs x root ps ks y
      needed-over free o s p = (omega (arith, c.nodes s p), λ l. absurd (omega arith))

      module _ (hands' form' : List ℕ) (next : Cursor) (n : ℕ) (a : Advances cs x ps ks at hands hands' form' (found.At (next, n))) where
        fewer : length (to_come cs x ps ks at hands) ≡ suc (length (to_come cs x ps ks next hands'))
        fewer = ap length a.1.1

        pub passed-within : i ≤ length (all_forms cs x ps ks)
        passed-within = omega (arith, ap length c.are ∙ length-append c.done (to_come cs x ps ks at hands), c.passed)

        token-count : length (take n form') ≡ n
        token-count = length-take-le n form' a.1.0

        module _ (m : Met) (q : Searched find cs x.h root (take n form') m) (b : Earlier) (o : EarlierOf (all_forms cs x ps ks) i (take n form') b) where
          done-are : take i (all_forms cs x ps ks) ≡ c.done
          done-are = ap (take i) c.are ∙ take_at c.done (to_come cs x ps ks at hands) i c.passed

          shared-is : b.shared ≡ most (backwards c.done []) (take n form')
          shared-is = o.0 ∙ ap (λ (ds : List Word). most (backwards ds []) (take n form')) done-are

          held-is : b.held ≡ has (backwards c.done []) (take n form')
          held-is = o.1 ∙ ap (λ (ds : List Word). has (backwards ds []) (take n form')) done-are

          pub needs-small : length (all_forms cs x ps ks) ≤ 2 ^ 40 → (y.nodes + n < 2 ^ 64) × (y.answers + 1 < 2 ^ 64)
          needs-small few = (omega (arith, c.nodes-most, fewer, a.1.0, a.0.inner.form-room), omega (arith, c.answers-most, fewer))

          pub needing-on : Needing cs x root ps ks next hands' form' (i + 1) (needs_more y m b n)
          needing-on =
              record {
                stands = a.0;
                fit = sym (fit-cons (stored_of x.h.edition) (take n form') (to_come cs x ps ks next hands') a.1.2) ∙ ap (all_fit (stored_of x.h.edition)) (sym a.1.1) ∙ c.fit;
                done = c.done ++ (take n form' ∷ []);
                are = c.are ∙ ap (λ (ws : List Word). c.done ++ ws) a.1.1 ∙ sym (append-one c.done (take n form') (to_come cs x ps ks next hands'));
                passed = length-append c.done (take n form' ∷ []) ∙ ap (λ (k : ℕ). k + 1) c.passed;
                nodes = λ s p.
                    let v : View = view_in cs x.h in
                    let rest : List Word = to_come cs x ps ks next hands' in
                    let one : nodes_needed_by find v s (backwards (c.done ++ (take n form' ∷ [])) []) rest ≡ nodes_needed_by find v s (take n form' ∷ backwards c.done []) rest =
                    ap (λ (ds : List Word). nodes_needed_by find v s ds rest) (backwards-one c.done (take n form') []) in
                    let here : nodes_needed_by find v s (backwards c.done []) (to_come cs x ps ks at hands) ≡ min m.missing (n - b.shared) + nodes_needed_by find v s (take n form' ∷ backwards c.done []) rest =
                    ap (nodes_needed_by find v s (backwards c.done [])) a.1.1 ∙ nodes-cons v s (backwards c.done []) (take n form') rest
                    ∙ ap (λ (k : ℕ). min k (length (take n form') - most (backwards c.done []) (take n form')) + nodes_needed_by find v s (take n form' ∷ backwards c.done []) rest) (sym (met-walk find cs x root (take n form') m q s p).2)
                    ∙ ap (λ (k : ℕ). min m.missing (length (take n form') - k) + nodes_needed_by find v s (take n form' ∷ backwards c.done []) rest) (sym shared-is)
                    ∙ ap (λ (k : ℕ). min m.missing (k - b.shared) + nodes_needed_by find v s (take n form' ∷ backwards c.done []) rest) token-count in
                    omega (arith, c.nodes s p);
                answers = λ s p.
                    let v : View = view_in cs x.h in
                    let rest : List Word = to_come cs x ps ks next hands' in
                    let one : answers_needed_by find v s (backwards (c.done ++ (take n form' ∷ [])) []) rest ≡ answers_needed_by find v s (take n form' ∷ backwards c.done []) rest =
                    ap (λ (ds : List Word). answers_needed_by find v s ds rest) (backwards-one c.done (take n form') []) in
                    let here : answers_needed_by find v s (backwards c.done []) (to_come cs x ps ks at hands) ≡ one_new m.lacking b.held + answers_needed_by find v s (take n form' ∷ backwards c.done []) rest =
                    ap (answers_needed_by find v s (backwards c.done [])) a.1.1 ∙ answers-cons v s (backwards c.done []) (take n form') rest
                    ∙ ap (λ (k : Bool). pick k (pick (has (backwards c.done []) (take n form')) 0 1) 0 + answers_needed_by find v s (take n form' ∷ backwards c.done []) rest) (sym (met-walk find cs x root (take n form') m q s p).1)
                    ∙ ap (λ (k : Bool). pick m.lacking (pick k 0 1) 0 + answers_needed_by find v s (take n form' ∷ backwards c.done []) rest) (sym held-is)
                    ∙ ap (λ (k : ℕ). k + answers_needed_by find v s (take n form' ∷ backwards c.done []) rest) (sym (one-new m.lacking b.held)) in
                    omega (arith, c.answers s p);
                nodes-most = omega (arith, c.nodes-most, fewer, a.1.0, a.0.inner.form-room);
                answers-most = one-most m.lacking b.held;
              }
            where
              one-most : (p q : Bool) → y.answers + one_new p q + length (to_come cs x ps ks next hands') ≤ length (all_forms cs x ps ks)
              one-most p q = omega (arith, c.answers-most, fewer, one-new-most p q)
