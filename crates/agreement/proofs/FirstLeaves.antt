-- The test of first children in the check of a whole space: it says that they lead to the lowest-numbered subgoal, and back.
use mathlib.Core.Path.{◌≡◌, refl, sym, ap, ◌∙◌, subst}
use mathlib.Core.Bool.{Bool, true, false, ◌&&◌, true≢false}
use mathlib.Core.List.{List, [], ◌∷◌, ◌++◌, append-nil, append_assoc, head-eq_of_cons-eq, tail-eq_of_cons-eq}
use Prim.Native.Nat.{ℕ, zero, suc, ◌+◌, ◌-◌, ◌≤◌, ◌<◌}
use native.Mathlib.Omega.{arith}
use lib.Dec.{eqb, leb}
use lib.ListN.{length, take, length-append}
use lib.Seq.{take-length, take-append_seam, take-append-le}
use borrow.Author.Tests.{eqb-true, eqb-false, eq-eqb, ne_eqb, le-leb, leb-true}
use Rattle.basis.proofs.Cases.{by_cases}
use Rattle.plain.specs.Words.{Word, has}
use Rattle.plain.specs.Coding.{Coding}
use Rattle.plain.specs.CodingLaws.{CodingLaws}
use Rattle.plain.specs.Table.{Table, subgoal_at, called_forms, subgoal_of}
use Rattle.plain.proofs.PrefixLaws.{starts, begins, starts-self}
use Rattle.plain.proofs.Keys.{key, Different, snoc-nil, snoc-left}
use Rattle.plain.proofs.NumberLaws.{subgoal_of-none, subgoal_of-some}
use Rattle.plain.proofs.StoredForms.{starts-rest}
use Rattle.plain.proofs.ReasonLaws.{lowest, lowest-some, lowest-least, begins-at}
use Rattle.space.specs.declared.Node.{Node}
use Rattle.trie.specs.Siblings as siblings
use Rattle.store.specs.Views.{View, subgoal_trie}
use Rattle.store.specs.Decisions.{leads, astray, firsts_from}
use Rattle.agreement.specs.Whole.{first_leaf, led_up}
use Rattle.agreement.proofs.TrieNodes.{par, Kind, is_root, is_child, Tries}
use Rattle.agreement.proofs.TrieWalks.{key-some, first_key, first-least}
use Rattle.agreement.proofs.FirstChildren.{Firsts}
use Rattle.agreement.proofs.SameRecords.{Same, different}
use Rattle.agreement.proofs.Reasoning.{starts-shorter, descends, leaf-link}
use Rattle.trie.specs.Paths.{longest}

and_both : (a b : Bool) → (a && b) ≡ true → (a ≡ true) × (b ≡ true)
and_both true b e = (refl, e)
and_both false b e = absurd (true≢false (sym e))

-- ---- the clauses as equations

leaf-end : (nd : ℕ → Node) (k i : ℕ) → (nd i).child ≡ 0 → first_leaf nd (suc k) i ≡ i
unfolding first_leaf
leaf-end nd k i z = rw (eq-eqb _ _ z)

leaf-on : (nd : ℕ → Node) (k i : ℕ) → ((nd i).child ≡ 0 → ⊥) → first_leaf nd (suc k) i ≡ first_leaf nd k (nd i).child
unfolding first_leaf
leaf-on nd k i z = rw (ne_eqb _ _ z)

leaf-from : (nd : ℕ → Node) (n i j : ℕ) → 0 < n → (nd i).child ≡ j → (j ≡ 0 → ⊥) → first_leaf nd n i ≡ first_leaf nd (n - 1) j
leaf-from nd zero i j h e ne = absurd (omega arith)
leaf-from nd (suc n) i j h e ne = leaf-on nd n i (λ z. ne (sym e ∙ z)) ∙ ap (first_leaf nd n) e ∙ ap (λ (k : ℕ). first_leaf nd k j) (less n)
  where
    less : (n : ℕ) → n ≡ suc n - 1
    less n = omega arith

up_root : (c : Coding) (v : View) (k s i : ℕ) → par v.node (par v.node i) ≡ par v.node i → led_up c v (suc k) s i ≡ true
unfolding led_up
up_root c v k s i z = rw (eq-eqb _ _ z)

up-on : (c : Coding) (v : View) (k s i : ℕ) → (par v.node (par v.node i) ≡ par v.node i → ⊥)
    → led_up c v (suc k) s i ≡ (leb (v.node (first_leaf v.node v.nodes (par v.node i))).link s && led_up c v k s (par v.node i))
unfolding led_up
up-on c v k s i z = rw (ne_eqb _ _ z)

up_none : (c : Coding) (v : View) (s i : ℕ) → led_up c v zero s i ≡ true
unfolding led_up
up_none c v s i = refl

-- ---- from records that hold the same as a table

module _ (c : Coding) (laws : CodingLaws c) (t : Table) (v : View) (S : Same c t v) where
  abbrev K : List Word
  K = S.K

  abbrev n : ℕ
  n = v.nodes

  -- the way that is judged is the way
  way-leaf : (k i l : ℕ) → firsts_from v k i ≡ leads l → first_leaf v.node k i ≡ l
  unfolding firsts_from first_leaf
  way-leaf zero i l e = absurd (never e)
    where
      never : astray ≡ leads l → ⊥
      never e = let z : ◌≡◌ {A = ℕ} 0 1 = cc in omega arith
  way-leaf (suc k) i l e = by_cases (eqb (v.node i).child 0)
      (λ z. rw z (one (rw z at e)))
      (λ z. by_cases (siblings.sound (subgoal_trie v) (v.node i).child && eqb (par v.node (v.node i).child) i)
      (λ y. rw z (way-leaf k (v.node i).child l (rw (z, y) at e)))
      (λ y. absurd (none (rw (z, y) at e))))
    where
      one : {a b : ℕ} → leads a ≡ leads b → a ≡ b
      one e = cc

      none : astray ≡ leads l → ⊥
      none e = let z : ◌≡◌ {A = ℕ} 0 1 = cc in omega arith

  root-parent : (p x : ℕ) → p < n → key K p ≡ x ∷ [] → par v.node p ≡ p
  root-parent p x h e = go (S.tries.kind p h)
    where
      go : Kind K v.node p → par v.node p ≡ p
      go (is_root y q z k) = q
      go (is_child q k) = absurd (key-some K v.node n S.tries (different c laws t v S) (par v.node p) (omega arith) (snoc-nil (key K (par v.node p)) x (v.node p).token (sym e ∙ k)))

  child-parent : (p x b : ℕ) (z : Word) → p < n → key K p ≡ x ∷ b ∷ z → par v.node p ≡ p → ⊥
  child-parent p x b z h e o = go (S.tries.kind p h)
    where
      go : Kind K v.node p → ⊥
      go (is_root y q w k) = let l : length (x ∷ b ∷ z) ≡ length (y ∷ []) = ap length (sym e ∙ k) in omega arith
      go (is_child q k) = omega arith

  module _ (s : ℕ) (low : 0 < s) (high : s ≤ length t.subgoals) where
    abbrev form : Word
    form = (subgoal_at t s).form

    abbrev Led : ℕ → ℕ → Type 0
    Led k i = led_up c v k s i ≡ true

    -- first children lead from a node above the leaf to a subgoal that is no later
    led-to : (p b : ℕ) (z : Word) → p < n → key K p ≡ 0 ∷ b ∷ z → starts (b ∷ z) (subgoal_at t s).form ≡ true → leb (v.node (first_leaf v.node n p)).link s ≡ true
    led-to p b z h e f =
        let d = descends c laws t v S n p b z h e (omega arith) in
        let l = lowest-some t (b ∷ z) (begins-at t s (b ∷ z) low high f) in
        let k = leaf-link c laws t v S (lowest t (b ∷ z)) d.leaf l.low l.high d.leaf-in d.leaf-key in
        rw (way-leaf n p d.leaf d.way, k.0) (le-leb _ _ (lowest-least t s (b ∷ z) low high f))

    abbrev Climbs : ℕ → Type 0
    Climbs k = (i : ℕ) (u : Word) → i < n → key K i ≡ 0 ∷ u → starts u (subgoal_at t s).form ≡ true → led_up c v k s i ≡ true

    climbs-on : (k : ℕ) → Climbs k → Climbs (suc k)
    climbs-on k higher i u h e f = go (S.tries.kind i h)
      where
        above : par v.node i < i → (y : Word) → key K (par v.node i) ≡ y → 0 ∷ u ≡ y ++ ((v.node i).token ∷ []) → led_up c v (suc k) s i ≡ true
        above p [] q r = absurd (key-some K v.node n S.tries (different c laws t v S) (par v.node i) (omega arith) q)
        above p (x ∷ []) q r = up_root c v k s i (root-parent (par v.node i) x (omega arith) q)
        above p (x ∷ b ∷ z) q r =
            let x=0 : x ≡ 0 = sym (head-eq_of_cons-eq r) in
            let tail : u ≡ (b ∷ z) ++ ((v.node i).token ∷ []) = tail-eq_of_cons-eq r in
            let key-up : key K (par v.node i) ≡ 0 ∷ b ∷ z = q ∙ ap (λ (w : ℕ). w ∷ b ∷ z) x=0 in
            let begun : starts (b ∷ z) (subgoal_at t s).form ≡ true = starts-shorter (b ∷ z) ((v.node i).token ∷ []) (subgoal_at t s).form (rw (← tail) f) in
            up-on c v k s i (child-parent (par v.node i) x b z (omega arith) q)
            ∙ rw (led-to (par v.node i) b z (omega arith) key-up begun, higher (par v.node i) (b ∷ z) (omega arith) key-up begun)

        go : Kind K v.node i → led_up c v (suc k) s i ≡ true
        go (is_root x p q r) = up_root c v k s i (ap (par v.node) p)
        go (is_child p r) = above p (key K (par v.node i)) refl (sym e ∙ r)

    climbs : (k : ℕ) → Climbs k
    climbs zero = λ i u h e f. up_none c v s i
    climbs (suc k) = climbs-on k (climbs k)

    pub led-up : led_up c v longest s (v.subgoal s).leaf ≡ true
    led-up = let o = S.subgoal s low high in climbs longest (v.subgoal s).leaf (subgoal_at t s).form o.leaf-in o.leaf-key (starts-self (subgoal_at t s).form)

-- ---- to it

-- first children lead from i to a node without any, whose key goes on from i's
record Below (K : List Word) (nd : ℕ → Node) (n k i : ℕ) : Type 0 where
  inside : first_leaf nd k i < n
  none : (nd (first_leaf nd k i)).child ≡ 0
  rest : Word
  goes_on : key K (first_leaf nd k i) ≡ key K i ++ rest

leaf-below : (K : List Word) (nd : ℕ → Node) (n : ℕ) (r : Tries K nd n) (d : Different K) (k i : ℕ) → i < n → n ≤ i + k → Below K nd n k i
leaf-below K nd n r d zero i h fuel = absurd (omega arith)
leaf-below K nd n r d (suc k) i h fuel = by_cases (eqb (nd i).child 0)
    (λ z. let q : (nd i).child ≡ 0 = eqb-true _ _ z in (record { inside = rw (leaf-end nd k i q) h; none = rw (leaf-end nd k i q) q; rest = []; goes_on = rw (leaf-end nd k i q) (sym (append-nil (key K i))) }))
    (λ z. let ne : (nd i).child ≡ 0 → ⊥ = eqb-false _ _ z in
    let f = first_key K nd n r d i h ne in
    let b = leaf-below K nd n r d k (nd i).child f.0.below (omega (arith, f.0.above)) in
    record {
      inside = rw (leaf-on nd k i ne) b.inside;
      none = rw (leaf-on nd k i ne) b.none;
      rest = ((nd (nd i).child).token ∷ []) ++ b.rest;
      goes_on = rw (leaf-on nd k i ne) (b.goes_on ∙ ap (λ (y : Word). y ++ b.rest) f.1 ∙ append_assoc (key K i) ((nd (nd i).child).token ∷ []) b.rest);
    })

module _ (c : Coding) (t : Table) (v : View) (K : List Word) (r : Tries K v.node v.nodes) (d : Different K)
    (members : (a : ℕ) (u : Word) → has K (0 ∷ a ∷ u) ≡ begins (called_forms t.subgoals) (a ∷ u))
    (linked : (i : ℕ) (w : Word) → i < v.nodes → key K i ≡ 0 ∷ w → (v.node i).link ≡ subgoal_of t w)
    (lives : (i : ℕ) → i < v.nodes → (par v.node i ≡ i → ⊥) → (v.node i).link ≡ 0 → (v.node i).child ≡ 0 → ⊥)
    (leaf : (s : ℕ) → 0 < s → s ≤ length t.subgoals → ((v.subgoal s).leaf < v.nodes) × (key K (v.subgoal s).leaf ≡ 0 ∷ (subgoal_at t s).form)
    × (length (subgoal_at t s).form ≤ longest) × (led_up c v longest s (v.subgoal s).leaf ≡ true)) where
  abbrev N : ℕ
  N = v.nodes

  not_root : (p x b : ℕ) (z : Word) → p < N → key K p ≡ x ∷ b ∷ z → par v.node p ≡ p → ⊥
  not_root p x b z h e o = go (r.kind p h)
    where
      go : Kind K v.node p → ⊥
      go (is_root y q w k) = let l : length (x ∷ b ∷ z) ≡ length (y ∷ []) = ap length (sym e ∙ k) in omega arith
      go (is_child q k) = omega arith

  -- a test that was passed on the way up
  abbrev Passed : ℕ → ℕ → Type 0
  Passed s k = (i m : ℕ) (u : Word) (l : ℕ) → i < v.nodes → key K i ≡ 0 ∷ u → length u ≤ k → led_up c v k s i ≡ true → 0 < l → l < length u → m < v.nodes → key K m ≡ 0 ∷ take l u
      → (v.node (first_leaf v.node v.nodes m)).link ≤ s

  passed_on : (s k : ℕ) → Passed s k → Passed s (suc k)
  passed_on s k higher i m u l h e short led some less hm em = go (r.kind i h)
    where
      above : par v.node i < i → (y : Word) → key K (par v.node i) ≡ y → 0 ∷ u ≡ y ++ ((v.node i).token ∷ []) → (v.node (first_leaf v.node v.nodes m)).link ≤ s
      above p [] q o = absurd (key-some K v.node N r d (par v.node i) (omega arith) q)
      above p (x ∷ []) q o = let z : length (0 ∷ u) ≡ 2 = ap length o in absurd (omega arith)
      above p (x ∷ b ∷ z) q o =
          let x=0 : x ≡ 0 = sym (head-eq_of_cons-eq o) in
          let tail : u ≡ (b ∷ z) ++ ((v.node i).token ∷ []) = tail-eq_of_cons-eq o in
          let size : length u ≡ length (b ∷ z) + 1 = ap length tail ∙ length-append (b ∷ z) ((v.node i).token ∷ []) in
          let key-up : key K (par v.node i) ≡ 0 ∷ b ∷ z = q ∙ ap (λ (w : ℕ). w ∷ b ∷ z) x=0 in
          let cut : take l u ≡ take l (b ∷ z) = ap (take l) tail ∙ take-append-le l (b ∷ z) ((v.node i).token ∷ []) (omega arith) in
          let test = and_both _ _ (sym (up-on c v k s i (not_root (par v.node i) x b z (omega arith) q)) ∙ led) in
          by_cases (eqb l (length (b ∷ z)))
          (λ y. let l=z : l ≡ length (b ∷ z) = eqb-true _ _ y in
          let here : m ≡ par v.node i = d m (par v.node i) (omega (arith, r.keys)) (omega (arith, r.keys))
          (em ∙ ap (λ (w : Word). 0 ∷ w) (cut ∙ ap (λ (j : ℕ). take j (b ∷ z)) l=z ∙ take-length (b ∷ z)) ∙ sym key-up) in
          rw here (leb-true _ _ test.0))
          (λ y. higher (par v.node i) m (b ∷ z) l (omega arith) key-up (omega arith) test.1 some (strict (omega arith) (eqb-false _ _ y)) hm (em ∙ ap (λ (w : Word). 0 ∷ w) cut))
        where
          strict : {a b : ℕ} → a ≤ b → (a ≡ b → ⊥) → a < b
          strict h k = omega arith

      go : Kind K v.node i → (v.node (first_leaf v.node v.nodes m)).link ≤ s
      go (is_root x p q o) = let z : length (0 ∷ u) ≡ length (x ∷ []) = ap length (sym e ∙ o) in absurd (omega arith)
      go (is_child p o) = above p (key K (par v.node i)) refl (sym e ∙ o)

  passed : (s k : ℕ) → Passed s k
  passed s zero = λ i m u l h e short led some less hm em. absurd (omega arith)
  passed s (suc k) = passed_on s k (passed s k)

  -- below a node stands a subgoal with the number that first children lead to
  found_below : (fuel i a : ℕ) (u : Word) → N ≤ i + fuel → i < N → key K i ≡ 0 ∷ a ∷ u → (begins (called_forms t.subgoals) (a ∷ u) ≡ true) × (lowest t (a ∷ u) ≤ (v.node (first_leaf v.node fuel i)).link)
  found_below fuel i a u enough h e =
      let b = leaf-below K v.node N r d fuel i h enough in
      let l : ℕ = first_leaf v.node fuel i in
      let k : key K l ≡ 0 ∷ a ∷ (u ++ b.rest) = b.goes_on ∙ ap (λ (y : Word). y ++ b.rest) e in
      let w : Word = a ∷ (u ++ b.rest) in
      let link = linked l w b.inside k in
      by_cases (has (called_forms t.subgoals) w)
      (λ z. let p = subgoal_of-some t w z in
      let f : starts (a ∷ u) (subgoal_at t (subgoal_of t w)).form ≡ true = rw p.form (starts-shorter (a ∷ u) b.rest w (starts-self w)) in
      (begins-at t (subgoal_of t w) (a ∷ u) p.low p.high f, rw link (lowest-least t (subgoal_of t w) (a ∷ u) p.low p.high f)))
      (λ z. absurd (lives l b.inside (not_root l 0 a (u ++ b.rest) b.inside k) (link ∙ subgoal_of-none t w z) b.none))

  pub test-firsts : Firsts t K
  test-firsts [] x y j i some g h e = absurd (omega arith)
  test-firsts (a ∷ q) x y j i some g h e =
      let hj : j < N = omega (arith, g.inside, r.keys) in
      let hi : i < N = omega (arith, r.keys) in
      let s : ℕ = lowest t ((a ∷ q) ++ (y ∷ [])) in
      let low = lowest-some t ((a ∷ q) ++ (y ∷ [])) (found_below N i a (q ++ (y ∷ [])) (omega arith) hi e).0 in
      let rest = starts-rest ((a ∷ q) ++ (y ∷ [])) (subgoal_at t s).form low.begins-so in
      let form : (subgoal_at t s).form ≡ (a ∷ q) ++ ((y ∷ []) ++ rest.0) = rest.1 ∙ append_assoc (a ∷ q) (y ∷ []) rest.0 in
      let size : length (subgoal_at t s).form ≡ length (a ∷ q) + length ((y ∷ []) ++ rest.0) = ap length form ∙ length-append (a ∷ q) ((y ∷ []) ++ rest.0) in
      let front : take (length (a ∷ q)) (subgoal_at t s).form ≡ a ∷ q = ap (take (length (a ∷ q))) form ∙ take-append_seam (a ∷ q) ((y ∷ []) ++ rest.0) in
      let o = leaf s low.low low.high in
      up (r.kind j hj) hj (λ m hm em.
      let first : (v.node m).child ≡ j =
      let f = first-least K v.node N r d m x j hm hj (g.goes_on ∙ ap (λ (z : Word). z ++ (x ∷ [])) (sym em)) in
      let fk = first_key K v.node N r d m hm f.0 in
      let back = g.lowest-of (v.node m).child (v.node (v.node m).child).token (omega (arith, fk.0.below, r.keys)) (fk.1 ∙ ap (λ (z : Word). z ++ ((v.node (v.node m).child).token ∷ [])) em) in
      omega (arith, f.1) in
      let above : m < j = subst (λ (z : ℕ). m < z) first (first_key K v.node N r d m hm (first-least K v.node N r d m x j hm hj (g.goes_on ∙ ap (λ (z : Word). z ++ (x ∷ [])) (sym em))).0).0.above in
      let led = passed s longest (v.subgoal s).leaf m (subgoal_at t s).form (length (a ∷ q)) o.0 o.1 o.2 o.3 (omega arith) (omega arith) hm (em ∙ ap (λ (z : Word). 0 ∷ z) (sym front)) in
      let same : first_leaf v.node N m ≡ first_leaf v.node (N - 1) j = leaf-from v.node N m j (omega arith) first (λ z. omega (arith, above)) in
      let l = (found_below (N - 1) j a (q ++ (x ∷ [])) (omega (arith, above)) hj g.goes_on).1 in
      let led' : (v.node (first_leaf v.node (N - 1) j)).link ≤ s = rw (← same) led in
      omega arith)
    where
      up : Kind K v.node j → j < N → ((m : ℕ) → m < N → key K m ≡ 0 ∷ a ∷ q → lowest t ((a ∷ q) ++ (x ∷ [])) ≤ lowest t ((a ∷ q) ++ (y ∷ []))) → lowest t ((a ∷ q) ++ (x ∷ [])) ≤ lowest t ((a ∷ q) ++ (y ∷ []))
      up (is_root z p w k) hj f = let z : length (0 ∷ ((a ∷ q) ++ (x ∷ []))) ≡ length (z ∷ []) = ap length (sym g.goes_on ∙ k) in absurd (omega arith)
      up (is_child p k) hj f = f (par v.node j) (omega arith) (snoc-left (key K (par v.node j)) (0 ∷ a ∷ q) (v.node j).token x (sym k ∙ g.goes_on))
