-- Why: the same reason as in the plain table. First children lead from the node where the search stopped to the leaf of the
-- lowest-numbered subgoal below it.
use mathlib.Core.Path.{◌≡◌, refl, sym, ap, ◌∙◌}
use mathlib.Core.Bool.{true, false, ◌&&◌, true≢false}
use mathlib.Core.List.{List, [], ◌∷◌, ◌++◌, append-nil, append_assoc}
use Prim.Native.Nat.{ℕ, zero, suc, ◌+◌, ◌-◌, ◌≤◌, ◌<◌}
use native.Mathlib.Omega.{arith}
use lib.Dec.{eqb}
use lib.ListN.{length, take, drop, length-append, length-drop}
use borrow.Author.Tests.{eqb-true, eqb-false, eq-eqb, ne_eqb, lt-ltb, le-leb}
use Rattle.basis.proofs.Cases.{by_cases}
use Rattle.forms.specs.Numbering.{met}
use Rattle.plain.specs.Words.{Word, has, prefixes, common, most}
use Rattle.plain.specs.Coding.{Coding, Reading, refused, accepted}
use Rattle.plain.specs.CodingLaws.{CodingLaws}
use Rattle.plain.specs.Requests.{why, old_as, new_past, Reply, because, refused}
use Rattle.plain.specs.Table as table
use Rattle.plain.specs.Table.{Table, subgoal_at, called_forms, subgoal_of, sharing, newness, becomes, step}
use Rattle.plain.proofs.PrefixLaws.{starts, begins, longer, longer-length, shared, starts-self, starts-append}
use Rattle.plain.proofs.LongestShared.{shared-most, begins-most, most-le}
use Rattle.plain.proofs.Entries.{shared-under, trie-lacks}
use Rattle.plain.proofs.Keys.{key, has-place, place-has}
use Rattle.plain.proofs.RecordLaws.{called-held}
use Rattle.plain.proofs.NumberLaws.{subgoal_of-none, subgoal_of-some}
use Rattle.plain.proofs.Soundness.{called-fit}
use Rattle.plain.proofs.StoredForms.{starts-rest, legal-starts, called-form-legal}
use Rattle.plain.proofs.ReasonLaws.{lowest, Lowest, lowest-some, lowest-least, sharing-lowest, has-starts}
use Rattle.trie.specs.Siblings as siblings
use Rattle.trie.specs.Walks.{Walk, whole, stopped}
use Rattle.store.specs.Views.{View, subgoal_trie}
use Rattle.store.specs.Decisions as decisions
use Rattle.store.specs.Decisions.{Decision, says, leads, firsts_from, named_by, new_at, reasoned_at, decide, decide_by}
use Rattle.agreement.proofs.TrieWalks.{Walked, ends, stops, node-judged, first_key, first-least}
use Rattle.agreement.proofs.Numberings.{shared-members}
use Rattle.agreement.proofs.FirstChildren.{First}
use Rattle.agreement.proofs.SameRecords.{Same, subgoal-keys, different, link-called, called-links, walked_call, subgoal-judged}
use Rattle.agreement.proofs.Agreeing.{Agrees, agrees-says}
use Rattle.agreement.proofs.Calling as calling

-- a word that begins with p, or p begins it whole
pub starts-longer : (p : Word) (x : ℕ) (r w : Word) → w ≡ p ++ (x ∷ r) → starts (p ++ (x ∷ [])) w ≡ true
starts-longer p x r w e = by_cases (starts (p ++ (x ∷ [])) w)
    (λ z. z)
    (λ z. absurd (true≢false (sym (starts-self ((p ++ (x ∷ [])) ++ r)) ∙ ap (starts ((p ++ (x ∷ [])) ++ r)) (append_assoc p (x ∷ []) r ∙ sym e) ∙ starts-append (p ++ (x ∷ [])) r w z)))

take-front : (p r : Word) → take (length p) (p ++ r) ≡ p
take-front [] r = refl
take-front (x ∷ p) r = ap (λ (y : Word). x ∷ y) (take-front p r)

-- the empty word shares nothing
most-nil : (ws : List Word) (w : Word) → most ([] ∷ ws) w ≡ most ws w
unfolding most common
most-nil ws w = omega arith

pub starts-shorter : (p u w : Word) → starts (p ++ u) w ≡ true → starts p w ≡ true
starts-shorter p u w e = by_cases (starts p w) (λ z. z) (λ z. absurd (true≢false (sym e ∙ starts-append p u w z)))

module _ (c : Coding) (laws : CodingLaws c) (t : Table) (v : View) (S : Same c t v) where
  abbrev K : List Word
  K = S.K

  abbrev n : ℕ
  n = v.nodes

  abbrev forms : List Word
  forms = called_forms t.subgoals

  inside : (i : ℕ) → i < length K → i < n
  inside i h = omega (arith, S.tries.keys)

  begun : (i a : ℕ) (u : Word) → i < n → key K i ≡ 0 ∷ a ∷ u → begins forms (a ∷ u) ≡ true
  begun i a u h e = sym (subgoal-keys c t v S a u) ∙ place-has K (0 ∷ a ∷ u) i (omega (arith, S.tries.keys)) e

  -- a form that goes on from a key by a token goes on through a node
  through : (a : ℕ) (u : Word) (x : ℕ) (r w : Word) → has forms w ≡ true → w ≡ (a ∷ u) ++ (x ∷ r) → (j : ℕ) × (j < n) × (key K j ≡ 0 ∷ ((a ∷ u) ++ (x ∷ [])))
  through a u x r w h e =
      let b : begins forms ((a ∷ u) ++ (x ∷ [])) ≡ true = has-starts forms ((a ∷ u) ++ (x ∷ [])) w h (starts-longer (a ∷ u) x r w e) in
      let p = has-place K (0 ∷ ((a ∷ u) ++ (x ∷ []))) (subgoal-keys c t v S a (u ++ (x ∷ [])) ∙ b) in
      (p.0, inside p.0 p.1, p.2)

  -- ---- the first child of a node of the subgoal trie

  module _ (i a : ℕ) (u : Word) (h : i < n) (e : key K i ≡ 0 ∷ a ∷ u) where
    abbrev s : ℕ
    s = lowest t (a ∷ u)

    low : Lowest t (a ∷ u) s
    low = lowest-some t (a ∷ u) (begun i a u h e)

    form : Word
    form = (subgoal_at t s).form

    held : has forms (subgoal_at t s).form ≡ true
    held = called-held t s low.low low.high

    -- without a child the key is a form
    leaf-form : (v.node i).child ≡ 0 → a ∷ u ≡ (subgoal_at t s).form
    leaf-form z = let r = starts-rest (a ∷ u) (subgoal_at t s).form low.begins-so in go r.0 r.1
      where
        go : (r : Word) → (subgoal_at t s).form ≡ (a ∷ u) ++ r → a ∷ u ≡ (subgoal_at t s).form
        go [] q = sym (q ∙ append-nil (a ∷ u))
        go (x ∷ r) q =
            let p = through a u x r (subgoal_at t s).form held q in
            absurd ((first-least K v.node n S.tries (different c laws t v S) i x p.0 h p.1 (p.2 ∙ ap (λ (y : Word). y ++ (x ∷ [])) (sym e))).0 z)

    module _ (ne : (v.node i).child ≡ 0 → ⊥) where
      abbrev child : ℕ
      child = (v.node i).child

      abbrev x : ℕ
      x = (v.node child).token

      child-key : key K child ≡ 0 ∷ a ∷ (u ++ (x ∷ []))
      child-key = (first_key K v.node n S.tries (different c laws t v S) i h ne).1 ∙ ap (λ (y : Word). y ++ (x ∷ [])) e

      child-in : child < n
      child-in = (first_key K v.node n S.tries (different c laws t v S) i h ne).0.below

      child-first : First K (a ∷ u) x child
      child-first = record {
        inside = omega (arith, S.tries.keys, child-in);
        goes_on = child-key;
        lowest-of = λ j y hj k. (first-least K v.node n S.tries (different c laws t v S) i y j h (inside j hj) (k ∙ ap (λ (z : Word). z ++ (y ∷ [])) (sym e))).1;
      }

      below : Lowest t (a ∷ (u ++ (x ∷ []))) (lowest t (a ∷ (u ++ (x ∷ []))))
      below = lowest-some t (a ∷ (u ++ (x ∷ []))) (begun child a (u ++ (x ∷ [])) child-in child-key)

      -- a form is not the key of a node with children
      not-form : a ∷ u ≡ (subgoal_at t s).form → ⊥
      not-form q =
          let s' : ℕ = lowest t (a ∷ (u ++ (x ∷ []))) in
          let f : starts (a ∷ u) (subgoal_at t s').form ≡ true = starts-shorter (a ∷ u) (x ∷ []) (subgoal_at t s').form below.begins-so in
          let one : (subgoal_at t s).form ≡ (subgoal_at t s').form =
          legal-starts c laws 1 (subgoal_at t s).form (subgoal_at t s').form (called-form-legal c laws t S.sound s low.low low.high) (called-form-legal c laws t S.sound s' below.low below.high) (rw (← q) f) in
          let r = starts-rest (a ∷ (u ++ (x ∷ []))) (subgoal_at t s').form below.begins-so in
          let k : length (subgoal_at t s').form ≡ length ((a ∷ (u ++ (x ∷ []))) ++ r.0) = ap length r.1 in
          let k₁ : length (subgoal_at t s').form ≡ length (a ∷ u) = ap length (sym one ∙ sym q) in
          omega (arith, length-append (a ∷ (u ++ (x ∷ []))) r.0, length-append u (x ∷ []))

      low-high : lowest t (a ∷ (u ++ (x ∷ []))) ≤ s
      low-high = let r = starts-rest (a ∷ u) (subgoal_at t s).form low.begins-so in go r.0 r.1
        where
          go : (r : Word) → (subgoal_at t s).form ≡ (a ∷ u) ++ r → lowest t (a ∷ (u ++ (x ∷ []))) ≤ s
          go [] q = absurd (not-form (sym (q ∙ append-nil (a ∷ u))))
          go (y ∷ r) q =
              let p = through a u y r (subgoal_at t s).form held q in
              let f = S.firsts (a ∷ u) x y child p.0 (omega arith) child-first (omega (arith, S.tries.keys, p.1)) p.2 in
              let l = lowest-least t s ((a ∷ u) ++ (y ∷ [])) low.low low.high (starts-longer (a ∷ u) y r (subgoal_at t s).form q) in
              omega arith

      pub child-lowest : lowest t (a ∷ (u ++ (x ∷ []))) ≡ lowest t (a ∷ u)
      child-lowest =
          let l = lowest-least t (lowest t (a ∷ (u ++ (x ∷ [])))) (a ∷ u) below.low below.high (starts-shorter (a ∷ u) (x ∷ []) _ below.begins-so) in
          let k = low-high in
          omega arith

      pub child-judged : (siblings.sound (subgoal_trie v) (v.node i).child && eqb (v.node (v.node i).child).parent i) ≡ true
      child-judged =
          let f = (first_key K v.node n S.tries (different c laws t v S) i h ne).0 in
          rw (node-judged K v.node n S.tries (different c laws t v S) v.subgoals 0 (called-links c laws t v S) child child-in (a ∷ (u ++ (x ∷ [])), child-key), eq-eqb _ _ f.under)

  -- ---- down to the leaf

  -- where first children lead from node i: to the leaf of the lowest-numbered subgoal below it
  pub record LeadsTo (k i : ℕ) (y : Word) : Type 0 where
    pub leaf : ℕ
    pub way : firsts_from v k i ≡ leads leaf
    pub leaf-in : leaf < v.nodes
    pub leaf-key : key S.K leaf ≡ 0 ∷ (subgoal_at t (lowest t y)).form

  from_end : (k i : ℕ) → (v.node i).child ≡ 0 → firsts_from v (suc k) i ≡ leads i
  unfolding firsts_from
  from_end k i z = rw (eq-eqb _ _ z)

  from_on : (k i : ℕ) → ((v.node i).child ≡ 0 → ⊥) → (siblings.sound (subgoal_trie v) (v.node i).child && eqb (v.node (v.node i).child).parent i) ≡ true
      → firsts_from v (suc k) i ≡ firsts_from v k (v.node i).child
  unfolding firsts_from
  from_on k i z e = rw (ne_eqb _ _ z, e)

  pub descends : (k i a : ℕ) (u : Word) → i < v.nodes → key S.K i ≡ 0 ∷ a ∷ u → v.nodes ≤ i + k → LeadsTo k i (a ∷ u)
  descends zero i a u h e fuel = absurd (omega arith)
  descends (suc k) i a u h e fuel = by_cases (eqb (v.node i).child 0)
      (λ z. let q : (v.node i).child ≡ 0 = eqb-true _ _ z in
      record { leaf = i; way = from_end k i q; leaf-in = h; leaf-key = e ∙ ap (λ (y : Word). 0 ∷ y) (leaf-form i a u h e q) })
      (λ z. let ne : (v.node i).child ≡ 0 → ⊥ = eqb-false _ _ z in
      let f = (first_key K v.node n S.tries (different c laws t v S) i h ne).0 in
      let d = descends k (v.node i).child a (u ++ ((v.node (v.node i).child).token ∷ [])) (child-in i a u h e ne) (child-key i a u h e ne) (omega (arith, f.above)) in
      record {
        leaf = d.leaf;
        way = from_on k i ne (child-judged i a u h e ne) ∙ d.way;
        leaf-in = d.leaf-in;
        leaf-key = d.leaf-key ∙ ap (λ (s : ℕ). 0 ∷ (subgoal_at t s).form) (child-lowest i a u h e ne);
      })

  -- ---- a leaf names its subgoal

  pub leaf-link : (s leaf : ℕ) → 0 < s → s ≤ length t.subgoals → leaf < v.nodes → key S.K leaf ≡ 0 ∷ (subgoal_at t s).form → ((v.node leaf).link ≡ s) × ((v.subgoal s).leaf ≡ leaf)
  leaf-link s leaf low high h e =
      let p = subgoal_of-some t (subgoal_at t s).form (called-held t s low high) in
      let own : subgoal_of t (subgoal_at t s).form ≡ s = S.sound.kept.subgoals-differ (subgoal_of t (subgoal_at t s).form) s p.low p.high low high p.form in
      let g = S.subgoal s low high in (
        link-called c laws t v S leaf (subgoal_at t s).form h e ∙ own,
        different c laws t v S (v.subgoal s).leaf leaf (omega (arith, g.leaf-in, S.tries.keys)) (omega (arith, S.tries.keys)) (g.leaf-key ∙ sym e),
      )

  named-so : (s leaf : ℕ) (say : ℕ → Reply) → 0 < s → s ≤ length t.subgoals → leaf < v.nodes → key S.K leaf ≡ 0 ∷ (subgoal_at t s).form → named_by v leaf say ≡ says (say s)
  unfolding named_by
  named-so s leaf say low high h e =
      let l = leaf-link s leaf low high h e in
      rw (l.0, lt-ltb 0 s low, subgoal-judged c laws t v S s low high, l.1, eq-eqb leaf leaf refl)

  -- ---- the reason

  abbrev Alike : Reply → Decision → Type 0
  Alike r d = Agrees c v [] (becomes t r) d

  reason-old : (cs : List ℕ) (w : Word) (m j : ℕ) → j < v.nodes → key S.K j ≡ 0 ∷ w → has (called_forms t.subgoals) w ≡ true
      → Alike (table.reasoned t cs (accepted w m)) (reasoned_at v (met [] cs) w (whole j))
  unfolding table.reasoned reasoned_at
  reason-old cs w m j h k e =
      let p = subgoal_of-some t w e in
      rw (ne_eqb (subgoal_of t w) 0 (λ z. omega (arith, p.low)), named-so (subgoal_of t w) j (λ s. because (old_as s (met [] cs))) p.low p.high h (k ∙ ap (λ (y : Word). 0 ∷ y) (sym p.form)))
      (agrees-says c t v S [] _)

  -- where the walk stopped: the tokens found are the most that a form shares, and the key is of them
  module _ (w : Word) (q a : ℕ) (u : Word) (h : q < v.nodes) (path : key S.K q ++ (a ∷ u) ≡ 0 ∷ w) (less : shared S.K (0 ∷ []) w < length w)
      (rest : longer (key S.K q) (a ∷ u) ≡ drop (shared S.K (0 ∷ []) w) (longer (0 ∷ []) w)) where
    abbrev k : ℕ
    k = most (called_forms t.subgoals) w

    found-most : shared S.K (0 ∷ []) w ≡ k
    found-most =
        shared-members S.K (prefixes S.es) S.numbering.members (0 ∷ []) w ∙ shared-under 0 S.es [] w
        ∙ ap (λ (ws : List Word). shared (prefixes ws) [] w) S.forest.calls ∙ shared-most ([] ∷ called_forms t.subgoals) w ∙ most-nil (called_forms t.subgoals) w

    left-length : length (a ∷ u) ≡ length w - k
    left-length =
        sym (longer-length (key S.K q) (a ∷ u)) ∙ ap length rest ∙ length-drop (shared S.K (0 ∷ []) w) (longer (0 ∷ []) w)
        ∙ ap (λ (i : ℕ). i - shared S.K (0 ∷ []) w) (longer-length (0 ∷ []) w) ∙ ap (λ (i : ℕ). length w - i) found-most

    short : k < length w
    short = omega (arith, found-most)

    counted : length w - length (a ∷ u) ≡ k
    counted = let l = left-length in let s = short in omega arith

    key-length : length (key S.K q) ≡ suc k
    key-length =
        let l : length (key S.K q ++ (a ∷ u)) ≡ suc (length w) = ap length path in
        let m = left-length in
        let s = short in
        omega (arith, length-append (key S.K q) (a ∷ u))

    stop-key : key S.K q ≡ 0 ∷ take k w
    stop-key = sym (take-front (key S.K q) (a ∷ u)) ∙ ap (take (length (key S.K q))) path ∙ ap (λ (i : ℕ). take i (0 ∷ w)) key-length

    down : (y : Word) → take k w ≡ y → 0 < length y → LeadsTo v.nodes q y
    down [] e p = absurd (omega arith)
    down (b ∷ y) e p = descends v.nodes q b y h (stop-key ∙ ap (λ (z : Word). 0 ∷ z) e) (omega arith)

    take-some : 0 < k → 0 < length (take k w)
    take-some p = let l : length (0 ∷ take k w) ≡ suc k = ap length (sym stop-key) ∙ key-length in omega arith

    new-some : 0 < k → new_at v k (firsts_from v v.nodes q) ≡ says (because (new_past k (sharing t w k)))
    unfolding new_at
    new-some p =
        let d = down (take k w) refl (take-some p) in
        let b : begins (called_forms t.subgoals) (take k w) ≡ true = begins-most (called_forms t.subgoals) w k p (most-le (called_forms t.subgoals) w) ∙ le-leb k k (omega arith) in
        let l = lowest-some t (take k w) b in
        rw (d.way, sharing-lowest t w k (most-le (called_forms t.subgoals) w))
        (named-so (lowest t (take k w)) d.leaf (λ s. because (new_past k s)) l.low l.high d.leaf-in d.leaf-key)

    reason-new : (cs : List ℕ) (m l : ℕ) → Alike (table.reasoned t cs (accepted w m)) (reasoned_at v (met [] cs) w (stopped q l (a ∷ u)))
    unfolding table.reasoned newness reasoned_at
    reason-new cs m l =
        let absent : has (called_forms t.subgoals) w ≡ false = trie-lacks S.es (called_forms t.subgoals) 0 S.forest.calls w (rw (← (shared-members S.K (prefixes S.es) S.numbering.members (0 ∷ []) w)) less) in
        rw (subgoal_of-none t w absent, counted) (by_cases (eqb k 0)
        (λ z. let e : k ≡ 0 = eqb-true _ _ z in rw (z, e) (agrees-says c t v S [] _))
        (λ z. rw (z, new-some (some (eqb-false _ _ z))) (agrees-says c t v S [] _)))
      where
        some : (k ≡ 0 → ⊥) → 0 < k
        some ne = omega arith

  reason-walked : (cs : List ℕ) (w : Word) (m : ℕ) → c.called cs ≡ accepted w m → {x : Walk} → Walked S.K v.node v.nodes 0 w x
      → Alike (table.reasoned t cs (accepted w m)) (reasoned_at v (met [] cs) w x)
  reason-walked cs w m e (ends j h k) = reason-old cs w m j h (k ∙ rw S.origin) (calling.called-held c laws t v S w m (called-fit c laws cs w m e) j h (k ∙ rw S.origin))
  reason-walked cs w m e (stops q l a u h st path less rest) =
      reason-new w q a u h (path ∙ rw S.origin) (rw S.origin at less) (rest ∙ ap (λ (y : Word). drop (shared S.K y w) (longer y w)) S.origin) cs m l

  reason-read : (cs : List ℕ) (x : Reading) → c.called cs ≡ x → Alike (table.reasoned t cs x) (decisions.reasoned v cs x)
  reason-read cs (refused r) e = unfold table.reasoned decisions.reasoned_by in agrees-says c t v S [] (refused r)
  reason-read cs (accepted w m) e = unfold decisions.reasoned_by in reason-walked cs w m e (walked_call c laws t v S w)

  pub why-agrees : (cs : List ℕ) → Agrees c v [] (step c t (why cs)) (decide c v (why cs))
  unfolding step decide_by
  why-agrees cs = reason-read cs (c.called cs) refl
