-- A join that is accepted leaves out none of its forms: at each turn every form before it is held, and each that is to come is
-- held or its walk stopped, with no more tokens left than were counted.
use Rattle.std.specs.Prelude.{Ok}
use Prim.Native.Nat.{ℕ, zero, suc, ◌+◌, ◌<◌, ◌≤◌}
use mathlib.Core.Path.{◌≡◌, refl, sym, ap, ◌∙◌, subst}
use mathlib.Core.Bool.{Bool, true, false, ◌&&◌}
use mathlib.Core.List.{List, [], ◌∷◌, ◌++◌}
use native.Mathlib.Omega.{arith}
use lib.Dec.{eqb, leb, ltb}
use lib.ListN.{length}
use borrow.Author.Tests.{eqb-true, eqb-false, eq-eqb, ne_eqb, lt-ltb, le-leb, ltb-true, leb-true}
use Rattle.basis.specs.Choice.{pick}
use Rattle.basis.proofs.Cases.{by_cases}
use Rattle.forms.specs.Compact.{same}
use Rattle.forms.proofs.RoundTrip.{same_true}
use Rattle.plain.specs.Words.{Word, has, common, most}
use Rattle.plain.specs.Coding.{Coding, coding_of}
use Rattle.plain.specs.Joins.{Forms, declined, formed, Side, join_of}
use Rattle.plain.specs.Requests.{Request, lent, join, Reply, refused, joined, Open, Finished}
use Rattle.plain.proofs.Changes.{Readable, Read, all_read_lem, join-cases}
use Rattle.plain.proofs.StoredCoding.{coding-laws}
use Rattle.plain.specs.CodingLaws.{CodingLaws}
use Rattle.space.specs.Layout.{Sizes, sizes_of}
use Rattle.space.specs.Heading.{header_of, space_header, Header}
use Rattle.space.specs.Judging.{node_sound}
use Rattle.space.specs.declared.Node.{Node}
use Rattle.space.specs.declared.Answer.{Answer}
use Rattle.space.proofs.HeaderLaws.{header-bounds}
use Rattle.space.proofs.JudgingLaws.{node-bounds, node-sound, SubgoalBounds, subgoal-bounds}
use Rattle.space.specs.declared.Head.{Head}
use Rattle.space.specs.declared.Subgoal.{Subgoal}
use Rattle.trie.specs.Siblings.{Trie, search_children}
use Rattle.trie.specs.Walks.{Walk, whole, stopped, damaged, Finding, root_sound, walk_from_by}
use Rattle.trie.specs.Index.{search_indexed}
use Rattle.trie.specs.declared.Search.{Search}
use Rattle.trie.specs.declared.Search.TheVariants.{Found, Last, Damaged}
use Rattle.trie.proofs.IndexLaws.{indexes-find}
use Rattle.trie.proofs.WalkCases.{walk-found, walk-last, walk-damaged}
use Rattle.trie.proofs.WalkLaws.{both_true}
use Rattle.trie.proofs.StayLaws.{After}
use Rattle.store.specs.Views.{View, view_of, answer_trie}
use Rattle.store.specs.Decisions as decisions
use Rattle.store.specs.Decisions.{Decision, says, enters_answer, enters_empty, enters_answers, known, sound_subgoal, sound_answer, sound_last, sound_target, state_of, answered_new, answered_old, answered_at, walk_to_by, lacking, missing, met_sound, all_sound_by, nodes_needed_by, answers_needed_by, joining_by, Chain, broken, unbroken, chain_of, on_chains, side_in, decide_by}
use Rattle.store.specs.Changes.{answer_given, form_given_by, forms_given_by, change, change_by}
use Rattle.store.specs.Calls.{used_answers, reply, under_by, under_any_by, space_step_by, indexed_way}
use Rattle.store.proofs.CallsWalks.{walk-whole}
use Rattle.store.proofs.JoinCases.{given-written}
use Rattle.agreement.specs.Records.{Alike, with_link, changed_view, Fits}
use Rattle.agreement.specs.JoinKept.{AllKept, JoinedEnters, JoinKeepsAll}
use Rattle.agreement.proofs.Theorem.{header-any}
use Rattle.agreement.proofs.CellChanges.{sizes-wide, cells-change}
use Rattle.agreement.proofs.Frame.{from-left, decision-leaves, space-read}
use Rattle.agreement.proofs.HeldForms.{from, Rooted, to-root, HeldAt, held-says, Grew, grew, rooted_on, last_on, open-on, held_new, held_on, after_on, answer-made}

-- ---- lists

pub data Each (P : Word → Type 0) : List Word → Type 0 where
  none : Each P []
  one : {w : Word} {ws : List Word} → P w → Each P ws → Each P (w ∷ ws)

each_map : {P Q : Word → Type 0} {ws : List Word} → ((w : Word) → P w → Q w) → Each P ws → Each Q ws
each_map f none = none
each_map f (one {w} p ps) = one (f w p) (each_map f ps)

both-map : {P L Q : Word → Type 0} {ws : List Word} → ((w : Word) → P w → L w → Q w) → Each P ws → Each L ws → Each Q ws
both-map f none none = none
both-map f (one {w} p ps) (one l ls) = one (f w p l) (both-map f ps ls)

has-each : {P : Word → Type 0} (ws : List Word) (u : Word) → has ws u ≡ true → Each P ws → P u
unfolding has
has-each [] u e none = let z : ◌≡◌ {A = ℕ} 0 1 = cc in absurd (omega arith)
has-each {P} (w ∷ ws) u e (one p ps) = by_cases (same w u)
    (λ q. subst P (same_true w u q) p)
    (λ q. has-each ws u (rw q at e) ps)

-- ---- what forms share

module _ (index : List ℕ) (stood : ℕ) (t : Trie) where
  fewer : (u : List ℕ) (n q l : ℕ) (us : List ℕ) → walk_from_by (search_indexed index stood) t n u ≡ stopped q l us → length us ≤ length u
  unfolding walk_from_by
  fewer [] n q l us e = let z : ◌≡◌ {A = ℕ} 0 1 = cc in absurd (omega arith)
  fewer (x ∷ u) n q l us e = go (search_indexed index stood t n x) refl (λ c d. fewer u c q l us d)
    where
      go : (r : Search) → search_indexed index stood t n x ≡ r → ((c : ℕ) → walk_from_by (search_indexed index stood) t c u ≡ stopped q l us → length us ≤ length u) → length us ≤ length (x ∷ u)
      go (Found c) f again = let k = again c (sym (walk-found (search_indexed index stood) t n x u c f) ∙ e) in omega arith
      go (Last k) f again =
          let d = sym (walk-last (search_indexed index stood) t n x u k f) ∙ e in
          let i : ◌≡◌ {A = List ℕ} (x ∷ u) us = cc in let j = ap length i in omega arith
      go Damaged f again = let d = sym (walk-damaged (search_indexed index stood) t n x u f) ∙ e in let z : ◌≡◌ {A = ℕ} 0 1 = cc in absurd (omega arith)

  shared : (b u : List ℕ) (n j q l : ℕ) (us : List ℕ) → walk_from_by (search_indexed index stood) t n b ≡ whole j → walk_from_by (search_indexed index stood) t n u ≡ stopped q l us → length us + common b u ≤ length u
  unfolding walk_from_by common
  shared [] u n j q l us d e = let k = fewer u n q l us e in omega arith
  shared (y ∷ b) [] n j q l us d e = let z : ◌≡◌ {A = ℕ} 0 1 = cc in absurd (omega arith)
  shared (y ∷ b) (x ∷ u) n j q l us d e = by_cases (eqb y x)
      (λ k. let i : y ≡ x = eqb-true _ _ k in rw k (go i (search_indexed index stood t n y) refl (λ c f g. shared b u c j q l us f g)))
      (λ k. rw k (let m = fewer (x ∷ u) n q l us e in omega arith))
    where
      go : y ≡ x → (r : Search) → search_indexed index stood t n y ≡ r
          → ((c : ℕ) → walk_from_by (search_indexed index stood) t c b ≡ whole j → walk_from_by (search_indexed index stood) t c u ≡ stopped q l us → length us + common b u ≤ length u)
          → length us + suc (common b u) ≤ suc (length u)
      go i (Found c) f again =
          let f' : search_indexed index stood t n x ≡ Found c = ap (search_indexed index stood t n) (sym i) ∙ f in
          let k = again c (sym (walk-found (search_indexed index stood) t n y b c f) ∙ d) (sym (walk-found (search_indexed index stood) t n x u c f') ∙ e) in omega arith
      go i (Last k) f again = let g = sym (walk-last (search_indexed index stood) t n y b k f) ∙ d in let z : ◌≡◌ {A = ℕ} 0 1 = cc in absurd (omega arith)
      go i Damaged f again = let g = sym (walk-damaged (search_indexed index stood) t n y b f) ∙ d in let z : ◌≡◌ {A = ℕ} 0 1 = cc in absurd (omega arith)

-- ---- the forms given one after another

module _ (e s r stood m : ℕ) (index : List ℕ) (c : Coding) (laws : CodingLaws c) (low : 1 ≤ s) (v₀ : View) where
  abbrev z : Sizes
  z = sizes_of e

  abbrev find : Finding
  find = search_indexed index stood

  -- a form to come
  data Status (v : View) (u : Word) : Type 0 where
    is_held : HeldAt index stood s r v u → Status v u
    is-left : lacking v₀ (walk_to_by find v₀ s u) ≡ true → (q l : ℕ) (us : Word) → from index stood s r v u ≡ stopped q l us → length us ≤ missing (walk_to_by find v₀ s u) → Status v u

  abbrev Legal : Word → Type 0
  Legal u = c.legal m u ≡ true

  record Inv (before ws : List Word) (cs : List ℕ) (h : Head) : Type 0 where
    header-sound : header_of z cs ≡ Ok h
    rooted : Rooted index stood s r (view_of z cs h)
    high : s ≤ h.subgoals
    last-in : ((view_of z cs h).subgoal s).last ≤ h.answers
    is_open : ((view_of z cs h).subgoal s).state ≡ 0
    last_ok : (answers_needed_by find v₀ s before ws ≡ 0 → ⊥) → sound_last (view_of z cs h) s ≡ true
    helds : Each (HeldAt index stood s r (view_of z cs h)) before
    statuses : Each (Status (view_of z cs h)) ws
    legals : Each Legal ws
    nodes-room : h.nodes + nodes_needed_by find v₀ s before ws ≤ h.node_capacity
    answers-room : h.answers + answers_needed_by find v₀ s before ws ≤ h.answer_capacity

  record Outcome (before ws : List Word) (cs' : List ℕ) : Type 0 where
    head : Head
    head-sound : header_of z cs' ≡ Ok head
    rooted-there : Rooted index stood s r (view_of z cs' head)
    befores : Each (HeldAt index stood s r (view_of z cs' head)) before
    comes : Each (HeldAt index stood s r (view_of z cs' head)) ws

  -- from what the forms behind the first leave
  outcome-on : (w : Word) (ws before : List Word) (cs cs₁ : List ℕ) (h : Head) → header_of z cs ≡ Ok h → form_given_by find z cs s w (Ok h) ≡ cs₁ → Outcome (w ∷ before) ws (forms_given_by find z cs₁ s ws) → Outcome before (w ∷ ws) (forms_given_by find z cs s (w ∷ ws))
  unfolding forms_given_by
  outcome-on w ws before cs cs₁ h i f o = subst (Outcome before (w ∷ ws)) (sym all) (split o.befores)
    where
      all : forms_given_by find z (form_given_by find z cs s w (header_of z cs)) s ws ≡ forms_given_by find z cs₁ s ws
      all = ap (λ (x : Header). forms_given_by find z (form_given_by find z cs s w x) s ws) i ∙ ap (λ (ds : List ℕ). forms_given_by find z ds s ws) f

      split : Each (HeldAt index stood s r (view_of z (forms_given_by find z cs₁ s ws) o.head)) (w ∷ before) → Outcome before (w ∷ ws) (forms_given_by find z cs₁ s ws)
      split (one p ps) = record { head = o.head; head-sound = o.head-sound; rooted-there = o.rooted-there; befores = ps; comes = one p o.comes }

  -- ---- a form that is held

  held-given : (w : Word) (cs : List ℕ) (h : Head) → Rooted index stood s r (view_of z cs h) → HeldAt index stood s r (view_of z cs h) w → form_given_by find z cs s w (Ok h) ≡ cs
  unfolding form_given_by answer_given
  held-given w cs h R k = ap (λ (d : Decision). answer_given z cs h d) (held-says index stood s r (view_of z cs h) R w k)

  nodes-less : (before : List Word) (w : Word) (ws : List Word) → nodes_needed_by find v₀ s (w ∷ before) ws ≤ nodes_needed_by find v₀ s before (w ∷ ws)
  nodes-less before w ws = unfold nodes_needed_by in omega arith

  answers-less : (before : List Word) (w : Word) (ws : List Word) → answers_needed_by find v₀ s (w ∷ before) ws ≤ answers_needed_by find v₀ s before (w ∷ ws)
  answers-less before w ws = unfold answers_needed_by in omega arith

  inv-held : (w : Word) (ws before : List Word) (cs : List ℕ) (h : Head) → Inv before (w ∷ ws) cs h → HeldAt index stood s r (view_of z cs h) w → Each (Status (view_of z cs h)) ws → Each Legal ws → Inv (w ∷ before) ws cs h
  inv-held w ws before cs h I k sts ls =
      let a = nodes-less before w ws in
      let b = answers-less before w ws in
      record {
        header-sound = I.header-sound;
        rooted = I.rooted;
        high = I.high;
        last-in = I.last-in;
        is_open = I.is_open;
        last_ok = λ n. I.last_ok (λ y. n (omega arith));
        helds = one k I.helds;
        statuses = sts;
        legals = ls;
        nodes-room = omega (arith, I.nodes-room);
        answers-room = omega (arith, I.answers-room);
      }

  -- ---- a form whose walk stopped

  module _ (w : Word) (ws before : List Word) (cs : List ℕ) (h : Head) (I : Inv before (w ∷ ws) cs h) (q l : ℕ) (us : Word)
      (lacks : lacking v₀ (walk_to_by find v₀ s w) ≡ true) (at : from index stood s r (view_of z cs h) w ≡ stopped q l us) (counted : length us ≤ missing (walk_to_by find v₀ s w)) where
    abbrev v : View
    v = view_of z cs h

    most-shared : (bs : List Word) → Each (HeldAt index stood s r v) bs → length us + most bs w ≤ length w
    unfolding most
    most-shared [] none = let k = fewer index stood (answer_trie v) w r q l us at in omega arith
    most-shared (b ∷ bs) (one k ks) =
        let i : length us + common b w ≤ length w = shared index stood (answer_trie v) b w r k.leaf q l us k.at at in
        let j : length us + most bs w ≤ length w = most-shared bs ks in omega arith

    not_yet : has before w ≡ false
    not_yet = by_cases (has before w)
        (λ y. let k = has-each before w y I.helds in let d : stopped q l us ≡ whole k.leaf = sym at ∙ k.at in let n : ◌≡◌ {A = ℕ} 0 1 = cc in absurd (omega arith))
        (λ y. y)

    nodes-more : length us + nodes_needed_by find v₀ s (w ∷ before) ws ≤ nodes_needed_by find v₀ s before (w ∷ ws)
    nodes-more = let k = most-shared before I.helds in unfold nodes_needed_by in omega arith

    answers-more : answers_needed_by find v₀ s before (w ∷ ws) ≡ suc (answers_needed_by find v₀ s (w ∷ before) ws)
    unfolding answers_needed_by
    answers-more = rw (lacks, not_yet) (omega arith)

    last-sound : sound_last v s ≡ true
    last-sound = I.last_ok (λ y. let k = answers-more in omega arith)

    decided : answered_at v s w (walk_to_by find v s w) ≡ enters_answer s q l us
    unfolding answered_at answered_new
    decided =
        let a = nodes-more in
        let b = answers-more in
        let roomy : leb (h.nodes + length us) h.node_capacity ≡ true = le-leb (h.nodes + length us) h.node_capacity (omega (arith, I.nodes-room)) in
        let free : ltb h.answers h.answer_capacity ≡ true = lt-ltb h.answers h.answer_capacity (omega (arith, I.answers-room)) in
        rw (to-root index stood s r v I.rooted w, at, last-sound, eq-eqb _ _ I.is_open, roomy, free)

    given-as : form_given_by find z cs s w (Ok h) ≡ change z cs h (enters_answer s q l us)
    unfolding form_given_by
    given-as = sym (given-written search_children z cs h s w (walk_to_by find v s w)) ∙ ap (change z cs h) decided

    root-low : (v.subgoal s).root < v.nodes
    root-low = subst (λ (k : ℕ). k < v.nodes) (sym I.rooted.root_is) I.rooted.root_in

    fits : Fits v (enters_answer s q l us)
    fits = subst (Fits v) decided (decision-leaves (indexes-find index stood) v s low I.high root-low I.last-in w).0

    cells-after : (h' : Head) × (header_of z (change z cs h (enters_answer s q l us)) ≡ Ok h') × Alike (view_of z (change z cs h (enters_answer s q l us)) h') (changed_view v (enters_answer s q l us))
    cells-after = cells-change z (sizes-wide e) cs h (enters_answer s q l us) I.header-sound fits

    abbrev v₁ : View
    v₁ = view_of z (change z cs h (enters_answer s q l us)) cells-after.0

    grown : Grew index stood s r v v₁ q l us
    grown = grew index stood s r v v₁ q l us low I.high cells-after.2

    some_left : 1 ≤ length us
    some_left = from-left w find (answer_trie v) r q l us at

    held_then : (u : Word) → HeldAt index stood s r v u → HeldAt index stood s r v₁ u
    held_then u k = held_on index stood s r v v₁ q l us grown I.rooted w at some_left low I.high u k

    held-now : HeldAt index stood s r v₁ w
    held-now = held_new index stood s r v v₁ q l us grown I.rooted w at some_left low I.high

    status-then : Legal w → (u : Word) → Status v u → Legal u → Status v₁ u
    unfolding After
    status-then lw u (is_held k) lu = is_held (held_then u k)
    status-then lw u (is-left lk q' l' us' at' few) lu = go (from index stood s r v₁ u) refl (after_on index stood s r v v₁ q l us grown I.rooted w at some_left low I.high u q' l' us' at')
      where
        ends : (a : List ℕ) → a ++ [] ≡ a
        ends [] = refl
        ends (x ∷ a) = ap (λ (b : List ℕ). x ∷ b) (ends a)

        go : (x : Walk) → from index stood s r v₁ u ≡ x → After index stood w u us' x → Status v₁ u
        go (whole j) i k =
            let none_left : k.0 ≡ [] = laws.legal-free m u k.0 lu (subst (λ (y : Word). c.legal m y ≡ true) k.1 lw) in
            let is : w ≡ u = k.1 ∙ ap (λ (y : Word). u ++ y) none_left ∙ ends u in
            is_held (subst (HeldAt index stood s r v₁) is held-now)
        go (stopped p y vs) i k = is-left lk p y vs i (omega arith)
        go damaged i k = absurd k

    inv-next : Legal w → Each (Status v) ws → Each Legal ws → Inv (w ∷ before) ws (change z cs h (enters_answer s q l us)) cells-after.0
    inv-next lw sts ls =
        let a = nodes-more in
        let b = answers-more in
        record {
          header-sound = cells-after.1;
          rooted = rooted_on index stood s r v v₁ q l us grown I.rooted w at some_left low I.high;
          high = omega (arith, grown.subgoals-are, I.high);
          last-in = let i : (v₁.subgoal s).last ≡ h.answers + 1 = ap (λ (y : Subgoal). y.last) grown.own in omega (arith, grown.answers-are);
          is_open = open-on index stood s r v v₁ q l us grown I.rooted w at some_left low I.high ∙ I.is_open;
          last_ok = λ n. last_on index stood s r v v₁ q l us grown I.rooted w at some_left low I.high;
          helds = one held-now (each_map held_then I.helds);
          statuses = both-map (status-then lw) sts ls;
          legals = ls;
          nodes-room = omega (arith, I.nodes-room, grown.nodes-are, grown.N-is);
          answers-room = omega (arith, I.answers-room, grown.answers-are, grown.A-is);
        }

  forms-kept : (ws before : List Word) (cs : List ℕ) (h : Head) → Inv before ws cs h → Outcome before ws (forms_given_by find z cs s ws)
  forms-kept [] before cs h I = unfold forms_given_by in record { head = h; head-sound = I.header-sound; rooted-there = I.rooted; befores = I.helds; comes = none }
  forms-kept (w ∷ ws) before cs h I = go I.statuses I.legals (λ cs₁ h₁ J. forms-kept ws (w ∷ before) cs₁ h₁ J)
    where
      go : Each (Status (view_of z cs h)) (w ∷ ws) → Each Legal (w ∷ ws)
          → ((cs₁ : List ℕ) (h₁ : Head) → Inv (w ∷ before) ws cs₁ h₁ → Outcome (w ∷ before) ws (forms_given_by find z cs₁ s ws))
          → Outcome before (w ∷ ws) (forms_given_by find z cs s (w ∷ ws))
      go (one (is_held k) sts) (one lw ls) again =
          outcome-on w ws before cs cs h I.header-sound (held-given w cs h I.rooted k) (again cs h (inv-held w ws before cs h I k sts ls))
      go (one (is-left lk q l us at few) sts) (one lw ls) again =
          outcome-on w ws before cs (change z cs h (enters_answer s q l us)) h I.header-sound (given-as w ws before cs h I q l us lk at few)
          (again (change z cs h (enters_answer s q l us)) (cells-after w ws before cs h I q l us lk at few).0 (inv-next w ws before cs h I q l us lk at few lw sts ls))

-- ---- what a join comes to

data Shape (s : ℕ) : Decision → Type 0 where
  refusing : (r : ℕ) → Shape s (says (refused r))
  entering : (ws : List Word) → Shape s (enters_answers s ws)

pick-shape : {s : ℕ} (b : Bool) {d d' : Decision} → Shape s d → Shape s d' → Shape s (pick b d d')
pick-shape true x y = x
pick-shape false x y = y

known-shape : {s : ℕ} (n k : ℕ) {d : Decision} → Shape s d → Shape s (known n k d)
known-shape n k x = pick-shape (ltb 0 k) (pick-shape (leb k n) x (refusing 7)) (refusing 7)

chains-shape : {s : ℕ} (x y : Chain) (d : List Word → List Word → Decision) → ((us vs : List Word) → Shape s (d us vs)) → Shape s (on_chains x y d)
unfolding on_chains
chains-shape broken y d f = refusing 9
chains-shape (unbroken us) broken d f = refusing 9
chains-shape (unbroken us) (unbroken vs) d f = f us vs

joining-shape : (find : Finding) (v : View) (s : ℕ) (x : Forms) → Shape s (joining_by find v s x)
unfolding joining_by
joining-shape find v s (declined r) = refusing r
joining-shape find v s (formed ws) =
    pick-shape (all_sound_by find v s ws && pick (eqb (answers_needed_by find v s [] ws) 0) true (sound_last v s))
    (pick-shape (leb (v.nodes + nodes_needed_by find v s [] ws) v.N) (pick-shape (leb (v.answers + answers_needed_by find v s [] ws) v.A) (entering ws) (refusing 11)) (refusing 10)) (refusing 9)

join-shape : (find : Finding) (c : Coding) (v : View) (i j : ℕ) (ps : List ℕ) (s : ℕ) (ks : List ℕ) → Shape s (decide_by find c v (join i j ps s ks))
unfolding decide_by
join-shape find c v i j ps s ks =
    known-shape v.subgoals i (known-shape v.subgoals j (known-shape v.subgoals s
    (pick-shape (sound_subgoal v i && sound_subgoal v j && sound_target v s)
    (chains-shape (chain_of c v i) (chain_of c v j) (λ us vs. joining_by find v s (join_of c (side_in v i us) (side_in v j vs) ps (state_of (v.subgoal s).state) (v.subgoal s).variables ks))
    (λ us vs. joining-shape find v s _)) (refusing 9))))

shape-enters : {s : ℕ} {d : Decision} → Shape s d → (v : View) (room after n : ℕ) → reply v d room after ≡ joined n → (ws : List Word) × (d ≡ enters_answers s ws)
unfolding reply
shape-enters (refusing r) v room after n e = let y : ◌≡◌ {A = ℕ} 0 1 = cc in absurd (omega arith)
shape-enters (entering ws) v room after n e = (ws, refl)

step-reply : (find : Finding) (cs : List ℕ) (h : Head) (q : Request) → space_header cs ≡ Ok h
    → (let v = view_of (sizes_of h.edition) cs h in let d = decide_by find (coding_of h.edition) v q in
    (space_step_by find cs q).reply ≡ reply v d (length (lent q)) (used_answers (change_by find (sizes_of h.edition) cs h d)))
unfolding space_step_by under_any_by under_by
step-reply find cs h q i = rw i

pub joined-enters : JoinedEnters
joined-enters cs index h f g ps s ks n i e =
    shape-enters (join-shape (indexed_way index cs) (coding_of h.edition) (view_of (sizes_of h.edition) cs h) f g ps s ks) (view_of (sizes_of h.edition) cs h) _ _ n
    (sym (step-reply (indexed_way index cs) cs h (join f g ps s ks) i) ∙ e)

-- ---- what an accepted join was decided by

no_says : {x : Reply} {s : ℕ} {ws : List Word} → says x ≡ enters_answers s ws → ⊥
no_says e = let y : ◌≡◌ {A = ℕ} 0 1 = cc in omega arith

known-enters : (n k : ℕ) (d : Decision) (s : ℕ) (ws : List Word) → known n k d ≡ enters_answers s ws → (1 ≤ k) × (k ≤ n) × (d ≡ enters_answers s ws)
known-enters n k d s ws e = by_cases (ltb 0 k)
    (λ p. by_cases (leb k n)
    (λ q. (ltb-true _ _ p, leb-true _ _ q, rw (p, q) at e))
    (λ q. absurd (no_says (rw (p, q) at e))))
    (λ p. absurd (no_says (rw p at e)))

sound-enters : (b : Bool) (d : Decision) (s : ℕ) (ws : List Word) → decisions.sound b d ≡ enters_answers s ws → (b ≡ true) × (d ≡ enters_answers s ws)
sound-enters true d s ws e = (refl, e)
sound-enters false d s ws e = absurd (no_says e)

pick-enters : (b : Bool) (d : Decision) (x : Reply) (s : ℕ) (ws : List Word) → pick b d (says x) ≡ enters_answers s ws → (b ≡ true) × (d ≡ enters_answers s ws)
pick-enters true d x s ws e = (refl, e)
pick-enters false d x s ws e = absurd (no_says e)

chains-enter : (x y : Chain) (d : List Word → List Word → Decision) (s : ℕ) (ws : List Word) → on_chains x y d ≡ enters_answers s ws → (us : List Word) × (vs : List Word) × (d us vs ≡ enters_answers s ws)
unfolding on_chains
chains-enter broken y d s ws e = absurd (no_says e)
chains-enter (unbroken us) broken d s ws e = absurd (no_says e)
chains-enter (unbroken us) (unbroken vs) d s ws e = (us, vs, e)

open-zero : (x : ℕ) → state_of x ≡ Open → x ≡ 0
open-zero x e = by_cases (eqb x 0) (λ y. eqb-true _ _ y) (λ y. let d : Finished ≡ Open = rw y at e in let n : ◌≡◌ {A = ℕ} 0 1 = cc in absurd (omega arith))

same-entered : {s : ℕ} {us ws : List Word} → enters_answers s us ≡ enters_answers s ws → us ≡ ws
same-entered e = cc

record Accepted (find : Finding) (c : Coding) (v : View) (s : ℕ) (ws : List Word) : Type 0 where
  target-open : (v.subgoal s).state ≡ 0
  read : Readable c (v.subgoal s).variables ws
  all_sound : all_sound_by find v s ws ≡ true
  last-read : (answers_needed_by find v s [] ws ≡ 0 → ⊥) → sound_last v s ≡ true
  nodes-fit : v.nodes + nodes_needed_by find v s [] ws ≤ v.N
  answers-fit : v.answers + answers_needed_by find v s [] ws ≤ v.A

module _ (find : Finding) (c : Coding) (v : View) (s : ℕ) where
  joining-enters : (x : Forms) (ws : List Word) → (v.subgoal s).state ≡ 0 → Read c (v.subgoal s).variables x → joining_by find v s x ≡ enters_answers s ws → Accepted find c v s ws
  unfolding joining_by
  joining-enters (declined r) ws o k e = absurd (no_says e)
  joining-enters (formed us) ws o k e =
      let room : Bool = leb (v.nodes + nodes_needed_by find v s [] us) v.N in
      let free : Bool = leb (v.answers + answers_needed_by find v s [] us) v.A in
      let a = sound-enters (all_sound_by find v s us && pick (eqb (answers_needed_by find v s [] us) 0) true (sound_last v s)) (pick room (pick free (enters_answers s us) (says (refused 11))) (says (refused 10))) s ws e in
      let b = pick-enters room (pick free (enters_answers s us) (says (refused 11))) (refused 10) s ws a.1 in
      let d = pick-enters free (enters_answers s us) (refused 11) s ws b.1 in
      let i : us ≡ ws = same-entered d.1 in
      let f = both_true (all_sound_by find v s us) (pick (eqb (answers_needed_by find v s [] us) 0) true (sound_last v s)) a.0 in
      subst (Accepted find c v s) i (record {
        target-open = o;
        read = k;
        all_sound = f.0;
        last-read = λ n. (rw (ne_eqb _ _ n) at f.1);
        nodes-fit = leb-true _ _ b.0;
        answers-fit = leb-true _ _ d.0;
      })

  abbrev Enters : List Word → Forms → Type 0
  Enters ws x = joining_by find v s x ≡ enters_answers s ws → Accepted find c v s ws

  declines : (ws : List Word) (r : ℕ) → Enters ws (declined r)
  unfolding joining_by
  declines ws r e = absurd (no_says e)

  rule-enters : (f g : Side) (ps ks : List ℕ) (ws : List Word) → Enters ws (join_of c f g ps (state_of (v.subgoal s).state) (v.subgoal s).variables ks)
  rule-enters f g ps ks ws =
      join-cases (Enters ws) c f g ps (state_of (v.subgoal s).state) (v.subgoal s).variables ks (declines ws 8) (declines ws 14) (declines ws 15) (declines ws 16)
      (λ o. joining-enters _ ws (open-zero _ o) (all_read_lem c (v.subgoal s).variables _))

  join-enters : (i j : ℕ) (ps ks : List ℕ) (ws : List Word) → decide_by find c v (join i j ps s ks) ≡ enters_answers s ws → (1 ≤ s) × (s ≤ v.subgoals) × (sound_target v s ≡ true) × Accepted find c v s ws
  unfolding decide_by
  join-enters i j ps ks ws e =
      let later : List Word → List Word → Decision = λ us vs. joining_by find v s (join_of c (side_in v i us) (side_in v j vs) ps (state_of (v.subgoal s).state) (v.subgoal s).variables ks) in
      let judged : Decision = decisions.sound (sound_subgoal v i && sound_subgoal v j && sound_target v s) (on_chains (chain_of c v i) (chain_of c v j) later) in
      let a = known-enters v.subgoals i (known v.subgoals j (known v.subgoals s judged)) s ws e in
      let b = known-enters v.subgoals j (known v.subgoals s judged) s ws a.2 in
      let d = known-enters v.subgoals s judged s ws b.2 in
      let f = sound-enters (sound_subgoal v i && sound_subgoal v j && sound_target v s) (on_chains (chain_of c v i) (chain_of c v j) later) s ws d.2 in
      let g = chains-enter (chain_of c v i) (chain_of c v j) later s ws f.1 in
      (d.0, d.1, (both_true (sound_subgoal v i && sound_subgoal v j) (sound_target v s) f.0).1, rule-enters (side_in v i g.0) (side_in v j g.1) ps ks ws g.2)

-- ---- the theorem

module _ (e s r stood m : ℕ) (index : List ℕ) (c : Coding) (laws : CodingLaws c) (low : 1 ≤ s) (v : View) (R : Rooted index stood s r v) (some : (u : Word) → c.legal m u ≡ true → length u ≡ 0 → ⊥) where
  status-of : (u : Word) (x : Walk) → walk_to_by (search_indexed index stood) v s u ≡ x → met_sound v u x ≡ true → c.legal m u ≡ true → Status e s r stood m index c laws low v v u
  unfolding met_sound
  status-of u (whole leaf) i k l = by_cases (eqb (v.node leaf).link 0)
      (λ y. absurd (some u l (eqb-true _ _ (rw y at k))))
      (λ y. let b = both_true (sound_answer v (v.node leaf).link) (eqb (v.answer (v.node leaf).link).leaf leaf) (rw y at k) in
      let w = walk-whole (indexes-find index stood) (answer_trie v) (v.subgoal s).root leaf u (subst (λ (n : ℕ). n < v.nodes) (sym R.root_is) R.root_in) i in
      is_held (record {
        leaf = leaf;
        at = sym (to-root index stood s r v R u) ∙ i;
        leaf-in = w.within;
        some = eqb-false _ _ y;
        most = (node-bounds v.nodes v.answers leaf (v.node leaf) w.judged).link-most;
        judged = b.0;
        ends = eqb-true _ _ b.1;
      }))
  status-of u (stopped q l us) i k lg = is-left (ap (lacking v) i ∙ (unfold lacking in refl)) q l us (sym (to-root index stood s r v R u) ∙ i) (rw i (unfold missing in omega arith))
  status-of u damaged i k l = let y : ◌≡◌ {A = ℕ} 0 1 = cc in absurd (omega arith)

  statuses-of : (us : List Word) → all_sound_by (search_indexed index stood) v s us ≡ true → Each (λ u. c.legal m u ≡ true) us → Each (Status e s r stood m index c laws low v v) us
  unfolding all_sound_by
  statuses-of [] k none = none
  statuses-of (u ∷ us) k (one l ls) = let b = both_true _ _ k in one (status-of u _ refl b.0 l) (statuses-of us b.1 ls)

readable-legal : (c : Coding) → CodingLaws c → (m : ℕ) (ws : List Word) → Readable c m ws → Each (λ u. c.legal m u ≡ true) ws
readable-legal c laws m [] k = none
readable-legal c laws m (w ∷ ws) k = one (laws.answered-legal m k.0.0 w k.0.1 k.0.2) (readable-legal c laws m ws k.1)

kept_of : (index : List ℕ) (stood s r : ℕ) (v : View) → Rooted index stood s r v → (ws : List Word) → Each (HeldAt index stood s r v) ws → AllKept (search_indexed index stood) v s ws
unfolding AllKept
kept_of index stood s r v R [] none = tt
kept_of index stood s r v R (w ∷ ws) (one k ks) = (((v.node k.leaf).link, held-says index stood s r v R w k), kept_of index stood s r v R ws ks)

step-state : (find : Finding) (cs : List ℕ) (h : Head) (q : Request) (s : ℕ) (ws : List Word) → space_header cs ≡ Ok h
    → decide_by find (coding_of h.edition) (view_of (sizes_of h.edition) cs h) q ≡ enters_answers s ws → (space_step_by find cs q).state ≡ forms_given_by find (sizes_of h.edition) cs s ws
unfolding space_step_by under_any_by under_by change_by
step-state find cs h q s ws i d = rw (i, d)

module _ (cs index : List ℕ) (h : Head) (f g : ℕ) (ps : List ℕ) (s : ℕ) (ks : List ℕ) (ws : List Word) (i : space_header cs ≡ Ok h)
    (d : decide_by (search_indexed index h.nodes) (coding_of h.edition) (view_of (sizes_of h.edition) cs h) (join f g ps s ks) ≡ enters_answers s ws) where
  abbrev given : View
  given = view_of (sizes_of h.edition) cs h

  abbrev C : Coding
  C = coding_of h.edition

  made : (1 ≤ s) × (s ≤ given.subgoals) × (sound_target given s ≡ true) × Accepted (search_indexed index h.nodes) C given s ws
  made = join-enters (search_indexed index h.nodes) C given s f g ps ks ws d

  parts : (sound_subgoal given s ≡ true) × (root_sound (answer_trie given) (given.subgoal s).root ≡ true)
  parts = both_true _ _ made.2

  bounds : SubgoalBounds given.nodes given.answers (given.subgoal s)
  bounds = subgoal-bounds given.nodes given.answers (given.subgoal s) parts.0

  R₀ : Rooted index h.nodes s (given.subgoal s).root given
  R₀ = let b = both_true _ _ parts.1 in record { root_is = refl; root_in = bounds.root_below; root-sound = b.0; root-own = eqb-true _ _ b.1; few = omega arith }

  abbrev After₀ : Type 0
  After₀ = (h' : Head) × (space_header (forms_given_by (search_indexed index h.nodes) (sizes_of h.edition) cs s ws) ≡ Ok h')
      × AllKept (search_indexed index h.nodes) (view_of (sizes_of h.edition) (forms_given_by (search_indexed index h.nodes) (sizes_of h.edition) cs s ws) h') s ws

  kept-some : ((given.subgoal s).variables ≡ 0 → ⊥) → After₀
  kept-some nonzero =
      let legals = readable-legal C (coding-laws h.edition) (given.subgoal s).variables ws made.3.read in
      let a = made.3 in
      let sp = space-read cs h i in
      let o = forms-kept h.edition s (given.subgoal s).root h.nodes (given.subgoal s).variables index C (coding-laws h.edition) made.0 given ws [] cs h (record {
        header-sound = sp.1;
        rooted = R₀;
        high = made.1;
        last-in = bounds.last-most;
        is_open = a.target-open;
        last_ok = a.last-read;
        helds = none;
        statuses = statuses-of h.edition s (given.subgoal s).root h.nodes (given.subgoal s).variables index C (coding-laws h.edition) made.0 given R₀ long ws a.all_sound legals;
        legals = legals;
        nodes-room = a.nodes-fit;
        answers-room = a.answers-fit;
      }) in
      (o.head, (header-any h.edition sp.0 (forms_given_by (search_indexed index h.nodes) (sizes_of h.edition) cs s ws) o.head o.head-sound).0, kept_of index h.nodes s (given.subgoal s).root _ o.rooted-there ws o.comes)
    where
      long : (u : Word) → C.legal (given.subgoal s).variables u ≡ true → length u ≡ 0 → ⊥
      long u l n = go (given.subgoal s).variables refl
        where
          go : (k : ℕ) → (given.subgoal s).variables ≡ k → ⊥
          go zero y = nonzero y
          go (suc k) y = let p = (coding-laws h.edition).legal-some k u (subst (λ (j : ℕ). C.legal j u ≡ true) y l) in omega arith

  -- ---- a target without variables: its one form is empty, and ends at the answer root

  abbrev root : ℕ
  root = (given.subgoal s).root

  abbrev way : Finding
  way = search_indexed index h.nodes

  held_all : (us : List Word) (ds : List ℕ) (k : Head) → header_of (sizes_of h.edition) ds ≡ Ok k → Rooted index h.nodes s root (view_of (sizes_of h.edition) ds k)
      → Each (HeldAt index h.nodes s root (view_of (sizes_of h.edition) ds k)) us → forms_given_by way (sizes_of h.edition) ds s us ≡ ds
  unfolding forms_given_by form_given_by answer_given
  held_all [] ds k x Q none = refl
  held_all (u ∷ us) ds k x Q (one y ys) =
      ap (λ (a : Header). forms_given_by way (sizes_of h.edition) (form_given_by way (sizes_of h.edition) ds s u a) s us) x
      ∙ ap (λ (a : Decision). forms_given_by way (sizes_of h.edition) (answer_given (sizes_of h.edition) ds k a) s us) (held-says index h.nodes s root (view_of (sizes_of h.edition) ds k) Q u y)
      ∙ held_all us ds k x Q ys

  -- cells in which every form is held
  settled : (ds : List ℕ) (k : Head) → forms_given_by way (sizes_of h.edition) cs s ws ≡ ds → header_of (sizes_of h.edition) ds ≡ Ok k → Rooted index h.nodes s root (view_of (sizes_of h.edition) ds k)
      → Each (HeldAt index h.nodes s root (view_of (sizes_of h.edition) ds k)) ws → After₀
  settled ds k y x Q all =
      subst (λ (bs : List ℕ). (h' : Head) × (space_header bs ≡ Ok h') × AllKept way (view_of (sizes_of h.edition) bs h') s ws) (sym y)
      (k, (header-any h.edition (space-read cs h i).0 ds k x).0, kept_of index h.nodes s root (view_of (sizes_of h.edition) ds k) Q ws all)

  module _ (ground : (given.subgoal s).variables ≡ 0) where
    empties : Each (λ u. u ≡ []) ws
    empties = each_map (λ u l. (coding-laws h.edition).legal-empty u (subst (λ (j : ℕ). C.legal j u ≡ true) ground l))
        (readable-legal C (coding-laws h.edition) (given.subgoal s).variables ws made.3.read)

    each-empty : (ds : List ℕ) (k : Head) → HeldAt index h.nodes s root (view_of (sizes_of h.edition) ds k) [] → {us : List Word} → Each (λ u. u ≡ []) us → Each (HeldAt index h.nodes s root (view_of (sizes_of h.edition) ds k)) us
    each-empty ds k y es = each_map (λ u q. subst (HeldAt index h.nodes s root (view_of (sizes_of h.edition) ds k)) (sym q) y) es

    at-root : from index h.nodes s root given [] ≡ whole root
    at-root = unfold walk_from_by in refl

    -- the empty form is an answer already
    module _ (linked : (given.node root).link ≡ 0 → ⊥) (judged : sound_answer given (given.node root).link && eqb (given.answer (given.node root).link).leaf root ≡ true) where
      kept-old : After₀
      kept-old =
          let b = both_true (sound_answer given (given.node root).link) (eqb (given.answer (given.node root).link).leaf root) judged in
          let held : HeldAt index h.nodes s root given [] = record {
            leaf = root;
            at = at-root;
            leaf-in = bounds.root_below;
            some = linked;
            most = (node-bounds given.nodes given.answers root (given.node root) R₀.root-sound).link-most;
            judged = b.0;
            ends = eqb-true _ _ b.1;
          } in
          let all = each-empty cs h held empties in
          settled cs h (held_all ws cs h (space-read cs h i).1 R₀ all) (space-read cs h i).1 R₀ all

    -- it is new
    module _ (us : List Word) (all : ws ≡ [] ∷ us) (rest : Each (λ u. u ≡ []) us) (bare : (given.node root).link ≡ 0) where
      found : walk_to_by way given s [] ≡ whole root
      found = to-root index h.nodes s root given R₀ [] ∙ at-root

      lacks-empty : lacking given (walk_to_by way given s []) ≡ true
      lacks-empty = ap (lacking given) found ∙ (unfold lacking in eq-eqb _ _ bare)

      more-is : answers_needed_by way given s [] ([] ∷ us) ≡ suc (answers_needed_by way given s ([] ∷ []) us)
      unfolding answers_needed_by has
      more-is = rw lacks-empty (omega arith)

      needs-is : answers_needed_by way given s [] ws ≡ suc (answers_needed_by way given s ([] ∷ []) us)
      needs-is = ap (answers_needed_by way given s []) all ∙ more-is

      last₀ : sound_last given s ≡ true
      last₀ = made.3.last-read (λ y. let k = needs-is in omega arith)

      decided₀ : answered_at given s [] (walk_to_by way given s []) ≡ enters_empty s
      unfolding answered_at answered_old answered_new
      decided₀ =
          let k = needs-is in
          let roomy : leb (h.nodes + 0) h.node_capacity ≡ true = le-leb (h.nodes + 0) h.node_capacity (omega (arith, made.3.nodes-fit)) in
          let free : ltb h.answers h.answer_capacity ≡ true = lt-ltb h.answers h.answer_capacity (omega (arith, made.3.answers-fit)) in
          rw (found, eq-eqb _ _ bare, last₀, eq-eqb _ _ made.3.target-open, roomy, free)

      abbrev cs₁ : List ℕ
      cs₁ = change (sizes_of h.edition) cs h (enters_empty s)

      fits₀ : Fits given (enters_empty s)
      fits₀ = subst (Fits given) decided₀ (decision-leaves (indexes-find index h.nodes) given s made.0 made.1 bounds.root_below bounds.last-most []).0

      cells₀ : (h' : Head) × (header_of (sizes_of h.edition) cs₁ ≡ Ok h') × Alike (view_of (sizes_of h.edition) cs₁ h') (changed_view given (enters_empty s))
      cells₀ = cells-change (sizes_of h.edition) (sizes-wide h.edition) cs h (enters_empty s) (space-read cs h i).1 fits₀

      abbrev after₀ : View
      after₀ = view_of (sizes_of h.edition) cs₁ cells₀.0

      given-as₀ : form_given_by way (sizes_of h.edition) cs s [] (Ok h) ≡ cs₁
      unfolding form_given_by
      given-as₀ = sym (given-written search_children (sizes_of h.edition) cs h s [] (walk_to_by way given s [])) ∙ ap (change (sizes_of h.edition) cs h) decided₀

      nodes₁ : after₀.nodes ≡ given.nodes
      nodes₁ = cells₀.2.nodes-same ∙ (unfold changed_view in refl)

      answers₁ : after₀.answers ≡ given.answers + 1
      answers₁ = cells₀.2.answers-same ∙ (unfold changed_view in refl)

      subgoals₁ : after₀.subgoals ≡ given.subgoals
      subgoals₁ = cells₀.2.subgoals-same ∙ (unfold changed_view in refl)

      node₁ : after₀.node root ≡ with_link (given.node root) (given.answers + 1)
      unfolding changed_view
      node₁ = cells₀.2.node-same root bounds.root_below ∙ rw (eq-eqb root root refl)

      own₁ : (after₀.subgoal s).root ≡ root
      unfolding changed_view
      own₁ = ap (λ (y : Subgoal). y.root) (cells₀.2.subgoal-same s made.0 made.1) ∙ rw (eq-eqb s s refl)

      answer₁ : after₀.answer (given.answers + 1) ≡ record { leaf = root; subgoal = s; next = 0 }
      unfolding changed_view
      answer₁ = cells₀.2.answer-same (given.answers + 1) (omega arith) (omega arith) ∙ rw (eq-eqb (given.answers + 1) (given.answers + 1) refl)

      sound₁ : node_sound given.nodes (given.answers + 1) root (with_link (given.node root) (given.answers + 1)) ≡ true
      sound₁ = let b = node-bounds given.nodes given.answers root (given.node root) R₀.root-sound in
          node-sound given.nodes (given.answers + 1) root (with_link (given.node root) (given.answers + 1)) (record {
            child-follows = b.child-follows;
            sibling-follows = b.sibling-follows;
            parent-most = b.parent-most;
            link-most = omega arith;
          })

      rooted₁ : Rooted index h.nodes s root after₀
      rooted₁ = record {
        root_is = own₁;
        root_in = subst (λ (k : ℕ). root < k) (sym nodes₁) bounds.root_below;
        root-sound = ap (λ (k : ℕ). node_sound k after₀.answers root (after₀.node root)) nodes₁ ∙ ap (λ (k : ℕ). node_sound given.nodes k root (after₀.node root)) answers₁
            ∙ ap (node_sound given.nodes (given.answers + 1) root) node₁ ∙ sound₁;
        root-own = ap (λ (y : Node). y.parent) node₁ ∙ R₀.root-own;
        few = subst (λ (k : ℕ). h.nodes ≤ k) (sym nodes₁) (omega arith);
      }

      held₁ : HeldAt index h.nodes s root after₀ []
      held₁ =
          let link : (after₀.node root).link ≡ given.answers + 1 = ap (λ (y : Node). y.link) node₁ in
          record {
            leaf = root;
            at = unfold walk_from_by in refl;
            leaf-in = rooted₁.root_in;
            some = λ y. let n : given.answers + 1 ≡ 0 = sym link ∙ y in omega arith;
            most = omega (arith, answers₁, link);
            judged = ap (sound_answer after₀) link ∙ answer-made after₀ s (given.answers + 1) root answer₁ rooted₁.root_in made.0 (subst (λ (k : ℕ). s ≤ k) (sym subgoals₁) made.1);
            ends = ap (λ (a : ℕ). (after₀.answer a).leaf) link ∙ ap (λ (y : Answer). y.leaf) answer₁;
          }

      forms₁ : forms_given_by way (sizes_of h.edition) cs s ([] ∷ us) ≡ cs₁
      unfolding forms_given_by
      forms₁ =
          ap (λ (a : Header). forms_given_by way (sizes_of h.edition) (form_given_by way (sizes_of h.edition) cs s [] a) s us) (space-read cs h i).1
          ∙ ap (λ (bs : List ℕ). forms_given_by way (sizes_of h.edition) bs s us) given-as₀
          ∙ held_all us cs₁ cells₀.0 cells₀.1 rooted₁ (each-empty cs₁ cells₀.0 held₁ rest)

      kept_new : After₀
      kept_new = settled cs₁ cells₀.0 (ap (forms_given_by way (sizes_of h.edition) cs s) all ∙ forms₁) cells₀.1 rooted₁ (each-empty cs₁ cells₀.0 held₁ empties)

    kept-ground : After₀
    unfolding met_sound all_sound_by forms_given_by
    kept-ground = go ws refl empties
      where
        judged-first : (us : List Word) → ws ≡ [] ∷ us → met_sound given [] (whole root) ≡ true
        judged-first us y =
            sym (ap (met_sound given []) (to-root index h.nodes s root given R₀ [] ∙ at-root))
            ∙ (both_true (met_sound given [] (walk_to_by way given s [])) (all_sound_by way given s us) (subst (λ (vs : List Word). all_sound_by way given s vs ≡ true) y made.3.all_sound)).0

        first : (us : List Word) → ws ≡ [] ∷ us → Each (λ u. u ≡ []) us → After₀
        first us y qs = by_cases (eqb (given.node root).link 0)
            (λ b. kept_new us y qs (eqb-true _ _ b))
            (λ b. kept-old (eqb-false _ _ b) (rw b at (judged-first us y)))

        go : (us : List Word) → ws ≡ us → Each (λ u. u ≡ []) us → After₀
        go [] y none = settled cs h (ap (forms_given_by way (sizes_of h.edition) cs s) y) (space-read cs h i).1 R₀ (subst (Each (HeldAt index h.nodes s root given)) (sym y) none)
        go (u ∷ us) y (one q qs) = first us (y ∙ ap (λ (x : Word). x ∷ us) q) qs

  kept-all : After₀
  kept-all = by_cases (eqb (given.subgoal s).variables 0) (λ y. kept-ground (eqb-true _ _ y)) (λ y. kept-some (eqb-false _ _ y))

-- the way by the nodes that the header counts is the call's
pub join-keeps-all : JoinKeepsAll
join-keeps-all cs index h f g ps s ks ws i d =
    let same_way : search_indexed index h.nodes ≡ indexed_way index cs = ap (search_indexed index) (header-bounds cs h (sym i)).nodes-cell in
    let d' : decide_by (search_indexed index h.nodes) (coding_of h.edition) (view_of (sizes_of h.edition) cs h) (join f g ps s ks) ≡ enters_answers s ws =
    subst (λ (find : Finding). decide_by find (coding_of h.edition) (view_of (sizes_of h.edition) cs h) (join f g ps s ks) ≡ enters_answers s ws) (sym same_way) d in
    subst (λ (find : Finding). (h' : Head) × (space_header (space_step_by find cs (join f g ps s ks)).state ≡ Ok h') × AllKept find (view_of (sizes_of h.edition) (space_step_by find cs (join f g ps s ks)).state h') s ws) same_way
    (subst (λ (bs : List ℕ). (h' : Head) × (space_header bs ≡ Ok h') × AllKept (search_indexed index h.nodes) (view_of (sizes_of h.edition) bs h') s ws)
    (sym (step-state (search_indexed index h.nodes) cs h (join f g ps s ks) s ws i d')) (kept-all cs index h f g ps s ks ws i d'))
