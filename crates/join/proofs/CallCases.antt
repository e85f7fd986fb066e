-- The join as a call, case by case: the records that it reads, the answers by the rule, by the sums and by the exact
-- needs, and the cells that it leaves.
use mathlib.Core.Path.{◌≡◌, refl, sym, ap, ◌∙◌, subst}
use mathlib.Core.Bool.{Bool, true, false, ◌&&◌}
use mathlib.Core.List.{List, []}
use Prim.Native.Nat.{ℕ, ◌+◌, ◌-◌, ◌^◌, ◌≤◌, ◌<◌}
use native.Mathlib.Omega.{arith}
use lib.Dec.{eqb, leb, ltb}
use borrow.Author.Tests.{leb-true, leb-false, ltb-true}
use Rattle.std.specs.Prelude.{Option, Some, None, Result, Ok, Err}
use Rattle.basis.specs.Choice.{pick}
use Rattle.basis.specs.Refusals.{number_of}
use Rattle.basis.specs.declared.refusals.Refusal.{Refusal}
use Rattle.basis.specs.declared.refusals.Refusal.TheVariants as refusal
use Rattle.basis.proofs.Cases.{by_cases}
use Rattle.basis.proofs.Tests.{at_most, true-not-false}
use Rattle.forms.specs.Stored.{stored_of}
use Rattle.plain.specs.Coding.{coding_of}
use Rattle.plain.specs.Requests.{join, lent, Reply, joined, refused}
use Rattle.space.specs.Layout.{sizes, node_in}
use Rattle.space.specs.Heading.{space_header, Header}
use Rattle.space.specs.Judging.{subgoal_sound, read_node, read_subgoal}
use Rattle.space.specs.Sound.{Bounds, SubgoalUsed, subgoal_under}
use Rattle.space.specs.declared.Head.{Head}
use Rattle.space.specs.declared.Node.{Node}
use Rattle.space.specs.declared.Subgoal.{Subgoal}
use Rattle.space.proofs.HeaderLaws.{header-bounds}
use Rattle.space.proofs.JudgingLaws.{read-node-sound, read-node-damaged, read-subgoal-sound, subgoal-bounds}
use Rattle.trie.specs.Walks.{Finding, root_sound}
use Rattle.trie.specs.Index.{search_indexed}
use Rattle.trie.proofs.SearchLaws.{Finds}
use Rattle.store.specs.Views.{answer_trie}
use Rattle.store.specs.Decisions.{sound_last, all_sound_by, nodes_needed_by, answers_needed_by}
use Rattle.store.specs.Calls.{used_answers, AnswersBy, AnswersIndexed}
use Rattle.store.specs.Clauses.{view_in, Held, AnswersUnder}
use Rattle.store.proofs.CallsCases.{steps-refused, steps-sound, way-counted}
use Rattle.store.proofs.CallsRecords.{read-subgoal-damaged}
use Rattle.store.proofs.AnswersLaws.{step-none}
use Rattle.agreement.proofs.Frame.{Framed, forms-framed}
use Rattle.pairing.specs.declared.Needs.{Needs}
use Rattle.join.specs.declared.Parties.{Parties}
use Rattle.pairing.specs.declared.Sides.{Sides}
use Rattle.pairing.specs.declared.Sums.{Sums}
use Rattle.pairing.specs.Counting.{all_forms, JoinReady, CountedOf, CountsForms, NeedsUpTo}
use Rattle.join.specs.Entering.{Enters}
use Rattle.join.specs.Joining.{JoinAnswer, is_number, join_asked, Numbered, PartiesIn, sides_of, Grounded, JoinsUnder, sums_fit, room_for, TellsRoom, SomeNew, Enterable, EntersAll}
use Rattle.join.proofs.EnterLaws.{sound-is}
use Rattle.join.proofs.JoinCases.{join-refused, first-unknown, second-unknown, target-unknown, first-damaged, second-damaged, target-damaged, root-damaged, ready, root-within, target-root, target-fit}
use Rattle.join.proofs.RoomCases.{too_long, forms-unsound, none-new, last-damaged, no-nodes, no-records, all-entered, sums-suffice}
use Rattle.join.proofs.RuleCases.{sums-nodes, sums-answers, room-nodes, room-answers, room-enough}

-- ---- the numbers and the records

number-bounds : (n s : ℕ) → is_number n s ≡ true → (1 ≤ s) × (s ≤ n)
unfolding is_number
number-bounds n s e = by_cases (ltb 0 s)
    (λ p. let l : 0 < s = ltb-true 0 s p in (omega arith, leb-true s n (sym (ap (λ (b : Bool). pick b (leb s n) false) p) ∙ e)))
    (λ p. absurd (true-not-false e (sym (ap (λ (b : Bool). pick b (leb s n) false) p))))

module _ (cs : List ℕ) (h : Head) (root : ℕ) where
  pub root-unsound : None ≡ read_node h.nodes h.answers (node_in sizes cs) root → false ≡ root_sound (answer_trie (view_in cs h)) root
  root-unsound e =
      ap (λ (b : Bool). b && eqb (node_in sizes cs root).parent root) (sym (read-node-damaged h.nodes h.answers (node_in sizes cs) root e))

  pub root-read : (y : Node) → Some y ≡ read_node h.nodes h.answers (node_in sizes cs) root → eqb y.parent root ≡ root_sound (answer_trie (view_in cs h)) root
  root-read y e =
      let r = read-node-sound h.nodes h.answers (node_in sizes cs) root e in
      ap (λ (x : Node). eqb x.parent root) r.0 ∙ ap (λ (b : Bool). b && eqb (node_in sizes cs root).parent root) (sym r.1)

module _ (cs : List ℕ) (h : Head) (s : ℕ) where
  pub number-used : Ok h ≡ space_header cs → is_number h.subgoals s ≡ true → SubgoalUsed cs h s
  number-used e i = let b = number-bounds h.subgoals s i in (header-bounds cs h e, b.0, b.1)

  module _ (g : Subgoal) (r : Some g ≡ read_subgoal h.nodes h.answers (subgoal_under cs h) s) where
    subgoal-is : g ≡ subgoal_under cs h s
    subgoal-is = (read-subgoal-sound h.nodes h.answers (subgoal_under cs h) s r).0

    subgoal-whole : subgoal_sound h.nodes h.answers (subgoal_under cs h s) ≡ true
    subgoal-whole = (read-subgoal-sound h.nodes h.answers (subgoal_under cs h) s r).1

    pub read-sound : subgoal_sound h.nodes h.answers g ≡ true
    read-sound = ap (subgoal_sound h.nodes h.answers) subgoal-is ∙ subgoal-whole

    pub read-root : g.root < h.nodes
    read-root = (subgoal-bounds h.nodes h.answers g read-sound).root_below

    read_held : Ok h ≡ space_header cs → is_number h.subgoals s ≡ true → Held cs h s g
    read_held e i =
        let b = number-bounds h.subgoals s i in
        let l = subgoal-bounds h.nodes h.answers g read-sound in
        (header-bounds cs h e, b.0, b.1, subgoal-is, l.last-most, l.root_below)

module _ (find : Finding) (cs : List ℕ) (h : Head) (f g : ℕ) (ps : List ℕ) (s : ℕ) (ks : List ℕ) where
  pub first-none : is_number h.subgoals f ≡ false → AnswersUnder find cs h (join f g ps s ks) (refused 7) cs
  first-none e = join-refused find cs h f g ps s ks 7 (first-unknown find (coding_of h.edition) (view_in cs h) f g ps s ks e)

  module _ (i : is_number h.subgoals f ≡ true) where
    pub second_none : is_number h.subgoals g ≡ false → AnswersUnder find cs h (join f g ps s ks) (refused 7) cs
    second_none e = join-refused find cs h f g ps s ks 7 (second-unknown find (coding_of h.edition) (view_in cs h) f g ps s ks i e)

    pub target_none : is_number h.subgoals g ≡ true → is_number h.subgoals s ≡ false → AnswersUnder find cs h (join f g ps s ks) (refused 7) cs
    target_none j e = join-refused find cs h f g ps s ks 7 (target-unknown find (coding_of h.edition) (view_in cs h) f g ps s ks i j e)

  module _ (n : Numbered cs h (record { first = f; second = g; target = s })) where
    pub first-unread : None ≡ read_subgoal h.nodes h.answers (subgoal_under cs h) f → AnswersUnder find cs h (join f g ps s ks) (refused 9) cs
    first-unread e =
        join-refused find cs h f g ps s ks 9
        (first-damaged find (coding_of h.edition) (view_in cs h) f g ps s ks n.1 n.2 n.3 (read-subgoal-damaged h.nodes h.answers (subgoal_under cs h) f e))

    module _ (x : Subgoal) (a : Some x ≡ read_subgoal h.nodes h.answers (subgoal_under cs h) f) where
      pub second-unread : None ≡ read_subgoal h.nodes h.answers (subgoal_under cs h) g → AnswersUnder find cs h (join f g ps s ks) (refused 9) cs
      second-unread e =
          join-refused find cs h f g ps s ks 9
          (second-damaged find (coding_of h.edition) (view_in cs h) f g ps s ks n.1 n.2 n.3 (subgoal-whole cs h f x a) (read-subgoal-damaged h.nodes h.answers (subgoal_under cs h) g e))

      module _ (y : Subgoal) (b : Some y ≡ read_subgoal h.nodes h.answers (subgoal_under cs h) g) where
        pub target-unread : None ≡ read_subgoal h.nodes h.answers (subgoal_under cs h) s → AnswersUnder find cs h (join f g ps s ks) (refused 9) cs
        target-unread e =
            join-refused find cs h f g ps s ks 9
            (target-damaged find (coding_of h.edition) (view_in cs h) f g ps s ks n.1 n.2 n.3 (subgoal-whole cs h f x a) (subgoal-whole cs h g y b) (read-subgoal-damaged h.nodes h.answers (subgoal_under cs h) s e))

        module _ (t : Subgoal) (d : Some t ≡ read_subgoal h.nodes h.answers (subgoal_under cs h) s) where
          pub root-unread : root_sound (answer_trie (view_in cs h)) t.root ≡ false → AnswersUnder find cs h (join f g ps s ks) (refused 9) cs
          root-unread e =
              join-refused find cs h f g ps s ks 9
              (root-damaged find (coding_of h.edition) (view_in cs h) f g ps s ks n.1 n.2 n.3 (subgoal-whole cs h f x a) (subgoal-whole cs h g y b) (subgoal-whole cs h s t d)
              (subst (λ (q : Subgoal). root_sound (answer_trie (view_in cs h)) q.root ≡ false) (subgoal-is cs h s t d) e))

          pub parties-in : root_sound (answer_trie (view_in cs h)) t.root ≡ true → PartiesIn cs h (record { first = f; f = x; second = g; g = y; target = s; t = t })
          parties-in e = record {
            space = sym n.0;
            first = read_held cs h f x a n.0 n.1;
            first-sound = read-sound cs h f x a;
            second = read_held cs h g y b n.0 n.2;
            second-sound = read-sound cs h g y b;
            target = read_held cs h s t d n.0 n.3;
            target_sound = read-sound cs h s t d;
            rooted = e;
          }

-- ---- the public call

module _ (find : Finding) (cs : List ℕ) (f g : ℕ) (ps : List ℕ) (s : ℕ) (ks : List ℕ) where
  pub join-header : (r : Refusal) → Err r ≡ space_header cs → AnswersBy find cs (join f g ps s ks) (refused (number_of r)) [] cs
  unfolding lent
  join-header r e =
      let k = steps-refused find cs (join f g ps s ks) r e in
      (k.0, step-none find cs (join f g ps s ks) refl, k.1)

  -- the numbers came as cells
  join_cells : (h : Head) (r : Reply) (cs' : List ℕ) (f' g' s' : ℕ) → f' ≡ f → g' ≡ g → s' ≡ s → Ok h ≡ space_header cs
      → AnswersUnder find cs h (join f' g' ps s' ks) r cs' → AnswersBy find cs (join f g ps s ks) r [] cs'
  unfolding lent
  join_cells h r cs' f' g' s' i j l e u =
      let k = steps-sound find cs h (join f g ps s ks) r cs' e
      (subst (λ (q : ℕ). AnswersUnder find cs h (join f g ps q ks) r cs') l
      (subst (λ (q : ℕ). AnswersUnder find cs h (join f q ps s' ks) r cs') j
      (subst (λ (q : ℕ). AnswersUnder find cs h (join q g' ps s' ks) r cs') i u))) in
      (k.0, step-none find cs (join f g ps s ks) refl, k.1)

-- with an index
pub join-counted : (index cs : List ℕ) (f g : ℕ) (ps : List ℕ) (s : ℕ) (ks : List ℕ) (h : Head) (r : Reply) (cs' : List ℕ) (f' g' s' : ℕ) → f' ≡ f → g' ≡ g → s' ≡ s → Ok h ≡ space_header cs
    → AnswersUnder (search_indexed index h.nodes) cs h (join f' g' ps s' ks) r cs' → AnswersIndexed index cs (join f g ps s ks) r [] cs'
join-counted index cs f g ps s ks h r cs' f' g' s' i j l e u =
    subst (λ (find : Finding). AnswersBy find cs (join f g ps s ks) r [] cs') (way-counted index cs h e)
    (join_cells (search_indexed index h.nodes) cs f g ps s ks h r cs' f' g' s' i j l e u)

-- ---- sources that the rule lets through

module _ (cs : List ℕ) (h : Head) (y : Parties) (p : PartiesIn cs h y) where
  pub parties-bounds : Bounds cs h
  parties-bounds = p.first.0

  pub first-within : y.f.first ≤ h.answers
  first-within = (subgoal-bounds h.nodes h.answers y.f p.first-sound).first-most

  pub second-within : y.g.first ≤ h.answers
  second-within = (subgoal-bounds h.nodes h.answers y.g p.second-sound).first-most

  pub target-few : y.t.variables ≤ 32
  target-few = (subgoal-bounds h.nodes h.answers y.t p.target_sound).variables-most

  pub target-last : Bounds cs h × (y.t.last ≤ h.answers) × (y.t.last ≡ (subgoal_under cs h y.target).last)
  target-last = (parties-bounds, p.target.4, ap (λ (r : Subgoal). r.last) p.target.3)

module _ (cs : List ℕ) (h : Head) (y : Parties) (ps ks : List ℕ) (g : Grounded cs h y ps ks) (x : Sides) (i : x ≡ sides_of h y) where
  pub may-count : JoinReady cs x ps ks × (y.t.root < x.h.nodes)
  may-count = subst (λ (z : Sides). JoinReady cs z ps ks × (y.t.root < z.h.nodes)) (sym i) (ready cs h y ps ks g, root-within cs h y ps ks g)

  -- by the nodes that stand
  module _ (way : ℕ → Finding) (r : Option Sums) (n : CountsForms (way x.h.nodes) cs x y.t.root ps ks r) where
    counted_of : CountedOf (way h.nodes) (view_in cs h) y.target (stored_of h.edition) (all_forms cs (sides_of h y) ps ks) r
    counted_of = subst (λ (z : Sides). CountsForms (way z.h.nodes) cs z y.t.root ps ks r) i n y.target (target-root cs h y ps ks g)

    pub ground-long : r ≡ None → AnswersUnder (way h.nodes) cs h (join_asked y ps ks) (refused 4) cs
    ground-long e =
        too_long (way h.nodes) cs h y ps ks g
        (subst (CountedOf (way h.nodes) (view_in cs h) y.target (stored_of h.edition) (all_forms cs (sides_of h y) ps ks)) e counted_of)

    module _ (sums : Sums) (e : r ≡ Some sums) where
      summed-of : CountedOf (way h.nodes) (view_in cs h) y.target (stored_of h.edition) (all_forms cs (sides_of h y) ps ks) (Some sums)
      summed-of = subst (CountedOf (way h.nodes) (view_in cs h) y.target (stored_of h.edition) (all_forms cs (sides_of h y) ps ks)) e counted_of

      pub ground-unsound : sums.sound ≡ false → AnswersUnder (way h.nodes) cs h (join_asked y ps ks) (refused 9) cs
      ground-unsound d = forms-unsound (way h.nodes) cs h y ps ks g summed-of.0 (sym summed-of.1 ∙ d)

      module _ (d : sums.sound ≡ true) where
        pub ground-none : sums.lacking ≡ 0 → AnswersUnder (way h.nodes) cs h (join_asked y ps ks) (joined 0) cs
        ground-none z =
            let b = parties-bounds cs h y g.parties in
            none-new (way h.nodes) cs h y ps ks g summed-of.0 (sym summed-of.1 ∙ d) (sym summed-of.3 ∙ z) b.nodes-within b.answers-within b.answers-cell

        pub ground-some : (sums.lacking ≡ 0 → ⊥) → SomeNew (way h.nodes) cs h y ps ks sums
        ground-some z = record { grounded = g; summed = summed-of; sound = d; some = z }

-- ---- forms of which some are new

module _ (find : Finding) (cs : List ℕ) (x : Sides) (root : ℕ) (ps ks : List ℕ) (y : Needs) (n : NeedsUpTo (x.h.node_capacity - x.h.nodes) find cs x root ps ks y) where
  pub fills-nodes : x.h.node_capacity - x.h.nodes < y.nodes → TellsRoom find cs x root ps ks (Err refusal.Nodes)
  fills-nodes l s e =
      room-nodes x.h (nodes_needed_by find (view_in cs x.h) s [] (all_forms cs x ps ks)) (answers_needed_by find (view_in cs x.h) s [] (all_forms cs x ps ks))
      (let m = (n s e).0 in omega arith)

  module _ (k : y.nodes ≤ x.h.node_capacity - x.h.nodes) where
    pub fills-answers : x.h.answer_capacity - x.h.answers < y.answers → TellsRoom find cs x root ps ks (Err refusal.RecordsLeft)
    fills-answers l s e =
        room-answers x.h (nodes_needed_by find (view_in cs x.h) s [] (all_forms cs x ps ks)) (answers_needed_by find (view_in cs x.h) s [] (all_forms cs x ps ks))
        (subst (λ (i : ℕ). i ≤ x.h.node_capacity - x.h.nodes) ((n s e).1 k).0 k)
        (subst (λ (i : ℕ). x.h.answer_capacity - x.h.answers < i) ((n s e).1 k).1 l)

    pub fills-none : y.answers ≤ x.h.answer_capacity - x.h.answers → TellsRoom find cs x root ps ks (Ok tt)
    fills-none l s e =
        room-enough x.h (nodes_needed_by find (view_in cs x.h) s [] (all_forms cs x ps ks)) (answers_needed_by find (view_in cs x.h) s [] (all_forms cs x ps ks))
        (subst (λ (i : ℕ). i ≤ x.h.node_capacity - x.h.nodes) ((n s e).1 k).0 k)
        (subst (λ (i : ℕ). i ≤ x.h.answer_capacity - x.h.answers) ((n s e).1 k).1 l)

-- what is let through is not refused, and what is refused is refused once
ok-not-err : {r : Refusal} → ◌≡◌ {A = Result Unit Refusal} (Ok tt) (Err r) → ⊥
ok-not-err e = cc

err-is : {r j : Refusal} → ◌≡◌ {A = Result Unit Refusal} (Err r) (Err j) → r ≡ j
err-is e = cc

pub sums-room : (cs : List ℕ) (h : Head) → Bounds cs h
    → ((h.nodes ≤ h.node_capacity) × (h.answers ≤ h.answer_capacity)) × ((h.node_capacity < 2 ^ 32) × (h.answer_capacity < 2 ^ 32))
sums-room cs h b = ((b.nodes-within, b.answers-within), (omega (arith, b.nodes-most), omega (arith, b.answers-most)))

fit_parts : (h : Head) (y : Sums) → sums_fit h y ≡ true → (y.missing ≤ h.node_capacity - h.nodes) × (y.lacking ≤ h.answer_capacity - h.answers)
fit_parts h y e =
    let m : y.missing ≤ h.node_capacity - h.nodes = at_most y.missing (h.node_capacity - h.nodes) (λ l. true-not-false e (sums-nodes h y l)) in
    (m, leb-true y.lacking (h.answer_capacity - h.answers) (sums-answers h y m ∙ e))

room-parts : (h : Head) (nodes answers : ℕ) → Ok tt ≡ room_for h nodes answers → (nodes ≤ h.node_capacity - h.nodes) × (answers ≤ h.answer_capacity - h.answers)
room-parts h nodes answers e =
    let m : nodes ≤ h.node_capacity - h.nodes = at_most nodes (h.node_capacity - h.nodes) (λ l. ok-not-err (e ∙ sym (room-nodes h nodes answers l))) in
    (m, at_most answers (h.answer_capacity - h.answers) (λ l. ok-not-err (e ∙ sym (room-answers h nodes answers m l))))

module _ (way : ℕ → Finding) (cs : List ℕ) (h : Head) (y : Parties) (ps ks : List ℕ) (sums : Sums) (n : SomeNew (way h.nodes) cs h y ps ks sums) where
  pub new-bounds : Bounds cs h
  new-bounds = parties-bounds cs h y n.grounded.parties

  all_sound : all_sound_by (way h.nodes) (view_in cs h) y.target (all_forms cs (sides_of h y) ps ks) ≡ true
  all_sound = sym n.summed.1 ∙ n.sound

  pub new-last : sound_last (view_in cs h) y.target ≡ false → AnswersUnder (way h.nodes) cs h (join_asked y ps ks) (refused 9) cs
  new-last e = last-damaged (way h.nodes) cs h y ps ks n.grounded n.summed.0 all_sound (λ q. n.some (n.summed.3 ∙ q)) e

  module _ (x : Sides) (i : x ≡ sides_of h y) where
    pub may-enter : Enterable cs x y.target ps ks
    may-enter = subst (λ (z : Sides). Enterable cs z y.target ps ks) (sym i) (record {
      space = n.grounded.parties.space;
      ready = ready cs h y ps ks n.grounded;
      fit = n.summed.0;
      target = target-fit cs h y ps ks n.grounded;
    })

    module _ (l : sound_last (view_in cs h) y.target ≡ true) where
      entered_all : h.nodes + nodes_needed_by (way h.nodes) (view_in cs h) y.target [] (all_forms cs (sides_of h y) ps ks) ≤ h.node_capacity
          → h.answers + answers_needed_by (way h.nodes) (view_in cs h) y.target [] (all_forms cs (sides_of h y) ps ks) ≤ h.answer_capacity
          → (r : JoinAnswer) (cs' : List ℕ) → EntersAll (way x.h.nodes) cs x y.target ps ks r cs' → JoinsUnder (way h.nodes) cs h y ps ks r cs'
      entered_all a b r cs' e =
          let d : EntersAll (way h.nodes) cs (sides_of h y) y.target ps ks r cs' = subst (λ (z : Sides). EntersAll (way z.h.nodes) cs z y.target ps ks r cs') i e in
          subst (λ (q : Reply). AnswersUnder (way h.nodes) cs h (join_asked y ps ks) q cs') (sym d.1)
          (all-entered (way h.nodes) cs h y ps ks n.grounded n.summed.0 all_sound l a b (used_answers cs' - h.answers) cs' d.0 refl)

      pub new-by-sums : sums_fit h sums ≡ true → (r : JoinAnswer) (cs' : List ℕ) → EntersAll (way x.h.nodes) cs x y.target ps ks r cs' → JoinsUnder (way h.nodes) cs h y ps ks r cs'
      new-by-sums e =
          let f = fit_parts h sums e in
          let b = new-bounds in
          let m = sums-suffice (way h.nodes) cs h y ps ks n.grounded n.summed.0 all_sound l
          (subst (λ (k : ℕ). k ≤ h.node_capacity - h.nodes) n.summed.2 f.0)
          (subst (λ (k : ℕ). k ≤ h.answer_capacity - h.answers) n.summed.3 f.1)
          b.nodes-within b.answers-within in
          entered_all m.0 m.1

      module _ (k : Result Unit Refusal) (w : TellsRoom (way x.h.nodes) cs x y.t.root ps ks k) where
        room-is : k ≡ room_for h (nodes_needed_by (way h.nodes) (view_in cs h) y.target [] (all_forms cs (sides_of h y) ps ks)) (answers_needed_by (way h.nodes) (view_in cs h) y.target [] (all_forms cs (sides_of h y) ps ks))
        room-is = subst (λ (z : Sides). TellsRoom (way z.h.nodes) cs z y.t.root ps ks k) i w y.target (target-root cs h y ps ks n.grounded)

        pub new-exactly : k ≡ Ok tt → (r : JoinAnswer) (cs' : List ℕ) → EntersAll (way x.h.nodes) cs x y.target ps ks r cs' → JoinsUnder (way h.nodes) cs h y ps ks r cs'
        new-exactly z =
            let m = room-parts h (nodes_needed_by (way h.nodes) (view_in cs h) y.target [] (all_forms cs (sides_of h y) ps ks)) (answers_needed_by (way h.nodes) (view_in cs h) y.target [] (all_forms cs (sides_of h y) ps ks)) (sym z ∙ room-is) in
            let b = new-bounds in
            entered_all (omega (arith, m.0, b.nodes-within)) (omega (arith, m.1, b.answers-within))

        refused-at : (r j : Refusal) → r ≡ j → AnswersUnder (way h.nodes) cs h (join_asked y ps ks) (refused (number_of j)) cs → AnswersUnder (way h.nodes) cs h (join_asked y ps ks) (refused (number_of r)) cs
        refused-at r j e u = subst (λ (q : Refusal). AnswersUnder (way h.nodes) cs h (join_asked y ps ks) (refused (number_of q)) cs) (sym e) u

        pub new-full : (r : Refusal) → k ≡ Err r → AnswersUnder (way h.nodes) cs h (join_asked y ps ks) (refused (number_of r)) cs
        new-full r z =
            let b = new-bounds in
            by_cases (leb (nodes_needed_by (way h.nodes) (view_in cs h) y.target [] (all_forms cs (sides_of h y) ps ks)) (h.node_capacity - h.nodes))
            (λ t.
            let m : nodes_needed_by (way h.nodes) (view_in cs h) y.target [] (all_forms cs (sides_of h y) ps ks) ≤ h.node_capacity - h.nodes = leb-true _ _ t in
            by_cases (leb (answers_needed_by (way h.nodes) (view_in cs h) y.target [] (all_forms cs (sides_of h y) ps ks)) (h.answer_capacity - h.answers))
            (λ u. absurd (ok-not-err (room-enough h _ _ m (leb-true _ _ u) ∙ sym room-is ∙ z)))
            (λ u.
            let o : h.answer_capacity - h.answers < answers_needed_by (way h.nodes) (view_in cs h) y.target [] (all_forms cs (sides_of h y) ps ks) = leb-false _ _ u in
            refused-at r refusal.RecordsLeft (err-is (sym z ∙ room-is ∙ sym (room-answers h _ _ m o)))
            (no-records (way h.nodes) cs h y ps ks n.grounded n.summed.0 all_sound l (omega (arith, m, b.nodes-within)) (omega (arith, o, b.answers-within)))))
            (λ t.
            let o : h.node_capacity - h.nodes < nodes_needed_by (way h.nodes) (view_in cs h) y.target [] (all_forms cs (sides_of h y) ps ks) = leb-false _ _ t in
            refused-at r refusal.Nodes (err-is (sym z ∙ room-is ∙ sym (room-nodes h _ _ o)))
            (no-nodes (way h.nodes) cs h y ps ks n.grounded n.summed.0 all_sound l (omega (arith, o, b.nodes-within))))

-- ---- all forms were entered

module _ {find : Finding} (finds : Finds find) (cs : List ℕ) (x : Sides) (s : ℕ) (ps ks : List ℕ) (n : Enterable cs x s ps ks) (cs' : List ℕ) (e : Enters find cs x s ps ks cs') where
  framed : Framed x.h.edition s cs x.h cs'
  framed =
      subst (Framed x.h.edition s cs x.h) (sym e)
      (forms-framed finds cs x.h n.space s n.target.low n.target.high n.target.root_in n.target.last-in (all_forms cs x ps ks))

  pub entered-unsound : (r : Refusal) → Err r ≡ space_header cs' → ⊥
  entered-unsound r d = let q : ◌≡◌ {A = Header} (Err r) (Ok framed.head) = d ∙ framed.space in cc

  module _ (h' : Head) (d : Ok h' ≡ space_header cs') where
    pub entered-bounds : Bounds cs' h'
    entered-bounds = header-bounds cs' h' d

    pub entered-more : x.h.answers ≤ h'.answers
    entered-more =
        let is : framed.head ≡ h' = sound-is (sym framed.space ∙ sym d) in
        subst (λ (k : Head). x.h.answers ≤ k.answers) is framed.view.answers-grow

    pub entered-said : EntersAll find cs x s ps ks (Ok (h'.answers - x.h.answers)) cs'
    entered-said = (e, ap (λ (k : ℕ). joined (k - x.h.answers)) entered-bounds.answers-cell)
