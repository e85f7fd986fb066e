-- A law for each case of judging a node, and what is known of nodes that fit.
use Rattle.std.specs.Prelude.{None, Option, Some}
use Prim.Native.Nat.{ℕ, zero, suc, ◌+◌, ◌-◌, ◌<◌, ◌≤◌}
use mathlib.Core.Path.{◌≡◌, refl, sym, ap, ◌∙◌}
use mathlib.Core.Bool.{Bool, true, false, not, ◌&&◌}
use mathlib.Core.List.{List}
use native.Mathlib.Omega.{arith}
use native.Mathlib.Numerals.{add-one}
use lib.Dec.{eqb, leb}
use borrow.Author.Tests.{eq-eqb, ne_eqb, le-leb, lt-leb, leb-true, eqb-true, eqb-false}
use Rattle.basis.proofs.Tests.{strictly}
use Rattle.basis.specs.Choice.{pick}
use Rattle.basis.proofs.Cases.{by_cases}
use Rattle.basis.proofs.Tests.{true-not-false}
use Rattle.space.specs.Layout.{sizes, node_in}
use Rattle.space.specs.Judging.{node_sound, read_node}
use Rattle.space.specs.declared.Head.{Head}
use Rattle.space.specs.declared.Node.{Node}
use Rattle.space.proofs.JudgingLaws.{NodeBounds, node-bounds, node-sound, follows-within, read-node-sound, read-node-damaged}
use Rattle.trie.proofs.WalkLaws.{both_true}
use Rattle.store.specs.Views.{View}
use Rattle.store.specs.Clauses.{view_in}
use Rattle.store.specs.Building.{root_above, links_of, node_fit, nodes_fit}
use Rattle.trie.specs.Siblings.{parent_is}
use Rattle.indexing.specs.Parts.{Falling, link_fits, FitBefore, AllFit}

-- ---- the way up

-- it has reached node x; the steps suffice for the rest
pub record Climbing (at : ℕ → Node) (nodes n x : ℕ) : Type 0 where
  pub steps : ℕ
  pub same : root_above nodes at n ≡ root_above steps at x
  pub suffice : x < steps
  pub lower : x ≤ n

module _ (at : ℕ → Node) (nodes n : ℕ) where
  root-step : (k x : ℕ) → root_above (suc k) at x ≡ pick (eqb (at x).parent x) x (root_above k at (at x).parent)
  unfolding root_above
  root-step k x = refl

  pub climb-begin : n < nodes → Climbing at nodes n n
  climb-begin l = record { steps = nodes; same = refl; suffice = l; lower = omega arith }

  module _ {x : ℕ} (p : Climbing at nodes n x) (y : Node) (e : y ≡ at x) where
    one-step : p.steps ≡ suc (p.steps - 1)
    one-step = omega (arith, p.suffice)

    here : root_above nodes at n ≡ pick (eqb y.parent x) x (root_above (p.steps - 1) at y.parent)
    here = p.same ∙ ap (λ (k : ℕ). root_above k at x) one-step ∙ root-step (p.steps - 1) x ∙ rw e

    pub climb-ended : y.parent ≡ x → x ≡ root_above nodes at n
    climb-ended z = sym (here ∙ rw (eq-eqb y.parent x z))

    module _ (f : Falling at n) (z : y.parent ≡ x → ⊥) where
      pub climb-falls : y.parent < x
      climb-falls =
          let k : y.parent ≤ x = rw e (f x p.lower) in
          strictly y.parent x k z

      pub climb-on : Climbing at nodes n y.parent
      climb-on = record {
        steps = p.steps - 1;
        same = here ∙ rw (ne_eqb y.parent x z);
        suffice = omega (arith, climb-falls, p.suffice);
        lower = omega (arith, climb-falls, p.lower);
      }

-- ---- a link

module _ (v : View) (n link : ℕ) where
  picked_both : (b : Bool) → link ≤ v.subgoals → link ≤ v.answers → true ≡ leb link (pick b v.subgoals v.answers)
  picked_both true l m = sym (le-leb _ _ l)
  picked_both false l m = sym (le-leb _ _ m)

  picked-neither : (b : Bool) → v.subgoals < link → v.answers < link → false ≡ leb link (pick b v.subgoals v.answers)
  picked-neither true l m = sym (lt-leb _ _ l)
  picked-neither false l m = sym (lt-leb _ _ m)

  picked-subgoals : (b : Bool) → link ≤ v.subgoals → v.answers < link → b ≡ leb link (pick b v.subgoals v.answers)
  picked-subgoals true l m = sym (le-leb _ _ l)
  picked-subgoals false l m = sym (lt-leb _ _ m)

  picked-answers : (b : Bool) → v.subgoals < link → link ≤ v.answers → not b ≡ leb link (pick b v.subgoals v.answers)
  picked-answers true l m = sym (lt-leb _ _ l)
  picked-answers false l m = sym (le-leb _ _ m)

  pub link-both : link ≤ v.subgoals → link ≤ v.answers → true ≡ link_fits v n link
  unfolding link_fits
  link-both = picked_both (eqb (root_above v.nodes v.node n) 0)

  pub link-neither : v.subgoals < link → v.answers < link → false ≡ link_fits v n link
  unfolding link_fits
  link-neither = picked-neither (eqb (root_above v.nodes v.node n) 0)

  module _ (root : ℕ) (e : root ≡ root_above v.nodes v.node n) where
    pub link-subgoals : link ≤ v.subgoals → v.answers < link → eqb root 0 ≡ link_fits v n link
    unfolding link_fits
    link-subgoals l m = ap (λ (r : ℕ). eqb r 0) e ∙ picked-subgoals (eqb (root_above v.nodes v.node n) 0) l m

    pub link-answers : v.subgoals < link → link ≤ v.answers → not (eqb root 0) ≡ link_fits v n link
    unfolding link_fits
    link-answers l m = ap (λ (r : ℕ). not (eqb r 0)) e ∙ picked-answers (eqb (root_above v.nodes v.node n) 0) l m

links-most : (v : View) (n : ℕ) → links_of v n ≤ v.subgoals + v.answers
links-most v n = picked (eqb (root_above v.nodes v.node n) 0)
  where
    picked : (b : Bool) → pick b v.subgoals v.answers ≤ v.subgoals + v.answers
    picked true = omega arith
    picked false = omega arith

-- ---- a node

module _ (nodes links most n : ℕ) (y : Node) (l : links ≤ most) where
  sound-less : node_sound nodes most n y ≡ false → node_sound nodes links n y ≡ false
  sound-less e = by_cases (node_sound nodes links n y)
      (λ t.
      let b = node-bounds nodes links n y t in
      absurd (true-not-false (node-sound nodes most n y (record { child-follows = b.child-follows; sibling-follows = b.sibling-follows; parent-most = b.parent-most; link-most = omega (arith, b.link-most) })) (sym e)))
      (λ t. t)

  sound-link : node_sound nodes most n y ≡ true → node_sound nodes links n y ≡ leb y.link links
  sound-link e =
      let b = node-bounds nodes most n y e in
      by_cases (node_sound nodes links n y)
      (λ t. t ∙ sym (le-leb _ _ (node-bounds nodes links n y t).link-most))
      (λ t. by_cases (leb y.link links)
      (λ k. absurd (true-not-false (node-sound nodes links n y (record { child-follows = b.child-follows; sibling-follows = b.sibling-follows; parent-most = b.parent-most; link-most = leb-true y.link links k })) (sym t)))
      (λ k. t ∙ sym k))

module _ (v : View) (n : ℕ) where
  fit_is : node_fit v n ≡ (node_sound v.nodes (links_of v n) n (v.node n) && parent_is v.node (v.node n).child n && parent_is v.node (v.node n).sibling (v.node n).parent)
  unfolding node_fit parent_is
  fit_is = refl

  -- held to both counts together
  abbrev judged : Bool
  judged = node_sound v.nodes (v.subgoals + v.answers) n (v.node n)

  link-is : judged ≡ true → node_sound v.nodes (links_of v n) n (v.node n) ≡ link_fits v n (v.node n).link
  unfolding link_fits
  link-is = sound-link v.nodes (links_of v n) (v.subgoals + v.answers) n (v.node n) (links-most v n)

  pub fit-unsound : judged ≡ false → false ≡ node_fit v n
  fit-unsound e = sym (fit_is ∙ rw (sound-less v.nodes (links_of v n) (v.subgoals + v.answers) n (v.node n) (links-most v n) e))

  module _ (s : judged ≡ true) (y : Node) (e : y ≡ v.node n) where
    same-link : (b : Bool) → link_fits v n y.link ≡ b → node_sound v.nodes (links_of v n) n (v.node n) ≡ b
    same-link b k = link-is s ∙ ap (λ (x : Node). link_fits v n x.link) (sym e) ∙ k

    pub fit-link : link_fits v n y.link ≡ false → false ≡ node_fit v n
    fit-link k = sym (fit_is ∙ rw (same-link false k))

    module _ (k : link_fits v n y.link ≡ true) where
      pub fit-child : parent_is v.node y.child n ≡ false → false ≡ node_fit v n
      fit-child c = sym (fit_is ∙ rw (same-link true k, ← e, c))

      pub fit-sibling : parent_is v.node y.child n ≡ true → parent_is v.node y.sibling y.parent ≡ node_fit v n
      fit-sibling c = sym (fit_is ∙ rw (same-link true k, ← e, c))

  fit-bounds : node_fit v n ≡ true → NodeBounds v.nodes (links_of v n) n (v.node n)
  fit-bounds f = node-bounds _ _ _ _ (both_true _ _ (both_true _ _ (sym fit_is ∙ f)).0).0

-- ---- all nodes

module _ (v : View) where
  pub nodes-begin : nodes_fit v 0 ≡ true
  unfolding nodes_fit
  nodes-begin = refl

  nodes-step : (n : ℕ) → nodes_fit v (suc n) ≡ (nodes_fit v n && node_fit v n)
  unfolding nodes_fit
  nodes-step n = refl

  pub nodes-on : (n : ℕ) → nodes_fit v n ≡ true → node_fit v n ≡ true → nodes_fit v (n + 1) ≡ true
  nodes-on n e f = rw add-one (nodes-step n ∙ rw (e, f))

  pub nodes-below : (n i : ℕ) → nodes_fit v n ≡ true → i < n → node_fit v i ≡ true
  nodes-below zero i e l = absurd (omega arith)
  nodes-below (suc n) i e l =
      let b = both_true _ _ (sym (nodes-step n) ∙ e) in
      by_cases (eqb i n)
      (λ z. ap (node_fit v) (eqb-true i n z) ∙ b.1)
      (λ z. nodes-below n i b.0 (strictly i n (omega arith) (eqb-false i n z)))

  pub nodes-failed : (n i : ℕ) → i < n → node_fit v i ≡ false → false ≡ nodes_fit v n
  nodes-failed n i l f = by_cases (nodes_fit v n)
      (λ e. absurd (true-not-false (nodes-below n i e l) (sym f)))
      (λ e. sym e)

  pub nodes-ended : (n i : ℕ) → i ≤ n → n ≤ i → nodes_fit v i ≡ true → true ≡ nodes_fit v n
  nodes-ended n i l k e = let z : n ≡ i = omega arith in rw z (sym e)

-- ---- under a head

-- what a node that fits names
pub record Named (nodes n : ℕ) (y : Node) : Type 0 where
  pub child-within : y.child < nodes
  pub sibling-within : y.sibling < nodes
  pub parent-most : y.parent ≤ n

bounds-named : (nodes links n : ℕ) (y : Node) → n < nodes → NodeBounds nodes links n y → Named nodes n y
bounds-named nodes links n y l b = record {
  child-within = follows-within nodes n _ (omega arith) b.child-follows;
  sibling-within = follows-within nodes n _ (omega arith) b.sibling-follows;
  parent-most = b.parent-most;
}

module _ (cs : List ℕ) (h : Head) (n : ℕ) where
  abbrev Reads : Option Node → Type 0
  Reads r = r ≡ read_node h.nodes (h.subgoals + h.answers) (node_in sizes cs) n

  pub read-unfit : Reads None → false ≡ node_fit (view_in cs h) n
  read-unfit e = fit-unsound (view_in cs h) n (read-node-damaged _ _ _ _ e)

  module _ (y : Node) (e : Reads (Some y)) where
    pub read_is : y ≡ node_in sizes cs n
    read_is = (read-node-sound h.nodes (h.subgoals + h.answers) (node_in sizes cs) n e).0

    pub read-sound : node_sound h.nodes (h.subgoals + h.answers) n (node_in sizes cs n) ≡ true
    read-sound = (read-node-sound h.nodes (h.subgoals + h.answers) (node_in sizes cs) n e).1

    module _ (w : FitBefore cs h n) where
      pub read_named : Named h.nodes n y
      read_named = rw read_is (bounds-named h.nodes (h.subgoals + h.answers) n (node_in sizes cs n) w.1 (node-bounds _ _ _ _ read-sound))

      pub read-falling : Falling (node_in sizes cs) n
      read-falling i l = by_cases (eqb i n)
          (λ z. rw (eqb-true i n z) (node-bounds h.nodes (h.subgoals + h.answers) n (node_in sizes cs n) read-sound).parent-most)
          (λ z. (fit-bounds (view_in cs h) i (nodes-below (view_in cs h) n i w.2 (strictly i n l (eqb-false i n z)))).parent-most)

  pub fit-named : AllFit cs h → n < h.nodes → (y : Node) → y ≡ node_in sizes cs n → Named h.nodes n y
  fit-named w l y e =
      rw e (bounds-named h.nodes (links_of (view_in cs h) n) n (node_in sizes cs n) l
      (fit-bounds (view_in cs h) n (nodes-below (view_in cs h) h.nodes n w.1 l)))
