-- First children where every node is whole: the way down, and a law for each case of the test on the way up.
use Prim.Native.Nat.{ℕ, zero, suc, ◌+◌, ◌-◌, ◌<◌, ◌≤◌}
use mathlib.Core.Path.{◌≡◌, refl, sym, ap, ◌∙◌}
use mathlib.Core.Bool.{true, false, ◌&&◌}
use native.Mathlib.Omega.{arith}
use lib.Dec.{eqb, leb}
use borrow.Author.Tests.{eq-eqb, ne_eqb, le-leb, lt-leb}
use Rattle.basis.specs.Choice.{pick}
use Rattle.plain.specs.Coding.{coding_of}
use Rattle.space.specs.Layout.{sizes, node_in}
use Rattle.space.specs.declared.tables.Table.{Table}
use Rattle.space.specs.declared.Node.{Node}
use Rattle.space.proofs.JudgingLaws.{follows-rises, follows-within}
use Rattle.store.specs.Clauses.{view_at}
use Rattle.agreement.specs.Whole.{first_leaf, led_up}
use Rattle.agreement.proofs.WholeTests.{every-below, node-local, NodeLocal}
use Rattle.integrity.specs.Tests.{node_test, NodesWhole, LeafReached}

module _ (t : Table) (W : NodesWhole t t.head.nodes) (j : ℕ) (l : j < t.head.nodes) (y : Node) (e : y ≡ node_in sizes t.cells.now j) where
  local : NodeLocal (coding_of t.head.edition) (view_at t) j
  local = node-local (coding_of t.head.edition) (view_at t) j (every-below (node_test t) t.head.nodes W j l)

  -- a child rises, a parent does not
  pub child-rises : (y.child ≡ 0 → ⊥) → (j < y.child) × (y.child < t.head.nodes)
  child-rises ne =
      let f = local.judged.child-follows in
      let x : y.child ≡ ((view_at t).node j).child = ap (λ (z : Node). z.child) e in
      let a = follows-rises t.head.nodes j ((view_at t).node j).child f (λ z. ne (x ∙ z)) in
      let b = follows-within t.head.nodes j ((view_at t).node j).child (omega arith) f in
      (omega arith, omega arith)

  pub parent-falls : y.parent < t.head.nodes
  parent-falls =
      let f = local.judged.parent-most in
      let x : y.parent ≡ ((view_at t).node j).parent = ap (λ (z : Node). z.parent) e in
      omega arith

-- ---- down

-- the way from i has come to j, and so many steps would end it
pub record Descending (t : Table) (i j : ℕ) : Type 0 where
  pub inside : j < t.head.nodes
  pub steps : ℕ
  pub enough : t.head.nodes ≤ j + steps
  pub same : first_leaf (view_at t).node t.head.nodes i ≡ first_leaf (view_at t).node steps j

leaf-step : (nd : ℕ → Node) (k j : ℕ) → 0 < k → ((nd j).child ≡ 0 → ⊥) → first_leaf nd k j ≡ first_leaf nd (k - 1) (nd j).child
unfolding first_leaf
leaf-step nd zero j h ne = absurd (omega arith)
leaf-step nd (suc k) j h ne = rw (ne_eqb _ _ ne) (ap (λ (m : ℕ). first_leaf nd m (nd j).child) (less k))
  where
    less : (k : ℕ) → k ≡ suc k - 1
    less k = omega arith

leaf-end : (nd : ℕ → Node) (k j : ℕ) → (nd j).child ≡ 0 → first_leaf nd k j ≡ j
unfolding first_leaf
leaf-end nd zero j z = refl
leaf-end nd (suc k) j z = rw (eq-eqb _ _ z)

module _ (t : Table) (i : ℕ) where
  pub descending-begin : i < t.head.nodes → Descending t i i
  descending-begin l = record { inside = l; steps = t.head.nodes; enough = omega arith; same = refl }

  module _ {j : ℕ} (d : Descending t i j) (y : Node) (e : y ≡ node_in sizes t.cells.now j) where
    pub descending-ended : y.child ≡ 0 → LeafReached t i j
    descending-ended z = (sym (d.same ∙ leaf-end (view_at t).node d.steps j (sym (ap (λ (x : Node). x.child) e) ∙ z)), d.inside)

    pub descending-on : NodesWhole t t.head.nodes → (y.child ≡ 0 → ⊥) → Descending t i y.child
    descending-on W ne =
        let r = child-rises t W j d.inside y e ne in
        let x : y.child ≡ ((view_at t).node j).child = ap (λ (z : Node). z.child) e in
        let s : first_leaf (view_at t).node d.steps j ≡ first_leaf (view_at t).node (d.steps - 1) y.child =
        leaf-step (view_at t).node d.steps j (omega (arith, d.inside, d.enough)) (λ z. ne (x ∙ z)) ∙ ap (first_leaf (view_at t).node (d.steps - 1)) (sym x) in
        record { inside = r.1; steps = d.steps - 1; enough = omega (arith, d.enough, r.0); same = d.same ∙ s }

-- ---- up

module _ (t : Table) (s k n : ℕ) (y : Node) (e : y ≡ node_in sizes t.cells.now n) (x : Node) (f : x ≡ node_in sizes t.cells.now y.parent) where
  up_is : led_up (coding_of t.head.edition) (view_at t) (suc k) s n ≡ pick (eqb x.parent y.parent) true (leb (node_in sizes t.cells.now (first_leaf (view_at t).node t.head.nodes y.parent)).link s && led_up (coding_of t.head.edition) (view_at t) k s y.parent)
  unfolding led_up
  up_is = rw (f, e)

  pub up_root : x.parent ≡ y.parent → true ≡ led_up (coding_of t.head.edition) (view_at t) (suc k) s n
  up_root z = rw (up_is, eq-eqb _ _ z)

  module _ (ne : x.parent ≡ y.parent → ⊥) (leaf : ℕ) (l : leaf ≡ first_leaf (view_at t).node t.head.nodes y.parent) (z : Node) (g : z ≡ node_in sizes t.cells.now leaf) where
    link-is : (node_in sizes t.cells.now (first_leaf (view_at t).node t.head.nodes y.parent)).link ≡ z.link
    link-is = ap (λ (i : ℕ). (node_in sizes t.cells.now i).link) (sym l) ∙ sym (ap (λ (w : Node). w.link) g)

    pub up_above : s < z.link → false ≡ led_up (coding_of t.head.edition) (view_at t) (suc k) s n
    up_above a = rw (up_is, ne_eqb _ _ ne, link-is, lt-leb z.link s a)

    pub up-on : z.link ≤ s → led_up (coding_of t.head.edition) (view_at t) (suc k) s n ≡ led_up (coding_of t.head.edition) (view_at t) k s y.parent
    up-on a = rw (up_is, ne_eqb _ _ ne, link-is, le-leb z.link s a)

-- the way up from i has come to n, and so many steps are left
pub record Climbing (t : Table) (s i n left : ℕ) : Type 0 where
  pub inside : n < t.head.nodes
  pub few : left ≤ 383
  pub same : led_up (coding_of t.head.edition) (view_at t) 383 s i ≡ led_up (coding_of t.head.edition) (view_at t) left s n

module _ (t : Table) (s i : ℕ) where
  pub climbing-begin : i < t.head.nodes → Climbing t s i i 383
  climbing-begin l = record { inside = l; few = omega arith; same = refl }

  pub climbing-ended : {n left : ℕ} → Climbing t s i n left → left ≡ 0 → true ≡ led_up (coding_of t.head.edition) (view_at t) 383 s i
  unfolding led_up
  climbing-ended {n} {left} c z = sym (c.same ∙ ap (λ (k : ℕ). led_up (coding_of t.head.edition) (view_at t) k s n) z)

  module _ {n left : ℕ} (c : Climbing t s i n left) (some : left ≡ 0 → ⊥) (y : Node) (e : y ≡ node_in sizes t.cells.now n) (x : Node) (f : x ≡ node_in sizes t.cells.now y.parent) where
    steps : left ≡ suc (left - 1)
    steps = omega arith

    same-steps : led_up (coding_of t.head.edition) (view_at t) 383 s i ≡ led_up (coding_of t.head.edition) (view_at t) (suc (left - 1)) s n
    same-steps = c.same ∙ ap (λ (k : ℕ). led_up (coding_of t.head.edition) (view_at t) k s n) steps

    pub climbing-root : x.parent ≡ y.parent → true ≡ led_up (coding_of t.head.edition) (view_at t) 383 s i
    climbing-root z = up_root t s (left - 1) n y e x f z ∙ sym same-steps

    module _ (ne : x.parent ≡ y.parent → ⊥) (leaf : ℕ) (l : leaf ≡ first_leaf (view_at t).node t.head.nodes y.parent) (z : Node) (g : z ≡ node_in sizes t.cells.now leaf) where
      pub climbing-above : s < z.link → false ≡ led_up (coding_of t.head.edition) (view_at t) 383 s i
      climbing-above a = up_above t s (left - 1) n y e x f ne leaf l z g a ∙ sym same-steps

      pub climbing-on : NodesWhole t t.head.nodes → z.link ≤ s → Climbing t s i y.parent (left - 1)
      climbing-on W a = record {
        inside = parent-falls t W n c.inside y e;
        few = omega (arith, c.few);
        same = same-steps ∙ up-on t s (left - 1) n y e x f ne leaf l z g a;
      }
