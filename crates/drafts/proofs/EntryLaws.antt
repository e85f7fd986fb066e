-- An entry of a draft found through its slot, and the slots with one entry more.
use Prim.Native.Nat.{ℕ, ◌+◌, ◌<◌, ◌≤◌}
use mathlib.Core.Path.{◌≡◌, sym, ap, ◌∙◌, subst}
use mathlib.Core.Bool.{true, false}
use mathlib.Core.List.{List}
use mathlib.Core.Logic.{inl, inr}
use native.Mathlib.Omega.{arith}
use lib.Dec.{eqb, ltb}
use lib.ListN.{length, get_or, set, length-set}
use lib.Seq.{get_or-set_same, get_or-set_other}
use borrow.Author.Tests.{eqb-true, eqb-false, eq-eqb, ltb-true, ltb-false}
use Rattle.basis.specs.Writes.{writes}
use Rattle.basis.proofs.Cases.{by_cases}
use Rattle.basis.proofs.WritesLaws.{length-writes, writes-frame}
use Rattle.space.specs.Layout.{sizes, node_at, node_in, node_to, child_cell}
use Rattle.space.specs.declared.Node.{Node}
use Rattle.space.proofs.LayoutLaws.{node-written, node-apart}
use Rattle.agreement.proofs.CellRecords.{Kept, node-same}
use Rattle.drafts.specs.declared.Room.{Room}
use Rattle.drafts.specs.Entries.{slot_in, entry_slot, is_entry, Bucketed, Absent, Present, Placed}

pub entry-is : (y : Node) (parent token : ℕ) → is_entry y parent token ≡ true → (y.parent ≡ parent) × (y.token ≡ token)
unfolding is_entry
entry-is y parent token e = by_cases (eqb y.parent parent)
    (λ p. (eqb-true _ _ p, eqb-true _ _ (rw p at e)))
    (λ p. let z : false ≡ true = rw p at e in let i : ◌≡◌ {A = ℕ} 0 1 = cc in absurd (omega arith))

pub entry-is-not : (y : Node) (parent token : ℕ) → is_entry y parent token ≡ false → y.parent ≡ parent → y.token ≡ token → ⊥
unfolding is_entry
entry-is-not y parent token e p q =
    let z : true ≡ false = rw (eq-eqb y.parent parent p, eq-eqb y.token token q) at e in
    let i : ◌≡◌ {A = ℕ} 0 1 = cc in omega arith

-- ---- the chain of a slot

-- n is an entry of the slot, or 0, and no entry above n is the one sought
pub record Seeking (at : ℕ → Node) (x : Room) (used parent token n : ℕ) : Type 0 where
  pub within : n < used
  pub new : (n ≡ 0 → ⊥) → x.base ≤ n
  pub slot : (n ≡ 0 → ⊥) → entry_slot x (at n) ≡ slot_in x parent token
  pub all : (m : ℕ) → x.base ≤ m → m < used → (at m).parent ≡ parent → (at m).token ≡ token → m ≤ n

slot_of : (x : Room) (y : Node) (parent token : ℕ) → y.parent ≡ parent → y.token ≡ token → entry_slot x y ≡ slot_in x parent token
slot_of x y parent token p q = ap (λ (i : ℕ). slot_in x i y.token) p ∙ ap (slot_in x parent) q

module _ (at : ℕ → Node) (x : Room) (used parent token : ℕ) (B : Bucketed at x used) where
  pub seeking-begun : (b : ℕ) → b ≡ slot_in x parent token → x.base ≤ b → b < x.base + x.most → (n : ℕ) → n ≡ (at b).child → Seeking at x used parent token n
  seeking-begun b e l h n i = subst (Seeking at x used parent token) (sym i) (record {
    within = B.head-below b l h;
    new = B.head-new b l h;
    slot = λ z. B.head-slot b l h z ∙ e;
    all = λ m a c p q. B.head-all b l h m a c (slot_of x (at m) parent token p q ∙ sym e);
  })

  module _ (n : ℕ) (S : Seeking at x used parent token n) (some : n ≡ 0 → ⊥) where
    pub seeking-found : is_entry (at n) parent token ≡ true → Present at x used parent token n
    seeking-found e = let r = entry-is (at n) parent token e in record { low = S.new some; high = S.within; parent_is = r.0; token-is = r.1 }

    pub seeking-on : is_entry (at n) parent token ≡ false → (k : ℕ) → k ≡ (at n).sibling → Seeking at x used parent token k
    seeking-on e k i =
        let low = S.new some in
        let high = S.within in
        subst (Seeking at x used parent token) (sym i) (record {
          within = (let l = B.next-below n low high in omega arith);
          new = B.next-new n low high;
          slot = λ z. B.next-slot n low high z ∙ S.slot some;
          all = λ m a c p q.
              let l : m ≤ n = S.all m a c p q in
              let o : m ≡ n → ⊥ = λ j. entry-is-not (at n) parent token e (ap (λ (y : ℕ). (at y).parent) (sym j) ∙ p) (ap (λ (y : ℕ). (at y).token) (sym j) ∙ q) in
              B.next-all n low high m a (omega arith) (slot_of x (at m) parent token p q ∙ sym (S.slot some));
        })

    pub seeking-less : (k : ℕ) → k ≡ (at n).sibling → k < n
    seeking-less k i = let l = B.next-below n (S.new some) S.within in omega arith

  pub seeking-none : (n : ℕ) → Seeking at x used parent token n → n ≡ 0 → Absent at x used parent token
  seeking-none n S z m a c p q = let l = S.all m a c p q in let k = B.some in omega arith

  -- where there is no room there is no entry
  pub roomless : x.most ≡ 0 → Absent at x used parent token
  roomless z m a c p q = let k = B.fits in omega arith

-- ---- one entry more

module _ (at at' : ℕ → Node) (x : Room) (used parent token : ℕ) (B : Bucketed at x used) (below : parent < used) (room : used < x.base + x.most)
    (b : ℕ) (is : b ≡ slot_in x parent token) (low : x.base ≤ b) (high : b < x.base + x.most) (P : Placed at at' used b parent token) where
  slot-old : (m : ℕ) → (m ≡ used → ⊥) → entry_slot x (at' m) ≡ entry_slot x (at m)
  slot-old m o = ap (λ (i : ℕ). slot_in x i (at' m).token) (P.parent-old m o) ∙ ap (slot_in x (at m).parent) (P.token-old m o)

  slot-new : entry_slot x (at' used) ≡ b
  slot-new = slot_of x (at' used) parent token P.parent-new P.token-new ∙ sym is

  pub bucketed-more : Bucketed at' x (used + 1)
  bucketed-more = record {
    some = B.some;
    from = (let f = B.from in omega arith);
    fits = omega arith;
    head-below = λ c l h. by_cases (eqb c b)
        (λ e. let i : c ≡ b = eqb-true _ _ e in let j : (at' c).child ≡ used = ap (λ (y : ℕ). (at' y).child) i ∙ P.child-new in omega arith)
        (λ e. let o : c ≡ b → ⊥ = eqb-false _ _ e in let j = P.child-old c o in let k = B.head-below c l h in omega arith);
    head-new = λ c l h z. by_cases (eqb c b)
        (λ e. let i : c ≡ b = eqb-true _ _ e in let j : (at' c).child ≡ used = ap (λ (y : ℕ). (at' y).child) i ∙ P.child-new in let f = B.from in omega arith)
        (λ e. let o : c ≡ b → ⊥ = eqb-false _ _ e in let j = P.child-old c o in let k = B.head-new c l h (λ q. z (j ∙ q)) in omega arith);
    head-slot = λ c l h z. by_cases (eqb c b)
        (λ e. let i : c ≡ b = eqb-true _ _ e in let j : (at' c).child ≡ used = ap (λ (y : ℕ). (at' y).child) i ∙ P.child-new in
        ap (λ (y : ℕ). entry_slot x (at' y)) j ∙ slot-new ∙ sym i)
        (λ e. let o : c ≡ b → ⊥ = eqb-false _ _ e in let j = P.child-old c o in
        let k = B.head-below c l h in
        ap (λ (y : ℕ). entry_slot x (at' y)) j ∙ slot-old (at c).child (λ q. omega arith) ∙ B.head-slot c l h (λ q. z (j ∙ q)));
    head-all = λ c l h n a d s. by_cases (eqb c b)
        (λ e. let i : c ≡ b = eqb-true _ _ e in let j : (at' c).child ≡ used = ap (λ (y : ℕ). (at' y).child) i ∙ P.child-new in omega arith)
        (λ e. let o : c ≡ b → ⊥ = eqb-false _ _ e in let j = P.child-old c o in
        let q : n ≡ used → ⊥ = λ w. o (sym s ∙ ap (λ (y : ℕ). entry_slot x (at' y)) w ∙ slot-new) in
        let r = B.head-all c l h n a (omega arith) (sym (slot-old n q) ∙ s) in omega arith);
    next-below = λ n l h. by_cases (eqb n used)
        (λ e. let i : n ≡ used = eqb-true _ _ e in let j : (at' n).sibling ≡ (at b).child = ap (λ (y : ℕ). (at' y).sibling) i ∙ P.sibling-new in let k = B.head-below b low high in omega arith)
        (λ e. let o : n ≡ used → ⊥ = eqb-false _ _ e in let j = P.sibling-old n o in let k = B.next-below n l (omega arith) in omega arith);
    next-new = λ n l h z. by_cases (eqb n used)
        (λ e. let i : n ≡ used = eqb-true _ _ e in let j : (at' n).sibling ≡ (at b).child = ap (λ (y : ℕ). (at' y).sibling) i ∙ P.sibling-new in let k = B.head-new b low high (λ q. z (j ∙ q)) in omega arith)
        (λ e. let o : n ≡ used → ⊥ = eqb-false _ _ e in let j = P.sibling-old n o in let k = B.next-new n l (omega arith) (λ q. z (j ∙ q)) in omega arith);
    next-slot = λ n l h z. by_cases (eqb n used)
        (λ e. let i : n ≡ used = eqb-true _ _ e in let j : (at' n).sibling ≡ (at b).child = ap (λ (y : ℕ). (at' y).sibling) i ∙ P.sibling-new in
        let k = B.head-below b low high in
        ap (λ (y : ℕ). entry_slot x (at' y)) j ∙ slot-old (at b).child (λ q. omega arith) ∙ B.head-slot b low high (λ q. z (j ∙ q))
        ∙ sym slot-new ∙ ap (λ (y : ℕ). entry_slot x (at' y)) (sym i))
        (λ e. let o : n ≡ used → ⊥ = eqb-false _ _ e in let j = P.sibling-old n o in
        let m : n < used = omega arith in
        let k = B.next-below n l m in
        ap (λ (y : ℕ). entry_slot x (at' y)) j ∙ slot-old (at n).sibling (λ q. omega arith) ∙ B.next-slot n l m (λ q. z (j ∙ q)) ∙ sym (slot-old n o));
    next-all = λ n l h m a c s. by_cases (eqb n used)
        (λ e. let i : n ≡ used = eqb-true _ _ e in let j : (at' n).sibling ≡ (at b).child = ap (λ (y : ℕ). (at' y).sibling) i ∙ P.sibling-new in
        let q : m ≡ used → ⊥ = λ w. omega arith in
        let r = B.head-all b low high m a (omega arith) (sym (slot-old m q) ∙ s ∙ ap (λ (y : ℕ). entry_slot x (at' y)) i ∙ slot-new) in omega arith)
        (λ e. let o : n ≡ used → ⊥ = eqb-false _ _ e in let j = P.sibling-old n o in
        let k : n < used = omega arith in
        let q : m ≡ used → ⊥ = λ w. omega arith in
        let r = B.next-all n l k m a c (sym (slot-old m q) ∙ s ∙ slot-old n o) in omega arith);
    parent-below = λ n l h. by_cases (eqb n used)
        (λ e. let i : n ≡ used = eqb-true _ _ e in let j : (at' n).parent ≡ parent = ap (λ (y : ℕ). (at' y).parent) i ∙ P.parent-new in omega arith)
        (λ e. let o : n ≡ used → ⊥ = eqb-false _ _ e in let j = P.parent-old n o in let k = B.parent-below n l (omega arith) in omega arith);
  }

-- ---- in the cells

-- node n written whole, then the child of node b
module _ (cs : List ℕ) (n b v : ℕ) (y : Node) (inside : node_at sizes n + 5 ≤ length cs) (within : node_at sizes b + 5 ≤ length cs) where
  abbrev ds : List ℕ
  ds = writes (node_to (node_at sizes n) y) cs

  abbrev es : List ℕ
  es = set (writes (node_to (node_at sizes n) y) cs) (child_cell sizes b) v

  whole-new : node_in sizes (writes (node_to (node_at sizes n) y) cs) n ≡ y
  whole-new = node-written (node_at sizes n) y cs inside

  whole-old : (m : ℕ) → (m ≡ n → ⊥) → node_in sizes (writes (node_to (node_at sizes n) y) cs) m ≡ node_in sizes cs m
  whole-old m o = node-same (node_at sizes m) cs ds (λ j l h. writes-frame (node_to (node_at sizes n) y) cs j (node-apart (node_at sizes n) j y
      (by_cases (ltb m n) (λ e. let i : m < n = ltb-true _ _ e in inl (omega arith)) (λ e. let i : n ≤ m = ltb-false _ _ e in let k : n < m = omega arith in inr (omega arith)))))

  cell_other : (j : ℕ) → (j ≡ child_cell sizes b → ⊥) → get_or (set (writes (node_to (node_at sizes n) y) cs) (child_cell sizes b) v) j 0 ≡ get_or (writes (node_to (node_at sizes n) y) cs) j 0
  cell_other j o = get_or-set_other ds (child_cell sizes b) j v 0 o

  child-set : (node_in sizes (set (writes (node_to (node_at sizes n) y) cs) (child_cell sizes b) v) b).child ≡ v
  child-set = get_or-set_same ds (child_cell sizes b) v 0 (let l = length-writes (node_to (node_at sizes n) y) cs in omega arith)

  pub cells-placed : y.child ≡ (node_in sizes cs n).child → y.sibling ≡ (node_in sizes cs b).child → y.link ≡ 0 → v ≡ n
      → Placed (node_in sizes cs) (node_in sizes (set (writes (node_to (node_at sizes n) y) cs) (child_cell sizes b) v)) n b y.parent y.token
  cells-placed c s k e = record {
    token-new = cell_other (node_at sizes n) (λ q. omega arith) ∙ ap (λ (z : Node). z.token) whole-new;
    parent-new = cell_other (node_at sizes n + 3) (λ q. omega arith) ∙ ap (λ (z : Node). z.parent) whole-new;
    sibling-new = cell_other (node_at sizes n + 2) (λ q. omega arith) ∙ ap (λ (z : Node). z.sibling) whole-new ∙ s;
    link-new = cell_other (node_at sizes n + 4) (λ q. omega arith) ∙ ap (λ (z : Node). z.link) whole-new ∙ k;
    child-new = child-set ∙ e;
    token-old = λ m o. cell_other (node_at sizes m) (λ q. omega arith) ∙ ap (λ (z : Node). z.token) (whole-old m o);
    parent-old = λ m o. cell_other (node_at sizes m + 3) (λ q. omega arith) ∙ ap (λ (z : Node). z.parent) (whole-old m o);
    sibling-old = λ m o. cell_other (node_at sizes m + 2) (λ q. omega arith) ∙ ap (λ (z : Node). z.sibling) (whole-old m o);
    link-old = λ m o. cell_other (node_at sizes m + 4) (λ q. omega arith) ∙ ap (λ (z : Node). z.link) (whole-old m o);
    child-old = λ m o. cell_other (node_at sizes m + 1) (λ q. o (omega arith)) ∙ by_cases (eqb m n)
        (λ i. let j : m ≡ n = eqb-true _ _ i in ap (λ (i : ℕ). (node_in sizes ds i).child) j ∙ ap (λ (z : Node). z.child) whole-new ∙ c ∙ ap (λ (i : ℕ). (node_in sizes cs i).child) (sym j))
        (λ i. ap (λ (z : Node). z.child) (whole-old m (eqb-false _ _ i)));
  }

  pub cells-kept : (lo hi : ℕ) → lo ≤ node_at sizes n → node_at sizes n + 5 ≤ hi → lo ≤ node_at sizes b → node_at sizes b + 5 ≤ hi
      → Kept lo hi cs (set (writes (node_to (node_at sizes n) y) cs) (child_cell sizes b) v)
  cells-kept lo hi a c d e = record {
    size = length-set ds (child_cell sizes b) v ∙ length-writes (node_to (node_at sizes n) y) cs;
    below = λ k h. cell_other k (λ q. omega arith) ∙ writes-frame (node_to (node_at sizes n) y) cs k (node-apart (node_at sizes n) k y (inl (omega arith)));
    above = λ k h. cell_other k (λ q. omega arith) ∙ writes-frame (node_to (node_at sizes n) y) cs k (node-apart (node_at sizes n) k y (inr (omega arith)));
  }
