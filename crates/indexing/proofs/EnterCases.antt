-- A law for each case of counting children, and of counting those that enter.
use Prim.Native.Nat.{ℕ, zero, suc, ◌+◌, ◌-◌, ◌<◌, ◌≤◌}
use mathlib.Core.Path.{◌≡◌, refl, sym, ap, ◌∙◌}
use mathlib.Core.Bool.{Bool, true, false}
use mathlib.Core.List.{[], ◌∷◌, ◌++◌}
use native.Mathlib.Omega.{arith}
use native.Mathlib.Numerals.{add-one}
use lib.ListN.{length, length-append}
use borrow.Author.Tests.{eq-eqb, ne_eqb}
use Rattle.basis.specs.Choice.{pick}
use Rattle.space.specs.declared.Node.{Node}
use Rattle.trie.specs.Siblings.{Trie}
use Rattle.trie.specs.Index.{members, crowded, enters, entering}

-- ---- the children of a node

-- `count` of the children of node n were passed, and `child` is the next one
pub record Passing (t : Trie) (n child count : ℕ) : Type 0 where
  pub steps : ℕ
  pub rest : members 9 t (t.at n).child ≡ count + members steps t child
  pub together : count + steps ≡ 9
  pub few : count ≤ 8
  pub within : child < t.nodes

module _ (t : Trie) where
  members-none : (k x : ℕ) → x ≡ 0 → members k t x ≡ 0
  unfolding members
  members-none zero x e = refl
  members-none (suc k) x e = rw (eq-eqb x 0 e)

  members-some : (k x : ℕ) → (x ≡ 0 → ⊥) → members (suc k) t x ≡ suc (members k t (t.at x).sibling)
  unfolding members
  members-some k x z = rw (ne_eqb x 0 z)

  members-end : (x : ℕ) → members 0 t x ≡ 0
  unfolding members
  members-end x = refl

  module _ (n : ℕ) where
    pub passing-begin : (y : Node) → y ≡ t.at n → y.child < t.nodes → Passing t n y.child 0
    passing-begin y e l = record {
      steps = 9;
      rest = let f = ap (λ (x : Node). members 9 t x.child) e in omega (arith, f);
      together = refl;
      few = omega arith;
      within = l;
    }

    module _ {child count : ℕ} (p : Passing t n child count) where
      pub passing-ended : child ≡ 0 → false ≡ crowded t n
      passing-ended z =
          let e : members 9 t (t.at n).child ≡ count = p.rest ∙ ap (λ (m : ℕ). count + m) (members-none p.steps child z) ∙ add_none count in
          sym (rw e (ne_eqb count 9 (omega (arith, p.few))))
        where
          add_none : (m : ℕ) → m + 0 ≡ m
          add_none m = omega arith

      module _ (z : child ≡ 0 → ⊥) where
        one-step : p.steps ≡ suc (p.steps - 1)
        one-step = omega (arith, p.together, p.few)

        here : members 9 t (t.at n).child ≡ count + suc (members (p.steps - 1) t (t.at child).sibling)
        here =
            p.rest ∙ ap (λ (k : ℕ). count + members k t child) one-step
            ∙ ap (λ (m : ℕ). count + m) (members-some (p.steps - 1) child z)

        pub passing-full : 8 < count + 1 → true ≡ crowded t n
        passing-full l =
            let none : p.steps - 1 ≡ 0 = omega (arith, p.together, p.few) in
            let last : members (p.steps - 1) t (t.at child).sibling ≡ 0 = ap (λ (k : ℕ). members k t (t.at child).sibling) none ∙ members-end (t.at child).sibling in
            sym (eq-eqb (members 9 t (t.at n).child) 9 (omega (arith, here, last, p.few)))

        pub passing-on : count + 1 ≤ 8 → (y : Node) → y ≡ t.at child → y.sibling < t.nodes → Passing t n y.sibling (count + 1)
        passing-on l y e m = record {
          steps = p.steps - 1;
          rest = let f = ap (λ (x : Node). members (p.steps - 1) t x.sibling) e in omega (arith, here, f);
          together = omega (arith, p.together, p.few);
          few = l;
          within = m;
        }

-- ---- a node

module _ (t : Trie) (n : ℕ) (y : Node) (e : y ≡ t.at n) where
  pub enters_root : y.parent ≡ n → false ≡ enters t n
  unfolding enters
  enters_root z = rw (← e, eq-eqb y.parent n z)

  pub enters-child : (y.parent ≡ n → ⊥) → crowded t y.parent ≡ enters t n
  unfolding enters
  enters-child z = rw (← e, ne_eqb y.parent n z)

-- ---- all nodes

module _ (t : Trie) where
  pub counted-begin : 0 ≡ length (entering t 0)
  unfolding entering
  counted-begin = refl

  pub entering-step : (n : ℕ) → entering t (suc n) ≡ entering t n ++ pick (enters t n) (n ∷ []) []
  unfolding entering
  entering-step n = refl

  entering-length : (n : ℕ) → length (entering t (suc n)) ≡ length (entering t n) + length (pick (enters t n) (n ∷ []) [])
  entering-length n = ap length (entering-step n) ∙ length-append (entering t n) (pick (enters t n) (n ∷ []) [])

  -- no more than the nodes
  pub entering-most : (n : ℕ) → length (entering t n) ≤ n
  entering-most zero = omega (arith, counted-begin)
  entering-most (suc n) = omega (arith, entering-length n, entering-most n, one (enters t n))
    where
      one : (b : Bool) → length (pick b (n ∷ []) []) ≤ 1
      one true = omega arith
      one false = omega arith

  module _ (n count : ℕ) (e : count ≡ length (entering t n)) where
    pub counted-one : enters t n ≡ true → count + 1 ≡ length (entering t (n + 1))
    counted-one k = rw (add-one n) (omega (arith, entering-length n, ap (λ (b : Bool). length (pick b (n ∷ []) [])) k))

    pub counted_none : enters t n ≡ false → count ≡ length (entering t (n + 1))
    counted_none k = rw (add-one n) (omega (arith, entering-length n, ap (λ (b : Bool). length (pick b (n ∷ []) [])) k))

    pub counted-ended : (m : ℕ) → n ≤ m → m ≤ n → (count ≡ length (entering t m)) × (count ≤ m)
    counted-ended m l k =
        let z : n ≡ m = omega arith in
        (e ∙ ap (λ (i : ℕ). length (entering t i)) z, omega (arith, entering-most n))
