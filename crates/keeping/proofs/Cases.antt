-- A law for each case of the slots, of the cells that a ledger has, and of entering nodes.
use Prim.Native.Nat.{ℕ, suc, ◌+◌, ◌-◌, ◌*◌, ◌/◌, ◌%◌, ◌^◌, ◌<◌, ◌≤◌, min}
use mathlib.Core.Path.{◌≡◌, refl, sym, ap, ◌∙◌}
use mathlib.Core.Bool.{true, false}
use mathlib.Core.List.{List}
use native.Mathlib.Nat.{mul-le-mul_left, min-le_left, min-le_right}
use native.Mathlib.Omega.{arith}
use lib.Dec.{ltb, leb}
use lib.ListN.{length, get_or, set}
use borrow.Author.Tests.{lt-ltb, le-ltb, leb-true}
use Rattle.basis.proofs.Cases.{by_cases}
use Rattle.space.specs.declared.Node.{Node}
use Rattle.trie.specs.Index.{insert_from}
use Rattle.trie.specs.Ledger.{Ledger, mixed_slot, ledger_capacity, enter_node, enter_nodes, caught_up}
use Rattle.trie.proofs.LedgerLaws.{mixed-inside, nodes-long}
use Rattle.keeping.specs.Clauses.{ledger_in, nodes_held, nodes_in, LeavesLedger, EntersNode, CatchesUp}

-- ---- slots

pub product-fits : (x size : ℕ) → x < 2 ^ 32 → size ≤ 2 ^ 32 → x * size < 2 ^ 64
product-fits x size h k = let a : x * size ≤ x * 2 ^ 32 = mul-le-mul_left x k in omega arith

pub mixed-is : (size parent token wide : ℕ) → 0 < size → wide ≡ token
    → (((parent * 1780508695 + wide * 97174869) % 4294967296) * size / 4294967296 ≡ mixed_slot size parent token) × (((parent * 1780508695 + wide * 97174869) % 4294967296) * size / 4294967296 < size)
unfolding mixed_slot
mixed-is size parent token wide h e = rw e (refl, mixed-inside size parent token h)

-- ---- a node

module _ (space lasts slots : List ℕ) (n : ℕ) (y : Node) (e : y ≡ nodes_in space n) where
  pub enter-root : n ≤ y.parent → EntersNode space n lasts slots (set lasts 0 (n + 1)) slots
  unfolding enter_node
  enter-root h =
      let p : ltb (nodes_in space n).parent n ≡ false = ap (λ (x : Node). ltb x.parent n) (sym e) ∙ le-ltb y.parent n h in
      let z : n + 1 ≡ suc n = omega arith in
      rw (p, z) (refl, refl)

  pub enter-child : y.parent < n → (slot : ℕ) → slot ≡ mixed_slot (length slots) y.parent y.token
      → (slots' : List ℕ) → slots' ≡ insert_from (length slots) slots slot n → EntersNode space n lasts slots (set (set lasts (y.parent + 1) n) 0 (n + 1)) slots'
  unfolding enter_node
  enter-child h slot f slots' g =
      let p : ltb (nodes_in space n).parent n ≡ true = ap (λ (x : Node). ltb x.parent n) (sym e) ∙ lt-ltb y.parent n h in
      let z : n + 1 ≡ suc n = omega arith in
      let w : y.parent + 1 ≡ suc y.parent = omega arith in
      rw (p, z, w) (ap (λ (x : Node). set (set lasts (suc x.parent) n) 0 (suc n)) e, g ∙ rw (f, e))

-- ---- all nodes

pub capacity_held : (lasts slots : List ℕ) → ledger_capacity (ledger_in lasts slots) ≡ nodes_held (length lasts) (length slots)
unfolding ledger_capacity nodes_held
capacity_held lasts slots = refl

-- where there are cells for any
pub record Cells (room lasts slots : ℕ) : Type 0 where
  pub lasts-room : room < lasts
  pub slots-room : 2 * room ≤ slots
  pub slots-most : slots ≤ 2 ^ 32

pub held-some : (lasts slots room : ℕ) → room ≡ nodes_held lasts slots → 0 < room → Cells room lasts slots
unfolding nodes_held
held-some lasts slots room e h = by_cases (leb slots (2 ^ 32))
    (λ b. let f : room ≡ min (lasts - 1) (slots / 2) = rw b at e in
    let i = min-le_left (lasts - 1) (slots / 2) in
    let j = min-le_right (lasts - 1) (slots / 2) in
    record { lasts-room = omega arith; slots-room = omega arith; slots-most = leb-true slots (2 ^ 32) b })
    (λ b. let f : room ≡ 0 = rw b at e in absurd (omega arith))

-- the nodes before n are entered
pub record Catching (space : List ℕ) (nodes room : ℕ) (lasts₀ slots₀ lasts slots : List ℕ) (n : ℕ) : Type 0 where
  pub from : get_or lasts₀ 0 0 ≤ n
  pub up_to : n - get_or lasts₀ 0 0 ≤ min nodes room - get_or lasts₀ 0 0
  pub left : LeavesLedger (enter_nodes (nodes_in space) (ledger_in lasts₀ slots₀) (get_or lasts₀ 0 0) (n - get_or lasts₀ 0 0)) lasts slots
  pub lasts-long : length lasts ≡ length lasts₀
  pub slots-long : length slots ≡ length slots₀

module _ (space : List ℕ) (nodes room : ℕ) (lasts₀ slots₀ : List ℕ) (e : room ≡ nodes_held (length lasts₀) (length slots₀)) where
  abbrev k : Ledger
  k = ledger_in lasts₀ slots₀

  more : (s j : ℕ) → enter_nodes (nodes_in space) k s (suc j) ≡ enter_node (nodes_in space) (enter_nodes (nodes_in space) k s j) (s + j)
  unfolding enter_nodes
  more s j = refl

  caught-is : caught_up (nodes_in space) nodes k ≡ enter_nodes (nodes_in space) k (get_or lasts₀ 0 0) (min nodes room - get_or lasts₀ 0 0)
  unfolding caught_up
  caught-is = ap (λ (i : ℕ). enter_nodes (nodes_in space) k (get_or lasts₀ 0 0) (min nodes i - get_or lasts₀ 0 0)) (capacity_held lasts₀ slots₀ ∙ sym e)

  pub catch-none : room ≡ 0 → CatchesUp space nodes lasts₀ slots₀ lasts₀ slots₀
  unfolding enter_nodes
  catch-none z =
      let o : min nodes room - get_or lasts₀ 0 0 ≡ 0 = omega arith in
      rw (caught-is, o) (refl, refl)

  pub catching-begin : (n : ℕ) → n ≡ get_or lasts₀ 0 0 → Catching space nodes room lasts₀ slots₀ lasts₀ slots₀ n
  unfolding enter_nodes
  catching-begin n z =
      let o : n - get_or lasts₀ 0 0 ≡ 0 = omega arith in
      record { from = omega arith; up_to = omega arith; left = rw o (refl, refl); lasts-long = refl; slots-long = refl }

  module _ {lasts slots : List ℕ} {n : ℕ} (c : Catching space nodes room lasts₀ slots₀ lasts slots n) where
    pub catching-on : n < nodes → n < room → (lasts' slots' : List ℕ) → EntersNode space n lasts slots lasts' slots' → Catching space nodes room lasts₀ slots₀ lasts' slots' (n + 1)
    catching-on h l lasts' slots' g =
        let s : ℕ = get_or lasts₀ 0 0 in
        let a : s ≤ n = c.from in
        let o : n + 1 - s ≡ suc (n - s) = omega arith in
        let i : s + (n - s) ≡ n = omega arith in
        let was : ledger_in lasts slots ≡ enter_nodes (nodes_in space) k s (n - s) = rw (c.left.0, c.left.1) refl in
        let now : enter_node (nodes_in space) (ledger_in lasts slots) n ≡ enter_nodes (nodes_in space) k s (n + 1 - s) =
        ap (λ (m : Ledger). enter_node (nodes_in space) m n) was ∙ ap (enter_node (nodes_in space) (enter_nodes (nodes_in space) k s (n - s))) (sym i) ∙ sym (more s (n - s)) ∙ ap (enter_nodes (nodes_in space) k s) (sym o) in
        let long = nodes-long (nodes_in space) k s (n + 1 - s) in
        let x : lasts' ≡ (enter_nodes (nodes_in space) k s (n + 1 - s)).lasts = g.0 ∙ ap (λ (m : Ledger). m.lasts) now in
        let y : slots' ≡ (enter_nodes (nodes_in space) k s (n + 1 - s)).slots = g.1 ∙ ap (λ (m : Ledger). m.slots) now in
        record { from = omega arith; up_to = omega arith; left = (x, y); lasts-long = ap length x ∙ long.0; slots-long = ap length y ∙ long.1 }

    pub catching-ended : min nodes room ≤ n → CatchesUp space nodes lasts₀ slots₀ lasts slots
    catching-ended h =
        let s : ℕ = get_or lasts₀ 0 0 in
        let a : s ≤ n = c.from in
        let b : n - s ≤ min nodes room - s = c.up_to in
        let o : n - s ≡ min nodes room - s = omega arith in
        rw (caught-is, ← o) c.left
