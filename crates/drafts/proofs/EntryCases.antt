-- The functions behind one entry of a draft, case by case.
use Rattle.drafts.specs.Entries.{arrived}
use Rattle.std.specs.Prelude.{None, Some}
use Prim.Native.Nat.{ℕ, ◌+◌, ◌<◌, ◌≤◌}
use mathlib.Core.Path.{◌≡◌, refl, sym, ap, ◌∙◌, subst}
use mathlib.Core.Bool.{true, false}
use mathlib.Core.List.{List}
use mathlib.Core.Logic.{inl, inr}
use native.Mathlib.Omega.{arith}
use lib.ListN.{length, set}
use Rattle.basis.specs.Writes.{writes}
use Rattle.space.specs.Layout.{sizes, node_at, node_in, node_to, child_cell}
use Rattle.space.specs.Sound.{NodeRoomFor}
use Rattle.space.specs.declared.Node.{Node}
use Rattle.agreement.proofs.CellRecords.{Kept}
use Rattle.drafts.specs.declared.Room.{Room}
use Rattle.drafts.specs.Entries.{slot_in, is_entry, Bucketed, lowest, highest, Reachable, Seekable, Placeable, EntryFound, Placed, EntryPlaced, EntryReached}
use Rattle.drafts.proofs.EntryLaws.{Seeking, seeking-begun, seeking-found, seeking-on, seeking-less, seeking-none, roomless, bucketed-more, cells-placed, cells-kept}

-- ---- an entry is made

abbrev pub entry_node : Node → Node → ℕ → ℕ → Node
entry_node head own parent token = record { token = token; child = own.child; sibling = head.child; parent = parent; link = 0 }

module _ (cs : List ℕ) (x : Room) (used parent token : ℕ) (P : Placeable cs x used parent) (b : ℕ) (s : (b ≡ slot_in x parent token) × (x.base ≤ b) × (b < x.base + x.most))
    (head own : Node) (h : head ≡ node_in sizes cs b) (o : own ≡ node_in sizes cs used) where
  pub place-room : NodeRoomFor cs (x.base + x.most) used (entry_node head own parent token)
  place-room =
      let B : Bucketed (node_in sizes cs) x used = P.0.1 in
      let few = P.0.0.few in
      let room : used < x.base + x.most = P.1 in
      let below : parent < used = P.0.2 in
      let i : own.child ≡ (node_in sizes cs used).child = ap (λ (y : Node). y.child) o in
      let j : head.child ≡ (node_in sizes cs b).child = ap (λ (y : Node). y.child) h in
      let k = B.head-below used B.from room in
      let l = B.head-below b s.1 s.2 in
      (P.0.0, room, record { child_fits = omega arith; sibling-fits = omega arith; parent-fits = omega arith; link_fits = omega arith })

  pub place-done : (ds : List ℕ) → ds ≡ writes (node_to (node_at sizes used) (entry_node head own parent token)) cs → (es : List ℕ) → es ≡ set ds (child_cell sizes b) used → EntryPlaced cs x used parent token es
  place-done ds d es e =
      let B : Bucketed (node_in sizes cs) x used = P.0.1 in
      let room : used < x.base + x.most = P.1 in
      let from = B.from in
      let inside : node_at sizes used + 5 ≤ length cs = (let q = P.0.0.held in omega arith) in
      let within : node_at sizes b + 5 ≤ length cs = (let q = P.0.0.held in let l = s.2 in omega arith) in
      let y : Node = entry_node head own parent token in
      let all : es ≡ set (writes (node_to (node_at sizes used) (entry_node head own parent token)) cs) (child_cell sizes b) used = e ∙ ap (λ (c : List ℕ). set c (child_cell sizes b) used) d in
      let p : Placed (node_in sizes cs) (node_in sizes es) used b parent token =
      subst (λ (c : List ℕ). Placed (node_in sizes cs) (node_in sizes c) used b parent token) (sym all)
      (cells-placed cs used b used y inside within (ap (λ (z : Node). z.child) o) (ap (λ (z : Node). z.child) h) refl refl) in
      let k : Kept (lowest x) (highest x) cs es =
      subst (Kept (lowest x) (highest x) cs) (sym all) (cells-kept cs used b used y inside within (lowest x) (highest x) (omega arith) (omega arith) (let l = s.1 in omega arith) (let l = s.2 in omega arith)) in (
        subst (λ (c : ℕ). Placed (node_in sizes cs) (node_in sizes es) used c parent token) s.0 p,
        bucketed-more (node_in sizes cs) (node_in sizes es) x used parent token B P.0.2 room b s.0 s.1 s.2 p,
        k,
      )

-- ---- an entry is reached

module _ (cs : List ℕ) (x : Room) (used parent token : ℕ) (R : Reachable cs x used parent) where
  pub reach-none : x.most ≡ 0 → EntryReached cs x used parent token cs None
  reach-none z =
      let B : Bucketed (node_in sizes cs) x used = R.1 in
      let f = B.from in let g = B.fits in
      (roomless (node_in sizes cs) x used parent token B z, omega arith, refl)

  pub reach-seek : (x.most ≡ 0 → ⊥) → Seekable cs x used parent
  reach-seek z = (R, omega arith)

  pub reach-place : (used ≡ x.base + x.most → ⊥) → Placeable cs x used parent
  reach-place z = let g = R.1.fits in (R, omega arith)

  module _ (n : ℕ) (f : EntryFound cs x used parent token n) where
    pub reach-found : (n ≡ 0 → ⊥) → EntryReached cs x used parent token cs (Some (arrived n used))
    reach-found z = inl (f.1 z, refl, refl)

    module _ (z : n ≡ 0) where
      pub reach-full : used ≡ x.base + x.most → EntryReached cs x used parent token cs None
      reach-full e = (f.0 z, e, refl)

      pub reach-made : (ds : List ℕ) → EntryPlaced cs x used parent token ds → EntryReached cs x used parent token ds (Some (arrived used (used + 1)))
      reach-made ds p = inr (f.0 z, refl, refl, p)

-- ---- the search

module _ (cs : List ℕ) (x : Room) (used parent token : ℕ) (S : Seekable cs x used parent) where
  abbrev B : Bucketed (node_in sizes cs) x used
  B = S.0.1

  pub seek-begun : (b : ℕ) → (b ≡ slot_in x parent token) × (x.base ≤ b) × (b < x.base + x.most) → (head : Node) → head ≡ node_in sizes cs b → Seeking (node_in sizes cs) x used parent token head.child
  seek-begun b s head e = seeking-begun (node_in sizes cs) x used parent token S.0.1 b s.0 s.1 s.2 head.child (ap (λ (y : Node). y.child) e)

  pub seek-none : (n : ℕ) → Seeking (node_in sizes cs) x used parent token n → n ≡ 0 → EntryFound cs x used parent token 0
  seek-none n k z = (λ _. seeking-none (node_in sizes cs) x used parent token S.0.1 n k z, λ o. absurd (o refl))

  module _ (n : ℕ) (k : Seeking (node_in sizes cs) x used parent token n) (some : n ≡ 0 → ⊥) (y : Node) (e : y ≡ node_in sizes cs n) where
    pub seek_found : is_entry y parent token ≡ true → EntryFound cs x used parent token n
    seek_found t = (λ z. absurd (some z), λ _. seeking-found (node_in sizes cs) x used parent token S.0.1 n k some (ap (λ (w : Node). is_entry w parent token) (sym e) ∙ t))

    pub seek-on : is_entry y parent token ≡ false → Seeking (node_in sizes cs) x used parent token y.sibling
    seek-on t = seeking-on (node_in sizes cs) x used parent token S.0.1 n k some (ap (λ (w : Node). is_entry w parent token) (sym e) ∙ t) y.sibling (ap (λ (w : Node). w.sibling) e)

    pub seek-less : y.sibling < n
    seek-less = seeking-less (node_in sizes cs) x used parent token S.0.1 n k some y.sibling (ap (λ (w : Node). w.sibling) e)
