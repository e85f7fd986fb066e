-- Where a gathered path stands, in few cells or in those of a whole one, as a part of a slice gives it.
use Prim.Native.Nat.{ℕ, ◌+◌, ◌-◌, ◌≤◌}
use mathlib.Core.List.{List}
use mathlib.Core.Path.{◌≡◌, refl, sym, ap, ◌∙◌}
use native.Mathlib.Omega.{arith}
use lib.ListN.{length, take, drop, length-drop}
use lib.Seq.{take_all}
use Rattle.trie.specs.Paths.{Path, none, tokens}
use Rattle.trie.specs.Runs.{levels, path_cells, path_to, Begun, Found, GathersWhole}
use Rattle.trie.specs.declared.End.{End}
use Rattle.trie.proofs.PathCases.{begun-size, begun-stands}

-- the cells from k on, as a part of a slice gives them
rest : (ks : List ℕ) (n k : ℕ) → length ks ≤ n + k → take n (drop k ks) ≡ drop k ks
rest ks n k h = let l : length (drop k ks) ≡ length ks - k = length-drop k ks in take_all n (drop k ks) (omega arith)

-- a path that stands in n cells from k on
abbrev pub Stands : ℕ → ℕ → List ℕ → Path → Type 0
Stands n k ks p = (k ≤ n) × (length ks ≡ n) × (tokens (take (n - k) (drop k ks)) ≡ p)

stands : (n k : ℕ) (ks : List ℕ) (p : Path) → k ≤ length ks → length ks ≡ n → p ≡ tokens (drop k ks) → Stands n k ks p
stands n k ks p l m e = (omega arith, m, ap tokens (rest ks (n - k) k (omega arith)) ∙ sym e)

-- in few cells
pub few-stands : (cs : List ℕ) (e : End) (k : ℕ) (ks : List ℕ) → Begun cs e k ks → k ≤ levels → Stands (length ks) k ks (path_to cs e)
few-stands cs e k ks b l =
    let m = begun-size cs e k ks b in
    stands (length ks) k ks (path_to cs e) (omega arith) refl (begun-stands cs e k ks b (omega arith))

found_none : (p : Path) (k : ℕ) (ks : List ℕ) → Found p k ks → k ≡ 0 → p ≡ none
found_none none k ks f z = refl
found_none (tokens xs) k ks f z = let o = f.0 in absurd (omega arith)

found-stands : (p : Path) (k : ℕ) (ks : List ℕ) → Found p k ks → (k ≡ 0 → ⊥) → length ks ≡ path_cells → Stands path_cells k ks p
found-stands none k ks f z l = absurd (z f)
found-stands (tokens xs) k ks f z l = stands path_cells k ks (tokens xs) f.1 l (ap tokens (sym f.2))

-- in the cells of a whole path, or there is none
module _ (cs : List ℕ) (e : End) (k : ℕ) (ks : List ℕ) (g : GathersWhole cs e k ks) where
  pub whole-none : k ≡ 0 → path_to cs e ≡ none
  whole-none z = found_none (path_to cs e) k ks g.0 z

  pub whole-stands : (k ≡ 0 → ⊥) → Stands path_cells k ks (path_to cs e)
  whole-stands z = found-stands (path_to cs e) k ks g.0 z g.1
