-- Cells moved within a list.
use Rattle.std.specs.Prelude.{ℕ, ◌+◌, ◌≤◌, List, ◌++◌, ltb, length, take, drop}
use Rattle.basis.specs.Choice.{pick}
use Rattle.growing.specs.declared.Block.{Block}

-- the cells from `from` on, so many, stand from `to` on; all others stay
unfoldable pub moved : (from to count : ℕ) → List ℕ → List ℕ
moved from to count s = take to s ++ take count (drop from s) ++ drop (to + count) s

-- a block of cells as the code names it
abbrev pub moved_block : Block → List ℕ → List ℕ
moved_block b s = moved b.from b.to b.count s

-- two blocks, the second after the first before and afterwards: the one that is in the other's way is moved first
unfoldable pub both_moved : Block → Block → List ℕ → List ℕ
both_moved b d s =
    pick (ltb b.from b.to) (moved_block b (moved_block d s)) (moved_block d (moved_block b s))

-- a block stands in the cells, before and afterwards
abbrev pub BlockIn : Block → List ℕ → Type 0
BlockIn b s = (b.from + b.count ≤ length s) × (b.to + b.count ≤ length s)
