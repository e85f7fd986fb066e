-- The tokens gathered from a leaf up to its root.
use Rattle.std.specs.Prelude.{ℕ, zero, suc, List, [], ◌∷◌, ◌++◌, ◌==◌}
use Rattle.basis.specs.Choice.{pick}
use Rattle.trie.specs.Siblings.{Trie, sound}

-- a path, or none where a record on the way is damaged, the path is too long or it ends at another root
pub data Path : Type 0 where
  none : Path
  tokens : List ℕ → Path

abbrev pub below : Path → ℕ → Path
below none token = none
below (tokens xs) token = tokens (xs ++ (token ∷ []))

-- a node that is its own parent ends the path: at the right root
abbrev pub ending : ℕ → ℕ → Path
ending root n = pick (n == root) (tokens []) none

-- the tokens to n from the root, at most `most` of them
unfoldable pub gather : ℕ → Trie → ℕ → ℕ → Path
gather zero t root n = pick (sound t n) (pick ((t.at n).parent == n) (ending root n) none) none
gather (suc most) t root n =
    let up = gather most t root (t.at n).parent in
    pick (sound t n) (pick ((t.at n).parent == n) (ending root n) (below up (t.at n).token)) none

-- the most tokens that a stored form has
abbrev pub longest : ℕ
longest = 383
