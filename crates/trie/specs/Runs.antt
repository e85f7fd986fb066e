-- A path gathered in runs of levels, as the code takes it.
use Rattle.std.specs.Prelude.{◌≡◌, ℕ, zero, suc, ◌+◌, ◌-◌, ◌*◌, ◌<◌, ◌≤◌, List, [], ◌∷◌, ◌++◌, length, drop, ◌==◌}
use Rattle.basis.specs.Choice.{pick}
use Rattle.space.specs.Layout.{sizes}
use Rattle.space.specs.Sound.{NodesIn}
use Rattle.trie.specs.Siblings.{Trie, trie_in, sound}
use Rattle.trie.specs.Paths.{Path, none, tokens, gather, longest}
use Rattle.trie.specs.declared.End.{End}

-- the levels of a run
abbrev pub levels : ℕ
levels = 64

-- the cells of a whole path, one more than it has tokens at most: a whole number of runs
abbrev pub path_cells : ℕ
path_cells = longest + 1

-- a path with further tokens behind it
abbrev pub onto : Path → List ℕ → Path
onto none ys = none
onto (tokens xs) ys = tokens (xs ++ ys)

-- some levels of a path: damage, the tokens up to the root, or those met and the node to go on from
pub data Climb : Type 0 where
  lost : Climb
  to_root : List ℕ → Climb
  cut : ℕ → List ℕ → Climb

abbrev pub longer : Climb → ℕ → Climb
longer lost token = lost
longer (to_root xs) token = to_root (xs ++ (token ∷ []))
longer (cut n xs) token = cut n (xs ++ (token ∷ []))

-- at most so many levels up from n
unfoldable pub climbed : ℕ → Trie → ℕ → ℕ → Climb
climbed zero t root n = cut n []
climbed (suc more) t root n =
    let up = climbed more t root (t.at n).parent in
    pick (sound t n)
    (pick ((t.at n).parent == n) (pick (n == root) (to_root []) lost) (longer up (t.at n).token))
    lost

-- as a number: the cells of a run that are left; or, above any of these, damage, or a node to go on from
abbrev pub lost_code : ℕ
lost_code = levels + 1

abbrev pub on_code : ℕ
on_code = levels + 2

abbrev pub coded : ℕ → Climb → ℕ
coded left lost = lost_code
coded left (to_root xs) = left - length xs
coded left (cut n xs) = on_code + n

-- the first so many cells hold the tokens from behind, and the others stay
abbrev pub RunHolds : ℕ → Climb → List ℕ → List ℕ → Type 0
RunHolds left lost a b = Unit
RunHolds left (to_root xs) a b = drop (left - length xs) b ≡ xs ++ drop left a
RunHolds left (cut n xs) a b = drop (left - length xs) b ≡ xs ++ drop left a

-- what a climb answers and leaves in the cells of a run
abbrev pub Ran : ℕ → Climb → List ℕ → List ℕ → ℕ → Type 0
Ran left c a b r = (r ≡ coded left c) × RunHolds left c a b × (length b ≡ length a)

-- so many levels up from node n, in the cells of a space
abbrev pub Climbs : List ℕ → ℕ → ℕ → ℕ → ℕ → ℕ → List ℕ → List ℕ → ℕ → Type 0
Climbs cs nodes links root n left a b r = Ran left (climbed left (trie_in sizes cs nodes links) root n) a b r

-- the cells from some place on are those of a run, and the others behind it stay
abbrev pub RunCopied : List ℕ → ℕ → List ℕ → List ℕ → Type 0
RunCopied run from a b = (drop from b ≡ run ++ drop (from + levels) a) × (length b ≡ length a)

-- the first so many cells hold a path from behind, from r on, and the others stay; r is 0 where there is none
abbrev pub PathHolds : ℕ → Path → ℕ → List ℕ → List ℕ → Type 0
PathHolds end none r a b = r ≡ 0
PathHolds end (tokens xs) r a b = (r + length xs ≡ end) × (drop r b ≡ xs ++ drop end a)

-- what climbing answers and leaves in the cells of so many runs
abbrev pub RunsHold : ℕ → Path → ℕ → List ℕ → List ℕ → Type 0
RunsHold runs p r a b = PathHolds (levels * runs) p r a b × (length b ≡ length a)

-- ---- the path to an end, as a caller gets it

abbrev pub trie_of : List ℕ → End → Trie
trie_of cs e = trie_in sizes cs e.nodes e.links

-- the nodes of the trie stand in the cells, and the path's last node is one of them
abbrev pub Ends : List ℕ → End → Type 0
Ends cs e = NodesIn cs e.nodes × (e.leaf < e.nodes)

abbrev pub path_to : List ℕ → End → Path
path_to cs e = gather longest (trie_of cs e) e.root e.leaf

-- ---- a path that was begun: the climb of a run from its leaf answered r and left these cells

-- before it the cells held something, no matter what
pub record Begun (cs : List ℕ) (e : End) (r : ℕ) (cells : List ℕ) : Type 0 where
  pub before : List ℕ
  pub size : length before ≡ levels
  pub ran : Ran levels (climbed levels (trie_of cs e) e.root e.leaf) before cells r

-- a run that can be gone on from: where it was cut, at a node that there is
abbrev pub RunBegun : List ℕ → End → ℕ → List ℕ → Type 0
RunBegun cs e r run = NodesIn cs e.nodes × (length run ≡ levels) × (on_code ≤ r → r - on_code < e.nodes)

-- whatever node the run was climbed from: its path, where the cells of so many runs can hold it, stands in these
abbrev pub ClimbsRuns : List ℕ → End → ℕ → List ℕ → ℕ → List ℕ → List ℕ → ℕ → Type 0
ClimbsRuns cs e begun run runs a b r =
    (length b ≡ length a)
    × ((n : ℕ) (before : List ℕ) → length before ≡ levels
    → Ran levels (climbed levels (trie_of cs e) e.root n) before run begun
    → RunsHold runs (gather (levels * runs - 1) (trie_of cs e) e.root n) r a b)

-- a path stands in the cells from r on, which is 0 where there is none
abbrev pub Found : Path → ℕ → List ℕ → Type 0
Found none r cells = r ≡ 0
Found (tokens xs) r cells = (1 ≤ r) × (r ≤ length cells) × (drop r cells ≡ xs)

-- the path to an end, in the cells of a whole one
abbrev pub GathersWhole : List ℕ → End → ℕ → List ℕ → Type 0
GathersWhole cs e r cells = Found (path_to cs e) r cells × (length cells ≡ path_cells)
