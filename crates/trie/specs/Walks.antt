-- The walk of a list of tokens from a root. The way of finding a child is a parameter: the walk is defined once for
-- all of them, and without an index it goes by the sibling chains.
use Rattle.std.specs.Prelude.{◌≡◌, ℕ, ◌^◌, ◌<◌, Bool, true, ◌&&◌, List, [], ◌∷◌, length, ◌==◌}
use Rattle.basis.specs.Choice.{pick}
use Rattle.trie.specs.Siblings.{Trie, sound, search_children}
use Rattle.trie.specs.declared.Search.{Search}
use Rattle.trie.specs.declared.Search.TheVariants.{Found, Last, Damaged}
use Rattle.trie.specs.declared.Walked.{Walked}
use Rattle.trie.specs.declared.Walked.TheVariants as walked

-- whole, at a node; or stopped at a node, with its last child (0: it has none) and the tokens left; or damaged
pub data Walk : Type 0 where
  whole : ℕ → Walk
  stopped : ℕ → ℕ → List ℕ → Walk
  damaged : Walk

-- after the search among the children of n for the first of the tokens left
abbrev pub onward : Search → ℕ → List ℕ → (ℕ → Walk) → Walk
onward (Found child) n left next = next child
onward (Last last) n left next = stopped n last left
onward Damaged n left next = damaged

-- how a trie's child with a given parent and token is found; where there is none, what a new one would follow
abbrev pub Finding : Type 0
Finding = Trie → ℕ → ℕ → Search

unfoldable pub walk_from_by : Finding → Trie → ℕ → List ℕ → Walk
walk_from_by find t n [] = whole n
walk_from_by find t n (x ∷ xs) = onward (find t n x) n (x ∷ xs) (λ child. walk_from_by find t child xs)

-- a root is its own parent
abbrev pub root_sound : Trie → ℕ → Bool
root_sound t root = sound t root && (t.at root).parent == root

unfoldable pub walk_by : Finding → Trie → ℕ → List ℕ → Walk
walk_by find t root xs = pick (root_sound t root) (walk_from_by find t root xs) damaged

-- by the sibling chains
abbrev pub walk_from : Trie → ℕ → List ℕ → Walk
walk_from = walk_from_by search_children

abbrev pub walk : Trie → ℕ → List ℕ → Walk
walk = walk_by search_children

-- as the code answers: the number of tokens left
abbrev pub shown : Walk → Walked
shown (whole n) = walked.Whole n
shown (stopped n last left) = walked.Stopped n last (length left)
shown damaged = walked.Damaged

-- ---- by a closure that searches, as the code takes it

-- it may be called at a node that was judged sound, and what it finds there is another
pub record Searches (pre : ℕ → ℕ → Type 0) (post : ℕ → ℕ → Search → Type 0) (t : Trie) : Type 0 where
  pub callable : (n x : ℕ) → n < t.nodes → sound t n ≡ true → x < 2 ^ 32 → pre n x
  pub within : (n x c : ℕ) → n < t.nodes → sound t n ≡ true → x < 2 ^ 32 → post n x (Found c) → c < t.nodes
  pub judged : (n x c : ℕ) → n < t.nodes → sound t n ≡ true → x < 2 ^ 32 → post n x (Found c) → sound t c ≡ true

-- it answers what this way of finding a child does
abbrev pub AnswersAs : (ℕ → ℕ → Search → Type 0) → Finding → Trie → Type 0
AnswersAs post find t =
    (n x : ℕ) (r : Search) → n < t.nodes → sound t n ≡ true → x < 2 ^ 32 → post n x r → r ≡ find t n x

-- the walk by a closure is the one by what it answers as
abbrev pub WalksBy : (ℕ → ℕ → Search → Type 0) → Trie → ℕ → List ℕ → Walked → Type 0
WalksBy post t root xs w = (find : Finding) → AnswersAs post find t → w ≡ shown (walk_by find t root xs)
