-- Stored forms as words of tokens: the words that a list holds, their distinct non-empty prefixes, the nodes of a trie.
use Rattle.std.specs.Prelude.{Bool, false, ◌||◌, List, [], ◌∷◌, ◌++◌, map, ℕ, suc, ◌+◌, ◌-◌, max, eqb, length}
use Rattle.basis.specs.Choice.{pick}
use Rattle.forms.specs.Compact.{same}

-- a stored form: its tokens
abbrev pub Word : Type 0
Word = List ℕ

-- whether the list holds the word
unfoldable pub has : List Word → Word → Bool
has [] w = false
has (v ∷ vs) w = same v w || has vs w

-- the list with the word at its end, unless it holds it already
unfoldable pub add : List Word → Word → List Word
add vs w = pick (has vs w) vs (vs ++ (w ∷ []))

-- the list with each word of the second added, so that none comes twice
unfoldable pub union : List Word → List Word → List Word
union vs [] = vs
union vs (w ∷ ws) = union (add vs w) ws

-- the non-empty prefixes of a word, the shortest first
unfoldable pub inits : Word → List Word
inits [] = []
inits (t ∷ w) = (t ∷ []) ∷ map (λ u. t ∷ u) (inits w)

-- those of each word, one word after another
unfoldable pub all_inits : List Word → List Word
all_inits [] = []
all_inits (w ∷ ws) = inits w ++ all_inits ws

-- the distinct non-empty prefixes of the words, in the order of first meeting
unfoldable pub prefixes : List Word → List Word
prefixes ws = union [] (all_inits ws)

-- how many they are
unfoldable pub distinct : List Word → ℕ
distinct ws = length (prefixes ws)

-- the nodes of the trie of the words: its root, and one for each of these prefixes
abbrev pub trie_nodes : List Word → ℕ
trie_nodes ws = 1 + distinct ws

-- how many leading tokens two words share
unfoldable pub common : Word → Word → ℕ
common [] w = 0
common (x ∷ v) [] = 0
common (x ∷ v) (y ∷ w) = pick (eqb x y) (suc (common v w)) 0

-- the most that a word of the list shares with w
unfoldable pub most : List Word → Word → ℕ
most [] w = 0
most (v ∷ vs) w = max (common v w) (most vs w)

-- words entered one after another where the first list lacks them, those before them given: the distinct prefixes that
-- they bring, each word its tokens past the longest prefix that it shares with the list or with one before it
unfoldable pub brings : List Word → List Word → List Word → ℕ
brings held before [] = 0
brings held before (w ∷ ws) = (length w - max (most held w) (most before w)) + brings held (w ∷ before) ws

-- and how many of them are new: those that neither the list nor the words before have
unfoldable pub newcomers : List Word → List Word → List Word → ℕ
newcomers held before [] = 0
newcomers held before (w ∷ ws) = pick (has held w || has before w) 0 1 + newcomers held (w ∷ before) ws
