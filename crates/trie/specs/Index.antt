-- An index beside the nodes: cells, lent by the caller, that map a parent and a token to a child. It is a hash table
-- with linear probing, one cell a slot: a slot holds a node's number, or 0 where it is free, since node 0 is nobody's
-- child. Nothing is known of the cells, so an entry counts only if its node confirms it, and only the sibling chain
-- says that there is no such child: whatever an index holds, it cannot change what is found in a space that calls made.
-- Only a build writes an index. It enters the children of nodes that have more than 8.
use Rattle.std.specs.Prelude.{◌≡◌, ℕ, zero, suc, ◌+◌, ◌*◌, ◌%◌, ◌^◌, Bool, true, false, not, ◌&&◌, ◌||◌, List, [], ◌∷◌}
use Rattle.std.specs.Prelude.{◌++◌, length, ◌==◌, ◌≢◌, nat_le, nat_lt, slice_index, slice_index_or, slice_set}
use Rattle.basis.specs.Choice.{pick}
use Rattle.space.specs.Layout.{sizes}
use Rattle.trie.specs.Siblings.{Trie, trie_in, sound, at_sibling, search_siblings, search_children}
use Rattle.trie.specs.Walks.{Finding, walk_by, shown}
use Rattle.trie.specs.declared.Search.{Search}
use Rattle.trie.specs.declared.Search.TheVariants.{Found, Last, Damaged}
use Rattle.trie.specs.declared.Walked.{Walked}

-- ---- slots

-- one of the k powers 2^0, 2^1, ..
unfoldable pub power_below : ℕ → ℕ → Bool
power_below zero n = false
power_below (suc k) n = n == 2 ^ k || power_below k n

-- every power of two is above its exponent, so n powers are enough to look at
abbrev pub power_of_two : ℕ → Bool
power_of_two n = power_below n n

-- the slots that are looked in: all, or none where their number is no power of two
unfoldable pub used_slots : ℕ → ℕ
used_slots size = pick (power_of_two size) size 0

-- where the child with this parent and token is looked for first: the 32-bit wrapping sum, modulo the size
unfoldable pub slot_of : ℕ → ℕ → ℕ → ℕ
slot_of size parent token = ((parent + token) % (2 ^ 32)) % size

-- the next slot, around
unfoldable pub slot_after : ℕ → ℕ → ℕ
slot_after size slot = pick (suc slot == size) 0 (suc slot)

-- ---- lookup

-- entry x is a child of `parent` with the token, by its own record
unfoldable pub confirmed : Trie → ℕ → ℕ → ℕ → Bool
confirmed t parent token x =
    nat_lt parent x && nat_lt x t.nodes && (t.at x).parent == parent && (t.at x).token == token

-- from a slot on, at most so many slots: the child, or 0 for a miss. A free slot ends it. An entry that is not
-- confirmed is passed over and never judged: in a built index it is another child's, in other cells it may be anything.
unfoldable pub probe : ℕ → Trie → List ℕ → ℕ → ℕ → ℕ → ℕ
probe zero t index parent token slot = 0
probe (suc steps) t index parent token slot =
    let x = slice_index_or index slot 0 in
    let rest = probe steps t index parent token (slot_after (length index) slot) in
    pick (x == 0) 0 (pick (confirmed t parent token x) x rest)

-- what the index alone gives: the child, or 0 for a miss; always a miss where the number of slots is no power of two
unfoldable pub lookup : Trie → List ℕ → ℕ → ℕ → ℕ
lookup t index parent token =
    pick (power_of_two (length index))
    (probe (length index) t index parent token (slot_of (length index) parent token)) 0

-- ---- search

-- `stood` is the number of nodes that were there when a call began; they are numbered below it. A slot is looked in
-- only beside a sibling that stood then: beside a later one the slot counts as free. So while a join enters its forms
-- the siblings that it enters lead to no slot that was not looked in when the join was decided: what was found stays
-- found, and what was missed stays missed until it is entered (Entered.antt).
unfoldable pub entry_beside : List ℕ → (stood slot n : ℕ) → ℕ
entry_beside index stood slot n = pick (nat_lt n stood) (slice_index index slot) 0

-- a slot and a sibling in turn, from these on, and whichever finds the child first: entries of near parents with
-- small tokens lie close together, and a lookup alone may have to pass more of them than there are siblings. An entry
-- that is confirmed is judged as a sibling compared is. A free slot says nothing of the children, and the chain goes on
-- alone.
unfoldable pub search_in_turn : ℕ → Trie → List ℕ → (stood parent token slot n : ℕ) → Search
search_in_turn zero t index stood parent token slot n = Damaged
search_in_turn (suc steps) t index stood parent token slot n =
    let x = entry_beside index stood slot n in
    let rest = search_in_turn steps t index stood parent token (slot_after (length index) slot) (t.at n).sibling in
    pick (x == 0) (search_siblings (suc steps) t parent token n)
    (pick (confirmed t parent token x) (pick (sound t x) (Found x) Damaged) (at_sibling t parent token n rest))

-- among all children; by the chain alone where the number of slots is no power of two
unfoldable pub search_indexed : List ℕ → ℕ → Finding
search_indexed index stood t parent token =
    pick ((t.at parent).child == 0) (Last 0)
    (pick (power_of_two (length index))
    (search_in_turn t.nodes t index stood parent token (slot_of (length index) parent token) (t.at parent).child)
    (search_children t parent token))

-- ---- in the cells of a space, as the functions that search say it

-- the number of slots is a power of two
abbrev pub powered : List ℕ → Type 0
powered index = power_of_two (length index) ≡ true

-- or there is none
abbrev pub Slotted : List ℕ → Type 0
Slotted index = (length index ≢ 0) → powered index

-- links have no part in it
unfoldable pub confirmed_in : List ℕ → (nodes parent token x : ℕ) → Bool
confirmed_in cs nodes parent token x = confirmed (trie_in sizes cs nodes 0) parent token x

-- a confirmed entry, judged
unfoldable pub judged_in : List ℕ → (nodes links x : ℕ) → Search
judged_in cs nodes links x = pick (sound (trie_in sizes cs nodes links) x) (Found x) Damaged

-- the walk, as the code answers
abbrev pub walked_in : List ℕ → (nodes links root : ℕ) → (tokens index : List ℕ) → ℕ → Walked
walked_in cs nodes links root tokens index stood =
    shown (walk_by (search_indexed index stood) (trie_in sizes cs nodes links) root tokens)

-- ---- build

-- the members of a sibling chain from n on, counted up to so many
unfoldable pub members : ℕ → Trie → ℕ → ℕ
members zero t n = 0
members (suc steps) t n = let rest = members steps t (t.at n).sibling in pick (n == 0) 0 (suc rest)

-- node n has more than 8 children
abbrev pub crowded : Trie → ℕ → Bool
crowded t n = members 9 t (t.at n).child == 9

-- node n is a child, and its parent has more than 8
unfoldable pub enters : Trie → ℕ → Bool
enters t n = not ((t.at n).parent == n) && crowded t (t.at n).parent

-- the children to enter among the first n nodes, by number
unfoldable pub entering : Trie → ℕ → List ℕ
entering t zero = []
entering t (suc n) = entering t n ++ pick (enters t n) (n ∷ []) []

-- x in the first free slot from this one on, among so many
unfoldable pub insert_from : ℕ → List ℕ → ℕ → ℕ → List ℕ
insert_from zero index slot x = index
insert_from (suc steps) index slot x =
    let rest = insert_from steps index (slot_after (length index) slot) x in
    pick (slice_index index slot == 0) (slice_set index slot x) rest

abbrev pub insert : Trie → List ℕ → ℕ → List ℕ
insert t index x = insert_from (length index) index (slot_of (length index) (t.at x).parent (t.at x).token) x

unfoldable pub insert_all : Trie → List ℕ → List ℕ → List ℕ
insert_all t index [] = index
insert_all t index (x ∷ xs) = insert_all t (insert t index x) xs

-- every slot free
unfoldable pub empty_index : ℕ → List ℕ
empty_index zero = []
empty_index (suc n) = 0 ∷ empty_index n

-- the index after a build with so many slots; what they held before has no part in it
unfoldable pub built_index : Trie → ℕ → List ℕ
built_index t size = insert_all t (empty_index size) (entering t t.nodes)

-- a number of slots that a build takes: a power of two, and at least half of the slots stay free
unfoldable pub roomy : Trie → ℕ → Bool
roomy t size = power_of_two size && nat_le (2 * length (entering t t.nodes)) size
