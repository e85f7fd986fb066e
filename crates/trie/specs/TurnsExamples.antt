-- The search that the calls run beside the document's order, on small tries, as theorems: in how many turns it ends,
-- and the three ways in which the two differ where there is damage. In each the search gives the chain's own answer.
use Rattle.std.specs.Prelude.{◌≡◌, [], ◌∷◌, slice_set, refl}
use Rattle.space.specs.Layout.{sizes}
use Rattle.space.specs.Judging.{follows, node_sound}
use Rattle.trie.specs.Siblings.{Trie, trie_in, search_siblings, search_children}
use Rattle.trie.specs.Index.{power_below, slot_of, slot_after, confirmed, probe, lookup, entry_beside, search_in_turn}
use Rattle.trie.specs.Index.{search_indexed}
use Rattle.trie.specs.Turns.{siblings_compared, lookup_first}
use Rattle.trie.specs.Examples.{cells, small}
use Rattle.trie.specs.declared.Search.TheVariants.{Found, Last, Damaged}

-- the children of node 1 are node 2 with token 71 and then node 4 with token 72, which belongs in slot 1 of two: the
-- chain alone compares both, and the search needs one turn where slot 1 holds node 4, two where it holds another
soon : (siblings_compared 5 small 1 72 2 ≡ 2)
    × (search_in_turn 1 small (0 ∷ 4 ∷ []) 5 1 72 1 2 ≡ Found 4)
    × (search_in_turn 2 small (0 ∷ 3 ∷ []) 5 1 72 1 2 ≡ Found 4)
unfolding siblings_compared search_in_turn entry_beside confirmed slot_after search_siblings node_sound follows
soon = (refl, refl, refl)

-- node 2, the first child of node 1, is damaged
abbrev hurt : Trie
hurt = trie_in sizes (slice_set cells 22 3) 5 2

-- the chain meets the damage before the lookup comes to its slot
damaged-first : (search_indexed (4 ∷ 3 ∷ []) 5 hurt 1 72 ≡ Damaged) × (search_children hurt 1 72 ≡ Damaged)
    × (lookup_first (4 ∷ 3 ∷ []) hurt 1 72 ≡ Found 4)
unfolding lookup_first lookup probe search_indexed search_in_turn entry_beside confirmed slot_after slot_of power_below
    search_children search_siblings node_sound follows
damaged-first = (refl, refl, refl)

-- node 1 names no first child, and no slot is looked in
abbrev childless : Trie
childless = trie_in sizes (slice_set cells 14 0) 5 2

no-first-child : (search_indexed (0 ∷ 4 ∷ []) 5 childless 1 72 ≡ Last 0) × (search_children childless 1 72 ≡ Last 0)
    × (lookup_first (0 ∷ 4 ∷ []) childless 1 72 ≡ Found 4)
unfolding lookup_first lookup probe search_indexed search_in_turn entry_beside confirmed slot_after slot_of power_below
    search_children search_siblings node_sound follows
no-first-child = (refl, refl, refl)

-- node 2 names no sibling: the chain ends before the lookup comes to its slot
abbrev cut_short : Trie
cut_short = trie_in sizes (slice_set cells 20 0) 5 2

ended-first : (search_indexed (4 ∷ 3 ∷ []) 5 cut_short 1 72 ≡ Last 2) × (search_children cut_short 1 72 ≡ Last 2)
    × (lookup_first (4 ∷ 3 ∷ []) cut_short 1 72 ≡ Found 4)
unfolding lookup_first lookup probe search_indexed search_in_turn entry_beside confirmed slot_after slot_of power_below
    search_children search_siblings node_sound follows
ended-first = (refl, refl, refl)

-- a slot leads past the damaged node 2 only where node 2 stood when the call began
stood-or-not : (search_indexed (0 ∷ 4 ∷ []) 5 hurt 1 72 ≡ Found 4) × (search_indexed (0 ∷ 4 ∷ []) 2 hurt 1 72 ≡ Damaged)
unfolding search_indexed search_in_turn entry_beside confirmed slot_after slot_of power_below search_children
    search_siblings node_sound follows
stood-or-not = (refl, refl)
