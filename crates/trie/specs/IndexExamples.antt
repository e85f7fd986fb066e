-- The index on small tries, as theorems: lookups in cells that no build wrote, and a build below a node with nine
-- children.
use Rattle.std.specs.Prelude.{◌≡◌, ℕ, ◌-◌, ◌^◌, true, false, [], ◌∷◌, slice_set, refl}
use Rattle.space.specs.Layout.{sizes}
use Rattle.space.specs.Judging.{follows, node_sound}
use Rattle.trie.specs.Siblings.{Trie, trie_in, search_siblings, search_children}
use Rattle.trie.specs.Index.{power_below, slot_of, slot_after, confirmed, probe, lookup, entry_beside}
use Rattle.trie.specs.Index.{search_in_turn, search_indexed}
use Rattle.trie.specs.Index.{members, enters, entering, insert_from, insert_all, empty_index, built_index, roomy}
use Rattle.trie.specs.Examples.{cells, small}
use Rattle.trie.specs.declared.Search.TheVariants.{Found, Last, Damaged}

-- the sum wraps
wraps : (slot_of 8 5 (2 ^ 32 - 2) ≡ 3) × (slot_of 8 5 7 ≡ 4)
unfolding slot_of
wraps = (refl, refl)

-- the child of node 1 with token 72 is node 4, and belongs in slot 1 of two: found there; found around, behind an
-- entry that is passed over; no node is numbered 9; slot 1 free; three slots; and node 2, whose parent is 1 and whose
-- token is 71, is no child of node 0 with that token and none of node 1 with token 72
looked-up : (lookup small (77 ∷ 4 ∷ []) 1 72 ≡ 4) × (lookup small (4 ∷ 3 ∷ []) 1 72 ≡ 4)
    × (lookup small (9 ∷ 3 ∷ []) 1 72 ≡ 0) × (lookup small (4 ∷ 0 ∷ []) 1 72 ≡ 0)
    × (lookup small (4 ∷ 4 ∷ 4 ∷ []) 1 72 ≡ 0)
    × (lookup small (0 ∷ 2 ∷ []) 0 71 ≡ 0) × (lookup small (0 ∷ 2 ∷ []) 1 72 ≡ 0)
unfolding lookup probe confirmed slot_after slot_of power_below
looked-up = (refl, refl, refl, refl, refl, refl, refl)

-- whatever the cells, the search ends as by the chain
searched : (search_indexed (77 ∷ 4 ∷ []) 5 small 1 72 ≡ Found 4) × (search_indexed (4 ∷ 0 ∷ []) 5 small 1 72 ≡ Found 4)
    × (search_indexed [] 5 small 1 72 ≡ Found 4) × (search_indexed (9 ∷ 3 ∷ []) 5 small 1 73 ≡ Last 4)
unfolding search_indexed search_in_turn entry_beside confirmed slot_after slot_of power_below search_children
    search_siblings node_sound follows
searched = (refl, refl, refl, refl)

-- in damaged spaces it need not: node 4 is damaged, and judged once it is confirmed; node 2 is damaged, and passed by
searched-damaged : (search_indexed (77 ∷ 4 ∷ []) 5 (trie_in sizes cells 5 1) 1 72 ≡ Damaged)
    × (search_indexed (77 ∷ 4 ∷ []) 5 (trie_in sizes (slice_set cells 22 3) 5 2) 1 72 ≡ Found 4)
    × (search_children (trie_in sizes (slice_set cells 22 3) 5 2) 1 72 ≡ Damaged)
unfolding search_indexed search_in_turn entry_beside confirmed slot_after slot_of power_below search_children
    search_siblings node_sound follows
searched-damaged = (refl, refl, refl)

-- children 1 to 9 of the root, if the eighth is followed by 9
abbrev eight-and : ℕ → Trie
eight-and last = trie_in sizes
    (0 ∷ 0 ∷ 0 ∷ 0 ∷ 0 ∷ 0 ∷ 0 ∷ 0
    ∷ 0 ∷ 1 ∷ 0 ∷ 0 ∷ 0
    ∷ 5 ∷ 0 ∷ 2 ∷ 0 ∷ 1
    ∷ 37 ∷ 0 ∷ 3 ∷ 0 ∷ 1
    ∷ 6 ∷ 0 ∷ 4 ∷ 0 ∷ 1
    ∷ 31 ∷ 0 ∷ 5 ∷ 0 ∷ 1
    ∷ 63 ∷ 0 ∷ 6 ∷ 0 ∷ 1
    ∷ 10 ∷ 0 ∷ 7 ∷ 0 ∷ 1
    ∷ 11 ∷ 0 ∷ 8 ∷ 0 ∷ 1
    ∷ 12 ∷ 0 ∷ last ∷ 0 ∷ 1
    ∷ 13 ∷ 0 ∷ 0 ∷ 0 ∷ 1 ∷ []) 10 1

abbrev nine : Trie
nine = eight-and 9

abbrev eight : Trie
eight = eight-and 0

-- nine enter, eight do not
entered : (entering nine 10 ≡ 1 ∷ 2 ∷ 3 ∷ 4 ∷ 5 ∷ 6 ∷ 7 ∷ 8 ∷ 9 ∷ []) × (entering eight 10 ≡ [])
unfolding entering enters members
entered = (refl, refl)

-- tokens 5 and 37 both belong in slot 5, tokens 31 and 63 in slot 31: the second takes the next free slot, around
filled : built_index nine 32
    ≡ 5 ∷ 0 ∷ 0 ∷ 0 ∷ 0 ∷ 1 ∷ 2 ∷ 3 ∷ 0 ∷ 0 ∷ 6 ∷ 7 ∷ 8 ∷ 9 ∷ 0 ∷ 0
    ∷ 0 ∷ 0 ∷ 0 ∷ 0 ∷ 0 ∷ 0 ∷ 0 ∷ 0 ∷ 0 ∷ 0 ∷ 0 ∷ 0 ∷ 0 ∷ 0 ∷ 0 ∷ 4 ∷ []
unfolding built_index insert_all insert_from empty_index entering enters members slot_after slot_of
filled = refl

found-again : (lookup nine (built_index nine 32) 0 63 ≡ 5) × (lookup nine (built_index nine 32) 0 37 ≡ 2)
    × (lookup nine (built_index nine 32) 0 95 ≡ 0)
unfolding built_index insert_all insert_from empty_index entering enters members
    lookup probe confirmed slot_after slot_of power_below
found-again = (refl, refl, refl)

-- twice as many slots as children, and a power of two: one slot for none, and never no slot
room : (roomy nine 32 ≡ true) × (roomy nine 16 ≡ false) × (roomy nine 24 ≡ false) × (roomy nine 48 ≡ false)
    × (roomy eight 1 ≡ true) × (roomy eight 0 ≡ false)
unfolding roomy entering enters members power_below
room = (refl, refl, refl, refl, refl, refl)
