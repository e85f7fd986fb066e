-- Ledgers of the five nodes of Examples.antt, as theorems: catching up, at once and in two parts, searches, and cells
-- that no call wrote.
use Rattle.std.specs.Prelude.{◌≡◌, ℕ, false, [], ◌∷◌, slice_set, refl}
use Rattle.space.specs.Layout.{sizes}
use Rattle.space.specs.Judging.{follows, node_sound}
use Rattle.trie.specs.Siblings.{Trie, trie_in, search_siblings, search_children}
use Rattle.trie.specs.Append.{lead_cell, append_node, append_path}
use Rattle.trie.specs.Index.{slot_after, confirmed, probe, insert_from, empty_index}
use Rattle.trie.specs.Ledger.{Ledger, blank_ledger, mixed_slot, ledger_capacity, enter_node, enter_nodes, caught_up}
use Rattle.trie.specs.Ledger.{usable, is_last, absent, found_in, search_in, search_kept}
use Rattle.trie.specs.Examples.{cells, small}
use Rattle.trie.specs.declared.Search.TheVariants.{Found, Last, Damaged}

-- near tokens lie apart; the greatest values stay within the slots, and one slot is enough for any
mixed : (mixed_slot 14 0 40 ≡ 12) × (mixed_slot 14 1 71 ≡ 0) × (mixed_slot 14 1 72 ≡ 0) × (mixed_slot 1 9 9 ≡ 0)
unfolding mixed_slot
mixed = (refl, refl, refl, refl)

-- seven nodes fit: seven cells after the stamp, and twice as many slots
sized :
    (ledger_capacity (blank_ledger 8 14) ≡ 7) × (ledger_capacity (blank_ledger 8 13) ≡ 6)
    × (ledger_capacity (blank_ledger 0 14) ≡ 0)
unfolding ledger_capacity empty_index
sized = (refl, refl, refl)

abbrev five : Ledger
five = record {
  lasts = 5 ∷ 1 ∷ 4 ∷ 0 ∷ 0 ∷ 0 ∷ 0 ∷ 0 ∷ [];
  slots = 2 ∷ 4 ∷ 0 ∷ 0 ∷ 0 ∷ 0 ∷ 0 ∷ 0 ∷ 0 ∷ 0 ∷ 0 ∷ 0 ∷ 1 ∷ 0 ∷ [];
}

-- nodes 1, 2 and 4 are children; 2 and 4 belong in slot 0
caught : caught_up small.at 5 (blank_ledger 8 14) ≡ five
unfolding caught_up enter_nodes enter_node ledger_capacity insert_from slot_after mixed_slot empty_index
caught = refl

-- two nodes more, below node 1
abbrev seven : Trie
seven = trie_in sizes (append_path sizes cells 5 1 4 (73 ∷ 74 ∷ [])) 7 2

-- it goes on where the stamp says, and comes to what entering them all at once comes to
went_on : (caught_up seven.at 7 five ≡ caught_up seven.at 7 (blank_ledger 8 14))
    × ((caught_up seven.at 7 five).lasts ≡ 7 ∷ 1 ∷ 5 ∷ 0 ∷ 0 ∷ 0 ∷ 6 ∷ 0 ∷ [])
unfolding caught_up enter_nodes enter_node ledger_capacity insert_from slot_after mixed_slot empty_index append_path
    append_node lead_cell
went_on = (refl, refl)

-- a child that there is, first or not; a new one goes after node 4; node 3 has none
searched : (search_kept five small 1 71 ≡ Found 2) × (search_kept five small 1 72 ≡ Found 4)
    × (search_kept five small 1 73 ≡ Last 4) × (search_kept (blank_ledger 8 14) small 1 73 ≡ Last 4)
    × (search_kept five small 3 40 ≡ Last 0)
unfolding caught_up enter_nodes enter_node ledger_capacity insert_from slot_after mixed_slot empty_index usable
    search_in found_in absent is_last probe confirmed node_sound follows
searched = (refl, refl, refl, refl, refl)

-- with cells for three nodes it takes three, and is not used
too_short : ((caught_up small.at 5 (blank_ledger 4 14)).lasts ≡ 3 ∷ 1 ∷ 2 ∷ 0 ∷ [])
    × (usable 5 (caught_up small.at 5 (blank_ledger 4 14)) ≡ false)
    × (search_kept (blank_ledger 4 14) small 1 72 ≡ Found 4)
unfolding caught_up enter_nodes enter_node ledger_capacity insert_from slot_after mixed_slot empty_index usable
    search_in search_children search_siblings node_sound follows
too_short = (refl, refl, refl)

-- one that others wrote: free slots say that nothing is there, but a new child still goes after the last one, whether
-- it is noted or not; one of more nodes than there are is left alone
abbrev forged : ℕ → ℕ → Ledger
forged nodes last = record {
  lasts = nodes ∷ 1 ∷ last ∷ 0 ∷ 0 ∷ 0 ∷ 0 ∷ 0 ∷ [];
  slots = 0 ∷ 0 ∷ 0 ∷ 0 ∷ 0 ∷ 0 ∷ 0 ∷ 0 ∷ 0 ∷ 0 ∷ 0 ∷ 0 ∷ 0 ∷ 0 ∷ [];
}

foreign : (search_kept (forged 5 4) small 1 72 ≡ Last 4) × (search_kept (forged 5 2) small 1 73 ≡ Last 4)
    × (search_kept (forged 5 9) small 1 72 ≡ Found 4) × (search_kept (forged 6 4) small 1 72 ≡ Found 4)
    × (caught_up small.at 5 (forged 6 4) ≡ forged 6 4)
unfolding caught_up enter_nodes enter_node ledger_capacity usable search_in found_in absent is_last slot_after
    mixed_slot probe confirmed search_children search_siblings node_sound follows
foreign = (refl, refl, refl, refl, refl)

-- in damaged spaces it need not end as the chain: node 4 is damaged and is met; node 2 is damaged and is judged as the
-- first child; a stray parent above its node is passed over when nodes are entered
searched-damaged : (search_kept five (trie_in sizes cells 5 1) 1 72 ≡ Damaged)
    × (search_kept five (trie_in sizes (slice_set cells 22 3) 5 2) 1 72 ≡ Damaged)
    × ((caught_up (trie_in sizes (slice_set cells 31 7) 5 2).at 5 (blank_ledger 8 14)).lasts
    ≡ 5 ∷ 1 ∷ 2 ∷ 0 ∷ 0 ∷ 0 ∷ 0 ∷ 0 ∷ [])
unfolding caught_up enter_nodes enter_node ledger_capacity insert_from slot_after mixed_slot empty_index usable
    search_in found_in absent is_last probe confirmed search_children search_siblings node_sound follows
searched-damaged = (refl, refl, refl)
