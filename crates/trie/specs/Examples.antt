-- Examples, as theorems: five nodes, two paths below root 0 and the root 3, and room for two nodes more.
use Rattle.std.specs.Prelude.{◌≡◌, ℕ, List, [], ◌∷◌, refl}
use Rattle.space.specs.Layout.{sizes}
use Rattle.space.specs.Judging.{follows, node_sound}
use Rattle.trie.specs.Siblings.{Trie, trie_in, search_siblings, search_children}
use Rattle.trie.specs.Walks.{whole, stopped, damaged, walk, walk_by, walk_from_by}
use Rattle.trie.specs.Paths.{none, tokens, gather, longest}
use Rattle.trie.specs.Runs as runs
use Rattle.trie.specs.Runs.{cut, lost, climbed}
use Rattle.trie.specs.Append.{lead_cell, append_node, append_path}
use Rattle.trie.specs.declared.Search.TheVariants.{Found, Last, Damaged}

-- token, child, sibling, parent, link; after the header's 8 cells
abbrev pub cells : List ℕ
cells = 1 ∷ 5 ∷ 2 ∷ 0 ∷ 8 ∷ 0 ∷ 0 ∷ 0
    ∷ 0 ∷ 1 ∷ 0 ∷ 0 ∷ 0
    ∷ 40 ∷ 2 ∷ 0 ∷ 0 ∷ 0
    ∷ 71 ∷ 0 ∷ 4 ∷ 1 ∷ 1
    ∷ 0 ∷ 0 ∷ 0 ∷ 3 ∷ 0
    ∷ 72 ∷ 0 ∷ 0 ∷ 1 ∷ 2
    ∷ 9 ∷ 9 ∷ 9 ∷ 9 ∷ 9
    ∷ 9 ∷ 9 ∷ 9 ∷ 9 ∷ 9 ∷ []

abbrev pub small : Trie
small = trie_in sizes cells 5 2

searched : (search_children small 1 72 ≡ Found 4) × (search_children small 1 73 ≡ Last 4)
    × (search_children small 3 40 ≡ Last 0)
unfolding search_children search_siblings node_sound follows
searched = (refl, refl, refl)

-- links held to one record: node 4 is damaged, and met only by a search that goes past node 2
searched-damaged : (search_children (trie_in sizes cells 5 1) 1 73 ≡ Damaged)
    × (search_children (trie_in sizes cells 5 1) 1 71 ≡ Found 2)
unfolding search_children search_siblings node_sound follows
searched-damaged = (refl, refl)

walked : (walk small 0 (40 ∷ 72 ∷ []) ≡ whole 4) × (walk small 0 (40 ∷ 73 ∷ 74 ∷ []) ≡ stopped 1 4 (73 ∷ 74 ∷ []))
    × (walk small 0 [] ≡ whole 0) × (walk small 1 [] ≡ damaged)
unfolding walk_by walk_from_by search_children search_siblings node_sound follows
walked = (refl, refl, refl, refl)

gathered : (gather longest small 0 4 ≡ tokens (40 ∷ 72 ∷ [])) × (gather longest small 3 4 ≡ none)
    × (gather 1 small 0 4 ≡ none) × (gather longest small 3 3 ≡ tokens [])
unfolding gather node_sound follows
gathered = (refl, refl, refl, refl)

in-runs : (climbed 2 small 0 4 ≡ cut 0 (40 ∷ 72 ∷ [])) × (climbed 3 small 0 4 ≡ runs.to_root (40 ∷ 72 ∷ []))
    × (climbed 3 small 3 4 ≡ lost)
unfolding climbed node_sound follows
in-runs = (refl, refl, refl)

-- the walk that stopped is whole after its tokens are appended
appended : walk (trie_in sizes (append_path sizes cells 5 1 4 (73 ∷ 74 ∷ [])) 7 2) 0 (40 ∷ 73 ∷ 74 ∷ []) ≡ whole 6
unfolding walk_by walk_from_by search_children search_siblings node_sound follows append_path append_node lead_cell
appended = refl
