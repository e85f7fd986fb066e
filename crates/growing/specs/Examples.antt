-- Growing on small spaces of edition 1: every block moved up, moved down, one up and the other down; each refusal in
-- its place. What the records hold is not looked at.
use Rattle.basis.specs.declared.refusals.Refusal.TheVariants as refusal
use Rattle.std.specs.Prelude.{ℕ, ◌≡◌, refl, List, [], ◌∷◌, set, Err, Ok}
use Rattle.basis.specs.Editions.{known_edition}
use Rattle.space.specs.Layout.{subgoal_width, answer_width}
use Rattle.space.specs.Heading.{in_range, capacity, whole, counted, header_of, space_header}
use Rattle.space.specs.Fresh.{fresh_fits}
use Rattle.growing.specs.Growing.{enough, grown_cells, grow_under, grow_reply, grow_space}

-- 2 nodes, 1 subgoal and 1 answer, all used; the table ends at 27
abbrev small : List ℕ
small =
    1 ∷ 2 ∷ 1 ∷ 1 ∷ 8 ∷ 18 ∷ 24 ∷ 27 ∷ 10 ∷ 11 ∷ 12 ∷ 13 ∷ 14 ∷ 15
    ∷ 16 ∷ 17 ∷ 18 ∷ 19 ∷ 20 ∷ 21 ∷ 22 ∷ 23 ∷ 24 ∷ 25 ∷ 30 ∷ 31 ∷ 32 ∷ 60
    ∷ 61 ∷ 62 ∷ 63 ∷ 64 ∷ 65 ∷ 66 ∷ 67 ∷ 68 ∷ 69 ∷ 70 ∷ 71 ∷ []

-- the same with room for 3 nodes and 2 subgoals: zeros after what is used, and the one cell past the end stays
abbrev large : List ℕ
large =
    1 ∷ 2 ∷ 1 ∷ 1 ∷ 8 ∷ 23 ∷ 35 ∷ 38 ∷ 10 ∷ 11 ∷ 12 ∷ 13 ∷ 14 ∷ 15
    ∷ 16 ∷ 17 ∷ 18 ∷ 19 ∷ 0 ∷ 0 ∷ 0 ∷ 0 ∷ 0 ∷ 20 ∷ 21 ∷ 22 ∷ 23 ∷ 24
    ∷ 25 ∷ 0 ∷ 0 ∷ 0 ∷ 0 ∷ 0 ∷ 0 ∷ 30 ∷ 31 ∷ 32 ∷ 71 ∷ []

-- moved down again: the cells past the new end stay, as they were before the call
abbrev back : List ℕ
back =
    1 ∷ 2 ∷ 1 ∷ 1 ∷ 8 ∷ 18 ∷ 24 ∷ 27 ∷ 10 ∷ 11 ∷ 12 ∷ 13 ∷ 14 ∷ 15
    ∷ 16 ∷ 17 ∷ 18 ∷ 19 ∷ 20 ∷ 21 ∷ 22 ∷ 23 ∷ 24 ∷ 25 ∷ 30 ∷ 31 ∷ 32 ∷ 24
    ∷ 25 ∷ 0 ∷ 0 ∷ 0 ∷ 0 ∷ 0 ∷ 0 ∷ 30 ∷ 31 ∷ 32 ∷ 71 ∷ []

-- 4 nodes and 1 subgoal: the subgoals moved up, the answers down
abbrev crossed : List ℕ
crossed =
    1 ∷ 2 ∷ 1 ∷ 1 ∷ 8 ∷ 28 ∷ 34 ∷ 37 ∷ 10 ∷ 11 ∷ 12 ∷ 13 ∷ 14 ∷ 15
    ∷ 16 ∷ 17 ∷ 18 ∷ 19 ∷ 0 ∷ 0 ∷ 0 ∷ 0 ∷ 0 ∷ 0 ∷ 0 ∷ 0 ∷ 0 ∷ 0
    ∷ 20 ∷ 21 ∷ 22 ∷ 23 ∷ 24 ∷ 25 ∷ 30 ∷ 31 ∷ 32 ∷ 32 ∷ 71 ∷ []

moves : (grow_reply 3 2 1 small ≡ Ok tt)
    × (grow_space 3 2 1 small ≡ large)
    × (grow_space 2 1 1 large ≡ back)
    × (grow_space 4 1 1 large ≡ crossed)
    × (grow_space 2 1 1 small ≡ small)
unfolding grow_reply grow_under grow_space grown_cells enough fresh_fits known_edition space_header header_of counted
    capacity whole in_range subgoal_width answer_width
moves = (refl, refl, refl, refl, refl)

-- 1 before 2: an unknown edition, and no node asked for; 2 before 19: no node, a cell too few; 19 by each count
refusals : (grow_reply 0 2 1 (set small 0 9) ≡ Err refusal.Header)
    × (grow_reply 0 0 0 small ≡ Err refusal.Fresh)
    × (grow_reply 1 3 3 small ≡ Err refusal.Fresh)
    × (grow_reply 1 1 1 small ≡ Err refusal.Capacity)
    × (grow_reply 2 0 1 small ≡ Err refusal.Capacity)
    × (grow_reply 2 1 0 small ≡ Err refusal.Capacity)
    × (grow_space 2 1 0 small ≡ small)
unfolding grow_reply grow_under grow_space grown_cells enough fresh_fits known_edition space_header header_of counted
    capacity whole in_range subgoal_width answer_width
refusals = (refl, refl, refl, refl, refl, refl, refl)
