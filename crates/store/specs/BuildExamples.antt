-- The build of an index on a small space and on damaged ones, as theorems.
use Rattle.std.specs.Prelude.{ℕ, List, [], ◌∷◌, ◌++◌, ◌≡◌, refl, set, replicate}
use Rattle.basis.specs.Editions.{known_edition}
use Rattle.space.specs.Layout.{subgoal_width, answer_width}
use Rattle.space.specs.Heading.{in_range, capacity, whole, counted, header_of, space_header}
use Rattle.space.specs.Judging.{follows, node_sound}
use Rattle.trie.specs.Index.{power_below, slot_of, slot_after, members, enters, entering, insert_from, insert_all}
use Rattle.trie.specs.Index.{empty_index, built_index, roomy}
use Rattle.store.specs.Building.{root_above, node_fit, nodes_fit, built, refused, build_on, build_under}
use Rattle.store.specs.Building.{build_index}

-- 12 nodes, 1 subgoal, 2 answers: nine children of node 0, and one child of the answer root 10. Subgoal and answer
-- records are all 0: a build does not read them.
abbrev space : List ℕ
space =
    (1 ∷ 12 ∷ 1 ∷ 2 ∷ 8 ∷ 68 ∷ 74 ∷ 80
    ∷ 0 ∷ 1 ∷ 0 ∷ 0 ∷ 0
    ∷ 5 ∷ 0 ∷ 2 ∷ 0 ∷ 1
    ∷ 37 ∷ 0 ∷ 3 ∷ 0 ∷ 1
    ∷ 6 ∷ 0 ∷ 4 ∷ 0 ∷ 1
    ∷ 31 ∷ 0 ∷ 5 ∷ 0 ∷ 1
    ∷ 63 ∷ 0 ∷ 6 ∷ 0 ∷ 1
    ∷ 10 ∷ 0 ∷ 7 ∷ 0 ∷ 1
    ∷ 11 ∷ 0 ∷ 8 ∷ 0 ∷ 1
    ∷ 12 ∷ 0 ∷ 9 ∷ 0 ∷ 1
    ∷ 13 ∷ 0 ∷ 0 ∷ 0 ∷ 1
    ∷ 0 ∷ 11 ∷ 0 ∷ 10 ∷ 0
    ∷ 71 ∷ 0 ∷ 0 ∷ 10 ∷ 2 ∷ []) ++ replicate 12 0

-- the build is refused by r, and the slots keep what they held
abbrev Refuses : List ℕ → List ℕ → ℕ → Type 0
Refuses cs index r = build_index cs index ≡ record { reply = refused r; index = index }

-- what the slots held has no part in the index; 16 are too few, 24 and none no power of two
abbrev pub Builds : Type 0
Builds =
    (build_index space (replicate 32 7) ≡ record {
      reply = built 9;
      index = 5 ∷ 0 ∷ 0 ∷ 0 ∷ 0 ∷ 1 ∷ 2 ∷ 3 ∷ 0 ∷ 0 ∷ 6 ∷ 7 ∷ 8 ∷ 9 ∷ 0 ∷ 0
          ∷ 0 ∷ 0 ∷ 0 ∷ 0 ∷ 0 ∷ 0 ∷ 0 ∷ 0 ∷ 0 ∷ 0 ∷ 0 ∷ 0 ∷ 0 ∷ 0 ∷ 0 ∷ 4 ∷ [];
    })
    × Refuses space (replicate 16 7) 17 × Refuses space (replicate 24 7) 17 × Refuses space [] 17

abbrev two : List ℕ
two = 7 ∷ 7 ∷ []

-- an edition that there is not; a link to subgoal 2 below node 0, and to answer 3 below node 10; a first child whose
-- parent is another node, and a next sibling whose parent is; and none of these
abbrev pub Refusals : Type 0
Refusals =
    Refuses (set space 0 3) two 1 × Refuses (set space 57 2) two 9 × Refuses (set space 67 3) two 9
    × Refuses (set space 66 9) two 9 × Refuses (set space 55 11) two 9 × Refuses space two 17

pub build-examples : Builds × Refusals
unfolding build_index build_under build_on nodes_fit node_fit root_above node_sound follows roomy entering enters
    members power_below built_index insert_all insert_from empty_index slot_after slot_of space_header header_of
    known_edition capacity whole counted in_range subgoal_width answer_width
build-examples = ((refl, refl, refl, refl), (refl, refl, refl, refl, refl, refl))
