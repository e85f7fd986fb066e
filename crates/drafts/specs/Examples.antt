-- Computed: the words of a draft, and a slot.
use Rattle.std.specs.Prelude.{true, false, [], ◌∷◌, ◌≡◌, refl, length}
use Rattle.plain.specs.Words.{has, add, union, common, most}
use Rattle.forms.specs.Compact.{same}
use Rattle.plain.proofs.PrefixLaws.{longer}
use Rattle.drafts.specs.Entries.{slot_in, is_entry}
use Rattle.drafts.specs.Notes.{roots_below}
use Rattle.drafts.specs.Drafts.{words_with}

-- three nodes are used
three : roots_below 3 ≡ (0 ∷ []) ∷ (1 ∷ []) ∷ (2 ∷ []) ∷ []
unfolding roots_below
three = refl

-- tokens 7 and 8 below node 1 are two words more
one-path : words_with (roots_below 2) 1 (7 ∷ 8 ∷ []) ≡ (0 ∷ []) ∷ (1 ∷ []) ∷ (1 ∷ 7 ∷ []) ∷ (1 ∷ 7 ∷ 8 ∷ []) ∷ []
unfolding roots_below longer union add has same
one-path = refl

-- and then 7 and 9 one, but below node 0 two
shared-path : length (words_with (words_with (roots_below 2) 1 (7 ∷ 8 ∷ [])) 1 (7 ∷ 9 ∷ [])) ≡ 5
unfolding roots_below longer union add has same
shared-path = refl

other_path : length (words_with (words_with (roots_below 2) 1 (7 ∷ 8 ∷ [])) 0 (7 ∷ 9 ∷ [])) ≡ 6
unfolding roots_below longer union add has same
other_path = refl

-- as many as the words do not share: of the three tokens of 1 7 9, node 1 among them, two
noted-shares : most (roots_below 2) (1 ∷ 7 ∷ 9 ∷ []) ≡ 1
unfolding roots_below most common
noted-shares = refl

-- four free nodes from node 10 on
slot : slot_in (record { base = 10; most = 4 }) 3 5 ≡ 12
unfolding slot_in
slot = refl

-- an entry is told by its parent and its token
entry : is_entry (record { token = 5; child = 0; sibling = 0; parent = 3; link = 0 }) 3 5 ≡ true
unfolding is_entry
entry = refl

other-token : is_entry (record { token = 5; child = 0; sibling = 0; parent = 3; link = 0 }) 3 6 ≡ false
unfolding is_entry
other-token = refl

other-parent : is_entry (record { token = 5; child = 0; sibling = 0; parent = 3; link = 0 }) 2 5 ≡ false
unfolding is_entry
other-parent = refl
