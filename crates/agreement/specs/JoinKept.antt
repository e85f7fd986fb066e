-- What an accepted join leaves, with every index, on every space whose header is sound, whatever else is damaged: none
-- of its forms is left out. It decides on the space as it was lent and then enters its forms one after another; what
-- it was decided by stays so meanwhile.
use Rattle.std.specs.Prelude.{ℕ, List, [], ◌∷◌, ◌≡◌, Ok}
use Rattle.plain.specs.Words.{Word}
use Rattle.plain.specs.Coding.{coding_of}
use Rattle.plain.specs.Requests.{join, old_answer, joined}
use Rattle.space.specs.Layout.{sizes_of}
use Rattle.space.specs.Heading.{space_header}
use Rattle.space.specs.declared.Head.{Head}
use Rattle.trie.specs.Walks.{Finding}
use Rattle.store.specs.Views.{View, view_of}
use Rattle.store.specs.Decisions.{says, enters_answers, answered_at, walk_to_by, decide_by}
use Rattle.store.specs.Calls.{indexed_way, indexed_step}

-- the form is an answer: given to s once more, by the same searches, it is an old one
abbrev pub FormKept : Finding → View → ℕ → Word → Type 0
FormKept find v s w = (a : ℕ) × (answered_at v s w (walk_to_by find v s w) ≡ says (old_answer a))

unfoldable pub AllKept : Finding → View → ℕ → List Word → Type 0
AllKept find v s [] = Unit {0}
AllKept find v s (w ∷ ws) = FormKept find v s w × AllKept find v s ws

-- a join that answers `joined` came to entering its forms
abbrev pub JoinedEnters : Type 0
JoinedEnters =
    (cs index : List ℕ) (h : Head) (f g : ℕ) (ps : List ℕ) (s : ℕ) (ks : List ℕ) (n : ℕ)
    → space_header cs ≡ Ok h → (indexed_step index cs (join f g ps s ks)).reply ≡ joined n
    → (ws : List Word)
    × (decide_by (indexed_way index cs) (coding_of h.edition) (view_of (sizes_of h.edition) cs h) (join f g ps s ks)
    ≡ enters_answers s ws)

-- and a join that comes to that has each of them afterwards
abbrev pub JoinKeepsAll : Type 0
JoinKeepsAll =
    (cs index : List ℕ) (h : Head) (f g : ℕ) (ps : List ℕ) (s : ℕ) (ks : List ℕ) (ws : List Word)
    → space_header cs ≡ Ok h
    → decide_by (indexed_way index cs) (coding_of h.edition) (view_of (sizes_of h.edition) cs h) (join f g ps s ks)
    ≡ enters_answers s ws
    → (let after = (indexed_step index cs (join f g ps s ks)).state in
    (h' : Head) × (space_header after ≡ Ok h')
    × AllKept (indexed_way index cs) (view_of (sizes_of h.edition) after h') s ws)
