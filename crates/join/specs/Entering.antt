-- What entering the forms of a join leaves, and what it asks of the target.
use Rattle.std.specs.Prelude.{ℕ, ◌≤◌, ◌<◌, List, ◌≡◌, Ok}
use Rattle.plain.specs.Words.{Word}
use Rattle.space.specs.Layout.{sizes_of}
use Rattle.space.specs.Sound.{Bounds, subgoal_under}
use Rattle.space.specs.declared.Head.{Head}
use Rattle.trie.specs.Walks.{Finding}
use Rattle.store.specs.Changes.{form_given_by, forms_given_by}
use Rattle.pairing.specs.declared.Sides.{Sides}
use Rattle.pairing.specs.Counting.{all_forms}

-- another header for the same sources
abbrev pub under_head : Sides → Head → Sides
under_head x h = record { h = h; first = x.first; second = x.second }

-- the target is another subgoal than the sources, and its record stands within the counts
pub record Target (cs : List ℕ) (x : Sides) (s : ℕ) : Type 0 where
  pub low : 1 ≤ s
  pub high : s ≤ x.h.subgoals
  pub root_in : (subgoal_under cs x.h s).root < x.h.nodes
  pub last-in : (subgoal_under cs x.h s).last ≤ x.h.answers
  pub not_first : x.first.number ≡ s → ⊥
  pub not-second : x.second.number ≡ s → ⊥

-- a form may be given to subgoal s
abbrev pub Givable : List ℕ → Head → ℕ → Type 0
Givable cs h s =
    Bounds cs h × (1 ≤ s) × (s ≤ h.subgoals) × ((subgoal_under cs h s).root < h.nodes)
    × ((subgoal_under cs h s).last ≤ h.answers)

-- it is, whatever comes of it
abbrev pub GivesForm : Finding → List ℕ → Head → ℕ → Word → List ℕ → Type 0
GivesForm find cs h s w cs' = cs' ≡ form_given_by find (sizes_of h.edition) cs s w (Ok h)

-- every form is given
abbrev pub Enters : Finding → List ℕ → Sides → ℕ → List ℕ → List ℕ → List ℕ → Type 0
Enters find cs x s ps ks cs' = cs' ≡ forms_given_by find (sizes_of x.h.edition) cs s (all_forms cs x ps ks)
