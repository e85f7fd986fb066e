-- The build by parts, a part to a function, under the names of store's Building.antt and trie's Index.antt; and what a
-- function may take as tested.
use Rattle.std.specs.Prelude.{ℕ, ◌*◌, ◌<◌, ◌≤◌, Bool, true, List, ◌≡◌, leb, length}
use Rattle.std.specs.Prelude.{Result, Ok, Err}
use Rattle.basis.specs.Choice.{pick}
use Rattle.basis.specs.Refusals.{number_of}
use Rattle.basis.specs.declared.refusals.Refusal.{Refusal}
use Rattle.space.specs.Sound.{Bounds}
use Rattle.space.specs.declared.Head.{Head}
use Rattle.space.specs.declared.Node.{Node}
use Rattle.trie.specs.Siblings.{Trie}
use Rattle.trie.specs.Index.{power_of_two, enters, entering, insert, insert_all, built_index}
use Rattle.store.specs.Views.{View, subgoal_trie}
use Rattle.store.specs.Clauses.{view_in}
use Rattle.store.specs.Building.{links_of, nodes_fit, BuildReply, built, refused, Build, build_index}

-- ---- the answer

-- so many children entered, or a refusal
abbrev pub BuildAnswer : Type 0
BuildAnswer = Result ℕ Refusal

abbrev pub said_build_by : {R : Type 0} → (R → ℕ) → Result ℕ R → BuildReply
said_build_by number (Ok n) = built n
said_build_by number (Err r) = refused (number r)

abbrev pub said_build : BuildAnswer → BuildReply
said_build = said_build_by number_of

-- the build b is answered by r, and leaves the index `after`
abbrev pub BuildLeaves : Build → BuildAnswer → List ℕ → Type 0
BuildLeaves b r after = (said_build r ≡ b.reply) × (after ≡ b.index)

-- the same of the build on the cells of a space
abbrev pub Builds : List ℕ → List ℕ → BuildAnswer → List ℕ → Type 0
Builds cs before r after = (said_build r ≡ (build_index cs before).reply) × (after ≡ (build_index cs before).index)

-- ---- a node

-- no node up to n has a parent above it: so the way up from n falls
abbrev pub Falling : (ℕ → Node) → ℕ → Type 0
Falling at n = (i : ℕ) → i ≤ n → (at i).parent ≤ i

-- the link is within the count that those of node n's trie are held to
unfoldable pub link_fits : View → ℕ → ℕ → Bool
link_fits v n link = leb link (links_of v n)

-- ---- the entries

-- the index once node n was looked at
unfoldable pub looked_at : Trie → List ℕ → ℕ → List ℕ
looked_at t index n = pick (enters t n) (insert t index n) index

-- ---- under a head

module _ (cs : List ℕ) (h : Head) where
  -- the nodes, whatever their links
  abbrev pub tries_in : Trie
  tries_in = subgoal_trie (view_in cs h)

  -- those before node n fit
  abbrev pub FitBefore : ℕ → Type 0
  FitBefore n = Bounds cs h × (n < h.nodes) × (nodes_fit (view_in cs h) n ≡ true)

  -- all fit
  abbrev pub AllFit : Type 0
  AllFit = Bounds cs h × (nodes_fit (view_in cs h) h.nodes ≡ true)

  -- and n is one of them
  abbrev pub AmongFit : ℕ → Type 0
  AmongFit n = AllFit × (n < h.nodes)

  -- how many children enter: no more than there are nodes
  abbrev pub EnteringCounted : ℕ → Type 0
  EnteringCounted count = (count ≡ length (entering tries_in h.nodes)) × (count ≤ h.nodes)

  -- they were entered
  abbrev pub EntersChildren : List ℕ → List ℕ → Type 0
  EntersChildren before after = after ≡ insert_all tries_in before (entering tries_in h.nodes)

  -- the index was built if half of its slots stay free with so many entries, which is r, and else left as it was
  abbrev pub FillsIndex : ℕ → List ℕ → Bool → List ℕ → Type 0
  FillsIndex count before r after =
      (r ≡ leb (2 * count) (length before)) × (after ≡ pick r (built_index tries_in (length before)) before)

-- a number of slots that an entry may be looked for in
abbrev pub Slots : ℕ → Type 0
Slots size = power_of_two size ≡ true

-- the nodes of a space can enter an index of these slots
abbrev pub Insertable : List ℕ → Head → List ℕ → Type 0
Insertable cs h index = AllFit cs h × Slots (length index)
