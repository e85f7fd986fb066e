-- What the entries of a draft stand for: words, each a node that is used and tokens below it. The nodes that are used
-- stand for themselves.
use Rattle.drafts.specs.declared.Drafted.{Drafted}
use Rattle.std.specs.Prelude.{None, Option, Some}
use Rattle.std.specs.Prelude.{ℕ, ◌+◌, ◌<◌, ◌≤◌, Bool, true, not, List, [], ◌∷◌, ◌++◌, ◌≡◌, eqb, length, get_or, set}
use Rattle.basis.specs.Choice.{pick}
use Rattle.plain.specs.Words.{Word, has, union}
use Rattle.plain.proofs.PrefixLaws.{longer}
use Rattle.space.specs.Layout.{sizes, node_in, link_cell}
use Rattle.space.specs.Sound.{NodesIn}
use Rattle.space.specs.declared.Node.{Node}
use Rattle.agreement.proofs.CellRecords.{Kept}
use Rattle.drafts.specs.declared.Room.{Room}
use Rattle.drafts.specs.Entries.{Bucketed, lowest, highest}

-- the word of node n, by the words of all
abbrev pub word_of : List Word → ℕ → Word
word_of K n = get_or K n []

-- each node has a word of its own, an entry that of its parent with its token behind; the link of an entry is 1 where
-- its word is one of those that were drafted
pub record Keyed (at : ℕ → Node) (base : ℕ) (K ends : List Word) : Type 0 where
  pub different : (i j : ℕ) → i < length K → j < length K → word_of K i ≡ word_of K j → i ≡ j
  pub old-word : (n : ℕ) → n < base → word_of K n ≡ n ∷ []
  pub new_word : (n : ℕ) → base ≤ n → n < length K → word_of K n ≡ word_of K (at n).parent ++ ((at n).token ∷ [])
  pub marked : (n : ℕ) → base ≤ n → n < length K → (at n).link ≡ pick (has ends (word_of K n)) 1 0
  pub ends-in : (w : Word) → has ends w ≡ true → has K w ≡ true

-- ---- a word is drafted

abbrev pub Draftable : List ℕ → Room → ℕ → ℕ → List ℕ → Type 0
Draftable cs x used stop tokens =
    NodesIn cs (x.base + x.most) × Bucketed (node_in sizes cs) x used × (stop < x.base) × (1 ≤ length tokens)

-- the words with those of the tokens below node `stop`
abbrev pub words_with : List Word → ℕ → List ℕ → List Word
words_with K stop tokens = union K (longer (stop ∷ []) tokens)

-- with so many nodes in use, a word that was there before or not
abbrev pub drafted_to : ℕ → Bool → Drafted
drafted_to k held = record { used = k; held = held }

abbrev pub WordDrafted : List ℕ → Room → ℕ → ℕ → List ℕ → List ℕ → Option Drafted → Type 0
WordDrafted cs x used stop tokens cs' (Some drafted) =
    Kept (lowest x) (highest x) cs cs' × Bucketed (node_in sizes cs') x drafted.used
    × ((K ends : List Word) → length K ≡ used → Keyed (node_in sizes cs) x.base K ends
    → (length (words_with K stop tokens) ≡ drafted.used)
    × Keyed (node_in sizes cs') x.base (words_with K stop tokens) (ends ++ ((stop ∷ tokens) ∷ []))
    × (drafted.held ≡ has ends (stop ∷ tokens)))
WordDrafted cs x used stop tokens cs' None =
    Kept (lowest x) (highest x) cs cs'
    × ((K ends : List Word) → length K ≡ used → Keyed (node_in sizes cs) x.base K ends
    → x.base + x.most < length (words_with K stop tokens))

-- the link of node n is set, and whether it was before
abbrev pub LinkMarked : List ℕ → ℕ → List ℕ → Bool → Type 0
LinkMarked cs n cs' r = (cs' ≡ set cs (link_cell sizes n) 1) × (r ≡ not (eqb (node_in sizes cs n).link 0))
