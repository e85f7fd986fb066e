-- The forms of a join as a draft notes them. A form is searched in the target; where the search stopped, the node at
-- which it stopped and the tokens left are noted as one word. The nodes that are used are noted as words of one token,
-- so that every word begins with one that is there.
use Rattle.std.specs.Prelude.{ℕ, zero, suc, ◌+◌, ◌-◌, max, List, [], ◌∷◌, ◌++◌, ◌≡◌, length}
use Rattle.plain.specs.Words.{Word, has, most}
use Rattle.trie.specs.Walks.{Finding, stopped}
use Rattle.store.specs.Views.{View}
use Rattle.store.specs.Decisions.{walk_to_by}

-- the nodes below n
unfoldable pub roots_below : ℕ → List Word
roots_below zero = []
roots_below (suc n) = roots_below n ++ ((n ∷ []) ∷ [])

-- the words es note the forms before: for each form whose search stops they tell what it shares with a form before it
-- beyond what is found, and whether it is one of them
pub record Noted (find : Finding) (v : View) (s : ℕ) (es before : List Word) : Type 0 where
  pub shared : (w : Word) (p l : ℕ) (left : Word) → walk_to_by find v s w ≡ stopped p l left
      → (length w - length left) + most es (p ∷ left) ≡ 1 + max (length w - length left) (most before w)
  pub held : (w : Word) (p l : ℕ) (left : Word) → walk_to_by find v s w ≡ stopped p l left
      → has es (p ∷ left) ≡ has before w
