-- Sums that bound what a join needs, found by a search of each form alone.
use Rattle.std.specs.Prelude.{ℕ, ◌+◌, List, [], ◌∷◌}
use Rattle.basis.specs.Choice.{pick}
use Rattle.plain.specs.Words.{Word}
use Rattle.trie.specs.Walks.{Finding}
use Rattle.store.specs.Views.{View}
use Rattle.store.specs.Decisions.{walk_to_by, missing, lacking}

-- the tokens of all forms that were not found, those that they share counted for each
unfoldable pub sum_missing : Finding → View → ℕ → List Word → ℕ
sum_missing find v s [] = 0
sum_missing find v s (w ∷ ws) = missing (walk_to_by find v s w) + sum_missing find v s ws

-- the forms that are not among the answers, each as often as it comes
unfoldable pub sum_lacking : Finding → View → ℕ → List Word → ℕ
sum_lacking find v s [] = 0
sum_lacking find v s (w ∷ ws) = pick (lacking v (walk_to_by find v s w)) 1 0 + sum_lacking find v s ws
