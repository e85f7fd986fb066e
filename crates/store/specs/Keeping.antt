-- Calls that are lent a ledger beside the space: they search by it, and leave it with every node of the space that they
-- leave. A refused call leaves the space as it was; of the ledger it leaves the nodes entered that came before it.
use Rattle.std.specs.Prelude.{ℕ, List, ◌≡◌}
use Rattle.plain.specs.Requests.{Request, Reply, Result}
use Rattle.trie.specs.Ledger.{Ledger, caught_up, search_kept}
use Rattle.store.specs.Building.{nodes_of}
use Rattle.store.specs.Calls.{space_step_by, AnswersBy}

-- with a ledger; every search is by the ledger caught up with the space as it then is, also within a join
abbrev pub kept_step : Ledger → List ℕ → Request → Result (List ℕ)
kept_step k = space_step_by (search_kept k)

-- the ledger with every node of a space; as it was where the header is refused
abbrev pub ledger_of : List ℕ → Ledger → Ledger
ledger_of cs k = let t = nodes_of cs in caught_up t.at t.nodes k

-- the contract of such a call: the ledger was `k` and is afterwards `k'`
abbrev pub AnswersKept : Ledger → Ledger → List ℕ → Request → Reply → List ℕ → List ℕ → Type 0
AnswersKept k k' before q r out after = AnswersBy (search_kept k) before q r out after × (k' ≡ ledger_of after k)
