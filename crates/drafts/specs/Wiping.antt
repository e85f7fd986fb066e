-- The cells of the free nodes of a draft, as zeros.
use Rattle.std.specs.Prelude.{ℕ, ◌<◌, ◌≤◌, Bool, true, List, ◌≡◌, get_or}
use Rattle.agreement.proofs.CellRecords.{Kept}
use Rattle.drafts.specs.declared.Room.{Room}
use Rattle.drafts.specs.Entries.{lowest, highest}

abbrev pub Blank : List ℕ → Room → Type 0
Blank cs x = (k : ℕ) → lowest x ≤ k → k < highest x → get_or cs k 0 ≡ 0

abbrev pub Blanked : List ℕ → Room → Bool → Type 0
Blanked cs x r = r ≡ true → Blank cs x

abbrev pub Wiped : List ℕ → Room → List ℕ → Type 0
Wiped cs x cs' = Kept (lowest x) (highest x) cs cs' × Blank cs' x
