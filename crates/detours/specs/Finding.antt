-- What a search found, as its cells have it; and what detours comes to under a sound header.
use Rattle.std.specs.Prelude.{ℕ, ◌-◌, ◌≤◌, Bool, List, ◌≡◌, length, get_or}
use Rattle.std.specs.Prelude.{Result}
use Rattle.basis.specs.declared.refusals.Refusal.{Refusal}
use Rattle.plain.specs.Coding.{coding_of}
use Rattle.plain.specs.Requests.{Detour, detours}
use Rattle.space.specs.declared.tables.Table.{Table}
use Rattle.store.specs.Clauses.{view_at}
use Rattle.store.specs.Decisions.{says, decide}
use Rattle.store.specs.Replies.{said_detours}
use Rattle.store.specs.declared.Detour as declared-detour
use Rattle.detours.specs.Searching.{work_cells, best_in}

-- no more choices are left than the budget had
abbrev pub Answerable : List ℕ → ℕ → ℕ → Type 0
Answerable work n budget = (length work ≡ work_cells) × (n ≤ 6) × (get_or work 0 0 ≤ budget)

abbrev pub detour_in : List ℕ → ℕ → ℕ → Bool → Detour
detour_in work n budget ended = record { best = best_in n work; tried = budget - get_or work 0 0; ended = ended }

abbrev pub Decides : Table → List ℕ → ℕ → Result declared-detour.Detour Refusal → Type 0
Decides t ss budget r = says (said_detours r) ≡ decide (coding_of t.head.edition) (view_at t) (detours ss budget)
