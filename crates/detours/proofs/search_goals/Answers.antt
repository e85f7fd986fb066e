-- `detours::search_goals` meets its contract.
use mathlib.Core.Path.{◌∙◌}
use Rattle.detours.proofs.FindCases.{find-left, find-told}
use Rattle.detours.proofs.search_goals.Goals as goal

pub outcome_in-requires : goal.outcome_in-requires
outcome_in-requires c = (
  c.search-ended.ensures.stays.size,
  c.requires.few,
  find-left c.args.table.now c.args.goals.now c.args.budget _ _ c.search-ended.ensures,
)

pub returns : goal.returns
returns c =
    c.outcome_in.ensures ∙ find-told c.args.table.now c.args.goals.now c.args.budget _ _
    c.search-ended.ensures
