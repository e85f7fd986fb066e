-- `is_symbol` meets its contract, one case to each return.
use Rattle.basis.proofs.Tests.{told}
use mathlib.Core.Path.{sym, ◌∙◌}
use Rattle.listing.specs.Listing.{legal_shape}
use Rattle.listing.proofs.Cases.{symbol-variable, symbol-shape, legal-other}
use Rattle.listing.proofs.is_symbol.Goals as goal
use Rattle.listing.proofs.is_symbol.Goals.{in-Illegal, in_default}

pub returns-after-matches : goal.returns-after-matches
unfolding legal_shape
returns-after-matches c =
    let v = told c.is_variable.ensures c.if-not-is_variable.true in
    elim c.match-matches.branch [
      | in-Illegal w ↦ rw w.matches-is (symbol-shape _ _ v _ (sym c.shape_of.ensures ∙ w.in-Illegal.is))
      | in_default w ↦ rw w.matches-is (sym (legal-other _ w.in_default.not-Illegal) ∙ symbol-shape _ _ v c.shape_of.result (sym c.shape_of.ensures))
    ]

pub returns-else-not-is_variable : goal.returns-else-not-is_variable
returns-else-not-is_variable c = rw c.if-not-is_variable.false (symbol-variable _ _ (told c.is_variable.ensures c.if-not-is_variable.false))
