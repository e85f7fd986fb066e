-- `load_terms` meets its contract: it answers what was loaded.
use borrow.Author.Rules.{rules}
use Rattle.std.specs.Prelude.{None}
use mathlib.Core.Path.{◌≡◌}
use Rattle.convert.proofs.load_terms.Goals as goal

pub returns-in_err-loaded : goal.returns-in_err-loaded
returns-in_err-loaded c =
    let passed : c.from_residual.result ≡ None = search rules in
    rw passed ((rw c.in_err-loaded.was at c.load_counted.ensures).0)

pub returns : goal.returns
returns c = (rw c.in_ok-loaded.was at c.load_counted.ensures).0
