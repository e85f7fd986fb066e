-- `export` meets its contract: what is refused comes before the call.
use mathlib.Core.Path.{refl}
use Rattle.marshalling.proofs.export.Goals as goal

pub returns-then-not-is_converter_edition-clause-refused : goal.returns-then-not-is_converter_edition-clause-refused
returns-then-not-is_converter_edition-clause-refused g c = ((λ k. rw c.returned.ensures refl), (λ k h. cc))

pub returns-then-bytes-ne0-clause-refused : goal.returns-then-bytes-ne0-clause-refused
returns-then-bytes-ne0-clause-refused g c = ((λ k. cc), (λ k h. rw c.returned-then-bytes-ne0.ensures refl))
