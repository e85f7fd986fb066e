-- `compact_bytes` meets its contract: the edition is judged first.
use borrow.Author.Rules.{rules}
use native.Mathlib.Omega.{arith}
use mathlib.Core.Path.{ap}
use Rattle.forms.specs.Cells.{arity_of}
use Rattle.forms.specs.Stored.{StoredForm, stored_of}
use Rattle.forms.proofs.StoredLaws.{converter-stored}
use Rattle.marshalling.specs.Export.{compact_bytes}
use Rattle.marshalling.proofs.ExportLaws.{compact-odd, export-in}
use Rattle.marshalling.proofs.compact_bytes.Goals as goal

pub returns : goal.returns
returns c =
    let e = c.args.edition in let b = c.args.input.now in let out = c.args.out.now in
    export-in e b out _ _ (compact_bytes (arity_of e) (stored_of e) b out) _ c.export.ensures.refused (λ h. compact-odd _ _ _ _ h)
    (λ k z. let x = c.export.ensures.converted k (omega (arith, z)) in search rules)
    (λ k. ap (λ (s : StoredForm). compact_bytes (arity_of e) s b out) (converter-stored e k))
