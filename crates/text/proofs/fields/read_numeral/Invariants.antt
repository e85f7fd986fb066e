use Prim.Native.Nat.{◌<◌, ◌^◌}
use mathlib.Core.Path.{◌≡◌}
use lib.ListN.{drop}
use Rattle.text.specs.Fields.{value_from}
use Rattle.text.proofs.fields.read_numeral.Given as goal

abbrev pub invariant-loop-b : goal.invariant-loop-b
invariant-loop-b l = record {
  small : l.value < 16 ^ l.b-index;
  valued : value_from l.base 0 l.digits ≡ value_from l.base l.value (drop l.b-index l.digits);
}
