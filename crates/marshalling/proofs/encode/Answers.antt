-- `encode` meets its contract: the bytes of the cells passed are written.
use Prim.Native.Nat.{◌*◌, ◌/◌, ◌%◌}
use mathlib.Core.List.{[], ◌∷◌}
use lib.ListN.{take, get_or}
use mathlib.Core.Path.{refl, sym, ◌∙◌}
use native.Mathlib.Omega.{arith}
use Rattle.std.proofs.lemmas.Slice.{put_mid-paste}
use lib.Seq.{sets-eq, length-take-le}
use Rattle.marshalling.proofs.BytesLaws.{bytes_next, bytes-all}
use Rattle.marshalling.proofs.encode.Goals as goal

pub loop-i-preserved : goal.loop-i-preserved
loop-i-preserved c =
    let l = length-take-le c.args.n c.args.cells.now c.requires.0 in
    let i = c.loop-i.i in
    let v = get_or (take c.args.n c.args.cells.now) i 0 in
    let bytes = v % 256 ∷ v / 256 % 256 ∷ v / 65536 % 256 ∷ v / 16777216 % 256 ∷ [] in
    put_mid-paste (4 * i) _ c.loop-i.out c.copy_from_slice.new.self bytes 4 (c.copy_from_slice.ensures.after ∙ c.to_le_bytes.ensures) (omega arith) refl
    ∙ sym (sets-eq bytes c.loop-i.out (4 * i) (omega arith))
    ∙ bytes_next _ c.args.out.now c.loop-i.out i _ c.loop-i-test.true (omega arith) (omega arith) c.loop-i.invariant refl

pub returns : goal.returns
returns c =
    let l = length-take-le c.args.n c.args.cells.now c.requires.0 in
    bytes-all _ c.args.out.now c.loop-i.out c.loop-i.i c.args.n c.loop-i.invariant (omega (arith, l, c.loop-i-test.false, c.loop-i.auto.i-end)) (omega (arith, l))
