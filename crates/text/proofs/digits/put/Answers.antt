-- `put` meets its contract: the bytes passed are put.
use Prim.Native.Nat.{ℕ, ◌+◌, ◌≤◌}
use mathlib.Core.List.{List, append_assoc}
use mathlib.Core.Path.{◌≡◌, refl}
use native.Mathlib.Omega.{arith}
use lib.ListN.{length}
use lib.Seq.{sets, drop-drop}
use borrow.Rule.Slice.PartMut.{put_mid}
use Rattle.std.proofs.lemmas.List.Edits.{sets-eq}
use Rattle.text.proofs.digits.put.Goals as goal

overwritten : (t bytes ys : List ℕ) (at k : ℕ) → ys ≡ bytes → k ≡ length bytes → at + length bytes ≤ length t → put_mid at k t ys ≡ sets t at bytes
overwritten t bytes ys at k e q h = rw (e, q, sets-eq bytes t at h, drop-drop (length bytes) at t, append_assoc)

pub returns : goal.returns
returns c =
    let a = c.args in
    (refl, overwritten a.text.now a.bytes.now _ a.at _ c.copy_from_slice.ensures.after (omega arith) (omega arith), omega arith)
