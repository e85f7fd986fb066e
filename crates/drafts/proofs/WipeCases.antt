-- The cells of a draft: passed whole; and the cells after a draft that was wiped.
use Prim.Native.Nat.{ℕ, ◌+◌, ◌-◌, ◌<◌, ◌≤◌}
use mathlib.Core.Path.{◌≡◌, sym, ap, ◌∙◌}
use mathlib.Core.Bool.{Bool, true, false}
use mathlib.Core.List.{List}
use native.Mathlib.Omega.{arith}
use lib.Dec.{ltb}
use lib.ListN.{length, get_or, take, drop}
use lib.Seq.{ext_get_or}
use borrow.Author.Tests.{ltb-true, ltb-false}
use Rattle.std.specs.Bool.{MatchBool}
use Rattle.std.specs.List.{AllWithin}
use Rattle.std.proofs.lemmas.List.{get_or-take, get_or-drop, length-drop, length-take}
use Rattle.basis.proofs.Cases.{by_cases}
use Rattle.agreement.proofs.CellRecords.{Kept}
use Rattle.drafts.specs.declared.Room.{Room}
use Rattle.drafts.specs.Entries.{lowest, highest}
use Rattle.drafts.specs.Wiping.{Blank, Blanked, Wiped}

-- zeros before, and zeros after: the same cells
pub wiped-same : (cs ds es : List ℕ) (x : Room) → Blank cs x → Kept (lowest x) (highest x) cs ds → Wiped ds x es → es ≡ cs
wiped-same cs ds es x b K w =
    ext_get_or 0 es cs (w.0.size ∙ K.size) (λ k h.
    by_cases (ltb k (lowest x))
    (λ l. let i : k < lowest x = ltb-true _ _ l in w.0.below k i ∙ K.below k i)
    (λ l. let i : lowest x ≤ k = ltb-false _ _ l in
    by_cases (ltb k (highest x))
    (λ m. let j : k < highest x = ltb-true _ _ m in w.1 k i j ∙ sym (b k i j))
    (λ m. let j : highest x ≤ k = ltb-false _ _ m in w.0.above k j ∙ K.above k j)))

-- zeros in the part between two cells
pub blank-part : (cs : List ℕ) (x : Room) (lo hi : ℕ) → lo ≡ lowest x → hi ≡ highest x → hi ≤ length cs → (r : Bool)
    (N : Type 0) → MatchBool r (AllWithin (λ c. c ≡ 0) (take (hi - lo) (drop lo cs)) 0 (length (take (hi - lo) (drop lo cs)))) N → Blanked cs x r
blank-part cs x lo hi l h e false N m q k a b = cc
blank-part cs x lo hi l h e true N m q k a b =
    let at : lo + (k - lo) ≡ k = omega arith in
    sym (get_or-take (hi - lo) (drop lo cs) (k - lo) 0 (omega arith) ∙ get_or-drop lo cs (k - lo) 0 ∙ ap (λ (j : ℕ). get_or cs j 0) at) ∙ m (k - lo) 0 (omega arith) (simp (length-take, length-drop) (omega arith))
