-- What a copy answers has a result word: its refusals are small.
use Prim.Native.Nat.{ℕ}
use mathlib.Core.Bool.{Bool, true, false}
use mathlib.Core.List.{List}
use native.Mathlib.Omega.{arith}
use lib.Dec.{eqb}
use Rattle.std.specs.Prelude.{Ok, Err}
use Rattle.basis.specs.Choice.{pick}
use Rattle.basis.specs.declared.refusals.Refusal.TheVariants as refusal
use Rattle.plain.specs.Coding.{coding_of}
use Rattle.plain.specs.Table.{Table}
use Rattle.space.specs.Layout.{sizes_of}
use Rattle.space.specs.Heading.{Header, space_header}
use Rattle.space.specs.Fresh.{FreshAnswer, fresh_answer_in}
use Rattle.store.specs.Views.{view_of}
use Rattle.agreement.specs.Whole.{table_read}
use Rattle.carrying.specs.Recoding.{widening}
use Rattle.carrying.specs.Carrying.{carried, takes_table, holdable, carrying}
use Rattle.carrying.specs.Copying.{source_loads, where_fresh, copy_under, copy_reply, carry_reply}
use Rattle.words.specs.Words.{said_fresh}
use Rattle.words.specs.Bounded.{Bounded}
use Rattle.words.proofs.ReplyBounds.{SmallHeader, any_small, fresh-bounded}

abbrev Small : FreshAnswer → Type 0
Small x = Bounded (said_fresh x)

picked-small : (b : Bool) (x y : FreshAnswer) → Small x → Small y → Small (pick b x y)
picked-small true x y p q = p
picked-small false x y p q = q

fresh-small : (x y : FreshAnswer) → Small x → Small y → Small (where_fresh x y)
fresh-small (Ok x) y p q = q
fresh-small (Err k) y p q = p

carrying-small : (n f a : ℕ) (t : Table) → Small (carrying widening n f a t)
unfolding carrying
carrying-small n f a t =
    picked-small (takes_table widening t) _ (Err refusal.Functor)
    (picked-small (holdable (carried widening n f a t)) (Ok tt) (Err refusal.Capacity) tt (omega arith)) (omega arith)

under-small : (n f a : ℕ) (source target : List ℕ) (x : Header) → SmallHeader x → Small (copy_under 1 2 widening n f a source target x)
unfolding copy_under
under-small n f a source target (Ok h) s =
    let v = view_of (sizes_of 1) source h in
    picked-small (eqb h.edition 1) _ (Err refusal.Header)
    (fresh-small (fresh_answer_in 2 n f a target) _ (fresh-bounded 2 n f a target)
    (picked-small (source_loads (coding_of 1) v) _ (Err refusal.Records) (carrying-small n f a (table_read v)) (omega arith)))
    (omega arith)
under-small n f a source target (Err k) s = s

pub carry-bounded : (n f a : ℕ) (source target : List ℕ) → Bounded (said_fresh (carry_reply n f a source target))
unfolding copy_reply
carry-bounded n f a source target = under-small n f a source target (space_header source) (any_small source)
