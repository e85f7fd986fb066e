-- One call on cells that hold the table: it answers as the plain table does, and leaves cells that hold the table it leaves.
use Rattle.std.specs.Prelude.{Ok}
use mathlib.Core.List.{List}
use mathlib.Core.Path.{◌≡◌}
use Prim.Native.Nat.{ℕ}
use Rattle.plain.specs.Coding.{Coding}
use Rattle.plain.specs.CodingLaws.{CodingLaws}
use Rattle.plain.specs.Requests.{Request, call_least, answer, finish, next, load, instance, counts, join, why, detours, lent}
use Rattle.plain.specs.Table.{Table, step}
use Rattle.space.specs.Layout.{Sizes}
use Rattle.space.specs.Heading.{header_of}
use Rattle.space.specs.declared.Head.{Head}
use Rattle.store.specs.Views.{View, view_of}
use Rattle.store.specs.Decisions.{decide}
use Rattle.agreement.proofs.SameRecords.{Same}
use Rattle.agreement.proofs.Agreeing.{counts-agrees, finish-agrees, next-agrees, load-agrees, instance-agrees}
use Rattle.agreement.proofs.Calling.{call-agrees}
use Rattle.agreement.proofs.Reasoning.{why-agrees}
use Rattle.agreement.proofs.Detouring.{detours-agrees}
use Rattle.agreement.proofs.Answering.{answer-agrees}
use Rattle.agreement.proofs.Holding.{Cells, AnswersAlike, agrees-answers}
use Rattle.agreement.proofs.Joining.{join-answers}

module _ (z : Sizes) (c : Coding) (cells : Cells z) (laws : CodingLaws c) (t : Table) (cs : List ℕ) (h : Head) (e : header_of z cs ≡ Ok h) (S : Same c t (view_of z cs h)) where
  abbrev v : View
  v = view_of z cs h

  pub step-answers : (q : Request) → AnswersAlike z c cs h (lent q) (step c t q) (decide c (view_of z cs h) q)
  unfolding lent
  step-answers (call_least ks x) = agrees-answers z c cells cs h e (call-agrees c laws t v S ks x)
  step-answers (answer s ks) = agrees-answers z c cells cs h e (answer-agrees c laws t v S s ks)
  step-answers (finish s) = agrees-answers z c cells cs h e (finish-agrees c laws t v S s)
  step-answers (next s a) = agrees-answers z c cells cs h e (next-agrees c laws t v S s a)
  step-answers (load a out) = agrees-answers z c cells cs h e (load-agrees c laws t v S a out)
  step-answers (instance a out) = agrees-answers z c cells cs h e (instance-agrees c laws t v S a out)
  step-answers counts = agrees-answers z c cells cs h e (counts-agrees c laws t v S)
  step-answers (join f g ps s ks) = join-answers z c cells laws t cs h e S f g ps s ks
  step-answers (why ks) = agrees-answers z c cells cs h e (why-agrees c laws t v S ks)
  step-answers (detours ss b) = agrees-answers z c cells cs h e (detours-agrees c laws t v S ss b)
