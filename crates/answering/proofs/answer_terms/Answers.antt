-- `answering::answer_terms` meets its contract, by the call with the buffers that it was lent.
use Prim.Native.Nat.{ℕ}
use mathlib.Core.Path.{◌≡◌}
use mathlib.Core.List.{List}
use Rattle.plain.specs.Requests.{Reply}
use Rattle.space.specs.declared.Head.{Head}
use Rattle.store.specs.Views.{View}
use Rattle.store.specs.Decisions.{Decision}
use Rattle.store.specs.Clauses.{Does, answered_terms}
use Rattle.trie.specs.Index.{search_indexed}
use borrow.Author.Rules.{rules}
use Rattle.answering.proofs.answer_terms.Goals as goal

pub with_form-requires : goal.with_form-requires
with_form-requires c = λ vars form room. (c.requires, room)

-- the space after the closure is the space after the function
does-after : (before : List ℕ) (h : Head) (d : View → Decision) (r : Reply) (left after : List ℕ) → Does before h d r left → after ≡ left → Does before h d r after
does-after before h d r left after k e = rw e k

pub returns : goal.returns
returns c =
    let d : View → Decision = answered_terms (search_indexed c.args.index.now c.args.h.nodes) c.args.h c.args.s c.args.g.variables c.args.terms.now in
    does-after c.args.space.now c.args.h d _ _ _ c.with_form.ensures.5.met.1 (search rules)
