-- `reads::load_in` meets its contract.
use mathlib.Core.Path.{◌≡◌, sym, ◌∙◌}
use Rattle.std.specs.Prelude.{Err}
use Rattle.forms.specs.declared.Unwritten.TheVariants.{Refused}
use borrow.Author.Rules.{rules}
use native.Mathlib.Omega.{arith}
use Rattle.plain.specs.Coding.{coding_of}
use Rattle.space.proofs.HeaderLaws.{bounds-nodes}
use Rattle.store.specs.Clauses.{view_at}
use Rattle.instances.proofs.LeavingLaws.{leaves-says, leaves-same, leaves-said}
use Rattle.reads.specs.Pairs.{PairHeld, PairRefused}
use Rattle.reads.proofs.ReadsCases.{read-bounds, loaded_on, load-lost, load-sound}
use Rattle.forms.specs.Stored.{stored_of}
use Rattle.store.specs.Decisions.{gives}
use Rattle.reads.proofs.load_in.Goals as goal

pub load_path-n-requires : goal.load_path-n-requires
load_path-n-requires c =
    let p : PairHeld c.args.table.now c.args.a c.in_ok-y.y c.in_ok-y.g = c.in_ok-y.ensures in
    let b = read-bounds (view_at c.args.table.now) c.args.a c.in_ok-y.y c.in_ok-y.g p.answer-is p.subgoal-is p.both-sound in
    rw c.answer_end-end.ensures (bounds-nodes _ _ c.args.table.now.within, b.leaf-below)

pub returns : goal.returns
returns c =
    let p : PairHeld c.args.table.now c.args.a c.in_ok-y.y c.in_ok-y.g = c.in_ok-y.ensures in
    leaves-said (view_at c.args.table.now) _ c.args.out.now _ _ _ (sym c.cells_answer.ensures)
    (leaves-same (view_at c.args.table.now) _ _ c.args.out.now _ _
    (loaded_on (coding_of c.args.table.now.head.edition) (view_at c.args.table.now) c.args.a (λ w. gives ((stored_of c.args.table.now.head.edition).cells w)) c.in_ok-y.y c.in_ok-y.g p.answer-is p.subgoal-is
    ∙ load-sound (coding_of c.args.table.now.head.edition) (view_at c.args.table.now) c.args.a c.args.out.now (λ z. omega (arith, p.some)) p.within p.both-sound)
    (rw c.answer_end-end.ensures at (c.load_path-n.ensures (view_at c.args.table.now))))

pub returns-in_err-y : goal.returns-in_err-y
returns-in_err-y c =
    let p : PairRefused c.args.table.now c.args.a c.in_err-y.field-0.0 = c.in_err-y.ensures in
    let passed : c.from_residual.result ≡ Err (Refused c.in_err-y.field-0.0) = search rules in
    rw passed (leaves-says (view_at c.args.table.now) _ c.args.out.now _
    (load-lost (coding_of c.args.table.now.head.edition) (view_at c.args.table.now) c.args.a c.args.out.now c.in_err-y.field-0.0 p))
