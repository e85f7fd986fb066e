-- `join::trial::try_form` meets its contract.
use mathlib.Core.Path.{◌≡◌}
use native.Mathlib.Omega.{arith}
use Rattle.std.specs.Prelude.{Some, None, Err}
use Rattle.basis.proofs.Tests.{told}
use Rattle.trie.proofs.IndexLaws.{indexes-find}
use Rattle.drafts.proofs.Steady.{indexes-steady}
use Rattle.join.specs.declared.Untried.TheVariants as untried
use Rattle.join.proofs.TrialLaws.{whole_in, form-whole, form-unknown, few-left, part-draftable, part-full, part-counted}
use borrow.Author.Rules.{rules}
use Rattle.join.proofs.trial.try_form.Goals as goal

pub node_in-requires : goal.node_in-requires
node_in-requires c = (search rules, whole_in (indexes-find c.args.index.now c.args.x.h.nodes) (indexes-steady c.args.index.now c.args.x.h.nodes) c.args.space.now c.args.x c.args.free c.args.root c.args.tokens.now c.args.y c.requires c.in-Whole.leaf (told c.in-Whole.is c.walk_tokens.ensures))

pub returns-then-node_in-eq0 : goal.returns-then-node_in-eq0
returns-then-node_in-eq0 c = form-unknown (indexes-find c.args.index.now c.args.x.h.nodes) (indexes-steady c.args.index.now c.args.x.h.nodes) c.args.space.now c.args.x c.args.free c.args.root c.args.tokens.now c.args.y c.requires

pub returns-else-node_in-eq0 : goal.returns-else-node_in-eq0
returns-else-node_in-eq0 c = form-whole (indexes-find c.args.index.now c.args.x.h.nodes) (indexes-steady c.args.index.now c.args.x.h.nodes) c.args.space.now c.args.x c.args.free c.args.root c.args.tokens.now c.args.y c.requires c.in-Whole.leaf (told c.in-Whole.is c.walk_tokens.ensures) c.node_in.result c.node_in.ensures (search rules)

pub overflow_sub-below : goal.overflow_sub-below
overflow_sub-below c = few-left (indexes-find c.args.index.now c.args.x.h.nodes) (indexes-steady c.args.index.now c.args.x.h.nodes) c.args.space.now c.args.x c.args.free c.args.root c.args.tokens.now c.args.y c.requires c.in-Stopped.parent c.in-Stopped.field-1 c.in-Stopped.left (told c.in-Stopped.is c.walk_tokens.ensures)

pub draft-requires : goal.draft-requires
draft-requires c = rw c.room_of-room.ensures (part-draftable (indexes-find c.args.index.now c.args.x.h.nodes) (indexes-steady c.args.index.now c.args.x.h.nodes) c.args.space.now c.args.x c.args.free c.args.root c.args.tokens.now c.args.y c.requires c.in-Stopped.parent c.in-Stopped.field-1 c.in-Stopped.left (told c.in-Stopped.is c.walk_tokens.ensures))

pub returns-in_ok-drafted-in-Stopped : goal.returns-in_ok-drafted-in-Stopped
returns-in_ok-drafted-in-Stopped c =
    let drafted : c.draft.result ≡ Some c.in_ok-drafted-in-Stopped.drafted = grind arith in
    part-counted (indexes-find c.args.index.now c.args.x.h.nodes) (indexes-steady c.args.index.now c.args.x.h.nodes) c.args.space.now c.args.x c.args.free c.args.root c.args.tokens.now c.args.y c.requires c.in-Stopped.parent c.in-Stopped.field-1 c.in-Stopped.left (told c.in-Stopped.is c.walk_tokens.ensures) c.draft.new.space c.in_ok-drafted-in-Stopped.drafted.used c.in_ok-drafted-in-Stopped.drafted.held (rw (c.room_of-room.ensures, drafted) at c.draft.ensures) _ c.from.ensures

pub returns-in_err-drafted-in-Stopped : goal.returns-in_err-drafted-in-Stopped
returns-in_err-drafted-in-Stopped c =
    let full : c.draft.result ≡ None = grind arith in
    let passed : c.from_residual.result ≡ Err untried.Over = grind arith in
    rw passed (part-full (indexes-find c.args.index.now c.args.x.h.nodes) (indexes-steady c.args.index.now c.args.x.h.nodes) c.args.space.now c.args.x c.args.free c.args.root c.args.tokens.now c.args.y c.requires c.in-Stopped.parent c.in-Stopped.field-1 c.in-Stopped.left (told c.in-Stopped.is c.walk_tokens.ensures) c.draft.new.space (rw (c.room_of-room.ensures, full) at c.draft.ensures))

pub returns-in-Damaged : goal.returns-in-Damaged
returns-in-Damaged c = form-unknown (indexes-find c.args.index.now c.args.x.h.nodes) (indexes-steady c.args.index.now c.args.x.h.nodes) c.args.space.now c.args.x c.args.free c.args.root c.args.tokens.now c.args.y c.requires
