-- `join::joins::join_parties` meets its contract.
use Rattle.join.proofs.CallCases.{first-within, second-within, target-few}
use mathlib.Core.Path.{◌≡◌, subst}
use Rattle.std.specs.Prelude.{Err}
use Rattle.join.specs.Joining.{Ruled}
use Rattle.trie.specs.Index.{search_indexed}
use borrow.Author.Rules.{rules}
use Rattle.join.proofs.joins.join_parties.Goals as goal

pub judge-f-requires : goal.judge-f-requires
judge-f-requires c = record { held = c.requires.first; first_le_answers = first-within c.args.space.now c.args.h c.args.y c.requires }

pub judge-g-requires : goal.judge-g-requires
judge-g-requires c = record { held = c.requires.second; first_le_answers = second-within c.args.space.now c.args.h c.args.y c.requires }

pub rule-requires : goal.rule-requires
rule-requires c = target-few c.args.space.now c.args.h c.args.y c.requires

pub returns-in_err-rule : goal.returns-in_err-rule
returns-in_err-rule c =
    let passed : c.from_residual.result ≡ Err c.in_err-rule.field-0.0 = search rules in
    rw passed (subst (Ruled c.args.space.now c.args.h c.args.y c.args.asked.now.pairs.now c.args.asked.now.copies.now) c.in_err-rule.was (c.rule.ensures c.args.space.now c.args.h c.requires c.judge-f.ensures c.judge-g.ensures) (search_indexed c.args.asked.now.index.now c.args.h.nodes))

pub join_ground-requires : goal.join_ground-requires
join_ground-requires c = subst (Ruled c.args.space.now c.args.h c.args.y c.args.asked.now.pairs.now c.args.asked.now.copies.now) c.in_ok-rule.was (c.rule.ensures c.args.space.now c.args.h c.requires c.judge-f.ensures c.judge-g.ensures)
