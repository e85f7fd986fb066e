-- `path_terms::use_begun` meets its contract.
use Rattle.path_terms.proofs.PathCases.{few-stands}
use Rattle.path_terms.proofs.AlongCases.{done-same, done-judged, done-called}
use Rattle.trie.specs.Runs.{path_to}
use mathlib.Core.Path.{refl}
use borrow.Author.Rules.{rules}
use Rattle.path_terms.proofs.use_begun.Goals as goal
use Rattle.path_terms.proofs.use_begun.Goals.{in-Called, in_default}

pub returns-in-Load : goal.returns-in-Load
returns-in-Load c =
    let stands_here = few-stands c.args.space.now c.args.x.end _ _ c.requires.0.1 (search rules) in
    rw c.in-Load.is (rw stands_here.2 at c.load_form.ensures)

pub returns-after-matches : goal.returns-after-matches
returns-after-matches c =
    let stands_here = few-stands c.args.space.now c.args.x.end _ _ c.requires.0.1 (search rules) in
    done-same c.args.x.edition c.args.x.m c.args.out.now c.args.task _ _ _ (path_to c.args.space.now c.args.x.end) (path_to c.args.space.now c.args.x.subgoal) (path_to c.args.space.now c.args.x.subgoal) stands_here.2 refl (elim c.match-matches.branch [
      | in-Called w ↦ done-called _ _ _ _ _ _ _ w.in-Called.is (rw w.matches-is at c.form_worth.ensures)
      | in_default w ↦ done-judged _ _ _ _ _ _ _ c.in-Judge.is w.in_default.not-Called (rw w.matches-is at c.form_worth.ensures)
    ])

pub returns-else-x-gt-LEVELS-2 : goal.returns-else-x-gt-LEVELS-2
returns-else-x-gt-LEVELS-2 c =
    let stands_here = few-stands c.args.space.now c.args.x.end _ _ c.requires.0.1 (search rules) in
    let above_here = few-stands c.args.space.now c.args.x.subgoal _ _ c.requires.1.1 (search rules) in
    done-same c.args.x.edition c.args.x.m c.args.out.now c.args.task _ _ _ (path_to c.args.space.now c.args.x.end) _ (path_to c.args.space.now c.args.x.subgoal) stands_here.2 above_here.2 (rw c.in-Instance.is c.instance_path.ensures)
