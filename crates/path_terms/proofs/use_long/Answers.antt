-- `path_terms::use_long` meets its contract.
use Rattle.path_terms.proofs.PathCases.{whole-none, whole-stands}
use Rattle.path_terms.proofs.AlongCases.{done-same, done-lost, done-judged, done-called, instance-under-lost}
use Rattle.trie.specs.Runs.{path_to}
use mathlib.Core.Path.{refl}
use borrow.Author.Rules.{rules}
use Rattle.path_terms.proofs.use_long.Goals as goal
use Rattle.path_terms.proofs.use_long.Goals.{in-Called, in_default}

pub returns-then-k-eq0 : goal.returns-then-k-eq0
returns-then-k-eq0 c =
    done-lost c.args.x.edition c.args.x.m c.args.out.now (path_to c.args.space.now c.args.x.end) (path_to c.args.space.now c.args.x.subgoal) c.args.task (whole-none c.args.space.now c.args.x.end c.whole_path-k.result _ c.whole_path-k.ensures c.if-k-eq0.true)

pub returns-in-Load : goal.returns-in-Load
returns-in-Load c =
    let stands_here = whole-stands c.args.space.now c.args.x.end _ _ c.whole_path-k.ensures (search rules) in
    rw c.in-Load.is (rw stands_here.2 at c.load_form.ensures)

pub returns-after-matches : goal.returns-after-matches
returns-after-matches c =
    let stands_here = whole-stands c.args.space.now c.args.x.end _ _ c.whole_path-k.ensures (search rules) in
    done-same c.args.x.edition c.args.x.m c.args.out.now c.args.task _ _ _ (path_to c.args.space.now c.args.x.end) (path_to c.args.space.now c.args.x.subgoal) (path_to c.args.space.now c.args.x.subgoal) stands_here.2 refl (elim c.match-matches.branch [
      | in-Called w ↦ done-called _ _ _ _ _ _ _ w.in-Called.is (rw w.matches-is at c.form_worth.ensures)
      | in_default w ↦ done-judged _ _ _ _ _ _ _ c.in-Judge.is w.in_default.not-Called (rw w.matches-is at c.form_worth.ensures)
    ])

pub returns-then-j-eq0 : goal.returns-then-j-eq0
returns-then-j-eq0 c =
    rw c.in-Instance.is (instance-under-lost c.args.x.edition (path_to c.args.space.now c.args.x.end) _ c.args.x.m c.args.out.now (whole-none c.args.space.now c.args.x.subgoal c.whole_path-j.result _ c.whole_path-j.ensures c.if-j-eq0.true))

pub returns-else-j-eq0 : goal.returns-else-j-eq0
returns-else-j-eq0 c =
    let stands_here = whole-stands c.args.space.now c.args.x.end _ _ c.whole_path-k.ensures (search rules) in
    let above_here = whole-stands c.args.space.now c.args.x.subgoal _ _ c.whole_path-j.ensures (search rules) in
    done-same c.args.x.edition c.args.x.m c.args.out.now c.args.task _ _ _ (path_to c.args.space.now c.args.x.end) _ (path_to c.args.space.now c.args.x.subgoal) stands_here.2 above_here.2 (rw c.in-Instance.is c.instance_path.ensures)
