-- `answering::answer_in` meets its contract.
use Rattle.std.specs.Prelude.{Err, None, Some}
use mathlib.Core.Path.{◌≡◌, sym, ◌∙◌}
use native.Mathlib.Omega.{arith}
use Rattle.space.specs.Layout.{sizes, node_in}
use Rattle.space.specs.Judging.{read_node}
use Rattle.space.proofs.HeaderLaws.{bounds-nodes}
use Rattle.space.proofs.JudgingLaws.{SubgoalBounds, subgoal-bounds}
use Rattle.trie.specs.Siblings.{search_children}
use Rattle.store.specs.Clauses.{view_in}
use Rattle.store.proofs.CallsRecords.{reads-subgoal}
use Rattle.store.proofs.CallsAnswers.{answer-zero, answer-above, answer-damaged, answer-root-damaged, answer-root-other, answer-judged, subgoal-is, subgoal-sound}
use borrow.Author.Rules.{rules}
use Rattle.basis.specs.declared.refusals.Refusal.TheVariants as refusal
use Rattle.answering.proofs.answer_in.Goals as goal
use Rattle.answering.proofs.answer_in.Goals.{then-s-eq0-via-then-s-eq0, then-s-eq0-via-else-s-eq0+then-h-s}

pub returns-then-s-eq0 : goal.returns-then-s-eq0
returns-then-s-eq0 c = elim c.then-s-eq0.branch [
  | then-s-eq0-via-then-s-eq0 w ↦ answer-zero _ _ _ _ _ w.if-s-eq0.true
  | then-s-eq0-via-else-s-eq0+then-h-s w ↦ answer-above _ _ _ _ _ w.if-h-s.true
]

pub returns-in_err-g : goal.returns-in_err-g
returns-in_err-g c =
    let damaged : c.read_subgoal.result ≡ None = grind arith in
    let passed : c.from_residual.result ≡ Err refusal.Records = grind arith in
    rw passed (answer-damaged _ _ _ _ _ (search rules) (search rules) (sym damaged ∙ c.read_subgoal.ensures))

pub read_node-requires : goal.read_node-requires
read_node-requires c =
    let sound : c.read_subgoal.result ≡ Some c.in_ok-g.g = grind arith in
    let got_here : Some c.in_ok-g.g ≡ reads-subgoal (view_in c.args.space.now c.args.h) c.args.s = sym sound ∙ c.read_subgoal.ensures in
    let within_here : SubgoalBounds c.args.h.nodes c.args.h.answers c.in_ok-g.g =
    subgoal-bounds _ _ _ (subgoal-sound search_children c.args.space.now c.args.h c.args.s c.args.terms.now c.if-s-eq0.false c.if-h-s.false _ (got_here)) in
    (bounds-nodes _ _ c.requires, (within_here).root_below)

pub returns-in_err-y : goal.returns-in_err-y
returns-in_err-y c =
    let sound : c.read_subgoal.result ≡ Some c.in_ok-g.g = grind arith in
    let got_here : Some c.in_ok-g.g ≡ reads-subgoal (view_in c.args.space.now c.args.h) c.args.s = sym sound ∙ c.read_subgoal.ensures in
    let root_damaged : c.read_node.result ≡ None = grind arith in
    let passed : c.from_residual-in_err-y.result ≡ Err refusal.Records = grind arith in
    rw passed (answer-root-damaged _ _ _ _ _ (search rules) (search rules) _ (got_here) (sym root_damaged ∙ c.read_node.ensures))

pub returns-then-y-g : goal.returns-then-y-g
returns-then-y-g c =
    let sound : c.read_subgoal.result ≡ Some c.in_ok-g.g = grind arith in
    let got_here : Some c.in_ok-g.g ≡ reads-subgoal (view_in c.args.space.now c.args.h) c.args.s = sym sound ∙ c.read_subgoal.ensures in
    let root_sound : c.read_node.result ≡ Some c.in_ok-y.y = grind arith in
    let root_here : Some c.in_ok-y.y ≡ read_node c.args.h.nodes c.args.h.answers (node_in sizes c.args.space.now) c.in_ok-g.g.root = sym root_sound ∙ c.read_node.ensures in
    answer-root-other _ _ _ _ _ (search rules) (search rules) _ (got_here) _ (root_here) (search rules)

pub answer_terms-requires : goal.answer_terms-requires
answer_terms-requires c =
    let sound : c.read_subgoal.result ≡ Some c.in_ok-g.g = grind arith in
    let got_here : Some c.in_ok-g.g ≡ reads-subgoal (view_in c.args.space.now c.args.h) c.args.s = sym sound ∙ c.read_subgoal.ensures in
    let within_here : SubgoalBounds c.args.h.nodes c.args.h.answers c.in_ok-g.g =
    subgoal-bounds _ _ _ (subgoal-sound search_children c.args.space.now c.args.h c.args.s c.args.terms.now c.if-s-eq0.false c.if-h-s.false _ (got_here)) in (
      c.requires,
      omega (arith, c.if-s-eq0.false),
      search rules,
      subgoal-is search_children c.args.space.now c.args.h c.args.s c.args.terms.now c.if-s-eq0.false
          c.if-h-s.false _ (got_here),
      (within_here).last-most,
      (within_here).root_below,
    )

pub returns : goal.returns
returns c =
    let sound : c.read_subgoal.result ≡ Some c.in_ok-g.g = grind arith in
    let got_here : Some c.in_ok-g.g ≡ reads-subgoal (view_in c.args.space.now c.args.h) c.args.s = sym sound ∙ c.read_subgoal.ensures in
    let root_sound : c.read_node.result ≡ Some c.in_ok-y.y = grind arith in
    let root_here : Some c.in_ok-y.y ≡ read_node c.args.h.nodes c.args.h.answers (node_in sizes c.args.space.now) c.in_ok-g.g.root = sym root_sound ∙ c.read_node.ensures in
    answer-judged _ _ _ _ _ c.if-s-eq0.false c.if-h-s.false _ (got_here) _ (root_here) (search rules) _ _ c.answer_terms.ensures
