-- `answering::admit` meets its contract.
use mathlib.Core.Path.{sym, ap, ◌∙◌}
use Rattle.space.specs.declared.Subgoal.{Subgoal}
use Rattle.store.proofs.CallsAnswers.{new-unsound, new-finished, new-no-nodes, new-no-record, new-room}
use borrow.Author.Rules.{rules}
use Rattle.answering.proofs.admit.Goals as goal

pub last_sound-requires : goal.last_sound-requires
last_sound-requires c = (search rules, search rules, ap (λ (g : Subgoal). g.last) c.requires.3)

pub returns-then-not-last_sound : goal.returns-then-not-last_sound
returns-then-not-last_sound c = λ d. new-unsound c.args.space.now c.args.h c.args.s c.args.more d (sym c.last_sound.ensures ∙ c.if-not-last_sound.true)

pub returns-then-g-ne0 : goal.returns-then-g-ne0
returns-then-g-ne0 c = λ d. new-finished c.args.space.now c.args.h c.args.s c.args.more d (sym c.last_sound.ensures
    ∙ c.if-not-last_sound.false) (λ z. c.if-g-ne0.true (ap (λ (g : Subgoal). g.state) c.requires.3 ∙ z))

pub returns-then-free-more : goal.returns-then-free-more
returns-then-free-more c = λ d. new-no-nodes c.args.space.now c.args.h c.args.s c.args.more d (sym c.last_sound.ensures
    ∙ c.if-not-last_sound.false) (sym (ap (λ (g : Subgoal). g.state) c.requires.3) ∙ c.if-g-ne0.false) (search rules) (search rules)

pub returns-then-h : goal.returns-then-h
returns-then-h c = λ d. new-no-record c.args.space.now c.args.h c.args.s c.args.more d (sym c.last_sound.ensures
    ∙ c.if-not-last_sound.false) (sym (ap (λ (g : Subgoal). g.state) c.requires.3) ∙ c.if-g-ne0.false) (search rules) (search rules) (search rules)

pub returns : goal.returns
returns c = λ d. new-room c.args.space.now c.args.h c.args.s c.args.more d (sym c.last_sound.ensures ∙ c.if-not-last_sound.false) (sym (ap (λ (g : Subgoal). g.state) c.requires.3)
    ∙ c.if-g-ne0.false) (search rules) (search rules) (search rules)
