-- `copying::deciding::decide_in` meets its contract: a law for each answer.
use mathlib.Core.Path.{sym, ◌∙◌}
use native.Mathlib.Omega.{arith}
use Rattle.basis.proofs.Tests.{told}
use Rattle.space.proofs.HeaderLaws.{header-bounds}
use Rattle.copying.proofs.DecideCases.{decided-other, decided-unfresh, decided-whole, decided-loaded, whole-said}
use Rattle.copying.proofs.deciding.decide_in.Goals as goal

pub returns-then-h-ne-SOURCE_EDITION : goal.returns-then-h-ne-SOURCE_EDITION
returns-then-h-ne-SOURCE_EDITION c =
    let a = c.args in
    decided-other a.nodes a.subgoals a.answers a.source.now a.target.now a.h c.requires (λ e. omega arith)

pub returns-then-not-fits : goal.returns-then-not-fits
returns-then-not-fits c =
    let a = c.args in
    let e1 = c.wide.ensures.0 in
    let e2 = c.wide-2.ensures.0 in
    let e3 = c.wide-3.ensures.0 in
    let fit = told c.fits.ensures (c.if-not-fits.true) in
    decided-unfresh a.nodes a.subgoals a.answers a.source.now a.target.now a.h c.requires (omega arith) _ _ _ e1 e2 e3 fit

pub whole_answer-requires : goal.whole_answer-requires
whole_answer-requires c = header-bounds _ _ c.requires

pub returns-then-is_ok : goal.returns-then-is_ok
returns-then-is_ok c =
    let found = whole-said _ (sym c.if-is_ok.true ∙ c.is_ok.ensures.value) ∙ c.check.ensures in
    let a = c.args in
    let e1 = c.wide.ensures.0 in
    let e2 = c.wide-2.ensures.0 in
    let e3 = c.wide-3.ensures.0 in
    let fit = told c.fits.ensures (c.if-not-fits.false) in
    c.whole_answer.ensures
    ∙ decided-whole a.nodes a.subgoals a.answers a.source.now a.target.now a.h c.requires (omega arith) _ _ _ e1 e2 e3 fit found

pub returns : goal.returns
returns c =
    let a = c.args in
    let e1 = c.wide.ensures.0 in
    let e2 = c.wide-2.ensures.0 in
    let e3 = c.wide-3.ensures.0 in
    let fit = told c.fits.ensures (c.if-not-fits.false) in
    c.loaded_answer.ensures
    ∙ decided-loaded a.nodes a.subgoals a.answers a.source.now a.target.now a.h c.requires (omega arith) _ _ _ e1 e2 e3 fit
