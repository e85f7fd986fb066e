-- `copying::deciding::loaded_answer` meets its contract: a law for each answer.
use Rattle.basis.proofs.Tests.{told}
use Rattle.copying.proofs.DecideCases.{loaded-broken, loaded-unnamed, loaded-small, loaded-done}
use Rattle.copying.proofs.deciding.loaded_answer.Goals as goal

pub returns-then-not-loads : goal.returns-then-not-loads
returns-then-not-loads c = loaded-broken _ _ _ _ (told c.loads.ensures (c.if-not-loads.true))

pub forms_named-requires : goal.forms_named-requires
forms_named-requires c = (c.requires, told c.loads.ensures (c.if-not-loads.false))

pub returns-then-not-forms_named : goal.returns-then-not-forms_named
returns-then-not-forms_named c =
    loaded-unnamed _ _ _ _ (told c.loads.ensures (c.if-not-loads.false))
    (told c.forms_named.ensures (c.if-not-forms_named.true))

pub forms_fit-requires : goal.forms_fit-requires
forms_fit-requires c = (c.requires, told c.loads.ensures (c.if-not-loads.false))

pub returns-then-not-forms_fit : goal.returns-then-not-forms_fit
returns-then-not-forms_fit c =
    loaded-small _ _ _ _ (told c.loads.ensures (c.if-not-loads.false))
    (told c.forms_named.ensures (c.if-not-forms_named.false))
    (told c.forms_fit.ensures c.if-not-forms_fit.true)

pub returns : goal.returns
returns c =
    loaded-done _ _ _ _ (told c.loads.ensures (c.if-not-loads.false))
    (told c.forms_named.ensures (c.if-not-forms_named.false))
    (told c.forms_fit.ensures c.if-not-forms_fit.false)
