-- `copying::writing::write` meets its contract: each step asks for what those before it left.
use Rattle.basis.proofs.Tests.{told}
use Rattle.copying.proofs.WriteCases.{Accepted, accepted, not-refused, subgoals-asked, answers-asked, not-headless, states-asked, written}
use Rattle.copying.proofs.writing.write.Goals as goal

pub returns-in_default : goal.returns-in_default
returns-in_default c = absurd (not-refused _ _ _ _ _ c.requires _ (told c.in_default.is c.read_header.ensures))

pub carry_subgoals-requires : goal.carry_subgoals-requires
carry_subgoals-requires c =
    let known_here : (let a = c.args in Accepted a.nodes a.subgoals a.answers a.source.now a.target.now c.in-Ok.h) = accepted _ _ _ _ _ _ c.requires (told c.in-Ok.is c.read_header.ensures) in
    subgoals-asked _ _ _ _ _ _ (known_here) _ c.fresh.ensures.1

pub carry_answers-requires : goal.carry_answers-requires
carry_answers-requires c =
    let known_here : (let a = c.args in Accepted a.nodes a.subgoals a.answers a.source.now a.target.now c.in-Ok.h) = accepted _ _ _ _ _ _ c.requires (told c.in-Ok.is c.read_header.ensures) in
    answers-asked _ _ _ _ _ _ (known_here) _ c.fresh.ensures.1 _ c.carry_subgoals.ensures

pub returns-in_default-read_header : goal.returns-in_default-read_header
returns-in_default-read_header c =
    let known_here : (let a = c.args in Accepted a.nodes a.subgoals a.answers a.source.now a.target.now c.in-Ok.h) = accepted _ _ _ _ _ _ c.requires (told c.in-Ok.is c.read_header.ensures) in
    absurd (not-headless _ _ _ _ _ _ (known_here) _ c.fresh.ensures.1 _ c.carry_subgoals.ensures _ c.carry_answers.ensures _
    (told c.in_default-read_header.is c.read_header-2.ensures))

pub carry_states-requires : goal.carry_states-requires
carry_states-requires c =
    let known_here : (let a = c.args in Accepted a.nodes a.subgoals a.answers a.source.now a.target.now c.in-Ok.h) = accepted _ _ _ _ _ _ c.requires (told c.in-Ok.is c.read_header.ensures) in
    states-asked _ _ _ _ _ _ (known_here) _ c.fresh.ensures.1 _ c.carry_subgoals.ensures _ c.carry_answers.ensures _
    (told c.in-Ok-read_header.is c.read_header-2.ensures)

pub returns : goal.returns
returns c =
    let known_here : (let a = c.args in Accepted a.nodes a.subgoals a.answers a.source.now a.target.now c.in-Ok.h) = accepted _ _ _ _ _ _ c.requires (told c.in-Ok.is c.read_header.ensures) in
    written _ _ _ _ _ _ (known_here) _ c.fresh.ensures.1 _ c.carry_subgoals.ensures _ c.carry_answers.ensures _
    (told c.in-Ok-read_header.is c.read_header-2.ensures) _ c.carry_states.ensures
