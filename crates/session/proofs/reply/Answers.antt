-- `reply` meets its contract: each keyword by what its call leaves.
use mathlib.Core.Path.{refl, sym}
use lib.Seq.{length-take-le}
use Rattle.basis.proofs.Tests.{told}
use Rattle.session.specs.declared.Keyword.TheVariants as keyword
use Rattle.asking.proofs.AskingLaws.{bad-leaves}
use Rattle.session.proofs.LineLaws.{keyword-leaves, silent-leaves}
use Rattle.session.proofs.reply.Goals as goal

pub slice_bounds-keyword_of-end : goal.slice_bounds-keyword_of-end
slice_bounds-keyword_of-end c = sym (length-take-le _ _ c.first_end-at.ensures.0.0)

pub returns-in-Call : goal.returns-in-Call
returns-in-Call c =
    let e = silent-leaves _ _ _ _ c.first_end-at.ensures keyword.Call (told c.in-Call.is c.keyword_of.ensures) tt _ _ _ _ (c.ask_call.ensures _) in
    record { word_puts = e.0; space_value = e.1.0; out_value = e.1.1 }

pub returns-in-Answer : goal.returns-in-Answer
returns-in-Answer c =
    let e = silent-leaves _ _ _ _ c.first_end-at.ensures keyword.Answer (told c.in-Answer.is c.keyword_of.ensures) tt _ _ _ _ (c.ask_answer.ensures _) in
    record { word_puts = e.0; space_value = e.1.0; out_value = e.1.1 }

pub returns-in-Finish : goal.returns-in-Finish
returns-in-Finish c =
    let e = silent-leaves _ _ _ _ c.first_end-at.ensures keyword.Finish (told c.in-Finish.is c.keyword_of.ensures) tt _ _ _ _ (c.ask_finish.ensures _) in
    record { word_puts = e.0; space_value = e.1.0; out_value = e.1.1 }

pub returns-in-Next : goal.returns-in-Next
returns-in-Next c =
    let e = silent-leaves _ _ _ _ c.first_end-at.ensures keyword.Next (told c.in-Next.is c.keyword_of.ensures) tt _ _ _ _ (c.ask_next.ensures _) in
    record { word_puts = e.0; space_value = e.1.0; out_value = e.1.1 }

pub returns-in-Load : goal.returns-in-Load
returns-in-Load c =
    let e = keyword-leaves _ _ _ _ c.first_end-at.ensures keyword.Load (told c.in-Load.is c.keyword_of.ensures) _ _ _ _ _ c.ask_load.ensures.load_prints c.ask_load.ensures.out_value in
    record { word_puts = e.0; space_value = e.1.0; out_value = e.1.1 }

pub returns-in-Instance : goal.returns-in-Instance
returns-in-Instance c =
    let e = keyword-leaves _ _ _ _ c.first_end-at.ensures keyword.Instance (told c.in-Instance.is c.keyword_of.ensures) _ _ _ _ _ c.ask_instance.ensures.instance_prints c.ask_instance.ensures.out_value in
    record { word_puts = e.0; space_value = e.1.0; out_value = e.1.1 }

pub returns-in-Counts : goal.returns-in-Counts
returns-in-Counts c =
    let e = silent-leaves _ _ _ _ c.first_end-at.ensures keyword.Counts (told c.in-Counts.is c.keyword_of.ensures) tt _ _ _ _ (c.ask_counts.ensures _) in
    record { word_puts = e.0; space_value = e.1.0; out_value = e.1.1 }

pub returns-in-Why : goal.returns-in-Why
returns-in-Why c =
    let e = silent-leaves _ _ _ _ c.first_end-at.ensures keyword.Why (told c.in-Why.is c.keyword_of.ensures) tt _ _ _ _ (c.ask_why.ensures _) in
    record { word_puts = e.0; space_value = e.1.0; out_value = e.1.1 }

pub returns-in-Other : goal.returns-in-Other
returns-in-Other c =
    let e = silent-leaves _ _ _ _ c.first_end-at.ensures keyword.Other (told c.in-Other.is c.keyword_of.ensures) tt _ _ _ _ (bad-leaves _ _ _ _ _ _ refl c.print_bad.ensures) in
    record { word_puts = e.0; space_value = e.1.0; out_value = e.1.1 }
