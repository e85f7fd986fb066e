-- `space::heading::read_header` meets its contract.
use Rattle.basis.specs.declared.refusals.Refusal.TheVariants as refusal
use Rattle.std.specs.Prelude.{Err, Ok}
use lib.ListN.{get_or}
use Rattle.basis.proofs.Tests.{told_at, told-twice}
use mathlib.Core.Bool.{true, false}
use Rattle.basis.specs.Choice.{pick}
use Rattle.space.specs.Layout.{sizes_of, subgoal_width, answer_width}
use Rattle.space.specs.Heading.{capacity, head_of, header_of, space_header}
use native.Mathlib.Omega.{arith}
use Rattle.space.proofs.HeaderCases.{short-header, header-offset, header-nodes, header-subgoals, header-answers, header-counted, header-known, header-unknown, filled}
use mathlib.Core.Path.{◌∙◌, ◌≡◌, refl, sym}
use borrow.Author.Rules.{rules}
use Rattle.space.proofs.heading.read_header.Goals as goal

pub returns-then-space-lt-HEADER_CELLS : goal.returns-then-space-lt-HEADER_CELLS
returns-then-space-lt-HEADER_CELLS c = short-header c.args.space.now (search rules)

pub bounds-space-0 : goal.bounds-space-0
bounds-space-0 c = omega arith

pub bounds-space-4 : goal.bounds-space-4
bounds-space-4 c = omega arith

pub bounds-space-5 : goal.bounds-space-5
bounds-space-5 c = omega arith

pub returns-in_err-n : goal.returns-in_err-n
returns-in_err-n c =
    let known_here : header_of (sizes_of (get_or c.args.space.now 0 0)) c.args.space.now ≡ space_header c.args.space.now = header-known _ (sym c.is_edition.ensures ∙ c.if-is_edition.true) in
    let passed : c.from_residual.result ≡ Err c.in_err-n.field-0.0 = search rules in
    passed ∙ header-nodes _ c.args.space.now (search rules) refl (search rules) (told_at (capacity 1 5 8) c.capacity_of.ensures c.wide-subgoal_offset.ensures.0 (search rules)) ∙ known_here

pub bounds-space-6 : goal.bounds-space-6
bounds-space-6 c = omega arith

pub returns-in_err-f : goal.returns-in_err-f
returns-in_err-f c =
    let known_here : header_of (sizes_of (get_or c.args.space.now 0 0)) c.args.space.now ≡ space_header c.args.space.now = header-known _ (sym c.is_edition.ensures ∙ c.if-is_edition.true) in
    let nodes_are_here : capacity 1 5 8 (get_or c.args.space.now 5 0) ≡ Ok c.in_ok-n.n = told_at (capacity 1 5 8) c.capacity_of.ensures c.wide-subgoal_offset.ensures.0 (search rules) in
    let passed : c.from_residual-in_err-f.result ≡ Err c.in_err-f.field-0.0 = search rules in
    passed ∙ header-subgoals _ c.args.space.now (search rules) refl (search rules) _ (nodes_are_here) (told-twice (capacity 0 (subgoal_width (get_or c.args.space.now 0 0))) c.subgoals_between.ensures c.wide-subgoal_offset.ensures.0 c.wide-answer_offset.ensures.0 (search rules)) ∙ known_here

pub bounds-space-7 : goal.bounds-space-7
bounds-space-7 c = omega arith

pub returns-in_err-a : goal.returns-in_err-a
returns-in_err-a c =
    let known_here : header_of (sizes_of (get_or c.args.space.now 0 0)) c.args.space.now ≡ space_header c.args.space.now = header-known _ (sym c.is_edition.ensures ∙ c.if-is_edition.true) in
    let nodes_are_here : capacity 1 5 8 (get_or c.args.space.now 5 0) ≡ Ok c.in_ok-n.n = told_at (capacity 1 5 8) c.capacity_of.ensures c.wide-subgoal_offset.ensures.0 (search rules) in
    let subgoals_are_here : capacity 0 (subgoal_width (get_or c.args.space.now 0 0)) (get_or c.args.space.now 5 0) (get_or c.args.space.now 6 0) ≡ Ok c.in_ok-f.f = told-twice (capacity 0 (subgoal_width (get_or c.args.space.now 0 0))) c.subgoals_between.ensures c.wide-subgoal_offset.ensures.0 c.wide-answer_offset.ensures.0 (search rules) in
    let passed : c.from_residual-in_err-a.result ≡ Err c.in_err-a.field-0.0 = search rules in
    passed ∙ header-answers _ c.args.space.now (search rules) refl (search rules) _ (nodes_are_here) _ (subgoals_are_here) (told-twice (capacity 0 (answer_width (get_or c.args.space.now 0 0))) c.answers_between.ensures c.wide-answer_offset.ensures.0 c.wide-end.ensures.0 (search rules)) ∙ known_here

pub bounds-space-1 : goal.bounds-space-1
bounds-space-1 c = omega arith

pub bounds-space-2 : goal.bounds-space-2
bounds-space-2 c = omega arith

pub bounds-space-3 : goal.bounds-space-3
bounds-space-3 c = omega arith

pub returns-then-count : goal.returns-then-count
returns-then-count c =
    let known_here : header_of (sizes_of (get_or c.args.space.now 0 0)) c.args.space.now ≡ space_header c.args.space.now = header-known _ (sym c.is_edition.ensures ∙ c.if-is_edition.true) in
    let nodes_are_here : capacity 1 5 8 (get_or c.args.space.now 5 0) ≡ Ok c.in_ok-n.n = told_at (capacity 1 5 8) c.capacity_of.ensures c.wide-subgoal_offset.ensures.0 (search rules) in
    let subgoals_are_here : capacity 0 (subgoal_width (get_or c.args.space.now 0 0)) (get_or c.args.space.now 5 0) (get_or c.args.space.now 6 0) ≡ Ok c.in_ok-f.f = told-twice (capacity 0 (subgoal_width (get_or c.args.space.now 0 0))) c.subgoals_between.ensures c.wide-subgoal_offset.ensures.0 c.wide-answer_offset.ensures.0 (search rules) in
    let answers_are_here : capacity 0 (answer_width (get_or c.args.space.now 0 0)) (get_or c.args.space.now 6 0) (get_or c.args.space.now 7 0) ≡ Ok c.in_ok-a.a = told-twice (capacity 0 (answer_width (get_or c.args.space.now 0 0))) c.answers_between.ensures c.wide-answer_offset.ensures.0 c.wide-end.ensures.0 (search rules) in
    let counts_are_here : pick c.count.result (Ok (head_of c.args.space.now c.in_ok-n.n c.in_ok-f.f c.in_ok-a.a)) (Err refusal.Header) ≡ space_header c.args.space.now = c.count.ensures ∙ header-counted _ c.args.space.now (search rules) refl (search rules) _ (nodes_are_here) _ (subgoals_are_here) _ (answers_are_here) ∙ known_here in
    let passed_here : c.count.result ≡ true → Ok (head_of c.args.space.now c.in_ok-n.n c.in_ok-f.f c.in_ok-a.a) ≡ space_header c.args.space.now = λ t. rw t at (counts_are_here) in
    filled c.args.space.now _ _ _ (passed_here (search rules)) _ _ _ _ _ _ c.wide.ensures.0 c.wide-then-count.ensures.0 c.wide-then-count-2.ensures.0 c.wide-subgoal_offset.ensures.0 c.wide-answer_offset.ensures.0 c.wide-end.ensures.0

pub returns-else-count : goal.returns-else-count
returns-else-count c =
    let known_here : header_of (sizes_of (get_or c.args.space.now 0 0)) c.args.space.now ≡ space_header c.args.space.now = header-known _ (sym c.is_edition.ensures ∙ c.if-is_edition.true) in
    let nodes_are_here : capacity 1 5 8 (get_or c.args.space.now 5 0) ≡ Ok c.in_ok-n.n = told_at (capacity 1 5 8) c.capacity_of.ensures c.wide-subgoal_offset.ensures.0 (search rules) in
    let subgoals_are_here : capacity 0 (subgoal_width (get_or c.args.space.now 0 0)) (get_or c.args.space.now 5 0) (get_or c.args.space.now 6 0) ≡ Ok c.in_ok-f.f = told-twice (capacity 0 (subgoal_width (get_or c.args.space.now 0 0))) c.subgoals_between.ensures c.wide-subgoal_offset.ensures.0 c.wide-answer_offset.ensures.0 (search rules) in
    let answers_are_here : capacity 0 (answer_width (get_or c.args.space.now 0 0)) (get_or c.args.space.now 6 0) (get_or c.args.space.now 7 0) ≡ Ok c.in_ok-a.a = told-twice (capacity 0 (answer_width (get_or c.args.space.now 0 0))) c.answers_between.ensures c.wide-answer_offset.ensures.0 c.wide-end.ensures.0 (search rules) in
    let counts_are_here : pick c.count.result (Ok (head_of c.args.space.now c.in_ok-n.n c.in_ok-f.f c.in_ok-a.a)) (Err refusal.Header) ≡ space_header c.args.space.now = c.count.ensures ∙ header-counted _ c.args.space.now (search rules) refl (search rules) _ (nodes_are_here) _ (subgoals_are_here) _ (answers_are_here) ∙ known_here in
    let failed_here : c.count.result ≡ false → Err refusal.Header ≡ space_header c.args.space.now = λ t. rw t at (counts_are_here) in
    failed_here (search rules)

pub returns-else-space-eq-NODES_FROM : goal.returns-else-space-eq-NODES_FROM
returns-else-space-eq-NODES_FROM c =
    let known_here : header_of (sizes_of (get_or c.args.space.now 0 0)) c.args.space.now ≡ space_header c.args.space.now = header-known _ (sym c.is_edition.ensures ∙ c.if-is_edition.true) in
    header-offset _ c.args.space.now (search rules) refl c.if-space-eq-NODES_FROM.false ∙ known_here

pub returns-else-is_edition : goal.returns-else-is_edition
returns-else-is_edition c = header-unknown c.args.space.now (sym c.is_edition.ensures ∙ c.if-is_edition.false)
