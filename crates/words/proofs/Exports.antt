-- Exports that each meet their contract are a history of calls, so their words are those of the plain table's replies.
use Rattle.space.specs.Fresh.{FreshAnswer}
use Rattle.std.specs.Prelude.{Err, Ok}
use Prim.Native.Nat.{ℕ, ◌-◌}
use mathlib.Core.Bool.{Bool, true, false, ◌&&◌}
use mathlib.Core.List.{List, [], ◌∷◌, map, zip_with}
use mathlib.Core.Path.{◌≡◌, refl, sym, ap, ◌∙◌, subst}
use native.Mathlib.Omega.{arith}
use lib.Dec.{eqb, ltb}
use lib.ListN.{length}
use Rattle.basis.specs.Choice.{pick}
use Rattle.basis.proofs.Cases.{by_cases}
use Rattle.forms.specs.Numbering.{met}
use Rattle.plain.specs.Coding as coding
use Rattle.plain.specs.Coding.{Coding, coding_of, Reading}
use Rattle.plain.specs.Requests.{Request, counts, why, detours, lent, new_past, because, Reply, refused, Seen}
use Rattle.plain.specs.Detours.{detours_of, all_within}
use Rattle.plain.specs.Table.{table_trace, edition_trace}
use Rattle.space.specs.Layout.{sizes_of}
use Rattle.space.specs.Heading.{space_header, Header}
use Rattle.space.specs.declared.Head.{Head}
use Rattle.trie.specs.Siblings.{search_children}
use Rattle.trie.specs.Walks.{Walk, whole, stopped, damaged, Finding, walk_by}
use Rattle.store.specs.Views.{View, view_of, subgoal_trie}
use Rattle.store.specs.Decisions.{Decision, says, refuses, sound_subgoal, Way, astray, leads, firsts_from, named_by, new_at, reasoned_at, reasoned_by, decide_by}
use Rattle.store.specs.Decisions.{Goals, unsound, goals, goals_in, detours_in}
use Rattle.store.specs.Changes.{change_by}
use Rattle.store.specs.Calls.{out_after, under_by, under_any_by, space_step_by, space_step, counted_cells}
use Rattle.agreement.specs.History.{alone, way_of, Made, Meets, History, asked, seen_of}
use Rattle.agreement.specs.Whole.{table_of, edition_of}
use Rattle.agreement.specs.Faults.{Fault, nothing, heading, node, subgoal, answer, fault_of}
use Rattle.agreement.proofs.Faults.{fault-told}
use Rattle.agreement.proofs.Histories.{histories, whole-histories}
use Rattle.carrying.specs.Recoding.{widening}
use Rattle.carrying.specs.Carrying.{carried}
use Rattle.carrying.proofs.Theorems.{carries}
use Rattle.words.specs.Words.{word, said_fresh, counts_reply, counts_out, word_check}
use Rattle.words.specs.Why.{why_reply, why_out}
use Rattle.words.specs.Detours.{detours_reply, detours_out}
use Rattle.words.specs.Exports.{Export, call_of, counts_into, why_into, detours_into, request_of, ExportMade, MeetsExport, Exports, exports_of, requests_of, SeenWord, seen_export, seen_as}
use Rattle.words.specs.Exports.{ExportHistories, WholeExportHistories, CarriedExportHistories, ExportsLived, FreshZero, CheckZero, CarryZero}

-- ---- word 0

fresh-said : (x : FreshAnswer) (w : ℕ) → w ≡ word (said_fresh x) → (w ≡ 0 → x ≡ Ok tt) × (x ≡ Ok tt → w ≡ 0)
unfolding word
fresh-said (Ok y) w e = (λ z. refl, λ z. omega (arith, e))
fresh-said (Err r) w e =
    (λ z. absurd (omega (arith, e, z)), λ d. let x : ◌≡◌ {A = ℕ} 0 1 = cc in absurd (omega arith))

fault-said : (x : Fault) (w : ℕ) → w ≡ word_check x → (w ≡ 0 → x ≡ nothing) × (x ≡ nothing → w ≡ 0)
unfolding word_check
fault-said nothing w e = (λ z. refl, λ z. omega (arith, e))
fault-said heading w e =
    (λ z. absurd (omega (arith, e, z)), λ d. let x : ◌≡◌ {A = ℕ} 0 1 = cc in absurd (omega arith))
fault-said (node n) w e =
    (λ z. absurd (omega (arith, e, z)), λ d. let x : ◌≡◌ {A = ℕ} 0 1 = cc in absurd (omega arith))
fault-said (subgoal s) w e =
    (λ z. absurd (omega (arith, e, z)), λ d. let x : ◌≡◌ {A = ℕ} 0 1 = cc in absurd (omega arith))
fault-said (answer a) w e =
    (λ z. absurd (omega (arith, e, z)), λ d. let x : ◌≡◌ {A = ℕ} 0 1 = cc in absurd (omega arith))

pub fresh-zero : FreshZero
fresh-zero e n f a before w after r = fresh-said _ w r.0

pub check-zero : CheckZero
check-zero space w r =
    let k = fault-said (fault_of space) w r in
    (λ z. (fault-told space).0 (k.0 z), λ p. k.1 ((fault-told space).1 p))

pub carry-zero : CarryZero
carry-zero n f a source before w after r = fresh-said _ w r.0

-- ---- exports one after another

-- the call that an export makes
pub record CallMade (before : List ℕ) (x : Export) (w : ℕ) (out after : List ℕ) : Type 0 where
  pub made : Made
  pub meets : Meets before made
  pub leaves : made.after ≡ after
  pub asks : made.request ≡ request_of x
  pub shows : seen_as x (seen_of made) ≡ record { result = w; counted = counted_cells after; out = out }

call-made : (before : List ℕ) (x : Export) (w : ℕ) (out after : List ℕ) → MeetsExport before x w out after → CallMade before x w out after
call-made before (call_of q b) w out after h = record {
  made = record { request = q; beside = b; reply = h.0; out = out; after = after };
  meets = h.1;
  leaves = refl;
  asks = refl;
  shows = rw h.2 refl;
}
call-made before (counts_into room) w out after h = record {
  made = record { request = counts; beside = alone; reply = h.0.0; out = []; after = after };
  meets = (h.0.1.0, h.0.1.1, h.1 ∙ h.0.1.2);
  leaves = refl;
  asks = refl;
  shows = rw (h.0.2, h.0.3) refl;
}
call-made before (why_into term room b) w out after h = record {
  made = record { request = why term; beside = b; reply = h.0.0; out = []; after = after };
  meets = (h.0.1.0, h.0.1.1, h.1 ∙ h.0.1.2);
  leaves = refl;
  asks = refl;
  shows = rw (h.0.2.0, h.0.2.1) refl;
}
call-made before (detours_into gs budget room) w out after h = record {
  made = record { request = detours gs budget; beside = alone; reply = h.0.0; out = []; after = after };
  meets = (h.0.1.0, h.0.1.1, h.1 ∙ h.0.1.2);
  leaves = refl;
  asks = refl;
  shows = rw (h.0.2.0, h.0.2.1) refl;
}

-- what a list of exports makes of what was seen of its calls
abbrev in_words : List ExportMade → List Seen → List SeenWord
in_words xs ss = zip_with seen_as (exports_of xs) ss

calls-made : (before : List ℕ) (xs : List ExportMade) → Exports before xs
    → (ms : List Made) × History before ms × (asked ms ≡ requests_of xs) × (in_words xs (map seen_of ms) ≡ map seen_export xs)
unfolding Exports History zip_with
calls-made before [] h = ([], tt, refl, refl)
calls-made before (x ∷ xs) h =
    let l = call-made before x.export x.result x.out x.after h.0 in
    let k = calls-made x.after xs h.1 in (
      l.made ∷ k.0,
      (l.meets, subst (λ (cs : List ℕ). History cs k.0) (sym l.leaves) k.1),
      rw (l.asks, k.2) refl,
      rw (l.shows, k.3) refl,
    )

pub export-histories : ExportHistories
export-histories e n f a before space xs r h =
    let d = (fresh-zero e n f a before 0 space r).0 refl in
    let k = calls-made _ xs (subst (λ (cs : List ℕ). Exports cs xs) r.1 h) in
    sym k.3 ∙ ap (in_words xs) (histories e n f a before k.0 d k.1)
    ∙ ap (λ (qs : List Request). in_words xs (edition_trace e n f a qs)) k.2

pub whole-export-histories : WholeExportHistories
whole-export-histories space xs r h =
    let k = calls-made space xs h in
    sym k.3 ∙ ap (in_words xs) (whole-histories space k.0 ((check-zero space 0 r).0 refl) k.1)
    ∙ ap (λ (qs : List Request). in_words xs (table_trace (coding_of (edition_of space)) (table_of space) qs)) k.2

pub carried-export-histories : CarriedExportHistories
carried-export-histories n f a source before space xs r h =
    let k = calls-made _ xs (subst (λ (cs : List ℕ). Exports cs xs) r.1 h) in
    sym k.3 ∙ ap (in_words xs) (carries.histories n f a source before k.0 ((carry-zero n f a source before 0 space r).0 refl) k.1)
    ∙ ap (λ (qs : List Request). in_words xs (table_trace (coding_of 2) (carried widening n f a (table_of source)) qs)) k.2

-- the exports of the library itself

counts-under : (cs : List ℕ) (x : Header) → ([] ≡ (under_any_by search_children cs counts x).out) × (cs ≡ (under_any_by search_children cs counts x).state)
unfolding under_any_by under_by decide_by change_by out_after lent
counts-under cs (Ok h) = (refl, refl)
counts-under cs (Err r) = (refl, refl)

counts-kept : (cs : List ℕ) → ([] ≡ (space_step cs counts).out) × (cs ≡ (space_step cs counts).state)
unfolding space_step_by
counts-kept cs = counts-under cs (space_header cs)

-- why says its reply and changes nothing

abbrev Says : Decision → Type 0
Says d = (r : Reply) × (d ≡ says r)

either-says : (b : Bool) (d e : Decision) → Says d → Says e → Says (pick b d e)
either-says true d e x y = x
either-says false d e x y = y

module _ (v : View) where
  named-says : (leaf : ℕ) (say : ℕ → Reply) → Says (named_by v leaf say)
  unfolding named_by
  named-says leaf say =
      let s = (v.node leaf).link in
      either-says (ltb 0 s && sound_subgoal v s && eqb (v.subgoal s).leaf leaf) (says (say s)) (refuses 9) (say s, refl) (refused 9, refl)

  new-says : (n : ℕ) (x : Way) → Says (new_at v n x)
  unfolding new_at
  new-says n astray = (refused 9, refl)
  new-says n (leads leaf) = named-says leaf _

  at-says : (vs w : List ℕ) (x : Walk) → Says (reasoned_at v vs w x)
  unfolding reasoned_at
  at-says vs w (whole leaf) = named-says leaf _
  at-says vs w (stopped parent last left) =
      let n = length w - length left in
      either-says (eqb n 0) (says (because (new_past 0 0))) (new_at v n (firsts_from v v.nodes parent)) (because (new_past 0 0), refl) (new-says n (firsts_from v v.nodes parent))
  at-says vs w damaged = (refused 9, refl)

  reasoned-says : (find : Finding) (term : List ℕ) (x : Reading) → Says (reasoned_by find v term x)
  unfolding reasoned_by
  reasoned-says find term (coding.refused r) = (refused r, refl)
  reasoned-says find term (coding.accepted w m) = at-says (met [] term) w (walk_by find (subgoal_trie v) 0 w)

why-under : (find : Finding) (cs term : List ℕ) (x : Header) → ([] ≡ (under_any_by find cs (why term) x).out) × (cs ≡ (under_any_by find cs (why term) x).state)
unfolding under_any_by under_by decide_by lent change_by out_after
why-under find cs term (Ok h) =
    let k = reasoned-says (view_of (sizes_of h.edition) cs h) find term ((coding_of h.edition).called term) in
    rw k.1 (refl, refl)
why-under find cs term (Err r) = (refl, refl)

why-kept : (find : Finding) (cs term : List ℕ) → ([] ≡ (space_step_by find cs (why term)).out) × (cs ≡ (space_step_by find cs (why term)).state)
unfolding space_step_by
why-kept find cs term = why-under find cs term (space_header cs)

-- a search for detours only says something
says-under : (cs : List ℕ) (q : Request) (h : Head) (r : Reply) → lent q ≡ [] → decide_by search_children (coding_of h.edition) (view_of (sizes_of h.edition) cs h) q ≡ says r
    → ([] ≡ (under_any_by search_children cs q (Ok h)).out) × (cs ≡ (under_any_by search_children cs q (Ok h)).state)
unfolding under_any_by under_by change_by out_after
says-under cs q h r l e = rw (e, l) (refl, refl)

detours-says : (c : Coding) (gs : Goals) (budget : ℕ) → (r : Reply) × (detours_in c gs budget ≡ says r)
unfolding detours_in
detours-says c unsound budget = (refused 9, refl)
detours-says c (goals gs) budget = (detours_of c gs budget, refl)

detours-decides : (c : Coding) (v : View) (gs : List ℕ) (budget : ℕ) → (r : Reply) × (decide_by search_children c v (detours gs budget) ≡ says r)
unfolding decide_by
detours-decides c v gs budget = by_cases (all_within v.subgoals gs)
    (λ e. rw e (detours-says c (goals_in c v gs) budget))
    (λ e. rw e (refused 7, refl))

detours-under : (cs gs : List ℕ) (budget : ℕ) (x : Header) → ([] ≡ (under_any_by search_children cs (detours gs budget) x).out) × (cs ≡ (under_any_by search_children cs (detours gs budget) x).state)
unfolding under_any_by lent
detours-under cs gs budget (Ok h) =
    let d = detours-decides (coding_of h.edition) (view_of (sizes_of h.edition) cs h) gs budget in says-under cs (detours gs budget) h d.0 refl d.1
detours-under cs gs budget (Err r) = (refl, refl)

detours-kept : (cs gs : List ℕ) (budget : ℕ) → ([] ≡ (space_step cs (detours gs budget)).out) × (cs ≡ (space_step cs (detours gs budget)).state)
unfolding space_step_by
detours-kept cs gs budget = detours-under cs gs budget (space_header cs)

export-lived : (before : List ℕ) (x : Export) → (w : ℕ) × (out : List ℕ) × (after : List ℕ) × MeetsExport before x w out after
export-lived before (call_of q b) =
    let r = space_step_by (way_of before b) before q in
    (word r.reply, r.out, r.state, (r.reply, (refl, refl, refl), refl))
export-lived before (counts_into room) =
    let r = (space_step before counts).reply in
    let k = counts-kept before in
    (word (counts_reply r room), counts_out r room, before, ((r, (refl, k.0, k.1), refl, refl), refl))
export-lived before (why_into term room b) =
    let r = (space_step_by (way_of before b) before (why term)).reply in
    let k = why-kept (way_of before b) before term in
    (word (why_reply r room), why_out r room, before, ((r, (refl, k.0, k.1), (refl, refl)), refl))
export-lived before (detours_into gs budget room) =
    let r = (space_step before (detours gs budget)).reply in
    let k = detours-kept before gs budget in
    (word (detours_reply r room), detours_out r room, before, ((r, (refl, k.0, k.1), (refl, refl)), refl))

pub exports-lived : ExportsLived
unfolding Exports
exports-lived before [] = ([], tt, refl)
exports-lived before (x ∷ xs) =
    let l = export-lived before x in
    let m : ExportMade = record { export = x; result = l.0; out = l.1; after = l.2 } in
    let k = exports-lived l.2 xs in
    (m ∷ k.0, (l.3, k.1), ap (λ (ys : List Export). x ∷ ys) k.2)
