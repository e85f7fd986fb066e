-- The promises of growing, proved.
use Rattle.basis.specs.declared.refusals.Refusal.TheVariants as refusal
use Rattle.std.specs.Prelude.{Err, Ok}
use Prim.Native.Nat.{ℕ}
use mathlib.Core.Path.{◌≡◌, refl, sym, ap, ◌∙◌, subst}
use mathlib.Core.Bool.{Bool, true, false, ◌&&◌}
use mathlib.Core.List.{List}
use lib.Dec.{leb}
use lib.ListN.{length}
use Rattle.basis.specs.Choice.{pick}
use Rattle.basis.specs.Editions.{known_edition}
use Rattle.plain.specs.Coding.{Coding, coding_of}
use Rattle.plain.specs.CodingLaws.{CodingLaws}
use Rattle.plain.specs.Requests.{left}
use Rattle.plain.specs.Table.{Table, nodes}
use Rattle.plain.proofs.StoredCoding.{coding-laws}
use Rattle.space.specs.Layout.{Sizes, sizes_of}
use Rattle.space.specs.Heading.{header_of}
use Rattle.space.specs.Fresh.{fresh_fits, fresh_answer, fresh_answer_in, fresh_space_in, FreshAnswer}
use Rattle.space.specs.declared.Head.{Head}
use Rattle.store.specs.Views.{View, view_of}
use Rattle.store.specs.Calls.{space_step}
use Rattle.agreement.specs.Records.{Alike}
use Rattle.agreement.specs.Whole.{whole_space, table_of, edition_of}
use Rattle.agreement.specs.History.{asked}
use Rattle.agreement.proofs.CallLists.{trace-same}
use Rattle.agreement.proofs.CellChanges.{sizes-wide}
use Rattle.agreement.proofs.Histories.{history-shown}
use Rattle.agreement.proofs.Holding.{Holds}
use Rattle.agreement.proofs.SameRecords.{Same, same_alike, nodes-count}
use Rattle.agreement.proofs.Theorem.{cells-hold, header-any, deciding}
use Rattle.agreement.proofs.WholeSpaces.{held-says, space-holds, whole-known, space-callable, space-checking}
use Rattle.carrying.specs.Carrying.{holdable}
use Rattle.carrying.specs.Copying.{where_fresh}
use Rattle.carrying.specs.Promises.{Says}
use Rattle.growing.specs.Growing.{enough, grow_under, grow_reply, grow_space}
use Rattle.growing.specs.Promises.{resized, resized_view, Grown, view_before, GrowAnswers, GrowPasses, GrowGoesOn, GrowHistories, GrowOfCalls, GrowPromises}
use Rattle.growing.proofs.GrownViews.{grown-view, grown-free, grown-frame, grow-refused, grows-as}
use Rattle.growing.proofs.Regions.{Room, grows-room, header-in}
use Rattle.growing.proofs.Resized.{nodes-resized, same-resized, callable-resized}

module _ (n f a : ℕ) (cs : List ℕ) (w : whole_space cs ≡ true) (done : Grown n f a cs) where
  abbrev e : ℕ
  e = edition_of cs

  known : known_edition e ≡ true
  known = (whole-known cs w).0

  held : Holds (sizes_of e) (coding_of e) (table_of cs) cs
  held = let k = whole-known cs w in space-holds e k.0 cs k.1.0 k.1.1 w

  -- the grown space holds the records of the same table with the new capacities
  grow-holds : Holds (sizes_of e) (coding_of e) (resized n f a (table_of cs)) (grow_space n f a cs)
  grow-holds =
      let h : Head = held.head in
      let any = header-any e known cs h held.sound in
      let r : Room n f a h cs = grows-room n f a h cs (grows-as n f a cs h any.0 done) in
      let g = grown-view n f a cs h any.0 done in
      let is : g.0.edition ≡ e = g.2 ∙ any.1 in
      let sound : header_of (sizes_of e) (grow_space n f a cs) ≡ Ok g.0 =
      subst (λ (x : ℕ). header_of (sizes_of x) (grow_space n f a cs) ≡ Ok g.0) is (header-in (grow_space n f a cs) g.0 g.1).1 in
      let v : View = view_of (sizes_of e) cs h in
      let alike : Alike (view_of (sizes_of e) (grow_space n f a cs) g.0) (resized_view n f a v) =
      subst (λ (x : ℕ). Alike (view_of (sizes_of e) (grow_space n f a cs) g.0) (resized_view n f a (view_of (sizes_of x) cs h))) any.1
      (subst (λ (x : ℕ). Alike (view_of (sizes_of x) (grow_space n f a cs) g.0) (resized_view n f a (view_before n f a cs h))) is g.3) in
      let same : Same (coding_of e) (resized n f a (table_of cs)) (resized_view n f a v) =
      same-resized n f a (table_of cs) (coding_of e) (coding-laws e) v r.nodes-used r.subgoals-used r.answers-used held.same in
      record {
        head = g.0;
        sound = sound;
        same = same_alike (coding_of e) (resized n f a (table_of cs)) (resized_view n f a v) (view_of (sizes_of e) (grow_space n f a cs) g.0) same alike;
      }

-- the counts in the header are those of the table
enough-holdable : (c : Coding) → CodingLaws c → (n f a : ℕ) (t : Table) (z : Sizes) (cs : List ℕ) (h : Head) → Same c t (view_of z cs h) → enough n f a h ≡ holdable (resized n f a t)
unfolding enough holdable
enough-holdable c laws n f a t z cs h S =
    ap (λ (k : ℕ). leb k n && leb h.subgoals f && leb h.answers a) (nodes-count c laws t (view_of z cs h) S ∙ sym (nodes-resized n f a t))
    ∙ ap (λ (k : ℕ). leb (nodes (resized n f a t)) n && leb k f && leb h.answers a) S.subgoals
    ∙ ap (λ (k : ℕ). leb (nodes (resized n f a t)) n && leb (length t.subgoals) f && leb k a) S.answers

fresh-first : (b : Bool) (x : FreshAnswer) → pick b x (Err refusal.Fresh) ≡ where_fresh (pick b (Ok tt) (Err refusal.Fresh)) x
fresh-first true x = refl
fresh-first false x = refl

pub grow-answers : GrowAnswers
unfolding grow_reply grow_under fresh_answer_in fresh_answer
grow-answers n f a cs w =
    let k = whole-known cs w in
    let e : ℕ = edition_of cs in
    let held = space-holds e k.0 cs k.1.0 k.1.1 w in
    let h : Head = held.head in
    let any = header-any e k.0 cs h held.sound in
    let counts : enough n f a h ≡ holdable (resized n f a (table_of cs)) = enough-holdable (coding_of e) (coding-laws e) n f a (table_of cs) (sizes_of e) cs h held.same in
    rw (any.0, any.1, k.0, counts) (fresh-first (fresh_fits (sizes_of e) n f a cs) (pick (holdable (resized n f a (table_of cs))) (Ok tt) (Err refusal.Capacity)))

pub grow-passes : GrowPasses
grow-passes n f a cs w done =
    held-says (edition_of cs) (known n f a cs w done) (resized n f a (table_of cs)) (grow_space n f a cs) (grow-holds n f a cs w done)
    (callable-resized n f a (table_of cs) (space-callable cs w))

pub grow-goes-on : GrowGoesOn
grow-goes-on n f a cs qs w done =
    let e : ℕ = edition_of cs in
    let h = grow-holds n f a cs w done in
    trace-same (sizes_of e) (coding_of e) (cells-hold (sizes_of e) (sizes-wide e)) (coding-laws e) space_step (deciding e (known n f a cs w done))
    (resized n f a (table_of cs)) (grow_space n f a cs) h.head h.sound h.same qs

pub grow-histories : GrowHistories
grow-histories n f a cs ms w done h =
    history-shown (edition_of cs) (known n f a cs w done) (resized n f a (table_of cs)) (grow_space n f a cs) ms (grow-holds n f a cs w done) h
    ∙ grow-goes-on n f a cs (asked ms) w done

pub grow-of-calls : GrowOfCalls
grow-of-calls e m g b cs qs made n f a done =
    let space : List ℕ = left space_step (fresh_space_in e m g b cs) qs in
    let p = space-checking.passing e m g b cs qs made in
    subst (λ (t : Table). Says e (resized n f a t) (grow_space n f a space)) p.1
    (subst (λ (x : ℕ). Says x (resized n f a (table_of space)) (grow_space n f a space)) p.2 (grow-passes n f a space p.0 done))

pub grow-promises : GrowPromises
grow-promises = record {
  view = grown-view;
  free = grown-free;
  frame = grown-frame;
  refuses = grow-refused;
  answers = grow-answers;
  passes = grow-passes;
  goes_on = grow-goes-on;
  histories = grow-histories;
  of_calls = grow-of-calls;
}
