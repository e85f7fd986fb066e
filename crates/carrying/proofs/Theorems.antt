-- The promises of a copy, proved.
use Rattle.basis.specs.declared.refusals.Refusal.{Refusal}
use Rattle.basis.specs.declared.refusals.Refusal.TheVariants as refusal
use Rattle.space.specs.Fresh.{FreshAnswer}
use Rattle.std.specs.Prelude.{Err, Ok}
use Prim.Native.Nat.{ℕ, suc}
use mathlib.Core.Path.{◌≡◌, refl, sym, ap, ◌∙◌, subst}
use mathlib.Core.Bool.{Bool, true, false}
use mathlib.Core.List.{List, [], ◌∷◌}
use native.Mathlib.Omega.{arith}
use lib.Dec.{eqb, leb, ltb}
use lib.ListN.{length, drop}
use borrow.Author.Tests.{eqb-true, eq-eqb}
use Rattle.basis.specs.Choice.{pick}
use Rattle.basis.specs.Editions.{known_edition}
use Rattle.basis.proofs.Cases.{by_cases}
use Rattle.forms.specs.Cells.{arity_of}
use Rattle.forms.specs.Stored.{stores_pairs}
use Rattle.plain.specs.Coding.{coding_of}
use Rattle.plain.specs.Requests.{Request, Reply, next, refused, Seen, trace, left}
use Rattle.plain.specs.Table.{Table, subgoal_of_answer, after, following, starting, onward, step}
use Rattle.plain.proofs.AfterLaws.{after_cong}
use Rattle.plain.proofs.StoredCoding.{coding-laws}
use Rattle.plain.proofs.Soundness.{Sound}
use Rattle.space.specs.Layout.{sizes_of, end_offset}
use Rattle.space.specs.Heading.{header_of, space_header, Header}
use Rattle.space.specs.Fresh.{fresh_cells, fresh_fits, fresh_answer, fresh_space, fresh_answer_in, fresh_space_in}
use Rattle.space.specs.declared.Head.{Head}
use Rattle.store.specs.Views.{View, view_of}
use Rattle.store.specs.Calls.{space_step}
use Rattle.agreement.specs.Whole.{whole_space, table_read, table_under, table_any, table_of, edition_of}
use Rattle.agreement.specs.History.{asked}
use Rattle.agreement.proofs.CellChanges.{sizes-wide}
use Rattle.agreement.proofs.HeaderTests.{header_read}
use Rattle.agreement.proofs.Holding.{Holds}
use Rattle.agreement.proofs.ReadingAgain.{coding-again}
use Rattle.agreement.proofs.SameRecords.{Same}
use Rattle.agreement.proofs.Theorem.{cells-hold, header-any, deciding, fresh_in}
use Rattle.agreement.proofs.CallLists.{trace-same}
use Rattle.agreement.proofs.Histories.{history-shown}
use Rattle.agreement.proofs.WholeSpaces.{held-says, space-holds, whole-known, space-callable, space-checking}
use Rattle.carrying.specs.Recoding.{Recoding, unchanged, widening, recoding_of}
use Rattle.carrying.specs.Carrying.{carried, takes_table, holdable, carrying}
use Rattle.carrying.specs.Copying.{source_loads, built, where_fresh, copy_under, copy_reply, copy_built, copy_space}
use Rattle.carrying.specs.Promises.{AllCallable, Says, Copied, CopyBuilds, CopyRefused, CopyOblivious, CopyAnswers, CopyPasses, CopyGoesOn, CopyHistories, CopyNext, CopyOfCalls, CopyPromises, Carries, CarriesBetween, Resizes}
use Rattle.carrying.proofs.RecodingLaws.{Recodes, unchanged-recodes, widening-recodes, recoding-recodes, stored-recoded}
use Rattle.carrying.proofs.CarriedLaws.{holdable-roomy, stored-sound, sound-stored, carried-subgoal, carried-owner, carried-subgoals, carried-answers, carried-stored, carried-callable}
use Rattle.carrying.proofs.NodeCounts.{nodes-carried}
use Rattle.carrying.proofs.BuildingStates.{built-holds}
use Rattle.carrying.proofs.LoadingLaws.{loads-stored, same-loads}

not_done : {k : Refusal} → ◌≡◌ {A = FreshAnswer} (Err k) (Ok tt) → ⊥
not_done e = let z : ◌≡◌ {A = ℕ} 0 1 = cc in omega arith

picked : (b : Bool) (x : FreshAnswer) (k : Refusal) → pick b x (Err k) ≡ Ok tt → (b ≡ true) × (x ≡ Ok tt)
picked true x k e = (refl, e)
picked false x k e = absurd (not_done e)

freshened : (x y : FreshAnswer) → where_fresh x y ≡ Ok tt → (x ≡ Ok tt) × (y ≡ Ok tt)
freshened (Ok tt) y e = (refl, e)
freshened (Err k) y e = absurd (not_done e)

pub carrying-done : (r : Recoding) (n f a : ℕ) (t : Table) → carrying r n f a t ≡ Ok tt → (takes_table r t ≡ true) × (holdable (carried r n f a t) ≡ true)
unfolding carrying
carrying-done r n f a t e =
    let p = picked (takes_table r t) _ refusal.Functor e in
    let q = picked (holdable (carried r n f a t)) (Ok tt) refusal.Capacity p.1 in
    (p.0, q.0)

-- the table that the cells say, where the header is sound
table-says : (source : List ℕ) (h : Head) (e : ℕ) → space_header source ≡ Ok h → h.edition ≡ e → table_of source ≡ table_read (view_of (sizes_of e) source h)
unfolding table_of table_any table_under
table-says source h e s q = rw s (ap (λ (x : ℕ). table_read (view_of (sizes_of x) source h)) q)

pub space-edition : (source : List ℕ) (h : Head) → space_header source ≡ Ok h → edition_of source ≡ h.edition
unfolding space_header
space-edition source h s = by_cases (known_edition (edition_of source))
    (λ k. let q : header_of (sizes_of (edition_of source)) source ≡ Ok h = rw k at s in
    let p = header_read (sizes_of (edition_of source)) source h q in
    sym (header-any (edition_of source) k source h q).1)
    (λ k. let q : Err refusal.Header ≡ Ok h = rw k at s in let z : ◌≡◌ {A = ℕ} 0 1 = cc in absurd (omega arith))

fits_fresh : (d n f a : ℕ) (s : List ℕ) → fresh_answer (sizes_of d) n f a s ≡ Ok tt → fresh_space (sizes_of d) n f a s ≡ fresh_cells (sizes_of d) n f a s
unfolding fresh_answer fresh_space
fits_fresh d n f a s e = let p = picked (fresh_fits (sizes_of d) n f a s) (Ok tt) refusal.Fresh e in rw p.0

cells_same : (d n f a : ℕ) (s t : List ℕ) → drop (end_offset (sizes_of d) n f a) s ≡ drop (end_offset (sizes_of d) n f a) t → fresh_cells (sizes_of d) n f a s ≡ fresh_cells (sizes_of d) n f a t
unfolding fresh_cells
cells_same d n f a s t e = rw e

built-same : (d : ℕ) (u : Table) (s t : List ℕ) → fresh_space (sizes_of d) u.N u.F u.A s ≡ fresh_space (sizes_of d) u.N u.F u.A t
    → built (sizes_of d) u s ≡ built (sizes_of d) u t
unfolding built
built-same d u s t e = rw e

module _ (e d : ℕ) (r : Recoding) (R : Recodes r (arity_of e) (arity_of d)) (alike : stores_pairs e ≡ stores_pairs d) where
  -- ---- what done means

  pub record Went (n f a : ℕ) (source target : List ℕ) : Type 0 where
    pub head : Head
    pub header-sound : space_header source ≡ Ok head
    pub edition : head.edition ≡ e
    pub fresh-done : fresh_answer_in d n f a target ≡ Ok tt
    pub all-load : source_loads (coding_of e) (view_of (sizes_of e) source head) ≡ true
    pub carries : carrying r n f a (table_read (view_of (sizes_of e) source head)) ≡ Ok tt

  went-under : (n f a : ℕ) (source target : List ℕ) (x : Header) → space_header source ≡ x → copy_under e d r n f a source target x ≡ Ok tt → Went n f a source target
  unfolding copy_under
  went-under n f a source target (Ok h) s q =
      let v : View = view_of (sizes_of e) source h in
      let p1 = picked (eqb h.edition e) _ refusal.Header q in
      let p2 = freshened (fresh_answer_in d n f a target) _ p1.1 in
      let p3 = picked (source_loads (coding_of e) v) _ refusal.Records p2.1 in
      record { head = h; header-sound = s; edition = eqb-true _ _ p1.0; fresh-done = p2.0; all-load = p3.0; carries = p3.1 }
  went-under n f a source target (Err k) s q = absurd (not_done q)

  pub went : (n f a : ℕ) (source target : List ℕ) → Copied e d r n f a source target → Went n f a source target
  unfolding copy_reply
  went n f a source target q = went-under n f a source target (space_header source) refl q

  pub went-space : (n f a : ℕ) (source target : List ℕ) → Copied e d r n f a source target → (h : Head) → space_header source ≡ Ok h
      → copy_space e d r n f a source target ≡ built (sizes_of d) (carried r n f a (table_read (view_of (sizes_of e) source h))) target
  unfolding copy_space copy_built
  went-space n f a source target q h s = rw (q, s)

  -- ---- any source

  pub went-sound : (n f a : ℕ) (source target : List ℕ) (w : Went n f a source target) → Sound (coding_of d) (carried r n f a (table_read (view_of (sizes_of e) source w.head)))
  went-sound n f a source target w =
      let v : View = view_of (sizes_of e) source w.head in
      let p = carrying-done r n f a (table_read v) w.carries in
      let stored = carried-stored r (arity_of e) (arity_of d) R n f a (table_read v) p.0 (coding_of e) (coding_of d) (stored-recoded e d r R alike) (loads-stored (coding_of e) v w.all-load) in
      stored-sound (coding_of d) (carried r n f a (table_read v)) stored (holdable-roomy (carried r n f a (table_read v)) p.1)

  copy_holds : (n f a : ℕ) (source target : List ℕ) → Copied e d r n f a source target
      → (known_edition d ≡ true) × Holds (sizes_of d) (coding_of d) (carried r n f a (table_of source)) (copy_space e d r n f a source target)
  copy_holds n f a source target q =
      let w = went n f a source target q in
      let v : View = view_of (sizes_of e) source w.head in
      let is : table_of source ≡ table_read v = table-says source w.head e w.header-sound w.edition in
      let u : Table = carried r n f a (table_read v) in
      let k = fresh_in d n f a target w.fresh-done in
      let held : Holds (sizes_of d) (coding_of d) u (built (sizes_of d) u target) =
      built-holds (sizes_of d) (sizes-wide d) (coding_of d) (coding-laws d) (coding-again d) u (went-sound n f a source target w) target k.1 in (
        k.0,
        subst (λ (x : Table). Holds (sizes_of d) (coding_of d) (carried r n f a x) (copy_space e d r n f a source target)) (sym is)
            (subst (Holds (sizes_of d) (coding_of d) u) (sym (went-space n f a source target q w.head w.header-sound)) held),
      )

  went-callable : (n f a : ℕ) (source target : List ℕ) → Copied e d r n f a source target → AllCallable (table_of source) → AllCallable (carried r n f a (table_of source))
  went-callable n f a source target q b =
      let w = went n f a source target q in
      let is : table_of source ≡ table_read (view_of (sizes_of e) source w.head) = table-says source w.head e w.header-sound w.edition in
      let p = carrying-done r n f a (table_read (view_of (sizes_of e) source w.head)) w.carries in
      carried-callable r (arity_of e) (arity_of d) R n f a (table_of source) (subst (λ (t : Table). takes_table r t ≡ true) (sym is) p.0) b

  copy-builds : CopyBuilds e d r
  copy-builds n f a source target q b =
      let k = copy_holds n f a source target q in
      held-says d k.0 (carried r n f a (table_of source)) (copy_space e d r n f a source target) k.1 (went-callable n f a source target q b)

  copy-goes-on : CopyGoesOn e d r
  copy-goes-on n f a source target qs q =
      let k = copy_holds n f a source target q in
      let h = k.1 in
      trace-same (sizes_of d) (coding_of d) (cells-hold (sizes_of d) (sizes-wide d)) (coding-laws d) space_step (deciding d k.0) (carried r n f a (table_of source)) (copy_space e d r n f a source target) h.head h.sound h.same qs

  copy-histories : CopyHistories e d r
  copy-histories n f a source target ms q h =
      let k = copy_holds n f a source target q in
      history-shown d k.0 (carried r n f a (table_of source)) (copy_space e d r n f a source target) ms k.1 h
      ∙ copy-goes-on n f a source target (asked ms) q

  copy-refused : CopyRefused e d r
  unfolding copy_space
  copy-refused n f a k source target q = rw q

  fresh-same : (n f a : ℕ) (target other : List ℕ) → fresh_answer_in d n f a target ≡ Ok tt → fresh_answer_in d n f a other ≡ Ok tt
      → drop (end_offset (sizes_of d) n f a) target ≡ drop (end_offset (sizes_of d) n f a) other → fresh_space (sizes_of d) n f a target ≡ fresh_space (sizes_of d) n f a other
  fresh-same n f a target other p q h =
      let x = fresh_in d n f a target p in
      let y = fresh_in d n f a other q in
      fits_fresh d n f a target x.1 ∙ cells_same d n f a target other h ∙ sym (fits_fresh d n f a other y.1)

  copy-oblivious : CopyOblivious e d r
  copy-oblivious n f a source target other p q h =
      let w = went n f a source target p in
      let x = went n f a source other q in
      let u : Table = carried r n f a (table_read (view_of (sizes_of e) source w.head)) in
      went-space n f a source target p w.head w.header-sound
      ∙ built-same d u target other (fresh-same n f a target other w.fresh-done x.fresh-done h)
      ∙ sym (went-space n f a source other q w.head w.header-sound)

  -- ---- a source that passes

  copy-answers : CopyAnswers e d r
  unfolding copy_reply copy_under
  copy-answers n f a source target w is =
      let k = whole-known source w in
      let known-e : known_edition e ≡ true = subst (λ (x : ℕ). known_edition x ≡ true) is k.0 in
      let sound-e : header_of (sizes_of e) source ≡ Ok k.1.0 = subst (λ (x : ℕ). header_of (sizes_of x) source ≡ Ok k.1.0) is k.1.1 in
      let any = header-any e known-e source k.1.0 sound-e in
      let held = space-holds e known-e source k.1.0 sound-e w in
      let v : View = view_of (sizes_of e) source held.head in
      let same : held.head ≡ k.1.0 = header-same _ _ (sym held.sound ∙ sound-e) in
      let v' : View = view_of (sizes_of e) source k.1.0 in
      let S : Same (coding_of e) (table_of source) v' = subst (λ (h : Head). Same (coding_of e) (table_of source) (view_of (sizes_of e) source h)) same held.same in
      let load : source_loads (coding_of e) v' ≡ true = same-loads (coding_of e) (coding-laws e) (table_of source) v' S (sound-stored (coding_of e) (table_of source) S.sound) in
      rw (any.0, eq-eqb _ _ any.1, load, table-says source k.1.0 e any.0 any.1)
    where
      header-same : (x y : Head) → ◌≡◌ {A = Header} (Ok x) (Ok y) → x ≡ y
      header-same x y e = cc

  copy-passes : CopyPasses e d r
  copy-passes n f a source target w q = copy-builds n f a source target q (space-callable source w)

  -- ---- a consumer goes on

  module _ (n f a : ℕ) (t : Table) where
    abbrev u : Table
    u = carried r n f a t

    starting-same : (s i : ℕ) → starting u s i ≡ starting t s i
    unfolding starting
    starting-same s i = rw (carried-answers r n f a t, carried-owner r n f a t i)

    following-same : (s i : ℕ) → following u s i ≡ following t s i
    unfolding following
    following-same s i =
        ap (λ (k : ℕ). after (subgoal_of_answer u) (suc k) i s) (carried-answers r n f a t)
        ∙ after_cong (subgoal_of_answer u) (subgoal_of_answer t) (suc (length t.answers)) i s (λ j h. carried-owner r n f a t j)

    onward-same : (s i : ℕ) → onward u s i ≡ onward t s i
    unfolding onward
    onward-same s i = rw (following-same s i, carried-subgoal r n f a t s)

    next-reply : (s i : ℕ) → (step (coding_of d) u (next s i)).reply ≡ (step (coding_of e) t (next s i)).reply
    unfolding step
    next-reply s i =
        by_cases (ltb 0 s)
        (λ p. by_cases (leb s (length t.subgoals))
        (λ q. let q' : leb s (length u.subgoals) ≡ true = rw (carried-subgoals r n f a t) q in rw (p, q, q', starting-same s i, onward-same s i))
        (λ q. let q' : leb s (length u.subgoals) ≡ false = rw (carried-subgoals r n f a t) q in rw (p, q, q')))
        (λ p. rw p)

  -- one call on a space that passes
  reply-says : (cs : List ℕ) (q : Request) → whole_space cs ≡ true → (space_step cs q).reply ≡ (step (coding_of (edition_of cs)) (table_of cs) q).reply
  unfolding trace
  reply-says cs q w = ap first (space-checking.answering cs (q ∷ []) w)
    where
      first : List Seen → Reply
      first [] = refused 0
      first (x ∷ xs) = x.reply

  copy-next : CopyNext e d r
  copy-next n f a source target s i w q =
      let p = copy-passes n f a source target w q in
      let x = went n f a source target q in
      let is : edition_of source ≡ e = space-edition source x.head x.header-sound ∙ x.edition in
      let here : (space_step (copy_space e d r n f a source target) (next s i)).reply ≡ (step (coding_of d) (carried r n f a (table_of source)) (next s i)).reply =
      rw (p.1, p.2) at (reply-says (copy_space e d r n f a source target) (next s i) p.0) in
      let there : (space_step source (next s i)).reply ≡ (step (coding_of e) (table_of source) (next s i)).reply = rw is at (reply-says source (next s i) w) in
      here ∙ next-reply n f a (table_of source) s i ∙ sym there

  -- ---- a source that calls made

  copy-of-calls : CopyOfCalls e d r
  copy-of-calls m g b cs qs done n f a target =
      let source : List ℕ = left space_step (fresh_space_in e m g b cs) qs in
      let p = space-checking.passing e m g b cs qs done in (
        copy-answers n f a source target p.0 p.2 ∙ rw p.1,
        λ q. subst (λ (t : Table). Says d (carried r n f a t) (copy_space e d r n f a source target)) p.1 (copy-passes n f a source target p.0 q),
      )

  pub copies : CopyPromises e d r
  copies = record {
    goes_on = copy-goes-on;
    histories = copy-histories;
    builds = copy-builds;
    refuses = copy-refused;
    oblivious = copy-oblivious;
    answers = copy-answers;
    passes = copy-passes;
    next-same = copy-next;
    of_calls = copy-of-calls;
    nodes-same = nodes-carried r (arity_of e) (arity_of d) R;
  }

-- Q-8
pub carry-recodes : Recodes widening (arity_of 1) (arity_of 2)
carry-recodes = widening-recodes 2 (λ z. omega arith)

pub carries : Carries
carries = copies 1 2 widening carry-recodes refl

pub carries-between : CarriesBetween
carries-between e d h k = copies e d (recoding_of e d) (recoding-recodes e d h) k

pub resizes : Resizes
resizes e = copies e e unchanged (unchanged-recodes (arity_of e) (arity_of e) (λ p. refl)) refl
