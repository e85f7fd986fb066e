-- On cells that hold a table, a call with a ledger that is true of them is the call without, and what was true of them is true
-- of what any call leaves.
use Rattle.std.specs.Prelude.{Ok}
use Prim.Native.Nat.{ℕ}
use mathlib.Core.Bool.{true}
use mathlib.Core.List.{List, [], ◌∷◌, map}
use mathlib.Core.Path.{◌≡◌, refl, sym, ap, ◌∙◌, subst}
use Rattle.basis.specs.Editions.{known_edition}
use Rattle.plain.specs.Coding.{coding_of}
use Rattle.plain.specs.Requests.{Request, Result, trace, left}
use Rattle.plain.specs.Table.{Table, fresh, step}
use Rattle.plain.proofs.StoredCoding.{coding-laws}
use Rattle.space.specs.Layout.{sizes_of, node_in}
use Rattle.space.specs.Heading.{header_of}
use Rattle.space.specs.Fresh.{fresh_space}
use Rattle.space.specs.declared.Head.{Head}
use Rattle.trie.specs.Siblings.{Trie}
use Rattle.trie.specs.Ledger.{Ledger, blank_ledger, caught_up, search_kept, trusted_kept, Complete}
use Rattle.trie.proofs.LedgerLaws.{blank-complete, caught-again, complete-on, caught-complete, caught-usable, ledger-free, kept-as-chains, trusted-as-chains}
use Rattle.store.specs.Views.{subgoal_trie, view_of}
use Rattle.store.specs.Decisions.{Decision, decide}
use Rattle.store.specs.Changes.{change}
use Rattle.store.specs.Building.{nodes_under, nodes_of}
use Rattle.store.specs.Calls.{space_step, space_step_by, Answers}
use Rattle.store.specs.Keeping.{kept_step, ledger_of}
use Rattle.agreement.specs.Keeping.{TrueOf, SameKept, KeptSame, ShortKept, KeptShort, KeptWhole, BlankTrue, Aid, unaided, indexed, kept, way_by, ledger_left, Aided, KeptMade, MeetsKept, KeptHistory, asked_kept, seen_kept, KeptHistories, KeptOnwards, KeptLived}
use Rattle.agreement.specs.Whole.{edition_of, table_of}
use Rattle.agreement.specs.Records.{changed_view, Fits}
use Rattle.agreement.proofs.CellChanges.{sizes-wide, cells-change}
use Rattle.agreement.proofs.Growing.{changed-grown, alike-grown}
use Rattle.agreement.proofs.Holding.{Holds}
use Rattle.agreement.proofs.Steps.{step-answers}
use Rattle.agreement.proofs.Theorem.{header-any, fresh_in, deciding, promise}
use Rattle.agreement.proofs.IndexSteps.{cells_in, step-alike, step-indexed, state-holds, fresh-held, calls-held}
use Rattle.agreement.proofs.IndexBuilt.{nodes-held}
use Rattle.agreement.proofs.Histories.{shows, made-shown}
use Rattle.agreement.proofs.WholeSpaces.{space-holds, whole-known}

module _ (e : ℕ) (known : known_edition e ≡ true) where
  -- a ledger is true of cells that hold a table, by their own reading of the nodes
  abbrev Fit : (t : Table) (cs : List ℕ) → Holds (sizes_of e) (coding_of e) t cs → Ledger → Type 0
  Fit t cs k l = Complete (node_in (sizes_of e) cs) k.head.nodes l

  fit : (t : Table) (cs : List ℕ) (k : Holds (sizes_of e) (coding_of e) t cs) (l : Ledger) → TrueOf cs l → Fit t cs k l
  fit t cs k l c = subst (λ (u : Trie). Complete u.at u.nodes l) (nodes-held e known t cs k) c

  true_of : (t : Table) (cs : List ℕ) (k : Holds (sizes_of e) (coding_of e) t cs) (l : Ledger) → Fit t cs k l → TrueOf cs l
  true_of t cs k l c = subst (λ (u : Trie). Complete u.at u.nodes l) (sym (nodes-held e known t cs k)) c

  -- what was true of the cells is true of those that a call leaves
  still-true : (t : Table) (cs : List ℕ) → Holds (sizes_of e) (coding_of e) t cs → (l : Ledger) → TrueOf cs l → (q : Request) → TrueOf (space_step cs q).state l
  still-true t cs k l c q =
      let a = step-answers (sizes_of e) (coding_of e) (cells_in e known) (coding-laws e) t cs k.head k.sound k.same q in
      let cs' : List ℕ = change (sizes_of e) cs k.head (decide (coding_of e) (view_of (sizes_of e) cs k.head) q) in
      let s : (space_step cs q).state ≡ cs' = ap (λ (r : Result (List ℕ)). r.state) (deciding e known cs k.head q k.sound) in
      subst (λ (ds : List ℕ). TrueOf ds l) (sym s) (true_of (step (coding_of e) t q).state cs' a.holds l
      (complete-on (node_in (sizes_of e) cs) k.head.nodes (node_in (sizes_of e) cs') a.holds.head.nodes a.grows l (fit t cs k l c)))

  step_kept : (t : Table) (cs : List ℕ) → Holds (sizes_of e) (coding_of e) t cs → (l : Ledger) → TrueOf cs l → (q : Request) → kept_step l cs q ≡ space_step cs q
  step_kept t cs k l c q = step-alike e known (search_kept l) t cs k (kept-as-chains (node_in (sizes_of e) cs) k.head.nodes l (fit t cs k l c)) q

  -- caught up with a space, it is true of it
  caught-true : (cs : List ℕ) (l : Ledger) → TrueOf cs l → TrueOf cs (ledger_of cs l)
  caught-true cs l c = caught-complete (nodes_of cs).at (nodes_of cs).nodes l c

  pub same_kept : (t : Table) (cs : List ℕ) → Holds (sizes_of e) (coding_of e) t cs → (l : Ledger) → TrueOf cs l → (q : Request) → SameKept cs l q
  same_kept t cs k l c q =
      let s = step_kept t cs k l c q in
      let w = still-true t cs k l c q in
      record {
        same = s;
        again = subst (λ (r : Result (List ℕ)). TrueOf r.state (ledger_of r.state l)) (sym s) (caught-true (space_step cs q).state l w);
        still = w;
      }

  pub short-kept : (t : Table) (cs : List ℕ) → Holds (sizes_of e) (coding_of e) t cs → (l : Ledger) → TrueOf cs l → ShortKept cs l
  short-kept t cs k l c = record {
    trusted = λ q. step-alike e known (trusted_kept l) t cs k (trusted-as-chains (node_in (sizes_of e) cs) k.head.nodes l (fit t cs k l c)) q;
    every = λ h. caught-usable (nodes_of cs).at (nodes_of cs).nodes l c h;
    free = λ h. ledger-free (nodes_of cs).at (nodes_of cs).nodes (ledger_of cs l) (caught-true cs l c) (caught-usable (nodes_of cs).at (nodes_of cs).nodes l c h);
  }

  -- ---- calls one after another

  way_same : (t : Table) (cs : List ℕ) → Holds (sizes_of e) (coding_of e) t cs → (l : Ledger) → TrueOf cs l → (b : Aid) (q : Request) → space_step_by (way_by cs l b) cs q ≡ space_step cs q
  way_same t cs k l c unaided q = refl
  way_same t cs k l c (indexed xs) q = step-indexed e known t cs k xs q
  way_same t cs k l c kept q = step_kept t cs k l c q

  left-true : (cs : List ℕ) (l : Ledger) (b : Aid) → TrueOf cs l → TrueOf cs (ledger_left l b cs)
  left-true cs l unaided c = c
  left-true cs l (indexed xs) c = c
  left-true cs l kept c = caught-true cs l c

  meets-unaided : (t : Table) (cs : List ℕ) → Holds (sizes_of e) (coding_of e) t cs → (l : Ledger) → TrueOf cs l → (m : KeptMade) → MeetsKept cs l m → Answers cs m.request m.reply m.out m.after
  meets-unaided t cs k l c m a =
      let w = way_same t cs k l c m.aid m.request in (
        a.0.0 ∙ ap (λ (x : Result (List ℕ)). x.reply) w,
        a.0.1 ∙ ap (λ (x : Result (List ℕ)). x.out) w,
        a.0.2 ∙ ap (λ (x : Result (List ℕ)). x.state) w,
      )

  pub history-kept : (t : Table) (cs : List ℕ) (l : Ledger) (ms : List KeptMade) → Holds (sizes_of e) (coding_of e) t cs → TrueOf cs l → KeptHistory cs l ms → map seen_kept ms ≡ shows cs (asked_kept ms)
  unfolding KeptHistory
  history-kept t cs l [] k c h = unfold trace in refl
  history-kept t cs l (m ∷ ms) k c h =
      let a = meets-unaided t cs k l c m h.0 in
      let held : Holds (sizes_of e) (coding_of e) (step (coding_of e) t m.request).state m.after =
      subst (Holds (sizes_of e) (coding_of e) (step (coding_of e) t m.request).state) (sym a.2) (state-holds e known t cs m.request k) in
      let here : TrueOf m.after l = subst (λ (ds : List ℕ). TrueOf ds l) (sym a.2) (still-true t cs k l c m.request) in
      let next : TrueOf m.after m.ledger = subst (TrueOf m.after) (sym h.0.1) (left-true m.after l m.aid here) in
      made-shown cs m.request m.reply m.out m.after (asked_kept ms) (map seen_kept ms) a (history-kept (step (coding_of e) t m.request).state m.after m.ledger ms held next h.1)

pub blank-true : BlankTrue
blank-true cs lasts slots = blank-complete (nodes_of cs).at (nodes_of cs).nodes lasts slots

pub kept_same : KeptSame
kept_same e n f a s qs d l =
    let k = fresh_in e n f a s d in
    rw k.2 (λ c q. same_kept e k.0 (left (step (coding_of e)) (fresh n f a) qs) (left space_step (fresh_space (sizes_of e) n f a s) qs) (calls-held e n f a s qs k.0 k.1) l c q)

pub kept-short : KeptShort
kept-short e n f a s qs d l =
    let k = fresh_in e n f a s d in
    rw k.2 (λ c. short-kept e k.0 (left (step (coding_of e)) (fresh n f a) qs) (left space_step (fresh_space (sizes_of e) n f a s) qs) (calls-held e n f a s qs k.0 k.1) l c)

pub kept_whole : KeptWhole
kept_whole cs w l c q =
    let k = whole-known cs w in
    same_kept (edition_of cs) k.0 (table_of cs) cs (space-holds (edition_of cs) k.0 cs k.1.0 k.1.1 w) l c q

pub kept-histories : KeptHistories
kept-histories e n f a s lasts slots ms d h =
    let k = fresh_in e n f a s d in
    let first : KeptHistory (fresh_space (sizes_of e) n f a s) (blank_ledger lasts slots) ms = subst (λ (cs : List ℕ). KeptHistory cs (blank_ledger lasts slots) ms) k.2 h in
    rw k.2 (history-kept e k.0 (fresh n f a) (fresh_space (sizes_of e) n f a s) (blank_ledger lasts slots) ms (fresh-held e k.0 n f a s k.1) (blank-true (fresh_space (sizes_of e) n f a s) lasts slots) first)
    ∙ promise e n f a s (asked_kept ms) d

pub kept-onwards : KeptOnwards
kept-onwards cs l ms w c h =
    let k = whole-known cs w in
    history-kept (edition_of cs) k.0 (table_of cs) cs l ms (space-holds (edition_of cs) k.0 cs k.1.0 k.1.1 w) c h

-- the calls of the library itself
pub kept-lived : KeptLived
unfolding KeptHistory
kept-lived cs l [] = ([], tt, refl)
kept-lived cs l (q ∷ qs) =
    let r = space_step_by (way_by cs l q.aid) cs q.request in
    let m : KeptMade = record { request = q.request; aid = q.aid; reply = r.reply; out = r.out; after = r.state; ledger = ledger_left l q.aid r.state } in
    let o = kept-lived r.state m.ledger qs in
    (m ∷ o.0, (((refl, refl, refl), refl), o.1), ap (λ (ps : List Aided). q ∷ ps) o.2)

-- ---- on any cells with a sound header, damaged or not: a ledger that was caught up before a change and is caught up again
-- after it is the ledger caught up after it, so code may do both

module _ (e : ℕ) (known : known_edition e ≡ true) where
  nodes-read : (cs : List ℕ) (h : Head) → header_of (sizes_of e) cs ≡ Ok h → nodes_of cs ≡ subgoal_trie (view_of (sizes_of e) cs h)
  unfolding nodes_under
  nodes-read cs h s =
      let a = header-any e known cs h s in
      rw a.0 (ap (λ (i : ℕ). subgoal_trie (view_of (sizes_of i) cs h)) a.1)

  ledger-read : (cs : List ℕ) (h : Head) → header_of (sizes_of e) cs ≡ Ok h → (l : Ledger) → ledger_of cs l ≡ caught_up (node_in (sizes_of e) cs) h.nodes l
  ledger-read cs h s l = ap (λ (t : Trie). caught_up t.at t.nodes l) (nodes-read cs h s)

  pub ledger-again : (cs : List ℕ) (h : Head) (d : Decision) → header_of (sizes_of e) cs ≡ Ok h → Fits (view_of (sizes_of e) cs h) d → (l : Ledger)
      → ledger_of (change (sizes_of e) cs h d) (ledger_of cs l) ≡ ledger_of (change (sizes_of e) cs h d) l
  ledger-again cs h d s f l =
      let z = sizes_of e in
      let c = cells-change z (sizes-wide e) cs h d s f in
      let g = alike-grown (view_of z cs h) (changed_view (view_of z cs h) d) (view_of z (change z cs h d) c.0) c.2 (changed-grown (view_of z cs h) f) in
      ap (ledger_of (change z cs h d)) (ledger-read cs h s l)
      ∙ ledger-read (change z cs h d) c.0 c.1 (caught_up (node_in z cs) h.nodes l)
      ∙ caught-again (node_in z cs) h.nodes (node_in z (change z cs h d)) c.0.nodes g l
      ∙ sym (ledger-read (change z cs h d) c.0 c.1 l)
