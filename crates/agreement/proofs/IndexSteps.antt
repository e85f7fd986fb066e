-- With any index a call on cells that hold a table is the call without, and so is every list of calls. All of it is shown of
-- any way of finding a child that ends as the chains do; the index comes in last.
use Rattle.std.specs.Prelude.{Ok}
use mathlib.Core.Path.{◌≡◌, refl, sym, ap, ◌∙◌, subst}
use mathlib.Core.Bool.{true}
use mathlib.Core.List.{List, [], ◌∷◌}
use Prim.Native.Nat.{ℕ}
use native.Mathlib.Omega.{arith}
use Rattle.basis.specs.Editions.{known_edition}
use Rattle.plain.specs.Coding.{Coding, coding_of}
use Rattle.plain.specs.CodingLaws.{CodingLaws}
use Rattle.plain.specs.Requests.{Request, Result, Seen, trace, left}
use Rattle.plain.specs.Table.{Table, fresh, step}
use Rattle.plain.proofs.StoredCoding.{coding-laws}
use Rattle.space.specs.Layout.{Sizes, sizes_of, node_in}
use Rattle.space.specs.Heading.{header_of}
use Rattle.space.specs.Fresh.{fresh_answer, fresh_space}
use Rattle.space.specs.declared.Head.{Head}
use Rattle.trie.specs.Walks.{Finding}
use Rattle.trie.specs.Turns.{lookup_first}
use Rattle.trie.proofs.IndexLaws.{AsChains, indexes-as-chains}
use Rattle.trie.proofs.TurnsLaws.{lookups-as-chains}
use Rattle.store.specs.Views.{View, view_of}
use Rattle.store.specs.Calls.{under, under_by, under_any_by, space_step, space_step_by, used_nodes, indexed_way, indexed_step, counted_cells}
use Rattle.store.proofs.FindingLaws as finding
use Rattle.store.proofs.FindingLaws.{decide-alike}
use Rattle.agreement.specs.Indexed.{Indexed, requests, indexed_trace, IndexedPromise, IndexedSame, LookupFirstSame, Unindexed}
use Rattle.agreement.proofs.SameRecords.{Same, call-as-chains, answer-as-chains}
use Rattle.agreement.proofs.CellChanges.{sizes-wide}
use Rattle.agreement.proofs.Holding.{Cells, Holds}
use Rattle.agreement.proofs.Steps.{step-answers}
use Rattle.agreement.proofs.Following.{left-related, step-state, fresh_holds}
use Rattle.agreement.proofs.Theorem.{cells-hold, header-any, deciding, fresh_in, promise}

-- ---- a call on the cells

module _ (z : Sizes) (c : Coding) (cells : Cells z) (laws : CodingLaws c) (find : Finding) where
  pub under_alike : (t : Table) (cs : List ℕ) (h : Head) → AsChains (node_in z cs) h.nodes find → header_of z cs ≡ Ok h → Same c t (view_of z cs h) → (q : Request) → under_by find z c cs q (Ok h) ≡ under z c cs q (Ok h)
  unfolding under_by
  under_alike t cs h as-chains e S q =
      let v : View = view_of z cs h in
      rw (
        decide-alike c find v (call-as-chains c laws t v S find as-chains) (λ s low high w. answer-as-chains c laws t v S s low (omega (arith, S.subgoals)) find as-chains w) q,
        (step-answers z c cells laws t cs h e S q).change-same find as-chains,
      )

module _ (e : ℕ) (known : known_edition e ≡ true) where
  abbrev pub cells_in : Cells (sizes_of e)
  cells_in = cells-hold (sizes_of e) (sizes-wide e)

  -- by any way of finding a child that ends as the chains do
  pub step-alike : (find : Finding) (t : Table) (cs : List ℕ) (k : Holds (sizes_of e) (coding_of e) t cs) → AsChains (node_in (sizes_of e) cs) k.head.nodes find → (q : Request) → space_step_by find cs q ≡ space_step cs q
  unfolding space_step_by under_any_by
  step-alike find t cs k as-chains q =
      let a = header-any e known cs k.head k.sound in
      rw a.0 (subst (λ (i : ℕ). under_by find (sizes_of i) (coding_of i) cs q (Ok k.head) ≡ under (sizes_of i) (coding_of i) cs q (Ok k.head)) (sym a.1)
      (under_alike (sizes_of e) (coding_of e) cells_in (coding-laws e) find t cs k.head as-chains k.sound k.same q))

  pub step-indexed : (t : Table) (cs : List ℕ) → Holds (sizes_of e) (coding_of e) t cs → (index : List ℕ) (q : Request) → indexed_step index cs q ≡ space_step cs q
  step-indexed t cs k index q = step-alike (indexed_way index cs) t cs k (indexes-as-chains index (used_nodes cs) (node_in (sizes_of e) cs) k.head.nodes) q

  pub step-lookup : (t : Table) (cs : List ℕ) → Holds (sizes_of e) (coding_of e) t cs → (index : List ℕ) (q : Request) → indexed_step index cs q ≡ space_step_by (lookup_first index) cs q
  step-lookup t cs k index q = step-indexed t cs k index q ∙ sym (step-alike (lookup_first index) t cs k (lookups-as-chains index (node_in (sizes_of e) cs) k.head.nodes) q)

  pub state-holds : (t : Table) (cs : List ℕ) (q : Request) → Holds (sizes_of e) (coding_of e) t cs → Holds (sizes_of e) (coding_of e) (step (coding_of e) t q).state (space_step cs q).state
  state-holds = step-state (sizes_of e) (coding_of e) cells_in (coding-laws e) space_step (deciding e known)

  -- what is seen of a call
  abbrev seen : Result (List ℕ) → Seen
  seen r = record { reply = r.reply; counted = counted_cells r.state; out = r.out }

  pub trace-indexed : (t : Table) (cs : List ℕ) → Holds (sizes_of e) (coding_of e) t cs → (qs : List Indexed) → indexed_trace cs qs ≡ trace space_step counted_cells cs (requests qs)
  unfolding indexed_trace trace
  trace-indexed t cs k [] = refl
  trace-indexed t cs k (q ∷ qs) =
      ap (λ (r : Result (List ℕ)). seen r ∷ indexed_trace r.state qs) (step-indexed t cs k q.index q.request)
      ∙ ap (λ (xs : List Seen). seen (space_step cs q.request) ∷ xs) (trace-indexed (step (coding_of e) t q.request).state (space_step cs q.request).state (state-holds t cs q.request k) qs)

  pub fresh-held : (n f a : ℕ) (s : List ℕ) → fresh_answer (sizes_of e) n f a s ≡ Ok tt → Holds (sizes_of e) (coding_of e) (fresh n f a) (fresh_space (sizes_of e) n f a s)
  fresh-held n f a s d = fresh_holds (sizes_of e) (coding_of e) cells_in (coding-laws e) space_step (deciding e known) n f a s d

-- the cells that calls leave of a fresh space hold the table that they leave of a fresh one
pub calls-held : (e n f a : ℕ) (s : List ℕ) (qs : List Request) → known_edition e ≡ true → fresh_answer (sizes_of e) n f a s ≡ Ok tt
    → Holds (sizes_of e) (coding_of e) (left (step (coding_of e)) (fresh n f a) qs) (left space_step (fresh_space (sizes_of e) n f a s) qs)
calls-held e n f a s qs known d =
    left-related (step (coding_of e)) space_step (Holds (sizes_of e) (coding_of e)) (state-holds e known) qs (fresh n f a) (fresh_space (sizes_of e) n f a s) (fresh-held e known n f a s d)

pub indexed-same : IndexedSame
indexed-same e n f a s qs d index q =
    let k = fresh_in e n f a s d in
    rw k.2 (step-indexed e k.0 (left (step (coding_of e)) (fresh n f a) qs) (left space_step (fresh_space (sizes_of e) n f a s) qs) (calls-held e n f a s qs k.0 k.1) index q)

pub lookup-first-same : LookupFirstSame
lookup-first-same e n f a s qs d index q =
    let k = fresh_in e n f a s d in
    rw k.2 (step-lookup e k.0 (left (step (coding_of e)) (fresh n f a) qs) (left space_step (fresh_space (sizes_of e) n f a s) qs) (calls-held e n f a s qs k.0 k.1) index q)

pub indexed-promise : IndexedPromise
indexed-promise e n f a s qs d =
    let k = fresh_in e n f a s d in
    rw k.2 (trace-indexed e k.0 (fresh n f a) (fresh_space (sizes_of e) n f a s) (fresh-held e k.0 n f a s k.1) qs)
    ∙ promise e n f a s (requests qs) d

pub unindexed : Unindexed
unindexed = finding.unindexed
