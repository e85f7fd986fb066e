-- What a copy promises, for every source, sound or damaged, and every target: afterwards the target answers every list
-- of calls as the table does that loads from the source, with the new payloads and capacities.
use Rattle.basis.specs.declared.refusals.Refusal.{Refusal}
use Rattle.std.specs.Prelude.{ℕ, ◌≤◌, ◌<◌, ◌≡◌, true, List, map, length, get_or, drop, Err, Ok}
use Rattle.forms.specs.Stored.{stores_pairs}
use Rattle.plain.specs.Coding.{predicate, coding_of}
use Rattle.plain.specs.Requests.{Request, next, trace, left}
use Rattle.plain.specs.Table.{Table, fresh, subgoal_at, nodes, step, table_trace}
use Rattle.space.specs.Layout.{sizes_of, end_offset}
use Rattle.space.specs.Fresh.{fresh_answer_in, fresh_space_in}
use Rattle.store.specs.Calls.{space_step, counted_cells}
use Rattle.agreement.specs.Whole.{whole_space, table_of, edition_of}
use Rattle.agreement.specs.History.{Made, History, asked, seen_of}
use Rattle.carrying.specs.Recoding.{Recoding, unchanged, widening, recoding_of}
use Rattle.carrying.specs.Carrying.{carried, takes_table, carrying}
use Rattle.carrying.specs.Copying.{where_fresh, copy_reply, copy_space}

-- every subgoal is a term to call: its form begins with an atom or a functor
abbrev pub AllCallable : Table → Type 0
AllCallable t = (s : ℕ) → 0 < s → s ≤ length t.subgoals → predicate (subgoal_at t s).form ≡ true

-- a space of edition d that passes the check and says the table
abbrev pub Says : ℕ → Table → List ℕ → Type 0
Says d t cs = (whole_space cs ≡ true) × (table_of cs ≡ t) × (edition_of cs ≡ d)

-- for every source, sound or damaged, every content of the target, and all capacities
module _ (e d : ℕ) (r : Recoding) where
  abbrev pub Copied : ℕ → ℕ → ℕ → List ℕ → List ℕ → Type 0
  Copied n f a source target = copy_reply e d r n f a source target ≡ Ok tt

  -- the plain table that is due afterwards
  abbrev pub due : ℕ → ℕ → ℕ → List ℕ → Table
  due n f a source = carried r n f a (table_of source)

  -- afterwards every list of calls answers as the table that loads from the source does, carried over
  abbrev pub CopyGoesOn : Type 0
  CopyGoesOn = (n f a : ℕ) (source target : List ℕ) (qs : List Request) → Copied n f a source target
      → trace space_step counted_cells (copy_space e d r n f a source target) qs
      ≡ table_trace (coding_of d) (due n f a source) qs

  -- and so does every history of calls that meet their contracts, with an index or without
  abbrev pub CopyHistories : Type 0
  CopyHistories = (n f a : ℕ) (source target : List ℕ) (ms : List Made) → Copied n f a source target
      → History (copy_space e d r n f a source target) ms
      → map seen_of ms ≡ table_trace (coding_of d) (due n f a source) (asked ms)

  -- it leaves a space that passes the check and says that table, unless a subgoal that loads is no term to call, which
  -- the check does not pass
  abbrev pub CopyBuilds : Type 0
  CopyBuilds = (n f a : ℕ) (source target : List ℕ) → Copied n f a source target → AllCallable (table_of source)
      → Says d (due n f a source) (copy_space e d r n f a source target)

  -- refused, it leaves the target as it was
  abbrev pub CopyRefused : Type 0
  CopyRefused = (n f a : ℕ) (k : Refusal) (source target : List ℕ) → copy_reply e d r n f a source target ≡ Err k
      → copy_space e d r n f a source target ≡ target

  -- what the target held up to its new end has no part in what it holds afterwards
  abbrev pub CopyOblivious : Type 0
  CopyOblivious = (n f a : ℕ) (source target other : List ℕ)
      → Copied n f a source target → Copied n f a source other
      → (let end = end_offset (sizes_of d) n f a in drop end target ≡ drop end other)
      → copy_space e d r n f a source target ≡ copy_space e d r n f a source other

  -- done or refused, every cell past that end stays
  abbrev pub CopyFrames : Type 0
  CopyFrames = (n f a : ℕ) (source target : List ℕ)
      → (let after = copy_space e d r n f a source target in
      (length after ≡ length target)
      × ((k : ℕ) → end_offset (sizes_of d) n f a ≤ k → get_or after k 0 ≡ get_or target k 0))

  -- a source that passes the check is refused by 2, 18 and 19 alone, as the plain rule says
  abbrev pub CopyAnswers : Type 0
  CopyAnswers = (n f a : ℕ) (source target : List ℕ) → whole_space source ≡ true → edition_of source ≡ e
      → copy_reply e d r n f a source target
      ≡ where_fresh (fresh_answer_in d n f a target) (carrying r n f a (table_of source))

  abbrev pub CopyPasses : Type 0
  CopyPasses = (n f a : ℕ) (source target : List ℕ) → whole_space source ≡ true → Copied n f a source target
      → Says d (due n f a source) (copy_space e d r n f a source target)

  -- a consumer goes on from its last answer: next says the same on both
  abbrev pub CopyNext : Type 0
  CopyNext = (n f a : ℕ) (source target : List ℕ) (s i : ℕ) → whole_space source ≡ true
      → Copied n f a source target
      → (space_step (copy_space e d r n f a source target) (next s i)).reply ≡ (space_step source (next s i)).reply

  -- what calls made of a fresh space is such a source, and says the table that the same calls made
  abbrev pub CopyOfCalls : Type 0
  CopyOfCalls = (m g b : ℕ) (cs : List ℕ) (qs : List Request) → fresh_answer_in e m g b cs ≡ Ok tt
      → (n f a : ℕ) (target : List ℕ)
      → (let source = left space_step (fresh_space_in e m g b cs) qs in
      let t = left (step (coding_of e)) (fresh m g b) qs in
      (copy_reply e d r n f a source target ≡ where_fresh (fresh_answer_in d n f a target) (carrying r n f a t))
      × (Copied n f a source target → Says d (carried r n f a t) (copy_space e d r n f a source target)))

  -- the copy takes as many nodes as the table had
  abbrev pub CopyNodes : Type 0
  CopyNodes = (n f a : ℕ) (t : Table) → takes_table r t ≡ true → nodes (carried r n f a t) ≡ nodes t

  -- all of it
  pub record CopyPromises : Type 0 where
    pub goes_on : CopyGoesOn
    pub histories : CopyHistories
    pub builds : CopyBuilds
    pub refuses : CopyRefused
    pub oblivious : CopyOblivious
    pub answers : CopyAnswers
    pub passes : CopyPasses
    pub next-same : CopyNext
    pub of_calls : CopyOfCalls
    pub nodes-same : CopyNodes

-- Q-8
abbrev pub Carries : Type 0
Carries = CopyPromises 1 2 widening

-- between any two editions that store the same form, but back to edition 1
abbrev pub CarriesBetween : Type 0
CarriesBetween = (e d : ℕ) → (d ≡ 1 → e ≡ 1) → stores_pairs e ≡ stores_pairs d → CopyPromises e d (recoding_of e d)

-- a space of any edition into other capacities
abbrev pub Resizes : Type 0
Resizes = (e : ℕ) → CopyPromises e e unchanged
