-- What growing a table in its place promises: every record stays under its number, on every space with a sound header,
-- damaged ones too; and a space that passes the check goes on as its table does with the new capacities.
use Rattle.basis.specs.declared.refusals.Refusal.{Refusal}
use Rattle.basis.specs.declared.refusals.Refusal.TheVariants as refusal
use Rattle.std.specs.Prelude.{ℕ, ◌≤◌, ◌<◌, ◌≡◌, true, List, [], ◌∷◌, map, length, get_or, Err, Ok}
use Rattle.basis.specs.Choice.{pick}
use Rattle.plain.specs.Coding.{Coding, coding_of}
use Rattle.plain.specs.Requests.{Request, Reply, Result, Seen, trace, left}
use Rattle.plain.specs.Consequences.{RefusedBy}
use Rattle.plain.specs.Table.{Table, fresh, step, table_trace}
use Rattle.space.specs.Layout.{sizes_of, end_offset}
use Rattle.space.specs.Heading.{space_header}
use Rattle.space.specs.Fresh.{fresh_answer_in, fresh_space_in}
use Rattle.space.specs.declared.Head.{Head}
use Rattle.store.specs.Views.{View, view_of}
use Rattle.store.specs.Calls.{space_step, counted_cells}
use Rattle.agreement.specs.Records.{Alike, fresh_view}
use Rattle.agreement.specs.Whole.{whole_space, table_of, edition_of}
use Rattle.agreement.specs.History.{Made, History, asked, seen_of}
use Rattle.carrying.specs.Carrying.{holdable}
use Rattle.carrying.specs.Copying.{where_fresh}
use Rattle.carrying.specs.Promises.{Says}
use Rattle.growing.specs.Growing.{grow_reply, grow_space}

-- a table, and a view of records, with other capacities
abbrev pub resized : (n f a : ℕ) → Table → Table
resized n f a t = record { N = n; F = f; A = a; subgoals = t.subgoals; answers = t.answers }

abbrev pub resized_view : (n f a : ℕ) → View → View
resized_view n f a v = record {
  N = n;
  F = f;
  A = a;
  nodes = v.nodes;
  subgoals = v.subgoals;
  answers = v.answers;
  node = v.node;
  subgoal = v.subgoal;
  answer = v.answer;
}

-- ---- every space with a sound header

module _ (n f a : ℕ) (cs : List ℕ) where
  abbrev pub Grown : Type 0
  Grown = grow_reply n f a cs ≡ Ok tt

  -- what its records are under a head
  abbrev pub view_before : Head → View
  view_before h = view_of (sizes_of h.edition) cs h

  abbrev pub view_after : Head → View
  view_after h = view_of (sizes_of h.edition) (grow_space n f a cs) h

-- the header is sound afterwards, with the new capacities and the same edition and counts; the records within the
-- counts are as before; those beyond them are as in a fresh space
abbrev pub GrownView : Type 0
GrownView = (n f a : ℕ) (cs : List ℕ) (h : Head) → space_header cs ≡ Ok h → Grown n f a cs
    → (g : Head) × (space_header (grow_space n f a cs) ≡ Ok g) × (g.edition ≡ h.edition)
    × Alike (view_after n f a cs g) (resized_view n f a (view_before n f a cs h))

pub record FreeAsFresh (n f a : ℕ) (cs : List ℕ) (g : Head) : Type 0 where
  pub nodes-free : (i : ℕ) → g.nodes ≤ i → i < n → (view_after n f a cs g).node i ≡ (fresh_view n f a).node i
  pub subgoals-free : (s : ℕ) → g.subgoals < s → s ≤ f
      → (view_after n f a cs g).subgoal s ≡ (fresh_view n f a).subgoal s
  pub answers-free : (b : ℕ) → g.answers < b → b ≤ a → (view_after n f a cs g).answer b ≡ (fresh_view n f a).answer b

abbrev pub GrownFree : Type 0
GrownFree = (n f a : ℕ) (cs : List ℕ) (g : Head) → Grown n f a cs
    → space_header (grow_space n f a cs) ≡ Ok g → FreeAsFresh n f a cs g

-- the length stays, and every cell past the new end
abbrev pub GrownFrame : Type 0
GrownFrame = (n f a : ℕ) (cs : List ℕ) (h : Head) → space_header cs ≡ Ok h → Grown n f a cs
    → (let after = grow_space n f a cs in
    (length after ≡ length cs)
    × ((k : ℕ) → end_offset (sizes_of h.edition) n f a ≤ k → get_or after k 0 ≡ get_or cs k 0))

abbrev pub GrowRefused : Type 0
GrowRefused = (n f a : ℕ) (k : Refusal) (cs : List ℕ) → grow_reply n f a cs ≡ Err k → grow_space n f a cs ≡ cs

-- ---- a space that passes the check

-- it is refused by 2 and 19 alone, as the plain rule says
abbrev pub GrowAnswers : Type 0
GrowAnswers = (n f a : ℕ) (cs : List ℕ) → whole_space cs ≡ true
    → grow_reply n f a cs
    ≡ where_fresh (fresh_answer_in (edition_of cs) n f a cs)
    (pick (holdable (resized n f a (table_of cs))) (Ok tt) (Err refusal.Capacity))

-- it passes afterwards, and says its table with the new capacities
abbrev pub GrowPasses : Type 0
GrowPasses = (n f a : ℕ) (cs : List ℕ) → whole_space cs ≡ true → Grown n f a cs
    → Says (edition_of cs) (resized n f a (table_of cs)) (grow_space n f a cs)

-- every list of calls on it shows what that table shows
abbrev pub GrowGoesOn : Type 0
GrowGoesOn = (n f a : ℕ) (cs : List ℕ) (qs : List Request) → whole_space cs ≡ true → Grown n f a cs
    → trace space_step counted_cells (grow_space n f a cs) qs
    ≡ table_trace (coding_of (edition_of cs)) (resized n f a (table_of cs)) qs

-- and so does every history of calls that meet their contracts, with an index or without
abbrev pub GrowHistories : Type 0
GrowHistories = (n f a : ℕ) (cs : List ℕ) (ms : List Made) → whole_space cs ≡ true → Grown n f a cs
    → History (grow_space n f a cs) ms
    → map seen_of ms ≡ table_trace (coding_of (edition_of cs)) (resized n f a (table_of cs)) (asked ms)

-- what calls made of a fresh space is such a space
abbrev pub GrowOfCalls : Type 0
GrowOfCalls = (e m g b : ℕ) (cs : List ℕ) (qs : List Request) → fresh_answer_in e m g b cs ≡ Ok tt → (n f a : ℕ)
    → (let space = left space_step (fresh_space_in e m g b cs) qs in
    let t = left (step (coding_of e)) (fresh m g b) qs in
    Grown n f a space → Says e (resized n f a t) (grow_space n f a space))

-- all of it
pub record GrowPromises : Type 0 where
  pub view : GrownView
  pub free : GrownFree
  pub frame : GrownFrame
  pub refuses : GrowRefused
  pub answers : GrowAnswers
  pub passes : GrowPasses
  pub goes_on : GrowGoesOn
  pub histories : GrowHistories
  pub of_calls : GrowOfCalls

-- ---- a larger plain table

-- not refused for want of room
abbrev pub HadRoom : Reply → Type 0
HadRoom r = (RefusedBy 10 r → ⊥) × (RefusedBy 11 r → ⊥)

-- what is left, with other capacities
abbrev pub resized_result : (n f a : ℕ) → Result Table → Result Table
resized_result n f a r = record { reply = r.reply; out = r.out; state = resized n f a r.state }

module _ (c : Coding) (n f a : ℕ) where
  -- a call that had room leaves the same of a larger table: reply, out, subgoals and answers
  abbrev pub LargerAccepts : Type 0
  LargerAccepts = (t : Table) (q : Request) → t.N ≤ n → t.F ≤ f → t.A ≤ a
      → HadRoom (step c t q).reply
      → step c (resized n f a t) q ≡ resized_result n f a (step c t q)

  unfoldable pub AllHadRoom : List Seen → Type 0
  AllHadRoom [] = Unit {0}
  AllHadRoom (x ∷ xs) = HadRoom x.reply × AllHadRoom xs

  -- and a list of such calls shows the same
  abbrev pub LargerShows : Type 0
  LargerShows = (t : Table) (qs : List Request) → t.N ≤ n → t.F ≤ f → t.A ≤ a
      → AllHadRoom (table_trace c t qs)
      → (table_trace c (resized n f a t) qs ≡ table_trace c t qs)
      × (left (step c) (resized n f a t) qs ≡ resized n f a (left (step c) t qs))
