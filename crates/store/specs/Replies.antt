-- What each answer of the code says: the number and values that the request's paper gives for each case.
use Rattle.std.specs.Prelude.{ℕ, ◌≤◌, List, ◌≡◌, length, take}
use Rattle.plain.specs.Requests.{State, Open, Finished, Reply, new, old_subgoal, old_answer, done, at}
use Rattle.plain.specs.Requests.{lacks_next, cells, used, joined, old_as, new_past, because, refused, short}
use Rattle.plain.specs.Requests.{none_found, found, detoured}
use Rattle.std.specs.Prelude.{Result, Ok, Err}
use Rattle.basis.specs.declared.refusals.Refusal.{Refusal}
use Rattle.basis.specs.Refusals.{number_of}
use Rattle.forms.specs.Converting.{Answer}
use Rattle.forms.specs.declared.Unwritten.{Unwritten}
use Rattle.forms.specs.declared.Unwritten.TheVariants as unwritten
use Rattle.store.specs.declared.State as declared-state
use Rattle.store.specs.declared.State.TheVariants as state
use Rattle.store.specs.declared.CallAnswer.{CallAnswer}
use Rattle.store.specs.declared.CallAnswer.TheVariants as call
use Rattle.store.specs.declared.Entry.{Entry}
use Rattle.store.specs.declared.Entry.TheVariants as entry
use Rattle.store.specs.declared.Next.{Next}
use Rattle.store.specs.declared.Next.TheVariants as next
use Rattle.store.specs.declared.Reason as declared-reason
use Rattle.store.specs.declared.Reason.TheVariants as reason
use Rattle.store.specs.declared.Why.{Why}
use Rattle.store.specs.declared.Counts.{Counts}
use Rattle.store.specs.declared.Outcome.{Outcome}
use Rattle.store.specs.declared.Outcome.TheVariants as outcome
use Rattle.store.specs.declared.Detour.{Detour}

abbrev pub said_state : declared-state.State → State
said_state state.Open = Open
said_state state.Finished = Finished

-- The refusal is of any type, each told by a number (`said_call_by` and the like); the calls give a `Refusal`
-- (`said_call` and the like).

abbrev pub said_call_by : {R : Type 0} → (R → ℕ) → CallAnswer R → Reply
said_call_by number (call.New n) = new n
said_call_by number (call.Old n s) = old_subgoal n (said_state s)
said_call_by number (call.Refused r) = refused (number r)

abbrev pub said_call : CallAnswer Refusal → Reply
said_call = said_call_by number_of

abbrev pub said_entry : Entry → Reply
said_entry (entry.New n) = new n
said_entry (entry.Old n) = old_answer n

abbrev pub said_answer_by : {R : Type 0} → (R → ℕ) → Result Entry R → Reply
said_answer_by number (Ok y) = said_entry y
said_answer_by number (Err r) = refused (number r)

abbrev pub said_answer : Result Entry Refusal → Reply
said_answer = said_answer_by number_of

abbrev pub said_finish_by : {R : Type 0} → (R → ℕ) → Result Unit R → Reply
said_finish_by number (Ok y) = done
said_finish_by number (Err r) = refused (number r)

abbrev pub said_finish : Result Unit Refusal → Reply
said_finish = said_finish_by number_of

abbrev pub said_onward : Next → Reply
said_onward (next.At n) = at n
said_onward (next.Lacking s) = lacks_next (said_state s)

abbrev pub said_next_by : {R : Type 0} → (R → ℕ) → Result Next R → Reply
said_next_by number (Ok y) = said_onward y
said_next_by number (Err r) = refused (number r)

abbrev pub said_next : Result Next Refusal → Reply
said_next = said_next_by number_of

-- so many answers are new
abbrev pub said_join_by : {R : Type 0} → (R → ℕ) → Result ℕ R → Reply
said_join_by number (Ok n) = joined n
said_join_by number (Err r) = refused (number r)

abbrev pub said_join : Result ℕ Refusal → Reply
said_join = said_join_by number_of

-- why a term is old or new; the variables are the first of some cells
abbrev pub said_because : declared-reason.Reason → List ℕ → Reply
said_because (reason.Old n k) vs = because (old_as n (take k vs))
said_because (reason.New k s) vs = because (new_past k s)

abbrev pub said_reason : Result declared-reason.Reason Refusal → List ℕ → Reply
said_reason (Ok y) vs = said_because y vs
said_reason (Err r) vs = refused (number_of r)

abbrev pub said_why_by : {R : Type 0} → (R → ℕ) → Result Why R → Reply
said_why_by number (Ok y) = said_because y.reason y.variables
said_why_by number (Err r) = refused (number r)

abbrev pub said_why : Result Why Refusal → Reply
said_why = said_why_by number_of

-- these cells have as many variables as the reason says, and no more than a term may have
abbrev pub NamesIn : List ℕ → declared-reason.Reason → Type 0
NamesIn vs (reason.Old n k) = (k ≤ length vs) × (k ≤ 32)
NamesIn vs (reason.New k s) = Unit {0}

abbrev pub NamedIn : List ℕ → Result declared-reason.Reason Refusal → Type 0
NamedIn vs (Ok y) = NamesIn vs y
NamedIn vs (Err r) = Unit {0}

-- the variables that why answers with are in cells for as many as a term may have
abbrev pub WhyNamesHeld : {R : Type 0} → Result Why R → Type 0
WhyNamesHeld (Ok y) = (length y.variables ≡ 32) × NamesIn y.variables y.reason
WhyNamesHeld (Err r) = Unit {0}

abbrev pub NamesHeld : Result Why Refusal → Type 0
NamesHeld = WhyNamesHeld

-- load and instance answer as the converters do
abbrev pub said_unwritten_by : {R : Type 0} → (R → ℕ) → Unwritten R → Reply
said_unwritten_by number (unwritten.Refused r) = refused (number r)
said_unwritten_by number (unwritten.Short n) = short n

abbrev pub said_unwritten : Unwritten Refusal → Reply
said_unwritten = said_unwritten_by number_of

abbrev pub said_cells_by : {R : Type 0} → (R → ℕ) → Result ℕ (Unwritten R) → Reply
said_cells_by number (Ok n) = cells n
said_cells_by number (Err e) = said_unwritten_by number e

abbrev pub said_cells : Answer → Reply
said_cells = said_cells_by number_of

abbrev pub said_counts : Result Counts Refusal → Reply
said_counts (Ok y) = used (record { nodes = y.nodes; subgoals = y.subgoals; answers = y.answers })
said_counts (Err r) = refused (number_of r)

-- a search for detours, by its outcome and the numbers of the answers
abbrev pub said_outcome : Outcome → List ℕ → Reply
said_outcome (outcome.Found total tried ended) ns =
    detoured (record { best = found total ns; tried = tried; ended = ended })
said_outcome (outcome.Nothing tried ended) ns = detoured (record { best = none_found; tried = tried; ended = ended })

abbrev pub said_detours_by : {R : Type 0} → (R → ℕ) → Result Detour R → Reply
said_detours_by number (Ok y) = said_outcome y.outcome (take y.count y.numbers)
said_detours_by number (Err r) = refused (number r)

abbrev pub said_detours : Result Detour Refusal → Reply
said_detours = said_detours_by number_of
