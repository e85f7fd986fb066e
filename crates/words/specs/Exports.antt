-- What the contracts of the C exports come to together: exports called one after another, each meeting its contract,
-- with an index of any cells or without, show what the plain table shows, in result words. And what word 0 of
-- `tables_fresh`, of `tables_check` and of `tables_carry` means.
use Rattle.std.specs.Prelude.{ℕ, true, ◌≡◌, Ok}
use mathlib.Core.List.{List, [], ◌∷◌, map, zip_with}
use Rattle.plain.specs.Coding.{coding_of}
use Rattle.plain.specs.Requests.{Request, counts, why, detours, Counts, Seen}
use Rattle.plain.specs.Table.{table_trace, edition_trace}
use Rattle.space.specs.Fresh.{fresh_answer_in}
use Rattle.store.specs.Calls.{counted_cells}
use Rattle.agreement.specs.History.{Beside, way_of}
use Rattle.agreement.specs.Whole.{whole_space, table_of, edition_of}
use Rattle.carrying.specs.Recoding.{widening}
use Rattle.carrying.specs.Carrying.{carried}
use Rattle.carrying.specs.Copying.{carry_reply}
use Rattle.words.specs.Words.{word, counts_reply, counts_out, ReturnsBy, ReturnsCounts, ReturnsFresh, ReturnsCheck}
use Rattle.words.specs.Words.{ReturnsCarry}
use Rattle.words.specs.Why.{why_reply, why_out, ReturnsWhyBy}
use Rattle.words.specs.Detours.{detours_reply, detours_out, ReturnsDetours}

-- ---- exports one after another

-- an export with all that is lent to it: a call with what it is lent beside the space, `tables_counts` with an out,
-- `tables_why` with a term, an out, and what it is lent beside, or `tables_detours` with its goals and an out
pub data Export : Type 0 where
  call_of : Request → Beside → Export
  counts_into : List ℕ → Export
  why_into : List ℕ → List ℕ → Beside → Export
  detours_into : (goals : List ℕ) (budget : ℕ) → List ℕ → Export

abbrev pub request_of : Export → Request
request_of (call_of q b) = q
request_of (counts_into room) = counts
request_of (why_into term room b) = why term
request_of (detours_into gs budget room) = detours gs budget

-- an export that was called: the word that it returned, what it left in out, and the cells after it
pub record ExportMade : Type 0 where
  pub export : Export
  pub result : ℕ
  pub out : List ℕ
  pub after : List ℕ

-- it meets its contract on the cells `before`; the last three only read them
abbrev pub MeetsExport : List ℕ → Export → ℕ → List ℕ → List ℕ → Type 0
MeetsExport before (call_of q b) w out after = ReturnsBy (way_of before b) before q w out after
MeetsExport before (counts_into room) w out after = ReturnsCounts before w room out × (after ≡ before)
MeetsExport before (why_into term room b) w out after =
    ReturnsWhyBy (way_of before b) before term w room out × (after ≡ before)
MeetsExport before (detours_into gs budget room) w out after =
    ReturnsDetours before gs budget w room out × (after ≡ before)

-- each does, on the cells that the one before it left
unfoldable pub Exports : List ℕ → List ExportMade → Type 0
Exports before [] = Unit {0}
Exports before (x ∷ xs) =
    MeetsExport before x.export x.result x.out x.after × Exports x.after xs

abbrev pub exports_of : List ExportMade → List Export
exports_of xs = map (λ x. x.export) xs

abbrev pub requests_of : List ExportMade → List Request
requests_of xs = map (λ x. request_of x.export) xs

-- what a C program sees of it: the word, the three counts in the header, and out
pub record SeenWord : Type 0 where
  pub result : ℕ
  pub counted : Counts
  pub out : List ℕ

abbrev pub seen_export : ExportMade → SeenWord
seen_export x = record { result = x.result; counted = counted_cells x.after; out = x.out }

-- the same of what the plain table shows
abbrev pub seen_as : Export → Seen → SeenWord
seen_as (call_of q b) s = record { result = word s.reply; counted = s.counted; out = s.out }
seen_as (counts_into room) s =
    record { result = word (counts_reply s.reply room); counted = s.counted; out = counts_out s.reply room }
seen_as (why_into term room b) s =
    record { result = word (why_reply s.reply room); counted = s.counted; out = why_out s.reply room }
seen_as (detours_into gs budget room) s =
    record { result = word (detours_reply s.reply room); counted = s.counted; out = detours_out s.reply room }

-- on every space for which `tables_fresh` returned 0, in every edition that it takes
abbrev pub ExportHistories : Type 0
ExportHistories =
    (e n f a : ℕ) (before space : List ℕ) (xs : List ExportMade) → ReturnsFresh e n f a before 0 space
    → Exports space xs
    → map seen_export xs ≡ zip_with seen_as (exports_of xs) (edition_trace e n f a (requests_of xs))

-- and on every space for which `tables_check` returned 0, whoever wrote it: the table is the one that it says
abbrev pub WholeExportHistories : Type 0
WholeExportHistories =
    (space : List ℕ) (xs : List ExportMade) → ReturnsCheck space 0 → Exports space xs
    → map seen_export xs
    ≡ zip_with seen_as (exports_of xs) (table_trace (coding_of (edition_of space)) (table_of space) (requests_of xs))

-- and on every target for which `tables_carry` returned 0: the table is the one that loads from the source, with the
-- new payloads and capacities
abbrev pub CarriedExportHistories : Type 0
CarriedExportHistories =
    (n f a : ℕ) (source before space : List ℕ) (xs : List ExportMade) → ReturnsCarry n f a source before 0 space
    → Exports space xs
    → map seen_export xs
    ≡ zip_with seen_as (exports_of xs)
    (table_trace (coding_of 2) (carried widening n f a (table_of source)) (requests_of xs))

-- every list of exports has one
abbrev pub ExportsLived : Type 0
ExportsLived = (before : List ℕ) (xs : List Export) → (ms : List ExportMade) × Exports before ms × (exports_of ms ≡ xs)

-- ---- word 0

-- fresh answered done
abbrev pub FreshZero : Type 0
FreshZero =
    (e n f a : ℕ) (before : List ℕ) (w : ℕ) (after : List ℕ) → ReturnsFresh e n f a before w after
    → (w ≡ 0 → fresh_answer_in e n f a before ≡ Ok tt) × (fresh_answer_in e n f a before ≡ Ok tt → w ≡ 0)

-- nothing is broken: the space passes
abbrev pub CheckZero : Type 0
CheckZero =
    (space : List ℕ) (w : ℕ) → ReturnsCheck space w
    → (w ≡ 0 → whole_space space ≡ true) × (whole_space space ≡ true → w ≡ 0)

-- the copy answered done
abbrev pub CarryZero : Type 0
CarryZero =
    (n f a : ℕ) (source before : List ℕ) (w : ℕ) (after : List ℕ) → ReturnsCarry n f a source before w after
    → (w ≡ 0 → carry_reply n f a source before ≡ Ok tt) × (carry_reply n f a source before ≡ Ok tt → w ≡ 0)
