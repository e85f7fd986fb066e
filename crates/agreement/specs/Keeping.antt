-- A ledger beside a space. Calls that are each lent nothing, an index of any cells, or the ledger, in any order, do
-- what they do without, on every space that calls leave of a fresh one and on every space that passes the check: so
-- they answer as the plain table does. All that is asked of the ledger is that nothing else wrote it since it was
-- blank.
use Rattle.std.specs.Prelude.{ℕ, ◌*◌, ◌≤◌, true, List, [], ◌∷◌, map, ◌≡◌, length, Ok}
use Rattle.plain.specs.Requests.{Request, Reply, Seen, trace}
use Rattle.plain.specs.Table.{edition_trace}
use Rattle.space.specs.Fresh.{fresh_answer_in, fresh_space_in}
use Rattle.trie.specs.Siblings.{search_children}
use Rattle.trie.specs.Walks.{Finding}
use Rattle.trie.specs.Ledger.{Ledger, blank_ledger, ledger_capacity, usable, search_kept, trusted_kept, zeros, Complete}
use Rattle.store.specs.Building.{nodes_of}
use Rattle.store.specs.Calls.{space_step, space_step_by, AnswersBy, indexed_way, counted_cells}
use Rattle.store.specs.Keeping.{kept_step, ledger_of}
use Rattle.agreement.specs.Indexed.{space_after}
use Rattle.agreement.specs.Whole.{whole_space}

-- what a ledger says is true of a space
abbrev pub TrueOf : List ℕ → Ledger → Type 0
TrueOf cs k = Complete (nodes_of cs).at (nodes_of cs).nodes k

-- ---- one call

-- a call that is lent it is the call without, and leaves it true of the space that the call leaves; and what was true
-- of a space is true of it after any call, lent or not
pub record SameKept (cs : List ℕ) (k : Ledger) (q : Request) : Type 0 where
  pub same : kept_step k cs q ≡ space_step cs q
  pub again : TrueOf (kept_step k cs q).state (ledger_of (kept_step k cs q).state k)
  pub still : TrueOf (space_step cs q).state k

abbrev pub KeptSame : Type 0
KeptSame =
    (e n f a : ℕ) (s : List ℕ) (qs : List Request) → fresh_answer_in e n f a s ≡ Ok tt
    → (k : Ledger) → TrueOf (space_after e n f a s qs) k → (q : Request) → SameKept (space_after e n f a s qs) k q

-- the same on a space that passes the check, whoever wrote it
abbrev pub KeptWhole : Type 0
KeptWhole = (cs : List ℕ) → whole_space cs ≡ true → (k : Ledger) → TrueOf cs k → (q : Request) → SameKept cs k q

-- a blank one is true of every space, whatever its cells
abbrev pub BlankTrue : Type 0
BlankTrue = (cs : List ℕ) (lasts slots : ℕ) → TrueOf cs (blank_ledger lasts slots)

-- and with cells for every node no call goes along a sibling chain, beyond the first child: the ledger has every node,
-- more than half of its slots stay free, so that a probe ends, and its last children need no confirming
pub record ShortKept (cs : List ℕ) (k : Ledger) : Type 0 where
  pub trusted : (q : Request) → space_step_by (trusted_kept k) cs q ≡ space_step cs q
  pub every : (nodes_of cs).nodes ≤ ledger_capacity k → usable (nodes_of cs).nodes (ledger_of cs k) ≡ true
  pub free : (nodes_of cs).nodes ≤ ledger_capacity k → length (ledger_of cs k).slots ≤ 2 * zeros (ledger_of cs k).slots

abbrev pub KeptShort : Type 0
KeptShort =
    (e n f a : ℕ) (s : List ℕ) (qs : List Request) → fresh_answer_in e n f a s ≡ Ok tt
    → (k : Ledger) → TrueOf (space_after e n f a s qs) k → ShortKept (space_after e n f a s qs) k

-- ---- calls one after another

-- what a call that searches is lent beside the space: nothing, an index of any cells, or the ledger
pub data Aid : Type 0 where
  unaided : Aid
  indexed : List ℕ → Aid
  kept : Aid

-- how a call on the cells `before` finds a child
abbrev pub way_by : List ℕ → Ledger → Aid → Finding
way_by before k unaided = search_children
way_by before k (indexed cs) = indexed_way cs before
way_by before k kept = search_kept k

-- the ledger after a call that leaves these cells: only a call that is lent it writes it
abbrev pub ledger_left : Ledger → Aid → List ℕ → Ledger
ledger_left k unaided after = k
ledger_left k (indexed cs) after = k
ledger_left k kept after = ledger_of after k

-- a call and what it is lent
pub record Aided : Type 0 where
  pub request : Request
  pub aid : Aid

-- a call that was made: what it was lent, what it answered, what it left in out, and the cells and the ledger after it
pub record KeptMade : Type 0 where
  pub request : Request
  pub aid : Aid
  pub reply : Reply
  pub out : List ℕ
  pub after : List ℕ
  pub ledger : Ledger

-- a call on the cells `before` beside the ledger k meets its contract
abbrev pub MeetsKept : List ℕ → Ledger → KeptMade → Type 0
MeetsKept before k m =
    AnswersBy (way_by before k m.aid) before m.request m.reply m.out m.after
    × (m.ledger ≡ ledger_left k m.aid m.after)

-- each does, on the cells and beside the ledger that the one before it left
unfoldable pub KeptHistory : List ℕ → Ledger → List KeptMade → Type 0
KeptHistory before k [] = Unit {0}
KeptHistory before k (m ∷ ms) = MeetsKept before k m × KeptHistory m.after m.ledger ms

-- what was asked, and what is seen of it
abbrev pub asked_kept : List KeptMade → List Request
asked_kept ms = map (λ m. m.request) ms

abbrev pub seen_kept : KeptMade → Seen
seen_kept m = record { reply = m.reply; counted = counted_cells m.after; out = m.out }

-- demand 3: every history of a space for which fresh answered done, beside a ledger that was blank, of any size
abbrev pub KeptHistories : Type 0
KeptHistories =
    (e n f a : ℕ) (s : List ℕ) (lasts slots : ℕ) (ms : List KeptMade) → fresh_answer_in e n f a s ≡ Ok tt
    → KeptHistory (fresh_space_in e n f a s) (blank_ledger lasts slots) ms
    → map seen_kept ms ≡ edition_trace e n f a (asked_kept ms)

-- and of a space that passes the check, beside a ledger that is true of it, as a blank one is
abbrev pub KeptOnwards : Type 0
KeptOnwards =
    (cs : List ℕ) (k : Ledger) (ms : List KeptMade) → whole_space cs ≡ true → TrueOf cs k → KeptHistory cs k ms
    → map seen_kept ms ≡ trace space_step counted_cells cs (asked_kept ms)

-- every list of calls has one, whatever each is lent
abbrev pub KeptLived : Type 0
KeptLived = (before : List ℕ) (k : Ledger) (qs : List Aided)
    → (ms : List KeptMade) × KeptHistory before k ms
    × (map (λ m. record { request = m.request; aid = m.aid }) ms ≡ qs)
