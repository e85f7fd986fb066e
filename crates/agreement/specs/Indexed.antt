-- An index beside a space. Calls that are each lent an index of arbitrary cells do what they do without: on every
-- space that calls leave of a fresh one, and on every space that passes the check, so they answer as the plain table
-- does. After a build there the lookup alone gives every child of a node that has more than 8, and the search of a call
-- finds it in as many turns as the lookup takes slots (`TurnsAsSlots`, crates/trie/specs/Turns.antt).
use Rattle.std.specs.Prelude.{ℕ, ◌<◌, true, List, [], ◌∷◌, map, ◌≡◌, Ok}
use Rattle.plain.specs.Requests.{Request, Seen, trace, left}
use Rattle.plain.specs.Table.{edition_trace}
use Rattle.space.specs.Fresh.{fresh_answer_in, fresh_space_in}
use Rattle.trie.specs.Index.{lookup, enters}
use Rattle.trie.specs.Turns.{lookup_first}
use Rattle.store.specs.Calls.{space_step, space_step_by, indexed_step, counted_cells}
use Rattle.store.specs.Building.{built, refused, build_on, build_index, nodes_of}
use Rattle.agreement.specs.Whole.{whole_space}

-- the space that calls leave of a fresh one
abbrev pub space_after : (e n f a : ℕ) → List ℕ → List Request → List ℕ
space_after e n f a s qs = left space_step (fresh_space_in e n f a s) qs

-- ---- calls

-- every index gives the call the same reply, the same out and the same cells
abbrev pub IndexedSame : Type 0
IndexedSame =
    (e n f a : ℕ) (s : List ℕ) (qs : List Request) → fresh_answer_in e n f a s ≡ Ok tt
    → (index : List ℕ) (q : Request)
    → indexed_step index (space_after e n f a s qs) q ≡ space_step (space_after e n f a s qs) q

-- a call and the index that is lent to it
pub record Indexed : Type 0 where
  pub index : List ℕ
  pub request : Request

abbrev pub requests : List Indexed → List Request
requests qs = map (λ q. q.request) qs

-- what is seen of a list of such calls
unfoldable pub indexed_trace : List ℕ → List Indexed → List Seen
indexed_trace cs [] = []
indexed_trace cs (q ∷ qs) =
    let r = indexed_step q.index cs q.request in
    record { reply = r.reply; counted = counted_cells r.state; out = r.out } ∷ indexed_trace r.state qs

-- demand 3 of calls that are each lent any index
abbrev pub IndexedPromise : Type 0
IndexedPromise =
    (e n f a : ℕ) (s : List ℕ) (qs : List Indexed) → fresh_answer_in e n f a s ≡ Ok tt
    → indexed_trace (fresh_space_in e n f a s) qs ≡ edition_trace e n f a (requests qs)

-- the same from a space that passes the check, whoever wrote it
abbrev pub IndexedWhole : Type 0
IndexedWhole =
    (cs : List ℕ) (qs : List Indexed) → whole_space cs ≡ true
    → indexed_trace cs qs ≡ trace space_step counted_cells cs (requests qs)

-- a call that looks a child up first, to the lookup's end, and goes along the chain where that misses, answers the
-- same: the order of the document
abbrev pub LookupFirstSame : Type 0
LookupFirstSame =
    (e n f a : ℕ) (s : List ℕ) (qs : List Request) → fresh_answer_in e n f a s ≡ Ok tt
    → (index : List ℕ) (q : Request)
    → indexed_step index (space_after e n f a s qs) q ≡ space_step_by (lookup_first index) (space_after e n f a s qs) q

abbrev pub LookupFirstWhole : Type 0
LookupFirstWhole =
    (cs index : List ℕ) (q : Request) → whole_space cs ≡ true
    → indexed_step index cs q ≡ space_step_by (lookup_first index) cs q

-- an index of no cells is none, on any cells, sound or damaged
abbrev pub Unindexed : Type 0
Unindexed = (cs : List ℕ) (q : Request) → indexed_step [] cs q ≡ space_step cs q

-- ---- a build

-- no node is damaged: it is refused by 17 or not at all
abbrev pub Buildable : List ℕ → List ℕ → Type 0
Buildable cs index = build_index cs index ≡ build_on (nodes_of cs) index

-- unless it is refused, the lookup alone gives every child of a node that has more than 8
abbrev pub FoundAgain : List ℕ → List ℕ → Type 0
FoundAgain cs index =
    (k : ℕ) → (build_index cs index).reply ≡ built k
    → (let t = nodes_of cs in
    (x : ℕ) → x < t.nodes → enters t x ≡ true
    → lookup t (build_index cs index).index (t.at x).parent (t.at x).token ≡ x)

abbrev pub BuildAnswers : Type 0
BuildAnswers =
    (e n f a : ℕ) (s : List ℕ) (qs : List Request) → fresh_answer_in e n f a s ≡ Ok tt
    → (index : List ℕ) → Buildable (space_after e n f a s qs) index

abbrev pub BuildFinds : Type 0
BuildFinds =
    (e n f a : ℕ) (s : List ℕ) (qs : List Request) → fresh_answer_in e n f a s ≡ Ok tt
    → (index : List ℕ) → FoundAgain (space_after e n f a s qs) index

-- the same of a space that passes the check, whoever wrote it
abbrev pub BuildWhole : Type 0
BuildWhole = (cs index : List ℕ) → whole_space cs ≡ true → Buildable cs index × FoundAgain cs index

-- refused, it leaves the index as it was, whatever the cells
abbrev pub BuildRefused : Type 0
BuildRefused =
    (cs index : List ℕ) (r : ℕ) → (build_index cs index).reply ≡ refused r → (build_index cs index).index ≡ index
