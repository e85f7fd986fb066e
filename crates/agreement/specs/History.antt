-- What the contracts of the calls come to together: calls made one after another, each meeting its contract, with an
-- index of any cells or without, show what the plain table shows. A reader of the code needs nothing else of
-- `space_step`.
use Rattle.std.specs.Prelude.{ℕ, List, [], ◌∷◌, map, ◌≡◌, true, Ok}
use Rattle.plain.specs.Requests.{Request, Reply, Seen}
use Rattle.plain.specs.Coding.{coding_of}
use Rattle.plain.specs.Table.{table_trace, edition_trace}
use Rattle.space.specs.Fresh.{fresh_answer_in, fresh_space_in}
use Rattle.trie.specs.Siblings.{search_children}
use Rattle.trie.specs.Walks.{Finding}
use Rattle.store.specs.Calls.{AnswersBy, indexed_way, counted_cells}
use Rattle.agreement.specs.Whole.{whole_space, table_of, edition_of}

-- what a call that searches is lent beside the space: nothing, or an index, of any cells
pub data Beside : Type 0 where
  alone : Beside
  index : List ℕ → Beside

-- how a call on the cells `before` finds a child
abbrev pub way_of : List ℕ → Beside → Finding
way_of before alone = search_children
way_of before (index cs) = indexed_way cs before

-- a call and what it is lent
pub record Lent : Type 0 where
  pub request : Request
  pub beside : Beside

-- a call that was made: what it was lent, what it answered, what it left in out, and the cells after it
pub record Made : Type 0 where
  pub request : Request
  pub beside : Beside
  pub reply : Reply
  pub out : List ℕ
  pub after : List ℕ

-- a call on the cells `before` meets its contract
abbrev pub Meets : List ℕ → Made → Type 0
Meets before m = AnswersBy (way_of before m.beside) before m.request m.reply m.out m.after

-- each does, on the cells that the one before it left
unfoldable pub History : List ℕ → List Made → Type 0
History before [] = Unit {0}
History before (m ∷ ms) = Meets before m × History m.after ms

-- what was asked, and what is seen of it
abbrev pub asked : List Made → List Request
asked ms = map (λ m. m.request) ms

abbrev pub seen_of : Made → Seen
seen_of m = record { reply = m.reply; counted = counted_cells m.after; out = m.out }

-- every history of a space for which fresh answered done, in every edition that fresh takes
abbrev pub Histories : Type 0
Histories =
    (e n f a : ℕ) (s : List ℕ) (ms : List Made) → fresh_answer_in e n f a s ≡ Ok tt
    → History (fresh_space_in e n f a s) ms
    → map seen_of ms ≡ edition_trace e n f a (asked ms)

-- and every history of a space that passes the check, whoever wrote it: the table is the one that it says
abbrev pub WholeHistories : Type 0
WholeHistories =
    (cs : List ℕ) (ms : List Made) → whole_space cs ≡ true → History cs ms
    → map seen_of ms ≡ table_trace (coding_of (edition_of cs)) (table_of cs) (asked ms)

-- and every list of calls has one, whatever each is lent
abbrev pub Lived : Type 0
Lived = (before : List ℕ) (qs : List Lent)
    → (ms : List Made) × History before ms × (map (λ m. record { request = m.request; beside = m.beside }) ms ≡ qs)
