-- The records of a source, by number and of one kind, answers or subgoals; and each against those before it.
use Rattle.std.specs.Prelude.{ℕ, zero, suc, ◌+◌, ◌-◌, ◌*◌, ◌<◌, ◌≤◌, ◌≡◌, Bool, true, not, List, [], ◌∷◌, length}
use Rattle.std.specs.Prelude.{Ok}
use Rattle.plain.specs.Words.{Word, most, has}
use Rattle.plain.specs.Coding.{coding_of}
use Rattle.plain.specs.Table.{Answer, answers_to}
use Rattle.space.specs.Heading.{space_header}
use Rattle.space.specs.Sound.{Bounds}
use Rattle.space.specs.declared.Head.{Head}
use Rattle.trie.specs.Paths.{tokens, longest}
use Rattle.trie.specs.Runs.{Ends, path_to}
use Rattle.store.specs.Clauses.{view_in}
use Rattle.sides.specs.declared.Earlier.{Earlier}
use Rattle.agreement.specs.Whole.{every_below, word_of, subgoal_path, answer_read}
use Rattle.carrying.specs.Recoding.{widening, takes_word}
use Rattle.carrying.specs.Copying.{subgoal_loads, answer_loads, source_loads}
use Rattle.sources.specs.declared.Kind.{Kind}
use Rattle.sources.specs.declared.Kind.TheVariants as kind
use Rattle.sources.specs.declared.Records.{Records}
use Rattle.sources.specs.declared.Place.{Place}
use Rattle.sources.specs.declared.Compared.{Compared}

-- a source of edition 1
abbrev pub FirstEdition : List ℕ → Head → Type 0
FirstEdition cs h = (Ok h ≡ space_header cs) × (h.edition ≡ 1)

-- that loads
abbrev pub Loads : List ℕ → Head → Type 0
Loads cs h = FirstEdition cs h × (source_loads (coding_of 1) (view_in cs h) ≡ true)

-- ---- the records of a kind

-- the first of answers, the second of subgoals
abbrev pub of_kind {ℓ} : {A : Type ℓ} → Kind → A → A → A
of_kind kind.Answers a b = a
of_kind kind.Subgoals a b = b

abbrev pub subgoals_of : Head → Records
subgoals_of h = record { h = h; kind = kind.Subgoals }

abbrev pub answers_of : Head → Records
answers_of h = record { h = h; kind = kind.Answers }

unfoldable pub count_of : Records → ℕ
count_of x = of_kind x.kind x.h.answers x.h.subgoals

-- a word as a subgoal's form: an answer to no subgoal
abbrev pub unowned : Word → Answer
unowned w = record { subgoal = 0; form = w }

-- the sum of f 0 to f (n - 1)
unfoldable pub sum_below : (ℕ → ℕ) → ℕ → ℕ
sum_below f zero = 0
sum_below f (suc n) = sum_below f n + f n

module _ (cs : List ℕ) (x : Records) where
  -- the record after i of them
  unfoldable pub record_at : ℕ → Answer
  record_at i =
      let v = view_in cs x.h in
      of_kind x.kind (answer_read v (suc i)) (unowned (word_of (subgoal_path v (suc i))))

  -- it loads
  unfoldable pub loads_at : ℕ → Bool
  loads_at i =
      let v = view_in cs x.h in
      let c = coding_of x.h.edition in
      of_kind x.kind (answer_loads c v (suc i)) (subgoal_loads c v (suc i))

  -- edition 2 has room for the names in its form
  unfoldable pub named_at : ℕ → Bool
  named_at i = takes_word widening (record_at i).form

  -- those before it, the last one first
  unfoldable pub before : ℕ → List Answer
  before zero = []
  before (suc i) = record_at i ∷ before i

  -- the forms of those that are under the same subgoal
  abbrev pub rivals : ℕ → List Word
  rivals i = answers_to (before i) (record_at i).subgoal

  -- none of them is the same
  unfoldable pub differs_at : ℕ → Bool
  differs_at i = not (has (rivals i) (record_at i).form)

  -- the tokens past the longest prefix that it shares with one of them
  unfoldable pub brings_at : ℕ → ℕ
  brings_at i = length (record_at i).form - most (rivals i) (record_at i).form

  -- ---- what the functions ask for and leave

  -- all load
  abbrev pub AllLoad : Type 0
  AllLoad = Bounds cs x.h × (every_below loads_at (count_of x) ≡ true)

  -- and there is one after i of them
  abbrev pub RecordOf : ℕ → Type 0
  RecordOf i = AllLoad × (i < count_of x)

  -- where its form stands
  pub record PlaceOf (i : ℕ) (r : Place) : Type 0 where
    pub ends : Ends cs r.end
    pub path : path_to cs r.end ≡ tokens (record_at i).form
    pub owner : r.owner ≡ (record_at i).subgoal

  -- the record against those before it
  abbrev pub ComparesTo : ℕ → Compared → Type 0
  ComparesTo i r = (r.tokens ≡ brings_at i) × (r.tokens ≤ longest) × (r.held ≡ has (rivals i) (record_at i).form)

  -- so many bring so many tokens
  abbrev pub Brings : ℕ → ℕ → Type 0
  Brings n r = (r ≡ sum_below brings_at n) × (r ≤ longest * n)

-- what a form under a subgoal shares with records
abbrev pub EarlierTo : List Answer → ℕ → Word → Earlier → Type 0
EarlierTo l s w e = (e.shared ≡ most (answers_to l s) w) × (e.held ≡ has (answers_to l s) w)

-- and with the record after j of them more
abbrev pub MeetsRecord : List ℕ → Records → ℕ → ℕ → Word → Earlier → Earlier → Type 0
MeetsRecord cs x j s w a b = (l : List Answer) → EarlierTo l s w a → EarlierTo (record_at cs x j ∷ l) s w b
