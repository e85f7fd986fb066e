-- The reason that why gives (Q-10) is true of the table, of every table that calls make of a fresh one.
use Rattle.std.specs.Prelude.{List, [], map, ◌≡◌, ℕ, ◌<◌, ◌≤◌, length}
use Rattle.forms.specs.Numbering.{met, renamed}
use Rattle.plain.specs.Words.{Word, common}
use Rattle.plain.specs.Coding.{Coding, accepted}
use Rattle.plain.specs.Requests.{State, Request, call, why, old_as, new_past, old_subgoal, because, lent}
use Rattle.plain.specs.Table.{Table, subgoal_at, step}
use Rattle.plain.specs.Consequences.{reached}

-- the cells with variable i for the i-th of vs
abbrev pub renaming : List ℕ → List ℕ → List ℕ
renaming vs cs = map (renamed vs) cs

module _ (c : Coding) where
  -- "old": subgoal s is there; the offered term with variable i for the i-th of vs is the stored one; vs are the
  -- offered variables, as many as the subgoal has; and call says old with the same number
  pub record OldTrue (t : Table) (cs : List ℕ) (s : ℕ) (vs : List ℕ) : Type 0 where
    pub low : 0 < s
    pub high : s ≤ length t.subgoals
    pub renames : renaming vs cs ≡ c.expand (subgoal_at t s).form
    pub offered : vs ≡ met [] cs
    pub called : (step c t (call cs)).reply ≡ old_subgoal s (subgoal_at t s).state

  -- "new" of the stored form w: no subgoal shares more than k leading tokens with it, and k is short of the whole;
  -- where k is 0, s is 0; else s is the lowest-numbered subgoal that shares k
  pub record NewTrue (t : Table) (w : Word) (k s : ℕ) : Type 0 where
    pub no-more : (i : ℕ) → 0 < i → i ≤ length t.subgoals → common (subgoal_at t i).form w ≤ k
    pub short : k < length w
    pub none : k ≡ 0 → s ≡ 0
    pub low : 0 < k → 0 < s
    pub high : s ≤ length t.subgoals
    pub shares : 0 < k → common (subgoal_at t s).form w ≡ k
    pub lowest : (i : ℕ) → 0 < i → i < s → common (subgoal_at t i).form w < k

  -- why gives a true reason, on every table that calls made
  abbrev pub Reasoned : Type 0
  Reasoned = (n f a : ℕ) → 0 < n → (qs : List Request) (cs : List ℕ)
      → (let t = reached c n f a qs in
      ((s : ℕ) (vs : List ℕ) → (step c t (why cs)).reply ≡ because (old_as s vs) → OldTrue t cs s vs)
      × ((k s : ℕ) → (step c t (why cs)).reply ≡ because (new_past k s)
      → (w : Word) × (m : ℕ) × (c.called cs ≡ accepted w m) × NewTrue t w k s
      × ((i : ℕ) (x : State) → (step c t (call cs)).reply ≡ old_subgoal i x → ⊥)))

  -- it changes nothing, so that asked again it says the same
  abbrev pub ReasonLasts : Type 0
  ReasonLasts = (t : Table) (cs : List ℕ) → ((step c t (why cs)).state ≡ t) × ((step c t (why cs)).out ≡ lent (why cs))
