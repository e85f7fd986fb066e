-- What judging a source's answers gives: of one path, of one answer, and of the chain of all, by any test of forms.
use Rattle.std.specs.Prelude.{Option, Some, None}
use Rattle.std.specs.Prelude.{ℕ, suc, ◌<◌, ◌≤◌, Bool, true, false, ◌&&◌, ◌≡◌, eqb}
use Rattle.std.specs.Prelude.{List, [], ◌∷◌, ◌++◌, length}
use Rattle.forms.specs.Stored.{stored_of}
use Rattle.forms.specs.Numbering.{met}
use Rattle.plain.specs.Words.{Word}
use Rattle.plain.specs.Coding.{coding_of}
use Rattle.plain.specs.Joins.{ground}
use Rattle.plain.specs.Detours.{Live}
use Rattle.space.specs.declared.Head.{Head}
use Rattle.space.specs.declared.Subgoal.{Subgoal}
use Rattle.space.specs.declared.tables.Table.{Table}
use Rattle.trie.specs.Paths.{Path, tokens}
use Rattle.trie.specs.Runs.{Ends, path_to}
use Rattle.trie.specs.declared.End.{End}
use Rattle.store.specs.Clauses.{view_in, view_at}
use Rattle.store.specs.Decisions.{broken, unbroken, chain_of, Lives, severed, lives, lives_behind, lives_from, lives_of}
use Rattle.sides.specs.declared.Judged.{Judged}
use Rattle.sides.specs.declared.Judged.TheVariants.{Damaged, Ground, Variable}
use Rattle.sides.specs.declared.Member.{Member}

-- no token of the form is a variable
abbrev pub free : Word → Bool
free w = eqb (length (met [] w)) 0

-- ---- a path

-- the path is no form of m legal terms, whatever answer it is of and whatever follows
abbrev pub PathSevered : ℕ → Path → ℕ → Type 0
PathSevered edition p m = (a : ℕ) (later : Lives) → lives_behind ((stored_of edition).legal m) a p later ≡ severed

-- it is such a form, which passes the test or not
abbrev pub PathHeld : (Word → Bool) → ℕ → Path → ℕ → Bool → Type 0
PathHeld test edition p m b = (w : Word) × (p ≡ tokens w) × ((stored_of edition).legal m w ≡ true) × (test w ≡ b)

abbrev pub PathJudged : (Word → Bool) → ℕ → Path → ℕ → Option Bool → Type 0
PathJudged test edition p m None = PathSevered edition p m
PathJudged test edition p m (Some b) = PathHeld test edition p m b

-- ---- an answer

-- answers with further ones before them
unfoldable pub prepended : List Live → Lives → Lives
prepended ks severed = severed
prepended ks (lives ls) = lives (ks ++ ls)

-- the answers of a subgoal from one on, of at most so many
abbrev pub lives_at : Table → ℕ → ℕ → ℕ → Lives
lives_at t s steps a = lives_from (coding_of t.head.edition) (view_at t) s steps a

-- 0, or an answer above a
abbrev pub Onward : Head → ℕ → ℕ → Type 0
Onward h a next = ((next ≡ 0 → ⊥) → a < next) × (next ≤ h.answers)

-- the record of answer a is damaged; or its path stands before the answers from the next one on
abbrev pub MemberRead : Table → ℕ → Subgoal → ℕ → Option Member → Type 0
MemberRead t s g a None = (steps : ℕ) → lives_at t s (suc steps) a ≡ severed
MemberRead t s g a (Some m) =
    Ends t.cells.now m.end × Onward t.head a m.next
    × ((steps : ℕ) → lives_at t s (suc steps) a
    ≡ lives_behind ((stored_of t.head.edition).legal g.variables) a (path_to t.cells.now m.end)
    (lives_at t s steps m.next))

-- ---- all answers, by a closure that judges a path

-- all their forms pass the test
unfoldable pub all_pass : (Word → Bool) → List Live → Bool
all_pass test [] = true
all_pass test (l ∷ ls) = test l.form && all_pass test ls

-- the closure judges paths by this test
abbrev pub JudgesBy : (End → Option Bool → Type 0) → (Word → Bool) → List ℕ → ℕ → ℕ → Type 0
JudgesBy post test cs edition m =
    (end : End) (r : Option Bool) → Ends cs end → post end r → PathJudged test edition (path_to cs end) m r

abbrev pub LivesHeld : (Word → Bool) → Table → ℕ → Bool → Type 0
LivesHeld test t s b =
    (ls : List Live) × (lives_of (coding_of t.head.edition) (view_at t) s ≡ lives ls) × (all_pass test ls ≡ b)

-- an answer is damaged; or all forms pass, or not
abbrev pub LivesJudged : (Word → Bool) → Table → ℕ → Option Bool → Type 0
LivesJudged test t s None = lives_of (coding_of t.head.edition) (view_at t) s ≡ severed
LivesJudged test t s (Some b) = LivesHeld test t s b

abbrev pub AllJudged : (End → Option Bool → Type 0) → Table → ℕ → ℕ → Option Bool → Type 0
AllJudged post t s m r =
    (test : Word → Bool) → JudgesBy post test t.cells.now t.head.edition m → LivesJudged test t s r

-- ---- the forms of a source

-- the forms of all answers, none of which holds a variable, or some of which do
abbrev pub ChainHeld : List ℕ → Head → ℕ → Bool → Type 0
ChainHeld cs h s b =
    (ws : List Word) × (chain_of (coding_of h.edition) (view_in cs h) s ≡ unbroken ws) × (ground ws ≡ b)

abbrev pub ChainJudged : List ℕ → Head → ℕ → Judged → Type 0
ChainJudged cs h s Damaged = chain_of (coding_of h.edition) (view_in cs h) s ≡ broken
ChainJudged cs h s Ground = ChainHeld cs h s true
ChainJudged cs h s Variable = ChainHeld cs h s false
