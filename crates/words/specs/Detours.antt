-- What `tables_detours` returns, and what it leaves in out.
use Rattle.std.specs.Prelude.{ℕ, ◌+◌, ◌*◌, ◌^◌, true, false, List, [], ◌∷◌, ◌++◌, ◌≡◌, refl, leb, length, take, drop}
use Rattle.basis.specs.Choice.{pick}
use Rattle.plain.specs.Requests.{Best, none_found, found, Detour, detours, detoured}
use Rattle.plain.specs.Requests.{Reply, new, old_subgoal, old_answer, done, at, none_yet, no_more, cells, used, joined}
use Rattle.plain.specs.Requests.{because, refused, short}
use Rattle.store.specs.Calls.{Answers}
use Rattle.words.specs.Words.{word}

-- the numbers of the answers, where a total was found
abbrev pub best_numbers : Best → List ℕ
best_numbers none_found = []
best_numbers (found total ns) = ns

-- the cells that a search gives: the choices tried, 1 if it ended and 0 if the budget did, then the numbers
abbrev pub detour_cells : Detour → List ℕ
detour_cells d = d.tried ∷ pick d.ended 1 0 ∷ best_numbers d.best

-- the most of them: six goals
abbrev pub most_detour_cells : ℕ
most_detour_cells = 8

-- the first where the answer is that of a search for detours, else the second
unfoldable pub detouring : {A : Type 0} → Reply → (Detour → A) → A → A
detouring (detoured d) f x = f d
detouring (used c) f x = x
detouring (new n) f x = x
detouring (old_subgoal n s) f x = x
detouring (old_answer n) f x = x
detouring done f x = x
detouring (at n) f x = x
detouring none_yet f x = x
detouring no_more f x = x
detouring (cells n) f x = x
detouring (joined n) f x = x
detouring (because y) f x = x
detouring (refused r) f x = x
detouring (short n) f x = x

-- what detours answers; an out of fewer than eight cells is 12, however few are to be written
unfoldable pub detours_reply : Reply → List ℕ → Reply
detours_reply reply out =
    detouring reply (λ d. pick (leb most_detour_cells (length out)) reply (short most_detour_cells)) reply

-- the cells stand before what was after them; refused, out is as it was
unfoldable pub detours_out : Reply → List ℕ → List ℕ
detours_out reply out =
    detouring reply
    (λ d. pick (leb most_detour_cells (length out)) (detour_cells d ++ drop (length (detour_cells d)) out) out) out

-- the word of an answer r, and out after it
abbrev pub SaysDetours : Reply → ℕ → List ℕ → List ℕ → Type 0
SaysDetours r w out out' = (w ≡ word (detours_reply r out)) × (out' ≡ detours_out r out)

-- the first numbers stand after two cells of out
abbrev pub NumbersStand : List ℕ → ℕ → List ℕ → List ℕ → Type 0
NumbersStand numbers count out out' =
    let ns = take count numbers in out' ≡ take 2 out ++ (ns ++ drop (length ns) (drop 2 out))

-- `tables_detours` is lent an out of its own, beside what the call answers
abbrev pub ReturnsDetours : List ℕ → List ℕ → ℕ → ℕ → List ℕ → List ℕ → Type 0
ReturnsDetours before goals budget w out out' =
    (r : Reply) × Answers before (detours goals budget) r [] before × SaysDetours r w out out'

-- ---- examples

abbrev two_found : Reply
two_found = detoured (record { best = found 12 (3 ∷ 5 ∷ []); tried = 7; ended = true })

abbrev no_found : Reply
no_found = detoured (record { best = none_found; tried = 4; ended = false })

abbrev nines : List ℕ
nines = 9 ∷ 9 ∷ 9 ∷ 9 ∷ 9 ∷ 9 ∷ 9 ∷ 9 ∷ []

pub detour-words :
    -- the total, and the cells after the four stay
    (word (detours_reply two_found nines) ≡ 14 * 2 ^ 32 + 12)
    × (detours_out two_found nines ≡ 7 ∷ 1 ∷ 3 ∷ 5 ∷ 9 ∷ 9 ∷ 9 ∷ 9 ∷ [])
    -- none found, and the budget ended the search
    × (word (detours_reply no_found nines) ≡ 15 * 2 ^ 32)
    × (detours_out no_found nines ≡ 4 ∷ 0 ∷ 9 ∷ 9 ∷ 9 ∷ 9 ∷ 9 ∷ 9 ∷ [])
    -- seven cells are too few, and stay; a refusal by the call comes first
    × (word (detours_reply two_found (drop 1 nines)) ≡ 268 * 2 ^ 32 + 8)
    × (detours_out two_found (drop 1 nines) ≡ drop 1 nines)
    × (word (detours_reply (refused 22) []) ≡ 278 * 2 ^ 32)
    × (detours_out (refused 22) nines ≡ nines)
unfolding word detouring detours_reply detours_out
detour-words = (refl, refl, refl, refl, refl, refl, refl, refl)
