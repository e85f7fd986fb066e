-- Examples of the result words, of `tables_counts` and of `tables_why`, computed.
use Rattle.std.specs.Prelude.{ℕ, ◌+◌, ◌*◌, ◌^◌, List, [], ◌∷◌, ◌≡◌, refl, replicate}
use Rattle.plain.specs.Requests.{Open, Finished, finish, next, new, old_subgoal, old_answer, done, at, none_yet}
use Rattle.plain.specs.Requests.{no_more}
use Rattle.plain.specs.Requests.{cells, joined, old_as, new_past, because, refused, short}
use Rattle.basis.specs.Editions.{known_edition}
use Rattle.space.specs.Layout.{sizes, subgoal_width, answer_width}
use Rattle.space.specs.Heading.{in_range, capacity, whole, counted, header_of, space_header}
use Rattle.space.specs.Fresh.{fresh_cells, fresh_fits, fresh_answer, fresh_answer_in}
use Rattle.store.specs.Decisions.{decide_by}
use Rattle.store.specs.Calls.{reply, under_by, under_any_by, space_step, space_step_by}
use Rattle.store.specs.Building as build
use Rattle.agreement.specs.Faults.{nothing, heading, node, subgoal, answer}
use Rattle.words.specs.Words.{word, said_fresh, counting, counts_reply, counts_out, counts_of, word_check, word_build}
use Rattle.words.specs.Why.{reasoning, reason_cells, why_reply, why_out}

-- a fresh space for four nodes, two subgoals and one answer: 43 cells
abbrev space : List ℕ
space = fresh_cells sizes 4 2 1 []

pub words :
    (word done ≡ 0)
    × (word (new 5) ≡ 4294967301)
    × (word (old_answer 5) ≡ 8589934597)
    × (word (old_subgoal 5 Open) ≡ 12884901893)
    × (word (old_subgoal 5 Finished) ≡ 17179869189)
    × (word (at 5) ≡ 21474836485)
    × (word none_yet ≡ 25769803776)
    × (word no_more ≡ 38654705664)
    × (word (cells 5) ≡ 30064771077)
    -- that nothing is new is no refusal
    × (word (joined 0) ≡ 10 * 2 ^ 32)
    × (word (joined 5) ≡ 42949672965)
    -- 256 + 9, and 256 + 12 with the cells that out would need
    × (word (refused 9) ≡ 265 * 2 ^ 32)
    × (word (short 383) ≡ 268 * 2 ^ 32 + 383)
unfolding word
words = (refl, refl, refl, refl, refl, refl, refl, refl, refl, refl, refl, refl, refl)

pub checks :
    (word_check nothing ≡ 0)
    -- 256 + 1
    × (word_check heading ≡ 257 * 2 ^ 32)
    -- 256 + 9, and the record: its kind above its number
    × (word_check (node 0) ≡ 265 * 2 ^ 32 + 268435456)
    × (word_check (node 5) ≡ 265 * 2 ^ 32 + 268435461)
    × (word_check (subgoal 5) ≡ 265 * 2 ^ 32 + 536870917)
    × (word_check (answer 5) ≡ 265 * 2 ^ 32 + 805306373)
unfolding word_check
checks = (refl, refl, refl, refl, refl, refl)

pub builds :
    -- that no child enters is no refusal
    (word_build (build.built 0) ≡ 11 * 2 ^ 32)
    × (word_build (build.built 9) ≡ 47244640265)
    -- 256 + 17
    × (word_build (build.refused 17) ≡ 273 * 2 ^ 32)
unfolding word_build
builds = (refl, refl, refl)

pub calls :
    -- its cells are room for a space like it, and not for one with an answer more
    (word (said_fresh (fresh_answer_in 1 4 2 1 space)) ≡ 0)
    × (word (said_fresh (fresh_answer_in 1 4 2 2 space)) ≡ 258 * 2 ^ 32)
    -- there is no edition 256
    × (word (said_fresh (fresh_answer_in 256 4 2 1 space)) ≡ 258 * 2 ^ 32)
    -- no subgoal has number 1 yet; no space has no cells
    × (word (space_step space (finish 1)).reply ≡ 263 * 2 ^ 32)
    × (word (space_step [] (next 1 0)).reply ≡ 257 * 2 ^ 32)
unfolding word fresh_answer_in fresh_answer fresh_fits fresh_cells in_range capacity whole counted known_edition
    header_of space_header subgoal_width answer_width decide_by reply under_by under_any_by space_step_by
calls = (refl, refl, refl, refl, refl)

pub counts :
    -- one node is used; the cell behind the three stays
    (word (counts_reply (counts_of space) (9 ∷ 9 ∷ 9 ∷ 7 ∷ [])) ≡ 8 * 2 ^ 32 + 3)
    × (counts_out (counts_of space) (9 ∷ 9 ∷ 9 ∷ 7 ∷ []) ≡ 1 ∷ 0 ∷ 0 ∷ 7 ∷ [])
    -- two cells are too few, and stay
    × (word (counts_reply (counts_of space) (9 ∷ 9 ∷ [])) ≡ 268 * 2 ^ 32 + 3)
    × (counts_out (counts_of space) (9 ∷ 9 ∷ []) ≡ 9 ∷ 9 ∷ [])
    -- the header is refused first, whether or not out is long enough
    × (word (counts_reply (counts_of []) (9 ∷ 9 ∷ [])) ≡ 257 * 2 ^ 32)
    × (counts_out (counts_of []) (9 ∷ 9 ∷ 9 ∷ []) ≡ 9 ∷ 9 ∷ 9 ∷ [])
unfolding word counts_reply counts_out counting fresh_cells in_range capacity whole counted known_edition header_of
    space_header subgoal_width answer_width decide_by reply under_by under_any_by space_step_by
counts = (refl, refl, refl, refl, refl, refl)

pub whys :
    -- old with two variables, and new after four tokens; the cells after those written stay
    (word (why_reply (because (old_as 5 (7 ∷ 8 ∷ []))) (replicate 33 9)) ≡ 12 * 2 ^ 32 + 5)
    × (why_out (because (old_as 5 (7 ∷ 8 ∷ []))) (replicate 33 9) ≡ 2 ∷ 7 ∷ 8 ∷ replicate 30 9)
    × (word (why_reply (because (new_past 4 5)) (replicate 33 9)) ≡ 13 * 2 ^ 32 + 5)
    × (why_out (because (new_past 4 5)) (replicate 33 9) ≡ 4 ∷ replicate 32 9)
    -- 32 cells are too few for any reason, and stay
    × (word (why_reply (because (new_past 4 5)) (replicate 32 9)) ≡ 268 * 2 ^ 32 + 33)
    × (why_out (because (new_past 4 5)) (replicate 32 9) ≡ replicate 32 9)
    -- every other refusal comes first
    × (word (why_reply (refused 6) []) ≡ 262 * 2 ^ 32)
unfolding word why_reply why_out reasoning reason_cells
whys = (refl, refl, refl, refl, refl, refl, refl)
