-- Detours on the plain table, in edition 1: a search within budgets below, at and above what it needs; refusals in
-- their order.
use Rattle.std.specs.Prelude.{Bool, true, false, List, [], ◌∷◌, ◌++◌, map, ◌≡◌, refl, ℕ, length}
use Rattle.forms.specs.Cells.{arity_of, callable, shape_of, symbolic, token_of}
use Rattle.forms.specs.Terms.{pairs, every, applied, paired, begun, reads, are_terms}
use Rattle.forms.specs.Numbering.{rank, seen, met, renamed, numbered}
use Rattle.forms.specs.Compact.{compact, elements, compact_form, filled, last_of, tail_of, inside, into, collected}
use Rattle.forms.specs.Compact.{entered, items, front, form_terms, pair_form, same}
use Rattle.forms.specs.Compact as forms
use Rattle.forms.specs.Stored.{stored_of}
use Rattle.forms.specs.Converting.{reading}
use Rattle.plain.specs.Words.{has, add, union, inits, all_inits, prefixes, distinct}
use Rattle.plain.specs.Coding.{judged, naming, handed_on, predicate, taken, coding_of}
use Rattle.plain.specs.Requests.{Request, call, answer, finish, detours, none_found, found, Reply}
use Rattle.plain.specs.Requests.{done, detoured, refused, trace, left}
use Rattle.plain.specs.Detours.{Option, diverts, total_of, better, trying, tries, search, detour, one_cell, offers}
use Rattle.plain.specs.Detours.{all_offer, goals_fit, any_open, few_goals, detours_of, all_within}
use Rattle.plain.specs.DetourMeaning.{none_twice, each_before, choices, passing, least_of, looks_along, looks}
use Rattle.plain.specs.DetourMeaning.{made_whole, fewest, minima}
use Rattle.plain.specs.Table.{Table, fresh, no_subgoal, no_answer, subgoal_at, answer_at, answers_to, answer_nodes}
use Rattle.plain.specs.Table.{nodes, counted, number, subgoal_of, answer_of, fits, appended, called, answered}
use Rattle.plain.specs.Table.{settled, numbered_answers, goal_of, detouring, step, table_trace}
use Rattle.plain.specs.Examples.{var, atom, int, fun}

abbrev replies : Table → List Request → List Reply
replies t qs = map (λ s. s.reply) (table_trace (coding_of 1) t qs)

-- Two belts: over diverter 1 in 5 minutes or 2 in 3; over diverter 1 in 1, 2 in 4 or 3 in 6. And a third subgoal.
abbrev pub belts : List Request
belts =
    call (fun 1 2 ∷ var 0 ∷ var 1 ∷ [])
    ∷ call (fun 2 2 ∷ var 0 ∷ var 1 ∷ [])
    ∷ call (fun 3 1 ∷ var 0 ∷ [])
    ∷ answer 1 (atom 1 ∷ int 5 ∷ [])
    ∷ answer 2 (atom 1 ∷ int 1 ∷ [])
    ∷ answer 1 (atom 2 ∷ int 3 ∷ [])
    ∷ answer 2 (atom 2 ∷ int 4 ∷ [])
    ∷ answer 2 (atom 3 ∷ int 6 ∷ [])
    ∷ []

abbrev pub ends : List Request
ends = finish 1 ∷ finish 2 ∷ finish 3 ∷ []

abbrev pub found_so : ℕ → List ℕ → ℕ → Bool → Reply
found_so total ns tried ended = detoured (record { best = found total ns; tried = tried; ended = ended })

abbrev pub none_so : ℕ → Bool → Reply
none_so tried ended = detoured (record { best = none_found; tried = tried; ended = ended })

-- Eight choices end the search, the least total is 3 + 1. Seven have met it, and one was left; four have met 5 + 4 and
-- 5 + 6. In the other order nine choices are tried, though the last three begin above the least total: none is cut.
-- A goal given twice takes two answers, of equal totals the first.
abbrev pub searches : List Request
searches =
    detours (1 ∷ 2 ∷ []) 9
    ∷ detours (1 ∷ 2 ∷ []) 8
    ∷ detours (1 ∷ 2 ∷ []) 7
    ∷ detours (1 ∷ 2 ∷ []) 4
    ∷ detours (1 ∷ 2 ∷ []) 2
    ∷ detours (1 ∷ 2 ∷ []) 0
    ∷ detours (2 ∷ []) 3
    ∷ detours (2 ∷ 1 ∷ []) 9
    ∷ detours (1 ∷ 1 ∷ []) 6
    ∷ detours (1 ∷ 1 ∷ 1 ∷ []) 99
    ∷ []

abbrev pub search_replies : List Reply
search_replies =
    found_so 4 (3 ∷ 2 ∷ []) 8 true
    ∷ found_so 4 (3 ∷ 2 ∷ []) 8 true
    ∷ found_so 4 (3 ∷ 2 ∷ []) 7 false
    ∷ found_so 9 (1 ∷ 4 ∷ []) 4 false
    ∷ none_so 2 false
    ∷ none_so 0 false
    ∷ found_so 1 (2 ∷ []) 3 true
    ∷ found_so 4 (2 ∷ 3 ∷ []) 9 true
    ∷ found_so 8 (1 ∷ 3 ∷ []) 6 true
    ∷ none_so 10 true
    ∷ []

-- 7 before 14 before 22: a number, also of a seventh goal; an open goal; another number of variables, no goal, seven;
-- and an answer of another form
abbrev pub refused_calls : List Request
refused_calls =
    detours (1 ∷ 0 ∷ []) 9
    ∷ detours (1 ∷ 1 ∷ 1 ∷ 1 ∷ 1 ∷ 1 ∷ 4 ∷ []) 9
    ∷ detours (3 ∷ []) 9
    ∷ finish 1
    ∷ detours (1 ∷ 2 ∷ []) 9
    ∷ finish 2
    ∷ finish 3
    ∷ detours (3 ∷ []) 9
    ∷ detours [] 9
    ∷ detours (1 ∷ 1 ∷ 1 ∷ 1 ∷ 1 ∷ 1 ∷ 1 ∷ []) 9
    ∷ []

abbrev pub Detoured : Type 0
Detoured =
    (replies (left (step (coding_of 1)) (fresh 99 9 9) (belts ++ ends)) searches ≡ search_replies)
    × (map (λ s. s.reply) (table_trace (coding_of 1) (left (step (coding_of 1)) (fresh 99 9 9) belts) refused_calls)
    ≡ refused 7 ∷ refused 7 ∷ refused 14 ∷ done ∷ refused 14 ∷ done ∷ done ∷ refused 22 ∷ refused 22 ∷ refused 22 ∷ [])
    × (replies (left (step (coding_of 1)) (fresh 99 9 9) (belts ++ (answer 2 (int 1 ∷ int 1 ∷ []) ∷ ends)))
    (detours (1 ∷ []) 9 ∷ detours (1 ∷ 2 ∷ []) 9 ∷ []) ≡ found_so 3 (3 ∷ []) 2 true ∷ refused 22 ∷ [])

-- the looks and the choices of the two belts, written out
abbrev opt : ℕ → ℕ → ℕ → Option
opt n d m = record { number = n; diverter = d; minutes = m }

abbrev two : List (List Option)
two = (opt 1 1 5 ∷ opt 3 2 3 ∷ []) ∷ (opt 2 1 1 ∷ opt 4 2 4 ∷ opt 5 3 6 ∷ []) ∷ []

abbrev pub Written : Type 0
Written =
    (looks two []
    ≡ (opt 1 1 5 ∷ [])
    ∷ (opt 1 1 5 ∷ opt 2 1 1 ∷ [])
    ∷ (opt 1 1 5 ∷ opt 4 2 4 ∷ [])
    ∷ (opt 1 1 5 ∷ opt 5 3 6 ∷ [])
    ∷ (opt 3 2 3 ∷ [])
    ∷ (opt 3 2 3 ∷ opt 2 1 1 ∷ [])
    ∷ (opt 3 2 3 ∷ opt 4 2 4 ∷ [])
    ∷ (opt 3 2 3 ∷ opt 5 3 6 ∷ [])
    ∷ [])
    × (passing none_twice (choices two)
    ≡ (opt 1 1 5 ∷ opt 4 2 4 ∷ [])
    ∷ (opt 1 1 5 ∷ opt 5 3 6 ∷ [])
    ∷ (opt 3 2 3 ∷ opt 2 1 1 ∷ [])
    ∷ (opt 3 2 3 ∷ opt 5 3 6 ∷ [])
    ∷ [])
    × (length (choices two) ≡ 6)
    × (least_of none_found (passing (made_whole 2) (looks two [])) ≡ found 4 (3 ∷ 2 ∷ []))
    × (minima two ≡ 4)

pub detour-examples : Detoured × Written
unfolding trace left step counted settled called answered fits appended numbered_answers goal_of detouring detours_of
    all_within any_open few_goals goals_fit all_offer offers one_cell detour search tries trying better total_of diverts
    none_twice each_before choices passing least_of looks_along looks made_whole fewest minima nodes answer_nodes
    answers_to number subgoal_of answer_of subgoal_at answer_at no_subgoal no_answer distinct prefixes union add has
    all_inits inits judged naming handed_on reading callable predicate taken stored_of compact_form are_terms pair_form
    form_terms front symbolic token_of items entered filled last_of tail_of into inside collected forms.whole reads
    begun applied paired shape_of arity_of every compact elements pairs numbered renamed met seen rank same
detour-examples = ((refl, refl, refl), (refl, refl, refl, refl, refl))
