-- Joins on the plain table, in edition 1: the order of the answers, old and new ones, and each refusal before those
-- below it.
use Rattle.std.specs.Prelude.{List, [], ◌∷◌, ◌++◌, map, ◌≡◌, refl, ℕ, zero, suc, replicate}
use Rattle.forms.specs.Cells.{arity_of, callable, nil, PAIR, shape_of, symbolic, token_of}
use Rattle.forms.specs.Terms.{pairs, every, applied, paired, begun, reads, are_terms}
use Rattle.forms.specs.Numbering.{rank, seen, met, renamed, numbered}
use Rattle.forms.specs.Compact.{compact, elements, compact_form, filled, last_of, tail_of, inside, into, collected}
use Rattle.forms.specs.Compact.{whole, entered, items, front, form_terms, pair_form, same}
use Rattle.forms.specs.Converting.{reading}
use Rattle.forms.specs.Stored.{stored_of}
use Rattle.plain.specs.Words.{has, add, union, inits, all_inits, prefixes, distinct}
use Rattle.plain.specs.Coding.{judged, naming, handed_on, predicate, taken, coding_of}
use Rattle.plain.specs.Requests.{Request, call, answer, finish, next, load, counts, join, Reply, new, done, at}
use Rattle.plain.specs.Requests.{none_yet, no_more, cells, used, joined, refused, trace}
use Rattle.plain.specs.Joins.{pairs_named, copies_named, named, matching, copied, along, combined, before}
use Rattle.plain.specs.Joins.{all_read, ground, join_of}
use Rattle.plain.specs.Table as table
use Rattle.plain.specs.Table.{Table, fresh, no_subgoal, no_answer, subgoal_at, answer_at, answers_to, answer_nodes}
use Rattle.plain.specs.Table.{nodes, counted, number, subgoal_of, answer_of, fits, appended, called, answered}
use Rattle.plain.specs.Table.{writes, side_of, joining, step, table_trace, settled}
use Rattle.plain.specs.Examples.{var, atom, int, fun, count}

abbrev replies : Table → List Request → List Reply
replies t qs = map (λ s. s.reply) (table_trace (coding_of 1) t qs)

abbrev outs : Table → List Request → List (List ℕ)
outs t qs = map (λ s. s.out) (table_trace (coding_of 1) t qs)

-- p(X,Y) with the answers (a,b) and (a,c); q(X,Y) with (b,d), (c,d) and (b,e); r(X,Y) is to be their join
abbrev pub sources : List Request
sources =
    call (fun 1 2 ∷ var 0 ∷ var 1 ∷ [])
    ∷ call (fun 2 2 ∷ var 0 ∷ var 1 ∷ [])
    ∷ call (fun 3 2 ∷ var 0 ∷ var 1 ∷ [])
    ∷ answer 1 (atom 1 ∷ atom 2 ∷ [])
    ∷ answer 2 (atom 2 ∷ atom 4 ∷ [])
    ∷ answer 1 (atom 1 ∷ atom 3 ∷ [])
    ∷ answer 2 (atom 3 ∷ atom 4 ∷ [])
    ∷ answer 2 (atom 2 ∷ atom 5 ∷ [])
    ∷ []

abbrev pub ends : List Request
ends = finish 1 ∷ finish 2 ∷ []

abbrev source_replies : List Reply
source_replies = new 1 ∷ new 2 ∷ new 3 ∷ new 1 ∷ new 2 ∷ new 3 ∷ new 4 ∷ new 5 ∷ []

-- r(X,Z) from p(X,Y) and q(Y,Z): variable 1 of the first is variable 0 of the second
abbrev pub chain : Request
chain = join 1 2 (1 ∷ 0 ∷ []) 3 (0 ∷ 0 ∷ 1 ∷ 1 ∷ [])

-- (a,d) by b, (a,e) by b, and (a,d) again by c: two are new, in this order; a second time none is. 24 nodes, 7 answers.
-- Without pairs each of the 2 × 3 combinations gives an answer: (a,d), (a,e) and nothing new.
abbrev pub Joined : Type 0
Joined =
    (replies (fresh 24 3 7) (sources ++ (chain ∷ ends) ++ (chain ∷ chain ∷ counts ∷ load 6 (0 ∷ 0 ∷ []) ∷ []))
    ≡ source_replies ++ (refused 14 ∷ done ∷ done ∷ joined 2 ∷ joined 0 ∷ used (count 24 3 7) ∷ cells 2 ∷ []))
    × (replies (fresh 24 3 7)
    (sources ++ ends ++ (join 1 2 [] 3 (0 ∷ 0 ∷ 1 ∷ 1 ∷ []) ∷ next 3 6 ∷ next 3 7 ∷ next 2 5 ∷ []))
    ≡ source_replies ++ (done ∷ done ∷ joined 2 ∷ at 7 ∷ none_yet ∷ no_more ∷ []))
    -- first = second: each answer of q with those of q that have its second term; copied are both first terms
    × (replies (fresh 40 3 9) (sources ++ ends ++ (join 2 2 (1 ∷ 1 ∷ []) 3 (0 ∷ 0 ∷ 1 ∷ 0 ∷ []) ∷ counts ∷ []))
    ≡ source_replies ++ (done ∷ done ∷ joined 4 ∷ used (count 27 3 9) ∷ []))
    -- its answers in order of the first, then of the second
    × (outs (fresh 40 3 9)
    (sources ++ ends ++ (join 2 2 (1 ∷ 1 ∷ []) 3 (0 ∷ 0 ∷ 1 ∷ 0 ∷ [])
    ∷ map (λ a. load a (0 ∷ 0 ∷ [])) (6 ∷ 7 ∷ 8 ∷ 9 ∷ [])))
    ≡ replicate 11 [] ++ ((atom 2 ∷ atom 2 ∷ []) ∷ (atom 2 ∷ atom 3 ∷ []) ∷ (atom 3 ∷ atom 2 ∷ [])
    ∷ (atom 3 ∷ atom 3 ∷ []) ∷ []))
    -- a ground target: the empty answer, once, and it is finished
    × (replies (fresh 40 4 9)
    (sources ++ ends ++ (call (fun 4 1 ∷ atom 1 ∷ []) ∷ join 1 2 (1 ∷ 0 ∷ []) 4 [] ∷ join 1 2 (0 ∷ 0 ∷ []) 4 []
    ∷ join 1 2 [] 4 [] ∷ []))
    ≡ source_replies ++ (done ∷ done ∷ new 4 ∷ joined 1 ∷ refused 8 ∷ refused 8 ∷ []))

-- the list of n ones: 2 n + 1 cells
abbrev ones : ℕ → List ℕ
ones zero = nil ∷ []
ones (suc n) = PAIR ∷ int 1 ∷ ones n

-- 7, 8, 14, 15, 16, 4, 10, 11
abbrev pub Refused : Type 0
Refused =
    -- nothing matching is accepted in a full table; one node less, one record less, and both
    (replies (fresh 21 3 5) (sources ++ ends ++ (join 1 2 (0 ∷ 0 ∷ []) 3 (0 ∷ 0 ∷ 1 ∷ 1 ∷ []) ∷ chain ∷ []))
    ≡ source_replies ++ (done ∷ done ∷ joined 0 ∷ refused 10 ∷ []))
    × (replies (fresh 23 3 7) (sources ++ ends ++ (chain ∷ counts ∷ []))
    ≡ source_replies ++ (done ∷ done ∷ refused 10 ∷ used (count 21 3 5) ∷ []))
    × (replies (fresh 24 3 6) (sources ++ ends ++ (chain ∷ counts ∷ []))
    ≡ source_replies ++ (done ∷ done ∷ refused 11 ∷ used (count 21 3 5) ∷ []))
    × (replies (fresh 23 3 6) (sources ++ ends ++ (chain ∷ [])) ≡ source_replies ++ (done ∷ done ∷ refused 10 ∷ []))
    -- each of the three numbers; a finished target before an open source; a source as target
    × (replies (fresh 24 3 7)
    (sources ++ (finish 3 ∷ join 0 2 [] 3 [] ∷ join 1 4 [] 3 [] ∷ join 1 2 [] 4 [] ∷ join 1 2 [] 3 []
    ∷ join 1 2 [] 1 [] ∷ finish 1 ∷ join 1 2 [] 1 [] ∷ join 2 1 [] 2 [] ∷ []))
    ≡ source_replies ++ (done ∷ refused 7 ∷ refused 7 ∷ refused 7 ∷ refused 8 ∷ refused 14 ∷ done ∷ refused 8
    ∷ refused 14 ∷ []))
    -- too many pairs, a cut one, a variable out of range on either side, a side, a copy too few
    × (replies (fresh 24 3 7) (sources ++ ends ++ (
    join 1 2 (replicate 66 0) 3 (0 ∷ 0 ∷ 1 ∷ 1 ∷ [])
    ∷ join 1 2 (replicate 64 0) 3 (0 ∷ 0 ∷ 1 ∷ 1 ∷ [])
    ∷ join 1 2 (1 ∷ []) 3 (0 ∷ 0 ∷ 1 ∷ 1 ∷ [])
    ∷ join 1 2 (2 ∷ 0 ∷ []) 3 (0 ∷ 0 ∷ 1 ∷ 1 ∷ [])
    ∷ join 1 2 (1 ∷ 2 ∷ []) 3 (0 ∷ 0 ∷ 1 ∷ 1 ∷ [])
    ∷ join 1 2 [] 3 (0 ∷ 0 ∷ 2 ∷ 1 ∷ [])
    ∷ join 1 2 [] 3 (0 ∷ 2 ∷ 1 ∷ 1 ∷ [])
    ∷ join 1 2 [] 3 (0 ∷ 0 ∷ 1 ∷ [])
    ∷ join 1 2 [] 3 (0 ∷ 0 ∷ [])
    ∷ []))
    ≡ source_replies ++ (done ∷ done ∷ refused 16 ∷ joined 0 ∷ refused 16 ∷ refused 16 ∷ refused 16 ∷ refused 16
    ∷ refused 16 ∷ refused 16 ∷ refused 16 ∷ []))

-- p(X) holds a list of 63 ones, 127 cells; three copies of it are over 256 cells, two are not. q(X) holds a variable:
-- 15 before 16, also where nothing matches, and where the other source is empty
abbrev pub Long : Type 0
Long =
    (replies (fresh 999 9 9) (
    call (fun 1 1 ∷ var 0 ∷ [])
    ∷ call (fun 2 1 ∷ var 0 ∷ [])
    ∷ call (fun 3 3 ∷ var 0 ∷ var 1 ∷ var 2 ∷ [])
    ∷ call (fun 4 2 ∷ var 0 ∷ var 1 ∷ [])
    ∷ call (fun 5 1 ∷ var 0 ∷ [])
    ∷ answer 1 (ones 63)
    ∷ answer 2 (var 7 ∷ [])
    ∷ finish 1
    ∷ finish 2
    ∷ finish 5
    ∷ join 1 1 [] 3 (0 ∷ 0 ∷ 0 ∷ 0 ∷ 1 ∷ 0 ∷ [])
    ∷ join 1 1 [] 4 (0 ∷ 0 ∷ 1 ∷ 0 ∷ [])
    ∷ join 1 2 (0 ∷ 0 ∷ []) 3 []
    ∷ join 5 2 [] 3 []
    ∷ join 1 5 [] 3 (0 ∷ 0 ∷ 0 ∷ 0 ∷ 1 ∷ 0 ∷ [])
    ∷ [])
    ≡ new 1 ∷ new 2 ∷ new 3 ∷ new 4 ∷ new 5 ∷ new 1 ∷ new 2 ∷ done ∷ done ∷ done
    ∷ refused 4 ∷ joined 1 ∷ refused 15
    ∷ refused 15 ∷ joined 0 ∷ [])

pub join-examples : Joined × Refused × Long
unfolding settled trace step counted called answered fits appended writes side_of joining table.given table.entered
    table.starting table.onward table.after table.following nodes answer_nodes answers_to number subgoal_of answer_of
    subgoal_at answer_at no_subgoal no_answer distinct prefixes union add has all_inits inits pairs_named copies_named
    named matching copied along combined before all_read ground join_of judged naming handed_on reading callable
    predicate taken stored_of compact_form are_terms pair_form form_terms front symbolic token_of items entered filled
    last_of tail_of into inside collected whole reads begun applied paired shape_of arity_of every compact elements
    pairs numbered renamed met seen rank same
join-examples = ((refl, refl, refl, refl, refl), (refl, refl, refl, refl, refl, refl), refl)
