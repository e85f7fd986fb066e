-- Examples of what exports over the plain table show, computed.
use Rattle.std.specs.Prelude.{ℕ, ◌+◌, ◌*◌, ◌^◌, ◌≡◌, refl}
use mathlib.Core.List.{List, [], ◌∷◌, map, zip_with}
use Rattle.forms.specs.Cells.{arity_of, callable, shape_of, symbolic, token_of}
use Rattle.forms.specs.Terms.{pairs, every, applied, paired, begun, reads, are_terms}
use Rattle.forms.specs.Numbering.{rank, seen, met, renamed, numbered}
use Rattle.forms.specs.Compact.{compact, elements, compact_form, filled, last_of, tail_of, inside, into, collected}
use Rattle.forms.specs.Compact.{whole, entered, items, front, form_terms, pair_form, same}
use Rattle.forms.specs.Converting.{reading}
use Rattle.forms.specs.Stored.{stored_of}
use Rattle.plain.specs.Words.{has, add, union, inits, all_inits, prefixes, distinct}
use Rattle.plain.specs.Coding.{judged, naming, handed_on, predicate, taken}
use Rattle.plain.specs.Requests.{call, finish, trace}
use Rattle.plain.specs.Table.{step, counted, called, fits, appended, nodes, answer_nodes, answers_to, number}
use Rattle.plain.specs.Table.{subgoal_of}
use Rattle.plain.specs.Table.{settled, edition_trace}
use Rattle.plain.specs.Examples.{atom, fun}
use Rattle.agreement.specs.History.{alone, index}
use Rattle.words.specs.Words.{word, counting, counts_reply, counts_out}
use Rattle.words.specs.Exports.{Export, call_of, counts_into, request_of, SeenWord, seen_as}

abbrev word_seen : ℕ → ℕ → ℕ → List ℕ → SeenWord
word_seen result nodes subgoals out =
    record { result = result; counted = record { nodes = nodes; subgoals = subgoals; answers = 0 }; out = out }

-- an unknown subgoal is finished; p(a) is called with an index of one cell; the counts go into four cells, and into one
abbrev four_exports : List Export
four_exports =
    call_of (finish 1) alone ∷ call_of (call (fun 1 1 ∷ atom 3 ∷ [])) (index (7 ∷ []))
    ∷ counts_into (9 ∷ 9 ∷ 9 ∷ 7 ∷ []) ∷ counts_into (9 ∷ []) ∷ []

pub exports-shown :
    zip_with seen_as four_exports (edition_trace 1 4 2 1 (map request_of four_exports))
    ≡ word_seen (263 * 2 ^ 32) 1 0 []
    ∷ word_seen (2 ^ 32 + 1) 4 1 []
    ∷ word_seen (8 * 2 ^ 32 + 3) 4 1 (4 ∷ 1 ∷ 0 ∷ 7 ∷ [])
    ∷ word_seen (268 * 2 ^ 32 + 3) 4 1 (9 ∷ [])
    ∷ []
unfolding zip_with word counting counts_reply counts_out trace step counted called fits appended nodes answer_nodes
    answers_to number subgoal_of settled distinct prefixes union add has all_inits inits judged naming handed_on reading
    callable predicate taken stored_of compact_form are_terms pair_form form_terms front symbolic token_of items entered
    filled last_of tail_of into inside collected whole reads begun applied paired shape_of arity_of every compact
    elements pairs numbered renamed met seen rank same
exports-shown = refl
