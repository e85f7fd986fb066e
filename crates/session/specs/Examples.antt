-- Lines and what they mean, replies as they are printed, and the worked session of the request.
use Rattle.std.specs.Prelude.{ℕ, List, [], ◌∷◌, ◌++◌, ◌≡◌, refl, replicate}
use Rattle.basis.specs.Editions.{known_edition}
use Rattle.forms.specs.Numbering.{rank, seen, met, renamed, numbered}
use Rattle.forms.specs.Compact.{compact, elements, compact_form, filled, last_of, tail_of, inside, into, collected}
use Rattle.forms.specs.Compact.{entered, items, front, form_terms, pair_form, same}
use Rattle.forms.specs.Cells.{arity_of, callable, shape_of, symbolic, token_of}
use Rattle.forms.specs.Terms.{pairs, every, applied, paired, begun, reads, are_terms}
use Rattle.forms.specs.Converting.{reading}
use Rattle.forms.specs.Compact.{are_forms, legal_form}
use Rattle.forms.specs.Stored.{stored_of}
use Rattle.plain.specs.Coding.{judged, naming, handed_on, predicate, taken, substituted}
use Rattle.space.specs.Layout.{sizes_of, end_offset, subgoal_width, answer_width}
use Rattle.space.specs.Heading.{in_range, capacity, whole, counted, header_of, space_header}
use Rattle.space.specs.Fresh.{fresh_cells, fresh_fits, fresh_space, fresh_space_in}
use Rattle.space.specs.Judging.{follows, node_sound, both_or_neither, subgoal_sound, answer_sound}
use Rattle.trie.specs.Siblings.{search_siblings, search_children}
use Rattle.trie.specs.Walks.{walk_from_by, walk_by}
use Rattle.trie.specs.Paths.{gather}
use Rattle.trie.specs.Append.{lead_cell, append_node, append_path}
use Rattle.store.specs.Decisions.{called_old, called_new, called_at, called_by, answered_new, answered_old, answered_at}
use Rattle.store.specs.Decisions.{answered_by, starting, handed, onward, on_path, loaded, instanced, decide_by}
use Rattle.store.specs.Changes.{subgoal_entered, answer_entered, change_by}
use Rattle.store.specs.Calls.{reply, out_after, under_by, under_any_by, space_step_by}
use Rattle.plain.specs.Requests.{Open, call, next, counts}
use Rattle.plain.specs.Requests.{old_subgoal, cells, used, short, lent}
use Rattle.text.specs.Fields.{fields, value_from, numeral, hex_cells}
use Rattle.text.specs.Digits.{digits_before, cell_texts}
use Rattle.text.specs.Letters.{letters}
use Rattle.text.specs.Cutting.{lines_from, lines_of}
use Rattle.asking.specs.Lines.{word_means, means, bad, asks}
use Rattle.replies.specs.Texts.{reply_text, text_room}
use Rattle.session.specs.Numbers.{session_edition, session_nodes, session_subgoals, session_answers}
use Rattle.session.specs.Numbers.{space_cells, out_cells, text_bytes}
use Rattle.asking.specs.Saying.{said_of}
use Rattle.session.specs.Session.{session, cell_session}
use Rattle.session.specs.Keywords.{keyword_of}
use Rattle.session.specs.declared.Keyword.TheVariants as keyword

-- what lines mean: two spaces, a trailing space, a cell of 7 digits, a number too many and an empty line are bad
pub examples :
    (means (letters "call 20000005") [] ≡ asks (call (0x2000_0005 ∷ [])))
    × (means (letters "call") [] ≡ asks (call []))
    × (means (letters "next 1 12") [] ≡ asks (next 1 12))
    × (means (letters "counts") [] ≡ asks counts)
    × (means (letters "next  1 1") [] ≡ bad)
    × (means (letters "counts ") [] ≡ bad)
    × (means (letters "call 2000000") [] ≡ bad)
    × (means (letters "next 1 1 1") [] ≡ bad)
    × (means [] [] ≡ bad)
    × (reply_text (old_subgoal 1 Open) [] ≡ letters "old 1 open")
    × (reply_text (cells 1) (0x2000_0005 ∷ 7 ∷ []) ≡ letters "cells 20000005")
    × (reply_text (used (record { nodes = 11; subgoals = 1; answers = 2 })) [] ≡ letters "counts 11 1 2")
    × (reply_text (short 9) [] ≡ letters "refused 12")
unfolding means word_means fields value_from numeral hex_cells same reply_text digits_before cell_texts
examples = (refl, refl, refl, refl, refl, refl, refl, refl, refl, refl, refl, refl, refl)

-- the lines of an input: an empty one counts, behind the last newline only what is not empty
pub cut :
    (lines_of (letters "a\n\nbc") ≡ letters "a" ∷ [] ∷ letters "bc" ∷ [])
    × (lines_of (letters "a\n") ≡ letters "a" ∷ [])
    × (lines_of [] ≡ [])
unfolding lines_from
cut = (refl, refl, refl)

-- the program's numbers: its table takes all its space, and its text has room for any reply
pub numbers :
    (end_offset (sizes_of session_edition) session_nodes session_subgoals session_answers ≡ space_cells)
    × (text_room out_cells ≡ 74080)
    × (text_bytes ≡ 74080)
unfolding subgoal_width answer_width
numbers = (refl, refl, refl)

-- a keyword is a whole word
pub keywords :
    (keyword_of (letters "load") ≡ keyword.Load)
    × (keyword_of (letters "counts") ≡ keyword.Counts)
    × (keyword_of (letters "why") ≡ keyword.Why)
    × (keyword_of (letters "loads") ≡ keyword.Other)
    × (keyword_of [] ≡ keyword.Other)
unfolding same
keywords = (refl, refl, refl, refl, refl)

-- the worked session
abbrev session_input : List ℕ
session_input =
    letters "call 40000012 40000021 10000007 40000031 10000009\n"
    ++ letters "call 40000012 40000021 10000009 40000031 10000007\n"
    ++ letters "answer 1 20000005 20000005\n"
    ++ letters "answer 1 20000004 20000004\n"
    ++ letters "answer 1 20000005 20000005\n"
    ++ letters "next 1 1\n"
    ++ letters "instance 2\n"
    ++ letters "finish 1\n"
    ++ letters "answer 1 20000004 20000005\n"
    ++ letters "next 1 2\n"
    ++ letters "counts\n"

abbrev session_text : List ℕ
session_text =
    letters "new 1\n"
    ++ letters "old 1 open\n"
    ++ letters "new 1\n"
    ++ letters "new 2\n"
    ++ letters "old 1\n"
    ++ letters "at 2\n"
    ++ letters "cells 40000012 40000021 20000004 40000031 20000004\n"
    ++ letters "done\n"
    ++ letters "refused 8\n"
    ++ letters "no more\n"
    ++ letters "counts 11 1 2\n"

-- over a space that it fills, and an out of 7 cells
pub worked :
    cell_session (lines_of session_input) (fresh_space_in session_edition 11 1 2 (replicate 75 9)) (replicate 7 0)
    ≡ session_text
unfolding lines_from session said_of means word_means fields value_from numeral hex_cells reply_text digits_before
    cell_texts lent in_range capacity counted known_edition header_of space_header subgoal_width answer_width
    fresh_cells fresh_fits fresh_space fresh_space_in follows node_sound both_or_neither subgoal_sound answer_sound
    search_siblings search_children walk_from_by walk_by gather lead_cell append_node append_path called_old called_new
    called_at called_by answered_new answered_old answered_at answered_by starting handed onward on_path loaded
    instanced decide_by subgoal_entered answer_entered change_by reply out_after under_by under_any_by space_step_by
    are_forms legal_form judged naming handed_on reading callable predicate taken stored_of substituted compact_form
    are_terms pair_form form_terms front symbolic token_of items entered filled last_of tail_of into inside collected
    reads begun applied paired shape_of arity_of every compact elements pairs numbered renamed met seen rank same whole
worked = refl
