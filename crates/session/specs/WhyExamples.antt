-- A session with lines of why, over a space that its one subgoal fills.
use Rattle.std.specs.Prelude.{ℕ, List, [], ◌++◌, ◌≡◌, refl, replicate}
use Rattle.basis.specs.Editions.{known_edition}
use Rattle.forms.specs.Numbering.{rank, seen, met, renamed, numbered}
use Rattle.forms.specs.Compact.{compact, elements, compact_form, filled, last_of, tail_of, inside, into, collected}
use Rattle.forms.specs.Compact.{entered, items, front, form_terms, pair_form, same}
use Rattle.forms.specs.Cells.{arity_of, callable, shape_of, symbolic, token_of}
use Rattle.forms.specs.Terms.{pairs, every, applied, paired, begun, reads, are_terms}
use Rattle.forms.specs.Converting.{reading}
use Rattle.forms.specs.Stored.{stored_of}
use Rattle.plain.specs.Coding.{judged, naming, handed_on, predicate, taken}
use Rattle.plain.specs.Requests.{lent}
use Rattle.space.specs.Layout.{subgoal_width, answer_width}
use Rattle.space.specs.Heading.{in_range, capacity, whole, counted, header_of, space_header}
use Rattle.space.specs.Fresh.{fresh_cells, fresh_fits, fresh_space, fresh_space_in}
use Rattle.space.specs.Judging.{follows, node_sound, both_or_neither, subgoal_sound}
use Rattle.trie.specs.Siblings.{search_siblings, search_children}
use Rattle.trie.specs.Walks.{walk_from_by, walk_by}
use Rattle.trie.specs.Append.{lead_cell, append_node, append_path}
use Rattle.store.specs.Decisions.{called_old, called_new, called_at, called_by, firsts_from, named_by, new_at}
use Rattle.store.specs.Decisions.{reasoned_at}
use Rattle.store.specs.Decisions.{reasoned_by, decide_by}
use Rattle.store.specs.Changes.{subgoal_entered, change_by}
use Rattle.store.specs.Calls.{reply, out_after, under_by, under_any_by, space_step_by}
use Rattle.text.specs.Fields.{fields, value_from, numeral, hex_cells}
use Rattle.text.specs.Digits.{digits_before, cell_texts}
use Rattle.text.specs.Letters.{letters}
use Rattle.text.specs.Cutting.{lines_from, lines_of}
use Rattle.asking.specs.Lines.{word_means, means}
use Rattle.asking.specs.Saying.{said_of}
use Rattle.replies.specs.Texts.{reply_text, reason_text}
use Rattle.session.specs.Numbers.{session_edition}
use Rattle.session.specs.Session.{session, cell_session}

-- f(X,a) is called; then asked for: f(Y,a), f(Y,b), a, no cells, a variable, a cell too short
abbrev why_input : List ℕ
why_input =
    letters "call 40000012 10000007 20000001\n"
    ++ letters "why 40000012 10000009 20000001\n"
    ++ letters "why 40000012 10000009 20000002\n"
    ++ letters "why 20000001\n"
    ++ letters "why\n"
    ++ letters "why 10000007\n"
    ++ letters "why 2000001\n"

abbrev why_text : List ℕ
why_text =
    letters "new 1\n"
    ++ letters "old 1 10000009\n"
    ++ letters "new 2 1\n"
    ++ letters "new 0 0\n"
    ++ letters "refused 3\n"
    ++ letters "refused 6\n"
    ++ letters "bad\n"

pub asked-why : cell_session (lines_of why_input) (fresh_space_in session_edition 5 1 0 (replicate 39 9)) [] ≡ why_text
unfolding lines_from session said_of means word_means fields value_from numeral hex_cells reply_text reason_text
    digits_before cell_texts lent in_range capacity counted known_edition header_of space_header subgoal_width
    answer_width fresh_cells fresh_fits fresh_space fresh_space_in follows node_sound both_or_neither subgoal_sound
    search_siblings search_children walk_from_by walk_by lead_cell append_node append_path called_old called_new
    called_at called_by firsts_from named_by new_at reasoned_at reasoned_by decide_by subgoal_entered change_by reply
    out_after under_by under_any_by space_step_by judged naming handed_on reading callable predicate taken stored_of
    compact_form are_terms pair_form form_terms front symbolic token_of items entered filled last_of tail_of into inside
    collected reads begun applied paired shape_of arity_of every compact elements pairs numbered renamed met seen rank
    same whole
asked-why = refl
