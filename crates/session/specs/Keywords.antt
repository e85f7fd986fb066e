-- Which call a line's first word asks for, and what the functions behind `respond` leave of a line.
use Rattle.std.specs.Prelude.{ℕ, List}
use Rattle.basis.specs.Choice.{pick}
use Rattle.forms.specs.Compact.{same}
use Rattle.store.specs.Calls.{space_step}
use Rattle.text.specs.Digits.{Puts}
use Rattle.text.specs.Fields.{fields}
use Rattle.asking.specs.Lines.{word_means, means}
use Rattle.asking.specs.Lines.{word_call, word_answer, word_finish, word_next, word_load, word_instance, word_counts}
use Rattle.asking.specs.Lines.{word_why}
use Rattle.asking.specs.Saying.{Said, said_of}
use Rattle.session.specs.declared.Keyword.{Keyword}
use Rattle.session.specs.declared.Keyword.TheVariants as keyword

-- which call a line's first word asks for
abbrev pub keyword_of : List ℕ → Keyword
keyword_of w =
    pick (same w word_call) keyword.Call
    (pick (same w word_answer) keyword.Answer
    (pick (same w word_finish) keyword.Finish
    (pick (same w word_next) keyword.Next
    (pick (same w word_load) keyword.Load
    (pick (same w word_instance) keyword.Instance
    (pick (same w word_counts) keyword.Counts
    (pick (same w word_why) keyword.Why keyword.Other)))))))

-- what is said of a line by its first word, and of a line of any length; and that it is put at the start of the text
abbrev pub word_said : List ℕ → List ℕ → List ℕ → Said (List ℕ)
word_said line space out = said_of space_step (word_means (fields line) out) space out

abbrev pub line_said : List ℕ → List ℕ → List ℕ → Said (List ℕ)
line_said line space out = said_of space_step (means line out) space out

abbrev pub WordPuts : List ℕ → List ℕ → List ℕ → List ℕ → ℕ → List ℕ → Type 0
WordPuts line space out text end text' = Puts 0 (word_said line space out).text text end text'

abbrev pub LinePuts : List ℕ → List ℕ → List ℕ → List ℕ → ℕ → List ℕ → Type 0
LinePuts line space out text end text' = Puts 0 (line_said line space out).text text end text'
