-- The program prints the session of its input's lines: line after line first, then byte after byte.
use Rattle.std.specs.Prelude.{Err, Ok}
use Prim.Native.Nat.{ℕ, suc, zero, ◌+◌, ◌≤◌, ◌<◌}
use mathlib.Core.Bool.{Bool, true, false}
use mathlib.Core.List.{List, [], ◌∷◌, ◌++◌, append_assoc}
use mathlib.Core.Path.{◌≡◌, refl, sym, ap, ◌∙◌}
use native.Mathlib.Omega.{arith}
use lib.Dec.{eqb, leb}
use lib.ListN.{length, take, drop, set, length-append, length-drop, length-set}
use lib.Seq.{take_all, take-nil, take-append_seam, length-take-le, length_front}
use borrow.Author.Tests.{le-leb, leb-true, leb-false, eq-eqb, ne_eqb}
use Rattle.basis.specs.Choice.{pick}
use Rattle.basis.specs.Editions.{known_edition}
use Rattle.basis.proofs.Cases.{by_cases}
use Rattle.forms.specs.Compact.{same}
use Rattle.plain.specs.Requests.{Request, call_least, call, answer, finish, next, load, instance, counts, join, why, detours, lent}
use Rattle.space.specs.Layout.{sizes_of, subgoal_width, answer_width}
use Rattle.space.specs.Heading.{in_range, Header}
use Rattle.space.specs.Fresh.{fresh_fits, fresh_answer, fresh_answer_in}
use Rattle.space.specs.Heading.{space_header}
use Rattle.store.specs.Decisions.{Decision, says as decides, gives, enters_subgoal, enters_answer, enters_empty, finishes, enters_answers, decide}
use Rattle.store.specs.Calls.{out_after, under_by, under_any, under_any_by, space_step, space_step_by}
use Rattle.store.specs.Views.{view_of}
use Rattle.plain.specs.Coding.{coding_of}
use Rattle.text.specs.Fields.{Fields, fields, Number, no_number, some_number, Cells, no_cells, some_cells, first_number, behind, only_number, hex_cells}
use Rattle.text.specs.Cutting.{newline, Lines, lines_from, last_line, lines_of, concatenated, kept_more, Took, taking, Keeps}
use Rattle.text.specs.declared.Taking.{Taking}
use Rattle.text.specs.declared.Taking.TheVariants.{Line, More}
use Rattle.text.proofs.CuttingLaws.{keeps-more, lines_end, lines-on, taking-end, taking-on, rest-behind}
use Rattle.asking.specs.Lines.{Meaning, bad, asks, with_cells, with_number, longest_line, means_counts, word_means, means, word_call, word_answer, word_finish, word_next, word_load, word_instance, word_counts, word_why}
use Rattle.replies.specs.Texts.{text_room}
use Rattle.session.specs.Numbers.{session_nodes, session_subgoals, session_answers, start_space}
use Rattle.asking.specs.Saying.{Said, out_left, said_of}
use Rattle.session.specs.Session.{session, Response, responding}
use Rattle.session.specs.Program.{responses, Responded, Holding, Turn, turn, with_line, answers_line, keeps_byte, feed, last_printed, runs, goes_on, TurnByTurn, Ready, starts, AnyInput, Lengths, Started, Sessions}
use Rattle.session.proofs.LineLaws.{means-long}
use Rattle.session.proofs.Theorem.{printed}

-- ---- a call leaves out as long as it was lent

out-after : (d : Decision) (out : List ℕ) → length (out_after d out) ≡ length out
unfolding out_after
out-after (decides r) out = refl
out-after (gives ks) out =
    by_cases (leb (length ks) (length out))
    (λ t. rw t (length_front out ks (length ks) (sym (length-take-le (length ks) out (leb-true (length ks) (length out) t)))))
    (λ t. rw t refl)
out-after (enters_subgoal parent last left m) out = refl
out-after (enters_answer s parent last left) out = refl
out-after (enters_empty s) out = refl
out-after (finishes s) out = refl
out-after (enters_answers s ws) out = refl

under-out : (cs : List ℕ) (q : Request) (h : Header) → length (under_any cs q h).out ≡ length (lent q)
unfolding under_any_by under_by
under-out cs q (Ok h) = out-after (decide (coding_of h.edition) (view_of (sizes_of h.edition) cs h) q) (lent q)
under-out cs q (Err r) = refl

step-out : (cs : List ℕ) (q : Request) → length (space_step cs q).out ≡ length (lent q)
unfolding space_step_by
step-out cs q = under-out cs q (space_header cs)

-- ---- a line leaves out as long as it was

-- a call that is lent no out, or this one
abbrev Lends : List ℕ → Meaning → Type 0
Lends out bad = Unit {0}
Lends out (asks q) = length (out_left q out (lent q)) ≡ length out

left-alike : (q : Request) (out o p : List ℕ) → length o ≡ length p → length (out_left q out o) ≡ length (out_left q out p)
left-alike (call_least cs x) out o p e = refl
left-alike (answer s cs) out o p e = refl
left-alike (finish s) out o p e = refl
left-alike (next s a) out o p e = refl
left-alike (load a o') out o p e = e
left-alike (instance a o') out o p e = e
left-alike counts out o p e = refl
left-alike (join f g ps s ks) out o p e = refl
left-alike (why ks) out o p e = refl
left-alike (detours gs b) out o p e = refl

said-out : (m : Meaning) (space out : List ℕ) → Lends out m → length (said_of space_step m space out).out ≡ length out
unfolding said_of
said-out bad space out l = refl
said-out (asks q) space out l = left-alike q out (space_step space q).out (lent q) (step-out space q) ∙ l

module _ (out : List ℕ) where
  picks-lend : (b : Bool) (m n : Meaning) → Lends out m → Lends out n → Lends out (pick b m n)
  picks-lend true m n l k = l
  picks-lend false m n l k = k

  cells-lend : (q : List ℕ → Request) → ((ks : List ℕ) → Lends out (asks (q ks))) → (cs : Cells) → Lends out (with_cells cs q)
  cells-lend q l no_cells = tt
  cells-lend q l (some_cells ks) = l ks

  number-lends : (m : ℕ → Meaning) → ((n : ℕ) → Lends out (m n)) → (k : Number) → Lends out (with_number k m)
  number-lends m l no_number = tt
  number-lends m l (some_number n) = l n

  counts-lend : (fs : List (List ℕ)) → Lends out (means_counts fs)
  counts-lend [] = refl
  counts-lend (f ∷ fs) = tt

  word-lends : (r : Fields) → Lends out (word_means r out)
  unfolding word_means lent
  word-lends r =
      let fs = r.others in
      picks-lend (same r.first word_call) _ _ (cells-lend call (λ ks. refl) (hex_cells fs))
      (picks-lend (same r.first word_answer) _ _
      (number-lends (λ n. with_cells (hex_cells (behind fs)) (answer n)) (λ n. cells-lend (answer n) (λ ks. refl) (hex_cells (behind fs))) (first_number fs))
      (picks-lend (same r.first word_finish) _ _ (number-lends (λ n. asks (finish n)) (λ n. refl) (only_number fs))
      (picks-lend (same r.first word_next) _ _
      (number-lends (λ n. with_number (only_number (behind fs)) (λ k. asks (next n k))) (λ n. number-lends (λ k. asks (next n k)) (λ k. refl) (only_number (behind fs))) (first_number fs))
      (picks-lend (same r.first word_load) _ _ (number-lends (λ a. asks (load a out)) (λ a. refl) (only_number fs))
      (picks-lend (same r.first word_instance) _ _ (number-lends (λ a. asks (instance a out)) (λ a. refl) (only_number fs))
      (picks-lend (same r.first word_counts) _ _ (counts-lend fs)
      (picks-lend (same r.first word_why) _ _ (cells-lend why (λ ks. refl) (hex_cells fs)) tt)))))))

  line-lends : (line : List ℕ) → Lends out (means line out)
  unfolding means
  line-lends line = picks-lend (leb (length line) longest_line) _ _ (word-lends (fields line)) tt

pub out-kept : (line space out : List ℕ) → length (said_of space_step (means line out) space out).out ≡ length out
out-kept line space out = said-out (means line out) space out (line-lends out line)

-- ---- one response

module _ (line text space out : List ℕ) (room : text_room (length out) ≤ length text) where
  abbrev said : Said (List ℕ)
  said = said_of space_step (means line out) space out

  abbrev got : Response
  got = responding line text space out

  pub response-printed : take got.printed got.text ≡ said.text ++ (newline ∷ [])
  unfolding responding
  response-printed = rw (le-leb _ _ room) (take-append_seam (said.text ++ (newline ∷ [])) _)

  pub response-space : got.space ≡ said.state
  unfolding responding
  response-space = rw (le-leb _ _ room)

  pub response-out : got.out ≡ said.out
  unfolding responding
  response-out = rw (le-leb _ _ room)

  longer : (bytes : List ℕ) → length text ≤ length (bytes ++ drop (length bytes) text)
  longer bytes = simp (length-append, length-drop) (omega arith)

  text-longer : length text ≤ length got.text
  unfolding responding
  text-longer = rw (le-leb _ _ room) (longer (said.text ++ (newline ∷ [])))

  pub response-room : text_room (length got.out) ≤ length got.text
  response-room =
      let n : length got.out ≡ length out = ap length response-out ∙ out-kept line space out in
      omega (arith, text-longer)

pub responded : Responded
unfolding responses session
responded [] text space out room = refl
responded (line ∷ lines) text space out room =
    let r = responding line text space out in
    let s = said_of space_step (means line out) space out in
    let e = responded lines r.text r.space r.out (response-room line text space out room) in
    rw (response-printed line text space out room, e, response-space line text space out room, response-out line text space out room)
    (append_assoc s.text (newline ∷ []) (session space_step lines s.state s.out))

-- ---- a line cut off behind the longest means the same

pub means-cut : (line out : List ℕ) (most : ℕ) → longest_line < most → means (take most line) out ≡ means line out
means-cut line out most h =
    by_cases (leb (length line) most)
    (λ t. ap (λ (l : List ℕ). means l out) (take_all most line (leb-true (length line) most t)))
    (λ t. let more = leb-false (length line) most t in
    let cut : length (take most line) ≡ most = length-take-le most line (omega (arith, more)) in
    means-long (take most line) out (omega arith) ∙ sym (means-long line out (omega (arith, more))))

-- ---- chunks

-- a turn and what follows it
abbrev pub then : Turn → (Holding → Turn) → Turn
then r later = turn (r.printed ++ (later r.holds).printed) (later r.holds).holds

pub feed-append : (xs ys : List ℕ) (p : Holding) → feed (xs ++ ys) p ≡ then (feed xs p) (feed ys)
unfolding feed
feed-append [] ys p = refl
feed-append (b ∷ xs) ys p =
    let now = pick (eqb b newline) (answers_line p) (keeps_byte b p) in
    let r = feed xs now.holds in
    ap (λ (t : Turn). turn (now.printed ++ t.printed) t.holds) (feed-append xs ys now.holds)
    ∙ ap (λ (l : List ℕ). turn l (feed ys r.holds).holds) (sym (append_assoc now.printed r.printed (feed ys r.holds).printed))

module _ (bs : List ℕ) (p : Holding) (b : ℕ) where
  feed-end : eqb b newline ≡ true → feed (b ∷ bs) p ≡ then (answers_line p) (feed bs)
  unfolding feed
  feed-end t = rw t

  feed-on : eqb b newline ≡ false → feed (b ∷ bs) p ≡ feed bs (keeps_byte b p).holds
  unfolding feed
  feed-on t = rw t

session-line : (line : List ℕ) (lines : List (List ℕ)) (space out : List ℕ)
    → (let r = said_of space_step (means line out) space out in r.text ++ (newline ∷ session space_step lines r.state r.out))
    ≡ session space_step (line ∷ lines) space out
unfolding session
session-line line lines space out = refl

-- all that is printed for a list of bytes
abbrev fed_whole : List ℕ → Holding → List ℕ
fed_whole bs p = (feed bs p).printed ++ last_printed (feed bs p).holds

runs-joined : (chunks : List (List ℕ)) (p : Holding) → runs chunks p ≡ fed_whole (concatenated chunks) p
unfolding runs feed
runs-joined [] p = refl
runs-joined (c ∷ cs) p =
    let r = feed c p in
    let later = feed (concatenated cs) r.holds in
    ap (λ (l : List ℕ). r.printed ++ l) (runs-joined cs r.holds)
    ∙ sym (append_assoc r.printed later.printed (last_printed later.holds))
    ∙ ap (λ (t : Turn). t.printed ++ last_printed t.holds) (sym (feed-append c (concatenated cs) p))

-- ---- a line answered

keeps-none : (line : List ℕ) → Keeps line 0 []
keeps-none line = (omega arith, sym (take-nil (length line)))

module _ (p : Holding) (begun : List ℕ) (k : Keeps p.line p.kept begun) (ready : Ready p.line p.text p.out) where
  abbrev kept_line : List ℕ
  kept_line = take p.kept p.line

  abbrev line-said : Said (List ℕ)
  line-said = said_of space_step (means begun p.out) p.space p.out

  said-alike : said_of space_step (means kept_line p.out) p.space p.out ≡ line-said
  said-alike =
      ap (λ (m : Meaning). said_of space_step m p.space p.out)
      (ap (λ (l : List ℕ). means l p.out) k.1 ∙ means-cut begun p.out (length p.line) ready.longer)

  line-printed : (answers_line p).printed ≡ line-said.text ++ (newline ∷ [])
  line-printed =
      response-printed kept_line p.text p.space p.out ready.room
      ∙ ap (λ (r : Said (List ℕ)). r.text ++ (newline ∷ [])) said-alike

  line-space : (answers_line p).holds.space ≡ line-said.state
  line-space = response-space kept_line p.text p.space p.out ready.room ∙ ap (λ (r : Said (List ℕ)). r.state) said-alike

  line-out : (answers_line p).holds.out ≡ line-said.out
  line-out = response-out kept_line p.text p.space p.out ready.room ∙ ap (λ (r : Said (List ℕ)). r.out) said-alike

  line-ready : Ready p.line (answers_line p).holds.text (answers_line p).holds.out
  line-ready = record { longer = ready.longer; room = response-room kept_line p.text p.space p.out ready.room }

-- ---- the input's end

some-taken : (n b : ℕ) (bs : List ℕ) → 0 < n → 0 < length (take n (b ∷ bs))
some-taken zero b bs h = absurd (omega arith)
some-taken (suc n) b bs h = omega arith

last_line_lem : (p : Holding) (begun : List ℕ) → Keeps p.line p.kept begun → Ready p.line p.text p.out
    → last_printed p ≡ session space_step (last_line begun) p.space p.out
unfolding session
last_line_lem p [] k ready =
    let none : p.kept ≡ 0 = sym (length-take-le p.kept p.line k.0) ∙ ap length (k.1 ∙ take-nil (length p.line)) in
    rw (eq-eqb p.kept 0 none)
last_line_lem p (b ∷ bs) k ready =
    let n : p.kept ≡ length (take (length p.line) (b ∷ bs)) = sym (length-take-le p.kept p.line k.0) ∙ ap length k.1 in
    let some : 0 < p.kept = omega (arith, some-taken (length p.line) b bs (omega (arith, ready.longer))) in
    rw (ne_eqb p.kept 0 (λ e. omega arith)) (line-printed p (b ∷ bs) k ready)

-- ---- byte after byte

-- a line's text and newline, and what the rest prints
joins : (a b c t : List ℕ) (rest : List ℕ → List ℕ → List ℕ) (s s' o o' : List ℕ) → a ≡ t ++ (newline ∷ []) → b ++ c ≡ rest s o
    → s ≡ s' → o ≡ o' → (a ++ b) ++ c ≡ t ++ (newline ∷ rest s' o')
joins a b c t rest s s' o o' ea eb es eo =
    append_assoc a b c
    ∙ ap (λ (l : List ℕ). l ++ (b ++ c)) ea
    ∙ ap (λ (l : List ℕ). (t ++ (newline ∷ [])) ++ l) (eb ∙ ap (λ (x : List ℕ). rest x o) es ∙ ap (λ (x : List ℕ). rest s' x) eo)
    ∙ append_assoc t (newline ∷ []) (rest s' o')

abbrev all_lines : Lines → List (List ℕ)
all_lines r = r.ended ++ last_line r.begun

fed : (bs : List ℕ) (p : Holding) (begun : List ℕ) → Keeps p.line p.kept begun → Ready p.line p.text p.out
    → fed_whole bs p ≡ session space_step (all_lines (lines_from begun bs)) p.space p.out
fed [] p begun k ready = unfold feed lines_from in last_line_lem p begun k ready
fed (b ∷ bs) p begun k ready =
    by_cases (eqb b newline)
    (λ t.
    let h = (answers_line p).holds in
    rw (feed-end bs p b t, lines_end begun bs b t)
    (joins (answers_line p).printed (feed bs h).printed (last_printed (feed bs h).holds) (line-said p begun k ready).text
    (session space_step (all_lines (lines_from [] bs))) h.space (line-said p begun k ready).state h.out (line-said p begun k ready).out
    (line-printed p begun k ready)
    (fed bs h [] (keeps-none p.line) (line-ready p begun k ready))
    (line-space p begun k ready) (line-out p begun k ready)
    ∙ session-line begun (all_lines (lines_from [] bs)) p.space p.out))
    (λ t.
    rw (feed-on bs p b t, lines-on begun bs b t)
    (fed bs (keeps_byte b p).holds (begun ++ (b ∷ [])) (keeps-more p.line begun p.kept b k)
    (record { longer = rw (length-set p.line p.kept b) ready.longer; room = ready.room })))

pub any-input : AnyInput
any-input chunks line text space out ready =
    runs-joined chunks (starts line text space out)
    ∙ fed (concatenated chunks) (starts line text space out) [] (keeps-none line) ready

-- ---- the program's numbers

pub started : Started
unfolding known_edition fresh_answer_in fresh_answer fresh_fits in_range subgoal_width answer_width
started s e = rw e

ready : (line text space out : List ℕ) → Lengths line text space out → Ready line text out
ready line text space out l =
    record { longer = omega (arith, l.of-line); room = omega (arith, l.of-text, l.of-out) }

pub sessions : Sessions
sessions chunks line text space out l =
    any-input chunks line text (start_space space) out (ready line text space out l)
    ∙ printed session_nodes session_subgoals session_answers space (lines_of (concatenated chunks)) out (started space l.of_space)

-- ---- the program's turns

-- a buffer and a count put in the place of others
goes-alike : (chunk : List ℕ) (p : Holding) (line : List ℕ) (kept : ℕ) (after : List ℕ) (r : Taking)
    → goes_on chunk (with_line p line kept) after r ≡ goes_on chunk p after r
goes-alike chunk p line kept after (Line place n) = refl
goes-alike chunk p line kept after (More n) = refl

turns : (bs chunk : List ℕ) (at : ℕ) (p : Holding) → bs ≡ drop at chunk
    → feed bs p ≡ goes_on chunk p (taking bs at p.line p.kept).line (taking bs at p.line p.kept).answer
turns [] chunk at p e = unfold feed taking in refl
turns (b ∷ bs) chunk at p e =
    by_cases (eqb b newline)
    (λ t.
    rw (feed-end bs p b t, taking-end bs p.line at p.kept b t)
    (ap (λ (l : List ℕ). then (answers_line p) (feed l)) (rest-behind chunk bs at b e)))
    (λ t.
    let line = set p.line p.kept b in
    let kept = kept_more p.line p.kept in
    let r = taking bs (at + 1) line kept in
    rw (feed-on bs p b t, taking-on bs p.line at p.kept b t)
    (turns bs chunk (at + 1) (with_line p line kept) (rest-behind chunk bs at b e)
    ∙ goes-alike chunk p line kept r.line r.answer))

pub turn-by-turn : TurnByTurn
turn-by-turn chunk at p = turns (drop at chunk) chunk at p refl

-- the bytes up to the newline where a line ends, and what they leave
pub record LineFed (bs behind : List ℕ) (p : Holding) (line : List ℕ) (n : ℕ) : Type 0 where
  pub front : List ℕ
  pub splits : bs ≡ front ++ behind
  pub feeds : (feed front p).holds ≡ (answers_line (with_line p line n)).holds

abbrev pub LineEnds : (chunk bs : List ℕ) → Holding → List ℕ → Taking → Type 0
LineEnds chunk bs p line (Line place n) = LineFed bs (drop place chunk) p line n
LineEnds chunk bs p line (More n) = Unit {0}

ends_on : (chunk bs : List ℕ) (p : Holding) (b : ℕ) (line : List ℕ) (r : Taking) → eqb b newline ≡ false
    → LineEnds chunk bs (keeps_byte b p).holds line r → LineEnds chunk (b ∷ bs) p line r
ends_on chunk bs p b line (Line place n) t k = record {
  front = b ∷ k.front;
  splits = ap (λ (l : List ℕ). b ∷ l) k.splits;
  feeds = ap (λ (x : Turn). x.holds) (feed-on k.front p b t) ∙ k.feeds;
}
ends_on chunk bs p b line (More n) t k = tt

ends-here : (chunk bs : List ℕ) (at : ℕ) (p : Holding) (b : ℕ) → eqb b newline ≡ true → bs ≡ drop (at + 1) chunk
    → LineFed (b ∷ bs) (drop (at + 1) chunk) p p.line p.kept
unfolding feed
ends-here chunk bs at p b t e = record {
  front = b ∷ [];
  splits = ap (λ (l : List ℕ). b ∷ l) e;
  feeds = rw t;
}

lines-end-all : (bs chunk : List ℕ) (at : ℕ) (p : Holding) → bs ≡ drop at chunk
    → (let r = taking bs at p.line p.kept in LineEnds chunk bs p r.line r.answer)
lines-end-all [] chunk at p e = unfold taking in tt
lines-end-all (b ∷ bs) chunk at p e =
    by_cases (eqb b newline)
    (λ t. rw (taking-end bs p.line at p.kept b t) (ends-here chunk bs at p b t (rest-behind chunk bs at b e)))
    (λ t.
    let r = taking bs (at + 1) (set p.line p.kept b) (kept_more p.line p.kept) in
    rw (taking-on bs p.line at p.kept b t)
    (ends_on chunk bs p b r.line r.answer t
    (lines-end-all bs chunk (at + 1) (keeps_byte b p).holds (rest-behind chunk bs at b e))))

pub line-ends : (chunk : List ℕ) (at : ℕ) (p : Holding) (r : Took) → r ≡ taking (drop at chunk) at p.line p.kept
    → LineEnds chunk (drop at chunk) p r.line r.answer
line-ends chunk at p r e = rw e (lines-end-all (drop at chunk) chunk at p refl)
