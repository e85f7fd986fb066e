-- What a line asks for by its first word, what is left of out, and the response to a line.
use Prim.Native.Nat.{ℕ, ◌+◌, ◌-◌, ◌/◌, ◌≤◌, ◌<◌}
use mathlib.Core.List.{List, [], ◌∷◌, ◌++◌}
use mathlib.Core.Bool.{true, false}
use mathlib.Core.Path.{◌≡◌, refl, sym, ap, ◌∙◌}
use native.Mathlib.Omega.{arith}
use lib.ListN.{length, take, drop, set, length-append, length-set}
use lib.Seq.{sets, sets-eq, length-sets}
use lib.Dec.{leb}
use borrow.Author.Tests.{le-leb, lt-leb, leb-true, leb-false}
use Rattle.basis.proofs.Cases.{by_cases}
use Rattle.forms.specs.Compact.{same}
use Rattle.text.specs.Fields.{Fields, fields, Number, no_number, some_number, Cells, no_cells, some_cells, first_number, behind, only_number, hex_cells}
use Rattle.text.specs.Digits.{Puts}
use Rattle.text.specs.Places.{rest_at, EndsFirst}
use Rattle.basis.proofs.SetsLaws.{sets-append}
use Rattle.plain.specs.Requests.{Request, call, answer, finish, next, counts, why}
use Rattle.store.specs.Calls.{space_step}
use Rattle.asking.specs.Lines.{Meaning, bad, asks, with_cells, with_number, one_number, two_numbers, number_and_cells, no_field, word_call, word_answer, word_finish, word_next, word_load, word_instance, word_counts, word_why, word_means, means, means_call, means_answer, means_finish, means_next, means_load, means_instance, means_counts, means_why}
use Rattle.text.specs.Cutting.{newline}
use Rattle.replies.specs.Texts.{reply_bytes, text_room}
use Rattle.asking.specs.Saying.{Said, out_left, said_of}
use Rattle.asking.specs.Asking.{Prints}
use Rattle.asking.proofs.AskingLaws.{bad-out, asks-out}
use Rattle.session.specs.Session.{Response, response, responding}
use Rattle.session.specs.Keywords.{WordPuts, word_said, keyword_of}
use Rattle.session.specs.declared.Keyword.{Keyword}
use Rattle.session.specs.declared.Keyword.TheVariants as keyword

-- what is printed and the space, and out: one after another
pub flat : {A B C : Type 0} → (A × B) × C → A × (B × C)
flat p = (p.0.0, (p.0.1, p.1))

-- ---- the calls that leave out

module _ (space out : List ℕ) where
  abbrev Keeps : Meaning → Type 0
  Keeps m = out ≡ (said_of space_step m space out).out

  bad-keeps : Keeps bad
  bad-keeps = bad-out space out bad refl

  asks-keeps : (q : Request) → ((o : List ℕ) → out_left q out o ≡ out) → Keeps (asks q)
  asks-keeps q k = sym (k _) ∙ asks-out space out (asks q) q refl

  cells-keep : (q : List ℕ → Request) → ((ks o : List ℕ) → out_left (q ks) out o ≡ out) → (cs : Cells) → Keeps (with_cells cs q)
  cells-keep q k no_cells = bad-keeps
  cells-keep q k (some_cells ks) = asks-keeps (q ks) (k ks)

  number-keeps : (m : ℕ → Meaning) → ((n : ℕ) → Keeps (m n)) → (k : Number) → Keeps (with_number k m)
  number-keeps m k no_number = bad-keeps
  number-keeps m k (some_number n) = k n

  call-keeps : (fs : List (List ℕ)) → Keeps (with_cells (hex_cells fs) call)
  call-keeps fs = cells-keep call (λ ks o. refl) (hex_cells fs)

  why-keeps : (fs : List (List ℕ)) → Keeps (with_cells (hex_cells fs) why)
  why-keeps fs = cells-keep why (λ ks o. refl) (hex_cells fs)

  answer_keeps : (fs : List (List ℕ)) → Keeps (number_and_cells fs answer)
  answer_keeps fs = number-keeps (λ n. with_cells (hex_cells (behind fs)) (answer n)) (λ n. cells-keep (answer n) (λ ks o. refl) (hex_cells (behind fs))) (first_number fs)

  finish-keeps : (fs : List (List ℕ)) → Keeps (one_number fs finish)
  finish-keeps fs = number-keeps (λ n. asks (finish n)) (λ n. asks-keeps (finish n) (λ o. refl)) (only_number fs)

  next-keeps : (fs : List (List ℕ)) → Keeps (two_numbers fs next)
  next-keeps fs =
      number-keeps (λ n. with_number (only_number (behind fs)) (λ k. asks (next n k)))
      (λ n. number-keeps (λ k. asks (next n k)) (λ k. asks-keeps (next n k) (λ o. refl)) (only_number (behind fs)))
      (first_number fs)

  counts-keeps : (fs : List (List ℕ)) → Keeps (no_field fs counts)
  counts-keeps [] = asks-keeps counts (λ o. refl)
  counts-keeps (f ∷ fs) = bad-keeps

-- ---- the first word

-- what the fields behind a keyword mean
abbrev pub means_by : Keyword → List (List ℕ) → List ℕ → Meaning
means_by keyword.Call fs out = means_call fs
means_by keyword.Answer fs out = means_answer fs
means_by keyword.Finish fs out = means_finish fs
means_by keyword.Next fs out = means_next fs
means_by keyword.Load fs out = means_load fs out
means_by keyword.Instance fs out = means_instance fs out
means_by keyword.Counts fs out = means_counts fs
means_by keyword.Why fs out = means_why fs
means_by keyword.Other fs out = bad

keyword-means : (r : Fields) (out : List ℕ) → word_means r out ≡ means_by (keyword_of r.first) r.others out
unfolding word_means
keyword-means r out =
    by_cases (same r.first word_call) (λ a. simp a) (λ a.
    by_cases (same r.first word_answer) (λ b. simp (a, b)) (λ b.
    by_cases (same r.first word_finish) (λ c. simp (a, b, c)) (λ c.
    by_cases (same r.first word_next) (λ d. simp (a, b, c, d)) (λ d.
    by_cases (same r.first word_load) (λ e. simp (a, b, c, d, e)) (λ e.
    by_cases (same r.first word_instance) (λ f. simp (a, b, c, d, e, f)) (λ f.
    by_cases (same r.first word_counts) (λ g. simp (a, b, c, d, e, f, g)) (λ g.
    by_cases (same r.first word_why) (λ h. simp (a, b, c, d, e, f, g, h)) (λ h. simp (a, b, c, d, e, f, g, h)))))))))

-- each keyword by its own test and those before it
module _ (w : List ℕ) where
  abbrev Is : List ℕ → Type 0
  Is word = same w word ≡ true

  abbrev Isnt : List ℕ → Type 0
  Isnt word = same w word ≡ false

  pub is_call : Is word_call → keyword.Call ≡ keyword_of w
  is_call t = simp t

  module _ (n1 : Isnt word_call) where
    pub is-answer : Is word_answer → keyword.Answer ≡ keyword_of w
    is-answer t = simp (n1, t)

    module _ (n2 : Isnt word_answer) where
      pub is-finish : Is word_finish → keyword.Finish ≡ keyword_of w
      is-finish t = simp (n1, n2, t)

      module _ (n3 : Isnt word_finish) where
        pub is-next : Is word_next → keyword.Next ≡ keyword_of w
        is-next t = simp (n1, n2, n3, t)

        module _ (n4 : Isnt word_next) where
          pub is-load : Is word_load → keyword.Load ≡ keyword_of w
          is-load t = simp (n1, n2, n3, n4, t)

          module _ (n5 : Isnt word_load) where
            pub is-instance : Is word_instance → keyword.Instance ≡ keyword_of w
            is-instance t = simp (n1, n2, n3, n4, n5, t)

            module _ (n6 : Isnt word_instance) where
              pub is-counts : Is word_counts → keyword.Counts ≡ keyword_of w
              is-counts t = simp (n1, n2, n3, n4, n5, n6, t)

              module _ (n7 : Isnt word_counts) where
                pub is-why : Is word_why → keyword.Why ≡ keyword_of w
                is-why t = simp (n1, n2, n3, n4, n5, n6, n7, t)

                pub is-other : Isnt word_why → keyword.Other ≡ keyword_of w
                is-other t = simp (n1, n2, n3, n4, n5, n6, n7, t)

-- a line whose first word, up to a place, is this keyword
pub line-means : (line out : List ℕ) (at : ℕ) (k : Keyword) → EndsFirst line at → k ≡ keyword_of (take at line)
    → word_means (fields line) out ≡ means_by k (rest_at line at) out
line-means line out at k e q =
    keyword-means (fields line) out
    ∙ ap (λ (w : List ℕ). means_by (keyword_of w) (fields line).others out) e.1
    ∙ ap (λ (j : Keyword). means_by j (fields line).others out) (sym q)
    ∙ ap (λ (fs : List (List ℕ)). means_by k fs out) (sym e.2)

-- the keywords whose calls are not lent out
abbrev Silent : Keyword → Type 0
Silent keyword.Call = Unit
Silent keyword.Answer = Unit
Silent keyword.Finish = Unit
Silent keyword.Next = Unit
Silent keyword.Load = ⊥
Silent keyword.Instance = ⊥
Silent keyword.Counts = Unit
Silent keyword.Why = Unit
Silent keyword.Other = Unit

silent-keeps : (space out : List ℕ) (fs : List (List ℕ)) (k : Keyword) → Silent k → Keeps space out (means_by k fs out)
silent-keeps space out fs keyword.Call u = call-keeps space out fs
silent-keeps space out fs keyword.Answer u = answer_keeps space out fs
silent-keeps space out fs keyword.Finish u = finish-keeps space out fs
silent-keeps space out fs keyword.Next u = next-keeps space out fs
silent-keeps space out fs keyword.Load u = absurd u
silent-keeps space out fs keyword.Instance u = absurd u
silent-keeps space out fs keyword.Counts u = counts-keeps space out fs
silent-keeps space out fs keyword.Why u = why-keeps space out fs
silent-keeps space out fs keyword.Other u = bad-keeps space out

-- what the call of its keyword prints and leaves is what the line asks for
module _ (line space out : List ℕ) (at : ℕ) (e : EndsFirst line at) (k : Keyword) (q : k ≡ keyword_of (take at line)) where
  abbrev asked : Said (List ℕ)
  asked = said_of space_step (means_by k (rest_at line at) out) space out

  pub keyword-leaves : (text after space' out' : List ℕ) (end : ℕ) → Prints asked text end after space' → out' ≡ asked.out
      → WordPuts line space out text end after × ((space' ≡ (word_said line space out).state) × (out' ≡ (word_said line space out).out))
  keyword-leaves text after space' out' end p o = rw (line-means line out at k e q) (p.0, (p.1, o))

  pub silent-leaves : Silent k → (text after space' : List ℕ) (end : ℕ) → Prints asked text end after space'
      → WordPuts line space out text end after × ((space' ≡ (word_said line space out).state) × (out ≡ (word_said line space out).out))
  silent-leaves u text after space' end p = keyword-leaves text after space' out end p (silent-keeps space out (rest_at line at) k u)

-- ---- the line's length

pub means-short : (line out : List ℕ) → length line ≤ 4096 → means line out ≡ word_means (fields line) out
unfolding means
means-short line out h = rw (le-leb _ _ h)

pub means-long : (line out : List ℕ) → 4096 < length line → means line out ≡ bad
unfolding means
means-long line out h = rw (lt-leb _ _ h)

-- ---- the response

module _ (line text space out after : List ℕ) (end : ℕ) where
  abbrev answered : Said (List ℕ)
  answered = said_of space_step (means line out) space out

  pub response-none : length text < text_room (length out) → response 0 text space out ≡ responding line text space out
  unfolding responding
  response-none h = rw (lt-leb _ _ h)

  -- a line put at the start of the text, and a newline behind it
  line-put : (bytes : List ℕ) → Puts 0 bytes text end after
      → (end + 1 ≡ length (bytes ++ (newline ∷ []))) × (set after end newline ≡ (bytes ++ (newline ∷ [])) ++ drop (length (bytes ++ (newline ∷ []))) text)
  line-put bytes p =
      let n : length (bytes ++ (newline ∷ [])) ≡ end + 1 = omega (arith, length-append bytes (newline ∷ []), p.0) in
      let whole : set after end newline ≡ sets text 0 (bytes ++ (newline ∷ [])) =
      ap (λ (w : List ℕ). set w end newline) p.1 ∙ ap (λ (j : ℕ). set (sets text 0 bytes) j newline) p.0 ∙ sym (sets-append bytes (newline ∷ []) text 0) in
      let zero-add : 0 + length (bytes ++ (newline ∷ [])) ≡ length (bytes ++ (newline ∷ [])) = omega arith in
      (sym n, whole ∙ sets-eq (bytes ++ (newline ∷ [])) text 0 (omega (arith, p.2)) ∙ ap (λ (j : ℕ). (bytes ++ (newline ∷ [])) ++ drop j text) zero-add)

  pub response-line : (space' out' : List ℕ) → text_room (length out) ≤ length text → Prints answered text end after space' → out' ≡ answered.out
      → response (end + 1) (set after end newline) space' out' ≡ responding line text space out
  unfolding responding
  response-line space' out' h l o = rw (le-leb _ _ h, (line-put answered.text l.0).0, (line-put answered.text l.0).1, l.1, o)

pub response-parts : (n : ℕ) (text space out : List ℕ) (r : Response) → response n text space out ≡ r
    → (n ≡ r.printed) × (text ≡ r.text) × (space ≡ r.space) × (out ≡ r.out)
response-parts n text space out r e =
    (ap (λ (x : Response). x.printed) e, ap (λ (x : Response). x.text) e, ap (λ (x : Response). x.space) e, ap (λ (x : Response). x.out) e)

-- ---- room

pub room-short : (cells bytes : ℕ) → bytes < reply_bytes → false ≡ leb (text_room cells) bytes
room-short cells bytes h = sym (lt-leb (text_room cells) bytes (omega arith))

pub room-left : (cells bytes : ℕ) → reply_bytes ≤ bytes → leb cells ((bytes - reply_bytes) / 9) ≡ leb (text_room cells) bytes
room-left cells bytes h =
    by_cases (leb cells ((bytes - reply_bytes) / 9))
    (λ t. t ∙ sym (le-leb (text_room cells) bytes (omega (arith, leb-true cells ((bytes - reply_bytes) / 9) t))))
    (λ t. t ∙ sym (lt-leb (text_room cells) bytes (omega (arith, leb-false cells ((bytes - reply_bytes) / 9) t))))

pub line-within : (bytes text after : List ℕ) (end : ℕ) → Puts 0 bytes text end after → end + 1 ≤ length (set after end newline)
line-within bytes text after end p = omega (arith, p.2, length-set after end newline, ap length p.1 ∙ length-sets text 0 bytes)
