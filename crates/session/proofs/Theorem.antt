-- A session over cells prints what the plain table would: the promise, line by line.
use Rattle.std.specs.Prelude.{Ok}
use Prim.Native.Nat.{ℕ}
use mathlib.Core.Bool.{true}
use mathlib.Core.List.{List, [], ◌∷◌, ◌++◌}
use mathlib.Core.Path.{◌≡◌, refl, ap}
use Rattle.plain.specs.Coding.{coding_of}
use Rattle.plain.specs.Requests.{Request, Result, left}
use Rattle.plain.specs.Table.{fresh, step}
use Rattle.basis.specs.Editions.{known_edition}
use Rattle.space.specs.Layout.{sizes_of}
use Rattle.space.specs.Fresh.{fresh_answer, fresh_space, fresh_answer_in, fresh_space_in}
use Rattle.store.specs.Calls.{space_step}
use Rattle.agreement.proofs.Theorem.{following}
use Rattle.asking.specs.Lines.{Meaning, bad, asks, means}
use Rattle.text.specs.Cutting.{newline}
use Rattle.replies.specs.Texts.{text_bad, reply_text}
use Rattle.asking.specs.Saying.{out_left, said_of}
use Rattle.session.specs.Session.{session, Printed}

-- a list of calls and one call more
left-more : {S : Type 0} (calls : S → Request → Result S) (s : S) (qs : List Request) (q : Request) → (calls (left calls s qs) q).state ≡ left calls s (qs ++ (q ∷ []))
unfolding left
left-more calls s [] q = refl
left-more calls s (p ∷ qs) q = left-more calls (calls s p).state qs q

one_known : known_edition 1 ≡ true
unfolding known_edition
one_known = refl

module _ (n f a : ℕ) (s : List ℕ) (d : fresh_answer (sizes_of 1) n f a s ≡ Ok tt) where
  abbrev cells_left : List Request → List ℕ
  cells_left qs = left space_step (fresh_space (sizes_of 1) n f a s) qs

  -- a line, where the lines behind it print alike after any calls
  line-alike : (m : Meaning) (lines : List (List ℕ)) (qs : List Request) (out : List ℕ)
      → ((ps : List Request) (out' : List ℕ) → session space_step lines (cells_left ps) out' ≡ session (step (coding_of 1)) lines (left (step (coding_of 1)) (fresh n f a) ps) out')
      → (let r = said_of space_step m (cells_left qs) out in r.text ++ (newline ∷ session space_step lines r.state r.out))
      ≡ (let r = said_of (step (coding_of 1)) m (left (step (coding_of 1)) (fresh n f a) qs) out in r.text ++ (newline ∷ session (step (coding_of 1)) lines r.state r.out))
  unfolding said_of
  line-alike bad lines qs out k = ap (λ (t : List ℕ). text_bad ++ (newline ∷ t)) (k qs out)
  line-alike (asks q) lines qs out k =
      let e = following 1 one_known n f a s qs q d in
      let r = step (coding_of 1) (left (step (coding_of 1)) (fresh n f a) qs) q in
      rw (left-more space_step (fresh_space (sizes_of 1) n f a s) qs q, left-more (step (coding_of 1)) (fresh n f a) qs q, e.0, e.1)
      (ap (λ (t : List ℕ). reply_text r.reply r.out ++ (newline ∷ t)) (k (qs ++ (q ∷ [])) (out_left q out r.out)))

  lines-alike : (lines : List (List ℕ)) (qs : List Request) (out : List ℕ) → session space_step lines (cells_left qs) out ≡ session (step (coding_of 1)) lines (left (step (coding_of 1)) (fresh n f a) qs) out
  unfolding session
  lines-alike [] qs out = refl
  lines-alike (line ∷ lines) qs out = line-alike (means line out) lines qs out (λ ps out'. lines-alike lines ps out')

pub printed : Printed
unfolding left fresh_answer_in fresh_space_in known_edition
printed n f a s lines out d = lines-alike n f a s d lines [] out
