-- Laws of what the program holds: how far a chunk has been fed, the input's end, and one read after another.
use Prim.Native.Nat.{ℕ, zero, suc, ◌≤◌, ◌<◌}
use mathlib.Core.List.{List, [], ◌∷◌, ◌++◌, append_assoc, append-nil}
use mathlib.Core.Path.{◌≡◌, refl, sym, ap, ◌∙◌}
use native.Mathlib.Omega.{arith}
use lib.ListN.{length, take, drop, drop_of_length-le}
use lib.Seq.{take-append_seam}
use borrow.Author.Tests.{ne_eqb}
use Rattle.std.specs.Prelude.{Some, None, Ok, Err}
use Rattle.text.specs.Cutting.{Took, took, taking}
use Rattle.text.specs.declared.Taking.TheVariants.{Line, More}
use Rattle.session.specs.Program.{Holding, Turn, with_line, feed, goes_on}
use Rattle.session.proofs.ProgramLaws.{feed-append, LineFed, line-ends, turn-by-turn}
use Rattle.tables.specs.declared.Failed.{Failed}
use Rattle.tables.specs.declared.Session.{Session}
use Rattle.tables.specs.Progress.{Progress, Answered, held, Fed, ends_with, TakesChunk, ReadsSome, ReadsOn}

pub feed-none : (p : Holding) → Fed [] p p
unfolding feed
feed-none p = refl

pub feed-both : (xs ys : List ℕ) (p q r : Holding) → Fed xs p q → Fed ys q r → Fed (xs ++ ys) p r
feed-both xs ys p q r e f =
    ap (λ (t : Turn). t.holds) (feed-append xs ys p) ∙ ap (λ (h : Holding). (feed ys h).holds) e ∙ f

-- ---- a chunk

-- the chunk is fed up to this place
pub record Through (chunk : List ℕ) (at : ℕ) (p q : Holding) : Type 0 where
  pub bytes : List ℕ
  pub splits : chunk ≡ bytes ++ drop at chunk
  pub feeds : Fed bytes p q

pub through-none : (chunk : List ℕ) (p : Holding) → Through chunk 0 p p
through-none chunk p = record { bytes = []; splits = refl; feeds = feed-none p }

module _ {chunk : List ℕ} {at : ℕ} {p q : Holding} (k : Through chunk at p q) where
  -- to its end
  pub through-all : length chunk ≤ at → Fed chunk p q
  through-all h =
      let e : chunk ≡ k.bytes = k.splits ∙ ap (λ (l : List ℕ). k.bytes ++ l) (drop_of_length-le chunk h) ∙ append-nil k.bytes in
      ap (λ (l : List ℕ). (feed l p).holds) e ∙ k.feeds

  -- as so many of its bytes
  pub through-some : (n : ℕ) × Fed (take n chunk) p q
  through-some = (
    length k.bytes,
    ap (λ (l : List ℕ). (feed l p).holds)
        (ap (take (length k.bytes)) k.splits ∙ take-append_seam k.bytes (drop at chunk)) ∙ k.feeds,
  )

  -- no line ends in the rest
  pub through-more : (line : List ℕ) (n : ℕ) → took (More n) line ≡ taking (drop at chunk) at q.line q.kept
      → Fed chunk p (with_line q line n)
  through-more line n e =
      ap (λ (l : List ℕ). (feed l p).holds) k.splits
      ∙ feed-both k.bytes (drop at chunk) p q (with_line q line n) k.feeds
      (ap (λ (t : Turn). t.holds) (turn-by-turn chunk at q)
      ∙ sym (ap (λ (r : Took). (goes_on chunk q r.line r.answer).holds) e))

  -- a line ends and is answered
  pub through-line : (next n : ℕ) (s s' : Session) → (s.text ≡ q.text) × (s.space ≡ q.space) × (s.out ≡ q.out)
      → took (Line next n) s.line ≡ taking (drop at chunk) at q.line q.kept
      → Answered n s s'
      → Through chunk next p (held s' 0)
  through-line next n s s' o e a =
      let l : LineFed (drop at chunk) (drop next chunk) q s.line n = line-ends chunk at q (took (Line next n) s.line) e in
      record {
        bytes = k.bytes ++ l.front;
        splits =
            k.splits ∙ ap (λ (xs : List ℕ). k.bytes ++ xs) l.splits
            ∙ sym (append_assoc k.bytes l.front (drop next chunk));
        feeds = feed-both k.bytes l.front p q (held s' 0) k.feeds (rw (a.0, a.1, a.2, a.3, o.0, o.1, o.2) l.feeds);
      }

-- ---- the input's end

module _ (s : Session) (kept : ℕ) where
  pub last-answered : (s' : Session) → 0 < kept → Answered kept s s' → held s' 0 ≡ ends_with (held s kept)
  last-answered s' h a = rw (ne_eqb kept 0 (λ e. omega (arith, h, e)), a.0, a.1, a.2, a.3)

  pub last_none : kept ≤ 0 → held s 0 ≡ ends_with (held s kept)
  last_none h = let e : kept ≡ 0 = omega (arith, h) in rw (e)

-- ---- one read after another

-- so many of so many
taken_twice : (k n : ℕ) (xs : List ℕ) → (j : ℕ) × (take k (take n xs) ≡ take j xs)
taken_twice zero n xs = (0, refl)
taken_twice (suc k) zero xs = (0, refl)
taken_twice (suc k) (suc n) [] = (0, refl)
taken_twice (suc k) (suc n) (x ∷ xs) =
    let l = taken_twice k n xs in
    (suc l.0, ap (λ (ys : List ℕ). x ∷ ys) l.1)

module _ (buffer : List ℕ) (n : ℕ) (p : Holding) (s : Session) where
  pub chunk_failed : (e : Failed) → TakesChunk (take n buffer) p (Err e) s
      → ReadsSome buffer p (Err e) s
  chunk_failed e h =
      let l = taken_twice h.0 n buffer in
      (l.0, 0, ap (λ (bs : List ℕ). (feed bs p).holds) (sym l.1) ∙ h.1)

-- some bytes lead from p to q
pub record HasRead (p q : Holding) : Type 0 where
  pub bytes : List ℕ
  pub feeds : Fed bytes p q

pub read_none : (p : Holding) → HasRead p p
read_none p = record { bytes = []; feeds = feed-none p }

-- what was read before, and one read more
pub reads_on : {p q : Holding} → HasRead p q → (buffer : List ℕ) (r : Progress) (s : Session)
    → ReadsSome buffer q r s → ReadsOn p r s
reads_on {p} {q} k buffer (Ok (Some n)) s h =
    (k.bytes ++ take h.0 buffer, feed-both k.bytes (take h.0 buffer) p q (held s n) k.feeds h.1)
reads_on {p} {q} k buffer (Ok None) s h = (k.bytes, h ∙ ap ends_with (sym k.feeds))
reads_on {p} {q} k buffer (Err e) s h =
    (k.bytes ++ take h.0 buffer, h.1, feed-both k.bytes (take h.0 buffer) p q (held s h.1) k.feeds h.2)

pub read-so-far : (p q : Holding) → (bytes : List ℕ) × Fed bytes p q → HasRead p q
read-so-far p q h = record { bytes = h.0; feeds = h.1 }
