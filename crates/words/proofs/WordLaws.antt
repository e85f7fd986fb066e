-- Laws of result words: an answer's word is that of the variant that it is, and what `tables_counts` gives in each case.
use Prim.Native.Nat.{ℕ, ◌≤◌, ◌<◌}
use mathlib.Core.List.{List, ◌∷◌}
use mathlib.Core.Path.{◌≡◌, refl, sym, ap, ◌∙◌}
use lib.ListN.{length, drop}
use borrow.Author.Tests.{le-leb, lt-leb}
use Rattle.std.specs.Prelude.{Ok, Err}
use Rattle.forms.specs.Converting.{Answer}
use Rattle.forms.specs.declared.Unwritten.TheVariants as unwritten
use Rattle.plain.specs.Requests.{Counts, Reply, used, refused, short}
use Rattle.store.specs.Replies.{said_cells}
use Rattle.words.specs.Words.{word, counting, counts_reply, counts_out}
use Rattle.words.specs.Bounded.{Bounded}
use Rattle.words.specs.Told.{CellsBounded}

-- ---- an answer and the variant that it is

module _ {A : Type 0} (said : A → Reply) {a b : A} (same : a ≡ b) where
  pub said-word : (w : ℕ) → w ≡ word (said b) → w ≡ word (said a)
  said-word w e = e ∙ ap (λ (x : A). word (said x)) (sym same)

  pub said-bounded : Bounded (said a) → Bounded (said b)
  said-bounded f = rw same at f

-- ---- an answer and what the call gives

module _ {x y : Reply} (same : x ≡ y) where
  pub given_word : (w : ℕ) → w ≡ word x → w ≡ word y
  given_word w e = e ∙ ap word same

  pub given-bounded : Bounded y → Bounded x
  given-bounded f = rw same f

-- ---- what load and instance answer

pub cells-bounded : (x : Answer) → Bounded (said_cells x) → CellsBounded x
cells-bounded (Ok n) f = f
cells-bounded (Err (unwritten.Short n)) f = f
cells-bounded (Err (unwritten.Refused r)) f = tt

-- ---- counts

-- the word of `tables_counts` and out after it
abbrev pub Counted : Reply → List ℕ → ℕ → List ℕ → Type 0
Counted reply out w out' = (w ≡ word (counts_reply reply out)) × (out' ≡ counts_out reply out)

module _ (reply : Reply) (out : List ℕ) (w : ℕ) where
  pub counts-refused : (r : ℕ) → refused r ≡ reply → w ≡ word (refused r) → Counted reply out w out
  unfolding counts_reply counts_out counting
  counts-refused r e f = rw (← e) (f, refl)

  pub counts-short : (c : Counts) → used c ≡ reply → length out < 3 → w ≡ word (short 3) → Counted reply out w out
  unfolding counts_reply counts_out counting
  counts-short c e h f = rw (← e, lt-leb 3 (length out) h) (f, refl)

  pub counts-given : (c : Counts) → used c ≡ reply → 3 ≤ length out → w ≡ word (used c) → Counted reply out w (c.nodes ∷ c.subgoals ∷ c.answers ∷ drop 3 out)
  unfolding counts_reply counts_out counting
  counts-given c e h f = rw (← e, le-leb 3 (length out) h) (f, refl)
