-- The contract of `tables_counts` from its word and what it leaves in out.
use Prim.Native.Nat.{ℕ}
use mathlib.Core.List.{List}
use mathlib.Core.Path.{refl}
use Rattle.reads.proofs.ReadsLaws.{counts-answers}
use Rattle.words.specs.Words.{counts_of, ReturnsCounts}
use Rattle.words.proofs.WordLaws.{Counted}

pub counts-returns : (space : List ℕ) (w : ℕ) (out out' : List ℕ) → Counted (counts_of space) out w out' → ReturnsCounts space w out out'
counts-returns space w out out' k = (counts_of space, counts-answers space (counts_of space) refl, k.0, k.1)
