-- Gathering with a higher bound decides alike (specs/Bounds.antt).
use Prim.Native.Nat.{ℕ, suc, ◌<◌, ◌≤◌}
use mathlib.Core.Bool.{Bool, true, false}
use mathlib.Core.Path.{◌≡◌, refl, ap}
use native.Mathlib.Omega.{arith}
use lib.Dec.{leb}
use lib.ListN.{length}
use borrow.Author.Tests.{leb-true, leb-false}
use Rattle.basis.proofs.Cases.{by_cases}
use Rattle.forms.specs.Stored.{StoredForm}
use Rattle.forms.proofs.StoredLaws.{StoredLaws}
use Rattle.plain.specs.Words.{Word}
use Rattle.trie.specs.Siblings.{Trie}
use Rattle.trie.specs.Paths.{Path, none, tokens, gather}
use Rattle.trie.specs.Runs.{Climb, lost, to_root, cut, climbed}
use Rattle.trie.proofs.PathLaws.{Tells, climbed-tells}
use Rattle.store.specs.Decisions.{Decision, Chain, broken, unbroken, on_path, headed}
use Rattle.agreement.specs.Bounds.{BoundFree}

-- what is done with a path, where nothing is done with one that fails the test
module _ {A : Type 0} (test : Word → Bool) (use-path : Path → A) (fails : (w : Word) → test w ≡ false → use-path (tokens w) ≡ use-path none)
    (most more : ℕ) (l : most ≤ more) (short : (w : Word) → test w ≡ true → length w ≤ most) where
  bounded-climb : (t : Trie) (root n : ℕ) (c : Climb) → Tells t root n (suc more) c → use-path (gather more t root n) ≡ use-path (gather most t root n)
  bounded-climb t root n lost h = rw (h more, h most)
  bounded-climb t root n (cut p xs) h = rw (h.3 more (omega arith), h.3 most (omega arith))
  bounded-climb t root n (to_root xs) h = by_cases (leb (length xs) most)
      (λ e. let k : length xs ≤ most = leb-true _ _ e in rw (h.1 more (omega arith), h.1 most k))
      (λ e. let k : most < length xs = leb-false _ _ e in
      let f : test xs ≡ false = by_cases (test xs) (λ x. let y = short xs x in absurd (omega arith)) (λ x. x) in
      let low : gather most t root n ≡ none = h.2 most k in
      by_cases (leb (length xs) more)
      (λ i. rw (h.1 more (leb-true _ _ i), low) (fails xs f))
      (λ i. rw (h.2 more (leb-false _ _ i), low)))

  bounded-path : (t : Trie) (root n : ℕ) → use-path (gather more t root n) ≡ use-path (gather most t root n)
  bounded-path t root n = bounded-climb t root n (climbed (suc more) t root n) (climbed-tells t root (suc more) n)

fails-path : (test : Word → Bool) (d : Word → Decision) (w : Word) → test w ≡ false → on_path (tokens w) test d ≡ on_path none test d
unfolding on_path
fails-path test d w e = rw e

fails-chain : (test : Word → Bool) (later : Chain) (w : Word) → test w ≡ false → headed test (tokens w) later ≡ headed test none later
unfolding headed
fails-chain test broken w e = refl
fails-chain test (unbroken ws) w e = rw e

pub bound-free : (arity : ℕ → ℕ) (s : StoredForm) → StoredLaws arity s → BoundFree s
bound-free arity s laws m more l test only t root n =
    let short : (w : Word) → test w ≡ true → length w ≤ s.longest =
    λ w e. let h = only w e in let x = laws.demand.loaded m w h in omega (arith, (laws.demand.bounded m (s.cells w) x.0).1, ap length x.2) in (
      λ d. bounded-path test (λ p. on_path p test d) (fails-path test d) s.longest more l short t root n,
      λ later. bounded-path test (λ p. headed test p later) (fails-chain test later) s.longest more l short t root n,
    )
