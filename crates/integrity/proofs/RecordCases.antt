-- A law for each case of testing a subgoal.
use Prim.Native.Nat.{ℕ}
use mathlib.Core.Path.{◌≡◌}
use mathlib.Core.Bool.{Bool, true, false, ◌&&◌}
use Rattle.plain.specs.Coding.{coding_of}
use Rattle.space.specs.Sound.{subgoal_under}
use Rattle.space.specs.declared.tables.Table.{Table}
use Rattle.space.specs.declared.Subgoal.{Subgoal}
use Rattle.trie.specs.Runs.{path_to}
use Rattle.trie.specs.Ends.{subgoal_end}
use Rattle.store.specs.Clauses.{view_at}
use Rattle.agreement.specs.Whole.{path_passes, ends_whole, led_up, subgoal_whole}
use Rattle.integrity.specs.Tests.{form_whole, subgoal_stands, subgoal_test}

module _ (t : Table) (s : ℕ) (g : Subgoal) (e : g ≡ subgoal_under t.cells.now t.head s) where
  abbrev subgoal_formed : Bool
  subgoal_formed = path_passes (path_to t.cells.now (subgoal_end t.head g)) (form_whole (coding_of t.head.edition) true g.variables)

  subgoal-is : subgoal_test t s ≡ (subgoal_stands (view_at t) s && subgoal_formed && ends_whole (coding_of t.head.edition) (view_at t) s && led_up (coding_of t.head.edition) (view_at t) 383 s g.leaf)
  unfolding subgoal_whole subgoal_stands
  subgoal-is = rw e

  pub subgoal-unstood : subgoal_stands (view_at t) s ≡ false → false ≡ subgoal_test t s
  subgoal-unstood k = rw (subgoal-is, k)

  module _ (k : subgoal_stands (view_at t) s ≡ true) where
    pub subgoal-unformed : subgoal_formed ≡ false → false ≡ subgoal_test t s
    subgoal-unformed p = rw (subgoal-is, k, p)

    module _ (p : subgoal_formed ≡ true) where
      pub subgoal-unended : ends_whole (coding_of t.head.edition) (view_at t) s ≡ false → false ≡ subgoal_test t s
      subgoal-unended f = rw (subgoal-is, k, p, f)
