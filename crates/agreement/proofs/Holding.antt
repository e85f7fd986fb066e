-- Cells that hold a table, and what one call on them leaves.
use Rattle.std.specs.Prelude.{Ok}
use mathlib.Core.Path.{◌≡◌, refl}
use mathlib.Core.List.{List}
use Prim.Native.Nat.{ℕ}
use lib.ListN.{length}
use Rattle.plain.specs.Coding.{Coding}
use Rattle.plain.specs.Requests.{Result}
use Rattle.plain.specs.Table.{Table}
use Rattle.space.specs.Layout.{Sizes, node_in}
use Rattle.space.specs.Heading.{header_of}
use Rattle.space.specs.Fresh.{fresh_answer, fresh_space}
use Rattle.space.specs.declared.Head.{Head}
use Rattle.trie.specs.Walks.{Finding}
use Rattle.trie.specs.Ledger.{Grown}
use Rattle.trie.proofs.IndexLaws.{AsChains}
use Rattle.store.specs.Views.{View, view_of}
use Rattle.store.specs.Decisions.{Decision}
use Rattle.store.specs.Changes.{change, change_by}
use Rattle.store.specs.Calls.{used_answers, reply, out_after, counted_cells}
use Rattle.agreement.specs.Records.{Alike, fresh_view, changed_view, Fits, says-fits, gives_fits, subgoal-fits, answer-fits, empty-fits, finish-fits}
use Rattle.agreement.proofs.SameRecords.{Same, same_alike}
use Rattle.agreement.proofs.Agreeing.{Agrees}
use Rattle.agreement.proofs.Growing.{changed-grown, alike-grown}

-- what holds of the cells of a space: a decision that fits makes of them what it makes of their view, the header counts,
-- and a fresh space is a fresh view
pub record Cells (z : Sizes) : Type 0 where
  pub cells-change : (cs : List ℕ) (h : Head) (d : Decision) → header_of z cs ≡ Ok h → Fits (view_of z cs h) d
      → (h' : Head) × (header_of z (change z cs h d) ≡ Ok h') × Alike (view_of z (change z cs h d) h') (changed_view (view_of z cs h) d)
  pub cells-counts : (cs : List ℕ) (h : Head) → header_of z cs ≡ Ok h → counted_cells cs ≡ record { nodes = h.nodes; subgoals = h.subgoals; answers = h.answers }
  pub fresh-view : (n f a : ℕ) (s : List ℕ) → fresh_answer z n f a s ≡ Ok tt
      → (h : Head) × (header_of z (fresh_space z n f a s) ≡ Ok h) × Alike (view_of z (fresh_space z n f a s) h) (fresh_view n f a)

-- the cells have a sound header, and their records are those of the table
pub record Holds (z : Sizes) (c : Coding) (t : Table) (cs : List ℕ) : Type 0 where
  pub head : Head
  pub sound : header_of z cs ≡ Ok head
  pub same : Same c t (view_of z cs head)

-- what the plain table gives and the decision on the cells: the same answer, the same out, and cells that hold the table
-- left, whichever way of finding a child wrote them
pub record AnswersAlike (z : Sizes) (c : Coding) (cs : List ℕ) (h : Head) (out : List ℕ) (r : Result Table) (d : Decision) : Type 0 where
  pub replies : reply (view_of z cs h) d (length out) (used_answers (change z cs h d)) ≡ r.reply
  pub leaves : out_after d out ≡ r.out
  pub holds : Holds z c r.state (change z cs h d)
  pub grows : Grown (node_in z cs) h.nodes (node_in z (change z cs h d)) holds.head.nodes
  pub change-same : (find : Finding) → AsChains (node_in z cs) h.nodes find → change_by find z cs h d ≡ change z cs h d

-- a decision that fits is written alike by any: it names what was found
fits-same : (find : Finding) (z : Sizes) (cs : List ℕ) (h : Head) (v : View) {d : Decision} → Fits v d → change_by find z cs h d ≡ change z cs h d
unfolding change_by
fits-same find z cs h v (says-fits r) = refl
fits-same find z cs h v (gives_fits ks) = refl
fits-same find z cs h v (subgoal-fits parent last left m a b e f g) = refl
fits-same find z cs h v (answer-fits s parent last left a b e f g i j k) = refl
fits-same find z cs h v (empty-fits s a b e f g) = refl
fits-same find z cs h v (finish-fits s a b) = refl

-- where the decision fits and makes the same records
pub agrees-answers : (z : Sizes) (c : Coding) → Cells z → (cs : List ℕ) (h : Head) → header_of z cs ≡ Ok h → {out : List ℕ} {r : Result Table} {d : Decision}
    → Agrees c (view_of z cs h) out r d → AnswersAlike z c cs h out r d
agrees-answers z c cells cs h e {out} {r} {d} a =
    let more = cells.cells-change cs h d e a.fits in
    record {
      replies = a.replies _;
      leaves = a.leaves;
      holds = record {
        head = more.0;
        sound = more.1;
        same = same_alike c r.state (changed_view (view_of z cs h) d) (view_of z (change z cs h d) more.0) a.same more.2;
      };
      grows = alike-grown (view_of z cs h) (changed_view (view_of z cs h) d) (view_of z (change z cs h d) more.0) more.2 (changed-grown (view_of z cs h) a.fits);
      change-same = λ find as-chains. fits-same find z cs h (view_of z cs h) a.fits;
    }
