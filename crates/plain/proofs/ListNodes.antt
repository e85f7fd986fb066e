-- A list of constants as a subgoal's first answer: its tokens in each stored form are the nodes that it takes.
use mathlib.Core.Path.{◌≡◌, refl, sym, ap, ◌∙◌}
use mathlib.Core.Bool.{true, false}
use mathlib.Core.List.{List, [], ◌∷◌}
use Prim.Native.Nat.{ℕ, suc, ◌+◌, ◌*◌, ◌≤◌, ◌<◌}
use native.Mathlib.Omega.{arith}
use lib.ListN.{length}
use borrow.Author.Tests.{lt-ltb, le-ltb, le-leb, lt-leb}
use Rattle.forms.specs.Cells.{nil, PAIR, shape_of}
use Rattle.forms.specs.Terms.{Term, cell, pair, pairs, are_terms}
use Rattle.forms.specs.Numbering.{met}
use Rattle.forms.specs.Compact.{compact, elements, compact_form}
use Rattle.forms.specs.Stored.{StoredForm, compact_stored, pair_stored}
use Rattle.forms.specs.Converting.{reading}
use Rattle.forms.proofs.ReadLaws.{WellFormed}
use Rattle.forms.proofs.ShapeLaws.{constant-shape}
use Rattle.forms.proofs.NumberingLaws.{numbered-length}
use Rattle.forms.proofs.LongestForms.{Constant, constant-met, one-terms, one_form}
use Rattle.plain.specs.Words.{Word, has, most}
use Rattle.plain.specs.Coding.{accepted, judged, naming, handed_on, taken, coded_as}
use Rattle.plain.specs.Requests.{answer, new, refused}
use Rattle.plain.specs.Table.{Table, subgoal_at, answers_to, nodes, with_entry, fits, appended, answered, step}
use Rattle.plain.specs.ListNodes.{list_cells, Constants, Unanswered, TakesNodes, ListNodes}
use Rattle.plain.proofs.NumberLaws.{answer_of-none}
use Rattle.plain.proofs.RecordLaws.{entry-nodes}
use Rattle.plain.proofs.EnteringLaws.{nodes-brought}

-- ---- the list as a term

unfoldable listed : List ℕ → Term
listed [] = cell nil
listed (x ∷ xs) = pair (cell x) (listed xs)

listed-pairs : (xs : List ℕ) → pairs (listed xs) ≡ list_cells xs
unfolding listed list_cells pairs
listed-pairs [] = refl
listed-pairs (x ∷ xs) = ap (λ (l : List ℕ). PAIR ∷ x ∷ l) (listed-pairs xs)

cells-many : (xs : List ℕ) → length (list_cells xs) ≡ 2 * length xs + 1
unfolding list_cells
cells-many [] = refl
cells-many (x ∷ xs) = omega (arith, cells-many xs)

listed-constant : (arity : ℕ → ℕ) (xs : List ℕ) → Constants xs → Constant (list_cells xs)
unfolding list_cells Constants
listed-constant arity [] h = (refl, tt)
listed-constant arity (x ∷ xs) h = (refl, ((constant-shape arity x h.0).1, listed-constant arity xs h.1))

listed-well-formed : (arity : ℕ → ℕ) (xs : List ℕ) → Constants xs → WellFormed (shape_of arity) (listed xs) 0
unfolding listed Constants
listed-well-formed arity [] h = unfold shape_of in refl
listed-well-formed arity (x ∷ xs) h = (refl, (constant-shape arity x h.0).0, listed-well-formed arity xs h.1)

elements-many : (x : ℕ) (xs : List ℕ) → length (elements (x ∷ []) (listed xs)) ≡ length xs + 2
unfolding listed elements compact
elements-many x [] = refl
elements-many x (y ∷ xs) = omega (arith, elements-many y xs)

compact-many : (xs : List ℕ) → 1 ≤ length xs → length (compact (listed xs)) ≡ length xs + 2
unfolding listed compact
compact-many [] h = absurd (omega arith)
compact-many (x ∷ xs) h = omega (arith, elements-many x xs)

-- ---- read as one answer

module _ (arity : ℕ → ℕ) (s : StoredForm) (xs : List ℕ) (constants : Constants xs) (few : length xs ≤ 127) where
  list-terms : are_terms arity 1 (list_cells xs) ≡ true
  list-terms = rw (← (listed-pairs xs)) (one-terms arity (listed xs) (listed-well-formed arity xs constants))

  list_read : (m : ℕ) → m ≡ 1 → (coded_as arity s).answered m (list_cells xs) ≡ accepted (s.form (list_cells xs)) 0
  unfolding judged naming handed_on reading taken
  list_read m e =
      let v : length (met [] (list_cells xs)) ≡ 0 = ap length (constant-met (list_cells xs) [] (listed-constant arity xs constants)) in
      rw (e, le-ltb 256 (length (list_cells xs)) (omega (arith, cells-many xs)), list-terms, v)

-- ---- entering as the first answer

module _ (t : Table) (i : ℕ) (first : Unanswered t i) (w : Word) where
  lacking : has (answers_to t.answers i) w ≡ false
  lacking = rw first.none (unfold has in refl)

  entry-takes : nodes (with_entry t i w) ≡ nodes t + length w
  entry-takes =
      let z : most (answers_to t.answers i) w ≡ 0 = rw first.none (unfold most in refl) in
      entry-nodes t i w first.low ∙ nodes-brought t i first.low first.high w ∙ omega arith

  answered-new : (k : ℕ) → nodes t + length w ≤ t.N → length t.answers < t.A
      → ((answered t i (accepted w k)).reply ≡ new (suc (length t.answers))) × (nodes (answered t i (accepted w k)).state ≡ nodes t + length w)
  unfolding answered appended fits
  answered-new k room free =
      rw (answer_of-none t i w lacking, first.is_open, le-leb (nodes (with_entry t i w)) t.N (omega (arith, entry-takes)), lt-ltb (length t.answers) t.A free) (refl, entry-takes)

  answered-ten : (k : ℕ) → t.N < nodes t + length w → (answered t i (accepted w k)).reply ≡ refused 10
  unfolding answered appended fits
  answered-ten k full =
      rw (answer_of-none t i w lacking, first.is_open, lt-leb (nodes (with_entry t i w)) t.N (omega (arith, entry-takes))) refl

module _ (arity : ℕ → ℕ) (s : StoredForm) (xs : List ℕ) (constants : Constants xs) (few : length xs ≤ 127) where
  -- the call is what reading the list comes to
  list-step : (t : Table) (i : ℕ) → Unanswered t i → step (coded_as arity s) t (answer i (list_cells xs)) ≡ answered t i (accepted (s.form (list_cells xs)) 0)
  unfolding step
  list-step t i first =
      rw (lt-ltb 0 i first.low, le-leb i (length t.subgoals) first.high, list_read arity s xs constants few (subgoal_at t i).m first.one) refl

  takes : (n : ℕ) → length (s.form (list_cells xs)) ≡ n → TakesNodes (coded_as arity s) (list_cells xs) n
  takes n e = record {
    enters = λ t i first room free.
        rw (list-step t i first, ← e) (answered-new t i first (s.form (list_cells xs)) 0 (omega (arith, e)) free);
    lacks = λ t i first full. rw (list-step t i first) (answered-ten t i first (s.form (list_cells xs)) 0 (omega (arith, e)));
  }

pub list-nodes : (arity : ℕ → ℕ) → ListNodes arity
list-nodes arity xs constants some few = (
  takes arity (pair_stored arity) xs constants few (2 * length xs + 1) (numbered-length (list_cells xs) ∙ cells-many xs),
  takes arity (compact_stored arity) xs constants few (length xs + 2)
      (ap (λ (l : List ℕ). length (compact_form arity l)) (sym (listed-pairs xs))
      ∙ ap length (one_form arity (listed xs) (listed-well-formed arity xs constants) (rw (listed-pairs xs) (listed-constant arity xs constants)))
      ∙ compact-many xs some),
)
