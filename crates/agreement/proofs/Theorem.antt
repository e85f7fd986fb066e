-- Demand 3 of every edition, its consequences on the cells, and the marked terms and tables.
use Rattle.basis.specs.declared.refusals.Refusal.TheVariants as refusal
use Rattle.std.specs.Prelude.{Err, Ok}
use Prim.Native.Nat.{ℕ}
use mathlib.Core.Bool.{true}
use mathlib.Core.List.{List}
use mathlib.Core.Path.{◌≡◌, ap, ◌∙◌}
use native.Mathlib.Omega.{arith}
use lib.ListN.{get_or}
use Rattle.basis.specs.Editions.{known_edition}
use Rattle.basis.proofs.Cases.{by_cases}
use Rattle.forms.specs.Marked.{marked, marked-wide}
use Rattle.plain.specs.Coding.{Coding, coding_of}
use Rattle.plain.specs.CodingLaws.{CodingLaws}
use Rattle.plain.specs.Examples.{examples}
use Rattle.plain.proofs.StoredCoding.{coding-laws}
use Rattle.space.specs.Layout.{Sizes, sizes_of}
use Rattle.space.specs.Heading.{header_of, space_header}
use Rattle.space.specs.Fresh.{fresh_answer, fresh_space, fresh_answer_in, fresh_space_in}
use Rattle.space.specs.declared.Head.{Head}
use Rattle.trie.specs.Siblings.{search_children}
use Rattle.store.specs.Calls.{cell_step, space_step, space_step_by, under_any_by, under_by}
use Rattle.agreement.proofs.HeaderTests.{header_read}
use Rattle.agreement.specs.Records.{Wide}
use Rattle.agreement.specs.Promise.{Agreement, Promise, Marked, Marked2}
use Rattle.agreement.specs.Consequences.{Untouched, UntouchedBy, Following, SoundForEver, NoMoreForEver}
use Rattle.agreement.proofs.CellChanges as cells
use Rattle.agreement.proofs.FreshView as fresh
use Rattle.agreement.proofs.Holding.{Cells}
use Rattle.agreement.proofs.CallLists as lists
use Rattle.agreement.proofs.Following as calls
use Rattle.agreement.proofs.Untouched as refusals

pub cells-hold : (z : Sizes) → Wide z → Cells z
cells-hold z w = record {
  cells-change = cells.cells-change z w;
  cells-counts = cells.cells-counts z;
  fresh-view = fresh.fresh-view z w;
}

-- for every layout that is wide enough and every coding that meets the laws
pub agreement : (z : Sizes) → Wide z → (c : Coding) → CodingLaws c → Agreement z c
agreement z w c laws = lists.agreement z c (cells-hold z w) laws (cell_step z c) (lists.cell_step-sound z c)

-- a space with a sound header of edition e is one of edition e to the code
module _ (e : ℕ) (known : known_edition e ≡ true) where
  pub header-any : (cs : List ℕ) (h : Head) → header_of (sizes_of e) cs ≡ Ok h → (space_header cs ≡ Ok h) × (h.edition ≡ e)
  unfolding space_header
  header-any cs h s =
      let r = header_read (sizes_of e) cs h s in
      let i : get_or cs 0 0 ≡ e = r.headed.edition in
      (rw (i, known) s, ap (λ (k : Head). k.edition) r.is ∙ i)

  pub deciding : lists.Deciding (sizes_of e) (coding_of e) space_step
  unfolding space_step_by under_any_by under_by
  deciding cs h q s = let k = header-any cs h s in rw (k.0, k.1)

-- fresh takes the editions that there are, and lays the space out by them
pub fresh_in : (e n f a : ℕ) (s : List ℕ) → fresh_answer_in e n f a s ≡ Ok tt
    → (known_edition e ≡ true) × (fresh_answer (sizes_of e) n f a s ≡ Ok tt) × (fresh_space_in e n f a s ≡ fresh_space (sizes_of e) n f a s)
unfolding fresh_answer_in fresh_space_in
fresh_in e n f a s d = by_cases (known_edition e)
    (λ k. (k, rw k at d, rw k))
    (λ k. let r : Err refusal.Fresh ≡ Ok tt = rw k at d in let x : ◌≡◌ {A = ℕ} 0 1 = cc in absurd (omega arith))

pub promise : Promise
promise e n f a s qs d =
    let k = fresh_in e n f a s d in
    rw k.2 (lists.agreement (sizes_of e) (coding_of e) (cells-hold (sizes_of e) (cells.sizes-wide e)) (coding-laws e) space_step (deciding e k.0) n f a s qs k.1)

-- of one edition
pub promise-of : (e : ℕ) → Agreement (sizes_of e) (coding_of e)
promise-of e = agreement (sizes_of e) (cells.sizes-wide e) (coding_of e) (coding-laws e)

pub following : (e : ℕ) → known_edition e ≡ true → Following (sizes_of e) (coding_of e) space_step
following e k = calls.following (sizes_of e) (coding_of e) (cells-hold (sizes_of e) (cells.sizes-wide e)) (coding-laws e) space_step (deciding e k)

pub sound-for-ever : (e : ℕ) → known_edition e ≡ true → SoundForEver (sizes_of e) (coding_of e) space_step
sound-for-ever e k = calls.sound-for-ever (sizes_of e) (coding_of e) (cells-hold (sizes_of e) (cells.sizes-wide e)) (coding-laws e) space_step (deciding e k)

pub no-more-for-ever : (e : ℕ) → known_edition e ≡ true → NoMoreForEver (sizes_of e) (coding_of e) space_step
no-more-for-ever e k = calls.no-more-for-ever (sizes_of e) (coding_of e) (cells-hold (sizes_of e) (cells.sizes-wide e)) (coding-laws e) space_step (deciding e k)

pub untouched-by : UntouchedBy
untouched-by = refusals.untouched-by

pub untouched : Untouched space_step
untouched = untouched-by search_children

-- M1 to M10
pub marked-list : Marked
marked-list = (marked, examples.0)

-- a functor of 40 arguments
pub marked-2 : Marked2
marked-2 = marked-wide
