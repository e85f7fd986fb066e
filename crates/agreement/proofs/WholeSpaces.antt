-- The check of a whole space on cells: what calls leave passes, and what passes answers as the table that it says.
use Rattle.std.specs.Prelude.{Err, Ok}
use Prim.Native.Nat.{ℕ}
use mathlib.Core.Path.{◌≡◌, refl, sym, ap, ◌∙◌, subst}
use mathlib.Core.Bool.{true, false≢true}
use mathlib.Core.List.{List}
use Rattle.basis.specs.Editions.{known_edition}
use Rattle.basis.proofs.Cases.{by_cases}
use Rattle.plain.specs.Coding.{Coding, coding_of}
use Rattle.plain.specs.CodingLaws.{CodingLaws}
use Rattle.plain.specs.Requests.{Request, Result, left}
use Rattle.plain.specs.Table.{Table, fresh, step}
use Rattle.plain.proofs.StoredCoding.{coding-laws}
use Rattle.space.specs.Layout.{Sizes, sizes_of}
use Rattle.space.specs.Heading.{header_of, space_header, Header}
use Rattle.space.specs.Fresh.{fresh_space}
use Rattle.space.specs.declared.Head.{Head}
use Rattle.store.specs.Views.{View, view_of}
use Rattle.store.specs.Calls.{cell_step, space_step}
use Rattle.agreement.specs.Records.{Wide}
use Rattle.agreement.specs.Whole.{whole_under, whole_cells, whole_any, whole_space, table_under, table_cells, table_any, table_of, edition_of, ReadingAgain, Checking, SpaceChecking}
use Rattle.agreement.proofs.CellChanges as changes
use Rattle.agreement.proofs.HeaderTests.{header_read}
use Rattle.agreement.proofs.Holding.{Cells, Holds}
use Rattle.agreement.proofs.CallLists.{Deciding, cell_step-sound, trace-same}
use Rattle.agreement.proofs.Following.{left-related, step-state, fresh_holds}
use Rattle.agreement.proofs.Theorem.{cells-hold, header-any, deciding, fresh_in}
use Rattle.agreement.proofs.ReadingAgain.{coding-again}
use Rattle.agreement.proofs.Callables.{Callable, callable-fresh, callable-left}
use Rattle.agreement.proofs.WholeTests.{whole-local, local-whole}
use Rattle.agreement.proofs.WholeChains.{local-facts}
use Rattle.agreement.proofs.WholeSame.{whole_same, whole-callable}
use Rattle.agreement.proofs.WholePasses.{same-local}
use Rattle.agreement.proofs.TableRead.{same-table}

module _ (z : Sizes) (c : Coding) (cells : Cells z) (laws : CodingLaws c) (again : ReadingAgain c) (library : List ℕ → Request → Result (List ℕ)) (decides : Deciding z c library) where
  abbrev Held : Table → List ℕ → Type 0
  Held = Holds z c

  -- cells that hold the records of a table say it, and pass where its subgoals are terms to call
  pub held-passes : (t : Table) (cs : List ℕ) → Held t cs → Callable t → whole_cells z c cs ≡ true
  unfolding whole_cells whole_under
  held-passes t cs k b = rw k.sound (local-whole c (view_of z cs k.head) (same-local c laws t b (view_of z cs k.head) k.same))

  pub held-table : (t : Table) (cs : List ℕ) → Held t cs → table_cells z cs ≡ t
  unfolding table_cells table_under
  held-table t cs k = rw k.sound (same-table c laws t (view_of z cs k.head) k.same)

  -- cells that pass hold the records of the table that they say
  whole-held : (cs : List ℕ) (x : Header) → header_of z cs ≡ x → whole_under z c cs x ≡ true → Held (table_under z cs x) cs × Callable (table_under z cs x)
  unfolding whole_under table_under
  whole-held cs (Ok h) e w =
      let v : View = view_of z cs h in
      let r = (header_read z cs h e).within in
      let W = local-facts c v (whole-local c v w) in (
        record { head = h; sound = e; same = whole_same c laws again v W r.some-node r.nodes-within r.subgoals-within r.answers-within },
        whole-callable c laws again v W r.some-node r.nodes-within r.subgoals-within r.answers-within,
      )
  whole-held cs (Err r) e w = absurd (false≢true w)

  pub whole-holds : (cs : List ℕ) → whole_cells z c cs ≡ true → Held (table_cells z cs) cs × Callable (table_cells z cs)
  unfolding whole_cells table_cells
  whole-holds cs w = whole-held cs (header_of z cs) refl w

  pub left-held : (t : Table) (cs : List ℕ) (qs : List Request) → Held t cs → Held (left (step c) t qs) (left library cs qs)
  left-held t cs qs k = left-related (step c) library Held (step-state z c cells laws library decides) qs t cs k

  pub checking : Checking z c library
  checking = record {
    passing = λ n f a s qs e.
        let k = left-held (fresh n f a) (fresh_space z n f a s) qs (fresh_holds z c cells laws library decides n f a s e) in
        (held-passes _ _ k (callable-left c again qs (fresh n f a) (callable-fresh n f a)), held-table _ _ k);
    answering = λ cs qs w. let k = (whole-holds cs w).0 in trace-same z c cells laws library decides (table_cells z cs) cs k.head k.sound k.same qs;
    lasting = λ cs qs w.
        let h = whole-holds cs w in
        let k = left-held (table_cells z cs) cs qs h.0 in
        (held-passes _ _ k (callable-left c again qs (table_cells z cs) h.1), held-table _ _ k);
  }

-- for every layout that is wide enough and every coding that meets the laws
pub checking-of : (z : Sizes) → Wide z → (c : Coding) → CodingLaws c → ReadingAgain c → Checking z c (cell_step z c)
checking-of z w c laws again = checking z c (cells-hold z w) laws again (cell_step z c) (cell_step-sound z c)

-- ---- spaces of every edition

module _ (e : ℕ) (known : known_edition e ≡ true) where
  abbrev HeldIn : Table → List ℕ → Type 0
  HeldIn = Holds (sizes_of e) (coding_of e)

  abbrev cells_in : Cells (sizes_of e)
  cells_in = cells-hold (sizes_of e) (changes.sizes-wide e)

  -- with a sound header of edition e the space is judged and read as one of edition e
  whole_in : (cs : List ℕ) (h : Head) → header_of (sizes_of e) cs ≡ Ok h → whole_space cs ≡ whole_cells (sizes_of e) (coding_of e) cs
  unfolding whole_space whole_any whole_cells
  whole_in cs h s = let k = header-any e known cs h s in
      rw (k.0, s) (ap (λ (x : ℕ). whole_under (sizes_of x) (coding_of x) cs (Ok h)) k.1)

  table-in : (cs : List ℕ) (h : Head) → header_of (sizes_of e) cs ≡ Ok h → table_of cs ≡ table_cells (sizes_of e) cs
  unfolding table_of table_any table_cells
  table-in cs h s = let k = header-any e known cs h s in
      rw (k.0, s) (ap (λ (x : ℕ). table_under (sizes_of x) cs (Ok h)) k.1)

  edition-in : (cs : List ℕ) (h : Head) → header_of (sizes_of e) cs ≡ Ok h → edition_of cs ≡ e
  edition-in cs h s = (header_read (sizes_of e) cs h s).headed.edition

  pub held-says : (t : Table) (cs : List ℕ) → HeldIn t cs → Callable t → (whole_space cs ≡ true) × (table_of cs ≡ t) × (edition_of cs ≡ e)
  held-says t cs k b = (
    whole_in cs k.head k.sound
        ∙ held-passes (sizes_of e) (coding_of e) cells_in (coding-laws e) (coding-again e) space_step (deciding e known) t cs k b,
    table-in cs k.head k.sound
        ∙ held-table (sizes_of e) (coding_of e) cells_in (coding-laws e) (coding-again e) space_step (deciding e known) t cs k,
    edition-in cs k.head k.sound,
  )

  space-both : (cs : List ℕ) (h : Head) → header_of (sizes_of e) cs ≡ Ok h → whole_space cs ≡ true → HeldIn (table_of cs) cs × Callable (table_of cs)
  space-both cs h s w =
      subst (λ (t : Table). HeldIn t cs × Callable t) (sym (table-in cs h s))
      (whole-holds (sizes_of e) (coding_of e) cells_in (coding-laws e) (coding-again e) space_step (deciding e known) cs (sym (whole_in cs h s) ∙ w))

  pub space-holds : (cs : List ℕ) (h : Head) → header_of (sizes_of e) cs ≡ Ok h → whole_space cs ≡ true → Holds (sizes_of e) (coding_of e) (table_of cs) cs
  space-holds cs h s w = (space-both cs h s w).0

  left_in : (t : Table) (cs : List ℕ) (qs : List Request) → HeldIn t cs → HeldIn (left (step (coding_of e)) t qs) (left space_step cs qs)
  left_in t cs qs k = left-held (sizes_of e) (coding_of e) cells_in (coding-laws e) (coding-again e) space_step (deciding e known) t cs qs k

-- a space that passes names an edition that there is, and its header is sound in it
abbrev pub KnownSpace : List ℕ → Type 0
KnownSpace cs = (known_edition (edition_of cs) ≡ true) × ((h : Head) × (header_of (sizes_of (edition_of cs)) cs ≡ Ok h))

sound-header : (cs : List ℕ) (x : Header) → whole_any cs x ≡ true → (h : Head) × (x ≡ Ok h)
unfolding whole_any
sound-header cs (Ok h) w = (h, refl)
sound-header cs (Err r) w = absurd (false≢true w)

pub whole-known : (cs : List ℕ) → whole_space cs ≡ true → KnownSpace cs
unfolding whole_space space_header
whole-known cs w = by_cases (known_edition (edition_of cs))
    (λ k. (k, sound-header cs (header_of (sizes_of (edition_of cs)) cs) (rw k at w)))
    (λ k. absurd (false≢true (unfold whole_any in rw k at w)))

pub space-callable : (cs : List ℕ) → whole_space cs ≡ true → Callable (table_of cs)
space-callable cs w = let k = whole-known cs w in (space-both (edition_of cs) k.0 cs k.1.0 k.1.1 w).1

pub space-checking : SpaceChecking
space-checking = record {
  passing = λ e n f a s qs d.
      let k = fresh_in e n f a s d in
      let o : HeldIn e k.0 (fresh n f a) (fresh_space (sizes_of e) n f a s) =
      fresh_holds (sizes_of e) (coding_of e) (cells_in e k.0) (coding-laws e) space_step (deciding e k.0) n f a s k.1 in
      rw k.2 (held-says e k.0 (left (step (coding_of e)) (fresh n f a) qs) (left space_step (fresh_space (sizes_of e) n f a s) qs) (left_in e k.0 (fresh n f a) (fresh_space (sizes_of e) n f a s) qs o)
      (callable-left (coding_of e) (coding-again e) qs (fresh n f a) (callable-fresh n f a)));
  answering = λ cs qs w.
      let k = whole-known cs w in
      let e : ℕ = edition_of cs in
      let o : HeldIn e k.0 (table_of cs) cs = space-holds e k.0 cs k.1.0 k.1.1 w in
      trace-same (sizes_of e) (coding_of e) (cells_in e k.0) (coding-laws e) space_step (deciding e k.0) (table_of cs) cs o.head o.sound o.same qs;
  lasting = λ cs qs w.
      let k = whole-known cs w in
      let e : ℕ = edition_of cs in
      let o : HeldIn e k.0 (table_of cs) cs = space-holds e k.0 cs k.1.0 k.1.1 w in
      held-says e k.0 (left (step (coding_of e)) (table_of cs) qs) (left space_step cs qs) (left_in e k.0 (table_of cs) cs qs o)
      (callable-left (coding_of e) (coding-again e) qs (table_of cs) (space-callable cs w));
}
