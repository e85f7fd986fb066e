-- `instance_with` meets its contract: what is loaded is ready, and each answer by its law.
use Rattle.std.specs.Prelude.{None, Some}
use Prim.Native.Nat.{ℕ, ◌≤◌, ◌<◌}
use mathlib.Core.Bool.{true, ◌&&◌}
use mathlib.Core.List.{List, []}
use mathlib.Core.Path.{◌≡◌, refl, sym, ap, ◌∙◌}
use native.Mathlib.Omega.{arith}
use lib.Dec.{eqb}
use lib.ListN.{length, take, length-take}
use lib.Seq.{length-take-le}
use borrow.Author.Tests.{eq-eqb, ne_eqb}
use Rattle.basis.proofs.Tests.{told}
use Rattle.forms.specs.Terms.{pairs, every}
use Rattle.pair_reader.specs.Storing.{terms_at}
use Rattle.instances.specs.Instances.{StartsAt}
use Rattle.forms.specs.Converting.{loading, fitting}
use Rattle.forms.specs.Numbering.{met}
use Rattle.forms.specs.Stored.{stored_of}
use Rattle.forms.specs.Cells.{arity_of}
use Rattle.forms.proofs.StoredLaws.{stored_of_lem}
use Rattle.convert.proofs.AnswerLaws.{fitting-short, taken-room, loading-length}
use Rattle.plain.specs.Coding.{coding_of}
use Rattle.instances.proofs.LeavingLaws.{leaves-says, leaves-same, leaves-said, sized-short, sized-cells, gives_fits, form-refused, form-loaded, subgoal-form, no-subgoal-form, both-answer, both-subgoal, both-legal}
use Rattle.instances.proofs.InstanceTerms.{few, enough, terms-end, last_end, Ready, ready, fits_all, fits_not, need-bounded, missing-bounded, fitting-written}
use Rattle.instances.proofs.instance_with.Goals as goal

-- what is known once both forms are loaded
module _ (e m : ℕ) (w v terms cells : List ℕ) (end n variables : ℕ)
    (form-got : Some end ≡ loading (stored_of e) m v) (form-held : take end terms ≡ (stored_of e).cells v)
    (path-all : ((Some n ≡ loading (stored_of e) 1 w) × (take n cells ≡ (stored_of e).cells w)) × (variables ≡ length (met [] w))) where
  form_legal : (stored_of e).legal m v ≡ true
  form_legal = sym (form-loaded (stored_of e) m v _ form-got)

  path_legal : (stored_of e).legal 1 w ≡ true
  path_legal = sym (form-loaded (stored_of e) 1 w _ path-all.0.0)

  tested : ((stored_of e).legal 1 w && eqb (length (met [] w)) m) ≡ eqb variables m
  tested = sym (subgoal-form (stored_of e) m w (sym path_legal) variables path-all.1)

  -- and that of the path has as many variables as the other has terms
  module _ (same : variables ≡ m) where
    theirs : length (met [] w) ≡ m
    theirs = sym path-all.1 ∙ same

    is_form : ((stored_of e).legal 1 w && eqb (length (met [] w)) m) ≡ true
    is_form = tested ∙ eq-eqb _ _ same

    few_terms : m < 33
    few_terms = few _ _ (stored_of_lem e) w v m path_legal theirs form_legal

    ended : end ≡ length (every pairs (take m (terms_at (arity_of e) terms 0)))
    ended = terms-end _ _ (stored_of_lem e) w v m path_legal theirs form_legal terms end form-held form-got

    last : end ≤ 256
    last = omega (arith, ended, last_end _ _ (stored_of_lem e) w v m path_legal theirs form_legal terms end form-held)

    asked : (m ≤ length (terms_at (arity_of e) terms 0)) × (m < 33)
        × (end ≡ length (every pairs (take m (terms_at (arity_of e) terms 0)))) × (end ≤ 256)
    asked = (enough _ _ (stored_of_lem e) w v m path_legal theirs form_legal terms end form-held, few_terms, ended, last)

    known : (starts : List ℕ) → StartsAt (terms_at (arity_of e) terms 0) m starts → length starts ≡ 33
        → Ready (arity_of e) (stored_of e) w v cells terms starts n end
    known starts noted room =
        ready _ _ (stored_of_lem e) w v m path_legal theirs form_legal terms end form-held cells starts n path-all.0.0 path-all.0.1 noted
        (omega (arith, few_terms, room))

-- the cells hold what was loaded
counted_fits : (e : ℕ) (w : List ℕ) (n variables : ℕ) (cells : List ℕ)
    → ((Some n ≡ loading (stored_of e) 1 w) × (take n cells ≡ (stored_of e).cells w)) × (variables ≡ length (met [] w)) → n ≤ length cells
counted_fits e w n variables cells h = taken-room n cells ((stored_of e).cells w) h.0.1 (loading-length (stored_of e) 1 w n h.0.0)

pub slice_bounds-missing-end : goal.slice_bounds-missing-end
slice_bounds-missing-end c = counted_fits c.args.edition c.args.path.now _ _ _ (rw c.in-Some-load_counted.is at c.load_counted.ensures)

pub slice_bounds-missing-end-then-loaded-m : goal.slice_bounds-missing-end-then-loaded-m
slice_bounds-missing-end-then-loaded-m c =
    sym (length-take-le c.in-Some-load_counted.loaded.cells c.load_counted.new.cells (counted_fits c.args.edition c.args.path.now _ _ _ (rw c.in-Some-load_counted.is at c.load_counted.ensures)))

pub slice_bounds-write-end : goal.slice_bounds-write-end
slice_bounds-write-end c = counted_fits c.args.edition c.args.path.now _ _ _ (rw c.in-Some-load_counted.is at c.load_counted.ensures)

pub slice_bounds-write-end-then-loaded-m : goal.slice_bounds-write-end-then-loaded-m
slice_bounds-write-end-then-loaded-m c =
    sym (length-take-le c.in-Some-load_counted.loaded.cells c.load_counted.new.cells (counted_fits c.args.edition c.args.path.now _ _ _ (rw c.in-Some-load_counted.is at c.load_counted.ensures)))

pub returns-in_default : goal.returns-in_default
returns-in_default c = λ v. leaves-says v _ c.args.out.now _ (both-answer (coding_of c.args.edition) c.args.m c.args.path.now c.args.form.now (sym (form-refused (stored_of c.args.edition) c.args.m c.args.form.now (told c.in_default.is c.load_terms.ensures.0))))

pub returns-in_default-load_counted : goal.returns-in_default-load_counted
returns-in_default-load_counted c =
    let a = c.args in
    let g = sym c.in-Some.is ∙ c.load_terms.ensures.0 in
    let r : ((None ≡ loading (stored_of c.args.edition) 1 c.args.path.now) × Unit {0}) × Unit {0} = rw c.in_default-load_counted.is at c.load_counted.ensures in
    λ v. leaves-says v _ c.args.out.now _ (both-subgoal (coding_of c.args.edition) c.args.m c.args.path.now c.args.form.now (sym (form-loaded (stored_of a.edition) a.m a.form.now _ g)) (sym (no-subgoal-form (stored_of c.args.edition) c.args.m c.args.path.now (form-refused (stored_of c.args.edition) 1 c.args.path.now r.0.0))))

pub note_starts-requires : goal.note_starts-requires
note_starts-requires c =
    let a = c.args in
    let g = sym c.in-Some.is ∙ c.load_terms.ensures.0 in
    let h = rw c.in-Some.is at c.load_terms.ensures.1 in
    let p = rw c.in-Some-load_counted.is at c.load_counted.ensures in
    asked a.edition a.m a.path.now a.form.now _ _ _ _ _ g h p c.if-loaded-m.true

pub missing-requires : goal.missing-requires
missing-requires c =
    let a = c.args in
    let g = sym c.in-Some.is ∙ c.load_terms.ensures.0 in
    let h = rw c.in-Some.is at c.load_terms.ensures.1 in
    let p = rw c.in-Some-load_counted.is at c.load_counted.ensures in
    let known_here = known a.edition a.m a.path.now a.form.now _ _ _ _ _ g h p c.if-loaded-m.true _ c.note_starts.ensures.0 c.note_starts.ensures.1 in
    let r = known_here in
    (last a.edition a.m a.path.now a.form.now _ _ _ _ _ g h p c.if-loaded-m.true, omega (arith, r.small, length-take c.in-Some-load_counted.loaded.cells c.load_counted.new.cells), r.placed-before)

pub overflow_add-result : goal.overflow_add-result
overflow_add-result c =
    let a = c.args in
    let g = sym c.in-Some.is ∙ c.load_terms.ensures.0 in
    let h = rw c.in-Some.is at c.load_terms.ensures.1 in
    let p = rw c.in-Some-load_counted.is at c.load_counted.ensures in
    let known_here : Ready (arity_of a.edition) (stored_of a.edition) a.path.now a.form.now c.load_counted.new.cells c.load_terms.new.cells c.note_starts.new.starts c.in-Some-load_counted.loaded.cells c.in-Some.end =
    known a.edition a.m a.path.now a.form.now _ _ _ _ _ g h p c.if-loaded-m.true _ c.note_starts.ensures.0 c.note_starts.ensures.1 in
    omega (arith, missing-bounded _ _ _ _ _ _ _ _ _ known_here _ _ _ c.missing.ensures c.in-Some-missing.is)

pub returns-in-Some-missing : goal.returns-in-Some-missing
returns-in-Some-missing c =
    let a = c.args in
    let g = sym c.in-Some.is ∙ c.load_terms.ensures.0 in
    let h = rw c.in-Some.is at c.load_terms.ensures.1 in
    let p = rw c.in-Some-load_counted.is at c.load_counted.ensures in
    let known_here = known a.edition a.m a.path.now a.form.now _ _ _ _ _ g h p c.if-loaded-m.true _ c.note_starts.ensures.0 c.note_starts.ensures.1 in
    let s = fits_not _ _ _ _ c.missing.ensures c.in-Some-missing.is in
    let f = fitting-short c.in-Some-missing.short ((coding_of c.args.edition).instance_of c.args.path.now c.args.form.now) c.args.out.now s.0 in
    λ v. leaves-said v _ _ _ _ _ (sized-short _ _ _ refl s.0) (leaves-same v _ _ c.args.out.now _ _ (both-legal (coding_of c.args.edition) c.args.m c.args.path.now c.args.form.now (form_legal a.edition a.m a.path.now a.form.now _ _ _ _ _ g h p) (is_form a.edition a.m a.path.now a.form.now _ _ _ _ _ g h p c.if-loaded-m.true)) (gives_fits v _ c.args.out.now _ _ (f.0 ∙ ap (λ (i : ℕ). fitting i (length c.args.out.now)) (s.1 ∙ known_here.need)) f.1))

pub write-requires : goal.write-requires
write-requires c =
    let a = c.args in
    let g = sym c.in-Some.is ∙ c.load_terms.ensures.0 in
    let h = rw c.in-Some.is at c.load_terms.ensures.1 in
    let p = rw c.in-Some-load_counted.is at c.load_counted.ensures in
    let known_here = known a.edition a.m a.path.now a.form.now _ _ _ _ _ g h p c.if-loaded-m.true _ c.note_starts.ensures.0 c.note_starts.ensures.1 in
    let r = known_here in
    (r.placed-within, omega (arith, fits_all _ _ _ c.missing.ensures c.in_default-missing.is, r.need, ap length r.instance-cells))

pub overflow_add-result-then-loaded-m : goal.overflow_add-result-then-loaded-m
overflow_add-result-then-loaded-m c =
    let a = c.args in
    let g = sym c.in-Some.is ∙ c.load_terms.ensures.0 in
    let h = rw c.in-Some.is at c.load_terms.ensures.1 in
    let p = rw c.in-Some-load_counted.is at c.load_counted.ensures in
    let known_here = known a.edition a.m a.path.now a.form.now _ _ _ _ _ g h p c.if-loaded-m.true _ c.note_starts.ensures.0 c.note_starts.ensures.1 in
    let r = known_here in
    omega (arith, c.write.ensures.0, ap length r.instance-cells, r.need, need-bounded _ _ _ _ _ _ _ _ _ r)

pub returns-then-loaded-m : goal.returns-then-loaded-m
returns-then-loaded-m c =
    let a = c.args in
    let g = sym c.in-Some.is ∙ c.load_terms.ensures.0 in
    let h = rw c.in-Some.is at c.load_terms.ensures.1 in
    let p = rw c.in-Some-load_counted.is at c.load_counted.ensures in
    let known_here = known a.edition a.m a.path.now a.form.now _ _ _ _ _ g h p c.if-loaded-m.true _ c.note_starts.ensures.0 c.note_starts.ensures.1 in
    let r = known_here in
    let e = c.write.ensures.0 ∙ ap length r.instance-cells in
    let l : c.write.result ≤ length c.args.out.now = omega (arith, e, r.need, fits_all _ _ _ c.missing.ensures c.in_default-missing.is) in
    let f = fitting-written c.write.result ((coding_of c.args.edition).instance_of c.args.path.now c.args.form.now) _ c.args.out.now c.write.new.out e r.instance-cells l c.write.ensures.1 in
    λ v. leaves-said v _ _ _ _ _ (sized-cells _ _ _ refl l) (leaves-same v _ _ c.args.out.now _ _ (both-legal (coding_of c.args.edition) c.args.m c.args.path.now c.args.form.now (form_legal a.edition a.m a.path.now a.form.now _ _ _ _ _ g h p) (is_form a.edition a.m a.path.now a.form.now _ _ _ _ _ g h p c.if-loaded-m.true)) (gives_fits v _ c.args.out.now _ _ f.0 f.1))

pub returns : goal.returns
returns c =
    let a = c.args in
    let g = sym c.in-Some.is ∙ c.load_terms.ensures.0 in
    let h = rw c.in-Some.is at c.load_terms.ensures.1 in
    let p = rw c.in-Some-load_counted.is at c.load_counted.ensures in
    λ v. leaves-says v _ c.args.out.now _ (both-subgoal (coding_of c.args.edition) c.args.m c.args.path.now c.args.form.now (form_legal a.edition a.m a.path.now a.form.now _ _ _ _ _ g h p) (tested a.edition a.m a.path.now a.form.now _ _ _ _ _ g h p ∙ ne_eqb _ _ c.if-loaded-m.false))
