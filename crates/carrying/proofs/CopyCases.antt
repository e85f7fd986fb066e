-- One law for each case of the copy, for the code to cite where it returns.
use Rattle.basis.specs.declared.refusals.Refusal.{Refusal}
use Rattle.basis.specs.declared.refusals.Refusal.TheVariants as refusal
use Rattle.std.specs.Prelude.{Err, Ok}
use Prim.Native.Nat.{ℕ}
use mathlib.Core.Path.{◌≡◌, sym, ◌∙◌}
use mathlib.Core.Bool.{true, false, ◌&&◌}
use mathlib.Core.List.{List}
use lib.Dec.{eqb, leb}
use borrow.Author.Tests.{eq-eqb}
use Rattle.forms.specs.Cells.{arity_of}
use Rattle.forms.specs.Stored.{stores_pairs}
use Rattle.plain.specs.Coding.{coding_of}
use Rattle.space.specs.Layout.{sizes_of}
use Rattle.space.specs.Heading.{space_header}
use Rattle.space.specs.Fresh.{fresh_answer_in, FreshAnswer}
use Rattle.space.specs.declared.Head.{Head}
use Rattle.store.specs.Views.{View, view_of}
use Rattle.agreement.specs.Whole.{table_read, whole_space}
use Rattle.agreement.proofs.WholeTable.{subgoals-length, answers-length}
use Rattle.carrying.specs.Recoding.{Recoding}
use Rattle.carrying.specs.Carrying.{carried, takes_table, holdable, carrying}
use Rattle.carrying.specs.Copying.{source_loads, built, copy_under, copy_reply, copy_built, copy_space}
use Rattle.carrying.specs.Clauses.{CopiesInto, slow_fits}
use Rattle.carrying.specs.Quick.{takes_nodes, quick_reply}
use Rattle.carrying.proofs.RecodingLaws.{Recodes}
use Rattle.carrying.proofs.CarriedLaws.{carried-subgoals, carried-answers}
use Rattle.carrying.proofs.NodeCounts.{nodes-carried}
use Rattle.carrying.proofs.LoadingLaws.{loads-stored}
use Rattle.carrying.proofs.Needs.{needs}
use Rattle.carrying.proofs.Quick.{copy-quick}

-- what loads can be held where the count that writes nothing says so
pub slow-holdable : (e d : ℕ) (r : Recoding) → Recodes r (arity_of e) (arity_of d) → (n f a : ℕ) (v : View) → source_loads (coding_of e) v ≡ true
    → takes_table r (table_read v) ≡ true → holdable (carried r n f a (table_read v)) ≡ slow_fits n f a v
unfolding holdable
slow-holdable e d r R n f a v load takes =
    rw (
      nodes-carried r (arity_of e) (arity_of d) R n f a (table_read v) takes,
      needs (table_read v) (loads-stored (coding_of e) v load).owned,
      carried-subgoals r n f a (table_read v),
      carried-answers r n f a (table_read v),
      subgoals-length v,
      answers-length v,
    )

module _ (e d : ℕ) (r : Recoding) (n f a : ℕ) (source target : List ℕ) where
  abbrev Leaves : FreshAnswer → List ℕ → Type 0
  Leaves = CopiesInto e d r n f a source target

  -- a refusal leaves the target
  refused-leaves : (k : Refusal) → Err k ≡ copy_reply e d r n f a source target → Leaves (Err k) target
  unfolding copy_space
  refused-leaves k q = (q, rw (← q))

  pub copy-headless : (k : Refusal) → space_header source ≡ Err k → CopiesInto e d r n f a source target (Err k) target
  unfolding copy_reply copy_under
  copy-headless k s = refused-leaves k (rw s)

  module _ (h : Head) (s : space_header source ≡ Ok h) where
    abbrev v : View
    v = view_of (sizes_of e) source h

    pub copy-other : eqb h.edition e ≡ false → CopiesInto e d r n f a source target (Err refusal.Header) target
    unfolding copy_reply copy_under
    copy-other q = refused-leaves refusal.Header (rw (s, q))

    module _ (is : h.edition ≡ e) where
      pub copy-unfresh : (k : Refusal) → fresh_answer_in d n f a target ≡ Err k → CopiesInto e d r n f a source target (Err k) target
      unfolding copy_reply copy_under
      copy-unfresh k q = refused-leaves k (rw (s, eq-eqb h.edition e is, q))

      module _ (fresh : fresh_answer_in d n f a target ≡ Ok tt) where
        pub copy-unloaded : source_loads (coding_of e) (view_of (sizes_of e) source h) ≡ false → CopiesInto e d r n f a source target (Err refusal.Records) target
        unfolding copy_reply copy_under
        copy-unloaded q = refused-leaves refusal.Records (rw (s, eq-eqb h.edition e is, fresh, q))

        -- a source that loads
        module _ (load : source_loads (coding_of e) (view_of (sizes_of e) source h) ≡ true) where
          loaded-reply : copy_reply e d r n f a source target ≡ carrying r n f a (table_read v)
          unfolding copy_reply copy_under
          loaded-reply = rw (s, eq-eqb h.edition e is, fresh, load)

          pub copy-unnamed : takes_table r (table_read (view_of (sizes_of e) source h)) ≡ false → CopiesInto e d r n f a source target (Err refusal.Functor) target
          copy-unnamed q = refused-leaves refusal.Functor (sym (loaded-reply ∙ (unfold carrying in rw q)))

          module _ (R : Recodes r (arity_of e) (arity_of d)) (name_fits : takes_table r (table_read (view_of (sizes_of e) source h)) ≡ true) where
            slow-same : holdable (carried r n f a (table_read v)) ≡ slow_fits n f a v
            slow-same = slow-holdable e d r R n f a v load name_fits

            pub copy-small : slow_fits n f a (view_of (sizes_of e) source h) ≡ false → CopiesInto e d r n f a source target (Err refusal.Capacity) target
            copy-small q = refused-leaves refusal.Capacity (sym (loaded-reply ∙ (unfold carrying in rw (name_fits, slow-same, q))))

            pub copy_done : slow_fits n f a (view_of (sizes_of e) source h) ≡ true
                → CopiesInto e d r n f a source target (Ok tt) (built (sizes_of d) (carried r n f a (table_read (view_of (sizes_of e) source h))) target)
            unfolding copy_space copy_built
            copy_done q =
                let w : copy_reply e d r n f a source target ≡ Ok tt = loaded-reply ∙ (unfold carrying in rw (name_fits, slow-same, q)) in
                (sym w, rw (w, s))

        -- a source that passes the check
        module _ (R : Recodes r (arity_of e) (arity_of d)) (alike : stores_pairs e ≡ stores_pairs d) (whole : whole_space source ≡ true) where
          quick : copy_reply e d r n f a source target ≡ quick_reply r n f a v
          quick = copy-quick e d r R alike n f a source target h whole s is ∙ rw fresh

          pub quick-unnamed : takes_nodes r (view_of (sizes_of e) source h) ≡ false → CopiesInto e d r n f a source target (Err refusal.Functor) target
          quick-unnamed q = refused-leaves refusal.Functor (sym (quick ∙ (unfold quick_reply in rw q)))

          pub quick-small : takes_nodes r (view_of (sizes_of e) source h) ≡ true → (leb h.nodes n && leb h.subgoals f && leb h.answers a) ≡ false
              → CopiesInto e d r n f a source target (Err refusal.Capacity) target
          quick-small p q = refused-leaves refusal.Capacity (sym (quick ∙ (unfold quick_reply in rw (p, q))))

          pub quick-done : takes_nodes r (view_of (sizes_of e) source h) ≡ true → (leb h.nodes n && leb h.subgoals f && leb h.answers a) ≡ true
              → CopiesInto e d r n f a source target (Ok tt) (built (sizes_of d) (carried r n f a (table_read (view_of (sizes_of e) source h))) target)
          unfolding copy_space copy_built
          quick-done p q =
              let w : copy_reply e d r n f a source target ≡ Ok tt = quick ∙ (unfold quick_reply in rw (p, q)) in
              (sym w, rw (w, s))
