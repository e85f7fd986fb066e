-- A law for each case of what a copy answers, and that both ways of telling it come to the same.
use Rattle.basis.specs.declared.refusals.Refusal.TheVariants as refusal
use Rattle.std.specs.Prelude.{Err, Ok}
use Rattle.basis.specs.declared.refusals.Refusal.{Refusal}
use Prim.Native.Nat.{ℕ}
use mathlib.Core.Path.{◌≡◌, refl, sym, ap, ◌∙◌}
use mathlib.Core.Bool.{true, false, false≢true}
use mathlib.Core.List.{List}
use borrow.Author.Tests.{ne_eqb, eq-eqb}
use Rattle.basis.specs.Editions.{known_edition}
use Rattle.plain.specs.Coding.{coding_of}
use Rattle.space.specs.Layout.{sizes_of}
use Rattle.space.specs.Heading.{space_header}
use Rattle.space.specs.Fresh.{fresh_fits, fresh_answer, fresh_answer_in}
use Rattle.space.specs.declared.Head.{Head}
use Rattle.store.specs.Views.{View, view_of}
use Rattle.store.specs.Clauses.{view_in}
use Rattle.agreement.specs.Whole.{table_read, whole_space}
use Rattle.agreement.specs.Faults.{nothing, fault_of}
use Rattle.agreement.proofs.Faults.{fault-told}
use Rattle.carrying.specs.Recoding.{widening}
use Rattle.carrying.specs.Carrying.{takes_table, carrying}
use Rattle.carrying.specs.Copying.{source_loads, copy_under, copy_reply, carry_reply, carry_space, copy_space}
use Rattle.carrying.specs.Clauses.{CopiesInto, slow_fits}
use Rattle.carrying.specs.Quick.{quick_reply}
use Rattle.carrying.proofs.CopyCases.{copy-headless, copy-other, copy-unfresh, slow-holdable}
use Rattle.carrying.proofs.Quick.{copy-quick}
use Rattle.carrying.proofs.Theorems.{carry-recodes}
use Rattle.integrity.specs.Tests.{CheckAnswer, said_check}
use Rattle.std.specs.Result.{is_ok}
use Rattle.copying.specs.Clauses.{loaded_reply}

-- ---- any source

module _ (n f a : ℕ) (v : View) where
  pub loaded-broken : source_loads (coding_of 1) v ≡ false → Err refusal.Records ≡ loaded_reply n f a v
  unfolding loaded_reply
  loaded-broken e = simp e

  module _ (load : source_loads (coding_of 1) v ≡ true) where
    pub loaded-unnamed : takes_table widening (table_read v) ≡ false → Err refusal.Functor ≡ loaded_reply n f a v
    unfolding loaded_reply carrying
    loaded-unnamed e = rw (load, e)

    module _ (takes : takes_table widening (table_read v) ≡ true) where
      pub loaded-small : slow_fits n f a v ≡ false → Err refusal.Capacity ≡ loaded_reply n f a v
      unfolding loaded_reply carrying
      loaded-small e = rw (load, takes, slow-holdable 1 2 widening carry-recodes n f a v load takes, e)

      pub loaded-done : slow_fits n f a v ≡ true → Ok tt ≡ loaded_reply n f a v
      unfolding loaded_reply carrying
      loaded-done e = rw (load, takes, slow-holdable 1 2 widening carry-recodes n f a v load takes, e)

-- ---- a copy

-- what the check answers of a whole space
pub whole-said : (r : CheckAnswer) → true ≡ is_ok r → nothing ≡ said_check r
whole-said (Ok y) e = refl
whole-said (Err b) e = absurd (false≢true (sym e))

module _ (n f a : ℕ) (source target : List ℕ) where
  pub decided-headless : (k : Refusal) → Err k ≡ space_header source → Err k ≡ carry_reply n f a source target
  decided-headless k s = (copy-headless 1 2 widening n f a source target k (sym s)).0

  module _ (h : Head) (s : Ok h ≡ space_header source) where
    pub decided-other : (h.edition ≡ 1 → ⊥) → Err refusal.Header ≡ carry_reply n f a source target
    decided-other q = (copy-other 1 2 widening n f a source target h (sym s) (ne_eqb h.edition 1 q)).0

    module _ (is : h.edition ≡ 1) (x y z : ℕ) (ex : x ≡ n) (ey : y ≡ f) (ez : z ≡ a) where
      fits-are : fresh_fits (sizes_of 2) x y z target ≡ fresh_fits (sizes_of 2) n f a target
      fits-are = rw (ex, ey, ez)

      pub decided-unfresh : fresh_fits (sizes_of 2) x y z target ≡ false → Err refusal.Fresh ≡ carry_reply n f a source target
      decided-unfresh q = (copy-unfresh 1 2 widening n f a source target h (sym s) is refusal.Fresh (unfold fresh_answer_in fresh_answer known_edition in rw (sym fits-are ∙ q))).0

      module _ (q : fresh_fits (sizes_of 2) x y z target ≡ true) where
        fresh-done : fresh_answer_in 2 n f a target ≡ Ok tt
        unfolding fresh_answer_in fresh_answer known_edition
        fresh-done = rw (sym fits-are ∙ q)

        seen : view_of (sizes_of 1) source h ≡ view_in source h
        seen = ap (λ (k : ℕ). view_of (sizes_of k) source h) (sym is)

        pub decided-whole : nothing ≡ fault_of source → quick_reply widening n f a (view_in source h) ≡ carry_reply n f a source target
        decided-whole w =
            let whole : whole_space source ≡ true = (fault-told source).0 (sym w) in
            ap (quick_reply widening n f a) (sym seen)
            ∙ sym (copy-quick 1 2 widening carry-recodes refl n f a source target h whole (sym s) is ∙ rw fresh-done)

        pub decided-loaded : loaded_reply n f a (view_in source h) ≡ carry_reply n f a source target
        unfolding copy_reply copy_under loaded_reply
        decided-loaded = ap (loaded_reply n f a) (sym seen) ∙ rw (sym s, eq-eqb h.edition 1 is, fresh-done)

-- decided, then written
module _ (n f a : ℕ) (source target : List ℕ) where
  pub carried-done : (after : List ℕ) → Ok tt ≡ carry_reply n f a source target → after ≡ carry_space n f a source target
      → CopiesInto 1 2 widening n f a source target (Ok tt) after
  carried-done after e w = (e, w)

  pub carried-refused : (k : Refusal) → Err k ≡ carry_reply n f a source target → CopiesInto 1 2 widening n f a source target (Err k) target
  unfolding copy_space
  carried-refused k e = (e, rw (← e))
