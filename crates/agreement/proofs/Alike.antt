-- What two codings that answer alike come to on the cells (specs/Alike.antt): each space shows its plain table's trace.
use Prim.Native.Nat.{ℕ}
use mathlib.Core.List.{List}
use mathlib.Core.Path.{◌≡◌, refl, sym, ap, ◌∙◌, subst}
use Rattle.forms.specs.Cells.{arity_of}
use Rattle.forms.specs.Stored.{stored_of}
use Rattle.forms.proofs.StoredLaws.{StoredLaws, stored_of_lem}
use Rattle.plain.specs.Coding.{Coding, coded_as, coding_of, compact_coding, pair_coding}
use Rattle.plain.specs.Requests.{Request, Result, Seen}
use Rattle.plain.specs.Table.{fresh, table_trace}
use Rattle.plain.specs.Alike.{up_to_ten, AnswerAlike}
use Rattle.plain.proofs.StoredCoding.{compact-laws, pair-laws}
use Rattle.plain.proofs.StoredAlike.{stored-alike, forms-alike}
use Rattle.space.specs.Layout.{Sizes}
use Rattle.store.specs.Calls.{cell_step}
use Rattle.agreement.specs.Records.{Wide}
use Rattle.agreement.specs.Promise.{Kept}
use Rattle.agreement.specs.History.{asked}
use Rattle.agreement.specs.Alike.{CellsAlike, EditionsAlike, HistoriesAlike}
use Rattle.agreement.proofs.Theorem.{agreement, promise}
use Rattle.agreement.proofs.Histories.{histories}

-- two lists that show two lists that are alike
shown-alike : (xs ys us vs : List Seen) → xs ≡ us → ys ≡ vs → up_to_ten us vs ≡ up_to_ten vs us → up_to_ten xs ys ≡ up_to_ten ys xs
shown-alike xs ys us vs e f h = rw (e, f) h

-- any two libraries that keep the promise, over codings that answer alike
pub cells-alike : (z y : Sizes) (c d : Coding) (step other : List ℕ → Request → Result (List ℕ)) → Kept z c step → Kept y d other → AnswerAlike c d
    → CellsAlike z step y other
cells-alike z y c d step other p q alike n k f a s r qs e g =
    shown-alike _ _ (table_trace c (fresh n f a) qs) (table_trace d (fresh k f a) qs) (p n f a s qs e) (q k f a r qs g) (alike n k f a qs)

-- so the calls on cells in compact form and in numbered pair form, in any two layouts
pub forms-alike-cells : (arity : ℕ → ℕ) (z y : Sizes) → Wide z → Wide y → CellsAlike z (cell_step z (compact_coding arity)) y (cell_step y (pair_coding arity))
forms-alike-cells arity z y w v =
    cells-alike z y (compact_coding arity) (pair_coding arity) (cell_step z (compact_coding arity)) (cell_step y (pair_coding arity))
    (agreement z w (compact_coding arity) (compact-laws arity)) (agreement y v (pair_coding arity) (pair-laws arity)) (forms-alike arity)

-- two editions with one arity rule
module _ (e i : ℕ) (rule : arity_of e ≡ arity_of i) where
  codings-alike : AnswerAlike (coding_of e) (coding_of i)
  codings-alike =
      subst (λ (arity : ℕ → ℕ). AnswerAlike (coding_of e) (coded_as arity (stored_of i))) rule
      (stored-alike (arity_of e) (stored_of e) (stored_of i) (stored_of_lem e) (subst (λ (arity : ℕ → ℕ). StoredLaws arity (stored_of i)) (sym rule) (stored_of_lem i)))

  pub editions-alike : EditionsAlike e i
  editions-alike n k f a s r qs d g =
      shown-alike _ _ (table_trace (coding_of e) (fresh n f a) qs) (table_trace (coding_of i) (fresh k f a) qs)
      (promise e n f a s qs d) (promise i k f a r qs g) (codings-alike n k f a qs)

  pub histories-alike : HistoriesAlike e i
  histories-alike n k f a s r ms ps d g h l same =
      shown-alike _ _ (table_trace (coding_of e) (fresh n f a) (asked ms)) (table_trace (coding_of i) (fresh k f a) (asked ms))
      (histories e n f a s ms d h)
      (histories i k f a r ps g l ∙ ap (table_trace (coding_of i) (fresh k f a)) (sym same))
      (codings-alike n k f a (asked ms))

-- editions 3 and 4 have one
same-rule : arity_of 3 ≡ arity_of 4
unfolding arity_of
same-rule = refl

pub three-and-four : EditionsAlike 3 4 × HistoriesAlike 3 4
three-and-four = (editions-alike 3 4 same-rule, histories-alike 3 4 same-rule)
