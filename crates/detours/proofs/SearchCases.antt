-- A law for each case of the search for detours.
use Prim.Native.Nat.{ℕ, zero, suc, ◌+◌, ◌-◌, ◌^◌, ◌≤◌, ◌<◌}
use mathlib.Core.Path.{◌≡◌, refl, sym, ap, ◌∙◌, subst}
use mathlib.Core.Bool.{Bool, true, false}
use mathlib.Core.List.{List, [], ◌∷◌, ◌++◌, map}
use native.Mathlib.Omega.{arith}
use lib.ListN.{length, get_or, set, length-set, drop_of_length-le}
use lib.Seq.{get_or-set_same, get_or-set_other}
use Rattle.basis.specs.Choice.{pick}
use Rattle.plain.specs.Requests.{Best}
use Rattle.plain.specs.Detours.{Option, diverts, better, Progress, trying, tries, search}
use Rattle.space.specs.declared.tables.Table.{Table}
use Rattle.detours.specs.Searching.{work_cells, best_from, numbers_from, diverters_from, diverters_in, best_in, progress_in, options_in, Chosen, Stays, among}
use Rattle.detours.specs.Searching.{Keeps, option_from, going, goals_from, Searchable, Looks, Searches}
use Rattle.detours.specs.declared.Offer.{Offer}
use Rattle.detours.proofs.WorkLaws.{diverts-among, stays-self, stays_then, stays-fewer, stays-set, chosen-stays, chosen_more, best-same}

-- ---- the definitions of the search, clause by clause

pub trying-none : (left : ℕ) (best : Best) (on : Progress → Progress) → left ≡ 0 → trying left best on ≡ record { left = left; best = best; ended = false }
unfolding trying
trying-none zero best on e = refl
trying-none (suc left) best on e = absurd (omega arith)

pub trying-some : (left : ℕ) (best : Best) (on : Progress → Progress) → (left ≡ 0 → ⊥) → trying left best on ≡ on (record { left = left - 1; best = best; ended = true })
unfolding trying
trying-some zero best on e = absurd (e refl)
trying-some (suc left) best on e = ap (λ (k : ℕ). on (record { left = k; best = best; ended = true })) (omega arith)

pub tries-one : (on : Option → Progress → Progress) (o : Option) (os : List Option) (p : Progress) → p.ended ≡ true → tries on (o ∷ os) p ≡ tries on os (trying p.left p.best (on o))
unfolding tries
tries-one on o os p e = rw e refl

passed : (b : Bool) (x p : Progress) → b ≡ false → pick b x p ≡ p
passed b x p e = rw e refl

pub tries-ended : (on : Option → Progress → Progress) (os : List Option) (p : Progress) → p.ended ≡ false → tries on os p ≡ p
unfolding tries
tries-ended on [] p e = refl
tries-ended on (o ∷ os) p e = ap (tries on os) (passed p.ended (trying p.left p.best (on o)) p e) ∙ tries-ended on os p e

pub tries-none : (on : Option → Progress → Progress) (p : Progress) → tries on [] p ≡ p
unfolding tries
tries-none on p = refl

search-all : (os : List Option) (p : Progress) → search [] os p ≡ record { left = p.left; best = better p.best os; ended = p.ended }
unfolding search
search-all os p = refl

pub search-goal : (g : List Option) (gs : List (List Option)) (os : List Option) (p : Progress) → search (g ∷ gs) os p ≡ tries (going gs os) g p
unfolding search
search-goal g gs os p = refl

going-taken : (gs : List (List Option)) (os : List Option) (o : Option) (q : Progress) → diverts o.diverter os ≡ true → going gs os o q ≡ q
going-taken gs os o q e = rw e refl

going_on : (gs : List (List Option)) (os : List Option) (o : Option) (q : Progress) → diverts o.diverter os ≡ false → going gs os o q ≡ search gs (os ++ (o ∷ [])) q
going_on gs os o q e = rw e refl

-- ---- what may be searched

module _ {table : Table} {goals : List ℕ} {at sum : ℕ} {work : List ℕ} (r : Searchable table goals at sum work) where
  -- in cells that are as many
  pub searchable-kept : {work' : List ℕ} → length work' ≡ length work → Searchable table goals at sum work'
  searchable-kept e = record { few = r.few; here = r.here; small = r.small; size = e ∙ r.size; searched = r.searched }

  -- the goal after it, one choice more being made
  pub searchable-next : {work' : List ℕ} (next minutes : ℕ) → next ≡ suc at → next < length goals → minutes < 2 ^ 28 → length work' ≡ work_cells
      → Searchable table goals next (sum + minutes) work'
  searchable-next next minutes e l m s = record {
    few = r.few;
    here = l;
    small = omega (arith, r.small);
    size = s;
    searched = r.searched;
  }

-- ---- one choice

module _ (table : Table) (goals : List ℕ) (at sum : ℕ) (o : Offer) (work : List ℕ) where
  abbrev spent : List ℕ
  spent = set work 0 (get_or work 0 0 - 1)

  pub look-stopped : get_or work 0 0 ≡ 0 → Looks table goals at sum o work work false
  look-stopped z = record {
    stays = stays-self work at;
    progress = λ os c. sym (trying-none (get_or work 0 0) (best_in (length goals) work) (going (goals_from table goals (suc at)) os (option_from o)) z);
  }

  module _ (few : length goals ≤ 6) (size : length work ≡ work_cells) (some : get_or work 0 0 ≡ 0 → ⊥) where
    pub stays-spent : Stays work at spent
    stays-spent = stays-set work at 0 (get_or work 0 0 - 1) (λ i l e. omega arith) (λ i l e. omega arith)

    left-spent : get_or spent 0 0 ≡ get_or work 0 0 - 1
    left-spent = get_or-set_same work 0 (get_or work 0 0 - 1) 0 (omega arith)

    best-spent : best_in (length goals) spent ≡ best_in (length goals) work
    best-spent = best-same (length goals) work spent
        (get_or-set_other work 0 1 (get_or work 0 0 - 1) 0 (λ e. omega arith))
        (λ i l. get_or-set_other work 0 (best_from + i) (get_or work 0 0 - 1) 0 (λ e. omega arith))

    -- the choice is counted
    counted : (on : Progress → Progress) → trying (get_or work 0 0) (best_in (length goals) work) on ≡ on (progress_in (length goals) spent true)
    counted on =
        trying-some (get_or work 0 0) (best_in (length goals) work) on some
        ∙ rw (left-spent, best-spent) refl

    -- by whether its diverter is taken
    taken-told : (b : Bool) → b ≡ among o.diverter (diverters_in spent at) → (os : List Option) → Chosen work at sum os → diverts o.diverter os ≡ b
    taken-told b e os c =
        diverts-among o.diverter os ∙ ap (among o.diverter) (sym (chosen-stays stays-spent c).diverters) ∙ sym e

    pub look-taken : true ≡ among o.diverter (diverters_in spent at) → Looks table goals at sum o work spent true
    look-taken e = record {
      stays = stays-spent;
      progress = λ os c.
          sym (counted (going (goals_from table goals (suc at)) os (option_from o))
          ∙ going-taken (goals_from table goals (suc at)) os (option_from o) (progress_in (length goals) spent true) (taken-told true e os c));
    }

    module _ (free : false ≡ among o.diverter (diverters_in spent at)) (here : at < length goals) where
      abbrev put : List ℕ
      put = set (set spent (numbers_from + at) o.number) (diverters_from + at) o.diverter

      abbrev first : List ℕ
      first = set spent (numbers_from + at) o.number

      pub put-size : length put ≡ work_cells
      put-size = length-set first (diverters_from + at) o.diverter ∙ length-set spent (numbers_from + at) o.number ∙ length-set work 0 (get_or work 0 0 - 1) ∙ size

      spent-size : length spent ≡ work_cells
      spent-size = length-set work 0 (get_or work 0 0 - 1) ∙ size

      first-size : length first ≡ work_cells
      first-size = length-set spent (numbers_from + at) o.number ∙ spent-size

      stays_put : Stays work at put
      stays_put =
          stays_then stays-spent
          (stays_then (stays-set spent at (numbers_from + at) o.number (λ i l e. omega arith) (λ i l e. omega arith))
          (stays-set first at (diverters_from + at) o.diverter (λ i l e. omega arith) (λ i l e. omega arith)))

      number_put : get_or put (numbers_from + at) 0 ≡ o.number
      number_put =
          get_or-set_other first (diverters_from + at) (numbers_from + at) o.diverter 0 (λ e. omega arith)
          ∙ get_or-set_same spent (numbers_from + at) o.number 0 (omega (arith, spent-size))

      diverter-put : get_or put (diverters_from + at) 0 ≡ o.diverter
      diverter-put = get_or-set_same first (diverters_from + at) o.diverter 0 (omega (arith, first-size))

      chosen-put : (os : List Option) → Chosen work at sum os → Chosen put (suc at) (sum + o.minutes) (os ++ (option_from o ∷ []))
      chosen-put os c = chosen_more (option_from o) (chosen-stays stays_put c) number_put diverter-put

      low-put : (i : ℕ) → i < numbers_from → get_or put i 0 ≡ get_or spent i 0
      low-put i l =
          get_or-set_other first (diverters_from + at) i o.diverter 0 (λ e. omega arith)
          ∙ get_or-set_other spent (numbers_from + at) i o.number 0 (λ e. omega arith)

      progress-put : progress_in (length goals) put true ≡ progress_in (length goals) spent true
      progress-put = rw (low-put 0 (omega arith), best-same (length goals) spent put (low-put 1 (omega arith)) (λ i l. low-put (best_from + i) (omega arith))) refl

      -- what is left to do after the choice is put down
      after-put : (os : List Option) → Chosen work at sum os
          → trying (get_or work 0 0) (best_in (length goals) work) (going (goals_from table goals (suc at)) os (option_from o))
          ≡ search (goals_from table goals (suc at)) (os ++ (option_from o ∷ [])) (progress_in (length goals) put true)
      after-put os c =
          counted (going (goals_from table goals (suc at)) os (option_from o))
          ∙ going_on (goals_from table goals (suc at)) os (option_from o) (progress_in (length goals) spent true) (taken-told false free os c)
          ∙ ap (search (goals_from table goals (suc at)) (os ++ (option_from o ∷ []))) (sym progress-put)

      no-goals : suc at ≡ length goals → goals_from table goals (suc at) ≡ []
      no-goals e = ap (map (options_in table)) (drop_of_length-le goals {i = suc at} (omega arith))

      look-whole : (work' : List ℕ) → suc at ≡ length goals → Keeps put (suc at) (sum + o.minutes) work' → Looks table goals at sum o work work' true
      look-whole work' e k = record {
        stays = stays_then stays_put (stays-fewer k.stays);
        progress = λ os c.
            let b : best_in (length goals) work' ≡ better (best_in (length goals) put) (os ++ (option_from o ∷ [])) =
            ap (λ (n : ℕ). best_in n work') (sym e) ∙ k.best (os ++ (option_from o ∷ [])) (chosen-put os c)
            ∙ ap (λ (n : ℕ). better (best_in n put) (os ++ (option_from o ∷ []))) e in
            rw (k.left, b) (sym (after-put os c
            ∙ ap (λ (gs : List (List Option)). search gs (os ++ (option_from o ∷ [])) (progress_in (length goals) put true)) (no-goals e)
            ∙ search-all (os ++ (option_from o ∷ [])) (progress_in (length goals) put true)));
      }

      look-below : (work' : List ℕ) (r : Bool) → Searches table goals (suc at) (sum + o.minutes) put work' r → Looks table goals at sum o work work' r
      look-below work' r s = record {
        stays = stays_then stays_put (stays-fewer s.stays);
        progress = λ os c. s.progress (os ++ (option_from o ∷ [])) (chosen-put os c) ∙ sym (after-put os c);
      }

      -- the last goal's choice is put down; or the goals after this one are searched
      module _ (next : ℕ) (is : next ≡ suc at) (work' : List ℕ) where
        pub look-last : next ≡ length goals → Keeps put next (sum + o.minutes) work' → Looks table goals at sum o work work' true
        look-last e k = look-whole work' (sym is ∙ e) (subst (λ (n : ℕ). Keeps put n (sum + o.minutes) work') is k)

        pub look-deeper : (r : Bool) → Searches table goals next (sum + o.minutes) put work' r → Looks table goals at sum o work work' r
        look-deeper r s = look-below work' r (subst (λ (n : ℕ). Searches table goals n (sum + o.minutes) put work' r) is s)
