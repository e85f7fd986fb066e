-- A law for each case of what a search found, and of detours as a call.
use Rattle.std.specs.Prelude.{Err, Ok}
use Rattle.basis.specs.Refusals.{number_of}
use Rattle.basis.specs.declared.refusals.Refusal.{Refusal}
use Prim.Native.Nat.{ℕ, zero, suc, ◌-◌, ◌≤◌}
use mathlib.Core.Path.{◌≡◌, refl, sym, ap, ◌∙◌}
use mathlib.Core.Bool.{Bool, true, false}
use mathlib.Core.List.{List, [], ◌∷◌, ◌++◌}
use native.Mathlib.Omega.{arith}
use lib.ListN.{length, take, get_or, set, replicate}
use Rattle.basis.specs.Choice.{pick}
use Rattle.plain.specs.Coding.{coding_of}
use Rattle.plain.specs.Requests.{Reply, Best, none_found, found, detours, detoured, refused, lent}
use Rattle.plain.specs.Detours.{Option, diverts, total_of, Progress, trying, tries, search, detour, all_within}
use Rattle.space.specs.Heading.{space_header}
use Rattle.space.specs.Tables.{Opened}
use Rattle.space.specs.declared.tables.Table.{Table}
use Rattle.store.specs.Clauses.{view_at}
use Rattle.store.specs.Changes.{change_by}
use Rattle.store.specs.Decisions.{says, refuses, decide, decide_by, goals_in, detours_in}
use Rattle.store.specs.Calls.{Answers, reply, out_after, under_by, under_any_by, space_step_by}
use Rattle.detours.specs.Searching.{no_total, cells_at, progress_in, Chosen, goals_from, Searches}
use Rattle.detours.specs.Judging.{Ready, GoalsTold}
use Rattle.detours.specs.Finding.{detour_in}
use Rattle.detours.proofs.WorkLaws.{best_none, best-found}

-- ---- what the cells say

pub find_none : (n : ℕ) (work : List ℕ) (budget : ℕ) (ended : Bool) → get_or work 1 0 ≡ no_total
    → detoured (record { best = none_found; tried = budget - get_or work 0 0; ended = ended }) ≡ detoured (detour_in work n budget ended)
find_none n work budget ended e = rw (best_none n work e) refl

-- the first n of the numbers
numbers-are : (work : List ℕ) (n : ℕ) → n ≤ 6
    → take n (get_or work 2 0 ∷ get_or work 3 0 ∷ get_or work 4 0 ∷ get_or work 5 0 ∷ get_or work 6 0 ∷ get_or work 7 0 ∷ []) ≡ cells_at work 2 n
unfolding cells_at
numbers-are work zero l = refl
numbers-are work (suc zero) l = refl
numbers-are work (suc (suc zero)) l = refl
numbers-are work (suc (suc (suc zero))) l = refl
numbers-are work (suc (suc (suc (suc zero)))) l = refl
numbers-are work (suc (suc (suc (suc (suc zero))))) l = refl
numbers-are work (suc (suc (suc (suc (suc (suc zero)))))) l = refl
numbers-are work (suc (suc (suc (suc (suc (suc (suc n))))))) l = absurd (omega arith)

pub find-found : (n : ℕ) (work : List ℕ) (budget : ℕ) (ended : Bool) → n ≤ 6 → (get_or work 1 0 ≡ no_total → ⊥)
    → detoured (record {
      best = found (get_or work 1 0) (take n (get_or work 2 0 ∷ get_or work 3 0 ∷ get_or work 4 0 ∷ get_or work 5 0 ∷ get_or work 6 0 ∷ get_or work 7 0 ∷ []));
      tried = budget - get_or work 0 0;
      ended = ended;
    }) ≡ detoured (detour_in work n budget ended)
find-found n work budget ended l e = rw (best-found n work e, numbers-are work n l) refl

-- ---- the search from its beginning

-- no search has more choices left than it had
trying-left : (left : ℕ) (best : Best) (on : Progress → Progress) → ((q : Progress) → (on q).left ≤ q.left) → (trying left best on).left ≤ left
unfolding trying
trying-left zero best on k = omega arith
trying-left (suc left) best on k = omega (arith, k (record { left = left; best = best; ended = true }))

picked-left : (b : Bool) (p q : Progress) (n : ℕ) → p.left ≤ n → q.left ≤ n → (pick b p q).left ≤ n
picked-left true p q n k l = k
picked-left false p q n k l = l

tries_left : (on : Option → Progress → Progress) → ((o : Option) (q : Progress) → (on o q).left ≤ q.left) → (os : List Option) (p : Progress) → (tries on os p).left ≤ p.left
unfolding tries
tries_left on k [] p = omega arith
tries_left on k (o ∷ os) p =
    let q = pick p.ended (trying p.left p.best (on o)) p in
    omega (arith, tries_left on k os q, picked-left p.ended (trying p.left p.best (on o)) p p.left (trying-left p.left p.best (on o) (k o)) (omega arith))

search-left : (gs : List (List Option)) (os : List Option) (p : Progress) → (search gs os p).left ≤ p.left
unfolding search
search-left [] os p = omega arith
search-left (g ∷ gs) os p =
    tries_left (λ o q. pick (diverts o.diverter os) q (search gs (os ++ (o ∷ [])) q))
    (λ o q. picked-left (diverts o.diverter os) q (search gs (os ++ (o ∷ [])) q) q.left (omega arith) (search-left gs (os ++ (o ∷ [])) q)) g p

-- nothing is chosen yet
chosen_none : (work : List ℕ) → Chosen work 0 0 []
unfolding cells_at total_of
chosen_none work = record { numbers = refl; diverters = refl; total = refl }

abbrev pub begun : ℕ → List ℕ
begun budget = set (set (replicate 20 0) 0 budget) 1 no_total

progress-begun : (n budget : ℕ) → progress_in n (begun budget) true ≡ record { left = budget; best = none_found; ended = true }
progress-begun n budget = rw (best_none n (begun budget) refl) refl

module _ (table : Table) (ss : List ℕ) (budget : ℕ) (work : List ℕ) (r : Bool) (s : Searches table ss 0 0 (begun budget) work r) where
  from-begun : progress_in (length ss) work r ≡ search (goals_from table ss 0) [] (record { left = budget; best = none_found; ended = true })
  from-begun = s.progress [] (chosen_none (begun budget)) ∙ ap (search (goals_from table ss 0) []) (progress-begun (length ss) budget)

  pub find-left : get_or work 0 0 ≤ budget
  find-left = omega (arith, ap (λ (p : Progress). p.left) from-begun, search-left (goals_from table ss 0) [] (record { left = budget; best = none_found; ended = true }))

  pub find-told : detoured (detour_in work (length ss) budget r) ≡ detoured (detour (goals_from table ss 0) budget)
  unfolding detour
  find-told = ap (λ (p : Progress). detoured (record { best = p.best; tried = budget - p.left; ended = p.ended })) from-begun

-- ---- the call

module _ (table : Table) (ss : List ℕ) (budget : ℕ) where
  pub decides-number : all_within table.head.subgoals ss ≡ false → refuses 7 ≡ decide (coding_of table.head.edition) (view_at table) (detours ss budget)
  unfolding decide_by
  decides-number e = sym (rw e refl)

  module _ (e : all_within table.head.subgoals ss ≡ true) where
    decides-on : detours_in (coding_of table.head.edition) (goals_in (coding_of table.head.edition) (view_at table) ss) budget ≡ decide (coding_of table.head.edition) (view_at table) (detours ss budget)
    unfolding decide_by
    decides-on = sym (rw e refl)

    pub decides-refused : (r : Refusal) → GoalsTold table ss (Err r) → refuses (number_of r) ≡ decide (coding_of table.head.edition) (view_at table) (detours ss budget)
    decides-refused r t = sym (t budget) ∙ decides-on

    pub decides-found : (x : Reply) → Ready table ss → x ≡ detoured (detour (goals_from table ss 0) budget) → says x ≡ decide (coding_of table.head.edition) (view_at table) (detours ss budget)
    decides-found x t f = ap says f ∙ sym (t.told budget) ∙ decides-on

module _ (cs : List ℕ) (ss : List ℕ) (budget : ℕ) where
  pub detours-declined : (r : Refusal) → Err r ≡ space_header cs → Answers cs (detours ss budget) (refused (number_of r)) [] cs
  unfolding space_step_by under_any_by lent
  detours-declined r e = rw (← e) (refl, refl, refl)

  pub detours-answered : (table : Table) → Opened cs (Ok table) → (x : Reply) → says x ≡ decide (coding_of table.head.edition) (view_at table) (detours ss budget) → Answers cs (detours ss budget) x [] cs
  unfolding space_step_by under_any_by under_by reply out_after change_by lent
  detours-answered table o x d =
      let e : Ok table.head ≡ space_header table.cells.now = rw o.0 o.1 in
      rw (← o.0, ← e, ← d) (refl, refl, refl)
