-- What detours finds but for the answers' numbers is told by the forms of the answers alone.
use mathlib.Core.Bool.{Bool, true, false, ◌&&◌}
use mathlib.Core.List.{List, [], ◌∷◌, ◌++◌, map, map-append}
use mathlib.Core.Path.{◌≡◌, refl, sym, ap, ◌∙◌, subst}
use Prim.Native.Nat.{ℕ, zero, suc}
use native.Mathlib.Omega.{arith}
use lib.Dec.{eqb, ltb}
use lib.ListN.{length-map}
use Rattle.basis.specs.Choice.{pick}
use Rattle.basis.proofs.Cases.{by_cases}
use Rattle.plain.specs.Coding.{Coding}
use Rattle.plain.specs.Requests.{Best, none_found, found, detoured}
use Rattle.plain.specs.Detours.{Live, Goal, Option, diverts, total_of, better, Progress, trying, tries, search, detour, all_offer, goals_fit, any_open, few_goals, option_of, options_of, detours_of}
use Rattle.plain.specs.Table.{Table, Answer, subgoal_at, answers_to, numbered_answers, goal_of}
use Rattle.plain.specs.Order.{unnumbered, unnumbered_best}

-- ---- options without their numbers

abbrev bare : Option → Option
bare o = record { number = 0; diverter = o.diverter; minutes = o.minutes }

abbrev bares : List Option → List Option
bares os = map bare os

diverts-bare : (d : ℕ) (os : List Option) → diverts d (bares os) ≡ diverts d os
unfolding diverts
diverts-bare d [] = refl
diverts-bare d (o ∷ os) = rw (diverts-bare d os)

total-bare : (os : List Option) → total_of (bares os) ≡ total_of os
unfolding total_of
total-bare [] = refl
total-bare (o ∷ os) = rw (total-bare os)

same_total : {a b : ℕ} {ns ms : List ℕ} → found a ns ≡ found b ms → a ≡ b
same_total e = cc

none_found_lem : {a : ℕ} {ns : List ℕ} {A : Type 0} → none_found ≡ found a ns → A
none_found_lem e = let z : ◌≡◌ {A = ℕ} 0 1 = cc in absurd (omega arith)

better-bare : (a b : Best) (os : List Option) → unnumbered_best a ≡ unnumbered_best b → unnumbered_best (better a (bares os)) ≡ unnumbered_best (better b os)
unfolding better
better-bare none_found none_found os e = ap (λ (k : ℕ). found k []) (total-bare os)
better-bare none_found (found t ns) os e = none_found_lem e
better-bare (found t ns) none_found os e = none_found_lem (sym e)
better-bare (found t ns) (found u ms) os e =
    let q : t ≡ u = same_total e in
    rw (total-bare os, q) (by_cases (ltb (total_of os) u) (λ z. rw z) (λ z. rw z))

-- ---- searches that differ in numbers alone

record Like (p q : Progress) : Type 0 where
  left : p.left ≡ q.left
  best : unnumbered_best p.best ≡ unnumbered_best q.best
  ended : p.ended ≡ q.ended

abbrev Keeps : (Progress → Progress) → (Progress → Progress) → Type 0
Keeps f g = (p q : Progress) → Like p q → Like (f p) (g q)

trying-like : (l : ℕ) (a b : Best) (f g : Progress → Progress) → unnumbered_best a ≡ unnumbered_best b → Keeps f g → Like (trying l a f) (trying l b g)
unfolding trying
trying-like zero a b f g e k = record { left = refl; best = e; ended = refl }
trying-like (suc l) a b f g e k = k _ _ (record { left = refl; best = e; ended = refl })

pick_no : (b : Bool) (x y : Progress) → b ≡ false → pick b x y ≡ y
pick_no b x y e = rw e

step-like : (f g : Progress → Progress) → Keeps f g → Keeps (λ p. pick p.ended (trying p.left p.best f) p) (λ q. pick q.ended (trying q.left q.best g) q)
step-like f g k p q h = by_cases q.ended
    (λ z. rw (h.ended, z, h.left) (trying-like q.left p.best q.best f g h.best k))
    (λ z. let a = pick_no p.ended (trying p.left p.best f) p (h.ended ∙ z) in
    let b = pick_no q.ended (trying q.left q.best g) q z in
    subst (λ (x : Progress). Like x (pick q.ended (trying q.left q.best g) q)) (sym a) (subst (λ (y : Progress). Like p y) (sym b) h))

tries-like : (on on' : Option → Progress → Progress) → ((o : Option) → Keeps (on' (bare o)) (on o)) → (os : List Option) → Keeps (tries on' (bares os)) (tries on os)
unfolding tries
tries-like on on' k [] p q h = h
tries-like on on' k (o ∷ os) p q h = tries-like on on' k os _ _ (step-like (on' (bare o)) (on o) (k o) p q h)

pick-like : (b : Bool) (p q p' q' : Progress) → Like p q → Like p' q' → Like (pick b p p') (pick b q q')
pick-like true p q p' q' h k = h
pick-like false p q p' q' h k = k

search-like : (gs : List (List Option)) (chosen : List Option) → Keeps (search (map bares gs) (bares chosen)) (search gs chosen)
unfolding search
search-like [] chosen p q h = record { left = h.left; best = better-bare p.best q.best chosen h.best; ended = h.ended }
search-like (g ∷ gs) chosen p q h =
    tries-like (λ o y. pick (diverts o.diverter chosen) y (search gs (chosen ++ (o ∷ [])) y)) (λ o y. pick (diverts o.diverter (bares chosen)) y (search (map bares gs) (bares chosen ++ (o ∷ [])) y))
    (λ o x y k. rw (diverts-bare o.diverter chosen) (pick-like (diverts o.diverter chosen) x y _ _ k (rw (← (map-append bare chosen (o ∷ []))) (search-like gs (chosen ++ (o ∷ [])) x y k))))
    g p q h

detour-bare : (gs : List (List Option)) (b : ℕ) → unnumbered (detoured (detour (map bares gs) b)) ≡ unnumbered (detoured (detour gs b))
unfolding unnumbered detour
detour-bare gs b =
    let k = search-like gs [] (record { left = b; best = none_found; ended = true }) (record { left = b; best = none_found; ended = true }) (record { left = refl; best = refl; ended = refl }) in
    rw (k.left, k.best, k.ended)

-- ---- goals without their numbers

abbrev bare_live : Live → Live
bare_live l = record { number = 0; form = l.form }

abbrev bare_goal : Goal → Goal
bare_goal g = record { state = g.state; m = g.m; answers = map bare_live g.answers }

offer-bare : (c : Coding) (ls : List Live) → all_offer c (map bare_live ls) ≡ all_offer c ls
unfolding all_offer
offer-bare c [] = refl
offer-bare c (l ∷ ls) = rw (offer-bare c ls)

fit-bare : (c : Coding) (gs : List Goal) → goals_fit c (map bare_goal gs) ≡ goals_fit c gs
unfolding goals_fit
fit-bare c [] = refl
fit-bare c (g ∷ gs) = rw (offer-bare c g.answers, fit-bare c gs)

open-bare : (gs : List Goal) → any_open (map bare_goal gs) ≡ any_open gs
unfolding any_open
open-bare [] = refl
open-bare (g ∷ gs) = rw (open-bare gs)

few-bare : (gs : List Goal) → few_goals (map bare_goal gs) ≡ few_goals gs
unfolding few_goals
few-bare gs = rw (length-map gs bare_goal)

options-bare : (c : Coding) (ls : List Live) → map (option_of c) (map bare_live ls) ≡ bares (map (option_of c) ls)
options-bare c [] = refl
options-bare c (l ∷ ls) = ap (λ (r : List Option). bare (option_of c l) ∷ r) (options-bare c ls)

all-bare : (c : Coding) (gs : List Goal) → map (options_of c) (map bare_goal gs) ≡ map bares (map (options_of c) gs)
all-bare c [] = refl
all-bare c (g ∷ gs) = rw (options-bare c g.answers, all-bare c gs)

detours-bare : (c : Coding) (gs : List Goal) (b : ℕ) → unnumbered (detours_of c (map bare_goal gs) b) ≡ unnumbered (detours_of c gs b)
unfolding detours_of
detours-bare c gs b = rw (open-bare gs, few-bare gs, fit-bare c gs, all-bare c gs) (by_cases (any_open gs)
    (λ e. rw e)
    (λ e. by_cases (few_goals gs && goals_fit c gs) (λ f. rw (e, f) (detour-bare (map (options_of c) gs) b)) (λ f. rw (e, f))))

-- ---- tables with the same answers to each subgoal

lives-bare : (s n : ℕ) (l : List Answer) → map bare_live (numbered_answers s n l) ≡ map (λ w. record { number = 0; form = w }) (answers_to l s)
unfolding numbered_answers answers_to
lives-bare s n [] = refl
lives-bare s n (a ∷ l) = by_cases (eqb a.subgoal s)
    (λ e. rw e (ap (λ (r : List Live). record { number = 0; form = a.form } ∷ r) (lives-bare s (suc n) l)))
    (λ e. rw e (lives-bare s (suc n) l))

module _ (t u : Table) (subgoals : t.subgoals ≡ u.subgoals) (each : (s : ℕ) → answers_to t.answers s ≡ answers_to u.answers s) where
  goal-bare : (c : Coding) (s : ℕ) → bare_goal (goal_of c t s) ≡ bare_goal (goal_of c u s)
  unfolding goal_of subgoal_at
  goal-bare c s = rw (lives-bare s 1 t.answers, lives-bare s 1 u.answers, each s, subgoals)

  goals-bare : (c : Coding) (ss : List ℕ) → map bare_goal (map (goal_of c t) ss) ≡ map bare_goal (map (goal_of c u) ss)
  goals-bare c [] = refl
  goals-bare c (s ∷ ss) = rw (goal-bare c s, goals-bare c ss)

  pub detours-alike : (c : Coding) (ss : List ℕ) (b : ℕ) → unnumbered (detours_of c (map (goal_of c t) ss) b) ≡ unnumbered (detours_of c (map (goal_of c u) ss) b)
  detours-alike c ss b = sym (detours-bare c (map (goal_of c t) ss) b) ∙ ap (λ (gs : List Goal). unnumbered (detours_of c gs b)) (goals-bare c ss) ∙ detours-bare c (map (goal_of c u) ss) b
