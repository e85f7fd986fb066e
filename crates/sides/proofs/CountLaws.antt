-- The sums bound what a join needs; and the lengths of what is combined and of a chain.
use Prim.Native.Nat.{ℕ, zero, suc, ◌*◌, ◌≤◌}
use mathlib.Core.Path.{◌≡◌, refl, sym, ap, ◌∙◌}
use mathlib.Core.Bool.{Bool, true, false}
use mathlib.Core.List.{List, [], ◌∷◌}
use native.Mathlib.Omega.{arith}
use native.Mathlib.Nat.{suc-mul}
use lib.Dec.{eqb}
use lib.ListN.{length, length-append}
use Rattle.basis.specs.Choice.{pick}
use Rattle.basis.proofs.Cases.{by_cases}
use Rattle.forms.specs.Compact.{same}
use Rattle.forms.proofs.RoundTrip.{same_true}
use Rattle.plain.specs.Words.{Word, has}
use Rattle.plain.specs.Coding.{Coding}
use Rattle.plain.specs.Joins.{Terms, matching, copied, along, combined}
use Rattle.trie.specs.Paths.{Path, none, tokens, gather, longest}
use Rattle.trie.specs.Walks.{Finding}
use Rattle.store.specs.Views.{View, answer_trie}
use Rattle.store.specs.Decisions.{walk_to_by, lacking, nodes_needed_by, answers_needed_by, sound_answer_of}
use Rattle.store.specs.Decisions.{Chain, broken, unbroken, headed, chain_from}
use Rattle.sides.specs.Counts.{sum_missing, sum_lacking}

-- ---- what a join needs

one-most : (b d : Bool) → pick b (pick d 0 1) 0 ≤ pick b 1 0
one-most true true = omega arith
one-most true false = omega arith
one-most false d = omega arith

-- a form that counts for none is old, or one before it
one_none : (b d : Bool) → ◌≡◌ {A = ℕ} (pick b (pick d 0 1) 0) 0 → (d ≡ true → b ≡ false) → b ≡ false
one_none true true e f = f refl
one_none true false e f = absurd (omega arith)
one_none false d e f = refl

module _ (find : Finding) (v : View) (s : ℕ) where
  pub nodes-needed-most : (before ws : List Word) → nodes_needed_by find v s before ws ≤ sum_missing find v s ws
  unfolding nodes_needed_by sum_missing
  nodes-needed-most before [] = omega arith
  nodes-needed-most before (w ∷ ws) = omega (arith, nodes-needed-most (w ∷ before) ws)

  pub answers-needed-most : (before ws : List Word) → answers_needed_by find v s before ws ≤ sum_lacking find v s ws
  unfolding answers_needed_by sum_lacking
  answers-needed-most before [] = omega arith
  answers-needed-most before (w ∷ ws) =
      omega (arith, answers-needed-most (w ∷ before) ws, one-most (lacking v (walk_to_by find v s w)) (has before w))

  -- each of these forms is among the answers
  abbrev AllOld : List Word → Type 0
  AllOld before = (u : Word) → has before u ≡ true → lacking v (walk_to_by find v s u) ≡ false

  old-also : (before : List Word) (w : Word) → lacking v (walk_to_by find v s w) ≡ false → AllOld before → AllOld (w ∷ before)
  unfolding has
  old-also before w l o u h =
      by_cases (same w u)
      (λ e. ap (λ (x : Word). lacking v (walk_to_by find v s x)) (sym (same_true w u e)) ∙ l)
      (λ e. o u (rw e at h))

  none-lacking : (before ws : List Word) → AllOld before → answers_needed_by find v s before ws ≡ 0 → sum_lacking find v s ws ≡ 0
  unfolding answers_needed_by sum_lacking
  none-lacking before [] o e = refl
  none-lacking before (w ∷ ws) o e =
      let l = one_none (lacking v (walk_to_by find v s w)) (has before w) (omega arith) (o w) in
      let k = none-lacking (w ∷ before) ws (old-also before w l o) (omega arith) in
      rw l (omega arith)

  -- some form is new exactly where some search finds it lacking
  pub answers-needed-none : (ws : List Word) → answers_needed_by find v s [] ws ≡ 0 → sum_lacking find v s ws ≡ 0
  unfolding has
  answers-needed-none ws e =
      none-lacking [] ws (λ u h. let z : ◌≡◌ {A = ℕ} 0 1 = cc in absurd (omega arith)) e

  pub lacking-none : (ws : List Word) → sum_lacking find v s ws ≡ 0 → answers_needed_by find v s [] ws ≡ 0
  lacking-none ws e = omega (arith, answers-needed-most [] ws)

-- ---- lengths

kept-most : (b : Bool) (x : List ℕ) (xs : List (List ℕ)) → length (pick b (x ∷ xs) xs) ≤ suc (length xs)
kept-most true x xs = omega arith
kept-most false x xs = omega arith

module _ (ps cs : List ℕ) where
  pub along-length : (us : Terms) (vss : List Terms) → length (along ps cs us vss) ≤ length vss
  unfolding along
  along-length us [] = omega arith
  along-length us (vs ∷ vss) =
      omega (arith, along-length us vss, kept-most (matching ps us vs) (copied cs us vs) (along ps cs us vss))

  pub combined-length : (uss vss : List Terms) → length (combined ps cs uss vss) ≤ length uss * length vss
  unfolding combined
  combined-length [] vss = omega arith
  combined-length (us ∷ uss) vss =
      let l = length-append (along ps cs us vss) (combined ps cs uss vss) in
      omega (arith, l, along-length us vss, combined-length uss vss, suc-mul (length uss) (length vss))

headed-length : (test : Word → Bool) (p : Path) (later : Chain) (us : List Word) (k : ℕ) → headed test p later ≡ unbroken us
    → ((ws : List Word) → later ≡ unbroken ws → length ws ≤ k) → length us ≤ suc k
unfolding headed
headed-length test none later us k e f = let z : ◌≡◌ {A = ℕ} 0 1 = cc in absurd (omega arith)
headed-length test (tokens w) broken us k e f = let z : ◌≡◌ {A = ℕ} 0 1 = cc in absurd (omega arith)
headed-length test (tokens w) (unbroken ws) us k e f =
    by_cases (test w)
    (λ t. let d : unbroken (w ∷ ws) ≡ unbroken us = rw t at e in
    let i : ◌≡◌ {A = List Word} (w ∷ ws) us = cc in
    omega (arith, ap length i, f ws refl))
    (λ t. let d : broken ≡ unbroken us = rw t at e in let z : ◌≡◌ {A = ℕ} 0 1 = cc in absurd (omega arith))

empty-length : (us : List Word) → unbroken [] ≡ unbroken us → length us ≡ 0
empty-length us e = let i : ◌≡◌ {A = List Word} [] us = cc in rw (← i)

module _ (c : Coding) (v : View) (s : ℕ) where
  pub chain_length : (k a : ℕ) (us : List Word) → chain_from c v s k a ≡ unbroken us → length us ≤ k
  unfolding chain_from
  chain_length zero a us e =
      by_cases (eqb a 0)
      (λ t. omega (arith, empty-length us (rw t at e)))
      (λ t. let d : broken ≡ unbroken us = rw t at e in let z : ◌≡◌ {A = ℕ} 0 1 = cc in absurd (omega arith))
  chain_length (suc k) a us e =
      by_cases (eqb a 0)
      (λ t. omega (arith, empty-length us (rw t at e)))
      (λ t. by_cases (sound_answer_of v s a)
      (λ o. headed-length (λ w. c.legal (v.subgoal s).variables w)
      (gather longest (answer_trie v) (v.subgoal s).root (v.answer a).leaf)
      (chain_from c v s k (v.answer a).next) us k (rw (t, o) at e)
      (λ ws i. chain_length k (v.answer a).next ws i))
      (λ o. let d : broken ≡ unbroken us = rw (t, o) at e in let z : ◌≡◌ {A = ℕ} 0 1 = cc in absurd (omega arith)))
