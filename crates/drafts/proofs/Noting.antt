-- One form after another is noted, and the words noted tell what the forms need.
use Prim.Native.Nat.{ℕ, zero, suc, ◌+◌, ◌-◌, ◌<◌, ◌≤◌, min, max}
use mathlib.Core.Path.{◌≡◌, refl, sym}
use mathlib.Core.Bool.{Bool, true, false, ◌||◌}
use mathlib.Core.List.{List, [], ◌∷◌, ◌++◌}
use native.Mathlib.Omega.{arith}
use lib.Dec.{eqb}
use lib.ListN.{length}
use borrow.Author.Tests.{eqb-true, eqb-false, ne_eqb}
use Rattle.basis.specs.Choice.{pick}
use Rattle.basis.proofs.Cases.{by_cases}
use Rattle.forms.specs.Compact.{same}
use Rattle.plain.specs.Words.{Word, has, common, most}
use Rattle.plain.proofs.WordLaws.{has-snoc}
use Rattle.plain.proofs.LongestShared.{most-le}
use Rattle.trie.specs.Walks.{whole, stopped, Finding}
use Rattle.trie.proofs.SearchLaws.{Finds}
use Rattle.store.specs.Views.{View, answer_trie}
use Rattle.store.specs.Decisions.{walk_to_by}
use Rattle.store.proofs.CallsWalks.{walk-stopped}
use Rattle.drafts.specs.Notes.{roots_below, Noted}
use Rattle.drafts.proofs.Steady.{Steady}
use Rattle.drafts.proofs.Stops.{Stops, stopped-some, stopped-fewer, walks-pass, walks-stop}

-- ---- lists of words

pub most-snoc : (es : List Word) (x w : Word) → most (es ++ (x ∷ [])) w ≡ max (most es w) (common x w)
unfolding most
most-snoc [] x w = omega arith
most-snoc (v ∷ es) x w = omega (arith, most-snoc es x w)

most-cons : (v : Word) (before : List Word) (w : Word) → most (v ∷ before) w ≡ max (common v w) (most before w)
unfolding most
most-cons v before w = refl

most-none : (w : Word) → most [] w ≡ 0
unfolding most
most-none w = refl

has-cons : (v : Word) (before : List Word) (w : Word) → has (v ∷ before) w ≡ (same v w || has before w)
unfolding has
has-cons v before w = refl

has-none : (w : Word) → has [] w ≡ false
unfolding has
has-none w = refl

common-one : (p p' : ℕ) (left left' : Word) → p ≡ p' → common (p ∷ left) (p' ∷ left') ≡ suc (common left left')
unfolding common
common-one p p' left left' e = rw e (by_cases (eqb p' p') (λ q. rw q) (λ q. absurd (eqb-false p' p' q refl)))

common-two : (p p' : ℕ) (left left' : Word) → (p ≡ p' → ⊥) → common (p ∷ left) (p' ∷ left') ≡ 0
unfolding common
common-two p p' left left' e = rw (ne_eqb p p' e)

same-one : (p p' : ℕ) (left left' : Word) → p ≡ p' → same (p ∷ left) (p' ∷ left') ≡ same left left'
unfolding same
same-one p p' left left' e = rw e (by_cases (eqb p' p') (λ q. rw q) (λ q. absurd (eqb-false p' p' q refl)))

same-two : (p p' : ℕ) (left left' : Word) → (p ≡ p' → ⊥) → same (p ∷ left) (p' ∷ left') ≡ false
unfolding same
same-two p p' left left' e = rw (ne_eqb p p' e)

or_swap : (a b : Bool) → (a || b) ≡ (b || a)
or_swap true true = refl
or_swap true false = refl
or_swap false true = refl
or_swap false false = refl

-- ---- the nodes that are used

root-common : (n p : ℕ) (left : Word) → common (n ∷ []) (p ∷ left) ≡ pick (eqb n p) 1 0
unfolding common
root-common n p left = refl

roots-most : (n p : ℕ) (left : Word) → most (roots_below n) (p ∷ left) ≤ 1
unfolding roots_below
roots-most zero p left = rw (most-none (p ∷ left)) (omega arith)
roots-most (suc n) p left =
    let r = roots-most n p left in
    rw (most-snoc (roots_below n) (n ∷ []) (p ∷ left), root-common n p left)
    (by_cases (eqb n p) (λ e. rw e (omega arith)) (λ e. rw e (omega arith)))

pub roots-shared : (n p : ℕ) (left : Word) → p < n → most (roots_below n) (p ∷ left) ≡ 1
unfolding roots_below
roots-shared zero p left h = absurd (omega arith)
roots-shared (suc n) p left h =
    rw (most-snoc (roots_below n) (n ∷ []) (p ∷ left), root-common n p left)
    (by_cases (eqb n p)
    (λ e. rw e (omega (arith, roots-most n p left)))
    (λ e. let o : n ≡ p → ⊥ = eqb-false n p e in let r = roots-shared n p left (omega arith) in rw e (omega arith)))

pub roots-lack : (n p x : ℕ) (xs : Word) → has (roots_below n) (p ∷ x ∷ xs) ≡ false
unfolding roots_below
roots-lack zero p x xs = has-none (p ∷ x ∷ xs)
roots-lack (suc n) p x xs = rw (has-snoc (roots_below n) (n ∷ []) (p ∷ x ∷ xs), roots-lack n p x xs)
    (unfold same in by_cases (eqb n p) (λ e. rw e) (λ e. rw e))

-- ---- a form is noted

module _ {find : Finding} (finds : Finds find) (steady : Steady find) (v : View) (s : ℕ) (within : (v.subgoal s).root < v.nodes) where
  pub noted-none : Noted find v s (roots_below v.nodes) []
  noted-none = record {
    shared = λ w p l left e.
        let b = walk-stopped finds (answer_trie v) (v.subgoal s).root p l w left within e in
        rw (roots-shared v.nodes p left b.parent-within, most-none w) (omega arith);
    held = λ w p l left e.
        let i = stopped-some finds steady (answer_trie v) (v.subgoal s).root w p l left e in
        rw (i.2, roots-lack v.nodes p i.0 i.1) (sym (has-none w));
  }

  module _ (es before : List Word) (N : Noted find v s es before) (w : Word) where
    module _ (p l : ℕ) (left : Word) (y : walk_to_by find v s w ≡ stopped p l left) where
      module _ (u : Word) (p' l' : ℕ) (left' : Word) (x : walk_to_by find v s u ≡ stopped p' l' left') where
        stops : Stops u w p' left' p left
        stops = walks-stop finds steady (answer_trie v) (v.subgoal s).root within u w p' l' left' p l left x y

        stopped-shared : (length u - length left') + most (es ++ ((p ∷ left) ∷ [])) (p' ∷ left') ≡ 1 + max (length u - length left') (most (w ∷ before) u)
        stopped-shared =
            let old = N.shared u p' l' left' x in
            let few : length left ≤ length w = stopped-fewer finds steady (answer_trie v) (v.subgoal s).root w p l left y in
            let few' : length left' ≤ length u = stopped-fewer finds steady (answer_trie v) (v.subgoal s).root u p' l' left' x in
            rw (most-snoc es (p ∷ left) (p' ∷ left'), most-cons w before u)
            (by_cases (eqb p p')
            (λ e. let q : p ≡ p' = eqb-true p p' e in
            let c : common w u + length left ≡ length w + common left left' = stops.same-common (sym q) in
            let k : length u + length left ≡ length w + length left' = stops.same_count (sym q) in
            rw (common-one p p' left left' q) (omega arith))
            (λ e. let q : p ≡ p' → ⊥ = eqb-false p p' e in
            let c : common w u + length left' ≤ length u = stops.other-common (λ z. q (sym z)) in
            rw (common-two p p' left left' q) (omega arith)))

        stopped-held : has (es ++ ((p ∷ left) ∷ [])) (p' ∷ left') ≡ has (w ∷ before) u
        stopped-held =
            let old = N.held u p' l' left' x in
            rw (has-snoc es (p ∷ left) (p' ∷ left'), has-cons w before u, old)
            (by_cases (eqb p p')
            (λ e. let q : p ≡ p' = eqb-true p p' e in rw (same-one p p' left left' q, stops.same_word (sym q)) (or_swap (has before u) (same left left')))
            (λ e. let q : p ≡ p' → ⊥ = eqb-false p p' e in rw (same-two p p' left left' q, stops.other_word (λ z. q (sym z))) (or_swap (has before u) false)))

      pub noted-stopped : Noted find v s (es ++ ((p ∷ left) ∷ [])) (w ∷ before)
      noted-stopped = record { shared = stopped-shared; held = stopped-held }

      -- what it needs beyond what is noted
      pub noted-needs : min (length left) (length w - most before w) ≡ suc (length left) - most es (p ∷ left)
      noted-needs =
          let old = N.shared w p l left y in
          let few : length left ≤ length w = stopped-fewer finds steady (answer_trie v) (v.subgoal s).root w p l left y in
          let own : most before w ≤ length w = most-le before w in
          omega arith

    pub noted-whole : (j : ℕ) → walk_to_by find v s w ≡ whole j → Noted find v s es (w ∷ before)
    noted-whole j y = record {
      shared = λ u p' l' left' x.
          let old = N.shared u p' l' left' x in
          let r = walks-pass finds steady (answer_trie v) (v.subgoal s).root u w p' l' left' j x y in
          let c : common w u + length left' ≤ length u = r.less in
          rw (most-cons w before u) (omega arith);
      held = λ u p' l' left' x.
          let r = walks-pass finds steady (answer_trie v) (v.subgoal s).root u w p' l' left' j x y in
          rw (has-cons w before u, r.differ) (N.held u p' l' left' x);
    }
