-- The answers of a goal from one on: what is known of the first of them, and those after it.
use Prim.Native.Nat.{ℕ, suc, ◌<◌}
use mathlib.Core.Path.{◌≡◌, refl, sym, ap, ◌∙◌}
use mathlib.Core.Bool.{Bool, true}
use mathlib.Core.List.{List, [], ◌∷◌, ◌++◌}
use native.Mathlib.Omega.{arith}
use lib.ListN.{length, length-append}
use borrow.Author.Tests.{ne_eqb}
use Rattle.basis.specs.Choice.{pick}
use Rattle.basis.proofs.Cases.{by_cases}
use Rattle.plain.specs.Words.{Word}
use Rattle.plain.specs.Coding.{Coding}
use Rattle.plain.specs.Detours.{Live}
use Rattle.trie.specs.Siblings.{Trie}
use Rattle.trie.specs.Paths.{Path, none, tokens, gather, longest}
use Rattle.trie.proofs.PathLaws.{Above, path-root, path-above}
use Rattle.store.specs.Views.{View, answer_trie}
use Rattle.sides.proofs.ChainCases.{lives-end}
use Rattle.store.specs.Decisions.{sound_answer_of, Lives, severed, lives, lives_behind, lives_from}

severed-not : {ls : List Live} → severed ≡ lives ls → ⊥
severed-not e = let z : ◌≡◌ {A = ℕ} 0 1 = cc in omega arith

-- what answers that are sound tell of the first of them
pub record Begins (c : Coding) (v : View) (s k a : ℕ) (ls : List Live) : Type 0 where
  pub form : Word
  pub rest : List Live
  pub is : ls ≡ record { number = a; form = form } ∷ rest
  pub judged : sound_answer_of v s a ≡ true
  pub path : gather longest (answer_trie v) (v.subgoal s).root (v.answer a).leaf ≡ tokens form
  pub legal : c.legal (v.subgoal s).variables form ≡ true
  pub later : lives_from c v s k (v.answer a).next ≡ lives rest

record Parts (test : Word → Bool) (a : ℕ) (p : Path) (x : Lives) (ls : List Live) : Type 0 where
  form : Word
  rest : List Live
  is : ls ≡ record { number = a; form = form } ∷ rest
  path : p ≡ tokens form
  legal : test form ≡ true
  later : x ≡ lives rest

behind-parts : (test : Word → Bool) (a : ℕ) (p : Path) (x : Lives) (ls : List Live) → lives_behind test a p x ≡ lives ls → Parts test a p x ls
unfolding lives_behind
behind-parts test a none x ls e = absurd (severed-not e)
behind-parts test a (tokens w) severed ls e = absurd (severed-not e)
behind-parts test a (tokens w) (lives ks) ls e = by_cases (test w)
    (λ y. let f : lives (record { number = a; form = w } ∷ ks) ≡ lives ls = rw y at e in record { form = w; rest = ks; is = cc; path = refl; legal = y; later = refl })
    (λ y. absurd (severed-not (rw y at e)))

pub lives-begins : (c : Coding) (v : View) (s k a : ℕ) (ls : List Live) → (a ≡ 0 → ⊥) → lives_from c v s (suc k) a ≡ lives ls → Begins c v s k a ls
unfolding lives_from
lives-begins c v s k a ls some e =
    let test : Word → Bool = λ w. c.legal (v.subgoal s).variables w in
    let p : Path = gather longest (answer_trie v) (v.subgoal s).root (v.answer a).leaf in
    let x : Lives = lives_from c v s k (v.answer a).next in
    let f : pick (sound_answer_of v s a) (lives_behind test a p x) severed ≡ lives ls = rw (ne_eqb a 0 some) at e in
    by_cases (sound_answer_of v s a)
    (λ j. let g = behind-parts test a p x ls (rw j at f) in
    record { form = g.form; rest = g.rest; is = g.is; judged = j; path = g.path; legal = g.legal; later = g.later })
    (λ j. absurd (severed-not (rw j at f)))

lives-are : {ks ls : List Live} → lives ks ≡ lives ls → ks ≡ ls
lives-are e = cc

-- no answer is left
pub lives-none : (c : Coding) (v : View) (s k a : ℕ) (ls : List Live) → a ≡ 0 → lives_from c v s k a ≡ lives ls → ls ≡ []
lives-none c v s k a ls z e = lives-are (sym e ∙ lives-end c v s k a z)

-- ---- a path of two tokens

two-parts : (xs : List ℕ) (x y z : ℕ) → x ∷ y ∷ [] ≡ xs ++ (z ∷ []) → (xs ≡ x ∷ []) × (y ≡ z)
two-parts [] x y z e = absurd (omega (arith, ap length e))
two-parts (a ∷ []) x y z e = (cc, cc)
two-parts (a ∷ b ∷ xs) x y z e = absurd (omega (arith, ap length e, length-append xs (z ∷ [])))

one-part : (xs : List ℕ) (x z : ℕ) → x ∷ [] ≡ xs ++ (z ∷ []) → x ≡ z
one-part [] x z e = cc
one-part (a ∷ xs) x z e = absurd (omega (arith, ap length e, length-append xs (z ∷ [])))

-- its nodes hold them
pub record TwoNodes (t : Trie) (n x y : ℕ) : Type 0 where
  pub lower : (t.at n).parent < n
  pub last : (t.at n).token ≡ y
  pub first : (t.at (t.at n).parent).token ≡ x

nodes-above : (t : Trie) (root n x y : ℕ) → Above t root n (x ∷ y ∷ []) → TwoNodes t n x y
nodes-above t root n x y o =
    let p = two-parts o.first x y (t.at n).token o.is in
    let e : gather o.fuel t root (t.at n).parent ≡ tokens (x ∷ []) = o.path ∙ ap tokens p.0 in
    let some : (t.at (t.at n).parent).parent ≡ (t.at n).parent → ⊥ =
    λ z. let q = path-root t root (t.at n).parent (x ∷ []) o.fuel e z in omega (arith, ap length q) in
    let above = path-above t root (t.at n).parent (x ∷ []) o.fuel e some in
    record { lower = o.lower; last = sym p.1; first = sym (one-part above.first x (t.at (t.at n).parent).token above.is) }

pub two-nodes : (t : Trie) (root n most x y : ℕ) → gather most t root n ≡ tokens (x ∷ y ∷ []) → TwoNodes t n x y
two-nodes t root n most x y e =
    nodes-above t root n x y (path-above t root n (x ∷ y ∷ []) most e (λ z. let q = path-root t root n (x ∷ y ∷ []) most e z in omega (arith, ap length q)))
