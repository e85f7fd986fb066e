-- The chain of a subgoal's answers in any view: what one that is unbroken tells of its first answer, and its steps.
use Prim.Native.Nat.{ℕ, zero, suc, ◌≤◌}
use mathlib.Core.Path.{◌≡◌, refl, sym, ap, ◌∙◌}
use mathlib.Core.Bool.{Bool, true}
use mathlib.Core.List.{List, [], ◌∷◌}
use native.Mathlib.Omega.{arith}
use lib.Dec.{eqb}
use borrow.Author.Tests.{ne_eqb, eqb-true, eqb-false}
use Rattle.basis.specs.Choice.{pick}
use Rattle.basis.proofs.Cases.{by_cases}
use Rattle.plain.specs.Words.{Word}
use Rattle.plain.specs.Coding.{Coding}
use Rattle.trie.specs.Paths.{Path, none, tokens, gather, longest}
use Rattle.store.specs.Views.{View, answer_trie}
use Rattle.store.specs.Decisions.{sound_answer_of, Chain, broken, unbroken, headed, chain_from}

broken-not : {us : List Word} → broken ≡ unbroken us → ⊥
broken-not e = let z : ◌≡◌ {A = ℕ} 0 1 = cc in omega arith

-- what an unbroken chain tells of its first answer
pub record Begins (c : Coding) (v : View) (t k a : ℕ) (us : List Word) : Type 0 where
  pub form : Word
  pub rest : List Word
  pub is : us ≡ form ∷ rest
  pub judged : sound_answer_of v t a ≡ true
  pub path : gather longest (answer_trie v) (v.subgoal t).root (v.answer a).leaf ≡ tokens form
  pub legal : c.legal (v.subgoal t).variables form ≡ true
  pub later : chain_from c v t k (v.answer a).next ≡ unbroken rest

record Parts (test : Word → Bool) (p : Path) (x : Chain) (us : List Word) : Type 0 where
  form : Word
  rest : List Word
  is : us ≡ form ∷ rest
  path : p ≡ tokens form
  legal : test form ≡ true
  later : x ≡ unbroken rest

headed-parts : (test : Word → Bool) (p : Path) (x : Chain) (us : List Word) → headed test p x ≡ unbroken us → Parts test p x us
unfolding headed
headed-parts test none x us e = absurd (broken-not e)
headed-parts test (tokens w) broken us e = absurd (broken-not e)
headed-parts test (tokens w) (unbroken ws) us e = by_cases (test w)
    (λ y. let f : unbroken (w ∷ ws) ≡ unbroken us = rw y at e in record { form = w; rest = ws; is = cc; path = refl; legal = y; later = refl })
    (λ y. absurd (broken-not (rw y at e)))

pub chain-begins : (c : Coding) (v : View) (t k a : ℕ) (us : List Word) → (a ≡ 0 → ⊥) → chain_from c v t (suc k) a ≡ unbroken us → Begins c v t k a us
unfolding chain_from
chain-begins c v t k a us some e =
    let test : Word → Bool = λ w. c.legal (v.subgoal t).variables w in
    let p : Path = gather longest (answer_trie v) (v.subgoal t).root (v.answer a).leaf in
    let x : Chain = chain_from c v t k (v.answer a).next in
    let f : pick (sound_answer_of v t a) (headed test p x) broken ≡ unbroken us = rw (ne_eqb a 0 some) at e in
    by_cases (sound_answer_of v t a)
    (λ j. let g = headed-parts test p x us (rw j at f) in
    record { form = g.form; rest = g.rest; is = g.is; judged = j; path = g.path; legal = g.legal; later = g.later })
    (λ j. absurd (broken-not (rw j at f)))

-- and the chain of these
pub chain-made : (c : Coding) (v : View) (t k a : ℕ) (us : List Word) → (a ≡ 0 → ⊥) → Begins c v t k a us → chain_from c v t (suc k) a ≡ unbroken us
unfolding chain_from headed
chain-made c v t k a us some b = rw (ne_eqb a 0 some, b.judged, b.path, b.later, b.legal) (ap unbroken (sym b.is))

pub chain-ends : (c : Coding) (v : View) (t k : ℕ) → chain_from c v t k 0 ≡ unbroken []
unfolding chain_from
chain-ends c v t zero = refl
chain-ends c v t (suc k) = refl

-- no answer: the same in every view, by any number of steps
pub chain-none : (c : Coding) (v w : View) (t k more a : ℕ) (us : List Word) → a ≡ 0 → chain_from c v t k a ≡ unbroken us → chain_from c w t more a ≡ unbroken us
chain-none c v w t k more a us z e =
    let f : chain_from c v t k 0 ≡ unbroken us = rw z at e in
    rw z (chain-ends c w t more ∙ sym (chain-ends c v t k) ∙ f)

-- a chain that ends within so many steps ends within more
pub chain-longer : (c : Coding) (v : View) (t k more a : ℕ) (us : List Word) → k ≤ more → chain_from c v t k a ≡ unbroken us → chain_from c v t more a ≡ unbroken us
chain-longer c v t zero more a us h e = by_cases (eqb a 0)
    (λ z. chain-none c v v t 0 more a us (eqb-true a 0 z) e)
    (λ z. unfold chain_from in absurd (broken-not (rw z at e)))
chain-longer c v t (suc k) zero a us h e = absurd (omega arith)
chain-longer c v t (suc k) (suc more) a us h e = by_cases (eqb a 0)
    (λ z. chain-none c v v t (suc k) (suc more) a us (eqb-true a 0 z) e)
    (λ z. let b = chain-begins c v t k a us (eqb-false a 0 z) e in
    chain-made c v t more a us (eqb-false a 0 z) (record {
      form = b.form;
      rest = b.rest;
      is = b.is;
      judged = b.judged;
      path = b.path;
      legal = b.legal;
      later = chain-longer c v t k more (v.answer a).next b.rest (omega arith) b.later;
    }))
