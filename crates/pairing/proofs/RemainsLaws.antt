-- The answers of a source from one on: its path, its form, and those behind it.
use mathlib.Core.Path.{◌≡◌, refl, sym, ap, ◌∙◌, subst}
use mathlib.Core.List.{List, [], ◌∷◌}
use Prim.Native.Nat.{ℕ, zero, suc, ◌+◌, ◌≤◌, ◌<◌}
use native.Mathlib.Omega.{arith}
use lib.Dec.{eqb}
use Rattle.trie.proofs.WalkLaws.{both_true}
use Rattle.forms.specs.Stored.{stored_of}
use Rattle.plain.specs.Words.{Word}
use Rattle.plain.specs.Coding.{Coding, coding_of}
use Rattle.space.specs.Sound.{answer_under}
use Rattle.space.specs.declared.Head.{Head}
use Rattle.space.specs.declared.Answer.{Answer}
use Rattle.space.proofs.JudgingLaws.{answer-bounds, follows-rises, follows-within}
use Rattle.trie.specs.Paths.{tokens}
use Rattle.trie.specs.Runs.{path_to}
use Rattle.store.specs.Views.{View}
use Rattle.store.specs.Decisions.{unbroken, chain_from, sound_answer}
use Rattle.store.specs.Clauses.{view_in}
use Rattle.parts.specs.Parts.{GroundForm, AllGround}
use Rattle.pairing.specs.declared.Source.{Source}
use Rattle.pairing.specs.Pairing.{chain_forms, forms_from, SourceIn, Remains, end_of}
use Rattle.agreement.proofs.ChainSteps.{Begins, chain-begins, chain-ends, chain-longer}

pub unbroken-is : {ws vs : List Word} → unbroken ws ≡ unbroken vs → ws ≡ vs
unfolding chain_forms
unbroken-is e = ap chain_forms e

-- the forms of a chain that is whole
pub forms-are : (cs : List ℕ) (h : Head) (s a : ℕ) (ws : List Word) → chain_from (coding_of h.edition) (view_in cs h) s h.answers a ≡ unbroken ws → forms_from cs h s a ≡ ws
unfolding chain_forms
forms-are cs h s a ws e = rw e

pub forms-none : (cs : List ℕ) (h : Head) (s a : ℕ) → a ≡ 0 → forms_from cs h s a ≡ []
forms-none cs h s a z = forms-are cs h s a [] (subst (λ (b : ℕ). chain_from (coding_of h.edition) (view_in cs h) s h.answers b ≡ unbroken []) (sym z) (chain-ends (coding_of h.edition) (view_in cs h) s h.answers))

-- a chain of some steps begins with an answer
begins-at : (c : Coding) (v : View) (s k a : ℕ) (ws : List Word) → (a ≡ 0 → ⊥) → 1 ≤ k → chain_from c v s k a ≡ unbroken ws → (less : ℕ) × (k ≡ suc less) × Begins c v s less a ws
begins-at c v s zero a ws z l e = absurd (omega arith)
begins-at c v s (suc k) a ws z l e = (k, refl, chain-begins c v s k a ws z e)

-- what stands at answer a, whose record is y
pub record Stop (cs : List ℕ) (h : Head) (x : Source) (a : ℕ) (y : Answer) : Type 0 where
  pub form : Word
  pub are : forms_from cs h x.number a ≡ form ∷ forms_from cs h x.number y.next
  pub path : path_to cs (end_of h x y.leaf) ≡ tokens form
  pub ground : GroundForm (stored_of h.edition) x.variables form
  pub leaf-in : y.leaf < h.nodes
  pub rises : (y.next ≡ 0 → ⊥) → a < y.next
  pub behind : Remains cs h x y.next

pub remains-some : (cs : List ℕ) (h : Head) (x : Source) (a : ℕ) (y : Answer) → SourceIn cs h x → Remains cs h x a → (a ≡ 0 → ⊥) → y ≡ answer_under cs h a → Stop cs h x a y
remains-some cs h x a y i r z e =
    let c : Coding = coding_of h.edition in
    let v : View = view_in cs h in
    let t = begins-at c v x.number h.answers a (forms_from cs h x.number a) z (omega (arith, r.within)) r.sound in
    let l : Begins c v x.number t.0 a (forms_from cs h x.number a) = t.2 in
    let both = both_true (sound_answer v a) (eqb (v.answer a).subgoal x.number) l.judged in
    let b = answer-bounds h.nodes h.subgoals h.answers a (answer_under cs h a) both.0 in
    let n : y.next ≡ (answer_under cs h a).next = ap (λ (q : Answer). q.next) e in
    let f : y.leaf ≡ (answer_under cs h a).leaf = ap (λ (q : Answer). q.leaf) e in
    let on : chain_from c v x.number h.answers y.next ≡ unbroken l.rest =
    subst (λ (k : ℕ). chain_from c v x.number h.answers k ≡ unbroken l.rest) (sym n)
    (chain-longer c v x.number t.0 h.answers (answer_under cs h a).next l.rest (omega (arith, t.1)) l.later) in
    let rest : forms_from cs h x.number y.next ≡ l.rest = forms-are cs h x.number y.next l.rest on in
    let g : AllGround (stored_of h.edition) x.variables (l.form ∷ l.rest) =
    subst (AllGround (stored_of h.edition) x.variables) l.is r.ground in
    record {
      form = l.form;
      are = l.is ∙ ap (λ (ws : List Word). l.form ∷ ws) (sym rest);
      path = rw (i.rooted, f) l.path;
      ground = g.0;
      leaf-in = omega (arith, b.leaf-below);
      rises = λ q. omega (arith, follows-rises (h.answers + 1) a (answer_under cs h a).next b.next-follows (λ w. q (n ∙ w)));
      behind = record {
        within = omega (arith, follows-within (h.answers + 1) a (answer_under cs h a).next (omega arith) b.next-follows);
        sound = on ∙ ap unbroken (sym rest);
        ground = subst (AllGround (stored_of h.edition) x.variables) (sym rest) g.1;
      };
    }
