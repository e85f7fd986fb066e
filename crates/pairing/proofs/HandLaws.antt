-- Answers in hand: the form that is in one, that it depends on its own cells alone, and a path taken in it.
use mathlib.Core.Path.{◌≡◌, sym, ap, ◌∙◌, subst}
use mathlib.Core.List.{List, [], ◌∷◌}
use Prim.Native.Nat.{ℕ, zero, suc, ◌+◌, ◌-◌, ◌≤◌}
use native.Mathlib.Omega.{arith}
use lib.ListN.{length, take, drop, get_or, length-drop}
use lib.Seq.{take_all, take-take, get_or-take}
use Rattle.forms.specs.Terms.{Term, every}
use Rattle.plain.specs.Words.{Word}
use Rattle.plain.proofs.StoredCoding.{coding-laws}
use Rattle.space.specs.declared.Head.{Head}
use Rattle.trie.specs.Paths.{Path, tokens}
use Rattle.trie.specs.Runs.{path_to}
use Rattle.trie.proofs.PathLaws.{tokens_of}
use Rattle.parts.specs.Parts.{start_of, GroundForm, tokens_start, InHand}
use Rattle.parts.specs.Hands as hands
use Rattle.forms.specs.Stored.{StoredForm, stored_of}
use Rattle.pairing.specs.declared.Source.{Source}
use Rattle.pairing.specs.Pairing.{Gatherable, hand, form_in, end_of, AnswerTakeable, TakesAnswer}

pub ground-short : (e m : ℕ) (w : Word) → GroundForm (stored_of e) m w → length w ≤ 383
ground-short e m w g = (coding-laws e).legal-short m w g.legal

-- ---- the form that is in a hand

start-end : (stored : StoredForm) (m : ℕ) (w : Word) → GroundForm stored m w → start_of stored w m ≡ length w
start-end stored m w g =
    ap (λ (ts : List Term). length (every stored.tokens ts)) (take_all m (stored.terms w) (omega (arith, g.count))) ∙ ap length (sym g.tokens)

pub form_in_lem : (stored : StoredForm) (m : ℕ) (w held : List ℕ) → InHand stored m w held → form_in m held ≡ w
form_in_lem stored m w held i =
    let e : get_or held m 0 - tokens_start ≡ length w = omega (arith, i.starts m (omega arith), start-end stored m w i.form) in
    ap (λ (n : ℕ). take n (drop tokens_start held)) e ∙ i.tokens

-- ---- only the cells of the hand matter

pub take_within : (k n h : ℕ) (l : List ℕ) → k + n ≤ h → take n (drop k l) ≡ take n (drop k (take h l))
take_within zero n h l e = sym (take-take n h l (omega arith))
take_within (suc k) n h [] e = ap (λ (x : List ℕ). take n (drop (suc k) x)) (sym (lib.Seq.take-nil h))
take_within (suc k) n zero (x ∷ l) e = absurd (omega arith)
take_within (suc k) n (suc h) (x ∷ l) e = take_within k n h l (omega arith)

pub hand-kept : (edition m : ℕ) (w held held' : List ℕ) → InHand (stored_of edition) m w held → take hand held' ≡ take hand held → hand ≤ length held' → InHand (stored_of edition) m w held'
hand-kept edition m w held held' i e l =
    let s = ground-short edition m w i.form in
    record {
      form = i.form;
      few = i.few;
      room = omega arith;
      tokens = take_within tokens_start (length w) hand held' (omega arith)
          ∙ ap (λ (x : List ℕ). take (length w) (drop tokens_start x)) e
          ∙ sym (take_within tokens_start (length w) hand held (omega arith))
          ∙ i.tokens;
      starts = λ k b. sym (get_or-take hand held' k 0 (omega (arith, i.few))) ∙ ap (λ (x : List ℕ). get_or x k 0) e ∙ get_or-take hand held k 0 (omega (arith, i.few)) ∙ i.starts k b;
    }

-- the form in hand as the cells say it
pub hand-said : (stored : StoredForm) (m : ℕ) (w held : List ℕ) → InHand stored m w held → InHand stored m (form_in m held) held
hand-said stored m w held i = subst (λ (u : Word). InHand stored m u held) (sym (form_in_lem stored m w held i)) i

pub hand-stays : (edition m : ℕ) (held held' : List ℕ) → InHand (stored_of edition) m (form_in m held) held → take hand held' ≡ take hand held → hand ≤ length held'
    → (form_in m held' ≡ form_in m held) × InHand (stored_of edition) m (form_in m held') held'
hand-stays edition m held held' i e l =
    let j = hand-kept edition m (form_in m held) held held' i e l in
    (form_in_lem (stored_of edition) m (form_in m held) held' j, hand-said (stored_of edition) m (form_in m held) held' j)

-- ---- a path taken in hand

-- a path that stands in the cells from k on, as a part of a slice gives it
pub path-there : (p : Path) (ks : List ℕ) (n k : ℕ) → length ks ≤ n + k → p ≡ tokens (drop k ks) → p ≡ tokens (take n (drop k ks))
path-there p ks n k l e =
    let d : length (drop k ks) ≡ length ks - k = length-drop k ks in
    e ∙ ap tokens (sym (take_all n (drop k ks) (omega arith)))

module _ (cs : List ℕ) (h : Head) (y : Source) (leaf : ℕ) (held cells : List ℕ) where
  -- the cells suffice for it
  pub answer-gatherable : AnswerTakeable cs h y leaf held cells → Gatherable cs (end_of h y leaf) cells
  answer-gatherable k = (k.0, (k.1.0, k.1.1, omega (arith, ground-short h.edition y.variables k.1.0 k.1.2, k.4)))

  -- it stands in the cells from one on
  module _ (ks : List ℕ) (n i : ℕ) (l : length ks ≤ n + i) (p : path_to cs (end_of h y leaf) ≡ tokens (drop i ks)) where
    there : path_to cs (end_of h y leaf) ≡ tokens (take n (drop i ks))
    there = path-there (path_to cs (end_of h y leaf)) ks n i l p

    pub answer-takeable : AnswerTakeable cs h y leaf held cells → hands.Takeable h.edition y.variables (take n (drop i ks)) held
    answer-takeable k =
        let q : k.1.0 ≡ take n (drop i ks) = ap tokens_of (sym k.1.1 ∙ there) in
        let g : GroundForm (stored_of h.edition) y.variables (take n (drop i ks)) = subst (GroundForm (stored_of h.edition) y.variables) q k.1.2 in
        record { ground = g; few = omega (arith, k.2); room = omega (arith, ground-short h.edition y.variables (take n (drop i ks)) g, k.3) }

    pub answer-taken : (held' : List ℕ) → hands.Taken h.edition y.variables (take n (drop i ks)) held held' → TakesAnswer cs h y leaf held held'
    answer-taken held' t =
        (λ w q. subst (λ (v : Word). InHand (stored_of h.edition) y.variables v held') (ap tokens_of (sym there ∙ q)) t.hand, t.size)
