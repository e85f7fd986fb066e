-- What a line's fields mean, case by case, and what a call or a bad line leaves.
use Prim.Native.Nat.{ℕ}
use mathlib.Core.List.{List, [], ◌∷◌}
use mathlib.Core.Path.{◌≡◌, refl, sym, ap, ◌∙◌}
use Rattle.text.specs.Fields.{Number, no_number, some_number, Cells, no_cells, some_cells, first_number, behind, only_number, hex_cells}
use Rattle.text.specs.Digits.{Puts}
use Rattle.plain.specs.Requests.{Request, Reply}
use Rattle.store.specs.Calls.{space_step}
use Rattle.replies.specs.Texts.{text_bad, reply_text}
use Rattle.asking.specs.Lines.{Meaning, bad, asks, with_cells, with_number, one_number, no_field}
use Rattle.asking.specs.Saying.{out_left, said_of}
use Rattle.asking.specs.Asking.{Prints}

-- ---- meanings

module _ (fs : List (List ℕ)) (q : List ℕ → Request) where
  pub cells-ask : (ks : List ℕ) → hex_cells fs ≡ some_cells ks → with_cells (hex_cells fs) q ≡ asks (q ks)
  cells-ask ks e = ap (λ (cs : Cells). with_cells cs q) e

  pub cells-bad : hex_cells fs ≡ no_cells → with_cells (hex_cells fs) q ≡ bad
  cells-bad e = ap (λ (cs : Cells). with_cells cs q) e

module _ (fs : List (List ℕ)) (q : ℕ → Request) where
  pub one-asks : (n : ℕ) → only_number fs ≡ some_number n → one_number fs q ≡ asks (q n)
  one-asks n e = ap (λ (m : Number). with_number m (λ k. asks (q k))) e

  pub one-bad : only_number fs ≡ no_number → one_number fs q ≡ bad
  one-bad e = ap (λ (m : Number). with_number m (λ k. asks (q k))) e

-- a number, and what comes behind it
module _ (fs : List (List ℕ)) (m : List (List ℕ) → ℕ → Meaning) where
  pub first-means : (n : ℕ) (gs : List (List ℕ)) → first_number fs ≡ some_number n → gs ≡ behind fs → with_number (first_number fs) (m (behind fs)) ≡ m gs n
  first-means n gs e g = ap (λ (k : Number). with_number k (m (behind fs))) e ∙ ap (λ (hs : List (List ℕ)). m hs n) (sym g)

  pub first-bad : first_number fs ≡ no_number → with_number (first_number fs) (m (behind fs)) ≡ bad
  first-bad e = ap (λ (k : Number). with_number k (m (behind fs))) e

pub none-asks : (fs : List (List ℕ)) (q : Request) → fs ≡ [] → no_field fs q ≡ asks q
none-asks fs q e = ap (λ (gs : List (List ℕ)). no_field gs q) e

pub some-bad : (fs gs : List (List ℕ)) (g : List ℕ) (q : Request) → fs ≡ g ∷ gs → no_field fs q ≡ bad
some-bad fs gs g q e = ap (λ (hs : List (List ℕ)). no_field hs q) e

-- ---- what is left

module _ (space out text after : List ℕ) (end : ℕ) (m : Meaning) where
  pub bad-leaves : m ≡ bad → Puts 0 text_bad text end after → Prints (said_of space_step m space out) text end after space
  unfolding said_of
  bad-leaves e p = rw e (p, refl)

  pub asks-leaves : (q : Request) (x : Reply) (space' : List ℕ) → m ≡ asks q → x ≡ (space_step space q).reply → space' ≡ (space_step space q).state
      → Puts 0 (reply_text x (space_step space q).out) text end after → Prints (said_of space_step m space out) text end after space'
  unfolding said_of
  asks-leaves q x space' e r s p = rw e (rw (← r) p, s)

module _ (space out : List ℕ) (m : Meaning) where
  pub bad-out : m ≡ bad → out ≡ (said_of space_step m space out).out
  unfolding said_of
  bad-out e = rw e refl

  pub asks-out : (q : Request) → m ≡ asks q → out_left q out (space_step space q).out ≡ (said_of space_step m space out).out
  unfolding said_of
  asks-out q e = rw e refl

pub leaves_alike : (space out text after space' : List ℕ) (end : ℕ) (m n : Meaning) → m ≡ n
    → Prints (said_of space_step n space out) text end after space' → Prints (said_of space_step m space out) text end after space'
leaves_alike space out text after space' end m n e p = rw e p
