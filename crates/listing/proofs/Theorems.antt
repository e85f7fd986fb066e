-- The theorems of the list (specs/Promises.antt).
use Prim.Native.Nat.{ℕ, zero, suc, ◌+◌, ◌≤◌, ◌<◌}
use mathlib.Core.Bool.{Bool, true, false}
use mathlib.Core.List.{List, [], ◌∷◌, ◌++◌, append_assoc}
use mathlib.Core.Path.{◌≡◌, refl, sym, ap, ◌∙◌, subst}
use native.Mathlib.Omega.{arith}
use lib.ListN.{length, get_or}
use lib.Dec.{eqb, leb}
use borrow.Author.Tests.{lt-ltb, le-ltb, eqb-true, eqb-false, eq-eqb, leb-true, leb-false}
use Rattle.basis.proofs.Tests.{true-not-false}
use Rattle.forms.specs.Cells.{payload, variable, arity_of}
use Rattle.forms.specs.Terms.{are_terms}
use Rattle.forms.specs.Numbering.{met, numbered}
use Rattle.forms.specs.Converting.{reading}
use Rattle.forms.proofs.NumberingLaws.{met-length}
use Rattle.forms.proofs.DueLaws.{terms-end}
use Rattle.listing.specs.Listing.{alphabet, strings, begins, call_term, listing, first_in, next_in, holds, contains, first_term, term_after}
use Rattle.listing.specs.Steps.{known_after, start, goes, spelt, is_listed}
use Rattle.listing.specs.Clauses.{is_letter}
use Rattle.listing.specs.Promises.{Belongs, stands_earlier, walked, InOrder, Once, Walked, NoVariants, ListCallable, EveryList}
use Rattle.listing.proofs.Tests.{both, both_hold}
use Rattle.listing.proofs.Members.{same-eq, eq-same}
use Rattle.listing.proofs.Numbers.{ByNumber, numbered-by-number, known_next}
use Rattle.listing.proofs.Calls.{Given, given, SpeltIn, each-string, held, kept-holds, call-goes, holds-steps}
use Rattle.listing.proofs.Letters.{letter-contains}
use Rattle.listing.proofs.Order.{Ordered, ordered-strings, ordered-kept, ordered-get, earlier-self, none-holds, ordered-split, next_in-at, distinct-alphabet}

module _ (e s : ℕ) (symbols : List ℕ) (g : Given e s symbols) where
  -- ---- nothing else, and nothing missed

  -- a cell of the alphabet that is no variable is a symbol
  letter-symbol : (c : ℕ) → contains (alphabet s symbols) c ≡ true → variable c ≡ false → contains symbols c ≡ true
  unfolding is_letter
  letter-symbol c h v = rw v at (letter-contains e s symbols g c ∙ h)

  spelt-over : (t : List ℕ) → spelt (alphabet s symbols) t ≡ true → (k : ℕ) → k < length t → variable (get_or t k 0) ≡ false → contains symbols (get_or t k 0) ≡ true
  unfolding spelt
  spelt-over [] h k l = absurd (omega arith)
  spelt-over (c ∷ cs) h zero l = letter-symbol c (both (contains (alphabet s symbols) c) _ h).0
  spelt-over (c ∷ cs) h (suc k) l = spelt-over cs (both (contains (alphabet s symbols) c) _ h).1 k (omega arith)

  pub holds-belongs : (t : List ℕ) → holds t (listing e s symbols) ≡ true → Belongs e s symbols t
  unfolding listing call_term
  holds-belongs t h =
      let k = kept-holds (call_term e) t (strings (alphabet s symbols) s) h in
      let m : SpeltIn (alphabet s symbols) s t = held (SpeltIn (alphabet s symbols) s) t (strings (alphabet s symbols) s) (each-string (alphabet s symbols) s) k.1 in
      let b = both (begins t) _ k.0 in
      let a = both (are_terms (arity_of e) 1 t) _ b.1 in
      record { size = m.0; term = a.0; numbers = same-eq (numbered t) t a.1; first = b.0; over = spelt-over t m.1 }

  -- a variable is below the cells before it, and so below s
  by-number-spelt : (t : List ℕ) (k : ℕ) → ByNumber k t → k + length t ≤ s
      → ((i : ℕ) → i < length t → variable (get_or t i 0) ≡ false → contains symbols (get_or t i 0) ≡ true) → spelt (alphabet s symbols) t ≡ true
  unfolding spelt
  by-number-spelt [] k b l o = refl
  by-number-spelt (c ∷ cs) k b l o =
      both_hold (sym (letter-contains e s symbols g c) ∙ letter (variable c) refl)
      (by-number-spelt cs (known_after k c) b.1 (omega (arith, known_next k c b.0)) (λ i h v. o (suc i) (omega arith) v))
    where
      letter : (d : Bool) → variable c ≡ d → is_letter s symbols c ≡ true
      letter true v = is-variable v (omega (arith, b.0 v))
        where
          is-variable : variable c ≡ true → payload c < s → is_letter s symbols c ≡ true
          is-variable v h = unfold is_letter in rw (v, lt-ltb (payload c) s h)
      letter false v = unfold is_letter in rw v (o 0 (omega arith) v)

  pub belongs-holds : (t : List ℕ) → Belongs e s symbols t → holds t (listing e s symbols) ≡ true
  unfolding is_listed call_term
  belongs-holds t b =
      let goes_on : goes e start t ≡ true = sym (call-goes e t (terms-end (arity_of e) 1 t b.term).0) ∙ both_hold b.first (both_hold b.term (eq-same (numbered t) t b.numbers)) in
      let letters : spelt (alphabet s symbols) t ≡ true = by-number-spelt t 0 (numbered-by-number t b.numbers) (omega (arith, b.size)) b.over in
      holds-steps e s symbols g t ∙ both_hold (eq-eqb (length t) s b.size) (both_hold letters goes_on)

  -- ---- in order, and each once

  pub ordered : Ordered (alphabet s symbols) (listing e s symbols)
  unfolding listing
  ordered = ordered-kept (alphabet s symbols) (call_term e) (strings (alphabet s symbols) s) (ordered-strings (alphabet s symbols) (distinct-alphabet e s symbols g) s)

  pub in_order : InOrder e s symbols
  in_order i j h l = ordered-get (alphabet s symbols) (listing e s symbols) ordered i j h l

  never-same : (i j : ℕ) → i < j → j < length (listing e s symbols) → get_or (listing e s symbols) i [] ≡ get_or (listing e s symbols) j [] → ⊥
  never-same i j h l q =
      true-not-false (ap (λ (t : List ℕ). stands_earlier (alphabet s symbols) t (get_or (listing e s symbols) j [])) (sym q) ∙ in_order i j h l)
      (sym (earlier-self (alphabet s symbols) (get_or (listing e s symbols) j [])))

  pub once : Once e s symbols
  once i j h l q = go (leb i j) refl (eqb i j) refl
    where
      go : (b : Bool) → leb i j ≡ b → (d : Bool) → eqb i j ≡ d → i ≡ j
      go b x true y = eqb-true i j y
      go true x false y = let n : (i ≡ j → ⊥) = eqb-false i j y in let m : i ≤ j = leb-true i j x in absurd (never-same i j (omega arith) l q)
      go false x false y = absurd (never-same j i (leb-false i j x) h (sym q))

  -- ---- step by step

  after-at : (pre : List (List ℕ)) (t : List ℕ) (post : List (List ℕ)) → listing e s symbols ≡ pre ++ (t ∷ post) → term_after e s symbols t ≡ first_in post
  unfolding term_after
  after-at pre t post q =
      ap (next_in t) q
      ∙ next_in-at t pre post (none-holds (alphabet s symbols) t pre (ordered-split (alphabet s symbols) pre t post (subst (Ordered (alphabet s symbols)) q ordered)))

  walk_from : (post pre : List (List ℕ)) → listing e s symbols ≡ pre ++ post → (n : ℕ) → length post ≤ n → walked e s symbols n (first_in post) ≡ post
  unfolding walked first_in
  walk_from [] pre q zero h = refl
  walk_from [] pre q (suc n) h = refl
  walk_from (t ∷ post) pre q zero h = absurd (omega arith)
  walk_from (t ∷ post) pre q (suc n) h =
      ap (λ (l : List (List ℕ)). t ∷ l)
      (ap (walked e s symbols n) (after-at pre t post q) ∙ walk_from post (pre ++ (t ∷ [])) (q ∙ sym (append_assoc pre (t ∷ []) post)) n (omega arith))

  pub steps : Walked e s symbols
  unfolding first_term
  steps n h = walk_from (listing e s symbols) [] refl n h

  -- ---- what each of them is

  pub no-variants : NoVariants e s symbols
  no-variants t u h k q = sym (holds-belongs t h).numbers ∙ q ∙ (holds-belongs u k).numbers

  pub callable-terms : ListCallable e s symbols
  unfolding reading
  callable-terms t h =
      let b = holds-belongs t h in
      let n : length t ≤ 8 = omega (arith, b.size, g.few-cells) in
      (λ w. rw (le-ltb 256 (length t) (omega arith), b.term, le-ltb 32 (length (met [] t)) (omega (arith, met-length t []))), b.first)

pub every-list : EveryList
every-list e s symbols h =
    let g = given e s symbols h in
    record {
      complete = λ t. (holds-belongs e s symbols g t, belongs-holds e s symbols g t);
      in_order = in_order e s symbols g;
      once = once e s symbols g;
      steps = steps e s symbols g;
      no-variants = no-variants e s symbols g;
      callable = callable-terms e s symbols g;
    }
