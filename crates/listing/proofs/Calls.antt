-- The steps give what the list gives: the first term, whether a term stands there, and the term after one.
use Prim.Native.Nat.{ℕ, zero, suc, ◌≤◌, ◌<◌}
use mathlib.Core.Bool.{Bool, true, false}
use mathlib.Core.List.Memᴰ
use mathlib.Core.List.{List, [], ◌∷◌, ◌++◌, map, Memᴰ}
use mathlib.Core.Logic.{◌⊎◌, inl, inr}
use mathlib.Core.Path.{◌≡◌, refl, sym, ap, ◌∙◌}
use native.Mathlib.Omega.{arith}
use lib.ListN.{length, take}
use lib.Dec.{eqb, leb, ltb}
use borrow.Author.Tests.{leb-true, eqb-true, eq-eqb, ne_eqb}
use Rattle.basis.specs.Choice.{pick}
use Rattle.basis.proofs.Tests.{true-not-false}
use Rattle.forms.specs.declared.Shape.{Shape}
use Rattle.forms.specs.declared.Shape.TheVariants.{Symbol, Pair, Illegal}
use Rattle.forms.specs.Cells.{kind, variable, callable, shape_of, arity_of}
use Rattle.forms.specs.Terms.{are_terms}
use Rattle.forms.specs.Numbering.{numbered}
use Rattle.forms.specs.Compact.{same}
use Rattle.forms.specs.Converting.{converter_edition}
use Rattle.forms.specs.Due.{due_after, due_of, LegalCells, EndsAtLast}
use Rattle.forms.proofs.DueLaws.{terms-end, only-terms}
use Rattle.listing.specs.declared.Spot.{Spot}
use Rattle.listing.specs.Listing.{variable_cells, alphabet, cells_before, strings, filtered, begins, call_term, listing, first_in, next_in, holds, first_term, term_after, legal_shape, is_symbol, contains, are_symbols, listable}
use Rattle.listing.specs.Steps.{arguments_in, start, passed, allowed, first_way, next_way, goes, spelt, is_listed}
use Rattle.listing.proofs.Tests.{both, both_hold, same_test}
use Rattle.listing.proofs.Cases.{allowed-due, allowed-so}
use Rattle.listing.proofs.Strings.{endings, kept_goes}
use Rattle.listing.proofs.Members.{same-eq, eq-same, contains-member, member-contains, goes-holds}
use Rattle.listing.proofs.Numbers.{ByNumber, by-number-numbered, numbered-by-number}
use Rattle.listing.proofs.Sums.{other}
use Rattle.listing.proofs.Ways.{variables-member, tag-variable, head-filled, next_in-next}

-- ---- a string of legal cells is a call exactly where it goes on from the start

module _ (e : ℕ) where
  ends-cons : (c d : ℕ) (cs : List ℕ) → 0 < d → EndsAtLast (arity_of e) (due_after d (arguments_in e c)) cs → EndsAtLast (arity_of e) d (c ∷ cs)
  unfolding due_of
  ends-cons c d cs g r = record { last = r.last; earlier = go }
    where
      go : (k : ℕ) → k < suc (length cs) → 0 < due_of (arity_of e) d (take k (c ∷ cs))
      go zero h = g
      go (suc k) h = r.earlier k (omega arith)

  goes-ends : (w : List ℕ) (p : Spot) → goes e p w ≡ true → EndsAtLast (arity_of e) p.due w
  unfolding goes passed due_of
  goes-ends [] p g = record { last = eqb-true p.due 0 g; earlier = λ k h. absurd (omega arith) }
  goes-ends (c ∷ cs) p g =
      let b = both (allowed p c) _ g in
      ends-cons c p.due cs (allowed-due p c b.0) (goes-ends cs (passed e p c) b.1)

  goes-by-number : (w : List ℕ) (p : Spot) → goes e p w ≡ true → ByNumber p.known w
  unfolding goes allowed passed
  goes-by-number [] p g = tt
  goes-by-number (c ∷ cs) p g =
      let b = both (allowed p c) _ g in
      let t = both (pick (eqb p.at 0) (callable c) true) _ (both (ltb 0 p.due) _ b.0).1 in
      ((λ v. leb-true _ _ (rw v at t.1)), goes-by-number cs (passed e p c) b.1)

  goes-begins : (w : List ℕ) → goes e start w ≡ true → begins w ≡ true
  unfolding goes allowed begins
  goes-begins [] g = absurd (true-not-false refl g)
  goes-begins (c ∷ cs) g = (both (callable c) _ (both (allowed start c) _ g).0).0

  -- what a term is begins it
  abbrev Begun : ℕ → List ℕ → Type 0
  Begun zero w = begins w ≡ true
  Begun (suc n) w = Unit {0}

  begun-cell : (n c : ℕ) (cs : List ℕ) → Begun n (c ∷ cs) → pick (eqb n 0) (callable c) true ≡ true
  unfolding begins
  begun-cell zero c cs h = h
  begun-cell (suc n) c cs h = rw (ne_eqb (suc n) 0 (λ q. omega arith))

  ends-goes : (w : List ℕ) (p : Spot) → EndsAtLast (arity_of e) p.due w → ByNumber p.known w → Begun p.at w → goes e p w ≡ true
  unfolding goes due_of passed
  ends-goes [] p r n b = eq-eqb p.due 0 r.last
  ends-goes (c ∷ cs) p r n b =
      let g : 0 < p.due = r.earlier 0 (omega arith) in
      both_hold (allowed-so p c g (begun-cell p.at c cs b) n.0)
      (ends-goes cs (passed e p c) (record { last = r.last; earlier = λ k h. r.earlier (suc k) (omega arith) }) n.1 tt)

  pub call-goes : (w : List ℕ) → LegalCells (arity_of e) w → call_term e w ≡ goes e start w
  unfolding call_term
  call-goes w l = same_test _ _ there back
    where
      there : pick (begins w) (pick (are_terms (arity_of e) 1 w) (same (numbered w) w) false) false ≡ true → goes e start w ≡ true
      there h =
          let b = both (begins w) _ h in
          let t = both (are_terms (arity_of e) 1 w) _ b.1 in
          ends-goes w start (terms-end (arity_of e) 1 w t.0).1 (numbered-by-number w (same-eq (numbered w) w t.1)) b.0

      back : goes e start w ≡ true → pick (begins w) (pick (are_terms (arity_of e) 1 w) (same (numbered w) w) false) false ≡ true
      back g =
          both_hold (goes-begins w g)
          (both_hold (only-terms (arity_of e) 1 w l (goes-ends w start g)) (eq-same (numbered w) w (by-number-numbered w (goes-by-number w start g))))

-- ---- all strings

-- each of the strings is so
abbrev pub EachString : (List ℕ → Type 0) → List (List ℕ) → Type 0
EachString P [] = Unit {0}
EachString P (w ∷ ws) = P w × EachString P ws

pub each_append : (P : List ℕ → Type 0) (xs ys : List (List ℕ)) → EachString P xs → EachString P ys → EachString P (xs ++ ys)
each_append P [] ys a b = b
each_append P (x ∷ xs) ys a b = (a.0, each_append P xs ys a.1 b)

each_map : (P Q : List ℕ → Type 0) (c : ℕ) → ((w : List ℕ) → P w → Q (c ∷ w)) → (ws : List (List ℕ)) → EachString P ws → EachString Q (map (λ w. c ∷ w) ws)
each_map P Q c f [] a = tt
each_map P Q c f (w ∷ ws) a = (f w a.0, each_map P Q c f ws a.1)

-- a string of n of the cells
abbrev pub SpeltIn : List ℕ → ℕ → List ℕ → Type 0
SpeltIn cells n w = (length w ≡ n) × (spelt cells w ≡ true)

each-before : (cells : List ℕ) (n : ℕ) (ws : List (List ℕ)) → EachString (SpeltIn cells n) ws → (cs : List ℕ) → ((c : ℕ) → Memᴰ c cs → contains cells c ≡ true)
    → EachString (SpeltIn cells (suc n)) (cells_before cs ws)
unfolding cells_before spelt
each-before cells n ws a [] f = tt
each-before cells n ws a (c ∷ cs) f =
    each_append (SpeltIn cells (suc n)) (map (λ w. c ∷ w) ws) (cells_before cs ws)
    (each_map (SpeltIn cells n) (SpeltIn cells (suc n)) c (λ w h. (ap suc h.0, both_hold (f c (Memᴰ.head refl)) h.1)) ws a)
    (each-before cells n ws a cs (λ d m. f d (Memᴰ.tail m)))

pub each-string : (cells : List ℕ) (n : ℕ) → EachString (SpeltIn cells n) (strings cells n)
unfolding strings spelt
each-string cells zero = ((refl, refl), tt)
each-string cells (suc n) = each-before cells n (strings cells n) (each-string cells n) cells (λ c m. member-contains cells c m)

kept_same : (P : List ℕ → Type 0) (f g : List ℕ → Bool) → ((w : List ℕ) → P w → f w ≡ g w) → (ws : List (List ℕ)) → EachString P ws → filtered f ws ≡ filtered g ws
unfolding filtered
kept_same P f g h [] a = refl
kept_same P f g h (w ∷ ws) a = rw (h w a.0, kept_same P f g h ws a.1)

pub held : (P : List ℕ → Type 0) (t : List ℕ) (ws : List (List ℕ)) → EachString P ws → holds t ws ≡ true → P t
unfolding holds
held P t [] a h = absurd (true-not-false refl h)
held P t (w ∷ ws) a h = go (same t w) refl h (λ k. held P t ws a.1 k)
  where
    go : (b : Bool) → same t w ≡ b → pick b true (holds t ws) ≡ true → (holds t ws ≡ true → P t) → P t
    go true q k f = mathlib.Core.Path.subst P (sym (same-eq t w q)) a.0
    go false q k f = f k

pub kept-holds : (test : List ℕ → Bool) (t : List ℕ) (ws : List (List ℕ)) → holds t (filtered test ws) ≡ true → (test t ≡ true) × (holds t ws ≡ true)
unfolding filtered holds
kept-holds test t [] h = absurd (true-not-false refl h)
kept-holds test t (w ∷ ws) h = go (test w) refl (same t w) refl h (λ k. kept-holds test t ws k)
  where
    later : (d : Bool) → (test t ≡ true) × (holds t ws ≡ true) → (test t ≡ true) × (pick d true (holds t ws) ≡ true)
    later true r = (r.0, refl)
    later false r = r

    go : (b : Bool) → test w ≡ b → (d : Bool) → same t w ≡ d → holds t (pick b (w ∷ filtered test ws) (filtered test ws)) ≡ true
        → (holds t (filtered test ws) ≡ true → (test t ≡ true) × (holds t ws ≡ true)) → (test t ≡ true) × (pick d true (holds t ws) ≡ true)
    go true q true r k f = (ap test (same-eq t w r) ∙ q, refl)
    go true q false r k f = f (rw r at k)
    go false q d r k f = later d (f k)

-- ---- what is given

pub record Given (e s : ℕ) (symbols : List ℕ) : Type 0 where
  pub some-cells : 0 < s
  pub few-cells : s ≤ 8
  pub few-symbols : length symbols ≤ 16
  pub are : are_symbols e symbols ≡ true

pub symbols-each : (e : ℕ) (symbols : List ℕ) → are_symbols e symbols ≡ true → (c : ℕ) → Memᴰ c symbols → is_symbol e c ≡ true
unfolding are_symbols
symbols-each e [] h c m = absurd (Memᴰ.not-nil m)
symbols-each e (x ∷ xs) h c m = go (Memᴰ.cases_cons m) (λ k. symbols-each e xs rest.1 c k)
  where
    first : (is_symbol e x ≡ true) × (pick (contains xs x) false (are_symbols e xs) ≡ true)
    first = both (is_symbol e x) _ h

    rest : (contains xs x ≡ false) × (are_symbols e xs ≡ true)
    rest = other (contains xs x) _ first.1

    go : (c ≡ x) ⊎ Memᴰ c xs → (Memᴰ c xs → is_symbol e c ≡ true) → is_symbol e c ≡ true
    go (inl q) f = ap (is_symbol e) q ∙ first.0
    go (inr k) f = f k

pub given : (e s : ℕ) (symbols : List ℕ) → listable e s symbols ≡ true → Given e s symbols
unfolding listable
given e s symbols h =
    let a = both (converter_edition e) _ h in
    let b = both (leb 1 s) _ a.1 in
    let c = both (leb s 8) _ b.1 in
    let d = both (leb (length symbols) 16) _ c.1 in
    record { some-cells = leb-true 1 s b.0; few-cells = leb-true s 8 c.0; few-symbols = leb-true (length symbols) 16 d.0; are = d.1 }

legal-shape : (q : Shape) → legal_shape q ≡ true → q ≡ Illegal → ⊥
unfolding legal_shape
legal-shape (Symbol k) h r = let z : ◌≡◌ {A = ℕ} 0 1 = cc in omega arith
legal-shape Pair h r = let z : ◌≡◌ {A = ℕ} 0 1 = cc in omega arith
legal-shape Illegal h r = true-not-false refl h

variable-legal : (e c : ℕ) → variable c ≡ true → legal_shape (shape_of (arity_of e) c) ≡ true
unfolding shape_of legal_shape
variable-legal e c h = let k : kind c ≡ 1 = eqb-true (kind c) 1 h in rw k

module _ (e s : ℕ) (symbols : List ℕ) (g : Given e s symbols) where
  cell-legal : (c : ℕ) → Memᴰ c (alphabet s symbols) → shape_of (arity_of e) c ≡ Illegal → ⊥
  unfolding alphabet is_symbol
  cell-legal c m = legal-shape (shape_of (arity_of e) c) (go (Memᴰ.append_cases symbols m))
    where
      go : Memᴰ c symbols ⊎ Memᴰ c (variable_cells 0 s) → legal_shape (shape_of (arity_of e) c) ≡ true
      go (inl k) = (other (variable c) _ (symbols-each e symbols g.are c k)).1
      go (inr k) =
          let r = variables-member 0 s c k in
          let l : r.0 < 8 = omega (arith, r.2, g.few-cells) in
          variable-legal e c (ap variable r.3 ∙ (tag-variable r.0 l).0)

  pub spelt-legal : (w : List ℕ) → spelt (alphabet s symbols) w ≡ true → LegalCells (arity_of e) w
  unfolding spelt
  spelt-legal [] h k l = absurd (omega arith)
  spelt-legal (c ∷ cs) h zero l = cell-legal c (contains-member (alphabet s symbols) c (both (contains (alphabet s symbols) c) _ h).0)
  spelt-legal (c ∷ cs) h (suc k) l = spelt-legal cs (both (contains (alphabet s symbols) c) _ h).1 k (omega arith)

  -- the list is what goes on from the start
  pub listing-endings : listing e s symbols ≡ endings e (alphabet s symbols) start s
  unfolding listing
  listing-endings =
      kept_same (SpeltIn (alphabet s symbols) s) (call_term e) (goes e start) (λ w h. call-goes e w (spelt-legal w h.1))
      (strings (alphabet s symbols) s) (each-string (alphabet s symbols) s)
      ∙ kept_goes e (alphabet s symbols) s start

  pub first-steps : first_term e s symbols ≡ first_way e symbols (alphabet s symbols) start s
  unfolding first_term
  first-steps =
      ap first_in listing-endings
      ∙ head-filled e s symbols g.some-cells g.few-cells (symbols-each e symbols g.are) s start (ended s g.some-cells)
    where
      ended : (n : ℕ) → 0 < n → Rattle.listing.proofs.Ways.Ended e s symbols g.some-cells g.few-cells (symbols-each e symbols g.are) start n
      ended zero h = absurd (omega arith)
      ended (suc n) h = tt

  pub holds-steps : (t : List ℕ) → holds t (listing e s symbols) ≡ is_listed e s symbols t
  unfolding is_listed listing
  holds-steps t = same_test _ _ there back
    where
      there : holds t (filtered (call_term e) (strings (alphabet s symbols) s)) ≡ true
          → pick (eqb (length t) s) (pick (spelt (alphabet s symbols) t) (goes e start t) false) false ≡ true
      there h =
          let k = kept-holds (call_term e) t (strings (alphabet s symbols) s) h in
          let m : SpeltIn (alphabet s symbols) s t = held (SpeltIn (alphabet s symbols) s) t (strings (alphabet s symbols) s) (each-string (alphabet s symbols) s) k.1 in
          both_hold (eq-eqb (length t) s m.0) (both_hold m.1 (sym (call-goes e t (spelt-legal t m.1)) ∙ k.0))

      back : pick (eqb (length t) s) (pick (spelt (alphabet s symbols) t) (goes e start t) false) false ≡ true
          → holds t (filtered (call_term e) (strings (alphabet s symbols) s)) ≡ true
      back h =
          let a = both (eqb (length t) s) _ h in
          let b = both (spelt (alphabet s symbols) t) _ a.1 in
          let n : length t ≡ s = eqb-true (length t) s a.0 in
          ap (holds t) listing-endings ∙ ap (λ (i : ℕ). holds t (endings e (alphabet s symbols) start i)) (sym n)
          ∙ goes-holds e (alphabet s symbols) t start b.1 b.0

  pub after-steps : (t : List ℕ) → is_listed e s symbols t ≡ true → term_after e s symbols t ≡ next_way e symbols (alphabet s symbols) start t
  unfolding is_listed term_after
  after-steps t h =
      let a = both (eqb (length t) s) _ h in
      let b = both (spelt (alphabet s symbols) t) _ a.1 in
      let n : length t ≡ s = eqb-true (length t) s a.0 in
      ap (next_in t) listing-endings ∙ ap (λ (i : ℕ). next_in t (endings e (alphabet s symbols) start i)) (sym n)
      ∙ next_in-next e s symbols g.some-cells g.few-cells (symbols-each e symbols g.are) t start b.1 b.0
