-- The turns of filling and advancing a term, and of looking through a given one.
use Rattle.std.specs.Prelude.{Option, None, Some}
use Prim.Native.Nat.{ℕ, suc, ◌-◌, ◌≤◌, ◌<◌}
use mathlib.Core.Bool.{Bool, true, false}
use mathlib.Core.List.{List, [], ◌∷◌, ◌++◌, append_assoc, append-nil}
use mathlib.Core.Logic.{inl, inr}
use mathlib.Core.Path.{◌≡◌, refl, sym, ap, ◌∙◌}
use native.Mathlib.Omega.{arith}
use lib.ListN.{length, take, drop, get_or, set, length-drop, drop_of_length-le}
use lib.Seq.{drop-cons, take-suc-set, take-take, take-suc, get_or-take, length-take-le, take-set-le}
use borrow.Author.Tests.{eqb-true}
use Rattle.basis.specs.Choice.{pick}
use Rattle.forms.specs.Numbering.{rank}
use Rattle.listing.specs.declared.Spot.{Spot}
use Rattle.listing.specs.Listing.{alphabet, contains, Listed}
use Rattle.listing.specs.Steps.{start, passed, allowed, can_go_on, first_of, prefixed, or_else, chosen, first_way, later_than, next_way, goes, spelt}
use Rattle.listing.proofs.Cases.{allowed-due}
use Rattle.listing.proofs.Tests.{both}
use Rattle.listing.proofs.Sums.{Fit, fits-cases}

-- ---- what is chosen

first_passes : (test : ℕ → Bool) (cs : List ℕ) (c : ℕ) → Some c ≡ first_of test cs → test c ≡ true
unfolding first_of
first_passes test [] c h = absurd (let z : ◌≡◌ {A = ℕ} 0 1 = cc in omega arith)
first_passes test (x ∷ xs) c h = go (test x) refl h (λ k. first_passes test xs c k)
  where
    go : (b : Bool) → test x ≡ b → Some c ≡ pick b (Some x) (first_of test xs) → (Some c ≡ first_of test xs → test c ≡ true) → test c ≡ true
    go true q k f = let z : c ≡ x = cc in ap test z ∙ q
    go false q k f = f k

pub record Chosen (e : ℕ) (p : Spot) (n c : ℕ) : Type 0 where
  pub some-due : 0 < p.due
  pub few-due : (passed e p c).due ≤ n

pub chosen-due : (e : ℕ) (symbols : List ℕ) (p : Spot) (n c : ℕ) (cs : List ℕ) → Some c ≡ first_of (can_go_on e symbols p n) cs → Chosen e p n c
unfolding can_go_on
chosen-due e symbols p n c cs h =
    let b = both (allowed p c) _ (first_passes (can_go_on e symbols p n) cs c h) in
    record { some-due = allowed-due p c b.0; few-due = go (fits-cases e symbols (passed e p c).due n b.1) }
  where
    go : Fit e symbols (passed e p c).due n → (passed e p c).due ≤ n
    go (inl z) = omega (arith, z.0)
    go (inr r) = r.1

prefixed-append : (xs ys : List ℕ) (f : Listed) → prefixed (xs ++ ys) f ≡ prefixed xs (prefixed ys f)
unfolding prefixed
prefixed-append xs ys None = refl
prefixed-append xs ys (Some t) = ap Some (append_assoc xs ys t)

-- ---- filling

module _ (e s : ℕ) (symbols : List ℕ) (p : Spot) (term : List ℕ) (room : s ≤ length term) where
  -- a cell put at the place
  put-cell : (term' : List ℕ) (c : ℕ) (f : Listed) → p.at < s → s ≤ length term' → take p.at term' ≡ take p.at term
      → prefixed (take (suc p.at) (set term' p.at c)) f ≡ prefixed (take p.at term) (prefixed (c ∷ []) f)
  put-cell term' c f h l k =
      ap (λ (t : List ℕ). prefixed t f) (take-suc-set term' p.at c (omega arith) ∙ ap (λ (t : List ℕ). t ++ (c ∷ [])) k)
      ∙ prefixed-append (take p.at term) (c ∷ []) f

  filled-choice : (r : Option ℕ) → p.at < s → r ≡ first_of (can_go_on e symbols p (s - p.at - 1)) (alphabet s symbols)
      → first_way e symbols (alphabet s symbols) p (s - p.at) ≡ chosen (λ d. first_way e symbols (alphabet s symbols) (passed e p d) (s - p.at - 1)) r
  unfolding first_way
  filled-choice r h k =
      let y : s - p.at ≡ suc (s - p.at - 1) = omega arith in
      ap (first_way e symbols (alphabet s symbols) p) y
      ∙ ap (chosen (λ d. first_way e symbols (alphabet s symbols) (passed e p d) (s - p.at - 1))) (sym k)

  pub fill_step : (c : ℕ) (q : Spot) → p.at < s → Some c ≡ first_of (can_go_on e symbols p (s - p.at - 1)) (alphabet s symbols) → q ≡ passed e p c
      → prefixed (take q.at (set term p.at c)) (first_way e symbols (alphabet s symbols) q (s - q.at))
      ≡ prefixed (take p.at term) (first_way e symbols (alphabet s symbols) p (s - p.at))
  unfolding chosen passed
  fill_step c q h k z =
      let x : s - suc p.at ≡ s - p.at - 1 = omega arith in
      rw (z, x)
      (put-cell term c (first_way e symbols (alphabet s symbols) (passed e p c) (s - p.at - 1)) h room refl
      ∙ ap (prefixed (take p.at term)) (sym (filled-choice (Some c) h k)))

  pub fill_none : p.at < s → None ≡ first_of (can_go_on e symbols p (s - p.at - 1)) (alphabet s symbols)
      → None ≡ prefixed (take p.at term) (first_way e symbols (alphabet s symbols) p (s - p.at))
  unfolding chosen prefixed
  fill_none h k = rw (filled-choice None h k)

  pub fill_done : p.at ≤ s → s ≤ p.at → Some (take s term) ≡ prefixed (take p.at term) (first_way e symbols (alphabet s symbols) p (s - p.at))
  unfolding first_way prefixed
  fill_done h l =
      let x : p.at ≡ s = omega arith in
      let y : s - p.at ≡ 0 = omega arith in
      rw (y, x, append-nil)

-- ---- advancing

found_first : (t : List ℕ) (c : ℕ) (xs : List ℕ) (f g : Listed) → Some t ≡ prefixed (xs ++ (c ∷ [])) f → Some t ≡ prefixed xs (or_else (prefixed (c ∷ []) f) g)
unfolding prefixed or_else
found_first t c xs None g h = absurd (let z : ◌≡◌ {A = ℕ} 0 1 = cc in omega arith)
found_first t c xs (Some u) g h = h ∙ ap Some (append_assoc xs (c ∷ []) u)

none_found_lem : (xs : List ℕ) (f : Listed) → None ≡ prefixed xs f → f ≡ None
unfolding prefixed
none_found_lem xs None h = refl
none_found_lem xs (Some u) h = absurd (let z : ◌≡◌ {A = ℕ} 0 1 = cc in omega arith)

pub shorter : (n : ℕ) (xs ys : List ℕ) → take (suc n) ys ≡ take (suc n) xs → take n ys ≡ take n xs
shorter n xs ys h = sym (take-take n (suc n) ys (omega arith)) ∙ ap (take n) h ∙ take-take n (suc n) xs (omega arith)

pub goes-due : (e : ℕ) (w : List ℕ) (p : Spot) → goes e p w ≡ true → p.due ≤ length w
unfolding goes passed
goes-due e [] p g = omega (arith, eqb-true p.due 0 g)
goes-due e (c ∷ cs) p g = omega (arith, goes-due e cs (passed e p c) (both (allowed p c) _ g).1)

pub still-room : (s : ℕ) (xs ys : List ℕ) → s ≤ length xs → length ys ≡ length xs → s ≤ length ys
still-room s xs ys h e = omega arith

-- what is left of the term at a place
pub rest-cell : (s at : ℕ) (term : List ℕ) → at < s → s ≤ length term → drop at (take s term) ≡ get_or term at 0 ∷ drop (suc at) (take s term)
rest-cell s at term h l =
    drop-cons (take s term) at 0 (omega (arith, length-take-le s term l)) ∙ rw (get_or-take s term at 0 h)

pub rest-length : (s at : ℕ) (term : List ℕ) → s ≤ length term → length (drop at (take s term)) ≡ s - at
rest-length s at term l = length-drop at (take s term) ∙ rw (length-take-le s term l)

module _ (e s : ℕ) (symbols : List ℕ) (p : Spot) (term : List ℕ) (room : s ≤ length term) where
  pub advance-end : s ≤ p.at → None ≡ prefixed (take p.at term) (next_way e symbols (alphabet s symbols) p (drop p.at (take s term)))
  unfolding next_way prefixed
  advance-end h =
      let l : length (take s term) ≤ p.at = omega (arith, length-take-le s term room) in
      rw (drop_of_length-le (take s term) l)

  module _ (inside : p.at < s) (c : ℕ) (read : c ≡ get_or term p.at 0) (q : Spot) (after : q ≡ passed e p c) where
    pub next-goes : goes e p (drop p.at (take s term)) ≡ true
        → (0 < p.due) × (q.due ≤ s - suc p.at) × (goes e q (drop q.at (take s term)) ≡ true)
    unfolding goes passed
    next-goes g =
        let z : drop p.at (take s term) ≡ c ∷ drop (suc p.at) (take s term) = rest-cell s p.at term inside room ∙ rw (← read) in
        let b = both (allowed p c) _ (ap (goes e p) (sym z) ∙ g) in
        let k : goes e q (drop q.at (take s term)) ≡ true = rw after b.1 in
        let n : length (drop (suc p.at) (take s term)) ≡ s - suc p.at = rest-length s (suc p.at) term room in
        let d : (passed e p c).due ≤ length (drop (suc p.at) (take s term)) = goes-due e (drop (suc p.at) (take s term)) (passed e p c) b.1 in
        (allowed-due p c b.0, rw after (omega arith), k)

    pub next-letters : spelt (alphabet s symbols) (drop p.at (take s term)) ≡ true
        → (contains (alphabet s symbols) c ≡ true) × (spelt (alphabet s symbols) (drop q.at (take s term)) ≡ true)
    unfolding spelt passed
    next-letters h =
        let z : drop p.at (take s term) ≡ c ∷ drop (suc p.at) (take s term) = rest-cell s p.at term inside room ∙ rw (← read) in
        let b = both (contains (alphabet s symbols) c) _ (ap (spelt (alphabet s symbols)) (sym z) ∙ h) in
        (b.0, rw after b.1)

    -- the steps from the place, by what is found after it
    way : next_way e symbols (alphabet s symbols) p (drop p.at (take s term))
        ≡ or_else (prefixed (c ∷ []) (next_way e symbols (alphabet s symbols) (passed e p c) (drop (suc p.at) (take s term))))
        (chosen (λ d. first_way e symbols (alphabet s symbols) (passed e p d) (s - p.at - 1)) (first_of (can_go_on e symbols p (s - p.at - 1)) (later_than (alphabet s symbols) c)))
    unfolding next_way
    way =
        let z : drop p.at (take s term) ≡ c ∷ drop (suc p.at) (take s term) = rest-cell s p.at term inside room ∙ rw (← read) in
        let n : length (drop (suc p.at) (take s term)) ≡ s - p.at - 1 = omega (arith, rest-length s (suc p.at) term room) in
        rw (z, n)

    -- one is found after it
    pub advance-found : (t : List ℕ) → Some t ≡ prefixed (take q.at term) (next_way e symbols (alphabet s symbols) q (drop q.at (take s term)))
        → Some t ≡ prefixed (take p.at term) (next_way e symbols (alphabet s symbols) p (drop p.at (take s term)))
    unfolding passed
    advance-found t h =
        rw way
        (found_first t c (take p.at term) (next_way e symbols (alphabet s symbols) (passed e p c) (drop (suc p.at) (take s term))) _
        (rw (after, take-suc term p.at 0 (omega arith), ← read) at h))

    -- none is
    none-way : None ≡ prefixed (take q.at term) (next_way e symbols (alphabet s symbols) q (drop q.at (take s term)))
        → (r : Option ℕ) → (later : ℕ) → r ≡ first_of (can_go_on e symbols p (s - p.at - 1)) (drop later (alphabet s symbols)) → later ≡ suc (rank (alphabet s symbols) c)
        → next_way e symbols (alphabet s symbols) p (drop p.at (take s term)) ≡ chosen (λ d. first_way e symbols (alphabet s symbols) (passed e p d) (s - p.at - 1)) r
    unfolding passed later_than or_else prefixed
    none-way h r later k z =
        let f : next_way e symbols (alphabet s symbols) (passed e p c) (drop (suc p.at) (take s term)) ≡ None = none_found_lem (take (suc p.at) term) _ (rw after at h) in
        way ∙ rw (f, k, z)

    pub advance-none : None ≡ prefixed (take q.at term) (next_way e symbols (alphabet s symbols) q (drop q.at (take s term)))
        → (later : ℕ) → None ≡ first_of (can_go_on e symbols p (s - p.at - 1)) (drop later (alphabet s symbols)) → later ≡ suc (rank (alphabet s symbols) c)
        → None ≡ prefixed (take p.at term) (next_way e symbols (alphabet s symbols) p (drop p.at (take s term)))
    unfolding chosen prefixed
    advance-none h later k z = rw (none-way h None later k z)

    pub advance-cell : None ≡ prefixed (take q.at term) (next_way e symbols (alphabet s symbols) q (drop q.at (take s term)))
        → (later d : ℕ) → Some d ≡ first_of (can_go_on e symbols p (s - p.at - 1)) (drop later (alphabet s symbols)) → later ≡ suc (rank (alphabet s symbols) c)
        → (u : Spot) → u ≡ passed e p d → (term' : List ℕ) → s ≤ length term' → take q.at term' ≡ take q.at term
        → (prefixed (take u.at (set term' p.at d)) (first_way e symbols (alphabet s symbols) u (s - u.at))
        ≡ prefixed (take p.at term) (next_way e symbols (alphabet s symbols) p (drop p.at (take s term))))
        × (take p.at (set term' p.at d) ≡ take p.at term)
    unfolding chosen passed
    advance-cell h later d k z u b term' l t =
        let x : s - suc p.at ≡ s - p.at - 1 = omega arith in
        let w : take p.at term' ≡ take p.at term = shorter p.at term term' (rw after at t) in (
          rw (b, x)
              (put-cell e s symbols p term room term' d (first_way e symbols (alphabet s symbols) (passed e p d) (s - p.at - 1)) inside l w
              ∙ ap (prefixed (take p.at term)) (sym (none-way h (Some d) later k z))),
          take-set-le p.at term' p.at d (omega arith) ∙ w,
        )

-- a place that was passed
pub passed-at : (e : ℕ) (p : Spot) (c : ℕ) (q : Spot) → q ≡ passed e p c → (q.at ≡ suc p.at) × (q.due ≡ (passed e p c).due)
unfolding passed
passed-at e p c q z = (ap (λ (x : Spot). x.at) z, ap (λ (x : Spot). x.due) z)

-- where a term begins
pub start-at : (p : Spot) → p ≡ start → (p.at ≡ 0) × (p.due ≡ 1)
start-at p z = (ap (λ (x : Spot). x.at) z, ap (λ (x : Spot). x.due) z)
