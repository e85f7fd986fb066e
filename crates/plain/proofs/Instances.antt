-- An instance of a numbered term by terms that are numbered together is numbered.
use Prim.Native.Nat.{ℕ, zero, suc, ◌≤◌, ◌<◌}
use mathlib.Core.Bool.{true, false}
use mathlib.Core.List.{List, [], ◌∷◌, ◌++◌, append_assoc, append-nil, map, map-append}
use mathlib.Core.Path.{◌≡◌, refl, sym, ap, ◌∙◌}
use native.Mathlib.Omega.{arith}
use native.Mathlib.Nat.{not-suc-le-zero}
use lib.Dec.{eqb, leb}
use lib.ListN.{length, take, get_or, length-append, get_or-map}
use lib.Seq.{take-length}
use borrow.Author.Tests.{eq-eqb, lt-leb, leb-true, leb-false}
use Rattle.basis.specs.Choice.{pick}
use Rattle.basis.proofs.Cases.{by_cases}
use Rattle.forms.specs.Cells.{payload, tag, variable}
use Rattle.forms.specs.Terms.{Term, cell, arg, pair, pairs, every}
use Rattle.forms.specs.Numbering.{rank, seen, met, renamed, numbered}
use Rattle.forms.proofs.NumberingLaws.{met-append, In, Each, rank-get, rank-append, each-met}
use Rattle.plain.specs.Coding.{substituted}

-- ---- substitution on cells

-- the cells with the cells of term i for variable i
unfoldable pub spread : List Term → List ℕ → List ℕ
spread us [] = []
spread us (c ∷ cs) = pick (variable c) (pairs (get_or us (payload c) (cell c))) (c ∷ []) ++ spread us cs

module _ (us : List Term) where
  spread-append : (cs ds : List ℕ) → spread us (cs ++ ds) ≡ spread us cs ++ spread us ds
  unfolding spread
  spread-append [] ds = refl
  spread-append (c ∷ cs) ds = rw (spread-append cs ds) (sym (append_assoc (pick (variable c) (pairs (get_or us (payload c) (cell c))) (c ∷ [])) (spread us cs) (spread us ds)))

  substituted-pairs : (t : Term) → pairs (substituted us t) ≡ spread us (pairs t)
  unfolding spread substituted pairs
  substituted-pairs (cell c) = by_cases (variable c) (λ e. rw e (sym (append-nil (pairs (get_or us (payload c) (cell c)))))) (λ e. rw e)
  substituted-pairs (arg f a) = rw (spread-append (pairs f) (pairs a), substituted-pairs f, substituted-pairs a)
  substituted-pairs (pair h t) = rw (spread-append (pairs h) (pairs t), substituted-pairs h, substituted-pairs t)

  pub substituted-every : (ts : List Term) → every pairs (map (substituted us) ts) ≡ spread us (every pairs ts)
  unfolding every
  substituted-every [] = unfold spread in refl
  substituted-every (t ∷ ts) = rw (spread-append (pairs t) (every pairs ts), substituted-pairs t, substituted-every ts)

-- ---- variables met

-- where each variable of the cells is among those met, they bring none
met-inside : (cs vs : List ℕ) → Each vs cs → met vs cs ≡ vs
unfolding met seen
met-inside [] vs h = refl
met-inside (c ∷ cs) vs h = by_cases (variable c)
    (λ e. rw (e, lt-leb (length vs) (rank vs c) (h.0 e)) (met-inside cs vs h.1))
    (λ e. rw e (met-inside cs vs h.1))

met-extends : (cs vs : List ℕ) → (more : List ℕ) × (met vs cs ≡ vs ++ more)
unfolding met seen
met-extends [] vs = ([], sym (append-nil vs))
met-extends (c ∷ cs) vs = by_cases (variable c)
    (λ e. by_cases (leb (length vs) (rank vs c))
    (λ f. rw (e, f) (let w = met-extends cs (vs ++ (c ∷ [])) in (c ∷ w.0, w.1 ∙ append_assoc vs (c ∷ []) w.0)))
    (λ f. rw (e, f) (met-extends cs vs)))
    (λ e. rw e (met-extends cs vs))

-- the place of what comes first behind vs
rank-behind : (vs more : List ℕ) (c : ℕ) → length vs ≤ rank vs c → rank (vs ++ (c ∷ more)) c ≡ length vs
unfolding rank
rank-behind [] more c h = rw (eq-eqb c c refl)
rank-behind (v ∷ vs) more c h = by_cases (eqb v c)
    (λ e. let z : suc (length vs) ≤ 0 = rw e at h in absurd (not-suc-le-zero z))
    (λ e. let z : suc (length vs) ≤ suc (rank vs c) = rw e at h in rw e (ap suc (rank-behind vs more c (omega arith))))

each_left : (vs xs ys : List ℕ) → Each vs (xs ++ ys) → Each vs xs
each_left vs [] ys h = tt
each_left vs (x ∷ xs) ys h = (h.0, each_left vs xs ys h.1)

each_right : (vs xs ys : List ℕ) → Each vs (xs ++ ys) → Each vs ys
each_right vs [] ys h = h
each_right vs (x ∷ xs) ys h = each_right vs xs ys h.1

each-term : (vs : List ℕ) (us : List Term) (j k : ℕ) (d : Term) → j < k → k ≤ length us → Each vs (every pairs (take k us)) → Each vs (pairs (get_or us j d))
unfolding every
each-term vs [] j zero d h l e = absurd (not-suc-le-zero h)
each-term vs [] j (suc k) d h l e = absurd (not-suc-le-zero l)
each-term vs (u ∷ us) j zero d h l e = absurd (not-suc-le-zero h)
each-term vs (u ∷ us) zero (suc k) d h l e = each_left vs (pairs u) (every pairs (take k us)) e
each-term vs (u ∷ us) (suc j) (suc k) d h l e = each-term vs us j k d (omega arith) (omega arith) (each_right vs (pairs u) (every pairs (take k us)) e)

pub every-suc : (us : List Term) (k : ℕ) (d : Term) → k < length us → every pairs (take (suc k) us) ≡ every pairs (take k us) ++ pairs (get_or us k d)
unfolding every
every-suc [] k d h = absurd (not-suc-le-zero h)
every-suc (u ∷ us) zero d h = append-nil (pairs u)
every-suc (u ∷ us) (suc k) d h = rw (every-suc us k d (omega arith)) (sym (append_assoc (pairs u) (every pairs (take k us)) (pairs (get_or us k d))))

module _ (us : List Term) (few : length us ≤ 32) where
  -- the variables of the first k terms
  unfoldable up_to : ℕ → List ℕ
  up_to k = met [] (every pairs (take k us))

  up_to-suc : (k : ℕ) (d : Term) → k < length us → met (up_to k) (pairs (get_or us k d)) ≡ up_to (suc k)
  unfolding up_to
  up_to-suc k d h = sym (met-append (every pairs (take k us)) (pairs (get_or us k d)) []) ∙ ap (met []) (sym (every-suc us k d h))

  up_to-again : (j k : ℕ) (d : Term) → j < k → k ≤ length us → met (up_to k) (pairs (get_or us j d)) ≡ up_to k
  unfolding up_to
  up_to-again j k d h l = met-inside (pairs (get_or us j d)) (up_to k) (each-term (up_to k) us j k d h l (each-met (every pairs (take k us)) []))

  -- a variable that is numbered among those met and others has their place in it as its payload
  payload-rank : (c : ℕ) (ws : List ℕ) → variable c ≡ true → renamed ws c ≡ c → rank ws c ≤ 32 → payload c ≡ rank ws c
  unfolding renamed
  payload-rank c ws e h l =
      let z : tag 1 (rank ws c) ≡ c = rw e at h in
      omega arith

  -- as a numbered cell is met, so are the variables of what stands for it
  spread-cell : (c : ℕ) (vs more : List ℕ) → renamed (seen vs c ++ more) c ≡ c → length (seen vs c ++ more) ≤ length us
      → met (up_to (length vs)) (pick (variable c) (pairs (get_or us (payload c) (cell c))) (c ∷ [])) ≡ up_to (length (seen vs c))
  unfolding seen
  spread-cell c vs more h l = by_cases (variable c)
      (λ e. by_cases (leb (length vs) (rank vs c))
      (λ f. new e f (rw (e, f) at h) (rw (e, f) at l))
      (λ f. old e f (rw (e, f) at h) (rw (e, f) at l)))
      (λ e. rw e (unfold met seen in rw e))
    where
      new : variable c ≡ true → leb (length vs) (rank vs c) ≡ true → renamed ((vs ++ (c ∷ [])) ++ more) c ≡ c → length ((vs ++ (c ∷ [])) ++ more) ≤ length us
          → met (up_to (length vs)) (pick (variable c) (pairs (get_or us (payload c) (cell c))) (c ∷ [])) ≡ up_to (length (seen vs c))
      new e f h l =
          let r : rank ((vs ++ (c ∷ [])) ++ more) c ≡ length vs = ap (λ (ws : List ℕ). rank ws c) (append_assoc vs (c ∷ []) more) ∙ rank-behind vs more c (leb-true _ _ f) in
          let k : length vs < length us = omega (arith, simp length-append at l) in
          let p : payload c ≡ length vs = payload-rank c ((vs ++ (c ∷ [])) ++ more) e h (omega arith) ∙ r in
          rw (e, f, p) (up_to-suc (length vs) (cell c) k ∙ ap up_to (sym (length-append vs (c ∷ []) ∙ omega arith)))

      old : variable c ≡ true → leb (length vs) (rank vs c) ≡ false → renamed (vs ++ more) c ≡ c → length (vs ++ more) ≤ length us
          → met (up_to (length vs)) (pick (variable c) (pairs (get_or us (payload c) (cell c))) (c ∷ [])) ≡ up_to (length (seen vs c))
      old e f h l =
          let k : rank vs c < length vs = leb-false _ _ f in
          let r : rank (vs ++ more) c ≡ rank vs c = rank-append vs more c k in
          let n : length vs ≤ length us = omega (arith, simp length-append at l) in
          let p : payload c ≡ rank vs c = payload-rank c (vs ++ more) e h (omega arith) ∙ r in
          rw (e, f, p) (up_to-again (rank vs c) (length vs) (cell c) k n)

  -- as the numbered cells meet their variables in turn, so the instance meets those of the terms
  spread-met : (cs vs : List ℕ) → length (met vs cs) ≤ length us → map (renamed (met vs cs)) cs ≡ cs → met (up_to (length vs)) (spread us cs) ≡ up_to (length (met vs cs))
  unfolding spread met
  spread-met [] vs l e = refl
  spread-met (c ∷ cs) vs l e =
      let x = met-extends cs (seen vs c) in
      let fixed : renamed (met (seen vs c) cs) c ≡ c = cc in
      let rest : map (renamed (met (seen vs c) cs)) cs ≡ cs = cc in
      let one = spread-cell c vs x.0 (ap (λ (ws : List ℕ). renamed ws c) (sym x.1) ∙ fixed) (omega (arith, ap length x.1)) in
      met-append (pick (variable c) (pairs (get_or us (payload c) (cell c))) (c ∷ [])) (spread us cs) (up_to (length vs))
      ∙ ap (λ (ws : List ℕ). met ws (spread us cs)) one
      ∙ spread-met cs (seen vs c) l rest

-- ---- renaming by what is numbered

map-met : (ρ : ℕ → ℕ) (cs vs : List ℕ) → map ρ vs ≡ vs → map ρ cs ≡ cs → map ρ (met vs cs) ≡ met vs cs
unfolding met seen
map-met ρ [] vs h k = h
map-met ρ (c ∷ cs) vs h k =
    let fixed : ρ c ≡ c = cc in
    let rest : map ρ cs ≡ cs = cc in
    let more : map ρ (vs ++ (c ∷ [])) ≡ vs ++ (c ∷ []) = map-append ρ vs (c ∷ []) ∙ rw (h, fixed) in
    by_cases (variable c)
    (λ e. by_cases (leb (length vs) (rank vs c)) (λ f. rw (e, f) (map-met ρ cs (vs ++ (c ∷ [])) more rest)) (λ f. rw (e, f) (map-met ρ cs vs h rest)))
    (λ e. rw e (map-met ρ cs vs h rest))

module _ (vs : List ℕ) (fixed : map (renamed vs) vs ≡ vs) where
  renamed-among : (c : ℕ) → In vs c → renamed vs c ≡ c
  unfolding renamed
  renamed-among c h =
      let i : ℕ = rank vs c in
      let e : get_or vs i 0 ≡ c = rank-get vs c h in
      ap (renamed vs) (sym e) ∙ sym (get_or-map (renamed vs) vs i 0) ∙ ap (λ (ws : List ℕ). get_or ws i 0) fixed ∙ e

  each-renamed : (cs : List ℕ) → Each vs cs → map (renamed vs) cs ≡ cs
  each-renamed [] h = refl
  each-renamed (c ∷ cs) h =
      let one : renamed vs c ≡ c = by_cases (variable c) (λ e. renamed-among c (h.0 e)) (λ e. unfold renamed in rw e) in
      rw (one, each-renamed cs h.1)

-- the instance of numbered terms with n variables by n terms that are numbered together
pub instance-numbers : (ts us : List Term) → length us ≤ 32 → length (met [] (every pairs ts)) ≡ length us
    → numbered (every pairs ts) ≡ every pairs ts → numbered (every pairs us) ≡ every pairs us
    → numbered (every pairs (map (substituted us) ts)) ≡ every pairs (map (substituted us) ts)
unfolding numbered up_to met every
instance-numbers ts us few n p q =
    let ds : List ℕ = every pairs us in
    let inst : List ℕ = every pairs (map (substituted us) ts) in
    let m : met [] inst ≡ met [] ds =
    ap (met []) (substituted-every us ts) ∙ spread-met us few (every pairs ts) [] (omega arith) p
    ∙ rw (n, take-length us) in
    let fixed : map (renamed (met [] ds)) (met [] ds) ≡ met [] ds = map-met (renamed (met [] ds)) ds [] refl q in
    rw m (each-renamed (met [] ds) fixed inst (rw m at (each-met inst [])))
