-- A search for detours goes through the looks in the written order, up to the budget; so what it finds is told by them.
use mathlib.Core.Bool.{Bool, true, false, not, ◌&&◌, ◌||◌, true≢false, false≢true}
use mathlib.Core.List.{List, [], ◌∷◌, ◌++◌, map, map-map, append-nil, append_assoc}
use mathlib.Core.Logic.{◌⊎◌, inl, inr}
use mathlib.Core.Path.{◌≡◌, refl, sym, ap, ◌∙◌, subst}
use Prim.Native.Nat.{ℕ, zero, suc, ◌+◌, ◌-◌, ◌<◌, ◌≤◌, min}
use native.Mathlib.Omega.{arith}
use lib.Dec.{eqb, leb, ltb, leb-zero, leb-suc-zero, leb-suc-suc}
use lib.ListN.{length, take, drop, length-append, length-map}
use lib.Seq.{take_all}
use borrow.Author.Tests.{eqb-true, eqb-false, eq-eqb, ne_eqb, ltb-true, ltb-false, lt-ltb, le-ltb, leb-true}
use Rattle.basis.specs.Choice.{pick}
use Rattle.basis.proofs.Cases.{by_cases}
use Rattle.plain.specs.Coding.{Coding}
use Rattle.plain.specs.Requests.{Best, none_found, found, Detour, Reply, detoured, refused, lent}
use Rattle.plain.specs.Detours.{Goal, Option, diverts, total_of, numbers_in, better, Progress, trying, tries, search, detour, options_of, few_goals, goals_fit, any_open, detours_of, all_within}
use Rattle.plain.specs.DetourMeaning.{Among, Chooses, none_twice, each_before, choices, passing, least_of, looks_along, looks, made_whole, fewest, minima, Above, NotBelow, FirstLeast, DetourTrue, Detours, In, Choices, Completing, LargerBudget, options_at, Detouring}
use Rattle.plain.specs.Table.{Table, goal_of, detouring, step}

-- ---- diverters

diverts-snoc : (d : ℕ) (os : List Option) (o : Option) → diverts d (os ++ (o ∷ [])) ≡ (diverts d os || eqb o.diverter d)
unfolding diverts
diverts-snoc d [] o = by_cases (eqb o.diverter d) (λ e. rw e) (λ e. rw e)
diverts-snoc d (x ∷ os) o = by_cases (eqb x.diverter d) (λ e. rw e) (λ e. rw e (diverts-snoc d os o))

eqb_swap : (a b : ℕ) → eqb a b ≡ eqb b a
eqb_swap a b = by_cases (eqb a b)
    (λ e. e ∙ sym (eq-eqb b a (sym (eqb-true a b e))))
    (λ e. e ∙ sym (ne_eqb b a (λ z. eqb-false a b e (sym z))))

bools : (a b e f : Bool) → (not (a || b) && (not e && f)) ≡ (not (b || e) && (not a && f))
bools true true true f = refl
bools true true false f = refl
bools true false true f = refl
bools true false false f = refl
bools false true true f = refl
bools false true false f = refl
bools false false true f = refl
bools false false false f = refl

pub apart_snoc : (os : List Option) (o : Option) → none_twice (os ++ (o ∷ [])) ≡ (not (diverts o.diverter os) && none_twice os)
unfolding none_twice diverts
apart_snoc [] o = refl
apart_snoc (x ∷ os) o =
    rw (diverts-snoc x.diverter os o, apart_snoc os o, eqb_swap o.diverter x.diverter)
    (bools (diverts x.diverter os) (eqb x.diverter o.diverter) (diverts o.diverter os) (none_twice os))

-- ---- one look after another

unfoldable saw : ℕ → List Option → Progress → Progress
saw n path p =
    pick p.ended
    (trying p.left p.best (λ q. record { left = q.left; best = pick (made_whole n path) (better q.best path) q.best; ended = q.ended }))
    p

unfoldable through : ℕ → List (List Option) → Progress → Progress
through n [] p = p
through n (x ∷ xs) p = through n xs (saw n x p)

through-append : (n : ℕ) (xs ys : List (List Option)) (p : Progress) → through n (xs ++ ys) p ≡ through n ys (through n xs p)
unfolding through
through-append n [] ys p = refl
through-append n (x ∷ xs) ys p = through-append n xs ys (saw n x p)

saw-stopped : (n : ℕ) (x : List Option) (p : Progress) → p.ended ≡ false → saw n x p ≡ p
unfolding saw
saw-stopped n x p e = rw e

through-stopped : (n : ℕ) (xs : List (List Option)) (p : Progress) → p.ended ≡ false → through n xs p ≡ p
unfolding through
through-stopped n [] p e = refl
through-stopped n (x ∷ xs) p e = ap (through n xs) (saw-stopped n x p e) ∙ through-stopped n xs p e

-- what a search begins with: a choice that is whole, or nothing yet
unfoldable start : List (List Option) → List Option → Progress → Progress
start [] chosen p = record { left = p.left; best = better p.best chosen; ended = p.ended }
start (g ∷ gs) chosen p = p

abbrev progress : ℕ → Best → Bool → Progress
progress left best ended = record { left = left; best = best; ended = ended }

-- a path that is apart is whole exactly where no goal is left
whole-start : (gs : List (List Option)) (path : List Option) (n left : ℕ) (best : Best) → n ≡ length path + length gs → none_twice path ≡ true
    → start gs path (progress left best true) ≡ progress left (pick (made_whole n path) (better best path) best) true
unfolding start made_whole
whole-start [] path n left best e a = rw (eq-eqb (length path) n (omega arith), a)
whole-start (g ∷ gs) path n left best e a = rw (ne_eqb (length path) n (λ z. omega arith))

whole_apart : (n : ℕ) (path : List Option) → none_twice path ≡ false → made_whole n path ≡ false
unfolding made_whole
whole_apart n path e = by_cases (eqb (length path) n) (λ z. rw (z, e)) (λ z. rw z)

abbrev Goes : ℕ → List (List Option) → Type 0
Goes n gs = (chosen : List Option) → none_twice chosen ≡ true → n ≡ length chosen + length gs → (p : Progress) → search gs chosen p ≡ through n (looks gs chosen) (start gs chosen p)

module _ (n : ℕ) (gs : List (List Option)) (ih : Goes n gs) (chosen : List Option) (a : none_twice chosen ≡ true) (e : n ≡ length chosen + suc (length gs)) where
  abbrev on : Option → Progress → Progress
  on o q = pick (diverts o.diverter chosen) q (search gs (chosen ++ (o ∷ [])) q)

  abbrev path : Option → List Option
  path o = chosen ++ (o ∷ [])

  abbrev below : Option → List (List Option)
  below o = pick (diverts o.diverter chosen) [] (looks gs (path o))

  path-length : (o : Option) → n ≡ length (path o) + length gs
  path-length o = omega (arith, length-append chosen (o ∷ []))

  counted : (o : Option) (left : ℕ) (best : Best)
      → on o (progress left best true) ≡ through n (below o) (progress left (pick (made_whole n (path o)) (better best (path o)) best) true)
  unfolding through
  counted o left best = by_cases (diverts o.diverter chosen)
      (λ z. let f : none_twice (path o) ≡ false = apart_snoc chosen o ∙ rw z in rw (z, whole_apart n (path o) f))
      (λ z. let f : none_twice (path o) ≡ true = apart_snoc chosen o ∙ rw (z, a) in
      rw z (ih (path o) f (path-length o) (progress left best true) ∙ ap (through n (looks gs (path o))) (whole-start gs (path o) n left best (path-length o) f)))

  looked : (o : Option) (left : ℕ) (best : Best) (ended : Bool)
      → pick ended (trying left best (on o)) (progress left best ended) ≡ through n (below o) (saw n (path o) (progress left best ended))
  unfolding saw trying
  looked o left best false = sym (through-stopped n (below o) (progress left best false) refl)
  looked o zero best true = sym (through-stopped n (below o) (progress 0 best false) refl)
  looked o (suc left) best true = counted o left best

  tries-through : (os : List Option) (p : Progress) → tries on os p ≡ through n (looks_along (λ x. looks gs x) chosen os) p
  unfolding tries looks_along
  tries-through [] p = unfold through in refl
  tries-through (o ∷ os) p =
      tries-through os _ ∙ ap (through n (looks_along (λ x. looks gs x) chosen os)) (looked o p.left p.best p.ended)
      ∙ sym (through-append n (path o ∷ below o) (looks_along (λ x. looks gs x) chosen os) p ∙ (unfold through in refl))

search-through : (n : ℕ) (gs : List (List Option)) → Goes n gs
unfolding search looks start
search-through n [] chosen a e p = unfold through in refl
search-through n (g ∷ gs) chosen a e p = tries-through n gs (search-through n gs) chosen a e g p

-- ---- up to the budget

take_none : (b : ℕ) → ◌≡◌ {A = List (List Option)} (take b []) []
take_none zero = refl
take_none (suc b) = refl

saw-one : (n : ℕ) (x : List Option) (b : ℕ) (best : Best) → saw n x (progress (suc b) best true) ≡ progress b (pick (made_whole n x) (better best x) best) true
unfolding saw trying
saw-one n x b best = refl

-- what is left, what was found and whether all was looked at
through-counted : (n : ℕ) (xs : List (List Option)) (b : ℕ) (best : Best)
    → through n xs (progress b best true) ≡ progress (b - length xs) (least_of best (passing (made_whole n) (take b xs))) (leb (length xs) b)
unfolding through least_of passing
through-counted n [] b best = rw (take_none b, leb-zero b) (ap (λ (k : ℕ). progress k best true) (same b))
  where
    same : (b : ℕ) → b ≡ b - 0
    same b = omega arith
through-counted n (x ∷ xs) zero best = stops
  where
    less : (k : ℕ) → 0 ≡ 0 - suc k
    less k = omega arith

    stops : through n xs (saw n x (progress 0 best true)) ≡ progress (0 - suc (length xs)) (least_of best []) (leb (suc (length xs)) 0)
    stops = unfold saw trying in through-stopped n xs (progress 0 best false) refl ∙ rw (leb-suc-zero (length xs)) (ap (λ (k : ℕ). progress k best false) (less (length xs)))
through-counted n (x ∷ xs) (suc b) best =
    ap (through n xs) (saw-one n x b best) ∙ through-counted n xs b (pick (made_whole n x) (better best x) best)
    ∙ rw (leb-suc-suc (length xs) b)
    (ap (λ (k : ℕ). progress k (least_of (pick (made_whole n x) (better best x) best) (passing (made_whole n) (take b xs))) (leb (length xs) b)) (less b (length xs))
    ∙ ap (λ (y : Best). progress (suc b - suc (length xs)) y (leb (length xs) b)) chosen)
  where
    less : (b k : ℕ) → b - k ≡ suc b - suc k
    less b k = omega arith

    chosen : least_of (pick (made_whole n x) (better best x) best) (passing (made_whole n) (take b xs)) ≡ least_of best (pick (made_whole n x) (x ∷ passing (made_whole n) (take b xs)) (passing (made_whole n) (take b xs)))
    chosen = by_cases (made_whole n x) (λ z. rw z (unfold least_of in refl)) (λ z. rw z)

-- the search as a whole
start-empty : (gs : List (List Option)) (p : Progress) → 1 ≤ length gs → start gs [] p ≡ p
unfolding start
start-empty [] p h = absurd (omega arith)
start-empty (g ∷ gs) p h = refl

module _ (gs : List (List Option)) (b : ℕ) (some : 1 ≤ length gs) where
  abbrev written : List (List Option)
  written = looks gs []

  searched : search gs [] (progress b none_found true) ≡ progress (b - length (looks gs [])) (least_of none_found (passing (made_whole (length gs)) (take b (looks gs [])))) (leb (length (looks gs [])) b)
  unfolding none_twice
  searched =
      search-through (length gs) gs [] refl (omega arith) (progress b none_found true)
      ∙ ap (through (length gs) (looks gs [])) (start-empty gs (progress b none_found true) some)
      ∙ through-counted (length gs) (looks gs []) b none_found

  pub detour-best : (detour gs b).best ≡ least_of none_found (passing (made_whole (length gs)) (take b (looks gs [])))
  unfolding detour
  detour-best = ap (λ (p : Progress). p.best) searched

  detour-ended : (detour gs b).ended ≡ leb (length (looks gs [])) b
  unfolding detour
  detour-ended = ap (λ (p : Progress). p.ended) searched

  detour-tried : (detour gs b).tried ≡ min b (length (looks gs []))
  unfolding detour
  detour-tried = ap (λ (p : Progress). b - p.left) searched ∙ counts b (length (looks gs []))
    where
      counts : (b k : ℕ) → b - (b - k) ≡ min b k
      counts b k = omega arith

-- ---- lists of choices

passing-append : {R : Type 0} (test : R → Bool) (xs ys : List R) → passing test (xs ++ ys) ≡ passing test xs ++ passing test ys
unfolding passing
passing-append test [] ys = refl
passing-append {R} test (x ∷ xs) ys = by_cases (test x) (λ e. rw e (ap (λ (l : List R). x ∷ l) (passing-append test xs ys))) (λ e. rw e (passing-append test xs ys))

-- what is chosen before each of the lists
unfoldable prefixed : List Option → List (List Option) → List (List Option)
prefixed chosen [] = []
prefixed chosen (ch ∷ chs) = (chosen ++ ch) ∷ prefixed chosen chs

prefixed-append : (chosen : List Option) (xs ys : List (List Option)) → prefixed chosen (xs ++ ys) ≡ prefixed chosen xs ++ prefixed chosen ys
unfolding prefixed
prefixed-append chosen [] ys = refl
prefixed-append chosen (x ∷ xs) ys = ap (λ (l : List (List Option)). (chosen ++ x) ∷ l) (prefixed-append chosen xs ys)

prefixed-each : (chosen : List Option) (o : Option) (xs : List (List Option)) → prefixed chosen (map (λ ch. o ∷ ch) xs) ≡ prefixed (chosen ++ (o ∷ [])) xs
unfolding prefixed
prefixed-each chosen o [] = refl
prefixed-each chosen o (x ∷ xs) = rw (prefixed-each chosen o xs) (ap (λ (y : List Option). y ∷ prefixed (chosen ++ (o ∷ [])) xs) (sym (append_assoc chosen (o ∷ []) x)))

prefixed-none : (xs : List (List Option)) → prefixed [] xs ≡ xs
unfolding prefixed
prefixed-none [] = refl
prefixed-none (x ∷ xs) = ap (λ (l : List (List Option)). x ∷ l) (prefixed-none xs)

diverts-longer : (d : ℕ) (p q : List Option) → diverts d p ≡ true → diverts d (p ++ q) ≡ true
unfolding diverts
diverts-longer d [] q e = absurd (false≢true e)
diverts-longer d (x ∷ p) q e = by_cases (eqb x.diverter d) (λ z. rw z) (λ z. rw z (diverts-longer d p q (rw z at e)))

-- a choice that begins with a diverter twice has it
apart-longer : (p q : List Option) → none_twice p ≡ false → none_twice (p ++ q) ≡ false
unfolding none_twice
apart-longer [] q e = absurd (true≢false e)
apart-longer (x ∷ p) q e = by_cases (diverts x.diverter p)
    (λ z. rw (diverts-longer x.diverter p q z))
    (λ z. let f : none_twice p ≡ false = rw z at e in rw (apart-longer p q f) (and_none (not (diverts x.diverter (p ++ q)))))
  where
    and_none : (b : Bool) → (b && false) ≡ false
    and_none true = refl
    and_none false = refl

none_apart : (p : List Option) (xs : List (List Option)) → none_twice p ≡ false → passing none_twice (prefixed p xs) ≡ []
unfolding passing prefixed
none_apart p [] e = refl
none_apart p (x ∷ xs) e = rw (apart-longer p x e) (none_apart p xs e)

-- ---- the looks that make a choice whole are the choices with no diverter twice

-- what is whole before any look: where no goal is left
unfoldable ready : List (List Option) → List Option → List (List Option)
ready [] chosen = chosen ∷ []
ready (g ∷ gs) chosen = []

ready-none : (gs : List (List Option)) → 1 ≤ length gs → ready gs [] ≡ []
unfolding ready
ready-none [] h = absurd (omega arith)
ready-none (g ∷ gs) h = refl

ready-path : (gs : List (List Option)) (path : List Option) (n : ℕ) → n ≡ length path + length gs → none_twice path ≡ true
    → (xs : List (List Option)) → passing (made_whole n) (path ∷ xs) ≡ passing (made_whole n) (ready gs path ++ xs)
unfolding ready passing made_whole
ready-path [] path n e a xs = refl
ready-path (g ∷ gs) path n e a xs = rw (ne_eqb (length path) n (λ z. omega arith))

abbrev Completes : ℕ → List (List Option) → Type 0
Completes n gs = (chosen : List Option) → none_twice chosen ≡ true → n ≡ length chosen + length gs → passing (made_whole n) (ready gs chosen ++ looks gs chosen) ≡ passing none_twice (prefixed chosen (choices gs))

module _ (n : ℕ) (gs : List (List Option)) (ih : Completes n gs) (chosen : List Option) (a : none_twice chosen ≡ true) (e : n ≡ length chosen + suc (length gs)) where
  abbrev under : Option → List (List Option)
  under o = (chosen ++ (o ∷ [])) ∷ pick (diverts o.diverter chosen) [] (looks gs (chosen ++ (o ∷ [])))

  one-option : (o : Option) → passing (made_whole n) (under o) ≡ passing none_twice (prefixed (chosen ++ (o ∷ [])) (choices gs))
  one-option o = by_cases (diverts o.diverter chosen)
      (λ z. let f : none_twice (chosen ++ (o ∷ [])) ≡ false = apart_snoc chosen o ∙ rw z in
      rw z (none-whole f) ∙ sym (none_apart (chosen ++ (o ∷ [])) (choices gs) f))
      (λ z. let f : none_twice (chosen ++ (o ∷ [])) ≡ true = apart_snoc chosen o ∙ rw (z, a) in
      let k : n ≡ length (chosen ++ (o ∷ [])) + length gs = omega (arith, length-append chosen (o ∷ [])) in
      rw z (ready-path gs (chosen ++ (o ∷ [])) n k f (looks gs (chosen ++ (o ∷ [])))) ∙ ih (chosen ++ (o ∷ [])) f k)
    where
      none-whole : none_twice (chosen ++ (o ∷ [])) ≡ false → passing (made_whole n) ((chosen ++ (o ∷ [])) ∷ []) ≡ []
      none-whole f = unfold passing in rw (whole_apart n (chosen ++ (o ∷ [])) f)

  along-options : (os : List Option) → passing (made_whole n) (looks_along (λ x. looks gs x) chosen os) ≡ passing none_twice (prefixed chosen (each_before os (choices gs)))
  unfolding looks_along each_before
  along-options [] = unfold passing prefixed in refl
  along-options (o ∷ os) =
      passing-append (made_whole n) (under o) (looks_along (λ x. looks gs x) chosen os)
      ∙ ap (λ (l : List (List Option)). l ++ passing (made_whole n) (looks_along (λ x. looks gs x) chosen os)) (one-option o)
      ∙ ap (λ (l : List (List Option)). passing none_twice (prefixed (chosen ++ (o ∷ [])) (choices gs)) ++ l) (along-options os)
      ∙ sym (ap (passing none_twice) (prefixed-append chosen (map (λ ch. o ∷ ch) (choices gs)) (each_before os (choices gs)))
      ∙ passing-append none_twice (prefixed chosen (map (λ ch. o ∷ ch) (choices gs))) (prefixed chosen (each_before os (choices gs)))
      ∙ ap (λ (l : List (List Option)). passing none_twice l ++ passing none_twice (prefixed chosen (each_before os (choices gs)))) (prefixed-each chosen o (choices gs)))

completes : (n : ℕ) (gs : List (List Option)) → Completes n gs
unfolding looks choices ready
completes n [] chosen a e = unfold passing prefixed made_whole in rw (append-nil chosen, eq-eqb (length chosen) n (omega arith), a)
completes n (g ∷ gs) chosen a e = along-options n gs (completes n gs) chosen a e g

pub completing : Completing
completing gs h = skip gs h ∙ completes (length gs) gs [] (unfold none_twice in refl) (omega arith) ∙ ap (passing none_twice) (prefixed-none (choices gs))
  where
    skip : (gs : List (List Option)) → 1 ≤ length gs → passing (made_whole (length gs)) (looks gs []) ≡ passing (made_whole (length gs)) (ready gs [] ++ looks gs [])
    skip gs h = ap (λ (l : List (List Option)). passing (made_whole (length gs)) (l ++ looks gs [])) (sym (ready-none gs h))

-- ---- the list of choices

in_left : (ch : List Option) (xs ys : List (List Option)) → In ch xs → In ch (xs ++ ys)
in_left ch [] ys h = absurd h
in_left ch (x ∷ xs) ys (inl e) = inl e
in_left ch (x ∷ xs) ys (inr h) = inr (in_left ch xs ys h)

in_right : (ch : List Option) (xs ys : List (List Option)) → In ch ys → In ch (xs ++ ys)
in_right ch [] ys h = h
in_right ch (x ∷ xs) ys h = inr (in_right ch xs ys h)

in_either : (ch : List Option) (xs ys : List (List Option)) → In ch (xs ++ ys) → In ch xs ⊎ In ch ys
in_either ch [] ys h = inr h
in_either ch (x ∷ xs) ys (inl e) = inl (inl e)
in_either ch (x ∷ xs) ys (inr h) = go (in_either ch xs ys h)
  where
    go : In ch xs ⊎ In ch ys → ((ch ≡ x) ⊎ In ch xs) ⊎ In ch ys
    go (inl k) = inl (inr k)
    go (inr k) = inr k

in-behind : (o : Option) (ch : List Option) (xs : List (List Option)) → In ch xs → In (o ∷ ch) (map (λ y. o ∷ y) xs)
in-behind o ch [] h = absurd h
in-behind o ch (x ∷ xs) (inl e) = inl (ap (λ (y : List Option). o ∷ y) e)
in-behind o ch (x ∷ xs) (inr h) = inr (in-behind o ch xs h)

behind-in : (o : Option) (ch : List Option) (xs : List (List Option)) → In ch (map (λ y. o ∷ y) xs) → (rest : List Option) × (ch ≡ o ∷ rest) × In rest xs
behind-in o ch [] h = absurd h
behind-in o ch (x ∷ xs) (inl e) = (x, e, inl refl)
behind-in o ch (x ∷ xs) (inr h) = let k = behind-in o ch xs h in (k.0, k.1, inr k.2)

chosen-in : (g : List Option) (o : Option) (ch : List Option) (xs : List (List Option)) → Among o g → In ch xs → In (o ∷ ch) (each_before g xs)
unfolding each_before
chosen-in [] o ch xs h k = absurd h
chosen-in (x ∷ g) o ch xs (inl e) k = in_left (o ∷ ch) (map (λ y. x ∷ y) xs) (each_before g xs) (subst (λ (y : Option). In (o ∷ ch) (map (λ z. y ∷ z) xs)) e (in-behind o ch xs k))
chosen-in (x ∷ g) o ch xs (inr h) k = in_right (o ∷ ch) (map (λ y. x ∷ y) xs) (each_before g xs) (chosen-in g o ch xs h k)

in-chosen : (g : List Option) (ch : List Option) (xs : List (List Option)) → In ch (each_before g xs) → (o : Option) × (rest : List Option) × (ch ≡ o ∷ rest) × Among o g × In rest xs
unfolding each_before
in-chosen [] ch xs h = absurd h
in-chosen (x ∷ g) ch xs h = go (in_either ch (map (λ y. x ∷ y) xs) (each_before g xs) h) (λ k. in-chosen g ch xs k)
  where
    go : In ch (map (λ y. x ∷ y) xs) ⊎ In ch (each_before g xs) → (In ch (each_before g xs) → (o : Option) × (rest : List Option) × (ch ≡ o ∷ rest) × Among o g × In rest xs)
        → (o : Option) × (rest : List Option) × (ch ≡ o ∷ rest) × Among o (x ∷ g) × In rest xs
    go (inl k) f = let r = behind-in x ch xs k in (x, r.0, r.1, inl refl, r.2)
    go (inr k) f = let r = f k in (r.0, r.1, r.2, inr r.3, r.4)

chooses-in : (gs : List (List Option)) (ch : List Option) → Chooses gs ch → In ch (choices gs)
unfolding choices
chooses-in [] [] h = inl refl
chooses-in [] (o ∷ os) h = absurd h
chooses-in (g ∷ gs) [] h = absurd h
chooses-in (g ∷ gs) (o ∷ os) h = chosen-in g o os (choices gs) h.0 (chooses-in gs os h.1)

in-chooses : (gs : List (List Option)) (ch : List Option) → In ch (choices gs) → Chooses gs ch
unfolding choices
in-chooses [] ch (inl e) = subst (Chooses []) (sym e) tt
in-chooses [] ch (inr h) = absurd h
in-chooses (g ∷ gs) ch h = let r = in-chosen g ch (choices gs) h in subst (Chooses (g ∷ gs)) (sym r.2) (r.3, in-chooses gs r.1 r.4)

pub choices-all : Choices
choices-all gs ch = (chooses-in gs ch, in-chooses gs ch)

-- ---- those that pass

passing-in : (test : List Option → Bool) (ch : List Option) (xs : List (List Option)) → In ch (passing test xs) → In ch xs × (test ch ≡ true)
unfolding passing
passing-in test ch [] h = absurd h
passing-in test ch (x ∷ xs) h = by_cases (test x)
    (λ e. go e (rw e at h) (λ k. passing-in test ch xs k))
    (λ e. let k = passing-in test ch xs (rw e at h) in (inr k.0, k.1))
  where
    go : test x ≡ true → (ch ≡ x) ⊎ In ch (passing test xs) → (In ch (passing test xs) → In ch xs × (test ch ≡ true)) → ((ch ≡ x) ⊎ In ch xs) × (test ch ≡ true)
    go e (inl q) f = (inl q, rw q e)
    go e (inr q) f = let k = f q in (inr k.0, k.1)

in-passing : (test : List Option → Bool) (ch : List Option) (xs : List (List Option)) → In ch xs → test ch ≡ true → In ch (passing test xs)
unfolding passing
in-passing test ch [] h e = absurd h
in-passing test ch (x ∷ xs) (inl q) e = rw (← q, e) (inl refl)
in-passing test ch (x ∷ xs) (inr h) e = by_cases (test x) (λ z. rw z (inr (in-passing test ch xs h e))) (λ z. rw z (in-passing test ch xs h e))

in_take : (ch : List Option) (b : ℕ) (xs : List (List Option)) → In ch (take b xs) → In ch xs
in_take ch zero xs h = absurd h
in_take ch (suc b) [] h = absurd h
in_take ch (suc b) (x ∷ xs) (inl e) = inl e
in_take ch (suc b) (x ∷ xs) (inr h) = inr (in_take ch b xs h)

-- ---- the first least

found-total : {a b : ℕ} {ns ms : List ℕ} → found a ns ≡ found b ms → a ≡ b
found-total e = cc

found-numbers : {a b : ℕ} {ns ms : List ℕ} → found a ns ≡ found b ms → ns ≡ ms
found-numbers e = cc

found-not : {a : ℕ} {ns : List ℕ} → none_found ≡ found a ns → ⊥
found-not e = let z : ◌≡◌ {A = ℕ} 0 1 = cc in omega arith

-- after one that has more
least-behind : (ch : List Option) (chs : List (List Option)) (total : ℕ) (ns : List ℕ) → total < total_of ch → FirstLeast chs total ns → FirstLeast (ch ∷ chs) total ns
least-behind ch chs total ns h f = record {
  before = ch ∷ f.before;
  choice = f.choice;
  after = f.after;
  listed = ap (λ (l : List (List Option)). ch ∷ l) f.listed;
  total-is = f.total-is;
  numbers-are = f.numbers-are;
  above = (h, f.above);
  not-below = f.not-below;
}

least-here : (ch : List Option) (chs : List (List Option)) → NotBelow (total_of ch) chs → FirstLeast (ch ∷ chs) (total_of ch) (numbers_in ch)
least-here ch chs h = record { before = []; choice = ch; after = chs; listed = refl; total-is = refl; numbers-are = refl; above = tt; not-below = h }

-- after one was found: it stays, or a lower one is the first least of the rest
abbrev Stays : ℕ → List ℕ → List (List Option) → ℕ → List ℕ → Type 0
Stays t ms chs total ns = ((total ≡ t) × (ns ≡ ms) × NotBelow t chs) ⊎ (FirstLeast chs total ns × (total < t))

better-lower : (t : ℕ) (ms : List ℕ) (ch : List Option) → total_of ch < t → better (found t ms) ch ≡ found (total_of ch) (numbers_in ch)
unfolding better
better-lower t ms ch h = rw (lt-ltb _ _ h)

better-not : (t : ℕ) (ms : List ℕ) (ch : List Option) → t ≤ total_of ch → better (found t ms) ch ≡ found t ms
unfolding better
better-not t ms ch h = rw (le-ltb _ _ h)

least-from : (t : ℕ) (ms : List ℕ) (chs : List (List Option)) (total : ℕ) (ns : List ℕ) → least_of (found t ms) chs ≡ found total ns → Stays t ms chs total ns
unfolding least_of
least-from t ms [] total ns e = inl (sym (found-total e), sym (found-numbers e), tt)
least-from t ms (ch ∷ chs) total ns e = by_cases (ltb (total_of ch) t)
    (λ z. let h : total_of ch < t = ltb-true _ _ z in lower h (least-from (total_of ch) (numbers_in ch) chs total ns (rw (better-lower t ms ch h) at e)))
    (λ z. let h : t ≤ total_of ch = ltb-false _ _ z in higher h (least-from t ms chs total ns (rw (better-not t ms ch h) at e)))
  where
    lower : total_of ch < t → Stays (total_of ch) (numbers_in ch) chs total ns → Stays t ms (ch ∷ chs) total ns
    lower h (inl k) = inr (rw (k.0, k.1) (least-here ch chs k.2), rw k.0 h)
    lower h (inr k) = let l : total < total_of ch = k.1 in inr (least-behind ch chs total ns l k.0, omega arith)

    higher : t ≤ total_of ch → Stays t ms chs total ns → Stays t ms (ch ∷ chs) total ns
    higher h (inl k) = inl (k.0, k.1, (h, k.2))
    higher h (inr k) = let l : total < t = k.1 in inr (least-behind ch chs total ns (omega arith) k.0, l)

pub first-least : (chs : List (List Option)) (total : ℕ) (ns : List ℕ) → least_of none_found chs ≡ found total ns → FirstLeast chs total ns
unfolding least_of better
first-least [] total ns e = absurd (found-not e)
first-least (ch ∷ chs) total ns e = go (least-from (total_of ch) (numbers_in ch) chs total ns e)
  where
    go : Stays (total_of ch) (numbers_in ch) chs total ns → FirstLeast (ch ∷ chs) total ns
    go (inl k) = rw (k.0, k.1) (least-here ch chs k.2)
    go (inr k) = least-behind ch chs total ns k.1 k.0

-- "none" means that there was no choice
found-stays : (t : ℕ) (ms : List ℕ) (chs : List (List Option)) → (total : ℕ) × (ns : List ℕ) × (least_of (found t ms) chs ≡ found total ns) × (total ≤ t)
unfolding least_of
found-stays t ms [] = (t, ms, refl, omega arith)
found-stays t ms (ch ∷ chs) = by_cases (ltb (total_of ch) t)
    (λ z. let h : total_of ch < t = ltb-true _ _ z in
    let k = found-stays (total_of ch) (numbers_in ch) chs in
    (k.0, k.1, rw (better-lower t ms ch h) k.2, omega (arith, k.3)))
    (λ z. let h : t ≤ total_of ch = ltb-false _ _ z in
    let k = found-stays t ms chs in
    (k.0, k.1, rw (better-not t ms ch h) k.2, k.3))

none_in : (chs : List (List Option)) → least_of none_found chs ≡ none_found → (ch : List Option) → In ch chs → ⊥
unfolding least_of better
none_in [] e ch h = h
none_in (x ∷ chs) e ch h = let k = found-stays (total_of x) (numbers_in x) chs in found-not (sym e ∙ k.2)

-- the first least is one of them, and none has less
least-in : (chs : List (List Option)) (total : ℕ) (ns : List ℕ) (f : FirstLeast chs total ns) → In f.choice chs
least-in chs total ns f = rw f.listed (in_right f.choice f.before (f.choice ∷ f.after) (inl refl))

above_in : (t : ℕ) (chs : List (List Option)) (ch : List Option) → Above t chs → In ch chs → t ≤ total_of ch
above_in t [] ch a h = absurd h
above_in t (x ∷ chs) ch a (inl e) = rw e (omega (arith, a.0))
above_in t (x ∷ chs) ch a (inr h) = above_in t chs ch a.1 h

not-below-in : (t : ℕ) (chs : List (List Option)) (ch : List Option) → NotBelow t chs → In ch chs → t ≤ total_of ch
not-below-in t [] ch a h = absurd h
not-below-in t (x ∷ chs) ch a (inl e) = rw e a.0
not-below-in t (x ∷ chs) ch a (inr h) = not-below-in t chs ch a.1 h

least-all : (chs : List (List Option)) (total : ℕ) (ns : List ℕ) → FirstLeast chs total ns → (ch : List Option) → In ch chs → total ≤ total_of ch
least-all chs total ns f ch h = go (in_either ch f.before (f.choice ∷ f.after) (subst (In ch) f.listed h))
  where
    go : In ch f.before ⊎ ((ch ≡ f.choice) ⊎ In ch f.after) → total ≤ total_of ch
    go (inl k) = above_in total f.before ch f.above k
    go (inr (inl e)) = rw (e, f.total-is) (omega arith)
    go (inr (inr k)) = not-below-in total f.after ch f.not-below k

-- ---- minima

fewest-least : (g : List Option) (o : Option) → Among o g → fewest g ≤ o.minutes
unfolding fewest
fewest-least [] o h = absurd h
fewest-least (x ∷ []) o (inl e) = rw e (omega arith)
fewest-least (x ∷ []) o (inr h) = absurd h
fewest-least (x ∷ y ∷ g) o (inl e) = rw e (omega arith)
fewest-least (x ∷ y ∷ g) o (inr h) = let k = fewest-least (y ∷ g) o h in omega arith

minima-least : (gs : List (List Option)) (ch : List Option) → Chooses gs ch → minima gs ≤ total_of ch
unfolding minima total_of
minima-least [] [] h = omega arith
minima-least [] (o ∷ os) h = absurd h
minima-least (g ∷ gs) [] h = absurd h
minima-least (g ∷ gs) (o ∷ os) h = omega (arith, fewest-least g o h.0, minima-least gs os h.1)

-- ---- the search

take_whole : (b : ℕ) (xs : List (List Option)) → leb (length xs) b ≡ true → take b xs ≡ xs
take_whole b xs e = take_all b xs (leb-true _ _ e)

module _ (gs : List (List Option)) (b : ℕ) (some : 1 ≤ length gs) where
  abbrev d : Detour
  d = detour gs b

  -- if it ended, of all choices
  ended-all : (detour gs b).ended ≡ true → (detour gs b).best ≡ least_of none_found (passing none_twice (choices gs))
  ended-all e =
      detour-best gs b some
      ∙ ap (λ (l : List (List Option)). least_of none_found (passing (made_whole (length gs)) l)) (take_whole b (looks gs []) (sym (detour-ended gs b some) ∙ e))
      ∙ ap (least_of none_found) (completing gs some)

  first_of : (detour gs b).ended ≡ true → (total : ℕ) (ns : List ℕ) → (detour gs b).best ≡ found total ns → FirstLeast (passing none_twice (choices gs)) total ns
  first_of e total ns q = first-least (passing none_twice (choices gs)) total ns (sym (ended-all e) ∙ q)

  real_of : (total : ℕ) (ns : List ℕ) → (detour gs b).best ≡ found total ns → (ch : List Option) × Chooses gs ch × (none_twice ch ≡ true) × (total_of ch ≡ total) × (numbers_in ch ≡ ns)
  real_of total ns q =
      let chs : List (List Option) = passing (made_whole (length gs)) (take b (looks gs [])) in
      let f = first-least chs total ns (sym (detour-best gs b some) ∙ q) in
      let p = passing-in (made_whole (length gs)) f.choice (take b (looks gs [])) (least-in chs total ns f) in
      let k : In f.choice (passing none_twice (choices gs)) = subst (In f.choice) (completing gs some) (in-passing (made_whole (length gs)) f.choice (looks gs []) (in_take f.choice b (looks gs []) p.0) p.1) in
      let r = passing-in none_twice f.choice (choices gs) k in
      (f.choice, in-chooses gs f.choice r.0, r.1, f.total-is, f.numbers-are)

  pub detour-true : DetourTrue gs b (detour gs b)
  detour-true = record {
    tried = detour-tried gs b some;
    ended = detour-ended gs b some;
    best = detour-best gs b some;
    real = real_of;
    first = first_of;
    least = λ e total ns q ch h a. least-all (passing none_twice (choices gs)) total ns (first_of e total ns q) ch (in-passing none_twice ch (choices gs) (chooses-in gs ch h) a);
    none = λ e q ch h a. none_in (passing none_twice (choices gs)) (sym (ended-all e) ∙ q) ch (in-passing none_twice ch (choices gs) (chooses-in gs ch h) a);
    near = λ total ns q ch h. let k = minima-least gs ch h in omega arith;
  }

pub detours-true : Detours
detours-true gs b some = detour-true gs b some

-- ---- a larger budget

least-append : (best : Best) (xs ys : List (List Option)) → least_of best (xs ++ ys) ≡ least_of (least_of best xs) ys
unfolding least_of
least-append best [] ys = refl
least-append best (x ∷ xs) ys = least-append (better best x) xs ys

take_more : (b more : ℕ) (xs : List (List Option)) → b ≤ more → take more xs ≡ take b xs ++ take (more - b) (drop b xs)
take_more zero more xs h = ap (λ (k : ℕ). take k xs) (same more)
  where
    same : (k : ℕ) → k ≡ k - 0
    same k = omega arith
take_more (suc b) zero xs h = absurd (omega arith)
take_more (suc b) (suc more) [] h = sym (take_none (suc more - suc b))
take_more (suc b) (suc more) (x ∷ xs) h =
    ap (λ (l : List (List Option)). x ∷ l) (take_more b more xs (omega arith) ∙ ap (λ (k : ℕ). take b xs ++ take k (drop b xs)) (less more b))
  where
    less : (a b : ℕ) → a - b ≡ suc a - suc b
    less a b = omega arith

pub larger-budget : LargerBudget
larger-budget gs b more some h total ns e =
    let n : ℕ = length gs in
    let L : List (List Option) = looks gs [] in
    let rest : List (List Option) = passing (made_whole n) (take (more - b) (drop b L)) in
    let split : (detour gs more).best ≡ least_of (found total ns) rest =
    detour-best gs more some
    ∙ ap (λ (l : List (List Option)). least_of none_found (passing (made_whole n) l)) (take_more b more L h)
    ∙ ap (least_of none_found) (passing-append (made_whole n) (take b L) (take (more - b) (drop b L)))
    ∙ least-append none_found (passing (made_whole n) (take b L)) rest
    ∙ ap (λ (y : Best). least_of y rest) (sym (detour-best gs b some) ∙ e) in
    let k = found-stays total ns rest in
    (k.0, k.1, split ∙ k.2, k.3)

-- ---- on tables

module _ (c : Coding) (t : Table) (goals : List ℕ) (b : ℕ) where
  abbrev gs : List Goal
  gs = map (goal_of c t) goals

  abbrev Says : Reply → Type 0
  Says r = (x : Detour) → r ≡ detoured x → (1 ≤ length goals) × (length goals ≤ 6) × DetourTrue (map (options_at c t) goals) b x

  never : (r : ℕ) → Says (refused r)
  never r x e = let z : ◌≡◌ {A = ℕ} 0 1 = cc in absurd (omega arith)

  few : few_goals (map (goal_of c t) goals) ≡ true → (1 ≤ length goals) × (length goals ≤ 6)
  unfolding few_goals
  few e =
      let k = both (leb 1 (length (map (goal_of c t) goals))) (leb (length (map (goal_of c t) goals)) 6) e in
      let l = length-map goals (goal_of c t) in
      let x : 1 ≤ length (map (goal_of c t) goals) = leb-true _ _ k.0 in
      let y : length (map (goal_of c t) goals) ≤ 6 = leb-true _ _ k.1 in
      (omega arith, omega arith)
    where
      both : (p q : Bool) → (p && q) ≡ true → (p ≡ true) × (q ≡ true)
      both true q e = (refl, e)
      both false q e = absurd (false≢true e)

  says-found : (few_goals (map (goal_of c t) goals) && goals_fit c (map (goal_of c t) goals)) ≡ true → Says (detoured (detour (map (options_of c) (map (goal_of c t) goals)) b))
  says-found e x q =
      let k = few (first (few_goals (map (goal_of c t) goals)) (goals_fit c (map (goal_of c t) goals)) e) in
      let m : map (options_of c) (map (goal_of c t) goals) ≡ map (options_at c t) goals = map-map (options_of c) (goal_of c t) goals in
      let is : x ≡ detour (map (options_at c t) goals) b = one (sym q) ∙ ap (λ (l : List (List Option)). detour l b) m in
      (k.0, k.1, rw is (detour-true (map (options_at c t) goals) b (omega (arith, k.0, length-map goals (options_at c t)))))
    where
      first : (p q : Bool) → (p && q) ≡ true → p ≡ true
      first true q e = refl
      first false q e = absurd (false≢true e)

      one : {y z : Detour} → detoured y ≡ detoured z → y ≡ z
      one e = cc

  says-true : Says (detouring c t goals b)
  unfolding detouring detours_of
  says-true = by_cases (all_within (length t.subgoals) goals)
      (λ e. by_cases (any_open (map (goal_of c t) goals))
      (λ f. rw (e, f) (never 14))
      (λ f. by_cases (few_goals (map (goal_of c t) goals) && goals_fit c (map (goal_of c t) goals))
      (λ g. rw (e, f, g) (says-found g))
      (λ g. rw (e, f, g) (never 22))))
      (λ e. rw e (never 7))

pub detouring-true : (c : Coding) → Detouring c
unfolding step lent
detouring-true c t goals b = (says-true c t goals b, refl, refl)
