-- The refusals of a join: the cells that it puts together are terms without variables, so 4 alone comes from reading them.
use mathlib.Core.Path.{◌≡◌, refl, ap, subst}
use mathlib.Core.Bool.{Bool, true, false, false≢true}
use mathlib.Core.List.{List, [], ◌∷◌, ◌++◌, map}
use mathlib.Core.Logic.{inl, inr}
use Prim.Native.Nat.{ℕ, zero, suc, ◌*◌, ◌≤◌, ◌<◌}
use native.Mathlib.Omega.{arith}
use lib.Dec.{eqb, leb, ltb}
use lib.ListN.{length, get_or}
use borrow.Author.Tests.{eqb-true, ltb-true}
use Rattle.basis.specs.Choice.{pick}
use Rattle.basis.proofs.Cases.{by_cases}
use Rattle.forms.specs.Compact.{same}
use Rattle.forms.specs.Numbering.{met}
use Rattle.forms.proofs.RoundTrip.{same_self}
use Rattle.plain.specs.Words.{Word, has}
use Rattle.plain.specs.Coding.{Coding, refused}
use Rattle.plain.specs.CodingLaws.{GroundTerm, GroundTerms, none, one, CodingLaws}
use Rattle.plain.specs.Requests.{State, Open, Finished, join, refused, Result}
use Rattle.plain.specs.Joins.{Forms, declined, formed, Side, Terms, pairs_named, copies_named, named, matching, copied, along, combined, all_read, is_open, ground, join_of}
use Rattle.plain.specs.Table.{Table, subgoal_at, answers_to, becomes, side_of, joining, step}
use Rattle.plain.specs.Consequences.{RefusedBy, JoinKnown, JoinRefusing, reached}
use Rattle.plain.proofs.Changes.{known-cases, joining-cases, before-cases}
use Rattle.plain.proofs.Soundness.{Sound, sound-reached}
use Rattle.plain.proofs.StoredForms.{held-answer}

pick_true : (a b : Bool) → pick a b false ≡ true → (a ≡ true) × (b ≡ true)
pick_true true b e = (refl, e)
pick_true false b e = absurd (false≢true e)

-- ---- what each list of a join holds

abbrev Every : {A : Type 0} → (A → Type 0) → List A → Type 0
Every P [] = Unit {0}
Every P (x ∷ xs) = P x × Every P xs

every_append : {A : Type 0} (P : A → Type 0) (xs ys : List A) → Every P xs → Every P ys → Every P (xs ++ ys)
every_append P [] ys h k = k
every_append P (x ∷ xs) ys h k = (h.0, every_append P xs ys h.1 k)

module _ (c : Coding) where
  -- the terms of a legal form of m terms without variables
  record TermsOf (m : ℕ) (ts : Terms) : Type 0 where
    form : Word
    legal : c.legal m form ≡ true
    ground : length (met [] form) ≡ 0
    are : ts ≡ c.terms form

  term-at : (m i : ℕ) (ts : Terms) → TermsOf m ts → i < m → GroundTerm c (get_or ts i [])
  term-at m i ts t h = record { form = t.form; m = m; place = i; legal = t.legal; ground = t.ground; inside = h; is = ap (λ (x : Terms). get_or x i []) t.are }

  copied-ground : (k m n : ℕ) (cs : List ℕ) (us vs : Terms) → TermsOf m us → TermsOf n vs → copies_named m n cs ≡ true → length cs ≡ 2 * k → GroundTerms c k (copied cs us vs)
  unfolding copies_named copied
  copied-ground zero m n [] us vs u v e l = none
  copied-ground (suc k) m n [] us vs u v e l = absurd (omega arith)
  copied-ground k m n (side ∷ []) us vs u v e l = absurd (false≢true e)
  copied-ground zero m n (side ∷ x ∷ cs) us vs u v e l = absurd (omega arith)
  copied-ground (suc k) m n (side ∷ x ∷ cs) us vs u v e l = by_cases (eqb side 0)
      (λ p. let q = pick_true (ltb x m) (copies_named m n cs) (rw p at e) in
      rw p (one (term-at m x us u (ltb-true x m q.0)) (copied-ground k m n cs us vs u v q.1 (omega arith))))
      (λ p. let r = pick_true (eqb side 1) (pick (ltb x n) (copies_named m n cs) false) (rw p at e) in
      let q = pick_true (ltb x n) (copies_named m n cs) r.1 in
      rw p (one (term-at n x vs v (ltb-true x n q.0)) (copied-ground k m n cs us vs u v q.1 (omega arith))))

  module _ (k m n : ℕ) (ps cs : List ℕ) (e : copies_named m n cs ≡ true) (l : length cs ≡ 2 * k) where
    along-ground : (us : Terms) (vss : List Terms) → TermsOf m us → Every (TermsOf n) vss → Every (GroundTerms c k) (along ps cs us vss)
    unfolding along
    along-ground us [] u a = tt
    along-ground us (vs ∷ vss) u a = by_cases (matching ps us vs)
        (λ q. rw q (copied-ground k m n cs us vs u a.0 e l, along-ground us vss u a.1))
        (λ q. rw q (along-ground us vss u a.1))

    combined-ground : (uss vss : List Terms) → Every (TermsOf m) uss → Every (TermsOf n) vss → Every (GroundTerms c k) (combined ps cs uss vss)
    unfolding combined
    combined-ground [] vss a b = tt
    combined-ground (us ∷ uss) vss a b = every_append (GroundTerms c k) (along ps cs us vss) (combined ps cs uss vss) (along-ground us vss a.0 b) (combined-ground uss vss a.1 b)

  -- the terms of legal forms
  forms-terms : (m : ℕ) (ws : List Word) → Every (λ w. c.legal m w ≡ true) ws → ground ws ≡ true → Every (TermsOf m) (map (λ w. c.terms w) ws)
  unfolding ground
  forms-terms m [] a g = tt
  forms-terms m (w ∷ ws) a g =
      let q = pick_true (eqb (length (met [] w)) 0) (ground ws) g in
      (record { form = w; legal = a.0; ground = eqb-true _ _ q.0; are = refl }, forms-terms m ws a.1 q.1)

  -- reading them is refused by 4 alone
  abbrev Fours : Forms → Type 0
  Fours (declined r) = r ≡ 4
  Fours (formed ws) = Unit {0}

  all-fours : CodingLaws c → (m : ℕ) (kss : List (List ℕ)) → Every (GroundTerms c m) kss → Fours (all_read c m kss)
  unfolding all_read
  all-fours laws m [] a = tt
  all-fours laws m (ks ∷ kss) a = before-cases Fours (c.answered m ks) (all_read c m kss)
      (λ r e. laws.ground-refused m ks r a.0 e)
      (λ w n r e f. rw f at (all-fours laws m kss a.1))
      (λ w n ws e f. tt)

-- ---- the rule

abbrev Ruled : Forms → Type 0
Ruled (declined r) = JoinKnown r
Ruled (formed ws) = Unit {0}

fours-ruled : (c : Coding) (x : Forms) → Fours c x → Ruled x
fours-ruled c (declined r) e = inl e
fours-ruled c (formed ws) e = tt

within : (r : ℕ) → 14 ≤ r → r ≤ 16 → JoinKnown r
within r h k = inr (inr (inr (h, k)))

module _ (c : Coding) (laws : CodingLaws c) where
  join-ruled : (f g : Side) (ps : List ℕ) (x : State) (m : ℕ) (cs : List ℕ) → Every (λ w. c.legal f.m w ≡ true) f.forms → Every (λ w. c.legal g.m w ≡ true) g.forms
      → Ruled (join_of c f g ps x m cs)
  unfolding join_of named
  join-ruled f g ps Finished m cs a b = inr (inl (omega arith, omega arith))
  join-ruled f g ps Open m cs a b =
      by_cases (is_open f.state) (λ p. rw p (within 14 (omega arith) (omega arith))) (λ p.
      by_cases (is_open g.state) (λ q. rw (p, q) (within 14 (omega arith) (omega arith))) (λ q.
      by_cases (ground f.forms) (λ h. by_cases (ground g.forms) (λ k.
      by_cases (named f.m g.m ps m cs)
      (λ n. rw (p, q, h, k, n)
      (let u = pick_true (leb (length ps) 64) (pick (eqb (length cs) (2 * m)) (pick (pairs_named f.m g.m ps) (copies_named f.m g.m cs) false) false) n in
      let v = pick_true (eqb (length cs) (2 * m)) (pick (pairs_named f.m g.m ps) (copies_named f.m g.m cs) false) u.1 in
      let w = pick_true (pairs_named f.m g.m ps) (copies_named f.m g.m cs) v.1 in
      let us : List Terms = map (λ w. c.terms w) f.forms in
      let vs : List Terms = map (λ w. c.terms w) g.forms in
      fours-ruled c (all_read c m (combined ps cs us vs)) (all-fours c laws m (combined ps cs us vs) (combined-ground c m f.m g.m ps cs w.1 (eqb-true _ _ v.0) us vs (forms-terms c f.m f.forms a h) (forms-terms c g.m g.forms b k)))))
      (λ n. rw (p, q, h, k, n) (within 16 (omega arith) (omega arith))))
      (λ k. rw (p, q, h, k) (within 15 (omega arith) (omega arith)))) (λ h. rw (p, q, h) (within 15 (omega arith) (omega arith)))))

  -- ---- the forms of a sound table

  module _ (t : Table) (sound : Sound c t) where
    every_held : (P : Word → Type 0) (ws vs : List Word) → ((w : Word) → has vs w ≡ true → P w) → ((w : Word) → has ws w ≡ true → has vs w ≡ true) → Every P ws
    every_held P [] vs f i = tt
    every_held P (w ∷ ws) vs f i =
        (f w (i w (unfold has in rw (same_self w))), every_held P ws vs f (λ u e. i u (unfold has in rw e (by_cases (same w u) (λ q. rw q) (λ q. rw q)))))

    answers-legal : (s : ℕ) → Every (λ w. c.legal (subgoal_at t s).m w ≡ true) (answers_to t.answers s)
    answers-legal s = every_held (λ w. c.legal (subgoal_at t s).m w ≡ true) (answers_to t.answers s) (answers_to t.answers s)
        (λ w h. held-answer c laws t sound s w h)
        (λ w h. h)

    abbrev Refuses : Result Table → Type 0
    Refuses x = (r : ℕ) → RefusedBy r x.reply → JoinKnown r

    seven : Refuses (becomes t (refused 7))
    seven r e = subst JoinKnown e (inr (inl (omega arith, omega arith)))

    joining-refuses : (s : ℕ) (x : Forms) → Ruled x → Refuses (joining t s x)
    joining-refuses s (declined n) k = unfold joining in λ r e. subst JoinKnown e k
    joining-refuses s (formed ws) k = joining-cases Refuses t s ws
        (λ full r e. subst JoinKnown e (inr (inr (inl (omega arith, omega arith)))))
        (λ room full r e. subst JoinKnown e (inr (inr (inl (omega arith, omega arith)))))
        (λ room free r e. absurd e)

    join-refuses : (f g s : ℕ) (ps cs : List ℕ) → Refuses (step c t (join f g ps s cs))
    unfolding step
    join-refuses f g s ps cs =
        known-cases Refuses t [] (length t.subgoals) f _ seven (λ fl fh.
        known-cases Refuses t [] (length t.subgoals) g _ seven (λ gl gh.
        known-cases Refuses t [] (length t.subgoals) s _ seven (λ low high.
        joining-refuses s (join_of c (side_of t f) (side_of t g) ps (subgoal_at t s).state (subgoal_at t s).m cs) (join-ruled (side_of t f) (side_of t g) ps (subgoal_at t s).state (subgoal_at t s).m cs (unfold side_of in answers-legal f) (unfold side_of in answers-legal g)))))

pub join-refusing : (c : Coding) → CodingLaws c → JoinRefusing c
join-refusing c laws n f a h qs first second s r ps cs e = join-refuses c laws (reached c n f a qs) (sound-reached c laws n f a h qs) first second s ps cs r e
