-- The lowest-numbered subgoal whose form begins with a word; and so the reason of why is true.
use mathlib.Core.Path.{◌≡◌, refl, sym, ap, ◌∙◌, subst}
use mathlib.Core.Bool.{Bool, true, false, or-true, true≢false, false≢true}
use mathlib.Core.List.{List, [], ◌∷◌, map}
use Prim.Native.Nat.{ℕ, suc, ◌+◌, ◌≤◌, ◌<◌}
use native.Mathlib.Omega.{arith}
use lib.Dec.{eqb, leb, ltb}
use lib.ListN.{length, take}
use borrow.Author.Tests.{eqb-true, eqb-false, eq-eqb, ne_eqb, leb-true, leb-false, le-leb}
use Rattle.basis.specs.Choice.{pick}
use Rattle.basis.proofs.Cases.{by_cases}
use Rattle.forms.specs.Numbering.{met, renamed, numbered}
use Rattle.forms.specs.Compact.{same}
use Rattle.forms.proofs.RoundTrip.{same_true}
use Rattle.plain.specs.Words.{Word, has, common, most}
use Rattle.plain.specs.Coding.{Coding, Reading, refused, accepted, coding_of, naming}
use Rattle.plain.specs.CodingLaws.{CodingLaws}
use Rattle.plain.specs.Requests.{State, Open, call, Reason, old_as, new_past, old_subgoal, because, refused, new, lent}
use Rattle.plain.specs.Table.{Table, Subgoal, no_subgoal, subgoal_at, called_forms, number, subgoal_of, with_subgoal, called, sharing, newness, reasoned, step}
use Rattle.plain.specs.Reasons.{OldTrue, NewTrue, Reasoned, ReasonLasts}
use Rattle.plain.proofs.WordLaws.{or_right}
use Rattle.plain.proofs.PrefixLaws.{starts, begins, begins-witness}
use Rattle.plain.proofs.LongestShared.{starts-common, begins-most, most-le}
use Rattle.plain.proofs.StoredCoding.{coding-laws}
use Rattle.plain.proofs.NumberLaws.{holds, number-some, number-before, number_same, number-kept, number-snoc, get_or-from-one, subgoal_of-none, subgoal_of-some}
use Rattle.plain.proofs.RecordLaws.{called-held}
use Rattle.plain.proofs.Changes.{appended-cases}
use Rattle.plain.proofs.Soundness.{Sound, sound-reached}
use Rattle.plain.proofs.StoredForms.{held-called, legal-starts}

-- ---- the lowest-numbered subgoal whose form begins with u

abbrev begun : Word → Subgoal → Bool
begun u g = starts u g.form

unfoldable pub lowest : Table → Word → ℕ
lowest t u = number (λ g. starts u g.form) 1 t.subgoals

holds-begun : (gs : List Subgoal) (u : Word) → holds (begun u) gs ≡ begins (called_forms gs) u
unfolding holds begins
holds-begun [] u = refl
holds-begun (g ∷ gs) u = rw (holds-begun gs u)

-- s is that subgoal
pub record Lowest (t : Table) (u : Word) (s : ℕ) : Type 0 where
  pub low : 0 < s
  pub high : s ≤ length t.subgoals
  pub begins-so : starts u (subgoal_at t s).form ≡ true
  pub least : (i : ℕ) → 0 < i → i < s → starts u (subgoal_at t i).form ≡ false

pub lowest-some : (t : Table) (u : Word) → begins (called_forms t.subgoals) u ≡ true → Lowest t u (lowest t u)
unfolding lowest subgoal_at
lowest-some t u e =
    let k : ℕ = number (begun u) 1 t.subgoals in
    let r = number-some (begun u) 1 t.subgoals no_subgoal (holds-begun t.subgoals u ∙ e) in
    let low : 0 < k = omega (arith, r.low) in
    record {
      low = low;
      high = omega (arith, r.high);
      begins-so = ap (λ (g : Subgoal). starts u g.form) (get_or-from-one t.subgoals no_subgoal no_subgoal k low) ∙ r.passes;
      least = λ i h l. ap (λ (g : Subgoal). starts u g.form) (get_or-from-one t.subgoals no_subgoal no_subgoal i h) ∙ number-before (begun u) 1 t.subgoals no_subgoal i h l;
    }

-- a form that begins so is among the forms
pub has-starts : (ws : List Word) (u v : Word) → has ws v ≡ true → starts u v ≡ true → begins ws u ≡ true
unfolding has begins
has-starts [] u v e f = absurd (false≢true e)
has-starts (w ∷ ws) u v e f = by_cases (same w v)
    (λ s. rw (same_true w v s, f))
    (λ s. rw (has-starts ws u v (or_right (same w v) (has ws v) e s) f, or-true (starts u w)))

pub begins-at : (t : Table) (i : ℕ) (u : Word) → 0 < i → i ≤ length t.subgoals → starts u (subgoal_at t i).form ≡ true → begins (called_forms t.subgoals) u ≡ true
begins-at t i u h k e = has-starts (called_forms t.subgoals) u (subgoal_at t i).form (called-held t i h k) e

-- no lower one begins so
pub lowest-least : (t : Table) (i : ℕ) (u : Word) → 0 < i → i ≤ length t.subgoals → starts u (subgoal_at t i).form ≡ true → lowest t u ≤ i
lowest-least t i u h k e = by_cases (leb (lowest t u) i)
    (λ z. leb-true _ _ z)
    (λ z. absurd (true≢false (sym e ∙ (lowest-some t u (begins-at t i u h k e)).least i h (leb-false _ _ z))))

-- the same forms have the same lowest
number-begun : (u : Word) (n : ℕ) (gs : List Subgoal) → number (begun u) n gs ≡ number (starts u) n (called_forms gs)
unfolding number
number-begun u n [] = refl
number-begun u n (g ∷ gs) = ap (λ (k : ℕ). pick (starts u g.form) n k) (number-begun u (suc n) gs)

pub lowest-forms : (t u : Table) → called_forms t.subgoals ≡ called_forms u.subgoals → (w : Word) → lowest t w ≡ lowest u w
unfolding lowest
lowest-forms t u e w = number-begun w 1 t.subgoals ∙ ap (number (starts w) 1) e ∙ sym (number-begun w 1 u.subgoals)

-- a subgoal more: the lowest stays, and is the new one where there was none
pub lowest-old : (t : Table) (w : Word) (m : ℕ) (u : Word) → begins (called_forms t.subgoals) u ≡ true → lowest (with_subgoal t w m) u ≡ lowest t u
unfolding lowest
lowest-old t w m u e = number-kept (begun u) 1 t.subgoals _ (holds-begun t.subgoals u ∙ e)

pub lowest-new : (t : Table) (w : Word) (m : ℕ) (u : Word) → begins (called_forms t.subgoals) u ≡ false → starts u w ≡ true → lowest (with_subgoal t w m) u ≡ suc (length t.subgoals)
unfolding lowest
lowest-new t w m u e s =
    number-snoc (begun u) 1 t.subgoals (record { form = w; m = m; state = Open }) (λ z. holds-begun t.subgoals u ∙ e) (omega arith) ∙ rw s (one (length t.subgoals))
  where
    one : (n : ℕ) → 1 + n ≡ suc n
    one n = omega arith

-- those that share k tokens with w are those that begin with its first k
pub sharing-lowest : (t : Table) (w : Word) (k : ℕ) → k ≤ length w → sharing t w k ≡ lowest t (take k w)
unfolding sharing lowest
sharing-lowest t w k h = number_same (λ g. leb k (common g.form w)) (λ g. starts (take k w) g.form) 1 t.subgoals (λ g. sym (starts-common g.form w k h))

-- ---- new

take_all : (w : Word) → take (length w) w ≡ w
take_all [] = refl
take_all (x ∷ w) = ap (λ (y : Word). x ∷ y) (take_all w)

-- no word of the list shares more than the most
most-all : (ws : List Word) (v w : Word) → has ws v ≡ true → common v w ≤ most ws w
unfolding has most
most-all [] v w e = absurd (false≢true e)
most-all (x ∷ ws) v w e = by_cases (same x v)
    (λ s. let z : x ≡ v = same_true x v s in rw z (omega arith))
    (λ s. let z = most-all ws v w (or_right (same x v) (has ws v) e s) in omega (arith, z))

module _ (t : Table) (w : Word) where
  abbrev most-shared : ℕ
  most-shared = most (called_forms t.subgoals) w

  abbrev first-sharing : ℕ
  first-sharing = pick (eqb most-shared 0) 0 (sharing t w most-shared)

  all : (i : ℕ) → 0 < i → i ≤ length t.subgoals → common (subgoal_at t i).form w ≤ most-shared
  all i h l = most-all (called_forms t.subgoals) (subgoal_at t i).form w (called-held t i h l)

  short-of : most-shared ≤ length w
  short-of = most-le (called_forms t.subgoals) w

  some-begins : 0 < most-shared → begins (called_forms t.subgoals) (take most-shared w) ≡ true
  some-begins h = begins-most (called_forms t.subgoals) w most-shared h short-of ∙ le-leb most-shared most-shared (omega arith)

  shared-so : 0 < most-shared → Lowest t (take most-shared w) first-sharing
  shared-so h = rw (ne_eqb most-shared 0 (λ z. omega arith), sharing-lowest t w most-shared short-of) (lowest-some t (take most-shared w) (some-begins h))

  shares-k : (i : ℕ) → starts (take most-shared w) (subgoal_at t i).form ≡ true → most-shared ≤ common (subgoal_at t i).form w
  shares-k i e = leb-true most-shared _ (sym (starts-common (subgoal_at t i).form w most-shared short-of) ∙ e)

  shares_less : (i : ℕ) → starts (take most-shared w) (subgoal_at t i).form ≡ false → common (subgoal_at t i).form w < most-shared
  shares_less i e = leb-false most-shared _ (sym (starts-common (subgoal_at t i).form w most-shared short-of) ∙ e)

  none_so : most-shared ≡ 0 → first-sharing ≡ 0
  none_so e = rw (eq-eqb most-shared 0 e)

  zero-none : eqb most-shared 0 ≡ true → first-sharing ≡ 0
  zero-none e = none_so (eqb-true most-shared 0 e)

  pos : (n : ℕ) → (n ≡ 0 → ⊥) → 0 < n
  pos n h = omega arith

  pub new_true : (c : Coding) → most-shared < length w → NewTrue c t w most-shared first-sharing
  new_true c h = record {
    no-more = all;
    short = h;
    none = none_so;
    low = λ p. (shared-so p).low;
    high = by_cases (eqb most-shared 0) (λ e. rw (zero-none e) (omega arith)) (λ e. (shared-so (pos most-shared (eqb-false most-shared 0 e))).high);
    shares = λ p. let x = shares-k first-sharing (shared-so p).begins-so in let y = all first-sharing (shared-so p).low (shared-so p).high in omega arith;
    lowest = λ i p l. by_cases (eqb most-shared 0)
        (λ e. let z = zero-none e in absurd (omega (arith, z)))
        (λ e. shares_less i ((shared-so (pos most-shared (eqb-false most-shared 0 e))).least i p l));
  }

-- a form that the table lacks is not shared whole: no form begins another
pub lacking-short : (c : Coding) (laws : CodingLaws c) (t : Table) → Sound c t → (cs : List ℕ) (w : Word) (m : ℕ) → c.called cs ≡ accepted w m
    → has (called_forms t.subgoals) w ≡ false → most (called_forms t.subgoals) w < length w
lacking-short c laws t sound cs w m e absent = by_cases (leb (length w) (most (called_forms t.subgoals) w))
    (λ z. let l : length w ≤ most (called_forms t.subgoals) w = leb-true _ _ z in absurd (whole l))
    (λ z. leb-false _ _ z)
  where
    ws : List Word
    ws = called_forms t.subgoals

    whole : length w ≤ most (called_forms t.subgoals) w → ⊥
    whole l =
        let some : 0 < length w = laws.legal-some 0 w (laws.called-legal cs w m e) in
        let b : begins ws w ≡ true = subst (λ (x : Word). begins ws x ≡ true) (take_all w) (begins-most ws w (length w) some (omega arith) ∙ le-leb _ _ l) in
        let p = begins-witness ws w b in
        let z : w ≡ p.0 = legal-starts c laws 1 w p.0 (laws.called-legal cs w m e) (held-called c laws t sound p.0 p.1) p.2 in
        true≢false (sym p.1 ∙ ap (has ws) (sym z) ∙ absent)

-- ---- the reason

module _ (c : Coding) (laws : CodingLaws c) (t : Table) (sound : Sound c t) (cs : List ℕ) where
  abbrev Old : Reading → Type 0
  Old x = (s : ℕ) (vs : List ℕ) → reasoned t cs x ≡ because (old_as s vs) → OldTrue c t cs s vs

  abbrev New : Reading → Type 0
  New x = (k s : ℕ) → reasoned t cs x ≡ because (new_past k s)
      → (w : Word) × (m : ℕ) × (c.called cs ≡ accepted w m) × NewTrue c t w k s × ((i : ℕ) (y : State) → (step c t (call cs)).reply ≡ old_subgoal i y → ⊥)

  module _ (w : Word) (m : ℕ) (e : c.called cs ≡ accepted w m) where
    says-old : has (called_forms t.subgoals) w ≡ true → reasoned t cs (accepted w m) ≡ because (old_as (subgoal_of t w) (met [] cs))
    unfolding reasoned
    says-old h = let p = subgoal_of-some t w h in rw (ne_eqb (subgoal_of t w) 0 (λ z. omega (arith, p.low)))

    says-new : has (called_forms t.subgoals) w ≡ false
        → reasoned t cs (accepted w m) ≡ because (new_past (most (called_forms t.subgoals) w) (pick (eqb (most (called_forms t.subgoals) w) 0) 0 (sharing t w (most (called_forms t.subgoals) w))))
    unfolding reasoned newness
    says-new h = rw (subgoal_of-none t w h)

    call-old : has (called_forms t.subgoals) w ≡ true → (step c t (call cs)).reply ≡ old_subgoal (subgoal_of t w) (subgoal_at t (subgoal_of t w)).state
    unfolding step called naming
    call-old h = let p = subgoal_of-some t w h in rw (e, ne_eqb (subgoal_of t w) 0 (λ z. omega (arith, p.low)))

    call-new : has (called_forms t.subgoals) w ≡ false → (i : ℕ) (y : State) → (step c t (call cs)).reply ≡ old_subgoal i y → ⊥
    unfolding step called naming
    call-new h i y = rw (e, subgoal_of-none t w h) (appended-cases (λ r. r.reply ≡ old_subgoal i y → ⊥) t (with_subgoal t w m) (ltb (length t.subgoals) t.F) (suc (length t.subgoals))
        (λ full z. refused-not z) (λ room full z. refused-not z) (λ room free z. new-not z))
      where
        refused-not : {r : ℕ} → refused r ≡ old_subgoal i y → ⊥
        refused-not z = let q : ◌≡◌ {A = ℕ} 0 1 = cc in omega arith

        new-not : {r : ℕ} → new r ≡ old_subgoal i y → ⊥
        new-not z = let q : ◌≡◌ {A = ℕ} 0 1 = cc in omega arith

    offers : map (renamed (met [] cs)) cs ≡ numbered cs
    unfolding numbered
    offers = refl

    old-so : Old (accepted w m)
    old-so s vs q = by_cases (has (called_forms t.subgoals) w)
        (λ h. let p = subgoal_of-some t w h in
        let n = old-number (sym (says-old h) ∙ q) in
        let o = old-variables (sym (says-old h) ∙ q) in
        rw (← n, ← o) (record {
          low = p.low;
          high = p.high;
          renames = offers ∙ sym (laws.called-expands cs w m e) ∙ ap c.expand (sym p.form);
          offered = refl;
          called = call-old h;
        }))
        (λ h. absurd (not_new (sym (says-new h) ∙ q)))
      where
        old-number : {i j : ℕ} {us ws : List ℕ} → because (old_as i us) ≡ because (old_as j ws) → i ≡ j
        old-number z = cc

        old-variables : {i j : ℕ} {us ws : List ℕ} → because (old_as i us) ≡ because (old_as j ws) → us ≡ ws
        old-variables z = cc

        not_new : {i j l : ℕ} {us : List ℕ} → because (new_past i j) ≡ because (old_as l us) → ⊥
        not_new z = let y : ◌≡◌ {A = ℕ} 0 1 = cc in omega arith

    new-so : New (accepted w m)
    new-so k s q = by_cases (has (called_forms t.subgoals) w)
        (λ h. absurd (not-old (sym (says-old h) ∙ q)))
        (λ h. let i = new-shared (sym (says-new h) ∙ q) in
        let j = new-subgoal (sym (says-new h) ∙ q) in
        (w, m, e, subst (λ (y : ℕ). NewTrue c t w k y) j (subst (λ (x : ℕ). NewTrue c t w x (first-sharing t w)) i (new_true t w c (lacking-short c laws t sound cs w m e h))), call-new h))
      where
        new-shared : {i j k l : ℕ} → because (new_past i j) ≡ because (new_past k l) → i ≡ k
        new-shared z = cc

        new-subgoal : {i j k l : ℕ} → because (new_past i j) ≡ because (new_past k l) → j ≡ l
        new-subgoal z = cc

        not-old : {i j l : ℕ} {us : List ℕ} → because (old_as l us) ≡ because (new_past i j) → ⊥
        not-old z = let y : ◌≡◌ {A = ℕ} 0 1 = cc in omega arith

  never : (r : ℕ) (y : Reason) → reasoned t cs (refused r) ≡ because y → ⊥
  unfolding reasoned
  never r y z = let q : ◌≡◌ {A = ℕ} 0 1 = cc in omega arith

  reason-so : (x : Reading) → c.called cs ≡ x → Old x × New x
  reason-so (refused r) e = (λ s vs q. absurd (never r (old_as s vs) q), λ k s q. absurd (never r (new_past k s) q))
  reason-so (accepted w m) e = (old-so w m e, new-so w m e)

pub reasoned-true : (c : Coding) → CodingLaws c → Reasoned c
unfolding step
reasoned-true c laws n f a h qs cs = reason-so c laws _ (sound-reached c laws n f a h qs) cs (c.called cs) refl

pub reason-lasts : (c : Coding) → ReasonLasts c
unfolding step lent
reason-lasts c t cs = (refl, refl)

-- of every edition
pub edition-reasoned : (e : ℕ) → Reasoned (coding_of e)
edition-reasoned e = reasoned-true (coding_of e) (coding-laws e)
