-- A form taken in hand token by token: its tokens copied, and the places noted at which terms begin.
use Prim.Native.Nat.{ℕ, zero, suc, ◌+◌, ◌*◌, ◌-◌, ◌≤◌, ◌<◌}
use mathlib.Core.Bool.{true, false}
use mathlib.Core.List.{List, [], ◌∷◌, ◌++◌}
use mathlib.Core.Path.{◌≡◌, refl, sym, ap, ◌∙◌, subst}
use native.Mathlib.Omega.{arith}
use native.Mathlib.Numerals.{add-one}
use lib.Dec.{ltb}
use lib.ListN.{length, take, drop, get_or, set, length-set, length-drop, drop_of_length-le}
use lib.Seq.{drop-cons, take-length, drop-set-lt, drop-set-add, take-suc, take-suc-set, get_or-set_same, get_or-set_other}
use borrow.Author.Tests.{ltb-true, ltb-false, eq-eqb, ne_eqb}
use Rattle.basis.specs.Choice.{pick}
use Rattle.basis.proofs.Cases.{by_cases}
use Rattle.forms.specs.Cells.{BLIST, arity_of}
use Rattle.forms.specs.Stored.{stored_of}
use Rattle.forms.specs.Due.{due_after}
use Rattle.plain.proofs.StoredCoding.{coding-laws}
use Rattle.parts.specs.Parts.{start_of, GroundForm}
use Rattle.parts.specs.Segments.{closing, takes}
use Rattle.parts.specs.Hands.{Takeable, Taken}
use Rattle.parts.proofs.Scanning.{is_none, less, depth_after, Sound, due_after_token, begins, begins-here}
use Rattle.parts.proofs.Rules.{rule_of}
use Rattle.parts.proofs.Passing.{begins-count, begins-at, form-sound, start-last}

less-sub : (n : ℕ) → less n ≡ n - 1
less-sub zero = refl
less-sub (suc n) = omega arith

-- ---- a token

module _ (arity : ℕ → ℕ) (c due depth : ℕ) where
  begins-step : (cs : List ℕ) (at : ℕ) → 0 < due → begins arity (c ∷ cs) at due depth ≡ begins arity cs (suc at) (due_after_token arity c due depth) (depth_after c depth)
  begins-step cs at h = go due h
    where
      go : (d : ℕ) → 0 < d → begins arity (c ∷ cs) at d depth ≡ begins arity cs (suc at) (due_after_token arity c d depth) (depth_after c depth)
      go zero h = absurd (omega arith)
      go (suc d) h = unfold begins in refl

  -- the token's effect on both counts
  pub record Counts (due' depth' : ℕ) : Type 0 where
    pub dues : due' ≡ due_after_token arity c due depth
    pub depths : depth' ≡ depth_after c depth

  pub opens : c ≡ BLIST → Counts due (depth + 1)
  unfolding due_after_token depth_after
  opens e = record { dues = rw (eq-eqb c BLIST e); depths = rw (eq-eqb c BLIST e) (add-one depth) }

  module _ (n : c ≡ BLIST → ⊥) where
    pub shuts : closing c ≡ true → Counts due (depth - 1)
    unfolding due_after_token depth_after
    shuts s = record { dues = rw (ne_eqb c BLIST n, s); depths = rw (ne_eqb c BLIST n, s) (sym (less-sub depth)) }

    pub passes : closing c ≡ false → 0 < depth → Counts due depth
    unfolding due_after_token depth_after
    passes s h = record { dues = rw (ne_eqb c BLIST n, s) (inner depth h); depths = rw (ne_eqb c BLIST n, s) }
      where
        inner : (d : ℕ) → 0 < d → due ≡ pick (is_none d) (due_after due (takes arity c)) due
        inner zero h = absurd (omega arith)
        inner (suc d) h = refl

    pub counts : closing c ≡ false → depth ≤ 0 → (k due' : ℕ) → k ≡ takes arity c → due' ≡ due_after due k → Counts due' depth
    unfolding due_after_token depth_after
    counts s h k due' e d = record { dues = rw (ne_eqb c BLIST n, s) (d ∙ inner depth h); depths = rw (ne_eqb c BLIST n, s) }
      where
        inner : (d : ℕ) → d ≤ 0 → due_after due k ≡ pick (is_none d) (due_after due (takes arity c)) due
        inner zero h = rw e
        inner (suc d) h = absurd (omega arith)

-- ---- the form

pub record Taking (e m : ℕ) (form held₀ held : List ℕ) (at begun due depth : ℕ) : Type 0 where
  pub low : at ≤ length form
  pub short : length form ≤ 383
  pub few : m < 33
  pub room : 33 + length form ≤ length held
  pub size : length held ≡ length held₀
  pub count : length (begins (arity_of e) form 0 0 0) ≡ m
  pub noted : begun ≤ m
  pub small : due ≤ 1 + 255 * at
  pub shallow : depth ≤ at
  pub tokens : take at (drop 33 held) ≡ take at form
  pub places : (i : ℕ) → i < begun → get_or held i 0 ≡ 33 + get_or (begins (arity_of e) form 0 0 0) i 0
  pub rest : begins (arity_of e) (drop at form) at due depth ≡ drop begun (begins (arity_of e) form 0 0 0)
  pub sound : Sound (drop at form) depth

pub taking-none : (e m : ℕ) (form held : List ℕ) → Takeable e m form held → Taking e m form held held 0 0 0 0
taking-none e m form held t = record {
  low = omega arith;
  short = (coding-laws e).legal-short m form t.ground.legal;
  few = t.few;
  room = t.room;
  size = refl;
  count = begins-count (rule_of e) m form t.ground;
  noted = omega arith;
  small = omega arith;
  shallow = omega arith;
  tokens = refl;
  places = λ i h. absurd (omega arith);
  rest = refl;
  sound = form-sound (rule_of e) m form t.ground;
}

module _ (e m : ℕ) (form held₀ held : List ℕ) (at begun due depth : ℕ) (t : Taking e m form held₀ held at begun due depth) where
  abbrev all : List ℕ
  all = begins (arity_of e) form 0 0 0

  -- a term begins here
  module _ (h : at < length form) (none : due ≡ 0) where
    here : at ∷ begins (arity_of e) (drop at form) at 1 depth ≡ drop begun all
    here =
        sym (begins-here (arity_of e) (drop at form) at depth (omega (arith, length-drop at form)))
        ∙ ap (λ (d : ℕ). begins (arity_of e) (drop at form) at d depth) (sym none) ∙ t.rest

    pub place-free : begun < m
    place-free = by_cases (ltb begun m) (ltb-true begun m)
        (λ p. absurd (omega (arith, length-drop begun all, ap length here, t.count, ltb-false begun m p)))

    both : (get_or all begun 0 ≡ at) × (begins (arity_of e) (drop at form) at 1 depth ≡ drop (suc begun) all)
    both =
        let d : at ∷ begins (arity_of e) (drop at form) at 1 depth ≡ get_or all begun 0 ∷ drop (suc begun) all = here ∙ drop-cons all begun 0 (omega (arith, place-free, t.count)) in
        (cc, cc)

    placed : (i : ℕ) → i < begun + 1 → get_or (set held begun (33 + at)) i 0 ≡ 33 + get_or all i 0
    placed i k = by_cases (ltb i begun)
        (λ p. get_or-set_other held begun i (33 + at) 0 (λ z. omega (arith, ltb-true i begun p)) ∙ t.places i (ltb-true i begun p))
        (λ p. let z : i ≡ begun = omega (arith, ltb-false i begun p) in
        ap (λ (j : ℕ). get_or (set held begun (33 + at)) j 0) z ∙ get_or-set_same held begun (33 + at) 0 (omega (arith, place-free, t.few, t.room))
        ∙ ap (λ (j : ℕ). 33 + j) (sym both.0) ∙ ap (λ (j : ℕ). 33 + get_or all j 0) (sym z))

    pub taking-place : Taking e m form held₀ (set held begun (33 + at)) at (begun + 1) 1 depth
    taking-place = record {
      low = t.low;
      short = t.short;
      few = t.few;
      room = omega (arith, t.room, length-set held begun (33 + at));
      size = length-set held begun (33 + at) ∙ t.size;
      count = t.count;
      noted = omega (arith, place-free);
      small = omega arith;
      shallow = t.shallow;
      tokens = ap (take at) (drop-set-lt 33 held begun (33 + at) (omega (arith, place-free, t.few))) ∙ t.tokens;
      places = placed;
      rest = both.1 ∙ ap (λ (j : ℕ). drop j all) (sym (add-one begun));
      sound = t.sound;
    }

  -- a token is passed
  module _ (h : at < length form) where
    abbrev c : ℕ
    c = get_or form at 0

    whole : Sound (c ∷ drop (suc at) form) depth
    whole = subst (λ (l : List ℕ). Sound l depth) (drop-cons form at 0 h) t.sound

    pub taking-open : closing c ≡ true → 0 < depth
    unfolding Sound
    taking-open s = whole.0 s

    pub taking-token : (due' depth' : ℕ) → 0 < due → Counts (arity_of e) c due depth due' depth' → due' ≤ 255 + due → depth' ≤ depth + 1
        → Taking e m form held₀ (set held (33 + at) c) (at + 1) begun due' depth'
    unfolding Sound
    taking-token due' depth' some n k l = record {
      low = omega arith;
      short = t.short;
      few = t.few;
      room = omega (arith, t.room, length-set held (33 + at) c);
      size = length-set held (33 + at) c ∙ t.size;
      count = t.count;
      noted = t.noted;
      small = omega (arith, t.small);
      shallow = omega (arith, t.shallow);
      tokens =
          ap (take (at + 1)) (drop-set-add 33 held at c)
          ∙ ap (λ (j : ℕ). take j (set (drop 33 held) at c)) (add-one at)
          ∙ take-suc-set (drop 33 held) at c (omega (arith, length-drop 33 held, t.room))
          ∙ ap (λ (l' : List ℕ). l' ++ (c ∷ [])) t.tokens
          ∙ sym (take-suc form at 0 h) ∙ ap (λ (j : ℕ). take j form) (sym (add-one at));
      places = λ i g. get_or-set_other held (33 + at) i c 0 (λ z. omega (arith, t.noted, t.few)) ∙ t.places i g;
      rest =
          ap (λ (j : ℕ). begins (arity_of e) (drop j form) j due' depth') (add-one at)
          ∙ ap (λ (d : ℕ). begins (arity_of e) (drop (suc at) form) (suc at) d depth') n.dues
          ∙ ap (λ (d : ℕ). begins (arity_of e) (drop (suc at) form) (suc at) (due_after_token (arity_of e) c due depth) d) n.depths
          ∙ sym (begins-step (arity_of e) c due depth (drop (suc at) form) at some)
          ∙ ap (λ (l' : List ℕ). begins (arity_of e) l' at due depth) (sym (drop-cons form at 0 h)) ∙ t.rest;
      sound = subst (λ (j : ℕ). Sound (drop j form) depth') (sym (add-one at)) (subst (λ (d : ℕ). Sound (drop (suc at) form) d) (sym n.depths) whole.1);
    }

  -- the end
  module _ (g : GroundForm (stored_of e) m form) (h : length form ≤ at) where
    all_noted : begun ≡ m
    unfolding begins
    all_noted =
        let z : begins (arity_of e) [] at due depth ≡ drop begun all = ap (λ (l : List ℕ). begins (arity_of e) l at due depth) (sym (drop_of_length-le form h)) ∙ t.rest in
        omega (arith, ap length z, length-drop begun all, t.count, t.noted)

    at-end : at ≡ length form
    at-end = omega (arith, t.low)

    found : (i : ℕ) → i ≤ m → get_or (set held m (33 + at)) i 0 ≡ 33 + start_of (stored_of e) form i
    found i k = by_cases (ltb i m)
        (λ p. get_or-set_other held m i (33 + at) 0 (λ z. omega (arith, ltb-true i m p)) ∙ t.places i (omega (arith, ltb-true i m p, all_noted))
        ∙ ap (λ (j : ℕ). 33 + j) (begins-at (rule_of e) m form g i (ltb-true i m p)))
        (λ p. let z : i ≡ m = omega (arith, ltb-false i m p) in
        ap (λ (j : ℕ). get_or (set held m (33 + at)) j 0) z ∙ get_or-set_same held m (33 + at) 0 (omega (arith, t.noted, t.few, t.room))
        ∙ ap (λ (j : ℕ). 33 + j) (at-end ∙ sym (start-last (rule_of e) m form g) ∙ ap (start_of (stored_of e) form) (sym z)))

    pub taking-end : Taken e m form held₀ (set held m (33 + at))
    taking-end = record {
      hand = record {
        form = g;
        few = t.few;
        room = omega (arith, t.room, length-set held m (33 + at));
        tokens = ap (take (length form)) (drop-set-lt 33 held m (33 + at) (omega (arith, t.noted, t.few)))
            ∙ ap (λ (j : ℕ). take j (drop 33 held)) (sym at-end) ∙ t.tokens ∙ ap (λ (j : ℕ). take j form) at-end ∙ take-length form;
        starts = found;
      };
      size = length-set held m (33 + at) ∙ t.size;
    }
