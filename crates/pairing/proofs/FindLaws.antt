-- The search for an answer of the second that matches the answer in hand: what the forms that are still to come are,
-- answer by answer.
use mathlib.Core.Path.{◌≡◌, refl, sym, ap, ◌∙◌, subst}
use mathlib.Core.Bool.{Bool, true, false}
use mathlib.Core.List.{List, [], ◌∷◌, map}
use Prim.Native.Nat.{ℕ, ◌≤◌, ◌<◌}
use native.Mathlib.Omega.{arith}
use lib.ListN.{length, take, length-take}
use Rattle.std.specs.Prelude.{None, Option, Some}
use Rattle.basis.specs.Choice.{pick}
use Rattle.forms.specs.Stored.{StoredForm, stored_of}
use Rattle.plain.specs.Words.{Word}
use Rattle.plain.specs.Joins.{Terms, matching, copied, along}
use Rattle.space.specs.Sound.{answer_under}
use Rattle.space.specs.declared.Answer.{Answer}
use Rattle.parts.specs.Parts.{parts, InHand}
use Rattle.parts.specs.Hands.{Comparable, Compares, Copyable, Copies, Holds}
use Rattle.pairing.specs.declared.Sides.{Sides}
use Rattle.pairing.specs.declared.Found.TheVariants as found
use Rattle.pairing.specs.Pairing.{forms_from, Remains, hand, most_tokens, form_in, AnswerTakeable, TakesAnswer, Throughout, Compared, parts_from, along_hand, Finds}
use Rattle.pairing.proofs.RemainsLaws.{forms-none, Stop, remains-some}
use Rattle.space.proofs.HeaderLaws.{bounds-nodes}

-- ---- one answer of the second

along-cons : (ps ks : List ℕ) (us vs : Terms) (rest : List Terms) → along ps ks us (vs ∷ rest) ≡ pick (matching ps us vs) (copied ks us vs ∷ along ps ks us rest) (along ps ks us rest)
unfolding along
along-cons ps ks us vs rest = refl

along-nil : (ps ks : List ℕ) (us : Terms) → along ps ks us [] ≡ []
unfolding along
along-nil ps ks us = refl

module _ (cs : List ℕ) (x : Sides) (ps ks : List ℕ) where
  abbrev stored : StoredForm
  stored = stored_of x.h.edition

  abbrev m : ℕ
  m = x.first.variables

  pub along-end : (b : ℕ) (hands : List ℕ) → b ≡ 0 → along_hand cs x ps ks b hands ≡ []
  along-end b hands z =
      ap (λ (ws : List Word). along ps ks (parts (stored_of x.h.edition) (form_in x.first.variables hands)) (map (parts (stored_of x.h.edition)) ws)) (forms-none cs x.h x.second.number b z)
      ∙ along-nil ps ks (parts (stored_of x.h.edition) (form_in x.first.variables hands))

  along-step : (b : ℕ) (hands : List ℕ) (y : Answer) (s : Stop cs x.h x.second b y) →
      (let us = parts (stored_of x.h.edition) (form_in x.first.variables hands) in
      let vs = parts (stored_of x.h.edition) s.form in
      along_hand cs x ps ks b hands ≡ pick (matching ps us vs) (copied ks us vs ∷ along_hand cs x ps ks y.next hands) (along_hand cs x ps ks y.next hands))
  along-step b hands y s =
      ap (λ (ws : List Word). along ps ks (parts (stored_of x.h.edition) (form_in x.first.variables hands)) (map (parts (stored_of x.h.edition)) ws)) s.are
      ∙ along-cons ps ks (parts (stored_of x.h.edition) (form_in x.first.variables hands)) (parts (stored_of x.h.edition) s.form) (parts_from cs x.h x.second y.next)

-- ---- the loop

-- from `from` on up to b no answer matches the one in hand
pub record Finding (cs : List ℕ) (x : Sides) (ps ks : List ℕ) (from : ℕ) (hands : List ℕ) (b : ℕ) (form : List ℕ) : Type 0 where
  pub rest : Remains cs x.h x.second b
  pub began : 0 < b → 0 < from
  pub passed : along_hand cs x ps ks from hands ≡ along_hand cs x ps ks b hands
  pub form-room : length form ≡ most_tokens

module _ (cs : List ℕ) (x : Sides) (ps ks : List ℕ) (k : Throughout cs x ps ks) (from : ℕ) (hands form0 : List ℕ) (o : Compared cs x from hands form0) where
  pub finding-begun : Finding cs x ps ks from hands from form0
  finding-begun = record { rest = o.rest; began = λ l. l; passed = refl; form-room = o.form-room }

  pub finding-end : (b : ℕ) (form : List ℕ) → Finding cs x ps ks from hands b form → b ≡ 0 → Finds cs x ps ks from hands form found.End
  finding-end b form f z = (f.passed ∙ along-end cs x ps ks b hands z, f.form-room)

  module _ (b : ℕ) (form : List ℕ) (f : Finding cs x ps ks from hands b form) (z : b ≡ 0 → ⊥) (y : Answer) (e : y ≡ answer_under cs x.h b) where
    stop : Stop cs x.h x.second b y
    stop = remains-some cs x.h x.second b y k.second f.rest z e

    pub second-takeable : (second : List ℕ) → length second ≡ hand → AnswerTakeable cs x.h x.second y.leaf second form
    second-takeable second l = ((bounds-nodes cs x.h k.bounds, stop.leaf-in), (stop.form, stop.path, stop.ground), k.second.few, omega arith, f.form-room)

    -- fewer are still to come
    pub finding-less : length (forms_from cs x.h x.second.number y.next) < length (forms_from cs x.h x.second.number b)
    finding-less = omega (arith, ap length stop.are)

    -- after the second's answer is in hand too, and its path in the cells of the form
    module _ (second second' used : List ℕ) (t : TakesAnswer cs x.h x.second y.leaf second second') (s : length used ≡ length form) where
      low : 0 < from
      low = f.began (omega arith)

      first-held : InHand (stored_of x.h.edition) x.first.variables (form_in x.first.variables hands) hands
      first-held = o.held low

      second-held : InHand (stored_of x.h.edition) x.second.variables stop.form second'
      second-held = t.0 stop.form stop.path

      pub comparable : Comparable ps hands second'
      comparable = record {
        stored = stored_of x.h.edition;
        m = x.first.variables;
        n = x.second.variables;
        u = form_in x.first.variables hands;
        v = stop.form;
        first = first-held;
        second = second-held;
        named = k.paired;
      }

      abbrev us : Terms
      us = parts (stored_of x.h.edition) (form_in x.first.variables hands)

      abbrev vs : Terms
      vs = parts (stored_of x.h.edition) stop.form

      matched : (r : Bool) → Compares ps hands second' r → r ≡ matching ps us vs
      matched r c = c (stored_of x.h.edition) x.first.variables x.second.variables (form_in x.first.variables hands) stop.form first-held second-held k.paired

      step : (r : Bool) → Compares ps hands second' r → (t : Bool) → r ≡ t
          → along_hand cs x ps ks from hands ≡ pick t (copied ks us vs ∷ along_hand cs x ps ks y.next hands) (along_hand cs x ps ks y.next hands)
      step r c t q = f.passed ∙ along-step cs x ps ks b hands y stop
          ∙ ap (λ (t : Bool). pick t (copied ks us vs ∷ along_hand cs x ps ks y.next hands) (along_hand cs x ps ks y.next hands)) (sym (matched r c) ∙ q)

      -- the answer does not match
      pub finding-on : (r : Bool) → Compares ps hands second' r → r ≡ false → Finding cs x ps ks from hands y.next used
      finding-on r c q = record { rest = stop.behind; began = λ l. low; passed = step r c false q; form-room = s ∙ f.form-room }

      -- it does
      module _ (r : Bool) (c : Compares ps hands second' r) (q : r ≡ true) where
        pub copyable : Copyable x.h.edition ks hands second' used
        copyable = record {
          m = x.first.variables;
          n = x.second.variables;
          u = form_in x.first.variables hands;
          v = stop.form;
          first = first-held;
          second = second-held;
          named = k.copied;
          room = omega (arith, s, f.form-room);
        }

        module _ (form' : List ℕ) (w : Option ℕ) (p : Copies x.h.edition ks hands second' used form' w) where
          put : Holds (stored_of x.h.edition) (copied ks us vs) form' w
          put = p.holds x.first.variables x.second.variables (form_in x.first.variables hands) stop.form first-held second-held k.copied

          pub finding-long : w ≡ None → Finds cs x ps ks from hands form' found.TooLong
          finding-long e = (copied ks us vs, along_hand cs x ps ks y.next hands, step r c true q, subst (Holds (stored_of x.h.edition) (copied ks us vs) form') e put)

          pub finding-at : (n : ℕ) → w ≡ Some n → Finds cs x ps ks from hands form' (found.At (y.next, n))
          finding-at n e =
              let h : Holds (stored_of x.h.edition) (copied ks us vs) form' (Some n) = subst (Holds (stored_of x.h.edition) (copied ks us vs) form') e put in
              let l : length (take n form') ≡ n = ap length h.1 ∙ sym h.0 in (
                record { rest = stop.behind; held = λ b. first-held; hands-room = o.hands-room; form-room = p.size ∙ s ∙ f.form-room },
                (
                  omega (arith, l, length-take n form'),
                  step r c true q ∙ ap (λ (u : Word). u ∷ along_hand cs x ps ks y.next hands) (sym h.1),
                  subst (λ (u : Word). length ((stored_of x.h.edition).cells u) ≤ 256) (sym h.1) h.2,
                ),
              )
