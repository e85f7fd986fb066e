-- The next pair of a join that matches: with the answer in hand, or with one of those behind it.
use mathlib.Core.Path.{◌≡◌, refl, sym, ap, ◌∙◌}
use mathlib.Core.List.{List, [], ◌∷◌, ◌++◌, map}
use Prim.Native.Nat.{ℕ, ◌<◌}
use native.Mathlib.Omega.{arith}
use lib.ListN.{length}
use Rattle.forms.specs.Stored.{stored_of}
use Rattle.plain.specs.Words.{Word}
use Rattle.plain.specs.Joins.{Terms, along, combined}
use Rattle.space.specs.Sound.{answer_under}
use Rattle.space.specs.declared.Answer.{Answer}
use Rattle.space.proofs.HeaderLaws.{bounds-nodes}
use Rattle.parts.specs.Parts.{parts, InHand}
use Rattle.pairing.specs.declared.Sides.{Sides}
use Rattle.pairing.specs.declared.Cursor.{Cursor}
use Rattle.pairing.specs.declared.Found.TheVariants as found
use Rattle.pairing.specs.Pairing.{forms_from, form_in, AnswerTakeable, TakesAnswer, Throughout, Compared, Stands, parts_from, to_come, FirstTooLong, Finds, Advances}
use Rattle.pairing.proofs.RemainsLaws.{forms-none, Stop, remains-some}
use Rattle.pairing.proofs.HandLaws.{form_in_lem, hand-said}

combined-nil : (ps ks : List ℕ) (vss : List Terms) → combined ps ks [] vss ≡ []
unfolding combined
combined-nil ps ks vss = refl

combined-cons : (ps ks : List ℕ) (us : Terms) (uss vss : List Terms) → combined ps ks (us ∷ uss) vss ≡ along ps ks us vss ++ combined ps ks uss vss
unfolding combined
combined-cons ps ks us uss vss = refl

abbrev pub cursor : ℕ → ℕ → Cursor
cursor outer inner = record { outer = outer; inner = inner }

-- up to where the join stands now no pair matches
pub record Advancing (cs : List ℕ) (x : Sides) (ps ks : List ℕ) (from : Cursor) (hands0 : List ℕ) (outer inner : ℕ) (hands form : List ℕ) : Type 0 where
  pub stands : Stands cs x (cursor outer inner) hands form
  pub passed : to_come cs x ps ks from hands0 ≡ to_come cs x ps ks (cursor outer inner) hands

module _ (cs : List ℕ) (x : Sides) (ps ks : List ℕ) (k : Throughout cs x ps ks) (from : Cursor) (hands0 : List ℕ) where
  pub advancing-begun : (form : List ℕ) → Stands cs x from hands0 form → Advancing cs x ps ks from hands0 from.outer from.inner hands0 form
  advancing-begun form s = record { stands = record { outer = s.outer; inner = s.inner }; passed = refl }

  module _ (outer inner : ℕ) (hands form : List ℕ) (a : Advancing cs x ps ks from hands0 outer inner hands form) where
    abbrev behind : List Word
    behind = combined ps ks (parts_from cs x.h x.first outer) (parts_from cs x.h x.second x.second.first)

    pub compared : Compared cs x inner hands form
    compared = a.stands.inner

    -- what was found with the answer in hand
    module _ (form' : List ℕ) where
      pub advanced-at : (next n : ℕ) → Finds cs x ps ks inner hands form' (found.At (next, n)) → Advances cs x ps ks from hands0 hands form' (found.At (cursor outer next, n))
      advanced-at next n f = (
        record { outer = a.stands.outer; inner = f.0 },
        (f.1.0, a.passed ∙ ap (λ (ws : List Word). ws ++ behind) f.1.1, f.1.2),
      )

      pub advanced-long : Finds cs x ps ks inner hands form' found.TooLong → FirstTooLong x.h.edition (to_come cs x ps ks from hands0)
      advanced-long f = (f.0, f.1 ++ behind, a.passed ∙ ap (λ (ws : List Word). ws ++ behind) f.2, f.3)

      module _ (f : Finds cs x ps ks inner hands form' found.End) where
        only-behind : to_come cs x ps ks from hands0 ≡ behind
        only-behind = a.passed ∙ ap (λ (ws : List Word). ws ++ behind) f.0

        pub advanced-end : outer ≡ 0 → to_come cs x ps ks from hands0 ≡ []
        advanced-end z =
            only-behind
            ∙ ap (λ (ws : List Word). combined ps ks (map (parts (stored_of x.h.edition)) ws) (parts_from cs x.h x.second x.second.first)) (forms-none cs x.h x.first.number outer z)
            ∙ combined-nil ps ks (parts_from cs x.h x.second x.second.first)

        module _ (z : outer ≡ 0 → ⊥) (y : Answer) (e : y ≡ answer_under cs x.h outer) where
          stop : Stop cs x.h x.first outer y
          stop = remains-some cs x.h x.first outer y k.first a.stands.outer z e

          pub first-takeable : AnswerTakeable cs x.h x.first y.leaf hands form'
          first-takeable = ((bounds-nodes cs x.h k.bounds, stop.leaf-in), (stop.form, stop.path, stop.ground), k.first.few, omega (arith, a.stands.inner.hands-room), f.1)

          -- fewer are still to come
          pub advancing-less : length (forms_from cs x.h x.first.number y.next) < length (forms_from cs x.h x.first.number outer)
          advancing-less = omega (arith, ap length stop.are)

          -- the next answer of the first in hand
          pub advancing-on : (hands' form'' : List ℕ) → TakesAnswer cs x.h x.first y.leaf hands hands' → length form'' ≡ length form' → Advancing cs x ps ks from hands0 y.next x.second.first hands' form''
          advancing-on hands' form'' t s =
              let i : InHand (stored_of x.h.edition) x.first.variables stop.form hands' = t.0 stop.form stop.path in
              let w : form_in x.first.variables hands' ≡ stop.form = form_in_lem (stored_of x.h.edition) x.first.variables stop.form hands' i in
              let all : List Terms = parts_from cs x.h x.second x.second.first in
              let rest : List Word = combined ps ks (parts_from cs x.h x.first y.next) all in
              record {
                stands = record {
                  outer = stop.behind;
                  inner = record { rest = k.all; held = λ l. hand-said (stored_of x.h.edition) x.first.variables stop.form hands' i; hands-room = t.1 ∙ a.stands.inner.hands-room; form-room = s ∙ f.1 };
                };
                passed = only-behind
                    ∙ ap (λ (ws : List Word). combined ps ks (map (parts (stored_of x.h.edition)) ws) (parts_from cs x.h x.second x.second.first)) stop.are
                    ∙ combined-cons ps ks (parts (stored_of x.h.edition) stop.form) (parts_from cs x.h x.first y.next) (parts_from cs x.h x.second x.second.first)
                    ∙ ap (λ (u : Word). along ps ks (parts (stored_of x.h.edition) u) (parts_from cs x.h x.second x.second.first) ++ combined ps ks (parts_from cs x.h x.first y.next) (parts_from cs x.h x.second x.second.first)) (sym w);
              }
