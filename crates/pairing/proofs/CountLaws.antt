-- The passes over all forms of a join that count: what is summed up so far, and what is still to come.
use mathlib.Core.Path.{◌≡◌, refl, sym, ap, ◌∙◌, subst}
use mathlib.Core.Bool.{Bool, true, false, ◌&&◌, true≢false}
use mathlib.Core.List.{List, [], ◌∷◌, ◌++◌, map}
use Prim.Native.Nat.{ℕ, suc, ◌+◌, ◌*◌, ◌^◌, ◌≤◌, ◌<◌}
use native.Mathlib.Omega.{arith}
use lib.ListN.{length, take}
use lib.Seq.{length-take-le}
use borrow.Author.Tests.{le-leb, lt-leb}
use Rattle.std.specs.Prelude.{None, Some}
use Rattle.basis.specs.Choice.{pick}
use Rattle.forms.specs.Stored.{StoredForm, stored_of}
use Rattle.plain.specs.Words.{Word}
use Rattle.plain.specs.Coding.{coding_of}
use Rattle.space.specs.Sound.{Bounds, subgoal_under}
use Rattle.space.specs.declared.Head.{Head}
use Rattle.trie.specs.Siblings.{Trie}
use Rattle.trie.specs.Walks.{Walk, whole, stopped, damaged, Finding, walk_by}
use Rattle.store.specs.Views.{View, answer_trie}
use Rattle.store.specs.Decisions.{unbroken, walk_to_by, met_sound, lacking, missing, all_sound_by}
use Rattle.store.specs.Clauses.{view_in}
use Rattle.parts.specs.Parts.{parts, AllGround, all_fit}
use Rattle.sides.specs.Counts.{sum_missing, sum_lacking}
use Rattle.sides.specs.Searches.{Searched}
use Rattle.sides.specs.declared.Met.{Met}
use Rattle.sides.proofs.CountLaws.{combined-length, chain_length}
use Rattle.trie.proofs.SearchLaws.{Finds}
use Rattle.store.proofs.CallsWalks.{walk-stopped}
use native.Mathlib.Nat.{mul-le-mul_left}
use Rattle.pairing.specs.declared.Source.{Source}
use Rattle.pairing.specs.declared.Sides.{Sides}
use Rattle.pairing.specs.declared.Cursor.{Cursor}
use Rattle.pairing.specs.declared.Sums.{Sums}
use Rattle.pairing.specs.declared.Found.{Found}
use Rattle.pairing.specs.declared.Found.TheVariants as found
use Rattle.pairing.specs.declared.Walk.{Walk as JoinWalk}
use Rattle.pairing.specs.Pairing.{forms_from, Remains, Stands, WalkStands, WalksOn, parts_from, to_come, FirstTooLong, Advances}
use Rattle.pairing.specs.Counting.{Begun, all_forms, JoinReady, one_more, added, CountsForms}
use Rattle.agreement.proofs.ChainSteps.{chain-ends}
use Rattle.pairing.proofs.RemainsLaws.{forms-none}
use Rattle.pairing.proofs.FindLaws.{along-end}

-- ---- the beginning

module _ (cs : List ℕ) (x : Sides) (ps ks : List ℕ) where
  pub begins : JoinReady cs x ps ks → (w : JoinWalk) → Begun x w → WalkStands cs x w
  begins r w b = subst (λ (a : Cursor). Stands cs x a w.first w.form) (sym b.0) (record {
    outer = r.firsts;
    inner = record {
      rest = record {
        within = omega arith;
        sound = chain-ends (coding_of x.h.edition) (view_in cs x.h) x.second.number x.h.answers ∙ ap unbroken (sym (forms-none cs x.h x.second.number 0 refl));
        ground = subst (AllGround (stored_of x.h.edition) x.second.variables) (sym (forms-none cs x.h x.second.number 0 refl)) tt;
      };
      held = λ l. absurd (omega arith);
      hands-room = b.1;
      form-room = b.2;
    };
  })

  pub all_come : (w : JoinWalk) → Begun x w → all_forms cs x ps ks ≡ to_come cs x ps ks w.at w.first
  all_come w b = sym (ap (λ (ws : List Word). ws ++ all_forms cs x ps ks) (along-end cs x ps ks 0 w.first refl)) ∙ ap (λ (a : Cursor). to_come cs x ps ks a w.first) (sym b.0)

-- ---- one form more

pub fit-cons : (stored : StoredForm) (w : Word) (ws : List Word) → length (stored.cells w) ≤ 256 → all_fit stored (w ∷ ws) ≡ all_fit stored ws
unfolding all_fit
fit-cons stored w ws l = ap (λ (b : Bool). pick b (all_fit stored ws) false) (le-leb (length (stored.cells w)) 256 l)

unfit-cons : (stored : StoredForm) (w : Word) (ws : List Word) → 256 < length (stored.cells w) → all_fit stored (w ∷ ws) ≡ false
unfolding all_fit
unfit-cons stored w ws l = ap (λ (b : Bool). pick b (all_fit stored ws) false) (lt-leb (length (stored.cells w)) 256 l)

pub not-long : (edition : ℕ) (ws : List Word) → all_fit (stored_of edition) ws ≡ true → FirstTooLong edition ws → ⊥
not-long edition ws f t = true≢false (sym f ∙ ap (all_fit (stored_of edition)) t.2 ∙ unfit-cons (stored_of edition) t.0 t.1 t.3)

-- a walk over forms that all fit ends where none is still to come
pub walk-ended : (cs : List ℕ) (x : Sides) (ps ks : List ℕ) (w w' : JoinWalk) (r : Found ℕ) → WalksOn cs x ps ks w w' r → ((n : ℕ) → r ≡ found.At n → ⊥)
    → all_fit (stored_of x.h.edition) (to_come cs x ps ks w.at w.first) ≡ true → to_come cs x ps ks w.at w.first ≡ []
walk-ended cs x ps ks w w' (found.At n) a z f = absurd (z n refl)
walk-ended cs x ps ks w w' found.TooLong a z f = absurd (not-long x.h.edition (to_come cs x ps ks w.at w.first) f a)
walk-ended cs x ps ks w w' found.End a z f = a

abbrev pub no_sums : Sums
no_sums = record { sound = true; missing = 0; lacking = 0 }

-- by any way of finding a child
module _ (find : Finding) where
  sound-cons : (v : View) (s : ℕ) (w : Word) (ws : List Word) → all_sound_by find v s (w ∷ ws) ≡ (met_sound v w (walk_to_by find v s w) && all_sound_by find v s ws)
  unfolding all_sound_by
  sound-cons v s w ws = refl

  and_assoc : (a b d : Bool) → ((a && b) && d) ≡ (a && (b && d))
  and_assoc true b d = refl
  and_assoc false b d = refl

  missing-cons : (v : View) (s : ℕ) (w : Word) (ws : List Word) → sum_missing find v s (w ∷ ws) ≡ missing (walk_to_by find v s w) + sum_missing find v s ws
  unfolding sum_missing
  missing-cons v s w ws = refl

  lacking-cons : (v : View) (s : ℕ) (w : Word) (ws : List Word) → sum_lacking find v s (w ∷ ws) ≡ pick (lacking v (walk_to_by find v s w)) 1 0 + sum_lacking find v s ws
  unfolding sum_lacking
  lacking-cons v s w ws = refl

  -- what a search tells of a form is told of it among the answers to the target
  module _ (cs : List ℕ) (x : Sides) (root : ℕ) (w : Word) (m : Met) (q : Searched find cs x.h root w m) where
    pub met-walk : (s : ℕ) → root ≡ (subgoal_under cs x.h s).root
        → (m.sound ≡ met_sound (view_in cs x.h) w (walk_to_by find (view_in cs x.h) s w)) × (m.lacking ≡ lacking (view_in cs x.h) (walk_to_by find (view_in cs x.h) s w)) × (m.missing ≡ missing (walk_to_by find (view_in cs x.h) s w))
    met-walk s p = subst (λ (r : ℕ). (m.sound ≡ met_sound (view_in cs x.h) w (walk_by find (answer_trie (view_in cs x.h)) r w)) × (m.lacking ≡ lacking (view_in cs x.h) (walk_by find (answer_trie (view_in cs x.h)) r w)) × (m.missing ≡ missing (walk_by find (answer_trie (view_in cs x.h)) r w))) p q

  one_more_lem : (b : Bool) → one_more b ≡ pick b 1 0
  unfolding one_more
  one_more_lem b = refl

  one-more-most : (b : Bool) → one_more b ≤ 1
  unfolding one_more
  one-more-most true = omega arith
  one-more-most false = omega arith

  -- ---- the pass that counts by searches

  -- the sums so far, with those of the forms to come, are those of all
  pub record Counting (cs : List ℕ) (x : Sides) (root : ℕ) (ps ks : List ℕ) (at : Cursor) (hands form : List ℕ) (y : Sums) : Type 0 where
    pub stands : Stands cs x at hands form
    pub fit : all_fit (stored_of x.h.edition) (all_forms cs x ps ks) ≡ all_fit (stored_of x.h.edition) (to_come cs x ps ks at hands)
    pub sound : (s : ℕ) → root ≡ (subgoal_under cs x.h s).root
        → (y.sound && all_sound_by find (view_in cs x.h) s (to_come cs x ps ks at hands)) ≡ all_sound_by find (view_in cs x.h) s (all_forms cs x ps ks)
    pub missing : (s : ℕ) → root ≡ (subgoal_under cs x.h s).root
        → y.missing + sum_missing find (view_in cs x.h) s (to_come cs x ps ks at hands) ≡ sum_missing find (view_in cs x.h) s (all_forms cs x ps ks)
    pub lacking : (s : ℕ) → root ≡ (subgoal_under cs x.h s).root
        → y.lacking + sum_lacking find (view_in cs x.h) s (to_come cs x ps ks at hands) ≡ sum_lacking find (view_in cs x.h) s (all_forms cs x ps ks)
    pub missing-most : y.missing + 383 * length (to_come cs x ps ks at hands) ≤ 383 * length (all_forms cs x ps ks)
    pub lacking-most : y.lacking + length (to_come cs x ps ks at hands) ≤ length (all_forms cs x ps ks)

  module _ (cs : List ℕ) (x : Sides) (root : ℕ) (ps ks : List ℕ) where
    pub counting-begun : JoinReady cs x ps ks → (w : JoinWalk) → Begun x w → Counting cs x root ps ks w.at w.first w.form no_sums
    counting-begun r w b =
        let e = all_come cs x ps ks w b in
        record {
          stands = begins cs x ps ks r w b;
          fit = ap (all_fit (stored_of x.h.edition)) e;
          sound = λ s p. sym (ap (all_sound_by find (view_in cs x.h) s) e);
          missing = λ s p. omega (arith, ap (sum_missing find (view_in cs x.h) s) e);
          lacking = λ s p. omega (arith, ap (sum_lacking find (view_in cs x.h) s) e);
          missing-most = omega (arith, ap length e);
          lacking-most = omega (arith, ap length e);
        }

    module _ (at : Cursor) (hands form : List ℕ) (y : Sums) (c : Counting cs x root ps ks at hands form y) where
      pub counted-end : to_come cs x ps ks at hands ≡ [] → CountsForms find cs x root ps ks (Some y)
      unfolding all_fit all_sound_by sum_missing sum_lacking
      counted-end e s p = (
        c.fit ∙ ap (all_fit (stored_of x.h.edition)) e,
        sym (and-true y.sound) ∙ ap (λ (ws : List Word). y.sound && all_sound_by find (view_in cs x.h) s ws) (sym e) ∙ c.sound s p,
        omega (arith, c.missing s p, ap (sum_missing find (view_in cs x.h) s) e),
        omega (arith, c.lacking s p, ap (sum_lacking find (view_in cs x.h) s) e),
      )
        where
          and-true : (b : Bool) → (b && true) ≡ b
          and-true true = refl
          and-true false = refl

      pub counted-long : FirstTooLong x.h.edition (to_come cs x ps ks at hands) → CountsForms find cs x root ps ks None
      counted-long e s p = c.fit ∙ ap (all_fit (stored_of x.h.edition)) e.2 ∙ unfit-cons (stored_of x.h.edition) e.0 e.1 e.3

      module _ (hands' form' : List ℕ) (next : Cursor) (n : ℕ) (a : Advances cs x ps ks at hands hands' form' (found.At (next, n))) (m : Met) (q : Searched find cs x.h root (take n form') m) where
        abbrev w : Word
        w = take n form'

        short : m.missing ≤ n → n ≤ 383
        short l = omega (arith, a.1.0, a.0.inner.form-room)

        fewer : length (to_come cs x ps ks at hands) ≡ suc (length (to_come cs x ps ks next hands'))
        fewer = ap length a.1.1

        -- no sum wraps
        pub sums-small : length (all_forms cs x ps ks) ≤ 2 ^ 40 → m.missing ≤ n → (y.missing + m.missing < 2 ^ 64) × (y.lacking + 1 < 2 ^ 64)
        sums-small few l = (omega (arith, c.missing-most, fewer, short l), omega (arith, c.lacking-most, fewer))

        pub counting-on : m.missing ≤ n → Counting cs x root ps ks next hands' form' (added y m)
        counting-on l =
            let v : View = view_in cs x.h in
            let rest : List Word = to_come cs x ps ks next hands' in
            record {
              stands = a.0;
              fit = c.fit ∙ ap (all_fit (stored_of x.h.edition)) a.1.1 ∙ fit-cons (stored_of x.h.edition) (take n form') (to_come cs x ps ks next hands') a.1.2;
              sound = λ s p.
                  and_assoc y.sound m.sound (all_sound_by find (view_in cs x.h) s (to_come cs x ps ks next hands'))
                  ∙ ap (λ (b : Bool). y.sound && (b && all_sound_by find (view_in cs x.h) s (to_come cs x ps ks next hands'))) (met-walk cs x root (take n form') m q s p).0
                  ∙ ap (λ (b : Bool). y.sound && b) (sym (sound-cons (view_in cs x.h) s (take n form') (to_come cs x ps ks next hands')) ∙ ap (all_sound_by find (view_in cs x.h) s) (sym a.1.1))
                  ∙ c.sound s p;
              missing = λ s p. omega (arith, c.missing s p, ap (sum_missing find (view_in cs x.h) s) a.1.1, missing-cons (view_in cs x.h) s (take n form') (to_come cs x ps ks next hands'), (met-walk cs x root (take n form') m q s p).2);
              lacking = λ s p. omega (arith, c.lacking s p, ap (sum_lacking find (view_in cs x.h) s) a.1.1, lacking-cons (view_in cs x.h) s (take n form') (to_come cs x ps ks next hands'), ap {B = ℕ} (λ (b : Bool). pick b 1 0) (met-walk cs x root (take n form') m q s p).1, one_more_lem m.lacking);
              missing-most = omega (arith, c.missing-most, fewer, short l);
              lacking-most = lack m.lacking;
            }
          where
            lack : (b : Bool) → y.lacking + one_more b + length (to_come cs x ps ks next hands') ≤ length (all_forms cs x ps ks)
            lack b = omega (arith, c.lacking-most, fewer, one-more-most b)

-- ---- bounds

module _ {find : Finding} (finds : Finds find) where
  missing-of : (t : Trie) (root : ℕ) (w : Word) (x : Walk) → root < t.nodes → walk_by find t root w ≡ x → missing x ≤ length w
  unfolding missing
  missing-of t root w (whole n) l e = omega arith
  missing-of t root w (stopped p k left) l e = (walk-stopped finds t root p k w left l e).fewer
  missing-of t root w damaged l e = omega arith

  -- no more tokens are missing than a form has
  pub missing-most : (cs : List ℕ) (x : Sides) (root : ℕ) (w : Word) (m : Met) → root < x.h.nodes → Searched find cs x.h root w m → m.missing ≤ length w
  missing-most cs x root w m l q = omega (arith, q.2, missing-of (answer_trie (view_in cs x.h)) root w (walk_by find (answer_trie (view_in cs x.h)) root w) l refl)

  pub missing-short : (cs : List ℕ) (x : Sides) (root : ℕ) (form : List ℕ) (n : ℕ) (m : Met) → root < x.h.nodes → Searched find cs x.h root (take n form) m → n ≤ length form → m.missing ≤ n
  missing-short cs x root form n m l q b = omega (arith, missing-most cs x root (take n form) m l q, length-take-le n form b)

parts-length : (stored : StoredForm) (ws : List Word) → length (map (parts stored) ws) ≡ length ws
parts-length stored [] = refl
parts-length stored (w ∷ ws) = ap suc (parts-length stored ws)

-- a source has at most 2^20 answers
few-answers : (cs : List ℕ) (h : Head) (y : Source) (a : ℕ) → Bounds cs h → Remains cs h y a → length (parts_from cs h y a) ≤ 2 ^ 20
few-answers cs h y a b r =
    omega (arith, parts-length (stored_of h.edition) (forms_from cs h y.number a), chain_length (coding_of h.edition) (view_in cs h) y.number h.answers a (forms_from cs h y.number a) r.sound, b.answers-within, b.answers-most)

square : (m n : ℕ) → m ≤ 2 ^ 20 → n ≤ 2 ^ 20 → m * n ≤ 2 ^ 40
square m n h k = omega (arith, mul-le-mul_left m k)

pub all-few : (cs : List ℕ) (x : Sides) (ps ks : List ℕ) → JoinReady cs x ps ks → length (all_forms cs x ps ks) ≤ 2 ^ 40
all-few cs x ps ks r =
    let us = parts_from cs x.h x.first x.first.first in
    let vs = parts_from cs x.h x.second x.second.first in
    omega (
      arith,
      combined-length ps ks (parts_from cs x.h x.first x.first.first) (parts_from cs x.h x.second x.second.first),
      square (length (parts_from cs x.h x.first x.first.first)) (length (parts_from cs x.h x.second x.second.first))
          (few-answers cs x.h x.first x.first.first r.known.bounds r.firsts) (few-answers cs x.h x.second x.second.first r.known.bounds r.known.all),
    )
