-- The answers of a goal one after another, as the search tries them.
use Prim.Native.Nat.{ℕ, zero, suc, ◌+◌, ◌-◌, ◌≤◌, ◌<◌}
use mathlib.Core.Path.{◌≡◌, refl, sym, ap, ◌∙◌, subst}
use mathlib.Core.Bool.{true, false}
use mathlib.Core.List.{List, ◌∷◌, map}
use native.Mathlib.Omega.{arith}
use lib.Dec.{eqb}
use lib.ListN.{length, get_or}
use lib.Seq.{drop-cons}
use Rattle.trie.proofs.WalkLaws.{both_true}
use Rattle.forms.specs.Stored.{stored_of}
use Rattle.plain.specs.Words.{Word}
use Rattle.plain.specs.Coding.{Coding, coding_of}
use Rattle.plain.specs.Detours.{Live, Option, trying, tries, search, offers, all_offer, option_of}
use Rattle.space.specs.Layout.{sizes, node_in}
use Rattle.space.specs.Sound.{subgoal_under, answer_under}
use Rattle.space.specs.declared.tables.Table.{Table}
use Rattle.space.specs.declared.Subgoal.{Subgoal}
use Rattle.space.specs.declared.Answer.{Answer}
use Rattle.space.proofs.JudgingLaws.{answer-bounds, follows-rises, follows-within}
use Rattle.trie.specs.Paths.{tokens}
use Rattle.store.specs.Views.{View, answer_trie}
use Rattle.store.specs.Decisions.{sound_answer, lives, lives_from}
use Rattle.store.specs.Clauses.{view_at}
use Rattle.detours.specs.Searching.{Searched, answers_in, options_in, progress_in, Chosen, Stays, offer_at, option_from, going, goals_from, Searchable, Looks, Searches, best_in}
use Rattle.detours.specs.declared.Offer.{Offer}
use Rattle.detours.proofs.OfferForms.{Offered, offered, offers-form, option_is}
use Rattle.detours.proofs.LiveSteps.{Begins, lives-begins, lives-none, two-nodes}
use Rattle.detours.proofs.WorkLaws.{stays-self, stays_then, chosen-stays}
use Rattle.detours.proofs.SearchCases.{tries-one, tries-ended, tries-none, search-goal}

-- ---- one answer

first-offers : (c : Coding) (l : Live) (ls : List Live) → all_offer c (l ∷ ls) ≡ true → (offers (c.terms l.form) ≡ true) × (all_offer c ls ≡ true)
unfolding all_offer
first-offers c l ls e = both_true (offers (c.terms l.form)) (all_offer c ls) e

-- what is known at answer a, whose record is y
pub record Stop (table : Table) (s steps a : ℕ) (y : Answer) (ls : List Live) : Type 0 where
  pub form : Word
  pub rest : List Live
  pub is : ls ≡ record { number = a; form = form } ∷ rest
  pub later : lives_from (coding_of table.head.edition) (view_at table) s (steps - 1) y.next ≡ lives rest
  pub fit : all_offer (coding_of table.head.edition) rest ≡ true
  pub leaf-in : y.leaf < table.head.nodes
  pub parent_in : (node_in sizes table.cells.now y.leaf).parent < table.head.nodes
  pub option : option_from (offer_at table a y.leaf) ≡ option_of (coding_of table.head.edition) (record { number = a; form = form })
  pub rises : (y.next ≡ 0 → ⊥) → a < y.next
  pub within : y.next ≤ table.head.answers

module _ (table : Table) (s : ℕ) (two : (subgoal_under table.cells.now table.head s).variables ≡ 2) where
  abbrev c : Coding
  c = coding_of table.head.edition

  abbrev v : View
  v = view_at table

  stop-of : (k a : ℕ) (y : Answer) (ls : List Live) → all_offer c ls ≡ true → y ≡ answer_under table.cells.now table.head a → Begins c v s k a ls → Stop table s (suc k) a y ls
  stop-of k a y ls fit e l =
      let n : y.next ≡ (answer_under table.cells.now table.head a).next = ap (λ (q : Answer). q.next) e in
      let f : y.leaf ≡ (answer_under table.cells.now table.head a).leaf = ap (λ (q : Answer). q.leaf) e in
      let both = both_true (sound_answer v a) (eqb (v.answer a).subgoal s) l.judged in
      let b = answer-bounds table.head.nodes table.head.subgoals table.head.answers a (answer_under table.cells.now table.head a) both.0 in
      let o = first-offers c (record { number = a; form = l.form }) l.rest (subst (λ (ks : List Live). all_offer c ks ≡ true) l.is fit) in
      let legal : (stored_of table.head.edition).legal 2 l.form ≡ true = subst (λ (m : ℕ). (stored_of table.head.edition).legal m l.form ≡ true) two l.legal in
      let w : Offered l.form = offered l.form (sym (offers-form table.head.edition l.form legal) ∙ o.0) in
      let t = two-nodes (answer_trie v) (v.subgoal s).root (v.answer a).leaf 383 w.diverter w.minutes (l.path ∙ ap tokens w.is) in
      record {
        form = l.form;
        rest = l.rest;
        is = l.is;
        later = ap (λ (j : ℕ). lives_from c v s (suc k - 1) j) n ∙ ap (λ (j : ℕ). lives_from c v s j (answer_under table.cells.now table.head a).next) (omega arith) ∙ l.later;
        fit = o.1;
        leaf-in = omega (arith, b.leaf-below, f);
        parent_in = rw f (omega (arith, t.lower, b.leaf-below));
        option = rw (f, t.last, t.first) (sym (option_is table.head.edition a l.form w legal));
        rises = λ q. omega (arith, n, follows-rises (table.head.answers + 1) a (answer_under table.cells.now table.head a).next b.next-follows (λ z. q (n ∙ z)));
        within = omega (arith, n, follows-within (table.head.answers + 1) a (answer_under table.cells.now table.head a).next (omega arith) b.next-follows);
      }

  pub stop-at : (steps a : ℕ) (y : Answer) (ls : List Live) → (a ≡ 0 → ⊥) → 1 ≤ steps → lives_from c v s steps a ≡ lives ls → all_offer c ls ≡ true → y ≡ answer_under table.cells.now table.head a → Stop table s steps a y ls
  stop-at zero a y ls z l e fit is = absurd (omega arith)
  stop-at (suc k) a y ls z l e fit is = stop-of k a y ls fit is (lives-begins c v s k a ls z e)

-- ---- the loop over a goal's answers

-- the answers from a on are still to be tried
pub record Trying (table : Table) (goals : List ℕ) (at sum : ℕ) (work₀ work : List ℕ) (a : ℕ) : Type 0 where
  pub steps : ℕ
  pub rest : List Live
  pub left : lives_from (coding_of table.head.edition) (view_at table) (get_or goals at 0) steps a ≡ lives rest
  pub fit : all_offer (coding_of table.head.edition) rest ≡ true
  pub suffice : (a ≡ 0 → ⊥) → table.head.answers < steps + a
  pub within : a ≤ table.head.answers
  pub stays : Stays work₀ at work
  pub progress : (os : List Option) → Chosen work₀ at sum os
      → search (goals_from table goals at) os (progress_in (length goals) work₀ true)
      ≡ tries (going (goals_from table goals (suc at)) os) (map (option_of (coding_of table.head.edition)) rest) (progress_in (length goals) work true)

module _ (table : Table) (goals : List ℕ) (at sum : ℕ) (work₀ : List ℕ) (r : Searchable table goals at sum work₀) where
  goal-here : goals_from table goals at ≡ options_in table (get_or goals at 0) ∷ goals_from table goals (suc at)
  goal-here = ap (map (options_in table)) (drop-cons goals at 0 r.here)

  here : Searched table (get_or goals at 0)
  here = r.searched at r.here

  pub trying-begun : (g : Subgoal) → g ≡ subgoal_under table.cells.now table.head (get_or goals at 0) → Trying table goals at sum work₀ work₀ g.first
  trying-begun g e =
      let f : g.first ≡ (subgoal_under table.cells.now table.head (get_or goals at 0)).first = ap (λ (x : Subgoal). x.first) e in
      record {
        steps = table.head.answers;
        rest = answers_in table (get_or goals at 0);
        left = rw f here.sound;
        fit = here.fit;
        suffice = λ z. omega arith;
        within = omega (arith, f, here.first-within);
        stays = stays-self work₀ at;
        progress = λ os c.
            ap (λ (gs : List (List Option)). search gs os (progress_in (length goals) work₀ true)) goal-here
            ∙ search-goal (options_in table (get_or goals at 0)) (goals_from table goals (suc at)) os (progress_in (length goals) work₀ true);
      }

  module _ (work : List ℕ) (a : ℕ) (t : Trying table goals at sum work₀ work a) where
    -- none is left
    pub trying-ended : a ≡ 0 → Searches table goals at sum work₀ work true
    trying-ended z = record {
      stays = t.stays;
      progress = λ os c. sym (t.progress os c
          ∙ ap (λ (ls : List Live). tries (going (goals_from table goals (suc at)) os) (map (option_of (coding_of table.head.edition)) ls) (progress_in (length goals) work true))
          (lives-none (coding_of table.head.edition) (view_at table) (get_or goals at 0) t.steps a t.rest z t.left)
          ∙ tries-none (going (goals_from table goals (suc at)) os) (progress_in (length goals) work true));
    }

    module _ (y : Answer) (is : y ≡ answer_under table.cells.now table.head a) (some : a ≡ 0 → ⊥) where
      pub stop : Stop table (get_or goals at 0) t.steps a y t.rest
      stop = stop-at table (get_or goals at 0) here.two t.steps a y t.rest some (omega (arith, t.suffice some, t.within)) t.left t.fit is

      -- what is tried next
      one_more_lem : (o : Offer) → o ≡ offer_at table a y.leaf → (os : List Option) → Chosen work₀ at sum os
          → search (goals_from table goals at) os (progress_in (length goals) work₀ true)
          ≡ tries (going (goals_from table goals (suc at)) os) (map (option_of (coding_of table.head.edition)) stop.rest)
          (trying (get_or work 0 0) (best_in (length goals) work) (going (goals_from table goals (suc at)) os (option_from o)))
      one_more_lem o e os c =
          t.progress os c
          ∙ ap (λ (ls : List Live). tries (going (goals_from table goals (suc at)) os) (map (option_of (coding_of table.head.edition)) ls) (progress_in (length goals) work true)) stop.is
          ∙ tries-one (going (goals_from table goals (suc at)) os) (option_of (coding_of table.head.edition) (record { number = a; form = stop.form }))
          (map (option_of (coding_of table.head.edition)) stop.rest) (progress_in (length goals) work true) refl
          ∙ ap (λ (p : Option). tries (going (goals_from table goals (suc at)) os) (map (option_of (coding_of table.head.edition)) stop.rest)
          (trying (get_or work 0 0) (best_in (length goals) work) (going (goals_from table goals (suc at)) os p))) (sym (ap option_from e ∙ stop.option))

      module _ (o : Offer) (e : o ≡ offer_at table a y.leaf) (work' : List ℕ) where
        pub trying-stopped : Looks table goals at sum o work work' false → Searches table goals at sum work₀ work' false
        trying-stopped l = record {
          stays = stays_then t.stays l.stays;
          progress = λ os c. sym (one_more_lem o e os c
              ∙ ap (tries (going (goals_from table goals (suc at)) os) (map (option_of (coding_of table.head.edition)) stop.rest)) (sym (l.progress os (chosen-stays t.stays c)))
              ∙ tries-ended (going (goals_from table goals (suc at)) os) (map (option_of (coding_of table.head.edition)) stop.rest) (progress_in (length goals) work' false) refl);
        }

        pub trying-on : Looks table goals at sum o work work' true → Trying table goals at sum work₀ work' y.next
        trying-on l = record {
          steps = t.steps - 1;
          rest = stop.rest;
          left = stop.later;
          fit = stop.fit;
          suffice = λ z. omega (arith, t.suffice some, stop.rises z, t.within);
          within = stop.within;
          stays = stays_then t.stays l.stays;
          progress = λ os c. one_more_lem o e os c
              ∙ ap (tries (going (goals_from table goals (suc at)) os) (map (option_of (coding_of table.head.edition)) stop.rest)) (sym (l.progress os (chosen-stays t.stays c)));
        }
