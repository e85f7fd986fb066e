-- The decision on a join, case by case, as the code comes to it.
use mathlib.Core.Path.{◌≡◌, refl, sym, ap, ◌∙◌, subst}
use mathlib.Core.Bool.{Bool, true, false, ◌&&◌, true≢false, false≢true}
use mathlib.Core.List.{List, [], ◌∷◌, map}
use Prim.Native.Nat.{ℕ, suc, ◌-◌, ◌*◌, ◌≤◌, ◌<◌}
use native.Mathlib.Omega.{arith}
use lib.Dec.{eqb, leb, ltb}
use lib.ListN.{length}
use borrow.Author.Tests.{eq-eqb, ne_eqb, lt-ltb, le-leb, eqb-true, eqb-false}
use Rattle.std.specs.Prelude.{Ok, Err}
use Rattle.basis.specs.Choice.{pick}
use Rattle.basis.specs.Refusals.{number_of}
use Rattle.basis.specs.declared.refusals.Refusal.{Refusal}
use Rattle.basis.specs.declared.refusals.Refusal.TheVariants as refusal
use Rattle.basis.proofs.Cases.{by_cases}
use Rattle.forms.specs.Stored.{stored_of}
use Rattle.forms.specs.Numbering.{met}
use Rattle.plain.specs.Words.{Word}
use Rattle.plain.specs.Coding.{Coding, coding_of}
use Rattle.plain.specs.Joins.{Forms, declined, pairs_named, copies_named, named, ground, all_read, combined, join_of}
use Rattle.plain.specs.Requests.{join, lent, joined, refused}
use Rattle.space.specs.Judging.{subgoal_sound}
use Rattle.space.specs.Sound.{subgoal_under}
use Rattle.space.specs.declared.Head.{Head}
use Rattle.space.specs.declared.Subgoal.{Subgoal}
use Rattle.space.proofs.JudgingLaws.{subgoal-bounds}
use Rattle.trie.specs.Walks.{Finding, root_sound}
use Rattle.store.specs.Views.{View, answer_trie}
use Rattle.store.specs.Decisions.{Decision, refuses, known, sound, state_of, sound_subgoal, sound_target, broken, unbroken, chain_from, chain_of, on_chains, side_in, joining_by, enters_answers, decide_by}
use Rattle.store.specs.Changes.{forms_given_by, change_by}
use Rattle.store.specs.Calls.{used_answers, reply}
use Rattle.store.specs.Clauses.{view_in, Held, AnswersUnder}
use Rattle.store.proofs.CallsCases.{decided-says, comes}
use Rattle.parts.specs.Parts.{AllGround, fitted}
use Rattle.parts.proofs.Rules as rules
use Rattle.parts.proofs.JoinedForms.{joined-forms}
use Rattle.join.specs.declared.Parties.{Parties}
use Rattle.pairing.specs.Pairing.{forms_from, SourceIn, Remains}
use Rattle.pairing.specs.Counting.{all_forms, JoinReady}
use Rattle.join.specs.Entering.{Target}
use Rattle.agreement.proofs.ChainSteps.{chain-begins, chain-ends, chain-longer}
use Rattle.pairing.proofs.RemainsLaws.{forms-are, unbroken-is}
use Rattle.join.specs.Joining.{is_number, join_asked, PartiesIn, sides_of, AnswersGround, Grounded, Ruled}

-- ---- a decision that says something

module _ (find : Finding) (cs : List ℕ) (h : Head) (f g : ℕ) (ps : List ℕ) (s : ℕ) (ks : List ℕ) where
  pub join-refused : (r : ℕ) → decide_by find (coding_of h.edition) (view_in cs h) (join f g ps s ks) ≡ refuses r → AnswersUnder find cs h (join f g ps s ks) (refused r) cs
  unfolding lent
  join-refused r e = comes find cs h (join f g ps s ks) (refuses r) (refused r) cs refl e (decided-says find cs h (refused r))

  pub join-entered : (ws : List Word) (n : ℕ) (cs' : List ℕ) → decide_by find (coding_of h.edition) (view_in cs h) (join f g ps s ks) ≡ enters_answers s ws
      → cs' ≡ forms_given_by find (Rattle.space.specs.Layout.sizes_of h.edition) cs s ws → n ≡ used_answers cs' - h.answers → AnswersUnder find cs h (join f g ps s ks) (joined n) cs'
  unfolding lent reply change_by
  join-entered ws n cs' e c m = comes find cs h (join f g ps s ks) (enters_answers s ws) (joined n) cs' refl e (ap joined m, c)

-- ---- the numbers

known-not : (n s : ℕ) (d : Decision) → is_number n s ≡ false → known n s d ≡ refuses 7
unfolding is_number
known-not n s d e = by_cases (ltb 0 s)
    (λ p. by_cases (leb s n) (λ q. absurd (true≢false (sym (ap (λ (b : Bool). pick b (leb s n) false) p ∙ q) ∙ e))) (λ q. rw (p, q)))
    (λ p. rw p)

known_is : (n s : ℕ) (d : Decision) → is_number n s ≡ true → known n s d ≡ d
unfolding is_number
known_is n s d e = by_cases (ltb 0 s)
    (λ p. by_cases (leb s n) (λ q. rw (p, q)) (λ q. absurd (false≢true (sym (ap (λ (b : Bool). pick b (leb s n) false) p ∙ q) ∙ e))))
    (λ p. absurd (false≢true (sym (ap (λ (b : Bool). pick b (leb s n) false) p) ∙ e)))

module _ (find : Finding) (c : Coding) (v : View) (f g : ℕ) (ps : List ℕ) (s : ℕ) (ks : List ℕ) where
  abbrev sourced : Decision
  sourced =
      on_chains (chain_of c v f) (chain_of c v g) (λ us vs.
      joining_by find v s (join_of c (side_in v f us) (side_in v g vs) ps (state_of (v.subgoal s).state) (v.subgoal s).variables ks))

  abbrev judged : Decision
  judged = sound (sound_subgoal v f && sound_subgoal v g && sound_target v s) sourced

  pub first-unknown : is_number v.subgoals f ≡ false → decide_by find c v (join f g ps s ks) ≡ refuses 7
  unfolding decide_by
  first-unknown e = known-not v.subgoals f (known v.subgoals g (known v.subgoals s judged)) e

  module _ (i : is_number v.subgoals f ≡ true) where
    pub second-unknown : is_number v.subgoals g ≡ false → decide_by find c v (join f g ps s ks) ≡ refuses 7
    unfolding decide_by
    second-unknown e = known_is v.subgoals f (known v.subgoals g (known v.subgoals s judged)) i ∙ known-not v.subgoals g (known v.subgoals s judged) e

    module _ (j : is_number v.subgoals g ≡ true) where
      pub target-unknown : is_number v.subgoals s ≡ false → decide_by find c v (join f g ps s ks) ≡ refuses 7
      unfolding decide_by
      target-unknown e =
          known_is v.subgoals f (known v.subgoals g (known v.subgoals s judged)) i
          ∙ known_is v.subgoals g (known v.subgoals s judged) j ∙ known-not v.subgoals s judged e

      module _ (k : is_number v.subgoals s ≡ true) where
        known-all : decide_by find c v (join f g ps s ks) ≡ judged
        unfolding decide_by
        known-all =
            known_is v.subgoals f (known v.subgoals g (known v.subgoals s judged)) i
            ∙ known_is v.subgoals g (known v.subgoals s judged) j ∙ known_is v.subgoals s judged k

        -- ---- the records

        pub first-damaged : sound_subgoal v f ≡ false → decide_by find c v (join f g ps s ks) ≡ refuses 9
        first-damaged e = known-all ∙ rw e

        module _ (a : sound_subgoal v f ≡ true) where
          pub second-damaged : sound_subgoal v g ≡ false → decide_by find c v (join f g ps s ks) ≡ refuses 9
          second-damaged e = known-all ∙ rw (a, e)

          module _ (b : sound_subgoal v g ≡ true) where
            pub target-damaged : sound_subgoal v s ≡ false → decide_by find c v (join f g ps s ks) ≡ refuses 9
            target-damaged e = known-all ∙ rw (a, b, e)

            module _ (d : sound_subgoal v s ≡ true) where
              pub root-damaged : root_sound (answer_trie v) (v.subgoal s).root ≡ false → decide_by find c v (join f g ps s ks) ≡ refuses 9
              root-damaged e = known-all ∙ rw (a, b, d, e)

              pub records-sound : root_sound (answer_trie v) (v.subgoal s).root ≡ true → decide_by find c v (join f g ps s ks) ≡ sourced
              records-sound e = known-all ∙ rw (a, b, d, e)

-- ---- the rule, by the three records and the sources' forms

abbrev rule_of : Coding → Subgoal → List Word → Subgoal → List Word → List ℕ → Subgoal → List ℕ → Forms
rule_of c f us g vs ps t ks =
    join_of c (record { state = state_of f.state; m = f.variables; forms = us }) (record { state = state_of g.state; m = g.variables; forms = vs })
    ps (state_of t.state) t.variables ks

module _ (c : Coding) (f : Subgoal) (us : List Word) (g : Subgoal) (vs : List Word) (ps : List ℕ) (t : Subgoal) (ks : List ℕ) where
  rule-finished : (t.state ≡ 0 → ⊥) → rule_of c f us g vs ps t ks ≡ declined 8
  unfolding join_of
  rule-finished z = rw (ne_eqb t.state 0 z)

  module _ (o : t.state ≡ 0) where
    rule-first-open : f.state ≡ 0 → rule_of c f us g vs ps t ks ≡ declined 14
    unfolding join_of
    rule-first-open e = rw (eq-eqb t.state 0 o, eq-eqb f.state 0 e)

    module _ (m : f.state ≡ 0 → ⊥) where
      rule-second-open : g.state ≡ 0 → rule_of c f us g vs ps t ks ≡ declined 14
      unfolding join_of
      rule-second-open e = rw (eq-eqb t.state 0 o, ne_eqb f.state 0 m, eq-eqb g.state 0 e)

      module _ (n : g.state ≡ 0 → ⊥) where
        rule-first-variable : ground us ≡ false → rule_of c f us g vs ps t ks ≡ declined 15
        unfolding join_of
        rule-first-variable e = rw (eq-eqb t.state 0 o, ne_eqb f.state 0 m, ne_eqb g.state 0 n, e)

        module _ (d : ground us ≡ true) where
          rule-second-variable : ground vs ≡ false → rule_of c f us g vs ps t ks ≡ declined 15
          unfolding join_of
          rule-second-variable e = rw (eq-eqb t.state 0 o, ne_eqb f.state 0 m, ne_eqb g.state 0 n, d, e)

          module _ (w : ground vs ≡ true) where
            rule-unnamed : named f.variables g.variables ps t.variables ks ≡ false → rule_of c f us g vs ps t ks ≡ declined 16
            unfolding join_of
            rule-unnamed e = rw (eq-eqb t.state 0 o, ne_eqb f.state 0 m, ne_eqb g.state 0 n, d, w, e)

            rule-read : named f.variables g.variables ps t.variables ks ≡ true
                → rule_of c f us g vs ps t ks ≡ all_read c t.variables (combined ps ks (map (λ w. c.terms w) us) (map (λ w. c.terms w) vs))
            unfolding join_of
            rule-read e = rw (eq-eqb t.state 0 o, ne_eqb f.state 0 m, ne_eqb g.state 0 n, d, w, e)

-- ---- the three subgoals

number_is : (n s : ℕ) → 1 ≤ s → s ≤ n → is_number n s ≡ true
unfolding is_number
number_is n s l k = rw (lt-ltb 0 s (omega arith), le-leb s n k)

module _ (cs : List ℕ) (h : Head) (y : Parties) (ps ks : List ℕ) (p : PartiesIn cs h y) where
  abbrev c : Coding
  c = coding_of h.edition

  abbrev v : View
  v = view_in cs h

  first-is : (view_in cs h).subgoal y.first ≡ y.f
  first-is = sym p.first.3

  second_is : (view_in cs h).subgoal y.second ≡ y.g
  second_is = sym p.second.3

  target_is : (view_in cs h).subgoal y.target ≡ y.t
  target_is = sym p.target.3

  parties-decide : (find : Finding) → decide_by find (coding_of h.edition) (view_in cs h) (join_asked y ps ks) ≡ sourced find (coding_of h.edition) (view_in cs h) y.first y.second ps y.target ks
  parties-decide find =
      records-sound find (coding_of h.edition) (view_in cs h) y.first y.second ps y.target ks
      (number_is h.subgoals y.first p.first.1 p.first.2)
      (number_is h.subgoals y.second p.second.1 p.second.2)
      (number_is h.subgoals y.target p.target.1 p.target.2)
      (ap (subgoal_sound h.nodes h.answers) first-is ∙ p.first-sound)
      (ap (subgoal_sound h.nodes h.answers) second_is ∙ p.second-sound)
      (ap (subgoal_sound h.nodes h.answers) target_is ∙ p.target_sound)
      (ap (λ (q : Subgoal). root_sound (answer_trie (view_in cs h)) q.root) target_is ∙ p.rooted)

  refused-ruled : (r : Refusal) → ((find : Finding) → sourced find (coding_of h.edition) (view_in cs h) y.first y.second ps y.target ks ≡ refuses (number_of r)) → Ruled cs h y ps ks (Err r)
  refused-ruled r e = λ find. join-refused find cs h y.first y.second ps y.target ks (number_of r) (parties-decide find ∙ e find)

  pub ruled-first-broken : chain_of (coding_of h.edition) (view_in cs h) y.first ≡ broken → Ruled cs h y ps ks (Err refusal.Records)
  unfolding on_chains
  ruled-first-broken e = refused-ruled refusal.Records (λ find. rw e)

  module _ (us : List Word) (a : chain_of (coding_of h.edition) (view_in cs h) y.first ≡ unbroken us) where
    pub ruled-second-broken : chain_of (coding_of h.edition) (view_in cs h) y.second ≡ broken → Ruled cs h y ps ks (Err refusal.Records)
    unfolding on_chains
    ruled-second-broken e = refused-ruled refusal.Records (λ find. rw (a, e))

    module _ (vs : List Word) (b : chain_of (coding_of h.edition) (view_in cs h) y.second ≡ unbroken vs) where
      rule-is : join_of (coding_of h.edition) (side_in (view_in cs h) y.first us) (side_in (view_in cs h) y.second vs) ps (state_of ((view_in cs h).subgoal y.target).state) ((view_in cs h).subgoal y.target).variables ks
          ≡ rule_of (coding_of h.edition) y.f us y.g vs ps y.t ks
      unfolding side_in
      rule-is =
          ap (λ (q : Subgoal). rule_of (coding_of h.edition) q us ((view_in cs h).subgoal y.second) vs ps ((view_in cs h).subgoal y.target) ks) first-is
          ∙ ap (λ (q : Subgoal). rule_of (coding_of h.edition) y.f us q vs ps ((view_in cs h).subgoal y.target) ks) second_is
          ∙ ap (λ (q : Subgoal). rule_of (coding_of h.edition) y.f us y.g vs ps q ks) target_is

      both_read : (find : Finding) → sourced find (coding_of h.edition) (view_in cs h) y.first y.second ps y.target ks ≡ joining_by find (view_in cs h) y.target (rule_of (coding_of h.edition) y.f us y.g vs ps y.t ks)
      unfolding on_chains
      both_read find =
          let unread : sourced find (coding_of h.edition) (view_in cs h) y.first y.second ps y.target ks
          ≡ joining_by find (view_in cs h) y.target (join_of (coding_of h.edition) (side_in (view_in cs h) y.first us) (side_in (view_in cs h) y.second vs) ps (state_of ((view_in cs h).subgoal y.target).state) ((view_in cs h).subgoal y.target).variables ks) = rw (a, b) in
          unread ∙ ap (joining_by find (view_in cs h) y.target) rule-is

      declines : (r : Refusal) → rule_of (coding_of h.edition) y.f us y.g vs ps y.t ks ≡ declined (number_of r) → Ruled cs h y ps ks (Err r)
      unfolding joining_by
      declines r e = refused-ruled r (λ find. both_read find ∙ ap (joining_by find (view_in cs h) y.target) e)

      pub ruled-finished : (y.t.state ≡ 0 → ⊥) → Ruled cs h y ps ks (Err refusal.State)
      ruled-finished z = declines refusal.State (rule-finished (coding_of h.edition) y.f us y.g vs ps y.t ks z)

      module _ (o : y.t.state ≡ 0) where
        pub ruled-first-open : y.f.state ≡ 0 → Ruled cs h y ps ks (Err refusal.SourceOpen)
        ruled-first-open e = declines refusal.SourceOpen (rule-first-open (coding_of h.edition) y.f us y.g vs ps y.t ks o e)

        module _ (m : y.f.state ≡ 0 → ⊥) where
          pub ruled-second-open : y.g.state ≡ 0 → Ruled cs h y ps ks (Err refusal.SourceOpen)
          ruled-second-open e = declines refusal.SourceOpen (rule-second-open (coding_of h.edition) y.f us y.g vs ps y.t ks o m e)

          module _ (n : y.g.state ≡ 0 → ⊥) where
            pub ruled-first-variable : ground us ≡ false → Ruled cs h y ps ks (Err refusal.SourceVariable)
            ruled-first-variable e = declines refusal.SourceVariable (rule-first-variable (coding_of h.edition) y.f us y.g vs ps y.t ks o m n e)

            module _ (d : ground us ≡ true) where
              pub ruled-second-variable : ground vs ≡ false → Ruled cs h y ps ks (Err refusal.SourceVariable)
              ruled-second-variable e = declines refusal.SourceVariable (rule-second-variable (coding_of h.edition) y.f us y.g vs ps y.t ks o m n d e)

              module _ (w : ground vs ≡ true) where
                pub ruled-unnamed : named y.f.variables y.g.variables ps y.t.variables ks ≡ false → Ruled cs h y ps ks (Err refusal.Names)
                ruled-unnamed e = declines refusal.Names (rule-unnamed (coding_of h.edition) y.f us y.g vs ps y.t ks o m n d w e)

                first-forms : forms_from cs h y.first y.f.first ≡ us
                first-forms = forms-are cs h y.first y.f.first us (subst (λ (q : Subgoal). chain_from (coding_of h.edition) (view_in cs h) y.first h.answers q.first ≡ unbroken us) first-is a)

                second-forms : forms_from cs h y.second y.g.first ≡ vs
                second-forms = forms-are cs h y.second y.g.first vs (subst (λ (q : Subgoal). chain_from (coding_of h.edition) (view_in cs h) y.second h.answers q.first ≡ unbroken vs) second_is b)

                pub ruled-on : named y.f.variables y.g.variables ps y.t.variables ks ≡ true → Ruled cs h y ps ks (Ok tt)
                ruled-on e = record {
                  parties = p;
                  is_open = o;
                  first-finished = m;
                  second-finished = n;
                  first-ground = record { sound = a ∙ ap unbroken (sym first-forms); free = ap ground first-forms ∙ d };
                  second-ground = record { sound = b ∙ ap unbroken (sym second-forms); free = ap ground second-forms ∙ w };
                  names = e;
                }

-- ---- beyond the rule

tail-is : {w u : Word} {ws us : List Word} → ◌≡◌ {A = List Word} (w ∷ ws) (u ∷ us) → ws ≡ us
tail-is e = ap tails e
  where
    tails : List Word → List Word
    tails [] = []
    tails (x ∷ xs) = xs

head-is : {w u : Word} {ws us : List Word} → ◌≡◌ {A = List Word} (w ∷ ws) (u ∷ us) → w ≡ u
head-is e = ap heads e
  where
    heads : List Word → Word
    heads [] = []
    heads (x ∷ xs) = x

not_none : {w : Word} {ws : List Word} → ◌≡◌ {A = List Word} [] (w ∷ ws) → ⊥
not_none e = omega (arith, ap length e)

ground-cons : (w : Word) (ws : List Word) → ground (w ∷ ws) ≡ true → (length (met [] w) ≡ 0) × (ground ws ≡ true)
unfolding ground
ground-cons w ws e = by_cases (eqb (length (met [] w)) 0)
    (λ q. (eqb-true (length (met [] w)) 0 q, rw q at e))
    (λ q. absurd (false≢true (rw q at e)))

-- the forms of a sound chain without variables
ground-all : (e : ℕ) (v : View) (s k a : ℕ) (ws : List Word) → chain_from (coding_of e) v s k a ≡ unbroken ws → ground ws ≡ true → AllGround (stored_of e) (v.subgoal s).variables ws
ground-all e v s k a [] c g = tt
ground-all e v s k a (w ∷ ws) c g =
    by_cases (eqb a 0)
    (λ z. absurd (not_none (unbroken-is (sym (chain-ends (coding_of e) v s k) ∙ subst (λ (b : ℕ). chain_from (coding_of e) v s k b ≡ unbroken (w ∷ ws)) (eqb-true a 0 z) c))))
    (λ z.
    let b = chain-begins (coding_of e) v s k a (w ∷ ws) (eqb-false a 0 z) (chain-longer (coding_of e) v s k (suc k) a (w ∷ ws) (omega arith) c) in
    let h : w ≡ b.form = head-is b.is in
    let t : ws ≡ b.rest = tail-is b.is in
    let q = ground-cons w ws g in (
      rules.ground-form (rules.rule_of e) (v.subgoal s).variables w (subst (λ (u : Word). (coding_of e).legal (v.subgoal s).variables u ≡ true) (sym h) b.legal) q.0,
      ground-all e v s k (v.answer a).next ws (b.later ∙ ap unbroken (sym t)) q.1,
    ))

named-parts : (m n : ℕ) (ps : List ℕ) (k : ℕ) (ks : List ℕ) → named m n ps k ks ≡ true → (pairs_named m n ps ≡ true) × (copies_named m n ks ≡ true)
unfolding named
named-parts m n ps k ks e = four (leb (length ps) 64) (eqb (length ks) (2 * k)) (pairs_named m n ps) (copies_named m n ks) e
  where
    four : (a b c d : Bool) → pick a (pick b (pick c d false) false) false ≡ true → (c ≡ true) × (d ≡ true)
    four true true true d e = (refl, e)
    four true true false d e = absurd (false≢true e)
    four true false c d e = absurd (false≢true e)
    four false b c d e = absurd (false≢true e)

module _ (cs : List ℕ) (h : Head) (y : Parties) (ps ks : List ℕ) (g : Grounded cs h y ps ks) where
  source_in : (s : ℕ) (q : Subgoal) → Held cs h s q → subgoal_sound h.nodes h.answers q ≡ true → SourceIn cs h (record { number = s; root = q.root; variables = q.variables; first = q.first })
  source_in s q d e = record {
    low = d.1;
    high = d.2;
    rooted = ap (λ (r : Subgoal). r.root) d.3;
    termed = ap (λ (r : Subgoal). r.variables) d.3;
    few = (subgoal-bounds h.nodes h.answers q e).variables-most;
  }

  remains-in : (s : ℕ) (q : Subgoal) → Held cs h s q → subgoal_sound h.nodes h.answers q ≡ true → AnswersGround cs h s q.first → Remains cs h (record { number = s; root = q.root; variables = q.variables; first = q.first }) q.first
  remains-in s q d e a =
      let c : chain_from (coding_of h.edition) (view_in cs h) s h.answers q.first ≡ unbroken (forms_from cs h s q.first) =
      subst (λ (r : Subgoal). chain_from (coding_of h.edition) (view_in cs h) s h.answers r.first ≡ unbroken (forms_from cs h s q.first)) (sym d.3) a.sound in
      record {
        within = (subgoal-bounds h.nodes h.answers q e).first-most;
        sound = c;
        ground = subst (λ (r : Subgoal). AllGround (stored_of h.edition) r.variables (forms_from cs h s q.first)) (sym d.3) (ground-all h.edition (view_in cs h) s h.answers q.first (forms_from cs h s q.first) c a.free);
      }

  pub ready : JoinReady cs (sides_of h y) ps ks
  ready =
      let p = g.parties in
      let n = named-parts y.f.variables y.g.variables ps y.t.variables ks g.names in
      record {
        known = record {
          bounds = p.first.0;
          first = source_in y.first y.f p.first p.first-sound;
          second = source_in y.second y.g p.second p.second-sound;
          all = remains-in y.second y.g p.second p.second-sound g.second-ground;
          paired = n.0;
          copied = n.1;
        };
        firsts = remains-in y.first y.f p.first p.first-sound g.first-ground;
      }

  pub root-within : y.t.root < h.nodes
  root-within = (subgoal-bounds h.nodes h.answers y.t g.parties.target_sound).root_below

  pub target-root : y.t.root ≡ (subgoal_under cs h y.target).root
  target-root = ap (λ (r : Subgoal). r.root) g.parties.target.3

  pub target-fit : Target cs (sides_of h y) y.target
  target-fit =
      let p = g.parties in
      let b = subgoal-bounds h.nodes h.answers y.t p.target_sound in
      record {
        low = p.target.1;
        high = p.target.2;
        root_in = subst (λ (r : Subgoal). r.root < h.nodes) p.target.3 b.root_below;
        last-in = subst (λ (r : Subgoal). r.last ≤ h.answers) p.target.3 b.last-most;
        not_first = λ e. g.first-finished (ap (λ (r : Subgoal). r.state) (p.first.3 ∙ ap (subgoal_under cs h) e ∙ sym p.target.3) ∙ g.is_open);
        not-second = λ e. g.second-finished (ap (λ (r : Subgoal). r.state) (p.second.3 ∙ ap (subgoal_under cs h) e ∙ sym p.target.3) ∙ g.is_open);
      }

  -- the decision is that on the forms
  abbrev forms : List Word
  forms = all_forms cs (sides_of h y) ps ks

  pub decides : (find : Finding) → decide_by find (coding_of h.edition) (view_in cs h) (join_asked y ps ks) ≡ joining_by find (view_in cs h) y.target (fitted (stored_of h.edition) (all_forms cs (sides_of h y) ps ks))
  decides find =
      let p = g.parties in
      let us : List Word = forms_from cs h y.first y.f.first in
      let vs : List Word = forms_from cs h y.second y.g.first in
      parties-decide cs h y ps ks p find
      ∙ both_read cs h y ps ks p us g.first-ground.sound vs g.second-ground.sound find
      ∙ ap (joining_by find (view_in cs h) y.target)
      (rule-read (coding_of h.edition) y.f (forms_from cs h y.first y.f.first) y.g (forms_from cs h y.second y.g.first) ps y.t ks g.is_open g.first-finished g.second-finished g.first-ground.free g.second-ground.free g.names
      ∙ joined-forms (rules.rule_of h.edition) y.f.variables y.g.variables y.t.variables ps ks (forms_from cs h y.first y.f.first) (forms_from cs h y.second y.g.first)
      ready.firsts.ground ready.known.all.ground g.names)
