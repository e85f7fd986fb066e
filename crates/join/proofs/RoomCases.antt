-- The decision on the forms of a join: too long, damaged, none new, no room, or all entered.
use mathlib.Core.Path.{◌≡◌, refl, sym, ap, ◌∙◌, subst}
use mathlib.Core.Bool.{Bool, true, false, ◌&&◌, true≢false}
use mathlib.Core.List.{List, [], ◌∷◌}
use Prim.Native.Nat.{ℕ, ◌+◌, ◌-◌, ◌≤◌, ◌<◌}
use native.Mathlib.Omega.{arith}
use lib.Dec.{eqb, leb}
use lib.ListN.{length}
use borrow.Author.Tests.{eq-eqb, ne_eqb, le-leb, lt-leb}
use Rattle.trie.proofs.WalkLaws.{both_true}
use Rattle.std.specs.Prelude.{Ok}
use Rattle.basis.specs.Choice.{pick}
use Rattle.basis.proofs.Cases.{by_cases}
use Rattle.forms.specs.Stored.{StoredForm, stored_of}
use Rattle.plain.specs.Words.{Word}
use Rattle.plain.specs.Joins.{declined, formed}
use Rattle.plain.specs.Requests.{Reply, joined, refused, old_answer}
use Rattle.space.specs.Layout.{sizes_of}
use Rattle.space.specs.Heading.{header_of}
use Rattle.space.specs.declared.Head.{Head}
use Rattle.trie.specs.Walks.{Walk, whole, stopped, damaged, Finding}
use Rattle.store.specs.Views.{View, view_of}
use Rattle.store.specs.Decisions.{Decision, says, refuses, sound_answer, sound_last, walk_to_by, met_sound, lacking, missing, all_sound_by, nodes_needed_by, answers_needed_by, joining_by, answered_old, answered_at, enters_answers}
use Rattle.store.specs.Changes.{answer_given, form_given_by, forms_given_by}
use Rattle.store.specs.Calls.{used_answers}
use Rattle.store.specs.Clauses.{view_in, AnswersUnder}
use Rattle.agreement.proofs.Frame.{space-read}
use Rattle.parts.specs.Parts.{all_fit, fitted}
use Rattle.sides.specs.Counts.{sum_missing, sum_lacking}
use Rattle.sides.proofs.CountLaws.{nodes-needed-most, answers-needed-most, answers-needed-none, lacking-none}
use Rattle.join.specs.declared.Parties.{Parties}
use Rattle.pairing.specs.Counting.{all_forms}
use Rattle.join.specs.Joining.{join_asked, sides_of, Grounded}
use Rattle.join.proofs.JoinCases.{join-refused, join-entered, decides}

-- ---- forms of which none is new

-- by any way of finding a child
module _ (find : Finding) where
  some-lacking : (v : View) (s : ℕ) (w : Word) (ws : List Word) → sum_lacking find v s (w ∷ ws) ≡ 0 → (lacking v (walk_to_by find v s w) ≡ false) × (sum_lacking find v s ws ≡ 0)
  unfolding sum_lacking
  some-lacking v s w ws e = by_cases (lacking v (walk_to_by find v s w))
      (λ q. absurd (omega (arith, rw q at e)))
      (λ q. (q, omega (arith, rw q at e)))

  -- such a form is found whole, at the leaf of its answer
  held-missing : (v : View) (x : Walk) → lacking v x ≡ false → missing x ≡ 0
  unfolding lacking missing
  held-missing v (whole leaf) e = refl
  held-missing v (stopped p l left) e = absurd (true≢false e)
  held-missing v damaged e = absurd (true≢false e)

  held-says : (v : View) (s : ℕ) (w : Word) (x : Walk) → met_sound v w x ≡ true → lacking v x ≡ false → (r : Reply) × (answered_at v s w x ≡ says r)
  unfolding met_sound lacking answered_at answered_old
  held-says v s w (whole leaf) m e =
      let a : ℕ = (v.node leaf).link in
      let t : (sound_answer v a && eqb (v.answer a).leaf leaf) ≡ true = subst (λ (b : Bool). pick b (eqb (length w) 0) (sound_answer v a && eqb (v.answer a).leaf leaf) ≡ true) e m in
      (old_answer (v.node leaf).link, rw (e, t))
  held-says v s w (stopped p l left) m e = absurd (true≢false e)
  held-says v s w damaged m e = absurd (true≢false e)

  module _ (e : ℕ) (cs : List ℕ) (h : Head) (i : header_of (sizes_of e) cs ≡ Ok h) (s : ℕ) where
    held-given : (w : Word) → met_sound (view_of (sizes_of e) cs h) w (walk_to_by find (view_of (sizes_of e) cs h) s w) ≡ true → lacking (view_of (sizes_of e) cs h) (walk_to_by find (view_of (sizes_of e) cs h) s w) ≡ false
        → form_given_by find (sizes_of e) cs s w (header_of (sizes_of e) cs) ≡ cs
    unfolding form_given_by answer_given
    held-given w m l =
        let r = held-says (view_of (sizes_of e) cs h) s w (walk_to_by find (view_of (sizes_of e) cs h) s w) m l in
        ap (form_given_by find (sizes_of e) cs s w) i ∙ ap (answer_given (sizes_of e) cs h) r.1

    none-given : (ws : List Word) → all_sound_by find (view_of (sizes_of e) cs h) s ws ≡ true → sum_lacking find (view_of (sizes_of e) cs h) s ws ≡ 0 → forms_given_by find (sizes_of e) cs s ws ≡ cs
    unfolding all_sound_by forms_given_by
    none-given [] a l = refl
    none-given (w ∷ ws) a l =
        let p = both_true (met_sound (view_of (sizes_of e) cs h) w (walk_to_by find (view_of (sizes_of e) cs h) s w)) (all_sound_by find (view_of (sizes_of e) cs h) s ws) a in
        let q = some-lacking (view_of (sizes_of e) cs h) s w ws l in
        ap (λ (ds : List ℕ). forms_given_by find (sizes_of e) ds s ws) (held-given w p.0 q.0) ∙ none-given ws p.1 q.1

  none-missing : (v : View) (s : ℕ) (ws : List Word) → sum_lacking find v s ws ≡ 0 → sum_missing find v s ws ≡ 0
  unfolding sum_missing
  none-missing v s [] l = refl
  none-missing v s (w ∷ ws) l =
      let q = some-lacking v s w ws l in
      omega (arith, held-missing v (walk_to_by find v s w) q.0, none-missing v s ws q.1)

  -- ---- the decision on forms that fit

  module _ (v : View) (s : ℕ) (ws : List Word) where
    pub joining-unsound : all_sound_by find v s ws ≡ false → joining_by find v s (formed ws) ≡ refuses 9
    unfolding joining_by
    joining-unsound e = rw e

    module _ (a : all_sound_by find v s ws ≡ true) where
      pub joining-last : (answers_needed_by find v s [] ws ≡ 0 → ⊥) → sound_last v s ≡ false → joining_by find v s (formed ws) ≡ refuses 9
      unfolding joining_by
      joining-last z l = rw (a, ne_eqb (answers_needed_by find v s [] ws) 0 z, l)

      last-either : pick (eqb (answers_needed_by find v s [] ws) 0) true (sound_last v s) ≡ true
          → joining_by find v s (formed ws) ≡ pick (leb (v.nodes + nodes_needed_by find v s [] ws) v.N) (pick (leb (v.answers + answers_needed_by find v s [] ws) v.A) (enters_answers s ws) (refuses 11)) (refuses 10)
      unfolding joining_by
      last-either e = rw (a, e)

      last_none : answers_needed_by find v s [] ws ≡ 0 → pick (eqb (answers_needed_by find v s [] ws) 0) true (sound_last v s) ≡ true
      last_none z = rw (eq-eqb (answers_needed_by find v s [] ws) 0 z)

      last_some : sound_last v s ≡ true → pick (eqb (answers_needed_by find v s [] ws) 0) true (sound_last v s) ≡ true
      last_some l = by_cases (eqb (answers_needed_by find v s [] ws) 0) (λ q. rw q) (λ q. rw (q, l))

      module _ (e : pick (eqb (answers_needed_by find v s [] ws) 0) true (sound_last v s) ≡ true) where
        pub joining-nodes : v.N < v.nodes + nodes_needed_by find v s [] ws → joining_by find v s (formed ws) ≡ refuses 10
        joining-nodes l = last-either e ∙ rw (lt-leb (v.nodes + nodes_needed_by find v s [] ws) v.N l)

        module _ (n : v.nodes + nodes_needed_by find v s [] ws ≤ v.N) where
          pub joining-records : v.A < v.answers + answers_needed_by find v s [] ws → joining_by find v s (formed ws) ≡ refuses 11
          joining-records l = last-either e ∙ rw (le-leb (v.nodes + nodes_needed_by find v s [] ws) v.N n, lt-leb (v.answers + answers_needed_by find v s [] ws) v.A l)

          pub joining-enters : v.answers + answers_needed_by find v s [] ws ≤ v.A → joining_by find v s (formed ws) ≡ enters_answers s ws
          joining-enters l = last-either e ∙ rw (le-leb (v.nodes + nodes_needed_by find v s [] ws) v.N n, le-leb (v.answers + answers_needed_by find v s [] ws) v.A l)

  -- ---- as the code comes to it

  fitted-long : (stored : StoredForm) (ws : List Word) → all_fit stored ws ≡ false → fitted stored ws ≡ declined 4
  fitted-long stored ws e = rw e

  fitted-all : (stored : StoredForm) (ws : List Word) → all_fit stored ws ≡ true → fitted stored ws ≡ formed ws
  fitted-all stored ws e = rw e

  module _ (cs : List ℕ) (h : Head) (y : Parties) (ps ks : List ℕ) (g : Grounded cs h y ps ks) where
    abbrev ws : List Word
    ws = all_forms cs (sides_of h y) ps ks

    refuses-by : (r : ℕ) → joining_by find (view_in cs h) y.target (fitted (stored_of h.edition) (all_forms cs (sides_of h y) ps ks)) ≡ refuses r → AnswersUnder find cs h (join_asked y ps ks) (refused r) cs
    refuses-by r e = join-refused find cs h y.first y.second ps y.target ks r (decides cs h y ps ks g find ∙ e)

    pub too_long : all_fit (stored_of h.edition) (all_forms cs (sides_of h y) ps ks) ≡ false → AnswersUnder find cs h (join_asked y ps ks) (refused 4) cs
    unfolding joining_by
    too_long e = refuses-by 4 (ap (joining_by find (view_in cs h) y.target) (fitted-long (stored_of h.edition) ws e))

    module _ (fit : all_fit (stored_of h.edition) (all_forms cs (sides_of h y) ps ks) ≡ true) where
      on-forms : (d : Decision) → joining_by find (view_in cs h) y.target (formed (all_forms cs (sides_of h y) ps ks)) ≡ d → joining_by find (view_in cs h) y.target (fitted (stored_of h.edition) (all_forms cs (sides_of h y) ps ks)) ≡ d
      on-forms d e = ap (joining_by find (view_in cs h) y.target) (fitted-all (stored_of h.edition) ws fit) ∙ e

      pub forms-unsound : all_sound_by find (view_in cs h) y.target (all_forms cs (sides_of h y) ps ks) ≡ false → AnswersUnder find cs h (join_asked y ps ks) (refused 9) cs
      forms-unsound e = refuses-by 9 (on-forms (refuses 9) (joining-unsound (view_in cs h) y.target ws e))

      module _ (a : all_sound_by find (view_in cs h) y.target (all_forms cs (sides_of h y) ps ks) ≡ true) where
        enters-by : joining_by find (view_in cs h) y.target (formed (all_forms cs (sides_of h y) ps ks)) ≡ enters_answers y.target (all_forms cs (sides_of h y) ps ks) → (n : ℕ) (cs' : List ℕ)
            → cs' ≡ forms_given_by find (sizes_of h.edition) cs y.target (all_forms cs (sides_of h y) ps ks) → n ≡ used_answers cs' - h.answers → AnswersUnder find cs h (join_asked y ps ks) (joined n) cs'
        enters-by e n cs' c m =
            join-entered find cs h y.first y.second ps y.target ks ws n cs' (decides cs h y ps ks g find ∙ on-forms (enters_answers y.target ws) e) c m

        -- nothing is new: nothing is written
        pub none-new : sum_lacking find (view_in cs h) y.target (all_forms cs (sides_of h y) ps ks) ≡ 0 → h.nodes ≤ h.node_capacity → h.answers ≤ h.answer_capacity → h.answers ≡ used_answers cs → AnswersUnder find cs h (join_asked y ps ks) (joined 0) cs
        none-new l nn na u =
            let v : View = view_in cs h in
            let s : ℕ = y.target in
            let z = lacking-none find (view_in cs h) y.target ws l in
            let k : nodes_needed_by find (view_in cs h) y.target [] ws ≡ 0 = omega (arith, nodes-needed-most find (view_in cs h) y.target [] ws, none-missing (view_in cs h) y.target ws l) in
            enters-by (joining-enters (view_in cs h) y.target ws a (last_none (view_in cs h) y.target ws a z) (omega (arith, k)) (omega (arith, z)))
            0 cs (sym (none-given h.edition cs h (space-read cs h g.parties.space).1 y.target ws a l)) (omega arith)

        pub last-damaged : (sum_lacking find (view_in cs h) y.target (all_forms cs (sides_of h y) ps ks) ≡ 0 → ⊥) → sound_last (view_in cs h) y.target ≡ false → AnswersUnder find cs h (join_asked y ps ks) (refused 9) cs
        last-damaged z l = refuses-by 9 (on-forms (refuses 9) (joining-last (view_in cs h) y.target ws a (λ q. z (answers-needed-none find (view_in cs h) y.target ws q)) l))

        module _ (l : sound_last (view_in cs h) y.target ≡ true) where
          pub no-nodes : h.node_capacity < h.nodes + nodes_needed_by find (view_in cs h) y.target [] (all_forms cs (sides_of h y) ps ks) → AnswersUnder find cs h (join_asked y ps ks) (refused 10) cs
          no-nodes e = refuses-by 10 (on-forms (refuses 10) (joining-nodes (view_in cs h) y.target ws a (last_some (view_in cs h) y.target ws a l) e))

          module _ (n : h.nodes + nodes_needed_by find (view_in cs h) y.target [] (all_forms cs (sides_of h y) ps ks) ≤ h.node_capacity) where
            pub no-records : h.answer_capacity < h.answers + answers_needed_by find (view_in cs h) y.target [] (all_forms cs (sides_of h y) ps ks) → AnswersUnder find cs h (join_asked y ps ks) (refused 11) cs
            no-records e = refuses-by 11 (on-forms (refuses 11) (joining-records (view_in cs h) y.target ws a (last_some (view_in cs h) y.target ws a l) n e))

            pub all-entered : h.answers + answers_needed_by find (view_in cs h) y.target [] (all_forms cs (sides_of h y) ps ks) ≤ h.answer_capacity → (n : ℕ) (cs' : List ℕ)
                → cs' ≡ forms_given_by find (sizes_of h.edition) cs y.target (all_forms cs (sides_of h y) ps ks) → n ≡ used_answers cs' - h.answers → AnswersUnder find cs h (join_asked y ps ks) (joined n) cs'
            all-entered e k cs' c m = enters-by (joining-enters (view_in cs h) y.target ws a (last_some (view_in cs h) y.target ws a l) n e) k cs' c m

          -- the sums suffice
          pub sums-suffice : sum_missing find (view_in cs h) y.target (all_forms cs (sides_of h y) ps ks) ≤ h.node_capacity - h.nodes → sum_lacking find (view_in cs h) y.target (all_forms cs (sides_of h y) ps ks) ≤ h.answer_capacity - h.answers
              → h.nodes ≤ h.node_capacity → h.answers ≤ h.answer_capacity
              → (h.nodes + nodes_needed_by find (view_in cs h) y.target [] (all_forms cs (sides_of h y) ps ks) ≤ h.node_capacity) × (h.answers + answers_needed_by find (view_in cs h) y.target [] (all_forms cs (sides_of h y) ps ks) ≤ h.answer_capacity)
          sums-suffice sm sl nn na =
              (omega (arith, nodes-needed-most find (view_in cs h) y.target [] ws), omega (arith, answers-needed-most find (view_in cs h) y.target [] ws))
