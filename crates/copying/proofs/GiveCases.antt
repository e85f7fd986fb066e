-- Laws of entering a subgoal by its form, and of the path that it is gathered from.
use Rattle.std.specs.Prelude.{Err, Ok}
use Rattle.basis.specs.declared.refusals.Refusal.{Refusal}
use Prim.Native.Nat.{ℕ, zero, suc, ◌+◌, ◌-◌, ◌≤◌, ◌<◌}
use mathlib.Core.Path.{◌≡◌, refl, sym, ap, ◌∙◌, subst}
use mathlib.Core.List.{List, [], ◌∷◌}
use native.Mathlib.Omega.{arith}
use native.Mathlib.Nat.{le_of_suc-le-suc}
use lib.ListN.{length, take, drop, length-drop}
use Rattle.plain.specs.Requests.{Reply}
use Rattle.space.specs.Layout.{sizes_of}
use Rattle.space.specs.Heading.{header_of, space_header}
use Rattle.space.specs.Sound.{Bounds, subgoal_under, answer_under}
use Rattle.space.proofs.HeaderLaws.{header-bounds}
use Rattle.space.specs.declared.Head.{Head}
use Rattle.space.specs.declared.Subgoal.{Subgoal}
use Rattle.space.specs.declared.Answer.{Answer}
use Rattle.trie.specs.Walks.{Walk}
use Rattle.trie.specs.Paths.{Path, gather, longest}
use Rattle.trie.specs.Runs.{path_to}
use Rattle.trie.specs.declared.End.{End}
use Rattle.trie.specs.Index.{search_indexed}
use Rattle.trie.proofs.IndexLaws.{walk_none}
use Rattle.trie.specs.Siblings.{search_children}
use Rattle.store.specs.Views.{View, view_of, subgoal_trie, answer_trie}
use Rattle.store.specs.Decisions.{called_at, called_by, answered_at, walk_to}
use Rattle.store.specs.Changes.{change, form_given, form_given_by}
use Rattle.store.proofs.JoinCases.{given-written}
use Rattle.store.specs.Clauses.{view_in, Does, Held, called_from, answered_from}
use Rattle.agreement.proofs.HeaderTests.{header_read}
use Rattle.agreement.specs.Whole.{up_to, word_of, answer_path, subgoal_read, answer_read}
use Rattle.carrying.specs.Recoding.{widening, recoded}
use Rattle.carrying.specs.Carrying.{carried_subgoal, carried_answer}
use Rattle.carrying.specs.Copying.{subgoal_given, subgoals_given, answers_given}
use Rattle.carrying.specs.Clauses.{first_subgoals, first_answers}
use Rattle.carrying.proofs.CopySteps.{up_to-suc, subgoals-snoc, answers-snoc}
use Rattle.copying.specs.Clauses.{PathCarried, RecodedAt, with_first, SubgoalReady, TakesAnswer, with_answers, AnswerReady}

module _ (cs w : List ℕ) (m : ℕ) (two : space_header cs ≡ header_of (sizes_of 2) cs) where
  pub given-refused : (r : Refusal) → Err r ≡ space_header cs → cs ≡ subgoal_given (sizes_of 2) cs w m (header_of (sizes_of 2) cs)
  unfolding subgoal_given
  given-refused r e = rw (sym (e ∙ two)) refl

  pub given-entered : (h : Head) → Ok h ≡ space_header cs → (x : Reply) (after : List ℕ) → Does cs h (called_from (search_indexed [] h.nodes) w m) x after
      → after ≡ subgoal_given (sizes_of 2) cs w m (header_of (sizes_of 2) cs)
  unfolding subgoal_given called_by
  given-entered h e x after d =
      let s : header_of (sizes_of 2) cs ≡ Ok h = sym (e ∙ two) in
      let r = header_read (sizes_of 2) cs h s in
      let i : h.edition ≡ 2 = ap (λ (k : Head). k.edition) r.is ∙ r.headed.edition in
      rw s (d.1 ∙ ap (λ (k : ℕ). change (sizes_of k) cs h (called_from (search_indexed [] h.nodes) w m (view_of (sizes_of k) cs h))) i
      ∙ ap (λ (y : Walk). change (sizes_of 2) cs h (called_at (view_of (sizes_of 2) cs h) y m)) (walk_none h.nodes (subgoal_trie (view_of (sizes_of 2) cs h)) 0 w))

-- ---- a gathered path

take_whole : (l : List ℕ) (n : ℕ) → length l ≤ n → take n l ≡ l
take_whole [] zero h = refl
take_whole [] (suc n) h = refl
take_whole (x ∷ l) zero h = absurd (omega arith)
take_whole (x ∷ l) (suc n) h = ap {B = List ℕ} (λ (k : List ℕ). x ∷ k) (take_whole l n (le_of_suc-le-suc h))

-- from where a path stands on, the cells are the whole of it
pub recoded_whole : (cs : List ℕ) (e : End) (r : ℕ) (path : List ℕ) → RecodedAt cs e r path
    → take (384 - r) (drop r path) ≡ recoded widening (word_of (path_to cs e))
recoded_whole cs e r path h = take_whole (drop r path) (384 - r) (omega (arith, length-drop r path, h.1)) ∙ h.2

-- ---- subgoals one after another

pub first-none : (source : List ℕ) (h : Head) (target : List ℕ) → target ≡ with_first source h target 0
unfolding subgoals_given up_to
first-none source h target = refl

-- one more, given to the target with those before it
pub first_on : (source : List ℕ) (h : Head) (target now after : List ℕ) (i leaf m : ℕ) → leaf ≡ ((view_in source h).subgoal (suc i)).leaf → m ≡ ((view_in source h).subgoal (suc i)).variables
    → now ≡ with_first source h target i
    → after ≡ subgoal_given (sizes_of 2) now (recoded widening (word_of (gather longest (subgoal_trie (view_in source h)) 0 leaf))) m (header_of (sizes_of 2) now)
    → after ≡ with_first source h target (i + 1)
first_on source h target now after i leaf m l v e a =
    let z : i + 1 ≡ suc i = omega arith in
    let s = up_to-suc (λ j. carried_subgoal widening (subgoal_read (view_in source h) (suc j))) i in
    let g = carried_subgoal widening (subgoal_read (view_in source h) (suc i)) in
    rw z (rw (l, v, e) at a ∙ sym (ap (subgoals_given (sizes_of 2) target) s ∙ subgoals-snoc (sizes_of 2) (first_subgoals widening (view_in source h) i) target g))

-- the record of the next one, as it was read
module _ (source : List ℕ) (h : Head) (target now : List ℕ) (i : ℕ) (g : Subgoal) (e : g ≡ subgoal_under source h (i + 1)) where
  next-is : g ≡ (view_in source h).subgoal (suc i)
  next-is = let z : i + 1 ≡ suc i = omega arith in e ∙ ap (λ (s : ℕ). subgoal_under source h s) z

  pub ready_at : SubgoalReady source h target i → now ≡ with_first source h target i
      → (g.leaf < h.nodes) × PathCarried (gather longest (subgoal_trie (view_in source h)) 0 g.leaf) × (space_header now ≡ header_of (sizes_of 2) now) × (g.variables ≤ 32)
  ready_at r q = (
    subst (λ (y : Subgoal). y.leaf < h.nodes) (sym next-is) r.leaf-in,
    subst (λ (y : Subgoal). PathCarried (gather longest (subgoal_trie (view_in source h)) 0 y.leaf)) (sym next-is) r.path,
    subst (λ (l : List ℕ). space_header l ≡ header_of (sizes_of 2) l) (sym q) r.two,
    subst (λ (y : Subgoal). y.variables ≤ 32) (sym next-is) r.variables,
  )

  pub first_next : (after : List ℕ) → now ≡ with_first source h target i
      → after ≡ subgoal_given (sizes_of 2) now (recoded widening (word_of (gather longest (subgoal_trie (view_in source h)) 0 g.leaf))) g.variables (header_of (sizes_of 2) now)
      → after ≡ with_first source h target (i + 1)
  first_next after q a = first_on source h target now after i g.leaf g.variables (ap (λ (y : Subgoal). y.leaf) next-is) (ap (λ (y : Subgoal). y.variables) next-is) q a

pub first_ended : (source : List ℕ) (h : Head) (target now : List ℕ) (i : ℕ) → i ≤ h.subgoals → h.subgoals ≤ i → now ≡ with_first source h target i → now ≡ with_first source h target h.subgoals
first_ended source h target now i l m e = let z : i ≡ h.subgoals = omega arith in subst (λ (k : ℕ). now ≡ with_first source h target k) z e

-- ---- an answer by its form

module _ (cs w : List ℕ) (s : ℕ) (two : space_header cs ≡ header_of (sizes_of 2) cs) where
  pub form-refused : (r : Refusal) → Err r ≡ space_header cs → cs ≡ form_given (sizes_of 2) cs s w (header_of (sizes_of 2) cs)
  unfolding form_given_by
  form-refused r e = rw (sym (e ∙ two)) refl

  pub form-entered : (h : Head) → Ok h ≡ space_header cs → (g : Subgoal) → g ≡ subgoal_under cs h s → (x : Reply) (after : List ℕ)
      → Does cs h (answered_from (search_indexed [] h.nodes) s g.root w) x after → after ≡ form_given (sizes_of 2) cs s w (header_of (sizes_of 2) cs)
  unfolding form_given_by
  form-entered h e g q x after d =
      let t : header_of (sizes_of 2) cs ≡ Ok h = sym (e ∙ two) in
      let r = header_read (sizes_of 2) cs h t in
      let i : h.edition ≡ 2 = ap (λ (k : Head). k.edition) r.is ∙ r.headed.edition in
      let own : g.root ≡ ((view_of (sizes_of 2) cs h).subgoal s).root = ap (λ (y : Subgoal). y.root) q ∙ ap (λ (k : ℕ). ((view_of (sizes_of k) cs h).subgoal s).root) i in
      rw t (d.1 ∙ ap (λ (k : ℕ). change (sizes_of k) cs h (answered_from (search_indexed [] h.nodes) s g.root w (view_of (sizes_of k) cs h))) i
      ∙ ap (λ (k : ℕ). change (sizes_of 2) cs h (answered_from (search_indexed [] h.nodes) s k w (view_of (sizes_of 2) cs h))) own
      ∙ ap (λ (y : Walk). change (sizes_of 2) cs h (answered_at (view_of (sizes_of 2) cs h) s w y))
      (walk_none h.nodes (answer_trie (view_of (sizes_of 2) cs h)) ((view_of (sizes_of 2) cs h).subgoal s).root w)
      ∙ given-written search_children (sizes_of 2) cs h s w (walk_to (view_of (sizes_of 2) cs h) s w))

-- what an answer asks of the space
pub takes-used : (cs : List ℕ) (s : ℕ) (h : Head) → Ok h ≡ space_header cs → TakesAnswer cs s → Bounds cs h × (1 ≤ s) × (s ≤ h.subgoals)
takes-used cs s h e t = let k = t h e in (header-bounds cs h e, k.0, k.1)

pub takes-held : (cs : List ℕ) (s : ℕ) (h : Head) (g : Subgoal) → Ok h ≡ space_header cs → TakesAnswer cs s → g ≡ subgoal_under cs h s → Held cs h s g
takes-held cs s h g e t q =
    let k = t h e in
    (header-bounds cs h e, k.0, k.1, q, subst (λ (y : Subgoal). y.last ≤ h.answers) (sym q) k.3, subst (λ (y : Subgoal). y.root < h.nodes) (sym q) k.2)

-- ---- answers one after another

pub answers-none : (source : List ℕ) (h : Head) (target : List ℕ) → target ≡ with_answers source h target 0
unfolding answers_given up_to
answers-none source h target = refl

pub answers-ended : (source : List ℕ) (h : Head) (target now : List ℕ) (i : ℕ) → i ≤ h.answers → h.answers ≤ i → now ≡ with_answers source h target i → now ≡ with_answers source h target h.answers
answers-ended source h target now i l m e = let z : i ≡ h.answers = omega arith in subst (λ (k : ℕ). now ≡ with_answers source h target k) z e

-- the record of the next one and its subgoal's, as they were read
module _ (source : List ℕ) (h : Head) (target now : List ℕ) (i : ℕ) (y : Answer) (e : y ≡ answer_under source h (i + 1)) where
  abbrev view : View
  view = view_in source h

  answer-is : y ≡ (view_in source h).answer (suc i)
  answer-is = let z : i + 1 ≡ suc i = omega arith in e ∙ ap (λ (a : ℕ). answer_under source h a) z

  pub own-used : AnswerReady source h target i → (1 ≤ y.subgoal) × (y.subgoal ≤ h.subgoals)
  own-used r = (
    subst (λ (x : Answer). 1 ≤ x.subgoal) (sym answer-is) r.own-low,
    subst (λ (x : Answer). x.subgoal ≤ h.subgoals) (sym answer-is) r.own-high,
  )

  module _ (g : Subgoal) (q : g ≡ subgoal_under source h y.subgoal) where
    -- the path that is gathered
    path-is : gather longest (answer_trie (view_in source h)) g.root y.leaf ≡ answer_path (view_in source h) (suc i)
    path-is =
        ap (λ (x : Subgoal). gather longest (answer_trie view) x.root y.leaf) q
        ∙ ap (λ (x : Answer). gather longest (answer_trie view) (view.subgoal x.subgoal).root x.leaf) answer-is

    pub answer-ready : AnswerReady source h target i → now ≡ with_answers source h target i
        → (y.leaf < h.nodes) × PathCarried (gather longest (answer_trie (view_in source h)) g.root y.leaf) × (space_header now ≡ header_of (sizes_of 2) now) × TakesAnswer now y.subgoal
    answer-ready r n = (
      subst (λ (x : Answer). x.leaf < h.nodes) (sym answer-is) r.leaf-in,
      subst PathCarried (sym path-is) r.path,
      subst (λ (l : List ℕ). space_header l ≡ header_of (sizes_of 2) l) (sym n) r.two,
      subst (λ (x : Answer). TakesAnswer now x.subgoal) (sym answer-is) (subst (λ (l : List ℕ). TakesAnswer l (view.answer (suc i)).subgoal) (sym n) r.takes),
    )

    pub answers_next : (after : List ℕ) → now ≡ with_answers source h target i
        → after ≡ form_given (sizes_of 2) now y.subgoal (recoded widening (word_of (gather longest (answer_trie (view_in source h)) g.root y.leaf))) (header_of (sizes_of 2) now)
        → after ≡ with_answers source h target (i + 1)
    answers_next after n a =
        let z : i + 1 ≡ suc i = omega arith in
        let s = up_to-suc (λ j. carried_answer widening (answer_read view (suc j))) i in
        let w : List ℕ = recoded widening (word_of (answer_path view (suc i))) in
        let b : after ≡ form_given (sizes_of 2) (with_answers source h target i) (view.answer (suc i)).subgoal w (header_of (sizes_of 2) (with_answers source h target i)) =
        a ∙ ap (λ (p : Path). form_given (sizes_of 2) now y.subgoal (recoded widening (word_of p)) (header_of (sizes_of 2) now)) path-is
        ∙ ap (λ (x : Answer). form_given (sizes_of 2) now x.subgoal w (header_of (sizes_of 2) now)) answer-is
        ∙ ap (λ (l : List ℕ). form_given (sizes_of 2) l (view.answer (suc i)).subgoal w (header_of (sizes_of 2) l)) n in
        rw z (b ∙ sym (ap (answers_given (sizes_of 2) target) s ∙ answers-snoc (sizes_of 2) (first_answers widening view i) target (carried_answer widening (answer_read view (suc i)))))
