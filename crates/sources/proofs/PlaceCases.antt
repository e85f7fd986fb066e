-- Where the form of a record stands that loads, and what is gathered there.
use Prim.Native.Nat.{ℕ, zero, suc, ◌+◌, ◌-◌, ◌≤◌, ◌<◌}
use mathlib.Core.Path.{◌≡◌, refl, sym, ap, ◌∙◌, subst}
use mathlib.Core.Bool.{Bool, true, ◌&&◌, false≢true}
use mathlib.Core.List.{List, [], ◌∷◌}
use native.Mathlib.Omega.{arith}
use native.Mathlib.Numerals.{add-one}
use native.Mathlib.Nat.{le_of_suc-le-suc}
use lib.Dec.{eqb}
use lib.ListN.{length, take, drop, length-drop}
use Rattle.forms.specs.Numbering.{met}
use Rattle.plain.specs.Words.{Word}
use Rattle.plain.specs.Coding.{coding_of}
use Rattle.plain.specs.Table as table
use Rattle.space.specs.Sound.{SubgoalUsed, subgoal_under, answer_under}
use Rattle.space.specs.declared.Subgoal.{Subgoal}
use Rattle.space.specs.declared.Answer.{Answer}
use Rattle.space.proofs.HeaderLaws.{bounds-nodes}
use Rattle.space.proofs.JudgingLaws.{subgoal-bounds, answer-bounds}
use Rattle.trie.specs.Paths.{Path, none, tokens, gather, longest}
use Rattle.trie.specs.Runs.{Found}
use Rattle.store.specs.Views.{View, subgoal_trie, answer_trie}
use Rattle.store.specs.Decisions.{sound_subgoal, sound_answer, sound_pair}
use Rattle.store.specs.Clauses.{view_in}
use Rattle.agreement.specs.Whole.{path_passes, word_of, subgoal_path, answer_path}
use Rattle.agreement.proofs.WholeTests.{and_both, every-below}
use Rattle.carrying.specs.Copying.{subgoal_loads, answer_loads}
use Rattle.sources.specs.declared.Kind.TheVariants as kind
use Rattle.sources.specs.declared.Records.{Records}
use Rattle.sources.specs.Records.{count_of, loads_at, record_at, RecordOf, PlaceOf}
use Rattle.sources.proofs.LoadCases.{count-answers, count-subgoals}

passes-tokens : (p : Path) (test : Word → Bool) → path_passes p test ≡ true → p ≡ tokens (word_of p)
passes-tokens none test e = absurd (false≢true e)
passes-tokens (tokens w) test e = refl

module _ (cs : List ℕ) (x : Records) (i : ℕ) (R : RecordOf cs x i) where
  abbrev view : View
  view = view_in cs x.h

  loaded : loads_at cs x i ≡ true
  loaded = every-below (loads_at cs x) (count_of x) R.0.1 i R.1

  -- ---- a subgoal

  module _ (k : x.kind ≡ kind.Subgoals) where
    pub subgoal-number : i + 1 ≤ x.h.subgoals
    subgoal-number = omega (arith, R.1, count-subgoals x k)

    subgoal-loaded : subgoal_loads (coding_of x.h.edition) (view_in cs x.h) (suc i) ≡ true
    unfolding loads_at
    subgoal-loaded = rw k at loaded

    subgoal-parts : (sound_subgoal (view_in cs x.h) (suc i) ≡ true) × (subgoal_path (view_in cs x.h) (suc i) ≡ tokens (word_of (subgoal_path (view_in cs x.h) (suc i))))
    unfolding subgoal_loads
    subgoal-parts =
        let p = and_both (sound_subgoal view (suc i)) (path_passes (subgoal_path view (suc i))
        (λ w. (coding_of x.h.edition).legal 1 w && eqb (length (met [] w)) (view.subgoal (suc i)).variables)) subgoal-loaded in
        (p.0, passes-tokens (subgoal_path view (suc i)) (λ w. (coding_of x.h.edition).legal 1 w && eqb (length (met [] w)) (view.subgoal (suc i)).variables) p.1)

    subgoal-record : record_at cs x i ≡ record { subgoal = 0; form = word_of (subgoal_path (view_in cs x.h) (suc i)) }
    unfolding record_at
    subgoal-record = rw k refl

    pub subgoal-place : (g : Subgoal) → g ≡ subgoal_under cs x.h (i + 1)
        → PlaceOf cs x i (record { owner = 0; end = record { nodes = x.h.nodes; links = x.h.subgoals; root = 0; leaf = g.leaf } })
    subgoal-place g e =
        let q : g ≡ (view_in cs x.h).subgoal (suc i) = e ∙ ap (λ (s : ℕ). subgoal_under cs x.h s) (add-one i) in
        let b = subgoal-bounds x.h.nodes x.h.answers (view.subgoal (suc i)) subgoal-parts.0 in
        record {
          ends = (bounds-nodes cs x.h R.0.0, subst (λ (y : Subgoal). y.leaf < x.h.nodes) (sym q) b.leaf-below);
          path = ap (λ (y : Subgoal). gather longest (subgoal_trie view) 0 y.leaf) q ∙ subgoal-parts.1 ∙ ap (λ (y : table.Answer). tokens y.form) (sym subgoal-record);
          owner = ap (λ (y : table.Answer). y.subgoal) (sym subgoal-record);
        }

  -- ---- an answer

  module _ (k : x.kind ≡ kind.Answers) where
    pub answer-number : i + 1 ≤ x.h.answers
    answer-number = omega (arith, R.1, count-answers x k)

    answer-loaded : answer_loads (coding_of x.h.edition) (view_in cs x.h) (suc i) ≡ true
    unfolding loads_at
    answer-loaded = rw k at loaded

    answer-parts : (sound_pair (view_in cs x.h) (suc i) ≡ true) × (answer_path (view_in cs x.h) (suc i) ≡ tokens (word_of (answer_path (view_in cs x.h) (suc i))))
    unfolding answer_loads
    answer-parts =
        let p = and_both (sound_pair view (suc i)) (path_passes (answer_path view (suc i))
        (λ w. (coding_of x.h.edition).legal (view.subgoal (view.answer (suc i)).subgoal).variables w)) answer-loaded in
        (p.0, passes-tokens (answer_path view (suc i)) (λ w. (coding_of x.h.edition).legal (view.subgoal (view.answer (suc i)).subgoal).variables w) p.1)

    answer-record : record_at cs x i ≡ record { subgoal = ((view_in cs x.h).answer (suc i)).subgoal; form = word_of (answer_path (view_in cs x.h) (suc i)) }
    unfolding record_at
    answer-record = rw k refl

    module _ (y : Answer) (e : y ≡ answer_under cs x.h (i + 1)) where
      answer-is : y ≡ (view_in cs x.h).answer (suc i)
      answer-is = e ∙ ap (λ (a : ℕ). answer_under cs x.h a) (add-one i)

      answer-within : (1 ≤ y.subgoal) × (y.subgoal ≤ x.h.subgoals) × (y.leaf < x.h.nodes)
      answer-within =
          let s = and_both (sound_answer view (suc i)) (sound_subgoal view (view.answer (suc i)).subgoal) answer-parts.0 in
          let b = answer-bounds x.h.nodes x.h.subgoals x.h.answers (suc i) (view.answer (suc i)) s.0 in
          subst (λ (z : Answer). (1 ≤ z.subgoal) × (z.subgoal ≤ x.h.subgoals) × (z.leaf < x.h.nodes)) (sym answer-is) (b.subgoal-some, b.subgoal-most, b.leaf-below)

      pub owner-used : SubgoalUsed cs x.h y.subgoal
      owner-used = (R.0.0, answer-within.0, answer-within.1)

      pub answer-place : (g : Subgoal) → g ≡ subgoal_under cs x.h y.subgoal
          → PlaceOf cs x i (record { owner = y.subgoal; end = record { nodes = x.h.nodes; links = x.h.answers; root = g.root; leaf = y.leaf } })
      answer-place g q = record {
        ends = (bounds-nodes cs x.h R.0.0, answer-within.2);
        path = ap (λ (z : Subgoal). gather longest (answer_trie view) z.root y.leaf) q
            ∙ ap (λ (z : Answer). gather longest (answer_trie view) (view.subgoal z.subgoal).root z.leaf) answer-is ∙ answer-parts.1
            ∙ ap (λ (z : table.Answer). tokens z.form) (sym answer-record);
        owner = ap (λ (z : Answer). z.subgoal) answer-is ∙ ap (λ (z : table.Answer). z.subgoal) (sym answer-record);
      }

-- ---- the path in its cells

take_whole : (l : List ℕ) (n : ℕ) → length l ≤ n → take n l ≡ l
take_whole [] zero h = refl
take_whole [] (suc n) h = refl
take_whole (x ∷ l) zero h = absurd (omega arith)
take_whole (x ∷ l) (suc n) h = ap {B = List ℕ} (λ (k : List ℕ). x ∷ k) (take_whole l n (le_of_suc-le-suc h))

-- the tokens of a path stand in the cells of a whole one, from r on
pub record Gathered (w : Word) (r : ℕ) (cells : List ℕ) : Type 0 where
  pub some : 1 ≤ r
  pub within : r ≤ 384
  pub long : length cells ≡ 384
  pub is : take (384 - r) (drop r cells) ≡ w
  pub part : take (length cells - r) (drop r cells) ≡ w
  pub size : length w ≡ 384 - r

pub gathered : (p : Path) (w : Word) → p ≡ tokens w → (r : ℕ) (cells : List ℕ) → Found p r cells × (length cells ≡ 384) → Gathered w r cells
gathered p w e r cells k =
    let g : (1 ≤ r) × (r ≤ length cells) × (drop r cells ≡ w) = subst (λ (x : Path). Found x r cells) e k.0 in
    record {
      some = g.0;
      within = omega (arith, g.1, k.1);
      long = k.1;
      is = take_whole (drop r cells) (384 - r) (omega (arith, length-drop r cells, k.1)) ∙ g.2;
      part = take_whole (drop r cells) (length cells - r) (omega (arith, length-drop r cells)) ∙ g.2;
      size = ap length (sym g.2) ∙ length-drop r cells ∙ ap (λ (n : ℕ). n - r) k.1;
    }
