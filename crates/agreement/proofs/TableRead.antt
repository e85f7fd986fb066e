-- Records that hold the same as a table say that table.
use Prim.Native.Nat.{ℕ, suc, ◌≤◌, ◌<◌}
use mathlib.Core.Path.{◌≡◌, refl, ap, ◌∙◌}
use mathlib.Core.List.{List}
use native.Mathlib.Omega.{arith}
use lib.ListN.{length, get_or}
use lib.Seq.{ext_get_or}
use Rattle.plain.specs.Words.{Word}
use Rattle.plain.specs.Coding.{Coding}
use Rattle.plain.specs.CodingLaws.{CodingLaws}
use Rattle.plain.specs.Requests.{State}
use Rattle.plain.specs.Table.{Table, Subgoal, Answer, no_subgoal, no_answer, subgoal_at, answer_at}
use Rattle.trie.specs.Paths.{tokens}
use Rattle.store.specs.Views.{View}
use Rattle.agreement.specs.Whole.{up_to, word_of, subgoal_path, answer_path, subgoal_read, answer_read, table_read}
use Rattle.agreement.proofs.SameRecords.{Same, subgoal-state, gather-subgoal, gather-answer}
use Rattle.agreement.proofs.WholeTable.{up_to-length, up_to-at}

up_to-list : {R : Type 0} (f : ℕ → R) (n : ℕ) (d : R) (l : List R) → n ≡ length l → ((i : ℕ) → i < n → f i ≡ get_or l i d) → up_to f n ≡ l
up_to-list f n d l e h =
    ext_get_or d (up_to f n) l (up_to-length f n ∙ e) (λ i k. let m : i < n = within k (up_to-length f n) in up_to-at f n d i m ∙ h i m)
  where
    within : {m n i : ℕ} → i < m → m ≡ n → i < n
    within k e = omega arith

subgoal-same : (w u : Word) (m k : ℕ) (x y : State) → w ≡ u → m ≡ k → x ≡ y → ◌≡◌ {A = Subgoal} (record { form = w; m = m; state = x }) (record { form = u; m = k; state = y })
subgoal-same w u m k x y e f g = rw (e, f, g)

answer-same : (s r : ℕ) (w u : Word) → s ≡ r → w ≡ u → ◌≡◌ {A = Answer} (record { subgoal = s; form = w }) (record { subgoal = r; form = u })
answer-same s r w u e f = rw (e, f)

table_same : (n m f g a b : ℕ) (x y : List Subgoal) (z w : List Answer) → n ≡ m → f ≡ g → a ≡ b → x ≡ y → z ≡ w
    → ◌≡◌ {A = Table} (record { N = n; F = f; A = a; subgoals = x; answers = z }) (record { N = m; F = g; A = b; subgoals = y; answers = w })
table_same n m f g a b x y z w e h i j k = rw (e, h, i, j, k)

subgoal_at-suc : (t : Table) (i : ℕ) → subgoal_at t (suc i) ≡ get_or t.subgoals i no_subgoal
unfolding subgoal_at
subgoal_at-suc t i = refl

answer_at-suc : (t : Table) (i : ℕ) → answer_at t (suc i) ≡ get_or t.answers i no_answer
unfolding answer_at
answer_at-suc t i = refl

module _ (c : Coding) (laws : CodingLaws c) (t : Table) (v : View) (S : Same c t v) where
  subgoal-read : (i : ℕ) → i < v.subgoals → subgoal_read v (suc i) ≡ get_or t.subgoals i no_subgoal
  subgoal-read i h =
      let k : suc i ≤ length t.subgoals = omega (arith, S.subgoals) in
      let path : subgoal_path v (suc i) ≡ tokens (subgoal_at t (suc i)).form = gather-subgoal c laws t v S (suc i) (omega arith) k in
      let same : subgoal_read v (suc i) ≡ subgoal_at t (suc i) =
      subgoal-same _ _ _ _ _ _ (ap word_of path) (S.subgoal (suc i) (omega arith) k).variables (subgoal-state c laws t v S (suc i) (omega arith) k) in
      same ∙ subgoal_at-suc t i

  answer-read : (i : ℕ) → i < v.answers → answer_read v (suc i) ≡ get_or t.answers i no_answer
  answer-read i h =
      let k : suc i ≤ length t.answers = omega (arith, S.answers) in
      let o = S.answer (suc i) (omega arith) k in
      let path : answer_path v (suc i) ≡ tokens (answer_at t (suc i)).form = rw o.subgoal (gather-answer c laws t v S (suc i) (omega arith) k) in
      let same : answer_read v (suc i) ≡ answer_at t (suc i) = answer-same _ _ _ _ o.subgoal (ap word_of path) in
      same ∙ answer_at-suc t i

  pub same-table : table_read v ≡ t
  same-table =
      table_same _ _ _ _ _ _ _ _ _ _ S.N-same S.F-same S.A-same
      (up_to-list (λ i. subgoal_read v (suc i)) v.subgoals no_subgoal t.subgoals S.subgoals subgoal-read)
      (up_to-list (λ i. answer_read v (suc i)) v.answers no_answer t.answers S.answers answer-read)
