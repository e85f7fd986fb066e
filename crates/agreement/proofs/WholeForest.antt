-- The nodes of a whole space are those of the prefixes of its forms, each once: so they are as many as the table says.
use Prim.Native.Nat.{ℕ, zero, suc, ◌+◌, ◌≤◌, ◌<◌}
use mathlib.Core.Path.{◌≡◌, refl, sym, ap, ◌∙◌, subst}
use mathlib.Core.Bool.{Bool, true, false, true≢false, false≢true, or-true}
use mathlib.Core.List.{List, [], ◌∷◌, ◌++◌, map, append-nil, append_assoc, concat-ne-nil, head-eq_of_cons-eq, tail-eq_of_cons-eq}
use native.Mathlib.Omega.{arith}
use lib.Dec.{eqb, leb}
use lib.ListN.{length}
use borrow.Author.Tests.{eqb-true, eqb-false, leb-true, leb-false}
use Rattle.basis.proofs.Cases.{by_cases}
use Rattle.forms.specs.Compact.{same}
use Rattle.plain.specs.Words.{Word, has, inits, all_inits, prefixes}
use Rattle.plain.specs.Coding.{Coding}
use Rattle.plain.specs.Requests.{Open}
use Rattle.plain.specs.Table.{Table, Subgoal, Answer, called_forms, answers_to, after, with_subgoal}
use Rattle.plain.proofs.WordLaws.{has-append, has-union}
use Rattle.plain.proofs.PrefixLaws.{starts, begins, has-prefixes, has-begins, begins-witness, begins-append}
use Rattle.plain.proofs.Entries.{under, begins-under}
use Rattle.plain.proofs.Keys.{key, snoc-left, has-place, place-has, prefixes-different}
use Rattle.plain.proofs.AfterLaws.{after-found}
use Rattle.plain.proofs.Counted.{Forest, forest-fresh, forest-answer, forest-call, after_call, called_forms-snoc}
use Rattle.plain.proofs.Renumbering.{nodes-alike}
use Rattle.plain.proofs.StoredForms.{starts-rest}
use Rattle.store.specs.Views.{View}
use Rattle.agreement.specs.Whole.{up_to, word_of, subgoal_path, answer_path, subgoal_read, answer_read, table_read}
use Rattle.agreement.proofs.Numberings.{Numbering}
use Rattle.agreement.proofs.Pigeons.{same_count}
use Rattle.agreement.proofs.TrieNodes.{par, Kind, is_root, is_child}
use Rattle.agreement.proofs.WholeTests.{Leads, to-subgoal, to-answer, Whole}
use Rattle.agreement.proofs.WholeKeys.{trie_of, keys_up, keys_length, key-root, key-child, root-trie, trie-zero, whole-tries, whole-different}
use Rattle.agreement.proofs.WholeTable.{up_to-length, subgoals-length, whole-origin, leaf-in, leaf-key, root-key, answer-key, called-has, given-has, called-by, given_by}

-- ---- entries for any table whose answers are to its subgoals

forest-forms : (t u : Table) (es : List Word) → called_forms t.subgoals ≡ called_forms u.subgoals → length t.subgoals ≡ length u.subgoals → t.answers ≡ u.answers
    → Forest t es → Forest u es
forest-forms t u es e f g r = record {
  calls = r.calls ∙ ap {B = List Word} (λ (l : List Word). [] ∷ l) e;
  replies = λ s h k. r.replies s h (omega arith) ∙ ap (λ (l : List Answer). [] ∷ answers_to l s) g;
  unused = λ s h. r.unused s (omega arith);
  unanswered = λ s h. ap (λ (l : List Answer). answers_to l s) (sym g) ∙ r.unanswered s (omega arith);
  count = r.count ∙ nodes-alike t u e f (λ s. ap (λ (l : List Answer). answers_to l s) g);
}

abbrev Entries : Table → Type 0
Entries t = (es : List Word) × Forest t es

module _ (n f a : ℕ) (g : ℕ → Subgoal) (y : ℕ → Answer) where
  -- the table with the first j subgoals and the first k answers
  abbrev made : ℕ → ℕ → Table
  made j k = record { N = n; F = f; A = a; subgoals = up_to g j; answers = up_to y k }

  snoc-forms : (l : List Subgoal) (x : Subgoal) → called_forms (l ++ (record { form = x.form; m = x.m; state = Open } ∷ [])) ≡ called_forms (l ++ (x ∷ []))
  snoc-forms l x = called_forms-snoc l (record { form = x.form; m = x.m; state = Open }) ∙ sym (called_forms-snoc l x)

  subgoals-entered : (j : ℕ) → Entries (made j 0)
  unfolding up_to
  subgoals-entered zero = ((0 ∷ []) ∷ [], forest-fresh n f a)
  subgoals-entered (suc j) =
      let r = subgoals-entered j in
      let t : Table = made j 0 in
      let u : Table = with_subgoal t (g j).form (g j).m in (
        after_call r.0 (length t.subgoals) (g j).form,
        forest-forms u (made (suc j) 0) _ (snoc-forms (up_to g j) (g j)) (size (up_to g j) (g j)) refl (forest-call t r.0 (g j).form (g j).m r.1),
      )
    where
      size : (l : List Subgoal) (x : Subgoal) → length (l ++ (record { form = x.form; m = x.m; state = Open } ∷ [])) ≡ length (l ++ (x ∷ []))
      size [] x = refl
      size (z ∷ l) x = ap suc (size l x)

  answers-entered : (j k : ℕ) → ((i : ℕ) → i < k → (0 < (y i).subgoal) × ((y i).subgoal ≤ j)) → Entries (made j k)
  unfolding up_to
  answers-entered j zero h = subgoals-entered j
  answers-entered j (suc k) h =
      let r = answers-entered j k (λ i l. h i (omega arith)) in
      let o = h k (omega arith) in
      (_, forest-answer (made j k) r.0 (y k).subgoal (y k).form r.1 o.0 (within o.1))
    where
      within : {x : ℕ} → x ≤ j → x ≤ length (up_to g j)
      within l = omega (arith, up_to-length g j)

-- ---- the empty word is no key

inits-some : (w : Word) → has (inits w) [] ≡ false
unfolding inits has same
inits-some [] = refl
inits-some (t ∷ w) = mapped (inits w)
  where
    mapped : (ws : List Word) → has (map (λ u. t ∷ u) ws) [] ≡ false
    mapped [] = refl
    mapped (u ∷ ws) = mapped ws

all-some : (ws : List Word) → has (all_inits ws) [] ≡ false
unfolding all_inits
all-some [] = unfold has in refl
all-some (w ∷ ws) = has-append (inits w) (all_inits ws) [] ∙ rw (inits-some w, all-some ws)

prefixes-some : (es : List Word) → has (prefixes es) [] ≡ false
unfolding prefixes
prefixes-some es = has-union [] (all_inits es) [] ∙ (unfold has in all-some es)

-- ---- the keys are the prefixes

module _ (c : Coding) (v : View) (W : Whole c v) (some : 0 < v.nodes) where
  abbrev t : Table
  t = table_read v

  abbrev n : ℕ
  n = v.nodes

  abbrev K : List Word
  K = keys_up v v.nodes

  pub entries : Entries (table_read v)
  entries = answers-entered v.N v.F v.A (λ i. subgoal_read v (suc i)) (λ i. answer_read v (suc i)) v.subgoals v.answers
      (λ i h. let f = W.answer (suc i) (omega arith) h in (f.low, f.high))

  module _ (es : List Word) (r : Forest (table_read v) es) where
    -- what the entries of trie s begin with
    abbrev Begun : ℕ → Word → Type 0
    Begun s u = begins (under s es) u ≡ true

    begun-calls : (u : Word) → has (called_forms t.subgoals) u ≡ true → Begun 0 u
    begun-calls u e = rw r.calls (unfold begins in rw (has-begins (called_forms t.subgoals) u e, or-true (starts u [])))

    begun-replies : (s : ℕ) (u : Word) → 0 < s → s ≤ v.subgoals → has (answers_to t.answers s) u ≡ true → Begun s u
    begun-replies s u h k e = rw (r.replies s h (omega (arith, subgoals-length v))) (unfold begins in rw (has-begins (answers_to t.answers s) u e, or-true (starts u [])))

    begun-root : (s : ℕ) → s ≤ v.subgoals → Begun s []
    begun-root zero k = rw r.calls (unfold begins starts in refl)
    begun-root (suc s) k = rw (r.replies (suc s) (omega arith) (omega (arith, subgoals-length v))) (unfold begins starts in refl)

    begun-shorter : (s : ℕ) (u w : Word) → Begun s (u ++ w) → Begun s u
    begun-shorter s u w e = by_cases (begins (under s es) u) (λ h. h) (λ h. absurd (true≢false (sym e ∙ begins-append (under s es) u w h)))

    -- a root
    key-begun-root : (i s : ℕ) (u : Word) → i < n → par v.node i ≡ i → key K i ≡ s ∷ u → Begun s u
    key-begun-root i s u h p e =
        let q : trie_of v i ∷ [] ≡ s ∷ u = sym (key-root v n i h p) ∙ e in
        let a : trie_of v i ≡ s = head-eq_of_cons-eq q in
        let b : [] ≡ u = tail-eq_of_cons-eq q in
        subst (λ (w : Word). Begun s w) b (begun-root s (subst (λ (x : ℕ). x ≤ v.subgoals) a (trie-most i h p)))
      where
        trie-most : (i : ℕ) → i < n → par v.node i ≡ i → trie_of v i ≤ v.subgoals
        trie-most zero h p = let z = trie-zero v in omega arith
        trie-most (suc i) h p = (root-trie c v W (suc i) h p (omega arith)).1

    -- a leaf
    key-begun-leaf : (i s : ℕ) (u : Word) → i < n → ((v.node i).link ≡ 0 → ⊥) → key K i ≡ s ∷ u → Begun s u
    key-begun-leaf i s u h ne e = go ((W.node i h).leads ne)
      where
        pos : (k : ℕ) → (k ≡ 0 → ⊥) → 0 < k
        pos k h = omega arith

        go : Leads v i → Begun s u
        go (to-subgoal l p) =
            let k : ℕ = (v.node i).link in
            let q : 0 ∷ word_of (subgoal_path v k) ≡ s ∷ u = sym (leaf-key c v W some k (pos k ne) l) ∙ ap (key K) p ∙ e in
            subst (λ (x : ℕ). Begun x u) (head-eq_of_cons-eq q)
            (subst (λ (w : Word). Begun 0 w) (tail-eq_of_cons-eq q) (begun-calls (word_of (subgoal_path v k)) (called-has c v W some k (pos k ne) l)))
        go (to-answer l p) =
            let k : ℕ = (v.node i).link in
            let f = W.answer k (pos k ne) l in
            let q : (v.answer k).subgoal ∷ word_of (answer_path v k) ≡ s ∷ u = sym (answer-key c v W some k (pos k ne) l) ∙ ap (key K) p ∙ e in
            subst (λ (x : ℕ). Begun x u) (head-eq_of_cons-eq q)
            (subst (λ (w : Word). Begun (v.answer k).subgoal w) (tail-eq_of_cons-eq q)
            (begun-replies (v.answer k).subgoal (word_of (answer_path v k)) f.low f.high (given-has c v W some k (pos k ne) l)))

    -- every key begins an entry: from the highest node down
    key-begun : (b i s : ℕ) (u : Word) → i < n → n ≤ i + b → key K i ≡ s ∷ u → Begun s u
    key-begun zero i s u h l e = absurd (omega arith)
    key-begun (suc b) i s u h l e = by_cases (eqb (par v.node i) i)
        (λ p. key-begun-root i s u h (eqb-true _ _ p) e)
        (λ p. by_cases (eqb (v.node i).link 0)
        (λ z.
        let ne : (v.node i).child ≡ 0 → ⊥ = (W.node i h).lives (eqb-false _ _ p) (eqb-true _ _ z) in
        let f = after-found (par v.node) n i i (λ y. ne ((W.node i h).child ∙ y)) in
        let j : ℕ = after (par v.node) n i i in
        let k : key K j ≡ s ∷ (u ++ ((v.node j).token ∷ [])) =
        key-child v n j f.below (subst (λ (x : ℕ). x < j) (sym f.under) f.above) ∙ ap (λ (x : ℕ). key K x ++ ((v.node j).token ∷ [])) f.under ∙ ap (λ (x : Word). x ++ ((v.node j).token ∷ [])) e in
        begun-shorter s u ((v.node j).token ∷ []) (key-begun b j s (u ++ ((v.node j).token ∷ [])) f.below (omega (arith, f.above)) k))
        (λ z. key-begun-leaf i s u h (eqb-false _ _ z) e))

    -- ---- and every prefix of an entry is a key

    within : (i : ℕ) → i < n → i < length K
    within i h = omega (arith, keys_length v n)

    -- one token less
    has-up : (s : ℕ) (u : Word) (x : ℕ) → has K (s ∷ (u ++ (x ∷ []))) ≡ true → has K (s ∷ u) ≡ true
    has-up s u x e =
        let p = has-place K (s ∷ (u ++ (x ∷ []))) e in
        let h : p.0 < n = omega (arith, p.1, keys_length v n) in
        go p.0 h p.2 ((whole-tries c v W).kind p.0 h)
      where
        go : (i : ℕ) → i < n → key K i ≡ s ∷ (u ++ (x ∷ [])) → Kind K v.node i → has K (s ∷ u) ≡ true
        go i h e (is_root y p q k) = absurd (concat-ne-nil x u (sym (tail-eq_of_cons-eq (sym k ∙ e))))
        go i h e (is_child p k) =
            place-has K (s ∷ u) (par v.node i) (within _ (omega arith)) (snoc-left (key K (par v.node i)) (s ∷ u) (v.node i).token x (sym k ∙ e))

    has-shorter : (s : ℕ) (u w : Word) → has K (s ∷ (u ++ w)) ≡ true → has K (s ∷ u) ≡ true
    has-shorter s u [] e = subst (λ (x : Word). has K (s ∷ x) ≡ true) (append-nil u) e
    has-shorter s u (x ∷ w) e = has-up s u x (has-shorter s (u ++ (x ∷ [])) w (subst (λ (y : Word). has K (s ∷ y) ≡ true) (sym (append_assoc u (x ∷ []) w)) e))

    has-started : (s : ℕ) (u w : Word) → has K (s ∷ w) ≡ true → starts u w ≡ true → has K (s ∷ u) ≡ true
    has-started s u w e b = let r = starts-rest u w b in has-shorter s u r.0 (subst (λ (x : Word). has K (s ∷ x) ≡ true) r.1 e)

    -- a word of trie s
    called-key : (w : Word) → has ([] ∷ called_forms t.subgoals) w ≡ true → has K (0 ∷ w) ≡ true
    called-key [] e = place-has K (0 ∷ []) 0 (within 0 some) (whole-origin c v W some)
    called-key (x ∷ w) e =
        let p = called-by c v W some (x ∷ w) (unfold has same in e) in
        place-has K (0 ∷ x ∷ w) (v.subgoal p.0).leaf (within _ (leaf-in c v W some p.0 p.1 p.2)) (leaf-key c v W some p.0 p.1 p.2 ∙ ap (λ (y : Word). 0 ∷ y) p.3)

    given-key : (s : ℕ) (w : Word) → 0 < s → s ≤ v.subgoals → has ([] ∷ answers_to t.answers s) w ≡ true → has K (s ∷ w) ≡ true
    given-key s [] h k e = place-has K (s ∷ []) (v.subgoal s).root (within _ (W.subgoal s h k).root_in) (root-key c v W some s h k)
    given-key s (x ∷ w) h k e =
        let p = given_by c v W some s (x ∷ w) (unfold has same in e) in
        place-has K (s ∷ x ∷ w) (v.answer p.0).leaf (within _ (W.answer p.0 p.1 p.2).leaf-in)
        (answer-key c v W some p.0 p.1 p.2 ∙ ap (λ (y : ℕ). y ∷ word_of (answer_path v p.0)) p.3 ∙ ap (λ (y : Word). s ∷ y) p.4)

    none-held : (w : Word) → has [] w ≡ true → ⊥
    unfolding has
    none-held w e = false≢true e

    entry_key : (s : ℕ) (w : Word) → has (under s es) w ≡ true → has K (s ∷ w) ≡ true
    entry_key zero w e = called-key w (rw r.calls at e)
    entry_key (suc s) w e = by_cases (leb (suc s) v.subgoals)
        (λ k. given-key (suc s) w (omega arith) (leb-true _ _ k) (rw (r.replies (suc s) (omega arith) (most (leb-true _ _ k))) at e))
        (λ k. absurd (none-held w (rw (r.unused (suc s) (more (leb-false _ _ k))) at e)))
      where
        most : suc s ≤ v.subgoals → suc s ≤ length t.subgoals
        most h = omega (arith, subgoals-length v)

        more : v.subgoals < suc s → length t.subgoals < suc s
        more h = omega (arith, subgoals-length v)

    key_has : (s : ℕ) (u : Word) → has K (s ∷ u) ≡ true → Begun s u
    key_has s u e =
        let p = has-place K (s ∷ u) e in
        key-begun n p.0 s u (omega (arith, p.1, keys_length v n)) (omega arith) p.2

    has_key : (s : ℕ) (u : Word) → Begun s u → has K (s ∷ u) ≡ true
    has_key s u e = let p = begins-witness (under s es) u e in has-started s u p.0 (entry_key s p.0 p.1) p.2

    equal-tests : (a b : Bool) → (a ≡ true → b ≡ true) → (b ≡ true → a ≡ true) → a ≡ b
    equal-tests true b f g = sym (f refl)
    equal-tests false true f g = g refl
    equal-tests false false f g = refl

    keys-some : has K [] ≡ false
    keys-some = by_cases (has K [])
        (λ e. let p = has-place K [] e in absurd (bare p.0 p.2 ((whole-tries c v W).kind p.0 (omega (arith, p.1, keys_length v n)))))
        (λ e. e)
      where
        bare : (i : ℕ) → key K i ≡ [] → Kind K v.node i → ⊥
        bare i e (is_root y p q k) = let z : ◌≡◌ {A = List ℕ} (y ∷ []) [] = sym k ∙ e in let x : ◌≡◌ {A = ℕ} 0 1 = cc in omega arith
        bare i e (is_child p k) = concat-ne-nil (v.node i).token (key K (par v.node i)) (sym k ∙ e)

    members : (x : Word) → has K x ≡ has (prefixes es) x
    members [] = keys-some ∙ sym (prefixes-some es)
    members (s ∷ u) =
        equal-tests (has K (s ∷ u)) (begins (under s es) u) (key_has s u) (has_key s u) ∙ sym (begins-under s es u) ∙ sym (has-prefixes es s u)

    pub whole-numbering : Numbering es (keys_up v v.nodes)
    whole-numbering = record {
      members = members;
      count = same_count K (prefixes es) (whole-different c v W) (prefixes-different es) members;
      different = whole-different c v W;
    }
