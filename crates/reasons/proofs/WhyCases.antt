-- A law for each case of why: the way down by first children, the subgoal of a leaf, the reason.
use Rattle.std.specs.Prelude.{Err, None, Ok, Result, Some}
use Rattle.basis.specs.Refusals.{number_of}
use Rattle.basis.specs.declared.refusals.Refusal.{Refusal}
use Rattle.basis.specs.declared.refusals.Refusal.TheVariants as refusal
use Prim.Native.Nat.{ℕ, zero, suc, ◌+◌, ◌-◌, ◌<◌, ◌≤◌}
use mathlib.Core.Path.{◌≡◌, refl, sym, ap, ◌∙◌}
use mathlib.Core.Bool.{Bool, true, false, ◌&&◌}
use mathlib.Core.List.{List, []}
use native.Mathlib.Omega.{arith}
use lib.ListN.{length, get_or, take, drop, length-take, length-drop}
use lib.Dec.{eqb, ltb}
use borrow.Author.Tests.{eq-eqb, ne_eqb, ltb-false}
use Rattle.basis.specs.Choice.{pick}
use Rattle.forms.specs.Cells.{callable, arity_of}
use Rattle.forms.specs.Converting.{reading, formed}
use Rattle.forms.specs.Numbering.{met}
use Rattle.forms.specs.Stored.{stored_of, stores_pairs, pair_stored, compact_stored}
use Rattle.forms.specs.Terms.{are_terms}
use Rattle.forms.proofs.NumberingLaws.{numbered-length}
use Rattle.forms.proofs.RoundTrip.{form-size}
use Rattle.plain.specs.Requests.{State, Reply, new, old_subgoal, old_as, new_past, because, refused, why, lent}
use Rattle.space.specs.Layout.{sizes, node_in}
use Rattle.space.specs.Judging.{read_node}
use Rattle.space.specs.declared.Head.{Head}
use Rattle.space.specs.declared.Node.{Node}
use Rattle.space.proofs.JudgingLaws.{node-bounds, follows-rises, read-node-sound, read-node-damaged}
use Rattle.trie.specs.Siblings.{trie_in, sound}
use Rattle.trie.specs.Walks.{Finding, Walk, whole, stopped, damaged, walk_by}
use Rattle.trie.proofs.SearchLaws.{first-within}
use Rattle.store.specs.Views.{View, subgoal_trie}
use Rattle.store.specs.Decisions.{Decision, says, refuses, state_of, sound_subgoal, called_old, leads, astray, firsts_from, named_by, new_at, reasoned_at, reasoned_by, decide_by}
use Rattle.store.specs.Clauses.{view_in}
use Rattle.store.specs.Replies.{said_reason, NamedIn}
use Rattle.store.specs.declared.Reason.{Reason}
use Rattle.store.specs.declared.Reason.TheVariants as reason
use Rattle.store.proofs.CallsReading.{variables-are, variables-few, called-refused, called-other, called-form}
use Rattle.store.proofs.CallsCases.{Comes, comes, decided-says}
use Rattle.convert.proofs.AnswerLaws.{taken-room, reading-length}
use Rattle.reasons.specs.Clauses.{Judged, Descends, NamesLeaf, NamesFew, Reasons, old_at, new_below, reasoned_from}

-- ---- first children

module _ (v : View) (n : ℕ) where
  firsts-end : (k : ℕ) → 0 < k → (v.node n).child ≡ 0 → firsts_from v k n ≡ leads n
  unfolding firsts_from
  firsts-end zero h e = absurd (omega arith)
  firsts-end (suc k) h e = rw (eq-eqb _ _ e)

  module _ (ne : (v.node n).child ≡ 0 → ⊥) where
    firsts-lost : (k : ℕ) → 0 < k → sound (subgoal_trie v) (v.node n).child ≡ false → firsts_from v k n ≡ astray
    unfolding firsts_from
    firsts-lost zero h s = absurd (omega arith)
    firsts-lost (suc k) h s = rw (ne_eqb _ _ ne, s)

    module _ (s : sound (subgoal_trie v) (v.node n).child ≡ true) where
      firsts-stray : (k : ℕ) → 0 < k → ((v.node (v.node n).child).parent ≡ n → ⊥) → firsts_from v k n ≡ astray
      unfolding firsts_from
      firsts-stray zero h p = absurd (omega arith)
      firsts-stray (suc k) h p = rw (ne_eqb _ _ ne, s, ne_eqb _ _ p)

      firsts-on : (k : ℕ) → 0 < k → (v.node (v.node n).child).parent ≡ n → firsts_from v k n ≡ firsts_from v (k - 1) (v.node n).child
      unfolding firsts_from
      firsts-on zero h p = absurd (omega arith)
      firsts-on (suc k) h p =
          let i : suc k - 1 ≡ k = omega arith in
          rw (ne_eqb _ _ ne, s, eq-eqb _ _ p) (ap (λ (j : ℕ). firsts_from v j (v.node n).child) (sym i))

-- the way from i has come to n, whose first child is c, and so many steps would end it
pub record Descending (cs : List ℕ) (h : Head) (i n c : ℕ) : Type 0 where
  pub inside : n < h.nodes
  pub judged : sound (trie_in sizes cs h.nodes h.subgoals) n ≡ true
  pub child-is : (node_in sizes cs n).child ≡ c
  pub steps : ℕ
  pub enough : h.nodes ≤ n + steps
  pub same : firsts_from (view_in cs h) h.nodes i ≡ firsts_from (view_in cs h) steps n

module _ (cs : List ℕ) (h : Head) (i : ℕ) where
  pub descending-begin : Judged cs h i → (y : Node) → y ≡ node_in sizes cs i → Descending cs h i i y.child
  descending-begin j y e = record { inside = j.0; judged = j.1; child-is = sym (ap (λ (x : Node). x.child) e); steps = h.nodes; enough = omega arith; same = refl }

  module _ {n c : ℕ} (d : Descending cs h i n c) where
    some : 0 < d.steps
    some = omega (arith, d.inside, d.enough)

    pub child-inside : c < h.nodes
    child-inside = let l = first-within (trie_in sizes cs h.nodes h.subgoals) n d.inside d.judged in omega (arith, d.child-is)

    pub descending-end : c ≡ 0 → Descends cs h i (Some n)
    descending-end z = (d.same ∙ firsts-end (view_in cs h) n d.steps some (d.child-is ∙ z), (d.inside, d.judged))

    module _ (ne : c ≡ 0 → ⊥) where
      none : (node_in sizes cs n).child ≡ 0 → ⊥
      none z = ne (sym d.child-is ∙ z)

      pub child-rises : n < c
      child-rises =
          let b = (node-bounds h.nodes h.subgoals n (node_in sizes cs n) d.judged).child-follows in
          let l = follows-rises h.nodes n (node_in sizes cs n).child b none in
          omega (arith, d.child-is)

      pub descending-lost : None ≡ read_node h.nodes h.subgoals (node_in sizes cs) c → Descends cs h i None
      descending-lost e =
          let s = read-node-damaged h.nodes h.subgoals (node_in sizes cs) c e in
          d.same ∙ firsts-lost (view_in cs h) n none d.steps some (ap (λ (j : ℕ). sound (trie_in sizes cs h.nodes h.subgoals) j) d.child-is ∙ s)

      module _ (x : Node) (e : Some x ≡ read_node h.nodes h.subgoals (node_in sizes cs) c) where
        child-sound : sound (trie_in sizes cs h.nodes h.subgoals) c ≡ true
        child-sound = (read-node-sound h.nodes h.subgoals (node_in sizes cs) c e).1

        child-read : x ≡ node_in sizes cs c
        child-read = (read-node-sound h.nodes h.subgoals (node_in sizes cs) c e).0

        first-sound : sound (trie_in sizes cs h.nodes h.subgoals) (node_in sizes cs n).child ≡ true
        first-sound = ap (λ (j : ℕ). sound (trie_in sizes cs h.nodes h.subgoals) j) d.child-is ∙ child-sound

        first-parent : (node_in sizes cs (node_in sizes cs n).child).parent ≡ x.parent
        first-parent = ap (λ (j : ℕ). (node_in sizes cs j).parent) d.child-is ∙ sym (ap (λ (y : Node). y.parent) child-read)

        pub descending-stray : (x.parent ≡ n → ⊥) → Descends cs h i None
        descending-stray p = d.same ∙ firsts-stray (view_in cs h) n none first-sound d.steps some (λ z. p (sym first-parent ∙ z))

        pub descending-on : x.parent ≡ n → Descending cs h i c x.child
        descending-on p =
            let f = firsts-on (view_in cs h) n none first-sound d.steps some (first-parent ∙ p) in
            record {
              inside = child-inside;
              judged = child-sound;
              child-is = sym (ap (λ (y : Node). y.child) child-read);
              steps = d.steps - 1;
              enough = omega (arith, d.enough, child-rises);
              same = d.same ∙ f ∙ ap (firsts_from (view_in cs h) (d.steps - 1)) d.child-is;
            }

-- ---- the subgoal of a leaf

old-test : (b : Bool) (s t : ℕ) (x y : State) → says (old_subgoal t x) ≡ pick b (says (old_subgoal s y)) (refuses 9) → (b ≡ true) × (t ≡ s)
old-test true s t x y e = let z : t ≡ s = cc in (refl, z)
old-test false s t x y e = let z : ◌≡◌ {A = ℕ} 0 1 = cc in absurd (omega arith)

other_test : (b : Bool) (s : ℕ) (y : State) (q : Reply) → ((t : ℕ) (x : State) → q ≡ old_subgoal t x → ⊥) → says q ≡ pick b (says (old_subgoal s y)) (refuses 9) → b ≡ false
other_test true s y q f e = let z : q ≡ old_subgoal s y = cc in absurd (f s y z)
other_test false s y q f e = refl

module _ (cs : List ℕ) (h : Head) (leaf : ℕ) (y : Node) (n : y ≡ node_in sizes cs leaf) where
  abbrev s : ℕ
  s = (node_in sizes cs leaf).link

  abbrev test : Bool
  test = ltb 0 s && sound_subgoal (view_in cs h) s && eqb ((view_in cs h).subgoal s).leaf leaf

  pub leaf-named : (t : ℕ) (x : State) → says (old_subgoal t x) ≡ called_old (view_in cs h) leaf y.link → NamesLeaf cs h leaf (Ok t)
  unfolding called_old named_by
  leaf-named t x e say =
      let f : says (old_subgoal t x) ≡ pick test (says (old_subgoal s (state_of ((view_in cs h).subgoal s).state))) (refuses 9) = e ∙ ap (λ (z : Node). called_old (view_in cs h) leaf z.link) n in
      let r = old-test test s t x (state_of ((view_in cs h).subgoal s).state) f in
      rw r.0 (ap (λ (j : ℕ). says (say j)) (sym r.1))

  pub leaf-unnamed : (q : Reply) → says q ≡ called_old (view_in cs h) leaf y.link → ((t : ℕ) (x : State) → q ≡ old_subgoal t x → ⊥) → NamesLeaf cs h leaf (Err refusal.Records)
  unfolding called_old named_by
  leaf-unnamed q e f say =
      let g : says q ≡ pick test (says (old_subgoal s (state_of ((view_in cs h).subgoal s).state))) (refuses 9) = e ∙ ap (λ (z : Node). called_old (view_in cs h) leaf z.link) n in
      rw (other_test test s (state_of ((view_in cs h).subgoal s).state) q f g)

-- ---- the reason

module _ (cs : List ℕ) (h : Head) (leaf m : ℕ) where
  pub old-lost : (r : Refusal) → NamesLeaf cs h leaf (Err r) → Reasons m (old_at (view_in cs h) leaf m) (Err r)
  old-lost r k = (λ vs. sym (k (λ t. because (old_as t (take m vs)))), tt)

  pub old-found : (s : ℕ) → NamesLeaf cs h leaf (Ok s) → Reasons m (old_at (view_in cs h) leaf m) (Ok (reason.Old s m))
  old-found s k = (λ vs. sym (k (λ t. because (old_as t (take m vs)))), omega arith)

module _ (cs : List ℕ) (h : Head) (parent n : ℕ) where
  abbrev NewReasons : Result Reason Refusal → Type 0
  NewReasons r = (m : ℕ) → Reasons m (new_below (view_in cs h) parent n) r

  pub new_none : n ≡ 0 → NewReasons (Ok (reason.New 0 0))
  new_none e m = (λ vs. rw (eq-eqb n 0 e), tt)

  module _ (e : n ≡ 0 → ⊥) where
    pub new-astray : Descends cs h parent None → NewReasons (Err refusal.Records)
    unfolding new_at
    new-astray d m = (λ vs. rw (ne_eqb n 0 e, d), tt)

    module _ (leaf : ℕ) (d : Descends cs h parent (Some leaf)) where
      pub new-lost : (r : Refusal) → NamesLeaf cs h leaf (Err r) → NewReasons (Err r)
      unfolding new_at
      new-lost r k m = (λ vs. rw (ne_eqb n 0 e, d.0) (sym (k (λ t. because (new_past n t)))), tt)

      pub new-found : (s : ℕ) → NamesLeaf cs h leaf (Ok s) → NewReasons (Ok (reason.New n s))
      unfolding new_at
      new-found s k m = (λ vs. rw (ne_eqb n 0 e, d.0) (sym (k (λ t. because (new_past n t)))), tt)

-- after the walk
module _ (find : Finding) (v : View) (w : List ℕ) (m : ℕ) where
  abbrev Walks : Walk → Type 0
  Walks x = walk_by find (subgoal_trie v) 0 w ≡ x

  pub reasons-whole : (leaf : ℕ) (r : Result Reason Refusal) → Walks (whole leaf) → Reasons m (old_at v leaf m) r → Reasons m (reasoned_from find v w m) r
  unfolding reasoned_at
  reasons-whole leaf r e k = (λ vs. rw e (k.0 vs), k.1)

  pub reasons-stopped : (parent last : ℕ) (left : List ℕ) (r : Result Reason Refusal) (n : ℕ) → Walks (stopped parent last left) → n ≡ length w - length left
      → Reasons m (new_below v parent n) r → Reasons m (reasoned_from find v w m) r
  unfolding reasoned_at
  reasons-stopped parent last left r n e l k = (λ vs. rw (e, ← l) (k.0 vs), k.1)

  pub reasons-damaged : Walks damaged → Reasons m (reasoned_from find v w m) (Err refusal.Records)
  unfolding reasoned_at
  reasons-damaged e = (λ vs. rw e, tt)

-- terms that were read have few tokens, in either stored form
legal-test : (n v k w : ℕ) (a b c : Bool) → Ok (formed n v) ≡ pick a (Err refusal.Length) (pick b (pick c (Err refusal.Variables) (Ok (formed k w))) (Err refusal.Term)) → (a ≡ false) × (b ≡ true)
legal-test n v k w true b c e = let z : ◌≡◌ {A = ℕ} 0 1 = cc in absurd (omega arith)
legal-test n v k w false true c e = (refl, refl)
legal-test n v k w false false c e = let z : ◌≡◌ {A = ℕ} 0 1 = cc in absurd (omega arith)

module _ (e m : ℕ) (cs : List ℕ) (n v : ℕ) (read : Ok (formed n v) ≡ reading (arity_of e) (stored_of e) m cs) where
  legal-cells : (ltb 256 (length cs) ≡ false) × (are_terms (arity_of e) m cs ≡ true)
  unfolding reading
  legal-cells = legal-test n v (length ((stored_of e).form cs)) (length (met [] cs)) (ltb 256 (length cs)) (are_terms (arity_of e) m cs) (ltb 32 (length (met [] cs))) read

  few-cells : length cs ≤ 256
  few-cells = let l = ltb-false 256 (length cs) legal-cells.0 in omega arith

  form-few : length ((stored_of e).form cs) ≤ 383
  unfolding stored_of
  form-few = go (stores_pairs e)
    where
      go : (b : Bool) → length ((pick b (pair_stored (arity_of e)) (compact_stored (arity_of e))).form cs) ≤ 383
      go true = omega (arith, numbered-length cs, few-cells)
      go false = (form-size (arity_of e) m cs legal-cells.1 few-cells).1

  pub tokens-few : n ≤ 383
  tokens-few = rw (reading-length (arity_of e) (stored_of e) m cs n v read) form-few

-- a term that was read
module _ (find : Finding) (cs : List ℕ) (h : Head) (term : List ℕ) where
  pub why-refused : (r : Refusal) → Err r ≡ reading (arity_of h.edition) (stored_of h.edition) 1 term → Comes find cs h (why term) (refused (number_of r)) cs
  unfolding decide_by lent reasoned_by
  why-refused r e = comes find cs h (why term) (refuses (number_of r)) (refused (number_of r)) cs refl (rw (called-refused h.edition term r e)) (decided-says find cs h (refused (number_of r)))

  module _ (n m : ℕ) (e : Ok (formed n m) ≡ reading (arity_of h.edition) (stored_of h.edition) 1 term) where
    pub why-other : callable (get_or term 0 0) ≡ false → Comes find cs h (why term) (refused 6) cs
    unfolding decide_by lent reasoned_by
    why-other f = comes find cs h (why term) (refuses 6) (refused 6) cs refl (rw (called-other h.edition term n m e f)) (decided-says find cs h (refused 6))

    module _ (vars buffer : List ℕ) (r : Result Reason Refusal) (v : take m vars ≡ met [] term) where
      pub why-form : callable (get_or term 0 0) ≡ true → take n buffer ≡ (stored_of h.edition).form term
          → Reasons m (reasoned_from find (view_in cs h) (take n buffer) m) r → Comes find cs h (why term) (said_reason r vars) cs
      unfolding decide_by lent reasoned_by
      why-form f b k =
          comes find cs h (why term) (says (said_reason r vars)) (said_reason r vars) cs refl
          (rw (called-form h.edition term n m e f, ← b, ← v) (sym (k.0 vars)))
          (decided-says find cs h (said_reason r vars))

      few-named : (q : Result Reason Refusal) → NamesFew m q → NamedIn vars q
      few-named (Ok (reason.Old s k)) l =
          let room = taken-room m vars (met [] term) v (variables-are _ _ 1 term n m e) in
          let few = variables-few _ _ 1 term n m e in
          (omega (arith, l), omega (arith, l))
      few-named (Ok (reason.New k s)) l = tt
      few-named (Err x) l = tt

      pub why-named : {d : List ℕ → Decision} → Reasons m d r → NamedIn vars r
      why-named k = few-named r k.1

-- ---- answers that call_old cannot give for an old term, and a leaf's link

pub new-other : (n t : ℕ) (x : State) → new n ≡ old_subgoal t x → ⊥
new-other n t x e = let z : ◌≡◌ {A = ℕ} 0 1 = cc in omega arith

pub refused-other : (n t : ℕ) (x : State) → refused n ≡ old_subgoal t x → ⊥
refused-other n t x e = let z : ◌≡◌ {A = ℕ} 0 1 = cc in omega arith

pub link-most : (cs : List ℕ) (h : Head) (leaf : ℕ) (y : Node) → Judged cs h leaf → y ≡ node_in sizes cs leaf → y.link ≤ h.subgoals
link-most cs h leaf y j e = rw e (node-bounds h.nodes h.subgoals leaf (node_in sizes cs leaf) j.1).link-most

-- the tokens found are those that are not left
pub found-count : (w : List ℕ) (count : ℕ) → count ≤ length w → length w - count ≡ length w - length (take (length w - (length w - count)) (drop (length w - count) w))
found-count w count l =
    let a = length-drop (length w - count) w in
    let b = length-take (length w - (length w - count)) (drop (length w - count) w) in
    omega arith
