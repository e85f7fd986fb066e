-- The forms of a join on trial, one after another.
use mathlib.Core.Path.{◌≡◌, refl, sym, ap, ◌∙◌, subst}
use mir.Val.{bool_byte}
use mathlib.Core.Bool.{not, Bool, true, false}
use mathlib.Core.List.{List, [], ◌∷◌, ◌++◌}
use Prim.Native.Nat.{ℕ, suc, ◌+◌, ◌-◌, ◌<◌, ◌≤◌, min}
use native.Mathlib.Omega.{arith}
use lib.Dec.{eqb}
use lib.ListN.{length, take, drop, length-drop}
use lib.Seq.{take_all}
use borrow.Author.Tests.{ne_eqb}
use Rattle.std.specs.Prelude.{Some, None, Ok, Err}
use Rattle.basis.specs.Choice.{pick}
use Rattle.plain.specs.Words.{Word, has, most, prefixes}
use Rattle.plain.proofs.Keys.{place-has}
use Rattle.space.specs.Layout.{sizes, node_at, node_in}
use Rattle.space.specs.Sound.{Bounds, subgoal_under}
use Rattle.space.specs.declared.Node.{Node}
use Rattle.trie.specs.Siblings.{trie_in}
use Rattle.trie.specs.Walks.{whole, stopped, Finding, walk_by, shown}
use Rattle.trie.specs.declared.Walked.TheVariants as walked
use Rattle.trie.proofs.SearchLaws.{Finds}
use Rattle.store.specs.Views.{View, answer_trie}
use Rattle.store.specs.Decisions.{walk_to_by, missing, lacking}
use Rattle.store.specs.Clauses.{view_in}
use Rattle.store.proofs.CallsWalks.{shown-whole, shown-stopped, walk-whole, walk-stopped}
use Rattle.agreement.proofs.CellRecords.{Kept}
use Rattle.agreement.proofs.CellRecords as cells
use Rattle.drafts.specs.Drafts.{Keyed, Draftable, words_with, WordDrafted, drafted_to}
use Rattle.drafts.proofs.Steady.{Steady, walk-local}
use Rattle.drafts.proofs.Stops.{stopped-some}
use Rattle.drafts.proofs.Noting.{noted-stopped, noted-needs, noted-whole}
use Rattle.drafts.proofs.DraftLaws.{kept_then}
use Rattle.drafts.proofs.Roots.{prefixes-word, word-brings}
use Rattle.pairing.specs.declared.Sides.{Sides}
use Rattle.join.specs.declared.Tally.{Tally}
use Rattle.join.specs.declared.Untried.TheVariants as untried
use Rattle.join.specs.Trial.{room_of, Within, nodes_for, answers_for, Tallied, Formable, TriesForm}

missing-whole : (n : ℕ) → missing (whole n) ≡ 0
unfolding missing
missing-whole n = refl

missing-stopped : (p l : ℕ) (left : Word) → missing (stopped p l left) ≡ length left
unfolding missing
missing-stopped p l left = refl

lacking-whole : (v : View) (n : ℕ) → lacking v (whole n) ≡ eqb (v.node n).link 0
unfolding lacking
lacking-whole v n = refl

lacking-stopped : (v : View) (p l : ℕ) (left : Word) → lacking v (stopped p l left) ≡ true
unfolding lacking
lacking-stopped v p l left = refl

unheld : (held : Bool) → bool_byte (not held) ≡ pick held 0 1
unheld true = refl
unheld false = refl

module _ {find : Finding} (finds : Finds find) (steady : Steady find) (ds : List ℕ) (x : Sides) (free root : ℕ) (w : Word) (y : Tally) (F : Formable ds x free root w y) where
  -- the nodes that are used are as they were
  agree : (cs : List ℕ) → Within x free cs ds → (n : ℕ) → n < x.h.nodes → node_in sizes cs n ≡ node_in sizes ds n
  agree cs K n l = sym (cells.node-same (node_at sizes n) cs ds (λ j a b. K.below j (omega arith)))

  -- and so is the search of the form
  walk-clean : (cs : List ℕ) → Within x free cs ds → (s : ℕ) → root ≡ (subgoal_under cs x.h s).root
      → walk_to_by find (view_in cs x.h) s w ≡ walk_by find (trie_in sizes ds x.h.nodes x.h.answers) root w
  walk-clean cs K s r =
      ap (λ (i : ℕ). walk_by find (answer_trie (view_in cs x.h)) i w) (sym r)
      ∙ walk-local finds steady (node_in sizes cs) (node_in sizes ds) x.h.nodes x.h.answers (agree cs K) root w F.1

  within : (cs : List ℕ) (s : ℕ) → root ≡ (subgoal_under cs x.h s).root → (subgoal_under cs x.h s).root < x.h.nodes
  within cs s r = subst (λ (i : ℕ). i < x.h.nodes) r F.1

  -- ---- found whole

  module _ (leaf : ℕ) (e : walked.Whole leaf ≡ shown (walk_by find (trie_in sizes ds x.h.nodes x.h.answers) root w)) where
    is_whole : walk_by find (trie_in sizes ds x.h.nodes x.h.answers) root w ≡ whole leaf
    is_whole = shown-whole _ leaf e

    pub whole_in : leaf < x.h.nodes
    whole_in = (walk-whole finds (trie_in sizes ds x.h.nodes x.h.answers) root leaf w F.1 is_whole).within

    pub form-whole : (z : Node) → z ≡ node_in sizes ds leaf → (z.link ≡ 0 → ⊥) → TriesForm find x free root ds y w ds (Ok y)
    form-whole z i o = λ cs before T. (
      record {
        kept = T.kept;
        buckets = T.buckets;
        noted = λ s r. let n = T.noted s r in (n.0, n.1, n.2, noted-whole finds steady (view_in cs x.h) s (within cs s r) n.0 before n.3 w leaf (walk-clean cs T.kept s r ∙ is_whole));
      },
      λ s r.
          let q : walk_to_by find (view_in cs x.h) s w ≡ whole leaf = walk-clean cs T.kept s r ∙ is_whole in
          let linked : (node_in sizes cs leaf).link ≡ 0 → ⊥ = λ g. o (ap (λ (k : Node). k.link) (i ∙ sym (agree cs T.kept leaf whole_in)) ∙ g) in
          (rw (q, missing-whole leaf) (omega arith), rw (q, lacking-whole (view_in cs x.h) leaf, ne_eqb (node_in sizes cs leaf).link 0 linked) (omega arith)),
    )

  pub form-unknown : TriesForm find x free root ds y w ds (Err untried.Unknown)
  form-unknown = λ cs before T. T.kept

  -- ---- stopped

  module _ (parent last k : ℕ) (e : walked.Stopped parent last k ≡ shown (walk_by find (trie_in sizes ds x.h.nodes x.h.answers) root w)) where
    abbrev left : Word
    left = drop (length w - k) w

    is-stopped : (walk_by find (trie_in sizes ds x.h.nodes x.h.answers) root w ≡ stopped parent last (drop (length w - k) w)) × (k ≤ length w) × (parent < x.h.nodes) × (1 ≤ length (drop (length w - k) w))
    is-stopped =
        let r = shown-stopped (walk_by find (trie_in sizes ds x.h.nodes x.h.answers) root w) parent last k e in
        let b = walk-stopped finds (trie_in sizes ds x.h.nodes x.h.answers) root parent last w r.0 F.1 r.1.0 in
        let i : r.0 ≡ drop (length w - k) w = sym b.left_is ∙ ap (λ (j : ℕ). drop (length w - j) w) (sym r.1.1) in
        let m = stopped-some finds steady (trie_in sizes ds x.h.nodes x.h.answers) root w parent last r.0 r.1.0 in
        let size : length r.0 ≡ suc (length m.1) = ap length m.2 in
        let fewer = b.fewer in
        let count = r.1.1 in
        let same_size = ap length i in
        (r.1.0 ∙ ap (stopped parent last) i, omega arith, b.parent-within, omega arith)

    pub few-left : k ≤ length w
    few-left = is-stopped.1

    pub form-draftable : Draftable ds (room_of x free) y.used parent (drop (length w - k) w)
    form-draftable =
        let b : Bounds ds x.h = F.0 in
        let end = b.end-within in (
          record { few = (let m = b.nodes-most in let c = F.2 in omega arith); held = (let f = b.subgoals-from in let g = b.answers-from in let h = b.end-at in let c = F.2 in omega arith) },
          F.3,
          is-stopped.2,
          is-stopped.3,
        )

    -- the same tokens as a part of the form's cells
    part-is : take (length w - (length w - k)) (drop (length w - k) w) ≡ drop (length w - k) w
    part-is = take_all (length w - (length w - k)) (drop (length w - k) w) (let e = length-drop (length w - k) w in omega arith)

    pub part-draftable : Draftable ds (room_of x free) y.used parent (take (length w - (length w - k)) (drop (length w - k) w))
    part-draftable = subst (Draftable ds (room_of x free) y.used parent) (sym part-is) form-draftable

    module _ (cs : List ℕ) (before : List Word) (T : Tallied find cs x free root ds y.used before) (s : ℕ) (r : root ≡ (subgoal_under cs x.h s).root) where
      stops_at : walk_to_by find (view_in cs x.h) s w ≡ stopped parent last (drop (length w - k) w)
      stops_at = walk-clean cs T.kept s r ∙ is-stopped.0

      abbrev es : List Word
      es = (T.noted s r).0

      all_words : prefixes ((T.noted s r).0 ++ ((parent ∷ drop (length w - k) w) ∷ [])) ≡ words_with (prefixes (T.noted s r).0) parent (drop (length w - k) w)
      all_words = prefixes-word es parent left (place-has (prefixes es) (parent ∷ []) parent
          (let n = (T.noted s r).1 in let f = T.buckets.from in let p = is-stopped.2 in omega arith)
          ((T.noted s r).2.old-word parent is-stopped.2))

      -- the nodes in use with the form
      used-with : length (words_with (prefixes (T.noted s r).0) parent (drop (length w - k) w)) ≡ y.used + nodes_for find cs x s before w
      used-with =
          ap length (sym all_words) ∙ word-brings es (parent ∷ left)
          ∙ ap (λ (i : ℕ). i + (suc (length left) - most es (parent ∷ left))) (T.noted s r).1
          ∙ ap (λ (i : ℕ). y.used + i) (sym (noted-needs finds steady (view_in cs x.h) s (within cs s r) es before (T.noted s r).3 w parent last left stops_at)
          ∙ ap (λ (i : ℕ). min i (length w - most before w)) (sym (ap missing stops_at ∙ missing-stopped parent last left)))

      answers_with : (held : Bool) → held ≡ has (T.noted s r).0 (parent ∷ drop (length w - k) w) → bool_byte (not held) ≡ answers_for find cs x s before w
      answers_with held h =
          unheld held ∙ ap (λ (b : Bool). pick b 0 1) (h ∙ (T.noted s r).3.held w parent last left stops_at)
          ∙ ap (λ (b : Bool). pick b (pick (has before w) 0 1) 0) (sym (ap (lacking (view_in cs x.h)) stops_at ∙ lacking-stopped (view_in cs x.h) parent last left))

    module _ (ds' : List ℕ) where
      pub form-full : WordDrafted ds (room_of x free) y.used parent (drop (length w - k) w) ds' None → TriesForm find x free root ds y w ds' (Err untried.Over)
      form-full d = λ cs before T. (
        kept_then T.kept d.0,
        λ s r.
            let n = T.noted s r in
            let l = d.1 (prefixes n.0) n.0 n.1 n.2 in
            let u = used-with cs before T s r in omega arith,
      )

      pub form-counted : (used : ℕ) (held : Bool) → WordDrafted ds (room_of x free) y.used parent (drop (length w - k) w) ds' (Some (drafted_to used held))
          → (one : ℕ) → one ≡ bool_byte (not held)
          → TriesForm find x free root ds y w ds' (Ok (record { used = used; answers = y.answers + one }))
      form-counted used held d one i = λ cs before T. (
        record {
          kept = kept_then T.kept d.0;
          buckets = d.1;
          noted = λ s r.
              let n = T.noted s r in
              let l = d.2 (prefixes n.0) n.0 n.1 n.2 in
              let a = all_words cs before T s r in (
                n.0 ++ ((parent ∷ left) ∷ []),
                ap length a ∙ l.0,
                subst (λ (K : List Word). Keyed (node_in sizes ds') x.h.nodes K (n.0 ++ ((parent ∷ left) ∷ []))) (sym a) l.1,
                noted-stopped finds steady (view_in cs x.h) s (within cs s r) n.0 before n.3 w parent last left (stops_at cs before T s r),
              );
        },
        λ s r.
            let n = T.noted s r in
            let l = d.2 (prefixes n.0) n.0 n.1 n.2 in
            (sym l.0 ∙ used-with cs before T s r, ap (λ (j : ℕ). y.answers + j) (i ∙ answers_with cs before T s r held l.2)),
      )

      pub part-full : WordDrafted ds (room_of x free) y.used parent (take (length w - (length w - k)) (drop (length w - k) w)) ds' None → TriesForm find x free root ds y w ds' (Err untried.Over)
      part-full d = form-full (subst (λ (q : Word). WordDrafted ds (room_of x free) y.used parent q ds' None) part-is d)

      pub part-counted : (used : ℕ) (held : Bool) → WordDrafted ds (room_of x free) y.used parent (take (length w - (length w - k)) (drop (length w - k) w)) ds' (Some (drafted_to used held))
          → (one : ℕ) → one ≡ bool_byte (not held)
          → TriesForm find x free root ds y w ds' (Ok (record { used = used; answers = y.answers + one }))
      part-counted used held d one i = form-counted used held (subst (λ (q : Word). WordDrafted ds (room_of x free) y.used parent q ds' (Some (drafted_to used held))) part-is d) one i
