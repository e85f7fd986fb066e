-- A word drafted token by token.
use Rattle.drafts.specs.Entries.{arrived}
use Rattle.std.specs.Prelude.{None, Some}
use Prim.Native.Nat.{ℕ, suc, ◌+◌, ◌<◌, ◌≤◌}
use mathlib.Core.Path.{◌≡◌, refl, sym, ap, ◌∙◌, subst}
use mathlib.Core.Bool.{Bool, true, false}
use mathlib.Core.List.{List, [], ◌∷◌, ◌++◌}
use mathlib.Core.Logic.{inl, inr}
use native.Mathlib.Omega.{arith}
use lib.ListN.{length, get_or, take, drop, length-set, length-append}
use lib.Seq.{get_or-set_same, get_or-set_other, drop-cons, drop-length, take-suc, take-length}
use Rattle.basis.proofs.Cases.{by_cases}
use Rattle.plain.specs.Words.{Word, has, add, union}
use Rattle.plain.proofs.WordLaws.{add-old, add-new, union-nil, union-old, union-new}
use Rattle.plain.proofs.PrefixLaws.{longer}
use Rattle.plain.proofs.Keys.{place-has}
use Rattle.space.specs.Layout.{sizes, node_at, node_in, link_cell}
use Rattle.space.specs.Sound.{NodesIn, NodeOf}
use Rattle.space.specs.declared.Node.{Node}
use Rattle.agreement.proofs.CellRecords.{Kept}
use Rattle.drafts.specs.declared.Room.{Room}
use Rattle.drafts.specs.Entries.{slot_in, entry_slot, Bucketed, lowest, highest, Reachable, Absent, Present, EntryPlaced, EntryReached}
use Rattle.drafts.specs.Drafts.{word_of, Keyed, Draftable, words_with, WordDrafted, LinkMarked, drafted_to}
use Rattle.drafts.proofs.DraftLaws.{kept_same, kept_then, known-word, absent-word, keyed-more, word-new, size-new, keyed-marked, was-marked}

-- ---- lists of words

add-grows : (vs : List Word) (w : Word) → length vs ≤ length (add vs w)
add-grows vs w = by_cases (has vs w)
    (λ e. rw (add-old vs w e) (omega arith))
    (λ e. rw (add-new vs w e) (omega (arith, length-append vs (w ∷ []))))

pub union-grows : (ws vs : List Word) → length vs ≤ length (union vs ws)
unfolding union
union-grows [] vs = omega arith
union-grows (w ∷ ws) vs = let a = add-grows vs w in let b = union-grows ws (add vs w) in omega arith

longer-cons : (q : Word) (t : ℕ) (w : Word) → longer q (t ∷ w) ≡ (q ++ (t ∷ [])) ∷ longer (q ++ (t ∷ [])) w
unfolding longer
longer-cons q t w = refl

longer-nil : (q : Word) → longer q [] ≡ []
unfolding longer
longer-nil q = refl

-- ---- links have no part in the slots

module _ (at at' : ℕ → Node) (x : Room) (used : ℕ) (B : Bucketed at x used)
    (te : (m : ℕ) → (at' m).token ≡ (at m).token) (pe : (m : ℕ) → (at' m).parent ≡ (at m).parent)
    (ce : (m : ℕ) → (at' m).child ≡ (at m).child) (se : (m : ℕ) → (at' m).sibling ≡ (at m).sibling) where
  slot_same : (m : ℕ) → entry_slot x (at' m) ≡ entry_slot x (at m)
  slot_same m = ap (λ (i : ℕ). slot_in x i (at' m).token) (pe m) ∙ ap (slot_in x (at m).parent) (te m)

  bucketed-same : Bucketed at' x used
  bucketed-same = record {
    some = B.some;
    from = B.from;
    fits = B.fits;
    head-below = λ b l h. let k = B.head-below b l h in let e = ce b in omega arith;
    head-new = λ b l h z. let e = ce b in let k = B.head-new b l h (λ q. z (e ∙ q)) in omega arith;
    head-slot = λ b l h z. let e = ce b in ap (λ (y : ℕ). entry_slot x (at' y)) e ∙ slot_same (at b).child ∙ B.head-slot b l h (λ q. z (e ∙ q));
    head-all = λ b l h n a c s. let e = ce b in let r = B.head-all b l h n a c (sym (slot_same n) ∙ s) in omega arith;
    next-below = λ n l h. let k = B.next-below n l h in let e = se n in omega arith;
    next-new = λ n l h z. let e = se n in let k = B.next-new n l h (λ q. z (e ∙ q)) in omega arith;
    next-slot = λ n l h z. let e = se n in ap (λ (y : ℕ). entry_slot x (at' y)) e ∙ slot_same (at n).sibling ∙ B.next-slot n l h (λ q. z (e ∙ q)) ∙ sym (slot_same n);
    next-all = λ n l h m a c s. let e = se n in let r = B.next-all n l h m a c (sym (slot_same m) ∙ s ∙ slot_same n) in omega arith;
    parent-below = λ n l h. let k = B.parent-below n l h in let e = pe n in omega arith;
  }

-- ---- the loop

pub record Drafting (cs0 : List ℕ) (x : Room) (used0 stop : ℕ) (tokens cs : List ℕ) (n used i : ℕ) : Type 0 where
  pub kept : Kept (lowest x) (highest x) cs0 cs
  pub nodes : NodesIn cs (x.base + x.most)
  pub buckets : Bucketed (node_in sizes cs) x used
  pub within : n < used
  pub entry : (i ≡ 0 → ⊥) → x.base ≤ n
  pub words : (K ends : List Word) → length K ≡ used0 → Keyed (node_in sizes cs0) x.base K ends
      → (L : List Word) × (length L ≡ used) × Keyed (node_in sizes cs) x.base L ends × (word_of L n ≡ stop ∷ take i tokens)
      × (union L (longer (word_of L n) (drop i tokens)) ≡ words_with K stop tokens)

module _ (cs0 : List ℕ) (x : Room) (used0 stop : ℕ) (tokens : List ℕ) (D : Draftable cs0 x used0 stop tokens) where
  pub drafting-begun : Drafting cs0 x used0 stop tokens cs0 stop used0 0
  drafting-begun = record {
    kept = kept_same (lowest x) (highest x) cs0;
    nodes = D.0;
    buckets = D.1;
    within = (let f = D.1.from in let l = D.2 in omega arith);
    entry = λ z. absurd (z refl);
    words = λ K ends e Q. let w = Q.old-word stop D.2 in (K, e, Q, w, ap (λ (q : Word). union K (longer q tokens)) w);
  }

  module _ (cs : List ℕ) (n used i : ℕ) (G : Drafting cs0 x used0 stop tokens cs n used i) where
    pub drafting-reachable : Reachable cs x used n
    drafting-reachable = (G.nodes, G.buckets, G.within)

    module _ (more : i < length tokens) where
      abbrev t : ℕ
      t = get_or tokens i 0

      word_on : (w : Word) → w ≡ stop ∷ take i tokens → w ++ (get_or tokens i 0 ∷ []) ≡ stop ∷ take (suc i) tokens
      word_on w e = ap (λ (q : Word). q ++ (t ∷ [])) e ∙ ap (λ (q : Word). stop ∷ q) (sym (take-suc tokens i 0 more))

      -- the words that the token and those behind it add
      adds : (L : List Word) (q : Word) → union L (longer q (drop i tokens)) ≡ union L ((q ++ (get_or tokens i 0 ∷ [])) ∷ longer (q ++ (get_or tokens i 0 ∷ [])) (drop (suc i) tokens))
      adds L q = ap (λ (w : Word). union L (longer q w)) (drop-cons tokens i 0 more) ∙ ap (union L) (longer-cons q t (drop (suc i) tokens))

      known_on : (m : ℕ) → Present (node_in sizes cs) x used n (get_or tokens i 0) m → Drafting cs0 x used0 stop tokens cs m used (suc i)
      known_on m p = record {
        kept = G.kept;
        nodes = G.nodes;
        buckets = G.buckets;
        within = p.high;
        entry = λ _. p.low;
        words = λ K ends e Q.
            let r = G.words K ends e Q in
            let L : List Word = r.0 in
            let q : word_of L m ≡ word_of L n ++ (t ∷ []) = known-word (node_in sizes cs) x used G.buckets L ends r.1 r.2 n t G.within m p in
            let there : has L (word_of L n ++ (t ∷ [])) ≡ true = place-has L (word_of L n ++ (t ∷ [])) m (let l = r.1 in let h = p.high in omega arith) q in (
              L,
              r.1,
              r.2,
              q ∙ word_on (word_of L n) r.3,
              ap (λ (w : Word). union L (longer w (drop (suc i) tokens))) q ∙ sym (union-old L (word_of L n ++ (t ∷ [])) (longer (word_of L n ++ (t ∷ [])) (drop (suc i) tokens)) there) ∙ sym (adds L (word_of L n)) ∙ r.4,
            );
      }

      made-on : (ds : List ℕ) → Absent (node_in sizes cs) x used n (get_or tokens i 0) → EntryPlaced cs x used n (get_or tokens i 0) ds → Drafting cs0 x used0 stop tokens ds used (used + 1) (suc i)
      made-on ds a p = record {
        kept = kept_then G.kept p.2;
        nodes = record { few = G.nodes.few; held = (let z = p.2.size in let h = G.nodes.held in omega arith) };
        buckets = p.1;
        within = omega arith;
        entry = λ _. G.buckets.from;
        words = λ K ends e Q.
            let r = G.words K ends e Q in
            let L : List Word = r.0 in
            let lacks : has L (word_of L n ++ (t ∷ [])) ≡ false = absent-word (node_in sizes cs) x used G.buckets L ends r.1 r.2 n t G.within a in
            let M : List Word = L ++ ((word_of L n ++ (t ∷ [])) ∷ []) in
            let q : word_of M used ≡ word_of L n ++ (t ∷ []) = word-new (node_in sizes cs) x used G.buckets L ends r.1 r.2 n t G.within (node_in sizes ds) (slot_in x n t) p.0 lacks in (
              L ++ ((word_of L n ++ (t ∷ [])) ∷ []),
              size-new (node_in sizes cs) x used G.buckets L ends r.1 r.2 n t G.within (node_in sizes ds) (slot_in x n t) p.0 lacks,
              keyed-more (node_in sizes cs) x used G.buckets L ends r.1 r.2 n t G.within (node_in sizes ds) (slot_in x n t) p.0 lacks,
              q ∙ word_on (word_of L n) r.3,
              ap (λ (w : Word). union M (longer w (drop (suc i) tokens))) q ∙ sym (union-new L (word_of L n ++ (t ∷ [])) (longer (word_of L n ++ (t ∷ [])) (drop (suc i) tokens)) lacks) ∙ sym (adds L (word_of L n)) ∙ r.4,
            );
      }

      reached-on : (ds : List ℕ) (m used' : ℕ) → EntryReached cs x used n (get_or tokens i 0) ds (Some (arrived m used')) → Drafting cs0 x used0 stop tokens ds m used' (suc i)
      reached-on ds m used' (inl k) =
          subst (λ (u : ℕ). Drafting cs0 x used0 stop tokens ds m u (suc i)) (sym k.1)
          (subst (λ (c : List ℕ). Drafting cs0 x used0 stop tokens c m used (suc i)) (sym k.2) (known_on m k.0))
      reached-on ds m used' (inr k) =
          subst (λ (u : ℕ). Drafting cs0 x used0 stop tokens ds m u (suc i)) (sym k.2)
          (subst (λ (j : ℕ). Drafting cs0 x used0 stop tokens ds j (used + 1) (suc i)) (sym k.1) (made-on ds k.0 k.3))

      pub drafting-on : (ds : List ℕ) (m used' : ℕ) → EntryReached cs x used n (get_or tokens i 0) ds (Some (arrived m used')) → Drafting cs0 x used0 stop tokens ds m used' (i + 1)
      drafting-on ds m used' r = let e : suc i ≡ i + 1 = omega arith in subst (Drafting cs0 x used0 stop tokens ds m used') e (reached-on ds m used' r)

      pub drafting-full : (ds : List ℕ) → EntryReached cs x used n (get_or tokens i 0) ds None → WordDrafted cs0 x used0 stop tokens ds None
      drafting-full ds f = (
        subst (Kept (lowest x) (highest x) cs0) (sym f.2) G.kept,
        λ K ends e Q.
            let r = G.words K ends e Q in
            let L : List Word = r.0 in
            let lacks : has L (word_of L n ++ (t ∷ [])) ≡ false = absent-word (node_in sizes cs) x used G.buckets L ends r.1 r.2 n t G.within f.0 in
            let rest : List Word = longer (word_of L n ++ (t ∷ [])) (drop (suc i) tokens) in
            let all : words_with K stop tokens ≡ union (L ++ ((word_of L n ++ (t ∷ [])) ∷ [])) rest = sym r.4 ∙ adds L (word_of L n) ∙ union-new L (word_of L n ++ (t ∷ [])) rest lacks in
            let g = union-grows rest (L ++ ((word_of L n ++ (t ∷ [])) ∷ [])) in
            let s = length-append L ((word_of L n ++ (t ∷ [])) ∷ []) in
            let z = ap length all in
            omega (arith, r.1, f.1),
      )

    -- ---- the end

    module _ (whole : (i < length tokens → ⊥)) (most-i : i ≤ length tokens) where
      abbrev at : ℕ → Node
      at = node_in sizes cs

      end_is : i ≡ length tokens
      end_is = omega arith

      end-entry : x.base ≤ n
      end-entry = G.entry (λ z. let l = D.3 in omega (arith, end_is))

      pub mark-node : NodeOf cs (x.base + x.most) n
      mark-node = (G.nodes, let h = G.within in let f = G.buckets.fits in omega arith)

      module _ (ds : List ℕ) (held : Bool) (m : LinkMarked cs n ds held) where
        abbrev at' : ℕ → Node
        at' = node_in sizes ds

        cell_same : (j : ℕ) → (j ≡ link_cell sizes n → ⊥) → get_or ds j 0 ≡ get_or cs j 0
        cell_same j o = ap (λ (c : List ℕ). get_or c j 0) m.0 ∙ get_or-set_other cs (link_cell sizes n) j 1 0 o

        link-there : link_cell sizes n < length cs
        link-there = let h = G.within in let f = G.buckets.fits in let z = G.nodes.held in omega arith

        pub drafting-done : WordDrafted cs0 x used0 stop tokens ds (Some (drafted_to used held))
        drafting-done =
            let te : (j : ℕ) → (node_in sizes ds j).token ≡ (node_in sizes cs j).token = λ j. cell_same (node_at sizes j) (λ q. omega arith) in
            let ce : (j : ℕ) → (node_in sizes ds j).child ≡ (node_in sizes cs j).child = λ j. cell_same (node_at sizes j + 1) (λ q. omega arith) in
            let se : (j : ℕ) → (node_in sizes ds j).sibling ≡ (node_in sizes cs j).sibling = λ j. cell_same (node_at sizes j + 2) (λ q. omega arith) in
            let pe : (j : ℕ) → (node_in sizes ds j).parent ≡ (node_in sizes cs j).parent = λ j. cell_same (node_at sizes j + 3) (λ q. omega arith) in
            let le : (j : ℕ) → (j ≡ n → ⊥) → (node_in sizes ds j).link ≡ (node_in sizes cs j).link = λ j o. cell_same (node_at sizes j + 4) (λ q. o (omega arith)) in
            let ln : (node_in sizes ds n).link ≡ 1 = ap (λ (c : List ℕ). get_or c (link_cell sizes n) 0) m.0 ∙ get_or-set_same cs (link_cell sizes n) 1 0 link-there in
            let h = G.within in
            let f = G.buckets.fits in
            let low = end-entry in (
              kept_then G.kept (record {
                size = ap length m.0 ∙ length-set cs (link_cell sizes n) 1;
                below = λ k l. cell_same k (λ q. omega arith);
                above = λ k l. cell_same k (λ q. omega arith);
              }),
              bucketed-same (node_in sizes cs) (node_in sizes ds) x used G.buckets te pe ce se,
              λ K ends e Q.
                  let r = G.words K ends e Q in
                  let L : List Word = r.0 in
                  let w : word_of L n ≡ stop ∷ tokens = r.3 ∙ ap (λ (j : ℕ). stop ∷ take j tokens) end_is ∙ ap (λ (q : Word). stop ∷ q) (take-length tokens) in
                  let all : L ≡ words_with K stop tokens = sym (ap (λ (q : Word). union L (longer (word_of L n) q)) (ap (λ (j : ℕ). drop j tokens) end_is ∙ drop-length tokens) ∙ ap (union L) (longer-nil (word_of L n)) ∙ union-nil L) ∙ r.4 in (
                    ap length (sym all) ∙ r.1,
                    subst (λ (M : List Word). Keyed (node_in sizes ds) x.base M (ends ++ ((stop ∷ tokens) ∷ []))) all
                        (subst (λ (q : Word). Keyed (node_in sizes ds) x.base L (ends ++ (q ∷ []))) w
                        (keyed-marked (node_in sizes cs) x used G.buckets L ends r.1 r.2 n low h (node_in sizes ds) te pe ln le)),
                    was-marked (node_in sizes cs) x used G.buckets L ends r.1 r.2 n low h (node_in sizes ds) te pe ln le held m.1 ∙ ap (has ends) w,
                  ),
            )
