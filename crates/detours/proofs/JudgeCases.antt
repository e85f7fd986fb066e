-- A law for each case of judging a goal's answers.
use Rattle.std.specs.Prelude.{None, Option, Some}
use Prim.Native.Nat.{ℕ, suc, ◌<◌}
use mathlib.Core.Path.{◌≡◌, refl, sym, ap, ◌∙◌, subst}
use mathlib.Core.Bool.{Bool, true, false, ◌&&◌, false≢true}
use mathlib.Core.List.{List, [], ◌∷◌, ◌++◌}
use native.Mathlib.Omega.{arith}
use lib.Dec.{eqb}
use lib.ListN.{length-append}
use borrow.Author.Tests.{eq-eqb, eqb-true, eqb-false}
use Rattle.basis.proofs.Cases.{by_cases}
use Rattle.forms.specs.Cells.{atomic, integral}
use Rattle.forms.specs.Stored.{stored_of}
use Rattle.plain.specs.Words.{Word}
use Rattle.plain.specs.Coding.{coding_of}
use Rattle.plain.specs.Detours.{Live, offers, all_offer}
use Rattle.space.specs.Layout.{sizes, node_in}
use Rattle.space.specs.Judging.{read_node}
use Rattle.space.specs.declared.Node.{Node}
use Rattle.space.specs.Sound.{subgoal_under}
use Rattle.space.specs.declared.Subgoal.{Subgoal}
use Rattle.space.specs.declared.tables.Table.{Table}
use Rattle.space.proofs.JudgingLaws.{node-bounds, read-node-sound, read-node-damaged}
use Rattle.trie.specs.Siblings.{Trie, sound}
use Rattle.trie.specs.Paths.{Path, none, tokens, below, gather}
use Rattle.trie.specs.Runs.{trie_of, path_to}
use Rattle.trie.specs.declared.End.{End}
use Rattle.trie.proofs.PathLaws.{gather-unsound, gather-root, gather-other, gather-up}
use Rattle.trie.proofs.WalkLaws.{both_true}
use Rattle.path_terms.specs.AlongPaths.{worth}
use Rattle.sides.specs.Chains.{PathHeld, all_pass, LivesHeld}
use Rattle.detours.specs.Judging.{offer_form, offer_path, fit_path, fits, AnswersHeld}
use Rattle.detours.proofs.OfferForms.{form-long, offered, offers-form, offer-legal}

-- ---- three nodes of a path

offer-none : offer_path none ≡ false
unfolding offer_path
offer-none = refl

-- no token, or one
offer-empty : offer_path (tokens []) ≡ false
unfolding offer_path offer_form
offer-empty = refl

offer-one : (x : ℕ) → offer_path (tokens (x ∷ [])) ≡ false
unfolding offer_path offer_form
offer-one x = refl

offer-two : (x y : ℕ) → offer_path (tokens (x ∷ y ∷ [])) ≡ (atomic x && integral y)
unfolding offer_path offer_form
offer-two x y = refl

-- a path of three tokens or more
offer-longer : (p : Path) (x y z : ℕ) → offer_path (below (below (below p x) y) z) ≡ false
unfolding offer_path
offer-longer none x y z = refl
offer-longer (tokens ws) x y z =
    form-long (((ws ++ (x ∷ [])) ++ (y ∷ [])) ++ (z ∷ []))
    (omega (arith, length-append ((ws ++ (x ∷ [])) ++ (y ∷ [])) (z ∷ []), length-append (ws ++ (x ∷ [])) (y ∷ []), length-append ws (x ∷ [])))

module _ (t : Trie) (root : ℕ) where
  module _ (n k : ℕ) where
    pub offer-damaged : sound t n ≡ false → false ≡ offer_path (gather k t root n)
    offer-damaged e = sym (rw (gather-unsound t root n k e) offer-none)

    module _ (e : sound t n ≡ true) where
      pub offer-root : (t.at n).parent ≡ n → false ≡ offer_path (gather k t root n)
      offer-root p = by_cases (eqb n root)
          (λ r. sym (rw (gather-root t root n e k p (eqb-true _ _ r)) offer-empty))
          (λ r. sym (rw (gather-other t root n e k p (eqb-false _ _ r)) offer-none))

  module _ (n k : ℕ) (e : sound t n ≡ true) (up : (t.at n).parent ≡ n → ⊥) where
    abbrev first : ℕ
    first = (t.at n).parent

    one_up : gather (suc k) t root n ≡ below (gather k t root first) (t.at n).token
    one_up = gather-up t root n e up k

    pub first-damaged : sound t first ≡ false → false ≡ offer_path (gather (suc k) t root n)
    first-damaged f = sym (rw (one_up, gather-unsound t root first k f) offer-none)

    pub first-root : sound t first ≡ true → (t.at first).parent ≡ first → false ≡ offer_path (gather (suc k) t root n)
    first-root f p = by_cases (eqb first root)
        (λ r. sym (rw (one_up, gather-root t root first f k p (eqb-true _ _ r)) (offer-one (t.at n).token)))
        (λ r. sym (rw (one_up, gather-other t root first f k p (eqb-false _ _ r)) offer-none))

  module _ (n k : ℕ) (e : sound t n ≡ true) (up : (t.at n).parent ≡ n → ⊥) (f : sound t (t.at n).parent ≡ true)
      (up' : (t.at (t.at n).parent).parent ≡ (t.at n).parent → ⊥) where
    abbrev second : ℕ
    second = (t.at (t.at n).parent).parent

    abbrev early : ℕ
    early = (t.at (t.at n).parent).token

    two_up : gather (suc (suc k)) t root n ≡ below (below (gather k t root second) early) (t.at n).token
    two_up = gather-up t root n e up (suc k) ∙ ap (λ (p : Path). below p (t.at n).token) (gather-up t root (t.at n).parent f up' k)

    pub second-damaged : sound t second ≡ false → false ≡ offer_path (gather (suc (suc k)) t root n)
    second-damaged g = sym (rw (two_up, gather-unsound t root second k g) offer-none)

    module _ (g : sound t second ≡ true) where
      pub offer-told : (t.at second).parent ≡ second → second ≡ root → (atomic early && integral (t.at n).token) ≡ offer_path (gather (suc (suc k)) t root n)
      offer-told p r = sym (rw (two_up, gather-root t root second g k p r) (offer-two early (t.at n).token))

      pub offer-other : (t.at second).parent ≡ second → (second ≡ root → ⊥) → false ≡ offer_path (gather (suc (suc k)) t root n)
      offer-other p r = sym (rw (two_up, gather-other t root second g k p r) offer-none)

  module _ (n k : ℕ) (e : sound t n ≡ true) (up : (t.at n).parent ≡ n → ⊥) (f : sound t (t.at n).parent ≡ true)
      (up' : (t.at (t.at n).parent).parent ≡ (t.at n).parent → ⊥) (g : sound t (t.at (t.at n).parent).parent ≡ true) where
    pub offer-deep : ((t.at (t.at (t.at n).parent).parent).parent ≡ (t.at (t.at n).parent).parent → ⊥) → false ≡ offer_path (gather (suc (suc (suc k))) t root n)
    offer-deep u =
        let s = (t.at (t.at n).parent).parent in
        sym (ap offer_path (two_up n (suc k) e up f up'
        ∙ ap (λ (p : Path). below (below p (t.at (t.at n).parent).token) (t.at n).token) (gather-up t root s g u k))
        ∙ offer-longer (gather k t root (t.at s).parent) (t.at s).token (t.at (t.at n).parent).token (t.at n).token)

-- the same by the nodes as they are read
module _ (cs : List ℕ) (e : End) where
  abbrev reads : ℕ → Option Node
  reads n = read_node e.nodes e.links (node_in sizes cs) n

  sound-at : (n : ℕ) (y : Node) → Some y ≡ reads n → (y ≡ node_in sizes cs n) × (sound (trie_of cs e) n ≡ true)
  sound-at n y r = read-node-sound e.nodes e.links (node_in sizes cs) n r

  unsound-at : (n : ℕ) → None ≡ reads n → sound (trie_of cs e) n ≡ false
  unsound-at n r = read-node-damaged e.nodes e.links (node_in sizes cs) n r

  parent_is : (n : ℕ) (y : Node) → Some y ≡ reads n → y.parent ≡ ((trie_of cs e).at n).parent
  parent_is n y r = ap (λ (x : Node). x.parent) (sound-at n y r).0

  token-is : (n : ℕ) (y : Node) → Some y ≡ reads n → y.token ≡ ((trie_of cs e).at n).token
  token-is n y r = ap (λ (x : Node). x.token) (sound-at n y r).0

  -- the node above one is one
  pub above_in : (n : ℕ) (y : Node) → Some y ≡ reads n → n < e.nodes → y.parent < e.nodes
  above_in n y r l = omega (arith, parent_is n y r, (node-bounds e.nodes e.links n (node_in sizes cs n) (sound-at n y r).1).parent-most)

  pub last-damaged : None ≡ reads e.leaf → false ≡ offer_path (path_to cs e)
  last-damaged r = offer-damaged (trie_of cs e) e.root e.leaf 383 (unsound-at e.leaf r)

  module _ (last : Node) (r : Some last ≡ reads e.leaf) where
    pub last-root : last.parent ≡ e.leaf → false ≡ offer_path (path_to cs e)
    last-root p = offer-root (trie_of cs e) e.root e.leaf 383 (sound-at e.leaf last r).1 (sym (parent_is e.leaf last r) ∙ p)

    module _ (u : last.parent ≡ e.leaf → ⊥) where
      up : ((trie_of cs e).at e.leaf).parent ≡ e.leaf → ⊥
      up z = u (parent_is e.leaf last r ∙ z)

      pub above-damaged : None ≡ reads last.parent → false ≡ offer_path (path_to cs e)
      above-damaged q =
          first-damaged (trie_of cs e) e.root e.leaf 382 (sound-at e.leaf last r).1 up
          (unsound-at ((trie_of cs e).at e.leaf).parent (q ∙ ap reads (parent_is e.leaf last r)))

      module _ (first : Node) (q : Some first ≡ reads last.parent) where
        read_first : Some first ≡ reads ((trie_of cs e).at e.leaf).parent
        read_first = q ∙ ap reads (parent_is e.leaf last r)

        parent-first : first.parent ≡ ((trie_of cs e).at ((trie_of cs e).at e.leaf).parent).parent
        parent-first = parent_is ((trie_of cs e).at e.leaf).parent first read_first

        sound-first : sound (trie_of cs e) ((trie_of cs e).at e.leaf).parent ≡ true
        sound-first = (sound-at ((trie_of cs e).at e.leaf).parent first read_first).1

        pub above_root : first.parent ≡ last.parent → false ≡ offer_path (path_to cs e)
        above_root p = first-root (trie_of cs e) e.root e.leaf 382 (sound-at e.leaf last r).1 up sound-first (sym parent-first ∙ p ∙ parent_is e.leaf last r)

        module _ (v : first.parent ≡ last.parent → ⊥) where
          up_first : ((trie_of cs e).at ((trie_of cs e).at e.leaf).parent).parent ≡ ((trie_of cs e).at e.leaf).parent → ⊥
          up_first z = v (parent-first ∙ z ∙ sym (parent_is e.leaf last r))

          pub root-damaged : None ≡ reads first.parent → false ≡ offer_path (path_to cs e)
          root-damaged x =
              second-damaged (trie_of cs e) e.root e.leaf 381 (sound-at e.leaf last r).1 up sound-first up_first
              (unsound-at ((trie_of cs e).at ((trie_of cs e).at e.leaf).parent).parent (x ∙ ap reads parent-first))

          module _ (root : Node) (x : Some root ≡ reads first.parent) where
            abbrev top : ℕ
            top = ((trie_of cs e).at ((trie_of cs e).at e.leaf).parent).parent

            read-root : Some root ≡ reads top
            read-root = x ∙ ap reads parent-first

            sound-root : sound (trie_of cs e) top ≡ true
            sound-root = (sound-at top root read-root).1

            pub root_told : root.parent ≡ first.parent → first.parent ≡ e.root → (atomic first.token && integral last.token) ≡ offer_path (path_to cs e)
            root_told p z =
                rw (token-is ((trie_of cs e).at e.leaf).parent first read_first, token-is e.leaf last r)
                (offer-told (trie_of cs e) e.root e.leaf 381 (sound-at e.leaf last r).1 up sound-first up_first sound-root
                (sym (parent_is top root read-root) ∙ p ∙ parent-first) (sym parent-first ∙ z))

            pub root-other : root.parent ≡ first.parent → (first.parent ≡ e.root → ⊥) → false ≡ offer_path (path_to cs e)
            root-other p z =
                offer-other (trie_of cs e) e.root e.leaf 381 (sound-at e.leaf last r).1 up sound-first up_first sound-root
                (sym (parent_is top root read-root) ∙ p ∙ parent-first) (λ w. z (parent-first ∙ w))

            pub root-above : (root.parent ≡ first.parent → ⊥) → false ≡ offer_path (path_to cs e)
            root-above p =
                offer-deep (trie_of cs e) e.root e.leaf 380 (sound-at e.leaf last r).1 up sound-first up_first sound-root
                (λ w. p (parent_is top root read-root ∙ w ∙ sym parent-first))

-- ---- a path judged

module _ (edition m : ℕ) where
  -- an atom and an integer, held against two terms
  held-fit : (p : Path) → m ≡ 2 → offer_path p ≡ true → PathHeld (fits edition m) edition p m true
  unfolding offer_path
  held-fit none e f = absurd (false≢true f)
  held-fit (tokens w) e f =
      let o = offered w f in
      let l : (stored_of edition).legal 2 w ≡ true = rw o.is (offer-legal edition o.diverter o.minutes o.atom o.integer) in
      let g : offers ((coding_of edition).terms w) ≡ true = offers-form edition w l ∙ f in
      (w, refl, rw e l, rw (eq-eqb m 2 e, g) refl)

  pub path-fit : (p : Path) → true ≡ fit_path m p → PathHeld (fits edition m) edition p m true
  path-fit p e = let b = both_true (eqb m 2) (offer_path p) (sym e) in held-fit p (eqb-true m 2 b.0) b.1

  unfit : (w : Word) → (stored_of edition).legal m w ≡ true → false ≡ fit_path m (tokens w) → fits edition m w ≡ false
  unfolding offer_path
  unfit w l e = by_cases (eqb m 2)
      (λ t. let g : (stored_of edition).legal 2 w ≡ true = subst (λ (j : ℕ). (stored_of edition).legal j w ≡ true) (eqb-true m 2 t) l in
      rw t (offers-form edition w g ∙ sym (rw t at e)))
      (λ t. rw t refl)

  pub path-unfit : (p : Path) (n : ℕ) → n ≡ worth edition m false p → (n ≡ 0 → ⊥) → false ≡ fit_path m p → PathHeld (fits edition m) edition p m false
  path-unfit none n e z f = absurd (z e)
  path-unfit (tokens w) n e z f =
      by_cases ((stored_of edition).legal m w)
      (λ l. (w, refl, l, unfit w l f))
      (λ l. let d : n ≡ 0 = rw l at e in absurd (z d))

-- ---- all answers

-- the test that the closure judges by asks for two variables too
pass-offer : (edition : ℕ) (ls : List Live) → all_pass (fits edition 2) ls ≡ all_offer (coding_of edition) ls
unfolding all_pass all_offer
pass-offer edition [] = refl
pass-offer edition (l ∷ ls) = by_cases (offers ((coding_of edition).terms l.form)) (λ e. rw e (pass-offer edition ls)) (λ e. rw e refl)

pass-fit : (edition m : ℕ) (ls : List Live) → (eqb m 2 && all_offer (coding_of edition) ls) ≡ (eqb m 2 && all_pass (fits edition m) ls)
pass-fit edition m ls = by_cases (eqb m 2)
    (λ e. rw (eqb-true m 2 e) (sym (pass-offer edition ls)))
    (λ e. rw e refl)

module _ (table : Table) (s : ℕ) (g : Subgoal) (f : g ≡ subgoal_under table.cells.now table.head s) where
  pub answers-held : (b : Bool) → LivesHeld (fits table.head.edition g.variables) table s b → AnswersHeld table s (eqb g.variables 2 && b)
  answers-held b e = (
    e.0,
    e.1,
    ap (λ (x : Subgoal). eqb x.variables 2 && all_offer (coding_of table.head.edition) e.0) (sym f) ∙ pass-fit table.head.edition g.variables e.0
        ∙ ap (λ (x : Bool). eqb g.variables 2 && x) e.2,
  )
