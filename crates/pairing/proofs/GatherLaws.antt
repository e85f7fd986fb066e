-- A path gathered by a loop over the nodes from its leaf up, none of them judged again.
use Prim.Native.Nat.{ℕ, suc, ◌-◌, ◌≤◌, ◌<◌}
use mathlib.Core.Path.{◌≡◌, refl, sym, ap, ◌∙◌}
use mathlib.Core.List.{List, [], ◌∷◌, ◌++◌, append-nil, append_assoc}
use native.Mathlib.Omega.{arith}
use lib.ListN.{length, drop, set, length-append, length-set, drop_of_length-le}
use Rattle.basis.proofs.SetsLaws.{drop-written}
use Rattle.plain.specs.Words.{Word}
use Rattle.space.specs.Layout.{sizes, node_in}
use Rattle.space.specs.declared.Node.{Node}
use Rattle.trie.specs.Paths.{tokens, gather, longest}
use Rattle.trie.specs.Runs.{trie_of, path_to}
use Rattle.trie.specs.declared.End.{End}
use Rattle.trie.proofs.PathLaws.{tokens_of, Above, path-root, path-above}
use Rattle.pairing.specs.Pairing.{Gatherable, Gathers}

nothing : (us : List ℕ) → length us ≡ 0 → us ≡ []
nothing [] z = refl
nothing (u ∷ us) z = absurd (omega arith)

-- ---- the loop

-- the path up to node n is still to be gathered; what is behind it stands in the cells from `at` on
pub record Gathering (cs : List ℕ) (e : End) (cells₀ cells : List ℕ) (n at : ℕ) : Type 0 where
  pub used : n < e.nodes
  pub within : at ≤ length cells
  pub size : length cells ≡ length cells₀
  pub fuel : ℕ
  pub first : Word
  pub path : gather fuel (trie_of cs e) e.root n ≡ tokens first
  pub whole : path_to cs e ≡ tokens (first ++ drop at cells)

module _ (cs : List ℕ) (e : End) (cells₀ : List ℕ) where
  pub gathering-begun : Gatherable cs e cells₀ → Gathering cs e cells₀ cells₀ e.leaf (length cells₀)
  gathering-begun g = record {
    used = g.0.1;
    within = omega arith;
    size = refl;
    fuel = longest;
    first = g.1.0;
    path = g.1.1;
    whole = g.1.1 ∙ ap tokens (sym (append-nil g.1.0) ∙ ap (λ (ys : List ℕ). g.1.0 ++ ys) (sym (drop_of_length-le cells₀ {i = length cells₀} (omega arith))));
  }

  module _ (cells : List ℕ) (n at : ℕ) (g : Gathering cs e cells₀ cells n at) where
    -- no cell is left: the path fills them
    pub gathered-all : Gatherable cs e cells₀ → at ≡ 0 → Gathers cs e cells₀ cells 0
    gathered-all p z =
        let u : p.1.0 ≡ g.first ++ drop at cells = ap tokens_of (sym p.1.1 ∙ g.whole) in
        let d : drop at cells ≡ cells = ap (λ (i : ℕ). drop i cells) z in
        let l : length g.first ≡ 0 = omega (arith, ap length u, length-append g.first (drop at cells), ap length d, p.1.2, g.size) in (
          omega arith,
          g.whole ∙ ap (λ (us : List ℕ). tokens (us ++ drop at cells)) (nothing g.first l) ∙ ap (λ (i : ℕ). tokens (drop i cells)) z,
          g.size,
        )

    module _ (y : Node) (is : y ≡ node_in sizes cs n) where
      own : y.parent ≡ ((trie_of cs e).at n).parent
      own = ap (λ (x : Node). x.parent) is

      -- the root is reached
      pub gathered-root : y.parent ≡ n → Gathers cs e cells₀ cells at
      gathered-root p =
          let z : g.first ≡ [] = path-root (trie_of cs e) e.root n g.first g.fuel g.path (sym own ∙ p) in
          (g.within, g.whole ∙ ap (λ (us : List ℕ). tokens (us ++ drop at cells)) z, g.size)

      -- one node more
      module _ (p : y.parent ≡ n → ⊥) where
        above : Above (trie_of cs e) e.root n g.first
        above = path-above (trie_of cs e) e.root n g.first g.fuel g.path (λ q. p (own ∙ q))

        pub gathering-lower : y.parent < n
        gathering-lower = omega (arith, above.lower, own)

        pub gathering-on : 0 < at → Gathering cs e cells₀ (set cells (at - 1) y.token) y.parent (at - 1)
        gathering-on l =
            let w : at ≤ length cells = g.within in
            let s : suc (at - 1) ≡ at = omega arith in
            let k : length (set cells (at - 1) y.token) ≡ length cells = length-set cells (at - 1) y.token in
            let d : drop (at - 1) (set cells (at - 1) y.token) ≡ y.token ∷ drop at cells = drop-written cells (at - 1) y.token (omega arith) ∙ ap (λ (i : ℕ). y.token ∷ drop i cells) s in
            let o : ((trie_of cs e).at n).token ≡ y.token = ap (λ (x : Node). x.token) (sym is) in
            record {
              used = omega (arith, gathering-lower, g.used);
              within = omega arith;
              size = k ∙ g.size;
              fuel = above.fuel;
              first = above.first;
              path = ap (λ (i : ℕ). gather above.fuel (trie_of cs e) e.root i) own ∙ above.path;
              whole =
                  g.whole ∙ ap (λ (us : List ℕ). tokens (us ++ drop at cells)) above.is
                  ∙ ap tokens (append_assoc above.first (((trie_of cs e).at n).token ∷ []) (drop at cells))
                  ∙ ap (λ (x : ℕ). tokens (above.first ++ (x ∷ drop at cells))) o
                  ∙ ap (λ (ys : List ℕ). tokens (above.first ++ ys)) (sym d);
            }
