-- A decision that fits leaves every node there, with its parent and its token: nodes are never removed, and calls give them
-- children, siblings and links alone.
use mathlib.Core.Path.{◌≡◌, ap, ◌∙◌}
use Prim.Native.Nat.{ℕ, suc, ◌+◌}
use native.Mathlib.Omega.{arith}
use mathlib.Core.List.{[], ◌∷◌}
use lib.Dec.{eqb}
use lib.ListN.{length}
use borrow.Author.Tests.{eqb-true, ne_eqb}
use Rattle.basis.proofs.Cases.{by_cases}
use Rattle.plain.specs.Words.{Word}
use Rattle.space.specs.declared.Node.{Node}
use Rattle.trie.specs.Append.{with_node, with_path}
use Rattle.trie.specs.Ledger.{Grown}
use Rattle.trie.proofs.IndexLaws.{grown-same, grown-on}
use Rattle.store.specs.Views.{View}
use Rattle.store.specs.Decisions.{Decision}
use Rattle.agreement.specs.Records.{Alike, with_link, updated, changed_view, Fits, says-fits, gives_fits, subgoal-fits, answer-fits, empty-fits, finish-fits}
use Rattle.agreement.proofs.TrieNodes.{with-parent, with-token, path-nil, path-cons}

node-grown : (nd : ℕ → Node) (n q l t : ℕ) → Grown nd n (with_node nd n q l t) (n + 1)
node-grown nd n q l t = record { no-fewer = omega arith; parent-kept = with-parent nd n q l t; token-kept = with-token nd n q l t }

path-grown : (nd : ℕ → Node) (n q l : ℕ) (w : Word) → Grown nd n (with_path nd n q l w) (n + length w)
path-grown nd n q l [] = let z : n + 0 ≡ n = omega arith in rw (path-nil nd n q l, z) (grown-same nd n)
path-grown nd n q l (t ∷ w) =
    let z : n + suc (length w) ≡ n + 1 + length w = omega arith in
    rw (path-cons nd n q l t w, z) (grown-on (node-grown nd n q l t) (path-grown (with_node nd n q l t) (n + 1) n 0 w))

-- a link more
link-grown : (nd : ℕ → Node) (n m x : ℕ) → Grown nd n (updated nd m (with_link (nd m) x)) n
link-grown nd n m x = record {
  no-fewer = omega arith;
  parent-kept = λ i h. by_cases (eqb i m) (λ e. rw (e, eqb-true i m e)) (λ e. rw e);
  token-kept = λ i h. by_cases (eqb i m) (λ e. rw (e, eqb-true i m e)) (λ e. rw e);
}

-- a node more
more-grown : (nd : ℕ → Node) (n : ℕ) (y : Node) → Grown nd n (updated nd n y) (n + 1)
more-grown nd n y = record {
  no-fewer = omega arith;
  parent-kept = λ i h. rw (ne_eqb i n (λ e. omega arith));
  token-kept = λ i h. rw (ne_eqb i n (λ e. omega arith));
}

pub changed-grown : (v : View) {d : Decision} → Fits v d → Grown v.node v.nodes (changed_view v d).node (changed_view v d).nodes
unfolding changed_view
changed-grown v (says-fits r) = grown-same v.node v.nodes
changed-grown v (gives_fits ks) = grown-same v.node v.nodes
changed-grown v (subgoal-fits parent last left m a b e f g) =
    grown-on (path-grown v.node v.nodes parent last left) (grown-on (link-grown _ _ _ _) (more-grown _ _ _))
changed-grown v (answer-fits s parent last left a b e f g i j k) =
    grown-on (path-grown v.node v.nodes parent last left) (link-grown _ _ _ _)
changed-grown v (empty-fits s a b e f g) = link-grown v.node v.nodes _ _
changed-grown v (finish-fits s a b) = grown-same v.node v.nodes

-- and so in every view that is alike
pub alike-grown : (u v w : View) → Alike w v → Grown u.node u.nodes v.node v.nodes → Grown u.node u.nodes w.node w.nodes
alike-grown u v w a g =
    let h = g.no-fewer in
    let s = a.nodes-same in
    record {
      no-fewer = omega arith;
      parent-kept = λ i l. ap (λ (y : Node). y.parent) (a.node-same i (omega arith)) ∙ g.parent-kept i l;
      token-kept = λ i l. ap (λ (y : Node). y.token) (a.node-same i (omega arith)) ∙ g.token-kept i l;
    }
