-- Every answer of the build is one that a result word holds: no refusal above 22, and no more children than nodes.
use Prim.Native.Nat.{ℕ, ◌≤◌}
use mathlib.Core.Bool.{Bool, true, false}
use mathlib.Core.List.{List}
use mathlib.Core.Path.{◌≡◌, refl, sym, ap, ◌∙◌}
use native.Mathlib.Omega.{arith}
use lib.ListN.{length}
use Rattle.std.specs.Prelude.{Ok, Err}
use Rattle.basis.specs.Choice.{pick}
use Rattle.space.specs.Layout.{sizes_of, most}
use Rattle.space.specs.Heading.{Header, space_header}
use Rattle.space.proofs.HeaderLaws.{header-bounds}
use Rattle.trie.specs.Siblings.{Trie}
use Rattle.trie.specs.Index.{roomy}
use Rattle.store.specs.Views.{view_of, subgoal_trie}
use Rattle.store.specs.Building.{BuildReply, Build, nodes_fit, unbuilt, build_on, build_under, build_index}
use Rattle.indexing.specs.Parts.{BuildAnswer, said_build}
use Rattle.indexing.proofs.EnterCases.{entering-most}
use Rattle.words.specs.Words.{word_build}
use Rattle.words.specs.Bounded.{BuildBounded}
use Rattle.words.proofs.ReplyBounds.{SmallHeader, any_small}

picked-bounded : (b : Bool) (x y : Build) → BuildBounded x.reply → BuildBounded y.reply → BuildBounded (pick b x y).reply
picked-bounded true x y p q = p
picked-bounded false x y p q = q

on-bounded : (t : Trie) (index : List ℕ) → t.nodes ≤ most → BuildBounded (build_on t index).reply
unfolding build_on
on-bounded t index l =
    picked-bounded (roomy t (length index)) _ (unbuilt 17 index) (omega (arith, entering-most t t.nodes)) (omega arith)

under-bounded : (cs index : List ℕ) (x : Header) → x ≡ space_header cs → SmallHeader x → BuildBounded (build_under cs index x).reply
unfolding build_under
under-bounded cs index (Ok h) e s =
    let b = header-bounds cs h e in
    let v = view_of (sizes_of h.edition) cs h in
    picked-bounded (nodes_fit v v.nodes) (build_on (subgoal_trie v) index) (unbuilt 9 index)
    (on-bounded (subgoal_trie v) index (omega arith)) (omega arith)
under-bounded cs index (Err r) e s = s

pub build-bounded : (cs index : List ℕ) → BuildBounded (build_index cs index).reply
unfolding build_index
build-bounded cs index = under-bounded cs index (space_header cs) refl (any_small cs)

pub reply-bounded : {x y : BuildReply} → x ≡ y → BuildBounded y → BuildBounded x
reply-bounded e b = rw e b

-- ---- an answer and the variant that it is

module _ {a b : BuildAnswer} (same : a ≡ b) where
  pub built-word : (w : ℕ) → w ≡ word_build (said_build b) → w ≡ word_build (said_build a)
  built-word w e = e ∙ ap (λ (x : BuildAnswer). word_build (said_build x)) (sym same)

  pub built-bounded : BuildBounded (said_build a) → BuildBounded (said_build b)
  built-bounded f = rw same at f
