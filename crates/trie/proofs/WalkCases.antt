-- A law for each case of the walk, by any way of finding a child.
use Rattle.std.specs.Prelude.{None, Some}
use Rattle.std.proofs.Common.{◌≡◌, ℕ, ◌+◌, ◌-◌, ◌<◌, ◌≤◌, true, List, [], ◌∷◌, length, get_or, drop, sym, refl, ap, ◌∙◌, add-one, arith, length-drop, drop-cons, eq-eqb, ne_eqb}
use lib.Seq.{drop-length}
use Rattle.space.specs.Judging.{read_node}
use Rattle.space.specs.declared.Node.{Node}
use Rattle.space.proofs.JudgingLaws.{read-node-sound, read-node-damaged}
use Rattle.trie.specs.Siblings.{Trie, sound}
use Rattle.trie.specs.Walks.{Walk, stopped, damaged, Finding, walk_from_by, walk_by, shown}
use Rattle.trie.specs.declared.Search.TheVariants.{Found, Last, Damaged}
use Rattle.trie.specs.declared.Walked.TheVariants as walked

-- one token of the walk
module _ (find : Finding) (t : Trie) (n x : ℕ) (xs : List ℕ) where
  pub walk-found : (child : ℕ) → find t n x ≡ Found child → walk_from_by find t n (x ∷ xs) ≡ walk_from_by find t child xs
  unfolding walk_from_by
  walk-found child e = rw e

  pub walk-last : (last : ℕ) → find t n x ≡ Last last → walk_from_by find t n (x ∷ xs) ≡ stopped n last (x ∷ xs)
  unfolding walk_from_by
  walk-last last e = rw e

  pub walk-damaged : find t n x ≡ Damaged → walk_from_by find t n (x ∷ xs) ≡ damaged
  unfolding walk_from_by
  walk-damaged e = rw e

-- the walk has come to n with the tokens from i on left, and gives w
pub record Descent (find : Finding) (t : Trie) (tokens : List ℕ) (n i : ℕ) (w : Walk) : Type 0 where
  pub passed : i ≤ length tokens
  pub same : w ≡ walk_from_by find t n (drop i tokens)

pub descent-begin : (find : Finding) (t : Trie) (tokens : List ℕ) (n : ℕ) → Descent find t tokens n 0 (walk_from_by find t n tokens)
descent-begin find t tokens n = record { passed = omega arith; same = refl }

module _ {find : Finding} {t : Trie} {tokens : List ℕ} {n i : ℕ} {w : Walk} (d : Descent find t tokens n i w) where
  pub descent-whole : length tokens ≤ i → walked.Whole n ≡ shown w
  unfolding walk_from_by
  descent-whole h =
      let p : i ≡ length tokens = let q = d.passed in omega arith in
      let e : drop i tokens ≡ [] = ap (λ (k : ℕ). drop k tokens) p ∙ drop-length tokens in
      sym (ap shown (d.same ∙ ap (walk_from_by find t n) e))

  module _ (h : i < length tokens) where
    split : drop i tokens ≡ get_or tokens i 0 ∷ drop (i + 1) tokens
    split = drop-cons tokens i 0 h ∙ rw add-one

    left : w ≡ walk_from_by find t n (get_or tokens i 0 ∷ drop (i + 1) tokens)
    left = d.same ∙ ap (walk_from_by find t n) split

    pub descent-last : (last : ℕ) → Last last ≡ find t n (get_or tokens i 0) → walked.Stopped n last (length tokens - i) ≡ shown w
    descent-last last e =
        let l : length tokens - i ≡ length (get_or tokens i 0 ∷ drop (i + 1) tokens) = sym (length-drop i tokens) ∙ ap length split in
        ap (walked.Stopped n last) l ∙ sym (ap shown (left ∙ walk-last find t n (get_or tokens i 0) (drop (i + 1) tokens) last (sym e)))

    pub descent-damaged : Damaged ≡ find t n (get_or tokens i 0) → walked.Damaged ≡ shown w
    descent-damaged e = sym (ap shown (left ∙ walk-damaged find t n (get_or tokens i 0) (drop (i + 1) tokens) (sym e)))

    pub descent-found : (child : ℕ) → Found child ≡ find t n (get_or tokens i 0) → Descent find t tokens child (i + 1) w
    descent-found child e =
        record {
          passed = omega arith;
          same = left ∙ walk-found find t n (get_or tokens i 0) (drop (i + 1) tokens) child (sym e);
        }

-- from a root
pub root-judged : (t : Trie) (root : ℕ) (y : Node) → Some y ≡ read_node t.nodes t.links t.at root → sound t root ≡ true
root-judged t root y e = (read-node-sound t.nodes t.links t.at root e).1

module _ (find : Finding) (t : Trie) (root : ℕ) (tokens : List ℕ) where
  pub root-damaged : None ≡ read_node t.nodes t.links t.at root → walked.Damaged ≡ shown (walk_by find t root tokens)
  unfolding walk_by
  root-damaged e = rw (read-node-damaged t.nodes t.links t.at root e)

  module _ (y : Node) (e : Some y ≡ read_node t.nodes t.links t.at root) where
    own : y.parent ≡ (t.at root).parent
    own = ap (λ (z : Node). z.parent) (read-node-sound t.nodes t.links t.at root e).0

    pub root-other : (y.parent ≡ root → ⊥) → walked.Damaged ≡ shown (walk_by find t root tokens)
    unfolding walk_by
    root-other p = rw (root-judged t root y e, ne_eqb _ _ (λ (x : (t.at root).parent ≡ root). p (own ∙ x)))

    pub root-walked : y.parent ≡ root → shown (walk_from_by find t root tokens) ≡ shown (walk_by find t root tokens)
    unfolding walk_by
    root-walked p = rw (root-judged t root y e, eq-eqb _ _ (sym own ∙ p))
