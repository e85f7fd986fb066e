-- A law for each case of the append.
use Rattle.std.proofs.Common.{◌≡◌, ℕ, ◌+◌, ◌*◌, ◌<◌, ◌≤◌, eqb, List, [], ◌∷◌, length, get_or, drop, set, sym, refl, ap, ◌∙◌, add-one, arith, drop-cons, eq-eqb, ne_eqb, eqb-true}
use lib.Seq.{drop-length}
use borrow.Author.Tests.{eqb-false}
use Rattle.basis.specs.Writes.{writes}
use Rattle.basis.proofs.Cases.{by_cases}
use Rattle.space.specs.Layout.{sizes, node_at, child_cell, sibling_cell, node_to}
use Rattle.trie.specs.Append.{new_node, lead_cell, append_node, append_path}

pub lead-child : (parent last : ℕ) → last ≡ 0 → 8 + 5 * parent + 1 ≡ lead_cell sizes parent last
unfolding lead_cell
lead-child parent last e = simp (eq-eqb _ _ e)

pub lead-sibling : (parent last : ℕ) → (last ≡ 0 → ⊥) → 8 + 5 * last + 2 ≡ lead_cell sizes parent last
unfolding lead_cell
lead-sibling parent last e = simp (ne_eqb _ _ e)

-- the leading cell is of a node below n
pub lead-below : (parent last n : ℕ) → parent < n → last < n → lead_cell sizes parent last < 8 + 5 * n
lead-below parent last n h i =
    by_cases (eqb last 0)
    (λ e. rw (← lead-child parent last (eqb-true _ _ e)) (omega arith))
    (λ e. rw (← lead-sibling parent last (eqb-false _ _ e)) (omega arith))

-- the leading cell is written
module _ (s s' : List ℕ) (n parent last : ℕ) where
  pub led-child : last ≡ 0 → s' ≡ set s (child_cell sizes parent) n → s' ≡ set s (lead_cell sizes parent last) n
  led-child e f = f ∙ ap (λ (k : ℕ). set s k n) (lead-child parent last e)

  pub led-sibling : (last ≡ 0 → ⊥) → s' ≡ set s (sibling_cell sizes last) n → s' ≡ set s (lead_cell sizes parent last) n
  led-sibling e f = f ∙ ap (λ (k : ℕ). set s k n) (lead-sibling parent last e)

-- and then the node
pub node-appended : (s t s' : List ℕ) (n parent last token : ℕ) → t ≡ set s (lead_cell sizes parent last) n →
    s' ≡ writes (node_to (node_at sizes n) (new_node token parent)) t → s' ≡ append_node sizes s n parent last token
unfolding append_node
node-appended s t s' n parent last token e f = f ∙ rw e

path-cons : (s : List ℕ) (n parent last x : ℕ) (xs : List ℕ) →
    append_path sizes s n parent last (x ∷ xs) ≡ append_path sizes (append_node sizes s n parent last x) (n + 1) n 0 xs
unfolding append_path
path-cons s n parent last x xs = refl

-- i tokens are appended: the rest of the path below the node `above`, after `after`, gives the whole w
pub record Growth (nodes : ℕ) (tokens : List ℕ) (size : ℕ) (s : List ℕ) (above after i : ℕ) (w : List ℕ) : Type 0 where
  pub passed : i ≤ length tokens
  pub sized : length s ≡ size
  pub above-below : above < nodes + i
  pub after-below : after < nodes + i
  pub same : w ≡ append_path sizes s (nodes + i) above after (drop i tokens)

pub growth-begin : (nodes : ℕ) (tokens s : List ℕ) (parent last : ℕ) → parent < nodes → last < nodes →
    Growth nodes tokens (length s) s parent last 0 (append_path sizes s nodes parent last tokens)
growth-begin nodes tokens s parent last h i =
    record { passed = omega arith; sized = refl; above-below = omega arith; after-below = omega arith; same = ap (λ (k : ℕ). append_path sizes s k parent last tokens) (omega arith) }

module _ {nodes : ℕ} {tokens : List ℕ} {size : ℕ} {s : List ℕ} {above after i : ℕ} {w : List ℕ} (g : Growth nodes tokens size s above after i w) where
  pub growth-end : length tokens ≤ i → s ≡ w
  unfolding append_path
  growth-end h =
      let p : i ≡ length tokens = let q = g.passed in omega arith in
      let e : drop i tokens ≡ [] = ap (λ (k : ℕ). drop k tokens) p ∙ drop-length tokens in
      sym (g.same ∙ ap (append_path sizes s (nodes + i) above after) e)

  pub growth-more : (s' : List ℕ) → i < length tokens → length s' ≡ length s → s' ≡ append_node sizes s (nodes + i) above after (get_or tokens i 0) →
      Growth nodes tokens size s' (nodes + i) 0 (i + 1) w
  growth-more s' h l e =
      let d : drop i tokens ≡ get_or tokens i 0 ∷ drop (i + 1) tokens = drop-cons tokens i 0 h ∙ rw add-one in
      let m : nodes + i + 1 ≡ nodes + (i + 1) = omega arith in
      record {
        passed = omega arith;
        sized = l ∙ g.sized;
        above-below = omega arith;
        after-below = omega arith;
        same = g.same ∙ ap (append_path sizes s (nodes + i) above after) d
            ∙ path-cons s (nodes + i) above after (get_or tokens i 0) (drop (i + 1) tokens)
            ∙ ap (λ (x : List ℕ). append_path sizes x (nodes + i + 1) (nodes + i) 0 (drop (i + 1) tokens)) (sym e)
            ∙ ap (λ (k : ℕ). append_path sizes s' k (nodes + i) 0 (drop (i + 1) tokens)) m;
      }
