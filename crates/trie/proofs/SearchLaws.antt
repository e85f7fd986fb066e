-- What is known of a child that was found, and of the last sibling.
use Rattle.std.proofs.Common.{◌≡◌, ℕ, zero, suc, ◌<◌, ◌≤◌, true, eqb, refl, ◌∙◌, arith, eqb-true}
use borrow.Author.Tests.{eqb-false}
use Rattle.basis.proofs.Cases.{by_cases}
use Rattle.space.proofs.JudgingLaws.{node-bounds, follows-rises, follows-within}
use Rattle.trie.specs.Siblings.{Trie, sound, search_siblings, search_children}
use Rattle.trie.specs.Walks.{Finding}
use Rattle.trie.specs.declared.Search.{Search}
use Rattle.trie.specs.declared.Search.TheVariants.{Found, Last, Damaged}
use Rattle.trie.proofs.SearchCases.{search-unsound, search-stray, search-same, search-last, search-next, children-none, children-some}

-- what one step of a search at node n comes to, where `rest` is what the search from the next sibling gives
pub data Step (t : Trie) (parent token n : ℕ) (rest : Search) : Search → Type 0 where
  hurt : Step t parent token n rest Damaged
  same : sound t n ≡ true → (t.at n).parent ≡ parent → (t.at n).token ≡ token → Step t parent token n rest (Found n)
  ended : sound t n ≡ true → (t.at n).parent ≡ parent → ((t.at n).token ≡ token → ⊥) → (t.at n).sibling ≡ 0 → Step t parent token n rest (Last n)
  onto : sound t n ≡ true → (t.at n).parent ≡ parent → ((t.at n).token ≡ token → ⊥) → ((t.at n).sibling ≡ 0 → ⊥) → Step t parent token n rest rest

pub search-step : (k : ℕ) (t : Trie) (parent token n : ℕ) → Step t parent token n (search_siblings k t parent token (t.at n).sibling) (search_siblings (suc k) t parent token n)
search-step k t parent token n =
    by_cases (sound t n) (λ s.
    by_cases (eqb (t.at n).parent parent) (λ p.
    by_cases (eqb (t.at n).token token)
    (λ q. rw (search-same k t parent token n s (eqb-true _ _ p) (eqb-true _ _ q)) (same s (eqb-true _ _ p) (eqb-true _ _ q)))
    (λ q.
    by_cases (eqb (t.at n).sibling 0)
    (λ r. rw (search-last k t parent token n s (eqb-true _ _ p) (eqb-false _ _ q) (eqb-true _ _ r)) (ended s (eqb-true _ _ p) (eqb-false _ _ q) (eqb-true _ _ r)))
    (λ r. rw (search-next k t parent token n s (eqb-true _ _ p) (eqb-false _ _ q) (eqb-false _ _ r)) (onto s (eqb-true _ _ p) (eqb-false _ _ q) (eqb-false _ _ r)))))
    (λ p. rw (search-stray k t parent token n s (eqb-false _ _ p)) hurt))
    (λ s. rw (search-unsound k t parent token n s) hurt)

-- the next sibling of a sound node within the nodes used
pub sibling-within : (t : Trie) (n : ℕ) → n < t.nodes → sound t n ≡ true → (t.at n).sibling < t.nodes
sibling-within t n h s =
    follows-within t.nodes n (t.at n).sibling (omega arith) (node-bounds t.nodes t.links n (t.at n) s).sibling-follows

pub sibling-rises : (t : Trie) (n : ℕ) → sound t n ≡ true → ((t.at n).sibling ≡ 0 → ⊥) → n < (t.at n).sibling
sibling-rises t n s = follows-rises t.nodes n (t.at n).sibling (node-bounds t.nodes t.links n (t.at n) s).sibling-follows

pub record Child (t : Trie) (parent token n : ℕ) : Type 0 where
  pub within : n < t.nodes
  pub judged : sound t n ≡ true
  pub parent_is : (t.at n).parent ≡ parent
  pub token-is : (t.at n).token ≡ token

pub step-found : {t : Trie} {parent token n c : ℕ} {rest r : Search} → Step t parent token n rest r → n < t.nodes → r ≡ Found c →
    ((t.at n).sibling < t.nodes → rest ≡ Found c → Child t parent token c) → Child t parent token c
step-found hurt h e again = let z : ◌≡◌ {A = ℕ} 0 1 = cc in absurd (omega arith)
step-found {n = n} {c = c} (same s p q) h e again = let f : n ≡ c = cc in rw (← f) (record { within = h; judged = s; parent_is = p; token-is = q })
step-found (ended s p q r) h e again = let z : ◌≡◌ {A = ℕ} 0 1 = cc in absurd (omega arith)
step-found {t = t} {n = n} (onto s p q r) h e again = again (sibling-within t n h s) e

-- a found child is one, with the token
pub search-found : (steps : ℕ) (t : Trie) (parent token n c : ℕ) → n < t.nodes → search_siblings steps t parent token n ≡ Found c → Child t parent token c
unfolding search_siblings
search-found zero t parent token n c h e = let z : ◌≡◌ {A = ℕ} 0 1 = cc in absurd (omega arith)
search-found (suc k) t parent token n c h e =
    step-found (search-step k t parent token n) h e (λ i f. search-found k t parent token (t.at n).sibling c i f)

-- the first child of a sound node is within the nodes used
pub first-within : (t : Trie) (parent : ℕ) → parent < t.nodes → sound t parent ≡ true → (t.at parent).child < t.nodes
first-within t parent h s =
    follows-within t.nodes parent (t.at parent).child (omega arith) (node-bounds t.nodes t.links parent (t.at parent) s).child-follows

pub children-found : (t : Trie) (parent token c : ℕ) → parent < t.nodes → sound t parent ≡ true → search_children t parent token ≡ Found c → Child t parent token c
children-found t parent token c h s e =
    by_cases (eqb (t.at parent).child 0)
    (λ z. let d = children-none t parent token (t.at parent) refl (eqb-true _ _ z) in let x : ◌≡◌ {A = ℕ} 0 1 = cc in absurd (omega arith))
    (λ z. search-found t.nodes t parent token (t.at parent).child c (first-within t parent h s)
    (children-some t parent token (t.at parent) refl (eqb-false _ _ z) ∙ e))

-- the last sibling has none after it
pub record LastChild (t : Trie) (from n : ℕ) : Type 0 where
  pub within : n < t.nodes
  pub reached : from ≤ n
  pub no-sibling : (t.at n).sibling ≡ 0

pub step-ended : {t : Trie} {parent token n l : ℕ} {rest r : Search} → Step t parent token n rest r → n < t.nodes → r ≡ Last l →
    ((t.at n).sibling < t.nodes → rest ≡ Last l → LastChild t (t.at n).sibling l) → LastChild t n l
step-ended hurt h e again = let z : ◌≡◌ {A = ℕ} 0 1 = cc in absurd (omega arith)
step-ended (same s p q) h e again = let z : ◌≡◌ {A = ℕ} 0 1 = cc in absurd (omega arith)
step-ended {n = n} {l = l} (ended s p q r) h e again = let f : n ≡ l = cc in rw (← f) (record { within = h; reached = omega arith; no-sibling = r })
step-ended {t = t} {n = n} (onto s p q r) h e again =
    let f = again (sibling-within t n h s) e in
    let up = sibling-rises t n s r in
    record { within = f.within; reached = omega arith; no-sibling = f.no-sibling }

pub search-ended : (steps : ℕ) (t : Trie) (parent token n l : ℕ) → n < t.nodes → search_siblings steps t parent token n ≡ Last l → LastChild t n l
unfolding search_siblings
search-ended zero t parent token n l h e = let z : ◌≡◌ {A = ℕ} 0 1 = cc in absurd (omega arith)
search-ended (suc k) t parent token n l h e =
    step-ended (search-step k t parent token n) h e (λ i f. search-ended k t parent token (t.at n).sibling l i f)

-- `last` is the last child of `parent`, or 0 where it has none
pub record Ends (t : Trie) (parent last : ℕ) : Type 0 where
  pub parent-within : parent < t.nodes
  pub last_within : last < t.nodes
  pub no-child : last ≡ 0 → (t.at parent).child ≡ 0
  pub no-sibling : (last ≡ 0 → ⊥) → (t.at last).sibling ≡ 0

pub children-ended : (t : Trie) (parent token last : ℕ) → parent < t.nodes → sound t parent ≡ true → search_children t parent token ≡ Last last → Ends t parent last
children-ended t parent token last h s e =
    by_cases (eqb (t.at parent).child 0)
    (λ z. let c : (t.at parent).child ≡ 0 = eqb-true _ _ z in
    let f : last ≡ 0 = cc (children-none t parent token (t.at parent) refl c) in
    record { parent-within = h; last_within = omega arith; no-child = λ _. c; no-sibling = λ n. absurd (n f) })
    (λ z. let c : (t.at parent).child ≡ 0 → ⊥ = eqb-false _ _ z in
    let f = search-ended t.nodes t parent token (t.at parent).child last (first-within t parent h s)
    (children-some t parent token (t.at parent) refl c ∙ e) in
    record { parent-within = h; last_within = f.within; no-child = λ l. absurd (let r = f.reached in omega arith); no-sibling = λ _. f.no-sibling })

-- what the laws of the walk ask of a way of finding a child: one that is found is a sound node with that parent and token,
-- and where none is found the node named is the parent's last child
pub record Finds (find : Finding) : Type 0 where
  pub found : (t : Trie) (parent token c : ℕ) → parent < t.nodes → sound t parent ≡ true → find t parent token ≡ Found c → Child t parent token c
  pub ended : (t : Trie) (parent token last : ℕ) → parent < t.nodes → sound t parent ≡ true → find t parent token ≡ Last last → Ends t parent last

-- the sibling chains
pub chains-find : Finds search_children
chains-find = record { found = children-found; ended = children-ended }
