-- What a climb and a gathered path return and leave, case by case.
use Rattle.std.proofs.Common.{get_or, drop-cons}
use Rattle.std.specs.Prelude.{None, Some}
use Rattle.std.proofs.Common.{◌≡◌, ℕ, suc, ◌+◌, ◌-◌, ◌*◌, ◌<◌, ◌≤◌, true, leb, List, [], ◌∷◌, ◌++◌, length, drop, set, sym, refl, ap, ◌∙◌, append_assoc, append-nil, arith, length-append, length-set, drop_of_length-le, drop-drop, leb-false, leb-true}
use Rattle.basis.proofs.SetsLaws.{drop-written}
use Rattle.basis.proofs.Cases.{by_cases}
use lib.Seq.{drop-append-le}
use Rattle.space.specs.Judging.{read_node}
use Rattle.space.specs.declared.Node.{Node}
use Rattle.space.proofs.JudgingLaws.{node-bounds, read-node-sound, read-node-damaged}
use Rattle.trie.specs.Siblings.{Trie, sound}
use Rattle.trie.specs.Paths.{Path, none, tokens, gather, longest}
use Rattle.trie.specs.Runs.{levels, path_cells, onto, Climb, lost, to_root, cut, longer, climbed, lost_code, on_code, Ran, RunCopied, PathHolds, RunsHold, trie_of, path_to, Begun, ClimbsRuns, Found, GathersWhole}
use Rattle.trie.specs.declared.End.{End}
use Rattle.trie.proofs.PathLaws.{climbed-unsound, climbed-root, climbed-other, climbed-up, Tells, climbed-tells, Within, gather-within}

-- ---- a climb

done-lost : (left : ℕ) (c : Climb) (a : List ℕ) → c ≡ lost → Ran left c a a lost_code
done-lost left c a e = rw e (refl, tt, refl)

done-whole : (left : ℕ) (c : Climb) (a : List ℕ) → c ≡ to_root [] → Ran left c a a left
done-whole left c a e =
    let z : left ≡ left - 0 = omega arith in
    rw e (z, ap (λ (i : ℕ). drop i a) (sym z), refl)

-- the tokens met above a token that was written
behind : (a b xs : List ℕ) (left token : ℕ) → 1 ≤ left → left ≤ length a → drop (left - 1 - length xs) b ≡ xs ++ drop (left - 1) (set a (left - 1) token)
    → drop (left - length (xs ++ (token ∷ []))) b ≡ (xs ++ (token ∷ [])) ++ drop left a
behind a b xs left token o h e =
    let k : length (xs ++ (token ∷ [])) ≡ length xs + 1 = length-append xs (token ∷ []) in
    let i : left - length (xs ++ (token ∷ [])) ≡ left - 1 - length xs = omega arith in
    let s : suc (left - 1) ≡ left = omega arith in
    ap (λ (j : ℕ). drop j b) i ∙ e
    ∙ ap (λ (ys : List ℕ). xs ++ ys) (drop-written a (left - 1) token (omega arith) ∙ ap (λ (j : ℕ). token ∷ drop j a) s)
    ∙ sym (append_assoc xs (token ∷ []) (drop left a))

done-longer : (left token : ℕ) (c : Climb) (a b : List ℕ) (r : ℕ) → 1 ≤ left → left ≤ length a → Ran (left - 1) c (set a (left - 1) token) b r → Ran left (longer c token) a b r
done-longer left token lost a b r o h d = (d.0, tt, d.2 ∙ length-set a (left - 1) token)
done-longer left token (to_root xs) a b r o h d =
    let k : length (xs ++ (token ∷ [])) ≡ length xs + 1 = length-append xs (token ∷ []) in
    let e : r ≡ left - 1 - length xs = d.0 in
    (omega arith, behind a b xs left token o h d.1, d.2 ∙ length-set a (left - 1) token)
done-longer left token (cut n xs) a b r o h d = (d.0, behind a b xs left token o h d.1, d.2 ∙ length-set a (left - 1) token)

module _ (left : ℕ) (t : Trie) (root n : ℕ) (a : List ℕ) (o : 1 ≤ left) where
  one_more_lem : left ≡ suc (left - 1)
  one_more_lem = omega arith

  pub climb-damaged : None ≡ read_node t.nodes t.links t.at n → Ran left (climbed left t root n) a a lost_code
  climb-damaged e = done-lost left _ a (ap (λ (m : ℕ). climbed m t root n) one_more_lem ∙ climbed-unsound t root n (left - 1) (read-node-damaged t.nodes t.links t.at n e))

  module _ (y : Node) (e : Some y ≡ read_node t.nodes t.links t.at n) where
    is : y ≡ t.at n
    is = (read-node-sound t.nodes t.links t.at n e).0

    judged : sound t n ≡ true
    judged = (read-node-sound t.nodes t.links t.at n e).1

    own : y.parent ≡ (t.at n).parent
    own = ap (λ (z : Node). z.parent) is

    pub climb-lower : y.parent ≤ n
    climb-lower = let b = node-bounds t.nodes t.links n (t.at n) judged in let o = own in omega arith

    pub climb-root : y.parent ≡ n → n ≡ root → Ran left (climbed left t root n) a a left
    climb-root p r = done-whole left _ a (ap (λ (m : ℕ). climbed m t root n) one_more_lem ∙ climbed-root t root n (left - 1) judged (sym own ∙ p) r)

    pub climb-other : y.parent ≡ n → (n ≡ root → ⊥) → Ran left (climbed left t root n) a a lost_code
    climb-other p r = done-lost left _ a (ap (λ (m : ℕ). climbed m t root n) one_more_lem ∙ climbed-other t root n (left - 1) judged (sym own ∙ p) r)

    module _ (p : y.parent ≡ n → ⊥) (h : left ≤ length a) where
      up : climbed left t root n ≡ longer (climbed (left - 1) t root y.parent) y.token
      up =
          ap (λ (m : ℕ). climbed m t root n) one_more_lem ∙ climbed-up t root n (left - 1) judged (λ x. p (own ∙ x))
          ∙ ap (λ (x : Node). longer (climbed (left - 1) t root x.parent) x.token) (sym is)

      pub climb-more : (b : List ℕ) (r : ℕ) → Ran (left - 1) (climbed (left - 1) t root y.parent) (set a (left - 1) y.token) b r → Ran left (climbed left t root n) a b r
      climb-more b r d = rw up (done-longer left y.token (climbed (left - 1) t root y.parent) a b r o h d)

      pub climb-cut : left - 1 ≡ 0 → Ran left (climbed left t root n) a (set a (left - 1) y.token) (on_code + y.parent)
      unfolding climbed
      climb-cut z = climb-more (set a (left - 1) y.token) (on_code + y.parent) (rw z (refl, refl, refl))

-- ---- a run of a path

-- a step of copying a run, the last cell first
pub copied-step : (run path rest : List ℕ) (from i j : ℕ) → j ≡ i + 1 → i < length run → from + i < length path → drop (from + j) path ≡ drop j run ++ rest
    → drop (from + i) (set path (from + i) (get_or run i 0)) ≡ drop i run ++ rest
copied-step run path rest from i j s h k e =
    let f : suc (from + i) ≡ from + j = omega arith in
    let g : j ≡ suc i = omega arith in
    drop-written path (from + i) (get_or run i 0) k
    ∙ ap (λ (m : ℕ). get_or run i 0 ∷ drop m path) f
    ∙ ap (λ (ys : List ℕ). get_or run i 0 ∷ ys) (e ∙ ap (λ (m : ℕ). drop m run ++ rest) g)
    ∙ ap (λ (ys : List ℕ). ys ++ rest) (sym (drop-cons run i 0 h))

pub copied_none : (run path : List ℕ) (from : ℕ) → length run ≡ levels → drop (from + levels) path ≡ drop levels run ++ drop (from + levels) path
copied_none run path from l = ap (λ (ys : List ℕ). ys ++ drop (from + levels) path) (sym (drop_of_length-le run {i = levels} (omega arith)))

-- a run as it was climbed, at its end
tokens-of : (xs before sub : List ℕ) → length before ≡ levels → drop (levels - length xs) sub ≡ xs ++ drop levels before → drop (levels - length xs) sub ≡ xs
tokens-of xs before sub l e = e ∙ ap (λ (ys : List ℕ). xs ++ ys) (drop_of_length-le before {i = levels} (omega arith)) ∙ append-nil xs

module _ (t : Trie) (root n runs : ℕ) (a before sub after : List ℕ) (r : ℕ) (one : 1 ≤ runs) (old : length before ≡ levels) (new : length sub ≡ levels)
    (put : RunCopied sub (levels * (runs - 1)) a after) where
  abbrev from : ℕ
  from = levels * (runs - 1)

  -- the cells of the run, and those behind it
  run-kept : (xs : List ℕ) → length xs ≤ levels → drop (levels - length xs) sub ≡ xs ++ drop levels before → drop (from + (levels - length xs)) after ≡ xs ++ drop (levels * runs) a
  run-kept xs h e =
      let f : from + levels ≡ levels * runs = omega arith in
      sym (drop-drop (levels - length xs) from after)
      ∙ ap (drop (levels - length xs)) put.0
      ∙ drop-append-le (levels - length xs) sub (drop (from + levels) a) (omega arith)
      ∙ ap (λ (ys : List ℕ). ys ++ drop (from + levels) a) (tokens-of xs before sub old e)
      ∙ ap (λ (j : ℕ). xs ++ drop j a) f

  pub whole_run : (c : Climb) → Tells t root n levels c → Ran levels c before sub r → r < lost_code → RunsHold runs (gather (levels * runs - 1) t root n) (from + r) a after
  whole_run lost x d h = let e : r ≡ lost_code = d.0 in absurd (omega arith)
  whole_run (cut p xs) x d h = let e : r ≡ on_code + p = d.0 in absurd (omega arith)
  whole_run (to_root xs) x d h =
      let e : r ≡ levels - length xs = d.0 in
      let m : length xs ≤ levels = x.0 in
      by_cases (leb (length xs) (levels * runs - 1))
      (λ b. let s = leb-true _ _ b in rw (x.1 (levels * runs - 1) s) ((omega arith, ap (λ (j : ℕ). drop (from + j) after) e ∙ run-kept xs m d.1), put.1))
      (λ b. let s = leb-false _ _ b in rw (x.2 (levels * runs - 1) s) (omega arith, put.1))

  pub lost-run : (c : Climb) → Tells t root n levels c → Ran levels c before sub r → r ≡ lost_code → RunsHold runs (gather (levels * runs - 1) t root n) 0 a after
  lost-run lost x d h = rw (x (levels * runs - 1)) (refl, put.1)
  lost-run (to_root xs) x d h = let e : r ≡ levels - length xs = d.0 in absurd (omega arith)
  lost-run (cut p xs) x d h = let e : r ≡ on_code + p = d.0 in absurd (omega arith)

  pub last-run : (c : Climb) → Tells t root n levels c → Ran levels c before sub r → lost_code < r → runs ≡ 1 → RunsHold runs (gather (levels * runs - 1) t root n) 0 a after
  last-run lost x d h i = let e : r ≡ lost_code = d.0 in absurd (omega arith)
  last-run (to_root xs) x d h i = let e : r ≡ levels - length xs = d.0 in absurd (omega arith)
  last-run (cut p xs) x d h i = rw (x.3 (levels * runs - 1) (omega arith)) (refl, put.1)

  -- the runs above, with the tokens of this one behind theirs
  onto-placed : (p : Path) (xs b : List ℕ) (q : ℕ) → length xs ≡ levels → drop from after ≡ xs ++ drop (levels * runs) a → PathHolds from p q after b → PathHolds (levels * runs) (onto p xs) q a b
  onto-placed none xs b q m e d = d
  onto-placed (tokens ys) xs b q m e d =
      let k : length (ys ++ xs) ≡ length ys + length xs = length-append ys xs in
      let s : q + length ys ≡ from = d.0 in
      (omega arith, d.1 ∙ ap (λ (zs : List ℕ). ys ++ zs) e ∙ sym (append_assoc ys xs (drop (levels * runs) a)))

  pub next-run : (c : Climb) → Tells t root n levels c → Ran levels c before sub r → lost_code < r → (runs ≡ 1 → ⊥) → (b : List ℕ) (q : ℕ)
      → RunsHold (runs - 1) (gather (from - 1) t root (r - on_code)) q after b → RunsHold runs (gather (levels * runs - 1) t root n) q a b
  next-run lost x d h i b q u = let e : r ≡ lost_code = d.0 in absurd (omega arith)
  next-run (to_root xs) x d h i b q u = let e : r ≡ levels - length xs = d.0 in absurd (omega arith)
  next-run (cut p xs) x d h i b q u =
      let m : length xs ≡ levels = x.0 in
      let e : r - on_code ≡ p = let e : r ≡ on_code + p = d.0 in omega arith in
      let f : from - 1 ≡ levels * runs - 1 - levels = omega arith in
      let z : from + (levels - length xs) ≡ from = omega arith in
      let w : gather (from - 1) t root (r - on_code) ≡ gather (levels * runs - 1 - levels) t root p = ap (λ (j : ℕ). gather j t root (r - on_code)) f ∙ ap (gather (levels * runs - 1 - levels) t root) e in
      rw (x.2 (levels * runs - 1) (omega arith)) (
        onto-placed (gather (levels * runs - 1 - levels) t root p) xs b q m
            (ap (λ (j : ℕ). drop j after) (sym z) ∙ run-kept xs (omega arith) d.1)
            (rw w at u.0),
        u.1 ∙ put.1,
      )

-- ---- a path in the cells of runs

-- the node number falls from run to run
cut-lower : (t : Trie) (root n : ℕ) (a b : List ℕ) (r : ℕ) (c : Climb) → Tells t root n levels c → Ran levels c a b r → lost_code < r → r - on_code < n
cut-lower t root n a b r lost x d h = let e : r ≡ lost_code = d.0 in absurd (omega arith)
cut-lower t root n a b r (to_root xs) x d h = let e : r ≡ levels - length xs = d.0 in absurd (omega arith)
cut-lower t root n a b r (cut p xs) x d h = let e : r ≡ on_code + p = d.0 in let l = x.1 in omega arith

module _ (cs : List ℕ) (e : End) where
  abbrev climbed_from : ℕ → Climb
  climbed_from n = climbed levels (trie_of cs e) e.root n

  tells : (n : ℕ) → Tells (trie_of cs e) e.root n levels (climbed_from n)
  tells n = climbed-tells (trie_of cs e) e.root levels n

  -- what a climb from node n answers, where that is to be gone on from, is a lower node
  climb-falls : (n : ℕ) (a b : List ℕ) (r : ℕ) → Ran levels (climbed_from n) a b r → lost_code < r → r - on_code < n
  climb-falls n a b r d h = cut-lower (trie_of cs e) e.root n a b r (climbed_from n) (tells n) d h

  -- the same from run to run
  pub run-falls : (r : ℕ) (a b : List ℕ) (q : ℕ) → Ran levels (climbed_from (r - on_code)) a b q → lost_code < r → q < r
  run-falls r a b q d h =
      by_cases (leb q lost_code)
      (λ t. let l : q ≤ lost_code = leb-true q lost_code t in omega arith)
      (λ t. let l : lost_code < q = leb-false q lost_code t in let f = climb-falls (r - on_code) a b q d l in omega arith)

  pub run_on : (r : ℕ) (a b : List ℕ) (q : ℕ) → Ran levels (climbed_from (r - on_code)) a b q → r - on_code < e.nodes → on_code ≤ q → q - on_code < e.nodes
  run_on r a b q d l h = let f = climb-falls (r - on_code) a b q d (omega arith) in omega arith

  module _ (r : ℕ) (run : List ℕ) (runs : ℕ) (a after : List ℕ) (one : 1 ≤ runs) (new : length run ≡ levels) (put : RunCopied run (levels * (runs - 1)) a after) where
    pub runs-whole : r < lost_code → ClimbsRuns cs e r run runs a after (levels * (runs - 1) + r)
    runs-whole h = (put.1, λ n before old d. whole_run (trie_of cs e) e.root n runs a before run after r one old new put (climbed_from n) (tells n) d h)

    pub runs-lost : r ≡ lost_code → ClimbsRuns cs e r run runs a after 0
    runs-lost h = (put.1, λ n before old d. lost-run (trie_of cs e) e.root n runs a before run after r one old new put (climbed_from n) (tells n) d h)

    pub runs_last : lost_code < r → runs ≡ 1 → ClimbsRuns cs e r run runs a after 0
    runs_last h i = (put.1, λ n before old d. last-run (trie_of cs e) e.root n runs a before run after r one old new put (climbed_from n) (tells n) d h i)

    -- the next run, climbed from the node where this one was cut
    pub runs-next : lost_code < r → (runs ≡ 1 → ⊥) → (empty next : List ℕ) (q : ℕ) → length empty ≡ levels → Ran levels (climbed_from (r - on_code)) empty next q
        → (b : List ℕ) (k : ℕ) → ClimbsRuns cs e q next (runs - 1) after b k → ClimbsRuns cs e r run runs a b k
    runs-next h i empty next q z ran b k u =
        (u.0 ∙ put.1, λ n before old d. next-run (trie_of cs e) e.root n runs a before run after r one old new put (climbed_from n) (tells n) d h i b k (u.1 (r - on_code) empty z ran))

  -- ---- a path that was begun

  module _ (r : ℕ) (cells : List ℕ) (b : Begun cs e r cells) where
    pub begun-size : length cells ≡ levels
    begun-size = b.ran.2 ∙ b.size

    -- it can be gone on from
    pub begun-on : e.leaf < e.nodes → on_code ≤ r → r - on_code < e.nodes
    begun-on l h = let f = climb-falls e.leaf b.before cells r b.ran (omega arith) in omega arith

    whole-begun : (c : Climb) → Tells (trie_of cs e) e.root e.leaf levels c → Ran levels c b.before cells r → r < lost_code → path_to cs e ≡ tokens (drop r cells)
    whole-begun lost x d h = let o : r ≡ lost_code = d.0 in absurd (omega arith)
    whole-begun (cut p xs) x d h = let o : r ≡ on_code + p = d.0 in absurd (omega arith)
    whole-begun (to_root xs) x d h =
        let o : r ≡ levels - length xs = d.0 in
        let k : length xs ≤ levels = x.0 in
        x.1 longest (omega arith) ∙ ap tokens (sym (ap (λ (i : ℕ). drop i cells) o ∙ tokens-of xs b.before cells b.size d.1))

    -- where the cells hold it, it starts at r
    pub begun-stands : r < lost_code → path_to cs e ≡ tokens (drop r cells)
    begun-stands h = whole-begun (climbed_from e.leaf) (tells e.leaf) b.ran h

    found : (p : Path) (a path : List ℕ) (k : ℕ) → Within longest p → length a ≡ path_cells → length path ≡ path_cells → PathHolds path_cells p k a path → Found p k path
    found none a path k w l m d = d
    found (tokens xs) a path k w l m d =
        let f : k + length xs ≡ path_cells = d.0 in
        let z : drop path_cells a ≡ [] = drop_of_length-le a {i = path_cells} (omega arith) in
        (omega arith, omega arith, d.1 ∙ ap (λ (ys : List ℕ). xs ++ ys) z ∙ append-nil xs)

    -- gone on from, it stands in the cells of a whole path
    pub begun-found : (a path : List ℕ) (k : ℕ) → length a ≡ path_cells → ClimbsRuns cs e r cells 6 a path k → GathersWhole cs e k path
    begun-found a path k l u =
        let d = u.1 e.leaf b.before b.size b.ran in
        let m : length path ≡ path_cells = u.0 ∙ l in
        (found (path_to cs e) a path k (gather-within longest (trie_of cs e) e.root e.leaf) l m d.0, m)

found_within : (p : Path) (k : ℕ) (cells : List ℕ) → Found p k cells → k ≤ length cells
found_within none k cells f = omega arith
found_within (tokens xs) k cells f = f.1

-- wherever it starts, that is within them
pub gathers-within : (cs : List ℕ) (e : End) (k : ℕ) (cells : List ℕ) → GathersWhole cs e k cells → k ≤ path_cells
gathers-within cs e k cells g = let l = found_within (path_to cs e) k cells g.0 in let m = g.1 in omega arith
