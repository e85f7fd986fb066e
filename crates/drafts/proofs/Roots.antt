-- A draft before its first word, and what one word more brings.
use Prim.Native.Nat.{ℕ, zero, suc, ◌+◌, ◌-◌, ◌<◌, ◌≤◌}
use mathlib.Core.Path.{◌≡◌, refl, sym, ap, ◌∙◌, subst}
use mathlib.Core.Bool.{true, false, ◌||◌}
use mathlib.Core.List.{List, [], ◌∷◌, ◌++◌, append-nil}
use native.Mathlib.Omega.{arith}
use lib.Dec.{eqb}
use lib.ListN.{length, get_or, length-append, get_or-append}
use lib.Seq.{get_or-append-add}
use borrow.Author.Tests.{eqb-true, eqb-false, ne_eqb}
use Rattle.basis.proofs.Cases.{by_cases}
use Rattle.plain.specs.Words.{Word, has, union, all_inits, prefixes, distinct, most}
use Rattle.plain.proofs.WordLaws.{union-old, union-append}
use Rattle.plain.proofs.PrefixLaws.{longer, starts, begins, all_inits-append, inits-longer}
use Rattle.plain.proofs.LongestShared.{brought}
use Rattle.plain.proofs.Entries.{prefixes-root}
use Rattle.space.specs.Layout.{sizes, node_at, node_in}
use Rattle.space.specs.declared.Node.{Node}
use Rattle.drafts.specs.declared.Room.{Room}
use Rattle.drafts.specs.Notes.{roots_below}
use Rattle.drafts.specs.Entries.{Bucketed}
use Rattle.drafts.specs.Drafts.{word_of, Keyed, words_with}
use Rattle.drafts.specs.Wiping.{Blank}

begins-snoc : (es : List Word) (x u : Word) → begins (es ++ (x ∷ [])) u ≡ (begins es u || starts u x)
unfolding begins
begins-snoc [] x u = by_cases (starts u x) (λ e. rw e) (λ e. rw e)
begins-snoc (v ∷ es) x u = by_cases (starts u v) (λ e. rw e) (λ e. rw (e, begins-snoc es x u))

root-starts : (m n : ℕ) → n < m → starts (m ∷ []) (n ∷ []) ≡ false
unfolding starts
root-starts m n h = rw (ne_eqb n m (λ e. omega arith))

roots-begin : (n m : ℕ) → n ≤ m → begins (roots_below n) (m ∷ []) ≡ false
unfolding roots_below
roots-begin zero m h = unfold begins in refl
roots-begin (suc n) m h = rw (begins-snoc (roots_below n) (n ∷ []) (m ∷ []), roots-begin n m (omega arith)) (root-starts m n (omega arith))

pub roots-prefixes : (n : ℕ) → prefixes (roots_below n) ≡ roots_below n
unfolding roots_below
roots-prefixes zero = unfold prefixes union all_inits in refl
roots-prefixes (suc n) = prefixes-root (roots_below n) n (roots-begin n n (omega arith)) ∙ ap (λ (l : List Word). l ++ ((n ∷ []) ∷ [])) (roots-prefixes n)

pub roots-size : (n : ℕ) → length (roots_below n) ≡ n
unfolding roots_below
roots-size zero = refl
roots-size (suc n) = let e = length-append (roots_below n) ((n ∷ []) ∷ []) in let f = roots-size n in omega arith

roots-word : (n i : ℕ) → i < n → word_of (roots_below n) i ≡ i ∷ []
unfolding roots_below
roots-word zero i h = absurd (omega arith)
roots-word (suc n) i h = by_cases (eqb i n)
    (λ e. let j : i ≡ n = eqb-true _ _ e in
    let k : length (roots_below n) + 0 ≡ i = (let f = roots-size n in omega arith) in
    ap (λ (y : ℕ). get_or (roots_below n ++ ((n ∷ []) ∷ [])) y []) (sym k) ∙ get_or-append-add (roots_below n) ((n ∷ []) ∷ []) 0 [] ∙ ap (λ (y : ℕ). y ∷ []) (sym j))
    (λ e. let o : i ≡ n → ⊥ = eqb-false _ _ e in let l : i < n = omega arith in
    get_or-append (roots_below n) ((n ∷ []) ∷ []) [] i (let f = roots-size n in omega arith) ∙ roots-word n i l)

head_of : (i j : ℕ) → ◌≡◌ {A = Word} (i ∷ []) (j ∷ []) → i ≡ j
head_of i j e = cc

pub keyed-none : (at : ℕ → Node) (n : ℕ) → Keyed at n (prefixes (roots_below n)) (roots_below n)
keyed-none at n = subst (λ (K : List Word). Keyed at n K (roots_below n)) (sym (roots-prefixes n)) (record {
  different = λ i j h k e. let s = roots-size n in let l : i < n = omega arith in let m : j < n = omega arith in head_of i j (sym (roots-word n i l) ∙ e ∙ roots-word n j m);
  old-word = λ i h. roots-word n i h;
  new_word = λ i l h. let s = roots-size n in absurd (omega arith);
  marked = λ i l h. let s = roots-size n in absurd (omega arith);
  ends-in = λ w e. e;
})

pub bucketed-none : (cs : List ℕ) (x : Room) → 1 ≤ x.base → Blank cs x → Bucketed (node_in sizes cs) x x.base
bucketed-none cs x some blank =
    let zero-child : (b : ℕ) → x.base ≤ b → b < x.base + x.most → (node_in sizes cs b).child ≡ 0 = λ b l h. blank (node_at sizes b + 1) (omega arith) (omega arith) in
    record {
      some = some;
      from = omega arith;
      fits = omega arith;
      head-below = λ b l h. let z = zero-child b l h in omega arith;
      head-new = λ b l h o. absurd (o (zero-child b l h));
      head-slot = λ b l h o. absurd (o (zero-child b l h));
      head-all = λ b l h n a c s. absurd (omega arith);
      next-below = λ n l h. absurd (omega arith);
      next-new = λ n l h z. absurd (omega arith);
      next-slot = λ n l h z. absurd (omega arith);
      next-all = λ n l h m a c s. absurd (omega arith);
      parent-below = λ n l h. absurd (omega arith);
    }

-- ---- a word more

longer-cons : (p : Word) (t : ℕ) (w : Word) → longer p (t ∷ w) ≡ (p ++ (t ∷ [])) ∷ longer (p ++ (t ∷ [])) w
unfolding longer
longer-cons p t w = refl

-- the words of a draft below a node that has one
pub prefixes-word : (es : List Word) (stop : ℕ) (left : Word) → has (prefixes es) (stop ∷ []) ≡ true → prefixes (es ++ ((stop ∷ left) ∷ [])) ≡ words_with (prefixes es) stop left
unfolding prefixes all_inits
prefixes-word es stop left h =
    ap (union []) (all_inits-append es ((stop ∷ left) ∷ []) ∙ ap (λ (r : List Word). all_inits es ++ r) (append-nil _ ∙ inits-longer (stop ∷ left) ∙ longer-cons [] stop left))
    ∙ union-append [] (all_inits es) ((stop ∷ []) ∷ longer (stop ∷ []) left)
    ∙ union-old (union [] (all_inits es)) (stop ∷ []) (longer (stop ∷ []) left) h

pub word-brings : (es : List Word) (w : Word) → length (prefixes (es ++ (w ∷ []))) ≡ length (prefixes es) + (length w - most es w)
unfolding distinct
word-brings es w = brought es w
