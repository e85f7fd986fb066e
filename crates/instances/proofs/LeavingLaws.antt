-- Laws of what is left in out: of a decision, of an answer as a number, of a form that is loaded or is none, and of the two forms
-- of an instance.
use Rattle.forms.specs.declared.Unwritten.TheVariants.{Short}
use Rattle.std.specs.Prelude.{Err, None, Ok, Some}
use Prim.Native.Nat.{ℕ, ◌+◌, ◌<◌, ◌≤◌}
use mathlib.Core.Path.{◌≡◌, refl, sym, ◌∙◌}
use mathlib.Core.Bool.{Bool, true, false, ◌&&◌}
use mathlib.Core.List.{List, [], ◌++◌}
use native.Mathlib.Omega.{arith}
use native.Mathlib.Numerals.{add-one}
use lib.ListN.{length, drop}
use lib.Dec.{eqb, leb}
use borrow.Author.Tests.{lt-ltb, le-ltb}
use Rattle.basis.proofs.Cases.{by_cases}
use Rattle.forms.specs.Numbering.{met}
use Rattle.forms.specs.Stored.{StoredForm}
use Rattle.forms.specs.Converting.{loading, fitting, written, Answer}
use Rattle.plain.specs.Words.{Word}
use Rattle.plain.specs.Coding.{Coding}
use Rattle.plain.specs.Requests.{Reply, cells, refused, short}
use Rattle.trie.specs.Paths.{Path, none, tokens}
use Rattle.store.specs.Views.{View}
use Rattle.store.specs.Decisions.{Decision, says, gives, refuses, on_path}
use Rattle.store.specs.Calls.{reply, out_after}
use Rattle.store.specs.Replies.{said_cells}
use Rattle.instances.specs.Leaving.{Leaves, sized}

-- ---- what is left in out

pub leaves-says : (v : View) (d : Decision) (out : List ℕ) (x : Reply) → says x ≡ d → Leaves v d out x out
unfolding reply out_after
leaves-says v d out x e = rw (← e) (λ after. refl, refl)

pub leaves-same : (v : View) (d d' : Decision) (out : List ℕ) (x : Reply) (out' : List ℕ) → d ≡ d' → Leaves v d out x out' → Leaves v d' out x out'
leaves-same v d d' out x out' e l = rw e at l

-- ---- an answer as a number

pub sized-none : (room r : ℕ) → r ≡ 0 → refused 9 ≡ sized room r
sized-none room r e = rw e

pub sized-short : (room r n : ℕ) → r ≡ n + 1 → room < n → short n ≡ sized room r
sized-short room r n e h = rw (e, add-one n, lt-ltb _ _ h)

pub sized-cells : (room r n : ℕ) → r ≡ n + 1 → n ≤ room → cells n ≡ sized room r
sized-cells room r n e h = rw (e, add-one n, le-ltb _ _ h)

pub leaves-said : (v : View) (d : Decision) (out : List ℕ) (x y : Reply) (out' : List ℕ) → x ≡ y → Leaves v d out x out' → Leaves v d out y out'
leaves-said v d out x y out' e l = rw e at l

-- cells for out, as they fit
pub gives_fits : (v : View) (ks out : List ℕ) (r : Answer) (out' : List ℕ) → r ≡ fitting (length ks) (length out) → out' ≡ written r ks out → Leaves v (gives ks) out (said_cells r) out'
unfolding fitting written reply out_after
gives_fits v ks out r out' e f =
    by_cases (leb (length ks) (length out))
    (λ t. let i : r ≡ Ok (length ks) = rw t at e in let j : out' ≡ ks ++ drop (length ks) out = rw i at f in rw (i, t) (λ after. refl, j))
    (λ t. let i : r ≡ Err (Short (length ks)) = rw t at e in let j : out' ≡ out = rw i at f in rw (i, t) (λ after. refl, j))

-- ---- a form that is loaded

module _ (form : StoredForm) (m : ℕ) (w : List ℕ) where
  pub form-refused : None ≡ loading form m w → false ≡ form.legal m w
  unfolding loading
  form-refused e =
      by_cases (form.legal m w)
      (λ t. let d = rw t at e in let z : ◌≡◌ {A = ℕ} 0 1 = cc in absurd (omega arith))
      (λ t. sym t)

  pub form-loaded : (n : ℕ) → Some n ≡ loading form m w → true ≡ form.legal m w
  unfolding loading
  form-loaded n e =
      by_cases (form.legal m w)
      (λ t. sym t)
      (λ t. let d = rw t at e in let z : ◌≡◌ {A = ℕ} 0 1 = cc in absurd (omega arith))

-- ---- the form of one term with m variables

module _ (form : StoredForm) (m : ℕ) (w : List ℕ) where
  pub subgoal-form : true ≡ form.legal 1 w → (n : ℕ) → n ≡ length (met [] w) → eqb n m ≡ (form.legal 1 w && eqb (length (met [] w)) m)
  subgoal-form t n e = rw e (rw (← t) refl)

  pub no-subgoal-form : false ≡ form.legal 1 w → false ≡ (form.legal 1 w && eqb (length (met [] w)) m)
  no-subgoal-form t = rw (← t) refl

-- ---- a path that was gathered

module _ (test : Word → Bool) (d : Word → Decision) where
  pub path-illegal : (w : Word) → test w ≡ false → refuses 9 ≡ on_path (tokens w) test d
  unfolding on_path
  path-illegal w t = rw t refl

  pub path-legal : (w : Word) → test w ≡ true → d w ≡ on_path (tokens w) test d
  unfolding on_path
  path-legal w t = rw t refl

  -- damage that is met behind any path
  pub path-behind : (p : Path) → ((w : Word) → refuses 9 ≡ d w) → refuses 9 ≡ on_path p test d
  unfolding on_path
  path-behind none x = refl
  path-behind (tokens w) x = by_cases (test w) (λ t. rw t (x w)) (λ t. rw t refl)

-- ---- both paths

-- the path of a subgoal with m variables
abbrev pub subgoal_test : Coding → ℕ → Word → Bool
subgoal_test c m w = c.legal 1 w && eqb (length (met [] w)) m

-- the decision on the answer's form x and the subgoal's form w
abbrev pub on_both : Coding → ℕ → Word → Word → Decision
on_both c m w x = on_path (tokens x) (λ y. c.legal m y) (λ y. on_path (tokens w) (subgoal_test c m) (λ u. gives (c.instance_of u y)))

module _ (c : Coding) (m : ℕ) (w x : Word) where
  pub both-answer : c.legal m x ≡ false → refuses 9 ≡ on_both c m w x
  both-answer t = path-illegal (λ y. c.legal m y) (λ y. on_path (tokens w) (subgoal_test c m) (λ u. gives (c.instance_of u y))) x t

  module _ (t : c.legal m x ≡ true) where
    pub both-subgoal : subgoal_test c m w ≡ false → refuses 9 ≡ on_both c m w x
    both-subgoal s =
        path-illegal (subgoal_test c m) (λ u. gives (c.instance_of u x)) w s
        ∙ path-legal (λ y. c.legal m y) (λ y. on_path (tokens w) (subgoal_test c m) (λ u. gives (c.instance_of u y))) x t

    pub both-legal : subgoal_test c m w ≡ true → gives (c.instance_of w x) ≡ on_both c m w x
    both-legal s =
        path-legal (subgoal_test c m) (λ u. gives (c.instance_of u x)) w s
        ∙ path-legal (λ y. c.legal m y) (λ y. on_path (tokens w) (subgoal_test c m) (λ u. gives (c.instance_of u y))) x t
