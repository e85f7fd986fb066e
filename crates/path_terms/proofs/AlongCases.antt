-- A law for each case of a load and of an instance along paths, and of the task that either is.
use Rattle.basis.specs.declared.refusals.Refusal.TheVariants as refusal
use Rattle.forms.specs.declared.Unwritten.TheVariants.{Refused, Short}
use Rattle.std.specs.Prelude.{Err, Ok}
use Prim.Native.Nat.{ℕ, ◌+◌, ◌≤◌}
use mathlib.Core.Path.{◌≡◌, refl, sym, ap, ◌∙◌}
use mathlib.Core.Bool.{Bool, true, false}
use mathlib.Core.List.{List}
use mathlib.Core.Logic.{◌⊎◌, inl, inr}
use lib.ListN.{length}
use lib.Dec.{leb}
use borrow.Author.Tests.{leb-true, leb-false}
use Rattle.basis.proofs.Cases.{by_cases}
use Rattle.forms.specs.Stored.{StoredForm, stored_of}
use native.Mathlib.Omega.{arith}
use Rattle.forms.proofs.StoredLaws.{stored_of_lem}
use Rattle.forms.specs.Converting.{loading, fitting, fitting_terms, expanding, written, Answer}
use Rattle.plain.specs.Words.{Word}
use Rattle.plain.specs.Coding.{coding_of}
use Rattle.plain.specs.Requests.{Reply, cells, refused, short}
use Rattle.trie.specs.Paths.{Path, none, tokens}
use Rattle.store.specs.Views.{View}
use Rattle.store.specs.Decisions.{Decision, gives, refuses, sound, on_path}
use Rattle.store.specs.Replies.{said_cells}
use Rattle.instances.specs.Leaving.{Leaves, sized, Instances}
use Rattle.instances.proofs.LeavingLaws.{leaves-says, leaves-same, leaves-said, gives_fits, sized-short, sized-cells, path-behind, subgoal_test}
use Rattle.path_terms.specs.AlongPaths.{LoadsPath, worth}
use Rattle.path_terms.specs.Tasks.{Done}
use Rattle.path_terms.specs.declared.Task.{Task}
use Rattle.path_terms.specs.declared.Task.TheVariants as task
use Rattle.path_terms.proofs.WorthCases.{worth-lost}

module _ (test : Word → Bool) (d : Word → Decision) where
  pub path-lost : (p : Path) → p ≡ none → refuses 9 ≡ on_path p test d
  unfolding on_path
  path-lost p e = rw e refl

  pub path-each : (f : Word → Decision) (p : Path) → ((w : Word) → f w ≡ d w) → on_path p test f ≡ on_path p test d
  unfolding on_path
  path-each f none e = refl
  path-each f (tokens w) e = ap (sound (test w)) (e w)

-- ---- load

pub load-lost : (edition : ℕ) (p : Path) (m : ℕ) (out : List ℕ) → p ≡ none → LoadsPath edition p m out 0 out
load-lost edition p m out e v = leaves-says v _ out (refused 9) (path-lost ((stored_of edition).legal m) (λ w. gives ((stored_of edition).cells w)) p e)

-- expanding says 13 where loading says 9
abbrev pub said_loaded : Answer → Reply
said_loaded (Ok n) = cells n
said_loaded (Err (Refused r)) = refused 9
said_loaded (Err (Short n)) = short n

-- as a number
abbrev pub numbered : Answer → ℕ
numbered (Ok n) = n + 1
numbered (Err (Refused r)) = 0
numbered (Err (Short n)) = n + 1

fitting-numbered : (need room : ℕ) (r : Answer) → r ≡ fitting need room → said_loaded r ≡ sized room (numbered r)
unfolding fitting
fitting-numbered need room r e =
    by_cases (leb need room)
    (λ t. let i : r ≡ Ok need = rw t at e in rw i (sized-cells room (need + 1) need refl (leb-true _ _ t)))
    (λ t. let i : r ≡ Err (Short need) = rw t at e in rw i (sized-short room (need + 1) need refl (leb-false _ _ t)))

-- what fits is never refused by a number
fitting-said : (need room : ℕ) (r : Answer) → r ≡ fitting need room → said_cells r ≡ said_loaded r
unfolding fitting
fitting-said need room r e =
    by_cases (leb need room)
    (λ t. let i : r ≡ Ok need = rw t at e in rw i refl)
    (λ t. let i : r ≡ Err (Short need) = rw t at e in rw i refl)

module _ (form : StoredForm) (m : ℕ) (w : Word) (out : List ℕ) where
  abbrev the-path : Decision
  the-path = on_path (tokens w) (form.legal m) (λ u. gives (form.cells u))

  expanded-illegal : form.legal m w ≡ false → (expanding form m w (length out) ≡ Err (Refused refusal.Form)) × (the-path ≡ refuses 9)
  unfolding expanding fitting_terms loading on_path
  expanded-illegal t = (simp t, simp t)

  expanded-legal : form.legal m w ≡ true → (expanding form m w (length out) ≡ fitting (length (form.cells w)) (length out)) × (the-path ≡ gives (form.cells w))
  unfolding expanding fitting_terms loading on_path
  expanded-legal t = (simp t, simp t)

  expanded-fits : (v : View) (r : Answer) (out' : List ℕ) → r ≡ fitting (length (form.cells w)) (length out) → out' ≡ written r (form.cells w) out
      → Leaves v (gives (form.cells w)) out (said_loaded r) out'
  expanded-fits v r out' e f = rw (← (fitting-said (length (form.cells w)) (length out) r e)) (gives_fits v (form.cells w) out r out' e f)

  pub expanded-path : (r : Answer) (out' : List ℕ) → r ≡ expanding form m w (length out) → out' ≡ written r (form.cells w) out → (v : View) → Leaves v the-path out (said_loaded r) out'
  unfolding written
  expanded-path r out' e f v =
      by_cases (form.legal m w) (λ t.
      let x = expanded-legal t in
      leaves-same v (gives (form.cells w)) the-path out (said_loaded r) out' (sym x.1) (expanded-fits v r out' (e ∙ x.0) f)) (λ t.
      let x = expanded-illegal t in
      let i : r ≡ Err (Refused refusal.Form) = e ∙ x.0 in
      let j : out' ≡ out = rw i at f in
      leaves-same v (refuses 9) the-path out (said_loaded r) out' (sym x.1) (rw (i, j) (leaves-says v (refuses 9) out (refused 9) refl)))

  expanding-numbered : (r : Answer) → r ≡ expanding form m w (length out) → said_loaded r ≡ sized (length out) (numbered r)
  expanding-numbered r e =
      by_cases (form.legal m w)
      (λ t. fitting-numbered (length (form.cells w)) (length out) r (e ∙ (expanded-legal t).0))
      (λ t. let i : r ≡ Err (Refused refusal.Form) = e ∙ (expanded-illegal t).0 in rw i refl)

  numbered-few : (form.legal m w ≡ true → length (form.cells w) ≤ 256) → (r : Answer) → r ≡ expanding form m w (length out) → numbered r ≤ 257
  unfolding fitting
  numbered-few small r e =
      by_cases (form.legal m w) (λ t.
      let l = small t in
      by_cases (leb (length (form.cells w)) (length out))
      (λ b. let i : r ≡ Ok (length (form.cells w)) = e ∙ (expanded-legal t).0 ∙ simp b in rw i (omega arith))
      (λ b. let i : r ≡ Err (Short (length (form.cells w))) = e ∙ (expanded-legal t).0 ∙ simp b in rw i (omega arith)))
      (λ t. let i : r ≡ Err (Refused refusal.Form) = e ∙ (expanded-illegal t).0 in rw i (omega arith))

pub few-loaded : (edition m : ℕ) (w : Word) (out : List ℕ) (r : Answer) → r ≡ expanding (stored_of edition) m w (length out) → numbered r ≤ 257
few-loaded edition m w out r e = numbered-few (stored_of edition) m w out (λ h. ((stored_of_lem edition).demand.loaded m w h).0.cells) r e

pub loaded-numbered : (edition m : ℕ) (w : Word) (out : List ℕ) (r : Answer) (out' : List ℕ) → r ≡ expanding (stored_of edition) m w (length out) → out' ≡ written r ((stored_of edition).cells w) out
    → LoadsPath edition (tokens w) m out (numbered r) out'
loaded-numbered edition m w out r out' e f v =
    leaves-said v _ out _ _ out' (expanding-numbered (stored_of edition) m w out r e) (expanded-path (stored_of edition) m w out r out' e f v)

-- ---- instance

pub instance-lost : (edition : ℕ) (p q : Path) (m : ℕ) (out : List ℕ) → p ≡ none → Instances edition p q m out 0 out
instance-lost edition p q m out e v = leaves-says v _ out (refused 9) (path-lost ((stored_of edition).legal m) (λ w. on_path q (subgoal_test (coding_of edition) m) (λ u. gives ((coding_of edition).instance_of u w))) p e)

pub instance-under-lost : (edition : ℕ) (p q : Path) (m : ℕ) (out : List ℕ) → q ≡ none → Instances edition p q m out 0 out
instance-under-lost edition p q m out e v =
    leaves-says v _ out (refused 9) (path-behind ((stored_of edition).legal m) (λ w. on_path q (subgoal_test (coding_of edition) m) (λ u. gives ((coding_of edition).instance_of u w))) p
    (λ w. path-lost (subgoal_test (coding_of edition) m) (λ u. gives ((coding_of edition).instance_of u w)) q e))

-- ---- a task

module _ (edition m : ℕ) (out : List ℕ) where
  -- by equal paths
  pub done-same : (t : Task) (r : ℕ) (out' : List ℕ) (p p' q q' : Path) → p ≡ p' → q ≡ q' → Done t edition p q m out r out' → Done t edition p' q' m out r out'
  done-same t r out' p p' q q' e f d = rw f at (rw e at d)

  module _ (p q : Path) where
    pub done-lost : (t : Task) → p ≡ none → Done t edition p q m out 0 out
    done-lost task.Load e = load-lost edition p m out e
    done-lost task.Instance e = instance-lost edition p q m out e
    done-lost task.Judge e = (worth-lost edition m false p e, refl)
    done-lost task.Called e = (worth-lost edition m true p e, refl)

  -- a path that is judged, whichever of the two tasks it is
  pub done-judged : (p q : Path) (t : Task) (r : ℕ) → (t ≡ task.Judge) ⊎ (t ≡ task.Called) → (t ≡ task.Called → ⊥) → r ≡ worth edition m false p
      → Done t edition p q m out r out
  done-judged p q t r (inl i) n e = rw i (e, refl)
  done-judged p q t r (inr i) n e = absurd (n i)

  pub done-called : (p q : Path) (t : Task) (r : ℕ) → t ≡ task.Called → r ≡ worth edition m true p → Done t edition p q m out r out
  done-called p q t r i e = rw i (e, refl)
