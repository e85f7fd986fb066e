-- Counts, next, load and instance leave the space as it is, which their contracts say too, and say no more cells written than
-- were lent.
use Rattle.std.specs.Prelude.{Err, Ok}
use Prim.Native.Nat.{ℕ, ◌≤◌}
use mathlib.Core.Path.{◌≡◌, refl, sym}
use mathlib.Core.Bool.{Bool, true, false}
use mathlib.Core.List.{List, []}
use native.Mathlib.Omega.{arith}
use lib.Dec.{eqb, leb, ltb}
use lib.ListN.{length}
use borrow.Author.Tests.{leb-true}
use Rattle.basis.specs.Choice.{pick}
use Rattle.basis.proofs.Cases.{by_cases}
use Rattle.plain.specs.Words.{Word}
use Rattle.plain.specs.Coding.{Coding, coding_of}
use Rattle.plain.specs.Requests.{Reply, Request, next, load, instance, counts, lent, State, lacks_next, at, cells, refused, short}
use Rattle.space.specs.Layout.{Sizes, sizes_of}
use Rattle.space.specs.Heading.{space_header, Header}
use Rattle.space.specs.declared.Head.{Head}
use Rattle.trie.specs.Paths.{Path, gather, longest}
use Rattle.trie.specs.Paths as path
use Rattle.trie.specs.Siblings.{search_children}
use Rattle.store.specs.Views.{View, view_of, subgoal_trie, answer_trie}
use Rattle.store.specs.Decisions.{Decision, says, state_of, gives, refuses, sound_subgoal, sound_answer, sound_answer_of, sound_pair, starting, handed, onward, on_path, loaded, instanced, decide, decide_by}
use Rattle.store.specs.Changes.{change, change_by}
use Rattle.store.specs.Calls.{reply, under_by, under_any, under_any_by, space_step, space_step_by, Answers}
use Rattle.store.proofs.AnswersLaws.{step-none}

-- ---- what the decisions of a reading call have in common, if refusals have it

module _ (P : Decision → Type 0) (refusing : (r : ℕ) → P (refuses r)) where
  pick-comes : (b : Bool) (d f : Decision) → P d → P f → P (pick b d f)
  pick-comes true d f x y = x
  pick-comes false d f x y = y

  sound-comes : (b : Bool) (d : Decision) → P d → P (pick b d (refuses 9))
  sound-comes b d x = pick-comes b d (refuses 9) x (refusing 9)

  known-comes : (n s : ℕ) (d : Decision) → P d → P (pick (ltb 0 s) (pick (leb s n) d (refuses 7)) (refuses 7))
  known-comes n s d x = pick-comes (ltb 0 s) _ _ (pick-comes (leb s n) d (refuses 7) x (refusing 7)) (refusing 7)

  handed-comes : (v : View) (s a : ℕ) → ((x : State) → P (says (lacks_next x))) → P (says (at a)) → P (handed v s a)
  unfolding handed
  handed-comes v s a x y = pick-comes (eqb a 0) _ _ (x (state_of (v.subgoal s).state)) (sound-comes (sound_answer_of v s a) _ y)

  onward-comes : (v : View) (s a : ℕ) → ((x : State) → P (says (lacks_next x))) → ((n : ℕ) → P (says (at n))) → P (onward v s a)
  unfolding onward
  onward-comes v s a x y =
      sound-comes (sound_subgoal v s) _
      (pick-comes (eqb a 0) _ _ (handed-comes v s (v.subgoal s).first x (y _)) (sound-comes (sound_answer v a) _ (handed-comes v s (v.answer a).next x (y _))))

  path-comes : (p : Path) (test : Word → Bool) (d : Word → Decision) → ((w : Word) → P (d w)) → P (on_path p test d)
  unfolding on_path
  path-comes path.none test d x = refusing 9
  path-comes (path.tokens w) test d x = sound-comes (test w) (d w) (x w)

  loaded-comes : (c : Coding) (v : View) (a : ℕ) (d : Word → Decision) → ((w : Word) → P (d w)) → P (loaded c v a d)
  unfolding loaded
  loaded-comes c v a d x = path-comes (gather longest (answer_trie v) (v.subgoal (v.answer a).subgoal).root (v.answer a).leaf) _ d x

  instanced-comes : (c : Coding) (v : View) (s : ℕ) (d : Word → Decision) → ((w : Word) → P (d w)) → P (instanced c v s d)
  unfolding instanced
  instanced-comes c v s d x = path-comes (gather longest (subgoal_trie v) 0 (v.subgoal s).leaf) _ d x

  module _ (c : Coding) (v : View) where
    next-comes : (s a : ℕ) → ((x : State) → P (says (lacks_next x))) → ((n : ℕ) → P (says (at n))) → P (decide c v (next s a))
    unfolding decide_by
    next-comes s a x y = known-comes v.subgoals s _ (pick-comes (starting v s a) _ _ (onward-comes v s a x y) (refusing 7))

    load-comes : (a : ℕ) (out : List ℕ) → ((ks : List ℕ) → P (gives ks)) → P (decide c v (load a out))
    unfolding decide_by
    load-comes a out x = known-comes v.answers a _ (sound-comes (sound_pair v a) _ (loaded-comes c v a _ (λ w. x (c.expand w))))

    instance-comes : (a : ℕ) (out : List ℕ) → ((ks : List ℕ) → P (gives ks)) → P (decide c v (instance a out))
    unfolding decide_by
    instance-comes a out x =
        known-comes v.answers a _ (sound-comes (sound_pair v a) _ (loaded-comes c v a _ (λ w. instanced-comes c v (v.answer a).subgoal _ (λ u. x (c.instance_of u w)))))

-- ---- no reading call writes into the space

abbrev pub Reads : Decision → Type 0
Reads d = (z : Sizes) (cs : List ℕ) (h : Head) → change z cs h d ≡ cs

says-reads : (r : Reply) → Reads (says r)
unfolding change_by
says-reads r z cs h = refl

gives-reads : (ks : List ℕ) → Reads (gives ks)
unfolding change_by
gives-reads ks z cs h = refl

abbrev refuses-reads : (r : ℕ) → Reads (refuses r)
refuses-reads r = says-reads (refused r)

module _ (c : Coding) (v : View) where
  pub counts-reads : Reads (decide c v counts)
  unfolding decide_by
  counts-reads = says-reads _

  pub next-reads : (s a : ℕ) → Reads (decide c v (next s a))
  next-reads s a = next-comes Reads refuses-reads c v s a (λ x. says-reads (lacks_next x)) (λ n. says-reads (at n))

  pub load-reads : (a : ℕ) (out : List ℕ) → Reads (decide c v (load a out))
  load-reads a out = load-comes Reads refuses-reads c v a out gives-reads

  pub instance-reads : (a : ℕ) (out : List ℕ) → Reads (decide c v (instance a out))
  instance-reads a out = instance-comes Reads refuses-reads c v a out gives-reads

-- a call whose decision writes nothing leaves the space, under any header
module _ (cs : List ℕ) (q : Request) where
  under_stays : (e : Header) → ((c : Coding) (v : View) → Reads (decide c v q)) → cs ≡ (under_any cs q e).state
  unfolding under_any_by under_by
  under_stays (Ok h) x = sym (x _ _ _ cs h)
  under_stays (Err r) x = refl

  step_stays : ((c : Coding) (v : View) → Reads (decide c v q)) → cs ≡ (space_step cs q).state
  unfolding space_step_by
  step_stays x = under_stays (space_header cs) x

-- ---- so their contracts follow from what they answer and leave in out

module _ (cs : List ℕ) (r : Reply) where
  pub counts-answers : r ≡ (space_step cs counts).reply → Answers cs counts r [] cs
  unfolding lent
  counts-answers e = (e, step-none search_children cs counts refl, step_stays cs counts counts-reads)

  pub next-answers : (s a : ℕ) → r ≡ (space_step cs (next s a)).reply → Answers cs (next s a) r [] cs
  unfolding lent
  next-answers s a e = (e, step-none search_children cs (next s a) refl, step_stays cs (next s a) (λ c v. next-reads c v s a))

  module _ (a : ℕ) (out out' : List ℕ) where
    pub load-answers : (r ≡ (space_step cs (load a out)).reply) × (out' ≡ (space_step cs (load a out)).out) → Answers cs (load a out) r out' cs
    load-answers k = (k.0, k.1, step_stays cs (load a out) (λ c v. load-reads c v a out))

    pub instance-answers : (r ≡ (space_step cs (instance a out)).reply) × (out' ≡ (space_step cs (instance a out)).out) → Answers cs (instance a out) r out' cs
    instance-answers k = (k.0, k.1, step_stays cs (instance a out) (λ c v. instance-reads c v a out))

-- ---- the cells that are said to be written were lent

abbrev Fits : Decision → Type 0
Fits d = (v : View) (room after n : ℕ) → reply v d room after ≡ cells n → n ≤ room

refuses-fits : (r : ℕ) → Fits (refuses r)
unfolding reply
refuses-fits r v room after n e = let z : ◌≡◌ {A = ℕ} 0 1 = cc in absurd (omega arith)

gives_fits : (ks : List ℕ) → Fits (gives ks)
unfolding reply
gives_fits ks v room after n e =
    by_cases (leb (length ks) room)
    (λ t. let l = leb-true (length ks) room t in let f : cells (length ks) ≡ cells n = rw t at e in let q : length ks ≡ n = cc in omega arith)
    (λ t. let f : short (length ks) ≡ cells n = rw t at e in let z : ◌≡◌ {A = ℕ} 0 1 = cc in absurd (omega arith))

module _ (cs : List ℕ) where
  under-fits : (q : Request) (e : Header) → ((c : Coding) (v : View) → Fits (decide c v q)) → (n : ℕ) → (under_any cs q e).reply ≡ cells n → n ≤ length (lent q)
  unfolding under_any_by under_by
  under-fits q (Ok h) x n e = x (coding_of h.edition) (view_of (sizes_of h.edition) cs h) (view_of (sizes_of h.edition) cs h) (length (lent q)) _ n e
  under-fits q (Err r) x n e = let z : ◌≡◌ {A = ℕ} 0 1 = cc in absurd (omega arith)

  module _ (a : ℕ) (out : List ℕ) (n : ℕ) where
    pub load_fits : (space_step cs (load a out)).reply ≡ cells n → n ≤ length out
    unfolding space_step_by lent
    load_fits e = under-fits (load a out) (space_header cs) (λ c v. load-comes Fits refuses-fits c v a out gives_fits) n e

    pub instance-fits : (space_step cs (instance a out)).reply ≡ cells n → n ≤ length out
    unfolding space_step_by lent
    instance-fits e = under-fits (instance a out) (space_header cs) (λ c v. instance-comes Fits refuses-fits c v a out gives_fits) n e
