-- A table with other capacities: its records are the same.
use Prim.Native.Nat.{ℕ, zero, suc, ◌≤◌}
use mathlib.Core.Path.{◌≡◌, refl, sym, ◌∙◌}
use mathlib.Core.List.{List, [], ◌∷◌}
use native.Mathlib.Omega.{arith}
use lib.ListN.{length}
use Rattle.plain.specs.Words.{Word}
use Rattle.plain.specs.Coding.{Coding}
use Rattle.plain.specs.CodingLaws.{CodingLaws}
use Rattle.plain.specs.Table.{Table, subgoal_at, answer_at, subgoal_of, answer_of, nodes}
use Rattle.plain.proofs.LinkLaws.{link_of}
use Rattle.plain.proofs.ReasonLaws.{lowest}
use Rattle.plain.proofs.Counted.{Forest}
use Rattle.plain.proofs.Soundness.{Sound}
use Rattle.space.specs.declared.Subgoal as space
use Rattle.space.specs.declared.Answer as given
use Rattle.store.specs.Views.{View}
use Rattle.agreement.proofs.Callables.{Callable}
use Rattle.agreement.proofs.FirstChildren.{firsts-forms}
use Rattle.agreement.proofs.SameRecords.{Same, SubgoalSame, AnswerSame, LastSame, no_last, some-last, nodes-count}
use Rattle.growing.specs.Promises.{resized, resized_view}

module _ (n f a : ℕ) (t : Table) where
  abbrev u : Table
  u = resized n f a t

  pub nodes-resized : nodes (resized n f a t) ≡ nodes t
  unfolding nodes
  nodes-resized = refl

  link-resized : (y : Word) → link_of (resized n f a t) y ≡ link_of t y
  unfolding link_of subgoal_of answer_of
  link-resized [] = refl
  link-resized (zero ∷ w) = refl
  link-resized (suc s ∷ w) = refl

  lowest-resized : (w : Word) → lowest (resized n f a t) w ≡ lowest t w
  unfolding lowest
  lowest-resized w = refl

  forest-resized : (es : List Word) → Forest t es → Forest (resized n f a t) es
  forest-resized es F = record {
    calls = F.calls;
    replies = F.replies;
    unused = F.unused;
    unanswered = F.unanswered;
    count = F.count ∙ sym nodes-resized;
  }

  pub callable-resized : Callable t → Callable (resized n f a t)
  unfolding subgoal_at
  callable-resized b = b

  sound-resized : (c : Coding) → nodes t ≤ n → length t.subgoals ≤ f → length t.answers ≤ a → Sound c t → Sound c (resized n f a t)
  unfolding subgoal_at answer_at
  sound-resized c p q r s = record {
    kept = record {
      room = omega (arith, nodes-resized, p);
      subgoal-room = q;
      answer-room = r;
      answered = s.kept.answered;
      subgoals-differ = s.kept.subgoals-differ;
      answers-differ = s.kept.answers-differ;
    };
    called = s.called;
    answered = s.answered;
  }

  last-resized : (s first last : ℕ) → LastSame t s first last → LastSame (resized n f a t) s first last
  unfolding answer_at
  last-resized s first last (no_last p q) = no_last p q
  last-resized s first last (some-last p q o z) = some-last p q o z

  subgoal-resized : (K : List Word) (m s : ℕ) (g : space.Subgoal) → SubgoalSame t K m s g → SubgoalSame (resized n f a t) K m s g
  unfolding subgoal_at answer_at
  subgoal-resized K m s g o = record {
    leaf-in = o.leaf-in;
    leaf-key = o.leaf-key;
    root_in = o.root_in;
    root-key = o.root-key;
    root-next = o.root-next;
    variables = o.variables;
    state = o.state;
    first = o.first;
    last = last-resized s g.first g.last o.last;
  }

  answer-resized : (K : List Word) (m b : ℕ) (y : given.Answer) → AnswerSame t K m b y → AnswerSame (resized n f a t) K m b y
  unfolding answer_at
  answer-resized K m b y o = record { leaf-in = o.leaf-in; leaf-key = o.leaf-key; subgoal = o.subgoal; next = o.next }

  -- the records of a table are those of the same table with other capacities, where these are enough
  pub same-resized : (c : Coding) → CodingLaws c → (v : View) → v.nodes ≤ n → v.subgoals ≤ f → v.answers ≤ a → Same c t v → Same c (resized n f a t) (resized_view n f a v)
  same-resized c laws v p q r S = record {
    es = S.es;
    forest = forest-resized S.es S.forest;
    K = S.K;
    numbering = S.numbering;
    tries = S.tries;
    links = λ i l. S.links i l ∙ sym (link-resized _);
    firsts = firsts-forms t (resized n f a t) S.K lowest-resized S.firsts;
    origin = S.origin;
    some = S.some;
    N-same = refl;
    F-same = refl;
    A-same = refl;
    sound = sound-resized c (omega (arith, nodes-count c laws t v S, p)) (omega (arith, S.subgoals, q)) (omega (arith, S.answers, r)) S.sound;
    subgoals = S.subgoals;
    answers = S.answers;
    subgoal = λ s l m. subgoal-resized S.K v.nodes s (v.subgoal s) (S.subgoal s l m);
    answer = λ b l m. answer-resized S.K v.nodes b (v.answer b) (S.answer b l m);
  }
