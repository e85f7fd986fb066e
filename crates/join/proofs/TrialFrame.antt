-- The cells of free nodes have no part in what a join reads: its sources are the same with a draft and without.
use mathlib.Core.Path.{◌≡◌, refl, sym, ap, ◌∙◌}
use mathlib.Core.List.{List, ◌∷◌}
use Prim.Native.Nat.{ℕ, ◌+◌, ◌*◌, ◌<◌, ◌≤◌}
use native.Mathlib.Omega.{arith}
use lib.ListN.{take}
use Rattle.std.specs.Prelude.{Ok}
use Rattle.plain.specs.Words.{Word}
use Rattle.space.specs.Layout.{sizes, sizes_of, node_at, node_in, subgoal_at, answer_at}
use Rattle.space.specs.Heading.{space_header, header_of, counted}
use Rattle.space.specs.Sound.{Bounds, subgoal_under}
use Rattle.space.specs.declared.Head.{Head}
use Rattle.space.proofs.HeaderLaws.{header-bounds}
use Rattle.store.specs.Clauses.{view_in}
use Rattle.agreement.specs.Records.{Alike}
use Rattle.agreement.proofs.CellRecords.{Kept}
use Rattle.agreement.proofs.CellRecords as cells
use Rattle.agreement.proofs.SameBut.{same-but-same, same-but-alike}
use Rattle.agreement.proofs.Frame.{space-read, Framed}
use Rattle.pairing.specs.declared.Sides.{Sides}
use Rattle.pairing.specs.declared.Cursor.{Cursor}
use Rattle.pairing.specs.declared.Found.{Found}
use Rattle.pairing.specs.declared.Found.TheVariants as found
use Rattle.pairing.specs.Pairing.{Throughout, Stands, to_come, Advances}
use Rattle.join.specs.Entering.{Target}
use Rattle.join.proofs.EnterLaws.{known_kept, stands-kept, come-kept, target-kept}

pub kept_back : {lo hi : ℕ} {cs ds : List ℕ} → Kept lo hi cs ds → Kept lo hi ds cs
kept_back K = record { size = sym K.size; below = λ k h. sym (K.below k h); above = λ k h. sym (K.above k h) }

module _ (cs ds : List ℕ) (h : Head) (space : space_header cs ≡ Ok h) (lo hi : ℕ) (K : Kept lo hi cs ds) (low : 8 + 5 * h.nodes ≤ lo) (high : hi ≤ 8 + 5 * h.node_capacity) where
  bounds : Bounds cs h
  bounds = header-bounds cs h (sym space)

  pub header-kept : space_header ds ≡ Ok h
  unfolding space_header header_of counted
  header-kept =
      rw (
        K.below 0 (omega arith),
        K.below 1 (omega arith),
        K.below 2 (omega arith),
        K.below 3 (omega arith),
        K.below 4 (omega arith),
        K.below 5 (omega arith),
        K.below 6 (omega arith),
        K.below 7 (omega arith),
        K.size,
      ) space

  pub nodes-agree : (n : ℕ) → n < h.nodes → node_in sizes cs n ≡ node_in sizes ds n
  nodes-agree n l = sym (cells.node-same (node_at sizes n) cs ds (λ j a b. K.below j (omega arith)))

  pub subgoals-agree : (s : ℕ) → 1 ≤ s → subgoal_under ds h s ≡ subgoal_under cs h s
  subgoals-agree s l = cells.subgoal-same (subgoal_at (sizes_of h.edition) h.subgoal_offset s) cs ds (λ j a b. K.above j (let f = bounds.subgoals-from in omega arith))

  pub alike : Alike (view_in ds h) (view_in cs h)
  alike = record {
    N-same = refl;
    F-same = refl;
    A-same = refl;
    nodes-same = refl;
    subgoals-same = refl;
    answers-same = refl;
    node-same = λ n l. sym (nodes-agree n l);
    subgoal-same = λ s l m. subgoals-agree s l;
    answer-same = λ a l m. cells.answer-same (answer_at (sizes_of h.edition) h.answer_offset a) cs ds (λ j b c. K.above j (let f = bounds.subgoals-from in let g = bounds.answers-from in omega arith));
  }

  module _ (s : ℕ) (first : 1 ≤ s) (last : s ≤ h.subgoals) (root : (subgoal_under cs h s).root < h.nodes) (end : (subgoal_under cs h s).last ≤ h.answers) where
    abbrev pub framed-draft : Framed h.edition s cs h ds
    framed-draft = record {
      head = h;
      space = header-kept;
      sound = (space-read ds h header-kept).1;
      size = K.size;
      edition-same = refl;
      subgoals-from = refl;
      answers-from = refl;
      end_same = refl;
      view = same-but-alike first last (same-but-same s (view_in cs h) root end) alike;
    }

-- ---- what is known of the sources

module _ (cs ds : List ℕ) (x : Sides) (space : space_header cs ≡ Ok x.h) (lo hi : ℕ) (K : Kept lo hi cs ds) (low : 8 + 5 * x.h.nodes ≤ lo) (high : hi ≤ 8 + 5 * x.h.node_capacity)
    (s : ℕ) (t : Target cs x s) (ps ks : List ℕ) (known : Throughout cs x ps ks) where
  abbrev framed : Framed x.h.edition s cs x.h ds
  framed = framed-draft cs ds x.h space lo hi K low high s t.low t.high t.root_in t.last-in

  pub throughout-draft : Throughout ds x ps ks
  throughout-draft = known_kept cs x s ps ks known t ds framed x.h refl

  target-draft : Target ds x s
  target-draft = target-kept cs x s ps ks known t ds framed x.h refl

  pub stands-draft : (at : Cursor) (hands form : List ℕ) → Stands cs x at hands form → Stands ds x at hands form
  stands-draft at hands form st = stands-kept cs x s ps ks known t ds framed x.h refl at hands form st

  pub come-draft : (at : Cursor) (hands form : List ℕ) → Stands cs x at hands form → to_come ds x ps ks at hands ≡ to_come cs x ps ks at hands
  come-draft at hands form st = come-kept cs x s ps ks known t ds framed x.h refl at hands form st

module _ (cs ds : List ℕ) (x : Sides) (space : space_header cs ≡ Ok x.h) (lo hi : ℕ) (K : Kept lo hi cs ds) (low : 8 + 5 * x.h.nodes ≤ lo) (high : hi ≤ 8 + 5 * x.h.node_capacity)
    (s : ℕ) (t : Target cs x s) (ps ks : List ℕ) (known : Throughout cs x ps ks) (at : Cursor) (hands form : List ℕ) (st : Stands cs x at hands form) (hands' form' : List ℕ) where
  stands-back : (next : Cursor) → Stands ds x next hands' form' → Stands cs x next hands' form'
  stands-back next = stands-draft ds cs x (header-kept cs ds x.h space lo hi K low high) lo hi (kept_back K) low high s (target-draft cs ds x space lo hi K low high s t ps ks known) ps ks
      (throughout-draft cs ds x space lo hi K low high s t ps ks known) next hands' form'

  come : to_come ds x ps ks at hands ≡ to_come cs x ps ks at hands
  come = come-draft cs ds x space lo hi K low high s t ps ks known at hands form st

  -- the next match is the same
  pub advances-back : (r : Found (Cursor × ℕ)) → Advances ds x ps ks at hands hands' form' r → Advances cs x ps ks at hands hands' form' r
  advances-back (found.At p) a =
      let back = stands-back p.0 a.0 in
      (back, (a.1.0, sym come ∙ a.1.1 ∙ ap (λ (ws : List Word). take p.1 form' ∷ ws) (come-draft cs ds x space lo hi K low high s t ps ks known p.0 hands' form' back), a.1.2))
  advances-back found.TooLong a = (a.0, a.1, sym come ∙ a.2, a.3)
  advances-back found.End a = sym come ∙ a
