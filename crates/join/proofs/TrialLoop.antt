-- The pass over all forms of a join that counts on trial.
use mathlib.Core.Path.{◌≡◌, refl, sym, ap, ◌∙◌, subst}
use mathlib.Core.Bool.{Bool, true, false}
use mathlib.Core.List.{List, [], ◌∷◌}
use Prim.Native.Nat.{ℕ, ◌+◌, ◌*◌, ◌<◌, ◌≤◌}
use native.Mathlib.Omega.{arith}
use lib.ListN.{length, take}
use Rattle.std.specs.Prelude.{Err, Ok}
use Rattle.basis.specs.Choice.{pick}
use Rattle.forms.specs.Stored.{stored_of}
use Rattle.plain.specs.Words.{Word, has}
use Rattle.space.specs.Layout.{sizes, node_in}
use Rattle.space.specs.Sound.{Bounds, NodesIn, subgoal_under}
use Rattle.space.proofs.HeaderLaws.{header-bounds}
use Rattle.trie.specs.Walks.{Finding}
use Rattle.trie.proofs.SearchLaws.{Finds}
use Rattle.store.specs.Decisions.{walk_to_by, lacking, nodes_needed_by, answers_needed_by}
use Rattle.store.specs.Clauses.{view_in}
use Rattle.parts.specs.Parts.{all_fit}
use Rattle.drafts.specs.Entries.{lowest, highest}
use Rattle.drafts.specs.Notes.{roots_below}
use Rattle.drafts.specs.Wiping.{Wiped}
use Rattle.drafts.proofs.Steady.{Steady}
use Rattle.drafts.proofs.Noting.{noted-none}
use Rattle.drafts.proofs.DraftLaws.{kept_same}
use Rattle.drafts.proofs.WipeCases.{wiped-same}
use Rattle.drafts.proofs.Roots.{roots-prefixes, roots-size, keyed-none, bucketed-none}
use Rattle.pairing.specs.declared.Sides.{Sides}
use Rattle.pairing.specs.declared.Cursor.{Cursor}
use Rattle.pairing.specs.declared.Walk.{Walk}
use Rattle.pairing.specs.declared.Found.{Found}
use Rattle.pairing.specs.declared.Found.TheVariants as found
use Rattle.pairing.specs.Pairing.{Throughout, Stands, to_come, Advances}
use Rattle.pairing.specs.Counting.{Begun, all_forms}
use Rattle.pairing.proofs.CountLaws.{begins, all_come, fit-cons, all-few}
use Rattle.join.specs.declared.Tally.{Tally}
use Rattle.join.specs.declared.Untried.{Untried}
use Rattle.join.specs.declared.Untried.TheVariants as untried
use Rattle.join.specs.Joining.{Enterable}
use Rattle.join.specs.Trial.{Tried, room_of, Within, nodes_for, answers_for, Tallied, Formable, TriesForm, Tryable, TriesForms, TriesAll}
use Rattle.join.proofs.TrialFrame.{throughout-draft, stands-draft, advances-back}

nodes-cons : (find : Finding) (cs : List ℕ) (x : Sides) (s : ℕ) (before : List Word) (w : Word) (ws : List Word)
    → nodes_needed_by find (view_in cs x.h) s before (w ∷ ws) ≡ nodes_for find cs x s before w + nodes_needed_by find (view_in cs x.h) s (w ∷ before) ws
unfolding nodes_needed_by
nodes-cons find cs x s before w ws = refl

answers-cons : (find : Finding) (cs : List ℕ) (x : Sides) (s : ℕ) (before : List Word) (w : Word) (ws : List Word)
    → answers_needed_by find (view_in cs x.h) s before (w ∷ ws) ≡ answers_for find cs x s before w + answers_needed_by find (view_in cs x.h) s (w ∷ before) ws
unfolding answers_needed_by
answers-cons find cs x s before w ws = refl

nodes-nil : (find : Finding) (cs : List ℕ) (x : Sides) (s : ℕ) (before : List Word) → nodes_needed_by find (view_in cs x.h) s before [] ≡ 0
unfolding nodes_needed_by
nodes-nil find cs x s before = refl

answers-nil : (find : Finding) (cs : List ℕ) (x : Sides) (s : ℕ) (before : List Word) → answers_needed_by find (view_in cs x.h) s before [] ≡ 0
unfolding answers_needed_by
answers-nil find cs x s before = refl

-- what is left of the needs
pub record Trying (find : Finding) (cs : List ℕ) (x : Sides) (free root : ℕ) (ps ks ds : List ℕ) (at : Cursor) (hands form : List ℕ) (y : Tally) : Type 0 where
  pub stands : Stands cs x at hands form
  pub fit : all_fit (stored_of x.h.edition) (to_come cs x ps ks at hands) ≡ true
  pub before : List Word
  pub tallied : Tallied find cs x free root ds y.used before
  pub nodes : (s : ℕ) → root ≡ (subgoal_under cs x.h s).root
      → y.used + nodes_needed_by find (view_in cs x.h) s before (to_come cs x ps ks at hands) ≡ x.h.nodes + nodes_needed_by find (view_in cs x.h) s [] (all_forms cs x ps ks)
  pub answers : (s : ℕ) → root ≡ (subgoal_under cs x.h s).root
      → y.answers + answers_needed_by find (view_in cs x.h) s before (to_come cs x ps ks at hands) ≡ answers_needed_by find (view_in cs x.h) s [] (all_forms cs x ps ks)
  pub few : y.answers + length (to_come cs x ps ks at hands) ≤ length (all_forms cs x ps ks)

one-most : (b c : Bool) → pick b (pick c 0 1) 0 ≤ 1
one-most true true = omega arith
one-most true false = omega arith
one-most false c = omega arith

abbrev pub no_tally : Sides → Tally
no_tally x = record { used = x.h.nodes; answers = 0 }

module _ {find : Finding} (finds : Finds find) (steady : Steady find) (cs : List ℕ) (x : Sides) (free root : ℕ) (ps ks : List ℕ) (R : Tryable cs x free root ps ks) where
  target : ℕ
  target = R.0.0

  E : Enterable cs x R.0.0 ps ks
  E = R.0.1

  within : (s : ℕ) → root ≡ (subgoal_under cs x.h s).root → (subgoal_under cs x.h s).root < x.h.nodes
  within s r = subst (λ (i : ℕ). i < x.h.nodes) (sym R.0.2 ∙ r) R.0.1.target.root_in

  pub trying-begun : (w : Walk) → Begun x w → Trying find cs x free root ps ks cs w.at w.first w.form (no_tally x)
  trying-begun w b =
      let e = all_come cs x ps ks w b in
      let o : Bounds cs x.h = header-bounds cs x.h (sym R.0.1.space) in
      record {
        stands = begins cs x ps ks R.0.1.ready w b;
        fit = subst (λ (ws : List Word). all_fit (stored_of x.h.edition) ws ≡ true) e R.0.1.fit;
        before = [];
        tallied = record {
          kept = kept_same _ _ cs;
          buckets = bucketed-none cs (room_of x free) o.some-node R.2;
          noted = λ s r. (roots_below x.h.nodes, ap length (roots-prefixes x.h.nodes) ∙ roots-size x.h.nodes, keyed-none (node_in sizes cs) x.h.nodes, noted-none finds steady (view_in cs x.h) s (within s r));
        };
        nodes = λ s r. ap (λ (ws : List Word). x.h.nodes + nodes_needed_by find (view_in cs x.h) s [] ws) (sym e);
        answers = λ s r. let i = ap (answers_needed_by find (view_in cs x.h) s []) e in omega arith;
        few = (let i = ap length e in omega arith);
      }

  module _ (ds : List ℕ) (at : Cursor) (hands form : List ℕ) (y : Tally) (G : Trying find cs x free root ps ks ds at hands form y) where
    low : 8 + 5 * x.h.nodes ≤ lowest (room_of x free)
    low = omega arith

    high : highest (room_of x free) ≤ 8 + 5 * x.h.node_capacity
    high = let c = R.1 in omega arith

    pub trying-known : Throughout ds x ps ks
    trying-known = throughout-draft cs ds x R.0.1.space _ _ G.tallied.kept low high R.0.0 R.0.1.target ps ks R.0.1.ready.known

    pub trying-stands : Stands ds x at hands form
    trying-stands = stands-draft cs ds x R.0.1.space _ _ G.tallied.kept low high R.0.0 R.0.1.target ps ks R.0.1.ready.known at hands form G.stands

    pub trying-next : (hands' form' : List ℕ) (r : Found (Cursor × ℕ)) → Advances ds x ps ks at hands hands' form' r → Advances cs x ps ks at hands hands' form' r
    trying-next = advances-back cs ds x R.0.1.space _ _ G.tallied.kept low high R.0.0 R.0.1.target ps ks R.0.1.ready.known at hands form G.stands

    pub tried-long : TriesForms find cs x free root ps ks ds (Err untried.Unknown)
    tried-long = (G.tallied.kept, tt)

    pub tried-end : to_come ds x ps ks at hands ≡ [] → TriesForms find cs x free root ps ks ds (Ok y)
    tried-end a =
        let e = trying-next [] [] found.End a in (
          G.tallied.kept,
          λ s r.
              let n = G.nodes s r in
              let i = ap (nodes_needed_by find (view_in cs x.h) s G.before) e ∙ nodes-nil find cs x s G.before in
              let m = G.answers s r in
              let j = ap (answers_needed_by find (view_in cs x.h) s G.before) e ∙ answers-nil find cs x s G.before in
              (omega arith, omega arith),
        )

    module _ (hands' form' : List ℕ) where
      module _ (next : Cursor) (n : ℕ) (b : Advances ds x ps ks at hands hands' form' (found.At (next, n))) where
        a : Advances cs x ps ks at hands hands' form' (found.At (next, n))
        a = trying-next hands' form' (found.At (next, n)) b

        pub trying-less : length (to_come cs x ps ks next hands') < length (to_come cs x ps ks at hands)
        trying-less = let e = ap length a.1.1 in omega arith

        nodes-here : (s : ℕ) → nodes_needed_by find (view_in cs x.h) s G.before (to_come cs x ps ks at hands)
            ≡ nodes_for find cs x s G.before (take n form') + nodes_needed_by find (view_in cs x.h) s (take n form' ∷ G.before) (to_come cs x ps ks next hands')
        nodes-here s = ap (nodes_needed_by find (view_in cs x.h) s G.before) a.1.1 ∙ nodes-cons find cs x s G.before (take n form') (to_come cs x ps ks next hands')

        answers-here : (s : ℕ) → answers_needed_by find (view_in cs x.h) s G.before (to_come cs x ps ks at hands)
            ≡ answers_for find cs x s G.before (take n form') + answers_needed_by find (view_in cs x.h) s (take n form' ∷ G.before) (to_come cs x ps ks next hands')
        answers-here s = ap (answers_needed_by find (view_in cs x.h) s G.before) a.1.1 ∙ answers-cons find cs x s G.before (take n form') (to_come cs x ps ks next hands')

        pub trying-on : (ds' : List ℕ) (z : Tally) → TriesForm find x free root ds y (take n form') ds' (Ok z) → Trying find cs x free root ps ks ds' next hands' form' z
        trying-on ds' z f =
            let q = f cs G.before G.tallied in
            record {
              stands = a.0;
              fit = sym (fit-cons (stored_of x.h.edition) (take n form') (to_come cs x ps ks next hands') a.1.2) ∙ ap (all_fit (stored_of x.h.edition)) (sym a.1.1) ∙ G.fit;
              before = take n form' ∷ G.before;
              tallied = q.0;
              nodes = λ s r. let u = (q.1 s r).0 in let i = nodes-here s in let j = G.nodes s r in omega arith;
              answers = λ s r. let u = (q.1 s r).1 in let i = answers-here s in let j = G.answers s r in omega arith;
              few = (let u = (q.1 R.0.0 R.0.2).1 in
                  let i = one-most (lacking (view_in cs x.h) (walk_to_by find (view_in cs x.h) R.0.0 (take n form'))) (has G.before (take n form')) in
                  let j = ap length a.1.1 in let k = G.few in omega arith);
            }

        pub trying-formable : Formable ds x free root (take n form') y
        trying-formable =
            let m = all-few cs x ps ks R.0.1.ready in
            let j = ap length a.1.1 in
            let k = G.few in
            (trying-known.bounds, subst (λ (i : ℕ). i < x.h.nodes) (sym R.0.2) R.0.1.target.root_in, R.1, G.tallied.buckets, omega arith)

        -- the form is not tallied
        pub tried-none : (ds' : List ℕ) (why : Untried) → TriesForm find x free root ds y (take n form') ds' (Err why) → TriesForms find cs x free root ps ks ds' (Err why)
        tried-none ds' untried.Over f =
            let q = f cs G.before G.tallied in
            (q.0, λ s r. let u = q.1 s r in let i = nodes-here s in let j = G.nodes s r in omega arith)
        tried-none ds' untried.Unknown f = (f cs G.before G.tallied, tt)

  pub trial-nodes : (ds : List ℕ) → Within x free cs ds → NodesIn ds (x.h.nodes + free)
  trial-nodes ds K =
      let b : Bounds cs x.h = header-bounds cs x.h (sym R.0.1.space) in
      let c = R.1 in
      let z = K.size in
      record { few = (let m = b.nodes-most in omega arith); held = (let f = b.subgoals-from in let g = b.answers-from in let h = b.end-at in let e = b.end-within in omega arith) }

  -- the draft is wiped
  pub tried-all : (ds es : List ℕ) (r : Tried) → TriesForms find cs x free root ps ks ds r → Wiped ds (room_of x free) es → TriesAll find cs x free root ps ks es r
  tried-all ds es r t w = (wiped-same cs ds es (room_of x free) R.2 t.0 w, t.1)
