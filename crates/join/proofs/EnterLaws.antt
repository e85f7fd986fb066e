-- The pass over all forms of a join that enters them: what is known of the sources stays known as the target's cells
-- change, and the forms that are still to come stay the same.
use mathlib.Core.Path.{◌≡◌, sym, ap, ◌∙◌, subst}
use mathlib.Core.Bool.{true}
use mathlib.Core.List.{List, [], map}
use Prim.Native.Nat.{ℕ, ◌≤◌, ◌<◌}
use native.Mathlib.Omega.{arith}
use lib.ListN.{length, take}
use Rattle.std.specs.Prelude.{Err, Ok}
use Rattle.basis.specs.declared.refusals.Refusal.{Refusal}
use Rattle.forms.specs.Stored.{stored_of}
use Rattle.plain.specs.Words.{Word}
use Rattle.plain.specs.Coding.{coding_of}
use Rattle.space.specs.Layout.{sizes_of}
use Rattle.space.specs.Heading.{space_header, Header}
use Rattle.space.specs.Sound.{Bounds, subgoal_under}
use Rattle.space.specs.declared.Head.{Head}
use Rattle.space.specs.declared.Subgoal.{Subgoal}
use Rattle.space.proofs.HeaderLaws.{header-bounds}
use Rattle.trie.specs.Siblings.{search_children}
use Rattle.trie.specs.Walks.{Finding}
use Rattle.trie.proofs.SearchLaws.{Finds}
use Rattle.store.specs.Views.{view_of}
use Rattle.plain.specs.Requests.{Reply}
use Rattle.store.specs.Decisions.{unbroken, chain_from, walk_to_by}
use Rattle.store.specs.Changes.{change, form_given_by, forms_given_by}
use Rattle.store.proofs.JoinCases.{given-written}
use Rattle.store.specs.Clauses.{view_in, Does, Held, answered_from}
use Rattle.agreement.proofs.ChainSteps.{chain-longer}
use Rattle.agreement.proofs.SameBut.{SameBut, chain-stays}
use Rattle.agreement.proofs.Frame.{space-read, Framed, form-framed}
use Rattle.parts.specs.Parts.{parts, AllGround, InHand, all_fit}
use Rattle.pairing.specs.declared.Source.{Source}
use Rattle.pairing.specs.declared.Sides.{Sides}
use Rattle.pairing.specs.declared.Cursor.{Cursor}
use Rattle.pairing.specs.declared.Walk.{Walk}
use Rattle.pairing.specs.declared.Found.TheVariants as found
use Rattle.pairing.specs.Pairing.{forms_from, SourceIn, Remains, form_in, Throughout, Stands, parts_from, to_come, Advances}
use Rattle.pairing.specs.Counting.{Begun, all_forms, JoinReady, Fitting}
use Rattle.join.specs.Entering.{under_head, Target, Givable, Enters}
use Rattle.pairing.proofs.RemainsLaws.{forms-are}
use Rattle.pairing.proofs.CountLaws.{begins, all_come, fit-cons}

pub sound-is : {h k : Head} → ◌≡◌ {A = Header} (Ok h) (Ok k) → h ≡ k
sound-is e = cc

-- ---- the sources of a join while its target is given a form

module _ (cs : List ℕ) (h : Head) (s : ℕ) (cs' : List ℕ) (F : Framed h.edition s cs h cs') (h' : Head) (is : F.head ≡ h') where
  edition-kept : h'.edition ≡ h.edition
  edition-kept = ap (λ (k : Head). k.edition) (sym is) ∙ F.edition-same

  space-kept : space_header cs' ≡ Ok h'
  space-kept = F.space ∙ ap (λ (k : Head). Ok k) is

  seen : SameBut s (view_in cs h) (view_in cs' h')
  seen =
      subst (λ (e : ℕ). SameBut s (view_in cs h) (view_of (sizes_of e) cs' h')) (sym edition-kept)
      (subst (λ (k : Head). SameBut s (view_in cs h) (view_of (sizes_of h.edition) cs' k)) is F.view)

  pub bounds-kept : Bounds cs' h'
  bounds-kept = header-bounds cs' h' (sym space-kept)

  module _ (y : Source) (i : SourceIn cs h y) (other : y.number ≡ s → ⊥) where
    record-kept : subgoal_under cs' h' y.number ≡ subgoal_under cs h y.number
    record-kept = seen.subgoal-kept y.number i.low i.high other

    source-kept : SourceIn cs' h' y
    source-kept = record {
      low = i.low;
      high = omega (arith, i.high, seen.subgoals-same);
      rooted = i.rooted ∙ ap (λ (g : Subgoal). g.root) (sym record-kept);
      termed = i.termed ∙ ap (λ (g : Subgoal). g.variables) (sym record-kept);
      few = i.few;
    }

    module _ (a : ℕ) (r : Remains cs h y a) where
      chain-kept : chain_from (coding_of h'.edition) (view_in cs' h') y.number h'.answers a ≡ unbroken (forms_from cs h y.number a)
      chain-kept =
          subst (λ (e : ℕ). chain_from (coding_of e) (view_in cs' h') y.number h'.answers a ≡ unbroken (forms_from cs h y.number a)) (sym edition-kept)
          (chain-longer (coding_of h.edition) (view_in cs' h') y.number h.answers h'.answers a (forms_from cs h y.number a) seen.answers-grow
          (chain-stays seen y.number i.low i.high other (coding_of h.edition) h.answers a (forms_from cs h y.number a) r.within r.sound))

      forms-kept : forms_from cs' h' y.number a ≡ forms_from cs h y.number a
      forms-kept = forms-are cs' h' y.number a (forms_from cs h y.number a) chain-kept

      remains-kept : Remains cs' h' y a
      remains-kept = record {
        within = omega (arith, r.within, seen.answers-grow);
        sound = chain-kept ∙ ap unbroken (sym forms-kept);
        ground = subst (AllGround (stored_of h'.edition) y.variables) (sym forms-kept)
            (subst (λ (e : ℕ). AllGround (stored_of e) y.variables (forms_from cs h y.number a)) (sym edition-kept) r.ground);
      }

-- ---- the join

module _ (cs : List ℕ) (x : Sides) (s : ℕ) (ps ks : List ℕ) (k : Throughout cs x ps ks) (t : Target cs x s) (cs' : List ℕ) (F : Framed x.h.edition s cs x.h cs') (h' : Head) (is : F.head ≡ h') where
  abbrev x' : Sides
  x' = under_head x h'

  pub known_kept : Throughout cs' (under_head x h') ps ks
  known_kept = record {
    bounds = bounds-kept cs x.h s cs' F h' is;
    first = source-kept cs x.h s cs' F h' is x.first k.first t.not_first;
    second = source-kept cs x.h s cs' F h' is x.second k.second t.not-second;
    all = remains-kept cs x.h s cs' F h' is x.second k.second t.not-second x.second.first k.all;
    paired = k.paired;
    copied = k.copied;
  }

  pub target-kept : Target cs' (under_head x h') s
  target-kept =
      let v = seen cs x.h s cs' F h' is in
      record {
        low = t.low;
        high = omega (arith, t.high, v.subgoals-same);
        root_in = v.root-within;
        last-in = v.last_within;
        not_first = t.not_first;
        not-second = t.not-second;
      }

  module _ (at : Cursor) (hands form : List ℕ) (st : Stands cs x at hands form) where
    pub stands-kept : Stands cs' (under_head x h') at hands form
    stands-kept = record {
      outer = remains-kept cs x.h s cs' F h' is x.first k.first t.not_first at.outer st.outer;
      inner = record {
        rest = remains-kept cs x.h s cs' F h' is x.second k.second t.not-second at.inner st.inner.rest;
        held = λ l. subst (λ (e : ℕ). InHand (stored_of e) x.first.variables (form_in x.first.variables hands) hands) (sym (edition-kept cs x.h s cs' F h' is)) (st.inner.held l);
        hands-room = st.inner.hands-room;
        form-room = st.inner.form-room;
      };
    }

    parts-kept : (y : Source) (i : SourceIn cs x.h y) (other : y.number ≡ s → ⊥) (a : ℕ) (r : Remains cs x.h y a) → parts_from cs' h' y a ≡ parts_from cs x.h y a
    parts-kept y i other a r =
        ap (λ (e : ℕ). map (parts (stored_of e)) (forms_from cs' h' y.number a)) (edition-kept cs x.h s cs' F h' is)
        ∙ ap (λ (ws : List Word). map (parts (stored_of x.h.edition)) ws) (forms-kept cs x.h s cs' F h' is y i other a r)

    pub come-kept : to_come cs' (under_head x h') ps ks at hands ≡ to_come cs x ps ks at hands
    come-kept =
        let e = edition-kept cs x.h s cs' F h' is in
        let i = parts-kept x.second k.second t.not-second at.inner st.inner.rest in
        let o = parts-kept x.first k.first t.not_first at.outer st.outer in
        let a = parts-kept x.second k.second t.not-second x.second.first k.all in
        rw (i, o, a, e)

-- ---- the loop

module _ (find : Finding) where
  pub record Entering (cs0 : List ℕ) (x0 : Sides) (s : ℕ) (ps ks cs : List ℕ) (x : Sides) (at : Cursor) (hands form : List ℕ) : Type 0 where
    pub space : space_header cs ≡ Ok x.h
    pub known : Throughout cs x ps ks
    pub target : Target cs x s
    pub stands : Stands cs x at hands form
    pub fit : all_fit (stored_of x.h.edition) (to_come cs x ps ks at hands) ≡ true
    pub left : forms_given_by find (sizes_of x.h.edition) cs s (to_come cs x ps ks at hands) ≡ forms_given_by find (sizes_of x0.h.edition) cs0 s (all_forms cs0 x0 ps ks)

module _ {find : Finding} (finds : Finds find) where
  module _ (cs0 : List ℕ) (x0 : Sides) (s : ℕ) (ps ks : List ℕ) where
    pub entering-begun : space_header cs0 ≡ Ok x0.h → JoinReady cs0 x0 ps ks → Fitting cs0 x0 ps ks → Target cs0 x0 s → (w : Walk) → Begun x0 w → Entering find cs0 x0 s ps ks cs0 x0 w.at w.first w.form
    entering-begun e r f t w b = record {
      space = e;
      known = r.known;
      target = t;
      stands = begins cs0 x0 ps ks r w b;
      fit = subst (λ (ws : List Word). all_fit (stored_of x0.h.edition) ws ≡ true) (all_come cs0 x0 ps ks w b) f;
      left = ap (forms_given_by find (sizes_of x0.h.edition) cs0 s) (sym (all_come cs0 x0 ps ks w b));
    }

    module _ (cs : List ℕ) (x : Sides) (at : Cursor) (hands form : List ℕ) (n : Entering find cs0 x0 s ps ks cs x at hands form) where
      -- nothing more matches
      pub entered-end : to_come cs x ps ks at hands ≡ [] → Enters find cs0 x0 s ps ks cs
      unfolding forms_given_by
      entered-end e = sym (ap (forms_given_by find (sizes_of x.h.edition) cs s) e) ∙ n.left

      module _ (hands' form' : List ℕ) (next : Cursor) (m : ℕ) (a : Advances cs x ps ks at hands hands' form' (found.At (next, m))) (cs' : List ℕ) (g : cs' ≡ form_given_by find (sizes_of x.h.edition) cs s (take m form') (Ok x.h)) where
        framed : Framed x.h.edition s cs x.h cs'
        framed = subst (Framed x.h.edition s cs x.h) (sym g) (form-framed finds cs x.h n.space s n.target.low n.target.high n.target.root_in n.target.last-in (take m form'))

        given : forms_given_by find (sizes_of x.h.edition) cs s (to_come cs x ps ks at hands) ≡ forms_given_by find (sizes_of x.h.edition) cs' s (to_come cs x ps ks next hands')
        unfolding forms_given_by
        given =
            ap (forms_given_by find (sizes_of x.h.edition) cs s) a.1.1
            ∙ ap (λ (y : Header). forms_given_by find (sizes_of x.h.edition) (form_given_by find (sizes_of x.h.edition) cs s (take m form') y) s (to_come cs x ps ks next hands')) (space-read cs x.h n.space).1
            ∙ ap (λ (ds : List ℕ). forms_given_by find (sizes_of x.h.edition) ds s (to_come cs x ps ks next hands')) (sym g)

        pub entering-size : length cs' ≡ length cs
        entering-size = framed.size

        pub still-sound : (r : Refusal) → Err r ≡ space_header cs' → ⊥
        still-sound r e = let q : ◌≡◌ {A = Header} (Err r) (Ok framed.head) = e ∙ framed.space in cc

        pub entering-on : (h' : Head) → Ok h' ≡ space_header cs' → Entering find cs0 x0 s ps ks cs' (under_head x h') next hands' form'
        entering-on h' e =
            let is : framed.head ≡ h' = sound-is (sym framed.space ∙ sym e) in
            let come = come-kept cs x s ps ks n.known n.target cs' framed h' is next hands' form' a.0 in
            let ed = edition-kept cs x.h s cs' framed h' is in
            record {
              space = sym e;
              known = known_kept cs x s ps ks n.known n.target cs' framed h' is;
              target = target-kept cs x s ps ks n.known n.target cs' framed h' is;
              stands = stands-kept cs x s ps ks n.known n.target cs' framed h' is next hands' form' a.0;
              fit = subst (λ (ws : List Word). all_fit (stored_of h'.edition) ws ≡ true) (sym come)
                  (subst (λ (d : ℕ). all_fit (stored_of d) (to_come cs x ps ks next hands') ≡ true) (sym ed)
                  (sym (fit-cons (stored_of x.h.edition) (take m form') (to_come cs x ps ks next hands') a.1.2) ∙ ap (all_fit (stored_of x.h.edition)) (sym a.1.1) ∙ n.fit));
              left = ap (λ (d : ℕ). forms_given_by find (sizes_of d) cs' s (to_come cs' (under_head x h') ps ks next hands')) ed
                  ∙ ap (forms_given_by find (sizes_of x.h.edition) cs' s) come
                  ∙ sym given
                  ∙ n.left;
            }

      -- there are fewer to come
      pub entering-less : (hands' form' : List ℕ) (next : Cursor) (m : ℕ) (a : Advances cs x ps ks at hands hands' form' (found.At (next, m))) (cs' : List ℕ) (g : cs' ≡ form_given_by find (sizes_of x.h.edition) cs s (take m form') (Ok x.h))
          (h' : Head) → Ok h' ≡ space_header cs' → length (to_come cs' (under_head x h') ps ks next hands') < length (to_come cs x ps ks at hands)
      entering-less hands' form' next m a cs' g h' e =
          let F = framed hands' form' next m a cs' g in
          let is : F.head ≡ h' = sound-is (sym F.space ∙ sym e) in
          let come = come-kept cs x s ps ks n.known n.target cs' F h' is next hands' form' a.0 in
          omega (arith, ap length come, ap length a.1.1)

-- ---- one form

-- a form given as a single answer is
pub given_by : (find : Finding) (cs : List ℕ) (h : Head) (s : ℕ) (w : Word) (g : Subgoal) (r : Reply) (cs' : List ℕ) → g ≡ subgoal_under cs h s → Does cs h (answered_from find s g.root w) r cs' → cs' ≡ form_given_by find (sizes_of h.edition) cs s w (Ok h)
unfolding form_given_by
given_by find cs h s w g r cs' e d =
    d.1
    ∙ ap (λ (q : Subgoal). change (sizes_of h.edition) cs h (answered_from find s q.root w (view_in cs h))) e
    ∙ given-written search_children (sizes_of h.edition) cs h s w (walk_to_by find (view_in cs h) s w)

pub givable-held : (cs : List ℕ) (h : Head) (s : ℕ) (g : Subgoal) → Givable cs h s → g ≡ subgoal_under cs h s → Held cs h s g
givable-held cs h s g p e =
    (p.0, p.1, p.2, e, subst (λ (q : Subgoal). q.last ≤ h.answers) (sym e) p.4, subst (λ (q : Subgoal). q.root < h.nodes) (sym e) p.3)

pub target-givable : (cs : List ℕ) (x : Sides) (s : ℕ) → Bounds cs x.h → Target cs x s → Givable cs x.h s
target-givable cs x s b t = (b, t.low, t.high, t.root_in, t.last-in)
