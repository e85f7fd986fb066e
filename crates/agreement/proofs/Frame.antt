-- A form that is given to one subgoal, by any way of finding a child, leaves the records, the paths and the chains of all
-- others, whatever the cells hold: also where they are damaged. So a join may read its sources again while it gives forms to
-- its target.
use Rattle.basis.specs.declared.refusals.Refusal.TheVariants as refusal
use Rattle.std.specs.Prelude.{Err, Ok}
use Prim.Native.Nat.{ℕ, ◌+◌, ◌-◌, ◌<◌, ◌≤◌}
use mathlib.Core.Path.{◌≡◌, refl, sym, ap, ◌∙◌, subst}
use mathlib.Core.Bool.{true, ◌&&◌}
use mathlib.Core.List.{List, [], ◌∷◌}
use native.Mathlib.Omega.{arith}
use lib.Dec.{eqb, leb, ltb}
use lib.ListN.{length, get_or, length-set}
use borrow.Author.Tests.{leb-true, ltb-true}
use Rattle.basis.specs.Editions.{known_edition}
use Rattle.basis.specs.Writes.{put}
use Rattle.basis.proofs.Cases.{by_cases}
use Rattle.basis.proofs.WritesLaws.{length-writes}
use Rattle.plain.specs.Words.{Word}
use Rattle.plain.specs.Requests.{Reply, refused}
use Rattle.space.specs.Layout.{Sizes, sizes_of, subgoal_offset_of, node_at, node_to, subgoal_in, state_cell}
use Rattle.space.specs.Heading.{header_of, space_header, Header}
use Rattle.space.specs.declared.Head.{Head}
use Rattle.space.specs.declared.Subgoal.{Subgoal}
use Rattle.trie.specs.Siblings.{Trie, search_children}
use Rattle.trie.specs.Walks.{Walk, whole, stopped, damaged, onward, Finding, root_sound, walk_from_by, walk_by}
use Rattle.trie.specs.Append.{new_node, lead_cell, append_node, append_path, with_path}
use Rattle.trie.specs.declared.Search.{Search}
use Rattle.trie.specs.declared.Search.TheVariants.{Found, Last, Damaged}
use Rattle.store.specs.Views.{View, view_of, answer_trie}
use Rattle.store.specs.Decisions.{Decision, says, gives, enters_subgoal, enters_answer, enters_empty, finishes, enters_answers, sound_answer, sound_last, answered_new, answered_old, answered_at, walk_to_by}
use Rattle.store.specs.Changes.{answer_entered, answer_given, form_given_by, forms_given_by, change}
use Rattle.trie.proofs.SearchLaws.{Finds}
use Rattle.store.proofs.CallsWalks.{walk-stopped}
use Rattle.store.proofs.JoinCases.{given-written}
use Rattle.agreement.specs.Records.{Alike, Fits, says-fits, answer-fits, empty-fits, changed_view}
use Rattle.agreement.proofs.HeaderTests.{header_read}
use Rattle.agreement.proofs.CellChanges.{sizes-wide, cells-change}
use Rattle.agreement.proofs.Theorem.{header-any}
use Rattle.agreement.proofs.SameBut.{SameBut, node-same, path-kept, same-but-same, same-but-then, same-but-alike, new-kept, finish-kept}

-- ---- a walk that stopped has a token left

step_left : (find : Finding) (t : Trie) (n x p l : ℕ) (xs left : List ℕ) (f : Search) → onward f n (x ∷ xs) (λ child. walk_from_by find t child xs) ≡ stopped p l left
    → ((c : ℕ) → walk_from_by find t c xs ≡ stopped p l left → 1 ≤ length left) → 1 ≤ length left
step_left find t n x p l xs left (Found c) e next = next c e
step_left find t n x p l xs left (Last k) e next = let d : ◌≡◌ {A = List ℕ} (x ∷ xs) left = cc in rw (← d) (omega arith)
step_left find t n x p l xs left Damaged e next = let z : ◌≡◌ {A = ℕ} 0 1 = cc in absurd (omega arith)

pub from-left : (ys : List ℕ) (find : Finding) (t : Trie) (n p l : ℕ) (left : List ℕ) → walk_from_by find t n ys ≡ stopped p l left → 1 ≤ length left
unfolding walk_from_by
from-left [] find t n p l left e = let z : ◌≡◌ {A = ℕ} 0 1 = cc in absurd (omega arith)
from-left (x ∷ xs) find t n p l left e = step_left find t n x p l xs left (find t n x) e (λ c f. from-left xs find t c p l left f)

walk-left : (find : Finding) (t : Trie) (root p l : ℕ) (ys left : List ℕ) → walk_by find t root ys ≡ stopped p l left → 1 ≤ length left
unfolding walk_by
walk-left find t root p l ys left e = by_cases (root_sound t root)
    (λ r. from-left ys find t root p l left (rw r at e))
    (λ r. let f : damaged ≡ stopped p l left = rw r at e in let z : ◌≡◌ {A = ℕ} 0 1 = cc in absurd (omega arith))

-- ---- what the decision on an answer comes to

module _ (v : View) (s : ℕ) (P : Decision → Type 0) (spoken : (r : Reply) → P (says r)) where
  new-comes : (more : ℕ) (d : Decision) → (sound_last v s ≡ true → v.nodes + more ≤ v.N → v.answers < v.A → P d) → P (answered_new v s more d)
  unfolding answered_new
  new-comes more d f = by_cases (sound_last v s)
      (λ p. by_cases (eqb (v.subgoal s).state 0)
      (λ o. by_cases (leb (v.nodes + more) v.N)
      (λ q. by_cases (ltb v.answers v.A)
      (λ r. rw (p, o, q, r) (f p (leb-true _ _ q) (ltb-true _ _ r)))
      (λ r. rw (p, o, q, r) (spoken (refused 11))))
      (λ q. rw (p, o, q) (spoken (refused 10))))
      (λ o. rw (p, o) (spoken (refused 8))))
      (λ p. rw p (spoken (refused 9)))

  answered-comes : (w : Word) (x : Walk)
      → (sound_last v s ≡ true → v.answers < v.A → P (enters_empty s))
      → ((parent last : ℕ) (left : Word) → x ≡ stopped parent last left → sound_last v s ≡ true → v.nodes + length left ≤ v.N → v.answers < v.A → P (enters_answer s parent last left))
      → P (answered_at v s w x)
  unfolding answered_at answered_old
  answered-comes w (whole leaf) f g = by_cases (eqb (v.node leaf).link 0)
      (λ p. by_cases (eqb (length w) 0)
      (λ q. rw (p, q) (new-comes 0 (enters_empty s) (λ j room free. f j free)))
      (λ q. rw (p, q) (spoken (refused 9))))
      (λ p. by_cases (sound_answer v (v.node leaf).link && eqb (v.answer (v.node leaf).link).leaf leaf)
      (λ q. rw (p, q) (spoken _))
      (λ q. rw (p, q) (spoken (refused 9))))
  answered-comes w (stopped parent last left) f g = new-comes (length left) (enters_answer s parent last left) (g parent last left refl)
  answered-comes w damaged f g = spoken (refused 9)

-- it fits, and leaves all but s
module _ {find : Finding} (finds : Finds find) (v : View) (s : ℕ) (low : 1 ≤ s) (high : s ≤ v.subgoals) (root : (v.subgoal s).root < v.nodes) (last : (v.subgoal s).last ≤ v.answers) where
  abbrev Leaves : Decision → Type 0
  Leaves d = Fits v d × SameBut s v (changed_view v d)

  path-leaves : (w : Word) (parent child : ℕ) (left : Word) → walk_to_by find v s w ≡ stopped parent child left → sound_last v s ≡ true → v.nodes + length left ≤ v.N → v.answers < v.A
      → Leaves (enters_answer s parent child left)
  unfolding changed_view
  path-leaves w parent child left e judged room free =
      let b = walk-stopped finds (answer_trie v) (v.subgoal s).root parent child w left root e in (
        answer-fits s parent child left low high last b.parent-within b.last_within (walk-left find (answer_trie v) (v.subgoal s).root parent child w left e) room free,
        new-kept v s root last judged (with_path v.node v.nodes parent child left) (v.nodes + length left) (v.nodes + length left - 1) (omega arith)
            (λ n h. path-kept left v.node v.nodes parent child v.answers n h),
      )

  pub decision-leaves : (w : Word) → Fits v (answered_at v s w (walk_to_by find v s w)) × SameBut s v (changed_view v (answered_at v s w (walk_to_by find v s w)))
  decision-leaves w = answered-comes v s Leaves
      (λ r. (says-fits r, unfold changed_view in same-but-same s v root last))
      w (walk_to_by find v s w)
      (λ judged free. (
        empty-fits s low high last root free,
        unfold changed_view in finish-kept (new-kept v s root last judged v.node v.nodes (v.subgoal s).root (omega arith) (λ n h. node-same v.nodes v.answers n (v.node n))),
      ))
      (path-leaves w)

-- ---- the cells

module _ (z : Sizes) where
  node-size : (cs : List ℕ) (n parent last token : ℕ) → length (append_node z cs n parent last token) ≡ length cs
  unfolding append_node
  node-size cs n parent last token = length-writes (put (lead_cell z parent last) n ∷ node_to (node_at z n) (new_node token parent)) cs

  path-size : (xs cs : List ℕ) (n parent last : ℕ) → length (append_path z cs n parent last xs) ≡ length cs
  unfolding append_path
  path-size [] cs n parent last = refl
  path-size (x ∷ xs) cs n parent last = path-size xs (append_node z cs n parent last x) (n + 1) n 0 ∙ node-size cs n parent last x

  entered-size : (cs : List ℕ) (h : Head) (s : ℕ) (g : Subgoal) (leaf nodes : ℕ) → length (answer_entered z cs h s g leaf nodes) ≡ length cs
  unfolding answer_entered
  entered-size cs h s g leaf nodes = by_cases (eqb g.last 0) (λ e. simp (e, length-set)) (λ e. simp (e, length-set))

  given-size : (cs : List ℕ) (h : Head) (d : Decision) → length (answer_given z cs h d) ≡ length cs
  unfolding answer_given
  given-size cs h (says r) = refl
  given-size cs h (gives ks) = refl
  given-size cs h (enters_subgoal parent last left m) = refl
  given-size cs h (enters_answer s parent last left) = entered-size (append_path z cs h.nodes parent last left) h s _ _ _ ∙ path-size left cs h.nodes parent last
  given-size cs h (enters_empty s) =
      let g : Subgoal = subgoal_in z cs h.subgoal_offset s in
      length-writes (put (state_cell z h.subgoal_offset s) 1 ∷ []) (answer_entered z cs h s g g.root h.nodes) ∙ entered-size cs h s g g.root h.nodes
  given-size cs h (finishes s) = refl
  given-size cs h (enters_answers s ws) = refl

-- the header of a space is that of the edition that it names
pub space-read : (cs : List ℕ) (h : Head) → space_header cs ≡ Ok h → (known_edition h.edition ≡ true) × (header_of (sizes_of h.edition) cs ≡ Ok h)
unfolding space_header
space-read cs h e = by_cases (known_edition (get_or cs 0 0))
    (λ k.
    let sound : header_of (sizes_of (get_or cs 0 0)) cs ≡ Ok h = rw k at e in
    let i : h.edition ≡ get_or cs 0 0 = ap (λ (x : Head). x.edition) (header_read (sizes_of (get_or cs 0 0)) cs h sound).is in
    (subst (λ (x : ℕ). known_edition x ≡ true) (sym i) k, subst (λ (x : ℕ). header_of (sizes_of x) cs ≡ Ok h) (sym i) sound))
    (λ k. let f : Err refusal.Header ≡ Ok h = rw k at e in let z : ◌≡◌ {A = ℕ} 0 1 = cc in absurd (omega arith))

-- cells of edition e after forms were given to subgoal s, before which they were cs with the header h. Capacities and
-- subgoals are among what stays of the view.
pub record Framed (e s : ℕ) (cs : List ℕ) (h : Head) (cs' : List ℕ) : Type 0 where
  pub head : Head
  pub space : space_header cs' ≡ Ok head
  pub sound : header_of (sizes_of e) cs' ≡ Ok head
  pub size : length cs' ≡ length cs
  pub edition-same : head.edition ≡ h.edition
  pub subgoals-from : head.subgoal_offset ≡ h.subgoal_offset
  pub answers-from : head.answer_offset ≡ h.answer_offset
  pub end_same : head.end ≡ h.end
  pub view : SameBut s (view_of (sizes_of e) cs h) (view_of (sizes_of e) cs' head)

pub framed_then : {e s : ℕ} {cs : List ℕ} {h : Head} {cs' cs'' : List ℕ} → (F : Framed e s cs h cs') → Framed e s cs' F.head cs'' → Framed e s cs h cs''
framed_then F G = record {
  head = G.head;
  space = G.space;
  sound = G.sound;
  size = G.size ∙ F.size;
  edition-same = G.edition-same ∙ F.edition-same;
  subgoals-from = G.subgoals-from ∙ F.subgoals-from;
  answers-from = G.answers-from ∙ F.answers-from;
  end_same = G.end_same ∙ F.end_same;
  view = same-but-then F.view G.view;
}

-- two sound headers of one edition with the same capacities have the same places
record Places (h h' : Head) : Type 0 where
  edition-same : h'.edition ≡ h.edition
  subgoals-from : h'.subgoal_offset ≡ h.subgoal_offset
  answers-from : h'.answer_offset ≡ h.answer_offset
  end_same : h'.end ≡ h.end

places_same : (z : Sizes) (cs cs' : List ℕ) (h h' : Head) → header_of z cs ≡ Ok h → header_of z cs' ≡ Ok h'
    → h'.node_capacity ≡ h.node_capacity → h'.subgoal_capacity ≡ h.subgoal_capacity → h'.answer_capacity ≡ h.answer_capacity → Places h h'
places_same z cs cs' h h' e e' n f a =
    let r = header_read z cs h e in
    let r' = header_read z cs' h' e' in
    record {
      edition-same = ap (λ (x : Head). x.edition) r'.is ∙ r'.headed.edition ∙ sym (ap (λ (x : Head). x.edition) r.is ∙ r.headed.edition);
      subgoals-from = ap (λ (x : Head). x.subgoal_offset) r'.is ∙ r'.headed.subgoals-from ∙ ap (subgoal_offset_of z) n
          ∙ sym (ap (λ (x : Head). x.subgoal_offset) r.is ∙ r.headed.subgoals-from);
      answers-from = ap (λ (x : Head). x.answer_offset) r'.is ∙ r'.headed.answers-from ∙ rw (n, f)
          (sym (ap (λ (x : Head). x.answer_offset) r.is ∙ r.headed.answers-from));
      end_same = ap (λ (x : Head). x.end) r'.is ∙ r'.headed.end-at ∙ rw (n, f, a)
          (sym (ap (λ (x : Head). x.end) r.is ∙ r.headed.end-at));
    }

-- ---- the frame

module _ {find : Finding} (finds : Finds find) (e s : ℕ) (known : known_edition e ≡ true) (low : 1 ≤ s) where
  form-framed-of : (cs : List ℕ) (h : Head) → header_of (sizes_of e) cs ≡ Ok h → s ≤ h.subgoals
      → ((view_of (sizes_of e) cs h).subgoal s).root < h.nodes → ((view_of (sizes_of e) cs h).subgoal s).last ≤ h.answers
      → (w : Word) → Framed e s cs h (form_given_by find (sizes_of e) cs s w (Ok h))
  unfolding form_given_by
  form-framed-of cs h sound high root last w =
      let v : View = view_of (sizes_of e) cs h in
      let x : Walk = walk_to_by find v s w in
      let d : Decision = answered_at v s w x in
      let l = decision-leaves finds v s low high root last w in
      let c = cells-change (sizes_of e) (sizes-wide e) cs h d sound l.0 in
      let is : change (sizes_of e) cs h d ≡ answer_given (sizes_of e) cs h d = given-written search_children (sizes_of e) cs h s w x in
      let cs' : List ℕ = answer_given (sizes_of e) cs h d in
      let h' : Head = c.0 in
      let sound' : header_of (sizes_of e) cs' ≡ Ok h' = subst (λ (ds : List ℕ). header_of (sizes_of e) ds ≡ Ok h') is c.1 in
      let alike : Alike (view_of (sizes_of e) cs' h') (changed_view v d) = subst (λ (ds : List ℕ). Alike (view_of (sizes_of e) ds h') (changed_view v d)) is c.2 in
      let view : SameBut s v (view_of (sizes_of e) cs' h') = same-but-alike low high l.1 alike in
      let p = places_same (sizes_of e) cs cs' h h' sound sound' view.N-same view.F-same view.A-same in
      record {
        head = h';
        space = (header-any e known cs' h' sound').0;
        sound = sound';
        size = given-size (sizes_of e) cs h d;
        edition-same = p.edition-same;
        subgoals-from = p.subgoals-from;
        answers-from = p.answers-from;
        end_same = p.end_same;
        view = view;
      }

  -- the forms behind the first, by what they leave of the cells that it leaves
  forms-step : (w : Word) (ws : List Word) (cs : List ℕ) (h : Head) → header_of (sizes_of e) cs ≡ Ok h → s ≤ h.subgoals
      → Framed e s cs h (form_given_by find (sizes_of e) cs s w (Ok h))
      → (let ds = form_given_by find (sizes_of e) cs s w (Ok h) in
      (h' : Head) → header_of (sizes_of e) ds ≡ Ok h' → s ≤ h'.subgoals
      → ((view_of (sizes_of e) ds h').subgoal s).root < h'.nodes → ((view_of (sizes_of e) ds h').subgoal s).last ≤ h'.answers → Framed e s ds h' (forms_given_by find (sizes_of e) ds s ws))
      → Framed e s cs h (forms_given_by find (sizes_of e) cs s (w ∷ ws))
  unfolding forms_given_by
  forms-step w ws cs h sound high F later =
      let G = later F.head F.sound (omega (arith, F.view.subgoals-same)) F.view.root-within F.view.last_within in
      subst (λ (x : Header). Framed e s cs h (forms_given_by find (sizes_of e) (form_given_by find (sizes_of e) cs s w x) s ws)) (sym sound) (framed_then F G)

  forms-framed-of : (ws : List Word) (cs : List ℕ) (h : Head) → header_of (sizes_of e) cs ≡ Ok h → s ≤ h.subgoals
      → ((view_of (sizes_of e) cs h).subgoal s).root < h.nodes → ((view_of (sizes_of e) cs h).subgoal s).last ≤ h.answers
      → Framed e s cs h (forms_given_by find (sizes_of e) cs s ws)
  forms-framed-of [] cs h sound high root last = unfold forms_given_by in record {
    head = h;
    space = (header-any e known cs h sound).0;
    sound = sound;
    size = refl;
    edition-same = refl;
    subgoals-from = refl;
    answers-from = refl;
    end_same = refl;
    view = same-but-same s (view_of (sizes_of e) cs h) root last;
  }
  forms-framed-of (w ∷ ws) cs h sound high root last =
      forms-step w ws cs h sound high (form-framed-of cs h sound high root last w)
      (forms-framed-of ws (form_given_by find (sizes_of e) cs s w (Ok h)))

-- one form, and a list of forms, given to a subgoal of a space whose header is sound
module _ {find : Finding} (finds : Finds find) (cs : List ℕ) (h : Head) (space : space_header cs ≡ Ok h) (s : ℕ) (low : 1 ≤ s) (high : s ≤ h.subgoals)
    (root : ((view_of (sizes_of h.edition) cs h).subgoal s).root < h.nodes) (last : ((view_of (sizes_of h.edition) cs h).subgoal s).last ≤ h.answers) where
  pub form-framed : (w : Word) → Framed h.edition s cs h (form_given_by find (sizes_of h.edition) cs s w (Ok h))
  form-framed w = let r = space-read cs h space in form-framed-of finds h.edition s r.0 low cs h r.1 high root last w

  pub forms-framed : (ws : List Word) → Framed h.edition s cs h (forms_given_by find (sizes_of h.edition) cs s ws)
  forms-framed ws = let r = space-read cs h space in forms-framed-of finds h.edition s r.0 low ws cs h r.1 high root last

  -- before any form
  pub framed-none : Framed h.edition s cs h cs
  framed-none = unfold forms_given_by in forms-framed []

-- and one form more
pub framed-form : {find : Finding} → Finds find → {e s : ℕ} {cs : List ℕ} {h : Head} {cs' : List ℕ} → 1 ≤ s → s ≤ h.subgoals → (F : Framed e s cs h cs') → (w : Word)
    → Framed e s cs h (form_given_by find (sizes_of e) cs' s w (Ok F.head))
framed-form finds {e} {s} {cs} {h} {cs'} low high F w =
    let i : F.head.edition ≡ e = ap (λ (x : Head). x.edition) (header_read (sizes_of e) cs' F.head F.sound).is ∙ (header_read (sizes_of e) cs' F.head F.sound).headed.edition in
    let known : known_edition e ≡ true = subst (λ (k : ℕ). known_edition k ≡ true) i (space-read cs' F.head F.space).0 in
    framed_then F (form-framed-of finds e s known low cs' F.head F.sound (omega (arith, F.view.subgoals-same)) F.view.root-within F.view.last_within w)
