-- Recoding keeps forms legal, and distinct.
use Prim.Native.Nat.{ℕ, zero, suc, ◌+◌, ◌*◌, ◌/◌, ◌%◌, ◌<◌}
use mathlib.Core.Path.{◌≡◌, refl, sym, ap, ◌∙◌}
use mathlib.Core.Bool.{Bool, true, false, ◌&&◌, false≢true}
use mathlib.Core.List.{List, [], ◌∷◌, map, head-eq_of_cons-eq, tail-eq_of_cons-eq}
use native.Mathlib.Omega.{arith}
use lib.Dec.{eqb, ltb}
use lib.ListN.{length, length-map}
use borrow.Author.Tests.{eqb-true, eqb-false, eq-eqb, ne_eqb, ltb-true}
use Rattle.basis.proofs.Cases.{by_cases}
use Rattle.forms.specs.declared.Token.{Token}
use Rattle.forms.specs.declared.Token.TheVariants.{Sym, Begin, Last, Tail, Other}
use Rattle.forms.specs.Cells.{kind, payload, tag, nil, BLIST, ELIST, EPAIR, variable, callable, shape_of, symbolic, token_of, arity_of}
use Rattle.forms.specs.Terms.{Term, cell, arg, pair, every, reads, are_terms}
use Rattle.forms.specs.Numbering.{seen, met, renamed, numbered}
use Rattle.forms.specs.Compact.{compact, Item, term, last, tail, filled, last_of, tail_of, inside, into, collected, whole, entered, items, front, form_terms, pair_form, are_forms, legal_form}
use Rattle.forms.specs.Stored.{legal_pairs, stores_pairs, stored_of}
use Rattle.forms.proofs.NumberingLaws.{mapped, every-size, begun-map}
use Rattle.forms.proofs.FormLaws.{KeepsMarks, every-mapped}
use Rattle.forms.proofs.RoundTrip.{parts-legal, legal-parts}
use Rattle.forms.proofs.PairForms.{pairs-legal, legal-pairs}
use Rattle.forms.proofs.StoredLaws.{pairs-stored, lists-stored}
use Rattle.plain.specs.Words.{Word}
use Rattle.plain.specs.Coding.{predicate}
use Rattle.carrying.specs.Recoding.{Recoding, unchanged, name_limit, wider, name_fits, widening, recoded, takes_word, recoding_of}

-- what is asked of a recoding between two arity rules
pub record Recodes (r : Recoding) (old new : ℕ → ℕ) : Type 0 where
  pub marks : KeepsMarks r.code
  -- a token stands for the same, with as many arguments, in either stored form
  pub shape : (x : ℕ) → r.takes x ≡ true → shape_of new (r.code x) ≡ shape_of old x
  pub token : (x : ℕ) → r.takes x ≡ true → token_of new (r.code x) ≡ token_of old x
  pub variable-same : (x : ℕ) → variable (r.code x) ≡ variable x
  pub variable-kept : (x : ℕ) → variable x ≡ true → r.code x ≡ x
  pub callable-same : (x : ℕ) → r.takes x ≡ true → callable (r.code x) ≡ callable x
  -- two tokens stay two
  pub differ : (x y : ℕ) → r.takes x ≡ true → r.takes y ≡ true → r.code x ≡ r.code y → x ≡ y
  -- the token of a root, which no form has, is no hindrance
  pub roots : r.takes 0 ≡ true

pub both : (a b : Bool) → (a && b) ≡ true → (a ≡ true) × (b ≡ true)
both true b e = (refl, e)
both false b e = absurd (false≢true e)

module _ (r : Recoding) (old new : ℕ → ℕ) (R : Recodes r old new) where
  abbrev ρ : ℕ → ℕ
  ρ = r.code

  -- ---- reading

  unfoldable itemed : Item → Item
  itemed (term t) = term (mapped ρ t)
  itemed (last t) = last (mapped ρ t)
  itemed (tail t) = tail (mapped ρ t)

  filled-map : (k : ℕ) (f : Term) (is : List Item) → filled k (mapped ρ f) (map itemed is) ≡ map itemed (filled k f is)
  unfolding filled itemed mapped
  filled-map zero f is = refl
  filled-map (suc k) f [] = refl
  filled-map (suc k) f (term t ∷ is) = filled-map k (arg f t) is
  filled-map (suc k) f (last t ∷ is) = refl
  filled-map (suc k) f (tail t ∷ is) = refl

  last-map : (is : List Item) → last_of (map itemed is) ≡ map itemed (last_of is)
  unfolding last_of itemed
  last-map [] = refl
  last-map (term t ∷ is) = refl
  last-map (last t ∷ is) = refl
  last-map (tail t ∷ is) = refl

  tail-map : (is : List Item) → tail_of (map itemed is) ≡ map itemed (tail_of is)
  unfolding tail_of itemed
  tail-map [] = refl
  tail-map (term t ∷ is) = refl
  tail-map (last t ∷ is) = refl
  tail-map (tail t ∷ is) = refl

  inside-map : (t : Term) → inside (mapped ρ t) ≡ inside t
  unfolding inside mapped
  inside-map (cell c) = R.marks.empty c
  inside-map (arg f a) = refl
  inside-map (pair h t) = refl

  into-map : (e : Term) (is : List Item) → into (mapped ρ e) (map itemed is) ≡ map itemed (into e is)
  unfolding into itemed mapped
  into-map e [] = refl
  into-map e (term t ∷ is) = refl
  into-map e (last t ∷ is) = refl
  into-map e (tail t ∷ is) = rw (inside-map t) (by_cases (inside t) (λ p. rw p) (λ p. rw p))

  nil-kept : ρ nil ≡ nil
  nil-kept = eqb-true _ _ (R.marks.empty nil)

  collected-map : (is : List Item) → collected (map itemed is) ≡ map itemed (collected is)
  unfolding collected itemed mapped
  collected-map [] = refl
  collected-map (term e ∷ is) = ap (into (mapped ρ e)) (collected-map is) ∙ into-map e (collected is)
  collected-map (last e ∷ is) = rw nil-kept
  collected-map (tail t ∷ is) = refl

  whole-map : (is : List Item) → whole (map itemed is) ≡ map itemed (whole is)
  unfolding whole itemed
  whole-map [] = refl
  whole-map (term t ∷ is) = refl
  whole-map (last t ∷ is) = refl
  whole-map (tail t ∷ is) = refl

  entered-map : (k : Token) (c : ℕ) (is : List Item) → entered k (ρ c) (map itemed is) ≡ map itemed (entered k c is)
  unfolding entered mapped
  entered-map (Sym k) c is = filled-map k (cell c) is
  entered-map Begin c is = ap whole (collected-map is) ∙ whole-map (collected is)
  entered-map Last c is = last-map is
  entered-map Tail c is = tail-map is
  entered-map Other c is = refl

  items_map : (w : Word) → takes_word r w ≡ true → items (token_of new) (recoded r w) ≡ map itemed (items (token_of old) w)
  unfolding items takes_word
  items_map [] e = refl
  items_map (x ∷ w) e =
      let b = both (r.takes x) (takes_word r w) e in
      rw (R.token x b.0, items_map w b.1) (entered-map (token_of old x) x (items (token_of old) w))

  front-map : (is : List Item) → front (map itemed is) ≡ map (mapped ρ) (front is)
  unfolding front itemed
  front-map [] = refl
  front-map (term t ∷ is) = ap {B = List Term} (λ (l : List Term). mapped ρ t ∷ l) (front-map is)
  front-map (last t ∷ is) = refl
  front-map (tail t ∷ is) = refl

  -- ---- numbering

  seen_same : (vs : List ℕ) (x : ℕ) → seen vs (ρ x) ≡ seen vs x
  unfolding seen
  seen_same vs x = by_cases (variable x)
      (λ e. rw (R.variable-kept x e))
      (λ e. rw (R.variable-same x, e))

  pub met-same : (w : Word) (vs : List ℕ) → met vs (recoded r w) ≡ met vs w
  unfolding met
  met-same [] vs = refl
  met-same (x ∷ w) vs = ap (λ (us : List ℕ). met us (recoded r w)) (seen_same vs x) ∙ met-same w (seen vs x)

  renamed-kept : (vs : List ℕ) (w : Word) → w ≡ map (renamed vs) w → recoded r w ≡ map (renamed vs) (recoded r w)
  unfolding renamed
  renamed-kept vs [] e = refl
  renamed-kept vs (x ∷ w) e =
      let rest = renamed-kept vs w (tail-eq_of_cons-eq e) in
      let here : ρ x ≡ renamed vs (ρ x) = by_cases (variable x)
      (λ v. let k = R.variable-kept x v in let h : x ≡ renamed vs x = head-eq_of_cons-eq e in rw k h)
      (λ v. rw (R.variable-same x, v)) in
      ap {B = List ℕ} (λ (y : ℕ). y ∷ recoded r w) here ∙ ap {B = List ℕ} (λ (l : List ℕ). renamed vs (ρ x) ∷ l) rest

  numbered-kept : (w : Word) → w ≡ numbered w → recoded r w ≡ numbered (recoded r w)
  unfolding numbered
  numbered-kept w e = rw (met-same w []) (renamed-kept (met [] w) w e)

  -- ---- a legal form stays one

  module _ (w : Word) (takes : takes_word r w ≡ true) where
    terms-same : form_terms new (recoded r w) ≡ map (mapped ρ) (form_terms old w)
    unfolding form_terms
    terms-same = rw (items_map w takes) (front-map (items (token_of old) w))

    forms-same : (m : ℕ) → are_forms new m (recoded r w) ≡ are_forms old m w
    unfolding are_forms
    forms-same m =
        rw (terms-same, length-map (form_terms old w) (mapped ρ), every-mapped ρ R.marks (form_terms old w), length-map (every compact (form_terms old w)) ρ, length-map w ρ)

    cells_same : length (pair_form new (recoded r w)) ≡ length (pair_form old w)
    unfolding pair_form
    cells_same = rw terms-same (every-size ρ (form_terms old w))

    pub legal-recoded : (m : ℕ) → legal_form old m w ≡ true → legal_form new m (recoded r w) ≡ true
    legal-recoded m h =
        let p = legal-parts old m w h in
        parts-legal new m (recoded r w) (record {
          numbers = numbered-kept w p.numbers;
          variables = rw (met-same w []) p.variables;
          forms = forms-same m ∙ p.forms;
          cells = rw cells_same p.cells;
        })

    -- and in pair form
    pairs-same : (v : Word) → takes_word r v ≡ true → reads (shape_of new) (recoded r v) ≡ map (mapped ρ) (reads (shape_of old) v)
    unfolding reads takes_word
    pairs-same [] e = refl
    pairs-same (x ∷ v) e =
        let b = both (r.takes x) (takes_word r v) e in
        rw (R.shape x b.0, pairs-same v b.1) (begun-map ρ (shape_of old x) x (reads (shape_of old) v))

    are_terms-same : (m : ℕ) → are_terms new m (recoded r w) ≡ are_terms old m w
    unfolding are_terms
    are_terms-same m =
        rw (pairs-same w takes, length-map (reads (shape_of old) w) (mapped ρ), every-size ρ (reads (shape_of old) w), length-map w ρ)

    pub pairs-recoded : (m : ℕ) → legal_pairs old m w ≡ true → legal_pairs new m (recoded r w) ≡ true
    pairs-recoded m h =
        let p = legal-pairs old m w h in
        pairs-legal new m (recoded r w) (record {
          terms = are_terms-same m ∙ p.0.terms;
          cells = rw (length-map w ρ) p.0.cells;
          variables = rw (met-same w []) p.0.variables;
        })
        (numbered-kept w p.1)

  pub begins-recoded : (w : Word) → takes_word r w ≡ true → predicate w ≡ true → predicate (recoded r w) ≡ true
  unfolding predicate takes_word
  begins-recoded [] e p = p
  begins-recoded (x ∷ w) e p = R.callable-same x (both (r.takes x) (takes_word r w) e).0 ∙ p

  -- ---- two stay two

  pub recoded-differ : (w v : Word) → takes_word r w ≡ true → takes_word r v ≡ true → recoded r w ≡ recoded r v → w ≡ v
  unfolding takes_word
  recoded-differ [] [] d e h = refl
  recoded-differ [] (y ∷ v) d e h = let z : ◌≡◌ {A = ℕ} 0 1 = cc in absurd (omega arith)
  recoded-differ (x ∷ w) [] d e h = let z : ◌≡◌ {A = ℕ} 0 1 = cc in absurd (omega arith)
  recoded-differ (x ∷ w) (y ∷ v) d e h =
      let p = both (r.takes x) (takes_word r w) d in
      let q = both (r.takes y) (takes_word r v) e in
      let a : x ≡ y = R.differ x y p.0 q.0 (head-eq_of_cons-eq h) in
      let b : w ≡ v = recoded-differ w v p.1 q.1 (tail-eq_of_cons-eq h) in
      cc

-- ---- between equal payloads

equal-shape : (new old : ℕ → ℕ) → ((p : ℕ) → new p ≡ old p) → (x : ℕ) → shape_of new x ≡ shape_of old x
unfolding shape_of
equal-shape new old h x = rw (h (payload x))

equal-token : (new old : ℕ → ℕ) → ((p : ℕ) → new p ≡ old p) → (x : ℕ) → token_of new x ≡ token_of old x
unfolding token_of shape_of
equal-token new old h x = rw (h (payload x))

pub unchanged-recodes : (old new : ℕ → ℕ) → ((p : ℕ) → new p ≡ old p) → Recodes unchanged old new
unchanged-recodes old new h = record {
  marks = record { begins = refl; lasts = refl; tails = refl; empty = λ c. refl };
  shape = λ x e. equal-shape new old h x;
  token = λ x e. equal-token new old h x;
  variable-same = λ x. refl;
  variable-kept = λ x e. refl;
  callable-same = λ x e. refl;
  differ = λ x y d e h. h;
  roots = refl;
}

-- ---- from edition 1 to those after it

pub wider-functor : (x : ℕ) → kind x ≡ 4 → wider x ≡ tag 4 (payload x / 16 * 256 + payload x % 16)
unfolding wider
wider-functor x e = rw (eq-eqb (kind x) 4 e)

pub wider-other : (x : ℕ) → (kind x ≡ 4 → ⊥) → wider x ≡ x
unfolding wider
wider-other x e = rw (ne_eqb (kind x) 4 e)

pub named_small : (x : ℕ) → kind x ≡ 4 → name_fits x ≡ true → payload x / 16 < name_limit
unfolding name_fits
named_small x e t = let q : ltb (payload x / 16) name_limit ≡ true = rw (eq-eqb (kind x) 4 e) at t in ltb-true _ _ q

-- the cell of a functor that is small enough
module _ (x : ℕ) (four : kind x ≡ 4) (small : payload x / 16 < 1048576) where
  wider-kind : kind (wider x) ≡ 4
  wider-kind = rw (wider-functor x four) (omega arith)

  wider-payload : payload (wider x) ≡ payload x / 16 * 256 + payload x % 16
  wider-payload = rw (wider-functor x four) (omega arith)

wider-nil : (x : ℕ) → eqb (wider x) nil ≡ eqb x nil
wider-nil x = by_cases (eqb (kind x) 4)
    (λ e. let k : kind x ≡ 4 = eqb-true _ _ e in
    rw (wider-functor x k, ne_eqb (tag 4 (payload x / 16 * 256 + payload x % 16)) nil (λ z. omega arith), ne_eqb x nil (λ z. omega arith)))
    (λ e. rw (wider-other x (eqb-false _ _ e)))

wider-variable : (x : ℕ) → variable (wider x) ≡ variable x
wider-variable x = by_cases (eqb (kind x) 4)
    (λ e. let k : kind x ≡ 4 = eqb-true _ _ e in
    rw (wider-functor x k, ne_eqb (kind (tag 4 (payload x / 16 * 256 + payload x % 16))) 1 (λ z. omega arith), ne_eqb (kind x) 1 (λ z. omega arith)))
    (λ e. rw (wider-other x (eqb-false _ _ e)))

wider-callable : (x : ℕ) → name_fits x ≡ true → callable (wider x) ≡ callable x
unfolding callable
wider-callable x t = by_cases (eqb (kind x) 4)
    (λ e. let k : kind x ≡ 4 = eqb-true _ _ e in rw (wider-kind x k (named_small x k t), k))
    (λ e. rw (wider-other x (eqb-false _ _ e)))

-- what stands in a functor's cell
functor-token : (arity : ℕ → ℕ) (x : ℕ) → kind x ≡ 4 → token_of arity x ≡ symbolic (shape_of arity x)
unfolding token_of
functor-token arity x k = rw (ne_eqb x BLIST (λ z. omega arith), ne_eqb x ELIST (λ z. omega arith), ne_eqb x EPAIR (λ z. omega arith))

functor-shape : (new old : ℕ → ℕ) (x y : ℕ) → kind x ≡ 4 → kind y ≡ 4 → new (payload x) ≡ old (payload y) → shape_of new x ≡ shape_of old y
unfolding shape_of
functor-shape new old x y k l e = rw (k, l, e)

-- what is no functor stands for the same under every arity rule
other-shape : (new old : ℕ → ℕ) (x : ℕ) → eqb (kind x) 4 ≡ false → shape_of new x ≡ shape_of old x
unfolding shape_of
other-shape new old x e = rw e

other-token : (new old : ℕ → ℕ) (x : ℕ) → eqb (kind x) 4 ≡ false → token_of new x ≡ token_of old x
unfolding token_of shape_of
other-token new old x e = rw e

arity-wider : (e n a : ℕ) → (e ≡ 1 → ⊥) → a < 16 → arity_of e (n * 256 + a) ≡ a
unfolding arity_of
arity-wider e n a h l = rw (ne_eqb e 1 h) (omega arith)

arity-first : (p : ℕ) → arity_of 1 p ≡ p % 16
unfolding arity_of
arity-first p = refl

wider-shape : (e : ℕ) → (e ≡ 1 → ⊥) → (x : ℕ) → name_fits x ≡ true → shape_of (arity_of e) (wider x) ≡ shape_of (arity_of 1) x
wider-shape e later x t = by_cases (eqb (kind x) 4)
    (λ q. let k : kind x ≡ 4 = eqb-true _ _ q in
    let s = named_small x k t in
    let a : arity_of e (payload (wider x)) ≡ arity_of 1 (payload x) =
    ap (arity_of e) (wider-payload x k s) ∙ arity-wider e (payload x / 16) (payload x % 16) later (omega arith) ∙ sym (arity-first (payload x)) in
    functor-shape (arity_of e) (arity_of 1) (wider x) x (wider-kind x k s) k a)
    (λ q. rw (wider-other x (eqb-false _ _ q)) (other-shape (arity_of e) (arity_of 1) x q))

wider-token : (e : ℕ) → (e ≡ 1 → ⊥) → (x : ℕ) → name_fits x ≡ true → token_of (arity_of e) (wider x) ≡ token_of (arity_of 1) x
wider-token e later x t = by_cases (eqb (kind x) 4)
    (λ q. let k : kind x ≡ 4 = eqb-true _ _ q in
    functor-token (arity_of e) (wider x) (wider-kind x k (named_small x k t)) ∙ ap symbolic (wider-shape e later x t) ∙ sym (functor-token (arity_of 1) x k))
    (λ q. rw (wider-other x (eqb-false _ _ q)) (other-token (arity_of e) (arity_of 1) x q))

functors-differ : (x y : ℕ) → kind x ≡ 4 → kind y ≡ 4 → payload x / 16 * 256 + payload x % 16 ≡ payload y / 16 * 256 + payload y % 16 → x ≡ y
functors-differ x y k l e = omega arith

wider-differ : (x y : ℕ) → name_fits x ≡ true → name_fits y ≡ true → wider x ≡ wider y → x ≡ y
wider-differ x y s t h = by_cases (eqb (kind x) 4)
    (λ p. let k : kind x ≡ 4 = eqb-true _ _ p in
    by_cases (eqb (kind y) 4)
    (λ q. let l : kind y ≡ 4 = eqb-true _ _ q in
    functors-differ x y k l (sym (wider-payload x k (named_small x k s)) ∙ ap (λ (c : ℕ). payload c) h ∙ wider-payload y l (named_small y l t)))
    (λ q. absurd (eqb-false _ _ q (ap (λ (c : ℕ). kind c) (sym (wider-other y (eqb-false _ _ q))) ∙ ap (λ (c : ℕ). kind c) (sym h) ∙ wider-kind x k (named_small x k s)))))
    (λ p. by_cases (eqb (kind y) 4)
    (λ q. let l : kind y ≡ 4 = eqb-true _ _ q in
    absurd (eqb-false _ _ p (ap (λ (c : ℕ). kind c) (sym (wider-other x (eqb-false _ _ p))) ∙ ap (λ (c : ℕ). kind c) h ∙ wider-kind y l (named_small y l t))))
    (λ q. sym (wider-other x (eqb-false _ _ p)) ∙ h ∙ wider-other y (eqb-false _ _ q)))

pub widening-recodes : (e : ℕ) → (e ≡ 1 → ⊥) → Recodes widening (arity_of 1) (arity_of e)
widening-recodes e later = record {
  marks = record {
    begins = wider-other BLIST (λ z. omega arith);
    lasts = wider-other ELIST (λ z. omega arith);
    tails = wider-other EPAIR (λ z. omega arith);
    empty = wider-nil;
  };
  shape = wider-shape e later;
  token = wider-token e later;
  variable-same = wider-variable;
  variable-kept = λ x v. let k : kind x ≡ 1 = eqb-true _ _ v in wider-other x (λ z. omega arith);
  callable-same = wider-callable;
  differ = wider-differ;
  roots = unfold name_fits in refl;
}

-- ---- between any two editions, but back to edition 1

arity-later : (e d p : ℕ) → (e ≡ 1 → ⊥) → (d ≡ 1 → ⊥) → arity_of d p ≡ arity_of e p
unfolding arity_of
arity-later e d p h k = rw (ne_eqb e 1 h, ne_eqb d 1 k)

pub recoding-recodes : (e d : ℕ) → (d ≡ 1 → e ≡ 1) → Recodes (recoding_of e d) (arity_of e) (arity_of d)
recoding-recodes e d h = by_cases (eqb e 1)
    (λ p. let q : e ≡ 1 = eqb-true e 1 p in
    by_cases (eqb d 1)
    (λ u. let v : d ≡ 1 = eqb-true d 1 u in rw (p, u, q, v) (unchanged-recodes (arity_of 1) (arity_of 1) (λ x. refl)))
    (λ u. rw (p, u, q) (widening-recodes d (eqb-false d 1 u))))
    (λ p. let q : e ≡ 1 → ⊥ = eqb-false e 1 p in
    rw p (unchanged-recodes (arity_of e) (arity_of d) (λ x. arity-later e d x q (λ z. q (h z)))))

-- ---- a legal form of an edition stays one in another that stores the same form

pub stored-recoded : (e d : ℕ) (r : Recoding) → Recodes r (arity_of e) (arity_of d) → stores_pairs e ≡ stores_pairs d → (m : ℕ) (w : Word)
    → takes_word r w ≡ true → (stored_of e).legal m w ≡ true → (stored_of d).legal m (recoded r w) ≡ true
stored-recoded e d r R alike m w takes h = by_cases (stores_pairs e)
    (λ x. let k : legal_pairs (arity_of e) m w ≡ true = rw (pairs-stored e x) at h in
    rw (pairs-stored d (sym alike ∙ x)) (pairs-recoded r (arity_of e) (arity_of d) R w takes m k))
    (λ x. let k : legal_form (arity_of e) m w ≡ true = rw (lists-stored e x) at h in
    rw (lists-stored d (sym alike ∙ x)) (legal-recoded r (arity_of e) (arity_of d) R w takes m k))
