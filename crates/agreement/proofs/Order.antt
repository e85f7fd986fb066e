-- Arrival order on the cells: exchanges that the cells accept are exchanges that the plain table accepts, and all that is
-- compared of the cells is what the table shows. All of it is shown of any library that answers as the plain table does; the
-- cells come in last.
use mathlib.Core.Path.{◌≡◌, refl, sym, ap, ◌∙◌, subst}
use mathlib.Core.Bool.{true}
use mathlib.Core.List.{List, [], ◌∷◌}
use Prim.Native.Nat.{ℕ, ◌≤◌}
use Rattle.basis.specs.Editions.{known_edition}
use Rattle.plain.specs.Coding.{Coding, coding_of}
use Rattle.plain.specs.Requests.{State, Request, answer, next, Counts, Result, Seen, trace, left}
use Rattle.plain.specs.Table.{Table, fresh, counted, step, table_trace}
use Rattle.plain.specs.Order.{Accepted, Exchangeable, Exchanged, unchanged, exchange, behind, again, unnumbered, heard}
use Rattle.plain.specs.Order.{HandsOut, SameAnswers, SameButNumbers, OtherOrder, Rearranged, ArrivalOrder}
use Rattle.plain.proofs.StoredCoding.{coding-laws}
use Rattle.plain.proofs.Exchanges.{other-order, rearranged}
use Rattle.space.specs.Layout.{sizes_of}
use Rattle.space.specs.Fresh.{fresh_space_in}
use Rattle.store.specs.Views.{view_of}
use Rattle.store.specs.Calls.{space_step, Answers, counted_cells}
use Rattle.agreement.specs.History.{alone}
use Rattle.agreement.specs.Order.{CellsArrivalOrder, Lending, IndexedArrivalOrder}
use Rattle.agreement.proofs.SameRecords.{same-counts}
use Rattle.agreement.proofs.Holding.{Holds}
use Rattle.agreement.proofs.Steps.{step-answers}
use Rattle.agreement.proofs.Following.{left-related}
use Rattle.agreement.proofs.Theorem.{deciding, fresh_in}
use Rattle.agreement.proofs.IndexSteps.{cells_in, state-holds, fresh-held}
use Rattle.agreement.proofs.Histories.{way_same}

-- what a state answers where it stands for a table: what the table answers, and the state left stands for the table left
pub record Mirrors (c : Coding) {S : Type 0} (library : S → Request → Result S) (count : S → Counts) (StandsFor : Table → S → Type 0) : Type 0 where
  pub replies : (t : Table) (s : S) (q : Request) → StandsFor t s → (library s q).reply ≡ (step c t q).reply
  pub outs : (t : Table) (s : S) (q : Request) → StandsFor t s → (library s q).out ≡ (step c t q).out
  pub states : (t : Table) (s : S) (q : Request) → StandsFor t s → StandsFor (step c t q).state (library s q).state
  pub counts : (t : Table) (s : S) → StandsFor t s → count s ≡ counted t

module _ (c : Coding) {S : Type 0} (library : S → Request → Result S) (count : S → Counts) (StandsFor : Table → S → Type 0)
    (mirrors : Mirrors c library count StandsFor) where
  -- ---- what the library shows is what the table shows

  reply-after : (t : Table) (s : S) (q p : Request) → StandsFor t s
      → (library (library s q).state p).reply ≡ (step c (step c t q).state p).reply
  reply-after t s q p k = mirrors.replies (step c t q).state (library s q).state p (mirrors.states t s q k)

  seen_same : (t : Table) (s : S) → StandsFor t s → (qs : List Request) → trace library count s qs ≡ table_trace c t qs
  unfolding trace
  seen_same t s k [] = refl
  seen_same t s k (q ∷ qs) =
      let l = mirrors.states t s q k in
      rw (mirrors.replies t s q k, mirrors.outs t s q k, mirrors.counts (step c t q).state (library s q).state l)
      (ap (λ (xs : List Seen). record { reply = (step c t q).reply; counted = counted (step c t q).state; out = (step c t q).out } ∷ xs)
      (seen_same (step c t q).state (library s q).state l qs))

  left-stands : (t : Table) (s : S) → StandsFor t s → (qs : List Request) → StandsFor (left (step c) t qs) (left library s qs)
  left-stands t s k qs = left-related (step c) library StandsFor mirrors.states qs t s k

  hands-same : (t : Table) (s : S) → StandsFor t s → (i : ℕ) (x : State) (a : ℕ) (bs : List ℕ)
      → HandsOut (step c) t i x a bs → HandsOut library s i x a bs
  hands-same t s k i x a [] h = mirrors.replies t s (next i a) k ∙ h
  hands-same t s k i x a (b ∷ bs) h = (mirrors.replies t s (next i a) k ∙ h.0, hands-same t s k i x b bs h.1)

  -- ---- exchanges

  exchangeable-plain : (t : Table) (s : S) → StandsFor t s → (x : ℕ) (ks : List ℕ) (y : ℕ) (ls : List ℕ)
      → Exchangeable library s x ks y ls → Exchangeable (step c) t x ks y ls
  exchangeable-plain t s k x ks y ls e = record {
    apart = e.apart;
    first = subst Accepted (mirrors.replies t s (answer x ks) k) e.first;
    second = subst Accepted (reply-after t s (answer x ks) (answer y ls) k) e.second;
  }

  exchangeable-back : (t : Table) (s : S) → StandsFor t s → (x : ℕ) (ks : List ℕ) (y : ℕ) (ls : List ℕ)
      → Exchangeable (step c) t x ks y ls → Exchangeable library s x ks y ls
  exchangeable-back t s k x ks y ls e = record {
    apart = e.apart;
    first = subst Accepted (sym (mirrors.replies t s (answer x ks) k)) e.first;
    second = subst Accepted (sym (reply-after t s (answer x ks) (answer y ls) k)) e.second;
  }

  exchanged-plain : (t : Table) (s : S) (qs rs : List Request) → StandsFor t s → Exchanged library s qs rs
      → Exchanged (step c) t qs rs
  exchanged-plain t r qs rs k (unchanged s l) = unchanged t l
  exchanged-plain t r qs rs k (exchange s x ks y ls l e) = exchange t x ks y ls l (exchangeable-plain t s k x ks y ls e)
  exchanged-plain t r qs rs k (behind s q l m e) =
      behind t q l m (exchanged-plain (step c t q).state (library s q).state l m (mirrors.states t s q k) e)
  exchanged-plain t r qs rs k (again s l m p e f) = again t l m p (exchanged-plain t s l m k e) (exchanged-plain t s m p k f)

  -- ---- what is left

  answers-stand : (t u : Table) (s r : S) → StandsFor t s → StandsFor u r → (i : ℕ)
      → SameAnswers (step c) counted i t u → SameAnswers library count i s r
  answers-stand t u s r k l i h = record {
    state = h.state;
    numbers = h.numbers;
    handed = hands-same t s k i h.state 0 h.numbers h.handed;
    other-numbers = h.other-numbers;
    other-handed = hands-same u r l i h.state 0 h.other-numbers h.other-handed;
    loads = λ out. seen_same t s k _ ∙ h.loads out ∙ sym (seen_same u r l _);
    instances = λ out. seen_same t s k _ ∙ h.instances out ∙ sym (seen_same u r l _);
  }

  alike-stand : (t u : Table) (s r : S) → StandsFor t s → StandsFor u r → SameButNumbers (step c) counted t u
      → SameButNumbers library count s r
  alike-stand t u s r k l h = record {
    same-counts = mirrors.counts t s k ∙ h.same-counts ∙ sym (mirrors.counts u r l);
    same-answers = λ i low high. answers-stand t u s r k l i (h.same-answers i low (subst (λ (n : Counts). i ≤ n.subgoals) (mirrors.counts t s k) high));
    same-replies = λ i qs. ap (heard i qs) (seen_same t s k qs) ∙ h.same-replies i qs ∙ sym (ap (heard i qs) (seen_same u r l qs));
  }

  other-stand : (t : Table) (s : S) → StandsFor t s → (x y : ℕ) (ks ls : List ℕ)
      → Exchangeable library s x ks y ls
      → OtherOrder library count s x ks y ls
  other-stand t s k x y ks ls e =
      let o = other-order c t x y ks ls (exchangeable-plain t s k x ks y ls e) in
      record {
        exchangeable = exchangeable-back t s k y ls x ks o.exchangeable;
        first_word = ap unnumbered (mirrors.replies t s (answer x ks) k) ∙ o.first_word ∙ sym (ap unnumbered (reply-after t s (answer y ls) (answer x ks) k));
        second_word = ap unnumbered (reply-after t s (answer x ks) (answer y ls) k) ∙ o.second_word ∙ sym (ap unnumbered (mirrors.replies t s (answer y ls) k));
        states = alike-stand _ _ _ _ (left-stands t s k (answer x ks ∷ answer y ls ∷ [])) (left-stands t s k (answer y ls ∷ answer x ks ∷ [])) o.states;
      }

  rearranged-stand : (t : Table) (s : S) → StandsFor t s → (qs rs : List Request) → Exchanged library s qs rs
      → Rearranged library count s qs rs
  rearranged-stand t s k qs rs e =
      let r = rearranged c t qs rs (exchanged-plain t s qs rs k e) in
      record {
        hears = λ i. ap (heard i qs) (seen_same t s k qs) ∙ r.hears i ∙ sym (ap (heard i rs) (seen_same t s k rs));
        states = alike-stand _ _ _ _ (left-stands t s k qs) (left-stands t s k rs) r.states;
      }

  pub arrival-order : (n f a : ℕ) (s : S) → StandsFor (fresh n f a) s → ArrivalOrder library count s
  arrival-order n f a s k = record {
    exchanging = λ before x y ks ls h. other-stand _ _ (left-stands _ _ k before) x y ks ls h;
    rearranging = λ qs rs h. rearranged-stand _ _ k qs rs h;
  }

-- ---- the cells of an edition, each call with an index or without

module _ (e : ℕ) (known : known_edition e ≡ true) {S : Type 0} (cells : S → List ℕ) (library : S → Request → Result S)
    (lending : Lending cells library) where
  abbrev Stored : Table → S → Type 0
  Stored t s = Holds (sizes_of e) (coding_of e) t (cells s)

  -- the call is the one without an index
  call-alone : (t : Table) (s : S) (q : Request) → Stored t s
      → Answers (cells s) q (library s q).reply (library s q).out (cells (library s q).state)
  call-alone t s q k =
      let l = lending s q in
      let w = way_same e known t (cells s) k l.0 q in (
        l.1.0 ∙ ap (λ (x : Result (List ℕ)). x.reply) w,
        l.1.1 ∙ ap (λ (x : Result (List ℕ)). x.out) w,
        l.1.2 ∙ ap (λ (x : Result (List ℕ)). x.state) w,
      )

  pub cells-mirror : Mirrors (coding_of e) library (λ x. counted_cells (cells x)) Stored
  cells-mirror = record {
    replies = λ t s q k.
        (call-alone t s q k).0 ∙ ap (λ (x : Result (List ℕ)). x.reply) (deciding e known (cells s) k.head q k.sound)
        ∙ (step-answers (sizes_of e) (coding_of e) (cells_in e known) (coding-laws e) t (cells s) k.head k.sound k.same q).replies;
    outs = λ t s q k.
        (call-alone t s q k).1 ∙ ap (λ (x : Result (List ℕ)). x.out) (deciding e known (cells s) k.head q k.sound)
        ∙ (step-answers (sizes_of e) (coding_of e) (cells_in e known) (coding-laws e) t (cells s) k.head k.sound k.same q).leaves;
    states = λ t s q k.
        subst (Holds (sizes_of e) (coding_of e) (step (coding_of e) t q).state) (sym (call-alone t s q k).2) (state-holds e known t (cells s) q k);
    counts = λ t s k.
        (cells_in e known).cells-counts (cells s) k.head k.sound
        ∙ sym (same-counts (coding_of e) (coding-laws e) t (view_of (sizes_of e) (cells s) k.head) k.same);
  }

pub indexed-arrival-order : IndexedArrivalOrder
indexed-arrival-order S cells library lending e n f a before s d i =
    let k = fresh_in e n f a before d in
    arrival-order (coding_of e) library (λ x. counted_cells (cells x)) (Stored e k.0 cells library lending)
    (cells-mirror e k.0 cells library lending) n f a s
    (subst (Holds (sizes_of e) (coding_of e) (fresh n f a)) (sym (i ∙ k.2)) (fresh-held e k.0 n f a before k.1))

pub cells-arrival-order : CellsArrivalOrder
cells-arrival-order e n f a s d =
    indexed-arrival-order (List ℕ) (λ cs. cs) space_step (λ cs q. (alone, (refl, refl, refl))) e n f a s (fresh_space_in e n f a s) d refl
