-- Laws of the scan over cells of pair form: each step, and what it tells of the terms.
use Rattle.basis.specs.declared.refusals.Refusal.TheVariants as refusal
use Rattle.std.specs.Prelude.{Err, None, Ok, Some}
use Prim.Native.Nat.{ℕ, suc, ◌+◌, ◌*◌, ◌≤◌, ◌<◌}
use mathlib.Core.List.{List, [], ◌∷◌, ◌++◌}
use mathlib.Core.Bool.{true, false}
use mathlib.Core.Path.{◌≡◌, refl, sym, ap, ◌∙◌, subst}
use native.Mathlib.Omega.{arith}
use lib.ListN.{length, take, drop, get_or, set, length-set, take-append-drop}
use lib.Seq.{sets, take-length, take_at, length-take-le, drop-cons}
use lib.Dec.{eqb, ltb}
use borrow.Author.Tests.{eqb-true, eqb-false, ltb-true, ltb-false}
use Rattle.basis.proofs.Cases.{by_cases}
use Rattle.forms.specs.declared.Shape.{Shape}
use Rattle.forms.specs.declared.Shape.TheVariants.{Symbol, Pair, Illegal}
use Rattle.forms.specs.Cells.{shape_of}
use Rattle.forms.specs.Terms.{reads, are_terms}
use Rattle.forms.specs.Due.{arguments, due_after, due_of}
use Rattle.forms.specs.Numbering.{met, numbered}
use Rattle.forms.specs.Stored.{pair_stored, legal_pairs}
use Rattle.forms.specs.Converting.{reading, loading, formed}
use Rattle.forms.specs.Promises.{Legal}
use Rattle.forms.proofs.FormLaws.{every-pairs-least}
use Rattle.forms.proofs.NumberingLaws.{numbered-length, met-length}
use Rattle.forms.proofs.ExactLaws.{terms-pairs}
use Rattle.forms.proofs.DueLaws.{due-append, terms-end, only-terms}
use Rattle.forms.proofs.PairForms.{pairs-legal, legal-pairs}
use Rattle.pair_reader.specs.Storing.{numbered_from, Stored}
use Rattle.pair_reader.proofs.StoringLaws.{stored-none, stored-append}
use Rattle.form_reader.specs.Loading.{in_order, met_after, ordered, met_in}
use Rattle.form_reader.proofs.FormSteps.{ordered-append, met-in-append, met-in-most}
use Rattle.convert.specs.Scans.{due_past, Scanned}
use Rattle.convert.specs.Holds.{HoldsForm, HoldsVariables, HoldsTerms}
use Rattle.convert.proofs.ReadingLaws.{numbered-whole, sets-taken, malformed, crowded, accepted}
use Rattle.convert.proofs.LoadingLaws.{ordered-numbered, unordered-numbered}
use Rattle.convert.proofs.CopyLaws.{take-grow, copy_step}

-- ---- what is due after a cell

pub behind-some : (due : ℕ) (q : Shape) (next : ℕ) → Some next ≡ due_past due q → (q ≡ Illegal → ⊥) × (next ≡ due_after due (arguments q))
unfolding due_past arguments
behind-some due (Symbol k) next e = ((λ e. let z : ◌≡◌ {A = ℕ} 0 1 = cc in omega arith), cc)
behind-some due Pair next e = ((λ e. let z : ◌≡◌ {A = ℕ} 0 1 = cc in omega arith), cc)
behind-some due Illegal next e = absurd (let z : ◌≡◌ {A = ℕ} 0 1 = cc in omega arith)

pub behind-none : (due : ℕ) (q : Shape) → None ≡ due_past due q → q ≡ Illegal
unfolding due_past
behind-none due (Symbol k) e = absurd (let z : ◌≡◌ {A = ℕ} 0 1 = cc in omega arith)
behind-none due Pair e = absurd (let z : ◌≡◌ {A = ℕ} 0 1 = cc in omega arith)
behind-none due Illegal e = refl

module _ (arity : ℕ → ℕ) (m : ℕ) (s : List ℕ) where
  -- ---- steps

  pub scan-start : Scanned arity m s 0 m
  unfolding due_of
  scan-start = record { inside = omega arith; sum = refl; few = omega arith; legal = λ k h. absurd (omega arith); earlier = λ k h. absurd (omega arith) }

  last_or : {A : Type 0} (k at : ℕ) → k < at + 1 → (k ≡ at → A) → (k < at → A) → A
  last_or k at h f g = by_cases (eqb k at) (λ e. f (eqb-true k at e)) (λ e. let z : k ≡ at → ⊥ = eqb-false k at e in g (omega arith))

  module _ (at due : ℕ) (scan : Scanned arity m s at due) where
    -- a cell more
    pub scan-next : at < length s → 0 < due → (next : ℕ) → Some next ≡ due_past due (shape_of arity (get_or s at 0)) → next ≤ due + 254
        → Scanned arity m s (at + 1) next
    unfolding due_of
    scan-next h some next e few =
        let c : ℕ = get_or s at 0 in
        let w = behind-some due (shape_of arity c) next e in
        record {
          inside = omega arith;
          sum = w.1 ∙ ap (λ (d : ℕ). due_after d (arguments (shape_of arity c))) scan.sum ∙ sym (due-append arity (take at s) (c ∷ []) m) ∙ ap (due_of arity m) (sym (take-grow s at h));
          few = omega (arith, scan.few);
          legal = λ k l. last_or k at l (λ z. subst (λ (i : ℕ). shape_of arity (get_or s i 0) ≡ Illegal → ⊥) (sym z) w.0) (scan.legal k);
          earlier = λ k l. last_or k at l (λ z. subst (λ (i : ℕ). 0 < due_of arity m (take i s)) (sym z) (omega (arith, scan.sum))) (scan.earlier k);
        }

    -- ---- what it tells

    -- cells are left over
    pub scan-over : at < length s → due ≡ 0 → are_terms arity m s ≡ true → ⊥
    scan-over h z e = let w = (terms-end arity m s e).1.earlier at h in omega (arith, scan.sum)

    -- a cell that stands in no term
    pub scan-illegal : at < length s → None ≡ due_past due (shape_of arity (get_or s at 0)) → are_terms arity m s ≡ true → ⊥
    scan-illegal h z e = (terms-end arity m s e).0 at h (behind-none due (shape_of arity (get_or s at 0)) z)

    module _ (all : length s ≤ at) where
      at-end : at ≡ length s
      at-end = omega (arith, scan.inside)

      due-end : due ≡ due_of arity m s
      due-end = scan.sum ∙ ap (λ (k : ℕ). due_of arity m (take k s)) at-end ∙ ap (due_of arity m) (take-length s)

      -- cells are missing
      pub scan-short : 0 < due → are_terms arity m s ≡ true → ⊥
      scan-short l e = let w : due_of arity m s ≡ 0 = (terms-end arity m s e).1.last in omega (arith, due-end)

      pub scan-whole : due ≡ 0 → are_terms arity m s ≡ true
      scan-whole z =
          only-terms arity m s
          (λ k h. scan.legal k (omega (arith, at-end)))
          (record { last = sym due-end ∙ z; earlier = λ k h. scan.earlier k (omega (arith, at-end)) })

-- ---- reading

module _ (arity : ℕ → ℕ) (m : ℕ) (s : List ℕ) (short : length s ≤ 256) where
  pub few-cells : length s < m → are_terms arity m s ≡ true → ⊥
  few-cells h e = let w = terms-pairs arity m s e in omega (arith, every-pairs-least (reads (shape_of arity) s), ap length w.1, w.0)

  pub cells-refused : (are_terms arity m s ≡ true → ⊥) → Err refusal.Term ≡ reading arity (pair_stored arity) m s
  cells-refused f = malformed arity (pair_stored arity) m s short f

  module _ (vars form₀ vars' form : List ℕ) (at known : ℕ) (whole : at ≡ length s) (v : Stored (take at s) vars 0 form₀ 0 vars' known form at) (terms : are_terms arity m s ≡ true) where
    all-cells : take at s ≡ s
    all-cells = ap (λ (k : ℕ). take k s) whole ∙ take-length s

    known_is : known ≡ length (met [] s)
    known_is = v.count_at ∙ ap (λ (l : List ℕ). length (met [] l)) all-cells

    pub cells-crowded : 32 < known → Err refusal.Variables ≡ reading arity (pair_stored arity) m s
    cells-crowded h = crowded arity (pair_stored arity) m s short terms (omega (arith, known_is))

    pub cells-form : known ≤ 32 → length s ≤ length form₀ → (n : ℕ) → n ≡ length s → (Ok (formed n known) ≡ reading arity (pair_stored arity) m s) × HoldsForm (pair_stored arity) s form (Ok (formed n known)) × HoldsVariables s vars' (Ok (formed n known))
    cells-form h room n e =
        let l : length (numbered s) ≡ n = numbered-length s ∙ sym e in (
          ap (λ (k : ℕ). Ok (formed k known)) (sym l) ∙ ap (λ (k : ℕ). Ok (formed (length (numbered s)) k)) known_is ∙ accepted arity (pair_stored arity) m s short terms (omega (arith, known_is)),
          sets-taken form form₀ (numbered s) n (v.cells ∙ ap (λ (x : List ℕ). sets form₀ 0 (numbered_from [] x)) all-cells ∙ ap (sets form₀ 0) (sym (numbered-whole s))) l (omega (arith, e)),
          v.known ∙ ap (met []) all-cells,
        )

-- the variables are no more than the cells
pub stored-few : (s vars form₀ vars' form : List ℕ) (at known : ℕ) → at ≤ length s → Stored (take at s) vars 0 form₀ 0 vars' known form at → known ≤ at
stored-few s vars form₀ vars' form at known h v = omega (arith, v.count_at, met-length (take at s) [], length-take-le at s h)

-- ---- loading

-- the cells passed are in order, so many variables were met, and they were copied
pub record Ordered (s cells₀ : List ℕ) (at count : ℕ) (cells : List ℕ) : Type 0 where
  pub numbers : ordered 0 (take at s) ≡ true
  pub known : count ≡ met_in 0 (take at s)
  pub copied : cells ≡ take at s ++ drop at cells₀
  pub size : length cells ≡ length cells₀

pub ordered-start : (s cells₀ : List ℕ) → Ordered s cells₀ 0 0 cells₀
unfolding ordered met_in
ordered-start s cells₀ = record { numbers = refl; known = refl; copied = refl; size = refl }

unordered-first : (k c : ℕ) (cs : List ℕ) → in_order k c ≡ false → ordered k (c ∷ cs) ≡ false
unfolding ordered
unordered-first k c cs e = rw e

module _ (s cells₀ : List ℕ) (at count : ℕ) (cells : List ℕ) (o : Ordered s cells₀ at count cells) (h : at < length s) where
  pub ordered-next : (room : at < length cells₀) → in_order count (get_or s at 0) ≡ true → (count' : ℕ) → count' ≡ met_after count (get_or s at 0)
      → Ordered s cells₀ (at + 1) count' (set cells at (get_or s at 0))
  unfolding ordered met_in
  ordered-next room i count' e =
      let c : ℕ = get_or s at 0 in
      let j : in_order (met_in 0 (take at s)) c ≡ true = rw (← o.known) i in
      record {
        numbers = ap (ordered 0) (take-grow s at h) ∙ ordered-append (take at s) (c ∷ []) 0 o.numbers ∙ rw j;
        known = e ∙ ap (λ (k : ℕ). met_after k c) o.known ∙ sym (ap (met_in 0) (take-grow s at h) ∙ met-in-append (take at s) (c ∷ []) 0);
        copied = copy_step s cells₀ cells at h room o.copied;
        size = length-set cells at c ∙ o.size;
      }

  -- a variable out of order
  pub unordered : in_order count (get_or s at 0) ≡ false → s ≡ numbered s → ⊥
  unordered i e =
      let c : ℕ = get_or s at 0 in
      let j : in_order (met_in 0 (take at s)) c ≡ false = rw (← o.known) i in
      let x : ordered (met_in 0 (take at s)) (drop at s) ≡ false = rw (drop-cons s at 0 h) (unordered-first (met_in 0 (take at s)) c (drop (suc at) s) j) in
      unordered-numbered s (ap (ordered 0) (sym (take-append-drop at s)) ∙ ordered-append (take at s) (drop at s) 0 o.numbers ∙ x) e

pub count-few : (s cells₀ : List ℕ) (at count : ℕ) (cells : List ℕ) → Ordered s cells₀ at count cells → at ≤ length s → count ≤ at
count-few s cells₀ at count cells o h = omega (arith, o.known, met-in-most (take at s) 0, length-take-le at s h)

module _ (arity : ℕ → ℕ) (m : ℕ) (s : List ℕ) where
  -- what is no legal form
  pub cells-none : (Legal arity m s → s ≡ numbered s → ⊥) → None ≡ loading (pair_stored arity) m s
  unfolding loading
  cells-none f = by_cases (legal_pairs arity m s) (λ e. let p = legal-pairs arity m s e in absurd (f p.0 p.1)) (λ e. rw e)

  module _ (cells₀ cells : List ℕ) (at count : ℕ) (o : Ordered s cells₀ at count cells) (whole : at ≡ length s) where
    all-passed : take at s ≡ s
    all-passed = ap (λ (k : ℕ). take k s) whole ∙ take-length s

    order_kept : (s ≡ numbered s) × (met_in 0 s ≡ length (met [] s))
    order_kept = ordered-numbered s (subst (λ (l : List ℕ). ordered 0 l ≡ true) all-passed o.numbers)

    pub count-is : count ≡ length (met [] s)
    count-is = o.known ∙ ap (met_in 0) all-passed ∙ order_kept.1

    pub load-crowded : 32 < count → None ≡ loading (pair_stored arity) m s
    load-crowded h = cells-none (λ l e. omega (arith, l.variables, count-is))

    pub load-terms : are_terms arity m s ≡ true → length s ≤ 256 → count ≤ 32 → (n : ℕ) → n ≡ length s
        → (Some n ≡ loading (pair_stored arity) m s) × HoldsTerms (pair_stored arity) s cells (Some n)
    unfolding loading
    load-terms t short few n e =
        let l : legal_pairs arity m s ≡ true = pairs-legal arity m s (record { terms = t; cells = short; variables = omega (arith, count-is) }) order_kept.0 in (
          rw (l, e),
          ap (take n) (o.copied ∙ ap (λ (x : List ℕ). x ++ drop at cells₀) all-passed) ∙ take_at s (drop at cells₀) n (sym e),
        )

-- ---- the turns of the two loops

-- reading: the cells passed stand numbered in the form
pub record ReadTurn (arity : ℕ → ℕ) (m : ℕ) (s vars₀ form₀ : List ℕ) (n : ℕ) (vars form : List ℕ) (at due count : ℕ) : Type 0 where
  pub whole : n ≡ length s
  pub short : n ≤ 256
  pub within : at ≤ n
  pub most : due ≤ 256 + 254 * 256
  pub scan : Scanned arity m s at due
  pub stored : Stored (take at s) vars₀ 0 form₀ 0 vars count form at
  pub few : count ≤ at
  pub vars-room : n ≤ length vars
  pub form-room : n ≤ length form
  pub vars-kept : length vars ≡ length vars₀
  pub form-kept : length form ≡ length form₀

module _ (arity : ℕ → ℕ) (m : ℕ) (s vars₀ form₀ : List ℕ) (n : ℕ) where
  pub read-start : n ≡ length s → n ≤ 256 → m ≤ n → length s ≤ length vars₀ → 3 * length s ≤ 2 * length form₀ → ReadTurn arity m s vars₀ form₀ n vars₀ form₀ 0 m 0
  read-start w short k v f = record {
    whole = w;
    short = short;
    within = omega arith;
    most = omega arith;
    scan = scan-start arity m s;
    stored = stored-none vars₀ 0 form₀ 0 (omega arith);
    few = omega arith;
    vars-room = omega arith;
    form-room = omega arith;
    vars-kept = refl;
    form-kept = refl;
  }

  module _ (vars form : List ℕ) (at due count : ℕ) (turn : ReadTurn arity m s vars₀ form₀ n vars form at due count) where
    short-cells : length s ≤ 256
    short-cells = omega (arith, turn.whole, turn.short)

    pub read-over : at < n → due ≡ 0 → (Err refusal.Term ≡ reading arity (pair_stored arity) m s) × HoldsForm (pair_stored arity) s form (Err refusal.Term) × HoldsVariables s vars (Err refusal.Term)
    read-over h z = (cells-refused arity m s short-cells (scan-over arity m s at due turn.scan (omega (arith, turn.whole)) z), tt, tt)

    pub read-illegal : at < n → None ≡ due_past due (shape_of arity (get_or s at 0)) → (Err refusal.Term ≡ reading arity (pair_stored arity) m s) × HoldsForm (pair_stored arity) s form (Err refusal.Term) × HoldsVariables s vars (Err refusal.Term)
    read-illegal h e = (cells-refused arity m s short-cells (scan-illegal arity m s at due turn.scan (omega (arith, turn.whole)) e), tt, tt)

    pub read_next : at < n → 0 < due → (next : ℕ) → Some next ≡ due_past due (shape_of arity (get_or s at 0)) → next ≤ due + 254 → m ≤ n
        → (vars' : List ℕ) (count' : ℕ) (form' : List ℕ) → Stored (get_or s at 0 ∷ []) vars count form at vars' count' form' (at + 1) → length form' ≡ length form
        → ReadTurn arity m s vars₀ form₀ n vars' form' (at + 1) next count'
    read_next h some next e b mn vars' count' form' st k =
        let inside : at < length s = omega (arith, turn.whole) in
        let scan : Scanned arity m s (at + 1) next = scan-next arity m s at due turn.scan inside some next e b in
        let both : Stored (take (at + 1) s) vars₀ 0 form₀ 0 vars' count' form' (at + 1) =
        subst (λ (l : List ℕ). Stored l vars₀ 0 form₀ 0 vars' count' form' (at + 1)) (sym (take-grow s at inside))
        (stored-append (take at s) (get_or s at 0 ∷ []) vars₀ 0 form₀ 0 vars count form at vars' count' form' (at + 1) turn.stored st) in
        record {
          whole = turn.whole;
          short = turn.short;
          within = omega arith;
          most = omega (arith, scan.few, turn.short);
          scan = scan;
          stored = both;
          few = stored-few s vars₀ form₀ vars' form' (at + 1) count' (omega arith) both;
          vars-room = omega (arith, st.kept, turn.vars-room);
          form-room = omega (arith, turn.form-room);
          vars-kept = st.kept ∙ turn.vars-kept;
          form-kept = k ∙ turn.form-kept;
        }

    module _ (all : n ≤ at) where
      ended : at ≡ length s
      ended = omega (arith, turn.whole, turn.within)

      pub read_short : 0 < due → (Err refusal.Term ≡ reading arity (pair_stored arity) m s) × HoldsForm (pair_stored arity) s form (Err refusal.Term) × HoldsVariables s vars (Err refusal.Term)
      read_short l = (cells-refused arity m s short-cells (scan-short arity m s at due turn.scan (omega (arith, ended)) l), tt, tt)

      pub read-crowded : due ≤ 0 → 32 < count → (Err refusal.Variables ≡ reading arity (pair_stored arity) m s) × HoldsForm (pair_stored arity) s form (Err refusal.Variables) × HoldsVariables s vars (Err refusal.Variables)
      read-crowded z h =
          (cells-crowded arity m s short-cells vars₀ form₀ vars form at count ended turn.stored (scan-whole arity m s at due turn.scan (omega (arith, ended)) (omega arith)) h, tt, tt)

      pub read-form : due ≤ 0 → count ≤ 32 → (Ok (formed n count) ≡ reading arity (pair_stored arity) m s) × HoldsForm (pair_stored arity) s form (Ok (formed n count)) × HoldsVariables s vars (Ok (formed n count))
      read-form z h =
          cells-form arity m s short-cells vars₀ form₀ vars form at count ended turn.stored (scan-whole arity m s at due turn.scan (omega (arith, ended)) (omega arith)) h
          (omega (arith, turn.whole, turn.form-room, turn.form-kept)) n turn.whole

-- loading: they stand in the cells as they are
pub record LoadTurn (arity : ℕ → ℕ) (m : ℕ) (s cells₀ : List ℕ) (n : ℕ) (cells : List ℕ) (at due count : ℕ) : Type 0 where
  pub whole : n ≡ length s
  pub short : n ≤ 256
  pub within : at ≤ n
  pub most : due ≤ 256 + 254 * 256
  pub scan : Scanned arity m s at due
  pub order : Ordered s cells₀ at count cells
  pub few : count ≤ at
  pub room : n ≤ length cells
  pub kept : length cells ≡ length cells₀

-- what no legal form leaves
abbrev pub LoadsNone : (ℕ → ℕ) → ℕ → List ℕ → Type 0
LoadsNone arity m s = None ≡ loading (pair_stored arity) m s

pub load-long : (arity : ℕ → ℕ) (m : ℕ) (s : List ℕ) → 256 < length s → LoadsNone arity m s
load-long arity m s h = cells-none arity m s (λ l e. omega (arith, l.cells))

pub load-few : (arity : ℕ → ℕ) (m : ℕ) (s : List ℕ) → length s ≤ 256 → length s < m → LoadsNone arity m s
load-few arity m s short h = cells-none arity m s (λ l e. few-cells arity m s short h l.terms)

module _ (arity : ℕ → ℕ) (m : ℕ) (s cells₀ : List ℕ) (n : ℕ) where
  pub load-start : n ≡ length s → n ≤ 256 → m ≤ n → (length cells₀ < 256 → 2 * length s ≤ length cells₀) → LoadTurn arity m s cells₀ n cells₀ 0 m 0
  load-start w short k r = record {
    whole = w;
    short = short;
    within = omega arith;
    most = omega arith;
    scan = scan-start arity m s;
    order = ordered-start s cells₀;
    few = omega arith;
    room = by_cases (ltb (length cells₀) 256) (λ e. let l = r (ltb-true _ _ e) in omega arith) (λ e. let l = ltb-false (length cells₀) 256 e in omega arith);
    kept = refl;
  }

  module _ (cells : List ℕ) (at due count : ℕ) (turn : LoadTurn arity m s cells₀ n cells at due count) where
    pub load-over : at < n → due ≡ 0 → LoadsNone arity m s
    load-over h z = cells-none arity m s (λ l e. scan-over arity m s at due turn.scan (omega (arith, turn.whole)) z l.terms)

    pub load-illegal : at < n → None ≡ due_past due (shape_of arity (get_or s at 0)) → LoadsNone arity m s
    load-illegal h e = cells-none arity m s (λ l x. scan-illegal arity m s at due turn.scan (omega (arith, turn.whole)) e l.terms)

    pub load-unordered : at < n → false ≡ in_order count (get_or s at 0) → LoadsNone arity m s
    load-unordered h e = cells-none arity m s (λ l x. unordered s cells₀ at count cells turn.order (omega (arith, turn.whole)) (sym e) x)

    pub load-next : at < n → 0 < due → (next : ℕ) → Some next ≡ due_past due (shape_of arity (get_or s at 0)) → next ≤ due + 254 → m ≤ n
        → true ≡ in_order count (get_or s at 0) → (count' : ℕ) → count' ≡ met_after count (get_or s at 0)
        → LoadTurn arity m s cells₀ n (set cells at (get_or s at 0)) (at + 1) next count'
    load-next h some next e b mn i count' g =
        let inside : at < length s = omega (arith, turn.whole) in
        let scan : Scanned arity m s (at + 1) next = scan-next arity m s at due turn.scan inside some next e b in
        let o : Ordered s cells₀ (at + 1) count' (set cells at (get_or s at 0)) =
        ordered-next s cells₀ at count cells turn.order inside (omega (arith, turn.room, turn.kept)) (sym i) count' g in
        record {
          whole = turn.whole;
          short = turn.short;
          within = omega arith;
          most = omega (arith, scan.few, turn.short);
          scan = scan;
          order = o;
          few = count-few s cells₀ (at + 1) count' (set cells at (get_or s at 0)) o (omega arith);
          room = omega (arith, turn.room, length-set cells at (get_or s at 0));
          kept = o.size;
        }

    module _ (all : n ≤ at) where
      at_last : at ≡ length s
      at_last = omega (arith, turn.whole, turn.within)

      pub load-short : 0 < due → LoadsNone arity m s
      load-short l = cells-none arity m s (λ x e. scan-short arity m s at due turn.scan (omega (arith, at_last)) l x.terms)

      pub load_many : 32 < count → LoadsNone arity m s
      load_many h = load-crowded arity m s cells₀ cells at count turn.order at_last h

      pub load-form : due ≤ 0 → count ≤ 32 → ((Some n ≡ loading (pair_stored arity) m s) × HoldsTerms (pair_stored arity) s cells (Some n)) × (count ≡ length (met [] s))
      load-form z h = (
        load-terms arity m s cells₀ cells at count turn.order at_last (scan-whole arity m s at due turn.scan (omega (arith, at_last)) (omega arith)) (omega (arith, turn.whole, turn.short)) h n turn.whole,
        count-is arity m s cells₀ cells at count turn.order at_last,
      )
