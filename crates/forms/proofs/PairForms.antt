-- Numbered pair form as a stored form: demand 2, and what its legal forms are made of.
use Prim.Native.Nat.{ℕ, ◌≤◌}
use mathlib.Core.List.{List, [], ◌∷◌, ◌++◌, append-nil, append_assoc}
use mathlib.Core.Bool.{Bool, true, false}
use mathlib.Core.Path.{◌≡◌, refl, sym, ap, ◌∙◌}
use native.Mathlib.Omega.{arith}
use lib.ListN.{length, get_or}
use lib.Dec.{leb, eqb, ltb}
use borrow.Author.Tests.{le-leb, leb-true, eqb-true, eqb-false, ltb-true}
use Rattle.basis.specs.Choice.{pick}
use Rattle.forms.specs.declared.Shape.TheVariants.{Symbol, Pair, Illegal}
use Rattle.forms.specs.Cells.{kind, payload, shape_of}
use Rattle.forms.specs.Terms.{Term, pairs, every, applied, reads, are_terms}
use Rattle.forms.specs.Numbering.{met, numbered}
use Rattle.forms.specs.Compact.{same}
use Rattle.forms.specs.Stored.{legal_pairs, pair_stored}
use Rattle.forms.specs.Promises.{Legal, Stored, Loaded, PrefixFree, Demand2, Unmarked}
use Rattle.forms.proofs.ReadLaws.{AllWellFormed, reads-well-formed, reads-pairs}
use Rattle.forms.proofs.CompactLaws.{same-length-empty}
use Rattle.forms.proofs.NumberingLaws.{numbered-length, numbered-again, numbered-met}
use Rattle.forms.proofs.ExactLaws.{pair-shape, terms-pairs}
use Rattle.forms.proofs.DueLaws.{terms-end}
use Rattle.forms.proofs.RoundTrip.{numbered-terms, same_self, same_true, four-tests}

module _ (arity : ℕ → ℕ) where
  -- ---- what makes a form legal

  pub pairs-legal : (m : ℕ) (fs : List ℕ) → Legal arity m fs → fs ≡ numbered fs → legal_pairs arity m fs ≡ true
  unfolding legal_pairs
  pairs-legal m fs l e =
      let q : same fs (numbered fs) ≡ true = rw (← e) (same_self fs) in
      rw (q, le-leb (length (met [] fs)) 32 l.variables, l.terms, le-leb (length fs) 256 l.cells)

  pub legal-pairs : (m : ℕ) (fs : List ℕ) → legal_pairs arity m fs ≡ true → Legal arity m fs × (fs ≡ numbered fs)
  unfolding legal_pairs
  legal-pairs m fs h =
      let w = four-tests (same fs (numbered fs)) (leb (length (met [] fs)) 32) (are_terms arity m fs) (leb (length fs) 256) h in
      (record { terms = w.2; cells = leb-true _ _ w.3; variables = leb-true _ _ w.1 }, same_true fs (numbered fs) w.0)

  -- ---- demand 2

  stored-pairs : Stored arity (pair_stored arity)
  stored-pairs m cs l =
      let legal : Legal arity m (numbered cs) = record {
        terms = numbered-terms arity m cs l.cells ∙ l.terms;
        cells = omega (arith, numbered-length cs, l.cells);
        variables = omega (arith, numbered-met cs (omega (arith, l.cells)), l.variables);
      } in
      (pairs-legal m (numbered cs) legal (sym (numbered-again cs (omega (arith, l.cells)))), refl)

  loaded-pairs : Loaded arity (pair_stored arity)
  loaded-pairs m fs h = let p = legal-pairs m fs h in (p.0, sym p.1, sym p.1)

  -- reading goes on after the cells of terms
  reads_on : (ts : List Term) (rest : List ℕ) → AllWellFormed (shape_of arity) ts → reads (shape_of arity) (every pairs ts ++ rest) ≡ ts ++ reads (shape_of arity) rest
  unfolding every applied
  reads_on [] rest h = refl
  reads_on (t ∷ ts) rest h =
      rw (append_assoc (pairs t) (every pairs ts) rest, reads-pairs (shape_of arity) (pair-shape arity) t 0 (every pairs ts ++ rest) h.0, reads_on ts rest h.1)

  prefix-free-pairs : PrefixFree arity (pair_stored arity)
  prefix-free-pairs m fs rest h k =
      let shape = shape_of arity in
      let ts : List Term = reads shape fs in
      let w = terms-pairs arity m fs h in
      let v = terms-pairs arity m (fs ++ rest) k in
      let e : reads shape (fs ++ rest) ≡ ts ++ reads shape rest = ap (λ (l : List ℕ). reads shape (l ++ rest)) w.1 ∙ reads_on ts rest (reads-well-formed shape fs) in
      let z : reads shape rest ≡ [] = same-length-empty ts (reads shape rest) (sym (ap length e) ∙ v.0 ∙ sym w.0) in
      let d : reads shape (fs ++ rest) ≡ ts = e ∙ rw (z, append-nil) in
      same-length-empty fs rest (ap length (v.1 ∙ ap (every pairs) d ∙ sym w.1))

  pub pair-demand : Demand2 arity (pair_stored arity)
  pair-demand = record {
    stored = stored-pairs;
    loaded = loaded-pairs;
    variants = λ m n cs ds l k. ((λ e. e), (λ e. e));
    prefix-free = prefix-free-pairs;
    bounded = λ m cs l. (omega (arith, numbered-length cs), omega (arith, numbered-length cs, l.cells));
  }

  -- ---- no marks

  kind-picks : (k p x : ℕ) (b4 b5 b0 bl : Bool) → eqb k 4 ≡ b4 → eqb k 5 ≡ b5 → eqb k 0 ≡ b0 → ltb k 4 ≡ bl
      → (pick b4 (pick (eqb x 0) Illegal (Symbol x)) (pick b5 (pick (eqb p 0) Pair Illegal) (pick b0 Illegal (pick bl (Symbol 0) Illegal))) ≡ Illegal → ⊥)
      → (1 ≤ k) × (k ≤ 5)
  kind-picks k p x true b5 b0 bl e f g h n = let z = eqb-true k 4 e in (omega arith, omega arith)
  kind-picks k p x false true b0 bl e f g h n = let z = eqb-true k 5 f in (omega arith, omega arith)
  kind-picks k p x false false true bl e f g h n = absurd (n refl)
  kind-picks k p x false false false true e f g h n = let z = eqb-false k 0 g in let y = ltb-true k 4 h in (omega arith, omega arith)
  kind-picks k p x false false false false e f g h n = absurd (n refl)

  shape-kind : (c : ℕ) → (shape_of arity c ≡ Illegal → ⊥) → (1 ≤ kind c) × (kind c ≤ 5)
  unfolding shape_of
  shape-kind c n = kind-picks (kind c) (payload c) (arity (payload c)) (eqb (kind c) 4) (eqb (kind c) 5) (eqb (kind c) 0) (ltb (kind c) 4) refl refl refl refl n

  pub unmarked : Unmarked arity
  unmarked m k fs h l = shape-kind (get_or fs k 0) ((terms-end arity m fs (legal-pairs m fs h).0.terms).0 k l)
