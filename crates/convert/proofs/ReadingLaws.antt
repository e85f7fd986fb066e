-- One law for each answer of the function that reads terms.
use Rattle.basis.specs.declared.refusals.Refusal.{Refusal}
use Rattle.basis.specs.Refusals.{number_of}
use Rattle.basis.specs.declared.refusals.Refusal.TheVariants as refusal
use Rattle.forms.specs.Places.{placed}
use Rattle.std.specs.Prelude.{Err, Ok, Some}
use Prim.Native.Nat.{ℕ, ◌+◌, ◌*◌, ◌≤◌, ◌<◌}
use mathlib.Core.List.{List, [], ◌∷◌, ◌++◌, map}
use mathlib.Core.Bool.{Bool, true, false}
use mathlib.Core.Path.{◌≡◌, refl, sym, ap, ◌∙◌, subst}
use native.Mathlib.Omega.{arith}
use lib.ListN.{length, take, drop, length-drop}
use lib.Seq.{sets, take_all, take_at, sets-eq}
use lib.Dec.{leb, ltb}
use borrow.Author.Tests.{eq-eqb, lt-ltb, le-ltb}
use Rattle.basis.specs.Choice.{pick}
use Rattle.forms.specs.Cells.{variable, shape_of, tag}
use Rattle.forms.specs.Terms.{Term, pairs, every, reads, are_terms}
use Rattle.forms.specs.Numbering.{rank, seen, met, renamed, numbered}
use Rattle.forms.specs.Compact.{compact, compact_form}
use Rattle.forms.specs.Stored.{StoredForm, compact_stored}
use Rattle.forms.specs.Converting.{reading, formed}
use Rattle.forms.proofs.ShapeLaws.{pair-cell-of}
use Rattle.forms.proofs.ReadLaws.{reads-within}
use Rattle.forms.proofs.NumberingLaws.{In, rank-append, in-seen, in-seen-self}
use Rattle.forms.proofs.FormLaws.{met_every, every-pairs-least}
use Rattle.forms.proofs.ExactLaws.{terms-pairs}
use Rattle.forms.proofs.RoundTrip.{form-numbered, form-size}
use Rattle.pair_reader.specs.Storing.{numbered_from, Stored, terms_at, TermsRan}
use Rattle.convert.specs.Holds.{HoldsForm, HoldsVariables}
use Rattle.pair_reader.proofs.StoringLaws.{numbered-length}
use Rattle.pair_reader.proofs.PairSteps.{at_after, at-end}

-- ---- the reader's refusals are small numbers

refusal-tests : (r : Refusal) (k w : ℕ) (a b c : Bool) → Err r ≡ pick a (Err refusal.Length) (pick b (pick c (Err refusal.Variables) (Ok (formed k w))) (Err refusal.Term)) → number_of r ≤ 5
refusal-tests r k w true b c e = let z : number_of r ≡ 4 = cc in omega arith
refusal-tests r k w false true true e = let z : number_of r ≡ 5 = cc in omega arith
refusal-tests r k w false true false e = let z : ◌≡◌ {A = ℕ} 0 1 = cc in absurd (omega arith)
refusal-tests r k w false false c e = let z : number_of r ≡ 3 = cc in omega arith

pub refusal-small : (arity : ℕ → ℕ) (form : StoredForm) (m : ℕ) (r : Refusal) (s : List ℕ) → Err r ≡ reading arity form m s → number_of r ≤ 5
unfolding reading
refusal-small arity form m r s e = refusal-tests r (length (form.form s)) (length (met [] s)) (ltb 256 (length s)) (are_terms arity m s) (ltb 32 (length (met [] s))) e

-- ---- numbering on the way is numbering

-- variables that are met later change no rank
rank-seen : (vs : List ℕ) (c x : ℕ) → In vs x → rank (seen vs c) x ≡ rank vs x
unfolding seen
rank-seen vs c x h = go (variable c) (leb (length vs) (rank vs c))
  where
    go : (b d : Bool) → rank (pick b (pick d (vs ++ (c ∷ [])) vs) vs) x ≡ rank vs x
    go true true = rank-append vs (c ∷ []) x h
    go true false = refl
    go false d = refl

rank-met : (cs vs : List ℕ) (x : ℕ) → In vs x → rank (met vs cs) x ≡ rank vs x
unfolding met
rank-met [] vs x h = refl
rank-met (c ∷ cs) vs x h = rank-met cs (seen vs c) x (in-seen vs c x h) ∙ rank-seen vs c x h

renamed-met : (cs vs : List ℕ) (c : ℕ) → renamed (met (seen vs c) cs) c ≡ renamed (seen vs c) c
unfolding renamed
renamed-met cs vs c = go (variable c) refl
  where
    go : (b : Bool) → variable c ≡ b → pick b (tag 1 (rank (met (seen vs c) cs) c)) c ≡ pick b (tag 1 (rank (seen vs c) c)) c
    go true e = ap (tag 1) (rank-met cs (seen vs c) c (in-seen-self vs c e))
    go false e = refl

numbered-from : (cs vs : List ℕ) → map (renamed (met vs cs)) cs ≡ numbered_from vs cs
unfolding met numbered_from
numbered-from [] vs = refl
numbered-from (c ∷ cs) vs = rw (renamed-met cs vs c, numbered-from cs (seen vs c))

pub numbered-whole : (cs : List ℕ) → numbered cs ≡ numbered_from [] cs
unfolding numbered
numbered-whole cs = numbered-from cs []

-- a form that was stored at the start of a buffer stands there
pub sets-taken : (form form₀ F : List ℕ) (end : ℕ) → form ≡ sets form₀ 0 F → length F ≡ end → end ≤ length form₀ → take end form ≡ F
sets-taken form form₀ F end q l k =
    let r : 0 + length F ≤ length form₀ = omega arith in
    rw (q, sets-eq F form₀ 0 r) (take_at F (drop (0 + length F) form₀) end l)

-- ---- answers

-- what is refused, in any stored form
module _ (arity : ℕ → ℕ) (stored : StoredForm) (m : ℕ) (s : List ℕ) where
  pub reading-long : 256 < length s → Err refusal.Length ≡ reading arity stored m s
  unfolding reading
  reading-long h = rw (lt-ltb 256 (length s) h)

  module _ (short : length s ≤ 256) where
    -- what is not m terms is 3
    pub malformed : (are_terms arity m s ≡ true → ⊥) → Err refusal.Term ≡ reading arity stored m s
    unfolding reading
    malformed f = go (are_terms arity m s) refl
      where
        go : (b : Bool) → are_terms arity m s ≡ b
            → Err refusal.Term ≡ pick (ltb 256 (length s)) (Err refusal.Length) (pick (are_terms arity m s) (pick (ltb 32 (length (met [] s))) (Err refusal.Variables) (Ok (formed (length (stored.form s)) (length (met [] s))))) (Err refusal.Term))
        go true e = absurd (f e)
        go false e = rw (le-ltb 256 (length s) short, e)

    pub reading-few : length s < m → Err refusal.Term ≡ reading arity stored m s
    reading-few h = malformed (λ e. let w = terms-pairs arity m s e in omega (arith, every-pairs-least (reads (shape_of arity) s), ap length w.1, w.0))

    pub crowded : are_terms arity m s ≡ true → 32 < length (met [] s) → Err refusal.Variables ≡ reading arity stored m s
    unfolding reading
    crowded e h = rw (le-ltb 256 (length s) short, e, lt-ltb 32 (length (met [] s)) h)

    pub accepted : are_terms arity m s ≡ true → length (met [] s) ≤ 32 → Ok (formed (length (stored.form s)) (length (met [] s))) ≡ reading arity stored m s
    unfolding reading
    accepted e h = rw (le-ltb 256 (length s) short, e, le-ltb 32 (length (met [] s)) h)

-- the reader of compact form
module _ (arity : ℕ → ℕ) (m : ℕ) (s : List ℕ) where
  module _ (short : length s ≤ 256) where
    pub reading-malformed : length (terms_at arity s 0) < m → Err refusal.Term ≡ reading arity (compact_stored arity) m s
    reading-malformed h = malformed arity (compact_stored arity) m s short (λ e. let w = terms-pairs arity m s e in omega (arith, w.0))

    module _ (vars form₀ vars' form : List ℕ) (next end known : ℕ) (v : TermsRan arity s 0 m vars 0 form₀ 0 vars' form (Some (placed next end known))) where
      pub reading-left : next < length s → Err refusal.Term ≡ reading arity (compact_stored arity) m s
      reading-left h = malformed arity (compact_stored arity) m s short (λ e.
          let w = terms-pairs arity m s e in
          let t : take m (reads (shape_of arity) s) ≡ reads (shape_of arity) s = take_all m (reads (shape_of arity) s) (omega (arith, w.0)) in
          omega (arith, v.1, ap (λ (l : List Term). length (every pairs l)) t, ap length w.1))

      module _ (all : length s ≤ next) where
        count : length (reads (shape_of arity) s) ≡ m
        count =
            let e : drop m (reads (shape_of arity) s) ≡ [] = sym (at_after arity s 0 m next v.0 v.1) ∙ at-end arity s next all in
            omega (arith, v.0, length-drop m (reads (shape_of arity) s), ap length e)

        whole : take m (reads (shape_of arity) s) ≡ reads (shape_of arity) s
        whole = take_all m (reads (shape_of arity) s) (omega (arith, count))

        cells-read : length (every pairs (reads (shape_of arity) s)) ≡ length s
        cells-read =
            omega (arith, v.1, ap (λ (l : List Term). length (every pairs l)) whole, all, reads-within (shape_of arity) (pair-cell-of arity) s m v.0)

        are-terms : are_terms arity m s ≡ true
        unfolding are_terms
        are-terms = rw (eq-eqb (length (reads (shape_of arity) s)) m count, eq-eqb (length (every pairs (reads (shape_of arity) s))) (length s) cells-read)

        is-stored : Stored (every compact (reads (shape_of arity) s)) vars 0 form₀ 0 vars' known form end
        is-stored = subst (λ (l : List Term). Stored (every compact l) vars 0 form₀ 0 vars' known form end) whole v.2

        the_form : compact_form arity s ≡ numbered_from [] (every compact (reads (shape_of arity) s))
        the_form = form-numbered arity m s are-terms short ∙ numbered-whole (every compact (reads (shape_of arity) s))

        met-same : met [] (every compact (reads (shape_of arity) s)) ≡ met [] s
        met-same = met_every (reads (shape_of arity) s) [] ∙ ap (met []) (sym (terms-pairs arity m s are-terms).1)

        variables : known ≡ length (met [] s)
        variables = is-stored.count_at ∙ ap length met-same

        form-end : length (compact_form arity s) ≡ end
        form-end = ap length the_form ∙ numbered-length (every compact (reads (shape_of arity) s)) [] ∙ (omega (arith, is-stored.end-at))

        pub reading-crowded : 32 < known → Err refusal.Variables ≡ reading arity (compact_stored arity) m s
        unfolding reading
        reading-crowded h =
            let g : 32 < length (met [] s) = omega (arith, variables) in
            rw (le-ltb 256 (length s) short, are-terms, lt-ltb 32 (length (met [] s)) g)

        pub reading-form : known ≤ 32 → 3 * length s ≤ 2 * length form₀ → (Ok (formed end known) ≡ reading arity (compact_stored arity) m s) × HoldsForm (compact_stored arity) s form (Ok (formed end known)) × HoldsVariables s vars' (Ok (formed end known))
        unfolding reading
        reading-form h k =
            let g : length (met [] s) ≤ 32 = omega (arith, variables) in (
              rw (le-ltb 256 (length s) short, are-terms, le-ltb 32 (length (met [] s)) g, form-end, variables),
              sets-taken form form₀ (compact_form arity s) end (is-stored.cells ∙ ap (sets form₀ 0) (sym the_form)) form-end (omega (arith, form-end, (form-size arity m s are-terms short).0)),
              is-stored.known ∙ met-same,
            )
