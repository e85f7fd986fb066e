-- Terms of answers in hand put together copy by copy.
use Rattle.std.specs.Prelude.{Some, None}
use Prim.Native.Nat.{ℕ, ◌+◌, ◌*◌, ◌/◌, ◌≤◌, ◌<◌}
use mathlib.Core.Bool.{Bool, true, false}
use mathlib.Core.List.{List, ◌++◌, append_assoc, append-nil}
use mathlib.Core.Path.{◌≡◌, refl, sym, ap, ◌∙◌}
use native.Mathlib.Omega.{arith}
use lib.Dec.{eqb, leb}
use lib.ListN.{length, take, drop, get_or, length-append, drop_of_length-le}
use lib.Seq.{length-take-le}
use borrow.Author.Tests.{leb-true, leb-false}
use Rattle.basis.specs.Choice.{pick}
use Rattle.basis.proofs.Cases.{by_cases}
use Rattle.forms.specs.Cells.{shape_of, arity_of}
use Rattle.forms.specs.Terms.{Term, pairs, every}
use Rattle.forms.specs.Stored.{stored_of}
use Rattle.forms.proofs.ReadLaws.{AllWellFormed}
use Rattle.plain.specs.Words.{Word}
use Rattle.plain.specs.Joins.{Terms, term_at, copies_named, copied}
use Rattle.parts.specs.Parts.{parts, InHand}
use Rattle.parts.specs.Segments.{Spans, segment, Countable, CountsTo, Room, Extends}
use Rattle.parts.specs.Hands.{Copyable, Copies}
use Rattle.parts.proofs.Rules.{Rule, rule_of, every-short, every-below, every-least, every-counts}
use Rattle.parts.proofs.GroundForms.{all-well, form-ground}
use Rattle.parts.proofs.JoinedForms.{copied-both, pair-cells}
use Rattle.parts.proofs.SegmentLaws.{hand-spans, hand-segment}
use Rattle.parts.proofs.NamedTerms.{named-copy, copies-even}

-- ---- what is put together

-- the terms whose tokens are put together
pub record Whole (rule : Rule) (copies : List ℕ) (w : Word) : Type 0 where
  pub these : List Term
  pub well : AllWellFormed (shape_of rule.arity) these
  pub count : length copies ≡ 2 * length these
  pub tokens : w ≡ every rule.stored.tokens these
  pub cells : rule.stored.cells w ≡ every pairs these

pub whole : (rule : Rule) (m n : ℕ) (u v : Word) (copies outer inner : List ℕ) → InHand rule.stored m u outer → InHand rule.stored n v inner
    → copies_named m n copies ≡ true → Whole rule copies (copied copies (parts rule.stored u) (parts rule.stored v))
whole rule m n u v copies outer inner f g e =
    let ts : List Term = rule.stored.terms u in
    let us : List Term = rule.stored.terms v in
    let q : copies_named (length ts) (length us) copies ≡ true = rw (f.form.count, g.form.count) e in
    let k = copies-even m n copies e in
    let b = copied-both rule ts us (form-ground rule m u f.form) (form-ground rule n v g.form) k.0 copies q k.1 in
    record {
      these = b.these;
      well = all-well rule b.these b.ground;
      count = omega (arith, k.1, b.count);
      tokens = b.tokens;
      cells = pair-cells rule k.0 _ _ b ∙ b.cells;
    }

module _ (rule : Rule) (copies : List ℕ) (w : Word) (t : Whole rule copies w) where
  -- more than 383 tokens are over 256 cells, and at most 128 are not
  pub whole_long : 383 < length w → 256 < length (rule.stored.cells w)
  whole_long h =
      let a : length w ≡ length (every rule.stored.tokens t.these) = ap length t.tokens in
      let b : length (rule.stored.cells w) ≡ length (every pairs t.these) = ap length t.cells in
      by_cases (leb (length (every pairs t.these)) 256)
      (λ e. absurd (omega (arith, every-short rule t.these (leb-true (length (every pairs t.these)) 256 e))))
      (λ e. omega (arith, leb-false (length (every pairs t.these)) 256 e))

  pub whole-short : 2 * length w ≤ 256 → length (rule.stored.cells w) ≤ 256
  whole-short h = omega (arith, every-below rule t.these, ap length t.tokens, ap length t.cells)

  -- the cells by the tokens
  pub whole-countable : (form : List ℕ) (n k : ℕ) → w ≡ take n form → n ≤ length form → n ≤ 383 → length copies ≡ 2 * k → Countable rule.arity (take n form) k
  whole-countable form n k e l s z =
      let a : length w ≡ n = ap length e ∙ length-take-le n form l in
      let b : length w ≡ length (every rule.stored.tokens t.these) = ap length t.tokens in
      record {
        short = omega (arith, length-take-le n form l);
        few = omega (arith, every-least rule t.these, t.count);
        taken = rw (sym e ∙ t.tokens) (omega (arith, every-counts rule t.these t.well, t.count));
      }

  pub whole_cells : (form : List ℕ) (n k r : ℕ) → w ≡ take n form → length copies ≡ 2 * k → CountsTo rule.arity (take n form) k r → length (rule.stored.cells w) ≡ r
  whole_cells form n k r e z s =
      let d : CountsTo rule.arity (every rule.stored.tokens t.these) k r = rw (sym e ∙ t.tokens) at s in
      omega (arith, every-counts rule t.these t.well, t.count, ap length t.cells)

-- ---- copies passed

pub record Rest (m n : ℕ) (us vs : Terms) (copies form : List ℕ) (i to : ℕ) : Type 0 where
  pub named : copies_named m n (drop i copies) ≡ true
  pub rest : copied copies us vs ≡ take to form ++ copied (drop i copies) us vs

pub record Gathered (e : ℕ) (copies outer inner form : List ℕ) (i to : ℕ) : Type 0 where
  pub low : i ≤ length copies
  pub small : to ≤ 383
  pub room : 383 ≤ length form
  pub each : (m n : ℕ) (u v : Word) → InHand (stored_of e) m u outer → InHand (stored_of e) n v inner
      → copies_named m n copies ≡ true → Rest m n (parts (stored_of e) u) (parts (stored_of e) v) copies form i to

pub gathered_none : (e : ℕ) (copies outer inner form : List ℕ) → 383 ≤ length form → Gathered e copies outer inner form 0 0
gathered_none e copies outer inner form l = record { low = omega arith; small = omega arith; room = l; each = λ m n u v f g h. record { named = h; rest = refl } }

module _ (e : ℕ) (copies outer inner form : List ℕ) (i to : ℕ) (g : Gathered e copies outer inner form i to) where
  abbrev side : ℕ
  side = get_or copies i 0

  abbrev place : ℕ
  place = get_or copies (i + 1) 0

  pub record Copyable-here : Type 0 where
    pub inside : i + 1 < length copies
    pub room : Room (pick (eqb side 0) outer inner) place form to

  side-spans : (m n : ℕ) (u v : Word) → InHand (stored_of e) m u outer → InHand (stored_of e) n v inner
      → (b : Bool) → (b ≡ true → place < m) → (b ≡ false → place < n) → Spans (pick b outer inner) place
  side-spans m n u v f h true p q = hand-spans (stored_of e) m u outer f place (p refl)
  side-spans m n u v f h false p q = hand-spans (stored_of e) n v inner h place (q refl)

  side-segment : (m n : ℕ) (u v : Word) → InHand (stored_of e) m u outer → InHand (stored_of e) n v inner
      → (b : Bool) → (b ≡ true → place < m) → (b ≡ false → place < n)
      → segment (pick b outer inner) place ≡ pick b (term_at (parts (stored_of e) u) place) (term_at (parts (stored_of e) v) place)
  side-segment m n u v f h true p q = hand-segment (stored_of e) m u outer f place (p refl)
  side-segment m n u v f h false p q = hand-segment (stored_of e) n v inner h place (q refl)

  pub gathered-here : (form₀ : List ℕ) → Copyable e copies outer inner form₀ → i < length copies → Copyable-here
  gathered-here form₀ c h =
      let r = g.each c.m c.n c.u c.v c.first c.second c.named in
      let q = named-copy c.m c.n copies i h r.named in
      record {
        inside = q.pair.inside;
        room = record {
          spans = side-spans c.m c.n c.u c.v c.first c.second (eqb side 0) q.first q.second;
          small = g.small;
          room = g.room;
        };
      }

  module _ (h : i < length copies) (x : ℕ) (a : x ≡ place) (form' : List ℕ) (end : ℕ) (s : Extends form to (segment (pick (eqb side 0) outer inner) x) form' end) where
    abbrev tokens : List ℕ
    tokens = segment (pick (eqb side 0) outer inner) x

    step : (m n : ℕ) (u v : Word) → InHand (stored_of e) m u outer → InHand (stored_of e) n v inner → copies_named m n copies ≡ true
        → (copied copies (parts (stored_of e) u) (parts (stored_of e) v) ≡ (take to form ++ tokens) ++ copied (drop (i + 2) copies) (parts (stored_of e) u) (parts (stored_of e) v))
        × (copies_named m n (drop (i + 2) copies) ≡ true)
        × (i + 1 < length copies)
    unfolding copied
    step m n u v f k z =
        let us : Terms = parts (stored_of e) u in
        let vs : Terms = parts (stored_of e) v in
        let r = g.each m n u v f k z in
        let q = named-copy m n copies i h r.named in
        let t : tokens ≡ pick (eqb side 0) (term_at us place) (term_at vs place) = ap (segment (pick (eqb side 0) outer inner)) a ∙ side-segment m n u v f k (eqb side 0) q.first q.second in (
          r.rest ∙ ap (λ (cs : List ℕ). take to form ++ copied cs us vs) q.pair.cells
              ∙ ap (λ (l : List ℕ). take to form ++ (l ++ copied (drop (i + 2) copies) us vs)) (sym t)
              ∙ sym (append_assoc (take to form) tokens (copied (drop (i + 2) copies) us vs)),
          q.more,
          q.pair.inside,
        )

    pub gathered-more : (form₀ : List ℕ) → Copyable e copies outer inner form₀ → end ≤ 383 → Gathered e copies outer inner form' (i + 2) end
    gathered-more form₀ c l = record {
      low = omega (arith, (step c.m c.n c.u c.v c.first c.second c.named).2);
      small = l;
      room = omega (arith, s.size, g.room);
      each = λ m n u v f k z.
          let w = step m n u v f k z in
          record {
            named = w.1;
            rest = w.0 ∙ ap (λ (x' : List ℕ). x' ++ copied (drop (i + 2) copies) (parts (stored_of e) u) (parts (stored_of e) v)) (sym (s.holds l));
          };
    }

    pub gathered-over : (form₀ : List ℕ) → length form' ≡ length form₀ → 383 < end → Copies e copies outer inner form₀ form' None
    gathered-over form₀ z l = record {
      holds = λ m n u v f k y.
          whole_long (rule_of e) copies (copied copies (parts (stored_of e) u) (parts (stored_of e) v)) (whole (rule_of e) m n u v copies outer inner f k y)
          (omega (
            arith,
            ap length (step m n u v f k y).0,
            length-append (take to form ++ tokens) (copied (drop (i + 2) copies) (parts (stored_of e) u) (parts (stored_of e) v)),
            length-append (take to form) tokens,
            length-take-le to form (omega (arith, g.small, g.room)),
            s.ends,
          ));
      size = z;
    }

  module _ (all : length copies ≤ i) (form₀ : List ℕ) (z : length form ≡ length form₀) where
    gathered : (m n : ℕ) (u v : Word) → InHand (stored_of e) m u outer → InHand (stored_of e) n v inner → copies_named m n copies ≡ true
        → copied copies (parts (stored_of e) u) (parts (stored_of e) v) ≡ take to form
    unfolding copied
    gathered m n u v f k y =
        let us : Terms = parts (stored_of e) u in
        let vs : Terms = parts (stored_of e) v in
        (g.each m n u v f k y).rest ∙ ap (λ (cs : List ℕ). take to form ++ copied cs us vs) (drop_of_length-le copies all) ∙ append-nil (take to form)

    size_of : (w : Word) → w ≡ take to form → length w ≡ to
    size_of w y = ap length y ∙ length-take-le to form (omega (arith, g.small, g.room))

    pub gathered-short : 2 * to ≤ 256 → Copies e copies outer inner form₀ form (Some to)
    gathered-short l = record {
      holds = λ m n u v f k y.
          let w : Word = copied copies (parts (stored_of e) u) (parts (stored_of e) v) in
          let q = gathered m n u v f k y in
          (sym (size_of w q), sym q, whole-short (rule_of e) copies w (whole (rule_of e) m n u v copies outer inner f k y) (omega (arith, size_of w q)));
      size = z;
    }

    half : (k : ℕ) → length copies ≡ 2 * k → k ≡ length copies / 2
    half k y = omega (arith, g.low)

    pub gathered-countable : Copyable e copies outer inner form₀ → Countable (arity_of e) (take to form) (length copies / 2)
    gathered-countable c =
        let w : Word = copied copies (parts (stored_of e) c.u) (parts (stored_of e) c.v) in
        let t = whole (rule_of e) c.m c.n c.u c.v copies outer inner c.first c.second c.named in
        whole-countable (rule_of e) copies w t form to (length copies / 2) (gathered c.m c.n c.u c.v c.first c.second c.named)
        (omega (arith, g.small, g.room)) g.small (omega (arith, half (length t.these) t.count, t.count))

    module _ (r : ℕ) (counts : CountsTo (arity_of e) (take to form) (length copies / 2) r) where
      cells : (m n : ℕ) (u v : Word) → InHand (stored_of e) m u outer → InHand (stored_of e) n v inner → copies_named m n copies ≡ true
          → length ((stored_of e).cells (copied copies (parts (stored_of e) u) (parts (stored_of e) v))) ≡ r
      cells m n u v f k y =
          let t = whole (rule_of e) m n u v copies outer inner f k y in
          whole_cells (rule_of e) copies (copied copies (parts (stored_of e) u) (parts (stored_of e) v)) t form to (length copies / 2) r (gathered m n u v f k y)
          (omega (arith, half (length t.these) t.count, t.count)) counts

      pub gathered-long : 256 < r → Copies e copies outer inner form₀ form None
      gathered-long l = record { holds = λ m n u v f k y. omega (arith, cells m n u v f k y); size = z }

      pub gathered-form : r ≤ 256 → Copies e copies outer inner form₀ form (Some to)
      gathered-form l = record {
        holds = λ m n u v f k y.
            let w : Word = copied copies (parts (stored_of e) u) (parts (stored_of e) v) in
            let q = gathered m n u v f k y in
            (sym (size_of w q), sym q, omega (arith, cells m n u v f k y));
        size = z;
      }

-- all copies are passed
pub record AllGathered (e : ℕ) (copies outer inner form₀ form : List ℕ) (to : ℕ) : Type 0 where
  pub at : ℕ
  pub gathered : Gathered e copies outer inner form at to
  pub ends : length copies ≤ at
  pub size : length form ≡ length form₀
