-- A history shows the trace of its calls, and so the plain table's: on cells that hold a table, a call with any index is
-- the call without.
use Prim.Native.Nat.{ℕ}
use mathlib.Core.Bool.{true}
use mathlib.Core.List.{List, [], ◌∷◌, map}
use mathlib.Core.Path.{◌≡◌, refl, sym, ap, ◌∙◌, subst}
use Rattle.basis.specs.Editions.{known_edition}
use Rattle.plain.specs.Coding.{coding_of}
use Rattle.plain.specs.Requests.{Request, Reply, Result, Seen, trace}
use Rattle.plain.specs.Table.{Table, fresh, step}
use Rattle.space.specs.Layout.{sizes_of}
use Rattle.space.specs.Fresh.{fresh_space}
use Rattle.store.specs.Calls.{space_step, space_step_by, Answers, counted_cells}
use Rattle.agreement.specs.Whole.{table_of, edition_of}
use Rattle.agreement.specs.History.{Beside, alone, index, way_of, Lent, Made, Meets, History, asked, seen_of, Histories, WholeHistories, Lived}
use Rattle.agreement.proofs.Holding.{Holds}
use Rattle.agreement.proofs.IndexSteps.{step-indexed, state-holds, fresh-held}
use Rattle.agreement.proofs.Theorem.{fresh_in, promise}
use Rattle.agreement.proofs.WholeSpaces.{space-holds, whole-known, space-checking}

abbrev pub shows : List ℕ → List Request → List Seen
shows cs qs = trace space_step counted_cells cs qs

-- a call that meets its contract, before calls that show their trace
pub made-shown : (cs : List ℕ) (q : Request) (r : Reply) (out after : List ℕ) (qs : List Request) (seen : List Seen)
    → Answers cs q r out after → seen ≡ shows after qs
    → record { reply = r; counted = counted_cells after; out = out } ∷ seen ≡ shows cs (q ∷ qs)
unfolding trace
made-shown cs q r out after qs seen k e = rw (e, k.0, k.1, k.2) refl

module _ (e : ℕ) (known : known_edition e ≡ true) where
  -- whatever the call was lent
  pub way_same : (t : Table) (cs : List ℕ) → Holds (sizes_of e) (coding_of e) t cs → (b : Beside) (q : Request) → space_step_by (way_of cs b) cs q ≡ space_step cs q
  way_same t cs k alone q = refl
  way_same t cs k (index xs) q = step-indexed e known t cs k xs q

  meets-alone : (t : Table) (cs : List ℕ) → Holds (sizes_of e) (coding_of e) t cs → (m : Made) → Meets cs m → Answers cs m.request m.reply m.out m.after
  meets-alone t cs k m a =
      let w = way_same t cs k m.beside m.request in (
        a.0 ∙ ap (λ (x : Result (List ℕ)). x.reply) w,
        a.1 ∙ ap (λ (x : Result (List ℕ)). x.out) w,
        a.2 ∙ ap (λ (x : Result (List ℕ)). x.state) w,
      )

  pub history-shown : (t : Table) (cs : List ℕ) (ms : List Made) → Holds (sizes_of e) (coding_of e) t cs → History cs ms → map seen_of ms ≡ shows cs (asked ms)
  unfolding History
  history-shown t cs [] k h = unfold trace in refl
  history-shown t cs (m ∷ ms) k h =
      let a = meets-alone t cs k m h.0 in
      let l = subst (Holds (sizes_of e) (coding_of e) (step (coding_of e) t m.request).state) (sym a.2) (state-holds e known t cs m.request k) in
      made-shown cs m.request m.reply m.out m.after (asked ms) (map seen_of ms) a (history-shown (step (coding_of e) t m.request).state m.after ms l h.1)

pub histories : Histories
histories e n f a s ms d h =
    let k = fresh_in e n f a s d in
    let first : History (fresh_space (sizes_of e) n f a s) ms = subst (λ (cs : List ℕ). History cs ms) k.2 h in
    rw k.2 (history-shown e k.0 (fresh n f a) (fresh_space (sizes_of e) n f a s) ms (fresh-held e k.0 n f a s k.1) first)
    ∙ promise e n f a s (asked ms) d

pub whole-histories : WholeHistories
whole-histories cs ms w h =
    let k = whole-known cs w in
    history-shown (edition_of cs) k.0 (table_of cs) cs ms (space-holds (edition_of cs) k.0 cs k.1.0 k.1.1 w) h
    ∙ space-checking.answering cs (asked ms) w

-- the calls of the library itself
pub lived : Lived
unfolding History
lived cs [] = ([], tt, refl)
lived cs (q ∷ qs) =
    let r = space_step_by (way_of cs q.beside) cs q.request in
    let m : Made = record { request = q.request; beside = q.beside; reply = r.reply; out = r.out; after = r.state } in
    let l = lived r.state qs in
    (m ∷ l.0, ((refl, refl, refl), l.1), ap (λ (ps : List Lent). q ∷ ps) l.2)
