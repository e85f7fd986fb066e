-- What compacting and expanding answer, and what is in out afterwards, for every list of cells and every length of out.
use Rattle.std.specs.Prelude.{ℕ, Bool, true, List, [], ◌++◌, ◌≡◌, length, drop, eqb, leb, ltb}
use Rattle.std.specs.Prelude.{Option, None, Some, Result, Ok, Err}
use Rattle.basis.specs.Choice.{pick}
use Rattle.basis.specs.declared.refusals.Refusal.{Refusal}
use Rattle.basis.specs.declared.refusals.Refusal.TheVariants as refusal
use Rattle.forms.specs.declared.Form.{Form}
use Rattle.forms.specs.declared.Unwritten.{Unwritten}
use Rattle.forms.specs.declared.Unwritten.TheVariants.{Refused, Short}
use Rattle.forms.specs.Terms.{are_terms}
use Rattle.forms.specs.Numbering.{met}
use Rattle.forms.specs.Stored.{StoredForm}

-- what a reader, a loader and a converter answer
abbrev pub Reading : Type 0
Reading = Result Form Refusal

abbrev pub Loading : Type 0
Loading = Option ℕ

abbrev pub Answer : Type 0
Answer = Result ℕ (Unwritten Refusal)

-- a refusal that is handed on
abbrev pub Refuses : Refusal → Unwritten Refusal → Type 0
Refuses refusal unwritten = unwritten ≡ Refused refusal

-- so many tokens and variables
abbrev pub formed : ℕ → ℕ → Form
formed n m = record { tokens = n; variables = m }

-- reading m terms: refusals 4, 3 and 5, in this order; else the tokens of their stored form and their variables
unfoldable pub reading : (ℕ → ℕ) → StoredForm → ℕ → List ℕ → Reading
reading arity s m cs =
    pick (ltb 256 (length cs)) (Err refusal.Length)
    (pick (are_terms arity m cs)
    (pick (ltb 32 (length (met [] cs))) (Err refusal.Variables) (Ok (formed (length (s.form cs)) (length (met [] cs)))))
    (Err refusal.Term))

-- loading the form of m terms: the cells of their pair form, where it is legal
unfoldable pub loading : StoredForm → ℕ → List ℕ → Loading
loading s m fs = pick (s.legal m fs) (Some (length (s.cells fs))) None

-- what does not fit is refused (12) with the need
unfoldable pub fitting : ℕ → ℕ → Answer
fitting need room = pick (leb need room) (Ok need) (Err (Short need))

-- a form that was read goes into an out of `room` cells; a refusal by the reader is handed on
unfoldable pub fitting_form : Reading → ℕ → Answer
fitting_form (Ok form) room = fitting form.tokens room
fitting_form (Err r) room = Err (Refused r)

-- terms that were loaded go into an out of `room` cells; what is no form is 13
unfoldable pub fitting_terms : Loading → ℕ → Answer
fitting_terms (Some n) room = fitting n room
fitting_terms None room = Err (Refused refusal.Form)

-- compacting m terms into an out of `room` cells: refusals 4, 3, 5 and 12, in this order
unfoldable pub compacting : (ℕ → ℕ) → StoredForm → ℕ → List ℕ → ℕ → Answer
compacting arity s m cs room = fitting_form (reading arity s m cs) room

-- expanding m terms into an out of `room` cells: refusals 13 and 12, in this order
unfoldable pub expanding : StoredForm → ℕ → List ℕ → ℕ → Answer
expanding s m fs room = fitting_terms (loading s m fs) room

-- the editions that a converter takes: 1 and 2, whatever editions of a space there are
unfoldable pub converter_edition : ℕ → Bool
converter_edition e = pick (eqb e 1) true (eqb e 2)

-- a converter's answer in the edition of this number; another number is refused (1), before all else
unfoldable pub in_edition : ℕ → Answer → Answer
in_edition e answer = pick (converter_edition e) answer (Err (Refused refusal.Header))

-- what is in out afterwards: the cells written before what was there; refused, what was there
unfoldable pub written : Answer → List ℕ → List ℕ → List ℕ
written (Ok n) form out = form ++ drop n out
written (Err e) form out = out
