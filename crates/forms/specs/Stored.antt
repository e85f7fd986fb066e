-- How terms are stored: the stored form as a parameter, and the two forms that there are. Compact form (source 001,
-- section 3.2) is that of editions 1 to 3; numbered pair form (section 3.1), whose tokens are the cells, of edition 4.
use Rattle.std.specs.Prelude.{ℕ, ◌*◌, ◌-◌, ◌/◌, List, [], Bool, false, length, eqb, leb}
use Rattle.basis.specs.Choice.{pick}
use Rattle.forms.specs.Cells.{shape_of, arity_of}
use Rattle.forms.specs.Terms.{Term, pairs, reads, are_terms}
use Rattle.forms.specs.Numbering.{met, numbered}
use Rattle.forms.specs.Compact.{compact, compact_form, form_terms, pair_form, same, are_forms, legal_form}

pub record StoredForm : Type 0 where
  -- the tokens of a term
  pub tokens : Term → List ℕ
  -- the form of the terms that stand in the cells: the tokens of each, the variables numbered through all of them
  pub form : List ℕ → List ℕ
  -- the terms whose forms stand first in the tokens
  pub terms : List ℕ → List Term
  -- their pair form
  pub cells : List ℕ → List ℕ
  -- whether the tokens are exactly the forms of m terms, with none left over
  pub exact : ℕ → List ℕ → Bool
  -- whether these terms are moreover numbered and legal together: what loading accepts
  pub legal : ℕ → List ℕ → Bool
  -- the most tokens that m terms of s cells have, and that a legal form has
  pub most : ℕ → ℕ → ℕ
  pub longest : ℕ

abbrev pub compact_stored : (ℕ → ℕ) → StoredForm
compact_stored arity = record {
  tokens = compact;
  form = λ cs. compact_form arity cs;
  terms = λ fs. form_terms arity fs;
  cells = λ fs. pair_form arity fs;
  exact = λ m fs. are_forms arity m fs;
  legal = λ m fs. legal_form arity m fs;
  most = λ m s. (3 * s - m) / 2;
  longest = 383;
}

-- the cells are m terms that are legal together, numbered as first met: at most 32 variables, at most 256 cells
unfoldable pub legal_pairs : (ℕ → ℕ) → ℕ → List ℕ → Bool
legal_pairs arity m cs =
    pick (same cs (numbered cs))
    (pick (leb (length (met [] cs)) 32) (pick (are_terms arity m cs) (leb (length cs) 256) false) false) false

abbrev pub pair_stored : (ℕ → ℕ) → StoredForm
pair_stored arity = record {
  tokens = pairs;
  form = λ cs. numbered cs;
  terms = λ fs. reads (shape_of arity) fs;
  cells = λ fs. fs;
  exact = λ m fs. are_terms arity m fs;
  legal = λ m fs. legal_pairs arity m fs;
  most = λ m s. s;
  longest = 256;
}

-- the editions that store numbered pair form
abbrev pub stores_pairs : ℕ → Bool
stores_pairs e = eqb e 4

-- of each edition
unfoldable pub stored_of : ℕ → StoredForm
stored_of e = pick (stores_pairs e) (pair_stored (arity_of e)) (compact_stored (arity_of e))
