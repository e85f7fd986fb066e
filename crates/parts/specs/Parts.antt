-- The terms of a stored form that holds no variable, by their tokens. Such terms are compared and put together as they
-- are stored: equal terms have equal tokens, and nothing is numbered anew.
use Rattle.std.specs.Prelude.{ℕ, ◌+◌, ◌≤◌, ◌<◌, Bool, true, false, List, [], ◌∷◌, map, ◌≡◌, leb, length, take, drop}
use Rattle.std.specs.Prelude.{get_or}
use Rattle.basis.specs.Choice.{pick}
use Rattle.forms.specs.Terms.{every}
use Rattle.forms.specs.Numbering.{met}
use Rattle.forms.specs.Stored.{StoredForm}
use Rattle.plain.specs.Words.{Word}
use Rattle.plain.specs.Coding.{coded_as}
use Rattle.plain.specs.Joins.{Terms, Forms, declined, formed, named, combined, all_read}

-- the tokens of each term of a form
abbrev pub parts : StoredForm → Word → Terms
parts s w = map s.tokens (s.terms w)

-- where term i begins in a form
abbrev pub start_of : StoredForm → Word → ℕ → ℕ
start_of s w i = length (every s.tokens (take i (s.terms w)))

-- a stored form of m terms without variables, which is the tokens of these terms
pub record GroundForm (s : StoredForm) (m : ℕ) (w : Word) : Type 0 where
  pub legal : s.legal m w ≡ true
  pub ground : length (met [] w) ≡ 0
  pub count : length (s.terms w) ≡ m
  pub tokens : w ≡ every s.tokens (s.terms w)

-- ---- an answer in hand: cells that hold where each of its terms begins, and from `tokens_start` on its tokens

-- the terms are at most 32, and the last of them has an end
abbrev pub tokens_start : ℕ
tokens_start = 33

-- the form w of m terms is in hand
pub record InHand (s : StoredForm) (m : ℕ) (w : Word) (held : List ℕ) : Type 0 where
  pub form : GroundForm s m w
  pub few : m < tokens_start
  pub room : tokens_start + length w ≤ length held
  pub tokens : take (length w) (drop tokens_start held) ≡ w
  pub starts : (i : ℕ) → i ≤ m → get_or held i 0 ≡ tokens_start + start_of s w i

-- ---- forms put together

-- the terms of each form are at most 256 cells
unfoldable pub all_fit : StoredForm → List Word → Bool
all_fit s [] = true
all_fit s (w ∷ ws) = pick (leb (length (s.cells w)) 256) (all_fit s ws) false

-- the forms of a join, or 4
abbrev pub fitted : StoredForm → List Word → Forms
fitted s ws = pick (all_fit s ws) (formed ws) (declined 4)

-- ---- the rule of a join on terms is its rule on their tokens

-- the forms are those of m terms without variables
abbrev pub AllGround : StoredForm → ℕ → List Word → Type 0
AllGround s m [] = Unit {0}
AllGround s m (w ∷ ws) = GroundForm s m w × AllGround s m ws

abbrev pub JoinedForms : (ℕ → ℕ) → StoredForm → Type 0
JoinedForms arity s = (m n k : ℕ) (ps cs : List ℕ) (us vs : List Word)
    → AllGround s m us → AllGround s n vs → named m n ps k cs ≡ true
    → all_read (coded_as arity s) k
    (combined ps cs (map (λ w. (coded_as arity s).terms w) us) (map (λ w. (coded_as arity s).terms w) vs))
    ≡ fitted s (combined ps cs (map (parts s) us) (map (parts s) vs))
