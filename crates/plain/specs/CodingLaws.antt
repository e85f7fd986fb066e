-- What the theorems on lists of calls ask of a coding: what is read is legal, and what holds of legal forms.
use Rattle.std.specs.Prelude.{true, List, [], ◌++◌, ◌≡◌, ℕ, suc, ◌<◌, ◌≤◌, length, get_or}
use Rattle.forms.specs.Numbering.{met, numbered}
use Rattle.plain.specs.Words.{Word}
use Rattle.plain.specs.Coding.{Coding, refused, accepted}

-- a term of a stored form that holds no variable
pub record GroundTerm (c : Coding) (ks : List ℕ) : Type 0 where
  pub form : Word
  pub m : ℕ
  pub place : ℕ
  pub legal : c.legal m form ≡ true
  pub ground : length (met [] form) ≡ 0
  pub inside : place < m
  pub is : ks ≡ get_or (c.terms form) place []

-- m of them one after another
pub data GroundTerms (c : Coding) : ℕ → List ℕ → Type 0 where
  none : GroundTerms c 0 []
  one : {m : ℕ} {ks rest : List ℕ} → GroundTerm c ks → GroundTerms c m rest → GroundTerms c (suc m) (ks ++ rest)

pub record CodingLaws (c : Coding) : Type 0 where
  -- a called term is refused by 3 to 6, an answer's terms by 3 to 5
  pub called-refused : (ks : List ℕ) (r : ℕ) → c.called ks ≡ refused r → (3 ≤ r) × (r ≤ 6)
  pub answered-refused : (m : ℕ) (ks : List ℕ) (r : ℕ) → c.answered m ks ≡ refused r → (3 ≤ r) × (r ≤ 5)
  -- a called term is stored as one legal term with its variables, at most 32
  pub called-legal : (ks : List ℕ) (w : Word) (m : ℕ) → c.called ks ≡ accepted w m → c.legal 1 w ≡ true
  pub called-variables : (ks : List ℕ) (w : Word) (m : ℕ) → c.called ks ≡ accepted w m
      → (length (met [] w) ≡ m) × (m ≤ 32)
  -- the terms of an answer are stored as m legal terms
  pub answered-legal : (m : ℕ) (ks : List ℕ) (w : Word) (n : ℕ) → c.answered m ks ≡ accepted w n → c.legal m w ≡ true
  -- expanding gives the numbered terms back
  pub called-expands : (ks : List ℕ) (w : Word) (m : ℕ) → c.called ks ≡ accepted w m → c.expand w ≡ numbered ks
  pub answered-expands : (m : ℕ) (ks : List ℕ) (w : Word) (n : ℕ) → c.answered m ks ≡ accepted w n
      → c.expand w ≡ numbered ks
  -- variants have one form
  pub called-variants : (ks ls : List ℕ) (w v : Word) (m n : ℕ) → c.called ks ≡ accepted w m
      → c.called ls ≡ accepted v n → numbered ks ≡ numbered ls → w ≡ v
  pub answered-variants : (k : ℕ) (ks ls : List ℕ) (w v : Word) (m n : ℕ) → c.answered k ks ≡ accepted w m
      → c.answered k ls ≡ accepted v n → numbered ks ≡ numbered ls → w ≡ v
  -- no form of m terms is a proper prefix of another; it has at most 383 tokens, and no term has none
  pub legal-free : (m : ℕ) (w rest : Word) → c.legal m w ≡ true → c.legal m (w ++ rest) ≡ true → rest ≡ []
  pub legal-short : (m : ℕ) (w : Word) → c.legal m w ≡ true → length w ≤ 383
  pub legal-some : (m : ℕ) (w : Word) → c.legal (suc m) w ≡ true → 0 < length w
  -- and no terms have none
  pub legal-empty : (w : Word) → c.legal 0 w ≡ true → w ≡ []
  -- ground terms of stored forms that are put together are refused by 4 alone
  pub ground-refused : (m : ℕ) (ks : List ℕ) (r : ℕ) → GroundTerms c m ks → c.answered m ks ≡ refused r → r ≡ 4
  -- the variables of an instance are numbered by first meeting
  pub instance-numbered : (w v : Word) → c.legal 1 w ≡ true → c.legal (length (met [] w)) v ≡ true
      → numbered (c.instance_of w v) ≡ c.instance_of w v
