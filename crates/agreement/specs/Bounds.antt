-- The bound of a path: gathering may allow more tokens than a legal form has, and nothing is answered otherwise. So the
-- one bound of 383 serves every stored form, and a path of numbered pair form is held to its 256 by what is legal.
use Rattle.std.specs.Prelude.{ℕ, ◌≤◌, Bool, true, ◌≡◌}
use Rattle.forms.specs.Stored.{StoredForm}
use Rattle.plain.specs.Words.{Word}
use Rattle.trie.specs.Siblings.{Trie}
use Rattle.trie.specs.Paths.{gather}
use Rattle.store.specs.Decisions.{Decision, Chain, on_path, headed}

-- for a stored form and what is asked of its legal forms: a path that is held to its longest, or to more
abbrev pub BoundFree : StoredForm → Type 0
BoundFree s = (m more : ℕ) → s.longest ≤ more
    → (test : Word → Bool) → ((w : Word) → test w ≡ true → s.legal m w ≡ true)
    → (t : Trie) (root n : ℕ)
    → ((d : Word → Decision)
    → on_path (gather more t root n) test d ≡ on_path (gather s.longest t root n) test d)
    × ((later : Chain) → headed test (gather more t root n) later ≡ headed test (gather s.longest t root n) later)
