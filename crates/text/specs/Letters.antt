-- A word's letters as bytes, so that a definition shows the word and not its numbers. Letters of ASCII alone: a letter
-- stands for its code, and that is its byte only there.
use Rattle.std.specs.Prelude.{ℕ, List, [], ◌∷◌}
use Prim.Native.Char.{code}
use Prim.Native.String.{String, [] as empty, ◌∷◌ as ◌before◌}

abbrev pub letters : String → List ℕ
letters empty = []
letters (c before s) = code c ∷ letters s
