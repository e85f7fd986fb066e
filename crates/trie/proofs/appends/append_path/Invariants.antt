use Rattle.trie.proofs.AppendCases.{Growth}
use Rattle.trie.specs.Append.{append_path}
use Rattle.space.specs.Layout.{sizes}
use Rattle.std.proofs.Common.{length}
use Rattle.trie.proofs.appends.append_path.Given as goal

abbrev pub invariant-loop-i : goal.invariant-loop-i
invariant-loop-i l = Growth l.nodes l.tokens (length l.initial.space) l.space l.above l.after l.i (append_path sizes l.initial.space l.nodes l.parent l.last l.tokens)
