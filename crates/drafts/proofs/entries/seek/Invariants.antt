use Rattle.space.specs.Layout.{sizes, node_in}
use Rattle.drafts.specs.Entries.{Seekable}
use Rattle.drafts.proofs.EntryLaws.{Seeking}
use Rattle.drafts.proofs.entries.seek.Given as goal

abbrev pub invariant-loop-n : goal.invariant-loop-n
invariant-loop-n l = Seekable l.space l.x l.used l.parent × Seeking (node_in sizes l.space) l.x l.used l.parent l.token l.n

abbrev pub decreases-loop-n : goal.decreases-loop-n
decreases-loop-n l = l.n
