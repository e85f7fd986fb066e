use Rattle.drafts.proofs.DraftCases.{Drafting}
use Rattle.drafts.proofs.drafting.draft.Given as goal

abbrev pub invariant-loop-token : goal.invariant-loop-token
invariant-loop-token l = Drafting l.initial.space l.x l.used l.stop l.tokens l.space l.n l.k l.token-index
