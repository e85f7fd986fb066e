-- 18 and 19 of a source that passes the check, by its nodes and its counts: no path is gathered for them.
use Rattle.basis.specs.declared.refusals.Refusal.TheVariants as refusal
use Rattle.std.specs.Prelude.{ℕ, ◌≡◌, Bool, true, ◌&&◌, List, leb, Err, Ok}
use Rattle.basis.specs.Choice.{pick}
use Rattle.space.specs.Layout.{sizes_of}
use Rattle.space.specs.Heading.{space_header}
use Rattle.space.specs.Fresh.{fresh_answer_in, FreshAnswer}
use Rattle.space.specs.declared.Head.{Head}
use Rattle.store.specs.Views.{View, view_of}
use Rattle.agreement.specs.Whole.{every_below, whole_space}
use Rattle.carrying.specs.Recoding.{Recoding}
use Rattle.carrying.specs.Copying.{where_fresh, copy_reply}

-- the token of every node can be stored
unfoldable pub takes_nodes : Recoding → View → Bool
takes_nodes r v = every_below (λ i. r.takes (v.node i).token) v.nodes

-- the capacities are enough for its counts
unfoldable pub quick_reply : Recoding → ℕ → ℕ → ℕ → View → FreshAnswer
quick_reply r n f a v =
    pick (takes_nodes r v)
    (pick (leb v.nodes n && leb v.subgoals f && leb v.answers a) (Ok tt) (Err refusal.Capacity))
    (Err refusal.Functor)

-- a copy of such a source answers so
abbrev pub CopyQuick : ℕ → ℕ → Recoding → Type 0
CopyQuick e d r = (n f a : ℕ) (source target : List ℕ) (h : Head) → whole_space source ≡ true
    → space_header source ≡ Ok h → h.edition ≡ e
    → copy_reply e d r n f a source target
    ≡ where_fresh (fresh_answer_in d n f a target) (quick_reply r n f a (view_of (sizes_of e) source h))
