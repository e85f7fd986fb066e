-- A table that is given other capacities in its place: the header says where the blocks are then, each block's used
-- cells stand at its new place with zeros after them, and the cells past the new end stay. Every record keeps its
-- number.
use Rattle.basis.specs.declared.refusals.Refusal.TheVariants as refusal
use Rattle.std.specs.Prelude.{ℕ, ◌-◌, ◌*◌, Bool, ◌&&◌, List, [], ◌∷◌, ◌++◌, leb, take, drop, replicate, Err, Ok}
use Rattle.basis.specs.Choice.{pick}
use Rattle.space.specs.Layout.{Sizes, sizes_of, header_cells, subgoal_offset_of, answer_offset_of, end_offset}
use Rattle.space.specs.Heading.{space_header, Header}
use Rattle.space.specs.Fresh.{fresh_fits, FreshAnswer}
use Rattle.space.specs.declared.Head.{Head}
use Rattle.carrying.specs.Copying.{where_done}

-- room for so many records of `width` cells: the used ones, which begin these cells, and zeros for the free ones
abbrev pub block : (width used room : ℕ) → List ℕ → List ℕ
block width used room cells = take (width * used) cells ++ replicate (width * room - width * used) 0

module _ (n f a : ℕ) where
  -- none of the capacities is below what is used
  unfoldable pub enough : Head → Bool
  enough h = leb h.nodes n && leb h.subgoals f && leb h.answers a

  abbrev pub grown_header : Sizes → Head → List ℕ
  grown_header z h =
      h.edition ∷ h.nodes ∷ h.subgoals ∷ h.answers
      ∷ header_cells ∷ subgoal_offset_of z n ∷ answer_offset_of z n f ∷ end_offset z n f a ∷ []

  unfoldable pub grown_cells : Sizes → Head → List ℕ → List ℕ
  grown_cells z h cs =
      grown_header z h
      ++ (block z.node h.nodes n (drop header_cells cs)
      ++ (block z.subgoal h.subgoals f (drop h.subgoal_offset cs)
      ++ (block z.answer h.answers a (drop h.answer_offset cs)
      ++ drop (end_offset z n f a) cs)))

  -- 1 by the header; 2 as fresh says it of the new capacities; 19
  unfoldable pub grow_under : List ℕ → Header → FreshAnswer
  grow_under cs (Ok h) =
      pick (fresh_fits (sizes_of h.edition) n f a cs) (pick (enough h) (Ok tt) (Err refusal.Capacity))
      (Err refusal.Fresh)
  grow_under cs (Err k) = Err k

  unfoldable pub grow_reply : List ℕ → FreshAnswer
  grow_reply cs = grow_under cs (space_header cs)

  abbrev pub grown_under : List ℕ → Header → List ℕ
  grown_under cs (Ok h) = grown_cells (sizes_of h.edition) h cs
  grown_under cs (Err k) = cs

  -- refused, every cell is as it was
  unfoldable pub grow_space : List ℕ → List ℕ
  grow_space cs = where_done (grow_reply cs) (grown_under cs (space_header cs)) cs
