-- A law for each case of growing.
use Rattle.basis.specs.declared.refusals.Refusal.{Refusal}
use Rattle.basis.specs.declared.refusals.Refusal.TheVariants as refusal
use Rattle.std.specs.Prelude.{Err, Ok}
use Prim.Native.Nat.{ℕ}
use mathlib.Core.Path.{◌≡◌}
use mathlib.Core.Bool.{true, false}
use mathlib.Core.List.{List}
use Rattle.space.specs.Layout.{sizes_of}
use Rattle.space.specs.Heading.{space_header}
use Rattle.space.specs.Fresh.{fresh_fits}
use Rattle.space.specs.declared.Head.{Head}
use Rattle.growing.specs.Growing.{enough, grown_cells, grow_under, grow_reply, grow_space}
use Rattle.growing.specs.Clauses.{GrowsInto, Grows}

module _ (n f a : ℕ) (cs : List ℕ) where
  pub grow-header : (k : Refusal) → Err k ≡ space_header cs → GrowsInto n f a cs (Err k) cs
  unfolding grow_reply grow_under grow_space
  grow-header k e = (rw (← e), rw (← e))

  module _ (h : Head) (s : Ok h ≡ space_header cs) where
    grow-fresh : fresh_fits (sizes_of h.edition) n f a cs ≡ false → GrowsInto n f a cs (Err refusal.Fresh) cs
    unfolding grow_reply grow_under grow_space
    grow-fresh e = (rw (← s, e), rw (← s, e))

    grow-few : fresh_fits (sizes_of h.edition) n f a cs ≡ true → enough n f a h ≡ false → GrowsInto n f a cs (Err refusal.Capacity) cs
    unfolding grow_reply grow_under grow_space
    grow-few e m = (rw (← s, e, m), rw (← s, e, m))

    pub grow-done : (x : List ℕ) → fresh_fits (sizes_of h.edition) n f a cs ≡ true → enough n f a h ≡ true → x ≡ grown_cells n f a (sizes_of h.edition) h cs → GrowsInto n f a cs (Ok tt) x
    unfolding grow_reply grow_under grow_space
    grow-done x e m g = (rw (← s, e, m), rw (← s, e, m) g)

-- the same by the capacities as indices
module _ (n f a n' f' a' : ℕ) (cs : List ℕ) (i : n' ≡ n) (j : f' ≡ f) (l : a' ≡ a) (h : Head) (s : Ok h ≡ space_header cs) where
  pub fresh_at : fresh_fits (sizes_of h.edition) n' f' a' cs ≡ false → GrowsInto n f a cs (Err refusal.Fresh) cs
  fresh_at e = grow-fresh n f a cs h s (rw (i, j, l) at e)

  pub few-at : fresh_fits (sizes_of h.edition) n' f' a' cs ≡ true → enough n' f' a' h ≡ false → GrowsInto n f a cs (Err refusal.Capacity) cs
  few-at e m = grow-few n f a cs h s (rw (i, j, l) at e) (rw (i, j, l) at m)

  pub done_at : (x : List ℕ) → Grows n' f' a' h cs → x ≡ grown_cells n' f' a' (sizes_of h.edition) h cs → GrowsInto n f a cs (Ok tt) x
  done_at x g e = grow-done n f a cs h s x (rw (i, j, l) at g.1) (rw (i, j, l) at g.2) (rw (i, j, l) at e)
