-- A space copied into another, on any cells: what the copy answers and what it leaves of the target.
use Rattle.basis.specs.declared.refusals.Refusal.TheVariants as refusal
use Rattle.std.specs.Prelude.{ℕ, suc, Bool, ◌&&◌, List, [], ◌∷◌, eqb, length, set, Err, Ok}
use Rattle.basis.specs.Choice.{pick}
use Rattle.forms.specs.Numbering.{met}
use Rattle.plain.specs.Words.{Word}
use Rattle.plain.specs.Coding.{Coding, coding_of, accepted}
use Rattle.plain.specs.Requests.{State, Open, Finished}
use Rattle.plain.specs.Table.{Table, Subgoal, Answer}
use Rattle.space.specs.Layout.{Sizes, sizes_of, subgoal_offset_of, state_cell}
use Rattle.space.specs.Heading.{header_of, space_header, Header}
use Rattle.space.specs.Fresh.{fresh_space, fresh_answer_in, FreshAnswer}
use Rattle.store.specs.Views.{View, view_of}
use Rattle.store.specs.Decisions.{sound_subgoal, sound_pair, called}
use Rattle.store.specs.Changes.{form_given, change}
use Rattle.agreement.specs.Whole.{every_below, path_passes, subgoal_path, answer_path, table_read}
use Rattle.carrying.specs.Recoding.{Recoding, widening, unchanged}
use Rattle.carrying.specs.Carrying.{carried, carrying, none_alike}

-- ---- what is read of the source (9)

module _ (c : Coding) (v : View) where
  -- a subgoal's record is sound, and its path one legal term with its variables; nothing is asked of the first token
  unfoldable pub subgoal_loads : ℕ → Bool
  subgoal_loads s =
      sound_subgoal v s
      && path_passes (subgoal_path v s) (λ w. c.legal 1 w && eqb (length (met [] w)) (v.subgoal s).variables)

  -- an answer's record and its subgoal's are sound, and its path is as load reads it
  unfoldable pub answer_loads : ℕ → Bool
  answer_loads a =
      sound_pair v a
      && path_passes (answer_path v a) (λ w. c.legal (v.subgoal (v.answer a).subgoal).variables w)

  -- all do, and no two are alike
  unfoldable pub source_loads : Bool
  source_loads =
      every_below (λ i. subgoal_loads (suc i)) v.subgoals
      && every_below (λ i. answer_loads (suc i)) v.answers
      && none_alike (table_read v)

-- ---- what is written of a table into a fresh space

-- a subgoal's form enters as by a call of its term, whatever that comes to
unfoldable pub subgoal_given : Sizes → List ℕ → Word → ℕ → Header → List ℕ
subgoal_given z cs w m (Ok h) = change z cs h (called (view_of z cs h) (accepted w m))
subgoal_given z cs w m (Err r) = cs

-- all subgoals by number, each on the cells as the one before left them
unfoldable pub subgoals_given : Sizes → List ℕ → List Subgoal → List ℕ
subgoals_given z cs [] = cs
subgoals_given z cs (g ∷ gs) = subgoals_given z (subgoal_given z cs g.form g.m (header_of z cs)) gs

-- then all answers by number; every subgoal is still open, or ground and holds its one answer
unfoldable pub answers_given : Sizes → List ℕ → List Answer → List ℕ
answers_given z cs [] = cs
answers_given z cs (y ∷ ys) = answers_given z (form_given z cs y.subgoal y.form (header_of z cs)) ys

abbrev pub state_number : State → ℕ
state_number Open = 0
state_number Finished = 1

-- then the states as recorded, from subgoal s on
unfoldable pub states_given : Sizes → ℕ → List ℕ → ℕ → List Subgoal → List ℕ
states_given z offset cs s [] = cs
states_given z offset cs s (g ∷ gs) =
    states_given z offset (set cs (state_cell z offset s) (state_number g.state)) (suc s) gs

-- the table's records in the cells that are lent
unfoldable pub built : Sizes → Table → List ℕ → List ℕ
built z t cs =
    let opened = subgoals_given z (fresh_space z t.N t.F t.A cs) t.subgoals in
    states_given z (subgoal_offset_of z t.N) (answers_given z opened t.answers) 1 t.subgoals

-- ---- the copy from a space of edition e into one of edition d

-- done or a refusal by 2, from fresh
abbrev pub where_fresh : FreshAnswer → FreshAnswer → FreshAnswer
where_fresh (Ok y) r = r
where_fresh (Err k) r = Err k

abbrev pub where_done : FreshAnswer → List ℕ → List ℕ → List ℕ
where_done (Ok y) after before = after
where_done (Err k) after before = before

module _ (e d : ℕ) (r : Recoding) (n f a : ℕ) where
  -- 1 by the header, and where its edition is another; 2; 9; 18; 19
  unfoldable pub copy_under : List ℕ → List ℕ → Header → FreshAnswer
  copy_under source target (Ok h) =
      let v = view_of (sizes_of e) source h in
      pick (eqb h.edition e)
      (where_fresh (fresh_answer_in d n f a target)
      (pick (source_loads (coding_of e) v) (carrying r n f a (table_read v)) (Err refusal.Records)))
      (Err refusal.Header)
  copy_under source target (Err k) = Err k

  unfoldable pub copy_reply : List ℕ → List ℕ → FreshAnswer
  copy_reply source target = copy_under source target (space_header source)

  unfoldable pub copy_built : List ℕ → List ℕ → Header → List ℕ
  copy_built source target (Ok h) =
      built (sizes_of d) (carried r n f a (table_read (view_of (sizes_of e) source h))) target
  copy_built source target (Err k) = target

  -- the target after it: every cell as it was where the copy is refused
  unfoldable pub copy_space : List ℕ → List ℕ → List ℕ
  copy_space source target =
      where_done (copy_reply source target) (copy_built source target (space_header source)) target

-- Q-8: from edition 1 into edition 2
abbrev pub carry_reply : (n f a : ℕ) → List ℕ → List ℕ → FreshAnswer
carry_reply = copy_reply 1 2 widening

abbrev pub carry_space : (n f a : ℕ) → List ℕ → List ℕ → List ℕ
carry_space = copy_space 1 2 widening

-- the same edition with other capacities
abbrev pub resize_reply : ℕ → (n f a : ℕ) → List ℕ → List ℕ → FreshAnswer
resize_reply e = copy_reply e e unchanged

abbrev pub resize_space : ℕ → (n f a : ℕ) → List ℕ → List ℕ → List ℕ
resize_space e = copy_space e e unchanged
