-- Numbered form: each variable's payload becomes its rank by first meeting. The only file that numbers variables.
use Rattle.std.specs.Prelude.{ℕ, suc, List, [], ◌∷◌, ◌++◌, map, length, eqb, leb}
use Rattle.basis.specs.Choice.{pick}
use Rattle.forms.specs.Cells.{tag, variable}

-- the place of x in a list, from 0, or the list's length where it is not there
unfoldable pub rank : List ℕ → ℕ → ℕ
rank [] x = 0
rank (y ∷ ys) x = pick (eqb y x) 0 (suc (rank ys x))

-- the variables met so far, with c behind them if it is a variable that is not among them
unfoldable pub seen : List ℕ → ℕ → List ℕ
seen vs c = pick (variable c) (pick (leb (length vs) (rank vs c)) (vs ++ (c ∷ [])) vs) vs

-- the distinct variables of the cells in the order of first meeting, behind those of vs
unfoldable pub met : List ℕ → List ℕ → List ℕ
met vs [] = vs
met vs (c ∷ cs) = met (seen vs c) cs

-- a variable's payload becomes its rank among vs
unfoldable pub renamed : List ℕ → ℕ → ℕ
renamed vs c = pick (variable c) (tag 1 (rank vs c)) c

-- numbered form
unfoldable pub numbered : List ℕ → List ℕ
numbered cs = map (renamed (met [] cs)) cs
