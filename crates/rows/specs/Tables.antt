-- What a table stands for, and rows put among its rows. Assumes nothing.
use Rattle.std.specs.Prelude.{◌≡◌, ℕ, ◌+◌, ◌≤◌, Bool, true, ◌&&◌, List, [], ◌∷◌, ◌++◌, length, take, drop, nat_le}
use Rattle.rows.specs.declared.row.Row.{Row}
use Rattle.rows.specs.declared.table.Table.{Table}
use Rattle.rows.specs.Maps.{Names, ascending}
use Rattle.rows.specs.Rows.{rows_of}
use Rattle.rows.specs.Positions.{lead}

module _ {V : Type 0} where
  abbrev pub listed : {N : ℕ} → Table V N → List (Names × V)
  listed t = rows_of t.rows.items

  -- the rows with new ones in front of the first that does not come before them
  abbrev pub spliced : List (Names × V) → List (Names × V) → List (Names × V)
  spliced [] rs = rs
  spliced (n ∷ new) rs = take (lead n.0 rs) rs ++ ((n ∷ new) ++ drop (lead n.0 rs) rs)

  -- new rows have room among the rows, and all rise then
  abbrev pub splices : ℕ → List (Names × V) → List (Names × V) → Bool
  splices room new rs = nat_le (length rs + length new) room && ascending (spliced new rs)

  -- the place of new rows among rows, where all rise
  pub record Spliced (rs new : List (Row V)) (at : ℕ) : Type 0 where
    pub rows : spliced (rows_of new) (rows_of rs) ≡ rows_of (take at rs ++ (new ++ drop at rs))
    pub rises : ascending (spliced (rows_of new) (rows_of rs)) ≡ true
    pub within : at ≤ length rs
