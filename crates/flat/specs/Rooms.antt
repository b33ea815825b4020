-- The room of a flat tree, and the need of a path. Assumes nothing.
use Rattle.std.specs.Prelude.{ℕ, ◌-◌, cond, List, length}
use Rattle.rows.specs.Maps.{Names, has}
use Rattle.trees.specs.Entries.{Row}

abbrev pub room_of : List Row → ℕ
room_of rs = 256 - length rs

-- one row, where there is none yet
abbrev pub need_at : List Row → Names → ℕ
need_at rs p = cond (has rs p) 0 1
