-- What rows in memory stand for. Assumes nothing.
use Rattle.std.specs.Prelude.{List, map}
use Rattle.paths.specs.Paths.{names}
use Rattle.rows.specs.declared.row.Row.{Row}
use Rattle.rows.specs.Maps.{Names}

module _ {V : Type 0} where
  abbrev pub row_of : Row V → Names × V
  row_of r = (names r.path, r.value)

  abbrev pub rows_of : List (Row V) → List (Names × V)
  rows_of rs = map row_of rs
