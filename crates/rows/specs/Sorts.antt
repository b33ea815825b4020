-- What sorted rows stand for. Assumes nothing.
use Rattle.std.specs.Prelude.{List}
use Rattle.rows.specs.declared.sorted.Sorted.{Sorted}
use Rattle.rows.specs.Maps.{Names}
use Rattle.rows.specs.Rows.{rows_of}

abbrev pub kept : {V : Type 0} → Sorted V → List (Names × V)
kept s = rows_of s.rows.now
