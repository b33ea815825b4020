-- The rows that a copy-up adds. Assumes nothing.
use Rattle.std.specs.Prelude.{cond, List, None, Option}
use Rattle.paths.specs.Names.{prefixes}
use Rattle.rows.specs.Maps.{Names, at, has}
use Rattle.rows.specs.Builds.{build}
use Rattle.trees.specs.Entries.{Row}
use Rattle.marks.specs.declared.mark.Mark.{Mark}
use Rattle.marks.specs.Marks.{MarkRow, merged}
use Rattle.marks.specs.Edits.{write_at}

-- the mark of a path that has no row yet
abbrev pub fresh_mark : Mark → List MarkRow → List Row → Names → Names → Option Mark
fresh_mark x m e p q = cond (has m q) None (write_at x (at m) (at (merged m e)) p q)

-- the prefixes of the path without a row, each with its new mark
abbrev pub fresh_rows : Mark → List MarkRow → List Row → Names → List MarkRow
fresh_rows x m e p = build (fresh_mark x m e p) (prefixes p)
