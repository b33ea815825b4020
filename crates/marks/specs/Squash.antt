-- Two layers made one. Assumes nothing.
use Rattle.std.specs.Prelude.{List, Some, None, Option}
use Rattle.rows.specs.Maps.{at}
use Rattle.rows.specs.Builds.{keys, build, union}
use Rattle.marks.specs.declared.mark.Mark.{Mark}
use Rattle.marks.specs.declared.mark.Mark.TheVariants.{Whiteout, File, Dir, Opaque}
use Rattle.marks.specs.Marks.{MarkRow, laid}

-- the upper mark over the lower one: a directory over what hides hides too
abbrev pub over : Option Mark → Option Mark → Option Mark
over None y = y
over (Some Whiteout) y = Some Whiteout
over (Some (File f)) y = Some (File f)
over (Some (Dir d)) None = Some (Dir d)
over (Some (Dir d)) (Some Whiteout) = Some (Opaque d)
over (Some (Dir d)) (Some (File f)) = Some (Opaque d)
over (Some (Dir d)) (Some (Dir k)) = Some (Dir d)
over (Some (Dir d)) (Some (Opaque k)) = Some (Opaque d)
over (Some (Opaque d)) y = Some (Opaque d)

-- at each path the upper mark over the lower one, if the upper layer does not cut the path off
unfoldable pub squashed : List MarkRow → List MarkRow → List MarkRow
squashed u l = build (laid over (at u) (at l)) (union (keys u) (keys l))
