-- What the test answers.
use Rattle.std.proofs.Common.{◌≡◌, not}
use Rattle.paths.specs.Paths.{names}
use Rattle.rows.specs.Maps.{under}
use Rattle.rows.proofs.sorted.ranges.fn.count_under.position.Given as goal

abbrev pub ensures : goal.ensures
ensures g l r = r ≡ not (under (names l.path.entry.now) (names l.row.entry.now.path))
