-- The test of prefixes decides.
use Rattle.std.proofs.Common.{not, refl, ap}
use Rattle.paths.specs.Paths.{names}
use Rattle.rows.proofs.Tables.{is_under}
use Rattle.rows.proofs.sorted.ranges.fn.count_under.position.Goals as goal

pub returns : goal.returns
returns g c = (ap not (is_under (names c.captures.path.now) (names c.args.row.now.path) c.is_prefix_of.result c.is_prefix_of.ensures), refl)
