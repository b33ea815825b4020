-- By the last row.
use Rattle.std.proofs.Common.{rules}
use Rattle.paths.specs.Paths.{names}
use Rattle.rows.proofs.Lasts.{rises_read}
use Rattle.rows.proofs.order.rises.Goals as goal

pub returns : goal.returns
returns g c =
    rises_read (names c.args.path.now) c.args.rows.now c.last.result c.last.ensures.value c.is_none_or.result (search rules)
