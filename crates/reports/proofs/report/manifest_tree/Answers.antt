-- `manifest_tree` meets its contract. Assumes nothing.
use Rattle.std.proofs.Common.{length, take}
use Rattle.reports.proofs.Told.{reads}
use Rattle.reports.proofs.report.manifest_tree.Goals as goal

pub returns : goal.returns
returns c = reads c.args.text.now (length c.args.rows.now) (take c.in_ok-count.count c.index.new.rows) c.read.result c.in_ok-count.ensures.1 c.read.ensures
