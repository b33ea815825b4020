use Rattle.std.proofs.Common.{sym, refl, ◌∙◌, rules}
use Rattle.paths.specs.Paths.{names}
use Rattle.rows.proofs.Tables.{is_under}
use Rattle.manifests.proofs.reader.admit.is_parent_dir.Goals as goal

pub returns-then-is_dir : goal.returns-then-is_dir
returns-then-is_dir c =
    let w = is_under (names c.args.parent.now) (names c.args.row.now.path) c.is_prefix_of.result c.is_prefix_of.ensures in
    rw (sym w ∙ c.if-is_prefix_of.true, ← c.is_dir.ensures, c.if-is_dir.true) refl

pub returns-else-is_dir : goal.returns-else-is_dir
returns-else-is_dir c =
    let w = is_under (names c.args.parent.now) (names c.args.row.now.path) c.is_prefix_of.result c.is_prefix_of.ensures in
    rw (sym w ∙ c.if-is_prefix_of.true, ← c.is_dir.ensures, c.if-is_dir.false) (search rules)

pub returns-else-is_prefix_of : goal.returns-else-is_prefix_of
returns-else-is_prefix_of c =
    let w = is_under (names c.args.parent.now) (names c.args.row.now.path) c.is_prefix_of.result c.is_prefix_of.ensures in
    rw (sym w ∙ c.if-is_prefix_of.false) c.if-is_prefix_of.false
