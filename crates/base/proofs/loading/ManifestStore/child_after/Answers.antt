use Rattle.rows.specs.Sorts.{kept}
use Rattle.trees.proofs.Closed.{closed-rooted, tree_parts}
use Rattle.base.proofs.loading.ManifestStore.child_after.Goals as goal

pub returns : goal.returns
returns c =
    let rows = kept c.args.self.now.rows in
    c.child_after.ensures.least (closed-rooted rows rows (tree_parts rows c.args.self.now.built).1)
