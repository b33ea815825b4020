use Rattle.paths.specs.Paths.{names}
use Rattle.listing.proofs.Steps.{step_none}
use Rattle.listing.proofs.following.following.Goals as goal

pub loop-parent-preserved : goal.loop-parent-preserved
loop-parent-preserved g c =
    let h = c.in-Some-parent.ensures in
    step_none (g.T.Tree.entries c.args.tree.now) (names c.args.path.now) (names c.loop-parent.here) c.loop-parent.invariant (names c.in-Some-parent.parent) h.1 h.0 (rw c.last_name.ensures at c.in_default-child_after.ensures)
