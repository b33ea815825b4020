use Rattle.std.proofs.Common.{length}
use Rattle.paths.specs.Paths.{names}
use Rattle.listing.proofs.Child.{Left}
use Rattle.listing.proofs.following.following.Given as goal

abbrev pub invariant-loop-parent : goal.invariant-loop-parent
invariant-loop-parent g l = Left (g.T.Tree.entries l.tree) (names l.path) (names l.here)

abbrev pub decreases-loop-parent : goal.decreases-loop-parent
decreases-loop-parent g l = length (names l.here)
