use Rattle.std.proofs.Common.{◌≡◌, ◌+◌, length}
use Rattle.std.specs.List.{concat}
use Rattle.listing.specs.Lines.{listing}
use Rattle.listing.proofs.measure.Given as goal

abbrev pub invariant-loop-line : goal.invariant-loop-line
invariant-loop-line g l = l.left + length (listing (g.T.Tree.entries l.tree).rows) ≡ l.room + length (concat l.line-iterator)
