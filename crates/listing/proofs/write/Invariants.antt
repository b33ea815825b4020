use Rattle.listing.specs.Lines.{listing}
use Rattle.trees.proofs.Written.{Written}
use Rattle.listing.proofs.write.Given as goal

abbrev pub invariant-loop-line : goal.invariant-loop-line
invariant-loop-line g l = Written (listing (g.T.Tree.entries l.tree).rows) l.fn.buffer l.buffer l.line-iterator l.end
