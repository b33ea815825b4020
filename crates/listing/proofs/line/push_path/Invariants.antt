use Rattle.std.proofs.Common.{◌≡◌, ◌++◌, take}
use Rattle.listing.specs.Lines.{escaped}
use Rattle.listing.proofs.line.push_path.Given as goal

abbrev pub invariant-loop-b : goal.invariant-loop-b
invariant-loop-b l = l.line.bytes ≡ l.initial.line.bytes ++ escaped (take l.b-index l.path)
