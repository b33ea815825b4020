use Rattle.std.proofs.Common.{◌-◌, length}
use Rattle.layers.specs.Layers.{marks_of}
use Rattle.layer_files.proofs.Turns.{Sofar}
use Rattle.layer_files.proofs.read.read.Given as goal

abbrev pub invariant-loop-row : goal.invariant-loop-row
invariant-loop-row l = Sofar l.bytes l.reader.bytes.now l.reader.at (marks_of l.seen)

abbrev pub decreases-loop-row : goal.decreases-loop-row
decreases-loop-row l = 193 - length (marks_of l.seen)
