use Rattle.std.proofs.Common.{length, drop}
use Rattle.layers.specs.Layers.{marks_of}
use Rattle.trees.proofs.Written.{Written}
use Rattle.layer_files.specs.Files.{encoded}
use Rattle.layer_files.proofs.Left.{left}
use Rattle.layer_files.proofs.write.fill.Given as goal

abbrev pub invariant-loop-row : goal.invariant-loop-row
invariant-loop-row l = Written (encoded (marks_of l.layer)) l.fn.buffer l.buffer (left (drop l.row-index l.rows) (length l.rows)) l.end
