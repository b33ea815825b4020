use Rattle.std.proofs.Common.{◌≡◌, ◌+◌, ◌*◌, ◌≤◌, length, drop}
use Rattle.std.specs.List.{concat}
use Rattle.layers.specs.Layers.{marks_of}
use Rattle.layer_files.specs.Files.{encoded}
use Rattle.layer_files.proofs.Left.{left}
use Rattle.layer_files.proofs.write.measure.Given as goal

abbrev pub invariant-loop-row : goal.invariant-loop-row
invariant-loop-row l = record {
  told : l.len + length (concat (left (drop l.row-index l.rows) (length l.rows))) ≡ length (encoded (marks_of l.layer));
  fits : l.len ≤ 288 * (l.row-index + 1);
}
