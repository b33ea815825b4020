-- The rows are a squash over the lower rows gone through.
use Rattle.std.proofs.Common.{◌≡◌, take}
use Rattle.rows.specs.Rows.{rows_of}
use Rattle.rows.specs.Tables.{listed}
use Rattle.marks.specs.Squash.{squashed}
use Rattle.layers.specs.Layers.{marks_of}
use Rattle.layers.proofs.layer.Layer.squashed_rows.Given as goal

abbrev pub invariant-loop-row : goal.invariant-loop-row
invariant-loop-row l = record {
  lower : rows_of l.row-items ≡ marks_of l.lower;
  squash : listed l.rows ≡ squashed (marks_of l.self) (take l.row-index (marks_of l.lower));
}
