use Rattle.std.proofs.Common.{◌≡◌, ◌≤◌, drop, length}
use Rattle.paths.specs.Pieces.{pieces}
use Rattle.std.specs.Slice.Iter.{split_inclusive_rest}
use Rattle.manifests.specs.Manifests.{rows_from, rows_in}
use Rattle.manifests.specs.Readers.{so_far}
use Rattle.manifests.proofs.reader.Reader.fill.Given as goal

abbrev pub invariant-loop-line : goal.invariant-loop-line
invariant-loop-line l = record {
  rest : split_inclusive_rest l.line-iterator ≡ drop l.at l.text;
  within : l.at ≤ length l.text;
  limit : l.self.limit ≡ l.fn.self.limit;
  rows : rows_in l.fn.self.limit l.text ≡ rows_from l.self.limit l.at (so_far l.self) (pieces 10 (drop l.at l.text));
}
