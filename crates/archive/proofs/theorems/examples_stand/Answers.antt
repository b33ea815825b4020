use Rattle.std.proofs.Common.{refl}
use Rattle.edits.specs.Edits.{refusal, edited}
use Rattle.marks.specs.Marks.{merged}
use Rattle.marks.specs.Edits.{written, removed}
use Rattle.marks.specs.Squash.{squashed}
use Rattle.archive.proofs.theorems.examples_stand.Goals as goal

pub returns : goal.returns
unfolding refusal edited merged written removed squashed
returns c = record {
  tree = refl;
  look_file = refl;
  look_under_file = refl;
  look_missing = refl;
  put = refl;
  put_rows = refl;
  put_room = refl;
  remove = refl;
  remove_mark = refl;
  remove_rows = refl;
  full = refl;
  child = refl;
  child_rows = refl;
  empty = refl;
  empty_rows = refl;
  mkdir = refl;
  mkdir_mark = refl;
  mkdir_rows = refl;
  hidden = refl;
  squash = refl;
}
