use Rattle.std.proofs.Common.{ap, ◌∙◌}
use Rattle.rows.specs.Rows.{row_of}
use Rattle.rows.specs.Tables.{listed}
use Rattle.marks.specs.Marks.{layered}
use Rattle.layers.specs.Layers.{marks_of}
use Rattle.layer_files.proofs.Steps.{pushed}
use Rattle.layer_files.proofs.read.append.Goals as goal

pub invariant_of-seen : goal.invariant_of-seen
invariant_of-seen c =
    let e = pushed (marks_of c.args.seen.now) (row_of c.args.row) c.requires.room c.requires.grows c.insert.result (listed c.insert.new.self) c.insert.ensures.answer c.insert.ensures.rows in
    record { grown = ap layered e ∙ c.requires.grows }

pub returns : goal.returns
returns c =
    pushed (marks_of c.args.seen.now) (row_of c.args.row) c.requires.room c.requires.grows c.insert.result (listed c.insert.new.self) c.insert.ensures.answer c.insert.ensures.rows
