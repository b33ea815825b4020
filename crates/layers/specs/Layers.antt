-- What a layer stands for. Assumes nothing.
use Rattle.std.specs.Prelude.{List}
use Rattle.rows.specs.Tables.{listed}
use Rattle.marks.specs.Marks.{MarkRow}
use Rattle.layers.specs.declared.layer.Layer.{Layer}

abbrev pub marks_of : Layer → List MarkRow
marks_of l = listed l.rows
