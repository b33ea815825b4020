-- A layer has at most 192 rows. Assumes nothing.
use Rattle.std.proofs.Common.{◌≤◌, length, arith}
use Rattle.std.proofs.lemmas.List.{length-map}
use Rattle.rows.specs.Rows.{row_of}
use Rattle.layers.specs.declared.layer.Layer.{Layer}
use Rattle.layers.specs.Layers.{marks_of}

pub few-rows : (l : Layer) → length (marks_of l) ≤ 192
few-rows l =
    let t = l.rows in
    omega (arith, length-map t.rows.items row_of, t.fits)
