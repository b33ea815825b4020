use Rattle.std.proofs.Common.{◌∙◌, ◌∷◌, refl, length, ap, arith}
use Rattle.layers.specs.Layers.{marks_of}
use Rattle.rows.specs.Rows.{row_of}
use Rattle.trees.proofs.Written.{unwritten, room_for}
use Rattle.layer_fields.specs.Fields.{field_bytes}
use Rattle.layer_fields.specs.Said.{version_field}
use Rattle.layer_files.specs.Files.{row_bytes, encoded}
use Rattle.layer_files.proofs.Left.{left, all_left, left_more, put_more}
use Rattle.layer_files.proofs.write.fill.Goals as goal

pub loop-row-init : goal.loop-row-init
loop-row-init c =
    let rows = c.as_rows-rows.result.now in
    let all = all_left rows ∙ ap encoded c.as_rows-rows.ensures.listed in
    let none = unwritten (encoded (marks_of c.args.layer.now)) c.args.buffer.now (field_bytes version_field ∷ left rows (length rows)) all in
    put_more _ _ _ _ _ none _ _ refl c.deref.result.now c.put-end.new.buffer c.put-end.result (c.deref.ensures.0 ∙ c.version_bytes.ensures) (omega arith) c.put-end.ensures.end c.put-end.ensures.after

pub loop-row-preserved : goal.loop-row-preserved
loop-row-preserved c =
    let w = c.loop-row.invariant in
    let rows = c.as_rows-rows.result.now in
    let parts = left_more rows (length rows) c.loop-row.row-index c.row-item.result c.loop-row-test.true in
    let piece = c.deref-in-loop-row.ensures.0 ∙ c.row_bytes.ensures ∙ ap (λ r. row_bytes (row_of r)) c.row-item.is in
    let room = room_for _ _ _ _ _ w _ _ parts in
    let put = c.put-end-in-loop-row in
    put_more _ _ _ _ _ w _ _ parts c.deref-in-loop-row.result.now put.new.buffer put.result piece (omega (arith, room, c.requires, c.loop-row.auto.buffer)) put.ensures.end put.ensures.after
