use Rattle.std.proofs.Common.{◌∙◌, length, ap, arith}
use Rattle.layer_files.specs.Files.{encoded}
use Rattle.layer_files.proofs.Left.{all_left}
use Rattle.layer_files.proofs.write.measure.Goals as goal

pub loop-row-init : goal.loop-row-init
loop-row-init c =
    let rows = c.as_rows-rows.result.now in
    let all = ap length (all_left rows ∙ ap encoded c.as_rows-rows.ensures.listed) in
    let first = c.len-len.ensures.value ∙ ap length c.version_bytes.ensures in
    record { told = omega (arith, all, first); fits = c.len-len.ensures.fits }
