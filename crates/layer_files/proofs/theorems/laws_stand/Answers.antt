use Rattle.std.proofs.Common.{[], arith}
use Rattle.layer_files.proofs.Layered.{is_layer}
use Rattle.layer_files.proofs.Back.{writes_back}
use Rattle.layer_files.proofs.ForthRows.{reads-back}
use Rattle.layer_files.proofs.Enough.{enough}
use Rattle.layer_files.proofs.Fits.{fits}
use Rattle.layer_files.proofs.theorems.laws_stand.Goals as goal

pub returns : goal.returns
returns c = record { is_layer = is_layer; writes_back = writes_back; reads_back = reads-back; steps_enough = λ bs steps h. enough bs steps 193 [] 4 (omega arith) (omega (arith, h)) (omega arith); fits = fits }
