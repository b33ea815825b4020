use Rattle.scripts.proofs.AskedCalls.{askable}
use Rattle.scripts.proofs.CutLines.{lines_back}
use Rattle.scripts.proofs.ReadBack.{reads_back}
use Rattle.scripts.proofs.FirstStop.{unreadable}
use Rattle.scripts.proofs.theorems.laws_stand.Goals as goal

pub returns : goal.returns
returns c = record { reads_back = reads_back; askable = askable; unreadable = unreadable; lines_back = lines_back }
