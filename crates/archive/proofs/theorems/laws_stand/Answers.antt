use Rattle.archive.proofs.Runs.{answers-append, afterwards-append}
use Rattle.archive.proofs.Opens.{plain-opened}
use Rattle.archive.proofs.Tells.{plain_tells}
use Rattle.archive.proofs.theorems.laws_stand.Goals as goal

pub returns : goal.returns
returns c = record { two_parts = answers-append; two_afterwards = afterwards-append; opens = plain-opened; tells = plain_tells }
