use Rattle.std.proofs.Common.{arith}
use Rattle.words.proofs.Machine.{machine_steps}
use Rattle.words.proofs.escape.unescape_all.Goals as goal
use Rattle.words.proofs.escape.unescape_all.Goals.{in-To, in-Out+in_ok-push-in-Out}

pub loop-byte-preserved : goal.loop-byte-preserved
loop-byte-preserved c =
    elim c.match-step.branch [
      | in-To v ↦ grind (arith, machine_steps)
      | in-Out+in_ok-push-in-Out v ↦ grind (arith, machine_steps)
    ]
