use Rattle.std.proofs.Common.{◌≡◌, length, drop}
use Rattle.paths.specs.Pieces.{pieces}
use Rattle.paths.specs.Names.{fault, fault_in}
use Rattle.paths.proofs.scan.check.Given as goal

abbrev pub invariant-loop-count : goal.invariant-loop-count
invariant-loop-count l = fault l.bytes ≡ fault_in (length l.yielded) (drop (length l.yielded) (pieces 47 l.bytes))
