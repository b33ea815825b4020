use Rattle.std.proofs.Common.{rules}
use Rattle.std.proofs.lemmas.Fmt.{decimal_digit}
use Rattle.paths.proofs.fault.PathFaultDisplay.fmt.Goals as goal

pub returns-in-TooLong-clause-writes : goal.returns-in-TooLong-clause-writes
returns-in-TooLong-clause-writes g c = search (rules, decimal_digit)

pub returns-in-BadName-clause-writes : goal.returns-in-BadName-clause-writes
returns-in-BadName-clause-writes g c = search (rules, decimal_digit)

pub returns-in-TooDeep-clause-writes : goal.returns-in-TooDeep-clause-writes
returns-in-TooDeep-clause-writes g c = search (rules, decimal_digit)
