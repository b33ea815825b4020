use Rattle.std.proofs.Common.{arith}
use Rattle.paths.specs.Paths.{names, text}
use Rattle.paths.proofs.Joins.{good_parts, depth_few, prefixes_long}
use Rattle.paths.proofs.Path.prefixes.Goals as goal

pub returns-clause-bound : goal.returns-clause-bound
returns-clause-bound c =
    let p = c.args.self.now in
    omega (arith, prefixes_long (names p), depth_few 0 (names p) (good_parts (text p) p.sound).1 (omega arith))
