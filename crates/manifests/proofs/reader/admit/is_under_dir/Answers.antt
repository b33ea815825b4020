use Rattle.std.proofs.Common.{rules}
use Rattle.paths.specs.Paths.{names}
use Rattle.manifests.proofs.LastRow.{last_asked}
use Rattle.manifests.proofs.reader.admit.is_under_dir.Goals as goal

pub returns : goal.returns
returns c =
    last_asked c.args.seen.now c.last.result c.last.ensures.value c.requires.built (names c.args.path.now) (names c.in-Some.parent) c.args.entry c.is_some_and.result c.requires.after c.in-Some.ensures.0 c.in-Some.ensures.1 (search rules)
