use Rattle.std.proofs.Common.{refl}
use Rattle.std.proofs.lemmas.Result.{err_from_is_err_and}
use Rattle.paths.specs.Paths.{names}
use Rattle.layer_files.proofs.Marked.{dir_fails, dir_stays, dir_turns, other_marked}
use Rattle.layer_files.proofs.read.reader.Reader.marked.Goals as goal

pub returns-in_default : goal.returns-in_default
returns-in_default c =
    let s = c.args.self.now in
    record { bytes = refl; row = other_marked (names c.args.row.path) c.args.row.value s.bytes.now s.at c.in_default.not-Dir }

pub returns-in_err-marker-clause-row : goal.returns-in_err-marker-clause-row
returns-in_err-marker-clause-row c =
    let s = c.args.self.now in
    let p = err_from_is_err_and c.from_residual.result c.from_residual.ensures.1 in
    rw (p.1, p.2) (dir_fails (names c.args.row.path) c.args.row.value c.in-Dir.dir s.bytes.now s.at c.in-Dir.is _ c.in_err-marker.ensures.marker)

pub returns-then-not-branch-clause-row : goal.returns-then-not-branch-clause-row
returns-then-not-branch-clause-row c =
    let s = c.args.self.now in
    dir_stays (names c.args.row.path) c.args.row.value c.in-Dir.dir s.bytes.now s.at c.in-Dir.is _ _ c.in_ok-marker.ensures.marker c.if-not-branch.true

pub returns-clause-row : goal.returns-clause-row
returns-clause-row c =
    let s = c.args.self.now in
    dir_turns (names c.args.row.path) c.args.row.value c.in-Dir.dir s.bytes.now s.at c.in-Dir.is _ _ c.in_ok-marker.ensures.marker c.if-not-branch.false
