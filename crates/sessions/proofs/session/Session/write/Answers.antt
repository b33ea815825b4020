use Rattle.std.proofs.Common.{ap, ◌∙◌}
use Rattle.paths.specs.Paths.{names}
use Rattle.rows.specs.Tables.{listed}
use Rattle.marks.specs.Marks.{layered}
use Rattle.sessions.specs.Sessions.{marks_in, rows_below}
use Rattle.sessions.proofs.Copied.{put_done}
use Rattle.sessions.proofs.session.Session.write.Goals as goal

pub invariant_of-self : goal.invariant_of-self
invariant_of-self g c =
    let s = c.args.self.now in
    let e = put_done c.args.mark (marks_in s) (rows_below g.T.Tree.entries s) (names c.args.path.now) s.layer.grown c.requires.dirs c.requires.room _ (listed c.put_rows.new.rows) (c.as_rows.ensures.listed ∙ c.fresh_rows-new.ensures) c.put_rows.ensures in
    record { grown = ap layered e ∙ c.requires.grows }

pub returns-clause-marks : goal.returns-clause-marks
returns-clause-marks g c =
    let s = c.args.self.now in
    put_done c.args.mark (marks_in s) (rows_below g.T.Tree.entries s) (names c.args.path.now) s.layer.grown c.requires.dirs c.requires.room _ (listed c.put_rows.new.rows) (c.as_rows.ensures.listed ∙ c.fresh_rows-new.ensures) c.put_rows.ensures
