use Rattle.paths.specs.Paths.{names}
use Rattle.rows.specs.Tables.{listed}
use Rattle.sessions.specs.Sessions.{marks_in, rows_below}
use Rattle.sessions.proofs.Copied.{Filled}
use Rattle.sessions.proofs.session.Session.fresh_rows.Given as goal

abbrev pub invariant-loop-above : goal.invariant-loop-above
invariant-loop-above g l = Filled l.mark (marks_in l.self) (rows_below g.T.Tree.entries l.self) (names l.path) l.above-iterator (listed l.rows)
