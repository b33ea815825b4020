use Rattle.paths.specs.Paths.{names}
use Rattle.rows.proofs.Least.{ahead}
use Rattle.sessions.specs.Sessions.{marks_in}
use Rattle.sessions.proofs.session.Session.+seen_child.Given as goal

abbrev pub decreases-seen_child : goal.decreases-seen_child
decreases-seen_child g l = ahead (marks_in l.self.now) (names l.path.now) l.after.now
