use Rattle.std.proofs.Common.{sym, ◌∙◌}
use Rattle.rows.specs.Tables.{listed}
use Rattle.sessions.proofs.Taken.{taken_from}
use Rattle.sessions.proofs.session.Session.take_out.Goals as goal

pub invariant_of-self : goal.invariant_of-self
invariant_of-self g c =
    let t = taken_from g.T.Tree.entries c.args.self.now c.args.path.now c.requires (listed c.remove_under.new.self) c.remove_under.ensures in
    record { grown = t.layer }

pub write-requires : goal.write-requires
write-requires g c =
    let t = taken_from g.T.Tree.entries c.args.self.now c.args.path.now c.requires (listed c.remove_under.new.self) c.remove_under.ensures in
    let h = sym c.if-shows.ensures in
    record { dirs = t.dirs; room = t.room h; grows = t.grows h }

pub returns-then-shows-clause-marks : goal.returns-then-shows-clause-marks
returns-then-shows-clause-marks g c =
    let t = taken_from g.T.Tree.entries c.args.self.now c.args.path.now c.requires (listed c.remove_under.new.self) c.remove_under.ensures in
    c.write.ensures.marks ∙ t.shown (sym c.if-shows.ensures)

pub returns-else-shows-clause-marks : goal.returns-else-shows-clause-marks
returns-else-shows-clause-marks g c =
    let t = taken_from g.T.Tree.entries c.args.self.now c.args.path.now c.requires (listed c.remove_under.new.self) c.remove_under.ensures in
    t.hidden (sym c.if-shows.ensures)
