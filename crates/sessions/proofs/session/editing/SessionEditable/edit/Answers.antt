use Rattle.std.proofs.Common.{ap}
use Rattle.layers.proofs.Few.{few-rows}
use Rattle.sessions.specs.Sessions.{marks_in, rows_below}
use Rattle.sessions.proofs.Edits.{edit_outcome}
use Rattle.sessions.proofs.session.editing.SessionEditable.edit.Goals as goal

pub returns-clause-outcome : goal.returns-clause-outcome
returns-clause-outcome g c =
    let s = c.args.self.now in
    edit_outcome (marks_in s) (rows_below g.T.Tree.entries s) s.layer.grown (g.T.Tree.entries s.lower).ok (few-rows s.layer) c.args.path.now c.args.action (marks_in c.edit_marks.new.self) (rows_below g.T.Tree.entries c.edit_marks.new.self) c.edit_marks.result
    (ap (λ z. (g.T.Tree.entries z).rows) c.edit_marks.ensures.lower) c.edit_marks.ensures.answer c.edit_marks.ensures.marks
