use Rattle.std.proofs.Common.{Some, sym, refl, ap, ◌∙◌}
use Rattle.std.proofs.lemmas.Bool.{true≢false}
use Rattle.std.proofs.lemmas.Result.{err_from_is_err_and}
use Rattle.paths.specs.Paths.{names}
use Rattle.edits.specs.Edits.{refused_at}
use Rattle.edits.proofs.Outcomes.{answered-none, answered-some, bad_refusal, good-refusal}
use Rattle.marks.specs.Marks.{merged}
use Rattle.marks.specs.Edits.{lacks}
use Rattle.sessions.specs.Sessions.{room_of, marks_in, rows_below}
use Rattle.sessions.proofs.Edits.{refused_edit, granted_edit}
use Rattle.sessions.proofs.session.Session.edit_marks.Goals as goal

pub returns-in_err-path : goal.returns-in_err-path
returns-in_err-path g c =
    let m = marks_in c.args.self.now in
    let e = rows_below g.T.Tree.entries c.args.self.now in
    let f = err_from_is_err_and c.from_residual.result c.from_residual.ensures.1 in
    let d = refused_edit m e c.args.path.now c.args.action c.from_residual.result f.0 f.1 (bad_refusal (merged m e) (room_of m) (lacks m) c.args.path.now c.args.action c.in_err-path.field-0.0 c.in_err-path.ensures ∙ ap Some (sym f.2)) in
    record { answer = d.0; marks = d.1; lower = refl; refused = λ _. refl }

pub returns-in_err-check : goal.returns-in_err-check
returns-in_err-check g c =
    let m = marks_in c.args.self.now in
    let e = rows_below g.T.Tree.entries c.args.self.now in
    let p = names c.in_ok-path.path in
    let f = err_from_is_err_and c.from_residual-in_err-check.result c.from_residual-in_err-check.ensures.1 in
    let k = good-refusal (merged m e) (room_of m) (lacks m) c.args.path.now c.args.action p c.in_ok-path.ensures.0 ∙ answered-some (refused_at (merged m e) (room_of m) (lacks m p) p c.args.action) c.in_err-check.field-0.0 c.in_err-check.ensures ∙ ap Some (sym f.2) in
    let d = refused_edit m e c.args.path.now c.args.action c.from_residual-in_err-check.result f.0 f.1 k in
    record { answer = d.0; marks = d.1; lower = refl; refused = λ _. refl }

pub apply-requires : goal.apply-requires
apply-requires g c =
    let m = marks_in c.args.self.now in
    let e = rows_below g.T.Tree.entries c.args.self.now in
    let p = names c.in_ok-path.path in
    answered-none (refused_at (merged m e) (room_of m) (lacks m p) p c.args.action) c.in_ok-check.field-0 c.in_ok-check.ensures

pub returns : goal.returns
returns g c =
    let m = marks_in c.args.self.now in
    let e = rows_below g.T.Tree.entries c.args.self.now in
    let p = names c.in_ok-path.path in
    let h = answered-none (refused_at (merged m e) (room_of m) (lacks m p) p c.args.action) c.in_ok-check.field-0 c.in_ok-check.ensures in
    let d = granted_edit m e c.args.path.now c.args.action p (marks_in c.apply.new.self) c.in_ok-path.ensures.0 h c.apply.ensures.marks in
    record { answer = d.0; marks = d.1; lower = c.apply.ensures.lower; refused = λ n. absurd (true≢false n) }
