use Rattle.std.proofs.Common.{refl, sym, ap, ◌∙◌, subst}
use Rattle.paths.specs.Paths.{names}
use Rattle.marks.specs.Edits.{marked}
use Rattle.marks.specs.Laws.{Granted}
use Rattle.sessions.specs.Sessions.{room_of, marks_in, rows_below}
use Rattle.sessions.proofs.Applied.{to_write, to_remove}
use Rattle.sessions.proofs.session.Session.apply.Goals as goal

pub write-requires : goal.write-requires
write-requires g c =
    let w = to_write g.T.Tree.entries c.args.self.now c.args.path.now c.args.action c.requires _ _ _ c.in-Some.ensures c.mark.ensures c.entry.ensures c.in-Some.mark refl in
    record { dirs = w.dirs; room = w.room; grows = w.grows }

pub take_out-requires : goal.take_out-requires
take_out-requires g c =
    let s = c.args.self.now in
    let m = marks_in s in
    let e = rows_below g.T.Tree.entries s in
    let p = names c.args.path.now in
    let r = to_remove g.T.Tree.entries s c.args.path.now c.args.action c.requires _ _ _ c.in-None.ensures c.mark.ensures c.entry.ensures refl in
    subst (Granted m e (room_of m) p) r c.requires

pub returns-in-Some-clause-marks : goal.returns-in-Some-clause-marks
returns-in-Some-clause-marks g c =
    let w = to_write g.T.Tree.entries c.args.self.now c.args.path.now c.args.action c.requires _ _ _ c.in-Some.ensures c.mark.ensures c.entry.ensures c.in-Some.mark refl in
    c.write.ensures.marks ∙ w.is

pub returns-in-None-clause-marks : goal.returns-in-None-clause-marks
returns-in-None-clause-marks g c =
    let s = c.args.self.now in
    let m = marks_in s in
    let e = rows_below g.T.Tree.entries s in
    let p = names c.args.path.now in
    let r = to_remove g.T.Tree.entries s c.args.path.now c.args.action c.requires _ _ _ c.in-None.ensures c.mark.ensures c.entry.ensures refl in
    c.take_out.ensures.marks ∙ sym (ap (marked m e p) r)
