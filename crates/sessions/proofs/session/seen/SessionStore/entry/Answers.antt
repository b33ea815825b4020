use Rattle.std.proofs.Common.{◌≡◌, Bool, true, false, List, Some, None, Option, sym, refl, ap, ◌∙◌}
use Rattle.paths.specs.Paths.{names}
use Rattle.rows.specs.Maps.{Names, at}
use Rattle.trees.specs.Entries.{Row}
use Rattle.marks.specs.declared.mark.Mark.{Mark}
use Rattle.marks.specs.Marks.{MarkRow, cut, unless, see, merged}
use Rattle.marks.proofs.Merges.{at-merged}
use Rattle.sessions.specs.Sessions.{marks_in, rows_below}
use Rattle.sessions.proofs.session.seen.SessionStore.entry.Goals as goal

seen_at : (m : List MarkRow) (e : List Row) (p : Names) (o : Option Mark) (b : Bool) → o ≡ at m p → b ≡ cut (at m) p → see o (unless b (at e p)) ≡ at (merged m e) p
seen_at m e p o b f h = ap (λ z. see z (unless b (at e p))) f ∙ ap (λ z. see (at m p) (unless z (at e p))) h ∙ sym (at-merged m e p)

pub returns-in-Some : goal.returns-in-Some
returns-in-Some g c =
    let s = c.args.self.now in
    let m = marks_in s in
    let p = names c.args.path.now in
    c.entry.ensures ∙ seen_at m (rows_below g.T.Tree.entries s) p (Some c.in-Some.mark) (cut (at m) p) c.in-Some.ensures refl

pub returns-in-None : goal.returns-in-None
returns-in-None g c =
    let s = c.args.self.now in
    seen_at (marks_in s) (rows_below g.T.Tree.entries s) (names c.args.path.now) None true c.in-None.ensures (sym c.if-cuts.true ∙ c.cuts.ensures)

pub returns-in-None-2 : goal.returns-in-None-2
returns-in-None-2 g c =
    let s = c.args.self.now in
    c.entry_at.ensures ∙ seen_at (marks_in s) (rows_below g.T.Tree.entries s) (names c.args.path.now) None false c.in-None-2.ensures (sym c.if-cuts.false ∙ c.cuts.ensures)
