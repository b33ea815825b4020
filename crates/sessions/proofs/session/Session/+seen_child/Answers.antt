use Rattle.std.proofs.Common.{◌≡◌, ◌<◌, sym, ap, ◌∙◌, rules, arith}
use Rattle.paths.specs.Names.{last_name}
use Rattle.paths.specs.Paths.{names}
use Rattle.rows.specs.Maps.{child_path}
use Rattle.rows.proofs.Least.{ahead, fewer_ahead}
use Rattle.marks.specs.Marks.{merged}
use Rattle.sessions.specs.Sessions.{marks_in, rows_below}
use Rattle.sessions.proofs.Chosen.{low_is, leads_is, below_only, below_first, row_hidden, row_first}
use Rattle.sessions.proofs.session.Session.+seen_child.Goals as goal

pub returns-in_default : goal.returns-in_default
returns-in_default g t c =
    let s = c.args.self.now in
    let p = names c.args.path.now in
    let a = c.args.after.now in
    let low = low_is c.args.lower _ s.lower c.and_then-low.result (λ t. child_path (g.T.Tree.entries t).rows p a) c.requires c.and_then-low.ensures (λ x h. search rules) in
    below_only (marks_in s) (rows_below g.T.Tree.entries s) s.layer.grown (g.T.Tree.entries s.lower).ok p a c.and_then-low.result low (sym c.in_default.ensures)

pub returns-then-is_some_and : goal.returns-then-is_some_and
returns-then-is_some_and g t c =
    let s = c.args.self.now in
    let p = names c.args.path.now in
    let a = c.args.after.now in
    let r = names c.in-Some.row in
    let low = low_is c.args.lower _ s.lower c.and_then-low.result (λ t. child_path (g.T.Tree.entries t).rows p a) c.requires c.and_then-low.ensures (λ x h. search rules) in
    let first = leads_is c.and_then-low.result r c.is_some_and.result c.is_some_and.ensures (λ x h. search rules) in
    below_first (marks_in s) (rows_below g.T.Tree.entries s) s.layer.grown (g.T.Tree.entries s.lower).ok p a c.and_then-low.result low r (sym c.in-Some.ensures) _ first c.if-is_some_and.true

pub seen_child-requires : goal.seen_child-requires
seen_child-requires g t c κs within =
    let m = marks_in c.args.self.now in
    let p = names c.args.path.now in
    let f : ahead m p (last_name (names c.in-Some.row)) < ahead m p c.args.after.now = fewer_ahead m p c.args.after.now (names c.in-Some.row) (sym c.in-Some.ensures) in
    let e : ahead m p c.last_name.result.now ≡ ahead m p (last_name (names c.in-Some.row)) = ap (ahead m p) c.last_name.ensures in
    (omega (arith, e, f, c.decreases), (within, c.requires))

pub returns-then-eq : goal.returns-then-eq
returns-then-eq g t c =
    let s = c.args.self.now in
    let m = marks_in s in
    let e = rows_below g.T.Tree.entries s in
    let p = names c.args.path.now in
    let a = c.args.after.now in
    let r = names c.in-Some.row in
    let low = low_is c.args.lower _ s.lower c.and_then-low.result (λ t. child_path (g.T.Tree.entries t).rows p a) c.requires c.and_then-low.ensures (λ x h. search rules) in
    let first = leads_is c.and_then-low.result r c.is_some_and.result c.is_some_and.ensures (λ x h. search rules) in
    c.seen_child.ensures ∙ ap (child_path (merged m e) p) c.last_name.ensures
    ∙ row_hidden m e s.layer.grown (g.T.Tree.entries s.lower).ok p a c.and_then-low.result low r (sym c.in-Some.ensures) _ first c.if-is_some_and.false c.mark.result c.mark.ensures (search rules)

pub returns : goal.returns
returns g t c =
    let s = c.args.self.now in
    let p = names c.args.path.now in
    let a = c.args.after.now in
    let r = names c.in-Some.row in
    let low = low_is c.args.lower _ s.lower c.and_then-low.result (λ t. child_path (g.T.Tree.entries t).rows p a) c.requires c.and_then-low.ensures (λ x h. search rules) in
    let first = leads_is c.and_then-low.result r c.is_some_and.result c.is_some_and.ensures (λ x h. search rules) in
    row_first (marks_in s) (rows_below g.T.Tree.entries s) s.layer.grown (g.T.Tree.entries s.lower).ok p a c.and_then-low.result low r (sym c.in-Some.ensures) _ first c.if-is_some_and.false c.mark.result c.mark.ensures (search rules)
