-- The first row behind the name decides, and it is the least child if it is one.
use Rattle.std.proofs.Common.{None, refl, ap, ◌∙◌}
use Rattle.std.specs.Option.{option_map}
use Rattle.paths.specs.Paths.{names}
use Rattle.rows.specs.Positions.{place_of}
use Rattle.rows.proofs.Children.{least-child, child_read, child_found}
use Rattle.rows.proofs.sorted.Sorted.child_after.Goals as goal

pub returns-in_err-row-clause-exact : goal.returns-in_err-row-clause-exact
returns-in_err-row-clause-exact g c =
    ap (option_map names) c.from_residual.ensures ∙ child_read c.args.self.now.rows.now (names c.args.path.now) c.args.after.now (place_of c.child_after.result) c.child_after.ensures None c.in_err-row.ensures

pub returns-in_err-row-clause-least : goal.returns-in_err-row-clause-least
returns-in_err-row-clause-least g c = λ h. returns-in_err-row-clause-exact g c ∙ least-child c.args.self.now.rows.now c.args.self.now.rises h (names c.args.path.now) c.args.after.now

pub returns-clause-exact : goal.returns-clause-exact
returns-clause-exact g c =
    ap (option_map names) c.then_some.ensures
    ∙ child_found c.args.self.now.rows.now (names c.args.path.now) c.args.after.now (place_of c.child_after.result) c.child_after.ensures c.in_ok-row.row.now c.in_ok-row.ensures c.parent.result c.parent.ensures c.args.path.now refl c.eq.result c.eq.ensures

pub returns-clause-least : goal.returns-clause-least
returns-clause-least g c = λ h. returns-clause-exact g c ∙ least-child c.args.self.now.rows.now c.args.self.now.rises h (names c.args.path.now) c.args.after.now
