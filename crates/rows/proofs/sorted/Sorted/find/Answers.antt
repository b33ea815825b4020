-- The first row that does not come before the path decides.
use Rattle.std.proofs.Common.{None, sym, refl, ap, ◌∙◌}
use Rattle.std.specs.Option.{option_copied}
use Rattle.paths.specs.Paths.{names}
use Rattle.rows.specs.Positions.{place_of}
use Rattle.rows.proofs.Leads.{at_read, find_read}
use Rattle.rows.proofs.sorted.Sorted.find.Goals as goal

pub returns-in_err-row : goal.returns-in_err-row
returns-in_err-row g c =
    let s = c.args.self.now in
    ap option_copied c.from_residual.ensures ∙ sym (at_read s.rows.now s.rises (place_of c.at.result) (names c.args.path.now) c.at.ensures None c.in_err-row.ensures)

pub returns : goal.returns
returns g c =
    let s = c.args.self.now in
    ap option_copied c.then_some.ensures ∙ find_read s.rows.now s.rises (place_of c.at.result) (names c.args.path.now) c.at.ensures c.in_ok-row.row _ refl c.in_ok-row.ensures c.eq.result c.eq.ensures.value
