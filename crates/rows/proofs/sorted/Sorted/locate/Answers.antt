-- The first row that does not come before the path decides.
use Rattle.std.proofs.Common.{◌≡◌, ◌<◌, length, Some, None, slice_get, ap, ◌∙◌, arith, rules}
use Rattle.std.proofs.lemmas.Grind.{common_steps}
use Rattle.std.proofs.lemmas.Option.{gets}
use Rattle.paths.specs.Paths.{names}
use Rattle.rows.specs.Positions.{place_of}
use Rattle.rows.proofs.Leads.{at_read, locate_read}
use Rattle.rows.proofs.sorted.Sorted.locate.Goals as goal

pub returns-in_err-row : goal.returns-in_err-row
returns-in_err-row g c =
    let s = c.args.self.now in
    let read : None ≡ slice_get s.rows.now c.count_before-i.result = grind (arith, common_steps, gets) in
    rw c.from_residual.ensures (at_read s.rows.now s.rises (place_of c.at.result) (names c.args.path.now) c.at.ensures None (read ∙ ap (slice_get s.rows.now) c.count_before-i.ensures.value))

pub returns : goal.returns
returns g c =
    let s = c.args.self.now in
    let i = c.count_before-i.result in
    let here : i < length s.rows.now = search rules in
    let read : Some c.in_ok-row.row.now ≡ slice_get s.rows.now i = grind (arith, common_steps, gets) in
    rw c.then_some.ensures (locate_read s.rows.now s.rises (place_of c.at.result) (names c.args.path.now) c.at.ensures i c.count_before-i.ensures.value c.in_ok-row.row.now here read c.eq.result c.eq.ensures.value)
