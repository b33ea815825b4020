-- The row at the place decides.
use Rattle.std.proofs.Common.{◌≡◌, slice_get, arith, rules}
use Rattle.std.proofs.lemmas.Grind.{common_steps}
use Rattle.std.proofs.lemmas.Option.{gets}
use Rattle.std.specs.Option.{option_copied}
use Rattle.paths.specs.Paths.{names}
use Rattle.rows.proofs.Ranges.{leads_read}
use Rattle.rows.proofs.sorted.Sorted.leads.Goals as goal

pub returns : goal.returns
returns g c =
    let s = c.args.self.now in
    let read : option_copied c.get.result ≡ slice_get s.rows.now c.args.at = grind (arith, common_steps, gets) in
    leads_read (names c.args.path.now) s.rows.now c.args.at c.get.result read c.is_none_or.result (search rules)
