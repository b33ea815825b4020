-- They stand behind the rows that come before the path.
use Rattle.std.proofs.Common.{ap, ◌∙◌}
use Rattle.std.proofs.lemmas.List.{take_rest}
use Rattle.paths.specs.Paths.{names}
use Rattle.rows.specs.Rows.{rows_of}
use Rattle.rows.specs.Positions.{lead, led_under}
use Rattle.rows.proofs.Ranges.{apart}
use Rattle.rows.proofs.sorted.Sorted.under.Goals as goal

pub returns-clause-rows : goal.returns-clause-rows
returns-clause-rows g c =
    let rs = c.args.self.now.rows.now in
    apart (names c.args.path.now) rs c.args.self.now.rises c.count_before-start.result (c.count_before-start.ensures.value ∙ ap (λ q. lead q (rows_of rs)) c.at.ensures) c.count_under.result (c.count_under.ensures.value ∙ ap (λ ys. led_under (names c.args.path.now) (rows_of ys)) (take_rest rs c.count_before-start.result))
