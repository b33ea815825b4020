-- Each two neighbours decide.
use Rattle.std.proofs.Common.{rules}
use Rattle.std.proofs.lemmas.Fn.{always_returns_same}
use Rattle.paths.specs.Paths.{names}
use Rattle.rows.specs.Maps.{before}
use Rattle.rows.proofs.Leads.{rises-answer}
use Rattle.rows.proofs.order.rising.Goals as goal

pub returns : goal.returns
returns g c =
    rises-answer c.args.rows.now c.is_sorted_by.result (c.is_sorted_by.ensures.cases (λ a b. before (names a.path) (names b.path)) (always_returns_same _ _ _ (λ a r f' k. search rules)))
