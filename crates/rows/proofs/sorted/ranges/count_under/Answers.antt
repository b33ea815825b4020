-- The rows in front of the first that is not under the path.
use Rattle.std.proofs.Common.{◌≡◌, true, false, sym, refl, ◌∙◌, rules, add-one}
use Rattle.std.proofs.lemmas.Iterator.{YieldsList-from_slice, IsFirst-from_position, index_from_first}
use borrow.Author.Tests.{tests}
use Rattle.paths.specs.Paths.{names}
use Rattle.rows.specs.Maps.{under}
use Rattle.rows.specs.Rows.{rows_of}
use Rattle.rows.specs.Positions.{led_under}
use Rattle.rows.proofs.Ranges.{led_stop, led_go}
use Rattle.rows.proofs.sorted.ranges.count_under.Goals as goal

pub returns-clause-value : goal.returns-clause-value
returns-clause-value g c =
    let p = names c.args.path.now in
    let rs = c.args.rows.now in
    c.unwrap_or.ensures ∙ sym (index_from_first (λ rs. led_under p (rows_of rs)) (λ r. under p (names r.path) ≡ false) (λ r. under p (names r.path) ≡ true) refl
    (λ r ds e. led_stop p r ds e)
    (λ r ds e. led_go p r ds e ∙ sym (add-one _))
    rs _ (IsFirst-from_position _ _ _ (λ r. under p (names r.path) ≡ false) (λ r. under p (names r.path) ≡ true) c.position.ensures.ran (YieldsList-from_slice rs cc) (λ x q k. search (rules, tests)) (λ x q k. search (rules, tests))))
