-- The first new row has its place, and the last has a row behind it.
use Rattle.std.proofs.Common.{◌≡◌, ◌-◌, ◌&&◌, length, drop, Some, slice_get, sym, ap, ◌∙◌, rules}
use Rattle.paths.specs.Paths.{names}
use Rattle.rows.specs.Maps.{above, ascending}
use Rattle.rows.specs.Rows.{rows_of}
use Rattle.rows.specs.Positions.{lead}
use Rattle.rows.proofs.Ranges.{splice_answer}
use Rattle.rows.proofs.sorted.Sorted.splice_place.Goals as goal
use Rattle.rows.proofs.sorted.Sorted.splice_place.Goals.{then-rising, else-rising}

pub returns : goal.returns
returns g c =
    let rs = c.args.self.now.rows.now in
    let new = c.args.new.now in
    let at = c.count_before-at.result in
    let y = c.in-Some-Some.last.now in
    let head : Some c.in-Some-Some.first.now ≡ slice_get new 0 = search rules in
    let end : Some y ≡ slice_get new (length new - 1) = search rules in
    let place = c.count_before-at.ensures.value ∙ ap (λ p. lead p (rows_of rs)) c.at.ensures in
    let test : c.if-rising.then_some ≡ (ascending (rows_of new) && above (names y.path) (drop at (rows_of rs))) =
    elim c.if-rising.branch [ then-rising w ↦ w.then_some-is ∙ w.leads.ensures ∙ ap (λ t. t && above (names y.path) (drop at (rows_of rs))) (sym w.if-rising.true ∙ c.rising.ensures) | else-rising w ↦ w.then_some-is ∙ w.if-rising.false ∙ ap (λ t. t && above (names y.path) (drop at (rows_of rs))) (sym w.if-rising.false ∙ c.rising.ensures) ] in
    rw c.then_some.ensures (splice_answer rs new c.args.self.now.rises c.in-Some-Some.first.now y head end at place c.count_before-at.ensures.within c.if-rising.then_some test)
