-- `report_pile` meets its contract. Assumes nothing.
use Rattle.std.proofs.Common.{length, ap, ◌∙◌}
use Rattle.std.specs.Option.{option_map}
use Rattle.rows.specs.Sorts.{kept}
use Rattle.layers.specs.Layers.{marks_of}
use Rattle.reports.specs.Refusals.{refusal}
use Rattle.reports.proofs.Told.{listed-pile, refused-pile}
use Rattle.reports.proofs.report.report_pile.Goals as goal

pub returns-in-Ok : goal.returns-in-Ok
returns-in-Ok c =
    let many = c.as_mut_slice.ensures.len ∙ c.in_ok-rows.ensures.len in
    listed-pile c.args.base.now (option_map (λ t. t.now) c.args.top) (length c.as_mut_slice.result.now) (kept c.in-Ok.pile.session.lower.rows) (marks_of c.in-Ok.pile.session.layer) c.report_tree.result many c.in-Ok.ensures.0 c.in-Ok.ensures.1 c.report_tree.ensures

pub returns : goal.returns
returns c =
    let many = c.as_mut_slice.ensures.len ∙ c.in_ok-rows.ensures.len in
    refused-pile c.args.base.now (option_map (λ t. t.now) c.args.top) (length c.as_mut_slice.result.now) c.in-Err.reason c.in_ok-refusal-in-Err.field-0 many c.in-Err.ensures (c.in_ok-refusal-in-Err.ensures ∙ ap (λ s. refusal s c.in-Err.reason) c.subject.ensures)
