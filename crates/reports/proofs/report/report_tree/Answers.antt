-- `report_tree` meets its contract. Assumes nothing.
use Rattle.std.proofs.Common.{length, vec_items, ◌∙◌}
use Rattle.std.specs.Vec.{with_items}
use Rattle.std.proofs.lemmas.List.{with_items_is}
use Rattle.listing.specs.Lines.{listing}
use Rattle.reports.proofs.Told.{listed, unlisted}
use Rattle.reports.proofs.report.report_tree.Goals as goal

pub returns-in-Ok : goal.returns-in-Ok
returns-in-Ok g c =
    let buffer = c.in_ok-buffer.buffer in
    let new = c.list.new.buffer in
    let lent = c.as_mut_slice.ensures in
    let told = c.in-Ok.ensures in
    let many = lent.len ∙ c.in_ok-buffer.ensures.len in
    let is = with_items_is buffer new (c.list.auto.buffer ∙ lent.len) in
    listed (listing (g.T.Tree.entries c.args.tree.now).rows) c.as_mut_slice.result.now new (vec_items (with_items buffer new)) (vec_items c.truncate.new.self) 65536 c.in-Ok.len many told.answer told.after is c.truncate.ensures.items

pub returns-in_ok-refusal-in-Err : goal.returns-in_ok-refusal-in-Err
returns-in_ok-refusal-in-Err g c =
    let many = c.as_mut_slice.ensures.len ∙ c.in_ok-buffer.ensures.len in
    unlisted (g.T.Tree.entries c.args.tree.now).rows (length c.as_mut_slice.result.now) c.in-Err.fault c.in_ok-refusal-in-Err.field-0 many c.in-Err.ensures.answer c.in_ok-refusal-in-Err.ensures
