-- The rows are compared with those that were read.
use Rattle.std.proofs.Common.{◌≡◌, Ok, length, sym, ap, ◌∙◌}
use Rattle.manifests.specs.Manifests.{indexed, rows_in}
use Rattle.manifests.specs.Readers.{so_far}
use Rattle.manifests.proofs.SameRows.{rows_eq}
use Rattle.manifests.proofs.index.is_index.Goals as goal

pub returns : goal.returns
returns c =
    let text = c.args.text.now in
    let rows = c.args.rows.now in
    let is : indexed (length rows) text ≡ Ok (so_far c.fill.new.self) = ap (λ k. rows_in k text) (sym c.new-read.ensures.limit) ∙ c.in_ok-fill.ensures.rows in
    let d = rows_eq c.rows.result.now rows c.eq.result c.eq.ensures in
    (so_far c.fill.new.self, is, (λ h. sym (d.0 h) ∙ c.rows.ensures.rows, λ s. d.1 (c.rows.ensures.rows ∙ sym s)))
