-- The rows begin as those of the upper layer, and each lower row gives them the mark of the squash.
use Rattle.std.proofs.Common.{ap, ◌∙◌, arith}
use Rattle.std.proofs.lemmas.Bool.{cond-true}
use Rattle.rows.specs.Rows.{row_of}
use Rattle.rows.specs.Tables.{listed}
use Rattle.marks.proofs.Merges.{layer_parts}
use Rattle.layers.specs.Layers.{marks_of}
use Rattle.layers.proofs.Few.{few-rows}
use Rattle.layers.proofs.Squashing.{next_row, copied, passed_by, taken_in, too_many}
use Rattle.layers.proofs.layer.Layer.squashed_rows.Goals as goal
use Rattle.layers.proofs.layer.Layer.squashed_rows.Goals.{in-Some+else-not-set, in_default}

pub loop-row-init : goal.loop-row-init
loop-row-init c =
    let u = c.args.self.now in
    record {
      lower = c.as_rows-row-items.ensures.listed;
      squash = copied (marks_of u) _ (listed c.new-rows.result) (listed c.insert.new.self) c.insert.result (layer_parts (marks_of u) u.grown).0 (few-rows u) c.as_rows.ensures.listed c.new-rows.ensures c.insert.ensures.answer c.insert.ensures.rows;
    }

pub returns-then-not-set : goal.returns-then-not-set
returns-then-not-set c =
    let l = c.args.lower.now in
    let i = c.loop-row.row-index in
    let r = c.row-item.result in
    let next = next_row c.as_rows-row-items.result.now i r (omega arith) c.row-item.is (marks_of l) c.loop-row.invariant.lower in
    too_many (marks_of c.args.self.now) (marks_of l) (layer_parts (marks_of l) l.grown).0 i (row_of r) next (listed c.loop-row.rows) c.loop-row.invariant.squash c.in-Some.mark c.in-Some.ensures c.set.result c.set.ensures.answer c.if-not-set.true

pub loop-row-preserved : goal.loop-row-preserved
loop-row-preserved c =
    let u = marks_of c.args.self.now in
    let l = c.args.lower.now in
    let i = c.loop-row.row-index in
    let r = c.row-item.result in
    let up = (layer_parts (marks_of l) l.grown).0 in
    let next = next_row c.as_rows-row-items.result.now i r (omega arith) c.row-item.is (marks_of l) c.loop-row.invariant.lower in
    let is = c.loop-row.invariant.squash in
    record {
      lower = c.loop-row.invariant.lower;
      squash = elim c.match-squashed_mark.branch [
        | in-Some+else-not-set w ↦ ap listed w.rows-is ∙ w.set.ensures.rows ∙ cond-true w.set.result _ _ w.if-not-set.false ∙ taken_in u (marks_of l) up i (row_of r) next (listed c.loop-row.rows) is w.in-Some.mark w.in-Some.ensures
        | in_default w ↦ ap listed w.rows-is ∙ passed_by u (marks_of l) up i (row_of r) next (listed c.loop-row.rows) is w.in_default.ensures
      ];
    }
