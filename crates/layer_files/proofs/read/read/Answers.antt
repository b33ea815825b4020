use Rattle.std.proofs.Common.{refl, arith}
use Rattle.std.proofs.lemmas.Result.{err_from_is_err_and}
use Rattle.rows.specs.Rows.{row_of}
use Rattle.layers.specs.Layers.{marks_of}
use Rattle.layers.proofs.Few.{few-rows}
use Rattle.layer_files.proofs.Back.{writes_back, lent_bytes}
use Rattle.layer_files.proofs.Layered.{unit_more}
use Rattle.layer_files.proofs.Turns.{failed, finished, more}
use Rattle.layer_files.proofs.read.read.Goals as goal

pub returns-in_err-row-clause-exact : goal.returns-in_err-row-clause-exact
returns-in_err-row-clause-exact c =
    let p = err_from_is_err_and c.from_residual-in_err-row.result c.from_residual-in_err-row.ensures.1 in
    rw (p.1, p.2) (failed c.loop-row.invariant (few-rows c.loop-row.seen) _ c.in_err-row.ensures.row, refl)

pub append-requires-clause-room : goal.append-requires-clause-room
append-requires-clause-room c =
    let h = rw c.in-Some.is at c.in_ok-row.ensures.row in
    (unit_more (marks_of c.loop-row.seen) c.loop-row.reader.bytes.now c.loop-row.reader.at (row_of c.in-Some.row, c.row.new.self.at) c.loop-row.seen.grown h).1

pub append-requires-clause-grows : goal.append-requires-clause-grows
append-requires-clause-grows c =
    let h = rw c.in-Some.is at c.in_ok-row.ensures.row in
    (unit_more (marks_of c.loop-row.seen) c.loop-row.reader.bytes.now c.loop-row.reader.at (row_of c.in-Some.row, c.row.new.self.at) c.loop-row.seen.grown h).0

pub loop-row-preserved : goal.loop-row-preserved
loop-row-preserved c =
    let h = rw c.in-Some.is at c.in_ok-row.ensures.row in
    let room = (unit_more (marks_of c.loop-row.seen) c.loop-row.reader.bytes.now c.loop-row.reader.at (row_of c.in-Some.row, c.row.new.self.at) c.loop-row.seen.grown h).1 in
    more c.loop-row.invariant (few-rows c.loop-row.seen) (row_of c.in-Some.row) _ _ _ room h c.row.ensures.bytes c.append.ensures

pub returns-clause-exact : goal.returns-clause-exact
returns-clause-exact c = finished c.loop-row.invariant (few-rows c.loop-row.seen) (rw c.in_default.is at c.in_ok-row.ensures.row)

pub returns-clause-written_again : goal.returns-clause-written_again
returns-clause-written_again c =
    writes_back c.args.bytes.now (marks_of c.loop-row.seen) (lent_bytes c.args.bytes.now (λ i. let h = c.type_inv.bytes i in omega (arith, h))) (finished c.loop-row.invariant (few-rows c.loop-row.seen) (rw c.in_default.is at c.in_ok-row.ensures.row))
