use Rattle.std.proofs.Common.{◌∙◌, ap, arith, rules}
use Rattle.std.proofs.lemmas.Result.{err_from_is_err_and}
use Rattle.rows.specs.Rows.{row_of, rows_of}
use Rattle.manifests.proofs.Readers.{bad_line, row_taken}
use Rattle.manifests.proofs.reader.Reader.read_line.Goals as goal

pub returns-in_err-row-clause-rows : goal.returns-in_err-row-clause-rows
returns-in_err-row-clause-rows c =
    let p = err_from_is_err_and c.from_residual-in_err-row.result c.from_residual-in_err-row.ensures.1 in
    rw (p.1, p.2) (bad_line c.args.self.now c.args.line.now c.in_ok-line.line.now (search rules) _ c.in_err-row.ensures)

pub push-requires : goal.push-requires
push-requires c =
    let t = row_taken c.args.self.now c.args.line.now c.in_ok-line.line.now (search rules) c.in_ok-row.row c.in_ok-row.ensures c.in_ok-admit.ensures in
    (omega arith, omega (arith, t.room, c.args.self.now.room))

pub invariant_of-self : goal.invariant_of-self
invariant_of-self c =
    let t = row_taken c.args.self.now c.args.line.now c.in_ok-line.line.now (search rules) c.in_ok-row.row c.in_ok-row.ensures c.in_ok-admit.ensures in
    record {
      room = c.args.self.now.room;
      fits = omega (arith, t.room, c.push.ensures.len);
      built = rw c.push.ensures.items t.built;
    }

pub returns-clause-rows : goal.returns-clause-rows
returns-clause-rows c =
    let t = row_taken c.args.self.now c.args.line.now c.in_ok-line.line.now (search rules) c.in_ok-row.row c.in_ok-row.ensures c.in_ok-admit.ensures in
    (row_of c.in_ok-row.row, t.line_says, ap rows_of c.push.ensures.items ∙ t.stored)
