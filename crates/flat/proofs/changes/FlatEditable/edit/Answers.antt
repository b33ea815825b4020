use Rattle.std.proofs.Common.{Err, sym, ap, ◌∙◌, subst}
use Rattle.std.proofs.lemmas.Result.{err_from_is_err_and}
use Rattle.rows.specs.Tables.{listed}
use Rattle.edits.proofs.Outcomes.{answered-none}
use Rattle.flat.proofs.Spending.{FlatOutcome, bad_path, turned_down, made}
use Rattle.flat.proofs.changes.FlatEditable.edit.Goals as goal

pub returns-in_err-path : goal.returns-in_err-path
returns-in_err-path c =
    let old = listed c.args.self.now.rows in
    let e = err_from_is_err_and c.from_residual.result c.from_residual.ensures.1 in
    subst (FlatOutcome old old c.args.path.now c.args.action) (sym (e.1 ∙ ap Err e.2)) (bad_path old c.args.path.now c.args.action c.in_err-path.field-0.0 c.in_err-path.ensures)

pub returns-in_err-check : goal.returns-in_err-check
returns-in_err-check c =
    let old = listed c.args.self.now.rows in
    let e = err_from_is_err_and c.from_residual-in_err-check.result c.from_residual-in_err-check.ensures.1 in
    let told = rw (c.room.ensures, c.need_at.ensures) at c.in_err-check.ensures in
    subst (FlatOutcome old old c.args.path.now c.args.action) (sym (e.1 ∙ ap Err e.2)) (turned_down old c.args.path.now c.args.action c.in_ok-path.path c.in_ok-path.ensures.0 c.in_err-check.field-0.0 told)

pub apply-requires : goal.apply-requires
apply-requires c =
    let told = rw (c.room.ensures, c.need_at.ensures) at c.in_ok-check.ensures in
    answered-none _ _ told

pub returns : goal.returns
returns c =
    let told = rw (c.room.ensures, c.need_at.ensures) at c.in_ok-check.ensures in
    made (listed c.args.self.now.rows) c.args.path.now c.args.action c.in_ok-path.path c.in_ok-path.ensures.0 c.args.self.now.built (answered-none _ _ told) (listed c.apply.new.self.rows) c.apply.ensures
