use Rattle.std.proofs.Common.{rules, ◌≡◌, Err, ap, ◌∙◌}
use Rattle.paths.specs.Paths.{names}
use Rattle.edits.specs.Edits.{place_fault}
use Rattle.edits.proofs.Checked.{next_answers, first_answers}
use Rattle.edits.proofs.checks.Target.check.Goals as goal

pub returns-in_err-check_parent-in-Put : goal.returns-in_err-check_parent-in-Put
returns-in_err-check_parent-in-Put g c =
    let r : c.from_residual.result ≡ Err c.in_err-check_parent-in-Put.field-0.0 = search rules in
    r ∙ first_answers _ _ _ _ (ap (place_fault (g.S.Store.stored c.args.self.now.store.now).rows (names c.args.self.now.path.now)) c.in-Put.is) c.in_err-check_parent-in-Put.ensures

pub returns-then-is_some_and : goal.returns-then-is_some_and
returns-then-is_some_and g c =
    next_answers _ _ _ _ _ (ap (place_fault (g.S.Store.stored c.args.self.now.store.now).rows (names c.args.self.now.path.now)) c.in-Put.is) c.in_ok-check_parent-in-Put.ensures (search rules)

pub returns-in_err-check_parent-in-Mkdir : goal.returns-in_err-check_parent-in-Mkdir
returns-in_err-check_parent-in-Mkdir g c =
    let r : c.from_residual-in_err-check_parent-in-Mkdir.result ≡ Err c.in_err-check_parent-in-Mkdir.field-0.0 = search rules in
    r ∙ first_answers _ _ _ _ (ap (place_fault (g.S.Store.stored c.args.self.now.store.now).rows (names c.args.self.now.path.now)) c.in-Mkdir.is) c.in_err-check_parent-in-Mkdir.ensures

pub returns-then-is_some : goal.returns-then-is_some
returns-then-is_some g c =
    next_answers _ _ _ _ _ (ap (place_fault (g.S.Store.stored c.args.self.now.store.now).rows (names c.args.self.now.path.now)) c.in-Mkdir.is) c.in_ok-check_parent-in-Mkdir.ensures (search rules)

pub returns-else-is_some_and : goal.returns-else-is_some_and
returns-else-is_some_and g c =
    next_answers _ _ _ _ _ (ap (place_fault (g.S.Store.stored c.args.self.now.store.now).rows (names c.args.self.now.path.now)) c.in-Put.is) c.in_ok-check_parent-in-Put.ensures (search rules)

pub returns-else-is_some : goal.returns-else-is_some
returns-else-is_some g c =
    next_answers _ _ _ _ _ (ap (place_fault (g.S.Store.stored c.args.self.now.store.now).rows (names c.args.self.now.path.now)) c.in-Mkdir.is) c.in_ok-check_parent-in-Mkdir.ensures (search rules)
