use Rattle.std.proofs.Common.{rules, ◌≡◌, ltb, Ok, Err, refl, ◌∙◌}
use Rattle.paths.specs.Paths.{names}
use Rattle.trees.specs.declared.fault.Fault.TheVariants.{NoRoom}
use Rattle.edits.specs.Edits.{refuse_if, value_fault, root_fault, place_fault, answered}
use Rattle.edits.proofs.Checked.{next_answers, first_answers}
use Rattle.edits.proofs.checks.check.Goals as goal

pub returns-in_err-check : goal.returns-in_err-check
returns-in_err-check g c =
    let p = names c.args.path.now in
    let a = c.args.action in
    let room = refuse_if (ltb c.args.room c.args.need) (NoRoom c.args.need) in
    let values : Ok tt ≡ answered (value_fault a) = search rules in
    let root : Ok tt ≡ answered (root_fault p a) = search rules in
    let refused : c.from_residual-in_err-check.result ≡ Err c.in_err-check.field-0.0 = search rules in
    next_answers (value_fault a) _ _ _ _ refl values (next_answers (root_fault p a) _ _ _ _ refl root (refused ∙ first_answers (place_fault (g.S.Store.stored c.args.store.now).rows p a) room _ _ refl c.in_err-check.ensures))

pub returns : goal.returns
returns g c =
    let p = names c.args.path.now in
    let a = c.args.action in
    let room = refuse_if (ltb c.args.room c.args.need) (NoRoom c.args.need) in
    let values : Ok tt ≡ answered (value_fault a) = search rules in
    let root : Ok tt ≡ answered (root_fault p a) = search rules in
    let place : Ok tt ≡ answered (place_fault (g.S.Store.stored c.args.store.now).rows p a) = search rules in
    next_answers (value_fault a) _ _ _ _ refl values (next_answers (root_fault p a) _ _ _ _ refl root (next_answers (place_fault (g.S.Store.stored c.args.store.now).rows p a) room _ _ _ refl place (search rules)))
