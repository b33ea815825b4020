use Rattle.std.proofs.Common.{◌+◌, ◌∙◌, Err, sym, ap, arith}
use Rattle.std.proofs.lemmas.Result.{err_from_is_err_and}
use Rattle.archive.proofs.Groups.{none_above, place_squashed, place_refused}
use Rattle.archive.proofs.regroup.squash_at.Goals as goal

pub returns-in_err-layers : goal.returns-in_err-layers
returns-in_err-layers c =
    let k = c.args.at in
    let ls = c.args.layers.now in
    let out = c.remove-upper in
    let e = err_from_is_err_and c.from_residual.result c.from_residual.ensures.1 in
    rw e.1 (
    place_refused k (k + 1) ls.items out.new.self.items out.result c.index.result.now (omega arith) (omega (arith, c.if-at-saturating_sub.true, c.saturating_sub.ensures, c.len.ensures, ls.ok.0)) out.ensures.value out.ensures.items c.index.ensures c.in_err-layers.field-0.0 c.in_err-layers.ensures
    ∙ ap Err (sym e.2))

pub returns-in_ok-layers : goal.returns-in_ok-layers
returns-in_ok-layers c =
    let k = c.args.at in
    let ls = c.args.layers.now in
    let out = c.remove-upper in
    place_squashed k (k + 1) ls.items out.new.self.items out.result c.index.result.now (omega arith) (omega (arith, c.if-at-saturating_sub.true, c.saturating_sub.ensures, c.len.ensures, ls.ok.0)) out.ensures.value out.ensures.items c.index.ensures c.in_ok-layers.field-0 c.in_ok-layers.ensures

pub returns-else-at-saturating_sub : goal.returns-else-at-saturating_sub
returns-else-at-saturating_sub c = none_above c.args.at c.args.layers.now.items (omega (arith, c.if-at-saturating_sub.false, c.saturating_sub.ensures, c.len.ensures, c.args.layers.now.ok.0))
