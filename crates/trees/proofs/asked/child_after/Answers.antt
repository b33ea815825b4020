use Rattle.std.proofs.Common.{Some, sym, ap, ◌∙◌}
use Rattle.std.specs.Option.{option_map}
use Rattle.std.specs.Result.{result_ok}
use Rattle.paths.specs.Paths.{names}
use Rattle.trees.proofs.Answering.{none_told, name_told}
use Rattle.trees.proofs.asked.child_after.Goals as goal

pub returns-in_err-ok : goal.returns-in_err-ok
returns-in_err-ok g c =
    let e = sym (ap result_ok c.next.ensures.exact) ∙ sym c.ok.ensures.value ∙ c.in_err-ok.was in
    ap (option_map names) c.from_residual.ensures ∙ sym (none_told (g.T.Tree.entries c.args.tree.now) c.args.path.now c.as_bytes.result.now c.args.after.now c.as_bytes.ensures e)

pub returns : goal.returns
returns g c =
    let e = sym (ap result_ok c.next.ensures.exact) ∙ sym c.ok.ensures.value ∙ c.in_ok-ok.was ∙ ap Some c.in_ok-n.was in
    ap (option_map names) c.ok-2.ensures.value
    ∙ name_told (g.T.Tree.entries c.args.tree.now) c.args.path.now c.as_bytes.result.now c.args.after.now c.as_bytes.ensures c.in_ok-n.n _ c.next.new.buffer c.child.result e c.next.ensures.written c.child.ensures
