use Rattle.std.proofs.Common.{◌≡◌, ◌∙◌, ◌+◌, map, drop, get_or, Ok, Err, MatchResult, sym, ap, subst}
use Rattle.std.proofs.Math.ListN.{drop_of_length-le}
use Rattle.std.proofs.lemmas.Result.{err_from_is_err_and}
use Rattle.std.proofs.lemmas.List.{drop_more}
use Rattle.layers.specs.Layers.{marks_of}
use Rattle.archive.specs.Groups.{grouped}
use Rattle.archive.proofs.Groups.{grouped_none, grouped_squashed, grouped_refused, Grouped, same_marks, same_file, same_laid}
use Rattle.archive.proofs.regroup.regroup.Goals as goal

pub returns-in_err-squash_at-clause-exact : goal.returns-in_err-squash_at-clause-exact
returns-in_err-squash_at-clause-exact c =
    let l = c.loop-at in
    let ks = c.args.order.now in
    let e = err_from_is_err_and c.from_residual.result c.from_residual.ensures.1 in
    rw e.1 (
    sym l.invariant
    ∙ ap (λ z. grouped z (map marks_of l.layers.items)) (drop_more ks l.at-index 0 c.loop-at-test.true)
    ∙ grouped_refused (get_or ks l.at-index 0) (drop (l.at-index + 1) ks) (map marks_of l.layers.items) c.in_err-squash_at.field-0.0 c.in_err-squash_at.ensures
    ∙ ap Err (sym e.2))

pub loop-at-preserved : goal.loop-at-preserved
loop-at-preserved c =
    let l = c.loop-at in
    let ks = c.args.order.now in
    sym (grouped_squashed (get_or ks l.at-index 0) (drop (l.at-index + 1) ks) (map marks_of l.layers.items) (map marks_of c.squash_at.new.layers.items) c.in_ok-squash_at.ensures)
    ∙ ap (λ z. grouped z (map marks_of l.layers.items)) (sym (drop_more ks l.at-index 0 c.loop-at-test.true))
    ∙ l.invariant

whole : (c : goal.After-from_lowest) → Grouped c.args.order.now c.args.layers.items c.from_lowest.result
whole c =
    let l = c.loop-at in
    let none = drop_of_length-le c.args.order.now c.loop-at-test.false in
    let all = sym (grouped_none (map marks_of l.layers.items)) ∙ ap (λ z. grouped z (map marks_of l.layers.items)) (sym none) ∙ l.invariant in
    subst (λ z. MatchResult c.from_lowest.result (λ l. z ≡ Ok (marks_of l)) (λ f. z ≡ Err f)) all c.from_lowest.ensures

pub returns-clause-exact : goal.returns-clause-exact
returns-clause-exact c = whole c

pub returns-clause-same : goal.returns-clause-same
returns-clause-same c = same_marks c.args.order.now c.args.layers.items c.from_lowest.result (whole c)

pub returns-clause-laid : goal.returns-clause-laid
returns-clause-laid c = same_laid c.args.order.now c.args.layers.items c.from_lowest.result (whole c)

pub returns-clause-same_file : goal.returns-clause-same_file
returns-clause-same_file c = same_file c.args.order.now c.args.layers.items c.from_lowest.result (whole c)
