use Rattle.std.proofs.Common.{◌∙◌, Err, map, sym, ap, arith}
use Rattle.std.proofs.lemmas.Result.{err_from_is_err_and}
use Rattle.std.proofs.lemmas.List.{nil_from_length}
use Rattle.std.specs.Vec.Iter.{into_iter_items}
use Rattle.layers.specs.Layers.{marks_of}
use Rattle.archive.specs.Groups.{from_lowest}
use Rattle.archive.proofs.Groups.{lowest_none, lowest_squashed, lowest_refused}
use Rattle.archive.proofs.regroup.from_lowest.Goals as goal

pub returns-in_err-all : goal.returns-in_err-all
returns-in_err-all c =
    let l = c.loop-layer in
    let e = err_from_is_err_and c.from_residual.result c.from_residual.ensures.1 in
    rw e.1 (
    sym l.invariant
    ∙ ap (λ z. from_lowest (marks_of l.all) (map marks_of z)) c.in-Some.ensures.steps.0
    ∙ lowest_refused (marks_of l.all) (marks_of c.in-Some.layer) (map marks_of (into_iter_items c.next.new.self)) c.in_err-all.field-0.0 c.in_err-all.ensures
    ∙ ap Err (sym e.2))

pub loop-layer-preserved : goal.loop-layer-preserved
loop-layer-preserved c =
    let l = c.loop-layer in
    sym (lowest_squashed (marks_of l.all) (marks_of c.in-Some.layer) (map marks_of (into_iter_items c.next.new.self)) (marks_of c.in_ok-all.all) c.in_ok-all.ensures)
    ∙ ap (λ z. from_lowest (marks_of l.all) (map marks_of z)) (sym c.in-Some.ensures.steps.0)
    ∙ l.invariant

pub returns : goal.returns
returns c =
    let l = c.loop-layer in
    let none = nil_from_length _ (omega (arith, l.layer-iterator.rest.ok.0, c.in-None.ensures.steps.0)) in
    sym l.invariant ∙ ap (λ z. from_lowest (marks_of l.all) (map marks_of z)) none ∙ lowest_none (marks_of l.all)
