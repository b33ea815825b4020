-- `read_layers` meets its contract. Assumes nothing.
use Rattle.std.proofs.Common.{◌≡◌, ◌∙◌, ◌+◌, [], ◌∷◌, ◌++◌, map, drop, vec_items, sym, ap, rules}
use Rattle.std.proofs.lemmas.List.{drop_more, drop_all, map_push}
use Rattle.std.proofs.lemmas.Result.{err_from_is_err_and}
use Rattle.layers.specs.Layers.{marks_of}
use Rattle.refits.specs.Judging.{layer_of, layers_from}
use Rattle.refits.proofs.Judged.{stops, layer_taken, layer_refused, layers_done}
use Rattle.refits.proofs.given.read_layers.Goals as goal

pub returns-in_err-layer : goal.returns-in_err-layer
returns-in_err-layer c =
    let p = err_from_is_err_and c.from_residual.result c.from_residual.ensures.1 in
    let l = c.loop-i in
    let files = c.args.files.now in
    let file = c.index-files-i.result in
    let ms = map marks_of l.layers.items in
    let left = map vec_items (drop (l.i + 1) files) in
    let next = drop_more files l.i file c.loop-i-test.true ∙ ap (λ f. f ∷ drop (l.i + 1) files) (sym c.index-files-i.is) in
    let one = l.invariant ∙ ap (λ fs. layers_from (l.i + 1) ms (map vec_items fs)) next in
    let of = ap (layer_of (l.i + 1)) c.as_slice.ensures.value in
    rw (p.1, p.2) (stops (layers_from 1 [] (map vec_items files)) (layer_of (l.i + 1) c.as_slice.result.now) c.in_err-layer.field-0.0 c.in_err-layer.ensures (λ line h. one ∙ layer_refused (l.i + 1) ms (vec_items file) left line (sym of ∙ h)))

pub loop-i-preserved : goal.loop-i-preserved
loop-i-preserved c =
    let l = c.loop-i in
    let files = c.args.files.now in
    let file = c.index-files-i.result in
    let layer = c.in_ok-layer.layer in
    let ms = map marks_of l.layers.items in
    let left = map vec_items (drop (l.i + 1) files) in
    let next = drop_more files l.i file c.loop-i-test.true ∙ ap (λ f. f ∷ drop (l.i + 1) files) (sym c.index-files-i.is) in
    let one = l.invariant ∙ ap (λ fs. layers_from (l.i + 1) ms (map vec_items fs)) next in
    let of = ap (layer_of (l.i + 1)) c.as_slice.ensures.value in
    let pushed : c.push.new.self.items ≡ l.layers.items ++ layer ∷ [] = search rules in
    one ∙ layer_taken (l.i + 1) ms (vec_items file) left (marks_of layer) (sym of ∙ c.in_ok-layer.ensures) ∙ ap (λ z. layers_from (l.i + 1 + 1) z left) (sym (ap (map marks_of) pushed ∙ map_push marks_of l.layers.items layer))

pub returns : goal.returns
returns c =
    let l = c.loop-i in
    l.invariant
    ∙ ap (λ fs. layers_from (l.i + 1) (map marks_of l.layers.items) (map vec_items fs)) (drop_all l.i c.args.files.now c.loop-i-test.false)
    ∙ layers_done (l.i + 1) (map marks_of l.layers.items)
