use Rattle.std.proofs.Common.{◌≡◌, true, sym, ap, ◌∙◌, subst}
use Rattle.paths.specs.Paths.{names}
use Rattle.rows.specs.Maps.{child_path, rooted}
use Rattle.trees.proofs.Grown.{grown-rooted}
use Rattle.marks.specs.Marks.{marks_dir, ranged}
use Rattle.marks.proofs.Merges.{layer_parts}
use Rattle.marks.proofs.Grows.{marks_dir-there}
use Rattle.layers.specs.Layers.{marks_of}
use Rattle.layers.proofs.layer.Layer.child_after.Goals as goal

pub returns : goal.returns
returns c =
    let m = marks_of c.args.self.now in
    let s = c.sorted.ensures in
    let r = grown-rooted ranged marks_dir marks_dir-there m m (layer_parts m c.args.self.now.grown).1 in
    c.child_after.ensures.least (subst (λ z. rooted z z ≡ true) (sym s) r) ∙ ap (λ z. child_path z (names c.args.path.now) c.args.after.now) s
