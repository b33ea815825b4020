use Rattle.std.proofs.Common.{◌≡◌, ◌+◌, [], map, drop, vec_items}
use Rattle.layers.specs.Layers.{marks_of}
use Rattle.refits.specs.Judging.{layers_from}
use Rattle.refits.proofs.given.read_layers.Given as goal

abbrev pub invariant-loop-i : goal.invariant-loop-i
invariant-loop-i l = layers_from 1 [] (map vec_items l.files) ≡ layers_from (l.i + 1) (map marks_of l.layers.items) (map vec_items (drop l.i l.files))
