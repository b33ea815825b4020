use Rattle.std.proofs.Common.{◌≡◌, [], map}
use Rattle.std.specs.Vec.Iter.{into_iter_items}
use Rattle.layers.specs.Layers.{marks_of}
use Rattle.archive.specs.Groups.{from_lowest}
use Rattle.archive.proofs.regroup.from_lowest.Given as goal

abbrev pub invariant-loop-layer : goal.invariant-loop-layer
invariant-loop-layer l = from_lowest (marks_of l.all) (map marks_of (into_iter_items l.layer-iterator)) ≡ from_lowest [] (map marks_of l.fn.layers.items)
