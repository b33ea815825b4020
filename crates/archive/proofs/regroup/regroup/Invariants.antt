use Rattle.std.proofs.Common.{◌≡◌, map, drop}
use Rattle.layers.specs.Layers.{marks_of}
use Rattle.archive.specs.Groups.{grouped}
use Rattle.archive.proofs.regroup.regroup.Given as goal

abbrev pub invariant-loop-at : goal.invariant-loop-at
invariant-loop-at l = grouped (drop l.at-index l.fn.order) (map marks_of l.layers.items) ≡ grouped l.fn.order (map marks_of l.fn.layers.items)
