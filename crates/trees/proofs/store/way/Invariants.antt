-- What is told so far, and what the prefixes that are left will tell.
use Rattle.paths.specs.Paths.{names}
use Rattle.trees.proofs.Prefixed.{Told}
use Rattle.trees.proofs.store.way.Given as goal

abbrev pub invariant-loop-up : goal.invariant-loop-up
invariant-loop-up g l = Told (g.S.Store.stored l.store).rows (names l.path) l.up-iterator l.place l.barred
