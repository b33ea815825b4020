-- Layers squashed to one: the lowest comes first in a list of layers. Assumes nothing.
use Rattle.std.specs.Prelude.{ℕ, zero, suc, cond, List, [], ◌∷◌, length, Ok, Err, Result, nat_lt}
use Rattle.paths.specs.Steps.{and_then}
use Rattle.trees.specs.declared.fault.Fault.{Fault}
use Rattle.trees.specs.declared.fault.Fault.TheVariants.{NoRoom}
use Rattle.trees.specs.Entries.{Row}
use Rattle.marks.specs.Marks.{MarkRow, merged}
use Rattle.marks.specs.Squash.{squashed}

-- the squash of two layers, if one layer holds it
abbrev pub squash_of : List MarkRow → List MarkRow → Result (List MarkRow) Fault
squash_of u l = cond (nat_lt 192 (length (squashed u l))) (Err (NoRoom 0)) (Ok (squashed u l))

-- ---- in any order

-- the layer at a place and its upper neighbour squashed to one; where there is no upper neighbour nothing is
abbrev pub squash_at : ℕ → List (List MarkRow) → Result (List (List MarkRow)) Fault
squash_at k [] = Ok []
squash_at k (l ∷ []) = Ok (l ∷ [])
squash_at zero (l ∷ u ∷ ms) = and_then (squash_of u l) (λ m. Ok (m ∷ ms))
squash_at (suc k) (l ∷ u ∷ ms) = and_then (squash_at k (u ∷ ms)) (λ r. Ok (l ∷ r))

-- one layer of all, squashed from the lowest up
unfoldable pub from_lowest : List MarkRow → List (List MarkRow) → Result (List MarkRow) Fault
from_lowest l [] = Ok l
from_lowest l (u ∷ ms) = and_then (squash_of u l) (λ m. from_lowest m ms)

-- an order is a list of places, at which neighbours are squashed one after the other; what is left then goes from the lowest up
unfoldable pub grouped : List ℕ → List (List MarkRow) → Result (List MarkRow) Fault
grouped [] ms = from_lowest [] ms
grouped (k ∷ ks) ms = and_then (squash_at k ms) (λ r. grouped ks r)

-- the layers laid on a tree one by one, the lowest first
abbrev pub laid_all : List (List MarkRow) → List Row → List Row
laid_all [] e = e
laid_all (l ∷ ms) e = laid_all ms (merged l e)
