-- What is left of a walk through a tree. Assumes nothing.
use Rattle.std.specs.Prelude.{ℕ, cond, List, [], ◌∷◌, Some, None, Option, map}
use Rattle.std.specs.Option.{option_map}
use Rattle.paths.specs.declared.Path.{Path}
use Rattle.paths.specs.Paths.{names}
use Rattle.rows.specs.Maps.{Names, is_at}
use Rattle.trees.specs.Entries.{Entries, Row}
use Rattle.listing.specs.Lines.{line}

-- the rows from p's on
abbrev pub from : Names → List Row → List Row
from p [] = []
from p (r ∷ rs) = cond (is_at p r) (r ∷ rs) (from p rs)

abbrev pub from_at : Option Names → List Row → List Row
from_at None rs = []
from_at (Some p) rs = from p rs

-- the lines of rows, one by one
abbrev pub texts : List Row → List (List ℕ)
texts rs = map (λ r. line r.0 r.1) rs

-- the lines from a path's on
abbrev pub left : Entries → Option Path → List (List ℕ)
left en o = texts (from_at (option_map names o) en.rows)
