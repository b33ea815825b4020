-- The numbers of a path's fault, and how it is printed. Assumes nothing.
use Rattle.std.specs.Prelude.{ℕ, List, ◌∷◌, ◌++◌, decimal}
use Rattle.paths.specs.declared.PathFault.{PathFault}
use Rattle.paths.specs.declared.PathFault.TheVariants.{TooLong, BadName, TooDeep}

abbrev pub cause : PathFault → ℕ
cause TooLong = 1
cause (BadName k) = 2
cause TooDeep = 3

abbrev pub place : PathFault → ℕ
place TooLong = 0
place (BadName k) = k
place TooDeep = 8

-- `p`, the cause and the place
abbrev pub fields : PathFault → List ℕ
fields f = 112 ∷ 32 ∷ (decimal (cause f) ++ 32 ∷ decimal (place f))
