-- The numbers of a fault of a tree or a buffer, and how it is printed. Assumes nothing.
use Rattle.std.specs.Prelude.{ℕ, List, ◌∷◌, ◌++◌, decimal}
use Rattle.paths.specs.Faults.{fields as path_fields}
use Rattle.trees.specs.declared.fault.Fault.{Fault}
use Rattle.trees.specs.declared.fault.Fault.TheVariants.{Path, Missing, NotDirectory, IsDirectory, Exists, NotEmpty, Root, OutOfRange, NoRoom, ShortBuffer}

-- `t`, the cause and the place
abbrev pub numbered : ℕ → ℕ → List ℕ
numbered cause place = 116 ∷ 32 ∷ (decimal cause ++ 32 ∷ decimal place)

-- a path's fault is printed as that
abbrev pub fields : Fault → List ℕ
fields (Path f) = path_fields f
fields (Missing k) = numbered 10 k
fields (NotDirectory k) = numbered 11 k
fields (IsDirectory k) = numbered 12 k
fields (Exists k) = numbered 13 k
fields (NotEmpty k) = numbered 15 k
fields Root = numbered 16 0
fields OutOfRange = numbered 17 0
fields (NoRoom k) = numbered 20 k
fields ShortBuffer = numbered 21 0
