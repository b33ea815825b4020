-- The last name of a path. Assumes nothing.
use Rattle.std.proofs.Common.{◌≡◌, ℕ, ◌+◌, ◌≤◌, false, [], ◌∷◌, length, is_some, arith}
use Rattle.paths.specs.declared.Path.{Path}
use Rattle.paths.specs.Names.{fault_in, last_name}
use Rattle.paths.specs.Paths.{text, names}
use Rattle.paths.proofs.Joins.{good_parts, fault_parts, name_parts}
use Rattle.rows.specs.Maps.{Names}

last_short : (k : ℕ) (ns : Names) → is_some (fault_in k ns) ≡ false → length (last_name ns) ≤ 40
last_short k [] h = omega arith
last_short k (n ∷ []) h = (name_parts n (fault_parts k n [] h).1).1
last_short k (n ∷ m ∷ ns) h = last_short (k + 1) (m ∷ ns) (fault_parts k n (m ∷ ns) h).2

-- the last name of a path fits 40 bytes
pub short_last : (p : Path) → length (last_name (names p)) ≤ 40
short_last p = last_short 0 (names p) (good_parts (text p) p.sound).1
