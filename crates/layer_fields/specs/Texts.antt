-- The texts of path fields: whiteouts and opaque markers have names that no path has. Assumes nothing.
use Rattle.std.specs.Prelude.{ℕ, ◌-◌, Bool, cond, List, [], ◌∷◌, ◌++◌, length, take, drop, Ok, Err, Result}
use Rattle.paths.specs.declared.PathFault.{PathFault}
use Rattle.paths.specs.Names.{split, join, begins, same, last_name, judge}
use Rattle.paths.specs.Steps.{map_err}
use Rattle.rows.specs.Maps.{Names}
use Rattle.layer_fields.specs.declared.fault.Cause.{Cause}
use Rattle.layer_fields.specs.declared.fault.Cause.TheVariants.{Whiteout, Path}

-- `.wh.`
abbrev pub whiteout_prefix : List ℕ
whiteout_prefix = 46 ∷ 119 ∷ 104 ∷ 46 ∷ []

-- `.wh..wh..opq`
abbrev pub opaque_name : List ℕ
opaque_name = 46 ∷ 119 ∷ 104 ∷ 46 ∷ 46 ∷ 119 ∷ 104 ∷ 46 ∷ 46 ∷ 111 ∷ 112 ∷ 113 ∷ []

-- the last name of a text, and what stands before it
abbrev pub last_of : List ℕ → List ℕ
last_of s = last_name (split s)

abbrev pub before_last : List ℕ → List ℕ
before_last s = take (length s - length (last_of s)) s

-- ---- what is written

-- a whiteout's path, with `.wh.` before its last name
abbrev pub whiteout_text : Names → List ℕ
whiteout_text p = before_last (join p) ++ (whiteout_prefix ++ last_of (join p))

-- the marker of an opaque directory: that name in it, and in the root the bare name
abbrev pub marker_text : Names → List ℕ
marker_text p = join (p ++ opaque_name ∷ [])

-- ---- what is read

abbrev pub is_marker : List ℕ → Bool
is_marker s = same opaque_name (last_of s)

abbrev pub has_whiteout_prefix : List ℕ → Bool
has_whiteout_prefix s = begins whiteout_prefix (last_of s)

-- a text without the `.wh.` before its last name
abbrev pub without_prefix : List ℕ → List ℕ
without_prefix s = before_last s ++ drop 4 (last_of s)

-- what is whited out is a good path, and not the root
abbrev pub whiteout_path : Result Names PathFault → Result Names Cause
whiteout_path (Ok []) = Err Whiteout
whiteout_path (Ok (n ∷ p)) = Ok (n ∷ p)
whiteout_path (Err f) = Err Whiteout

-- the path of a row, by the text of its path field
abbrev pub row_path : List ℕ → Result Names Cause
row_path s = cond (has_whiteout_prefix s) (whiteout_path (judge (without_prefix s))) (map_err Path (judge s))
