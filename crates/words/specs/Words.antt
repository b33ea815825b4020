-- The path word of a line. Assumes nothing.
use Rattle.std.specs.Prelude.{ℕ, cond, ◌&&◌, List, [], ◌∷◌, length, drop, Some, None, Err, Option, Result, nat_lt}
use Rattle.paths.specs.Names.{judge, same, begins}
use Rattle.words.specs.declared.fault.Cause.{Cause}
use Rattle.words.specs.declared.fault.Cause.TheVariants.{Word, Path}
use Rattle.paths.specs.Steps.{and_then_some, map_err}
use Rattle.words.specs.Escapes.{unescaped}

-- `.` is the root; else `./` stands before the path, which is not empty
abbrev pub undotted : List ℕ → Option (List ℕ)
undotted s = cond (same (46 ∷ []) s) (Some []) (cond (begins (46 ∷ 47 ∷ []) s && nat_lt 2 (length s)) (Some (drop 2 s)) None)

abbrev pub judged_word : Option (List ℕ) → Result (List (List ℕ)) Cause
judged_word None = Err Word
judged_word (Some s) = map_err Path (judge s)

-- the path that a word names: the word is judged whole before its path is
abbrev pub path_of : List ℕ → Result (List (List ℕ)) Cause
path_of w = judged_word (and_then_some (unescaped w) undotted)
