-- What a reader of lines has, and what it does with a line. Assumes nothing.
use Rattle.std.specs.Prelude.{ℕ, ◌-◌, cond, List, [], ◌∷◌, length, take, drop, Ok, Err, Result}
use Rattle.std.specs.Str.{bytes_eq}
use Rattle.rows.specs.Rows.{rows_of}
use Rattle.trees.specs.Entries.{Row}
use Rattle.words.specs.declared.fault.Cause.{Cause}
use Rattle.words.specs.declared.fault.Cause.TheVariants.{Word}
use Rattle.paths.specs.Steps.{and_then}
use Rattle.manifests.specs.declared.reader.Reader.{Reader}
use Rattle.manifests.specs.Manifests.{row_of_line}

-- the rows of the lines so far
abbrev pub so_far : Reader → List Row
so_far r = rows_of r.rows.items

-- a line without the newline that it has to end with
abbrev pub ended : List ℕ → Result (List ℕ) Cause
ended l = cond (bytes_eq (drop (length l - 1) l) (10 ∷ [])) (Ok (take (length l - 1) l)) (Err Word)

-- the row of a line that is given with its newline
abbrev pub row_of_ended : ℕ → List Row → List ℕ → Result Row Cause
row_of_ended limit rows l = and_then (ended l) (λ line. row_of_line limit rows line)
