-- What a script asks for. Assumes nothing.
use Rattle.std.specs.Prelude.{ℕ, ◌+◌, ◌-◌, cond, List, [], ◌∷◌, ◌++◌, map, length, take, drop, Some, None, Ok, Option, Result, ◌==◌}
use Rattle.std.specs.Option.{option_map, ok_or}
use Rattle.std.specs.Str.{bytes_eq}
use Rattle.paths.specs.Pieces.{pieces}
use Rattle.paths.specs.Steps.{and_then, and_then_some}
use Rattle.archive.specs.Calls.{Request, request_of}
use Rattle.scripts.specs.declared.script.Script.{Script}
use Rattle.scripts.specs.Lines.{Line, call, file, line_of}

-- the calls before the line `file`, and those behind it, if there is such a line
pub record Requests : Type 0 where
  pub first : List Request
  pub later : Option (List Request)

abbrev pub nothing : Requests
nothing = record { first = []; later = None }

abbrev pub added : List Request → Option (List Request) → Line → Option Requests
added rs None (call r) = Some (record { first = rs ++ r ∷ []; later = None })
added rs None file = Some (record { first = rs; later = Some [] })
added rs (Some qs) (call r) = Some (record { first = rs; later = Some (qs ++ r ∷ []) })
added rs (Some qs) file = None

-- what is asked for with one more line; `file` may not come twice
abbrev pub with_line : Requests → Line → Option Requests
with_line s l = added s.first s.later l

-- a text without the newline that it may end with
abbrev pub unended : List ℕ → List ℕ
unended s = cond (bytes_eq (drop (length s - 1) s) (10 ∷ [])) (take (length s - 1) s) s

-- the lines of a text: each ends with a newline, and the last may lack it if it is not empty
abbrev pub lines_of : List ℕ → List (List ℕ)
lines_of s = cond (length s == 0) [] (pieces 10 (unended s))

-- what is asked for with more lines, counted from n, or the number of the first that cannot be read
unfoldable pub script_from : ℕ → Requests → List (List ℕ) → Result Requests ℕ
script_from n s [] = Ok s
script_from n s (l ∷ ls) = and_then (ok_or (and_then_some (line_of l) (with_line s)) n) (λ t. script_from (n + 1) t ls)

-- what a text asks for, or the number of its first line that cannot be read, counted from 1
abbrev pub script_of : List ℕ → Result Requests ℕ
script_of s = script_from 1 nothing (lines_of s)

abbrev pub requests_of : Script → Requests
requests_of s = record { first = map request_of s.first.items; later = option_map (λ cs. map request_of cs.items) s.later }
