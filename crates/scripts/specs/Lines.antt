-- What a line asks for. Assumes nothing.
use Rattle.std.specs.Prelude.{ℕ, List, Option}
use Rattle.std.specs.Option.{option_map}
use Rattle.paths.specs.Pieces.{pieces}
use Rattle.edits.specs.declared.action.Action.TheVariants.{Put, Mkdir, Chmod, Remove}
use Rattle.archive.specs.Calls.{Request, look, next, list, room, need, edit, request_of}
use Rattle.scripts.specs.declared.line.Line as declared
use Rattle.scripts.specs.declared.line.Line.TheVariants as variant
use Rattle.scripts.specs.declared.verb.Verb.{Verb}
use Rattle.scripts.specs.declared.verb.Verb.TheVariants as verb
use Rattle.scripts.specs.Values.{zeros}
use Rattle.scripts.specs.Verbs.{verb_of}
use Rattle.scripts.specs.Arguments.{word, ended, path_alone, path_and_name, path_and_mode, path_and_file}

-- a call, or the line `file`
pub data Line : Type 0 where
  call : Request → Line
  file : Line

abbrev pub meant : declared.Line → Line
meant (variant.Call c) = call (request_of c)
meant variant.File = file

-- what the words behind the first word ask for; `next` lends a buffer of 40 bytes, and `list` one of 65,536
abbrev pub asked : Verb → List (List ℕ) → Option Line
asked verb.Look ws = option_map (λ p. call (look p)) (path_alone ws)
asked verb.Next ws = option_map (λ r. call (next r.0 r.1 (zeros 40))) (path_and_name ws)
asked verb.List ws = ended (call (list (zeros 65536))) ws
asked verb.Room ws = ended (call room) ws
asked verb.Need ws = option_map (λ p. call (need p)) (path_alone ws)
asked verb.Put ws = option_map (λ r. call (edit r.0 (Put r.1))) (path_and_file ws)
asked verb.Mkdir ws = option_map (λ r. call (edit r.0 (Mkdir r.1))) (path_and_mode ws)
asked verb.Chmod ws = option_map (λ r. call (edit r.0 (Chmod r.1))) (path_and_mode ws)
asked verb.Remove ws = option_map (λ p. call (edit p Remove)) (path_alone ws)
asked verb.File ws = ended file ws

-- what a line asks for, which is given without its newline: words with one space between neighbours
abbrev pub line_of : List ℕ → Option Line
line_of l = word verb_of asked (pieces 32 l)
