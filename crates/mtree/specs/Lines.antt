-- What a line says. Assumes nothing.
use Rattle.std.specs.Prelude.{ℕ, List, Ok, Result}
use Rattle.paths.specs.Pieces.{front, later}
use Rattle.rows.specs.Maps.{Names}
use Rattle.trees.specs.declared.entry.Entry.{Entry}
use Rattle.words.specs.declared.fault.Cause.{Cause}
use Rattle.paths.specs.Steps.{and_then}
use Rattle.words.specs.Words.{path_of}
use Rattle.mtree.specs.Keywords.{entry_of}

-- the path of the word and the entry of the keywords: the word is judged first
abbrev pub line_of : List ℕ → Result (Names × Entry) Cause
line_of l = and_then (path_of (front 32 l)) (λ p. and_then (entry_of (later 32 l)) (λ e. Ok (p, e)))
