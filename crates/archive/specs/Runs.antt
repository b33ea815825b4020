-- Calls made one after the other on a plain map. Assumes nothing.
use Rattle.std.specs.Prelude.{List, [], ◌∷◌}
use Rattle.trees.specs.Entries.{Row}
use Rattle.marks.specs.Plain.{Plain}
use Rattle.archive.specs.Calls.{Request, Response}
use Rattle.archive.specs.Answers.{answer, after}

-- what they are answered
unfoldable pub answers : Plain → List Request → List Response
answers s [] = []
answers s (c ∷ cs) = answer s c ∷ answers (after s c) cs

-- the plain map after them
unfoldable pub afterwards : Plain → List Request → Plain
afterwards s [] = s
afterwards s (c ∷ cs) = afterwards (after s c) cs

-- the plain map of a session that was just opened over those entries
abbrev pub opened : List Row → Plain
opened e = record { lower = e; own = e; noted = []; remade = [] }
