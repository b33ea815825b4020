-- A text cut at each separator. Assumes nothing.
use Rattle.std.specs.Prelude.{ℕ, cond, List, [], ◌∷◌, ◌==◌}

-- the bytes up to the first separator
abbrev pub front : ℕ → List ℕ → List ℕ
front sep [] = []
front sep (b ∷ bs) = cond (b == sep) [] (b ∷ front sep bs)

-- the pieces that follow the first separator
abbrev pub later : ℕ → List ℕ → List (List ℕ)
later sep [] = []
later sep (b ∷ bs) = cond (b == sep) (front sep bs ∷ later sep bs) (later sep bs)

-- the text cut at each separator: one piece more than there are separators
abbrev pub pieces : ℕ → List ℕ → List (List ℕ)
pieces sep s = front sep s ∷ later sep s
