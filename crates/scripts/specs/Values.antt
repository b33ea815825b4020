-- The words of a line that stand for values. Assumes nothing.
use Rattle.std.specs.Prelude.{ℕ, cond, ◌&&◌, List, length, replicate, None, Option, nat_le}
use Rattle.paths.specs.Steps.{and_then_some}
use Rattle.words.specs.Escapes.{unescaped}
use Rattle.words.specs.Words.{undotted}
use Rattle.mtree.specs.Numbers.{below, numeral, wide_numeral, unpadded}

-- the text of a path: escapes are undone, then it is `.`, or `./` stands before the text. The path is not judged
abbrev pub path_word : List ℕ → Option (List ℕ)
path_word w = and_then_some (unescaped w) undotted

-- a name of any length, but written with one byte at least
abbrev pub name_word : List ℕ → Option (List ℕ)
name_word w = cond (nat_le 1 (length w)) (unescaped w) None

-- one to six octal digits, a number of 16 bits
abbrev pub mode_word : List ℕ → Option ℕ
mode_word w = cond (nat_le 1 (length w) && nat_le (length w) 6) (and_then_some (numeral 8 w) (below 65536)) None

-- digits with no zero before another, a number of 64 bits
abbrev pub size_word : List ℕ → Option ℕ
size_word w = cond (nat_le 1 (length w) && unpadded w) (wide_numeral 10 w) None

-- a buffer of n bytes, all of them 0
unfoldable pub zeros : ℕ → List ℕ
zeros n = replicate n 0
