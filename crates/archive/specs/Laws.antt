-- The laws of calls made one after the other, as statements. Assumes nothing.
use Rattle.std.specs.Prelude.{◌≡◌, true, List, [], ◌++◌}
use Rattle.trees.specs.Entries.{Row, is_tree}
use Rattle.marks.specs.Marks.{MarkRow, layered}
use Rattle.marks.specs.Plain.{Plain, plain_of}
use Rattle.archive.specs.Calls.{Request}
use Rattle.archive.specs.Runs.{answers, afterwards, opened}

pub record Lawful : Type 0 where
  -- calls made in two parts are answered as in one
  pub two_parts : (s : Plain) (xs ys : List Request) → answers s (xs ++ ys) ≡ answers s xs ++ answers (afterwards s xs) ys
  -- and leave the same plain map
  pub two_afterwards : (s : Plain) (xs ys : List Request) → afterwards s (xs ++ ys) ≡ afterwards (afterwards s xs) ys
  -- a layer without rows over a tree has the plain map that was just opened
  pub opens : (e : List Row) → is_tree e ≡ true → plain_of [] e ≡ opened e
  -- the plain map of a layer tells the whole layer
  pub tells : (m n : List MarkRow) (e : List Row) → layered m ≡ true → layered n ≡ true → plain_of m e ≡ plain_of n e → m ≡ n
