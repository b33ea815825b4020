-- The laws of layer files, as statements. Assumes nothing.
use Rattle.std.specs.Prelude.{◌≡◌, ℕ, ◌<◌, ◌≤◌, true, List, [], length, Ok}
use Rattle.std.specs.List.{AllByRecursion}
use Rattle.marks.specs.Marks.{MarkRow, layered}
use Rattle.layer_files.specs.Files.{encoded}
use Rattle.layer_files.specs.Reads.{rows_from, decoded}

pub record Lawful : Type 0 where
  -- what is read makes a layer
  pub is_layer : (bs : List ℕ) (m : List MarkRow) → AllByRecursion (λ b. b < 256) bs → decoded bs ≡ Ok m → (layered m ≡ true) × (length m ≤ 192)
  -- a file that is accepted is written again with the same bytes
  pub writes_back : (bs : List ℕ) (m : List MarkRow) → AllByRecursion (λ b. b < 256) bs → decoded bs ≡ Ok m → encoded m ≡ bs
  -- a layer that is written reads back as itself
  pub reads_back : (m : List MarkRow) → layered m ≡ true → length m ≤ 192 → decoded (encoded m) ≡ Ok m
  -- the steps that the definition allows are never used up: with more of them it says the same
  pub steps_enough : (bs : List ℕ) (steps : ℕ) → 193 ≤ steps → rows_from steps [] bs 4 ≡ rows_from 193 [] bs 4
  -- every layer fits
  pub fits : (m : List MarkRow) → layered m ≡ true → length m ≤ 192 → length (encoded m) ≤ 65536
