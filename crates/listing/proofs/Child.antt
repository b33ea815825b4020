-- What is kept while the next path is looked for. Assumes nothing.
use Rattle.std.proofs.Common.{◌≡◌, ℕ, true, List}
use Rattle.paths.specs.Names.{Under}
use Rattle.rows.specs.Maps.{before, has}
use Rattle.rows.proofs.Firsts.{In}
use Rattle.trees.specs.Entries.{Entries, Row}

-- what `following` keeps: nothing after p is left at or below q, a prefix of p
pub record Left (en : Entries) (p q : List (List ℕ)) : Type 0 where
  pub under : Under q p
  pub there : has en.rows q ≡ true
  pub clear : (x : Row) → In en.rows x → before p x.0 ≡ true → Under q x.0 → ⊥
