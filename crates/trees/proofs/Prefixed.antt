-- What the prefixes of a path say, one by one. Assumes nothing.
use Rattle.std.proofs.Common.{◌≡◌, ℕ, ◌+◌, ◌≤◌, Bool, cond, ◌||◌, List, [], ◌∷◌, length, sym, refl, ap, ◌∙◌, arith}
use Rattle.std.specs.List.{filter, list_any}
use Rattle.std.proofs.lemmas.List.Recursion.{is_count_by}
use Rattle.std.proofs.lemmas.List.Sums.{length-filter}
use Rattle.paths.specs.Names.{prefixes}
use Rattle.rows.specs.Maps.{Names, at, has}
use Rattle.trees.specs.Entries.{Row, is_file}
use Rattle.trees.specs.Answers.{held, present, barred}

module _ (rs : List Row) where
  pub held_filter : (ps : List Names) → length (filter (λ p. has rs p) ps) ≡ held rs ps
  held_filter ps = length-filter (λ p. has rs p) ps ∙ sym (is_count_by (held rs) (λ p. has rs p) refl (λ q qs. ap (λ n. cond (has rs q) n (held rs qs)) (omega arith)) ps)

  pub barred_any : (ps : List Names) → list_any (λ p. is_file (at rs p)) ps ≡ barred rs ps
  barred_any [] = refl
  barred_any (p ∷ ps) = ap (λ b. is_file (at rs p) || b) (barred_any ps)

  -- what is told of the prefixes of p, of which some are left
  pub record Told (p : Names) (left : List Names) (place : ℕ) (file : Bool) : Type 0 where
    pub few : place + length left ≤ 9
    pub count : place + held rs left ≡ present rs p
    pub found : (file || barred rs left) ≡ barred rs (prefixes p)
