-- What begins with `.wh.`. Assumes nothing.
use Rattle.std.proofs.Common.{◌≡◌, ℕ, true, eqb, List, [], ◌∷◌, take, Some, None, Option, Ok, Err, MatchOption, MatchResult, refl, ◌∙◌}
use Rattle.std.specs.Cmp.Lexicographic.{pointwise}
use Rattle.std.specs.Option.{ok_or}
use Rattle.std.proofs.lemmas.Bool.{cond-true}
use Rattle.paths.specs.declared.Path.{Path}
use Rattle.paths.specs.Names.{begins, judge}
use Rattle.paths.specs.Paths.{names}
use Rattle.paths.specs.Steps.{map_err}
use Rattle.layer_fields.specs.declared.fault.Cause.TheVariants as cause
use Rattle.layer_fields.specs.Texts.{whiteout_prefix, has_whiteout_prefix, without_prefix, whiteout_path, row_path}

pub begins_wh : (s : List ℕ) → pointwise eqb (take 4 s) whiteout_prefix ≡ begins whiteout_prefix s
begins_wh [] = refl
begins_wh (a ∷ []) = refl
begins_wh (a ∷ b ∷ []) = refl
begins_wh (a ∷ b ∷ c ∷ []) = refl
begins_wh (a ∷ b ∷ c ∷ d ∷ s) = refl

-- the path of a text that begins so, as it is told
pub whiteout_told : (s : List ℕ) (w : Option Path) → has_whiteout_prefix s ≡ true → MatchOption w (whiteout_path (judge (without_prefix s)) ≡ Err cause.Whiteout) (λ p. whiteout_path (judge (without_prefix s)) ≡ Ok (names p)) → MatchResult (ok_or w cause.Whiteout) (λ p. row_path s ≡ Ok (names p)) (λ c. row_path s ≡ Err c)
whiteout_told s None h g = cond-true (has_whiteout_prefix s) (whiteout_path (judge (without_prefix s))) (map_err cause.Path (judge s)) h ∙ g
whiteout_told s (Some p) h g = cond-true (has_whiteout_prefix s) (whiteout_path (judge (without_prefix s))) (map_err cause.Path (judge s)) h ∙ g
