-- The bytes of a reader, cut at a limit. Assumes nothing.
use Rattle.std.proofs.Common.{◌≡◌, ℕ, List, [], ◌++◌, take, Some, None, Option, IfSome, ap, ◌∙◌, arith}
use Rattle.std.proofs.lemmas.List.{length-take, take_all}
use Rattle.std.specs.Option.{option_map}

-- all that is left below a limit is read, and cut there
pub front_read : (left : Option (List ℕ)) (limit : ℕ) (old read new : List ℕ) → old ≡ [] → IfSome (option_map (take limit) left) (λ bs. read ≡ old ++ bs) → new ≡ take limit read → IfSome left (λ bs. new ≡ take limit bs)
front_read None limit old read new none all cut = tt
front_read (Some bs) limit old read new none all cut =
    cut ∙ ap (take limit) (all ∙ ap (λ z. z ++ take limit bs) none) ∙ take_all limit (take limit bs) (omega (arith, length-take limit bs))
