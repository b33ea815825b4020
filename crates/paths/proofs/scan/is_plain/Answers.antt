use Rattle.std.proofs.Common.{◌≡◌, ℕ, Bool, true, false, not, ◌&&◌, eqb, leb, List, ◌∷◌, rules, refl}
use Rattle.std.proofs.lemmas.List.Recursion.{and_is}
use Rattle.paths.specs.Names.{plain}
use Rattle.paths.proofs.scan.is_plain.Goals as goal

-- a byte of a name
abbrev fine : ℕ → Bool
fine b = (not (eqb b 0) && leb b 255) && not (eqb b 47)

step : (b : ℕ) (bs : List ℕ) → plain (b ∷ bs) ≡ (fine b && plain bs)
step b bs = elim (not (eqb b 0) && leb b 255) as (λ t. (t && (not (eqb b 47) && plain bs)) ≡ ((t && not (eqb b 47)) && plain bs)) [ true ↦ refl | false ↦ refl ]

pub returns : goal.returns
returns c = and_is plain fine refl step c.args.n.now 0 _ (search rules) (search rules)
