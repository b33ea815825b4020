-- How many bytes a field takes. Assumes nothing.
use Rattle.std.proofs.Common.{◌≡◌, ℕ, ◌≤◌, leb, List, [], ◌∷◌, length, take, Some, ap, arith}
use Rattle.std.proofs.lemmas.List.{length-take}
use Rattle.std.specs.Int.{w16, from_be_bytes}
use Rattle.paths.proofs.Granted.{if_some}
use Rattle.layer_fields.specs.Fields.{Field, front_field, span}

-- no more than there are
pub span_within : (bs : List ℕ) (f : Field) → front_field bs ≡ Some f → span f ≤ length bs
unfolding front_field
span_within [] f h = cc
span_within (t ∷ []) f h = cc
span_within (t ∷ u ∷ []) f h = cc
span_within (t ∷ u ∷ v ∷ rest) f h =
    let n = from_be_bytes w16 (u ∷ v ∷ []) in
    let p = if_some (leb n (length rest)) (Some (t, take n rest)) f h in
    let is : ◌≡◌ {A = Field} (t, take n rest) f = cc p.1 in
    omega (arith, length-take n rest, ap (λ g. length g.1) is)
