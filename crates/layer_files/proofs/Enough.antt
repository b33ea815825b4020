-- The steps that the definition of a file's rows allows are never used up. Assumes nothing.
use Rattle.std.proofs.Common.{◌≡◌, ℕ, zero, suc, ◌+◌, ◌≤◌, List, [], ◌∷◌, ◌++◌, length, Some, None, Ok, Err, Option, Result, refl, arith}
use Rattle.std.proofs.lemmas.List.{length_push}
use Rattle.marks.specs.Marks.{MarkRow}
use Rattle.layer_fields.specs.declared.fault.LayerFault.{LayerFault}
use Rattle.paths.specs.Steps.{and_then}
use Rattle.layer_files.specs.Reads.{Step, unit_at, rows_from}
use Rattle.layer_files.proofs.Taken.{unit_taken}

module _ (bs : List ℕ) where
  abbrev on : ℕ → List MarkRow → Option Step → Result (List MarkRow) LayerFault
  on k seen None = Ok seen
  on k seen (Some t) = rows_from k (seen ++ t.0 ∷ []) bs t.1

  used_up : (seen : List MarkRow) → length seen ≤ 192 → 193 ≤ 0 + length seen → ⊥
  used_up seen few most = omega arith

  pub enough : (k j : ℕ) (seen : List MarkRow) (at : ℕ) → length seen ≤ 192 → 193 ≤ k + length seen → 193 ≤ j + length seen → rows_from k seen bs at ≡ rows_from j seen bs at
  unfolding rows_from
  enough zero j seen at few a b = absurd (used_up seen few a)
  enough (suc k) zero seen at few a b = absurd (used_up seen few b)
  enough (suc k) (suc j) seen at few a b = go (unit_at seen bs at) refl (enough k j) where
    go : (u : Result (Option Step) LayerFault) → unit_at seen bs at ≡ u → ((seen : List MarkRow) (at : ℕ) → length seen ≤ 192 → 193 ≤ k + length seen → 193 ≤ j + length seen → rows_from k seen bs at ≡ rows_from j seen bs at) → and_then u (on k seen) ≡ and_then u (on j seen)
    go (Err e) h again = refl
    go (Ok None) h again = refl
    go (Ok (Some t)) h again =
        let few = (unit_taken seen bs at (Some t) h).row.few in
        let n = length_push seen t.0 in
        again (seen ++ t.0 ∷ []) t.1 (omega (arith, n)) (omega (arith, n, a)) (omega (arith, n, b))
