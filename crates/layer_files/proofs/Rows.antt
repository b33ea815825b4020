-- What holds of rows that are read one by one, and of a file. Assumes nothing.
use Rattle.std.proofs.Common.{◌≡◌, ℕ, zero, suc, ◌+◌, List, [], ◌∷◌, ◌++◌, drop, Some, None, Ok, Result, Option, ap, ◌∙◌, subst, eqb}
use Rattle.std.proofs.lemmas.Bool.{eqb-true}
use Rattle.paths.proofs.Granted.{then_ok, if_ok}
use Rattle.trees.proofs.Fine.{Bytes}
use Rattle.marks.specs.Marks.{MarkRow}
use Rattle.layer_fields.specs.declared.fault.Cause.TheVariants as cause
use Rattle.layer_fields.specs.declared.fault.LayerFault.{LayerFault}
use Rattle.layer_fields.specs.Faults.{fault_at}
use Rattle.layer_fields.specs.Fields.{field_bytes, span}
use Rattle.layer_fields.specs.Said.{version_of, version_field}
use Rattle.layer_fields.proofs.Fronts.{version_field_is}
use Rattle.layer_files.specs.Reads.{taken, Step, unit_at, rows_from, versioned, decoded}
use Rattle.layer_files.proofs.Taken.{taken_ok, field_read, Taken, Unit, unit_taken}

module _ (bs : List ℕ) where
  -- what each row keeps holds at the end
  module _ (P : List MarkRow → ℕ → Type 0) (Q : List MarkRow → Type 0) (more : (seen : List MarkRow) (at : ℕ) (t : Step) → P seen at → Taken seen bs at t → P (seen ++ t.0 ∷ []) t.1) (last : (seen : List MarkRow) (at : ℕ) → P seen at → Unit seen bs at None → Q seen) where
    abbrev on : ℕ → List MarkRow → Option Step → Result (List MarkRow) LayerFault
    on k seen None = Ok seen
    on k seen (Some t) = rows_from k (seen ++ t.0 ∷ []) bs t.1

    pub rows_by : (k : ℕ) (seen : List MarkRow) (at : ℕ) (m : List MarkRow) → P seen at → rows_from k seen bs at ≡ Ok m → Q m
    unfolding rows_from
    rows_by zero seen at m p h = cc
    rows_by (suc k) seen at m p h =
        let o = then_ok (unit_at seen bs at) (on k seen) m h in
        go o.0 (unit_taken seen bs at o.0 o.1) o.2 (rows_by k) where
          go : (o : Option Step) → Unit seen bs at o → on k seen o ≡ Ok m → ((seen : List MarkRow) (at : ℕ) (m : List MarkRow) → P seen at → rows_from k seen bs at ≡ Ok m → Q m) → Q m
          go None u e again =
              let is : seen ≡ m = cc in
              subst Q is (last seen at p u)
          go (Some t) u e again = again (seen ++ t.0 ∷ []) t.1 m (more seen at t p u) e

  -- the version stands first, and rows follow
  pub decoded_ok : (m : List MarkRow) → decoded bs ≡ Ok m → (Bytes bs → bs ≡ field_bytes version_field ++ drop 4 bs) × (rows_from 193 [] bs 4 ≡ Ok m)
  decoded_ok m h =
      let v = then_ok (taken version_of bs 0) (λ v. versioned v bs) m h in
      let f = taken_ok version_of bs 0 v.0 v.1 in
      let r = if_ok (eqb v.0 1) (rows_from 193 [] bs 4) (fault_at 0 cause.Version) m v.2 in
      let is : f.0 ≡ version_field = version_field_is f.0 v.0 f.2 ∙ (λ i. (0, eqb-true v.0 1 r.0 i ∷ [])) in
      (λ b. (field_read bs b 0 f.0 f.1).0 ∙ ap (λ z. field_bytes z ++ drop (0 + span z) bs) is, r.1)
