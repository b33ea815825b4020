-- One turn of the reader: a row more, the end, or a refusal. Assumes nothing.
use Rattle.std.proofs.Common.{◌≡◌, ℕ, suc, ◌-◌, ◌<◌, ◌≤◌, List, [], ◌∷◌, ◌++◌, length, Some, None, Ok, Err, Option, Result, sym, ap, ◌∙◌, length-append, arith}
use Rattle.paths.specs.Steps.{and_then}
use Rattle.marks.specs.Marks.{MarkRow}
use Rattle.layer_fields.specs.declared.fault.LayerFault.{LayerFault}
use Rattle.layer_files.specs.Reads.{Step, unit_at, rows_from, decoded}

abbrev next : ℕ → List ℕ → List MarkRow → Option Step → Result (List MarkRow) LayerFault
next k bs seen None = Ok seen
next k bs seen (Some t) = rows_from k (seen ++ t.0 ∷ []) bs t.1

turn : (bs : List ℕ) (at : ℕ) (seen : List MarkRow) → length seen ≤ 192 → rows_from (193 - length seen) seen bs at ≡ and_then (unit_at seen bs at) (next (192 - length seen) bs seen)
unfolding rows_from
turn bs at seen h =
    let e : 193 - length seen ≡ suc (192 - length seen) = omega arith in
    ap (λ k. rows_from k seen bs at) e

-- what is left of the bytes gives what all of them give
pub record Sofar (bytes now : List ℕ) (at : ℕ) (seen : List MarkRow) : Type 0 where
  pub same : now ≡ bytes
  pub gives : decoded bytes ≡ rows_from (193 - length seen) seen bytes at

module _ {bytes now : List ℕ} {at : ℕ} {seen : List MarkRow} (s : Sofar bytes now at seen) (few : length seen ≤ 192) where
  here : decoded bytes ≡ and_then (unit_at seen now at) (next (192 - length seen) bytes seen)
  here = s.gives ∙ turn bytes at seen few ∙ (λ i. and_then (unit_at seen (sym s.same i) at) (next (192 - length seen) bytes seen))

  pub failed : (e : LayerFault) → unit_at seen now at ≡ Err e → decoded bytes ≡ Err e
  failed e h = here ∙ ap (λ r. and_then r (next (192 - length seen) bytes seen)) h

  pub finished : unit_at seen now at ≡ Ok None → decoded bytes ≡ Ok seen
  finished h = here ∙ ap (λ r. and_then r (next (192 - length seen) bytes seen)) h

  pub more : (r : MarkRow) (now' : List ℕ) (at' : ℕ) (seen' : List MarkRow) → length seen < 192 → unit_at seen now at ≡ Ok (Some (r, at')) → now' ≡ now → seen' ≡ seen ++ r ∷ [] → Sofar bytes now' at' seen'
  more r now' at' seen' room h e is =
      let k : 192 - length seen ≡ 193 - length seen' = omega (arith, ap length is, length-append seen (r ∷ [])) in
      record {
        same = e ∙ s.same;
        gives = here ∙ ap (λ o. and_then o (next (192 - length seen) bytes seen)) h ∙ (λ i. rows_from (k i) (sym is i) bytes at');
      }
