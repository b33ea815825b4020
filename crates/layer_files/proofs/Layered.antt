-- What is read makes a layer. Assumes nothing.
use Rattle.std.proofs.Common.{◌≡◌, ℕ, ◌<◌, ◌≤◌, true, List, [], ◌∷◌, ◌++◌, length, Some, Ok, refl, ap, ◌∙◌, arith}
use Rattle.std.proofs.lemmas.Bool.{and_parts, and_from}
use Rattle.std.proofs.lemmas.List.{length_push}
use Rattle.paths.specs.Names.{parent}
use Rattle.rows.specs.Maps.{Names, at, ascending}
use Rattle.rows.proofs.Risen.{ascends_more}
use Rattle.rows.proofs.Earlier.{passed-later, itself-there}
use Rattle.trees.proofs.Fine.{Bytes}
use Rattle.trees.proofs.Grown.{Sound, grown_more}
use Rattle.marks.specs.declared.mark.Mark.{Mark}
use Rattle.marks.specs.Marks.{MarkRow, marks_dir, ranged, sound, layered}
use Rattle.marks.proofs.Merges.{layer_parts}
use Rattle.layer_files.specs.Reads.{Step, unit_at, decoded}
use Rattle.layer_files.proofs.Placed.{Placed, fits_ranged}
use Rattle.layer_files.proofs.Taken.{Taken, unit_taken}
use Rattle.layer_files.proofs.Rows.{rows_by, decoded_ok}

module _ (seen : List MarkRow) (l : layered seen ≡ true) where
  up : (r : MarkRow) → Placed seen r → ascending (seen ++ r ∷ []) ≡ true
  up r k = ascends_more seen r (layer_parts seen l).0 k.rise

  parent_marked : (p : Names) (x : Mark) → Placed seen (p, x) → marks_dir (at (seen ++ (p, x) ∷ []) (parent p)) ≡ true
  parent_marked [] x k =
      ap marks_dir (itself-there seen ([], x) [] (up ([], x) k)) ∙ (and_parts (ranged x) (marks_dir (Some x)) k.fits).1
  parent_marked (n ∷ p) x k = passed-later seen (n ∷ p, x) [] (up (n ∷ p, x) k) marks_dir refl (parent (n ∷ p)) k.under

  layered_more : (r : MarkRow) → Placed seen r → layered (seen ++ r ∷ []) ≡ true
  layered_more r k =
      let more = seen ++ r ∷ [] in
      let last : Sound ranged marks_dir more r = record { good = k.good; ranged = fits_ranged r.0 r.1 k.fits; under = parent_marked r.0 r.1 k } in
      and_from (ascending more) (sound more more) (up r k) (grown_more ranged marks_dir refl seen r (up r k) (layer_parts seen l).1 last)

-- a row that is read leaves a layer, and few rows are seen before it
pub unit_more : (seen : List MarkRow) (bs : List ℕ) (at : ℕ) (t : Step) → layered seen ≡ true → unit_at seen bs at ≡ Ok (Some t) → (layered (seen ++ t.0 ∷ []) ≡ true) × (length seen < 192)
unit_more seen bs at t l h =
    let k = (unit_taken seen bs at (Some t) h).row in
    (layered_more seen l t.0 k, k.few)

abbrev Layer : List MarkRow → Type 0
Layer seen = (layered seen ≡ true) × (length seen ≤ 192)

pub is_layer : (bs : List ℕ) (m : List MarkRow) → Bytes bs → decoded bs ≡ Ok m → (layered m ≡ true) × (length m ≤ 192)
is_layer bs m b h = rows_by bs (λ seen at. Layer seen) Layer more (λ seen at l e. l) 193 [] 4 m (refl, omega arith) (decoded_ok bs m h).1 where
  more : (seen : List MarkRow) (at : ℕ) (t : Step) → Layer seen → Taken seen bs at t → Layer (seen ++ t.0 ∷ [])
  more seen at t l k =
      let few = k.row.few in
      (layered_more seen l.0 t.0 k.row, omega (arith, length_push seen t.0))
