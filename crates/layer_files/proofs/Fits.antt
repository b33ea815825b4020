-- How long a layer file may be. Assumes nothing.
use Rattle.std.proofs.Common.{◌≡◌, ◌*◌, ◌≤◌, true, List, [], ◌∷◌, length, arith}
use Rattle.std.proofs.lemmas.List.{length-append}
use Rattle.paths.specs.Names.{join}
use Rattle.rows.specs.Maps.{Names}
use Rattle.trees.specs.Entries.{fine}
use Rattle.trees.proofs.Fine.{fine-short}
use Rattle.trees.proofs.Grown.{grown_head}
use Rattle.trees.specs.declared.entry.Entry.TheVariants as entry
use Rattle.marks.specs.declared.mark.Mark.{Mark}
use Rattle.marks.specs.declared.mark.Mark.TheVariants.{Whiteout, File, Dir, Opaque}
use Rattle.marks.specs.Marks.{MarkRow, marks_dir, ranged, sound, layered}
use Rattle.marks.proofs.Merges.{layer_parts}
use Rattle.layer_fields.specs.Fields.{field_bytes}
use Rattle.layer_fields.specs.Said.{text_field, entry_field, whiteout_field, count_field}
use Rattle.layer_fields.specs.Texts.{whiteout_text, marker_text}
use Rattle.layer_files.specs.Files.{fields_bytes, row_bytes, rows_bytes, encoded}
use Rattle.layer_fields.proofs.ReadTexts.{whiteout-short, marker-short}

-- the longest is that of an opaque directory
row_most : (p : Names) (x : Mark) → fine p ≡ true → length (row_bytes (p, x)) ≤ 267
row_most [] Whiteout f = omega arith
row_most (n ∷ p) Whiteout f = omega (arith, whiteout-short n p f, length-append (field_bytes (text_field (whiteout_text (n ∷ p)))) (field_bytes whiteout_field))
row_most p (File e) f = omega (arith, fine-short p f, length-append (join p) (fields_bytes (entry_field (entry.File e) ∷ [])))
row_most p (Dir d) f = omega (arith, fine-short p f, length-append (join p) (fields_bytes (entry_field (entry.Dir d) ∷ [])))
row_most p (Opaque d) f =
    omega (arith, fine-short p f, marker-short p f, length-append (join p) (fields_bytes (entry_field (entry.Dir d) ∷ text_field (marker_text p) ∷ whiteout_field ∷ [])), length-append (marker_text p) (fields_bytes (whiteout_field ∷ [])))

rows_most : (all rs : List MarkRow) → sound all rs ≡ true → length (rows_bytes rs) ≤ 267 * length rs
rows_most all [] h = omega arith
rows_most all (r ∷ rs) h =
    let p = grown_head ranged marks_dir all r rs h in
    omega (arith, row_most r.0 r.1 p.0.good, rows_most all rs p.1, length-append (row_bytes r) (rows_bytes rs))

-- every layer fits
pub fits : (m : List MarkRow) → layered m ≡ true → length m ≤ 192 → length (encoded m) ≤ 65536
fits m h few =
    omega (arith, rows_most m m (layer_parts m h).1, length-append (rows_bytes m) (field_bytes (count_field (length m))))
