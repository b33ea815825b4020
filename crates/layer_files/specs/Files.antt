-- The bytes of a layer file. Assumes nothing.
use Rattle.std.specs.Prelude.{ℕ, List, [], ◌∷◌, ◌++◌, length}
use Rattle.paths.specs.Names.{join}
use Rattle.trees.specs.declared.entry.Entry.TheVariants as entry
use Rattle.marks.specs.declared.mark.Mark.{Mark}
use Rattle.marks.specs.declared.mark.Mark.TheVariants.{Whiteout, File, Dir, Opaque}
use Rattle.marks.specs.Marks.{MarkRow}
use Rattle.rows.specs.Maps.{Names}
use Rattle.layer_fields.specs.Fields.{Field, field_bytes}
use Rattle.layer_fields.specs.Said.{version_field, text_field, entry_field, whiteout_field, count_field}
use Rattle.layer_fields.specs.Texts.{whiteout_text, marker_text}

-- the fields of a row: its path, and its entry or a whiteout; an opaque directory's marker is a path and a whiteout of its own
abbrev pub row_fields : Names → Mark → List Field
row_fields p Whiteout = text_field (whiteout_text p) ∷ whiteout_field ∷ []
row_fields p (File f) = text_field (join p) ∷ entry_field (entry.File f) ∷ []
row_fields p (Dir d) = text_field (join p) ∷ entry_field (entry.Dir d) ∷ []
row_fields p (Opaque d) = text_field (join p) ∷ entry_field (entry.Dir d) ∷ text_field (marker_text p) ∷ whiteout_field ∷ []

abbrev pub fields_bytes : List Field → List ℕ
fields_bytes [] = []
fields_bytes (f ∷ fs) = field_bytes f ++ fields_bytes fs

abbrev pub row_bytes : MarkRow → List ℕ
row_bytes r = fields_bytes (row_fields r.0 r.1)

abbrev pub rows_bytes : List MarkRow → List ℕ
rows_bytes [] = []
rows_bytes (r ∷ rs) = row_bytes r ++ rows_bytes rs

-- the version, the rows in path order, and their number
abbrev pub encoded : List MarkRow → List ℕ
encoded m = field_bytes version_field ++ (rows_bytes m ++ field_bytes (count_field (length m)))
