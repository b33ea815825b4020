-- The pieces of a layer file that are left to be measured or written. Assumes nothing.
use Rattle.std.proofs.Common.{◌≡◌, ℕ, ◌+◌, ◌<◌, ◌≤◌, List, [], ◌∷◌, ◌++◌, map, length, get_or, take, drop, sym, refl, ap, ◌∙◌, subst, append_assoc, append-nil}
use Rattle.std.proofs.lemmas.List.{length-map, drop_more, drop-drop}
use Rattle.std.specs.List.{concat}
use Rattle.rows.specs.declared.row.Row.{Row}
use Rattle.rows.specs.Rows.{row_of, rows_of}
use Rattle.trees.proofs.Written.{Written, more}
use Rattle.marks.specs.declared.mark.Mark.{Mark}
use Rattle.layer_fields.specs.Fields.{field_bytes}
use Rattle.layer_fields.specs.Said.{version_field, count_field}
use Rattle.layer_files.specs.Files.{row_bytes, rows_bytes, encoded}

-- the rows, and the count n behind them
abbrev pub left : List (Row Mark) → ℕ → List (List ℕ)
left rs n = map (λ r. row_bytes (row_of r)) rs ++ field_bytes (count_field n) ∷ []

told : (rs : List (Row Mark)) (n : ℕ) → concat (left rs n) ≡ rows_bytes (rows_of rs) ++ field_bytes (count_field n)
told [] n = append-nil (field_bytes (count_field n))
told (r ∷ rs) n =
    ap (λ z. row_bytes (row_of r) ++ z) (told rs n) ∙ sym (append_assoc (row_bytes (row_of r)) (rows_bytes (rows_of rs)) (field_bytes (count_field n)))

-- behind the version they make the file
pub all_left : (rs : List (Row Mark)) → concat (field_bytes version_field ∷ left rs (length rs)) ≡ encoded (rows_of rs)
all_left rs =
    ap (λ z. field_bytes version_field ++ z) (told rs (length rs) ∙ ap (λ n. rows_bytes (rows_of rs) ++ field_bytes (count_field n)) (sym (length-map rs row_of)))

-- the next row
pub left_more : (rs : List (Row Mark)) (n i : ℕ) (d : Row Mark) → i < length rs → left (drop i rs) n ≡ row_bytes (row_of (get_or rs i d)) ∷ left (drop (i + 1) rs) n
left_more rs n i d h = ap (λ z. left z n) (drop_more rs i d h)

-- a piece that is put behind what is written
pub put_more : (text old buf : List ℕ) (rest : List (List ℕ)) (n : ℕ) → Written text old buf rest n → (piece : List ℕ) (next : List (List ℕ)) → rest ≡ piece ∷ next
    → (bytes new : List ℕ) (m : ℕ) → bytes ≡ piece → n ≤ length buf → m ≡ n + length bytes → new ≡ take n buf ++ (bytes ++ drop (n + length bytes) buf) → Written text old new next m
put_more text old buf rest n w piece next parts bytes new m same fits at is =
    subst (λ z. Written text old z next m) (ap (λ z. take n buf ++ (bytes ++ z)) (drop-drop (length bytes) n buf) ∙ sym is) (more text old buf rest n w piece next parts bytes (length bytes) m same fits refl at)
