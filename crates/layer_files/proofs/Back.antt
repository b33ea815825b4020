-- A file that is accepted is written again with the same bytes. Assumes nothing.
use Rattle.std.proofs.Common.{◌≡◌, ℕ, suc, ◌<◌, get_or, List, [], ◌∷◌, ◌++◌, length, drop, None, Ok, sym, refl, ap, ◌∙◌, append_assoc, append-nil}
use Rattle.trees.proofs.Fine.{Bytes}
use Rattle.marks.specs.Marks.{MarkRow}
use Rattle.layer_fields.specs.Fields.{field_bytes}
use Rattle.layer_fields.specs.Said.{version_field, count_field}
use Rattle.layer_files.specs.Files.{row_bytes, rows_bytes, encoded}
use Rattle.layer_files.specs.Reads.{Step, decoded}
use Rattle.layer_files.proofs.Taken.{Taken, Unit}
use Rattle.layer_files.proofs.Rows.{rows_by, decoded_ok}

rows_push : (m : List MarkRow) (r : MarkRow) → rows_bytes (m ++ r ∷ []) ≡ rows_bytes m ++ row_bytes r
rows_push [] r = append-nil (row_bytes r)
rows_push (x ∷ m) r = ap (λ s. row_bytes x ++ s) (rows_push m r) ∙ sym (append_assoc (row_bytes x) (rows_bytes m) (row_bytes r))

-- the bytes of the rows seen reach to the position
abbrev Reached : List ℕ → List MarkRow → ℕ → Type 0
Reached bs seen at = rows_bytes seen ++ drop at bs ≡ drop 4 bs

pub writes_back : (bs : List ℕ) (m : List MarkRow) → Bytes bs → decoded bs ≡ Ok m → encoded m ≡ bs
writes_back bs m b h =
    let d = decoded_ok bs m h in
    ap (λ s. field_bytes version_field ++ s) (rows_by bs (Reached bs) (λ m. rows_bytes m ++ field_bytes (count_field (length m)) ≡ drop 4 bs) more last 193 [] 4 m refl d.1) ∙ sym (d.0 b) where
      more : (seen : List MarkRow) (at : ℕ) (t : Step) → Reached bs seen at → Taken seen bs at t → Reached bs (seen ++ t.0 ∷ []) t.1
      more seen at t p k =
          ap (λ s. s ++ drop t.1 bs) (rows_push seen t.0) ∙ append_assoc (rows_bytes seen) (row_bytes t.0) (drop t.1 bs) ∙ ap (λ s. rows_bytes seen ++ s) (sym (k.bytes b)) ∙ p

      last : (seen : List MarkRow) (at : ℕ) → Reached bs seen at → Unit seen bs at None → rows_bytes seen ++ field_bytes (count_field (length seen)) ≡ drop 4 bs
      last seen at p e = ap (λ s. rows_bytes seen ++ s) (sym (e b)) ∙ p

-- bytes that are lent are bytes
pub lent_bytes : (s : List ℕ) → ((i : ℕ) → get_or s i 0 < 256) → Bytes s
lent_bytes [] h = tt
lent_bytes (b ∷ s) h = (h 0, lent_bytes s (λ i. h (suc i)))
