-- What a line adds to a reader's rows. Assumes nothing.
use Rattle.std.proofs.Common.{◌≡◌, ◌<◌, List, ℕ, [], ◌∷◌, ◌++◌, length, Ok, Err, Result, sym, ap, ◌∙◌, subst, arith, true}
use Rattle.std.proofs.lemmas.List.{length-map, map_push}
use Rattle.paths.specs.Paths.{names}
use Rattle.rows.specs.declared.row.Row.{Row as Stored}
use Rattle.rows.specs.Rows.{row_of, rows_of}
use Rattle.trees.specs.declared.entry.Entry.{Entry}
use Rattle.trees.specs.Entries.{Row, is_tree}
use Rattle.words.specs.declared.fault.Cause.{Cause}
use Rattle.paths.specs.Steps.{and_then}
use Rattle.mtree.specs.Lines.{line_of}
use Rattle.manifests.specs.declared.reader.Reader.{Reader}
use Rattle.manifests.specs.Manifests.{placed, row_of_line}
use Rattle.manifests.specs.Readers.{so_far, ended, row_of_ended}
use Rattle.manifests.proofs.BuiltRows.{line-built}
use Rattle.manifests.proofs.ReadLines.{row_line, placed-room}

-- one row more, written behind the rows so far
pub record Taken (self : Reader) (line : List ℕ) (row : Stored Entry) : Type 0 where
  pub line_says : row_of_ended self.limit (so_far self) line ≡ Ok (row_of row)
  pub room : length self.rows.items < self.limit
  pub stored : rows_of (self.rows.items ++ row ∷ []) ≡ so_far self ++ row_of row ∷ []
  pub built : is_tree (rows_of (self.rows.items ++ row ∷ [])) ≡ true

module _ (self : Reader) (line text : List ℕ) (cut : ended line ≡ Ok text) where
  abbrev row_place : Stored Entry → Result Row Cause
  row_place row = placed self.limit (so_far self) (names row.path) row.value

  says : row_of_ended self.limit (so_far self) line ≡ and_then (line_of text) (λ r. placed self.limit (so_far self) r.0 r.1)
  says = ap (λ o. and_then o (λ l. row_of_line self.limit (so_far self) l)) cut ∙ row_line self.limit (so_far self) text

  pub bad_line : (c : Cause) → line_of text ≡ Err c → row_of_ended self.limit (so_far self) line ≡ Err c
  bad_line c e = says ∙ ap (λ x. and_then x (λ r. placed self.limit (so_far self) r.0 r.1)) e

  module _ (row : Stored Entry) (read : line_of text ≡ Ok (row_of row)) where
    placed_line : row_of_ended self.limit (so_far self) line ≡ row_place row
    placed_line = says ∙ ap (λ x. and_then x (λ r. placed self.limit (so_far self) r.0 r.1)) read

    pub row_taken : row_place row ≡ Ok (row_of row) → Taken self line row
    row_taken e =
        let line_says = placed_line ∙ e in
        let row_says = sym (ap (λ o. and_then o (λ l. row_of_line self.limit (so_far self) l)) cut) ∙ line_says in
        let long = length-map self.rows.items row_of in
        let free = placed-room self.limit (so_far self) (names row.path) row.value (row_of row) e in
        let stored = map_push row_of self.rows.items row in
        record {
          line_says = line_says;
          room = omega arith;
          stored = stored;
          built = subst (λ z. is_tree z ≡ true) (sym stored) (line-built self.limit (so_far self) text (row_of row) self.built row_says);
        }
