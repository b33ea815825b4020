-- What the text of a manifest says. Assumes nothing.
use Rattle.std.specs.Prelude.{ℕ, ◌+◌, min, Bool, cond, ◌&&◌, List, [], ◌∷◌, ◌++◌, length, drop, Some, Ok, Err, Result, ◌==◌, nat_le, nat_lt}
use Rattle.paths.specs.Names.{parent, begins}
use Rattle.paths.specs.Pieces.{front, later, pieces}
use Rattle.rows.specs.Maps.{Names, at, rises}
use Rattle.trees.specs.declared.entry.Entry.{Entry}
use Rattle.trees.specs.Entries.{Row, is_dir}
use Rattle.words.specs.declared.fault.Cause.{Cause}
use Rattle.words.specs.declared.fault.Cause.TheVariants.{Header, Word, Order, Parent, TooMany}
use Rattle.manifests.specs.declared.fault.ManifestFault.{ManifestFault}
use Rattle.paths.specs.Steps.{and_then, map_err}
use Rattle.words.specs.Words.{path_of}
use Rattle.mtree.specs.Keywords.{entry_of}
use Rattle.listing.specs.Lines.{header}

-- the root is a directory, and any other path stands under an earlier directory
abbrev pub under_dir : List Row → Names → Entry → Bool
under_dir rows [] e = is_dir (Some e)
under_dir rows (n ∷ p) e = is_dir (at rows (parent (n ∷ p)))

-- a row behind the rows before it, of which there may be `limit`
abbrev pub placed : ℕ → List Row → Names → Entry → Result Row Cause
placed limit rows p e =
    cond (rises rows p) (cond (under_dir rows p e) (cond (nat_lt (length rows) limit) (Ok (p, e)) (Err TooMany)) (Err Parent)) (Err Order)

-- the row of a line: its path word, its keywords, its place
abbrev pub row_of_line : ℕ → List Row → List ℕ → Result Row Cause
row_of_line limit rows l =
    and_then (path_of (front 32 l)) (λ p. and_then (entry_of (later 32 l)) (λ e. placed limit rows p e))

-- a cause, at the position of the line's first byte
abbrev pub fault_at : ℕ → Cause → ManifestFault
fault_at at c = record { at = at; cause = c }

-- the rows so far, and those of the lines from position `at` on; what follows the last newline is
-- no line, and has to be empty
unfoldable pub rows_from : ℕ → ℕ → List Row → List (List ℕ) → Result (List Row) ManifestFault
rows_from limit at rows [] = Ok rows
rows_from limit at rows (l ∷ []) = cond (length l == 0) (Ok rows) (Err (fault_at at Word))
rows_from limit at rows (l ∷ m ∷ ls) =
    and_then (map_err (fault_at at) (row_of_line limit rows l)) (λ r. rows_from limit (at + (length l + 1)) (rows ++ r ∷ []) (m ∷ ls))

-- the rows of a text, of which there may be `limit`
abbrev pub rows_in : ℕ → List ℕ → Result (List Row) ManifestFault
rows_in limit text =
    cond (nat_le (length text) 65536 && begins header text) (rows_from limit 7 [] (pieces 10 (drop 7 text))) (Err (fault_at 0 Header))

-- the rows of a text, where `given` rows are lent: at most 1,024
abbrev pub indexed : ℕ → List ℕ → Result (List Row) ManifestFault
indexed given text = rows_in (min given 1024) text
