-- What a field says, by its tag and the length of its value. Assumes nothing.
use Rattle.std.specs.Prelude.{ℕ, Bool, cond, ◌&&◌, List, [], ◌∷◌, ◌++◌, length, take, drop, Some, None, Option, ◌==◌}
use Rattle.std.specs.Int.{w16, w64, to_be_bytes, from_be_bytes}
use Rattle.trees.specs.declared.entry.Entry.{Entry}
use Rattle.trees.specs.declared.entry.Entry.TheVariants.{File, Dir}
use Rattle.layer_fields.specs.Fields.{Field}

-- ---- 00, the version, one byte

abbrev pub only_byte : List ℕ → Option ℕ
only_byte [] = None
only_byte (b ∷ []) = Some b
only_byte (b ∷ c ∷ bs) = None

abbrev pub version_of : Field → Option ℕ
version_of f = cond (f.0 == 0) (only_byte f.1) None

abbrev pub version_field : Field
version_field = (0, 1 ∷ [])

-- ---- 01, a path, by its text

abbrev pub text_of : Field → Option (List ℕ)
text_of f = cond (f.0 == 1) (Some f.1) None

abbrev pub text_field : List ℕ → Field
text_field s = (1, s)

-- ---- 02, a directory: its mode in two bytes; 03, a file: mode in two, size in eight and content number in eight

abbrev pub dir_of : List ℕ → Entry
dir_of v = Dir (record { mode = from_be_bytes w16 v })

abbrev pub file_of : List ℕ → Entry
file_of v = File (record { mode = from_be_bytes w16 (take 2 v); size = from_be_bytes w64 (take 8 (drop 2 v)); content = from_be_bytes w64 (drop 10 v) })

abbrev pub entry_of : Field → Option Entry
entry_of f = cond (f.0 == 2 && length f.1 == 2) (Some (dir_of f.1)) (cond (f.0 == 3 && length f.1 == 18) (Some (file_of f.1)) None)

abbrev pub entry_field : Entry → Field
entry_field (Dir d) = (2, to_be_bytes w16 d.mode)
entry_field (File f) = (3, to_be_bytes w16 f.mode ++ (to_be_bytes w64 f.size ++ to_be_bytes w64 f.content))

-- ---- 05, nothing: a whiteout, or a directory that is opaque

abbrev pub is_whiteout : Field → Bool
is_whiteout f = f.0 == 5 && length f.1 == 0

abbrev pub whiteout_field : Field
whiteout_field = (5, [])

-- ---- 06, the number of rows in two bytes

abbrev pub count_of : Field → Option ℕ
count_of f = cond (f.0 == 6 && length f.1 == 2) (Some (from_be_bytes w16 f.1)) None

abbrev pub count_field : ℕ → Field
count_field n = (6, to_be_bytes w16 n)
