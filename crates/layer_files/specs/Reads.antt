-- The rows that a layer file gives, or why it is refused: judged unit by unit, in the order of the file. Assumes nothing.
use Rattle.std.specs.Prelude.{ℕ, zero, suc, ◌+◌, Bool, true, false, cond, ◌&&◌, List, [], ◌∷◌, ◌++◌, length, drop, Some, None, Ok, Err, Option, Result, ◌==◌, nat_lt}
use Rattle.std.specs.Option.{option_map, option_and_then, ok_or}
use Rattle.paths.specs.Names.{same, parent}
use Rattle.paths.specs.Steps.{and_then, map_err}
use Rattle.rows.specs.Maps.{Names, at, rises}
use Rattle.marks.specs.declared.mark.Mark.{Mark}
use Rattle.marks.specs.declared.mark.Mark.TheVariants.{Whiteout, File, Dir, Opaque}
use Rattle.marks.specs.Marks.{MarkRow, mark_of, marks_dir, ranged}
use Rattle.layer_fields.specs.declared.fault.Cause.{Cause}
use Rattle.layer_fields.specs.declared.fault.Cause.TheVariants as cause
use Rattle.layer_fields.specs.declared.fault.LayerFault.{LayerFault}
use Rattle.layer_fields.specs.Faults.{fault_at}
use Rattle.layer_fields.specs.Fields.{Field, front_field, span}
use Rattle.layer_fields.specs.Said.{version_of, text_of, entry_of, is_whiteout, count_of}
use Rattle.layer_fields.specs.Texts.{marker_text, is_marker, has_whiteout_prefix, row_path}

-- ---- one field

-- the field at a position, as far as the rule takes it
abbrev pub taken : {A : Type 0} → (Field → Option A) → List ℕ → ℕ → Result A LayerFault
taken rule bs at = ok_or (option_and_then rule (front_field (drop at bs))) (fault_at at cause.Field)

-- ---- one row

-- the mark that a field gives, and how many bytes it takes; behind the text of a whiteout only a whiteout may stand
abbrev pub mark_in : Bool → Field → Option (Mark × ℕ)
mark_in true f = cond (is_whiteout f) (Some (Whiteout, span f)) None
mark_in false f = option_map (λ e. (mark_of e, span f)) (entry_of f)

-- the entry is in range, and the root is a directory
abbrev pub fitting : Names → Mark → Bool
fitting [] x = ranged x && marks_dir (Some x)
fitting (n ∷ p) x = ranged x

-- a path under an earlier directory; the root needs none
abbrev pub under_dir : List MarkRow → Names → Bool
under_dir seen [] = true
under_dir seen (n ∷ p) = marks_dir (at seen (parent (n ∷ p)))

-- a row behind those seen: its value, its order, its parent, its number
abbrev pub placed : List MarkRow → Names → Mark → Result MarkRow Cause
placed seen p x =
    cond (fitting p x) (cond (rises seen p) (cond (under_dir seen p) (cond (nat_lt (length seen) 192) (Ok (p, x)) (Err cause.TooMany)) (Err cause.Parent)) (Err cause.Order)) (Err cause.Value)

-- a row, and the position behind it
abbrev pub Step : Type 0
Step = MarkRow × ℕ

-- the row whose path field, with the text s, stands at a position: both fields, then the path, then the place; a refusal of
-- these two has the position of the path field
abbrev pub row_at : List MarkRow → List ℕ → ℕ → List ℕ → Result Step LayerFault
row_at seen bs at s =
    and_then (taken (mark_in (has_whiteout_prefix s)) bs (at + (3 + length s))) (λ m.
    and_then (map_err (fault_at at) (and_then (row_path s) (λ p. placed seen p m.0))) (λ r.
    Ok (r, at + (3 + length s) + m.1)))

-- ---- the marker of an opaque directory

-- a path field that names the marker of that directory
abbrev pub marks_opaque : Names → Field → Bool
marks_opaque p f = f.0 == 1 && same (marker_text p) f.1

abbrev pub marker_at : Names → List ℕ → ℕ → Option (Field)
marker_at p bs at = option_and_then (λ f. cond (marks_opaque p f) (Some f) None) (front_field (drop at bs))

-- a whiteout field, by the bytes that it takes
abbrev pub whiteout_span : Field → Option ℕ
whiteout_span f = cond (is_whiteout f) (Some (span f)) None

-- the directory is opaque if its marker follows; behind the marker a whiteout field has to stand
abbrev pub opaque_if : Names → Mark → ℕ → List ℕ → Option Field → Result Step LayerFault
opaque_if p x at bs None = Ok ((p, x), at)
opaque_if p Whiteout at bs (Some f) = Ok ((p, Whiteout), at)
opaque_if p (File e) at bs (Some f) = Ok ((p, File e), at)
opaque_if p (Opaque d) at bs (Some f) = Ok ((p, Opaque d), at)
opaque_if p (Dir d) at bs (Some f) = and_then (taken whiteout_span bs (at + span f)) (λ n. Ok ((p, Opaque d), at + span f + n))

-- a row with the marker that may follow it
abbrev pub marked_row : List ℕ → Step → Result Step LayerFault
marked_row bs s = opaque_if s.0.0 s.0.1 s.1 bs (marker_at s.0.0 bs s.1)

-- ---- the file

-- at the count: as many rows as it says, and no byte behind it
abbrev pub ended : List MarkRow → List ℕ → ℕ → ℕ → Result (Option Step) LayerFault
ended seen bs at n =
    cond (n == length seen) (cond (length bs == at + 5) (Ok None) (Err (fault_at (at + 5) cause.Count))) (Err (fault_at at cause.Count))

abbrev pub row_step : List MarkRow → List ℕ → ℕ → List ℕ → Result (Option Step) LayerFault
row_step seen bs at s =
    cond (is_marker s) (Err (fault_at at cause.Field)) (and_then (row_at seen bs at s) (λ r. and_then (marked_row bs r) (λ t. Ok (Some t))))

-- the text of a path field, or else the count
abbrev pub unit_of : List MarkRow → List ℕ → ℕ → Option (List ℕ) → Option ℕ → Result (Option Step) LayerFault
unit_of seen bs at (Some s) n = row_step seen bs at s
unit_of seen bs at None (Some n) = ended seen bs at n
unit_of seen bs at None None = Err (fault_at at cause.Field)

-- what stands at a position, behind the rows seen: a row, or the end
abbrev pub unit_at : List MarkRow → List ℕ → ℕ → Result (Option Step) LayerFault
unit_at seen bs at = unit_of seen bs at (option_and_then text_of (front_field (drop at bs))) (option_and_then count_of (front_field (drop at bs)))

-- the rows from a position on, behind those seen, in at most so many steps
unfoldable pub rows_from : ℕ → List MarkRow → List ℕ → ℕ → Result (List MarkRow) LayerFault
rows_from zero seen bs at = Err (fault_at at cause.TooMany)
rows_from (suc k) seen bs at = and_then (unit_at seen bs at) (λ o. elim o [ None ↦ Ok seen | Some t ↦ rows_from k (seen ++ t.0 ∷ []) bs t.1 ])

abbrev pub versioned : ℕ → List ℕ → Result (List MarkRow) LayerFault
versioned v bs = cond (v == 1) (rows_from 193 [] bs 4) (Err (fault_at 0 cause.Version))

-- the rows of a file: there are at most 192, and so no more than 193 steps to its end
abbrev pub decoded : List ℕ → Result (List MarkRow) LayerFault
decoded bs = and_then (taken version_of bs 0) (λ v. versioned v bs)
