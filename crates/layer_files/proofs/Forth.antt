-- What one written row reads back as. Assumes nothing.
use Rattle.std.proofs.Common.{◌≡◌, ℕ, ◌+◌, ◌<◌, true, false, cond, List, [], ◌∷◌, ◌++◌, length, drop, Some, None, Ok, Err, Option, sym, refl, ap, ◌∙◌, append_assoc, arith}
use Rattle.std.proofs.lemmas.List.{drop-drop}
use Rattle.std.proofs.lemmas.Bool.{true≢false, cond-true, cond-false}
use Rattle.std.specs.Option.{option_map, option_and_then, ok_or}
use Rattle.paths.specs.Names.{join, same}
use Rattle.paths.specs.Steps.{and_then, map_err}
use Rattle.paths.proofs.Tests.{same-itself}
use Rattle.rows.specs.Maps.{Names, at}
use Rattle.trees.specs.declared.entry.Entry.{Entry}
use Rattle.trees.specs.declared.entry.DirMeta.{DirMeta}
use Rattle.trees.specs.declared.entry.FileMeta.{FileMeta}
use Rattle.trees.specs.declared.entry.Entry.TheVariants as entry
use Rattle.trees.specs.Entries.{fine, in_range}
use Rattle.marks.specs.declared.mark.Mark.{Mark}
use Rattle.marks.specs.declared.mark.Mark.TheVariants.{Whiteout, File, Dir, Opaque}
use Rattle.marks.specs.Marks.{MarkRow, mark_of, marks_dir}
use Rattle.layer_fields.specs.declared.fault.Cause.TheVariants as cause
use Rattle.layer_fields.specs.Faults.{fault_at}
use Rattle.layer_fields.specs.Fields.{Field, field_bytes, front_field, span}
use Rattle.layer_fields.specs.Said.{text_of, count_of, text_field, entry_field, whiteout_field}
use Rattle.layer_fields.specs.Texts.{whiteout_text, marker_text, is_marker, has_whiteout_prefix, row_path}
use Rattle.layer_fields.proofs.Read.{front-back, behind-field, entry-back, entry-short}
use Rattle.layer_fields.proofs.ReadTexts.{path-no-prefix, path-no-marker, path-back, marker-short, whiteout-prefixed, whiteout-no-marker, whiteout-back, whiteout-short}
use Rattle.layer_files.specs.Files.{fields_bytes, row_bytes}
use Rattle.layer_files.proofs.Placed.{Placed, placed_by, fits_ranged, dir_placed}
use Rattle.layer_files.specs.Reads.{taken, mark_in, placed, Step, row_at, marks_opaque, marker_at, whiteout_span, opaque_if, marked_row, row_step, unit_of, unit_at}
use Rattle.trees.proofs.Fine.{fine-short}

-- ---- a field at a position

-- the bytes from a position on
abbrev pub Stands : List ℕ → ℕ → List ℕ → Type 0
Stands bs at s = drop at bs ≡ s

module _ (bs : List ℕ) (at : ℕ) (f : Field) (rest : List ℕ) (h : Stands bs at (field_bytes f ++ rest)) where
  pub field-there : length f.1 < 65536 → front_field (drop at bs) ≡ Some f
  field-there l = ap front_field h ∙ front-back f rest l

  pub behind : Stands bs (at + span f) rest
  behind = sym (drop-drop (span f) at bs) ∙ ap (drop (span f)) h ∙ behind-field f rest

pub taken-there : {A : Type 0} (rule : Field → Option A) (bs : List ℕ) (at : ℕ) (f : Field) (x : A) → front_field (drop at bs) ≡ Some f → rule f ≡ Some x → taken rule bs at ≡ Ok x
taken-there rule bs at f x h r = ap (λ o. ok_or (option_and_then rule o) (fault_at at cause.Field)) h ∙ ap (λ o. ok_or o (fault_at at cause.Field)) r

-- ---- the row before a marker

module _ (seen : List MarkRow) (bs : List ℕ) (at : ℕ) (s : List ℕ) (p : Names) (x : Mark) (n : ℕ) where
  row-there : taken (mark_in (has_whiteout_prefix s)) bs (at + (3 + length s)) ≡ Ok (x, n) → row_path s ≡ Ok p → placed seen p x ≡ Ok (p, x) → row_at seen bs at s ≡ Ok ((p, x), at + (3 + length s) + n)
  row-there t w l =
      ap (λ m. and_then m (λ y. and_then (map_err (fault_at at) (and_then (row_path s) (λ q. placed seen q y.0))) (λ r. Ok (r, at + (3 + length s) + y.1)))) t
      ∙ ap (λ m. and_then (map_err (fault_at at) (and_then m (λ q. placed seen q x))) (λ r. Ok (r, at + (3 + length s) + n))) w
      ∙ ap (λ m. and_then (map_err (fault_at at) m) (λ r. Ok (r, at + (3 + length s) + n))) l

  -- with what follows it
  step-there : (t : Step) → is_marker s ≡ false → row_at seen bs at s ≡ Ok ((p, x), n) → marked_row bs ((p, x), n) ≡ Ok t → row_step seen bs at s ≡ Ok (Some t)
  step-there t h r m =
      cond-false (is_marker s) (Err (fault_at at cause.Field)) _ h
      ∙ ap (λ r. and_then r (λ y. and_then (marked_row bs y) (λ t. Ok (Some t)))) r
      ∙ ap (λ r. and_then r (λ t. Ok (Some t))) m

-- ---- what is behind a row

-- a mark that no marker changes
unmarked : (p : Names) (x : Mark) (at : ℕ) (bs : List ℕ) → marks_dir (Some x) ≡ false → (o : Option Field) → opaque_if p x at bs o ≡ Ok ((p, x), at)
unmarked p Whiteout at bs h None = refl
unmarked p Whiteout at bs h (Some f) = refl
unmarked p (File e) at bs h None = refl
unmarked p (File e) at bs h (Some f) = refl
unmarked p (Dir d) at bs h o = cc
unmarked p (Opaque d) at bs h o = cc

-- a field that is no marker
unopened : (p : Names) (x : Mark) (at : ℕ) (bs : List ℕ) (f : Field) → front_field (drop at bs) ≡ Some f → marks_opaque p f ≡ false → marked_row bs ((p, x), at) ≡ Ok ((p, x), at)
unopened p x at bs f h m =
    ap (λ o. opaque_if p x at bs (option_and_then (λ g. cond (marks_opaque p g) (Some g) None) o)) h
    ∙ ap (opaque_if p x at bs) (cond-false (marks_opaque p f) (Some f) None m)

-- the field behind a directory is no marker of it
pub record Unmarked (p : Names) (bytes : List ℕ) : Type 0 where
  pub first : Field
  pub rest : List ℕ
  pub is : bytes ≡ field_bytes first ++ rest
  pub short : length first.1 < 65536
  pub other : marks_opaque p first ≡ false

-- ---- the row itself

-- what is read of a row, and what stands behind it
abbrev Back : List MarkRow → List ℕ → ℕ → MarkRow → List ℕ → Type 0
Back seen bs at r rest = (k : ℕ) × (unit_at seen bs at ≡ Ok (Some (r, k))) × Stands bs k rest

unit-there : (seen : List MarkRow) (bs : List ℕ) (at : ℕ) (s : List ℕ) (t : Step) → front_field (drop at bs) ≡ Some (text_field s) → row_step seen bs at s ≡ Ok (Some t) → unit_at seen bs at ≡ Ok (Some t)
unit-there seen bs at s t h r = ap (λ o. unit_of seen bs at (option_and_then text_of o) (option_and_then count_of o)) h ∙ r

module _ (seen : List MarkRow) (bs : List ℕ) (at : ℕ) (p : Names) (f : fine p ≡ true) where
  -- a path and an entry
  module _ (e : Entry) (rest : List ℕ) (g : in_range e ≡ true) (l : placed seen p (mark_of e) ≡ Ok (p, mark_of e)) (h : Stands bs at (field_bytes (text_field (join p)) ++ (field_bytes (entry_field e) ++ rest))) where
    abbrev second : ℕ
    second = at + (3 + length (join p))

    abbrev after : ℕ
    after = second + span (entry_field e)

    text-is : front_field (drop at bs) ≡ Some (text_field (join p))
    text-is = field-there bs at (text_field (join p)) (field_bytes (entry_field e) ++ rest) h (omega (arith, fine-short p f))

    at-second : Stands bs second (field_bytes (entry_field e) ++ rest)
    at-second = behind bs at (text_field (join p)) (field_bytes (entry_field e) ++ rest) h

    entry-is : front_field (drop second bs) ≡ Some (entry_field e)
    entry-is = field-there bs second (entry_field e) rest at-second (omega (arith, entry-short e))

    mark-is : mark_in (has_whiteout_prefix (join p)) (entry_field e) ≡ Some (mark_of e, span (entry_field e))
    mark-is =
        ap (λ b. mark_in b (entry_field e)) (path-no-prefix p f) ∙ ap (option_map (λ x. (mark_of x, span (entry_field e)))) (entry-back e g)

    row-is : row_at seen bs at (join p) ≡ Ok ((p, mark_of e), after)
    row-is =
        row-there seen bs at (join p) p (mark_of e) (span (entry_field e)) (taken-there (mark_in (has_whiteout_prefix (join p))) bs second (entry_field e) (mark_of e, span (entry_field e)) entry-is mark-is) (path-back p f) l

    behind-row : Stands bs after rest
    behind-row = behind bs second (entry_field e) rest at-second

    unit-is : (t : Step) → marked_row bs ((p, mark_of e), after) ≡ Ok t → unit_at seen bs at ≡ Ok (Some t)
    unit-is t m = unit-there seen bs at (join p) t text-is (step-there seen bs at (join p) p (mark_of e) after t (path-no-marker p f) row-is m)

  file-row : (e : FileMeta) (rest : List ℕ) → in_range (entry.File e) ≡ true → placed seen p (File e) ≡ Ok (p, File e) → Stands bs at (field_bytes (text_field (join p)) ++ (field_bytes (entry_field (entry.File e)) ++ rest)) → Back seen bs at (p, File e) rest
  file-row e rest g l h =
      let k = after (entry.File e) rest g l h in (
        k,
        unit-is (entry.File e) rest g l h ((p, File e), k) (unmarked p (File e) k bs refl (marker_at p bs k)),
        behind-row (entry.File e) rest g l h,
      )

  dir-row : (d : DirMeta) (rest : List ℕ) → in_range (entry.Dir d) ≡ true → placed seen p (Dir d) ≡ Ok (p, Dir d) → Unmarked p rest → Stands bs at (field_bytes (text_field (join p)) ++ (field_bytes (entry_field (entry.Dir d)) ++ rest)) → Back seen bs at (p, Dir d) rest
  dir-row d rest g l u h =
      let k = after (entry.Dir d) rest g l h in
      let b = behind-row (entry.Dir d) rest g l h in
      let next = field-there bs k u.first u.rest (b ∙ u.is) u.short in
      (k, unit-is (entry.Dir d) rest g l h ((p, Dir d), k) (unopened p (Dir d) k bs u.first next u.other), b)

  -- a directory and its marker
  opaque-row : (d : DirMeta) (rest : List ℕ) → in_range (entry.Dir d) ≡ true → placed seen p (Dir d) ≡ Ok (p, Dir d) → Stands bs at (field_bytes (text_field (join p)) ++ (field_bytes (entry_field (entry.Dir d)) ++ (field_bytes (text_field (marker_text p)) ++ (field_bytes whiteout_field ++ rest)))) → Back seen bs at (p, Opaque d) rest
  opaque-row d rest g l h =
      let m : Field = text_field (marker_text p) in
      let more : List ℕ = field_bytes whiteout_field ++ rest in
      let k = after (entry.Dir d) (field_bytes m ++ more) g l h in
      let b = behind-row (entry.Dir d) (field_bytes m ++ more) g l h in
      let c = behind bs k m more b in
      let is = field-there bs k m more b (omega (arith, marker-short p f)) in
      let white = field-there bs (k + span m) whiteout_field rest c (omega arith) in
      let found : marker_at p bs k ≡ Some m = ap (option_and_then (λ x. cond (marks_opaque p x) (Some x) None)) is ∙ cond-true (same (marker_text p) (marker_text p)) (Some m) None (same-itself (marker_text p)) in
      let opened : marked_row bs ((p, Dir d), k) ≡ Ok ((p, Opaque d), k + span m + 3) =
      ap (opaque_if p (Dir d) k bs) found
      ∙ ap (λ z. and_then z (λ n. Ok ((p, Opaque d), k + span m + n))) (taken-there whiteout_span bs (k + span m) whiteout_field 3 white refl) in
      (k + span m + 3, unit-is (entry.Dir d) (field_bytes m ++ more) g l h ((p, Opaque d), k + span m + 3) opened, behind bs (k + span m) whiteout_field rest c)

module _ (seen : List MarkRow) (bs : List ℕ) (at : ℕ) (n : List ℕ) (r : Names) (f : fine (n ∷ r) ≡ true) (rest : List ℕ) where
  whiteout-row : placed seen (n ∷ r) Whiteout ≡ Ok (n ∷ r, Whiteout) → Stands bs at (field_bytes (text_field (whiteout_text (n ∷ r))) ++ (field_bytes whiteout_field ++ rest)) → Back seen bs at (n ∷ r, Whiteout) rest
  whiteout-row l h =
      let p : Names = n ∷ r in
      let s : List ℕ = whiteout_text (n ∷ r) in
      let k : ℕ = at + (3 + length s) in
      let is = field-there bs at (text_field s) (field_bytes whiteout_field ++ rest) h (omega (arith, whiteout-short n r f)) in
      let c = behind bs at (text_field s) (field_bytes whiteout_field ++ rest) h in
      let white = field-there bs k whiteout_field rest c (omega arith) in
      let mark : mark_in (has_whiteout_prefix s) whiteout_field ≡ Some (Whiteout, 3) = ap (λ b. mark_in b whiteout_field) (whiteout-prefixed n r f) in
      let row = row-there seen bs at s p Whiteout 3 (taken-there (mark_in (has_whiteout_prefix s)) bs k whiteout_field (Whiteout, 3) white mark) (whiteout-back n r f) l in (
        k + 3,
        unit-there seen bs at s ((p, Whiteout), k + 3) is (step-there seen bs at s p Whiteout (k + 3) ((p, Whiteout), k + 3) (whiteout-no-marker n r f) row (unmarked p Whiteout (k + 3) bs refl (marker_at p bs (k + 3)))),
        behind bs k whiteout_field rest c,
      )

-- ---- any row

pub two-fields : (f g : Field) (rest : List ℕ) → fields_bytes (f ∷ g ∷ []) ++ rest ≡ field_bytes f ++ (field_bytes g ++ rest)
two-fields f g rest =
    append_assoc (field_bytes f) (field_bytes g ++ []) rest ∙ ap (λ l. field_bytes f ++ l) (append_assoc (field_bytes g) [] rest)

pub four-fields : (f g h i : Field) (rest : List ℕ) → fields_bytes (f ∷ g ∷ h ∷ i ∷ []) ++ rest ≡ field_bytes f ++ (field_bytes g ++ (field_bytes h ++ (field_bytes i ++ rest)))
four-fields f g h i rest =
    append_assoc (field_bytes f) (field_bytes g ++ fields_bytes (h ∷ i ∷ [])) rest
    ∙ ap (λ l. field_bytes f ++ l) (append_assoc (field_bytes g) (fields_bytes (h ∷ i ∷ [])) rest ∙ ap (λ l. field_bytes g ++ l) (two-fields h i rest))

pub row-back : (seen : List MarkRow) (bs : List ℕ) (at : ℕ) (p : Names) (x : Mark) (rest : List ℕ) → Placed seen (p, x) → Unmarked p rest → Stands bs at (row_bytes (p, x) ++ rest) → Back seen bs at (p, x) rest
row-back seen bs at [] Whiteout rest s u h = absurd (true≢false (sym s.fits))
row-back seen bs at (n ∷ r) Whiteout rest s u h =
    whiteout-row seen bs at n r s.good rest (placed_by seen (n ∷ r) Whiteout s) (h ∙ two-fields (text_field (whiteout_text (n ∷ r))) whiteout_field rest)
row-back seen bs at p (File e) rest s u h =
    file-row seen bs at p s.good e rest (fits_ranged p (File e) s.fits) (placed_by seen p (File e) s) (h ∙ two-fields (text_field (join p)) (entry_field (entry.File e)) rest)
row-back seen bs at p (Dir d) rest s u h =
    dir-row seen bs at p s.good d rest (fits_ranged p (Dir d) s.fits) (placed_by seen p (Dir d) s) u (h ∙ two-fields (text_field (join p)) (entry_field (entry.Dir d)) rest)
row-back seen bs at p (Opaque d) rest s u h =
    opaque-row seen bs at p s.good d rest (fits_ranged p (Opaque d) s.fits)
    (placed_by seen p (Dir d) (dir_placed seen p d s))
    (h ∙ four-fields (text_field (join p)) (entry_field (entry.Dir d)) (text_field (marker_text p)) whiteout_field rest)
