-- What is written of a layer reads back as that layer. Assumes nothing.
use Rattle.std.proofs.Common.{◌≡◌, ℕ, zero, suc, ◌+◌, ◌<◌, ◌≤◌, true, false, eqb, List, [], ◌∷◌, ◌++◌, length, Some, None, Ok, Err, Option, Result, sym, refl, ap, ◌∙◌, subst, append_assoc, append-nil, arith}
use Rattle.std.proofs.lemmas.List.{length-append, length-drop}
use Rattle.std.proofs.lemmas.Bool.{true≢false, cond-true, eq-eqb, and_from}
use Rattle.std.specs.Option.{option_and_then}
use Rattle.paths.specs.Names.{join, parent}
use Rattle.paths.specs.Steps.{and_then}
use Rattle.rows.specs.Maps.{Names, at, ascending}
use Rattle.rows.proofs.Risen.{rising}
use Rattle.rows.proofs.Earlier.{parent-before, passed-earlier, itself-there}
use Rattle.trees.specs.declared.entry.Entry.TheVariants as entry
use Rattle.trees.specs.Entries.{fine}
use Rattle.trees.proofs.Grown.{Sound, grown_head}
use Rattle.marks.specs.declared.mark.Mark.{Mark}
use Rattle.marks.specs.declared.mark.Mark.TheVariants.{Whiteout, File, Dir, Opaque}
use Rattle.marks.specs.Marks.{MarkRow, marks_dir, ranged, sound, layered}
use Rattle.marks.proofs.Merges.{layer_parts}
use Rattle.layer_fields.specs.declared.fault.LayerFault.{LayerFault}
use Rattle.layer_fields.specs.declared.fault.Cause.TheVariants as cause
use Rattle.layer_fields.specs.Faults.{fault_at}
use Rattle.layer_fields.specs.Fields.{field_bytes}
use Rattle.layer_fields.specs.Said.{text_of, count_of, version_of, text_field, entry_field, whiteout_field, version_field, count_field}
use Rattle.layer_fields.specs.Texts.{whiteout_text, marker_text, is_marker}
use Rattle.layer_fields.proofs.Read.{count-back}
use Rattle.layer_fields.proofs.ReadTexts.{path-no-marker, marker-alone, whiteout-no-marker, whiteout-short}
use Rattle.layer_files.specs.Files.{row_bytes, rows_bytes, encoded}
use Rattle.layer_files.specs.Reads.{Step, fitting, under_dir, unit_of, unit_at, rows_from, versioned, decoded}
use Rattle.layer_files.proofs.Forth.{Stands, field-there, behind, taken-there, Unmarked, row-back, two-fields, four-fields}
use Rattle.layer_files.proofs.Placed.{Placed}
use Rattle.trees.proofs.Fine.{fine-short}

-- ---- what follows a row

-- the field in front of a row is no marker of another
module _ (p : Names) (f : fine p ≡ true) (rest : List ℕ) where
  led : (s : List ℕ) (more : List ℕ) (bytes : List ℕ) → is_marker s ≡ false → length s ≤ 124 → bytes ≡ field_bytes (text_field s) ++ more → Unmarked p bytes
  led s more bytes m l e = record { first = text_field s; rest = more; is = e; short = omega arith; other = marker-alone p f s m }

  row-unmarked : (q : Names) (x : Mark) → fine q ≡ true → fitting q x ≡ true → Unmarked p (row_bytes (q, x) ++ rest)
  row-unmarked [] Whiteout g h = absurd (true≢false (sym h))
  row-unmarked (n ∷ r) Whiteout g h =
      led (whiteout_text (n ∷ r)) (field_bytes whiteout_field ++ rest) _ (whiteout-no-marker n r g) (whiteout-short n r g) (two-fields (text_field (whiteout_text (n ∷ r))) whiteout_field rest)
  row-unmarked q (File e) g h =
      led (join q) (field_bytes (entry_field (entry.File e)) ++ rest) _ (path-no-marker q g) (omega (arith, fine-short q g)) (two-fields (text_field (join q)) (entry_field (entry.File e)) rest)
  row-unmarked q (Dir d) g h =
      led (join q) (field_bytes (entry_field (entry.Dir d)) ++ rest) _ (path-no-marker q g) (omega (arith, fine-short q g)) (two-fields (text_field (join q)) (entry_field (entry.Dir d)) rest)
  row-unmarked q (Opaque d) g h =
      led (join q) (field_bytes (entry_field (entry.Dir d)) ++ (field_bytes (text_field (marker_text q)) ++ (field_bytes whiteout_field ++ rest))) _ (path-no-marker q g) (omega (arith, fine-short q g)) (four-fields (text_field (join q)) (entry_field (entry.Dir d)) (text_field (marker_text q)) whiteout_field rest)

  count-unmarked : (n : ℕ) → Unmarked p (field_bytes (count_field n))
  count-unmarked n = record { first = count_field n; rest = []; is = sym (append-nil (field_bytes (count_field n))); short = omega arith; other = refl }

-- ---- the end

ended-there : (seen : List MarkRow) (bs : List ℕ) (at : ℕ) → length seen < 65536 → Stands bs at (field_bytes (count_field (length seen))) → unit_at seen bs at ≡ Ok None
ended-there seen bs at l h =
    let n : ℕ = length seen in
    let is = field-there bs at (count_field n) [] (h ∙ sym (append-nil (field_bytes (count_field n)))) (omega arith) in
    let end : length bs ≡ at + 5 = omega (arith, length-drop at bs, ap length h) in
    ap (λ o. unit_of seen bs at (option_and_then text_of o) (option_and_then count_of o)) is
    ∙ ap (unit_of seen bs at None) (count-back n l)
    ∙ cond-true (eqb n n) _ (Err (fault_at at cause.Count)) (eq-eqb n n refl)
    ∙ cond-true (eqb (length bs) (at + 5)) (Ok None) (Err (fault_at (at + 5) cause.Count)) (eq-eqb (length bs) (at + 5) end)

-- ---- row by row

-- one step
abbrev turned : ℕ → List MarkRow → List ℕ → Option Step → Result (List MarkRow) LayerFault
turned k seen bs None = Ok seen
turned k seen bs (Some t) = rows_from k (seen ++ t.0 ∷ []) bs t.1

turn : (k : ℕ) (seen : List MarkRow) (bs : List ℕ) (at : ℕ) (o : Option Step) → unit_at seen bs at ≡ Ok o → rows_from (suc k) seen bs at ≡ turned k seen bs o
unfolding rows_from
turn k seen bs at o h = ap (λ z. and_then z (turned k seen bs)) h

module _ (all : List MarkRow) (a : ascending all ≡ true) (few : length all ≤ 192) where
  abbrev Sound-row : Names → Mark → Type 0
  Sound-row p x = Sound ranged marks_dir all (p, x)

  fits-so : (seen : List MarkRow) (p : Names) (x : Mark) (rest : List MarkRow) → all ≡ seen ++ (p, x) ∷ rest → Sound-row p x → fitting p x ≡ true
  fits-so seen [] x rest is s =
      let there : at all [] ≡ Some x = ap (λ z. at z []) is ∙ itself-there seen ([], x) rest (subst (λ z. ascending z ≡ true) is a) in
      and_from (ranged x) (marks_dir (Some x)) s.ranged (sym (ap marks_dir there) ∙ s.under)
  fits-so seen (n ∷ p) x rest is s = s.ranged

  under-so : (seen : List MarkRow) (p : Names) (x : Mark) (rest : List MarkRow) → all ≡ seen ++ (p, x) ∷ rest → Sound-row p x → under_dir seen p ≡ true
  under-so seen [] x rest is s = refl
  under-so seen (n ∷ p) x rest is s =
      passed-earlier seen (n ∷ p, x) rest (subst (λ z. ascending z ≡ true) is a) marks_dir refl (parent (n ∷ p)) (parent-before n p) (subst (λ z. marks_dir (at z (parent (n ∷ p))) ≡ true) is s.under)

  stood : (seen : List MarkRow) (p : Names) (x : Mark) (rest : List MarkRow) → all ≡ seen ++ (p, x) ∷ rest → Sound-row p x → Placed seen (p, x)
  stood seen p x rest is s = record {
    good = s.good;
    fits = fits-so seen p x rest is s;
    rise = rising seen (p, x) rest (subst (λ z. ascending z ≡ true) is a);
    under = under-so seen p x rest is s;
    few = omega (arith, ap length is, length-append seen ((p, x) ∷ rest));
  }

  abbrev end : List ℕ
  end = field_bytes (count_field (length all))

  next-unmarked : (p : Names) → fine p ≡ true → (seen rest : List MarkRow) → all ≡ seen ++ rest → sound all rest ≡ true → Unmarked p (rows_bytes rest ++ end)
  next-unmarked p f seen [] is s = count-unmarked p f [] (length all)
  next-unmarked p f seen (r ∷ rest) is s =
      let t = stood seen r.0 r.1 rest is (grown_head ranged marks_dir all r rest s).0 in
      subst (Unmarked p) (sym (append_assoc (row_bytes r) (rows_bytes rest) end)) (row-unmarked p f (rows_bytes rest ++ end) r.0 r.1 t.good t.fits)

  module _ (bs : List ℕ) where
    rows-back : (rest seen : List MarkRow) (k at : ℕ) → all ≡ seen ++ rest → sound all rest ≡ true → length rest < k → Stands bs at (rows_bytes rest ++ end) → rows_from k seen bs at ≡ Ok all
    rows-back rest seen zero at is s l h = absurd (omega arith)
    rows-back [] seen (suc k) at is s l h =
        let same : all ≡ seen = is ∙ append-nil seen in
        turn k seen bs at None (ended-there seen bs at (omega (arith, ap length same)) (h ∙ ap (λ z. field_bytes (count_field (length z))) same)) ∙ ap Ok (sym same)
    rows-back (r ∷ rest) seen (suc k) at is s l h =
        let g = grown_head ranged marks_dir all r rest s in
        let after : List ℕ = rows_bytes rest ++ end in
        let more : all ≡ (seen ++ r ∷ []) ++ rest = is ∙ sym (append_assoc seen (r ∷ []) rest) in
        let t = stood seen r.0 r.1 rest is g.0 in
        let b = row-back seen bs at r.0 r.1 after t (next-unmarked r.0 t.good (seen ++ r ∷ []) rest more g.1) (h ∙ append_assoc (row_bytes r) (rows_bytes rest) end) in
        turn k seen bs at (Some (r, b.0)) b.1 ∙ rows-back rest (seen ++ r ∷ []) k b.0 more g.1 (omega arith) b.2

-- ---- the whole file

pub reads-back : (m : List MarkRow) → layered m ≡ true → length m ≤ 192 → decoded (encoded m) ≡ Ok m
reads-back m h few =
    let p = layer_parts m h in
    let bs : List ℕ = encoded m in
    let rest : List ℕ = rows_bytes m ++ field_bytes (count_field (length m)) in
    let first = field-there bs 0 version_field rest refl (omega arith) in
    ap (λ v. and_then v (λ v. versioned v bs)) (taken-there version_of bs 0 version_field 1 first refl)
    ∙ rows-back m p.0 few bs m [] 193 4 refl p.1 (omega arith) (behind bs 0 version_field rest refl)
