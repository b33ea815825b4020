-- What was taken from the bytes: fields, rows, and the end. Assumes nothing.
use Rattle.std.proofs.Common.{◌≡◌, ℕ, ◌+◌, Bool, true, false, cond, eqb, List, [], ◌∷◌, ◌++◌, length, drop, Some, None, Ok, Err, Option, Result, sym, refl, ap, ◌∙◌, subst, append_assoc, append-nil, arith}
use Rattle.std.proofs.lemmas.List.{drop-drop, drop_all}
use Rattle.std.proofs.lemmas.Bool.{and_parts, eqb-true}
use Rattle.std.specs.Option.{option_map, option_and_then, ok_or}
use Rattle.paths.specs.Names.{join, same}
use Rattle.paths.specs.Steps.{and_then, map_err}
use Rattle.paths.proofs.Tests.{same-exact}
use Rattle.paths.proofs.Granted.{then_ok, if_ok, if_some, mapped_ok}
use Rattle.rows.specs.Maps.{Names}
use Rattle.trees.specs.declared.entry.Entry.{Entry}
use Rattle.trees.specs.declared.entry.Entry.TheVariants as entry
use Rattle.trees.specs.declared.entry.DirMeta.{DirMeta}
use Rattle.trees.proofs.Fine.{Bytes}
use Rattle.marks.specs.declared.mark.Mark.{Mark}
use Rattle.marks.specs.declared.mark.Mark.TheVariants.{Whiteout, File, Dir, Opaque}
use Rattle.marks.specs.Marks.{MarkRow, mark_of}
use Rattle.layer_fields.specs.declared.fault.Cause.TheVariants as cause
use Rattle.layer_fields.specs.declared.fault.LayerFault.{LayerFault}
use Rattle.layer_fields.specs.Faults.{fault_at}
use Rattle.layer_fields.specs.Fields.{Field, field_bytes, front_field, span}
use Rattle.layer_fields.specs.Said.{text_of, text_field, entry_of, entry_field, is_whiteout, whiteout_field, count_of, count_field}
use Rattle.layer_fields.specs.Texts.{marker_text, is_marker, has_whiteout_prefix, row_path}
use Rattle.layer_fields.proofs.Fronts.{bytes_drop, fronted, text_field_is, entry_field_is, whiteout_field_is, count_field_is}
use Rattle.layer_fields.proofs.RowTexts.{path_written, whiteout_written, row_path_fine}
use Rattle.layer_files.specs.Files.{row_fields, fields_bytes, row_bytes}
use Rattle.layer_files.proofs.Placed.{Placed, placed_ok, opaque_placed}
use Rattle.layer_files.specs.Reads.{taken, mark_in, placed, Step, row_at, marks_opaque, marker_at, whiteout_span, opaque_if, marked_row, ended, row_step, unit_of, unit_at}

-- ---- a rule that took a field

some_ok : {A E : Type 0} (o : Option A) (e : E) (a : A) → ok_or o e ≡ Ok a → o ≡ Some a
some_ok None e a h = cc
some_ok (Some b) e a h =
    let is : b ≡ a = cc in
    ap Some is

pub taken_ok : {A : Type 0} (rule : Field → Option A) (bs : List ℕ) (at : ℕ) (a : A) → taken rule bs at ≡ Ok a → (f : Field) × (front_field (drop at bs) ≡ Some f) × (rule f ≡ Some a)
taken_ok rule bs at a h = go (front_field (drop at bs)) h where
  go : (o : Option Field) → ok_or (option_and_then rule o) (fault_at at cause.Field) ≡ Ok a → (f : Field) × (o ≡ Some f) × (rule f ≡ Some a)
  go None h = cc
  go (Some f) h = (f, refl, some_ok (rule f) (fault_at at cause.Field) a h)

unless_ok : {A E : Type 0} (t : Bool) (r : Result A E) (e : E) (a : A) → cond t (Err e) r ≡ Ok a → r ≡ Ok a
unless_ok true r e a h = cc
unless_ok false r e a h = h

module _ (bs : List ℕ) (b : Bytes bs) where
  -- the bytes at a position are those of the field there, and what follows
  pub field_read : (at : ℕ) (f : Field) → front_field (drop at bs) ≡ Some f → (drop at bs ≡ field_bytes f ++ drop (at + span f) bs) × Bytes f.1
  field_read at f h =
      let w = fronted (drop at bs) f (bytes_drop at bs b) h in
      (w.whole ∙ ap (λ s. field_bytes f ++ s) (drop-drop (span f) at bs), w.bytes)

  -- the same of two fields, one behind the other
  two_read : (at : ℕ) (f g : Field) → front_field (drop at bs) ≡ Some f → front_field (drop (at + span f) bs) ≡ Some g → drop at bs ≡ fields_bytes (f ∷ g ∷ []) ++ drop (at + span f + span g) bs
  two_read at f g hf hg =
      (field_read at f hf).0 ∙ ap (λ s. field_bytes f ++ s) ((field_read (at + span f) g hg).0 ∙ ap (λ s. s ++ drop (at + span f + span g) bs) (sym (append-nil (field_bytes g))))
      ∙ sym (append_assoc (field_bytes f) (field_bytes g ++ []) (drop (at + span f + span g) bs))

-- ---- a row

row_fields_of : (p : Names) (e : Entry) → row_fields p (mark_of e) ≡ text_field (join p) ∷ entry_field e ∷ []
row_fields_of p (entry.File f) = refl
row_fields_of p (entry.Dir d) = refl

-- how many bytes the field of a mark takes
mark_span : (t : Bool) (f : Field) (m : Mark × ℕ) → mark_in t f ≡ Some m → span f ≡ m.1
mark_span true f m h =
    let q = if_some (is_whiteout f) (Some (Whiteout, span f)) m h in
    cc q.1
mark_span false f m h = go (entry_of f) h where
  go : (o : Option Entry) → option_map (λ e. (mark_of e, span f)) o ≡ Some m → span f ≡ m.1
  go None h = cc
  go (Some e) h = cc

-- a path's text and the field behind it are written for the mark that they give
module _ (s : List ℕ) (p : Names) (f : Field) (m : Mark × ℕ) (path : row_path s ≡ Ok p) (b : Bytes f.1) where
  entry_written : has_whiteout_prefix s ≡ false → (o : Option Entry) → entry_of f ≡ o → option_map (λ e. (mark_of e, span f)) o ≡ Some m → text_field s ∷ f ∷ [] ≡ row_fields p m.0
  entry_written w None e h = cc
  entry_written w (Some v) e h =
      let is : mark_of v ≡ m.0 = cc in
      (λ i. text_field (path_written s p w path i) ∷ entry_field_is f v b e i ∷ []) ∙ sym (row_fields_of p v) ∙ ap (row_fields p) is

  mark_written : mark_in (has_whiteout_prefix s) f ≡ Some m → text_field s ∷ f ∷ [] ≡ row_fields p m.0
  mark_written h = go (has_whiteout_prefix s) refl h where
    go : (t : Bool) → has_whiteout_prefix s ≡ t → mark_in t f ≡ Some m → text_field s ∷ f ∷ [] ≡ row_fields p m.0
    go true w h =
        let q = if_some (is_whiteout f) (Some (Whiteout, span f)) m h in
        let is : Whiteout ≡ m.0 = cc q.1 in
        (λ i. text_field (whiteout_written s p w path i) ∷ whiteout_field_is f q.0 i ∷ []) ∙ ap (row_fields p) is
    go false w h = entry_written w (entry_of f) refl h

-- a row that may stand there, and what the bytes up to the position behind it are
pub record Taken (seen : List MarkRow) (bs : List ℕ) (at : ℕ) (t : Step) : Type 0 where
  pub row : Placed seen t.0
  pub bytes : Bytes bs → drop at bs ≡ row_bytes t.0 ++ drop t.1 bs

fields_append : (fs gs : List Field) → fields_bytes (fs ++ gs) ≡ fields_bytes fs ++ fields_bytes gs
fields_append [] gs = refl
fields_append (f ∷ fs) gs = ap (λ s. field_bytes f ++ s) (fields_append fs gs) ∙ sym (append_assoc (field_bytes f) (fields_bytes fs) (fields_bytes gs))

step_is : (x y : MarkRow) (at n k : ℕ) (r : Step) → x ≡ y → n ≡ k → ◌≡◌ {A = Result Step LayerFault} (Ok (y, at + k)) (Ok r) → ◌≡◌ {A = Step} (x, at + n) r
step_is x y at n k r e l h = cc

module _ (seen : List MarkRow) (bs : List ℕ) where
  row_read : (at : ℕ) (s : List ℕ) (p : Names) (f : Field) (m : Mark × ℕ) (x : MarkRow) (r : Step) → front_field (drop at bs) ≡ Some (text_field s) → front_field (drop (at + (3 + length s)) bs) ≡ Some f → mark_in (has_whiteout_prefix s) f ≡ Some m → row_path s ≡ Ok p → placed seen p m.0 ≡ Ok x → ◌≡◌ {A = Result Step LayerFault} (Ok (x, at + (3 + length s) + m.1)) (Ok r) → Taken seen bs at r
  row_read at s p f m x r text there mark path place end =
      let next : ℕ = at + (3 + length s) in
      let k = placed_ok seen p m.0 x (row_path_fine s p path) place in
      subst (Taken seen bs at) (step_is (p, m.0) x next (span f) m.1 r k.0 (mark_span (has_whiteout_prefix s) f m mark) end) (record {
        row = k.1;
        bytes = λ b.
            let w = mark_written s p f m path (field_read bs b next f there).1 mark in
            two_read bs b at (text_field s) f text there ∙ ap (λ fs. fields_bytes fs ++ drop (next + span f) bs) w;
      })

  row_taken : (at : ℕ) (s : List ℕ) (r : Step) → front_field (drop at bs) ≡ Some (text_field s) → row_at seen bs at s ≡ Ok r → Taken seen bs at r
  row_taken at s r text h =
      let next : ℕ = at + (3 + length s) in
      let m = then_ok (taken (mark_in (has_whiteout_prefix s)) bs next) (λ m. and_then (map_err (fault_at at) (and_then (row_path s) (λ p. placed seen p m.0))) (λ r. Ok (r, next + m.1))) r h in
      let f = taken_ok (mark_in (has_whiteout_prefix s)) bs next m.0 m.1 in
      let x = then_ok (map_err (fault_at at) (and_then (row_path s) (λ p. placed seen p m.0.0))) (λ r. Ok (r, next + m.0.1)) r m.2 in
      let p = then_ok (row_path s) (λ p. placed seen p m.0.0) x.0 (mapped_ok (fault_at at) (and_then (row_path s) (λ p. placed seen p m.0.0)) x.0 x.1) in
      row_read at s p.0 f.0 m.0 x.0 r text f.1 f.2 p.1 p.2 x.2

  -- the marker of a directory, as it is written
  marker_is : (p : Names) (next : ℕ) (f : Field) → marker_at p bs next ≡ Some f → (front_field (drop next bs) ≡ Some f) × (f ≡ text_field (marker_text p))
  marker_is p next f h = go (front_field (drop next bs)) h where
    go : (o : Option Field) → option_and_then (λ f. cond (marks_opaque p f) (Some f) None) o ≡ Some f → (o ≡ Some f) × (f ≡ text_field (marker_text p))
    go None h = cc
    go (Some x) h =
        let o = if_some (marks_opaque p x) (Some x) f h in
        let named = and_parts (eqb x.0 1) (same (marker_text p) x.1) o.0 in
        let is : x ≡ f = cc o.1 in
        (ap Some is, sym is ∙ (λ i. (eqb-true x.0 1 named.0 i, same-exact (marker_text p) x.1 named.1 i)))

  marker_read : (at next : ℕ) (p : Names) (d : DirMeta) (f g : Field) → Taken seen bs at ((p, Dir d), next) → front_field (drop next bs) ≡ Some f → f ≡ text_field (marker_text p) → front_field (drop (next + span f) bs) ≡ Some g → g ≡ whiteout_field → Taken seen bs at ((p, Opaque d), next + span f + span g)
  marker_read at next p d f g k there marker behind whiteout =
      let more : List Field = text_field (marker_text p) ∷ whiteout_field ∷ [] in
      let rest : List ℕ = drop (next + span f + span g) bs in
      let marked : Bytes bs → drop next bs ≡ fields_bytes more ++ rest = λ b. two_read bs b next f g there behind ∙ (λ i. fields_bytes (marker i ∷ whiteout i ∷ []) ++ rest) in
      record {
        row = opaque_placed seen p d k.row;
        bytes = λ b.
            k.bytes b ∙ ap (λ s. row_bytes (p, Dir d) ++ s) (marked b) ∙ sym (append_assoc (row_bytes (p, Dir d)) (fields_bytes more) rest)
            ∙ ap (λ s. s ++ rest) (sym (fields_append (row_fields p (Dir d)) more));
      }

  marker_taken : (at next : ℕ) (p : Names) (d : DirMeta) (f : Field) (t : Step) → marker_at p bs next ≡ Some f → Taken seen bs at ((p, Dir d), next) → opaque_if p (Dir d) next bs (Some f) ≡ Ok t → Taken seen bs at t
  marker_taken at next p d f t m k h =
      let a = marker_is p next f m in
      let n = then_ok (taken whiteout_span bs (next + span f)) (λ n. Ok ((p, Opaque d), next + span f + n)) t h in
      let g = taken_ok whiteout_span bs (next + span f) n.0 n.1 in
      let w = if_some (is_whiteout g.0) (Some (span g.0)) n.0 g.2 in
      let long : span g.0 ≡ n.0 = cc w.1 in
      subst (Taken seen bs at) (step_is (p, Opaque d) (p, Opaque d) (next + span f) (span g.0) n.0 t refl long n.2)
      (marker_read at next p d f g.0 k a.0 a.1 g.1 (whiteout_field_is g.0 w.0))

  marked_taken : (at : ℕ) (r t : Step) → Taken seen bs at r → marked_row bs r ≡ Ok t → Taken seen bs at t
  marked_taken at r t k h = go r.0.0 r.0.1 r.1 (marker_at r.0.0 bs r.1) refl k h where
    stays : (r t : Step) → Taken seen bs at r → ◌≡◌ {A = Result Step LayerFault} (Ok r) (Ok t) → Taken seen bs at t
    stays r t k h =
        let is : r ≡ t = cc in
        subst (Taken seen bs at) is k

    go : (p : Names) (x : Mark) (next : ℕ) (o : Option Field) → marker_at p bs next ≡ o → Taken seen bs at ((p, x), next) → opaque_if p x next bs o ≡ Ok t → Taken seen bs at t
    go p x next None m k h = stays ((p, x), next) t k h
    go p Whiteout next (Some f) m k h = stays ((p, Whiteout), next) t k h
    go p (File e) next (Some f) m k h = stays ((p, File e), next) t k h
    go p (Opaque d) next (Some f) m k h = stays ((p, Opaque d), next) t k h
    go p (Dir d) next (Some f) m k h = marker_taken at next p d f t m k h

  -- ---- what stands at a position

  -- a row, or nothing but the count
  abbrev pub Unit : ℕ → Option Step → Type 0
  Unit at None = Bytes bs → drop at bs ≡ field_bytes (count_field (length seen))
  Unit at (Some t) = Taken seen bs at t

  end_taken : (at n : ℕ) (f : Field) (o : Option Step) → front_field (drop at bs) ≡ Some f → count_of f ≡ Some n → ended seen bs at n ≡ Ok o → Unit at o
  end_taken at n f o there e h =
      let p = if_ok (eqb n (length seen)) (cond (eqb (length bs) (at + 5)) (Ok None) (Err (fault_at (at + 5) cause.Count))) (fault_at at cause.Count) o h in
      let q = if_ok (eqb (length bs) (at + 5)) (Ok None) (fault_at (at + 5) cause.Count) o p.1 in
      let past : drop (at + 5) bs ≡ [] = drop_all (at + 5) bs (omega (arith, eqb-true (length bs) (at + 5) q.0)) in
      let last : ◌≡◌ {A = Option Step} None o = cc q.1 in
      subst (Unit at) last (λ b.
      let w = field_read bs b at f there in
      let is : f ≡ count_field (length seen) = count_field_is f n w.1 e ∙ ap count_field (eqb-true n (length seen) p.0) in
      w.0 ∙ ap (λ z. field_bytes z ++ drop (at + span z) bs) is ∙ ap (λ s. field_bytes (count_field (length seen)) ++ s) past ∙ append-nil (field_bytes (count_field (length seen))))

  pub unit_taken : (at : ℕ) (o : Option Step) → unit_at seen bs at ≡ Ok o → Unit at o
  unit_taken at o h = go (front_field (drop at bs)) refl h where
    step : (s : List ℕ) → front_field (drop at bs) ≡ Some (text_field s) → row_step seen bs at s ≡ Ok o → Unit at o
    step s f h =
        let p = unless_ok (is_marker s) (and_then (row_at seen bs at s) (λ r. and_then (marked_row bs r) (λ t. Ok (Some t)))) (fault_at at cause.Field) o h in
        let r = then_ok (row_at seen bs at s) (λ r. and_then (marked_row bs r) (λ t. Ok (Some t))) o p in
        let t = then_ok (marked_row bs r.0) (λ t. Ok (Some t)) o r.2 in
        let is : Some t.0 ≡ o = cc t.2 in
        subst (Unit at) is (marked_taken at r.0 t.0 (row_taken at s r.0 f r.1) t.1)

    of : (f : Field) → front_field (drop at bs) ≡ Some f → (s : Option (List ℕ)) (n : Option ℕ) → text_of f ≡ s → count_of f ≡ n → unit_of seen bs at s n ≡ Ok o → Unit at o
    of f there (Some s) n e k h = step s (there ∙ ap Some (text_field_is f s e)) h
    of f there None (Some n) e k h = end_taken at n f o there k h
    of f there None None e k h = cc

    go : (x : Option Field) → front_field (drop at bs) ≡ x → unit_of seen bs at (option_and_then text_of x) (option_and_then count_of x) ≡ Ok o → Unit at o
    go None there h = cc
    go (Some f) there h = of f there (text_of f) (count_of f) refl refl h
