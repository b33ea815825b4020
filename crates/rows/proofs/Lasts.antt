-- The last row, what comes after it, and a row put behind it. Assumes nothing.
use Rattle.std.proofs.Common.{◌≡◌, suc, ◌-◌, Bool, true, List, [], ◌∷◌, ◌++◌, length, take, drop, slice_get, is_some, Some, None, Option, Bor, MatchOption, sym, refl, ap, ◌∙◌, inl, inr, ⊎_elim, arith}
use native.Mathlib.Numerals.{unary_clauses}
use Rattle.std.proofs.lemmas.Bool.{true≢false, and_parts, and_from, cond-true}
use Rattle.std.proofs.lemmas.List.{take_all, drop_all, length-map}
use Rattle.std.proofs.lemmas.Option.{slice_get-map}
use Rattle.std.specs.Option.{option_map, option_copied}
use Rattle.std.specs.Cmp.{nat_cmp_total}
use Rattle.std.specs.Cmp.Lexicographic.{lists_total}
use Rattle.std.specs.Ordering.{is_le}
use Rattle.paths.specs.Order.{by_names}
use Rattle.paths.proofs.Laws.{itself}
use Rattle.paths.specs.Paths.{names}
use Rattle.rows.specs.declared.row.Row.{Row}
use Rattle.rows.specs.Maps.{Names, before, above, ascending, rises}
use Rattle.rows.specs.Positions.{lead}
use Rattle.rows.specs.Rows.{row_of, rows_of}
use Rattle.rows.specs.Tables.{spliced}
use Rattle.rows.proofs.Orders.{before-le}
use Rattle.rows.proofs.Firsts.{In, head_least, tail-ascends}

-- rows that rise: those in front do without the rest, and all come before the next
pub rises_front : {V : Type 0} (rs : List (Names × V)) (r : Names × V) (rest : List (Names × V)) → ascending (rs ++ r ∷ rest) ≡ true → (ascending (rs ++ r ∷ []) ≡ true) × (lead r.0 rs ≡ length rs)
rises_front [] r rest up = (refl, refl)
rises_front {V} (x ∷ rs) r rest up =
    let d = and_parts (above x.0 (rs ++ r ∷ rest)) (ascending (rs ++ r ∷ rest)) up in
    let k = rises_front rs r rest d.1 in (
      and_from (above x.0 (rs ++ r ∷ [])) (ascending (rs ++ r ∷ [])) (sym (alike rs) ∙ d.0) k.0,
      cond-true (before x.0 r.0) (suc (lead r.0 rs)) 0 (head_least x (rs ++ r ∷ rest) up r (inside rs)) ∙ ap suc k.1,
    ) where
      alike : (rs : List (Names × V)) → above x.0 (rs ++ r ∷ rest) ≡ above x.0 (rs ++ r ∷ [])
      alike [] = refl
      alike (y ∷ rs) = refl

      inside : (rs : List (Names × V)) → In (rs ++ r ∷ rest) r
      inside [] = inl refl
      inside (y ∷ rs) = inr (inside rs)

-- a row that is put where all others come before it is the last
pub spliced_last : {V : Type 0} (rs : List (Names × V)) (r : Names × V) → lead r.0 rs ≡ length rs → spliced (r ∷ []) rs ≡ rs ++ r ∷ []
spliced_last rs r h =
    ap (λ k. take k rs ++ r ∷ drop k rs) h
    ∙ ap (λ z. z ++ r ∷ drop (length rs) rs) (take_all (length rs) rs (omega arith))
    ∙ ap (λ z. rs ++ r ∷ z) (drop_all (length rs) rs (omega arith))

-- ---- the last row

module _ {V : Type 0} where
  abbrev pub last_row : List (Names × V) → Option (Names × V)
  last_row [] = None
  last_row (r ∷ []) = Some r
  last_row (r ∷ s ∷ rs) = last_row (s ∷ rs)

  last_some : (x : Names × V) (rs : List (Names × V)) → is_some (last_row (x ∷ rs)) ≡ true
  last_some x [] = refl
  last_some x (y ∷ rs) = last_some y rs

  pub last_none : (rows : List (Names × V)) → last_row rows ≡ None → rows ≡ []
  last_none [] h = refl
  last_none (x ∷ rs) h = absurd (true≢false (sym (last_some x rs) ∙ ap is_some h))

  pub last_in : (rows : List (Names × V)) (r : Names × V) → last_row rows ≡ Some r → In rows r
  last_in [] r h = absurd (true≢false (sym (ap is_some h)))
  last_in (x ∷ []) r h =
      let same : r ≡ x = cc in
      inl same
  last_in (x ∷ y ∷ rs) r h = inr (last_in (y ∷ rs) r h)

  -- in rows that rise it is the greatest
  pub last_most : (rows : List (Names × V)) (r : Names × V) → ascending rows ≡ true → last_row rows ≡ Some r → (x : Names × V) → In rows x → is_le (by_names x.0 r.0) ≡ true
  last_most [] r a h x i = absurd i
  last_most (y ∷ []) r a h x i =
      let same : y ≡ r = cc in
      ⊎_elim (λ s. ap (λ z. is_le (by_names z.0 r.0)) (s ∙ same) ∙ ap is_le (itself (lists_total (lists_total nat_cmp_total)) r.0)) (λ j. absurd j) i
  last_most (y ∷ z ∷ rs) r a h x i =
      ⊎_elim
      (λ s. before-le x.0 r.0 (ap (λ v. before v.0 r.0) s ∙ head_least y (z ∷ rs) a r (last_in (z ∷ rs) r h)))
      (λ j. last_most (z ∷ rs) r (tail-ascends y (z ∷ rs) a) h x j)
      i

  last_get : (rows : List (Names × V)) → last_row rows ≡ slice_get rows (length rows - 1)
  last_get [] = refl
  last_get (r ∷ []) = refl
  last_get (r ∷ s ∷ rs) = last_get (s ∷ rs) ∙ simp unary_clauses refl

  -- what `last` answers of rows in memory
  pub last_of : (rs : List (Row V)) (o : Option (Bor (Row V))) → option_copied o ≡ slice_get rs (length rs - 1) → option_map (λ r. row_of r.now) o ≡ last_row (rows_of rs)
  last_of rs o h = by_copy o ∙ ap (option_map row_of) h ∙ sym (slice_get-map row_of rs (length rs - 1)) ∙ ap (λ n. slice_get (rows_of rs) (n - 1)) (sym (length-map rs row_of)) ∙ sym (last_get (rows_of rs)) where
    by_copy : (o : Option (Bor (Row V))) → option_map (λ r. row_of r.now) o ≡ option_map row_of (option_copied o)
    by_copy None = refl
    by_copy (Some r) = refl

-- ---- whether a path comes after the rows, by the last of them

module _ {V : Type 0} (p : Names) where
  abbrev passed : Option (Names × V) → Bool
  passed None = true
  passed (Some r) = before r.0 p

  rises_by_last : (rows : List (Names × V)) → rises rows p ≡ passed (last_row rows)
  rises_by_last [] = refl
  rises_by_last (r ∷ []) = refl
  rises_by_last (r ∷ s ∷ rs) = rises_by_last (s ∷ rs)

  pub rises_after : (rows : List (Names × V)) (r : Names × V) → last_row rows ≡ Some r → rises rows p ≡ before r.0 p
  rises_after rows r h = rises_by_last rows ∙ ap passed h

  pub rises_read : (rs : List (Row V)) (o : Option (Bor (Row V))) → option_copied o ≡ slice_get rs (length rs - 1) → (b : Bool) → MatchOption o (b ≡ true) (λ r. b ≡ before (names r.now.path) p) → b ≡ rises (rows_of rs) p
  rises_read rs o e b h = by o h ∙ ap passed (last_of rs o e) ∙ sym (rises_by_last (rows_of rs)) where
    by : (o : Option (Bor (Row V))) → MatchOption o (b ≡ true) (λ r. b ≡ before (names r.now.path) p) → b ≡ passed (option_map (λ r. row_of r.now) o)
    by None h = h
    by (Some r) h = h
