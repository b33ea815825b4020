-- A tree's listing reads back as its entries. Assumes nothing.
use Rattle.std.proofs.Common.{◌≡◌, ℕ, ◌+◌, ◌≤◌, min, true, ◌&&◌, leb, List, [], ◌∷◌, ◌++◌, length, Ok, Err, sym, refl, ap, ◌∙◌, subst, append_assoc, append-nil, arith}
use Rattle.std.proofs.lemmas.Bool.{and_parts, and_from, cond-true, le-leb}
use Rattle.paths.specs.Names.{join, parent, begins}
use Rattle.paths.specs.Pieces.{pieces}
use Rattle.rows.specs.Maps.{at, ascending}
use Rattle.trees.specs.Entries.{Row, is_dir, in_range, fine, closed}
use Rattle.trees.proofs.Closed.{tree_parts}
use Rattle.listing.specs.Lines.{dotted, keywords, lines, listing, header}
use Rattle.words.specs.declared.fault.Cause.TheVariants.{Header}
use Rattle.paths.specs.Steps.{and_then, map_err}
use Rattle.manifests.specs.Manifests.{row_of_line, fault_at, rows_from}
use Rattle.manifests.specs.Laws.{ListingReadsBack}
use Rattle.words.proofs.Splits.{above-lacks, pieces_part}
use Rattle.manifests.proofs.ListedLines.{text_of, text_one_line, row_back}
use Rattle.manifests.proofs.Placing.{placed_back}

-- ---- the first line of a listing

lines-first : (r : Row) (rs : List Row) → lines (r ∷ rs) ≡ text_of r.0 r.1 ++ 10 ∷ lines rs
lines-first r rs =
    append_assoc (dotted (join r.0)) (keywords r.1 ++ 10 ∷ []) (lines rs)
    ∙ ap (λ l. dotted (join r.0) ++ l) (append_assoc (keywords r.1) (10 ∷ []) (lines rs))
    ∙ sym (append_assoc (dotted (join r.0)) (keywords r.1) (10 ∷ lines rs))

pieces-first : (r : Row) (rs : List Row) → in_range r.1 ≡ true → pieces 10 (lines (r ∷ rs)) ≡ text_of r.0 r.1 ∷ pieces 10 (lines rs)
pieces-first r rs h =
    ap (pieces 10) (lines-first r rs) ∙ pieces_part 10 (text_of r.0 r.1) (lines rs) (above-lacks 10 (text_of r.0 r.1) (text_one_line r.0 r.1 h))

-- ---- line by line

module _ (all : List Row) (a : ascending all ≡ true) (limit : ℕ) (few : length all ≤ limit) where
  row_next : (done : List Row) (r : Row) (rest : List Row) → all ≡ done ++ r ∷ rest → fine r.0 ≡ true → in_range r.1 ≡ true → is_dir (at all (parent r.0)) ≡ true → row_of_line limit done (text_of r.0 r.1) ≡ Ok r
  row_next done r rest is f g d =
      row_back limit done r.0 r.1 f g
      ∙ placed_back done r rest (subst (λ z. ascending z ≡ true) is a) limit (subst (λ z. length z ≤ limit) is few) (subst (λ z. is_dir (at z (parent r.0)) ≡ true) is d)

  rows_back : (rest : List Row) (pos : ℕ) (done : List Row) → all ≡ done ++ rest → closed all rest ≡ true → rows_from limit pos done (pieces 10 (lines rest)) ≡ Ok all
  unfolding rows_from
  rows_back [] pos done is c = ap Ok (sym (is ∙ append-nil done))
  rows_back (r ∷ rest) pos done is c =
      let p = and_parts ((fine r.0 && in_range r.1) && is_dir (at all (parent r.0))) (closed all rest) c in
      let q = and_parts (fine r.0 && in_range r.1) (is_dir (at all (parent r.0))) p.0 in
      let s = and_parts (fine r.0) (in_range r.1) q.0 in
      let next : ℕ = pos + (length (text_of r.0 r.1) + 1) in
      ap (rows_from limit pos done) (pieces-first r rest s.1)
      ∙ ap (λ o. and_then (map_err (fault_at pos) o) (λ x. rows_from limit next (done ++ x ∷ []) (pieces 10 (lines rest)))) (row_next done r rest is s.0 s.1 q.1)
      ∙ rows_back rest next (done ++ r ∷ []) (is ∙ sym (append_assoc done (r ∷ []) rest)) p.1

-- ---- the whole text

pub listing_reads_back : ListingReadsBack
listing_reads_back e given fits few room =
    let ok = tree_parts e.rows e.ok in
    let least : length e.rows ≤ min given 1024 = omega arith in
    cond-true (leb (length (listing e.rows)) 65536 && begins header (listing e.rows)) (rows_from (min given 1024) 7 [] (pieces 10 (lines e.rows))) (Err (fault_at 0 Header)) (and_from (leb (length (listing e.rows)) 65536) (begins header (listing e.rows)) (le-leb (length (listing e.rows)) 65536 fits) refl)
    ∙ rows_back e.rows ok.0 (min given 1024) least e.rows 7 [] refl ok.1
