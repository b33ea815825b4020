-- The rows that a text gives are enough to read it again. Assumes nothing.
use Rattle.std.proofs.Common.{◌≡◌, ℕ, ◌+◌, ◌<◌, ◌≤◌, min, cond, ◌&&◌, eqb, ltb, leb, List, [], ◌∷◌, ◌++◌, length, drop, Ok, Err, Result, ap, ◌∙◌, arith}
use Rattle.std.proofs.lemmas.List.{length-append}
use Rattle.std.proofs.lemmas.Bool.{cond-true, lt-ltb}
use Rattle.paths.specs.Names.{begins}
use Rattle.paths.specs.Pieces.{front, later, pieces}
use Rattle.rows.specs.Maps.{Names, rises}
use Rattle.trees.specs.declared.entry.Entry.{Entry}
use Rattle.trees.specs.Entries.{Row}
use Rattle.words.specs.declared.fault.Cause.TheVariants.{Header, Word, Order, Parent, TooMany}
use Rattle.manifests.specs.declared.fault.ManifestFault.{ManifestFault}
use Rattle.paths.specs.Steps.{and_then, map_err}
use Rattle.words.specs.Words.{path_of}
use Rattle.mtree.specs.Keywords.{entry_of}
use Rattle.manifests.specs.Manifests.{under_dir, placed, row_of_line, fault_at, rows_from}
use Rattle.manifests.specs.Laws.{IndexThenLoad}
use Rattle.paths.proofs.Granted.{then_ok, if_ok, mapped_ok}
use Rattle.manifests.proofs.ReadLines.{row_room}
use Rattle.listing.specs.Lines.{header}

module _ (limit other : ℕ) where
  -- ---- a line that is taken is taken under any limit that leaves it room

  placed-within : (rows : List Row) (p : Names) (e : Entry) (r : Row) → length rows < other → placed limit rows p e ≡ Ok r → placed other rows p e ≡ Ok r
  placed-within rows p e r room h =
      let a = if_ok (rises rows p) (cond (under_dir rows p e) (cond (ltb (length rows) limit) (Ok (p, e)) (Err TooMany)) (Err Parent)) Order r h in
      let b = if_ok (under_dir rows p e) (cond (ltb (length rows) limit) (Ok (p, e)) (Err TooMany)) Parent r a.1 in
      let c = if_ok (ltb (length rows) limit) (Ok (p, e)) TooMany r b.1 in
      cond-true (rises rows p) _ (Err Order) a.0
      ∙ cond-true (under_dir rows p e) _ (Err Parent) b.0
      ∙ cond-true (ltb (length rows) other) (Ok (p, e)) (Err TooMany) (lt-ltb (length rows) other room)
      ∙ c.1

  line-within : (rows : List Row) (l : List ℕ) (r : Row) → length rows < other → row_of_line limit rows l ≡ Ok r → row_of_line other rows l ≡ Ok r
  line-within rows l r room h =
      let p = then_ok (path_of (front 32 l)) (λ q. and_then (entry_of (later 32 l)) (λ e. placed limit rows q e)) r h in
      let e = then_ok (entry_of (later 32 l)) (λ e. placed limit rows p.0 e) r p.2 in
      ap (λ o. and_then o (λ q. and_then (entry_of (later 32 l)) (λ e. placed other rows q e))) p.1
      ∙ ap (λ o. and_then o (λ e. placed other rows p.0 e)) e.1
      ∙ placed-within rows p.0 e.0 r room e.2

  -- ---- line by line

  same_many : (done all : List Row) → ◌≡◌ {A = Result (List Row) ManifestFault} (Ok done) (Ok all) → length done ≡ length all
  same_many done all h =
      let is : done ≡ all = cc in
      ap length is

  rows-within : (ls : List (List ℕ)) (pos : ℕ) (done all : List Row) → rows_from limit pos done ls ≡ Ok all → (length done ≤ length all) × (length done ≤ limit → length all ≤ limit) × (length all ≤ other → rows_from other pos done ls ≡ Ok all)
  unfolding rows_from
  rows-within [] pos done all h =
      let same = same_many done all h in
      (omega arith, λ few. omega arith, λ enough. h)
  rows-within (l ∷ []) pos done all h =
      let same = same_many done all (if_ok (eqb (length l) 0) (Ok done) (fault_at pos Word) all h).1 in
      (omega arith, λ few. omega arith, λ enough. h)
  rows-within (l ∷ m ∷ ls) pos done all h =
      let next : ℕ = pos + (length l + 1) in
      let p = then_ok (map_err (fault_at pos) (row_of_line limit done l)) (λ r. rows_from limit next (done ++ r ∷ []) (m ∷ ls)) all h in
      let row = mapped_ok (fault_at pos) (row_of_line limit done l) p.0 p.1 in
      let room = row_room limit done l p.0 row in
      let longer = length-append done (p.0 ∷ []) in
      let more = rows-within (m ∷ ls) next (done ++ p.0 ∷ []) all p.2 in
      let less : length done < length all = omega (arith, more.0) in
      (omega arith, λ few. more.1 (omega arith), λ enough. ap (λ o. and_then (map_err (fault_at pos) o) (λ r. rows_from other next (done ++ r ∷ []) (m ∷ ls))) (line-within done l p.0 (omega arith) row) ∙ more.2 enough)

-- ---- the whole text

pub index_then_load : IndexThenLoad
index_then_load given text rows h =
    let p = if_ok (leb (length text) 65536 && begins header text) (rows_from (min given 1024) 7 [] (pieces 10 (drop 7 text))) (fault_at 0 Header) rows h in
    let k = rows-within (min given 1024) (min (length rows) 1024) (pieces 10 (drop 7 text)) 7 [] rows p.1 in
    let few : length rows ≤ min given 1024 = k.1 (omega arith) in
    let again = cond-true (leb (length text) 65536 && begins header text) (rows_from (min (length rows) 1024) 7 [] (pieces 10 (drop 7 text))) (Err (fault_at 0 Header)) p.0 in
    (omega arith, omega arith, again ∙ k.2 (omega arith))
