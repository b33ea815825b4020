-- The rows that a text gives make a tree. Assumes nothing.
use Rattle.std.proofs.Common.{◌≡◌, ℕ, ◌+◌, min, true, cond, ◌&&◌, eqb, ltb, leb, List, [], ◌∷◌, ◌++◌, length, drop, Some, None, Ok, Err, Option, Result, sym, refl, ap, ◌∙◌, subst}
use Rattle.std.proofs.lemmas.Bool.{and_from}
use Rattle.paths.specs.Names.{judge, parent, begins}
use Rattle.paths.specs.Pieces.{front, later, pieces}
use Rattle.rows.specs.Maps.{Names, at, ascending, rises}
use Rattle.trees.specs.declared.entry.Entry.{Entry}
use Rattle.trees.specs.Entries.{Row, is_dir, in_range, fine, closed, is_tree}
use Rattle.trees.proofs.Closed.{tree_parts, closed-grown}
use Rattle.trees.proofs.Grown.{Sound, grown_more}
use Rattle.words.specs.declared.fault.Cause.TheVariants.{Header, Word, Path, Order, Parent, TooMany}
use Rattle.manifests.specs.declared.fault.ManifestFault.{ManifestFault}
use Rattle.paths.specs.Steps.{and_then, and_then_some, map_err}
use Rattle.words.specs.Escapes.{unescaped}
use Rattle.words.specs.Words.{undotted, judged_word, path_of}
use Rattle.mtree.specs.Keywords.{entry_of}
use Rattle.manifests.specs.Laws.{IndexMakesTree}
use Rattle.manifests.specs.Manifests.{under_dir, placed, row_of_line, fault_at, rows_from, indexed}
use Rattle.paths.proofs.Granted.{then_ok, if_ok, mapped_ok}
use Rattle.trees.proofs.Fine.{judged-fine}
use Rattle.rows.proofs.Risen.{ascends_more}
use Rattle.rows.proofs.Earlier.{passed-later, itself-there}
use Rattle.mtree.proofs.Ranged.{entry_ranged}
use Rattle.listing.specs.Lines.{header}

-- ---- a path that is read is good

word_fine : (o : Option (List ℕ)) (p : Names) → judged_word o ≡ Ok p → fine p ≡ true
word_fine None p h = cc
word_fine (Some s) p h = judged-fine s p (mapped_ok Path (judge s) p h)

path_fine : (w : List ℕ) (p : Names) → path_of w ≡ Ok p → fine p ≡ true
path_fine w p h = word_fine (and_then_some (unescaped w) undotted) p h

-- ---- one row more

module _ (rows : List Row) (p : Names) (e : Entry) (b : is_tree rows ≡ true) (h : rises rows p ≡ true) where
  abbrev whole : List Row
  whole = rows ++ (p, e) ∷ []

  up : ascending whole ≡ true
  up = ascends_more rows (p, e) (tree_parts rows b).0 h

  parent_dir : (q : Names) → p ≡ q → under_dir rows q e ≡ true → is_dir (at whole (parent q)) ≡ true
  parent_dir [] is s = ap is_dir (sym (ap (at whole) is) ∙ itself-there rows (p, e) [] up) ∙ s
  parent_dir (n ∷ q) is s = passed-later rows (p, e) [] up is_dir refl (parent (n ∷ q)) s

  pushed : under_dir rows p e ≡ true → fine p ≡ true → in_range e ≡ true → is_tree whole ≡ true
  pushed s f g =
      let before = sym (closed-grown rows rows) ∙ (tree_parts rows b).1 in
      let last : Sound in_range is_dir whole (p, e) = record { good = f; ranged = g; under = parent_dir p refl s } in
      and_from (ascending whole) (closed whole whole) up (closed-grown whole whole ∙ grown_more in_range is_dir refl rows (p, e) up before last)

placed_parts : (limit : ℕ) (rows : List Row) (p : Names) (e : Entry) (r : Row) → placed limit rows p e ≡ Ok r → (rises rows p ≡ true) × (under_dir rows p e ≡ true) × ((p, e) ≡ r)
placed_parts limit rows p e r h =
    let a = if_ok (rises rows p) (cond (under_dir rows p e) (cond (ltb (length rows) limit) (Ok (p, e)) (Err TooMany)) (Err Parent)) Order r h in
    let b = if_ok (under_dir rows p e) (cond (ltb (length rows) limit) (Ok (p, e)) (Err TooMany)) Parent r a.1 in
    let c = if_ok (ltb (length rows) limit) (Ok (p, e)) TooMany r b.1 in
    let is : ◌≡◌ {A = Row} (p, e) r = cc c.1 in
    (a.0, b.0, is)

pub line-built : (limit : ℕ) (rows : List Row) (l : List ℕ) (r : Row) → is_tree rows ≡ true → row_of_line limit rows l ≡ Ok r → is_tree (rows ++ r ∷ []) ≡ true
line-built limit rows l r b h =
    let p = then_ok (path_of (front 32 l)) (λ q. and_then (entry_of (later 32 l)) (λ e. placed limit rows q e)) r h in
    let e = then_ok (entry_of (later 32 l)) (λ e. placed limit rows p.0 e) r p.2 in
    let k = placed_parts limit rows p.0 e.0 r e.2 in
    subst (λ z. is_tree (rows ++ z ∷ []) ≡ true) k.2 (pushed rows p.0 e.0 b k.0 k.1 (path_fine (front 32 l) p.0 p.1) (entry_ranged (later 32 l) e.0 e.1))

-- ---- line by line

same-built : (rows all : List Row) → is_tree rows ≡ true → ◌≡◌ {A = Result (List Row) ManifestFault} (Ok rows) (Ok all) → is_tree all ≡ true
same-built rows all b h =
    let is : rows ≡ all = cc in
    subst (λ z. is_tree z ≡ true) is b

rows-built : (limit : ℕ) (ls : List (List ℕ)) (pos : ℕ) (rows all : List Row) → is_tree rows ≡ true → rows_from limit pos rows ls ≡ Ok all → is_tree all ≡ true
unfolding rows_from
rows-built limit [] pos rows all b h = same-built rows all b h
rows-built limit (l ∷ []) pos rows all b h =
    same-built rows all b (if_ok (eqb (length l) 0) (Ok rows) (fault_at pos Word) all h).1
rows-built limit (l ∷ m ∷ ls) pos rows all b h =
    let next : ℕ = pos + (length l + 1) in
    let p = then_ok (map_err (fault_at pos) (row_of_line limit rows l)) (λ r. rows_from limit next (rows ++ r ∷ []) (m ∷ ls)) all h in
    rows-built limit (m ∷ ls) next (rows ++ p.0 ∷ []) all (line-built limit rows l p.0 b (mapped_ok (fault_at pos) (row_of_line limit rows l) p.0 p.1)) p.2

pub indexed-built : (given : ℕ) (text : List ℕ) (rows : List Row) → indexed given text ≡ Ok rows → is_tree rows ≡ true
indexed-built given text rows h =
    let p = if_ok (leb (length text) 65536 && begins header text) (rows_from (min given 1024) 7 [] (pieces 10 (drop 7 text))) (fault_at 0 Header) rows h in
    rows-built (min given 1024) (pieces 10 (drop 7 text)) 7 [] rows refl p.1

pub index_makes_tree : IndexMakesTree
index_makes_tree = indexed-built
