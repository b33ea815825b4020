-- What `==` says of rows. Assumes nothing.
use Rattle.std.proofs.Common.{◌≡◌, Bool, true, ◌&&◌, List, [], ◌∷◌, Decides, refl, ap, rules, tests, arith}
use Rattle.std.proofs.lemmas.Bool.{and_parts, and_from}
use Rattle.std.proofs.lemmas.Grind.{common_steps}
use Rattle.std.proofs.lemmas.Slice.Eq.{slice_eq-Decides}
use Rattle.std.specs.Cmp.Lexicographic.{pointwise}
use Rattle.std.specs.Ordering.{eq_by_cmp}
use Rattle.paths.specs.declared.Path.{Path}
use Rattle.paths.specs.Paths.{names, order}
use Rattle.paths.proofs.Same.{same_names}
use Rattle.rows.specs.declared.row.Row.{Row}
use Rattle.rows.specs.Rows.{row_of, rows_of}
use Rattle.rows.proofs.Orders.{same-is, is_same}
use Rattle.trees.specs.declared.entry.Entry.{Entry}
use Rattle.trees.specs.declared.entry.Entry.TheVariants.{File, Dir}
use Rattle.trees.specs.contracts.entry.EntryPartialEq as entries

path_eq : (p q : Path) → Decides (eq_by_cmp order p q) (p ≡ q)
path_eq p q =
    (λ h. same_names p q (same-is (names p) (names q) h), λ s. is_same (names p) (names q) (ap names s))

entry_eq : (a b : Entry) → Decides ((entries.TheImpl.ghosts).eq a b) (a ≡ b)
entry_eq (File f) (File g) = search (rules, tests)
entry_eq (File f) (Dir e) = search (rules, tests)
entry_eq (Dir d) (File g) = search (rules, tests)
entry_eq (Dir d) (Dir e) = grind (arith, common_steps)

abbrev eq : Row Entry → Row Entry → Bool
eq a b = eq_by_cmp order a.path b.path && (entries.TheImpl.ghosts).eq a.value b.value

row_eq : (a b : Row Entry) → Decides (eq a b) (a ≡ b)
row_eq a b = (made, λ s. and_from _ _ ((path_eq a.path b.path).1 (ap (λ r. r.path) s)) ((entry_eq a.value b.value).1 (ap (λ r. r.value) s))) where
  made : eq a b ≡ true → a ≡ b
  made h =
      let p = and_parts (eq_by_cmp order a.path b.path) _ h in
      let x = (path_eq a.path b.path).0 p.0 in
      let y = (entry_eq a.value b.value).0 p.1 in
      λ j. record { path = x j; value = y j }

-- rows that stand for the same are the same
row_same : (a b : Row Entry) → row_of a ≡ row_of b → a ≡ b
row_same a b e =
    let p = same_names a.path b.path (ap (λ x. x.0) e) in
    let v = ap (λ x. x.1) e in
    λ j. record { path = p j; value = v j }

rows_same : (a b : List (Row Entry)) → rows_of a ≡ rows_of b → a ≡ b
rows_same [] [] e = refl
rows_same [] (y ∷ b) e = cc
rows_same (x ∷ a) [] e = cc
rows_same (x ∷ a) (y ∷ b) e =
    let head : row_of x ≡ row_of y = cc in
    let tail : rows_of a ≡ rows_of b = cc in
    let h = row_same x y head in
    let t = rows_same a b tail in
    cc

pub rows_eq : (a b : List (Row Entry)) (r : Bool) → r ≡ pointwise eq a b → Decides r (rows_of a ≡ rows_of b)
rows_eq a b r is =
    let d = slice_eq-Decides row_eq a b r is in
    (λ h. ap rows_of (d.0 h), λ s. d.1 (rows_same a b s))
