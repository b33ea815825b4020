-- What the last row tells of the parent of the next path. Assumes nothing.
use Rattle.std.proofs.Common.{◌≡◌, ℕ, ◌-◌, ◌<◌, Bool, true, false, not, ◌||◌, List, [], ◌∷◌, ◌++◌, length, slice_get, is_some, Bor, Some, None, Option, MatchOption, sym, refl, ap, ◌∙◌, subst, ⊎_elim, append-nil, arith}
use Rattle.std.proofs.lemmas.Bool.{both_ways, not-true, and_parts, and_from, or_cases, or_left, or_right}
use Rattle.std.specs.Option.{option_map, option_copied}
use Rattle.std.specs.Ordering.{is_eq}
use Rattle.paths.specs.Names.{parent, last_name}
use Rattle.paths.specs.Order.{by_names}
use Rattle.paths.proofs.Laws.{between}
use Rattle.rows.specs.declared.row.Row.{Row as Stored}
use Rattle.rows.specs.Maps.{Names, before, under, at, has, ascending, rises}
use Rattle.rows.specs.Rows.{row_of, rows_of}
use Rattle.rows.proofs.Orders.{same-is, is_same, before-le, parent-child, as_child}
use Rattle.rows.proofs.Firsts.{holds_at, at-holds, child-there}
use Rattle.rows.proofs.Changed.{under-says}
use Rattle.rows.proofs.Lasts.{last_row, last_none, last_in, last_most, last_of, rises_after}
use Rattle.trees.specs.declared.entry.Entry.{Entry}
use Rattle.trees.specs.Entries.{Row, is_dir, closed, is_tree}
use Rattle.trees.proofs.Closed.{closed-rooted, up-dir, tree_parts}
use Rattle.manifests.proofs.Placing.{some-dir}
use Rattle.manifests.specs.Lasts.{parent_dir}
use Rattle.manifests.specs.Manifests.{under_dir}

same_test : (s t : Bool) → (s ≡ true → t ≡ true) → (t ≡ true → s ≡ true) → s ≡ t
same_test true t f g = sym (f refl)
same_test false true f g = g refl
same_test false false f g = refl

module _ (rows : List Row) (b : is_tree rows ≡ true) (r : Row) (l : last_row rows ≡ Some r) (n : List ℕ) (p : Names) (h : before r.0 (n ∷ p) ≡ true) where
  rise : ascending rows ≡ true
  rise = (tree_parts rows b).0

  shut : closed rows rows ≡ true
  shut = (tree_parts rows b).1

  abbrev up : Names
  up = parent (n ∷ p)

  last_there : at rows r.0 ≡ Some r.1
  last_there = holds_at rows rise r.0 r.1 (last_in rows r l)

  dir-or_more : is_dir (at rows up) ≡ true → (t : Bool) → is_eq (by_names up r.0) ≡ t → (is_dir (Some r.1) || not t) ≡ true
  dir-or_more d true e =
      or_left (is_dir (Some r.1)) false (sym (ap is_dir (ap (at rows) (same-is up r.0 e) ∙ last_there)) ∙ d)
  dir-or_more d false e = or_right (is_dir (Some r.1)) true refl

  to_last : is_dir (at rows up) ≡ true → parent_dir r up ≡ true
  to_last d =
      let s = some-dir (at rows up) d in
      let le = last_most rows r rise l (up, s.0) (at-holds rows up s.0 s.1) in
      let u = between up r.0 (n ∷ p) le (before-le r.0 (n ∷ p) h) (last_name (n ∷ p) ∷ [], as_child n p) in
      and_from (under up r.0) _ ((under-says up r.0).1 u) (dir-or_more d (is_eq (by_names up r.0)) refl)

  by_rest : (rest : Names) → r.0 ≡ up ++ rest → (is_dir (Some r.1) || not (is_eq (by_names up r.0))) ≡ true → is_dir (at rows up) ≡ true
  by_rest [] e q =
      let s : up ≡ r.0 = sym (e ∙ append-nil up) in
      let d : is_dir (Some r.1) ≡ true = ⊎_elim (λ x. x) (λ x. absurd (both_ways (is_eq (by_names up r.0)) (not-true _ x) (is_same up r.0 s))) (or_cases (is_dir (Some r.1)) (not (is_eq (by_names up r.0))) q) in
      ap is_dir (ap (at rows) s ∙ last_there) ∙ d
  by_rest (m ∷ ms) e q =
      let k = child-there rows (closed-rooted rows rows shut) m ms up (subst (λ z. has rows z ≡ true) e (ap is_some last_there)) in
      subst (λ z. is_dir (at rows z) ≡ true) (parent-child up m) (up-dir rows shut (up ++ m ∷ []) k)

  from_last : parent_dir r up ≡ true → is_dir (at rows up) ≡ true
  from_last t =
      let q = and_parts (under up r.0) (is_dir (Some r.1) || not (is_eq (by_names up r.0))) t in
      let u = (under-says up r.0).0 q.0 in
      by_rest u.0 u.1 q.1

  by_it : is_dir (at rows up) ≡ parent_dir r up
  by_it = same_test (is_dir (at rows up)) (parent_dir r up) to_last from_last

-- the last row, if there is one, asked for the directory d
abbrev by_last : Option Row → Names → Bool
by_last None d = false
by_last (Some r) d = parent_dir r d

up_by_last : (rows : List Row) (n : List ℕ) (p : Names) → is_tree rows ≡ true → rises rows (n ∷ p) ≡ true → by_last (last_row rows) (parent (n ∷ p)) ≡ is_dir (at rows (parent (n ∷ p)))
up_by_last rows n p b h = go (last_row rows) refl where
  go : (o : Option Row) → last_row rows ≡ o → by_last o (parent (n ∷ p)) ≡ is_dir (at rows (parent (n ∷ p)))
  go None l = sym (ap (λ z. is_dir (at z (parent (n ∷ p)))) (last_none rows l))
  go (Some r) l = sym (by_it rows b r l n p (sym (rises_after (n ∷ p) rows r l) ∙ h))

-- what `last` answers of the rows in memory, asked for the parent of a path
pub last_asked : (rows : List (Stored Entry)) (o : Option (Bor (Stored Entry))) → option_copied o ≡ slice_get rows (length rows - 1) → is_tree (rows_of rows) ≡ true → (p up : Names) (e : Entry) (t : Bool) → rises (rows_of rows) p ≡ true → 0 < length p → up ≡ parent p → MatchOption o (t ≡ false) (λ r. t ≡ parent_dir (row_of r.now) up) → t ≡ under_dir (rows_of rows) p e
last_asked rows o last b [] up e t h some is told = absurd (omega arith)
last_asked rows o last b (n ∷ p) up e t h some is told =
    by o told ∙ ap (λ x. by_last x up) (last_of rows o last) ∙ ap (by_last (last_row (rows_of rows))) is ∙ up_by_last (rows_of rows) n p b h where
      by : (o : Option (Bor (Stored Entry))) → MatchOption o (t ≡ false) (λ r. t ≡ parent_dir (row_of r.now) up) → t ≡ by_last (option_map (λ r. row_of r.now) o) up
      by None told = told
      by (Some r) told = told
