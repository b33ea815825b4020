-- Rows that are closed: each path is good, and its parent is a directory. Assumes nothing.
use Rattle.std.proofs.Common.{◌≡◌, true, List, [], ◌∷◌, ◌&&◌, is_some, Some, None, Option, sym, refl, ap, ◌∙◌}
use Rattle.std.proofs.lemmas.Bool.{and_parts}
use Rattle.paths.specs.Names.{parent}
use Rattle.rows.specs.Maps.{Names, at, has, ascending, rooted}
use Rattle.rows.proofs.Firsts.{there}
use Rattle.trees.specs.declared.entry.Entry.{Entry}
use Rattle.trees.specs.Entries.{Row, is_dir, in_range, fine, grown, closed, is_tree}
use Rattle.trees.proofs.Grown.{Sound, grown_by, grown-rooted, sound-at}

-- rows of a tree rise and are closed
pub tree_parts : (rs : List Row) → is_tree rs ≡ true → (ascending rs ≡ true) × (closed rs rs ≡ true)
tree_parts rs h = and_parts (ascending rs) (closed rs rs) h

-- it is what `grown` says of entries
pub closed-grown : (all rs : List Row) → closed all rs ≡ grown in_range is_dir all rs
closed-grown all [] = refl
closed-grown all (r ∷ rs) = ap (λ b. ((fine r.0 && in_range r.1) && is_dir (at all (parent r.0))) && b) (closed-grown all rs)

-- said of each path, it holds of all rows
pub closed_by : (rs : List Row) → ascending rs ≡ true → ((p : Names) (e : Entry) → at rs p ≡ Some e → Sound in_range is_dir rs (p, e)) → closed rs rs ≡ true
closed_by rs up f = closed-grown rs rs ∙ grown_by in_range is_dir rs up f

pub dir-there : (o : Option Entry) → is_dir o ≡ true → is_some o ≡ true
dir-there None h = h
dir-there (Some e) h = refl

-- so each row's parent has a row
pub closed-rooted : (all rs : List Row) → closed all rs ≡ true → rooted all rs ≡ true
closed-rooted all rs h = grown-rooted in_range is_dir dir-there all rs (sym (closed-grown all rs) ∙ h)

module _ (rs : List Row) (c : closed rs rs ≡ true) where
  pub is-sound : (p : Names) (e : Entry) → at rs p ≡ Some e → Sound in_range is_dir rs (p, e)
  is-sound p e h = sound-at in_range is_dir rs (sym (closed-grown rs rs) ∙ c) p e h

  pub is-fine : (p : Names) → has rs p ≡ true → fine p ≡ true
  is-fine p h = let d = there rs p h in (is-sound p d.0 d.1).good

  pub up-dir : (p : Names) → has rs p ≡ true → is_dir (at rs (parent p)) ≡ true
  up-dir p h = let d = there rs p h in (is-sound p d.0 d.1).under
