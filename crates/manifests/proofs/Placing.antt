-- A tree's row stands well behind the rows before it. Assumes nothing.
use Rattle.std.proofs.Common.{◌≡◌, ℕ, ◌<◌, ◌≤◌, true, ltb, List, [], ◌∷◌, ◌++◌, length, Some, Ok, Err, Option, sym, refl, ap, ◌∙◌, arith}
use Rattle.std.proofs.lemmas.List.{length-append}
use Rattle.std.proofs.lemmas.Bool.{cond-true, lt-ltb}
use Rattle.paths.specs.Names.{parent}
use Rattle.rows.specs.Maps.{Names, before, at, ascending, rises}
use Rattle.rows.proofs.Risen.{rising}
use Rattle.rows.proofs.Earlier.{parent-before, some-passed, passed-earlier, itself-there}
use Rattle.trees.specs.declared.entry.Entry.{Entry}
use Rattle.trees.specs.Entries.{Row, is_dir}
use Rattle.words.specs.declared.fault.Cause.TheVariants.{Order, Parent, TooMany}
use Rattle.manifests.specs.Manifests.{under_dir, placed}

-- ---- its parent is among them

pub some-dir : (o : Option Entry) → is_dir o ≡ true → (e : Entry) × (o ≡ Some e)
some-dir o h = some-passed is_dir o refl h

module _ (done : List Row) (r : Row) (rest : List Row) (a : ascending (done ++ r ∷ rest) ≡ true) where
  parent_dir : (p : Names) → r.0 ≡ p → is_dir (at (done ++ r ∷ rest) (parent p)) ≡ true → under_dir done p r.1 ≡ true
  parent_dir [] is d = sym (ap is_dir (sym (ap (at (done ++ r ∷ rest)) is) ∙ itself-there done r rest a)) ∙ d
  parent_dir (n ∷ p) is d =
      passed-earlier done r rest a is_dir refl (parent (n ∷ p)) (ap (before (parent (n ∷ p))) is ∙ parent-before n p) d

  pub placed_back : (limit : ℕ) → length (done ++ r ∷ rest) ≤ limit → is_dir (at (done ++ r ∷ rest) (parent r.0)) ≡ true → placed limit done r.0 r.1 ≡ Ok r
  placed_back limit few d =
      let room : length done < limit = omega (arith, length-append done (r ∷ rest)) in
      cond-true (rises done r.0) _ (Err Order) (rising done r rest a)
      ∙ cond-true (under_dir done r.0 r.1) _ (Err Parent) (parent_dir r.0 refl d)
      ∙ cond-true (ltb (length done) limit) (Ok r) (Err TooMany) (lt-ltb (length done) limit room)
