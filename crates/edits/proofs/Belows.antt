-- What lies below a path that has no child: nothing. Assumes nothing.
use Rattle.std.proofs.Common.{◌≡◌, ℕ, Bool, true, false, cond, not, leb, List, [], ◌∷◌, ◌++◌, length, is_some, Some, None, Option, sym, refl, ap, ◌∙◌}
use Rattle.std.proofs.lemmas.Bool.{both_ways, and_parts, not-true}
use Rattle.std.specs.Option.{option_map}
use Rattle.std.specs.Ordering.{is_lt}
use Rattle.paths.specs.Names.{join, fault_in}
use Rattle.paths.specs.Order.{by_bytes}
use Rattle.paths.proofs.Joins.{plain-from-fault, not_empty}
use Rattle.rows.specs.Maps.{Names, under, first, at, has, ascending, is_child, without}
use Rattle.rows.specs.Builds.{same, set_at}
use Rattle.rows.proofs.Orders.{some_name}
use Rattle.rows.proofs.Least.{child_passes}
use Rattle.rows.proofs.Firsts.{first-none, there, at-holds, child-there}
use Rattle.rows.proofs.Built.{same_rows, at_set, ascending_set}
use Rattle.rows.proofs.Changed.{at-without, ascending-only}
use Rattle.rows.proofs.Unders.{strictly, not_at, not_above}
use Rattle.trees.specs.declared.entry.Entry.{Entry}
use Rattle.trees.specs.Entries.{Row, closed, fine}
use Rattle.trees.proofs.Closed.{is-fine, closed-rooted}
use Rattle.edits.specs.Edits.{has_child}
use Rattle.paths.proofs.Granted.{is_none, mapped_none}

-- ---- good paths

-- the last name of a good path is above the empty one
child-named : (p : Names) (n : List ℕ) → fine (p ++ n ∷ []) ≡ true → is_lt (by_bytes [] n) ≡ true
child-named p n f =
    let q = p ++ n ∷ [] in
    let g = not-true (is_some (fault_in 0 q)) (and_parts (not (is_some (fault_in 0 q))) (leb (length (join q)) 120) f).0 in
    some_name n (not_empty p n [] (plain-from-fault 0 q g))

-- ---- no child

module _ (rs : List Row) (c : closed rs rs ≡ true) (p : Names) (none : has_child rs p ≡ false) where
  childless : (n : List ℕ) → has rs (p ++ n ∷ []) ≡ true → ⊥
  childless n h =
      let q = p ++ n ∷ [] in
      let d = there rs q h in
      let off = first-none (is_child p []) rs (mapped_none (λ r. r.0) (first (is_child p []) rs) (is_none (option_map (λ r. r.0) (first (is_child p []) rs)) none)) (q, d.0) (at-holds rs q d.0 d.1) in
      both_ways (is_child p [] (q, d.0)) off (child_passes p [] n d.0 (child-named p n (is-fine rs c q h)))

  -- no row lies strictly below
  pub below_none : (q : Names) → under p q ≡ true → under q p ≡ false → at rs q ≡ None
  below_none q u w = go (at rs q) refl where
    go : (o : Option Entry) → at rs q ≡ o → o ≡ None
    go None e = refl
    go (Some v) e =
        let d = strictly p q u w in
        absurd (childless d.0 (child-there rs (closed-rooted rs rs c) d.0 d.1 p (sym (ap (has rs) d.2) ∙ ap is_some e)))

  -- so what another path has below this one, it does not have
  pub apart_none : (q : Names) → under p q ≡ true → same q p ≡ false → at rs q ≡ None
  apart_none q u s = below_none q u (not_above q p s u)

  -- taking out the rows under the path takes out its own
  pub set_none : ascending rs ≡ true → set_at rs p None ≡ without p rs
  set_none up = same_rows (set_at rs p None) (without p rs) (ascending_set rs p None up) (ascending-only (λ q. not (under p q)) rs up) alike where
    alike : (q : Names) → at (set_at rs p None) q ≡ at (without p rs) q
    alike q = at_set rs p None q ∙ go (under p q) refl (same q p) refl ∙ sym (at-without p rs q) where
      go : (u : Bool) → under p q ≡ u → (s : Bool) → same q p ≡ s → cond s None (at rs q) ≡ cond u None (at rs q)
      go true e true f = refl
      go true e false f = apart_none q e f
      go false e true f = absurd (both_ways (same q p) (not_at q p e) f)
      go false e false f = refl
