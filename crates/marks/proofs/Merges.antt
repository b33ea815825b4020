-- A layer over a tree is a tree, and what it has at each path. Assumes nothing.
use Rattle.std.proofs.Common.{◌≡◌, true, false, List, is_some, Some, None, Option, sym, refl, ap, ◌∙◌, subst}
use Rattle.std.proofs.lemmas.Bool.{true≢false, and_parts, and_from}
use Rattle.rows.specs.Maps.{Names, at, ascending}
use Rattle.trees.specs.declared.entry.Entry.{Entry}
use Rattle.trees.specs.declared.entry.Entry.TheVariants as entry
use Rattle.trees.specs.Entries.{Row, is_dir, in_range, closed, is_tree}
use Rattle.trees.proofs.Grown.{Sound}
use Rattle.trees.proofs.Closed.{tree_parts, closed-grown, closed_by}
use Rattle.marks.specs.declared.mark.Mark.{Mark}
use Rattle.marks.specs.declared.mark.Mark.TheVariants.{Whiteout, File, Dir, Opaque}
use Rattle.marks.specs.Marks.{MarkRow, entry_of, stops, marks_dir, ranged, see, laid, merged, sound, layered}
use Rattle.marks.proofs.Lays.{Joins, at-lay, ascending-lay, lay-sound}

-- a mark of a directory is seen as one
pub marks_dir-seen : (x : Option Mark) (y : Option Entry) → marks_dir x ≡ true → is_dir (see x y) ≡ true
marks_dir-seen None y h = absurd (true≢false (sym h))
marks_dir-seen (Some Whiteout) y h = h
marks_dir-seen (Some (File f)) y h = h
marks_dir-seen (Some (Dir d)) y h = refl
marks_dir-seen (Some (Opaque d)) y h = refl

-- and a directory below is seen where no mark stops
lower-seen : (x : Option Mark) (y : Option Entry) → stops x ≡ false → is_dir y ≡ true → is_dir (see x y) ≡ true
lower-seen None y s h = h
lower-seen (Some Whiteout) y s h = absurd (true≢false s)
lower-seen (Some (File f)) y s h = absurd (true≢false s)
lower-seen (Some (Dir d)) y s h = refl
lower-seen (Some (Opaque d)) y s h = absurd (true≢false s)

entry_ranged : (x : Mark) (v : Entry) → ranged x ≡ true → entry_of x ≡ Some v → in_range v ≡ true
entry_ranged Whiteout v r e = absurd (true≢false (sym (ap is_some e)))
entry_ranged (File f) v r e = let s : entry.File f ≡ v = cc in subst (λ z. in_range z ≡ true) s r
entry_ranged (Dir d) v r e = let s : entry.Dir d ≡ v = cc in subst (λ z. in_range z ≡ true) s r
entry_ranged (Opaque d) v r e = let s : entry.Dir d ≡ v = cc in subst (λ z. in_range z ≡ true) s r

pub see-joins : Joins see in_range is_dir
see-joins = record { none = λ y. refl; sets = λ x y v r e. entry_ranged x v r e; upper = marks_dir-seen; lower = lower-seen }

pub at-merged : (m : List MarkRow) (e : List Row) (q : Names) → at (merged m e) q ≡ laid see (at m) (at e) q
unfolding merged
at-merged = at-lay see in_range is_dir see-joins

pub ascending-merged : (m : List MarkRow) (e : List Row) → ascending e ≡ true → ascending (merged m e) ≡ true
unfolding merged
ascending-merged = ascending-lay see

pub layer_parts : (m : List MarkRow) → layered m ≡ true → (ascending m ≡ true) × (sound m m ≡ true)
layer_parts m h = and_parts (ascending m) (sound m m) h

module _ (m : List MarkRow) (e : List Row) (lm : layered m ≡ true) (le : is_tree e ≡ true) where
  merged-sound : (p : Names) (v : Entry) → at (merged m e) p ≡ Some v → Sound in_range is_dir (merged m e) (p, v)
  unfolding merged
  merged-sound = lay-sound see in_range is_dir see-joins m e (layer_parts m lm).1 (sym (closed-grown e e) ∙ (tree_parts e le).1)

  -- a layer over a tree is a tree
  pub merged_tree : is_tree (merged m e) ≡ true
  merged_tree =
      let up = ascending-merged m e (tree_parts e le).0 in
      and_from (ascending (merged m e)) (closed (merged m e) (merged m e)) up (closed_by (merged m e) up merged-sound)

  pub merged-closed : closed (merged m e) (merged m e) ≡ true
  merged-closed = (tree_parts (merged m e) merged_tree).1
