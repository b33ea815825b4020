-- Marks, and what a layer of them makes of the tree below. Assumes nothing.
use Rattle.std.specs.Prelude.{Bool, true, false, ◌&&◌, ◌||◌, List, [], ◌∷◌, Some, None, Option}
use Rattle.rows.specs.Maps.{Names, at, ascending}
use Rattle.rows.specs.Builds.{keys, build, union}
use Rattle.trees.specs.declared.entry.Entry.{Entry}
use Rattle.trees.specs.declared.entry.Entry.TheVariants as entry
use Rattle.trees.specs.Entries.{Row, in_range, grown}
use Rattle.marks.specs.declared.mark.Mark.{Mark}
use Rattle.marks.specs.declared.mark.Mark.TheVariants.{Whiteout, File, Dir, Opaque}

abbrev pub MarkRow : Type 0
MarkRow = Names × Mark

-- ---- one mark

-- the entry that a mark sets
abbrev pub entry_of : Mark → Option Entry
entry_of Whiteout = None
entry_of (File f) = Some (entry.File f)
entry_of (Dir d) = Some (entry.Dir d)
entry_of (Opaque d) = Some (entry.Dir d)

-- the mark that sets an entry, and hides nothing below it
abbrev pub mark_of : Entry → Mark
mark_of (entry.File f) = File f
mark_of (entry.Dir d) = Dir d

-- nothing below is seen under the path: a whiteout, a file or an opaque directory
abbrev pub stops : Option Mark → Bool
stops None = false
stops (Some Whiteout) = true
stops (Some (File f)) = true
stops (Some (Dir d)) = false
stops (Some (Opaque d)) = true

abbrev pub is_opaque : Option Mark → Bool
is_opaque None = false
is_opaque (Some Whiteout) = false
is_opaque (Some (File f)) = false
is_opaque (Some (Dir d)) = false
is_opaque (Some (Opaque d)) = true

-- the mark is of a directory
abbrev pub marks_dir : Option Mark → Bool
marks_dir None = false
marks_dir (Some Whiteout) = false
marks_dir (Some (File f)) = false
marks_dir (Some (Dir d)) = true
marks_dir (Some (Opaque d)) = true

abbrev pub ranged : Mark → Bool
ranged Whiteout = true
ranged (File f) = in_range (entry.File f)
ranged (Dir d) = in_range (entry.Dir d)
ranged (Opaque d) = in_range (entry.Dir d)

-- ---- a layer over what lies below

-- the part of f below a name
abbrev pub below : {N V : Type 0} → (List N → V) → N → List N → V
below f n q = f (n ∷ q)

-- a proper prefix of the path passes the test
abbrev pub some_proper : {N : Type 0} → (List N → Bool) → List N → Bool
some_proper t [] = false
some_proper t (n ∷ p) = t [] || some_proper (below t n) p

-- the layer cuts the path off: a proper prefix of it is a whiteout, a file or opaque
abbrev pub cut : {N : Type 0} → (List N → Option Mark) → List N → Bool
cut m p = some_proper (λ q. stops (m q)) p

abbrev pub unless : {V : Type 0} → Bool → Option V → Option V
unless true y = None
unless false y = y

-- a mark over what is seen below it
abbrev pub see : Option Mark → Option Entry → Option Entry
see None y = y
see (Some x) y = entry_of x

-- marks laid over what lies below: at each path the mark's, and without a mark what is not cut off
abbrev pub laid : {N V : Type 0} → (Option Mark → Option V → Option V) → (List N → Option Mark) → (List N → Option V) → List N → Option V
laid join m f p = join (m p) (unless (cut m p) (f p))

-- the entries of a layer over a tree
unfoldable pub merged : List MarkRow → List Row → List Row
merged m e = build (laid see (at m) (at e)) (union (keys m) (keys e))

-- ---- what rows make a layer

-- each path is good, its entry is in range, and its parent is marked as a directory; the root is its own parent
abbrev pub sound : List MarkRow → List MarkRow → Bool
sound all rs = grown ranged marks_dir all rs

abbrev pub layered : List MarkRow → Bool
layered m = ascending m && sound m m
