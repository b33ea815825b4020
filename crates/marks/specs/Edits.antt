-- What edits do to the marks of a layer over a tree. Assumes nothing.
use Rattle.std.specs.Prelude.{◌≡◌, ℕ, suc, Bool, true, false, cond, not, ◌&&◌, List, [], ◌∷◌, Some, None, Option}
use Rattle.paths.specs.Names.{prefixes}
use Rattle.rows.specs.Maps.{Names, at, has, under, without}
use Rattle.rows.specs.Builds.{same, keys, build, union}
use Rattle.trees.specs.declared.entry.Entry.{Entry}
use Rattle.trees.specs.declared.entry.Entry.TheVariants as entry
use Rattle.trees.specs.Entries.{Row, is_dir}
use Rattle.edits.specs.declared.action.Action.{Action}
use Rattle.edits.specs.declared.action.Action.TheVariants.{Put, Mkdir, Chmod, Remove}
use Rattle.marks.specs.declared.mark.Mark.{Mark}
use Rattle.marks.specs.declared.mark.Mark.TheVariants.{Whiteout, File, Dir, Opaque}
use Rattle.marks.specs.Marks.{MarkRow, is_opaque, some_proper, merged}

-- ---- copy-up

-- each proper prefix of the path is a directory
abbrev pub ProperDirs : List Row → Names → Type 0
ProperDirs rs p = (q : Names) → under q p ≡ true → same q p ≡ false → is_dir (at rs q) ≡ true

-- a directory without a mark is copied up
abbrev pub lifted : Option Mark → Option Entry → Option Mark
lifted (Some x) o = Some x
lifted None None = None
lifted None (Some (entry.File f)) = None
lifted None (Some (entry.Dir d)) = Some (Dir d)

-- the mark x at p, and a mark at each directory above it
abbrev pub write_at : Mark → (Names → Option Mark) → (Names → Option Entry) → Names → Names → Option Mark
write_at x m seen p q = cond (same q p) (Some x) (cond (under q p) (lifted (m q) (seen q)) (m q))

unfoldable pub written : Mark → List MarkRow → List Row → Names → List MarkRow
written x m e p = build (write_at x (at m) (at (merged m e)) p) (union (prefixes p) (keys m))

-- ---- the four edits

-- over a whiteout, what lay below must stay hidden
abbrev pub made_dir : ℕ → Option Mark → Mark
made_dir m None = Dir (record { mode = m })
made_dir m (Some Whiteout) = Opaque (record { mode = m })
made_dir m (Some (File f)) = Dir (record { mode = m })
made_dir m (Some (Dir d)) = Dir (record { mode = m })
made_dir m (Some (Opaque d)) = Dir (record { mode = m })

abbrev pub file_mode : ℕ → Option Entry → Option Mark
file_mode m None = None
file_mode m (Some (entry.File f)) = Some (File (record { mode = m; size = f.size; content = f.content }))
file_mode m (Some (entry.Dir d)) = Some (Dir (record { mode = m }))

-- the mark keeps its kind; without one it is that of the entry
abbrev pub new_mode : ℕ → Option Mark → Option Entry → Option Mark
new_mode m None o = file_mode m o
new_mode m (Some Whiteout) o = None
new_mode m (Some (File f)) o = Some (File (record { mode = m; size = f.size; content = f.content }))
new_mode m (Some (Dir d)) o = Some (Dir (record { mode = m }))
new_mode m (Some (Opaque d)) o = Some (Opaque (record { mode = m }))

-- the mark that an edit writes at its path, over the mark and the entry that are there
abbrev pub new_mark : Action → Option Mark → Option Entry → Option Mark
new_mark (Put (entry.File f)) x o = Some (File f)
new_mark (Put (entry.Dir d)) x o = None
new_mark (Mkdir m) x o = Some (made_dir m x)
new_mark (Chmod m) x o = new_mode m x o
new_mark Remove x o = None

abbrev pub write_some : Option Mark → List MarkRow → List Row → Names → List MarkRow
write_some None m e p = m
write_some (Some x) m e p = written x m e p

-- the tree below has the path, and it would be seen again
abbrev pub shows_again : List MarkRow → List Row → Names → Bool
shows_again m e p = has e p && not (some_proper (λ q. is_opaque (at m q)) p)

-- the rows at the path and below it go; a whiteout hides what would be seen again
unfoldable pub removed : List MarkRow → List Row → Names → List MarkRow
removed m e p = cond (shows_again m e p) (written Whiteout (without p m) e p) (without p m)

-- the marks after an edit that is granted
abbrev pub marked : List MarkRow → List Row → Names → Action → List MarkRow
marked m e p (Put x) = write_some (new_mark (Put x) (at m p) (at (merged m e) p)) m e p
marked m e p (Mkdir k) = write_some (new_mark (Mkdir k) (at m p) (at (merged m e) p)) m e p
marked m e p (Chmod k) = write_some (new_mark (Chmod k) (at m p) (at (merged m e) p)) m e p
marked m e p Remove = removed m e p

-- ---- the need

abbrev pub lacking : List MarkRow → List Names → ℕ
lacking m [] = 0
lacking m (q ∷ qs) = cond (has m q) (lacking m qs) (suc (lacking m qs))

-- how many prefixes of the path have no row
abbrev pub lacks : List MarkRow → Names → ℕ
lacks m p = lacking m (prefixes p)
