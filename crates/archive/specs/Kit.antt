-- A small tree, and what becomes of it in one session: worked examples of the definitions. Assumes nothing.
use Rattle.std.specs.Prelude.{◌≡◌, ℕ, true, List, [], ◌∷◌, length, Some, None, Ok, Err}
use Rattle.paths.specs.Names.{join}
use Rattle.rows.specs.Maps.{Names, at}
use Rattle.trees.specs.declared.entry.Entry.{Entry}
use Rattle.trees.specs.declared.entry.Entry.TheVariants as entry
use Rattle.trees.specs.declared.fault.Fault.TheVariants.{Missing, NotDirectory, NotEmpty}
use Rattle.trees.specs.Entries.{Row, is_tree}
use Rattle.trees.specs.Answers.{look_of}
use Rattle.edits.specs.declared.action.Action.{Action}
use Rattle.edits.specs.declared.action.Action.TheVariants.{Put, Mkdir, Remove}
use Rattle.marks.specs.declared.mark.Mark.TheVariants.{Whiteout, Dir, Opaque}
use Rattle.marks.specs.Marks.{MarkRow, merged}
use Rattle.marks.specs.Squash.{squashed}
use Rattle.sessions.specs.Sessions.{room_of, refusal_over, marks_after}

-- ---- the tree

abbrev pub etc : List ℕ
etc = 101 ∷ 116 ∷ 99 ∷ []

abbrev pub coin : List ℕ
coin = 99 ∷ 111 ∷ 105 ∷ 110 ∷ []

abbrev pub trays : List ℕ
trays = 116 ∷ 114 ∷ 97 ∷ 121 ∷ 115 ∷ []

abbrev pub t1 : List ℕ
t1 = 116 ∷ 49 ∷ []

abbrev pub note : List ℕ
note = 110 ∷ 111 ∷ 116 ∷ 101 ∷ []

abbrev pub x : List ℕ
x = 120 ∷ []

abbrev pub dir : ℕ → Entry
dir m = entry.Dir (record { mode = m })

abbrev pub file : ℕ → ℕ → ℕ → Entry
file m s c = entry.File (record { mode = m; size = s; content = c })

-- directories of mode 755 in octal, which is 493, and two files of mode 644, which is 420
abbrev pub kit : List Row
kit = ([], dir 493) ∷ (etc ∷ [], dir 493) ∷ (etc ∷ coin ∷ [], file 420 12 161) ∷ (etc ∷ trays ∷ [], dir 493) ∷ (etc ∷ trays ∷ t1 ∷ [], file 420 5 178) ∷ []

-- ---- one session over it

abbrev pub Granted : List MarkRow → Names → Action → Type 0
Granted m p a = refusal_over m kit (join p) a ≡ None

abbrev pub next_marks : List MarkRow → Names → Action → List MarkRow
next_marks m p a = marks_after m kit (join p) a

abbrev pub after_put : List MarkRow
after_put = next_marks [] (etc ∷ coin ∷ []) (Put (file 420 14 162))

abbrev pub after_coin : List MarkRow
after_coin = next_marks after_put (etc ∷ coin ∷ []) Remove

abbrev pub after_t1 : List MarkRow
after_t1 = next_marks after_coin (etc ∷ trays ∷ t1 ∷ []) Remove

abbrev pub after_trays : List MarkRow
after_trays = next_marks after_t1 (etc ∷ trays ∷ []) Remove

-- mode 750 in octal
abbrev pub after_mkdir : List MarkRow
after_mkdir = next_marks after_trays (etc ∷ trays ∷ []) (Mkdir 488)

pub record Worked : Type 0 where
  -- the rows are those of a tree
  pub tree : is_tree kit ≡ true
  pub look_file : look_of kit (join (etc ∷ coin ∷ [])) ≡ Ok (file 420 12 161)
  pub look_under_file : look_of kit (join (etc ∷ coin ∷ x ∷ [])) ≡ Err (NotDirectory 3)
  pub look_missing : look_of kit (join (etc ∷ note ∷ x ∷ [])) ≡ Err (Missing 2)
  -- a file is put: it and the two directories above it have rows
  pub put : Granted [] (etc ∷ coin ∷ []) (Put (file 420 14 162))
  pub put_rows : length after_put ≡ 3
  pub put_room : room_of after_put ≡ 189
  -- it is removed: a whiteout takes its place
  pub remove : Granted after_put (etc ∷ coin ∷ []) Remove
  pub remove_mark : at after_coin (etc ∷ coin ∷ []) ≡ Some Whiteout
  pub remove_rows : length after_coin ≡ 3
  -- a directory with a child stays
  pub full : refusal_over after_coin kit (join (etc ∷ trays ∷ [])) Remove ≡ Some (NotEmpty 3)
  -- the child is removed, and then the directory
  pub child : Granted after_coin (etc ∷ trays ∷ t1 ∷ []) Remove
  pub child_rows : length after_t1 ≡ 5
  pub empty : Granted after_t1 (etc ∷ trays ∷ []) Remove
  pub empty_rows : length after_trays ≡ 4
  -- it is made again: it is opaque, and the old child stays hidden
  pub mkdir : Granted after_trays (etc ∷ trays ∷ []) (Mkdir 488)
  pub mkdir_mark : at after_mkdir (etc ∷ trays ∷ []) ≡ Some (Opaque (record { mode = 488 }))
  pub mkdir_rows : length after_mkdir ≡ 4
  pub hidden : look_of (merged after_mkdir kit) (join (etc ∷ trays ∷ t1 ∷ [])) ≡ Err (Missing 3)
  -- a directory of mode 700 in octal, squashed onto a whiteout, is opaque
  pub squash : at (squashed (([], Dir (record { mode = 493 })) ∷ (x ∷ [], Dir (record { mode = 448 })) ∷ []) (([], Dir (record { mode = 493 })) ∷ (x ∷ [], Whiteout) ∷ [])) (x ∷ []) ≡ Some (Opaque (record { mode = 448 }))
