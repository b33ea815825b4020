-- What a session means, over what its lower tree means. Assumes nothing.
use Rattle.std.specs.Prelude.{ℕ, ◌-◌, List, length, Ok, Err, Option, Result}
use Rattle.trees.specs.declared.fault.Fault.{Fault}
use Rattle.paths.specs.declared.PathFault.{PathFault}
use Rattle.paths.specs.Names.{judge}
use Rattle.rows.specs.Maps.{Names}
use Rattle.trees.specs.Entries.{Entries, Row}
use Rattle.edits.specs.declared.action.Action.{Action}
use Rattle.edits.specs.Edits.{refusal, unless_refused}
use Rattle.marks.specs.Marks.{MarkRow, merged}
use Rattle.marks.specs.Edits.{marked, lacks}
use Rattle.marks.proofs.Merges.{merged_tree}
use Rattle.layers.specs.Layers.{marks_of}
use Rattle.sessions.specs.declared.session.Session.{Session}

-- the rows that are left of 192
abbrev pub room_of : List MarkRow → ℕ
room_of m = 192 - length m

abbrev pub marked_in : List MarkRow → List Row → Action → Result Names PathFault → List MarkRow
marked_in m e a (Err f) = m
marked_in m e a (Ok p) = marked m e p a

-- why an edit of a layer over a tree is refused
abbrev pub refusal_over : List MarkRow → List Row → List ℕ → Action → Option Fault
refusal_over m e s a = refusal (merged m e) (room_of m) (lacks m) s a

-- the marks after an edit, granted or not
abbrev pub marks_after : List MarkRow → List Row → List ℕ → Action → List MarkRow
marks_after m e s a = unless_refused (refusal_over m e s a) m (marked_in m e a (judge s))

module _ {T : Type 0} where
  abbrev pub marks_in : Session T → List MarkRow
  marks_in s = marks_of s.layer

  abbrev pub rows_below : (T → Entries) → Session T → List Row
  rows_below e s = (e s.lower).rows

  -- the marks over the entries below
  abbrev pub seen_rows : (T → Entries) → Session T → List Row
  seen_rows e s = merged (marks_of s.layer) (e s.lower).rows

  abbrev pub seen_of : (T → Entries) → Session T → Entries
  seen_of e s = record { rows = seen_rows e s; ok = merged_tree (marks_of s.layer) (e s.lower).rows s.layer.grown (e s.lower).ok }
