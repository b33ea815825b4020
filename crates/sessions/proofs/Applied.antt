-- An edit that is granted: what mark it writes, and that it may. Assumes nothing.
use Rattle.std.proofs.Common.{◌≡◌, ◌+◌, ◌≤◌, true, List, length, is_some, Some, None, Option, sym, refl, ap, ◌∙◌, arith}
use Rattle.std.proofs.lemmas.Bool.{true≢false}
use Rattle.paths.specs.declared.Path.{Path}
use Rattle.paths.specs.Paths.{names}
use Rattle.rows.specs.Maps.{Names, at}
use Rattle.rows.proofs.Built.{same_some}
use Rattle.trees.specs.declared.entry.Entry.{Entry}
use Rattle.trees.specs.Entries.{Entries, Row, fine, is_tree}
use Rattle.trees.proofs.Fine.{path_fine}
use Rattle.edits.specs.declared.action.Action.{Action}
use Rattle.edits.specs.declared.action.Action.TheVariants.{Put, Mkdir, Chmod, Remove}
use Rattle.edits.specs.Edits.{refused_at}
use Rattle.edits.proofs.Granted.{granted-room}
use Rattle.marks.specs.declared.mark.Mark.{Mark}
use Rattle.marks.specs.Marks.{MarkRow, merged, layered}
use Rattle.marks.specs.Edits.{written, new_mark, marked, lacks, ProperDirs}
use Rattle.marks.proofs.Edited.{layered-marked}
use Rattle.marks.proofs.Noted.{Writes, writes}
use Rattle.marks.specs.Laws.{Granted}
use Rattle.layers.proofs.Few.{few-rows}
use Rattle.sessions.specs.declared.session.Session.{Session}
use Rattle.sessions.specs.Sessions.{room_of, marks_in, rows_below}

-- the mark that was asked for, over what stands at the path
mark_is : (a : Action) (m : List MarkRow) (e : List Row) (p : Names) (r o : Option Mark) (v : Option Entry) → r ≡ new_mark a o v → o ≡ at m p → v ≡ at (merged m e) p → new_mark a (at m p) (at (merged m e) p) ≡ r
mark_is a m e p r o v h f k = sym (h ∙ ap (λ z. new_mark a z v) f ∙ ap (new_mark a (at m p)) k)

-- what `write` asks
pub record Writable (x : Mark) (m : List MarkRow) (e : List Row) (p : Names) (after : List MarkRow) : Type 0 where
  pub dirs : ProperDirs (merged m e) p
  pub room : length m + lacks m p ≤ 192
  pub grows : layered (written x m e p) ≡ true
  pub is : written x m e p ≡ after

module _ (m : List MarkRow) (e : List Row) (lm : layered m ≡ true) (le : is_tree e ≡ true) (p : Names) (few : length m ≤ 192) (good : fine p ≡ true) where
  by_writes : (a : Action) → refused_at (merged m e) (room_of m) (lacks m p) p a ≡ None → Writes m e p a → (x : Mark) → new_mark a (at m p) (at (merged m e) p) ≡ Some x → Writable x m e p (marked m e p a)
  by_writes a granted w x n =
      let s : w.mark ≡ x = same_some w.mark x (sym w.new ∙ n) in
      let i = ap (λ z. written z m e p) (sym s) ∙ sym w.after in
      record {
        dirs = w.dirs;
        room = omega (arith, few, granted-room (merged m e) (room_of m) (lacks m p) p a granted);
        grows = ap layered i ∙ layered-marked m e lm le p good (room_of m) (lacks m p) a granted;
        is = i;
      }

  applied_some : (a : Action) → refused_at (merged m e) (room_of m) (lacks m p) p a ≡ None → (x : Mark) → new_mark a (at m p) (at (merged m e) p) ≡ Some x → Writable x m e p (marked m e p a)
  applied_some (Put v) h x n = by_writes (Put v) h (writes m e lm le (room_of m) (lacks m p) p (Put v) refl h) x n
  applied_some (Mkdir k) h x n = by_writes (Mkdir k) h (writes m e lm le (room_of m) (lacks m p) p (Mkdir k) refl h) x n
  applied_some (Chmod k) h x n = by_writes (Chmod k) h (writes m e lm le (room_of m) (lacks m p) p (Chmod k) refl h) x n
  applied_some Remove h x n = absurd (true≢false (sym (ap is_some n)))

  no_mark : (a : Action) → Writes m e p a → new_mark a (at m p) (at (merged m e) p) ≡ None → a ≡ Remove
  no_mark a w n = absurd (true≢false (sym (ap is_some w.new) ∙ ap is_some n))

  applied_none : (a : Action) → refused_at (merged m e) (room_of m) (lacks m p) p a ≡ None → new_mark a (at m p) (at (merged m e) p) ≡ None → a ≡ Remove
  applied_none (Put v) h n = no_mark (Put v) (writes m e lm le (room_of m) (lacks m p) p (Put v) refl h) n
  applied_none (Mkdir k) h n = no_mark (Mkdir k) (writes m e lm le (room_of m) (lacks m p) p (Mkdir k) refl h) n
  applied_none (Chmod k) h n = no_mark (Chmod k) (writes m e lm le (room_of m) (lacks m p) p (Chmod k) refl h) n
  applied_none Remove h n = refl

-- the same of a session, by the mark and the entry that were read
module _ {T : Type 0} (entries : T → Entries) (s : Session T) (path : Path) (a : Action) where
  abbrev m : List MarkRow
  m = marks_in s

  abbrev e : List Row
  e = rows_below entries s

  abbrev p : Names
  p = names path

  module _ (granted : Granted m e (room_of m) p a) (r o : Option Mark) (v : Option Entry) (asked : r ≡ new_mark a o v) (mark : o ≡ at m p) (entry : v ≡ at (merged m e) p) where
    pub to_write : (x : Mark) → Some x ≡ r → Writable x m e p (marked m e p a)
    to_write x h =
        applied_some m e s.layer.grown (entries s.lower).ok p (few-rows s.layer) (path_fine path) a granted x (mark_is a m e p r o v asked mark entry ∙ sym h)

    pub to_remove : None ≡ r → a ≡ Remove
    to_remove h =
        applied_none m e s.layer.grown (entries s.lower).ok p (few-rows s.layer) (path_fine path) a granted (mark_is a m e p r o v asked mark entry ∙ sym h)
