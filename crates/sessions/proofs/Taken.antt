-- Rows taken out, and a whiteout where the tree below would be seen again. Assumes nothing.
use Rattle.std.proofs.Common.{◌≡◌, ◌+◌, ◌≤◌, true, false, List, length, None, sym, ap, ◌∙◌, subst, arith}
use Rattle.std.proofs.lemmas.Bool.{cond-true, cond-false}
use Rattle.paths.specs.declared.Path.{Path}
use Rattle.paths.specs.Paths.{names}
use Rattle.rows.specs.Maps.{Names, without}
use Rattle.trees.specs.Entries.{Entries, Row, fine, is_tree}
use Rattle.edits.specs.declared.action.Action.TheVariants.{Remove}
use Rattle.edits.specs.Edits.{refused_at}
use Rattle.edits.proofs.Granted.{granted-remove, granted-room}
use Rattle.marks.specs.declared.mark.Mark.TheVariants.{Whiteout}
use Rattle.marks.specs.Marks.{MarkRow, merged, layered}
use Rattle.marks.specs.Edits.{written, shows_again, removed, lacks, ProperDirs}
use Rattle.marks.proofs.Merges.{layer_parts, merged-closed}
use Rattle.marks.proofs.Grows.{dirs-above, dirs-without, layered-without}
use Rattle.marks.proofs.Edited.{layered-marked}
use Rattle.marks.proofs.Noted.{length_marked, length-written}
use Rattle.marks.specs.Laws.{Granted}
use Rattle.trees.proofs.Fine.{path_fine}
use Rattle.layers.proofs.Few.{few-rows}
use Rattle.sessions.specs.declared.session.Session.{Session}
use Rattle.sessions.specs.Sessions.{room_of, marks_in, rows_below}

-- what is left of a layer without the rows at and below a path
pub record Taken (m : List MarkRow) (e : List Row) (p : Names) (m' : List MarkRow) : Type 0 where
  pub layer : layered m' ≡ true
  pub dirs : ProperDirs (merged m' e) p
  pub shown : shows_again m e p ≡ true → written Whiteout m' e p ≡ removed m e p
  pub hidden : shows_again m e p ≡ false → m' ≡ removed m e p
  pub grows : shows_again m e p ≡ true → layered (written Whiteout m' e p) ≡ true
  pub room : shows_again m e p ≡ true → length m' + lacks m' p ≤ 192

module _ (m : List MarkRow) (e : List Row) (lm : layered m ≡ true) (le : is_tree e ≡ true) (p : Names) (few : length m ≤ 192) (good : fine p ≡ true) (granted : refused_at (merged m e) (room_of m) (lacks m p) p Remove ≡ None) (m' : List MarkRow) (is : m' ≡ without p m) where
  taken_layer : layered m' ≡ true
  taken_layer = ap layered is ∙ layered-without m e lm le p

  taken_dirs : ProperDirs (merged m' e) p
  taken_dirs =
      subst (λ z. ProperDirs (merged z e) p) (sym is)
      (dirs-without m e lm le p (dirs-above (merged m e) (merged-closed m e lm le) p (granted-remove (merged m e) (room_of m) (lacks m p) p granted).1))

  taken_shown : shows_again m e p ≡ true → written Whiteout m' e p ≡ removed m e p
  unfolding removed
  taken_shown h = ap (λ z. written Whiteout z e p) is ∙ sym (cond-true (shows_again m e p) (written Whiteout (without p m) e p) (without p m) h)

  taken_hidden : shows_again m e p ≡ false → m' ≡ removed m e p
  unfolding removed
  taken_hidden h = is ∙ sym (cond-false (shows_again m e p) (written Whiteout (without p m) e p) (without p m) h)

  taken_grows : shows_again m e p ≡ true → layered (written Whiteout m' e p) ≡ true
  taken_grows h = ap layered (taken_shown h) ∙ layered-marked m e lm le p good (room_of m) (lacks m p) Remove granted

  taken_room : shows_again m e p ≡ true → length m' + lacks m' p ≤ 192
  taken_room h =
      let l = length-written Whiteout m' e p (layer_parts m' taken_layer).0 taken_dirs in
      let k = length_marked m e p (layer_parts m lm).0 Remove in
      let r = granted-room (merged m e) (room_of m) (lacks m p) p Remove granted in
      omega (arith, few, l, k, r, ap length (taken_shown h))

  taken : Taken m e p m'
  taken = record { layer = taken_layer; dirs = taken_dirs; shown = taken_shown; hidden = taken_hidden; grows = taken_grows; room = taken_room }

-- the same of a session's layer
pub taken_from : {T : Type 0} (entries : T → Entries) (s : Session T) (path : Path) → Granted (marks_in s) (rows_below entries s) (room_of (marks_in s)) (names path) Remove → (m' : List MarkRow) → m' ≡ without (names path) (marks_in s) → Taken (marks_in s) (rows_below entries s) (names path) m'
taken_from entries s path granted m' is =
    taken (marks_in s) (rows_below entries s) s.layer.grown (entries s.lower).ok (names path) (few-rows s.layer) (path_fine path) granted m' is
