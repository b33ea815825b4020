-- What the changes of a flat tree do to its rows. Assumes nothing.
use Rattle.std.proofs.Common.{◌≡◌, ◌≤◌, Bool, true, false, cond, ◌||◌, ltb, List, length, None, refl, sym, subst, arith}
use Rattle.rows.specs.Maps.{Names, at, ascending, has, without, rooted}
use Rattle.rows.specs.Builds.{set_at}
use Rattle.trees.specs.Entries.{Row, closed, is_tree}
use Rattle.trees.proofs.Closed.{tree_parts, closed-rooted}
use Rattle.edits.specs.declared.action.Action.{Action}
use Rattle.edits.specs.Edits.{has_child, refused_at, new_entry}
use Rattle.paths.specs.declared.Path.{Path}
use Rattle.paths.specs.Paths.{names}
use Rattle.edits.proofs.Granted.{granted-room}
use Rattle.trees.proofs.Fine.{path_fine}
use Rattle.edits.proofs.Belows.{set_none}
use Rattle.edits.proofs.Edited.{edited_tree, edited-is, emptied}
use Rattle.flat.specs.Rooms.{room_of, need_at}

module _ (rs : List Row) (t : is_tree rs ≡ true) where
  parts : (ascending rs ≡ true) × (closed rs rs ≡ true)
  parts = tree_parts rs t

  -- every row's parent has a row
  pub parents : rooted rs rs ≡ true
  parents = closed-rooted rs rs parts.1

  module _ (p : Names) where
    pub taken : has_child rs p ≡ false → without p rs ≡ set_at rs p None
    taken none = sym (set_none rs parts.1 p none parts.0)

-- what is needed is there: a row at the path, or room for one
pub finds_room : (rs : List Row) (p : Names) → need_at rs p ≤ room_of rs → (has rs p || ltb (length rs) 256) ≡ true
finds_room rs p l = go (has rs p) l where
  go : (t : Bool) → cond t 0 1 ≤ room_of rs → (t || ltb (length rs) 256) ≡ true
  go true l = refl
  go false l = grind arith

module _ (rs : List Row) (x : Path) (a : Action) (t : is_tree rs ≡ true) (h : refused_at rs (room_of rs) (need_at rs (names x)) (names x) a ≡ None) where
  pub whole : is_tree (set_at rs (names x) (new_entry a (at rs (names x)))) ≡ true
  whole =
      let b = tree_parts rs t in
      subst (λ rs. is_tree rs ≡ true) (edited-is rs (names x) a) (edited_tree rs (room_of rs) (need_at rs (names x)) (names x) b.0 b.1 (path_fine x) a h)

  pub enough : need_at rs (names x) ≤ room_of rs
  enough = granted-room rs (room_of rs) (need_at rs (names x)) (names x) a h

  pub bare : new_entry a (at rs (names x)) ≡ None → has_child rs (names x) ≡ false
  bare e =
      let b = tree_parts rs t in
      emptied rs (room_of rs) (need_at rs (names x)) (names x) b.0 b.1 (path_fine x) a h e

-- what `apply` needs
pub ruleset applying = (whole, enough, bare, edited-is)
