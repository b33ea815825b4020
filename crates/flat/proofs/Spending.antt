-- What an edit takes off the room of a flat tree. Assumes nothing.
use Rattle.std.proofs.Common.{◌≡◌, ℕ, ◌+◌, ◌≤◌, true, false, not, List, length, Some, None, Option, Ok, Err, Result, sym, refl, ap, ◌∙◌, subst, arith}
use Rattle.std.proofs.lemmas.Bool.{cond-true}
use Rattle.rows.specs.Maps.{Names, under, at, has, ascending}
use Rattle.rows.specs.Builds.{set_at}
use Rattle.trees.specs.declared.entry.Entry.{Entry}
use Rattle.trees.specs.Entries.{Row, fine, closed, is_tree}
use Rattle.trees.proofs.Closed.{tree_parts}
use Rattle.edits.specs.declared.action.Action.{Action}
use Rattle.paths.specs.declared.Path.{Path}
use Rattle.paths.specs.declared.PathFault.{PathFault}
use Rattle.paths.specs.Names.{judge}
use Rattle.paths.specs.Paths.{names}
use Rattle.trees.specs.declared.fault.Fault.{Fault}
use Rattle.trees.specs.declared.fault.Fault.TheVariants.{Path as PathFaulty}
use Rattle.edits.specs.Edits.{refused_at, answered, new_entry, edited, removes, Outcome}
use Rattle.trees.proofs.Fine.{path_fine}
use Rattle.edits.proofs.Belows.{set_none}
use Rattle.edits.proofs.Outcomes.{answered-some, bad_refusal, good-refusal, refused-outcome, granted-outcome}
use Rattle.edits.proofs.Edited.{edited-is, edited-there, emptied}
use Rattle.flat.specs.Rooms.{room_of, need_at}
use Rattle.rows.proofs.Sets.{length_set, length-only}

module _ (rs : List Row) (p : Names) (t : is_tree rs ≡ true) (f : fine p ≡ true) (a : Action) (h : refused_at rs (room_of rs) (need_at rs p) p a ≡ None) where
  parts : (ascending rs ≡ true) × (closed rs rs ≡ true)
  parts = tree_parts rs t

  longer : length (edited rs p a) ≤ length rs + need_at rs p
  longer = subst (λ xs. length xs ≤ length rs + need_at rs p) (sym (edited-is rs p a)) (go (new_entry a (at rs p)) refl) where
    go : (o : Option Entry) → new_entry a (at rs p) ≡ o → length (set_at rs p o) ≤ length rs + need_at rs p
    go None e =
        let bare = emptied rs (room_of rs) (need_at rs p) p parts.0 parts.1 f a h e in
        let gone = ap length (set_none rs parts.1 p bare parts.0) in
        let fewer = length-only (λ q. not (under p q)) rs in
        omega arith
    go (Some e) k = let l = length_set rs p e parts.0 in omega arith

  spends : room_of rs ≤ room_of (edited rs p a) + need_at rs p
  spends = let l = longer in omega arith

  -- what was written needs nothing more
  settles : removes a ≡ false → need_at (edited rs p a) p ≡ 0
  settles r = cond-true (has (edited rs p a) p) 0 1 (edited-there rs (room_of rs) (need_at rs p) p parts.0 parts.1 f a h r)

-- ---- the outcomes

abbrev pub FlatOutcome : List Row → List Row → List ℕ → Action → Result (Unit {0}) Fault → Type 0
FlatOutcome old new s a r = Outcome old new (room_of old) (room_of new) (need_at old) (need_at new) s a r

module _ (rs : List Row) (s : List ℕ) (a : Action) where
  pub bad_path : (f : PathFault) → judge s ≡ Err f → FlatOutcome rs rs s a (Err (PathFaulty f))
  bad_path f j = refused-outcome rs (room_of rs) (need_at rs) s a (PathFaulty f) (bad_refusal rs (room_of rs) (need_at rs) s a f j)

  module _ (x : Path) (j : judge s ≡ Ok (names x)) where
    pub turned_down : (f : Fault) → Err f ≡ answered (refused_at rs (room_of rs) (need_at rs (names x)) (names x) a) → FlatOutcome rs rs s a (Err f)
    turned_down f h =
        refused-outcome rs (room_of rs) (need_at rs) s a f (good-refusal rs (room_of rs) (need_at rs) s a (names x) j ∙ answered-some (refused_at rs (room_of rs) (need_at rs (names x)) (names x) a) f h)

    pub made : is_tree rs ≡ true → refused_at rs (room_of rs) (need_at rs (names x)) (names x) a ≡ None → (new : List Row) → new ≡ edited rs (names x) a → FlatOutcome rs new s a (Ok tt)
    made t h new e =
        granted-outcome rs (room_of rs) (need_at rs) s a (names x) j h new (room_of new) (need_at new) e
        (subst (λ z. room_of rs ≤ room_of z + need_at rs (names x)) (sym e) (spends rs (names x) t (path_fine x) a h))
        (λ r. ap (λ z. need_at z (names x)) e ∙ settles rs (names x) t (path_fine x) a h r)
