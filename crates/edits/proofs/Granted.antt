-- What holds where an edit is granted. Assumes nothing.
use Rattle.std.proofs.Common.{◌≡◌, ℕ, ◌≤◌, Bool, true, false, not, ltb, leb, List, Some, None, Option, sym, refl}
use Rattle.std.proofs.lemmas.Bool.{true≢false, ltb-false}
use Rattle.std.specs.Option.{option_or}
use Rattle.paths.specs.Names.{parent}
use Rattle.rows.specs.Maps.{Names, at, has}
use Rattle.trees.specs.declared.entry.Entry.{Entry}
use Rattle.trees.specs.declared.fault.Fault.{Fault}
use Rattle.trees.specs.declared.fault.Fault.TheVariants.{IsDirectory, Exists, NotEmpty, Root, OutOfRange, NoRoom}
use Rattle.trees.specs.Entries.{Row, is_dir}
use Rattle.trees.specs.Answers.{present, lost}
use Rattle.edits.specs.declared.action.Action.{Action}
use Rattle.edits.specs.declared.action.Action.TheVariants.{Put, Mkdir, Chmod, Remove}
use Rattle.edits.specs.Edits.{refuse_if, putable, value_fault, is_root, root_fault, parent_fault, absent_fault, has_child, place_fault, refused_at}

-- neither of two checks refuses
neither : (a b : Option Fault) → option_or a b ≡ None → (a ≡ None) × (b ≡ None)
neither None b h = (refl, h)
neither (Some f) b h = (h, let z : ◌≡◌ {A = Bool} true false = cc in absurd (true≢false z))

passes : (b : Bool) (f : Fault) → refuse_if b f ≡ None → b ≡ false
passes true f h = let z : ◌≡◌ {A = Bool} true false = cc in z
passes false f h = refl

holds_so : (b : Bool) (f : Fault) → refuse_if (not b) f ≡ None → b ≡ true
holds_so true f h = refl
holds_so false f h = let z : ◌≡◌ {A = Bool} true false = cc in sym z

pub record Fits (rs : List Row) (p : Names) : Type 0 where
  pub inside : is_root p ≡ false
  pub under : is_dir (at rs (parent p)) ≡ true

module _ (rs : List Row) (room need : ℕ) (p : Names) where
  four : (a : Action) → refused_at rs room need p a ≡ None → (value_fault a ≡ None) × (root_fault p a ≡ None) × (place_fault rs p a ≡ None) × (need ≤ room)
  four a h =
      let x = neither (value_fault a) _ h in
      let y = neither (root_fault p a) _ x.1 in
      let z = neither (place_fault rs p a) (refuse_if (ltb room need) (NoRoom need)) y.1 in
      (x.0, y.0, z.0, ltb-false room need (passes (ltb room need) (NoRoom need) z.1))

  pub granted-room : (a : Action) → refused_at rs room need p a ≡ None → need ≤ room
  granted-room a h = (four a h).3

  pub granted-put : (e : Entry) → refused_at rs room need p (Put e) ≡ None → (putable e ≡ true) × Fits rs p × (is_dir (at rs p) ≡ false)
  granted-put e h =
      let x = four (Put e) h in
      let y = neither (parent_fault rs p) (refuse_if (is_dir (at rs p)) (IsDirectory (present rs p))) x.2 in
      (holds_so (putable e) OutOfRange x.0, record { inside = passes (is_root p) Root x.1; under = holds_so (is_dir (at rs (parent p))) (lost rs (parent p)) y.0 }, passes (is_dir (at rs p)) (IsDirectory (present rs p)) y.1)

  pub granted-mkdir : (m : ℕ) → refused_at rs room need p (Mkdir m) ≡ None → (leb m 4095 ≡ true) × Fits rs p × (has rs p ≡ false)
  granted-mkdir m h =
      let x = four (Mkdir m) h in
      let y = neither (parent_fault rs p) (refuse_if (has rs p) (Exists (present rs p))) x.2 in
      (holds_so (leb m 4095) OutOfRange x.0, record { inside = passes (is_root p) Root x.1; under = holds_so (is_dir (at rs (parent p))) (lost rs (parent p)) y.0 }, passes (has rs p) (Exists (present rs p)) y.1)

  pub granted-chmod : (m : ℕ) → refused_at rs room need p (Chmod m) ≡ None → (leb m 4095 ≡ true) × (has rs p ≡ true)
  granted-chmod m h =
      let x = four (Chmod m) h in
      (holds_so (leb m 4095) OutOfRange x.0, holds_so (has rs p) (lost rs p) x.2)

  pub granted-remove : refused_at rs room need p Remove ≡ None → (is_root p ≡ false) × (has rs p ≡ true) × (has_child rs p ≡ false)
  granted-remove h =
      let x = four Remove h in
      let y = neither (absent_fault rs p) (refuse_if (has_child rs p) (NotEmpty (present rs p))) x.2 in
      (passes (is_root p) Root x.1, holds_so (has rs p) (lost rs p) y.0, passes (has_child rs p) (NotEmpty (present rs p)) y.1)
