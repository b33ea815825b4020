-- Edits: what refuses one, and what it changes. Assumes nothing.
use Rattle.std.specs.Prelude.{◌≡◌, ℕ, ◌+◌, ◌≤◌, Bool, true, false, not, List, [], ◌∷◌, is_some, Some, None, Ok, Err, Option, Result, nat_le, nat_lt}
use Rattle.std.specs.Option.{option_map, option_or}
use Rattle.paths.specs.declared.PathFault.{PathFault}
use Rattle.paths.specs.Names.{judge, parent}
use Rattle.rows.specs.Maps.{Names, at, has, child_path}
use Rattle.rows.specs.Builds.{set_at}
use Rattle.edits.specs.declared.action.Action.{Action}
use Rattle.edits.specs.declared.action.Action.TheVariants.{Put, Mkdir, Chmod, Remove}
use Rattle.trees.specs.declared.entry.Entry.{Entry}
use Rattle.trees.specs.declared.entry.Entry.TheVariants.{File, Dir}
use Rattle.trees.specs.declared.fault.Fault.{Fault}
use Rattle.trees.specs.declared.fault.Fault.TheVariants.{Path, IsDirectory, Exists, NotEmpty, Root, OutOfRange, NoRoom}
use Rattle.trees.specs.Entries.{Entries, Row, is_dir, in_range}
pub use Rattle.trees.specs.Entries.{with_mode}
use Rattle.trees.specs.Answers.{present, lost}

abbrev pub refuse_if : Bool → Fault → Option Fault
refuse_if true f = Some f
refuse_if false f = None

-- ---- the checks

-- a file in range; a directory is not put
abbrev pub putable : Entry → Bool
putable (File f) = in_range (File f)
putable (Dir d) = false

abbrev pub value_fault : Action → Option Fault
value_fault (Put e) = refuse_if (not (putable e)) OutOfRange
value_fault (Mkdir m) = refuse_if (not (nat_le m 4095)) OutOfRange
value_fault (Chmod m) = refuse_if (not (nat_le m 4095)) OutOfRange
value_fault Remove = None

abbrev pub is_root : Names → Bool
is_root [] = true
is_root (n ∷ p) = false

-- the root's mode can be changed, and nothing else of it
abbrev pub root_fault : Names → Action → Option Fault
root_fault p (Put e) = refuse_if (is_root p) Root
root_fault p (Mkdir m) = refuse_if (is_root p) Root
root_fault p (Chmod m) = None
root_fault p Remove = refuse_if (is_root p) Root

-- the parent is no directory: what `look` says of it, and the same of a file
abbrev pub parent_fault : List Row → Names → Option Fault
parent_fault rs p = refuse_if (not (is_dir (at rs (parent p)))) (lost rs (parent p))

abbrev pub absent_fault : List Row → Names → Option Fault
absent_fault rs p = refuse_if (not (has rs p)) (lost rs p)

abbrev pub has_child : List Row → Names → Bool
has_child rs p = is_some (child_path rs p [])

-- what stands in the way of an edit: first what is missing, then what is there
abbrev pub place_fault : List Row → Names → Action → Option Fault
place_fault rs p (Put e) = option_or (parent_fault rs p) (refuse_if (is_dir (at rs p)) (IsDirectory (present rs p)))
place_fault rs p (Mkdir m) = option_or (parent_fault rs p) (refuse_if (has rs p) (Exists (present rs p)))
place_fault rs p (Chmod m) = absent_fault rs p
place_fault rs p Remove = option_or (absent_fault rs p) (refuse_if (has_child rs p) (NotEmpty (present rs p)))

-- the checks of an edit at a good path, in their order
abbrev pub refused_at : List Row → ℕ → ℕ → Names → Action → Option Fault
refused_at rs room need p a =
    option_or (value_fault a) (option_or (root_fault p a) (option_or (place_fault rs p a) (refuse_if (nat_lt room need) (NoRoom need))))

abbrev pub refused_in : List Row → ℕ → (Names → ℕ) → Action → Result Names PathFault → Option Fault
refused_in rs room needs a (Err f) = Some (Path f)
refused_in rs room needs a (Ok p) = refused_at rs room (needs p) p a

-- why an edit at a text is refused; None, where it is granted
unfoldable pub refusal : List Row → ℕ → (Names → ℕ) → List ℕ → Action → Option Fault
refusal rs room needs s a = refused_in rs room needs a (judge s)

-- ---- the change

-- what stands at the path afterwards
abbrev pub new_entry : Action → Option Entry → Option Entry
new_entry (Put e) o = Some e
new_entry (Mkdir m) o = Some (Dir (record { mode = m }))
new_entry (Chmod m) o = option_map (with_mode m) o
new_entry Remove o = None

-- the entries with that one change
unfoldable pub edited : List Row → Names → Action → List Row
edited rs p a = set_at rs p (new_entry a (at rs p))

abbrev pub edited_in : List Row → Action → Result Names PathFault → List Row
edited_in rs a (Err f) = rs
edited_in rs a (Ok p) = edited rs p a

abbrev pub answered : Option Fault → Result (Unit {0}) Fault
answered None = Ok tt
answered (Some f) = Err f

abbrev pub unless_refused : {A : Type 0} → Option Fault → A → A → A
unless_refused None old new = new
unless_refused (Some f) old new = old

-- the entries after an edit, granted or not
abbrev pub after_edit : List Row → ℕ → (Names → ℕ) → List ℕ → Action → List Row
after_edit rs room needs s a = unless_refused (refusal rs room needs s a) rs (edited_in rs a (judge s))

-- ---- rooms and needs

abbrev pub need_in : (Names → ℕ) → Result Names PathFault → Result ℕ Fault
need_in needs (Err f) = Err (Path f)
need_in needs (Ok p) = Ok (needs p)

-- the need of a text, if it is a good path
abbrev pub need_of : (Names → ℕ) → List ℕ → Result ℕ Fault
need_of needs s = need_in needs (judge s)

abbrev pub removes : Action → Bool
removes (Put e) = false
removes (Mkdir m) = false
removes (Chmod m) = false
removes Remove = true

-- what any editable tree promises of its room and its needs
pub record Spent (room room' : ℕ) (needs needs' : Names → ℕ) (refused : Option Fault) (j : Result Names PathFault) (a : Action) : Type 0 where
  -- a refused edit leaves them alone
  pub kept : (f : Fault) → refused ≡ Some f → (room' ≡ room) × ((p : Names) → needs' p ≡ needs p)
  -- a granted one takes at most the need off the room
  pub falls : (p : Names) → j ≡ Ok p → refused ≡ None → room ≤ room' + needs p
  -- and what was written needs nothing more
  pub settled : (p : Names) → j ≡ Ok p → refused ≡ None → removes a ≡ false → needs' p ≡ 0

-- an edit at a text, from one state of a tree to the next
pub record Outcome (rs rs' : List Row) (room room' : ℕ) (needs needs' : Names → ℕ) (s : List ℕ) (a : Action) (r : Result (Unit {0}) Fault) : Type 0 where
  pub answer : r ≡ answered (refusal rs room needs s a)
  pub entries : rs' ≡ after_edit rs room needs s a
  pub spent : Spent room room' needs needs' (refusal rs room needs s a) (judge s) a

-- the same of an editable tree: of its entries, its room and its needs
abbrev pub OutcomeOf : {T : Type 0} → (T → Entries) → (T → ℕ) → (T → Names → ℕ) → T → T → List ℕ → Action → Result (Unit {0}) Fault → Type 0
OutcomeOf entries spare needs t t' s a r = Outcome (entries t).rows (entries t').rows (spare t) (spare t') (needs t) (needs t') s a r
