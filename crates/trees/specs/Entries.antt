-- What a tree means: a finite map from good paths to entries. Assumes nothing.
use Rattle.std.specs.Prelude.{◌≡◌, ℕ, Bool, true, false, not, ◌&&◌, List, [], ◌∷◌, length, is_some, Some, None, Option, nat_le, nat_lt}
use Rattle.paths.specs.Names.{join, fault_in, parent}
use Rattle.rows.specs.Maps.{Names, at, ascending}
use Rattle.trees.specs.declared.entry.Entry.{Entry}
use Rattle.trees.specs.declared.entry.Entry.TheVariants.{File, Dir}

abbrev pub Row : Type 0
Row = Names × Entry

abbrev pub is_dir : Option Entry → Bool
is_dir None = false
is_dir (Some (File f)) = false
is_dir (Some (Dir d)) = true

abbrev pub is_file : Option Entry → Bool
is_file None = false
is_file (Some (File f)) = true
is_file (Some (Dir d)) = false

-- modes to 7777 in octal, sizes to 2^40, content numbers of 64 bits
abbrev pub in_range : Entry → Bool
in_range (File f) = nat_le f.mode 4095 && (nat_le f.size 1099511627776 && nat_lt f.content 18446744073709551616)
in_range (Dir d) = nat_le d.mode 4095

-- an entry with another mode, and all else as it is
abbrev pub with_mode : ℕ → Entry → Entry
with_mode m (File f) = File (record { mode = m; size = f.size; content = f.content })
with_mode m (Dir d) = Dir (record { mode = m })

-- names without a fault, and at most 120 bytes
abbrev pub fine : Names → Bool
fine p = not (is_some (fault_in 0 p)) && nat_le (length (join p)) 120

-- each path is good, its value passes, and its parent is a directory; the root is its own parent
abbrev pub grown : {V : Type 0} → (V → Bool) → (Option V → Bool) → List (Names × V) → List (Names × V) → Bool
grown passes dir all [] = true
grown passes dir all (r ∷ rs) = ((fine r.0 && passes r.1) && dir (at all (parent r.0))) && grown passes dir all rs

-- each path is good, each entry in range, and each parent a directory; the root is its own parent
abbrev pub closed : List Row → List Row → Bool
closed all [] = true
closed all (r ∷ rs) = ((fine r.0 && in_range r.1) && is_dir (at all (parent r.0))) && closed all rs

-- rows that rise, in which each path is good, each entry in range and each parent a directory
abbrev pub is_tree : List Row → Bool
is_tree rows = ascending rows && closed rows rows

pub record Entries : Type 0 where
  pub rows : List Row
  pub ok : is_tree rows ≡ true
