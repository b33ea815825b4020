-- What a tree answers, by its entries. Assumes nothing.
use Rattle.std.specs.Prelude.{ℕ, suc, Bool, false, cond, ◌||◌, List, [], ◌∷◌, ◌++◌, length, drop, Some, None, Ok, Err, Option, Result, nat_lt}
use Rattle.std.specs.Option.{option_map, ok_or}
use Rattle.paths.specs.declared.PathFault.{PathFault}
use Rattle.paths.specs.Names.{judge, prefixes, last_name}
use Rattle.rows.specs.Maps.{Names, at, has, child_path}
use Rattle.trees.specs.declared.entry.Entry.{Entry}
use Rattle.trees.specs.declared.entry.Entry.TheVariants.{File, Dir}
use Rattle.trees.specs.declared.fault.Fault.{Fault}
use Rattle.trees.specs.declared.fault.Fault.TheVariants.{Path, Missing, NotDirectory, ShortBuffer}
use Rattle.trees.specs.Entries.{Row, is_file}

-- how many of the paths are present
abbrev pub held : List Row → List Names → ℕ
held rs [] = 0
held rs (p ∷ ps) = cond (has rs p) (suc (held rs ps)) (held rs ps)

-- how many prefixes of p are present: the place of a fault
abbrev pub present : List Row → Names → ℕ
present rs p = held rs (prefixes p)

-- one of the paths is a file
abbrev pub barred : List Row → List Names → Bool
barred rs [] = false
barred rs (p ∷ ps) = is_file (at rs p) || barred rs ps

-- why nothing stands at p: a prefix is a file, or not
abbrev pub lost : List Row → Names → Fault
lost rs p = cond (barred rs (prefixes p)) (NotDirectory (present rs p)) (Missing (present rs p))

abbrev pub look_in : List Row → Result Names PathFault → Result Entry Fault
look_in rs (Err f) = Err (Path f)
look_in rs (Ok p) = ok_or (at rs p) (lost rs p)

-- the entry at a path
abbrev pub look_of : List Row → List ℕ → Result Entry Fault
look_of rs s = look_in rs (judge s)

-- the smallest child name of p greater than a
abbrev pub name_after : List Row → Names → List ℕ → Option (List ℕ)
name_after rs p a = option_map last_name (child_path rs p a)

abbrev pub next_at : List Row → Names → List ℕ → ℕ → Option Entry → Result (Option (List ℕ)) Fault
next_at rs p a n None = Err (lost rs p)
next_at rs p a n (Some (File f)) = Err (NotDirectory (present rs p))
next_at rs p a n (Some (Dir d)) = cond (nat_lt n 40) (Err ShortBuffer) (Ok (name_after rs p a))

abbrev pub next_in : List Row → List ℕ → ℕ → Result Names PathFault → Result (Option (List ℕ)) Fault
next_in rs a n (Err f) = Err (Path f)
next_in rs a n (Ok p) = next_at rs p a n (at rs p)

-- the next name, or why there is no answer; n is the length of the buffer
abbrev pub next_of : List Row → List ℕ → List ℕ → ℕ → Result (Option (List ℕ)) Fault
next_of rs s a n = next_in rs a n (judge s)

-- the length of the name that is told
abbrev pub counted : Result (Option (List ℕ)) Fault → Result (Option ℕ) Fault
counted (Err f) = Err f
counted (Ok o) = Ok (option_map length o)

-- the buffer afterwards: the name, then what was there
abbrev pub put_name : Result (Option (List ℕ)) Fault → List ℕ → List ℕ
put_name (Err f) b = b
put_name (Ok None) b = b
put_name (Ok (Some n)) b = n ++ drop (length n) b
