-- The same session seen from outside: a plain map, which keeps two sets of paths beside its entries. Assumes nothing.
use Rattle.std.specs.Prelude.{ℕ, suc, Bool, cond, not, ◌&&◌, List, [], ◌∷◌, Some}
use Rattle.paths.specs.Names.{prefixes}
use Rattle.rows.specs.Maps.{Names, has, under}
use Rattle.rows.specs.Builds.{among, add, union, keys}
use Rattle.trees.specs.Entries.{Row}
use Rattle.edits.specs.declared.action.Action.{Action}
use Rattle.edits.specs.declared.action.Action.TheVariants.{Put, Mkdir, Chmod, Remove}
use Rattle.edits.specs.Edits.{edited}
use Rattle.marks.specs.Marks.{MarkRow, is_opaque, some_proper, merged}

-- the entries of the tree below, its own entries, and the paths noted and remade
pub record Plain : Type 0 where
  pub lower : List Row
  pub own : List Row
  pub noted : List Names
  pub remade : List Names

-- ---- sets of paths

-- the path and all its prefixes are noted
abbrev pub note : Names → List Names → List Names
note p ns = union (prefixes p) ns

-- the paths that are neither at a path nor below it
abbrev pub clear : Names → List Names → List Names
clear p [] = []
clear p (k ∷ ks) = cond (under p k) (clear p ks) (k ∷ clear p ks)

abbrev pub missing : List Names → List Names → ℕ
missing ns [] = 0
missing ns (q ∷ qs) = cond (among ns q) (missing ns qs) (suc (missing ns qs))

-- how many prefixes of the path are not among the noted
abbrev pub unnoted : List Names → Names → ℕ
unnoted ns p = missing ns (prefixes p)

-- ---- the edits

-- a path that is noted but absent
abbrev pub was_removed : Plain → Names → Bool
was_removed s p = among s.noted p && not (has s.own p)

-- the tree below has the path, and no proper prefix of it is remade; to clear the path leaves those alone
abbrev pub would_show : Plain → Names → Bool
would_show s p = has s.lower p && not (some_proper (among s.remade) p)

-- the plain map after an edit that is granted
abbrev pub granted_plain : Plain → Names → Action → Plain
granted_plain s p (Put x) = record {
  lower = s.lower;
  own = edited s.own p (Put x);
  noted = note p s.noted;
  remade = s.remade;
}
granted_plain s p (Mkdir k) = record {
  lower = s.lower;
  own = edited s.own p (Mkdir k);
  noted = note p s.noted;
  remade = cond (was_removed s p) (add s.remade p) s.remade;
}
granted_plain s p (Chmod k) = record {
  lower = s.lower;
  own = edited s.own p (Chmod k);
  noted = note p s.noted;
  remade = s.remade;
}
granted_plain s p Remove = record {
  lower = s.lower;
  own = edited s.own p Remove;
  noted = cond (would_show s p) (note p (clear p s.noted)) (clear p s.noted);
  remade = clear p s.remade;
}

-- ---- the plain map of a layer over a tree

-- the paths marked opaque
abbrev pub opaque_paths : List MarkRow → List Names
opaque_paths [] = []
opaque_paths (r ∷ rs) = cond (is_opaque (Some r.1)) (r.0 ∷ opaque_paths rs) (opaque_paths rs)

abbrev pub plain_of : List MarkRow → List Row → Plain
plain_of m e = record { lower = e; own = merged m e; noted = keys m; remade = opaque_paths m }
