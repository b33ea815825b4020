-- What the last row alone tells of the parent of the next path. Assumes nothing.
use Rattle.std.specs.Prelude.{Bool, not, ◌&&◌, ◌||◌, Some}
use Rattle.std.specs.Ordering.{is_eq}
use Rattle.paths.specs.Order.{by_names}
use Rattle.rows.specs.Maps.{Names, under}
use Rattle.trees.specs.Entries.{Row, is_dir}

-- the path d, which is the parent of a path after the row r, is a directory: it is a prefix of r's
-- path, and not that path itself where a file stands there
abbrev pub parent_dir : Row → Names → Bool
parent_dir r d = under d r.0 && (is_dir (Some r.1) || not (is_eq (by_names d r.0)))
