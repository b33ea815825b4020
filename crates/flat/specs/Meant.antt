-- What a flat tree means. Assumes nothing.
use Rattle.rows.specs.Tables.{listed}
use Rattle.trees.specs.Entries.{Entries}
use Rattle.flat.specs.declared.Flat.{Flat}

abbrev pub entries_of : Flat → Entries
entries_of t = record { rows = listed t.rows; ok = t.built }
