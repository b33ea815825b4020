-- What a manifest tree means. Assumes nothing.
use Rattle.rows.specs.Sorts.{kept}
use Rattle.trees.specs.Entries.{Entries}
use Rattle.base.specs.declared.Manifest.{Manifest}

abbrev pub entries_of : Manifest → Entries
entries_of m = record { rows = kept m.rows; ok = m.built }
