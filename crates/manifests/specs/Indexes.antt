-- What indexing leaves. Assumes nothing.
use Rattle.std.specs.Prelude.{◌≡◌, ℕ, ◌≤◌, List, length, take, drop, Ok, Err, Result}
use Rattle.rows.specs.declared.row.Row.{Row as Stored}
use Rattle.rows.specs.Rows.{rows_of}
use Rattle.trees.specs.declared.entry.Entry.{Entry}
use Rattle.manifests.specs.declared.fault.ManifestFault.{ManifestFault}
use Rattle.manifests.specs.Manifests.{indexed}

-- the rows of the text stand at the front, what is behind them is as it was; or, at a refusal, all is
abbrev pub Indexed : List ℕ → List (Stored Entry) → List (Stored Entry) → Result ℕ ManifestFault → Type 0
Indexed text old new (Ok n) = (n ≤ length old) × (indexed (length old) text ≡ Ok (rows_of (take n new))) × (drop n new ≡ drop n old)
Indexed text old new (Err f) = (indexed (length old) text ≡ Err f) × (new ≡ old)
