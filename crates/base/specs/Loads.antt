-- What loading leaves. Assumes nothing.
use Rattle.std.specs.Prelude.{◌≡◌, List, Ok, Err, Result, ◌≢◌}
use Rattle.trees.specs.Entries.{Row}
use Rattle.words.specs.declared.fault.Cause.TheVariants.{OtherRows}
use Rattle.manifests.specs.declared.fault.ManifestFault.{ManifestFault}
use Rattle.manifests.specs.Manifests.{fault_at}

-- why rows are not taken: the text is refused, or they are not those of the text
abbrev pub Refused : List Row → Result (List Row) ManifestFault → ManifestFault → Type 0
Refused given (Err g) f = f ≡ g
Refused given (Ok rows) f = (f ≡ fault_at 0 OtherRows) × (rows ≢ given)
