-- What a reader answers at a position, in parts. Assumes nothing.
use Rattle.std.specs.Prelude.{ℕ, ◌+◌, Bool, true, false, cond, List, Some, None, Ok, Err, Option, Result, ◌==◌}
use Rattle.paths.specs.Steps.{and_then}
use Rattle.rows.specs.Maps.{Names}
use Rattle.layer_fields.specs.declared.fault.Cause.TheVariants.{Version}
use Rattle.layer_fields.specs.declared.fault.LayerFault.{LayerFault}
use Rattle.layer_fields.specs.Faults.{fault_at}
use Rattle.layer_fields.specs.Fields.{Field, span}
use Rattle.layer_fields.specs.Said.{version_of}
use Rattle.layer_files.specs.Reads.{taken, marker_at, whiteout_span}

-- the version has to be 1
abbrev pub version_at : List ℕ → ℕ → Result (Unit {0}) LayerFault
version_at bs at = and_then (taken version_of bs at) (λ v. cond (v == 1) (Ok tt) (Err (fault_at at Version)))

-- whether a marker stands at a position, and the position behind it and its whiteout
abbrev pub past_marker : List ℕ → ℕ → Option Field → Result (Bool × ℕ) LayerFault
past_marker bs at None = Ok (false, at)
past_marker bs at (Some f) = and_then (taken whiteout_span bs (at + span f)) (λ n. Ok (true, at + span f + n))

-- the same of the marker of a directory
abbrev pub opaque_at : Names → List ℕ → ℕ → Result (Bool × ℕ) LayerFault
opaque_at p bs at = past_marker bs at (marker_at p bs at)
