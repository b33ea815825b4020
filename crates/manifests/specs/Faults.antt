-- How a manifest's fault is printed. Assumes nothing.
use Rattle.std.specs.Prelude.{ℕ, List, ◌∷◌, ◌++◌, decimal}
use Rattle.words.specs.Faults.{cause_fields}
use Rattle.manifests.specs.declared.fault.ManifestFault.{ManifestFault}

-- `m`, the position of the line's first byte, and the cause
abbrev pub fields : ManifestFault → List ℕ
fields f = 109 ∷ 32 ∷ (decimal f.at ++ 32 ∷ cause_fields f.cause)
